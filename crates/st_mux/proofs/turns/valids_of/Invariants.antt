use Rattle.std.proofs.Common.{◌≡◌, map, take}
use Rattle.st_mux.specs.declared.packet.PacketNets.{PacketNets}
use Rattle.st_mux.proofs.turns.valids_of.Given as goal

abbrev pub invariant-loop-input : goal.invariant-loop-input
invariant-loop-input l = l.nets.items ≡ map (λ (input : PacketNets). input.valid) (take l.input-index l.inputs)
