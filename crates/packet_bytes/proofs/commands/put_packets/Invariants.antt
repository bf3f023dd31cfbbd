use Rattle.std.proofs.Common.{◌≡◌, ◌++◌, drop}
use Rattle.std.specs.Prelude.{string_bytes, flat_map}
use Rattle.packet_bytes.specs.Commands.{packet_text}
use Rattle.packet_bytes.proofs.commands.put_packets.Given as goal

abbrev pub invariant-packets : goal.invariant-packets
invariant-packets l =
    string_bytes l.text ++ flat_map (packet_text l.host l.word_bytes) (drop l.packet-index l.packets) ≡ string_bytes l.fn.text ++ flat_map (packet_text l.host l.word_bytes) l.packets
