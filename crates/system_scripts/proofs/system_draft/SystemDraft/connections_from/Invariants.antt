use Rattle.std.proofs.Common.{◌≡◌, map, take}
use Rattle.system_scripts.specs.Clocks.{connection_of, logic_joints}
use Rattle.system_scripts.proofs.system_draft.SystemDraft.connections_from.Given as goal

abbrev pub invariant-loop-joint : goal.invariant-loop-joint
invariant-loop-joint l = l.connections ≡ map (connection_of l.library l.self l.clock) (logic_joints (take l.joint-index l.joint-items))
