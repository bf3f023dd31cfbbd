use Rattle.std.proofs.Common.{◌≡◌, drop}
use Rattle.system_scripts.specs.Clocks.{system_clock}
use Rattle.system_scripts.proofs.ClockLemmas.{first_root}
use Rattle.system_scripts.proofs.system_draft.SystemDraft.clock.Given as goal

abbrev pub invariant-loop-joint : goal.invariant-loop-joint
invariant-loop-joint l = system_clock l.library l.self ≡ first_root l.library l.self (drop l.joint-index l.joint-items)
