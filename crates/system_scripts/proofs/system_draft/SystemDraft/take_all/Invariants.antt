use Rattle.std.proofs.Common.{◌≡◌, drop}
use Rattle.system_scripts.specs.System.{first_system_refusal, system_after_all}
use Rattle.system_scripts.proofs.system_draft.SystemDraft.take_all.Given as goal

abbrev pub invariant-loop-k : goal.invariant-loop-k
invariant-loop-k l = record {
  refusal : first_system_refusal l.library l.fn.self l.commands.commands ≡ first_system_refusal l.library l.self (drop l.k l.commands.commands);
  stated : system_after_all l.library l.fn.self l.commands.commands ≡ system_after_all l.library l.self (drop l.k l.commands.commands);
}
