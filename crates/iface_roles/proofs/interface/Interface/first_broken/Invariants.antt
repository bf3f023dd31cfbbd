use Rattle.std.proofs.Common.{◌≡◌, ℕ, ◌<◌, false}
use Rattle.iface_roles.specs.Rules.{breaks}
use Rattle.iface_roles.proofs.interface.Interface.first_broken.Given as goal

abbrev pub invariant-loop-rule : goal.invariant-loop-rule
invariant-loop-rule l = (k : ℕ) → k < l.rule → breaks l.self k ≡ false
