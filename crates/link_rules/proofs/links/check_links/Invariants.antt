use Rattle.std.proofs.Common.{ℕ, ◌<◌}
use Rattle.link_rules.specs.Links.{KeepsLinkRules}
use Rattle.link_rules.proofs.links.check_links.Given as goal

abbrev pub invariant-loop-k : goal.invariant-loop-k
invariant-loop-k l = (j : ℕ) → j < l.k → KeepsLinkRules l.system j
