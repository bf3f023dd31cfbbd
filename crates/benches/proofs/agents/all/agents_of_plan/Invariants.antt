use Rattle.std.proofs.Common.{◌≡◌, length}
use Rattle.benches.proofs.agents.Many.{AreFirst}
use Rattle.benches.proofs.agents.all.agents_of_plan.Given as goal

abbrev pub invariant-agents : goal.invariant-agents
invariant-agents l = record {
  count : length l.agents.items ≡ l.number;
  first : AreFirst l.plan.system l.scripts l.cycles l.agents.items;
}
