use Rattle.interconnect.specs.Agents.{AreAgentsIn}
use Rattle.interconnect.proofs.agents.agent_ends.Given as goal

abbrev pub invariant-loop-number : goal.invariant-loop-number
invariant-loop-number l = AreAgentsIn l.plan.system l.builder l.number l.ends
