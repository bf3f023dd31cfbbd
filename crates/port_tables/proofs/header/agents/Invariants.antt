use Rattle.std.proofs.Common.{◌≡◌, take}
use Rattle.address_map.specs.Maps.{agents_of}
use Rattle.port_tables.proofs.header.agents.Given as goal

abbrev pub invariant-loop-agent : goal.invariant-loop-agent
invariant-loop-agent l = l.agents ≡ take l.agent-index (agents_of l.plan.system)
