use Rattle.std.proofs.Common.{arith}
use Rattle.memory_parts.proofs.AgentRank.{agent_part}
use Rattle.memory_parts.proofs.AgentLine.{taken_is}
use Rattle.memory_parts.proofs.AgentTimes.{tags_in_order}
use Rattle.memory_parts.proofs.steps.agent_machine_is_a_part.Goals as goal

pub returns-clause-part : goal.returns-clause-part
returns-clause-part c = λ responses system run agent up state end plan fit legal machine.
    agent_part responses system run agent up state end machine plan fit legal
    ((c.agent_machine_keeps_its_line.ensures responses system run agent up state end plan machine).commands end (omega arith) fit (record { owed = λ has k low. legal.owed has k (omega (arith, low)) })).proper

pub returns-clause-tags : goal.returns-clause-tags
returns-clause-tags c = λ responses system run agent up state end plan fit legal machine. tags_in_order responses system run agent up state end machine plan fit legal

pub returns-clause-operations : goal.returns-clause-operations
returns-clause-operations c = λ responses system run agent up state end plan fit legal machine k low.
    taken_is system run agent up state end machine.commands plan fit (record { owed = λ has k low. legal.owed has k (omega (arith, low)) }) k low
