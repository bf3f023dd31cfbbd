use Rattle.std.proofs.Common.{arith}
use Rattle.memory_waits.proofs.straight.AgentBeats.{shows_asked}
use Rattle.memory_waits.proofs.straight.agents.agent_shows_what_it_is_asked.Goals as goal

pub returns : goal.returns
returns c = λ responses system run agent up state end plan fit legal machine.
    shows_asked system run agent up state end machine.commands plan fit.legal fit.kinds fit.lanes (record { owed = λ has k low. legal.owed has k (omega (arith, low)) })
