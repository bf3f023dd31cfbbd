-- Whole runs: what is asked of the components, and what the module promises.
use Rattle.std.specs.Prelude.{ℕ, ◌<◌}
use Rattle.memory_runs.specs.Views.{Run, System, Responses}
use Rattle.memory_runs.specs.Legal.{IsLegalAgent, IsLegalHost, IsProperAtAgent, IsProperAtHost}
use Rattle.memory_runs.specs.Order.{KeepsReadOrder, RespondsBy, LagsWithin, command_lag, ServesInGrantedOrder, ReturnsInCommandOrder}

-- every host and every agent is legal in the cycles before `end`
pub record IsLegalRun (system : System) (run : Run) (end : ℕ) : Type 0 where
  pub hosts : (h : ℕ) → h < system.hosts → IsLegalHost (system.host h) (run.at_host h) end
  pub agents : (a : ℕ) → a < system.agents → IsLegalAgent (system.agent a) (run.at_agent a) end

-- the module keeps its own side of the rules, the order and the answers
pub record IsSafe (responses : Responses) (system : System) (run : Run) (end : ℕ) : Type 0 where
  pub at_hosts : (h : ℕ) → h < system.hosts → IsProperAtHost (system.host h) (run.at_host h) end
  pub at_agents : (a : ℕ) → a < system.agents → IsProperAtAgent (system.agent a) (run.at_agent a) end
  pub ordered : (a : ℕ) → a < system.agents → ServesInGrantedOrder system run a end
  pub returned : (h : ℕ) → h < system.hosts → ReturnsInCommandOrder system run h end
  pub responds : (h : ℕ) → h < system.hosts → RespondsBy responses system run h end
  pub limited : (h a : ℕ) → h < system.hosts → a < system.agents → KeepsReadOrder system run h a end
  pub lags : (h a : ℕ) → h < system.hosts → a < system.agents → LagsWithin (command_lag system) system run h a end
