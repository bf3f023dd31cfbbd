-- A whole system whose parts are their machines, with rows of links and pipes between them. Where to start reading.
use Rattle.std.specs.Prelude.{ℕ, ◌+◌, ◌*◌, ◌<◌, ◌≤◌}
use Rattle.memory_runs.specs.Views.{Responses, System, Run}
use Rattle.memory_runs.specs.Operations.{pieces}
use Rattle.memory_runs.specs.Commands.{longest_burst}
use Rattle.memory_runs.specs.Plan.{IsMemoryPlan, AreViews}
use Rattle.memory_machines.specs.Lines.{Inside, KeepsRow, BringsLanes, IsPipeLine, target_of}
use Rattle.memory_machines.specs.Turns.{Grant, seats_of}
use Rattle.memory_parts.specs.Host.{HostState, IsHostMachine}
use Rattle.memory_parts.specs.Route.{RouteState, IsRouteMachine}
use Rattle.memory_parts.specs.Arbiter.{IsArbiterMachine}
use Rattle.memory_parts.specs.Agent.{AgentState, IsAgentMachine}

-- the registers of the parts
pub record States : Type 0 where
  pub host : ℕ → HostState
  pub route : ℕ → RouteState
  pub arbiter : ℕ → ℕ → Grant  -- of an agent and a cycle
  pub agent : ℕ → AgentState

-- how many transfers a row of links and a pipe hold; the other parts hold none
pub record Held : Type 0 where
  pub links : ℕ
  pub pipe : ℕ

-- every part is its machine, on boundaries that it shares with its neighbours
pub record RunsAsMachines (responses : Responses) (system : System) (run : Run) (inside : Inside) (states : States) (held : Held)
    (end : ℕ) : Type 0 where
  pub plan : IsMemoryPlan system
  pub views : AreViews system run end
  pub host : (h : ℕ) → h < system.hosts
      → IsHostMachine responses (system.host h) (run.at_host h) (inside.after_host h) (states.host h) end
  -- a route counts the words of 16 longest bursts
  pub room : ℕ → ℕ
  pub large : (h : ℕ) → h < system.hosts → 16 * longest_burst (system.host h).burst_bits < room h
  pub route : (h : ℕ) → h < system.hosts
      → IsRouteMachine responses system h (room h) (inside.after_host h) (inside.after_route h) (states.route h) end
  pub links : (h a : ℕ) → h < system.hosts → a < system.agents
      → KeepsRow (target_of system a) held.links (inside.after_route h a) (inside.before_arbiter h a) end
  pub lanes : (h a : ℕ) → h < system.hosts → a < system.agents
      → BringsLanes system run h a (inside.after_route h a) (inside.before_arbiter h a) end
  pub words : (h a : ℕ) → h < system.hosts → a < system.agents
      → pieces (inside.after_route h a).shape (inside.before_arbiter h a).shape
      ≤ pieces (system.host h).shape (system.agent a).shape
  pub arbiter : (a : ℕ) → a < system.agents
      → IsArbiterMachine (seats_of system a) system.hosts (λ h. inside.before_arbiter h a) (inside.after_arbiter a)
      (states.arbiter a) end
  pub pipe : (a : ℕ) → a < system.agents
      → IsPipeLine system a held.pipe system.stages (inside.after_arbiter a) (inside.before_agent a) end
  pub agent : (a : ℕ) → a < system.agents
      → IsAgentMachine responses (system.agent a) (run.at_agent a) (inside.before_agent a) (states.agent a) end
  pub few : held.links + held.pipe ≤ 5 + 2 * system.stages
