-- Systems whose links are machines, without the parts next to the agents: those need be machines only for what can be given to
-- their agents.
use Rattle.std.specs.Prelude.{ℕ, suc, ◌*◌, ◌<◌, ◌≤◌, not, ◌||◌, IsTrue, IsFalse}
use Rattle.memory_runs.specs.Views.{System, Run, Responses}
use Rattle.memory_runs.specs.Awake.{is_alike}
use Rattle.memory_runs.specs.Commands.{longest_burst}
use Rattle.memory_runs.specs.Order.{is_joined}
use Rattle.memory_machines.specs.Lines.{TaggedPort, IsFit, target_of}
use Rattle.memory_machines.specs.Turns.{seats_of}
use Rattle.memory_parts.specs.Agent.{AgentState, IsAgentMachine}
use Rattle.memory_parts.specs.Arbiter.{IsArbiterMachine}
use Rattle.memory_parts.specs.Host.{IsHostMachine}
use Rattle.memory_parts.specs.Route.{IsRouteMachine}
use Rattle.memory_parts.specs.Steps.{AreSilentPast}
use Rattle.memory_awake.specs.Rows.{CutsBursts, FitsWords, DropsBeats, GathersBelowCut, drops_some}
use Rattle.memory_awake.specs.RowSystem.{RowPorts, AreIdleWires}
use Rattle.memory_awake.specs.Theorem.{States, IsStageBetween}
use Rattle.memory_awake.specs.Wires.{IsWire}

-- every part above the agents' is its machine, and the route of a host leads by links that are machines to the arbiters
pub record IsRowFront (responses : Responses) (system : System) (run : Run) (ports : RowPorts) (states : States)
    (end : ℕ) : Type 0 where
  pub host : (h : ℕ) → h < system.hosts
      → IsHostMachine responses (system.host h) (run.at_host h) (ports.after_host h) (states.host h) end
  pub room : (h : ℕ) → h < system.hosts → 16 * longest_burst (ports.after_host h).shape.burst_bits < states.room h
  pub route : (h : ℕ) → h < system.hosts
      → IsRouteMachine responses system h (states.room h) (ports.after_host h) (λ a. ports.after_route h a) (states.route h) end
  pub arbiter : (a : ℕ) → a < system.agents
      → IsArbiterMachine (seats_of system a) system.hosts (λ h. ports.before_arbiter h a) (ports.lower a system.stages)
      (states.grant a) end
  pub silent : (a : ℕ) → a < system.agents → AreSilentPast system.hosts (λ h. ports.before_arbiter h a) end
  pub stage : (a i : ℕ) → a < system.agents → i < system.stages
      → IsStageBetween (states.stage a i) (ports.lower a (suc i)) (ports.lower a i)
  pub cuts : (h a : ℕ) → h < system.hosts → a < system.agents → IsTrue (is_joined system a h)
      → CutsBursts (ports.after_route h a) (ports.below_cutter h a)
  pub fits : (h a : ℕ) → h < system.hosts → a < system.agents → IsTrue (is_joined system a h)
      → FitsWords (target_of system a) (ports.below_cutter h a) (ports.above_dropper h a)
  pub gathers : (h a : ℕ) (low : h < system.hosts) (there : a < system.agents) (joined : IsTrue (is_joined system a h))
      → GathersBelowCut (cuts h a low there joined) (fits h a low there joined)
  pub drops : (h a : ℕ) → h < system.hosts → a < system.agents → IsTrue (is_joined system a h)
      → DropsBeats (target_of system a) (ports.above_dropper h a) (ports.before_arbiter h a)
  -- where no beats are dropped, the agent has byte enables or the host has none
  pub lanes : (h a : ℕ) (low : h < system.hosts) (there : a < system.agents) (joined : IsTrue (is_joined system a h))
      → IsFalse (drops_some (drops h a low there joined))
      → IsTrue ((system.agent a).has_enables || not (system.host h).has_enables)
  -- a host that is alike to an agent is wired to its arbiter
  pub wired : (h a : ℕ) → h < system.hosts → a < system.agents → IsTrue (is_joined system a h)
      → IsTrue (is_alike (system.host h) (system.agent a)) →
      IsWire (ports.after_route h a) (ports.before_arbiter h a)
  -- where host and agent aren't joined the words may differ, since nothing is shown
  pub idle : (h a : ℕ) → h < system.hosts → a < system.agents → IsFalse (is_joined system a h) → AreIdleWires ports h a

-- a run has a state with which the part next to an agent is its machine
pub record RunsAtAgent (responses : Responses) (system : System) (run : Run) (lower : ℕ → ℕ → TaggedPort)
    (agent end : ℕ) : Type 0 where
  pub state : AgentState
  pub machine : IsAgentMachine responses (system.agent agent) (run.at_agent agent) (lower agent 0) state end

-- the part next to an agent is its machine for as long as the commands above it can be given to the agent
abbrev pub ServeWhatFits : Responses → System → Run → (ℕ → ℕ → TaggedPort) → ℕ → Type 0
ServeWhatFits responses system run lower end =
    (a c : ℕ) → a < system.agents → c ≤ end → IsFit system a (lower a 0).port c → RunsAtAgent responses system run lower a c

abbrev pub with_agents : States → (ℕ → AgentState) → States
with_agents states agent = record states { agent = agent }
