-- Whole systems of machines: `IsBuilt` is what `machines_are_awake` asks, `NeverIdles` of `memory_runs` what it gives. Start
-- here.
use Rattle.std.specs.Prelude.{◌≡◌, ℕ, suc, ◌+◌, ◌*◌, ◌<◌, ◌≤◌, IsTrue, IsFalse}
use Rattle.histories.specs.Turns.{AllShare}
use Rattle.memory_runs.specs.Views.{System, Run, Responses}
use Rattle.memory_runs.specs.Order.{is_joined}
use Rattle.memory_runs.specs.Operations.{pieces}
use Rattle.memory_runs.specs.Commands.{longest_burst}
use Rattle.memory_runs.specs.Awake.{longest_wait, is_alike}
use Rattle.memory_machines.specs.Link.{Port}
use Rattle.memory_machines.specs.Lines.{TaggedPort, Inside, KeepsRow, BringsLanes, IsPipeLine, target_of, IsHostLine, IsRouteLine, IsArbiterLine, IsAgentLine}
use Rattle.memory_machines.specs.Machines.{Stage, above, below, RunsAsStage, WaitsOnlyWhenFull, owing_rank}
use Rattle.memory_machines.specs.Turns.{Grant, seats_of}
use Rattle.memory_parts.specs.Agent.{AgentState, IsAgentMachine, IsAgentPlan}
use Rattle.memory_parts.specs.Arbiter.{IsArbiterMachine}
use Rattle.memory_parts.specs.Host.{HostState, IsHostMachine, ReadsWords}
use Rattle.memory_parts.specs.Route.{RouteState, IsRouteMachine, IsRoutePlan}
use Rattle.memory_parts.specs.Steps.{AreSilentPast, agent_rank}
use Rattle.memory_links.specs.Going.{KeepsGoing}
use Rattle.memory_awake.specs.Slack.{Slack, Slacks, PassesWhileStill, host_allows, toll}
use Rattle.memory_awake.specs.Approach.{Approach}
use Rattle.memory_awake.specs.Ways.{Ways, Standing, Standings}
use Rattle.memory_awake.specs.Wires.{IsWire}

-- the boundaries inside
pub record Boundaries : Type 0 where
  pub after_host : ℕ → Port
  pub links : ℕ → ℕ → ℕ  -- how many between a host's route and an agent's arbiter
  pub upper : ℕ → ℕ → ℕ → Port  -- of a host and an agent: 0 is before the arbiter, `links` behind the route
  pub lower : ℕ → ℕ → TaggedPort  -- of an agent: 0 is before its part, `stages` behind the arbiter

-- the registers of the machines, and the stages of the pipes
pub record States : Type 0 where
  pub host : ℕ → HostState
  pub route : ℕ → RouteState
  pub room : ℕ → ℕ  -- more words than the reads of a host may owe
  pub grant : ℕ → ℕ → Grant  -- of an agent in a cycle
  pub stage : ℕ → ℕ → Stage
  pub agent : ℕ → AgentState

-- a stage of two places between two boundaries, with a register for the tags of its answers
pub record IsStageBetween (stage : Stage) (up down : TaggedPort) : Type 0 where
  pub runs : RunsAsStage stage
  pub some : 0 < stage.depth
  pub few : stage.depth ≤ 2
  pub ready : WaitsOnlyWhenFull stage
  pub up_is : above stage ≡ up.port
  pub down_is : below stage ≡ down.port
  pub tags : (c : ℕ) → up.answer_tag (suc c) ≡ down.answer_tag c

-- every part is its machine
pub record AreMachines (responses : Responses) (system : System) (run : Run) (inside : Boundaries) (states : States)
    (end : ℕ) : Type 0 where
  pub one_word : (h : ℕ) → h < system.hosts → ReadsWords (system.host h) (run.at_host h) end
  pub host : (h : ℕ) → h < system.hosts
      → IsHostMachine responses (system.host h) (run.at_host h) (inside.after_host h) (states.host h) end
  pub route : (h : ℕ) → h < system.hosts
      → IsRouteMachine responses system h (states.room h) (inside.after_host h) (λ a. inside.upper h a (inside.links h a))
      (states.route h) end
  pub arbiter : (a : ℕ) → a < system.agents
      → IsArbiterMachine (seats_of system a) system.hosts (λ h. inside.upper h a 0) (inside.lower a system.stages)
      (states.grant a) end
  pub silent : (a : ℕ) → a < system.agents → AreSilentPast system.hosts (λ h. inside.upper h a 0) end
  pub stage : (a i : ℕ) → a < system.agents → i < system.stages
      → IsStageBetween (states.stage a i) (inside.lower a (suc i)) (inside.lower a i)
  pub agent : (a : ℕ) → a < system.agents
      → IsAgentMachine responses (system.agent a) (run.at_agent a) (inside.lower a 0) (states.agent a) end

-- the ranks and slacks of the links
pub record LinkRanks : Type 0 where
  pub standing : ℕ → ℕ → ℕ → Standing  -- of a host, an agent and a link
  pub slack : ℕ → ℕ → ℕ → Slack

-- the boundaries, ranks and slacks that lead to an agent
abbrev pub ways_of : System → Boundaries → ℕ → Ways
ways_of system inside a =
    record {
      stages =
          system.stages;
      lower =
          λ i. (inside.lower a i).port;
      answer_tag =
          λ i. (inside.lower a i).answer_tag;
      above = λ h. inside.links h a;
      upper = λ h i. inside.upper h a i;
    }

abbrev pub standings_of : System → Run → States → LinkRanks → ℕ → Standings
standings_of system run states ranks a = record {
  agent = record { rank = agent_rank system run a; largest = longest_wait (system.agent a) + 1 };
  lower = λ i. record { rank = owing_rank (below (states.stage a i)); largest = 1 };
  upper = λ h i. ranks.standing h a i;
}

abbrev pub slacks_of : States → LinkRanks → ℕ → Slacks
slacks_of states ranks a =
    record { lower = λ i. record { hold = (states.stage a i).depth; kept = 1 }; upper = λ h i. ranks.slack h a i }

abbrev pub approach_of : System → Run → Boundaries → States → LinkRanks → ℕ → Approach
approach_of system run inside states ranks a =
    record
    { ways = ways_of system inside a; standings = standings_of system run states ranks a; slacks = slacks_of states ranks a }

-- every link keeps going, and holds little back while the port behind its route is still. A wire counts as a link
pub record AreLinks (system : System) (run : Run) (inside : Boundaries) (states : States) (ranks : LinkRanks)
    (end : ℕ) : Type 0 where
  pub some : (h a : ℕ) → h < system.hosts → a < system.agents → 0 < inside.links h a
  pub going : (h a i : ℕ) → h < system.hosts → a < system.agents → i < inside.links h a →
      KeepsGoing (target_of system a) (inside.upper h a (suc i)) (inside.upper h a i) (ranks.standing h a i).rank
      (ranks.standing h a i).largest end
  pub pass : (h a i : ℕ) → h < system.hosts → a < system.agents → i < inside.links h a →
      PassesWhileStill (ranks.slack h a i) (inside.upper h a (inside.links h a)) (inside.upper h a (suc i))
      (inside.upper h a i) end
  pub allow : (h a : ℕ) → h < system.hosts → a < system.agents
      → host_allows system (ways_of system inside a) (standings_of system run states ranks a) (slacks_of states ranks a) h ≤ 15
  pub toll : (h a : ℕ) → h < system.hosts → a < system.agents
      → toll (ways_of system inside a) (standings_of system run states ranks a) h ≤ 5
  -- a host whose plain commands reach an agent with readdatavalid one for one is wired to its arbiter
  pub wired : (h a : ℕ) → h < system.hosts → a < system.agents → IsTrue (is_joined system a h)
      → IsTrue (system.agent a).has_readdatavalid → IsTrue (is_alike (system.host h) (system.agent a)) →
      IsWire (inside.upper h a (inside.links h a)) (inside.upper h a 0)

-- what the plan says
pub record ArePlanned (system : System) (inside : Boundaries) (states : States) : Type 0 where
  pub few_stages : system.stages ≤ 4
  pub few_hosts : system.hosts ≤ 16
  pub joined : (a h : ℕ) → IsTrue (is_joined system a h) → h < system.hosts
  pub shares : (a : ℕ) → a < system.agents → AllShare (seats_of system a)
  pub plain : (h : ℕ) → h < system.hosts → IsFalse (system.host h).has_burst → (system.host h).burst_bits ≡ 1
  pub places : (h : ℕ) → h < system.hosts → IsRoutePlan system h (inside.after_host h).shape
  pub agents : (a : ℕ) → a < system.agents → IsAgentPlan (system.agent a)
  pub rooms : (h : ℕ) → h < system.hosts → 16 * longest_burst (inside.after_host h).shape.burst_bits < states.room h

-- the boundaries of the parts' lines
abbrev pub inside_of : System → Boundaries → Inside
inside_of system inside = record {
  after_host = inside.after_host;
  after_route = λ h a. inside.upper h a (inside.links h a);
  before_arbiter = λ h a. inside.upper h a 0;
  after_arbiter = λ a. inside.lower a system.stages;
  before_agent = λ a. inside.lower a 0;
}

-- the parts that are told by their machines keep their lines
pub record KeepLines (responses : Responses) (system : System) (run : Run) (inside : Boundaries) (states : States)
    (end : ℕ) : Type 0 where
  pub host : (h : ℕ) → h < system.hosts → IsHostLine responses system run h 0 (states.room h) (inside.after_host h) end
  pub route : (h : ℕ) → h < system.hosts
      → IsRouteLine responses system h 0 (states.room h) (inside.after_host h) (λ a. inside.upper h a (inside.links h a)) end
  pub arbiter : (a : ℕ) → a < system.agents
      → IsArbiterLine responses system a 0 (λ h. inside.upper h a 0) (inside.lower a system.stages) end
  pub agent : (a : ℕ) → a < system.agents → IsAgentLine responses system run a 0 (inside.lower a 0) end

-- the links and the pipes keep their lines: what the others are made of is told by their machines
pub record KeepRows (system : System) (run : Run) (inside : Boundaries) (states : States) (end : ℕ) : Type 0 where
  pub link_hold : ℕ
  pub pipe_hold : ℕ
  pub few : link_hold + pipe_hold ≤ 5 + 2 * system.stages
  pub links : (h a : ℕ) → h < system.hosts → a < system.agents
      → KeepsRow (target_of system a) link_hold (inside.upper h a (inside.links h a)) (inside.upper h a 0) end
  pub lanes : (h a : ℕ) → h < system.hosts → a < system.agents
      → BringsLanes system run h a (inside.upper h a (inside.links h a)) (inside.upper h a 0) end
  pub words : (h a : ℕ) → h < system.hosts → a < system.agents
      → pieces (inside.upper h a (inside.links h a)).shape (inside.upper h a 0).shape
      ≤ pieces (system.host h).shape (system.agent a).shape
  pub pipe : (a : ℕ) → a < system.agents
      → IsPipeLine system a pipe_hold system.stages (inside.lower a system.stages) (inside.lower a 0) end

-- a system of machines, whose links and pipes keep their lines
pub record IsBuilt (responses : Responses) (system : System) (run : Run) (inside : Boundaries) (states : States)
    (ranks : LinkRanks) (end : ℕ) : Type 0 where
  pub plan : ArePlanned system inside states
  pub rows : KeepRows system run inside states end
  pub machines : AreMachines responses system run inside states end
  pub links : AreLinks system run inside states ranks end
