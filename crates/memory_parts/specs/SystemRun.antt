-- A system of machines without links and stages, whose hosts are all alike and whose agents are, run on whatever its hosts and
-- agents give.
use Rattle.std.specs.Prelude.{◌≡◌, ℕ, zero, suc, true, List, Option}
use Rattle.memory_runs.specs.Views.{Signals, Shape, HostSide, AgentSide, Responses, System, Run, Kind}
use Rattle.memory_machines.specs.Paths.{CommandView, AnswerView}
use Rattle.memory_machines.specs.Link.{Port}
use Rattle.memory_machines.specs.Lines.{Inside, TaggedPort}
use Rattle.memory_machines.specs.Turns.{seats_of}
use Rattle.memory_parts.specs.Inputs.{Commands}
use Rattle.memory_parts.specs.HostRun.{HostInputs, HostRegisters, host_at_rest, host_state, host_lower, host_view, host_step}
use Rattle.memory_parts.specs.RouteRun.{RouteInputs, RouteRegisters, route_at_rest, route_state, route_upper, route_lower, route_step}
use Rattle.memory_parts.specs.ArbiterRun.{ArbiterInputs, ArbiterRegisters, arbiter_at_rest, arbiter_upper, arbiter_lower, arbiter_step}
use Rattle.memory_parts.specs.AgentRun.{AgentInputs, AgentRegisters, agent_at_rest, agent_state, agent_view, agent_upper, agent_step}
use Rattle.memory_parts.specs.System.{States}

-- a plan of one kind of host and one kind of agent
pub record PlainPlan : Type 0 where
  pub hosts : ℕ
  pub agents : ℕ
  pub host : HostSide
  pub agent : AgentSide
  pub place : ℕ → Kind → ℕ → Option ℕ
  pub base : ℕ → ℕ → ℕ
  pub joined : ℕ → List ℕ
  pub shares : ℕ → ℕ → ℕ

abbrev pub plain_system : PlainPlan → System
plain_system plan = record {
  hosts = plan.hosts;
  agents = plan.agents;
  host = λ h. plan.host;
  agent = λ a. plan.agent;
  place = plan.place;
  base = plan.base;
  joined = plan.joined;
  shares = plan.shares;
  stages = 0;
}

-- host and agent have one word and one length of bursts, and the agent has byte enables
pub record HaveOneShape (plan : PlainPlan) : Type 0 where
  pub words : plan.host.word_bytes ≡ plan.agent.word_bytes
  pub bursts : plan.host.burst_bits ≡ plan.agent.burst_bits
  pub lanes : plan.agent.has_enables ≡ true

-- what the hosts and agents give
pub record Outside : Type 0 where
  pub host : ℕ → Signals
  pub waitrequest : ℕ → ℕ → ℕ  -- of an agent and a cycle, as the next three
  pub readdata : ℕ → ℕ → ℕ
  pub readdatavalid : ℕ → ℕ → ℕ
  pub response : ℕ → ℕ → ℕ

-- what all registers hold in one cycle
pub record Registers : Type 0 where
  pub host : ℕ → HostRegisters
  pub route : ℕ → RouteRegisters
  pub arbiter : ℕ → ArbiterRegisters
  pub agent : ℕ → AgentRegisters

abbrev pub no_words : AnswerView
no_words = record { valid = λ c. 0; word = λ c. 0; code = λ c. 0 }

abbrev pub commands_of : CommandView → Commands
commands_of view = record { signals = view.signals; more = view.more; tag = view.tag }

abbrev pub inner_shape : PlainPlan → Shape
inner_shape plan =
    record
    { word_bytes = plan.host.word_bytes; unit_bytes = 1; burst_bits = plan.host.burst_bits; has_enables = plan.host.has_enables }

-- the commands go down first: they need no wait and no answer of their cycle
module _ (responses : Responses) (plan : PlainPlan) (outside : Outside) (registers : ℕ → Registers) where
  abbrev pub asked_by_host : ℕ → Commands
  asked_by_host h =
      let inputs : HostInputs = record { signals = outside.host h; waitrequest = λ c. 0; answers = no_words } in
      let state = host_state (λ c. (registers c).host h) in
      commands_of (host_lower plan.host inputs (host_view responses plan.host inputs state) state).commands

  abbrev pub asked_by_route : ℕ → ℕ → Commands
  asked_by_route h a =
      let inputs : RouteInputs = record { shape = inner_shape plan; commands = asked_by_host h; waitrequest = λ a c. 0; answers = λ a. no_words } in
      commands_of (route_lower (plain_system plan) h inputs (route_state (λ c. (registers c).route h)) a).commands

  abbrev pub asked_by_arbiter : ℕ → Commands
  asked_by_arbiter a =
      let inputs : ArbiterInputs = record { shape = inner_shape plan; asker = λ h. asked_by_route h a; waitrequest = λ c. 0; answers = no_words; answer_tag = λ c. 0 } in
      commands_of (arbiter_lower inputs (λ c. ((registers c).arbiter a).grant)).commands

  -- and then the waits and the answers come up
  abbrev pub to_agent : ℕ → AgentInputs
  to_agent a = record {
    shape = inner_shape plan;
    commands = asked_by_arbiter a;
    waitrequest = outside.waitrequest a;
    readdata = outside.readdata a;
    readdatavalid = outside.readdatavalid a;
    response = outside.response a;
  }

  abbrev pub before_agent : ℕ → TaggedPort
  before_agent a = agent_upper responses plan.agent (to_agent a) (agent_state (λ c. (registers c).agent a))

  abbrev pub to_arbiter : ℕ → ArbiterInputs
  to_arbiter a = record {
    shape = inner_shape plan;
    asker = λ h. asked_by_route h a;
    waitrequest = (before_agent a).commands.waitrequest;
    answers = (before_agent a).answers;
    answer_tag = (before_agent a).answer_tag;
  }

  abbrev pub before_arbiter : ℕ → ℕ → Port
  before_arbiter h a = arbiter_upper (to_arbiter a) (λ c. ((registers c).arbiter a).grant) h

  abbrev pub to_route : ℕ → RouteInputs
  to_route h = record {
    shape = inner_shape plan;
    commands = asked_by_host h;
    waitrequest = λ a. (before_arbiter h a).commands.waitrequest;
    answers = λ a. (before_arbiter h a).answers;
  }

  abbrev pub after_host : ℕ → Port
  after_host h = route_upper responses (plain_system plan) h (to_route h) (route_state (λ c. (registers c).route h))

  abbrev pub to_host : ℕ → HostInputs
  to_host h =
      record { signals = outside.host h; waitrequest = (after_host h).commands.waitrequest; answers = (after_host h).answers }

  abbrev pub inside_run : Inside
  inside_run =
      record {
        after_host =
            after_host;
        after_route =
            before_arbiter;
        before_arbiter = before_arbiter;
        after_arbiter = before_agent;
        before_agent = before_agent;
      }

  abbrev pub ports_run : Run
  ports_run = record {
    at_host = λ h. host_view responses plan.host (to_host h) (host_state (λ c. (registers c).host h));
    at_agent = λ a. agent_view plan.agent (to_agent a) (agent_state (λ c. (registers c).agent a));
  }

  abbrev pub states_run : States
  states_run = record {
    host = λ h. host_state (λ c. (registers c).host h);
    route = λ h. route_state (λ c. (registers c).route h);
    arbiter = λ a c. ((registers c).arbiter a).grant;
    agent = λ a. agent_state (λ c. (registers c).agent a);
  }

abbrev pub at_rest : PlainPlan → Registers
at_rest plan =
    record {
      host =
          λ h. host_at_rest;
      route =
          λ h. route_at_rest;
      arbiter = λ a. arbiter_at_rest (seats_of (plain_system plan) a);
      agent = λ a. agent_at_rest;
    }

abbrev pub step : Responses → PlainPlan → Outside → Registers → ℕ → Registers
step responses plan outside now c = record {
  host = λ h. host_step responses plan.host (to_host responses plan outside (λ _. now) h) (now.host h) c;
  route = λ h. route_step responses (plain_system plan) h (to_route responses plan outside (λ _. now) h) (now.route h) c;
  arbiter = λ a. arbiter_step (to_arbiter responses plan outside (λ _. now) a) (now.arbiter a) c;
  agent = λ a. agent_step responses plan.agent (to_agent responses plan outside (λ _. now) a) (now.agent a) c;
}

-- the registers of the whole, cycle by cycle
abbrev pub registers_of : Responses → PlainPlan → Outside → ℕ → Registers
registers_of responses plan outside zero = at_rest plan
registers_of responses plan outside (suc c) = step responses plan outside (registers_of responses plan outside c) c
