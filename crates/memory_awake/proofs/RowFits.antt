-- What rows of links carry from routes to agents fits the agents: every part in front of them keeps its line, and they keep theirs as long as it does.
use Rattle.std.proofs.Common.{ℕ, ◌≡◌, ◌<◌, ◌≤◌, ◌*◌, Bool, true, false, not, [], None, arith, refl, le_refl, nat_lt, IsTrue}
use Rattle.std.proofs.lemmas.Bool.{ltb-true, ltb-false}
use Rattle.memory_runs.specs.Views.{System, Run, Responses}
use Rattle.memory_runs.specs.Commands.{longest_burst}
use Rattle.memory_runs.specs.Order.{is_joined}
use Rattle.memory_runs.specs.Plan.{AreViews}
use Rattle.memory_runs.specs.Whole.{IsLegalRun}
use Rattle.memory_machines.specs.Link.{Port}
use Rattle.memory_machines.specs.Lines.{TaggedPort, IsFit, IsHostLine, IsRouteLine, IsArbiterLine, IsAgentLine}
use Rattle.memory_machines.specs.Turns.{Grant, seats_of}
use Rattle.memory_parts.specs.Agent.{AgentState, IsAgentMachine, IsAgentPlan}
use Rattle.memory_parts.specs.Arbiter.{IsArbiterMachine}
use Rattle.memory_parts.specs.Host.{HostState, IsHostMachine, ReadsWords}
use Rattle.memory_parts.specs.Route.{RouteState, IsRouteMachine, IsRoutePlan}
use Rattle.memory_awake.specs.RowFront.{IsRowFront, ServeWhatFits, with_agents}
use Rattle.memory_awake.specs.RowSystem.{RowPorts, AreRows, boundaries_of}
use Rattle.memory_awake.specs.Theorem.{States, ArePlanned, AreMachines, KeepLines}
use Rattle.memory_awake.proofs.RowSettled.{Laws as SettleLaws, AreAbove, boundaries_settle}
use Rattle.memory_awake.proofs.SilentRow.{quiet_is_fit}

joined_if : (b : Bool) → not b ≡ false → b ≡ true
joined_if true e = refl
joined_if false e = cc

apart_if : (b : Bool) → not b ≡ true → b ≡ false
apart_if true e = cc
apart_if false e = refl

-- a row of links stands between those that are joined, wires between the others
pub front_rows : {responses : Responses} {system : System} {run : Run} {ports : RowPorts} {states : States} {end : ℕ} → IsRowFront responses system run ports states end → AreViews system run end → AreRows system run ports end
front_rows {responses} {system} {run} {ports} {states} {end} front views = record {
  idle = λ h a. not (is_joined system a h);
  views = views.hosts;
  cuts = λ h a low there links. front.cuts h a low there (joined_if (is_joined system a h) links);
  fits = λ h a low there links. front.fits h a low there (joined_if (is_joined system a h) links);
  gathers = λ h a low there links. front.gathers h a low there (joined_if (is_joined system a h) links);
  drops = λ h a low there links. front.drops h a low there (joined_if (is_joined system a h) links);
  lanes = λ h a low there links none. front.lanes h a low there (joined_if (is_joined system a h) links) none;
  wired = front.wired;
  apart = λ h a low there idle. (let none = apart_if (is_joined system a h) idle in (none, front.idle h a low there none));
}

pub record Laws : Type 0 where
  pub host : (responses : Responses) (system : System) (run : Run) (host room : ℕ) (down : Port) (state : HostState) (end : ℕ) → 16 * longest_burst down.shape.burst_bits < room → ReadsWords (system.host host) (run.at_host host) end →
      IsHostMachine responses (system.host host) (run.at_host host) down state end → IsHostLine responses system run host 0 room down end
  pub route : (responses : Responses) (system : System) (host room : ℕ) (up : Port) (down : ℕ → Port) (state : RouteState) (end : ℕ) → IsRoutePlan system host up.shape → IsRouteMachine responses system host room up down state end →
      IsRouteLine responses system host 0 room up down end
  pub arbiter : (responses : Responses) (system : System) (agent : ℕ) (up : ℕ → Port) (down : TaggedPort) (grant : ℕ → Grant) (end : ℕ) → ((h : ℕ) → IsTrue (is_joined system agent h) → h < system.hosts) →
      IsArbiterMachine (seats_of system agent) system.hosts up down grant end → IsArbiterLine responses system agent 0 up down end
  pub agent : (responses : Responses) (system : System) (run : Run) (agent : ℕ) (up : TaggedPort) (state : AgentState) (end : ℕ) → IsAgentPlan (system.agent agent) → IsAgentMachine responses (system.agent agent) (run.at_agent agent) up state end →
      IsAgentLine responses system run agent 0 up end
  pub settle : SettleLaws

module _ (laws : Laws) (responses : Responses) (system : System) (run : Run) (ports : RowPorts) (states : States) (end : ℕ)
    (plan : ArePlanned system (boundaries_of ports) states) (one_word : (h : ℕ) → h < system.hosts → ReadsWords (system.host h) (run.at_host h) end) (views : AreViews system run end)
    (front : IsRowFront responses system run ports states end) (serve : ServeWhatFits responses system run ports.lower end) (legal : IsLegalRun system run end) where
  -- nothing has been shown at first: so the part next to an agent is a machine then
  agent_words : (a : ℕ) → a < system.agents → (ports.lower a 0).shape.word_bytes ≡ (system.agent a).word_bytes
  agent_words a there = (serve a 0 there (omega arith) (quiet_is_fit (ports.lower a 0).port 0 (λ c low. absurd (omega (arith, low))) system a)).machine.commands.words

  agent_line : (a : ℕ) → a < system.agents → IsAgentLine responses system run a 0 (ports.lower a 0) end
  agent_line a there = record {
    commands = λ c low fit proper. (line_at c low fit).commands c (le_refl c) fit proper;
    answers = λ c low fit proper. (line_at c low fit).answers c (le_refl c) fit proper;
  }
    where
      line_at : (c : ℕ) → c ≤ end → IsFit system a (ports.lower a 0).port c → IsAgentLine responses system run a 0 (ports.lower a 0) c
      line_at c low fit = let runs = serve a c there low fit in laws.agent responses system run a (ports.lower a 0) runs.state c (plan.agents a there) runs.machine

  lines : KeepLines responses system run (boundaries_of ports) states end
  lines = record {
    host = λ h low. laws.host responses system run h (states.room h) (ports.after_host h) (states.host h) end (front.room h low) (one_word h low) (front.host h low);
    route = λ h low. laws.route responses system h (states.room h) (ports.after_host h) (ports.after_route h) (states.route h) end (plan.places h low) (front.route h low);
    arbiter = λ a there. laws.arbiter responses system a (λ h. ports.before_arbiter h a) (ports.lower a system.stages) (states.grant a) end (plan.joined a) (front.arbiter a there);
    agent = agent_line;
  }

  above : AreAbove responses system run ports states end
  above = record { host = front.host; route = front.route; arbiter = front.arbiter; stage = front.stage; words = agent_words; lines = lines }

  fits : (a : ℕ) → a < system.agents → IsFit system a (ports.lower a 0).port end
  fits = (boundaries_settle laws.settle responses system run ports states end plan above (front_rows front views) legal).before_agent

  -- an agent past those of the system may have any state
  record IsServed (a : ℕ) : Type 0 where
    state : AgentState
    machine : a < system.agents → IsAgentMachine responses (system.agent a) (run.at_agent a) (ports.lower a 0) state end

  served : (a : ℕ) → IsServed a
  served a = by_place (nat_lt a system.agents) refl
    where
      by_place : (b : Bool) → nat_lt a system.agents ≡ b → IsServed a
      by_place true e =
          let there = ltb-true a system.agents e in
          let runs = serve a end there (le_refl end) (fits a there) in
          record { state = runs.state; machine = λ there. runs.machine }
      by_place false e = let past = ltb-false a system.agents e in record { state = record { queue = λ c. []; row = λ c place. None; stood = λ c. 0 }; machine = λ there. absurd (omega (arith, there, past)) }

  pub agent_states : ℕ → AgentState
  agent_states a = (served a).state

  pub all_machines : AreMachines responses system run (boundaries_of ports) (with_agents states agent_states) end
  unfolding agent_states
  all_machines = record {
    one_word = one_word;
    host = front.host;
    route = front.route;
    arbiter = front.arbiter;
    silent = front.silent;
    stage = front.stage;
    agent = λ a there. (served a).machine there;
  }
