-- A system of machines with a row of links between each host's route and each agent's arbiter, without stages, run on whatever
-- its hosts and agents give.
use Rattle.std.specs.Prelude.{◌≡◌, ℕ, zero, suc, ◌+◌, ◌*◌, ◌<◌, ◌≤◌, Bool, true, false, not, ◌&&◌, ◌||◌, [], if◌then◌else◌, nat_lt, IsTrue, IsFalse}
use Rattle.histories.specs.History.{is_raised}
use Rattle.memory_runs.specs.Views.{Shape, Responses, System, Run}
use Rattle.memory_runs.specs.Commands.{longest_burst, shows}
use Rattle.memory_runs.specs.Awake.{is_alike}
use Rattle.memory_runs.specs.Order.{is_joined}
use Rattle.memory_runs.specs.Plan.{FitsPorts}
use Rattle.memory_machines.specs.Link.{Port}
use Rattle.memory_machines.specs.Lines.{TaggedPort, target_of}
use Rattle.memory_machines.specs.Machines.{Stage}
use Rattle.memory_machines.specs.Turns.{seats_of}
use Rattle.memory_parts.specs.Inputs.{Commands}
use Rattle.memory_parts.specs.HostRun.{HostInputs, HostRegisters, host_at_rest, host_state, host_lower, host_view, host_step}
use Rattle.memory_parts.specs.RouteRun.{RouteInputs, RouteRegisters, route_at_rest, route_state, route_upper, route_lower, route_step}
use Rattle.memory_parts.specs.ArbiterRun.{ArbiterInputs, ArbiterRegisters, arbiter_at_rest, arbiter_upper, arbiter_lower, arbiter_step}
use Rattle.memory_parts.specs.AgentRun.{AgentInputs, AgentRegisters, agent_at_rest, agent_state, agent_view, agent_upper, agent_step}
use Rattle.memory_parts.specs.SystemRun.{Outside, no_words, commands_of}
use Rattle.memory_links.specs.Cutters.{reach_longest}
use Rattle.memory_links.specs.Driven.{Inputs}
use Rattle.memory_awake.specs.RowRun.{Cutter, Fitter, Cutter.Uncut, Cutter.Cuts, Fitter.Unfitted, Fitter.Selects, Fitter.Splits, RowPlan, RowRegisters, SuitsRow, row_at_rest, row_step, by_cutter, by_fitter, row_top, row_middle, row_low, drop_raw, commands_by, shown_with}
use Rattle.memory_awake.specs.RowSystem.{RowPorts}
use Rattle.memory_awake.specs.Theorem.{States}

-- a plan, and what stands between each host and each agent
pub record LinkPlan : Type 0 where
  pub system : System
  pub cutter : ℕ → ℕ → Cutter
  pub fitter : ℕ → ℕ → Fitter
  pub drops : ℕ → ℕ → Bool
  pub room : ℕ  -- so many reads may be under way in a link

abbrev pub inner_shape : ℕ → ℕ → Shape
inner_shape bytes bits = record { word_bytes = bytes; unit_bytes = 1; burst_bits = bits; has_enables = true }

abbrev pub host_inner : LinkPlan → ℕ → Shape
host_inner plan h = inner_shape (plan.system.host h).word_bytes (plan.system.host h).burst_bits

abbrev pub agent_inner : LinkPlan → ℕ → Shape
agent_inner plan a = inner_shape (plan.system.agent a).word_bytes (plan.system.agent a).burst_bits

-- below a cutter its bursts are counted by its bits, and below what fits words there are single beats; a wire before the arbiter
-- leads to bursts of the agent
abbrev pub bits_below_cutter : LinkPlan → ℕ → ℕ → ℕ
bits_below_cutter plan h a = by_cutter (plan.cutter h a) (plan.system.host h).burst_bits (λ reach longest bits. bits)

abbrev pub bits_above_dropper : LinkPlan → ℕ → ℕ → ℕ
bits_above_dropper plan h a = by_fitter (plan.fitter h a) (bits_below_cutter plan h a) 1 1 1

abbrev pub row_of : LinkPlan → ℕ → ℕ → RowPlan
row_of plan h a = record {
  cutter = plan.cutter h a;
  fitter = plan.fitter h a;
  drops = plan.drops h a;
  top = host_inner plan h;
  middle = inner_shape (plan.system.host h).word_bytes (bits_below_cutter plan h a);
  low = inner_shape (plan.system.agent a).word_bytes (bits_above_dropper plan h a);
  bottom = agent_inner plan a;
  room = plan.room;
}

-- three wires
pub record IsWireRow (plan : RowPlan) : Type 0 where
  pub uncut : plan.cutter ≡ Uncut
  pub unfitted : plan.fitter ≡ Unfitted
  pub undropped : plan.drops ≡ false

-- what is asked of the links
pub record SuitsLinks (plan : LinkPlan) : Type 0 where
  pub idle : ℕ → ℕ → Bool  -- of a host and an agent that aren't joined: wires lead there, whatever the words
  pub stages : plan.system.stages ≡ 0
  pub rows : (h a : ℕ) → h < plan.system.hosts → a < plan.system.agents → IsFalse (idle h a)
      → SuitsRow (target_of plan.system a) (row_of plan h a)
  -- a host whose plain commands reach an agent one for one is wired to its arbiter
  pub wired : (h a : ℕ) → h < plan.system.hosts → a < plan.system.agents → IsTrue (is_joined plan.system a h)
      → IsTrue (is_alike (plan.system.host h) (plan.system.agent a)) → IsWireRow (row_of plan h a)
  -- where no beats are dropped, the agent has byte enables or the host has none
  pub lanes : (h a : ℕ) → h < plan.system.hosts → a < plan.system.agents → IsFalse (idle h a) → plan.drops h a ≡ false
      → IsTrue ((plan.system.agent a).has_enables || not (plan.system.host h).has_enables)
  pub apart : (h a : ℕ) → h < plan.system.hosts → a < plan.system.agents → IsTrue (idle h a)
      → IsFalse (is_joined plan.system a h) × IsWireRow (row_of plan h a)
  -- hosts past those of the plan are wired
  pub past : (h a : ℕ) → plan.system.hosts ≤ h → IsWireRow (row_of plan h a)

-- what makes the words of a host those of an agent
abbrev pub fitter_for : ℕ → ℕ → Fitter
fitter_for host agent = if nat_lt agent host then Splits else if nat_lt host agent then Selects else Unfitted

-- links for any plan: hosts that are alike to an agent are wired to it, and between others that are joined bursts are cut into
-- single beats, words are fitted, and beats without a lane are dropped where the host alone has byte enables
abbrev pub links_for : System → LinkPlan
links_for system = record {
  system = system;
  cutter =
      λ h a. if is_joined system a h && not (is_alike (system.host h) (system.agent a)) then Cuts (reach_longest 1) 1 1
      else Uncut;
  fitter = λ h a. if is_joined system a h then fitter_for (system.host h).word_bytes (system.agent a).word_bytes else Unfitted;
  drops = λ h a. is_joined system a h && ((system.host h).has_enables && not (system.agent a).has_enables);
  room = 2;
}

-- what is asked of what the hosts show, beside that it is legal: it fits their ports, whose absent byteenable reads as all ones
-- and burstcount as 1; a host without readdatavalid reads one word at a time; and hosts past those of the plan show nothing
pub record AreFitHosts (system : System) (outside : Outside) (end : ℕ) : Type 0 where
  pub ports : (h : ℕ) → h < system.hosts → FitsPorts (system.host h).shape (system.host h).has_burst (outside.host h) end
  pub one_word : (h c : ℕ) → h < system.hosts → c < end → IsFalse (system.host h).has_readdatavalid
      → IsTrue (is_raised ((outside.host h).read c)) → (outside.host h).count c ≡ 1
  pub none_past : (h c : ℕ) → system.hosts ≤ h → IsFalse (shows (outside.host h) c)

-- what all registers hold in one cycle
pub record Registers : Type 0 where
  pub host : ℕ → HostRegisters
  pub route : ℕ → RouteRegisters
  pub row : ℕ → ℕ → RowRegisters
  pub arbiter : ℕ → ArbiterRegisters
  pub agent : ℕ → AgentRegisters

-- the commands go down first: they need no wait and no answer of their cycle
module _ (responses : Responses) (plan : LinkPlan) (outside : Outside) (registers : ℕ → Registers) where
  abbrev pub asked_by_host : ℕ → Commands
  asked_by_host h =
      let inputs : HostInputs = record { signals = outside.host h; waitrequest = λ c. 0; answers = no_words } in
      let state = host_state (λ c. (registers c).host h) in
      commands_of (host_lower (plan.system.host h) inputs (host_view responses (plan.system.host h) inputs state) state).commands

  abbrev pub asked_by_route : ℕ → ℕ → Commands
  asked_by_route h a =
      let inputs : RouteInputs = record { shape = host_inner plan h; commands = asked_by_host h; waitrequest = λ a c. 0; answers = λ a. no_words } in
      commands_of (route_lower plan.system h inputs (route_state (λ c. (registers c).route h)) a).commands

  abbrev pub asked_by_row : ℕ → ℕ → Commands
  asked_by_row h a =
      commands_by (drop_raw (row_of plan h a) (shown_with (asked_by_route h a) (λ c. 0) no_words) (λ c. (registers c).row h a))

  abbrev pub asked_by_arbiter : ℕ → Commands
  asked_by_arbiter a =
      let inputs : ArbiterInputs = record { shape = agent_inner plan a; asker = λ h. asked_by_row h a; waitrequest = λ c. 0; answers = no_words; answer_tag = λ c. 0 } in
      commands_of (arbiter_lower inputs (λ c. ((registers c).arbiter a).grant)).commands

  -- and then the waits and the answers come up
  abbrev pub to_agent : ℕ → AgentInputs
  to_agent a = record {
    shape = agent_inner plan a;
    commands = asked_by_arbiter a;
    waitrequest = outside.waitrequest a;
    readdata = outside.readdata a;
    readdatavalid = outside.readdatavalid a;
    response = outside.response a;
  }

  abbrev pub before_agent : ℕ → TaggedPort
  before_agent a = agent_upper responses (plan.system.agent a) (to_agent a) (agent_state (λ c. (registers c).agent a))

  abbrev pub to_arbiter : ℕ → ArbiterInputs
  to_arbiter a = record {
    shape = agent_inner plan a;
    asker = λ h. asked_by_row h a;
    waitrequest = (before_agent a).commands.waitrequest;
    answers = (before_agent a).answers;
    answer_tag = (before_agent a).answer_tag;
  }

  abbrev pub before_arbiter : ℕ → ℕ → Port
  before_arbiter h a = arbiter_upper (to_arbiter a) (λ c. ((registers c).arbiter a).grant) h

  abbrev pub to_row : ℕ → ℕ → Inputs
  to_row h a = shown_with (asked_by_route h a) (before_arbiter h a).commands.waitrequest (before_arbiter h a).answers

  abbrev pub after_route : ℕ → ℕ → Port
  after_route h a = row_top (row_of plan h a) (to_row h a) (λ c. (registers c).row h a)

  abbrev pub to_route : ℕ → RouteInputs
  to_route h = record {
    shape = host_inner plan h;
    commands = asked_by_host h;
    waitrequest = λ a. (after_route h a).commands.waitrequest;
    answers = λ a. (after_route h a).answers;
  }

  abbrev pub after_host : ℕ → Port
  after_host h = route_upper responses plan.system h (to_route h) (route_state (λ c. (registers c).route h))

  abbrev pub to_host : ℕ → HostInputs
  to_host h =
      record { signals = outside.host h; waitrequest = (after_host h).commands.waitrequest; answers = (after_host h).answers }

  abbrev pub linked_run : Run
  linked_run = record {
    at_host = λ h. host_view responses (plan.system.host h) (to_host h) (host_state (λ c. (registers c).host h));
    at_agent = λ a. agent_view (plan.system.agent a) (to_agent a) (agent_state (λ c. (registers c).agent a));
  }

  abbrev pub linked_ports : RowPorts
  linked_ports = record {
    after_host = after_host;
    after_route = after_route;
    below_cutter = λ h a. row_middle (row_of plan h a) (to_row h a) (λ c. (registers c).row h a);
    above_dropper = λ h a. row_low (row_of plan h a) (to_row h a) (λ c. (registers c).row h a);
    before_arbiter = before_arbiter;
    lower = λ a i. before_agent a;
  }

  -- there is no stage: this one is of no boundary
  abbrev no_stage : ℕ → Stage
  no_stage a =
      let port = (before_agent a).port in
      record {
        depth =
            0;
        shape =
            port.shape;
        sides =
            record {
              commands_above =
                  port.commands;
              answers_above = port.answers;
              commands_below = port.commands;
              answers_below = port.answers;
            };
        queue =
            λ c. [];
      }

  abbrev pub linked_states : States
  linked_states = record {
    host = λ h. host_state (λ c. (registers c).host h);
    route = λ h. route_state (λ c. (registers c).route h);
    room = λ h. 16 * longest_burst (plan.system.host h).burst_bits + 1;
    grant = λ a c. ((registers c).arbiter a).grant;
    stage = λ a i. no_stage a;
    agent = λ a. agent_state (λ c. (registers c).agent a);
  }

abbrev pub linked_at_rest : LinkPlan → Registers
linked_at_rest plan =
    record {
      host =
          λ h. host_at_rest;
      route =
          λ h. route_at_rest;
      row =
          λ h a. row_at_rest;
      arbiter = λ a. arbiter_at_rest (seats_of plan.system a);
      agent = λ a. agent_at_rest;
    }

abbrev pub linked_step : Responses → LinkPlan → Outside → Registers → ℕ → Registers
linked_step responses plan outside now c = record {
  host = λ h. host_step responses (plan.system.host h) (to_host responses plan outside (λ _. now) h) (now.host h) c;
  route = λ h. route_step responses plan.system h (to_route responses plan outside (λ _. now) h) (now.route h) c;
  row = λ h a. row_step (row_of plan h a) (to_row responses plan outside (λ _. now) h a) (now.row h a) c;
  arbiter = λ a. arbiter_step (to_arbiter responses plan outside (λ _. now) a) (now.arbiter a) c;
  agent = λ a. agent_step responses (plan.system.agent a) (to_agent responses plan outside (λ _. now) a) (now.agent a) c;
}

-- the registers of the whole, cycle by cycle
abbrev pub linked_registers : Responses → LinkPlan → Outside → ℕ → Registers
linked_registers responses plan outside zero = linked_at_rest plan
linked_registers responses plan outside (suc c) = linked_step responses plan outside (linked_registers responses plan outside c) c
