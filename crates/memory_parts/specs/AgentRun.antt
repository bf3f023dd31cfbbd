-- The run of the machine of an agent, for any commands above and any levels that the agent gives.
use Rattle.std.specs.Prelude.{◌≡◌, ℕ, zero, suc, ◌-◌, ◌*◌, ◌/◌, ◌%◌, ◌^◌, ◌&&◌, ◌||◌, List, [], if◌then◌else◌, nat_eq, Option, Some, None, is_some, IsFalse}
use Rattle.histories.specs.History.{is_raised, one_if}
use Rattle.memory_runs.specs.Views.{Shape, AgentSide, AgentView, Responses}
use Rattle.memory_runs.specs.Commands.{byte_address, stood_after}
use Rattle.memory_machines.specs.Lines.{TaggedPort}
use Rattle.memory_parts.specs.Queue.{Entry, head_tag, takes_read, queue_after, by_option}
use Rattle.memory_parts.specs.Agent.{AgentState, is_full, is_busy, code_by, row_places, IsAgentPlan}
use Rattle.memory_parts.specs.Inputs.{Commands, with_wait, one_later}

-- the commands above, whose ends have this shape, and what the agent gives
pub record AgentInputs : Type 0 where
  pub shape : Shape
  pub commands : Commands
  pub waitrequest : ℕ → ℕ
  pub readdata : ℕ → ℕ
  pub readdatavalid : ℕ → ℕ
  pub response : ℕ → ℕ

-- what the registers hold in one cycle
pub record AgentRegisters : Type 0 where
  pub queue : List Entry
  pub row : ℕ → Option ℕ
  pub stood : ℕ

abbrev pub agent_at_rest : AgentRegisters
agent_at_rest = record { queue = []; row = λ place. None; stood = 0 }

abbrev pub agent_state : (ℕ → AgentRegisters) → AgentState
agent_state registers =
    record { queue = λ c. (registers c).queue; row = λ c. (registers c).row; stood = λ c. (registers c).stood }

-- what the agent is shown
abbrev pub agent_view : AgentSide → AgentInputs → AgentState → AgentView
agent_view side inputs state = record {
  signals = record {
    read = λ c. if side.has_read then (if is_full side state c then 0 else inputs.commands.signals.read c) else 0;
    write = λ c. if side.has_write then inputs.commands.signals.write c else 0;
    address = λ c. (byte_address inputs.shape (inputs.commands.signals.address c) % side.span) / side.unit_bytes;
    word = λ c. if side.has_write then inputs.commands.signals.word c else 0;
    enables = λ c. if side.has_enables then inputs.commands.signals.enables c else 2 ^ side.word_bytes - 1;
    count = λ c. if side.has_burst then inputs.commands.signals.count c else 1;
  };
  waitrequest = inputs.waitrequest;
  readdata = inputs.readdata;
  readdatavalid = inputs.readdatavalid;
  response = inputs.response;
  grant = inputs.commands.tag;
}

-- at latency 0 a word waits in a register
abbrev pub timed : AgentSide → (ℕ → ℕ) → ℕ → ℕ
timed side level c = if side.has_readdatavalid then level c else if nat_eq side.read_latency 0 then one_later level c else level c

-- what stands above
abbrev pub agent_upper : Responses → AgentSide → AgentInputs → AgentState → TaggedPort
agent_upper responses side inputs state = record {
  port = record {
    shape = inputs.shape;
    commands =
        with_wait inputs.commands (λ c. one_if
        ((is_full side state c && is_raised (inputs.commands.signals.read c))
        || is_busy side (agent_view side inputs state) state c));
    answers = record {
      valid =
          λ c. if side.has_readdatavalid then inputs.readdatavalid c else one_if (is_some (state.row c (row_places side - 1)));
      word = timed side inputs.readdata;
      code = timed side (λ c. code_by responses (inputs.response c));
    };
  };
  answer_tag =
      λ c. if side.has_readdatavalid then head_tag (state.queue c)
      else by_option (state.row c (row_places side - 1)) 0 (λ tag. tag);
}

-- a row of registers one place on
abbrev pub moved_on : {A : Type 0} → A → (ℕ → A) → ℕ → A
moved_on {A} new row zero = new
moved_on {A} new row (suc place) = row place

abbrev pub agent_step : Responses → AgentSide → AgentInputs → AgentRegisters → ℕ → AgentRegisters
agent_step responses side inputs now c =
    let state = agent_state (λ _. now) in
    let up = agent_upper responses side inputs state in
    record {
      queue = queue_after up.port inputs.readdatavalid now.queue c;
      row = moved_on (if takes_read up.port c then Some (inputs.commands.tag c) else None) now.row;
      stood = stood_after side (agent_view side inputs state) c now.stood;
    }

abbrev pub agent_registers : Responses → AgentSide → AgentInputs → ℕ → AgentRegisters
agent_registers responses side inputs zero = agent_at_rest
agent_registers responses side inputs (suc c) = agent_step responses side inputs (agent_registers responses side inputs c) c

-- the shapes of the two sides fit, and the agent's unit divides its word
pub record SuitsAgent (side : AgentSide) (shape : Shape) : Type 0 where
  pub plan : IsAgentPlan side
  pub words : shape.word_bytes ≡ side.word_bytes
  pub bursts : shape.burst_bits ≡ side.burst_bits
  pub plain : IsFalse side.has_burst → side.burst_bits ≡ 1
  pub units : ℕ  -- in a word
  pub whole : side.word_bytes ≡ units * side.unit_bytes
