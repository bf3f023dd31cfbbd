-- The run of the machine of a host, for any commands of the host and any waits and answers below.
use Rattle.std.specs.Prelude.{ℕ, zero, suc, Bool, false, not, ◌&&◌, ◌||◌, List, [], if◌then◌else◌}
use Rattle.histories.specs.History.{is_raised, one_if}
use Rattle.memory_runs.specs.Views.{Signals, HostSide, HostView, Responses}
use Rattle.memory_runs.specs.Commands.{byte_address}
use Rattle.memory_machines.specs.Paths.{AnswerView}
use Rattle.memory_machines.specs.Link.{Port, takes}
use Rattle.memory_parts.specs.Queue.{Entry, takes_read, queue_after}
use Rattle.memory_parts.specs.Host.{HostState, is_shut, ends_now, left_past, response_by}

-- the commands of the host, and the wait and the answers below
pub record HostInputs : Type 0 where
  pub signals : Signals
  pub waitrequest : ℕ → ℕ
  pub answers : AnswerView

-- what the registers hold in one cycle
pub record HostRegisters : Type 0 where
  pub queue : List Entry
  pub left : ℕ
  pub asked : Bool

abbrev pub host_at_rest : HostRegisters
host_at_rest = record { queue = []; left = 0; asked = false }

abbrev pub host_state : (ℕ → HostRegisters) → HostState
host_state registers =
    record { queue = λ c. (registers c).queue; left = λ c. (registers c).left; asked = λ c. (registers c).asked }

-- what stands below; of the host's port it reads the commands alone
abbrev pub host_lower : HostSide → HostInputs → HostView → HostState → Port
host_lower side inputs view state = record {
  shape = record { word_bytes = side.word_bytes; unit_bytes = 1; burst_bits = side.burst_bits; has_enables = side.has_enables };
  commands = record {
    signals = record {
      read = λ c. if is_shut side state c then 0 else inputs.signals.read c;
      write = inputs.signals.write;
      address = λ c. byte_address side.shape (inputs.signals.address c);
      word = inputs.signals.word;
      enables = inputs.signals.enables;
      count = inputs.signals.count;
    };
    more = λ c. one_if (not (ends_now view state c));
    tag = λ c. 0;
    waitrequest = inputs.waitrequest;
  };
  answers = inputs.answers;
}

abbrev pub host_waits : HostSide → HostInputs → HostState → ℕ → Bool
host_waits side inputs state c =
    if is_raised (inputs.signals.read c) && not side.has_readdatavalid
    then not (state.asked c && is_raised (inputs.answers.valid c))
    else (is_shut side state c && is_raised (inputs.signals.read c)) || is_raised (inputs.waitrequest c)

-- the host's port
abbrev pub host_view : Responses → HostSide → HostInputs → HostState → HostView
host_view responses side inputs state = record {
  signals = inputs.signals;
  waitrequest = λ c. one_if (host_waits side inputs state c);
  readdata = inputs.answers.word;
  readdatavalid = λ c. if side.has_readdatavalid then inputs.answers.valid c else 0;
  response = response_by responses side inputs.answers;
}

abbrev pub host_step : Responses → HostSide → HostInputs → HostRegisters → ℕ → HostRegisters
host_step responses side inputs now c =
    let state = host_state (λ _. now) in
    let view = host_view responses side inputs state in
    let down = host_lower side inputs view state in
    record {
      queue = queue_after down inputs.answers.valid now.queue c;
      left = if takes down c && is_raised (inputs.signals.write c) then left_past view state c else now.left;
      asked = (now.asked || takes_read down c) && not (is_raised (inputs.answers.valid c));
    }

abbrev pub host_registers : Responses → HostSide → HostInputs → ℕ → HostRegisters
host_registers responses side inputs zero = host_at_rest
host_registers responses side inputs (suc c) = host_step responses side inputs (host_registers responses side inputs c) c
