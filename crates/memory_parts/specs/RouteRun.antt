-- The run of the machine of a route, for any commands above and any waits and answers below.
use Rattle.std.specs.Prelude.{ℕ, zero, suc, ◌+◌, ◌-◌, Bool, false, not, ◌||◌, if◌then◌else◌, nat_lt, Option, None}
use Rattle.histories.specs.History.{is_raised, one_if}
use Rattle.memory_runs.specs.Views.{System, Shape, Responses}
use Rattle.memory_machines.specs.Paths.{AnswerView}
use Rattle.memory_machines.specs.Link.{Port, takes}
use Rattle.memory_parts.specs.Queue.{takes_read, by_option}
use Rattle.memory_parts.specs.Inputs.{Commands, with_wait}
use Rattle.memory_parts.specs.Route.{RouteState, place_now, is_open, goes_to, read_count, default_code_by}

-- the commands above, and of each place the wait and the answers
pub record RouteInputs : Type 0 where
  pub shape : Shape
  pub commands : Commands
  pub waitrequest : ℕ → ℕ → ℕ
  pub answers : ℕ → AnswerView

-- what the registers hold in one cycle
pub record RouteRegisters : Type 0 where
  pub inside : Bool
  pub kept : Option ℕ
  pub owed : ℕ
  pub owing : Option ℕ

abbrev pub route_at_rest : RouteRegisters
route_at_rest = record { inside = false; kept = None; owed = 0; owing = None }

abbrev pub route_state : (ℕ → RouteRegisters) → RouteState
route_state registers = record {
  inside = λ c. (registers c).inside;
  kept = λ c. (registers c).kept;
  owed = λ c. (registers c).owed;
  owing = λ c. (registers c).owing;
}

-- the commands above, as a side that never waits and is never answered
abbrev pub asked_side : RouteInputs → Port
asked_side inputs =
    record {
      shape =
          inputs.shape;
      commands =
          with_wait inputs.commands (λ _. 0);
      answers = record { valid = λ _. 0; word = λ _. 0; code = λ _. 0 };
    }

-- what stands above
abbrev pub route_upper : Responses → System → ℕ → RouteInputs → RouteState → Port
route_upper responses system host inputs state = record {
  shape = inputs.shape;
  commands = with_wait inputs.commands (λ c. one_if (not (is_open system host (asked_side inputs) state c)
      || by_option (place_now system host (asked_side inputs) state c) false (λ a. is_raised (inputs.waitrequest a c))));
  answers = record {
    valid = λ c. one_if (by_option (state.owing c) (nat_lt 0 (state.owed c)) (λ a. is_raised ((inputs.answers a).valid c)));
    word = λ c. by_option (state.owing c) 0 (λ a. (inputs.answers a).word c);
    code = λ c. by_option (state.owing c) (default_code_by responses) (λ a. (inputs.answers a).code c);
  };
}

-- what stands below, at each place
abbrev pub route_lower : System → ℕ → RouteInputs → RouteState → ℕ → Port
route_lower system host inputs state a = record {
  shape = inputs.shape;
  commands = record {
    signals = record {
      read = λ c. if goes_to system host (asked_side inputs) state a c then inputs.commands.signals.read c else 0;
      write = λ c. if goes_to system host (asked_side inputs) state a c then inputs.commands.signals.write c else 0;
      address = inputs.commands.signals.address;
      word = inputs.commands.signals.word;
      enables = inputs.commands.signals.enables;
      count = inputs.commands.signals.count;
    };
    more = inputs.commands.more;
    tag = λ c. host;
    waitrequest = inputs.waitrequest a;
  };
  answers = inputs.answers a;
}

abbrev pub route_step : Responses → System → ℕ → RouteInputs → RouteRegisters → ℕ → RouteRegisters
route_step responses system host inputs now c =
    let state = route_state (λ _. now) in
    let up = route_upper responses system host inputs state in
    record {
      inside = if takes up c then is_raised (inputs.commands.more c) else now.inside;
      kept = place_now system host up state c;
      owed = (now.owed + read_count up c) - one_if (is_raised (up.answers.valid c));
      owing = if takes_read up c then place_now system host up state c else now.owing;
    }

abbrev pub route_registers : Responses → System → ℕ → RouteInputs → ℕ → RouteRegisters
route_registers responses system host inputs zero = route_at_rest
route_registers responses system host inputs (suc c) =
    route_step responses system host inputs (route_registers responses system host inputs c) c
