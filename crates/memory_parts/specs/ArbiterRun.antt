-- The run of the machine of an arbiter, for any commands of the askers and any wait and answers below.
use Rattle.std.specs.Prelude.{ℕ, zero, suc, Bool, not, ◌&&◌, ◌||◌, List, None, nat_eq}
use Rattle.histories.specs.History.{is_raised, one_if}
use Rattle.memory_runs.specs.Views.{Shape, levels_at}
use Rattle.memory_runs.specs.Commands.{Burst, burst_after, shows}
use Rattle.memory_runs.specs.Order.{is_agent}
use Rattle.memory_machines.specs.Paths.{AnswerView}
use Rattle.memory_machines.specs.Link.{Port, takes, closes}
use Rattle.memory_machines.specs.Lines.{TaggedPort}
use Rattle.memory_machines.specs.Machines.{raw_at, mark, idle}
use Rattle.memory_machines.specs.Turns.{Grant, chosen, grant_after}
use Rattle.histories.specs.Turns.{Seat}
use Rattle.memory_parts.specs.Queue.{by_option}
use Rattle.memory_parts.specs.Inputs.{Commands, with_wait}

-- the commands of each asker, and the wait and the answers with their tags below
pub record ArbiterInputs : Type 0 where
  pub shape : Shape
  pub asker : ℕ → Commands
  pub waitrequest : ℕ → ℕ
  pub answers : AnswerView
  pub answer_tag : ℕ → ℕ

abbrev pub asks_now : ArbiterInputs → ℕ → ℕ → Bool
asks_now inputs c host = shows (inputs.asker host).signals c

-- whose beat is shown, and one of the levels of that beat
abbrev pub shown_host : ArbiterInputs → (ℕ → Grant) → ℕ → (ℕ → ℕ) → ℕ
shown_host inputs grant c level = by_option (chosen (grant c) (asks_now inputs c)).host 0 level

-- what stands below
abbrev pub arbiter_lower : ArbiterInputs → (ℕ → Grant) → TaggedPort
arbiter_lower inputs grant = record {
  port = record {
    shape = inputs.shape;
    commands = record {
      signals = record {
        read = λ c. shown_host inputs grant c (λ host. (inputs.asker host).signals.read c);
        write = λ c. shown_host inputs grant c (λ host. (inputs.asker host).signals.write c);
        address = λ c. shown_host inputs grant c (λ host. (inputs.asker host).signals.address c);
        word = λ c. shown_host inputs grant c (λ host. (inputs.asker host).signals.word c);
        enables = λ c. shown_host inputs grant c (λ host. (inputs.asker host).signals.enables c);
        count = λ c. shown_host inputs grant c (λ host. (inputs.asker host).signals.count c);
      };
      more = λ c. shown_host inputs grant c (λ host. (inputs.asker host).more c);
      tag = λ c. shown_host inputs grant c (λ host. (inputs.asker host).tag c);
      waitrequest = inputs.waitrequest;
    };
    answers = inputs.answers;
  };
  answer_tag = inputs.answer_tag;
}

-- what stands above, of each asker
abbrev pub arbiter_upper : ArbiterInputs → (ℕ → Grant) → ℕ → Port
arbiter_upper inputs grant host = record {
  shape = inputs.shape;
  commands =
      with_wait
      (inputs.asker host) (λ c. one_if
      (not (is_agent host (chosen (grant c) (asks_now inputs c)).host) || is_raised (inputs.waitrequest c)));
  answers = record {
    valid = λ c. one_if (is_raised (inputs.answers.valid c) && nat_eq (inputs.answer_tag c) host);
    word = inputs.answers.word;
    code = inputs.answers.code;
  };
}

-- what the registers hold in one cycle. Where each asker's burst stands is told by what it has had taken, and is of no register
-- in nets
pub record ArbiterRegisters : Type 0 where
  pub grant : Grant
  pub bursts : ℕ → Burst

abbrev pub arbiter_at_rest : List Seat → ArbiterRegisters
arbiter_at_rest seats =
    record { grant = record { open_host = None; round = record { left = 0; ring = seats } }; bursts = λ host. idle }

abbrev pub arbiter_step : ArbiterInputs → ArbiterRegisters → ℕ → ArbiterRegisters
arbiter_step inputs now c =
    let up = arbiter_upper inputs (λ _. now.grant) in
    let down = arbiter_lower inputs (λ _. now.grant) in
    record {
      grant =
          grant_after now.grant
          (chosen now.grant (asks_now inputs c)) (λ host. takes down.port c
          && closes (mark inputs.shape (now.bursts host) (raw_at (up host) c)));
      bursts = λ host. burst_after inputs.shape (levels_at (inputs.asker host).signals c) (takes (up host) c) (now.bursts host);
    }

abbrev pub arbiter_registers : List Seat → ArbiterInputs → ℕ → ArbiterRegisters
arbiter_registers seats inputs zero = arbiter_at_rest seats
arbiter_registers seats inputs (suc c) = arbiter_step inputs (arbiter_registers seats inputs c) c

abbrev pub arbiter_grant : List Seat → ArbiterInputs → ℕ → Grant
arbiter_grant seats inputs c = (arbiter_registers seats inputs c).grant
