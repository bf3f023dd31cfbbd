-- Runs of what gathers, for all that is shown to it: the registers are told by recursion on the cycle.
use Rattle.std.specs.Prelude.{ℕ, zero, suc, ◌+◌, ◌*◌, ◌/◌, ◌%◌, ◌^◌, ◌&&◌, ◌||◌, Bool, not, List, [], ◌++◌, length, drop, if◌then◌else◌, nat_lt}
use Rattle.histories.specs.History.{is_raised, one_if, only_if}
use Rattle.memory_runs.specs.Views.{Shape, levels_at}
use Rattle.memory_runs.specs.Commands.{shows}
use Rattle.memory_runs.specs.Legal.{Word}
use Rattle.memory_machines.specs.Link.{Port, is_nonempty}
use Rattle.memory_machines.specs.Machines.{Raw}
use Rattle.memory_machines.specs.Paths.{AnswerView}
use Rattle.memory_links.specs.Driven.{Inputs, signals_of}
use Rattle.memory_links.specs.Gathers.{GatherState, Entry, first_entry, first_word, gathered}
use Rattle.memory_links.specs.Selects.{offset_in, silenced}

pub record GatherInputs : Type 0 where
  pub narrow : Shape
  pub wide : Shape
  pub room : ℕ
  pub inputs : Inputs

-- the registers in one cycle
pub record GatherRegisters : Type 0 where
  pub entries : List Entry
  pub words : List Word
  pub given : ℕ

abbrev pub gather_at_rest : GatherRegisters
gather_at_rest = record { entries = []; words = []; given = 0 }

abbrev pub gather_shuts : GatherInputs → GatherRegisters → ℕ → Bool
gather_shuts given now c = not (is_raised (given.inputs.signals.write c)) && not (nat_lt (length now.entries) given.room)

abbrev pub gather_part : GatherInputs → GatherRegisters → ℕ → Raw
gather_part given now c = record {
  levels = silenced (gather_shuts given now c) (gathered given.narrow given.wide (levels_at given.inputs.signals c));
  more = given.inputs.more c;
  tag = given.inputs.tag c;
}

abbrev pub gather_waits : GatherInputs → GatherRegisters → ℕ → ℕ
gather_waits given now c = one_if (gather_shuts given now c || is_raised (given.inputs.waitrequest c))

abbrev pub gather_held : GatherInputs → GatherRegisters → ℕ → List Word
gather_held given now c =
    now.words ++ only_if (is_raised (given.inputs.answers.valid c) && nat_lt (length now.words) (length now.entries))
    (record { word = given.inputs.answers.word c; code = given.inputs.answers.code c })

abbrev pub gather_last : GatherInputs → GatherRegisters → ℕ → Bool
gather_last given now c = is_nonempty (gather_held given now c) && not (nat_lt (suc now.given) (first_entry now.entries).count)

-- where the narrow word that is given stands in the wide one
abbrev pub gather_place : GatherInputs → GatherRegisters → ℕ
gather_place given now = ((first_entry now.entries).offset + now.given * given.narrow.word_bytes) % given.wide.word_bytes

abbrev pub gather_step : GatherInputs → GatherRegisters → ℕ → GatherRegisters
gather_step given now c =
    record {
      entries = drop (one_if (gather_last given now c)) now.entries
          ++ only_if
          ((shows given.inputs.signals c && not (is_raised (gather_waits given now c)))
          && not (is_raised (given.inputs.signals.write c)))
          (record {
            offset =
                offset_in given.narrow given.wide (given.inputs.signals.address c);
            count = given.inputs.signals.count c;
          });
      words = drop (one_if (gather_last given now c)) (gather_held given now c);
      given = if gather_last given now c then 0 else if is_nonempty (gather_held given now c) then suc now.given else now.given;
    }

abbrev pub gather_registers : GatherInputs → ℕ → GatherRegisters
gather_registers given zero = gather_at_rest
gather_registers given (suc c) = gather_step given (gather_registers given c) c

abbrev pub gather_state_with : (ℕ → GatherRegisters) → GatherState
gather_state_with registers =
    record { entries = λ c. (registers c).entries; words = λ c. (registers c).words; given = λ c. (registers c).given }

abbrev pub gather_state : GatherInputs → GatherState
gather_state given = gather_state_with (gather_registers given)

abbrev pub gather_answers_with : GatherInputs → (ℕ → GatherRegisters) → AnswerView
gather_answers_with given registers = record {
  valid = λ c. one_if (is_nonempty (gather_held given (registers c) c));
  word =
      λ c. ((first_word (gather_held given (registers c) c)).word / 256 ^ gather_place given
      (registers c)) % 256 ^ given.narrow.word_bytes;
  code = λ c. (first_word (gather_held given (registers c) c)).code;
}

abbrev pub gather_above_with : GatherInputs → (ℕ → GatherRegisters) → Port
gather_above_with given registers = record {
  shape = given.narrow;
  commands =
      record {
        signals =
            given.inputs.signals;
        more =
            given.inputs.more;
        tag = given.inputs.tag;
        waitrequest = λ c. gather_waits given (registers c) c;
      };
  answers = gather_answers_with given registers;
}

abbrev pub gather_above : GatherInputs → Port
gather_above given = gather_above_with given (gather_registers given)

abbrev pub gather_below_with : GatherInputs → (ℕ → GatherRegisters) → Port
gather_below_with given registers = record {
  shape = given.wide;
  commands = record {
    signals = signals_of (λ c. (gather_part given (registers c) c).levels);
    more = given.inputs.more;
    tag = given.inputs.tag;
    waitrequest = given.inputs.waitrequest;
  };
  answers = given.inputs.answers;
}

abbrev pub gather_below : GatherInputs → Port
gather_below given = gather_below_with given (gather_registers given)
