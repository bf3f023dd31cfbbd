-- The machine of a pipe: stages in a row, each with two places for commands, and one register for an answer and its tag.
use Rattle.std.specs.Prelude.{◌≡◌, ℕ, suc, ◌+◌, ◌*◌, ◌<◌, ◌≤◌, true, false, List, length, replicate}
use Rattle.histories.specs.History.{is_raised}
use Rattle.memory_runs.specs.Views.{Shape}
use Rattle.memory_machines.specs.Paths.{CommandView, AnswerView}
use Rattle.memory_machines.specs.Link.{Target, Port, taken_at}
use Rattle.memory_machines.specs.Lines.{TaggedPort}
use Rattle.memory_machines.specs.Machines.{Raw, IsStageRun, port_of}
use Rattle.memory_links.specs.Going.{Pace}
use Rattle.memory_links.specs.Links.{LinkForm}

-- what a pipe shows at its boundaries, of which 0 is the highest, and the queue of each stage as each cycle begins
pub record PipeSides : Type 0 where
  pub shape : Shape
  pub commands : ℕ → CommandView
  pub answers : ℕ → AnswerView
  pub answer_tag : ℕ → ℕ → ℕ
  pub queue : ℕ → ℕ → List Raw

abbrev pub side_of : PipeSides → ℕ → Port
side_of pipe i = port_of pipe.shape (pipe.commands i) (pipe.answers i)

abbrev pub tagged_side : PipeSides → ℕ → TaggedPort
tagged_side pipe i = record { port = side_of pipe i; answer_tag = pipe.answer_tag i }

-- each stage runs as one, and waits exactly while both of its places are taken
pub record RunsAsPipe (stages : ℕ) (pipe : PipeSides) : Type 0 where
  pub stage : (i : ℕ) → i < stages → IsStageRun 2 (side_of pipe i) (side_of pipe (suc i)) (pipe.queue i)
  pub opens : (i c : ℕ) → i < stages → length (pipe.queue i c) < 2 → is_raised ((pipe.commands i).waitrequest c) ≡ false
  pub answer_tag : (i c : ℕ) → i < stages → pipe.answer_tag i (suc c) ≡ pipe.answer_tag (suc i) c

abbrev pub stage_pace : Pace
stage_pace = record { largest = 1; hold = 2 }

-- one stage as a link, and all of them
abbrev pub stage_form : Target → LinkForm
stage_form target =
    record { target = target; hold = 2; paces = replicate 1 stage_pace; word_for_word = true; makes_lanes = false }

-- at most two beats wait in each stage
abbrev pub HoldsFewBeats : ℕ → Port → Port → Type 0
HoldsFewBeats stages up down = (c : ℕ) → length (taken_at up c) ≤ length (taken_at down c) + 2 * stages
