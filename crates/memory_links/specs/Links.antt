-- All that a link promises.
use Rattle.std.specs.Prelude.{◌≡◌, ℕ, ◌+◌, ◌*◌, ◌≤◌, ◌-◌, Bool, ◌&&◌, ◌||◌, List, [], ◌∷◌, ◌++◌, true, false, IsTrue, IsFalse}
use Rattle.memory_runs.specs.Operations.{pieces}
use Rattle.memory_machines.specs.Link.{Target, Port, AreLegalAt, AnswersAreOwed, shown_at}
use Rattle.memory_machines.specs.Lines.{KeepsRow, IsWordForWord, HasLanes}
use Rattle.memory_machines.specs.Straight.{GoesStraightThrough, IsShownPromptly, are_answered}
use Rattle.memory_machines.specs.PartRanks.{JoinsAlike}
use Rattle.memory_links.specs.Going.{Pace, RowGoesOn}

-- before an agent without byte enables no beat without an operation is shown below: where none is shown above, or anyhow
abbrev pub BringsLanesDown : Bool → Target → Port → Port → ℕ → Type 0
BringsLanesDown makes_lanes target up down end =
    (c : ℕ) → c ≤ end → AreLegalAt up c → AnswersAreOwed down (c - 1) → (IsFalse makes_lanes → HasLanes target up c)
    → HasLanes target down c

abbrev pub HandsOnJoins : Target → Port → Port → ℕ → Type 0
HandsOnJoins target up down end =
    (c : ℕ) → c ≤ end → AreLegalAt up c → AnswersAreOwed down (c - 1) → JoinsAlike target up c → JoinsAlike target down c

-- where all words of what was shown above are answered, so are all of what was shown below
abbrev pub OwesNothingBelow : Port → Port → ℕ → Type 0
OwesNothingBelow up down end =
    (c : ℕ) → c ≤ end → AreLegalAt up c → AnswersAreOwed down c → IsTrue (are_answered up (shown_at up c) c)
    → IsTrue (are_answered down (shown_at down c) c)

-- what differs among links
pub record LinkForm : Type 0 where
  pub target : Target
  pub hold : ℕ  -- transfers accepted above and not wholly taken below
  pub paces : List Pace  -- of the links in the row, the highest first
  pub word_for_word : Bool  -- each word that holds an answer is a word from below
  pub makes_lanes : Bool  -- no beat without an operation is shown below

-- what a link does with commands and answers in one run, and what its commands hand on
pub record IsLink (form : LinkForm) (up down : Port) (end : ℕ) : Type 0 where
  pub row : KeepsRow form.target form.hold up down end
  pub words : IsTrue form.word_for_word → IsWordForWord form.target up down end
  pub lanes : BringsLanesDown form.makes_lanes form.target up down end
  pub joins : HandsOnJoins form.target up down end
  pub quiet : OwesNothingBelow up down end
  pub goes_on : AreLegalAt up end → AnswersAreOwed down end → JoinsAlike form.target up end
      → RowGoesOn form.target end form.paces up down

-- two links in a row
abbrev pub chain_form : LinkForm → LinkForm → LinkForm
chain_form first second = record {
  target = first.target;
  hold = first.hold + second.hold;
  paces = first.paces ++ second.paces;
  word_for_word = first.word_for_word && second.word_for_word;
  makes_lanes = first.makes_lanes || second.makes_lanes;
}

-- two links, one behind the other, are for one agent, add no pieces, and all but one are word for word
pub record FormsFit (first second : LinkForm) (up middle down : Port) : Type 0 where
  pub target : first.target ≡ second.target
  pub pieces : pieces middle.shape down.shape * pieces up.shape middle.shape ≤ pieces up.shape down.shape
  pub words : IsTrue (first.word_for_word || second.word_for_word)

-- how a link serves a host that waits for it: a plain command goes straight through it, and a first beat is shown within a few
-- cycles
pub record IsStraightLink (few : ℕ) (ahead may_burst : Bool) (target : Target) (up down : Port) (end : ℕ) : Type 0 where
  pub straight : AreLegalAt up end → AnswersAreOwed down end → GoesStraightThrough (λ c. ahead) target up down end
  pub prompt : AreLegalAt up end → AnswersAreOwed down end → IsShownPromptly few may_burst target up down end

-- a wire
abbrev pub pass_form : Target → LinkForm
pass_form target =
    record { target = target; hold = 0; paces = record { largest = 0; hold = 0 } ∷ []; word_for_word = true; makes_lanes = false }
