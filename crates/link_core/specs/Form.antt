-- What a link keeps, between its two sides.
use Rattle.std.specs.Prelude.{◌≡◌, ℕ, ◌*◌, ◌≤◌, ◌||◌, false, IsTrue}
use Rattle.memory_runs.specs.Views.{Shape}
use Rattle.memory_runs.specs.Operations.{pieces}
use Rattle.memory_machines.specs.Link.{Target, Port, AreLegalAt, AnswersAreOwed}
use Rattle.memory_machines.specs.PartRanks.{JoinsAlike}
use Rattle.memory_machines.specs.Straight.{GoesStraightThrough}
use Rattle.memory_links.specs.InStep.{GoesInStep}
use Rattle.memory_links.specs.Links.{LinkForm, IsLink, chain_form}

-- the shapes of both sides, and what differs among links
pub record Form : Type 0 where
  pub up : Shape
  pub down : Shape
  pub link : LinkForm

-- all that a link promises, in the cycles before `end`. Joined commands above it are alike, as they are behind a route
abbrev pub KeepsLaw : Form → Port → Port → ℕ → Type 0
KeepsLaw form up down end = JoinsAlike form.link.target up end → IsLink form.link up down end

-- plain commands go straight through it, and it goes in step, in the cycles before `end`
pub record IsStraight (target : Target) (up down : Port) (end : ℕ) : Type 0 where
  pub straight : GoesStraightThrough (λ c. false) target up down end
  pub step : GoesInStep false target up down end

-- where commands above are legal and joined ones alike, and answers below are owed
abbrev pub KeepsStraight : Form → Port → Port → ℕ → Type 0
KeepsStraight form up down end =
    AreLegalAt up end → AnswersAreOwed down end → JoinsAlike form.link.target up end → IsStraight form.link.target up down end

abbrev pub form_of_chain : Form → Form → Form
form_of_chain first second = record { up = first.up; down = second.down; link = chain_form first.link second.link }

-- the forms of two links, one behind the other, fit: for one agent, no more pieces, and all but one are word for word
pub record FormsFit (first second : Form) : Type 0 where
  pub same_side : first.down ≡ second.up
  pub target : first.link.target ≡ second.link.target
  pub pieces : pieces first.down second.down * pieces first.up first.down ≤ pieces first.up second.down
  pub words : IsTrue (first.link.word_for_word || second.link.word_for_word)
