-- Two links in a row, and what a side gives back.
use Rattle.std.specs.Prelude.{ℕ, ◌*◌, ◌<◌, ◌≤◌, length, IsTrue}
use Rattle.histories.specs.History.{is_raised}
use Rattle.memory_runs.specs.Operations.{pieces}
use Rattle.memory_machines.specs.Link.{Target, Port, KeepsLinkLaw, HasRightBytes, words_at}
use Rattle.memory_machines.specs.Lines.{KeepsRow}

-- a link between the upper and the middle port, and one between the middle and the lower port
pub record LinkPair : Type 0 where
  pub target : Target
  pub up : Port
  pub middle : Port
  pub down : Port
  pub first_hold : ℕ
  pub second_hold : ℕ

-- each of the two keeps the law of a link
pub record KeepLinkLaws (pair : LinkPair) (end : ℕ) : Type 0 where
  pub first : KeepsLinkLaw pair.target pair.first_hold pair.up pair.middle end
  pub second : KeepsLinkLaw pair.target pair.second_hold pair.middle pair.down end

-- each of the two is a row of links
pub record KeepRows (pair : LinkPair) (end : ℕ) : Type 0 where
  pub first : KeepsRow pair.target pair.first_hold pair.up pair.middle end
  pub second : KeepsRow pair.target pair.second_hold pair.middle pair.down end

-- a word comes in no more pieces by way of the middle than straight down
abbrev pub AddsNoPieces : LinkPair → Type 0
AddsNoPieces pair =
    pieces pair.middle.shape pair.down.shape * pieces pair.up.shape pair.middle.shape ≤ pieces pair.up.shape pair.down.shape

-- each word that comes at the upper port holds the bytes of its answers below
abbrev pub BringsRightBytes : Target → Port → Port → ℕ → Type 0
BringsRightBytes target up down end =
    (c : ℕ) → c < end → IsTrue (is_raised (up.answers.valid c)) → HasRightBytes target up down (length (words_at up c)) c
