-- What is kept with the words that wait.
use Rattle.std.specs.Prelude.{◌≡◌, ◌≤◌, ◌*◌, ℕ, List, [], ◌∷◌, length}
use Rattle.stand_ins.specs.declared.waiting.Waiting.{Waiting}
use Rattle.stand_ins.specs.Answers.{commands_among}

-- from each word on there are no more than a longest burst for each command that ends
abbrev pub AreGrouped : ℕ → List Waiting → Type 0
AreGrouped longest [] = Unit {0}
AreGrouped longest (first ∷ later) =
    (length (first ∷ later) ≤ longest * commands_among (first ∷ later)) × AreGrouped longest later

-- the words that wait as contracts see them: how many words a command may have, and how many commands there may be
pub record WaitingValue : Type 0 where
  pub waiting : List Waiting
  pub longest : ℕ
  pub pending : ℕ

pub record FitRoom (waiting : List Waiting) (commands longest pending room : ℕ) : Type 0 where
  pub counted : commands ≡ commands_among waiting
  pub few : commands ≤ pending
  pub grouped : AreGrouped longest waiting
  pub roomy : longest * pending ≤ room
