-- What a run shows on a path inside the module, as functions of the cycle.
use Rattle.std.specs.Prelude.{ℕ}
use Rattle.memory_runs.specs.Views.{Signals}

-- a command path. `more` joins a command to the next one, `tag` is the number of its host
pub record CommandView : Type 0 where
  pub signals : Signals
  pub open signals use *
  pub more : ℕ → ℕ
  pub tag : ℕ → ℕ
  pub waitrequest : ℕ → ℕ

-- an answer path
pub record AnswerView : Type 0 where
  pub valid : ℕ → ℕ
  pub word : ℕ → ℕ
  pub code : ℕ → ℕ
