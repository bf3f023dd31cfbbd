-- What can be done, or is refused for a fault.
use Rattle.std.specs.Prelude.{◌≡◌}
use Rattle.answer_lines.specs.declared.exit.Exit.{Exit}
use Rattle.answer_lines.specs.declared.exit.Exit.TheVariants as exit

-- the answer is that of a fault of which this holds
pub record IsAnswerOf {F : Type 0} (IsFault : F → Type 0) (answer_of : F → Exit) (answer : Exit) : Type 0 where
  pub fault : F
  pub refused : IsFault fault
  pub answer_is : answer ≡ answer_of fault

-- the answer that is called for where this can be done, or there is a fault
abbrev pub DoneOrRefused : {F : Type 0} → Type 0 → (F → Type 0) → (F → Exit) → Exit → Type 0
DoneOrRefused Can IsFault answer_of exit.Done = Can
DoneOrRefused Can IsFault answer_of answer = IsAnswerOf IsFault answer_of answer
