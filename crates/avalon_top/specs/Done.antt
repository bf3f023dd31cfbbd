-- What calls for its result, whatever it is.
use Rattle.answer_lines.specs.declared.exit.Exit.{Exit}
use Rattle.answer_lines.specs.declared.exit.Exit.TheVariants as exit

-- it is written, where nothing fails: a workload of each number is run, and a module of each size is made
abbrev pub CallsForDone : Exit → Type 0
CallsForDone exit.Done = Unit {0}
CallsForDone _ = ⊥
