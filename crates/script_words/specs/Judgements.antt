-- From what refuses a command to what refuses a script.
use Rattle.std.specs.Prelude.{◌≡◌, Bool, true, false, List, [], ◌∷◌, Option, Some, None, Result, Err}
use Rattle.std.specs.Option.{option_or}
use Rattle.tcl_words.specs.declared.words.Word.{Word}
use Rattle.script_words.specs.declared.rule.CommandRule.TheVariants.{WrongCount}
use Rattle.script_words.specs.declared.faults.ScriptFault.{ScriptFault}
use Rattle.script_words.specs.declared.faults.ScriptFault.TheVariants.{Refused, NoMemory}
use Rattle.script_words.specs.declared.judge.Refusal.{Refusal}
use Rattle.script_words.specs.Words.{refused_at}

-- what refuses a command, where it has a right number of words; else that
abbrev pub counted : Bool → List Word → Option Refusal → Option Refusal
counted true words refusal = refusal
counted false words refusal = Some (refused_at words WrongCount 0)

-- what the first item with an answer has
abbrev pub first_some : {A B : Type 0} → (A → Option B) → List A → Option B
first_some f [] = None
first_some f (x ∷ xs) = option_or (f x) (first_some f xs)

-- an answer, unless something refuses it
abbrev pub judged : {A : Type 0} → Option Refusal → Result A Refusal → Result A Refusal
judged None answer = answer
judged (Some refusal) answer = Err refusal

-- a fault is the refusal of this result, or want of memory
abbrev pub IsFaultOf : {A : Type 0} → ScriptFault → Result A Refusal → Type 0
IsFaultOf (Refused place rule) answer = answer ≡ Err (record { place = place; rule = rule })
IsFaultOf NoMemory answer = Unit {0}
