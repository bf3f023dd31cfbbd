-- What one file states, and what refuses it. What its script states and what refuses that are arguments.
use Rattle.std.specs.Prelude.{◌≡◌, ℕ, List, Some, ◌⊎◌}
use Rattle.av_base.specs.declared.faults.Place.{Place}
use Rattle.tcl_words.specs.Reading.{Fault, first_word_fault}
use Rattle.tcl_words.specs.Rules.{number_of}
use Rattle.tcl_words.specs.Script.{Script}
use Rattle.tcl_words.specs.Spelling.{Spells}
use Rattle.script_words.specs.declared.faults.ScriptRule.{ScriptRule}
use Rattle.script_words.specs.declared.faults.ScriptRule.TheVariants.{Words}

-- the bytes of a file spell a script that states this
pub record States {X : Type 0} (says : Script → X → Type 0) (file : ℕ) (bytes : List ℕ) (stated : X) : Type 0 where
  pub script : Script
  pub spelled : Spells file bytes script
  pub is : says script stated

-- the bytes of a file spell no script: this is their first fault, by one of the T rules
pub record IsMisspelled (file : ℕ) (bytes : List ℕ) (place : Place) (rule : ScriptRule) : Type 0 where
  pub fault : Fault
  pub first : first_word_fault file bytes ≡ Some fault
  pub place_is : place ≡ fault.place
  pub rule_is : rule ≡ Words (number_of fault.rule)

-- the bytes of a file spell a script that this rule refuses at this place
pub record IsMisstated (refuses : Script → Place → ScriptRule → Type 0) (file : ℕ) (bytes : List ℕ) (place : Place)
    (rule : ScriptRule) : Type 0 where
  pub script : Script
  pub spelled : Spells file bytes script
  pub is : refuses script place rule

-- a rule refuses a file at this place: its words are judged first
abbrev pub IsRefused : (Script → Place → ScriptRule → Type 0) → ℕ → List ℕ → Place → ScriptRule → Type 0
IsRefused refuses file bytes place rule = IsMisspelled file bytes place rule ⊎ IsMisstated refuses file bytes place rule
