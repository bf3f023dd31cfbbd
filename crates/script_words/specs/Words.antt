-- The words of a command, and what is asked of them.
use Rattle.std.specs.Prelude.{◌≡◌, ℕ, Bool, false, List, [], Option, Some, is_none, find, slice_get}
use Rattle.std.specs.Option.{option_map, option_map_or}
use Rattle.av_base.specs.declared.faults.Place.{Place}
use Rattle.tcl_words.specs.declared.words.Word.{Word}
use Rattle.script_words.specs.declared.faults.ScriptFault.{ScriptFault}
use Rattle.script_words.specs.declared.faults.ScriptFault.TheVariants.{Refused, NoMemory}
use Rattle.script_words.specs.declared.faults.ScriptRule.TheVariants.{Command}
use Rattle.script_words.specs.declared.rule.CommandRule.{CommandRule}
use Rattle.script_words.specs.declared.judge.Check.{Check}
use Rattle.script_words.specs.declared.judge.Refusal.{Refusal}
use Rattle.script_words.specs.Kinds.{kind_named, side_named}
use Rattle.script_words.specs.Rules.{rule_number}

-- the text of a command's word, counted from its name; empty where the command has no such word
unfoldable pub text_at : List Word → ℕ → List ℕ
text_at words k = option_map_or (λ word. word.text) (slice_get words k) []

-- where a command's word stands
unfoldable pub place_at : List Word → ℕ → Place
place_at words k = option_map_or (λ word. word.place) (slice_get words k) (record { file = 0; line = 0; byte = 0 })

-- the rule is asked of this word, and may fail there
abbrev pub check : CommandRule → ℕ → Bool → Check
check rule word fails = record { rule = rule; word = word; fails = fails }

-- the rule refuses the command at this word
abbrev pub refused_at : List Word → CommandRule → ℕ → Refusal
refused_at words rule word = record { place = place_at words word; rule = Command (rule_number rule) }

-- what refuses a command of which all this is asked: the least rule that fails, at the first word where it does.
-- Checks are listed by rule, and then by word.
unfoldable pub refusal_of : List Word → List Check → Option Refusal
refusal_of words checks = option_map (λ failed. refused_at words failed.rule failed.word) (find (λ asked. asked.fails) checks)

-- a fault is this refusal, or want of memory
abbrev pub IsRefusal : ScriptFault → Option Refusal → Type 0
IsRefusal (Refused place rule) refusal = refusal ≡ Some (record { place = place; rule = rule })
IsRefusal NoMemory refusal = Unit {0}

-- the words `KIND DIRECTION` of `add_interface` don't fit each other; an unknown kind is another rule's
unfoldable pub is_misdirected : List Word → Bool
is_misdirected words = option_map_or (λ kind. is_none (side_named kind (text_at words 3))) (kind_named (text_at words 2)) false
