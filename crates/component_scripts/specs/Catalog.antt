-- Components by the names of their types.
use Rattle.std.specs.Prelude.{◌≡◌, ℕ, Bool, true, ◌||◌, List, Option, is_some, map, codes}
use Rattle.std.specs.Str.{bytes_eq}
use Rattle.script_words.specs.declared.faults.ScriptFault.{ScriptFault}
use Rattle.script_words.specs.declared.faults.ScriptFault.TheVariants.{Refused, NoMemory}
use Rattle.script_words.specs.declared.faults.ScriptRule.TheVariants.{Command}
use Rattle.script_words.specs.declared.rule.CommandRule.TheVariants.{TypeTaken}
use Rattle.script_words.specs.Rules.{rule_number}
use Rattle.script_words.specs.Names.{place_of}
use Rattle.component_scripts.specs.Tables.{ComponentTable}

-- the names of the types, in order
abbrev pub types_of : List ComponentTable → List (List ℕ)
types_of components = map (λ (component : ComponentTable). component.name) components

-- the place of a type
abbrev pub type_place : List ComponentTable → List ℕ → Option ℕ
type_place components name = place_of (types_of components) name

-- C15: a type that is there already, or `clock_source`
unfoldable pub is_refused : List ComponentTable → ComponentTable → Bool
is_refused components component =
    bytes_eq component.name (codes "clock_source") || is_some (type_place components component.name)

-- what is kept of a catalog: the names in order
pub record IsCatalog (names : List (List ℕ)) (components : List ComponentTable) : Type 0 where
  pub all : names ≡ types_of components

-- a fault in adding a component: C15 at the name of its type, where that is refused, or want of memory
abbrev pub IsAddFault : List ComponentTable → ComponentTable → ScriptFault → Type 0
IsAddFault components component (Refused place rule) =
    (is_refused components component ≡ true) × (place ≡ component.place) × (rule ≡ Command (rule_number TypeTaken))
IsAddFault components component NoMemory = Unit {0}
