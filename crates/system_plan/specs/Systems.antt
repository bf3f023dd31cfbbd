-- The system that files state. The first file is the system file, and those behind it are component files. Files are numbered
-- from 1, so the first component file is file 2.
use Rattle.std.specs.Prelude.{◌≡◌, ℕ, ◌+◌, true, false, List, length, drop, take, slice_get, Some, Ok, ◌⊎◌}
use Rattle.av_base.specs.declared.faults.Place.{Place}
use Rattle.tcl_words.specs.Script.{Script}
use Rattle.script_words.specs.declared.faults.ScriptFault.TheVariants.{Refused}
use Rattle.script_words.specs.declared.faults.ScriptRule.{ScriptRule}
use Rattle.script_words.specs.declared.faults.ScriptRule.TheVariants.{Command}
use Rattle.component_scripts.specs.Catalog.{is_refused}
use Rattle.system_scripts.specs.Clocks.{system_of}
use Rattle.component_scripts.specs.Component.{component_of}
use Rattle.script_words.specs.Judgements.{IsFaultOf}
use Rattle.system_tables.specs.Tables.{SystemTable}
use Rattle.component_scripts.specs.Tables.{ComponentTable}
use Rattle.system_plan.specs.Scripts.{States, IsRefused}

-- the script states this component, and no earlier component has its type
pub record SaysComponent (earlier : List ComponentTable) (script : Script) (component : ComponentTable) : Type 0 where
  pub stated : component_of script ≡ Ok component
  pub new_type : is_refused earlier component ≡ false

-- C15, at the name of the type: an earlier component has the type that the script states
pub record IsTypeTaken (earlier : List ComponentTable) (script : Script) (place : Place) (rule : ScriptRule) : Type 0 where
  pub component : ComponentTable
  pub stated : component_of script ≡ Ok component
  pub taken : is_refused earlier component ≡ true
  pub place_is : place ≡ component.place
  pub rule_is : rule ≡ Command 15

-- a rule refuses the component of a script; C15 is judged last
abbrev pub RefusesComponent : List ComponentTable → Script → Place → ScriptRule → Type 0
RefusesComponent earlier script place rule =
    IsFaultOf (Refused place rule) (component_of script) ⊎ IsTypeTaken earlier script place rule

-- the component files state these components, in order, each behind those before it
pub record AreComponents (component_files : List (List ℕ)) (components : List ComponentTable) : Type 0 where
  pub count : length components ≡ length component_files
  pub each : (k : ℕ) (bytes : List ℕ) (component : ComponentTable) → slice_get component_files k ≡ Some bytes
      → slice_get components k ≡ Some component
      → States (SaysComponent (take k components)) (k + 2) bytes component

-- the script states this system over the components
abbrev pub SaysSystem : List ComponentTable → Script → SystemTable → Type 0
SaysSystem components script system = system_of components script ≡ Ok system

abbrev pub RefusesSystem : List ComponentTable → Script → Place → ScriptRule → Type 0
RefusesSystem components script place rule = IsFaultOf (Refused place rule) (system_of components script)

-- the files state this system: the system file states it over the components of the component files
pub record IsSystemOf (files : List (List ℕ)) (system : SystemTable) : Type 0 where
  pub components : List ComponentTable
  pub are_components : AreComponents (drop 1 files) components
  pub bytes : List ℕ
  pub first : slice_get files 0 ≡ Some bytes
  pub stated : States (SaysSystem components) 1 bytes system

-- a component file is refused: those before it state components, and it is refused behind them
pub record IsComponentRefused (component_files : List (List ℕ)) (place : Place) (rule : ScriptRule) : Type 0 where
  pub number : ℕ
  pub components : List ComponentTable
  pub before : AreComponents (take number component_files) components
  pub bytes : List ℕ
  pub is : slice_get component_files number ≡ Some bytes
  pub refused : IsRefused (RefusesComponent components) (number + 2) bytes place rule

-- the system file is refused: all component files state components, and it is refused over them
pub record IsSystemRefused (files : List (List ℕ)) (place : Place) (rule : ScriptRule) : Type 0 where
  pub components : List ComponentTable
  pub are_components : AreComponents (drop 1 files) components
  pub bytes : List ℕ
  pub first : slice_get files 0 ≡ Some bytes
  pub refused : IsRefused (RefusesSystem components) 1 bytes place rule

-- a rule on scripts refuses the first file that is refused, where the component files come before the system file
abbrev pub IsScriptRefused : List (List ℕ) → Place → ScriptRule → Type 0
IsScriptRefused files place rule = IsComponentRefused (drop 1 files) place rule ⊎ IsSystemRefused files place rule
