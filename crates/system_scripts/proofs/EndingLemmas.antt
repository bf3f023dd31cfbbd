-- The tables of a system that commands state, as they are kept.
use Rattle.std.proofs.Common.{◌≡◌, ℕ, zero, suc, List, [], ◌∷◌, map, Option, Some, None, Result, Ok, Err, refl, sym, ap, ◌∙◌, subst}
use Rattle.std.specs.Prelude.{All, IsSome, IfOk, OnOk, slice_index_or}
use Rattle.av_base.specs.declared.faults.Place.{Place}
use Rattle.tcl_words.specs.declared.words.Word.{Word}
use Rattle.tcl_words.specs.Script.{Script}
use Rattle.script_words.specs.declared.faults.ScriptFault.{ScriptFault}
use Rattle.script_words.specs.declared.faults.ScriptFault.TheVariants.{Refused, NoMemory}
use Rattle.system_tables.specs.declared.system.Instance.{Instance}
use Rattle.system_tables.specs.declared.tables.Connection.{Connection}
use Rattle.system_scripts.specs.Clocks.{interfaces_at, instance_table, connection_of, system_clock, logic_joints, stated_system, ended_system, system_over}
use Rattle.script_words.specs.Judgements.{judged, IsFaultOf}
use Rattle.system_tables.specs.Kept.{instance_of, kept_table}
use Rattle.component_scripts.specs.Library.{interfaces_of}
use Rattle.system_scripts.specs.Sound.{IsSoundSystemDraft}
use Rattle.system_scripts.specs.System.{DraftedSystem, empty_system_draft, first_system_refusal, system_after_all}
use Rattle.system_tables.specs.declared.tables.InterfaceTable.{InterfaceTable}
use Rattle.system_tables.specs.Tables.{InstanceTable, SystemTable, IsSystem}
use Rattle.component_scripts.specs.Tables.{ComponentTable, IsComponent}
use Rattle.script_words.specs.Words.{IsRefusal}
use Rattle.system_scripts.proofs.StatedLemmas.{stated_is_system, sound_draft}

interfaces_kept : (components : List ComponentTable) (k : ℕ) → slice_index_or (interfaces_of components) k [] ≡ interfaces_at components k
interfaces_kept [] k = refl
interfaces_kept (component ∷ components) zero = refl
interfaces_kept (component ∷ components) (suc k) = interfaces_kept components k

instances_kept : (components : List ComponentTable) (instances : List Instance) → map (instance_of (interfaces_of components)) instances ≡ map (instance_table components) instances
instances_kept components [] = refl
instances_kept components (instance ∷ instances) =
    ap (λ (i : List InterfaceTable). record { name = instance.name; interfaces = i } ∷ map (instance_of (interfaces_of components)) instances) (interfaces_kept components instance.component)
    ∙ ap (λ (l : List InstanceTable). instance_table components instance ∷ l) (instances_kept components instances)

-- what is kept of a draft is the system that it states
pub kept_is_stated : (components : List ComponentTable) (draft : DraftedSystem) (name : List ℕ) (interfaces : List (List InterfaceTable)) (connections : List Connection)
    → interfaces ≡ interfaces_of components
    → connections ≡ map (connection_of components draft (system_clock components draft)) (logic_joints draft.joints)
    → kept_table name draft.stages interfaces draft.instances connections ≡ stated_system components draft name
unfolding stated_system
kept_is_stated components draft name interfaces connections copied stated =
    ap (λ (i : List (List InterfaceTable)). kept_table name draft.stages i draft.instances connections) copied
    ∙ ap (λ (l : List InstanceTable). record { name = name; stages = draft.stages; instances = l; connections = connections }) (instances_kept components draft.instances)
    ∙ ap (λ (l : List Connection). record { name = name; stages = draft.stages; instances = map (instance_table components) draft.instances; connections = l }) stated

pub kept_is_system : (components : List ComponentTable) (draft : DraftedSystem) (name : List ℕ) (table : SystemTable) → table ≡ stated_system components draft name
    → All IsComponent components → IsSoundSystemDraft components draft → draft.name ≡ Some name → IsSystem table
kept_is_system components draft name table same made kept named = subst IsSystem (sym same) (stated_is_system components draft name made kept named)

-- what a file's commands state is sound, where nothing refuses them
pub read_is_sound : (library : List ComponentTable) (commands : List (List Word)) (draft : DraftedSystem) → first_system_refusal library empty_system_draft commands ≡ None
    → draft ≡ system_after_all library empty_system_draft commands → IsSoundSystemDraft library draft
read_is_sound library commands draft clean is = subst (IsSoundSystemDraft library) (sym is) (sound_draft library commands clean)

-- behind the last command, what was stated decides
pub system_over-ended : (library : List ComponentTable) (script : Script) (draft : DraftedSystem) (end : Place)
    → first_system_refusal library empty_system_draft script.commands ≡ None → draft ≡ system_after_all library empty_system_draft script.commands → end ≡ script.end
    → system_over library script ≡ ended_system end library draft draft.name
unfolding system_over
system_over-ended library script draft end clean is at =
    let last = system_after_all library empty_system_draft script.commands in
    ap (λ o. judged o (ended_system script.end library last last.name)) clean
    ∙ ap (λ (s : DraftedSystem). ended_system script.end library s s.name) (sym is)
    ∙ ap (λ e. ended_system e library draft draft.name) (sym at)

-- the refusal of a command is the file's
pub system_over-refused : (library : List ComponentTable) (script : Script) (fault : ScriptFault)
    → IsRefusal fault (first_system_refusal library empty_system_draft script.commands) → IsFaultOf fault (system_over library script)
unfolding system_over
system_over-refused library script (Refused place rule) h =
    let draft = system_after_all library empty_system_draft script.commands in
    ap (λ o. judged o (ended_system script.end library draft draft.name)) h
system_over-refused library script NoMemory h = tt

-- what holds under each name that was stated holds, where one was
pub under_name : {X : Type 0} (stated : Option (List ℕ)) → IsSome stated → ((name : List ℕ) → stated ≡ Some name → X) → X
under_name (Some name) some holds = holds name refl
under_name None some holds = cc

-- the tables of a draft make the system that its file states
pub made_of_tables : (library : List ComponentTable) (draft : DraftedSystem) (script : Script) (end : Place) (tables : Result (List (List InterfaceTable) × List Connection) ScriptFault)
    → IsSoundSystemDraft library draft → system_over library script ≡ ended_system end library draft draft.name
    → IfOk tables (λ t. t.0 ≡ interfaces_of library) → OnOk tables (All IsComponent library)
    → IfOk tables (λ t. t.1 ≡ map (connection_of library draft (system_clock library draft)) (logic_joints draft.joints))
    → IfOk tables (λ t. (name : List ℕ) → draft.name ≡ Some name
    → IsSystem (kept_table name draft.stages t.0 draft.instances t.1) × (system_over library script ≡ Ok (kept_table name draft.stages t.0 draft.instances t.1)))
made_of_tables library draft script end (Ok t) sound same copied made stated = λ name named.
    let kept = kept_is_stated library draft name t.0 t.1 copied stated in
    (kept_is_system library draft name _ kept made sound named, same ∙ ap (ended_system end library draft) named ∙ ap Ok (sym kept))
made_of_tables library draft script end (Err fault) sound same copied made stated = tt
