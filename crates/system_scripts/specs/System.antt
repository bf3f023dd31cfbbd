-- What the commands of a system file state, and what refuses them.
use Rattle.std.specs.Prelude.{◌≡◌, ℕ, zero, suc, ◌-◌, Bool, true, false, ◌&&◌, ◌||◌, not, nat_lt, List, [], ◌∷◌, ◌++◌, length, map, position, slice_get, Option, Some, None, is_some, is_none, option_and_then, codes, if◌then◌else◌}
use Rattle.std.specs.List.{list_any}
use Rattle.std.specs.Option.{option_map, option_map_or, option_or}
use Rattle.tcl_words.specs.declared.words.Word.{Word}
use Rattle.iface_roles.specs.declared.kinds.Kind.{Kind}
use Rattle.iface_roles.specs.declared.kinds.Kind.TheVariants.{Stream}
use Rattle.iface_roles.specs.declared.kinds.Side.{Side}
use Rattle.iface_roles.specs.declared.kinds.Side.TheVariants.{Start, End}
use Rattle.iface_roles.specs.Kinds.{is_avalon}
use Rattle.script_words.specs.declared.system.joints.Joint.{Joint}
use Rattle.script_words.specs.declared.system.joints.Parameter.{Parameter}
use Rattle.script_words.specs.declared.system.joints.Parameter.TheVariants.{BaseAddress, ArbitrationPriority, FifoDepth, DefaultConnection}
use Rattle.script_words.specs.declared.system.joints.SystemCommand.{SystemCommand}
use Rattle.script_words.specs.declared.system.joints.SystemCommand.TheVariants.{Package, CreateSystem, AddInstance, AddConnection, SetParameter, AddInterface, SetInterfaceProperty, SetRequirement, SaveSystem, PassedOver}
use Rattle.script_words.specs.declared.rule.CommandRule.TheVariants.{UnknownCommand, NotAName, Taken, NotStated, UnknownKind, WrongDirection, Misread, OutOfRange, Creation, UnlikeEnds, StreamTaken, Misplaced, NotAnEnd}
use Rattle.script_words.specs.declared.judge.Check.{Check}
use Rattle.script_words.specs.declared.judge.Refusal.{Refusal}
use Rattle.system_tables.specs.declared.system.Instance.{Instance}
use Rattle.script_words.specs.declared.system.joints.Terminal.{Terminal}
use Rattle.script_words.specs.declared.system.joints.Link.{Link}
use Rattle.component_scripts.specs.Catalog.{type_place}
use Rattle.script_words.specs.Judgements.{counted}
use Rattle.script_words.specs.Words.{is_misdirected}
use Rattle.script_words.specs.Kinds.{same_kind, kind_named}
use Rattle.system_tables.specs.Names.{is_name}
use Rattle.script_words.specs.Names.{place_of, end_named}
use Rattle.script_words.specs.Numbers.{number_of}
use Rattle.script_words.specs.Package.{package_checks}
use Rattle.system_tables.specs.declared.tables.InterfaceTable.{InterfaceTable}
use Rattle.component_scripts.specs.Tables.{ComponentTable, interface_place}
use Rattle.script_words.specs.Words.{text_at, check, refused_at, refusal_of}
use Rattle.script_words.specs.Commands.{system_command, system_takes, has_word, has_sides, pair_named, first_named, second_named, second_word, asks_other, of_both, parameter_named, is_misplaced, asks_default, misreads, exceeds, exports, sets_stages}
use Rattle.script_words.specs.Joints.{same_end}

-- what the commands so far state: the system's name, once it is created; its pipeline stages; its instances, each with
-- the place of its component; the exported names; and its connections of all kinds
pub record DraftedSystem : Type 0 where
  pub name : Option (List ℕ)
  pub stages : ℕ
  pub instances : List Instance
  pub exported : List (List ℕ)
  pub joints : List Joint

abbrev pub empty_system_draft : DraftedSystem
empty_system_draft = record { name = None; stages = 0; instances = []; exported = []; joints = [] }

abbrev pub link_of : Joint → Link
link_of joint = record { start = joint.start; end = joint.end }

-- no `create_system` stands before
abbrev pub is_early : DraftedSystem → Bool
is_early draft = is_none draft.name

-- `create_system [NAME]`. C3: a name is a name. C13: it is the first.
unfoldable pub create_checks : DraftedSystem → List Word → List Check
create_checks draft words =
    check NotAName 1 (has_word words 1 && not (is_name (text_at words 1))) ∷ check Creation 0 (is_some draft.name) ∷ []

unfoldable pub create_effect : DraftedSystem → List Word → DraftedSystem
create_effect draft words =
    record draft { name = Some (if has_word words 1 then text_at words 1 else codes "system") }

-- the place of the instance of this name
unfoldable pub instance_place : List Instance → List ℕ → Option ℕ
instance_place instances name = place_of (map (λ (instance : Instance). instance.name) instances) name

-- `add_instance NAME TYPE [VERSION]`. C3: a name is a name. C4: it is new. C5: the type is there. C13: the system too.
unfoldable pub instance_checks : List ComponentTable → DraftedSystem → List Word → List Check
instance_checks components draft words =
    check NotAName 1 (not (is_name (text_at words 1)))
    ∷ check Taken 1 (is_some (instance_place draft.instances (text_at words 1)))
    ∷ check NotStated 2 (is_none (type_place components (text_at words 2)))
    ∷ check Creation 0 (is_early draft) ∷ []

unfoldable pub instance_effect : List ComponentTable → DraftedSystem → List Word → DraftedSystem
instance_effect components draft words =
    option_map_or (λ component. record draft
    { instances = draft.instances ++ record { name = text_at words 1; component = component } ∷ [] })
    (type_place components (text_at words 2))
    draft

-- the component of the instance at a place
abbrev pub component_at : List ComponentTable → List Instance → ℕ → Option ComponentTable
component_at components instances k =
    option_and_then (λ (instance : Instance). slice_get components instance.component) (slice_get instances k)

-- the end of these names: an instance's, and an interface's there
unfoldable pub end_of : List ComponentTable → List Instance → List ℕ × List ℕ → Option Terminal
end_of components instances names =
    option_and_then
    (λ k. option_and_then (λ (component : ComponentTable). option_map (λ i. record { instance = k; interface = i })
    (interface_place component.interfaces names.1))
    (component_at components instances k))
    (instance_place instances names.0)

abbrev pub is_start : Side → Bool
is_start Start = true
is_start End = false

-- a connection joins these ends
abbrev pub joins : Terminal → Terminal → Joint → Bool
joins start end joint = same_end start joint.start && same_end end joint.end

-- a stream is connected at this end
abbrev pub is_taken : List Joint → Terminal → Bool
is_taken joints end =
    list_any (λ (joint : Joint). same_kind joint.kind Stream && (same_end end joint.start || same_end end joint.end)) joints

-- what is kept of a draft: the names of the instances, the ends of the connections, and where streams are connected
pub record IsSystemDraft (names : List (List ℕ)) (links : List Link) (taken : List Terminal) (instances : List Instance)
    (joints : List Joint) : Type 0 where
  pub all : names ≡ map (λ (instance : Instance). instance.name) instances
  pub linked : links ≡ map (λ (joint : Joint). record { start = joint.start; end = joint.end }) joints
  pub streams : (end : Terminal) → list_any (same_end end) taken ≡ is_taken joints end

abbrev pub sort_of : InterfaceTable → Kind × Side
sort_of interface = (interface.kind, interface.side)

-- the kind and the side of the interface at an end
unfoldable pub sort_at : List ComponentTable → List Instance → Terminal → Option (Kind × Side)
sort_at components instances end =
    option_and_then (λ (component : ComponentTable). option_map sort_of (slice_get component.interfaces end.interface))
    (component_at components instances end.instance)

-- C16: the ends differ in kind or from the kind word; or the first isn't a start or the second isn't an end
abbrev pub is_mismatched : List Word → Kind × Side → Kind × Side → Bool
is_mismatched words start end =
    not (same_kind start.0 end.0) || asks_other words start.0 || (has_sides start.0 && (not (is_start start.1) || is_start end.1))

-- the ends of a connection, where they are there
unfoldable pub first_end : List ComponentTable → DraftedSystem → List Word → Option Terminal
first_end components draft words = option_and_then (end_of components draft.instances) (first_named words)

unfoldable pub second_end : List ComponentTable → DraftedSystem → List Word → Option Terminal
second_end components draft words = option_and_then (end_of components draft.instances) (second_named words)

-- `add_connection START END [KIND]` or `add_connection START/END`. C4: there is no such connection. C5: the ends are
-- there. C6: the kind is known. C13: the system is there. C16, C17: the ends fit, and no stream is connected there.
-- C20: the words name ends.
unfoldable pub connection_checks : List ComponentTable → DraftedSystem → List Word → List Check
connection_checks components draft words =
    let start_name = first_named words in
    let end_name = second_named words in
    let start = first_end components draft words in
    let end = second_end components draft words in
    check Taken 0 (of_both start end (λ a b. is_some (position (joins a b) draft.joints)))
    ∷ check NotStated 1 (is_some start_name && is_none start)
    ∷ check NotStated (second_word words) (is_some end_name && is_none end)
    ∷ check UnknownKind 3 (has_word words 3 && is_none (kind_named (text_at words 3)))
    ∷ check Creation 0 (is_early draft)
    ∷ check UnlikeEnds 0 (of_both
    (option_and_then (sort_at components draft.instances) start)
    (option_and_then (sort_at components draft.instances) end)
    (is_mismatched words))
    ∷ check StreamTaken 0 (of_both start end (λ a b. is_taken draft.joints a || is_taken draft.joints b))
    ∷ check NotAnEnd 1 (is_none start_name)
    ∷ check NotAnEnd (second_word words) (is_none end_name) ∷ []

abbrev pub joint_of : Terminal → Terminal → Kind → Joint
joint_of start end kind = record { start = start; end = end; kind = kind; base = 0; shares = 1; fifo = 0 }

abbrev pub joined_at : List ComponentTable → DraftedSystem → Terminal → Terminal → DraftedSystem
joined_at components draft start end =
    option_map_or (λ sort. record draft { joints = draft.joints ++ joint_of start end sort.0 ∷ [] })
    (sort_at components draft.instances start)
    draft

unfoldable pub connection_effect : List ComponentTable → DraftedSystem → List Word → DraftedSystem
connection_effect components draft words =
    option_map_or (λ start. option_map_or (joined_at components draft start) (second_end components draft words) draft)
    (first_end components draft words)
    draft

-- the place of the connection that the word `start/end` names
unfoldable pub joint_place : List ComponentTable → DraftedSystem → List ℕ → Option ℕ
joint_place components draft text =
    option_and_then
    (λ pair. option_and_then (λ start. option_and_then (λ end. position (joins start end) draft.joints)
    (end_of components draft.instances pair.1))
    (end_of components draft.instances pair.0))
    (pair_named text)

abbrev pub kind_of_joint : List Joint → Option ℕ → Option Kind
kind_of_joint joints place = option_map (λ (joint : Joint). joint.kind) (option_and_then (slice_get joints) place)

-- `set_connection_parameter_value START/END P V`. C5: the connection is there. C10, C11: the value is a number in the
-- parameter's range. C13: the system is there. C18: the connection may have the parameter. C20: the word names ends.
unfoldable pub parameter_checks : List ComponentTable → DraftedSystem → List Word → List Check
parameter_checks components draft words =
    let kind = kind_of_joint draft.joints (joint_place components draft (text_at words 1)) in
    let parameter = parameter_named (text_at words 2) in
    let value = text_at words 3 in
    check NotStated 1 (is_some (pair_named (text_at words 1)) && is_none kind)
    ∷ check Misread 3 (of_both kind parameter (misreads value))
    ∷ check OutOfRange 3 (of_both kind parameter (exceeds value))
    ∷ check Creation 0 (is_early draft)
    ∷ check Misplaced 2 (of_both kind parameter is_misplaced)
    ∷ check Misplaced 3 (of_both kind parameter (λ k p. asks_default k p value))
    ∷ check NotAnEnd 1 (is_none (pair_named (text_at words 1))) ∷ []

-- a connection whose parameter is set: the last setting counts; a stream's and a host's alone mean something
abbrev pub with_parameter : Joint → Parameter → ℕ → Joint
with_parameter joint BaseAddress number = record joint { base = number }
with_parameter joint ArbitrationPriority number = record joint { shares = number }
with_parameter joint FifoDepth number = record joint { fifo = number }
with_parameter joint DefaultConnection number = joint

abbrev pub set_at : List Joint → ℕ → (Joint → Joint) → List Joint
set_at [] k change = []
set_at (joint ∷ rest) zero change = change joint ∷ rest
set_at (joint ∷ rest) (suc k) change = joint ∷ set_at rest k change

abbrev pub with_number : List Word → Parameter → Joint → Joint
with_number words parameter joint =
    if is_avalon joint.kind then option_map_or (with_parameter joint parameter) (number_of (text_at words 3)) joint else joint

unfoldable pub parameter_effect : List ComponentTable → DraftedSystem → List Word → DraftedSystem
parameter_effect components draft words =
    option_map_or (λ k. option_map_or (λ parameter. record draft { joints = set_at draft.joints k (with_number words parameter) })
    (parameter_named (text_at words 2)) draft)
    (joint_place components draft (text_at words 1))
    draft

-- `add_interface NAME KIND DIRECTION`. C3: a name is a name. C4: no exported name is the same. C6, C7: as in a component.
unfoldable pub exported_checks : DraftedSystem → List Word → List Check
exported_checks draft words =
    check NotAName 1 (not (is_name (text_at words 1)))
    ∷ check Taken 1 (is_some (place_of draft.exported (text_at words 1)))
    ∷ check UnknownKind 2 (is_none (kind_named (text_at words 2)))
    ∷ check WrongDirection 3 (is_misdirected words)
    ∷ check Creation 0 (is_early draft) ∷ []

unfoldable pub exported_effect : DraftedSystem → List Word → DraftedSystem
exported_effect draft words = record draft { exported = draft.exported ++ text_at words 1 ∷ [] }

-- `set_interface_property NAME P V`. C5: the exported name is there, and what it exports. C13: the system is there.
-- C20: what is exported is an end.
unfoldable pub export_checks : List ComponentTable → DraftedSystem → List Word → List Check
export_checks components draft words =
    let named = end_named (text_at words 3) in
    check NotStated 1 (is_none (place_of draft.exported (text_at words 1)))
    ∷ check NotStated 3 (exports words && is_some named && is_none (option_and_then (end_of components draft.instances) named))
    ∷ check Creation 0 (is_early draft)
    ∷ check NotAnEnd 3 (exports words && is_none named) ∷ []

-- `set_interconnect_requirement ELEMENT R V`. C10, C11: the stages are a number, 4 at most. C13: the system is there.
unfoldable pub requirement_checks : DraftedSystem → List Word → List Check
requirement_checks draft words =
    check Misread 3 (sets_stages words && is_none (number_of (text_at words 3)))
    ∷ check OutOfRange 3 (sets_stages words && option_map_or (λ number. nat_lt 4 number) (number_of (text_at words 3)) false)
    ∷ check Creation 0 (is_early draft) ∷ []

-- the last setting counts
unfoldable pub requirement_effect : DraftedSystem → List Word → DraftedSystem
requirement_effect draft words =
    if sets_stages words then option_map_or (λ number. record draft { stages = number }) (number_of (text_at words 3)) draft
    else draft

-- C13: the system is there
unfoldable pub late_checks : DraftedSystem → List Check
late_checks draft = check Creation 0 (is_early draft) ∷ []

-- all that is asked of a command
abbrev pub system_checks : SystemCommand → List ComponentTable → DraftedSystem → List Word → List Check
system_checks Package components draft words = package_checks words
system_checks CreateSystem components draft words = create_checks draft words
system_checks AddInstance components draft words = instance_checks components draft words
system_checks AddConnection components draft words = connection_checks components draft words
system_checks SetParameter components draft words = parameter_checks components draft words
system_checks AddInterface components draft words = exported_checks draft words
system_checks SetInterfaceProperty components draft words = export_checks components draft words
system_checks SetRequirement components draft words = requirement_checks draft words
system_checks SaveSystem components draft words = late_checks draft
system_checks PassedOver components draft words = late_checks draft

-- what a command states
abbrev pub system_effect : SystemCommand → List ComponentTable → DraftedSystem → List Word → DraftedSystem
system_effect Package components draft words = draft
system_effect CreateSystem components draft words = create_effect draft words
system_effect AddInstance components draft words = instance_effect components draft words
system_effect AddConnection components draft words = connection_effect components draft words
system_effect SetParameter components draft words = parameter_effect components draft words
system_effect AddInterface components draft words = exported_effect draft words
system_effect SetInterfaceProperty components draft words = draft
system_effect SetRequirement components draft words = requirement_effect draft words
system_effect SaveSystem components draft words = draft
system_effect PassedOver components draft words = draft

abbrev pub system_refusal_at : List ComponentTable → DraftedSystem → List Word → Option SystemCommand → Option Refusal
system_refusal_at components draft words None = Some (refused_at words UnknownCommand 0)
system_refusal_at components draft words (Some command) =
    counted (system_takes command (length words - 1)) words (refusal_of words (system_checks command components draft words))

-- what refuses a command: C1, it isn't in the table; C2, it has a wrong number of words; else what is asked of its words
unfoldable pub system_refusal : List ComponentTable → DraftedSystem → List Word → Option Refusal
system_refusal components draft words = system_refusal_at components draft words (system_command (text_at words 0))

-- what is stated once a command is there too
unfoldable pub system_after : List ComponentTable → DraftedSystem → List Word → DraftedSystem
system_after components draft words =
    option_map_or (λ command. system_effect command components draft words) (system_command (text_at words 0)) draft

-- the refusal of the first command that is refused, each judged by what those before it state
abbrev pub first_system_refusal : List ComponentTable → DraftedSystem → List (List Word) → Option Refusal
first_system_refusal components draft [] = None
first_system_refusal components draft (words ∷ rest) =
    option_or (system_refusal components draft words) (first_system_refusal components (system_after components draft words) rest)

-- what all the commands state
abbrev pub system_after_all : List ComponentTable → DraftedSystem → List (List Word) → DraftedSystem
system_after_all components draft [] = draft
system_after_all components draft (words ∷ rest) = system_after_all components (system_after components draft words) rest
