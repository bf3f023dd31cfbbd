-- What the commands of a component file state, and what refuses them.
use Rattle.std.specs.Prelude.{◌≡◌, ℕ, ◌-◌, Bool, true, false, ◌&&◌, ◌||◌, ◌==◌, not, nat_le, List, [], ◌∷◌, ◌++◌, length, map, find, Option, Some, None, is_some, is_none, option_and_then, IfSome, IsTrue, All, Result, Ok, Err, codes, if◌then◌else◌}
use Rattle.std.specs.List.{list_any, range_with_len}
use Rattle.std.specs.Option.{option_map, option_map_or, option_or}
use Rattle.std.specs.Str.{bytes_eq}
use Rattle.av_base.specs.declared.faults.Place.{Place}
use Rattle.tcl_words.specs.declared.words.Word.{Word}
use Rattle.tcl_words.specs.Script.{Script}
use Rattle.iface_roles.specs.declared.kinds.Kind.{Kind}
use Rattle.iface_roles.specs.declared.kinds.Kind.TheVariants.{Clock}
use Rattle.iface_roles.specs.declared.kinds.Side.{Side}
use Rattle.iface_roles.specs.declared.kinds.PortDirection.{PortDirection}
use Rattle.iface_roles.specs.declared.roles.Role.{Role}
use Rattle.iface_roles.specs.declared.properties.Property.{Property}
use Rattle.iface_roles.specs.declared.properties.Property.TheVariants.{Known, PassedOver, Unknown as NotKnown}
use Rattle.iface_roles.specs.declared.properties.PropertyId.{PropertyId}
use Rattle.iface_roles.specs.declared.properties.Values.{Values}
use Rattle.iface_roles.specs.declared.properties.Values.TheVariants.{Number, Any, Truth, Units, Time, Alignment, ClockName}
use Rattle.iface_roles.specs.Held.{Held, empty, has, with_port, with_setting, is_kept}
use Rattle.iface_roles.specs.Kinds.{is_avalon}
use Rattle.iface_roles.specs.Names.{same_name}
use Rattle.iface_roles.specs.Properties.{property_row, least_of, greatest_of, number_of as word_number}
use Rattle.iface_roles.specs.Records.{finished}
use Rattle.iface_roles.specs.Rules.{breaks}
use Rattle.component_scripts.specs.declared.component.DeclaredInterface.{DeclaredInterface}
use Rattle.component_scripts.specs.declared.component.ComponentCommand.{ComponentCommand}
use Rattle.component_scripts.specs.declared.component.ComponentCommand.TheVariants.{Package, SetModuleProperty, AddInterface, SetInterfaceProperty, AddInterfacePort, SetPortProperty, PassedOver as Nothing}
use Rattle.script_words.specs.declared.rule.CommandRule.TheVariants.{UnknownCommand, NotAName, Taken, NotStated, UnknownKind, WrongDirection, UnknownRole, UnknownProperty, Misread, OutOfRange, TypeName, UnknownPortProperty}
use Rattle.script_words.specs.declared.faults.ScriptRule.TheVariants.{Command, Interface}
use Rattle.script_words.specs.declared.judge.Check.{Check}
use Rattle.script_words.specs.declared.judge.Refusal.{Refusal}
use Rattle.script_words.specs.Kinds.{same_kind, kind_named, side_named, direction_named, role_named, property_named}
use Rattle.system_tables.specs.Names.{is_name}
use Rattle.script_words.specs.Names.{is_empty, place_of}
use Rattle.script_words.specs.Numbers.{number_of}
use Rattle.script_words.specs.Package.{package_checks}
use Rattle.script_words.specs.Rules.{rule_number}
use Rattle.system_tables.specs.declared.tables.InterfaceTable.{InterfaceTable}
use Rattle.component_scripts.specs.Tables.{ComponentTable}
use Rattle.script_words.specs.Judgements.{counted, first_some, judged}
use Rattle.script_words.specs.Words.{text_at, place_at, check, refused_at, refusal_of, is_misdirected}

-- what the commands so far state: the value of `NAME`, the interfaces, and the names of all ports
pub record DraftedComponent : Type 0 where
  pub type_name : Option Word
  pub interfaces : List DeclaredInterface
  pub ports : List (List ℕ)

abbrev pub empty_component_draft : DraftedComponent
empty_component_draft = record { type_name = None; interfaces = []; ports = [] }

-- commands that state nothing here
abbrev pub passed_over : List (List ℕ)
passed_over = codes "add_fileset" ∷ codes "set_fileset_property" ∷ codes "add_fileset_file" ∷ codes "set_module_assignment"
    ∷ codes "set_interface_assignment" ∷ codes "add_documentation_link" ∷ codes "add_parameter" ∷ codes "set_parameter_property"
    ∷ codes "add_display_item" ∷ codes "set_display_item_property" ∷ []

-- what is kept of a draft: the names of its interfaces in order, and the table; all names are names
pub record IsComponentDraft (names : List (List ℕ)) (type_name : Option Word) (interfaces : List DeclaredInterface) : Type 0 where
  pub all : names ≡ map (λ declared. declared.name) interfaces
  pub are_names : All (λ name. IsTrue (is_name name)) names
  pub type_is_name : IfSome type_name (λ name. IsTrue (is_name name.text))

-- the commands of a component file, by their names
unfoldable pub component_command : List ℕ → Option ComponentCommand
component_command name =
    if bytes_eq name (codes "package") then Some Package
    else (if bytes_eq name (codes "set_module_property") then Some SetModuleProperty
    else (if bytes_eq name (codes "add_interface") then Some AddInterface
    else (if bytes_eq name (codes "set_interface_property") then Some SetInterfaceProperty
    else (if bytes_eq name (codes "add_interface_port") then Some AddInterfacePort
    else (if bytes_eq name (codes "set_port_property") then Some SetPortProperty
    else (if list_any (bytes_eq name) passed_over then Some Nothing else None))))))

-- how many words a command may have behind its name
unfoldable pub takes : ComponentCommand → ℕ → Bool
takes Package count = nat_le 2 count && nat_le count 4
takes SetModuleProperty count = count == 2
takes AddInterface count = count == 3
takes SetInterfaceProperty count = count == 3
takes AddInterfacePort count = count == 5
takes SetPortProperty count = count == 3
takes Nothing count = true

-- `set_module_property NAME V`
abbrev pub names_type : List Word → Bool
names_type words = same_name (codes "NAME") (text_at words 1)

-- C3: the type's name is a name. C14: it isn't given twice.
unfoldable pub module_checks : DraftedComponent → List Word → List Check
module_checks draft words =
    check NotAName 2 (names_type words && not (is_name (text_at words 2)))
    ∷ check TypeName 1 (names_type words && is_some draft.type_name) ∷ []

unfoldable pub module_effect : DraftedComponent → List Word → DraftedComponent
module_effect draft words =
    if names_type words then record draft { type_name = Some (record { text = text_at words 2; place = place_at words 2 }) }
    else draft

-- the interface of this name
abbrev pub held_named : List DeclaredInterface → List ℕ → Option Held
held_named interfaces name =
    option_map (λ declared. declared.interface) (find (λ declared. bytes_eq name declared.name) interfaces)

-- the interfaces, once the one of this name is changed
abbrev pub changed : List DeclaredInterface → List ℕ → (DeclaredInterface → DeclaredInterface) → List DeclaredInterface
changed [] name change = []
changed (declared ∷ rest) name change =
    if bytes_eq name declared.name then change declared ∷ rest else declared ∷ changed rest name change

-- C3: a new name is a name. C4: no interface has it. C6: the kind is known. C7: the direction fits the kind.
unfoldable pub interface_checks : DraftedComponent → List Word → List Check
interface_checks draft words =
    check NotAName 1 (not (is_name (text_at words 1)))
    ∷ check Taken 1 (is_some (held_named draft.interfaces (text_at words 1)))
    ∷ check UnknownKind 2 (is_none (kind_named (text_at words 2)))
    ∷ check WrongDirection 3 (is_misdirected words) ∷ []

-- the kind and the side that the words of `add_interface` name
unfoldable pub kind_and_side : List Word → Option (Kind × Side)
kind_and_side words =
    option_and_then (λ kind. option_map (λ side. (kind, side)) (side_named kind (text_at words 3))) (kind_named (text_at words 2))

abbrev pub declared_as : List Word → Kind × Side → DeclaredInterface
declared_as words sort = record { name = text_at words 1; place = place_at words 1; clock = []; interface = empty sort.0 sort.1 }

unfoldable pub interface_effect : DraftedComponent → List Word → DraftedComponent
interface_effect draft words =
    option_map_or (λ sort. record draft { interfaces = draft.interfaces ++ declared_as words sort ∷ [] })
    (kind_and_side words) draft

-- the number that a value stands for, as a property asks for it; for the name of a clock, or none, it means nothing
unfoldable pub value_of : Values → List ℕ → Option ℕ
value_of (Number low high) text = number_of text
value_of Any text = number_of text
value_of Truth text = word_number Truth text
value_of Units text = word_number Units text
value_of Time text = word_number Time text
value_of Alignment text = word_number Alignment text
value_of ClockName text = if is_empty text || is_name text then Some 0 else None

-- the number is within the property's range
abbrev pub is_within : PropertyId → ℕ → Bool
is_within id number = nat_le (least_of (property_row id).values) number && nat_le number (greatest_of (property_row id).values)

abbrev pub is_not_known : Property → Bool
is_not_known NotKnown = true
is_not_known (Known id) = false
is_not_known PassedOver = false

-- a value isn't as the property asks for it
abbrev pub is_misread : Property → List ℕ → Bool
is_misread (Known id) text = is_none (value_of (property_row id).values text)
is_misread NotKnown text = false
is_misread PassedOver text = false

-- a value is outside the property's range
abbrev pub is_outside : Property → List ℕ → Bool
is_outside (Known id) text = option_map_or (λ number. not (is_within id number)) (value_of (property_row id).values text) false
is_outside NotKnown text = false
is_outside PassedOver text = false

-- what the words of `set_interface_property` name, where the interface is there
unfoldable pub property_at : DraftedComponent → List Word → Option Property
property_at draft words =
    option_map (λ held. property_named held.kind (text_at words 2)) (held_named draft.interfaces (text_at words 1))

-- C5: the interface is there. C9: it has such a property. C10: the value is as asked. C11: it is within the range.
unfoldable pub property_checks : DraftedComponent → List Word → List Check
property_checks draft words =
    let property = property_at draft words in
    check NotStated 1 (is_none property)
    ∷ check UnknownProperty 2 (option_map_or is_not_known property false)
    ∷ check Misread 3 (option_map_or (λ known. is_misread known (text_at words 3)) property false)
    ∷ check OutOfRange 3 (option_map_or (λ known. is_outside known (text_at words 3)) property false) ∷ []

-- an interface whose property is set: the last setting counts
unfoldable pub set_to_number : DeclaredInterface → PropertyId → List ℕ → ℕ → DeclaredInterface
set_to_number declared id text number =
    record declared
    { clock = (if is_kept id then declared.clock else text); interface = with_setting declared.interface id number }

unfoldable pub set_as : DeclaredInterface → Property → List ℕ → DeclaredInterface
set_as declared (Known id) text = option_map_or (set_to_number declared id text) (value_of (property_row id).values text) declared
set_as declared NotKnown text = declared
set_as declared PassedOver text = declared

unfoldable pub property_effect : DraftedComponent → List Word → DraftedComponent
property_effect draft words =
    record draft {
      interfaces =
          changed draft.interfaces
          (text_at words 1) (λ declared. set_as declared (property_named declared.interface.kind (text_at words 2))
          (text_at words 3));
    }

-- the interface has the role already
abbrev pub has_role : List ℕ → Held → Bool
has_role text held = option_map_or (has held) (role_named held.kind text) false

-- the interface has no such role; only `avalon` and `avalon_streaming` interfaces have roles
abbrev pub lacks_role : List ℕ → Held → Bool
lacks_role text held = is_avalon held.kind && is_none (role_named held.kind text)

-- C3: a new port's name is a name. C4: no port has it, and the interface hasn't the role. C5: the interface is there.
-- C7: the direction is one. C8: the role is known. C10: the width is a number. C11: it isn't 0.
unfoldable pub port_checks : DraftedComponent → List Word → List Check
port_checks draft words =
    let interface = held_named draft.interfaces (text_at words 1) in
    check NotAName 2 (not (is_name (text_at words 2)))
    ∷ check Taken 2 (is_some (place_of draft.ports (text_at words 2)))
    ∷ check Taken 3 (option_map_or (has_role (text_at words 3)) interface false)
    ∷ check NotStated 1 (is_none interface)
    ∷ check WrongDirection 4 (is_none (direction_named (text_at words 4)))
    ∷ check UnknownRole 3 (option_map_or (lacks_role (text_at words 3)) interface false)
    ∷ check Misread 5 (is_none (number_of (text_at words 5)))
    ∷ check OutOfRange 5 (option_map_or (λ width. width == 0) (number_of (text_at words 5)) false) ∷ []

-- the port that the words `DIRECTION WIDTH` state
unfoldable pub port_stated : List Word → Option (PortDirection × ℕ)
port_stated words =
    option_and_then (λ direction. option_map (λ width. (direction, width)) (number_of (text_at words 5)))
    (direction_named (text_at words 4))

abbrev pub with_role_port : DeclaredInterface → Role → PortDirection × ℕ → DeclaredInterface
with_role_port declared role port =
    record declared { interface = with_port declared.interface role (record { direction = port.0; width = port.1 }) }

unfoldable pub with_role : DeclaredInterface → List Word → DeclaredInterface
with_role declared words =
    option_map_or (λ role. option_map_or (with_role_port declared role) (port_stated words) declared)
    (role_named declared.interface.kind (text_at words 3))
    declared

unfoldable pub port_effect : DraftedComponent → List Word → DraftedComponent
port_effect draft words =
    record draft {
      interfaces = changed draft.interfaces (text_at words 1) (λ declared. with_role declared words);
      ports = draft.ports ++ text_at words 2 ∷ [];
    }

-- C19: ports have no other property than `VHDL_TYPE`
unfoldable pub port_property_checks : List Word → List Check
port_property_checks words = check UnknownPortProperty 2 (not (same_name (codes "VHDL_TYPE") (text_at words 2))) ∷ []

-- all that is asked of a command
abbrev pub component_checks : ComponentCommand → DraftedComponent → List Word → List Check
component_checks Package draft words = package_checks words
component_checks SetModuleProperty draft words = module_checks draft words
component_checks AddInterface draft words = interface_checks draft words
component_checks SetInterfaceProperty draft words = property_checks draft words
component_checks AddInterfacePort draft words = port_checks draft words
component_checks SetPortProperty draft words = port_property_checks words
component_checks Nothing draft words = []

-- what a command states
abbrev pub component_effect : ComponentCommand → DraftedComponent → List Word → DraftedComponent
component_effect Package draft words = draft
component_effect SetModuleProperty draft words = module_effect draft words
component_effect AddInterface draft words = interface_effect draft words
component_effect SetInterfaceProperty draft words = property_effect draft words
component_effect AddInterfacePort draft words = port_effect draft words
component_effect SetPortProperty draft words = draft
component_effect Nothing draft words = draft

abbrev pub component_refusal_at : DraftedComponent → List Word → Option ComponentCommand → Option Refusal
component_refusal_at draft words None = Some (refused_at words UnknownCommand 0)
component_refusal_at draft words (Some command) =
    counted (takes command (length words - 1)) words (refusal_of words (component_checks command draft words))

-- what refuses a command: C1, it isn't in the table; C2, it has a wrong number of words; else what is asked of its words
unfoldable pub component_refusal : DraftedComponent → List Word → Option Refusal
component_refusal draft words = component_refusal_at draft words (component_command (text_at words 0))

-- what is stated once a command is there too
unfoldable pub component_after : DraftedComponent → List Word → DraftedComponent
component_after draft words =
    option_map_or (λ command. component_effect command draft words) (component_command (text_at words 0)) draft

-- the refusal of the first command that is refused, each judged by what those before it state
abbrev pub first_component_refusal : DraftedComponent → List (List Word) → Option Refusal
first_component_refusal draft [] = None
first_component_refusal draft (words ∷ rest) =
    option_or (component_refusal draft words) (first_component_refusal (component_after draft words) rest)

-- what all the commands state
abbrev pub component_after_all : DraftedComponent → List (List Word) → DraftedComponent
component_after_all draft [] = draft
component_after_all draft (words ∷ rest) = component_after_all (component_after draft words) rest

-- the interface of this name is a clock
abbrev pub names_clock : List DeclaredInterface → List ℕ → Bool
names_clock interfaces name = option_map_or (λ held. same_kind held.kind Clock) (held_named interfaces name) false

-- the part of I14 that speaks of clocks: `associatedClock` names no clock interface of the component
abbrev pub lacks_clock : List DeclaredInterface → DeclaredInterface → Bool
lacks_clock interfaces declared =
    is_avalon declared.interface.kind && not (is_empty declared.clock) && not (names_clock interfaces declared.clock)

-- the interface breaks the I rule of this number
abbrev pub breaks_rule : List DeclaredInterface → DeclaredInterface → ℕ → Bool
breaks_rule interfaces declared rule = breaks declared.interface rule || (rule == 14 && lacks_clock interfaces declared)

-- the least I rule that an interface breaks, at its name
unfoldable pub interface_refusal : List DeclaredInterface → DeclaredInterface → Option Refusal
interface_refusal interfaces declared =
    option_map (λ rule. record { place = declared.place; rule = Interface rule })
    (find (breaks_rule interfaces declared) (range_with_len 1 14))

unfoldable pub interface_table : DeclaredInterface → InterfaceTable
interface_table declared =
    record {
      name = declared.name;
      kind = declared.interface.kind;
      side = declared.interface.side;
      clock = declared.clock;
      finished = finished declared.interface;
    }

abbrev pub unless : {A : Type 0} → Option Refusal → A → Result A Refusal
unless None answer = Ok answer
unless (Some refusal) answer = Err refusal

abbrev pub named : Word → List DeclaredInterface → ComponentTable
named name interfaces = record { name = name.text; place = name.place; interfaces = map interface_table interfaces }

-- a file's last rules, behind its last byte: C14, there is a `NAME`; then the I rules for the interfaces in order
abbrev pub ended_as : Place → Option Word → List DeclaredInterface → Result ComponentTable Refusal
ended_as end None interfaces = Err (record { place = end; rule = Command (rule_number TypeName) })
ended_as end (Some name) interfaces = unless (first_some (interface_refusal interfaces) interfaces) (named name interfaces)

unfoldable pub ended : Place → DraftedComponent → Result ComponentTable Refusal
ended end draft = ended_as end draft.type_name draft.interfaces

-- the component that a script states, or what refuses it
unfoldable pub component_of : Script → Result ComponentTable Refusal
component_of script =
    judged (first_component_refusal empty_component_draft script.commands)
    (ended script.end (component_after_all empty_component_draft script.commands))
