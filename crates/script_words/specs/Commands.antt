-- The commands of a system file, and what their words name.
use Rattle.std.specs.Prelude.{ℕ, Bool, true, false, ◌&&◌, ◌||◌, ◌==◌, not, nat_le, nat_lt, List, [], ◌∷◌, length, Option, Some, None, is_none, option_and_then, codes, if◌then◌else◌}
use Rattle.std.specs.List.{list_any}
use Rattle.std.specs.Option.{option_map, option_map_or}
use Rattle.std.specs.Str.{bytes_eq}
use Rattle.tcl_words.specs.declared.words.Word.{Word}
use Rattle.iface_roles.specs.declared.kinds.Kind.{Kind}
use Rattle.iface_roles.specs.declared.kinds.Kind.TheVariants.{Clock, Reset, Mm, Stream, Conduit, Interrupt}
use Rattle.iface_roles.specs.Kinds.{is_avalon}
use Rattle.iface_roles.specs.Names.{same_name}
use Rattle.script_words.specs.declared.system.joints.Parameter.{Parameter}
use Rattle.script_words.specs.declared.system.joints.Parameter.TheVariants.{BaseAddress, ArbitrationPriority, FifoDepth, DefaultConnection}
use Rattle.script_words.specs.declared.system.joints.SystemCommand.{SystemCommand}
use Rattle.script_words.specs.declared.system.joints.SystemCommand.TheVariants.{Package, CreateSystem, AddInstance, AddConnection, SetParameter, AddInterface, SetInterfaceProperty, SetRequirement, SaveSystem, PassedOver}
use Rattle.script_words.specs.Kinds.{same_kind, kind_named}
use Rattle.script_words.specs.Names.{parts_round, end_named}
use Rattle.script_words.specs.Numbers.{number_of}
use Rattle.script_words.specs.Words.{text_at}

-- commands that state nothing here
abbrev pub system_passed_over : List (List ℕ)
system_passed_over = codes "set_project_property" ∷ codes "set_validation_property" ∷ codes "set_instance_parameter_value"
    ∷ codes "set_instance_property" ∷ codes "set_module_property" ∷ codes "set_use_testbench_naming_pattern" ∷ []

-- the commands of a system file that follow its connections, and those that state nothing, by their names
unfoldable pub later_command : List ℕ → Option SystemCommand
later_command name =
    if bytes_eq name (codes "add_interface") then Some AddInterface
    else (if bytes_eq name (codes "set_interface_property") then Some SetInterfaceProperty
    else (if bytes_eq name (codes "set_interconnect_requirement") then Some SetRequirement
    else (if bytes_eq name (codes "save_system") then Some SaveSystem
    else (if list_any (bytes_eq name) system_passed_over then Some PassedOver else None))))

-- the commands of a system file, by their names
unfoldable pub system_command : List ℕ → Option SystemCommand
system_command name =
    if bytes_eq name (codes "package") then Some Package
    else (if bytes_eq name (codes "create_system") then Some CreateSystem
    else (if bytes_eq name (codes "add_instance") then Some AddInstance
    else (if bytes_eq name (codes "add_connection") then Some AddConnection
    else (if bytes_eq name (codes "set_connection_parameter_value") then Some SetParameter
    else later_command name))))

-- how many words a command may have behind its name
unfoldable pub system_takes : SystemCommand → ℕ → Bool
system_takes Package count = nat_le 2 count && nat_le count 4
system_takes CreateSystem count = nat_le count 1
system_takes AddInstance count = nat_le 2 count && nat_le count 3
system_takes AddConnection count = nat_le 1 count && nat_le count 3
system_takes SetParameter count = count == 3
system_takes AddInterface count = count == 3
system_takes SetInterfaceProperty count = count == 3
system_takes SetRequirement count = count == 3
system_takes SaveSystem count = nat_le count 1
system_takes PassedOver count = true

-- a command has a word of this place
abbrev pub has_word : List Word → ℕ → Bool
has_word words k = nat_lt k (length words)

-- the ends of these kinds of connection are a start and an end
abbrev pub has_sides : Kind → Bool
has_sides Clock = true
has_sides Mm = true
has_sides Stream = true
has_sides Reset = false
has_sides Conduit = false
has_sides Interrupt = false

-- the ends in one word `start/end`, each `instance.interface`
unfoldable pub pair_named : List ℕ → Option ((List ℕ × List ℕ) × (List ℕ × List ℕ))
pair_named text =
    option_and_then (λ parts. option_and_then (λ start. option_map (λ end. (start, end)) (end_named parts.1)) (end_named parts.0))
    (parts_round 47 text)

-- the names of a connection's two ends, in one word or in two, and the word of the second
abbrev pub in_one_word : List Word → Bool
in_one_word words = nat_le (length words) 2

unfoldable pub first_named : List Word → Option (List ℕ × List ℕ)
first_named words =
    if in_one_word words then option_map (λ pair. pair.0) (pair_named (text_at words 1)) else end_named (text_at words 1)

unfoldable pub second_named : List Word → Option (List ℕ × List ℕ)
second_named words =
    if in_one_word words then option_map (λ pair. pair.1) (pair_named (text_at words 1)) else end_named (text_at words 2)

unfoldable pub second_word : List Word → ℕ
second_word words = if in_one_word words then 1 else 2

-- a kind word names another kind
unfoldable pub asks_other : List Word → Kind → Bool
asks_other words kind =
    has_word words 3 && option_map_or (λ asked. not (same_kind asked kind)) (kind_named (text_at words 3)) false

-- a test of both ends, where both are there
abbrev pub of_both : {A B : Type 0} → Option A → Option B → (A → B → Bool) → Bool
of_both a b test = option_map_or (λ x. option_map_or (test x) b false) a false

-- the parameters of connections that mean something here
unfoldable pub parameter_named : List ℕ → Option Parameter
parameter_named text =
    if bytes_eq text (codes "baseAddress") then Some BaseAddress
    else (if bytes_eq text (codes "arbitrationPriority") then Some ArbitrationPriority
    else (if bytes_eq text (codes "fifoDepth") then Some FifoDepth
    else (if bytes_eq text (codes "defaultConnection") then Some DefaultConnection else None)))

-- the parameter takes a number
abbrev pub is_number : Parameter → Bool
is_number BaseAddress = true
is_number ArbitrationPriority = true
is_number FifoDepth = true
is_number DefaultConnection = false

-- the number is within the parameter's range
abbrev pub may_be : Parameter → ℕ → Bool
may_be BaseAddress number = true
may_be ArbitrationPriority number = nat_le 1 number && nat_le number 63
may_be FifoDepth number = nat_le number 64
may_be DefaultConnection number = true

-- the parameter stands on a wrong kind of connection
abbrev pub is_misplaced : Kind → Parameter → Bool
is_misplaced Stream BaseAddress = true
is_misplaced Stream ArbitrationPriority = true
is_misplaced Mm FifoDepth = true
is_misplaced _ _ = false

-- a default connection of a host is asked for
abbrev pub asks_default : Kind → Parameter → List ℕ → Bool
asks_default Mm DefaultConnection text = not (bytes_eq text (codes "0") || bytes_eq text (codes "false"))
asks_default _ _ text = false

abbrev pub misreads : List ℕ → Kind → Parameter → Bool
misreads text kind parameter = is_avalon kind && is_number parameter && is_none (number_of text)

abbrev pub exceeds : List ℕ → Kind → Parameter → Bool
exceeds text kind parameter =
    is_avalon kind && is_number parameter && option_map_or (λ number. not (may_be parameter number)) (number_of text) false

abbrev pub exports : List Word → Bool
exports words = same_name (codes "EXPORT_OF") (text_at words 2)

-- the requirement that sets the pipeline stages
abbrev pub sets_stages : List Word → Bool
sets_stages words =
    bytes_eq (text_at words 1) (codes "$system") && bytes_eq (text_at words 2) (codes "qsys_mm.maxAdditionalLatency")
