-- The clocks of a system, and the system that a script states.
use Rattle.std.specs.Prelude.{ℕ, Bool, true, ◌&&◌, List, [], ◌∷◌, ◌++◌, map, filter, slice_get, Option, Some, None, option_and_then, Result, Ok, Err, if◌then◌else◌}
use Rattle.std.specs.Option.{option_map, option_map_or, option_or}
use Rattle.av_base.specs.declared.faults.Place.{Place}
use Rattle.tcl_words.specs.Script.{Script}
use Rattle.iface_roles.specs.Kinds.{is_avalon}
use Rattle.script_words.specs.declared.faults.ScriptRule.TheVariants.{Command}
use Rattle.script_words.specs.declared.rule.CommandRule.TheVariants.{Creation}
use Rattle.script_words.specs.Rules.{rule_number}
use Rattle.script_words.specs.declared.system.joints.Joint.{Joint}
use Rattle.script_words.specs.declared.system.joints.Terminal.{Terminal}
use Rattle.script_words.specs.declared.judge.Refusal.{Refusal}
use Rattle.system_tables.specs.declared.system.Instance.{Instance}
use Rattle.system_tables.specs.declared.tables.Connection.{Connection}
use Rattle.system_tables.specs.declared.tables.EndId.{EndId}
use Rattle.script_words.specs.Judgements.{first_some, judged}
use Rattle.component_scripts.specs.Library.{clock_source_table}
use Rattle.script_words.specs.Names.{is_empty}
use Rattle.system_scripts.specs.System.{DraftedSystem, empty_system_draft, component_at, first_system_refusal, system_after_all}
use Rattle.system_tables.specs.declared.tables.InterfaceTable.{InterfaceTable}
use Rattle.system_tables.specs.Tables.{InstanceTable, SystemTable}
use Rattle.component_scripts.specs.Tables.{ComponentTable, interface_place}
use Rattle.script_words.specs.Joints.{same_end}
use Rattle.script_words.specs.Roots.{source_of}

-- the clock interface that an interface of a component names, by its place there
abbrev pub clock_place : ComponentTable → InterfaceTable → Option ℕ
clock_place component interface = if is_empty interface.clock then None else interface_place component.interfaces interface.clock

-- the end of the clock that the interface at an end names
unfoldable pub clock_of : List ComponentTable → List Instance → Terminal → Option Terminal
clock_of components instances end =
    option_and_then
    (λ (component : ComponentTable). option_map (λ place. record { instance = end.instance; interface = place })
    (option_and_then (clock_place component) (slice_get component.interfaces end.interface)))
    (component_at components instances end.instance)

-- the root of the interface at an end: where its clock comes from
unfoldable pub root_of : List ComponentTable → DraftedSystem → Terminal → Option Terminal
root_of components draft end = option_and_then (source_of draft.joints) (clock_of components draft.instances end)

-- the connections of hosts to agents and of sources to sinks, in the order of their commands
abbrev pub logic_joints : List Joint → List Joint
logic_joints joints = filter (λ (joint : Joint). is_avalon joint.kind) joints

-- the system's clock: the first root of an end of these connections, start before end
unfoldable pub system_clock : List ComponentTable → DraftedSystem → Option Terminal
system_clock components draft =
    first_some (λ (joint : Joint). option_or (root_of components draft joint.start) (root_of components draft joint.end))
    (logic_joints draft.joints)

-- an end is not on another clock than the system's; one without a root fits
abbrev pub fits_clock : Option Terminal → Option Terminal → Bool
fits_clock clock root = option_map_or (λ a. option_map_or (same_end a) clock true) root true

abbrev pub end_id : Terminal → EndId
end_id end = record { instance = end.instance; interface = end.interface }

-- a connection of a system of this clock
unfoldable pub connection_of : List ComponentTable → DraftedSystem → Option Terminal → Joint → Connection
connection_of components draft clock joint =
    record {
      start = end_id joint.start;
      end = end_id joint.end;
      kind = joint.kind;
      base = joint.base;
      shares = joint.shares;
      fifo = joint.fifo;
      clock_fits =
          fits_clock clock (root_of components draft joint.start) && fits_clock clock (root_of components draft joint.end);
    }

-- the interfaces of the component at a place
abbrev pub interfaces_at : List ComponentTable → ℕ → List InterfaceTable
interfaces_at components place =
    option_map_or (λ (component : ComponentTable). component.interfaces) (slice_get components place) []

abbrev pub instance_table : List ComponentTable → Instance → InstanceTable
instance_table components instance = record { name = instance.name; interfaces = interfaces_at components instance.component }

-- the system of this name that the commands state
unfoldable pub stated_system : List ComponentTable → DraftedSystem → List ℕ → SystemTable
stated_system components draft name =
    record {
      name = name;
      stages = draft.stages;
      instances = map (instance_table components) draft.instances;
      connections = map (connection_of components draft (system_clock components draft)) (logic_joints draft.joints);
    }

-- a file's last rule, behind its last byte: C13, a system was created
abbrev pub no_system : Place → Result SystemTable Refusal
no_system end = Err (record { place = end; rule = Command (rule_number Creation) })

abbrev pub ended_system : Place → List ComponentTable → DraftedSystem → Option (List ℕ) → Result SystemTable Refusal
ended_system end components draft None = no_system end
ended_system end components draft (Some name) = Ok (stated_system components draft name)

-- the system that a script states over these components and the clock source, or what refuses it
unfoldable pub system_over : List ComponentTable → Script → Result SystemTable Refusal
system_over library script =
    let draft = system_after_all library empty_system_draft script.commands in
    judged (first_system_refusal library empty_system_draft script.commands) (ended_system script.end library draft draft.name)

abbrev pub system_of : List ComponentTable → Script → Result SystemTable Refusal
system_of components script = system_over (components ++ clock_source_table ∷ []) script
