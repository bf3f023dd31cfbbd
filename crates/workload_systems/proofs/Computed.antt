-- What the components and the systems of all residues state, computed.
use Rattle.std.proofs.Common.{◌≡◌, ℕ, suc, ◌+◌, ◌^◌, Bool, true, false, ◌&&◌, Ok, refl, List, [], ◌∷◌, length, take, zero, Some}
use Rattle.std.specs.Prelude.{nat_lt}
use Rattle.std.specs.List.{list_all, range_with_len}
use Rattle.script_words.specs.Kinds.{kind_named, side_named, direction_named, role_named, property_named}
use Rattle.script_words.specs.Names.{parts_round, end_named}
use Rattle.script_words.specs.Numbers.{number_in, number_of}
use Rattle.script_words.specs.Package.{qsys_place, package_checks}
use Rattle.script_words.specs.Words.{text_at, place_at, refusal_of, is_misdirected}
use Rattle.component_scripts.specs.Catalog.{is_refused}
use Rattle.component_scripts.specs.Tables.{interface_place}
use Rattle.component_scripts.specs.Component.{component_command, takes, module_checks, module_effect, interface_checks, kind_and_side, interface_effect, value_of, property_at, property_checks, set_to_number, set_as, property_effect, port_checks, port_stated, with_role, port_effect, port_property_checks, component_refusal, component_after, interface_refusal, interface_table, ended, component_of}
use Rattle.iface_roles.specs.Properties.{is_listed}
use Rattle.system_tables.specs.Names.{is_name}
use Rattle.script_words.specs.Commands.{later_command, system_command, system_takes, pair_named, first_named, second_named, second_word, asks_other, parameter_named}
use Rattle.system_scripts.specs.Clocks.{clock_of, root_of, system_clock, connection_of, stated_system, system_over}
use Rattle.system_scripts.specs.System.{create_checks, create_effect, instance_place, instance_checks, instance_effect, end_of, sort_at, first_end, second_end, connection_checks, connection_effect, joint_place, parameter_checks, parameter_effect, exported_checks, exported_effect, export_checks, requirement_checks, requirement_effect, late_checks, system_refusal, system_after}
use Rattle.component_scripts.specs.Tables.{ComponentTable}
use Rattle.system_scripts.specs.Clocks.{system_of}
use Rattle.workload_systems.specs.Components.{component_lines, type_name, interface, port, property, enables, command_ports, answer_ports, host_lines, agent_lines, empties, beat_ports, source_lines, sink_lines}
use Rattle.workload_systems.specs.Systems.{instance, host_instance, agent_instance, source_instance, sink_instance, parameter, memory_lines, host_links, stream_line, system_lines}
use Rattle.workload_systems.specs.Texts.{line_text, text_of}
use Rattle.workload_systems.proofs.Spelled.{script_of, are_plain}
use Rattle.workload_systems.proofs.Accepting.{library, fits, facts, workload_facts}

-- component scripts in order, each behind so many, state these components
abbrev pub State : ℕ → List (List (List (List ℕ))) → List ComponentTable → Type 0
State before [] [] = Unit {0}
State before (lines ∷ others) (component ∷ components) =
    (component_of (script_of (before + 2) lines) ≡ Ok component) × ((is_refused (take before library) component ≡ false) × ((are_plain lines ≡ true) × ((nat_lt (length (text_of lines)) (2 ^ 31) ≡ true) × State (suc before) others components)))
State before [] (component ∷ components) = ⊥
State before (lines ∷ others) [] = ⊥

pub state : State 0 component_lines library
unfolding type_name interface port property enables command_ports answer_ports host_lines agent_lines empties beat_ports source_lines sink_lines instance host_instance agent_instance source_instance sink_instance parameter memory_lines host_links stream_line system_lines line_text text_of kind_named side_named direction_named role_named property_named parts_round end_named number_in number_of qsys_place package_checks text_at place_at refusal_of is_misdirected is_refused interface_place component_command takes module_checks module_effect interface_checks kind_and_side interface_effect value_of property_at property_checks set_to_number set_as property_effect port_checks port_stated with_role port_effect port_property_checks component_refusal component_after interface_refusal interface_table ended component_of is_listed is_name later_command system_command system_takes pair_named first_named second_named second_word asks_other parameter_named clock_of root_of system_clock connection_of stated_system system_over create_checks create_effect instance_place instance_checks instance_effect end_of sort_at first_end second_end connection_checks connection_effect joint_place parameter_checks parameter_effect exported_checks exported_effect export_checks requirement_checks requirement_effect late_checks system_refusal system_after
state = (refl, (refl, (refl, (refl, (refl, (refl, (refl, (refl, (refl, (refl, (refl, (refl, (refl, (refl, (refl, (refl, (refl, (refl, (refl, (refl, (refl, (refl, (refl, (refl, (refl, (refl, (refl, (refl, (refl, (refl, (refl, (refl, (refl, (refl, (refl, (refl, (refl, (refl, (refl, (refl, (refl, (refl, (refl, (refl, (refl, (refl, (refl, (refl, (refl, (refl, (refl, (refl, (refl, (refl, (refl, (refl, (refl, (refl, (refl, (refl, (refl, (refl, (refl, (refl, (refl, (refl, (refl, (refl, (refl, (refl, (refl, (refl, (refl, (refl, (refl, (refl, (refl, (refl, (refl, (refl, tt))))))))))))))))))))))))))))))))))))))))))))))))))))))))))))))))))))))))))))))))

-- the system script of a number keeps all rules
unfoldable pub is_accepted : ℕ → Bool
is_accepted number = are_plain (system_lines number) && (nat_lt (length (text_of (system_lines number))) (2 ^ 31) && fits (system_of library (script_of 1 (system_lines number))))

pub all_accepted : list_all is_accepted (range_with_len 0 24) ≡ true
unfolding is_accepted type_name interface port property enables command_ports answer_ports host_lines agent_lines empties beat_ports source_lines sink_lines instance host_instance agent_instance source_instance sink_instance parameter memory_lines host_links stream_line system_lines line_text text_of kind_named side_named direction_named role_named property_named parts_round end_named number_in number_of qsys_place package_checks text_at place_at refusal_of is_misdirected is_refused interface_place component_command takes module_checks module_effect interface_checks kind_and_side interface_effect value_of property_at property_checks set_to_number set_as property_effect port_checks port_stated with_role port_effect port_property_checks component_refusal component_after interface_refusal interface_table ended component_of is_listed is_name later_command system_command system_takes pair_named first_named second_named second_word asks_other parameter_named clock_of root_of system_clock connection_of stated_system system_over create_checks create_effect instance_place instance_checks instance_effect end_of sort_at first_end second_end connection_checks connection_effect joint_place parameter_checks parameter_effect exported_checks exported_effect export_checks requirement_checks requirement_effect late_checks system_refusal system_after
all_accepted = refl

-- what holds of so many numbers from one on
abbrev pub EachFrom : ℕ → ℕ → (ℕ → Type 0) → Type 0
EachFrom a zero holds = Unit {0}
EachFrom a (suc count) holds = holds a × EachFrom (a + 1) count holds

-- the system of the script of a number is the workload system of the number
unfoldable pub IsAsTold : ℕ → Type 0
IsAsTold number = facts (system_of library (script_of 1 (system_lines number))) ≡ Some (workload_facts number)

pub all_told : EachFrom 0 24 IsAsTold
unfolding IsAsTold type_name interface port property enables command_ports answer_ports host_lines agent_lines empties beat_ports source_lines sink_lines instance host_instance agent_instance source_instance sink_instance parameter memory_lines host_links stream_line system_lines line_text text_of kind_named side_named direction_named role_named property_named parts_round end_named number_in number_of qsys_place package_checks text_at place_at refusal_of is_misdirected is_refused interface_place component_command takes module_checks module_effect interface_checks kind_and_side interface_effect value_of property_at property_checks set_to_number set_as property_effect port_checks port_stated with_role port_effect port_property_checks component_refusal component_after interface_refusal interface_table ended component_of is_listed is_name later_command system_command system_takes pair_named first_named second_named second_word asks_other parameter_named clock_of root_of system_clock connection_of stated_system system_over create_checks create_effect instance_place instance_checks instance_effect end_of sort_at first_end second_end connection_checks connection_effect joint_place parameter_checks parameter_effect exported_checks exported_effect export_checks requirement_checks requirement_effect late_checks system_refusal system_after
all_told = (refl, (refl, (refl, (refl, (refl, (refl, (refl, (refl, (refl, (refl, (refl, (refl, (refl, (refl, (refl, (refl, (refl, (refl, (refl, (refl, (refl, (refl, (refl, (refl, tt))))))))))))))))))))))))
