-- What a run commands an agent.
use Rattle.std.proofs.Common.{◌≡◌, ◌<◌, ℕ, Bool, false, List, Option, Some, None, refl, ap, subst, ◌∙◌, IsFalse, arith}
use Rattle.iface_roles.specs.declared.records.AgentPort.{AgentPort}
use Rattle.iface_roles.specs.declared.records.Finished.TheVariants.{Agent}
use Rattle.system_tables.specs.declared.tables.EndId.{EndId}
use Rattle.system_tables.specs.Tables.{SystemTable}
use Rattle.address_map.specs.Footprints.{known_at}
use Rattle.netlist.specs.declared.line.PortLine.{PortLine}
use Rattle.netlist.specs.Netlists.{Netlist}
use Rattle.netlist.specs.Runs.{Run}
use Rattle.port_tables.specs.declared.roles.PortRole.{PortRole}
use Rattle.port_tables.specs.declared.roles.PortRole.TheVariants as role
use Rattle.port_tables.specs.Lists.{Among, among_at}
use Rattle.port_tables.specs.Ports.{agent_ports, bits_if, ends_of, is_output, port_of, ports_of}
use Rattle.port_tables.specs.PortMaps.{HasKnownPorts, IsPortIf, port_at}
use Rattle.port_rows.specs.Rows.{level_of, shown_at}

abbrev pub OutputsAreNets : Type 0
OutputsAreNets = (system : SystemTable) (netlist : Netlist) (run : Run) (c : ℕ) → netlist.ports ≡ ports_of system
    → (end : EndId) (role : PortRole) (absent : ℕ) → shown_at system netlist run end role absent c ≡ level_of netlist run c absent (port_at system end role)

none_there : (netlist : Netlist) (run : Run) (c absent width : ℕ) (ports : List PortLine) (output : Bool) (found : Option ℕ) → width ≡ 0 → IsPortIf ports output width found
    → level_of netlist run c absent found ≡ absent
none_there netlist run c absent width ports output None none h = refl
none_there netlist run c absent width ports output (Some k) none h = let some = h.some in absurd (omega (arith, some, none))

pub never_read : OutputsAreNets → (system : SystemTable) (netlist : Netlist) (run : Run) (c : ℕ) (end : EndId) (port : AgentPort) → HasKnownPorts system → netlist.ports ≡ ports_of system
    → Among end (ends_of system) → known_at system end ≡ Agent port → IsFalse port.reads → shown_at system netlist run end role.Read 0 c ≡ 0
never_read law system netlist run c end port known same among there unread =
    let read = port_of role.Read (bits_if port.reads 1) in
    law system netlist run c same end role.Read 0
    ∙ none_there netlist run c 0 (bits_if port.reads 1) (ports_of system) (is_output false role.Read) (port_at system end role.Read) (ap (λ reads. bits_if reads 1) unread)
    (known.known end (Agent port) read among there (among_at (agent_ports port) 1 read refl))
