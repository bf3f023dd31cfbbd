-- What a run shows at a host.
use Rattle.std.proofs.Common.{◌≡◌, ℕ, false, List, slice_get, Some, refl, true}
use Rattle.av_base.specs.Word.{Word}
use Rattle.iface_roles.specs.declared.records.HostPort.{HostPort}
use Rattle.iface_roles.specs.declared.records.Finished.TheVariants.{Host}
use Rattle.system_tables.specs.declared.tables.EndId.{EndId}
use Rattle.system_tables.specs.Tables.{SystemTable}
use Rattle.address_map.specs.Footprints.{known_at}
use Rattle.netlist.specs.Netlists.{Netlist}
use Rattle.netlist.specs.Runs.{Run}
use Rattle.cycle_sim.specs.Sims.{widths_of, input_widths}
use Rattle.memory_runs.specs.Views.{Levels, levels_at}
use Rattle.port_tables.specs.declared.roles.RolePort.{RolePort}
use Rattle.port_tables.specs.Lists.{Among, among_at}
use Rattle.port_tables.specs.Ports.{host_ports, is_output, name_at, ends_of, ports_of}
use Rattle.port_tables.specs.PortMaps.{HasKnownPorts}
use Rattle.interconnect.specs.Memory.{host_view}
use Rattle.port_rows.specs.Levels.{AllFit, AllStand, level_if}
use Rattle.port_rows.specs.Rows.{IsGivenRow}
use Rattle.port_rows.specs.Inputs.{FitsPort, InputsAreShown, InputsHaveRoom, EachStands, AllHaveRoom, IsInputOf, place_at}
use Rattle.port_rows.specs.Hosts.{FitsPorts, host_driven, host_levels, host_places}

same_levels : (one other : Levels) → one.read ≡ other.read → one.write ≡ other.write → one.address ≡ other.address → one.word ≡ other.word → one.enables ≡ other.enables → one.count ≡ other.count → one ≡ other
same_levels one other read write address word enables count =
    λ i. record { read = read i; write = write i; address = address i; word = word i; enables = enables i; count = count i }

-- the port of this number among those of a host
host_input : (system : SystemTable) (end : EndId) (host : HostPort) (k : ℕ) (port : RolePort) → Among end (ends_of system) → known_at system end ≡ Host host
    → slice_get (host_ports host) k ≡ Some port → is_output true port.role ≡ false → IsInputOf system end (Host host) port
host_input system end host k port among known at input = record { among = among; known = known; may = among_at (host_ports host) k port at; input = input }

pub host_shown : (system : SystemTable) (netlist : Netlist) (run : Run) (c : ℕ) (row : List Word) → InputsAreShown → EachStands → HasKnownPorts system → IsGivenRow system netlist run c row
    → (end : EndId) (host : HostPort) (levels : Levels) → Among end (ends_of system) → known_at system end ≡ Host host → FitsPorts host levels
    → AllStand row (host_levels (host_places system end) levels)
    → levels_at (host_view netlist run host.word_bytes (name_at system end)).signals c ≡ levels
host_shown system netlist run c row law each known given end host levels among there fits stand =
    let driven = host_driven (host_places system end) levels in
    let shown = λ (k : ℕ) (port : RolePort) (absent level : ℕ) (at : slice_get (host_ports host) k ≡ Some port) (input : is_output true port.role ≡ false) (room : FitsPort port.width absent level) (stands : AllStand row (level_if (place_at system end port.role) level)).
    law system netlist run c row known given end (Host host) port absent level (host_input system end host k port among there at input) room stands in
    same_levels _ levels
    (shown 1 _ 0 levels.read refl refl fits.read (each row driven 1 _ refl stand))
    (shown 2 _ 0 levels.write refl refl fits.write (each row driven 2 _ refl stand))
    (shown 0 _ 0 levels.address refl refl fits.address (each row driven 0 _ refl stand))
    (shown 3 _ 0 levels.word refl refl fits.word (each row driven 3 _ refl stand))
    (shown 4 _ _ levels.enables refl refl fits.enables (each row driven 4 _ refl stand))
    (shown 5 _ 1 levels.count refl refl fits.count (each row driven 5 _ refl stand))

pub host_fits : (system : SystemTable) (row : List Word) → InputsHaveRoom → AllHaveRoom → HasKnownPorts system → widths_of row ≡ input_widths (ports_of system)
    → (end : EndId) (host : HostPort) (levels : Levels) → Among end (ends_of system) → known_at system end ≡ Host host → FitsPorts host levels
    → AllFit row (host_levels (host_places system end) levels)
host_fits system row law all known same end host levels among there fits =
    let room = λ (k : ℕ) (port : RolePort) (absent level : ℕ) (at : slice_get (host_ports host) k ≡ Some port) (input : is_output true port.role ≡ false) (h : FitsPort port.width absent level).
    law system row known same end (Host host) port absent level (host_input system end host k port among there at input) h in
    all row (host_driven (host_places system end) levels) (
      room 0 _ 0 levels.address refl refl fits.address,
      (
        room 1 _ 0 levels.read refl refl fits.read,
        (
          room 2 _ 0 levels.write refl refl fits.write,
          (room 3 _ 0 levels.word refl refl fits.word, (room 4 _ _ levels.enables refl refl fits.enables, (room 5 _ 1 levels.count refl refl fits.count, tt))),
        ),
      ),
    )
