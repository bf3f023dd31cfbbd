-- The signals of a host in a row of values.
use Rattle.std.specs.Prelude.{◌*◌, List, [], ◌∷◌}
use Rattle.iface_roles.specs.declared.records.HostPort.{HostPort}
use Rattle.system_tables.specs.declared.tables.EndId.{EndId}
use Rattle.system_tables.specs.Tables.{SystemTable}
use Rattle.memory_runs.specs.Views.{Levels}
use Rattle.port_tables.specs.declared.roles.PortRole.TheVariants as role
use Rattle.port_tables.specs.Ports.{bits_if}
use Rattle.port_tables.specs.PortMaps.{port_at}
use Rattle.port_rows.specs.declared.driven.Driven.{Driven}
use Rattle.port_rows.specs.Levels.{Level, levels_for}
use Rattle.scenario_tables.specs.Statements.{all_lanes}
use Rattle.port_rows.specs.declared.host_ends.places.HostPlaces.{HostPlaces}
use Rattle.port_rows.specs.declared.host_ends.places.HostPorts.{HostPorts}
use Rattle.port_rows.specs.Inputs.{place_at, drives, FitsPort}

-- where the signals of the host at an end stand
abbrev pub host_places : SystemTable → EndId → HostPlaces
host_places system end = record {
  address = place_at system end role.Address;
  read = place_at system end role.Read;
  write = place_at system end role.Write;
  word = place_at system end role.WriteData;
  enables = place_at system end role.ByteEnable;
  count = place_at system end role.BurstCount;
}

-- the outputs that answer it
abbrev pub host_outputs : SystemTable → EndId → HostPorts
host_outputs system end = record {
  wait = port_at system end role.WaitRequest;
  valid = port_at system end role.ReadDataValid;
  word = port_at system end role.ReadData;
  response = port_at system end role.Response;
}

-- the levels of a host, signal by signal
abbrev pub host_driven : HostPlaces → Levels → List Driven
host_driven places levels =
    drives places.address levels.address
    ∷ drives places.read levels.read
    ∷ drives places.write levels.write
    ∷ drives places.word levels.word
    ∷ drives places.enables levels.enables
    ∷ drives places.count levels.count
    ∷ []

-- and what they set in a row
abbrev pub host_levels : HostPlaces → Levels → List Level
host_levels places levels = levels_for (host_driven places levels)

-- levels have room at the ports of a host; at absent ones they are 0, all lanes and a count of one beat
pub record FitsPorts (port : HostPort) (levels : Levels) : Type 0 where
  pub address : FitsPort port.address_bits 0 levels.address
  pub read : FitsPort (bits_if port.reads 1) 0 levels.read
  pub write : FitsPort (bits_if port.writes 1) 0 levels.write
  pub word : FitsPort (bits_if port.writes (8 * port.word_bytes)) 0 levels.word
  pub enables : FitsPort (bits_if port.enables port.word_bytes) (all_lanes port.word_bytes) levels.enables
  pub count : FitsPort port.burst_bits 1 levels.count
