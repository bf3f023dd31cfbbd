-- The signals of a sink.
use Rattle.std.specs.Prelude.{◌≡◌, ℕ, Bool, Some, slice_get}
use Rattle.iface_roles.specs.declared.records.StreamPort.{StreamPort}
use Rattle.system_tables.specs.declared.tables.Connection.{Connection}
use Rattle.system_tables.specs.declared.tables.EndId.{EndId}
use Rattle.system_tables.specs.Tables.{SystemTable}
use Rattle.link_rules.specs.Links.{streams_of}
use Rattle.netlist.specs.Netlists.{Netlist}
use Rattle.netlist.specs.Runs.{Run}
use Rattle.histories.specs.History.{one_if}
use Rattle.stream_runs.specs.View.{Beat}
use Rattle.port_tables.specs.declared.roles.PortRole.TheVariants as role
use Rattle.port_tables.specs.Ports.{bits_if}
use Rattle.port_tables.specs.PortMaps.{port_at}
use Rattle.port_rows.specs.Rows.{level_of}
use Rattle.port_rows.specs.Inputs.{FitsPort}
use Rattle.port_rows.specs.declared.stream_ends.places.SinkPorts.{SinkPorts}

-- the end is the sink of the stream of this number
pub record IsSinkEnd (system : SystemTable) (number : ℕ) (end : EndId) : Type 0 where
  pub place : ℕ
  pub connection : Connection
  pub place_is : slice_get (streams_of system) number ≡ Some place
  pub connection_is : slice_get system.connections place ≡ Some connection
  pub end_is : connection.end ≡ end

-- the outputs that the sink at an end is given
abbrev pub sink_outputs : SystemTable → EndId → SinkPorts
sink_outputs system end = record {
  valid = port_at system end role.Valid;
  word = port_at system end role.Data;
  channel = port_at system end role.Channel;
  error = port_at system end role.Error;
  first = port_at system end role.StartOfPacket;
  last = port_at system end role.EndOfPacket;
  empty = port_at system end role.Empty;
  dropped = port_at system end role.Dropped;
}

-- the beat on its outputs in a cycle
abbrev pub beat_of : Netlist → Run → ℕ → SinkPorts → Beat
beat_of netlist run c ports = record {
  word = level_of netlist run c 0 ports.word;
  channel = level_of netlist run c 0 ports.channel;
  error = level_of netlist run c 0 ports.error;
  first = level_of netlist run c 0 ports.first;
  last = level_of netlist run c 0 ports.last;
  empty = level_of netlist run c 0 ports.empty;
}

-- a sink without ready is always ready
abbrev pub FitsReady : StreamPort → Bool → Type 0
FitsReady port ready = FitsPort (bits_if port.ready 1) 1 (one_if ready)
