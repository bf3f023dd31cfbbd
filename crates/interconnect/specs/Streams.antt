-- What a stream that is a wire must be in a module, and what every run of it does.
use Rattle.std.specs.Prelude.{ℕ, ◌≡◌, Bool, true, false, List, Some, codes, filter, slice_get}
use Rattle.av_base.specs.Word.{word}
use Rattle.system_tables.specs.declared.tables.Connection.{Connection}
use Rattle.iface_roles.specs.declared.records.StreamPort.{StreamPort}
use Rattle.iface_roles.specs.declared.records.Finished.TheVariants.{Source, Sink}
use Rattle.system_tables.specs.Tables.{SystemTable}
use Rattle.address_map.specs.Footprints.{known_at}
use Rattle.link_rules.specs.Links.{streams_of}
use Rattle.netlist.specs.declared.line.Line.{Line}
use Rattle.netlist.specs.declared.line.Equation.TheVariants.{Constant}
use Rattle.netlist.specs.Netlists.{Netlist, driver_of, input_net, line_of}
use Rattle.netlist.specs.Runs.{Run, IsRun}
use Rattle.netlist.specs.Signals.{signal, port_named}
use Rattle.stream_runs.specs.Source.{IsLegalSource}
use Rattle.stream_runs.specs.Awake.{IsServedAwake}
use Rattle.stream_runs.specs.Ends.{Declared, Signals, side_of, view_of, signal_or, stream_of, run_of}
use Rattle.port_tables.specs.declared.roles.PortRole.{PortRole}
use Rattle.port_tables.specs.declared.roles.RolePort.{RolePort}
use Rattle.port_tables.specs.Ports.{role_word, is_forward, has_bits, stream_ports, EndName, port_name}

-- the stream of this number, its connection and its two ends
pub record IsStream (system : SystemTable) (number : ℕ) (connection : Connection) (source : StreamPort)
    (sink : StreamPort) : Type 0 where
  pub place : ℕ
  pub place_is : slice_get (streams_of system) number ≡ Some place
  pub connection_is : slice_get system.connections place ≡ Some connection
  pub source_is : known_at system connection.start ≡ Source source
  pub sink_is : known_at system connection.end ≡ Sink sink

-- the signals at the ports of an end in a run, each found by its port's name
abbrev pub end_signals : Netlist → Run → EndName → Signals
end_signals netlist run name =
    record {
      ready = signal netlist run (port_name name (codes "ready"));
      valid = signal netlist run (port_name name (codes "valid"));
      word = signal netlist run (port_name name (codes "data"));
      channel = signal netlist run (port_name name (codes "channel"));
      error = signal netlist run (port_name name (codes "error"));
      startofpacket = signal netlist run (port_name name (codes "startofpacket"));
      endofpacket = signal netlist run (port_name name (codes "endofpacket"));
      empty = signal netlist run (port_name name (codes "empty"));
    }

-- the signal `dropped` at a sink
abbrev pub dropped_signal : Netlist → Run → EndName → ℕ → ℕ
dropped_signal netlist run name = signal_or 0 (signal netlist run (port_name name (codes "dropped")))

-- in every run of the module whose source is legal, the stream is served: the sink is given a prefix of the source's symbols, at
-- most the stated number behind, by the rules of ready, and `dropped` is high exactly where a beat doesn't reach it; and it never
-- idles beyond its window
abbrev pub ServesStream : Netlist → EndName → EndName → Declared → Declared → ℕ → Type 0
ServesStream netlist from to source sink fifo =
    (run : Run) (cycles : ℕ) → IsRun netlist run cycles
    → IsLegalSource (side_of source) (view_of (end_signals netlist run from)) cycles
    → IsServedAwake (stream_of source sink fifo)
    (run_of (end_signals netlist run from) (end_signals netlist run to) (dropped_signal netlist run to)) cycles

-- the output port of the first name is driven by the net of the input port of the second
pub record IsDrivenBy (netlist : Netlist) (output input : List ℕ) : Type 0 where
  pub output_port : ℕ
  pub input_port : ℕ
  pub output_is : port_named netlist.ports output ≡ Some output_port
  pub input_is : port_named netlist.ports input ≡ Some input_port
  pub driver : driver_of netlist output_port ≡ Some (input_net netlist.ports input_port)

-- of the ports of one name at both ends, the output is driven by the input: it is at the sink where the signal goes forward
abbrev pub IsJoinedBy : Bool → Netlist → EndName → EndName → List ℕ → Type 0
IsJoinedBy true netlist from to word = IsDrivenBy netlist (port_name to word) (port_name from word)
IsJoinedBy false netlist from to word = IsDrivenBy netlist (port_name from word) (port_name to word)

-- the output of a role is driven by the input of the same role at the other end
abbrev pub IsJoined : Netlist → EndName → EndName → PortRole → Type 0
IsJoined netlist from to role = IsJoinedBy (is_forward role) netlist from to (role_word role)

-- a net that is always low
abbrev pub low_line : Line
low_line = line_of 1 (Constant (word 1 0))

-- the stream is a wire: each output is driven by the input of the same role at the other end, and `dropped` by net `low`, which
-- is always low
pub record IsWired (netlist : Netlist) (from to : EndName) (declared : Declared) (low : ℕ) : Type 0 where
  pub joined : (k : ℕ) (port : RolePort) → slice_get (filter has_bits (stream_ports declared)) k ≡ Some port
      → IsJoined netlist from to port.role
  pub dropped_port : ℕ
  pub dropped_is : port_named netlist.ports (port_name to (codes "dropped")) ≡ Some dropped_port
  pub dropped : driver_of netlist dropped_port ≡ Some low
  pub is_low : slice_get netlist.lines low ≡ Some low_line
