-- What a run shows at the ends of a plan's streams.
use Rattle.system_tables.specs.declared.tables.EndId.{EndId}
use Rattle.system_tables.specs.Tables.{SystemTable}
use Rattle.netlist.specs.Netlists.{Netlist}
use Rattle.netlist.specs.Runs.{Run}
use Rattle.stream_runs.specs.View.{EndView}
use Rattle.stream_runs.specs.Ends.{view_of}
use Rattle.port_tables.specs.Ports.{name_at}
use Rattle.interconnect.specs.Streams.{end_signals}

abbrev pub stream_view : SystemTable → Netlist → Run → EndId → EndView
stream_view system netlist run end = view_of (end_signals netlist run (name_at system end))
