-- The nets at both ends of a stream, and the signals on them in a run.
use Rattle.std.specs.Prelude.{◌≡◌, ◌*◌, ℕ, Bool, true, false, nat_lt, Option, Some, None, option_map, if◌then◌else◌}
use Rattle.netlist.specs.Nets.{NetValue}
use Rattle.netlist.specs.Netlists.{Netlist}
use Rattle.netlist.specs.Runs.{Run}
use Rattle.stream_runs.specs.Ends.{Declared, Signals}
use Rattle.net_parts.specs.Nets.{IsNetOfWidth, IsBit}
use Rattle.st_path.specs.declared.ends.SourceNets.{SourceNets}
use Rattle.st_path.specs.declared.ends.PathNets.{PathNets}

-- a net of this width where the end has the port, and else none
abbrev pub IsNetIf : Bool → ℕ → Netlist → Option NetValue → Type 0
IsNetIf true width netlist (Some net) = IsNetOfWidth netlist net width
IsNetIf true width netlist None = ⊥
IsNetIf false width netlist net = net ≡ None

-- the nets of the ports of a source that the module reads
pub record AreSourceNets (netlist : Netlist) (declared : Declared) (nets : SourceNets) : Type 0 where
  pub valid : IsBit netlist nets.valid
  pub word : IsNetOfWidth netlist nets.word (declared.symbols * declared.symbol_bits)
  pub channel : IsNetIf (nat_lt 0 declared.channel_bits) declared.channel_bits netlist nets.channel
  pub error : IsNetIf (nat_lt 0 declared.error_bits) declared.error_bits netlist nets.error
  pub startofpacket : IsNetIf declared.packets 1 netlist nets.startofpacket
  pub endofpacket : IsNetIf declared.packets 1 netlist nets.endofpacket
  pub empty : IsNetIf (nat_lt 0 declared.empty_bits) declared.empty_bits netlist nets.empty

-- a net of this width, where the end has the port
abbrev pub IsNetWhere : Bool → ℕ → Netlist → NetValue → Type 0
IsNetWhere true width netlist net = IsNetOfWidth netlist net width
IsNetWhere false width netlist net = Unit {0}

-- the nets that a path gives, as wide as the ports of the sink that they drive
pub record ArePathNets (netlist : Netlist) (sink : Declared) (nets : PathNets) : Type 0 where
  pub ready : IsBit netlist nets.ready
  pub valid : IsBit netlist nets.beat.valid
  pub word : IsNetOfWidth netlist nets.beat.word (sink.symbols * sink.symbol_bits)
  pub channel : IsNetWhere (nat_lt 0 sink.channel_bits) sink.channel_bits netlist nets.beat.channel
  pub error : IsNetWhere (nat_lt 0 sink.error_bits) sink.error_bits netlist nets.beat.error
  pub startofpacket : IsBit netlist nets.beat.first
  pub endofpacket : IsBit netlist nets.beat.last
  pub empty : IsNetWhere (nat_lt 0 sink.empty_bits) sink.empty_bits netlist nets.beat.empty
  pub dropped : IsBit netlist nets.dropped

-- the signal on a net
abbrev pub signal_on : Run → NetValue → ℕ → ℕ
signal_on run net c = run.net c net.number

-- the signal on the net of a port, where the end has one
abbrev pub signal_of : Run → Option NetValue → Option (ℕ → ℕ)
signal_of run net = option_map (signal_on run) net

-- the signal on a net that drives a port, where the end has the port
abbrev pub signal_where : Bool → Run → NetValue → Option (ℕ → ℕ)
signal_where present run net = if present then Some (signal_on run net) else None

-- the signals at the ports of the source
abbrev pub source_signals : Declared → SourceNets → PathNets → Run → Signals
source_signals source from made run =
    record {
      ready = signal_where source.ready run made.ready;
      valid = Some (signal_on run from.valid);
      word = Some (signal_on run from.word);
      channel = signal_of run from.channel;
      error = signal_of run from.error;
      startofpacket = signal_of run from.startofpacket;
      endofpacket = signal_of run from.endofpacket;
      empty = signal_of run from.empty;
    }

-- the signals at the ports of the sink
abbrev pub sink_signals : Declared → Option NetValue → PathNets → Run → Signals
sink_signals sink ready made run =
    record {
      ready = signal_of run ready;
      valid = Some (signal_on run made.beat.valid);
      word = Some (signal_on run made.beat.word);
      channel = signal_where (nat_lt 0 sink.channel_bits) run made.beat.channel;
      error = signal_where (nat_lt 0 sink.error_bits) run made.beat.error;
      startofpacket = signal_where sink.packets run made.beat.first;
      endofpacket = signal_where sink.packets run made.beat.last;
      empty = signal_where (nat_lt 0 sink.empty_bits) run made.beat.empty;
    }
