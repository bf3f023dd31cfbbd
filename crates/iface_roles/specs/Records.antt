-- The record of an interface that keeps the rules: a function of what it holds.
use Rattle.std.specs.Prelude.{◌≤◌, ℕ, Bool, ◌||◌, ◌==◌, nat_lt, unwrap_or, if◌then◌else◌}
use Rattle.iface_roles.specs.declared.kinds.Kind.{Kind}
use Rattle.iface_roles.specs.declared.kinds.Kind.TheVariants.{Clock, Reset, Mm, Stream, Conduit, Interrupt}
use Rattle.iface_roles.specs.declared.kinds.Side.{Side}
use Rattle.iface_roles.specs.declared.kinds.Side.TheVariants.{Start, End}
use Rattle.iface_roles.specs.declared.properties.PropertyId.{PropertyId}
use Rattle.iface_roles.specs.declared.properties.PropertyId.TheVariants.{ReadLatency, ReadWaitTime, WriteWaitTime, MaximumPendingReadTransactions, WaitRequestAllowance, SetupTime, HoldTime, LinewrapBursts, BurstOnBurstBoundariesOnly, DataBitsPerSymbol, FirstSymbolInHighOrderBits, MaxChannel, ReadyLatency, ReadyAllowance}
use Rattle.iface_roles.specs.declared.records.HostPort.{HostPort}
use Rattle.iface_roles.specs.declared.records.AgentPort.{AgentPort}
use Rattle.iface_roles.specs.declared.records.StreamPort.{StreamPort}
use Rattle.iface_roles.specs.declared.records.Finished.{Finished}
use Rattle.iface_roles.specs.declared.records.Finished.TheVariants.{Host, Agent, Source, Sink, Other}
use Rattle.iface_roles.specs.declared.roles.Role.TheVariants.{Address, Read, Write, ByteEnable, BurstCount, WaitRequest, ReadDataValid, Response, WriteResponseValid, Lock, DebugAccess, BeginBurstTransfer, Ready, Channel, Error, StartOfPacket, Empty}
use Rattle.iface_roles.specs.Held.{Held, has, width_of, set_to, setting_of}
use Rattle.iface_roles.specs.Rules.{word_bytes, symbols_of, counts_bytes}

-- the truth value of a property
abbrev pub is_true : Held → PropertyId → Bool
is_true i id = setting_of i id == 1

-- the ready allowance: the ready latency where it isn't set, or is set to 0
abbrev pub allowance_of : Held → ℕ
allowance_of i =
    let allowance = unwrap_or (set_to i ReadyAllowance) 0 in
    if allowance == 0 then setting_of i ReadyLatency else allowance

-- the ready latency of an end of a stream: 0 without `ready`
abbrev pub ready_latency : StreamPort → ℕ
ready_latency port = if port.ready then port.latency else 0

abbrev pub host_of : Held → HostPort
host_of i = record {
  address_bits = width_of i Address;
  byte_units = counts_bytes i;
  word_bytes = word_bytes i;
  reads = has i Read;
  writes = has i Write;
  enables = has i ByteEnable;
  burst_bits = width_of i BurstCount;
  readdatavalid = has i ReadDataValid;
  waitrequest = has i WaitRequest;
  response = has i Response;
  lock = has i Lock;
  write_response = has i WriteResponseValid;
  allowance = setting_of i WaitRequestAllowance;
  wraps = is_true i LinewrapBursts;
}

-- it has a port that no connection takes at an agent
abbrev pub has_unsupported : Held → Bool
has_unsupported i = has i Lock || has i DebugAccess || has i BeginBurstTransfer

abbrev pub has_setup_or_hold : Held → Bool
has_setup_or_hold i = nat_lt 0 (setting_of i SetupTime) || nat_lt 0 (setting_of i HoldTime)

abbrev pub agent_of : Held → AgentPort
agent_of i = record {
  address_bits = width_of i Address;
  byte_units = counts_bytes i;
  word_bytes = word_bytes i;
  reads = has i Read;
  writes = has i Write;
  enables = has i ByteEnable;
  burst_bits = width_of i BurstCount;
  readdatavalid = has i ReadDataValid;
  waitrequest = has i WaitRequest;
  response = has i Response;
  unsupported = has_unsupported i;
  write_response = has i WriteResponseValid;
  allowance = setting_of i WaitRequestAllowance;
  wraps = is_true i LinewrapBursts;
  boundaries = is_true i BurstOnBurstBoundariesOnly;
  read_latency = setting_of i ReadLatency;
  read_wait = setting_of i ReadWaitTime;
  write_wait = setting_of i WriteWaitTime;
  pending = setting_of i MaximumPendingReadTransactions;
  setup_hold = nat_lt 0 (setting_of i SetupTime) || nat_lt 0 (setting_of i HoldTime);
}

-- of a source or a sink
abbrev pub stream_of : Held → StreamPort
stream_of i = record {
  symbols = symbols_of i;
  symbol_bits = setting_of i DataBitsPerSymbol;
  first_high = is_true i FirstSymbolInHighOrderBits;
  ready = has i Ready;
  latency = setting_of i ReadyLatency;
  allowance = allowance_of i;
  channel_bits = width_of i Channel;
  max_channel = setting_of i MaxChannel;
  error_bits = width_of i Error;
  packets = has i StartOfPacket;
  empty_bits = width_of i Empty;
}

-- the record of an interface of this kind and side
abbrev pub finished_as : Kind → Side → Held → Finished
finished_as Mm Start i = Host (host_of i)
finished_as Mm End i = Agent (agent_of i)
finished_as Stream Start i = Source (stream_of i)
finished_as Stream End i = Sink (stream_of i)
finished_as Clock side i = Other
finished_as Reset side i = Other
finished_as Conduit side i = Other
finished_as Interrupt side i = Other

abbrev pub finished : Held → Finished
finished i = finished_as i.kind i.side i

-- the numbers of a memory-mapped record are within the tables
pub record FitsMm (i : Held) : Type 0 where
  pub address : width_of i Address ≤ 32
  pub word : word_bytes i ≤ 16
  pub burst : width_of i BurstCount ≤ 11

-- the numbers of a stream's record are within the tables
pub record FitsStream (i : Held) : Type 0 where
  pub symbols : symbols_of i ≤ 32
  pub channel : width_of i Channel ≤ 16
  pub error : width_of i Error ≤ 32
  pub empty : width_of i Empty ≤ 8
