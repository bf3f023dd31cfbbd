-- The rules on pairs of ends. Each is a test that is true where the rule fails.
use Rattle.std.specs.Prelude.{◌≡◌, ◌*◌, ◌%◌, ◌<◌, ℕ, zero, suc, Bool, false, ◌&&◌, ◌||◌, not, ◌==◌, nat_lt, if◌then◌else◌, List, [], ◌∷◌, IsTrue, slice_index_or}
use Rattle.iface_roles.specs.declared.records.HostPort.{HostPort}
use Rattle.iface_roles.specs.declared.records.AgentPort.{AgentPort}
use Rattle.iface_roles.specs.declared.records.StreamPort.{StreamPort}
use Rattle.iface_roles.specs.Records.{ready_latency}

-- P1: a host without `waitrequest`
abbrev pub cannot_wait : HostPort → Bool
cannot_wait host = not host.waitrequest

-- P2: a `waitrequestAllowance` above 0 at either end
abbrev pub allows_more : HostPort → AgentPort → Bool
allows_more host agent = nat_lt 0 host.allowance || nat_lt 0 agent.allowance

-- P3: an agent that is wider than the host and has no `byteenable`
abbrev pub is_too_wide : HostPort → AgentPort → Bool
is_too_wide host agent = nat_lt host.word_bytes agent.word_bytes && not agent.enables

-- P4: `writeresponsevalid` at either end
abbrev pub has_write_response : HostPort → AgentPort → Bool
has_write_response host agent = host.write_response || agent.write_response

-- P5: ends with no kind of transfer in common
abbrev pub has_nothing_in_common : HostPort → AgentPort → Bool
has_nothing_in_common host agent = not ((host.reads && agent.reads) || (host.writes && agent.writes))

-- P6: `lock` at either end; `debugaccess` or `beginbursttransfer` at the agent
abbrev pub is_unsupported : HostPort → AgentPort → Bool
is_unsupported host agent = host.lock || agent.unsupported

-- P7: `linewrapBursts` at either end; `burstOnBurstBoundariesOnly` at the agent
abbrev pub has_odd_bursts : HostPort → AgentPort → Bool
has_odd_bursts host agent = host.wraps || agent.wraps || agent.boundaries

-- P9: a `setupTime` or a `holdTime` above 0 at the agent
abbrev pub has_setup_or_hold : AgentPort → Bool
has_setup_or_hold agent = agent.setup_hold

-- the tests of a host and an agent by their numbers, from P1; P8 is an end on another clock than the system's
abbrev pub mm_tests : HostPort → AgentPort → Bool → List Bool
mm_tests host agent same_clock =
    cannot_wait host ∷ allows_more host agent ∷ is_too_wide host agent ∷ has_write_response host agent
    ∷ has_nothing_in_common host agent ∷ is_unsupported host agent ∷ has_odd_bursts host agent ∷ not same_clock
    ∷ has_setup_or_hold agent ∷ []

-- S1: unequal bits per symbol
abbrev pub has_other_symbols : StreamPort → StreamPort → Bool
has_other_symbols source sink = not (source.symbol_bits == sink.symbol_bits)

-- S2: packets at one end only
abbrev pub has_packets_at_one_end : StreamPort → StreamPort → Bool
has_packets_at_one_end source sink = (source.packets && not sink.packets) || (sink.packets && not source.packets)

-- the first number is a multiple of the second
abbrev pub is_multiple : ℕ → ℕ → Bool
is_multiple m n = m % n == 0

-- S3: a source without `ready` into a sink with it, or into a sink whose symbols per beat aren't a multiple of the source's
abbrev pub loses_beats : StreamPort → StreamPort → Bool
loses_beats source sink = not source.ready && (sink.ready || not (is_multiple sink.symbols source.symbols))

-- S4: a source with `channel` into a sink whose symbols per beat don't divide the source's
abbrev pub joins_channels : StreamPort → StreamPort → Bool
joins_channels source sink = nat_lt 0 source.channel_bits && not (is_multiple source.symbols sink.symbols)

-- S5: `error` ports of unequal width, or one at the source only
abbrev pub has_other_errors : StreamPort → StreamPort → Bool
has_other_errors source sink = nat_lt 0 source.error_bits && not (source.error_bits == sink.error_bits)

-- S6: a beat of more than 128 bits at either end
abbrev pub is_too_long : StreamPort → StreamPort → Bool
is_too_long source sink = nat_lt 128 (source.symbols * source.symbol_bits) || nat_lt 128 (sink.symbols * sink.symbol_bits)

-- the ready allowance of an end; one without `ready` allows no beat
abbrev pub ready_allowance : StreamPort → ℕ
ready_allowance end = if end.ready then end.allowance else 0

-- a ready latency above 8 or a ready allowance above 16
abbrev pub is_late : StreamPort → Bool
is_late end = nat_lt 8 (ready_latency end) || nat_lt 16 (ready_allowance end)

-- S7: such a one at either end
abbrev pub is_too_late : StreamPort → StreamPort → Bool
is_too_late source sink = is_late source || is_late sink

-- with `ready` a `readyAllowance` below the ready latency, or above it where that is 0; without it one other than `readyLatency`
abbrev pub is_odd : StreamPort → Bool
is_odd end =
    if end.ready then nat_lt end.allowance end.latency || ((end.latency == 0) && nat_lt 0 end.allowance)
    else not (end.allowance == end.latency)

-- S9: such a one at either end
abbrev pub has_odd_allowance : StreamPort → StreamPort → Bool
has_odd_allowance source sink = is_odd source || is_odd sink

-- the tests of a source and a sink by their numbers, from S1; S8 is an end on another clock than the system's
abbrev pub stream_tests : StreamPort → StreamPort → Bool → List Bool
stream_tests source sink same_clock = has_other_symbols source sink ∷ has_packets_at_one_end source sink ∷ loses_beats source sink
    ∷ joins_channels source sink ∷ has_other_errors source sink ∷ is_too_long source sink ∷ is_too_late source sink
    ∷ not same_clock
    ∷ has_odd_allowance source sink ∷ []

-- the test of this number, counted from 1, is true
abbrev pub fails : List Bool → ℕ → Bool
fails tests zero = false
fails tests (suc k) = slice_index_or tests k false

-- no test is true
abbrev pub KeepsAll : List Bool → Type 0
KeepsAll tests = (rule : ℕ) → fails tests rule ≡ false

-- this test is true, and none before it
pub record IsLeastFailing (tests : List Bool) (rule : ℕ) : Type 0 where
  pub broken : IsTrue (fails tests rule)
  pub least : (k : ℕ) → k < rule → fails tests k ≡ false
