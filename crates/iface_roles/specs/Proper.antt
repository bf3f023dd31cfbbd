-- Proper records, and the bounds that each of them keeps.
use Rattle.std.specs.Prelude.{◌≡◌, ◌*◌, ◌^◌, ◌<◌, ◌≤◌, ℕ, Bool, ◌||◌, max, IsTrue, if◌then◌else◌}
use Rattle.iface_roles.specs.declared.records.HostPort.{HostPort}
use Rattle.iface_roles.specs.declared.records.AgentPort.{AgentPort}
use Rattle.iface_roles.specs.declared.records.StreamPort.{StreamPort}
use Rattle.iface_roles.specs.declared.records.Finished.{Finished}
use Rattle.iface_roles.specs.Held.{Held, AreInRange}
use Rattle.iface_roles.specs.Records.{finished}
use Rattle.iface_roles.specs.Rules.{KeepsRules}

-- a proper record is that of some interface whose settings are in range and that keeps the rules
pub record IsProper (known : Finished) : Type 0 where
  pub held : Held
  pub in_range : AreInRange held.settings
  pub keeps : KeepsRules held
  pub is : known ≡ finished held

-- 1, 2, 4, 8 or 16 bytes
pub record IsWordSize (bytes : ℕ) : Type 0 where
  pub exponent : ℕ
  pub small : exponent ≤ 4
  pub power : bytes ≡ 2 ^ exponent

-- the bytes from one address of a host to the next
abbrev pub unit_of : HostPort → ℕ
unit_of host = if host.byte_units then 1 else host.word_bytes

-- the bytes that a host's addresses reach
abbrev pub range_of : HostPort → ℕ
range_of host = 2 ^ host.address_bits * unit_of host

-- the bytes that an agent's addresses reach: at least one word
abbrev pub span_of : AgentPort → ℕ
span_of agent =
    if agent.byte_units then max (2 ^ agent.address_bits) agent.word_bytes else 2 ^ agent.address_bits * agent.word_bytes

-- the ports of a host or an agent fit the tables and one another
pub record AreMmPorts (address_bits word_bytes burst_bits : ℕ) (reads writes readdatavalid waitrequest : Bool) : Type 0 where
  pub address : address_bits ≤ 32
  pub word : IsWordSize word_bytes
  pub burst : burst_bits ≤ 11
  pub transfers : IsTrue (reads || writes)
  pub valid_reads : IsTrue readdatavalid → IsTrue reads
  pub burst_waits : 0 < burst_bits → IsTrue waitrequest
  pub burst_valid : 0 < burst_bits → IsTrue reads → IsTrue readdatavalid

pub record IsBoundedHost (host : HostPort) : Type 0 where
  pub ports : AreMmPorts host.address_bits host.word_bytes host.burst_bits host.reads host.writes host.readdatavalid host.waitrequest
  pub addressed : 1 ≤ host.address_bits
  pub range : range_of host ≤ 2 ^ 32

pub record IsBoundedAgent (agent : AgentPort) : Type 0 where
  pub ports : AreMmPorts agent.address_bits agent.word_bytes agent.burst_bits agent.reads agent.writes agent.readdatavalid agent.waitrequest
  pub span : span_of agent ≤ 2 ^ 32
  pub read_latency : agent.read_latency ≤ 63
  pub pending : agent.pending ≤ 64

-- the ports and settings of a source or a sink fit the tables and one another; without `channel` the largest channel is 0
pub record IsBoundedStream (port : StreamPort) : Type 0 where
  pub some : 1 ≤ port.symbols
  pub few : port.symbols ≤ 32
  pub bit : 1 ≤ port.symbol_bits
  pub bits : port.symbol_bits ≤ 512
  pub latency : port.latency ≤ 63
  pub allowance : port.allowance ≤ 63
  pub channel : port.channel_bits ≤ 16
  pub channels : port.max_channel < 2 ^ port.channel_bits
  pub error : port.error_bits ≤ 32
  pub empty : port.empty_bits ≤ 8
  pub empty_packets : 0 < port.empty_bits → IsTrue port.packets
  pub empty_counts : IsTrue port.packets → port.symbols ≤ 2 ^ port.empty_bits
