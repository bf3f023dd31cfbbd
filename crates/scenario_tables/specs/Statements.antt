-- What the statements of an interface must keep, by its record.
use Rattle.std.specs.Prelude.{◌≡◌, ◌+◌, ◌-◌, ◌*◌, ◌^◌, ◌<◌, ◌≤◌, ℕ, Bool, List, [], ◌∷◌, length, All, Option, Some, None, IsTrue, IsFalse, if◌then◌else◌}
use Rattle.iface_roles.specs.declared.records.HostPort.{HostPort}
use Rattle.iface_roles.specs.declared.records.AgentPort.{AgentPort}
use Rattle.iface_roles.specs.declared.records.StreamPort.{StreamPort}
use Rattle.iface_roles.specs.Proper.{range_of, span_of}
use Rattle.scenario_tables.specs.declared.statements.HostStatement.{HostStatement}
use Rattle.scenario_tables.specs.declared.statements.HostStatement.TheVariants.{Idle, Write, Read}
use Rattle.scenario_tables.specs.declared.statements.Pattern.{Pattern}
use Rattle.scenario_tables.specs.declared.statements.AgentStatement.{AgentStatement}
use Rattle.scenario_tables.specs.declared.statements.AgentStatement.TheVariants.{Stall, Latency, Fill, Code}
use Rattle.scenario_tables.specs.declared.statements.SourceBeat.{SourceBeat}
use Rattle.scenario_tables.specs.declared.statements.SourceStatement.{SourceStatement}
use Rattle.scenario_tables.specs.declared.statements.SourceStatement.TheVariants.{Beat, Gap}

-- a number of cycles to wait
abbrev pub IsRest : ℕ → Type 0
IsRest cycles = (1 ≤ cycles) × (cycles ≤ 65536)

-- no interface has more statements than this
abbrev pub IsShort : {X : Type 0} → List X → Type 0
IsShort {X} script = length script ≤ 4096

-- ---- hosts

-- the longest burst of a host, in beats: one where it has no burstcount
abbrev pub longest_of : HostPort → ℕ
longest_of port = 2 ^ (port.burst_bits - 1)

-- all lanes of a word
abbrev pub all_lanes : ℕ → ℕ
all_lanes word_bytes = 2 ^ word_bytes - 1

-- a command of so many words
pub record FitsCommand (port : HostPort) (address enables count : ℕ) : Type 0 where
  pub address_is : address < range_of port
  pub enables_are : enables ≤ all_lanes port.word_bytes
  -- without byteenable all lanes are enabled
  pub all_enabled : IsFalse port.enables → enables ≡ all_lanes port.word_bytes
  pub some : 1 ≤ count
  pub few : count ≤ longest_of port

pub record FitsWrite (port : HostPort) (address enables : ℕ) (words : List ℕ) : Type 0 where
  pub writes : IsTrue port.writes
  pub command : FitsCommand port address enables (length words)
  pub fit : All (λ word. word < 2 ^ (8 * port.word_bytes)) words

pub record FitsRead (port : HostPort) (address enables count : ℕ) : Type 0 where
  pub reads : IsTrue port.reads
  pub command : FitsCommand port address enables count

abbrev pub FitsHost : HostPort → HostStatement → Type 0
FitsHost port (Idle cycles) = IsRest cycles
FitsHost port (Write address enables words) = FitsWrite port address enables words
FitsHost port (Read address enables count) = FitsRead port address enables count

pub record IsHostScript (port : HostPort) (script : List HostStatement) : Type 0 where
  pub short : IsShort script
  pub each : All (FitsHost port) script

-- ---- patterns

pub record IsPattern (pattern : Pattern) : Type 0 where
  pub some : 1 ≤ length pattern.stalls
  pub few : length pattern.stalls ≤ 64

-- ---- agents

pub record FitsFill (port : AgentPort) (offset : ℕ) (bytes : List ℕ) : Type 0 where
  pub some : 1 ≤ length bytes
  pub few : length bytes ≤ 32
  pub within : offset + length bytes ≤ span_of port

pub record FitsStall (has_stall : Bool) (pattern : Pattern) : Type 0 where
  pub stalls : IsTrue has_stall
  pub is_pattern : IsPattern pattern

pub record FitsLatency (port : AgentPort) (cycles : ℕ) : Type 0 where
  pub late : IsTrue port.readdatavalid
  pub some : 1 ≤ cycles
  pub few : cycles ≤ 255

pub record FitsCode (port : AgentPort) (offset code : ℕ) : Type 0 where
  pub answers : IsTrue port.response
  pub within : offset < span_of port
  pub few : code ≤ 3

abbrev pub FitsAgent : AgentPort → AgentStatement → Type 0
FitsAgent port (Stall pattern) = FitsStall port.waitrequest pattern
FitsAgent port (Latency cycles) = FitsLatency port cycles
FitsAgent port (Fill offset bytes) = FitsFill port offset bytes
FitsAgent port (Code offset code) = FitsCode port offset code

-- the patterns among the statements of an agent
abbrev pub stalls_of : List AgentStatement → List Pattern
stalls_of [] = []
stalls_of (Stall pattern ∷ later) = pattern ∷ stalls_of later
stalls_of (Latency cycles ∷ later) = stalls_of later
stalls_of (Fill offset bytes ∷ later) = stalls_of later
stalls_of (Code offset code ∷ later) = stalls_of later

-- the latencies
abbrev pub latencies_of : List AgentStatement → List ℕ
latencies_of [] = []
latencies_of (Stall pattern ∷ later) = latencies_of later
latencies_of (Latency cycles ∷ later) = cycles ∷ latencies_of later
latencies_of (Fill offset bytes ∷ later) = latencies_of later
latencies_of (Code offset code ∷ later) = latencies_of later

pub record IsAgentScript (port : AgentPort) (script : List AgentStatement) : Type 0 where
  pub short : IsShort script
  pub each : All (FitsAgent port) script
  pub one_stall : length (stalls_of script) ≤ 1
  pub one_latency : length (latencies_of script) ≤ 1

-- ---- sources

-- the ports have room for what a beat shows; an absent one bears 0
pub record FitsPorts (port : StreamPort) (beat : SourceBeat) : Type 0 where
  pub word : beat.word < 2 ^ (port.symbols * port.symbol_bits)
  pub channel_bits : beat.channel < 2 ^ port.channel_bits
  pub channel : beat.channel ≤ port.max_channel
  pub error : beat.error < 2 ^ port.error_bits
  pub empty_bits : beat.empty < 2 ^ port.empty_bits
  pub empty : beat.empty < port.symbols

-- the channel of the packet that is open behind a beat; none where none is open
abbrev pub open_behind : SourceBeat → Option ℕ
open_behind beat = if beat.last then None else Some beat.channel

-- a beat behind such an open packet: it begins one exactly where none is open, and keeps to the open one's channel
abbrev pub GoesOn : Option ℕ → SourceBeat → Type 0
GoesOn None beat = IsTrue beat.first
GoesOn (Some channel) beat = IsFalse beat.first × (beat.channel ≡ channel)

-- without packets a beat bears no mark
pub record IsUnmarked (beat : SourceBeat) : Type 0 where
  pub first : IsFalse beat.first
  pub last : IsFalse beat.last

pub record FitsBeat (port : StreamPort) (opened : Option ℕ) (beat : SourceBeat) : Type 0 where
  pub ports : FitsPorts port beat
  pub packet : IsTrue port.packets → GoesOn opened beat
  pub unmarked : IsFalse port.packets → IsUnmarked beat
  -- empty counts at the end of a packet alone
  pub full : IsFalse beat.last → beat.empty ≡ 0

-- the statements of a source, from where a packet is open or none is
abbrev pub FollowPackets : StreamPort → Option ℕ → List SourceStatement → Type 0
FollowPackets port opened [] = Unit {0}
FollowPackets port opened (Beat beat ∷ later) = FitsBeat port opened beat × FollowPackets port (open_behind beat) later
FollowPackets port opened (Gap cycles ∷ later) = IsRest cycles × FollowPackets port opened later

pub record IsSourceScript (port : StreamPort) (script : List SourceStatement) : Type 0 where
  pub short : IsShort script
  pub follow : FollowPackets port None script

-- ---- sinks

pub record IsSinkScript (port : StreamPort) (script : List Pattern) : Type 0 where
  pub one : length script ≤ 1
  pub each : All (FitsStall port.ready) script
