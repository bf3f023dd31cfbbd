-- What transactions can be done on the system of files, and why they are refused.
use Rattle.std.specs.Prelude.{◌≡◌, ◌⊎◌, ℕ, ◌*◌, ◌^◌, ◌<◌, ◌≤◌, List, None}
use Rattle.iface_roles.specs.declared.records.HostPort.{HostPort}
use Rattle.iface_roles.specs.Proper.{range_of}
use Rattle.link_rules.specs.Links.{weight_of}
use Rattle.system_plan.specs.declared.faults.Refusal.{Refusal}
use Rattle.system_plan.specs.declared.faults.Refusal.TheVariants as refusal
use Rattle.system_plan.specs.Plans.{IsAccepted, IsRefusedBy}
use Rattle.packet_bytes.specs.declared.faults.PacketFault.{PacketFault}
use Rattle.packet_bytes.specs.declared.faults.PacketFault.TheVariants as packet
use Rattle.packet_bytes.specs.declared.gathering.Packet.{Packet}
use Rattle.packet_bytes.specs.Streams.{AreRead}
use Rattle.packet_bytes.specs.Rules.{first_fault, IsFaultOf}
use Rattle.scenario_runs.specs.Hosts.{IsTransferHost, HasNoTransferHost}
use Rattle.scenario_runs.specs.declared.bridges.faults.BridgeFault.{BridgeFault}
use Rattle.scenario_runs.specs.declared.bridges.faults.BridgeFault.TheVariants as fault

-- no rule refuses the system of files, its host 0 can do transactions, and the packets of the stream are such
pub record AreDue (files : List (List ℕ)) (bytes : List ℕ) : Type 0 where
  pub accepted : IsAccepted files
  pub port : HostPort
  pub host : IsTransferHost accepted.system port
  pub packets : List Packet
  pub read : AreRead bytes packets
  pub faultless : first_fault port.word_bytes (range_of port) 0 packets ≡ None

-- they are done in so many cycles
pub record CanBridge (files : List (List ℕ)) (bytes : List ℕ) (cycles : ℕ) : Type 0 where
  pub due : AreDue files bytes
  pub few : cycles * weight_of due.accepted.system ≤ 2 ^ 32

-- no host 0 of the system can do transactions
pub record IsUnfit (files : List (List ℕ)) : Type 0 where
  pub accepted : IsAccepted files
  pub none : HasNoTransferHost accepted.system

-- host 0 can do transactions, and the stream has this first fault
pub record IsFaultyStream (files : List (List ℕ)) (bytes : List ℕ) (byte rule : ℕ) : Type 0 where
  pub accepted : IsAccepted files
  pub port : HostPort
  pub host : IsTransferHost accepted.system port
  pub is : IsFaultOf port.word_bytes (range_of port) bytes (packet.Refused byte rule)

-- the transactions can be done, and in so many cycles nets may have this many values, more than are simulated
pub record IsTooLong (files : List (List ℕ)) (bytes : List ℕ) (cycles count : ℕ) : Type 0 where
  pub due : AreDue files bytes
  pub count_is : count ≡ cycles * weight_of due.accepted.system
  pub passed : 2 ^ 32 < count

-- why transactions are not done; want of memory is no reason
abbrev pub IsBridgeFault : List (List ℕ) → List ℕ → ℕ → BridgeFault → Type 0
IsBridgeFault files bytes cycles (fault.SystemRefused refusal) = IsRefusedBy files refusal
IsBridgeFault files bytes cycles (fault.PacketRefused byte rule) =
    ((byte ≡ 0) × (rule ≡ 8) × IsUnfit files) ⊎ IsFaultyStream files bytes byte rule
IsBridgeFault files bytes cycles (fault.TooManyValues count) = IsTooLong files bytes cycles count
IsBridgeFault files bytes cycles fault.NoMemory = ⊥

-- what becomes of what refuses the files of a system
abbrev pub fault_of_system : Refusal → BridgeFault
fault_of_system refusal.NoMemory = fault.NoMemory
fault_of_system refused = fault.SystemRefused refused

-- and of a fault of the stream
abbrev pub fault_of_packets : PacketFault → BridgeFault
fault_of_packets (packet.Refused byte rule) = fault.PacketRefused byte rule
fault_of_packets packet.NoMemory = fault.NoMemory
