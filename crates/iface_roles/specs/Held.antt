-- What an interface holds: its ports by role, and its settings by property.
use Rattle.std.specs.Prelude.{ℕ, Bool, true, false, List, Option, Some, None, replicate, slice_index_or, slice_set, is_some, unwrap_or, if◌then◌else◌}
use Rattle.std.specs.Option.{option_map_or, ForSome}
use Rattle.iface_roles.specs.declared.interface.Port.{Port}
use Rattle.iface_roles.specs.declared.kinds.Kind.{Kind}
use Rattle.iface_roles.specs.declared.kinds.Side.{Side}
use Rattle.iface_roles.specs.declared.properties.PropertyId.{PropertyId}
use Rattle.iface_roles.specs.declared.properties.PropertyId.TheVariants.{AddressUnits, ReadLatency, ReadWaitTime, WriteWaitTime, MaximumPendingReadTransactions, WaitRequestAllowance, SetupTime, HoldTime, ExplicitAddressSpan, BitsPerSymbol, BurstCountUnits, TimingUnits, AddressAlignment, LinewrapBursts, BurstOnBurstBoundariesOnly, IsBigEndian, SymbolsPerBeat, DataBitsPerSymbol, FirstSymbolInHighOrderBits, MaxChannel, ReadyLatency, ReadyAllowance, BeatsPerCycle, EmptyWithinPacket, AssociatedClock, Enabled}
use Rattle.iface_roles.specs.declared.roles.Role.{Role}
use Rattle.iface_roles.specs.declared.roles.Role.TheVariants.{Address, Read, Write, WriteData, ByteEnable, BurstCount, WaitRequest, ReadData, ReadDataValid, Response, WriteResponseValid, Lock, DebugAccess, BeginBurstTransfer, Ready, Valid, Data, Channel, Error, StartOfPacket, EndOfPacket, Empty}
use Rattle.iface_roles.specs.Properties.{property_row, fixed_default, IsInRange}

-- the places of the tables' rows, by which ports and settings are kept
abbrev pub role_place : Role → ℕ
role_place Address = 0
role_place Read = 1
role_place Write = 2
role_place WriteData = 3
role_place ByteEnable = 4
role_place BurstCount = 5
role_place WaitRequest = 6
role_place ReadData = 7
role_place ReadDataValid = 8
role_place Response = 9
role_place WriteResponseValid = 10
role_place Lock = 11
role_place DebugAccess = 12
role_place BeginBurstTransfer = 13
role_place Ready = 14
role_place Valid = 15
role_place Data = 16
role_place Channel = 17
role_place Error = 18
role_place StartOfPacket = 19
role_place EndOfPacket = 20
role_place Empty = 21

abbrev pub property_place : PropertyId → ℕ
property_place AddressUnits = 0
property_place ReadLatency = 1
property_place ReadWaitTime = 2
property_place WriteWaitTime = 3
property_place MaximumPendingReadTransactions = 4
property_place WaitRequestAllowance = 5
property_place SetupTime = 6
property_place HoldTime = 7
property_place ExplicitAddressSpan = 8
property_place BitsPerSymbol = 9
property_place BurstCountUnits = 10
property_place TimingUnits = 11
property_place AddressAlignment = 12
property_place LinewrapBursts = 13
property_place BurstOnBurstBoundariesOnly = 14
property_place IsBigEndian = 15
property_place SymbolsPerBeat = 16
property_place DataBitsPerSymbol = 17
property_place FirstSymbolInHighOrderBits = 18
property_place MaxChannel = 19
property_place ReadyLatency = 20
property_place ReadyAllowance = 21
property_place BeatsPerCycle = 22
property_place EmptyWithinPacket = 23
property_place AssociatedClock = 24
property_place Enabled = 25

-- an interface: of each role its port, of each property the number that it was last set to
pub record Held : Type 0 where
  pub kind : Kind
  pub side : Side
  pub ports : List (Option Port)
  pub settings : List (Option ℕ)

-- an interface with no ports, of which nothing is set
abbrev pub empty : Kind → Side → Held
empty k s = record { kind = k; side = s; ports = replicate 22 None; settings = replicate 26 None }

abbrev pub port_of : Held → Role → Option Port
port_of i role = slice_index_or i.ports (role_place role) None

abbrev pub with_port : Held → Role → Port → Held
with_port i role port = record i { ports = slice_set i.ports (role_place role) (Some port) }

abbrev pub set_to : Held → PropertyId → Option ℕ
set_to i id = slice_index_or i.settings (property_place id) None

-- the clock is kept elsewhere, by its name
abbrev pub is_kept : PropertyId → Bool
is_kept AssociatedClock = false
is_kept _ = true

abbrev pub with_setting : Held → PropertyId → ℕ → Held
with_setting i id n = if is_kept id then record i { settings = slice_set i.settings (property_place id) (Some n) } else i

-- the interface has a port of the role
abbrev pub has : Held → Role → Bool
has i role = is_some (port_of i role)

-- the width of the role's port, 0 where there is none
abbrev pub width_of : Held → Role → ℕ
width_of i role = option_map_or (λ port. port.width) (port_of i role) 0

-- the last setting of the property, or its default
abbrev pub setting_of : Held → PropertyId → ℕ
setting_of i id = unwrap_or (set_to i id) (fixed_default (property_row id).default i.side)

-- each setting is within its property's range
abbrev pub AreInRange : List (Option ℕ) → Type 0
AreInRange settings = (id : PropertyId) → ForSome (slice_index_or settings (property_place id) None) (IsInRange id)
