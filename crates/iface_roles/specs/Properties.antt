-- The table of properties.
use Rattle.std.specs.Prelude.{◌≡◌, ◌≤◌, ◌⊎◌, ℕ, Bool, true, false, ◌||◌, not, IsTrue, List, [], ◌∷◌, Option, Some, None, codes, if◌then◌else◌}
use Rattle.std.specs.List.{list_any}
use Rattle.std.specs.Option.{option_or}
use Rattle.iface_roles.specs.declared.kinds.Kind.{Kind}
use Rattle.iface_roles.specs.declared.kinds.Kind.TheVariants.{Mm, Stream}
use Rattle.iface_roles.specs.declared.kinds.Side.{Side}
use Rattle.iface_roles.specs.declared.kinds.Side.TheVariants.{Start, End}
use Rattle.iface_roles.specs.declared.properties.PropertyId.{PropertyId}
use Rattle.iface_roles.specs.declared.properties.PropertyId.TheVariants.{AddressUnits, ReadLatency, ReadWaitTime, WriteWaitTime, MaximumPendingReadTransactions, WaitRequestAllowance, SetupTime, HoldTime, ExplicitAddressSpan, BitsPerSymbol, BurstCountUnits, TimingUnits, AddressAlignment, LinewrapBursts, BurstOnBurstBoundariesOnly, IsBigEndian, SymbolsPerBeat, DataBitsPerSymbol, FirstSymbolInHighOrderBits, MaxChannel, ReadyLatency, ReadyAllowance, BeatsPerCycle, EmptyWithinPacket, AssociatedClock, Enabled}
use Rattle.iface_roles.specs.declared.properties.Row.{Row}
use Rattle.iface_roles.specs.declared.properties.Kinds.{Kinds}
use Rattle.iface_roles.specs.declared.properties.Kinds.TheVariants.{OfMm, OfStream, OfBoth}
use Rattle.iface_roles.specs.declared.properties.Values.{Values}
use Rattle.iface_roles.specs.declared.properties.Values.TheVariants.{Number, Any, Truth, Units, Time, Alignment, ClockName}
use Rattle.iface_roles.specs.declared.properties.DefaultValue.{DefaultValue}
use Rattle.iface_roles.specs.declared.properties.DefaultValue.TheVariants.{Fixed, BySide, Computed}
use Rattle.iface_roles.specs.Kinds.{is_avalon}
use Rattle.iface_roles.specs.Names.{same_name}

-- a row: the property's name, its other name (the same where it has none), the kinds of interface that have it, the
-- values that it takes, and the value that it has where it isn't set
pub record PropertyRow : Type 0 where
  pub name : List ℕ
  pub synonym : List ℕ
  pub kinds : Kinds
  pub values : Values
  pub default : DefaultValue

abbrev pub row : List ℕ → Kinds → Values → DefaultValue → PropertyRow
row n k v d = record { name = n; synonym = n; kinds = k; values = v; default = d }

abbrev pub row_also : List ℕ → List ℕ → Kinds → Values → DefaultValue → PropertyRow
row_also n s k v d = record { name = n; synonym = s; kinds = k; values = v; default = d }

-- what code keeps as a row is the row
pub record IsRow (kept : Row) (table : PropertyRow) : Type 0 where
  pub name : kept.name.now ≡ table.name
  pub synonym : kept.synonym.now ≡ table.synonym
  pub kinds : kept.kinds ≡ table.kinds
  pub values : kept.values ≡ table.values
  pub default : kept.default ≡ table.default

abbrev pub property_row : PropertyId → PropertyRow
property_row AddressUnits = row (codes "addressUnits") OfMm Units (BySide 1 0)
property_row ReadLatency = row (codes "readLatency") OfMm (Number 0 63) (Fixed 0)
property_row ReadWaitTime = row_also (codes "readWaitTime") (codes "readWaitStates") OfMm (Number 0 255) (Fixed 1)
property_row WriteWaitTime = row_also (codes "writeWaitTime") (codes "writeWaitStates") OfMm (Number 0 255) (Fixed 0)
property_row MaximumPendingReadTransactions = row (codes "maximumPendingReadTransactions") OfMm (Number 0 64) (Fixed 0)
property_row WaitRequestAllowance = row (codes "waitrequestAllowance") OfMm Any (Fixed 0)
property_row SetupTime = row (codes "setupTime") OfMm Any (Fixed 0)
property_row HoldTime = row (codes "holdTime") OfMm Any (Fixed 0)
property_row ExplicitAddressSpan = row (codes "explicitAddressSpan") OfMm Any (Fixed 0)
property_row BitsPerSymbol = row (codes "bitsPerSymbol") OfMm Any (Fixed 8)
property_row BurstCountUnits = row (codes "burstcountUnits") OfMm Units (Fixed 0)
property_row TimingUnits = row (codes "timingUnits") OfMm Time (Fixed 0)
property_row AddressAlignment = row (codes "addressAlignment") OfMm Alignment (Fixed 0)
property_row LinewrapBursts = row (codes "linewrapBursts") OfMm Truth (Fixed 0)
property_row BurstOnBurstBoundariesOnly = row (codes "burstOnBurstBoundariesOnly") OfMm Truth (Fixed 0)
property_row IsBigEndian = row (codes "isBigEndian") OfMm Truth (Fixed 0)
property_row SymbolsPerBeat = row (codes "symbolsPerBeat") OfStream (Number 1 32) Computed
property_row DataBitsPerSymbol = row (codes "dataBitsPerSymbol") OfStream (Number 1 512) (Fixed 8)
property_row FirstSymbolInHighOrderBits = row (codes "firstSymbolInHighOrderBits") OfStream Truth (Fixed 1)
property_row MaxChannel = row (codes "maxChannel") OfStream Any (Fixed 0)
property_row ReadyLatency = row (codes "readyLatency") OfStream (Number 0 63) (Fixed 0)
property_row ReadyAllowance = row (codes "readyAllowance") OfStream (Number 0 63) Computed
property_row BeatsPerCycle = row (codes "beatsPerCycle") OfStream Any (Fixed 1)
property_row EmptyWithinPacket = row (codes "emptyWithinPacket") OfStream Truth (Fixed 0)
property_row AssociatedClock = row (codes "associatedClock") OfBoth ClockName (Fixed 0)
property_row Enabled = row (codes "ENABLED") OfBoth Truth (Fixed 1)

-- every property, in the table's order
abbrev pub all_properties : List PropertyId
all_properties = AddressUnits ∷ ReadLatency ∷ ReadWaitTime ∷ WriteWaitTime ∷ MaximumPendingReadTransactions
    ∷ WaitRequestAllowance ∷ SetupTime ∷ HoldTime ∷ ExplicitAddressSpan ∷ BitsPerSymbol ∷ BurstCountUnits ∷ TimingUnits
    ∷ AddressAlignment ∷ LinewrapBursts ∷ BurstOnBurstBoundariesOnly ∷ IsBigEndian ∷ SymbolsPerBeat ∷ DataBitsPerSymbol
    ∷ FirstSymbolInHighOrderBits ∷ MaxChannel ∷ ReadyLatency ∷ ReadyAllowance ∷ BeatsPerCycle ∷ EmptyWithinPacket
    ∷ AssociatedClock ∷ Enabled ∷ []

-- names that every kind takes and passes over
abbrev pub passed_over : List (List ℕ)
passed_over = codes "associatedReset" ∷ codes "EXPORT_OF" ∷ codes "PORT_NAME_MAP" ∷ codes "CMSIS_SVD_VARIABLES"
    ∷ codes "SVD_ADDRESS_GROUP" ∷ codes "IPXACT_REGISTER_MAP_VARIABLES" ∷ codes "errorDescriptor"
    ∷ codes "maximumPendingWriteTransactions" ∷ codes "alwaysBurstMaxBurst" ∷ codes "constantBurstBehavior"
    ∷ codes "interleaveBursts" ∷ codes "bridgesToMaster" ∷ codes "bridgedAddressOffset" ∷ codes "addressGroup"
    ∷ codes "isFlash" ∷ codes "isMemoryDevice" ∷ codes "isNonVolatileStorage" ∷ codes "printableDevice"
    ∷ codes "registerIncomingSignals" ∷ codes "registerOutgoingSignals" ∷ codes "doStreamReads" ∷ codes "doStreamWrites"
    ∷ codes "minimumResponseLatency" ∷ codes "minimumReadLatency" ∷ codes "maxAddressWidth" ∷ []

-- interfaces of this kind have the property
abbrev pub is_of : Kinds → Kind → Bool
is_of OfMm Mm = true
is_of OfMm _ = false
is_of OfStream Stream = true
is_of OfStream _ = false
is_of OfBoth kind = is_avalon kind

-- the text is a name of the property
abbrev pub is_called : PropertyId → List ℕ → Bool
is_called id text = same_name (property_row id).name text || same_name (property_row id).synonym text

-- interfaces of this kind have the property, and the text names it
pub record IsKnownAs (kind : Kind) (id : PropertyId) (text : List ℕ) : Type 0 where
  pub of_kind : IsTrue (is_of (property_row id).kinds kind)
  pub name : IsTrue (is_called id text)

-- the text is among the names that are passed over
unfoldable pub is_listed : List ℕ → Bool
is_listed text = list_any (λ name. same_name name text) passed_over

-- clock, reset, conduit and interrupt interfaces pass every property over
abbrev pub IsPassedOver : Kind → List ℕ → Type 0
IsPassedOver kind text = IsTrue (not (is_avalon kind)) ⊎ IsTrue (is_listed text)

-- the least and the greatest number that the values have
abbrev pub least_of : Values → ℕ
least_of (Number low high) = low
least_of Any = 0
least_of Truth = 0
least_of Units = 0
least_of Time = 0
least_of Alignment = 0
least_of ClockName = 0

abbrev pub greatest_of : Values → ℕ
greatest_of (Number low high) = high
greatest_of Any = 0xffff_ffff
greatest_of Truth = 1
greatest_of Units = 1
greatest_of Time = 1
greatest_of Alignment = 1
greatest_of ClockName = 0xffff_ffff

-- the number is one that the property takes
pub record IsInRange (id : PropertyId) (number : ℕ) : Type 0 where
  pub low : least_of (property_row id).values ≤ number
  pub high : number ≤ greatest_of (property_row id).values

-- what the property is where it isn't set, and no other port or property decides it
abbrev pub fixed_default : DefaultValue → Side → ℕ
fixed_default (Fixed n) side = n
fixed_default (BySide host agent) Start = host
fixed_default (BySide host agent) End = agent
fixed_default Computed side = 0

abbrev pub is_computed : DefaultValue → Bool
is_computed Computed = true
is_computed (Fixed n) = false
is_computed (BySide host agent) = false

-- the number of the text among two words
abbrev pub which : List ℕ → List ℕ → List ℕ → Option ℕ
which zero one text =
    if same_name zero text then Some 0 else (if same_name one text then Some 1 else None)

-- the number that a word stands for, where the values are words
abbrev pub number_of : Values → List ℕ → Option ℕ
number_of Truth text = option_or (which (codes "false") (codes "true") text) (which (codes "0") (codes "1") text)
number_of Units text = which (codes "WORDS") (codes "SYMBOLS") text
number_of Time text = which (codes "Cycles") (codes "Nanoseconds") text
number_of Alignment text = which (codes "DYNAMIC") (codes "NATIVE") text
number_of (Number low high) text = None
number_of Any text = None
number_of ClockName text = None
