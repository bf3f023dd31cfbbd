-- The table of roles.
use Rattle.std.specs.Prelude.{◌≡◌, ℕ, List, [], ◌∷◌, codes}
use Rattle.iface_roles.specs.declared.kinds.Kind.{Kind}
use Rattle.iface_roles.specs.declared.kinds.Kind.TheVariants.{Mm, Stream}
use Rattle.iface_roles.specs.declared.roles.Row.{Row}
use Rattle.iface_roles.specs.declared.roles.Role.{Role}
use Rattle.iface_roles.specs.declared.roles.Role.TheVariants.{Address, Read, Write, WriteData, ByteEnable, BurstCount, WaitRequest, ReadData, ReadDataValid, Response, WriteResponseValid, Lock, DebugAccess, BeginBurstTransfer, Ready, Valid, Data, Channel, Error, StartOfPacket, EndOfPacket, Empty}
use Rattle.iface_roles.specs.declared.roles.Driver.{Driver}
use Rattle.iface_roles.specs.declared.roles.Driver.TheVariants.{ByStart, ByEnd, ByEither}
use Rattle.iface_roles.specs.declared.roles.Widths.{Widths}
use Rattle.iface_roles.specs.declared.roles.Widths.TheVariants.{Between, Word, Lanes, Symbols, EmptySymbols, AnyWidth}
use Rattle.iface_roles.specs.Names.{IsSameName}

-- a row: the role's name, the kind of interface that has it, the side that drives it, and its widths
pub record RoleRow : Type 0 where
  pub name : List ℕ
  pub kind : Kind
  pub driver : Driver
  pub widths : Widths

abbrev pub row : List ℕ → Kind → Driver → Widths → RoleRow
row n k d w = record { name = n; kind = k; driver = d; widths = w }

-- what code keeps as a row is the row
pub record IsRow (kept : Row) (table : RoleRow) : Type 0 where
  pub name : kept.name.now ≡ table.name
  pub kind : kept.kind ≡ table.kind
  pub driver : kept.driver ≡ table.driver
  pub widths : kept.widths ≡ table.widths

-- the table, in the order of ports in a header
abbrev pub role_row : Role → RoleRow
role_row Address = row (codes "address") Mm ByStart (Between 1 32)
role_row Read = row (codes "read") Mm ByStart (Between 1 1)
role_row Write = row (codes "write") Mm ByStart (Between 1 1)
role_row WriteData = row (codes "writedata") Mm ByStart Word
role_row ByteEnable = row (codes "byteenable") Mm ByStart Lanes
role_row BurstCount = row (codes "burstcount") Mm ByStart (Between 1 11)
role_row WaitRequest = row (codes "waitrequest") Mm ByEnd (Between 1 1)
role_row ReadData = row (codes "readdata") Mm ByEnd Word
role_row ReadDataValid = row (codes "readdatavalid") Mm ByEnd (Between 1 1)
role_row Response = row (codes "response") Mm ByEnd (Between 2 2)
role_row WriteResponseValid = row (codes "writeresponsevalid") Mm ByEither AnyWidth
role_row Lock = row (codes "lock") Mm ByEither AnyWidth
role_row DebugAccess = row (codes "debugaccess") Mm ByEither AnyWidth
role_row BeginBurstTransfer = row (codes "beginbursttransfer") Mm ByEither AnyWidth
role_row Ready = row (codes "ready") Stream ByEnd (Between 1 1)
role_row Valid = row (codes "valid") Stream ByStart (Between 1 1)
role_row Data = row (codes "data") Stream ByStart Symbols
role_row Channel = row (codes "channel") Stream ByStart (Between 1 16)
role_row Error = row (codes "error") Stream ByStart (Between 1 32)
role_row StartOfPacket = row (codes "startofpacket") Stream ByStart (Between 1 1)
role_row EndOfPacket = row (codes "endofpacket") Stream ByStart (Between 1 1)
role_row Empty = row (codes "empty") Stream ByStart EmptySymbols

-- the text names the role in interfaces of this kind
pub record IsNamed (kind : Kind) (role : Role) (text : List ℕ) : Type 0 where
  pub of_kind : (role_row role).kind ≡ kind
  pub name : IsSameName (role_row role).name text

-- every role, in the table's order
abbrev pub all_roles : List Role
all_roles = Address ∷ Read ∷ Write ∷ WriteData ∷ ByteEnable ∷ BurstCount ∷ WaitRequest ∷ ReadData ∷ ReadDataValid ∷ Response
    ∷ WriteResponseValid ∷ Lock ∷ DebugAccess ∷ BeginBurstTransfer ∷ Ready ∷ Valid ∷ Data ∷ Channel ∷ Error ∷ StartOfPacket
    ∷ EndOfPacket ∷ Empty ∷ []
