-- The ports at an end: the nets of those that the module reads, and what drives the others.
use Rattle.std.specs.Prelude.{◌≡◌, ℕ, ◌<◌, List, map, Option, Some, None, option_map, IfSome, slice_get}
use Rattle.system_tables.specs.declared.tables.EndId.{EndId}
use Rattle.system_tables.specs.Tables.{SystemTable}
use Rattle.netlist.specs.Nets.{NetValue, net_of}
use Rattle.netlist.specs.Netlists.{Netlist, IsNet, IsInputPort, IsOutputPort, driver_of, input_net}
use Rattle.port_tables.specs.declared.roles.PortRole.{PortRole}
use Rattle.port_tables.specs.Ports.{ports_of}
use Rattle.port_tables.specs.PortMaps.{port_at}
use Rattle.interconnect.specs.declared.outputs.Output.{Output}

-- ---- inputs

-- the port of a role is an input of this width, where there is one
abbrev pub IsInputIf : SystemTable → EndId → PortRole → ℕ → Type 0
IsInputIf system end role width = IfSome (port_at system end role) (λ port. IsInputPort (ports_of system) port width)

-- there is one
pub record IsInput (system : SystemTable) (end : EndId) (role : PortRole) (width : ℕ) : Type 0 where
  pub place : ℕ
  pub place_is : port_at system end role ≡ Some place
  pub port : IsInputPort (ports_of system) place width

-- the net of the input port of a role at an end, where there is one
abbrev pub input_at : SystemTable → EndId → PortRole → ℕ → Option NetValue
input_at system end role width = option_map (λ port. net_of (input_net (ports_of system) port) width) (port_at system end role)

-- ---- outputs

abbrev pub output_of : PortRole → NetValue → Output
output_of role net = record { role = role; net = net }

-- for each of these roles its net
abbrev pub outputs_by : (PortRole → NetValue) → List PortRole → List Output
outputs_by net roles = map (λ role. output_of role (net role)) roles

-- no two are of one role
abbrev pub HaveOwnRoles : List Output → Type 0
HaveOwnRoles outputs =
    (m n : ℕ) (a b : Output) → slice_get outputs m ≡ Some a → slice_get outputs n ≡ Some b → a.role ≡ b.role → m ≡ n

-- ---- drivers

-- the same but for what drives its ports
pub record HasSameNets (old new : Netlist) : Type 0 where
  pub name : new.name ≡ old.name
  pub ports : new.ports ≡ old.ports
  pub lines : new.lines ≡ old.lines
  pub memories : new.memories ≡ old.memories

-- the net may drive the port
pub record MayDrive (netlist : Netlist) (net : NetValue) (port : ℕ) : Type 0 where
  pub output : IsOutputPort netlist.ports port net.width
  pub is_net : IsNet netlist net
  pub undriven : driver_of netlist port ≡ None

-- each net may drive the port of its role at the end, where there is one
abbrev pub MayDriveAt : SystemTable → EndId → List Output → Netlist → Type 0
MayDriveAt system end outputs netlist =
    (n : ℕ) (o : Output) → slice_get outputs n ≡ Some o → IfSome (port_at system end o.role) (MayDrive netlist o.net)

-- the port of this role is driven by its net, where there is one
abbrev pub IsDrivenAs : SystemTable → EndId → Output → Netlist → Type 0
IsDrivenAs system end o netlist = IfSome (port_at system end o.role) (λ port. driver_of netlist port ≡ Some o.net.number)

-- the ports of these roles are driven, each by its net
abbrev pub AreDrivenAt : SystemTable → EndId → List Output → Netlist → Type 0
AreDrivenAt system end outputs netlist = (n : ℕ) (o : Output) → slice_get outputs n ≡ Some o → IsDrivenAs system end o netlist

-- those of the first ones are
abbrev pub AreDrivenBelow : ℕ → SystemTable → EndId → List Output → Netlist → Type 0
AreDrivenBelow count system end outputs netlist =
    (n : ℕ) (o : Output) → n < count → slice_get outputs n ≡ Some o → IsDrivenAs system end o netlist

-- the port is none of the end's
abbrev pub IsNoPortOf : SystemTable → EndId → ℕ → Type 0
IsNoPortOf system end port = (role : PortRole) → ¬ (port_at system end role ≡ Some port)

-- it is none of the first of these
abbrev pub IsNoOutputBelow : ℕ → SystemTable → EndId → List Output → ℕ → Type 0
IsNoOutputBelow count system end outputs port =
    (n : ℕ) (o : Output) → n < count → slice_get outputs n ≡ Some o → ¬ (port_at system end o.role ≡ Some port)

-- no port of the end is driven
abbrev pub AreUndriven : SystemTable → EndId → Netlist → Type 0
AreUndriven system end netlist = (role : PortRole) → IfSome (port_at system end role) (λ port. driver_of netlist port ≡ None)
