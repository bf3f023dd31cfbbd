-- What drives the outputs of a module, port by port.
use Rattle.std.specs.Prelude.{◌≡◌, ℕ, ◌+◌, Bool, true, false, List, [], ◌∷◌, ◌++◌, Option, Some, None, slice_get}
use Rattle.netlist.specs.declared.line.PortLine.{PortLine}
use Rattle.netlist.specs.Nets.{NetValue}
use Rattle.netlist.specs.Netlists.{Netlist, IsNet, IsOutputPort, driver_of}
use Rattle.net_parts.specs.Nets.{IsNetOfWidth}
use Rattle.st_mux.specs.declared.packet.PacketNets.{PacketNets}

-- an output has a net of its width, and an input none
abbrev pub MayDrive : Netlist → PortLine → Option NetValue → Type 0
MayDrive netlist port (Some net) = (port.output ≡ true) × IsNetOfWidth netlist net port.width
MayDrive netlist port None = port.output ≡ false

-- one for each port, in their order
abbrev pub MayDriveEach : Netlist → List PortLine → List (Option NetValue) → Type 0
MayDriveEach netlist [] [] = Unit {0}
MayDriveEach netlist (port ∷ ports) (driver ∷ drivers) = MayDrive netlist port driver × MayDriveEach netlist ports drivers
MayDriveEach netlist _ _ = ⊥

-- the same, but for what drives the ports
pub record HasSameNets (old new : Netlist) : Type 0 where
  pub name : new.name ≡ old.name
  pub ports : new.ports ≡ old.ports
  pub lines : new.lines ≡ old.lines
  pub memories : new.memories ≡ old.memories

-- the net may drive the port, which nothing drives yet
pub record CanDrive (netlist : Netlist) (net : NetValue) (port : ℕ) : Type 0 where
  pub output : IsOutputPort netlist.ports port net.width
  pub is_net : IsNet netlist net
  pub undriven : driver_of netlist port ≡ None

-- each port has its driver
abbrev pub AreDriven : Netlist → List (Option NetValue) → Type 0
AreDriven netlist drivers =
    (k : ℕ) (net : NetValue) → slice_get drivers k ≡ Some (Some net) → driver_of netlist k ≡ Some net.number

-- a driver where the port is there
abbrev pub driver_if : Bool → NetValue → List (Option NetValue)
driver_if true net = Some net ∷ []
driver_if false net = []

abbrev pub none_if : Bool → List (Option NetValue)
none_if true = None ∷ []
none_if false = []

-- what drives the ports of an end with packets where beats come in: `ready` alone
abbrev pub coming_drivers : NetValue → Bool → Bool → List (Option NetValue)
coming_drivers ready channel empty = Some ready ∷ None ∷ None ∷ (none_if channel ++ (None ∷ None ∷ none_if empty))

-- and where they go out: all but `ready`
abbrev pub going_drivers : PacketNets → Option NetValue → Bool → List (Option NetValue)
going_drivers beat (Some channel) empty =
    None ∷ Some beat.valid ∷ Some beat.word ∷ Some channel ∷ Some beat.first ∷ Some beat.last ∷ driver_if empty beat.empty
going_drivers beat None empty =
    None ∷ Some beat.valid ∷ Some beat.word ∷ Some beat.first ∷ Some beat.last ∷ driver_if empty beat.empty

-- a part of a list stands in it from this place on
abbrev pub StandsAt : {A : Type 0} → List A → ℕ → List A → Type 0
StandsAt {A} whole place part = (j : ℕ) (item : A) → slice_get part j ≡ Some item → slice_get whole (place + j) ≡ Some item
