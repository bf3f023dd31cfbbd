-- What depends on nothing of a cycle but what it reads.
use Rattle.std.specs.Prelude.{◌≡◌}
use Rattle.netlist.specs.Nets.{NetValue}
use Rattle.netlist.specs.Netlists.{Netlist}
use Rattle.netlist.specs.Runs.{Cycle, IsValuation}

-- so it is of any two valuations
abbrev pub AnyTwo : Netlist → (Cycle → Cycle → Type 0) → Type 0
AnyTwo netlist P = (one other : Cycle) → IsValuation netlist one → IsValuation netlist other → P one other

-- the net has the same value in both cycles
abbrev pub IsSame : NetValue → Cycle → Cycle → Type 0
IsSame net one other = one.net net.number ≡ other.net net.number
