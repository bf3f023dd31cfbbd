-- What a net of a netlist is: its width, and whether it is a register.
use Rattle.std.specs.Prelude.{◌≡◌, ℕ, ◌+◌, ◌<◌, true, slice_get, Some}
use Rattle.netlist.specs.declared.line.Line.{Line}
use Rattle.netlist.specs.Nets.{NetValue}
use Rattle.netlist.specs.Netlists.{Netlist, IsNet, is_register}
use Rattle.netlist.specs.Runs.{Run, IsRun}

-- the net is one of this netlist, of this width
pub record IsNetOfWidth (netlist : Netlist) (net : NetValue) (width : ℕ) : Type 0 where
  pub is_net : IsNet netlist net
  pub has_width : net.width ≡ width

-- a net of one bit
abbrev pub IsBit : Netlist → NetValue → Type 0
IsBit netlist net = IsNetOfWidth netlist net 1

-- net n is a register
pub record IsRegister (netlist : Netlist) (n : ℕ) : Type 0 where
  pub line : Line
  pub is : slice_get netlist.lines n ≡ Some line
  pub register : is_register line.equation ≡ true

-- in each run the net begins at 0
abbrev pub StartsLow : Netlist → NetValue → Type 0
StartsLow netlist net = (run : Run) (cycles : ℕ) → IsRun netlist run cycles → 0 < cycles → run.net 0 net.number ≡ 0

-- in each run the net takes what the other one was in the cycle before
abbrev pub TakesNext : Netlist → NetValue → NetValue → Type 0
TakesNext netlist register next =
    (run : Run) (cycles : ℕ) → IsRun netlist run cycles → (c : ℕ) → c + 1 < cycles
    → run.net (c + 1) register.number ≡ run.net c next.number
