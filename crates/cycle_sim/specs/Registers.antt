-- The registers that the clock's edge sets.
use Rattle.std.specs.Prelude.{◌≡◌, ℕ, true, List, slice_get, Some}
use Rattle.netlist.specs.declared.line.Line.{Line}
use Rattle.netlist.specs.Netlists.{is_register, next_of}
use Rattle.cycle_sim.specs.declared.reading.registers.Register.{Register}

-- the register of a line
pub record IsRegisterOf (lines : List Line) (register : Register) : Type 0 where
  pub line : Line
  pub is : slice_get lines register.net ≡ Some line
  pub next : next_of line ≡ Some register.next

-- net n stands in the list as a register's
pub record HasRegister (registers : List Register) (n : ℕ) : Type 0 where
  pub place : ℕ
  pub register : Register
  pub is : slice_get registers place ≡ Some register
  pub net : register.net ≡ n

-- the registers, none left out
pub record AreRegisters (lines : List Line) (registers : List Register) : Type 0 where
  pub each : (j : ℕ) (register : Register) → slice_get registers j ≡ Some register → IsRegisterOf lines register
  pub all : (n : ℕ) (line : Line) → slice_get lines n ≡ Some line → is_register line.equation ≡ true → HasRegister registers n
