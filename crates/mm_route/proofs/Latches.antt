-- The registers of the debt, and those of a latch behind them.
use Rattle.std.proofs.Common.{ℕ, ◌+◌, List, [], ◌∷◌, inl, inr, arith}
use Rattle.netlist.specs.Nets.{NetValue}
use Rattle.netlist.specs.Netlists.{Netlist, IsWaiting}
use Rattle.net_parts.specs.Groups.{InGroup, AreWaiting, in_row}
use Rattle.mm_route.specs.declared.registers.RegisterNets.{RegisterNets}
use Rattle.mm_route.specs.Registers.{latch_of, registers_of, RegistersWait}

abbrev pub debt_of : RegisterNets → List NetValue
debt_of registers = registers.owed ∷ registers.owing ∷ []

pub debt_within : (registers : RegisterNets) (n : ℕ) → InGroup (debt_of registers) n → InGroup (registers_of registers) n
debt_within registers n (inl e) = inl e
debt_within registers n (inr (inl e)) = inr (inl e)
debt_within registers n (inr (inr none)) = absurd none

pub latch_within : (registers : RegisterNets) (n : ℕ) → InGroup (latch_of registers.latch) n → InGroup (registers_of registers) n
latch_within registers n o = inr (inr o)

pub in_neither : (registers : RegisterNets) (n : ℕ) → ¬ InGroup (debt_of registers) n → ¬ InGroup (latch_of registers.latch) n → ¬ InGroup (registers_of registers) n
in_neither registers n debt latch (inl e) = debt (inl e)
in_neither registers n debt latch (inr (inl e)) = debt (inr (inl e))
in_neither registers n debt latch (inr (inr o)) = latch o

pub latch_apart : (netlist : Netlist) (registers : RegisterNets) (n : ℕ) → RegistersWait netlist registers → InGroup (latch_of registers.latch) n → ¬ InGroup (debt_of registers) n
latch_apart netlist registers n h o debt =
    let behind = (in_row (h.start + 1 + 1) (latch_of registers.latch) h.numbers.1.1 n o).least in
    elim debt [
      | inl e ↦ (let at = h.numbers.0 in absurd (omega (arith, behind, at, e)))
      | inr p ↦ elim p [ inl e ↦ (let at = h.numbers.1.0 in absurd (omega (arith, behind, at, e))) | inr none ↦ absurd none ]
    ]

pub debt_waits : (netlist : Netlist) (registers : RegisterNets) → RegistersWait netlist registers → AreWaiting netlist (debt_of registers)
debt_waits netlist registers h = record { start = h.start; numbers = (h.numbers.0, (h.numbers.1.0, tt)); wait = λ n o. h.wait n (debt_within registers n o) }

-- a latch waits while the debt's registers get their next nets
pub latch_waits : (old new : Netlist) (registers : RegisterNets) → RegistersWait old registers → ((n : ℕ) → ¬ InGroup (debt_of registers) n → IsWaiting old n → IsWaiting new n) → AreWaiting new (latch_of registers.latch)
latch_waits old new registers h on = record {
  start = h.start + 1 + 1;
  numbers = h.numbers.1.1;
  wait = λ n o. on n (latch_apart old registers n h o) (h.wait n (latch_within registers n o));
}
