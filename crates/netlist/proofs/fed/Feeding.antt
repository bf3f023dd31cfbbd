-- A run with one more cycle: the state that follows, and given inputs.
use Rattle.std.proofs.Common.{◌≡◌, ℕ, suc, ◌+◌, ◌<◌, Bool, true, false, slice_get, Some, None, refl, sym, ap, ◌∙◌, subst, arith}
use Rattle.std.specs.Prelude.{IfSome, nat_lt, if◌then◌else◌}
use Rattle.std.proofs.lemmas.Bool.{ltb-true, ltb-false, lt-ltb, le-ltb, cond-true, cond-false}
use Rattle.netlist.specs.declared.line.Line.{Line}
use Rattle.netlist.specs.declared.line.Equation.{Equation}
use Rattle.netlist.specs.declared.line.Equation.TheVariants.{Reg}
use Rattle.netlist.specs.Netlists.{Netlist, IsWellMade, is_register, next_of, next_in}
use Rattle.netlist.specs.Runs.{Run, Cycle, cycle_of, IsValuation, StartsAt, Steps, IsRun, InputsFit, StateFits, SameState, HasValuation, GoesOn, reset_of, word_after}
use Rattle.netlist.specs.Fed.{GoesOnFed}

-- ---- cycles with one state

no_reset : (e : Equation) → is_register e ≡ false → reset_of e ≡ None
no_reset (Reg reset next) held = absurd (cc)
no_reset e held = refl

no_next_in : (e : Equation) → is_register e ≡ false → next_in e ≡ None
no_next_in (Reg reset next) held = absurd (cc)
no_next_in e held = refl

no_next : (line : Line) → is_register line.equation ≡ false → next_of line ≡ None
no_next line held = by line.waits
  where
    by : (waits : Bool) → (if waits then None else next_in line.equation) ≡ None
    by true = refl
    by false = no_next_in line.equation held

-- what has the state of a first cycle is one
same_start : (netlist : Netlist) (x y : Cycle) → SameState netlist x y → StartsAt netlist x → StartsAt netlist y
same_start netlist x y same starts = record { registers = λ n line at. one n line at (is_register line.equation) refl }
  where
    one : (n : ℕ) (line : Line) → slice_get netlist.lines n ≡ Some line → (is : Bool) → is_register line.equation ≡ is → IfSome (reset_of line.equation) (λ v. y.net n ≡ v)
    one n line at true e = subst (λ k. IfSome (reset_of line.equation) (λ v. k ≡ v)) (same.registers n line at e) (starts.registers n line at)
    one n line at false e = subst (λ o. IfSome o (λ v. y.net n ≡ v)) (sym (no_reset line.equation e)) tt

-- what has the state of a cycle that follows does follow
same_step : (netlist : Netlist) (before x y : Cycle) → SameState netlist x y → Steps netlist before x → Steps netlist before y
same_step netlist before x y same steps = record {
  registers = λ n line at. one n line at (is_register line.equation) refl;
  words = λ m memory at address low. subst (λ k. IfSome memory.write (λ write. k ≡ word_after before write m address)) (same.words m memory at address low) (steps.words m memory at address low);
}
  where
    one : (n : ℕ) (line : Line) → slice_get netlist.lines n ≡ Some line → (is : Bool) → is_register line.equation ≡ is → IfSome (next_of line) (λ m. y.net n ≡ before.net m)
    one n line at true e = subst (λ k. IfSome (next_of line) (λ m. k ≡ before.net m)) (same.registers n line at e) (steps.registers n line at)
    one n line at false e = subst (λ o. IfSome o (λ m. y.net n ≡ before.net m)) (sym (no_next line e)) tt

state_fits : (netlist : Netlist) (x : Cycle) (inputs : ℕ → ℕ) → IsValuation netlist x → StateFits netlist (record { input = inputs; net = x.net; cell = x.cell })
state_fits netlist x inputs v = record { registers = λ n line at is. (v.nets n line at).fits; words = v.words }

-- ---- the longer run

-- the run's own cycles, and then this one
cycle_with : Run → ℕ → Cycle → ℕ → Cycle
cycle_with run cycles last c = if nat_lt c cycles then cycle_of run c else last

run_with : Run → ℕ → Cycle → Run
run_with run cycles last = record {
  input = λ c. (cycle_with run cycles last c).input;
  net = λ c. (cycle_with run cycles last c).net;
  cell = λ c. (cycle_with run cycles last c).cell;
}

module _ (run : Run) (cycles : ℕ) (last : Cycle) where
  own : (c : ℕ) → c < cycles → cycle_with run cycles last c ≡ cycle_of run c
  unfolding cycle_with
  own c low = cond-true (nat_lt c cycles) _ _ (lt-ltb c cycles low)

  at_end : cycle_with run cycles last cycles ≡ last
  unfolding cycle_with
  at_end = cond-false (nat_lt cycles cycles) _ _ (le-ltb cycles cycles (omega arith))

-- the last of so many cycles, or an earlier one
data LastOrEarlier (c cycles : ℕ) : Type 0 where
  Last : cycles ≡ c → LastOrEarlier c cycles
  Earlier : c < cycles → LastOrEarlier c cycles

last_or_earlier : (c cycles : ℕ) → c < suc cycles → LastOrEarlier c cycles
last_or_earlier c cycles low = by (nat_lt c cycles) refl
  where
    by : (b : Bool) → nat_lt c cycles ≡ b → LastOrEarlier c cycles
    by true e = Earlier (ltb-true c cycles e)
    by false e = Last (let more = ltb-false c cycles e in omega (arith, low, more))

module _ (netlist : Netlist) (run : Run) (cycles : ℕ) (r : IsRun netlist run cycles) (on : GoesOn netlist run cycles) (inputs : ℕ → ℕ)
    (v : HasValuation netlist (record { input = inputs; net = on.endless.net cycles; cell = on.endless.cell cycles })) where
  abbrev each : ℕ → Cycle
  each = cycle_with run cycles v.cycle

  same : SameState netlist (cycle_of on.endless cycles) v.cycle
  same = record { registers = v.state.registers; words = v.state.words }

  valued : (c : ℕ) → LastOrEarlier c cycles → IsValuation netlist (each c)
  valued c (Last is) = subst (λ k. IsValuation netlist (each k)) is (subst (IsValuation netlist) (sym (at_end run cycles v.cycle)) v.valuation)
  valued c (Earlier low) = subst (IsValuation netlist) (sym (own run cycles v.cycle c low)) (r.valuations c low)

  started : LastOrEarlier 0 cycles → StartsAt netlist (each 0)
  started (Last is) =
      let first = (on.is_run 1).starts (omega arith) in
      subst (λ k. StartsAt netlist (each k)) is (subst (StartsAt netlist) (sym (at_end run cycles v.cycle))
      (same_start netlist (cycle_of on.endless cycles) v.cycle same (subst (λ k. StartsAt netlist (cycle_of on.endless k)) (sym is) first)))
  started (Earlier low) = subst (StartsAt netlist) (sym (own run cycles v.cycle 0 low)) (r.starts low)

  stepped : (c : ℕ) → c < cycles → LastOrEarlier (c + 1) cycles → Steps netlist (each c) (each (c + 1))
  stepped c low (Last is) =
      let next = (on.is_run (cycles + 1)).steps c (omega (arith, is)) in
      let from : Steps netlist (cycle_of run c) (cycle_of on.endless (c + 1)) = subst (λ x. Steps netlist x (cycle_of on.endless (c + 1))) (on.begins c low) next in
      let to : Steps netlist (cycle_of run c) (cycle_of on.endless cycles) = subst (λ k. Steps netlist (cycle_of run c) (cycle_of on.endless k)) (sym is) from in
      subst (λ k. Steps netlist (each c) (each k)) is
      (subst (λ x. Steps netlist x (each cycles)) (sym (own run cycles v.cycle c low))
      (subst (Steps netlist (cycle_of run c)) (sym (at_end run cycles v.cycle)) (same_step netlist (cycle_of run c) (cycle_of on.endless cycles) v.cycle same to)))
  stepped c low (Earlier below) =
      subst (λ x. Steps netlist x (each (c + 1))) (sym (own run cycles v.cycle c low))
      (subst (Steps netlist (cycle_of run c)) (sym (own run cycles v.cycle (c + 1) below)) (r.steps c below))

  pub fed_run : GoesOnFed netlist run cycles inputs
  unfolding run_with
  fed_run = record {
    longer = run_with run cycles v.cycle;
    is_run = record {
      valuations = λ c low. valued c (last_or_earlier c cycles low);
      starts = λ some. started (last_or_earlier 0 cycles some);
      steps = λ c low. stepped c (omega (arith, low)) (last_or_earlier (c + 1) cycles low);
    };
    begins = λ c low. own run cycles v.cycle c low;
    fed = ap (λ (x : Cycle). x.input) (at_end run cycles v.cycle) ∙ v.inputs;
  }

pub runs_go_on : ((netlist : Netlist) → IsWellMade netlist → (run : Run) (cycles : ℕ) → IsRun netlist run cycles → GoesOn netlist run cycles)
    → ((netlist : Netlist) → IsWellMade netlist → (given : Cycle) → InputsFit netlist.ports given.input → StateFits netlist given → HasValuation netlist given)
    → (netlist : Netlist) → IsWellMade netlist → (run : Run) (cycles : ℕ) (inputs : ℕ → ℕ) → IsRun netlist run cycles → InputsFit netlist.ports inputs → GoesOnFed netlist run cycles inputs
runs_go_on goes_on has_valuation netlist h run cycles inputs r fit =
    let on = goes_on netlist h run cycles r in
    let value = (on.is_run (suc cycles)).valuations cycles (omega arith) in
    fed_run netlist run cycles r on inputs (has_valuation netlist h _ fit (state_fits netlist (cycle_of on.endless cycles) inputs value))
