-- An endless run that begins with a run of so many cycles: what follows is computed from state and inputs of 0.
use Rattle.std.proofs.Common.{◌≡◌, ℕ, zero, suc, ◌+◌, ◌<◌, ◌≤◌, Bool, true, false, refl, sym, subst, arith}
use Rattle.std.specs.Prelude.{nat_lt, if◌then◌else◌}
use Rattle.std.proofs.lemmas.Bool.{ltb-true, lt-ltb, cond-true}
use Rattle.std.proofs.lemmas.Nat.{pow_pos}
use Rattle.netlist.specs.Netlists.{Netlist, IsWellMade}
use Rattle.netlist.specs.Runs.{Run, Cycle, cycle_of, WordsFit, IsValuation, StartsAt, Steps, IsRun, InputsFit, GoesOn}
use Rattle.netlist.proofs.Valuations.{completed}
use Rattle.netlist.proofs.Existence.{first_given, next_given, first_valuation, next_valuation, first_starts, next_steps}

-- the run's own cycles, and then computed ones
carried : Netlist → Run → ℕ → ℕ → Cycle
carried b run cycles zero = if nat_lt 0 cycles then cycle_of run 0 else completed b.lines (first_given b (λ _. 0) (λ _ _. 0))
carried b run cycles (suc c) = if nat_lt (suc c) cycles then cycle_of run (suc c) else completed b.lines (next_given b (λ _. 0) (carried b run cycles c))

carried_run : Netlist → Run → ℕ → Run
carried_run b run cycles = record { input = λ c. (carried b run cycles c).input; net = λ c. (carried b run cycles c).net; cell = λ c. (carried b run cycles c).cell }

low_inputs : (b : Netlist) → InputsFit b.ports (λ _. 0)
low_inputs b k w i = pow_pos w

low_words : (b : Netlist) → WordsFit b.memories (λ _ _. 0)
low_words b m memory at address lt = pow_pos memory.width

-- what holds of both holds of the one that is chosen
of_choice : {X : Type 0} (P : X → Type 0) (t : Bool) (x y : X) → (t ≡ true → P x) → (t ≡ false → P y) → P (if t then x else y)
of_choice P true x y f g = f refl
of_choice P false x y f g = g refl

each_valuation : (b : Netlist) (run : Run) (cycles : ℕ) → IsWellMade b → IsRun b run cycles → (c : ℕ) → IsValuation b (carried b run cycles c)
unfolding carried
each_valuation b run cycles h r zero =
    of_choice (IsValuation b) (nat_lt 0 cycles) _ _ (λ e. r.valuations 0 (ltb-true 0 cycles e)) (λ _. first_valuation b (λ _. 0) (λ _ _. 0) h (low_inputs b) (low_words b))
each_valuation b run cycles h r (suc c) =
    of_choice (IsValuation b) (nat_lt (suc c) cycles) _ _ (λ e. r.valuations (suc c) (ltb-true (suc c) cycles e)) (λ _. next_valuation b (λ _. 0) _ h (low_inputs b) (each_valuation b run cycles h r c))

starts : (b : Netlist) (run : Run) (cycles : ℕ) → IsWellMade b → IsRun b run cycles → StartsAt b (carried b run cycles 0)
unfolding carried
starts b run cycles h r = of_choice (StartsAt b) (nat_lt 0 cycles) _ _ (λ e. r.starts (ltb-true 0 cycles e)) (λ _. first_starts b (λ _. 0) (λ _ _. 0) h)

-- below the number the cycles are the run's own
own_cycle : (b : Netlist) (run : Run) (cycles c : ℕ) → c < cycles → carried b run cycles c ≡ cycle_of run c
unfolding carried
own_cycle b run cycles zero lt = cond-true (nat_lt 0 cycles) _ _ (lt-ltb 0 cycles lt)
own_cycle b run cycles (suc c) lt = cond-true (nat_lt (suc c) cycles) _ _ (lt-ltb (suc c) cycles lt)

steps : (b : Netlist) (run : Run) (cycles : ℕ) → IsWellMade b → IsRun b run cycles → (c : ℕ) → Steps b (carried b run cycles c) (carried b run cycles (suc c))
unfolding carried
steps b run cycles h r c =
    of_choice (Steps b (carried b run cycles c)) (nat_lt (suc c) cycles) _ _
    (λ e. (let lt : suc c < cycles = ltb-true (suc c) cycles e in
    let one : c + 1 ≡ suc c = omega arith in
    subst (λ x. Steps b x (cycle_of run (suc c))) (sym (own_cycle b run cycles c (omega arith)))
    (subst (λ k. Steps b (cycle_of run c) (cycle_of run k)) one (r.steps c (omega arith)))))
    (λ _. next_steps b (λ _. 0) (carried b run cycles c) h)

low_input : (b : Netlist) (run : Run) (cycles c : ℕ) → cycles ≤ c → (port : ℕ) → (carried b run cycles c).input port ≡ 0
unfolding carried
low_input b run cycles zero le port = of_choice (λ (x : Cycle). x.input port ≡ 0) (nat_lt 0 cycles) _ _ (λ e. absurd (let lt = ltb-true 0 cycles e in omega arith)) (λ _. refl)
low_input b run cycles (suc c) le port = of_choice (λ (x : Cycle). x.input port ≡ 0) (nat_lt (suc c) cycles) _ _ (λ e. absurd (let lt = ltb-true (suc c) cycles e in omega arith)) (λ _. refl)

-- each run is the beginning of an endless one
pub goes_on_law : (b : Netlist) → IsWellMade b → (run : Run) (cycles : ℕ) → IsRun b run cycles → GoesOn b run cycles
unfolding carried_run
goes_on_law b h run cycles r = record {
  endless = carried_run b run cycles;
  is_run = λ many. record {
    valuations = λ c _. each_valuation b run cycles h r c;
    starts = λ _. starts b run cycles h r;
    steps = λ c _. (let one : suc c ≡ c + 1 = omega arith in subst (λ k. Steps b (carried b run cycles c) (carried b run cycles k)) one (steps b run cycles h r c));
  };
  begins = λ c lt. own_cycle b run cycles c lt;
  idles = λ c le port. low_input b run cycles c le port;
}
