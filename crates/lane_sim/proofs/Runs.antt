-- Where a simulator stands in a run.
use Rattle.std.proofs.Common.{◌≡◌, ◌≢◌, ℕ, zero, suc, ◌+◌, ◌^◌, ◌<◌, Bool, true, false, List, slice_get, length, Option, Some, None, inl, inr, refl, sym, subst, ap, ◌∙◌, arith}
use Rattle.std.specs.Prelude.{IfSome, if◌then◌else◌}
use Rattle.std.proofs.lemmas.Bool.{cases_lt, eq-eqb, ne_eqb, false≢true}
use Rattle.std.proofs.lemmas.Option.{slice_get_within}
use Rattle.netlist.specs.declared.line.Line.{Line}
use Rattle.netlist.specs.declared.line.Memory.{Memory}
use Rattle.netlist.specs.declared.line.MemWrite.{MemWrite}
use Rattle.netlist.specs.declared.line.Equation.{Equation}
use Rattle.netlist.specs.declared.line.Equation.TheVariants.{Reg}
use Rattle.netlist.specs.Netlists.{Netlist, IsInputPort, input_net, is_register, next_in, next_of}
use Rattle.netlist.specs.Runs.{Cycle, Run, cycle_of, word_after, reset_of, StartsAt, Steps, IsValuation, SameInputs, SameState, SameNets}
use Rattle.av_base.specs.Word.{Word}
use Rattle.cycle_sim.specs.Sims.{SimValue, bits_at, cycle_with, given_to, place_of, present}
use Rattle.lane_sim.specs.LaneSims.{IsStepWith, IsEdge}
use Rattle.cycle_sim.specs.Standing.{IsCleared, IsFirst, IsClearedRun, StandsFor, with_cycle}
use Rattle.lane_sim.proofs.Values.{width_at-line}

abbrev either : Bool → Cycle → Cycle → Cycle
either t x y = record {
  input = λ port. if t then x.input port else y.input port;
  net = λ n. if t then x.net n else y.net n;
  cell = λ m address. if t then x.cell m address else y.cell m address;
}

-- the run with a cycle put in
chosen_same : (run : Run) (c k : ℕ) (cycle : Cycle) → (c ≡ k) → cycle_of (with_cycle run c cycle) k ≡ cycle
chosen_same run c k cycle e = ap (λ t. either t cycle (cycle_of run k)) (eq-eqb k c (sym e))

chosen_other : (run : Run) (c k : ℕ) (cycle : Cycle) → k ≢ c → cycle_of (with_cycle run c cycle) k ≡ cycle_of run k
chosen_other run c k cycle d = ap (λ t. either t cycle (cycle_of run k)) (ne_eqb k c d)

-- a net with a next net is a register
next_register : (e : Equation) (m : ℕ) → next_in e ≡ Some m → is_register e ≡ true
next_register (Reg reset next) m h = refl
next_register _ m h = cc

pub register_of_next : (line : Line) (m : ℕ) → next_of line ≡ Some m → is_register line.equation ≡ true
register_of_next line m h = by_waits line.waits h where
  by_waits : (t : Bool) → (if t then None else next_in line.equation) ≡ Some m → is_register line.equation ≡ true
  by_waits true e = cc
  by_waits false e = next_register line.equation m e

reset_register : (e : Equation) (x : ℕ) → reset_of e ≡ Some x → is_register e ≡ true
reset_register (Reg reset next) x h = refl
reset_register _ x h = cc

if_some_same : (o : Option ℕ) (u v : ℕ) (f : ℕ → ℕ) → ((m : ℕ) → o ≡ Some m → u ≡ v) → IfSome o (λ m. u ≡ f m) → IfSome o (λ m. v ≡ f m)
if_some_same None u v f same h = tt
if_some_same (Some m) u v f same h = sym (same m refl) ∙ h

-- a state that is the same begins a run, or follows a cycle, as well
pub first_same : (b : Netlist) (x y : Cycle) → SameState b x y → IsFirst b x → IsFirst b y
first_same b x y s h = record {
  starts = record { registers = λ n line at. if_some_same (reset_of line.equation) (x.net n) (y.net n) (λ k. k) (λ m e. s.registers n line at (reset_register line.equation m e)) (h.starts.registers n line at) };
  cleared = λ m memory at address lt. sym (s.words m memory at address lt) ∙ h.cleared m memory at address lt;
}

word_same : (o : Option MemWrite) (u v : ℕ) (f : MemWrite → ℕ) → u ≡ v → IfSome o (λ write. u ≡ f write) → IfSome o (λ write. v ≡ f write)
word_same None u v f e h = tt
word_same (Some write) u v f e h = sym e ∙ h

pub steps_same : (b : Netlist) (before x y : Cycle) → SameState b x y → Steps b before x → Steps b before y
steps_same b before x y s h = record {
  registers = λ n line at. if_some_same (next_of line) (x.net n) (y.net n) before.net (λ m e. s.registers n line at (register_of_next line m e)) (h.registers n line at);
  words = λ m memory at address lt. word_same memory.write (x.cell m address) (y.cell m address) (λ write. word_after before write m address) (s.words m memory at address lt) (h.words m memory at address lt);
}

-- a run of no cycle
pub no_cycle : (b : Netlist) (run : Run) → IsClearedRun b run 0
no_cycle b run = record {
  is_run = record { valuations = λ c lt. absurd (omega arith); starts = λ lt. absurd (omega arith); steps = λ c lt. absurd (omega arith) };
  cleared = λ lt. absurd (omega arith);
}

pub stands_at_first : (sim : SimValue) (run : Run) → IsFirst sim.netlist (present sim) → StandsFor sim run 0
stands_at_first sim run h = record {
  passed = no_cycle sim.netlist run;
  first = λ e. h;
  later = λ c e. absurd (omega arith);
}

-- the run with the present cycle is one cycle longer
pub one_more : (b : Netlist) (run : Run) (cycles : ℕ) (cycle : Cycle) → IsClearedRun b run cycles → (cycles ≡ 0 → IsFirst b cycle) → ((c : ℕ) → c + 1 ≡ cycles → Steps b (cycle_of run c) cycle) → IsValuation b cycle →
    IsClearedRun b (with_cycle run cycles cycle) (cycles + 1)
one_more b run cycles cycle h first later v = record {
  is_run = record {
    valuations = λ c lt. elim (cases_lt c cycles) [
      | inl below ↦ subst (IsValuation b) (sym (chosen_other run cycles c cycle (λ e. omega arith))) (h.is_run.valuations c below)
      | inr le ↦ subst (IsValuation b) (sym (chosen_same run cycles c cycle (omega arith))) v
    ];
    starts = λ lt. elim (cases_lt 0 cycles) [
      | inl some ↦ subst (StartsAt b) (sym (chosen_other run cycles 0 cycle (λ e. omega arith))) (h.is_run.starts some)
      | inr none ↦ (let e : cycles ≡ 0 = omega arith in subst (StartsAt b) (sym (chosen_same run cycles 0 cycle e)) (first e).starts)
    ];
    steps = λ c lt. elim (cases_lt (c + 1) cycles) [
      | inl below ↦ subst (λ (y : Cycle). Steps b (cycle_of (with_cycle run cycles cycle) c) y) (sym (chosen_other run cycles (c + 1) cycle (λ e. omega arith)))
          (subst (λ (x : Cycle). Steps b x (cycle_of run (c + 1))) (sym (chosen_other run cycles c cycle (λ e. omega arith))) (h.is_run.steps c below))
      | inr le ↦ (let e : c + 1 ≡ cycles = omega arith in
          subst (λ (y : Cycle). Steps b (cycle_of (with_cycle run cycles cycle) c) y) (sym (chosen_same run cycles (c + 1) cycle (sym e)))
          (subst (λ (x : Cycle). Steps b x cycle) (sym (chosen_other run cycles c cycle (λ q. omega arith))) (later c e)))
    ];
  };
  cleared = λ lt. elim (cases_lt 0 cycles) [
    | inl some ↦ subst (IsCleared b) (sym (chosen_other run cycles 0 cycle (λ e. omega arith))) (h.cleared some)
    | inr none ↦ (let e : cycles ≡ 0 = omega arith in subst (IsCleared b) (sym (chosen_same run cycles 0 cycle e)) (first e).cleared)
  ];
}

-- the calls of a simulator, at what it keeps
pub record KeepsRegisters (b : Netlist) (before after : List Word) : Type 0 where
  pub same : (n : ℕ) (line : Line) → slice_get b.lines n ≡ Some line → is_register line.equation ≡ true → bits_at after n ≡ bits_at before n

pub step_state : (b : Netlist) (before after words : List Word) → KeepsRegisters b before after → SameState b (cycle_with b before words) (cycle_with b after words)
step_state b before after words h = record { registers = λ n line at r. sym (h.same n line at r); words = λ m memory at address lt. refl }

abbrev pub sim_of : Netlist → List Word → List Word → Bool → SimValue
sim_of b nets words stepped = record { netlist = b; nets = nets; words = words; stepped = stepped }

pub stepped_stands : (b : Netlist) (before after words : List Word) (s : Bool) (run : Run) (cycles : ℕ) → SameState b (cycle_with b before words) (cycle_with b after words) →
    StandsFor (sim_of b before words s) run cycles → StandsFor (sim_of b after words true) run cycles
stepped_stands b before after words s run cycles state h = record {
  passed = h.passed;
  first = λ e. first_same b (cycle_with b before words) (cycle_with b after words) state (h.first e);
  later = λ c e. steps_same b (cycle_of run c) (cycle_with b before words) (cycle_with b after words) state (h.later c e);
}

pub stepped_run : (b : Netlist) (before after words : List Word) (s : Bool) (run : Run) (cycles : ℕ) → SameState b (cycle_with b before words) (cycle_with b after words) → IsValuation b (cycle_with b after words) →
    StandsFor (sim_of b before words s) run cycles → IsClearedRun b (with_cycle run cycles (cycle_with b after words)) (cycles + 1)
stepped_run b before after words s run cycles state v h =
    let now = stepped_stands b before after words s run cycles state h in
    one_more b run cycles (cycle_with b after words) now.passed now.first now.later v

-- the clock's edge, at nets and at words
pub record TakesNext (b : Netlist) (before after : List Word) : Type 0 where
  pub taken : (n : ℕ) (line : Line) → slice_get b.lines n ≡ Some line → IfSome (next_of line) (λ m. bits_at after n ≡ bits_at before m)

pub record PutsWords (b : Netlist) (nets before after : List Word) : Type 0 where
  pub written : (m : ℕ) (memory : Memory) → slice_get b.memories m ≡ Some memory → (address : ℕ) → address < 2 ^ memory.address_bits →
      IfSome memory.write (λ write. bits_at after (place_of b.memories m + address) ≡ word_after (cycle_with b nets before) write m address)

pub edge_steps : (b : Netlist) (before words after later_words : List Word) → TakesNext b before after → PutsWords b before words later_words → Steps b (cycle_with b before words) (cycle_with b after later_words)
edge_steps b before words after later_words t w = record { registers = t.taken; words = w.written }

pub advanced_stands : (b : Netlist) (before words after later_words : List Word) (s t : Bool) (run : Run) (cycles : ℕ) → IsValuation b (cycle_with b before words) → Steps b (cycle_with b before words) (cycle_with b after later_words) →
    StandsFor (sim_of b before words s) run cycles → StandsFor (sim_of b after later_words t) (with_cycle run cycles (cycle_with b before words)) (cycles + 1)
advanced_stands b before words after later_words s t run cycles v steps h = record {
  passed = one_more b run cycles (cycle_with b before words) h.passed h.first h.later v;
  first = λ e. absurd (omega arith);
  later = λ c e. (let here : cycles ≡ c = omega arith in
      subst (λ (x : Cycle). Steps b x (cycle_with b after later_words)) (sym (chosen_same run cycles c (cycle_with b before words) here)) steps);
}

-- ---- what the calls of a simulator of eight lanes do in a lane

pub step_with : (b : Netlist) (before after words inputs : List Word) (s : Bool) → ((x y : Cycle) → IsValuation b x → IsValuation b y → SameInputs b x y → SameState b x y → SameNets b x y) → KeepsRegisters b before after →
    IsValuation b (cycle_with b after words) → ((k w : ℕ) → IsInputPort b.ports k w → bits_at after (input_net b.ports k) ≡ given_to b inputs k) → IsStepWith (sim_of b before words s) (sim_of b after words true) inputs
step_with b before after words inputs s agrees kept v given = record {
  netlist = refl;
  valuation = v;
  inputs_are = given;
  state = state;
  only = λ other vo same held. agrees other (cycle_with b after words) vo v same held;
  stands = λ run cycles h. stepped_stands b before after words s run cycles state h;
  run = λ run cycles h. stepped_run b before after words s run cycles state v h;
} where
  state : SameState b (cycle_with b before words) (cycle_with b after words)
  state = step_state b before after words kept

pub edge : (b : Netlist) (before words after later_words : List Word) (s t : Bool) → IsValuation b (cycle_with b before words) → TakesNext b before after → PutsWords b before words later_words →
    IsEdge (sim_of b before words s) (sim_of b after later_words t)
edge b before words after later_words s t v takes puts = record {
  netlist = refl;
  steps = edge_steps b before words after later_words takes puts;
  stands = λ run cycles h. advanced_stands b before words after later_words s t run cycles v (edge_steps b before words after later_words takes puts) h;
}
