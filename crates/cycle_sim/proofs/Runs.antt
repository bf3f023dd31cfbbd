-- Where a simulator stands in a run.
use Rattle.std.proofs.Common.{◌≡◌, ◌≢◌, ℕ, zero, suc, ◌+◌, ◌^◌, ◌<◌, Bool, true, false, List, slice_get, length, Option, Some, None, inl, inr, refl, sym, subst, ap, ◌∙◌, arith}
use Rattle.std.specs.Prelude.{IfSome, if◌then◌else◌}
use Rattle.std.proofs.lemmas.Bool.{cases_lt, eq-eqb, ne_eqb, false≢true}
use Rattle.std.proofs.lemmas.Option.{slice_get_within}
use Rattle.netlist.specs.declared.line.Line.{Line}
use Rattle.netlist.specs.declared.line.Memory.{Memory}
use Rattle.netlist.specs.declared.line.MemWrite.{MemWrite}
use Rattle.netlist.specs.declared.line.Equation.{Equation}
use Rattle.netlist.specs.declared.line.Equation.TheVariants.{Reg}
use Rattle.netlist.specs.Netlists.{Netlist, IsModule, IsWriteOf, width_at, is_register, next_in, next_of}
use Rattle.netlist.specs.Runs.{Cycle, Run, cycle_of, word_after, reset_of, StartsAt, Steps, IsValuation, SameInputs, SameState, SameNets}
use Rattle.av_base.specs.Word.{Word}
use Rattle.cycle_sim.specs.Sims.{SimValue, bits_at, cycle_with, place_of, present}
use Rattle.cycle_sim.specs.Standing.{IsCleared, IsFirst, IsClearedRun, StandsFor, with_cycle}
use Rattle.cycle_sim.proofs.Values.{width_at-line}

abbrev either : Bool → Cycle → Cycle → Cycle
either t x y = record {
  input = λ port. if t then x.input port else y.input port;
  net = λ n. if t then x.net n else y.net n;
  cell = λ m address. if t then x.cell m address else y.cell m address;
}

-- the run with a cycle put in
chosen_same : (run : Run) (c k : ℕ) (cycle : Cycle) → (c ≡ k) → cycle_of (with_cycle run c cycle) k ≡ cycle
chosen_same run c k cycle e = ap (λ t. either t cycle (cycle_of run k)) (eq-eqb k c (sym e))

chosen_other : (run : Run) (c k : ℕ) (cycle : Cycle) → k ≢ c → cycle_of (with_cycle run c cycle) k ≡ cycle_of run k
chosen_other run c k cycle d = ap (λ t. either t cycle (cycle_of run k)) (ne_eqb k c d)

-- a net with a next net is a register
next_register : (e : Equation) (m : ℕ) → next_in e ≡ Some m → is_register e ≡ true
next_register (Reg reset next) m h = refl
next_register _ m h = cc

pub register_of_next : (line : Line) (m : ℕ) → next_of line ≡ Some m → is_register line.equation ≡ true
register_of_next line m h = by_waits line.waits h where
  by_waits : (t : Bool) → (if t then None else next_in line.equation) ≡ Some m → is_register line.equation ≡ true
  by_waits true e = cc
  by_waits false e = next_register line.equation m e

reset_register : (e : Equation) (x : ℕ) → reset_of e ≡ Some x → is_register e ≡ true
reset_register (Reg reset next) x h = refl
reset_register _ x h = cc

if_some_same : (o : Option ℕ) (u v : ℕ) (f : ℕ → ℕ) → ((m : ℕ) → o ≡ Some m → u ≡ v) → IfSome o (λ m. u ≡ f m) → IfSome o (λ m. v ≡ f m)
if_some_same None u v f same h = tt
if_some_same (Some m) u v f same h = sym (same m refl) ∙ h

-- a state that is the same begins a run, or follows a cycle, as well
pub first_same : (b : Netlist) (x y : Cycle) → SameState b x y → IsFirst b x → IsFirst b y
first_same b x y s h = record {
  starts = record { registers = λ n line at. if_some_same (reset_of line.equation) (x.net n) (y.net n) (λ k. k) (λ m e. s.registers n line at (reset_register line.equation m e)) (h.starts.registers n line at) };
  cleared = λ m memory at address lt. sym (s.words m memory at address lt) ∙ h.cleared m memory at address lt;
}

word_same : (o : Option MemWrite) (u v : ℕ) (f : MemWrite → ℕ) → u ≡ v → IfSome o (λ write. u ≡ f write) → IfSome o (λ write. v ≡ f write)
word_same None u v f e h = tt
word_same (Some write) u v f e h = sym e ∙ h

pub steps_same : (b : Netlist) (before x y : Cycle) → SameState b x y → Steps b before x → Steps b before y
steps_same b before x y s h = record {
  registers = λ n line at. if_some_same (next_of line) (x.net n) (y.net n) before.net (λ m e. s.registers n line at (register_of_next line m e)) (h.registers n line at);
  words = λ m memory at address lt. word_same memory.write (x.cell m address) (y.cell m address) (λ write. word_after before write m address) (s.words m memory at address lt) (h.words m memory at address lt);
}

-- a run of no cycle
pub no_cycle : (b : Netlist) (run : Run) → IsClearedRun b run 0
no_cycle b run = record {
  is_run = record { valuations = λ c lt. absurd (omega arith); starts = λ lt. absurd (omega arith); steps = λ c lt. absurd (omega arith) };
  cleared = λ lt. absurd (omega arith);
}

pub stands_at_first : (sim : SimValue) (run : Run) → IsFirst sim.netlist (present sim) → StandsFor sim run 0
stands_at_first sim run h = record {
  passed = no_cycle sim.netlist run;
  first = λ e. h;
  later = λ c e. absurd (omega arith);
}

-- the run with the present cycle is one cycle longer
pub one_more : (b : Netlist) (run : Run) (cycles : ℕ) (cycle : Cycle) → IsClearedRun b run cycles → (cycles ≡ 0 → IsFirst b cycle) → ((c : ℕ) → c + 1 ≡ cycles → Steps b (cycle_of run c) cycle) → IsValuation b cycle →
    IsClearedRun b (with_cycle run cycles cycle) (cycles + 1)
one_more b run cycles cycle h first later v = record {
  is_run = record {
    valuations = λ c lt. elim (cases_lt c cycles) [
      | inl below ↦ subst (IsValuation b) (sym (chosen_other run cycles c cycle (λ e. omega arith))) (h.is_run.valuations c below)
      | inr le ↦ subst (IsValuation b) (sym (chosen_same run cycles c cycle (omega arith))) v
    ];
    starts = λ lt. elim (cases_lt 0 cycles) [
      | inl some ↦ subst (StartsAt b) (sym (chosen_other run cycles 0 cycle (λ e. omega arith))) (h.is_run.starts some)
      | inr none ↦ (let e : cycles ≡ 0 = omega arith in subst (StartsAt b) (sym (chosen_same run cycles 0 cycle e)) (first e).starts)
    ];
    steps = λ c lt. elim (cases_lt (c + 1) cycles) [
      | inl below ↦ subst (λ (y : Cycle). Steps b (cycle_of (with_cycle run cycles cycle) c) y) (sym (chosen_other run cycles (c + 1) cycle (λ e. omega arith)))
          (subst (λ (x : Cycle). Steps b x (cycle_of run (c + 1))) (sym (chosen_other run cycles c cycle (λ e. omega arith))) (h.is_run.steps c below))
      | inr le ↦ (let e : c + 1 ≡ cycles = omega arith in
          subst (λ (y : Cycle). Steps b (cycle_of (with_cycle run cycles cycle) c) y) (sym (chosen_same run cycles (c + 1) cycle (sym e)))
          (subst (λ (x : Cycle). Steps b x cycle) (sym (chosen_other run cycles c cycle (λ q. omega arith))) (later c e)))
    ];
  };
  cleared = λ lt. elim (cases_lt 0 cycles) [
    | inl some ↦ subst (IsCleared b) (sym (chosen_other run cycles 0 cycle (λ e. omega arith))) (h.cleared some)
    | inr none ↦ (let e : cycles ≡ 0 = omega arith in subst (IsCleared b) (sym (chosen_same run cycles 0 cycle e)) (first e).cleared)
  ];
}

-- a module has one state to begin with
resets_agree : (e : Equation) (u v : ℕ) → is_register e ≡ true → IfSome (reset_of e) (λ x. u ≡ x) → IfSome (reset_of e) (λ x. v ≡ x) → u ≡ v
resets_agree (Reg reset next) u v r h k = h ∙ sym k
resets_agree _ u v r h k = absurd (false≢true r)

pub first_agree : (b : Netlist) (x y : Cycle) → IsModule b → IsFirst b x → IsFirst b y → SameState b x y
first_agree b x y h hx hy = record {
  registers = λ n line at r. resets_agree line.equation (x.net n) (y.net n) r (hx.starts.registers n line at) (hy.starts.registers n line at);
  words = λ m memory at address lt. hx.cleared m memory at address lt ∙ sym (hy.cleared m memory at address lt);
}

-- and one that follows a cycle
some_next : (e : Equation) → is_register e ≡ true → (m : ℕ) × (next_in e ≡ Some m)
some_next (Reg reset next) r = (next, refl)
some_next _ r = absurd (false≢true r)

register_next : (b : Netlist) → IsModule b → (n : ℕ) (line : Line) → slice_get b.lines n ≡ Some line → is_register line.equation ≡ true → (m : ℕ) × (next_of line ≡ Some m)
register_next b h n line at r = by_waits line.waits refl where
  by_waits : (t : Bool) → line.waits ≡ t → (m : ℕ) × ((if t then None else next_in line.equation) ≡ Some m)
  by_waits true w = absurd (h.clocked n (record { line = line; is = at; waits = w }))
  by_waits false w = some_next line.equation r

net_below : (b : Netlist) (n w : ℕ) → width_at b.lines n ≡ Some w → n < length b.lines
net_below b n w e = let at = width_at-line b.lines n w e in slice_get_within b.lines n at.0 at.1

word_after_same : (b : Netlist) (x y : Cycle) (memory : Memory) (write : MemWrite) (m address : ℕ) → SameNets b x y → SameState b x y → IsWriteOf b.lines memory write → slice_get b.memories m ≡ Some memory →
    address < 2 ^ memory.address_bits → word_after x write m address ≡ word_after y write m address
word_after_same b x y memory write m address nets state is at lt =
    rw (
      nets write.enable (net_below b write.enable 1 is.enable),
      nets write.address (net_below b write.address memory.address_bits is.address),
      nets write.word (net_below b write.word memory.width is.word),
      state.words m memory at address lt,
    ) refl

words_agree : (o : Option MemWrite) (u v : ℕ) (f g : MemWrite → ℕ) → (o ≡ None → ⊥) → ((write : MemWrite) → o ≡ Some write → f write ≡ g write) → IfSome o (λ write. u ≡ f write) → IfSome o (λ write. v ≡ g write) → u ≡ v
words_agree None u v f g some same h k = absurd (some refl)
words_agree (Some write) u v f g some same h k = h ∙ same write refl ∙ sym k

pub next_agree : (b : Netlist) (x y x_next y_next : Cycle) → IsModule b → SameNets b x y → SameState b x y → Steps b x x_next → Steps b y y_next → SameState b x_next y_next
next_agree b x y x_next y_next h nets state hx hy = record {
  registers = λ n line at r.
      (let next = register_next b h n line at r in
      let width : width_at b.lines next.0 ≡ Some line.width = subst (λ (o : Option ℕ). IfSome o (λ m. width_at b.lines m ≡ Some line.width)) next.1 (h.well_made.lines n line at).next in
      let left : x_next.net n ≡ x.net next.0 = subst (λ (o : Option ℕ). IfSome o (λ m. x_next.net n ≡ x.net m)) next.1 (hx.registers n line at) in
      let right : y_next.net n ≡ y.net next.0 = subst (λ (o : Option ℕ). IfSome o (λ m. y_next.net n ≡ y.net m)) next.1 (hy.registers n line at) in
      left ∙ nets next.0 (net_below b next.0 line.width width) ∙ sym right);
  words = λ m memory at address lt.
      words_agree memory.write (x_next.cell m address) (y_next.cell m address) (λ write. word_after x write m address) (λ write. word_after y write m address)
      (λ none. h.written m (record { memory = memory; is = at; waits = none }))
      (λ write e. word_after_same b x y memory write m address nets state
      (subst (λ (o : Option MemWrite). IfSome o (λ w. IsWriteOf b.lines memory w)) e (h.well_made.memories m memory at).write) at lt)
      (hx.words m memory at address lt) (hy.words m memory at address lt);
}

-- a run is determined by its inputs
record Agrees (b : Netlist) (x y : Cycle) : Type 0 where
  nets : SameNets b x y
  state : SameState b x y

cycles_agree : (b : Netlist) → IsModule b → ((x y : Cycle) → IsValuation b x → IsValuation b y → SameInputs b x y → SameState b x y → SameNets b x y) → (x y : Run) (cycles : ℕ) →
    IsClearedRun b x cycles → IsClearedRun b y cycles → ((c : ℕ) → c < cycles → SameInputs b (cycle_of x c) (cycle_of y c)) → (c : ℕ) → c < cycles → Agrees b (cycle_of x c) (cycle_of y c)
cycles_agree b h only x y cycles hx hy inputs zero lt =
    let state = first_agree b (cycle_of x 0) (cycle_of y 0) h (record { starts = hx.is_run.starts lt; cleared = hx.cleared lt }) (record { starts = hy.is_run.starts lt; cleared = hy.cleared lt }) in
    record { nets = only (cycle_of x 0) (cycle_of y 0) (hx.is_run.valuations 0 lt) (hy.is_run.valuations 0 lt) (inputs 0 lt) state; state = state }
cycles_agree b h only x y cycles hx hy inputs (suc c) lt =
    let before = cycles_agree b h only x y cycles hx hy inputs c (omega arith) in
    let e : c + 1 ≡ suc c = omega arith in
    let within : c + 1 < cycles = omega arith in
    let state : SameState b (cycle_of x (suc c)) (cycle_of y (suc c)) = subst (λ k. SameState b (cycle_of x k) (cycle_of y k)) e
    (next_agree b (cycle_of x c) (cycle_of y c) (cycle_of x (c + 1)) (cycle_of y (c + 1)) h before.nets before.state (hx.is_run.steps c within) (hy.is_run.steps c within)) in
    record { nets = only (cycle_of x (suc c)) (cycle_of y (suc c)) (hx.is_run.valuations (suc c) lt) (hy.is_run.valuations (suc c) lt) (inputs (suc c) lt) state; state = state }

pub one_run : (b : Netlist) → IsModule b → ((x y : Cycle) → IsValuation b x → IsValuation b y → SameInputs b x y → SameState b x y → SameNets b x y) → (x y : Run) (cycles : ℕ) →
    IsClearedRun b x cycles → IsClearedRun b y cycles → ((c : ℕ) → c < cycles → SameInputs b (cycle_of x c) (cycle_of y c)) → (c : ℕ) → c < cycles → SameNets b (cycle_of x c) (cycle_of y c)
one_run b h only x y cycles hx hy inputs c lt = (cycles_agree b h only x y cycles hx hy inputs c lt).nets

-- the calls of a simulator, at what it keeps
pub record KeepsRegisters (b : Netlist) (before after : List Word) : Type 0 where
  pub same : (n : ℕ) (line : Line) → slice_get b.lines n ≡ Some line → is_register line.equation ≡ true → bits_at after n ≡ bits_at before n

pub step_state : (b : Netlist) (before after words : List Word) → KeepsRegisters b before after → SameState b (cycle_with b before words) (cycle_with b after words)
step_state b before after words h = record { registers = λ n line at r. sym (h.same n line at r); words = λ m memory at address lt. refl }

abbrev pub sim_of : Netlist → List Word → List Word → Bool → SimValue
sim_of b nets words stepped = record { netlist = b; nets = nets; words = words; stepped = stepped }

pub stepped_stands : (b : Netlist) (before after words : List Word) (s : Bool) (run : Run) (cycles : ℕ) → SameState b (cycle_with b before words) (cycle_with b after words) →
    StandsFor (sim_of b before words s) run cycles → StandsFor (sim_of b after words true) run cycles
stepped_stands b before after words s run cycles state h = record {
  passed = h.passed;
  first = λ e. first_same b (cycle_with b before words) (cycle_with b after words) state (h.first e);
  later = λ c e. steps_same b (cycle_of run c) (cycle_with b before words) (cycle_with b after words) state (h.later c e);
}

pub stepped_run : (b : Netlist) (before after words : List Word) (s : Bool) (run : Run) (cycles : ℕ) → SameState b (cycle_with b before words) (cycle_with b after words) → IsValuation b (cycle_with b after words) →
    StandsFor (sim_of b before words s) run cycles → IsClearedRun b (with_cycle run cycles (cycle_with b after words)) (cycles + 1)
stepped_run b before after words s run cycles state v h =
    let now = stepped_stands b before after words s run cycles state h in
    one_more b run cycles (cycle_with b after words) now.passed now.first now.later v

-- the clock's edge, at nets and at words
pub record TakesNext (b : Netlist) (before after : List Word) : Type 0 where
  pub taken : (n : ℕ) (line : Line) → slice_get b.lines n ≡ Some line → IfSome (next_of line) (λ m. bits_at after n ≡ bits_at before m)

pub record PutsWords (b : Netlist) (nets before after : List Word) : Type 0 where
  pub written : (m : ℕ) (memory : Memory) → slice_get b.memories m ≡ Some memory → (address : ℕ) → address < 2 ^ memory.address_bits →
      IfSome memory.write (λ write. bits_at after (place_of b.memories m + address) ≡ word_after (cycle_with b nets before) write m address)

pub edge_steps : (b : Netlist) (before words after later_words : List Word) → TakesNext b before after → PutsWords b before words later_words → Steps b (cycle_with b before words) (cycle_with b after later_words)
edge_steps b before words after later_words t w = record { registers = t.taken; words = w.written }

pub advanced_stands : (b : Netlist) (before words after later_words : List Word) (s t : Bool) (run : Run) (cycles : ℕ) → IsValuation b (cycle_with b before words) → Steps b (cycle_with b before words) (cycle_with b after later_words) →
    StandsFor (sim_of b before words s) run cycles → StandsFor (sim_of b after later_words t) (with_cycle run cycles (cycle_with b before words)) (cycles + 1)
advanced_stands b before words after later_words s t run cycles v steps h = record {
  passed = one_more b run cycles (cycle_with b before words) h.passed h.first h.later v;
  first = λ e. absurd (omega arith);
  later = λ c e. (let here : cycles ≡ c = omega arith in
      subst (λ (x : Cycle). Steps b x (cycle_with b after later_words)) (sym (chosen_same run cycles c (cycle_with b before words) here)) steps);
}
