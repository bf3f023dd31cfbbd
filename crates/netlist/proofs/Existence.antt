-- A run from its inputs and first contents, cycle after cycle.
use Rattle.std.proofs.Common.{◌≡◌, ℕ, zero, suc, ◌+◌, ◌^◌, ◌<◌, Bool, true, false, slice_get, Option, Some, None, refl, sym, subst, ap, ◌∙◌, arith}
use Rattle.std.specs.Prelude.{◌==◌, ◌&&◌, IfSome, unwrap_or, option_map}
use Rattle.std.proofs.lemmas.Nat.{pow_pos}
use Rattle.netlist.specs.declared.line.Line.{Line}
use Rattle.netlist.specs.declared.line.Memory.{Memory}
use Rattle.netlist.specs.declared.line.MemWrite.{MemWrite}
use Rattle.netlist.specs.Netlists.{Netlist, IsWellMade, IsWriteOf, width_at, is_register, next_of}
use Rattle.netlist.specs.Runs.{Run, Cycle, cycle_of, word_after, WordsFit, IsValuation, StartsAt, Steps, reset_of, InputsFit, StateFits, HasRun}
use Rattle.netlist.proofs.Growth.{if_some}
use Rattle.netlist.proofs.Valuations.{completed, completed_valuation, completed_state, no_reset, no_next, reset_fits, next_fits, choice_fits, valued_fits, given_value, stepped_value}

-- the value of a register in the first cycle, and after a cycle with these values of the nets; 0 for the other nets
abbrev pub first_at : Option Line → ℕ
first_at None = 0
first_at (Some line) = unwrap_or (reset_of line.equation) 0

abbrev pub next_at : (ℕ → ℕ) → Option Line → ℕ
next_at net None = 0
next_at net (Some line) = unwrap_or (option_map net (next_of line)) 0

-- the word of memory m at an address after a cycle; 0 where the memory waits for its write
abbrev pub next_word : Cycle → ℕ → ℕ → Option Memory → ℕ
next_word before m address None = 0
next_word before m address (Some memory) = unwrap_or (option_map (λ write. word_after before write m address) memory.write) 0

-- these inputs, and the state of the first cycle or of the one after this
abbrev pub first_given : Netlist → (ℕ → ℕ) → (ℕ → ℕ → ℕ) → Cycle
first_given b input contents = record { input = input; net = λ n. first_at (slice_get b.lines n); cell = contents }

abbrev pub next_given : Netlist → (ℕ → ℕ) → Cycle → Cycle
next_given b input before = record {
  input = input;
  net = λ n. next_at before.net (slice_get b.lines n);
  cell = λ m address. next_word before m address (slice_get b.memories m);
}

-- the state that each cycle begins with fits
first_fits : (b : Netlist) (input : ℕ → ℕ) (contents : ℕ → ℕ → ℕ) → IsWellMade b → WordsFit b.memories contents → StateFits b (first_given b input contents)
first_fits b input contents h words = record {
  registers = λ n line at e. subst (λ o. first_at o < 2 ^ line.width) (sym at) (reset_fits b.ports b.memories b.lines n line.width line.equation (h.lines n line at).equation e);
  words = words;
}

word_fits : (b : Netlist) (before : Cycle) (m address : ℕ) (memory : Memory) → IsValuation b before → slice_get b.memories m ≡ Some memory → address < 2 ^ memory.address_bits →
    (o : Option MemWrite) → IfSome o (λ write. IsWriteOf b.lines memory write) → unwrap_or (option_map (λ write. word_after before write m address) o) 0 < 2 ^ memory.width
word_fits b before m address memory valuation at lt None s = pow_pos memory.width
word_fits b before m address memory valuation at lt (Some write) s =
    choice_fits ((before.net write.enable == 1) && (before.net write.address == address)) (before.net write.word) (before.cell m address) memory.width _
    (valued_fits b before valuation write.word memory.width s.word) (valuation.words m memory at address lt) refl

next_given_fits : (b : Netlist) (input : ℕ → ℕ) (before : Cycle) → IsWellMade b → IsValuation b before → StateFits b (next_given b input before)
next_given_fits b input before h valuation = record {
  registers = λ n line at e.
      subst (λ o. next_at before.net o < 2 ^ line.width) (sym at)
      (next_fits before.net line.width (next_of line)
      (if_some (next_of line) (λ m. width_at b.lines m ≡ Some line.width) (λ m. before.net m < 2 ^ line.width)
      (λ m has. valued_fits b before valuation m line.width has) (h.lines n line at).next));
  words = λ m memory at address lt.
      subst (λ o. next_word before m address o < 2 ^ memory.width) (sym at) (word_fits b before m address memory valuation at lt memory.write (h.memories m memory at).write);
}

pub first_valuation : (b : Netlist) (input : ℕ → ℕ) (contents : ℕ → ℕ → ℕ) → IsWellMade b → InputsFit b.ports input → WordsFit b.memories contents →
    IsValuation b (completed b.lines (first_given b input contents))
first_valuation b input contents h fit words = completed_valuation b (first_given b input contents) h fit (first_fits b input contents h words)

pub next_valuation : (b : Netlist) (input : ℕ → ℕ) (before : Cycle) → IsWellMade b → InputsFit b.ports input → IsValuation b before → IsValuation b (completed b.lines (next_given b input before))
next_valuation b input before h fit v = completed_valuation b (next_given b input before) h fit (next_given_fits b input before h v)

pub first_starts : (b : Netlist) (input : ℕ → ℕ) (contents : ℕ → ℕ → ℕ) → IsWellMade b → StartsAt b (completed b.lines (first_given b input contents))
first_starts b input contents h = record { registers = λ n line at. one n line at (is_register line.equation) refl } where
  one : (n : ℕ) (line : Line) → slice_get b.lines n ≡ Some line → (s : Bool) → is_register line.equation ≡ s → IfSome (reset_of line.equation) (λ x. (completed b.lines (first_given b input contents)).net n ≡ x)
  one n line at true e = given_value (reset_of line.equation) 0 _ (completed_state b (first_given b input contents) n line h at e ∙ ap first_at at)
  one n line at false e = subst (λ o. IfSome o (λ x. (completed b.lines (first_given b input contents)).net n ≡ x)) (sym (no_reset line.equation e)) tt

pub next_steps : (b : Netlist) (input : ℕ → ℕ) (before : Cycle) → IsWellMade b → Steps b before (completed b.lines (next_given b input before))
next_steps b input before h = record {
  registers = λ n line at. one n line at (is_register line.equation) refl;
  words = λ m memory at address lt. stepped_value memory.write (λ write. word_after before write m address) _ (ap (next_word before m address) at);
} where
  one : (n : ℕ) (line : Line) → slice_get b.lines n ≡ Some line → (s : Bool) → is_register line.equation ≡ s → IfSome (next_of line) (λ m. (completed b.lines (next_given b input before)).net n ≡ before.net m)
  one n line at true e = stepped_value (next_of line) before.net _ (completed_state b (next_given b input before) n line h at e ∙ ap (next_at before.net) at)
  one n line at false e = subst (λ o. IfSome o (λ m. (completed b.lines (next_given b input before)).net n ≡ before.net m)) (sym (no_next line e)) tt

-- cycle after cycle
cycles_from : Netlist → (ℕ → ℕ → ℕ) → (ℕ → ℕ → ℕ) → ℕ → Cycle
cycles_from b inputs contents zero = completed b.lines (first_given b (inputs 0) contents)
cycles_from b inputs contents (suc c) = completed b.lines (next_given b (inputs (suc c)) (cycles_from b inputs contents c))

run_of : Netlist → (ℕ → ℕ → ℕ) → (ℕ → ℕ → ℕ) → Run
run_of b inputs contents = record { input = inputs; net = λ c. (cycles_from b inputs contents c).net; cell = λ c. (cycles_from b inputs contents c).cell }

same_cycle : (b : Netlist) (inputs : ℕ → ℕ → ℕ) (contents : ℕ → ℕ → ℕ) (c : ℕ) → cycles_from b inputs contents c ≡ cycle_of (run_of b inputs contents) c
unfolding cycles_from run_of
same_cycle b inputs contents zero = refl
same_cycle b inputs contents (suc c) = refl

each_valuation : (b : Netlist) (inputs : ℕ → ℕ → ℕ) (contents : ℕ → ℕ → ℕ) (cycles : ℕ) → IsWellMade b → ((c : ℕ) → c < cycles → InputsFit b.ports (inputs c)) → WordsFit b.memories contents →
    (c : ℕ) → c < cycles → IsValuation b (cycles_from b inputs contents c)
unfolding cycles_from
each_valuation b inputs contents cycles h fit words zero lt = first_valuation b (inputs 0) contents h (fit 0 lt) words
each_valuation b inputs contents cycles h fit words (suc c) lt =
    next_valuation b (inputs (suc c)) (cycles_from b inputs contents c) h (fit (suc c) lt) (each_valuation b inputs contents cycles h fit words c (omega arith))

starts : (b : Netlist) (inputs : ℕ → ℕ → ℕ) (contents : ℕ → ℕ → ℕ) → IsWellMade b → StartsAt b (cycles_from b inputs contents 0)
unfolding cycles_from
starts b inputs contents h = first_starts b (inputs 0) contents h

steps : (b : Netlist) (inputs : ℕ → ℕ → ℕ) (contents : ℕ → ℕ → ℕ) → IsWellMade b → (c : ℕ) → Steps b (cycles_from b inputs contents c) (cycles_from b inputs contents (suc c))
unfolding cycles_from
steps b inputs contents h c = next_steps b (inputs (suc c)) (cycles_from b inputs contents c) h

first_contents : (b : Netlist) (inputs : ℕ → ℕ → ℕ) (contents : ℕ → ℕ → ℕ) → (run_of b inputs contents).cell 0 ≡ contents
unfolding cycles_from run_of
first_contents b inputs contents = refl

-- any inputs and first contents have a run of every length
pub has_run_law : (b : Netlist) → IsWellMade b → (inputs : ℕ → ℕ → ℕ) (contents : ℕ → ℕ → ℕ) (cycles : ℕ) → ((c : ℕ) → c < cycles → InputsFit b.ports (inputs c)) → WordsFit b.memories contents →
    HasRun b inputs contents cycles
unfolding run_of
has_run_law b h inputs contents cycles fit words = record {
  run = run_of b inputs contents;
  is_run = record {
    valuations = λ c lt. subst (IsValuation b) (same_cycle b inputs contents c) (each_valuation b inputs contents cycles h fit words c lt);
    starts = λ lt. subst (StartsAt b) (same_cycle b inputs contents 0) (starts b inputs contents h);
    steps = λ c lt. (let e : suc c ≡ c + 1 = omega arith in
        subst (λ k. Steps b (cycle_of (run_of b inputs contents) c) (cycle_of (run_of b inputs contents) k)) e
        (subst (λ (x : Cycle). Steps b x (cycle_of (run_of b inputs contents) (suc c))) (same_cycle b inputs contents c)
        (subst (λ (x : Cycle). Steps b (cycles_from b inputs contents c) x) (same_cycle b inputs contents (suc c)) (steps b inputs contents h c))));
  };
  inputs_are = refl;
  contents_are = first_contents b inputs contents;
}
