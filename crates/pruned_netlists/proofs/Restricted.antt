-- A cycle or a run of the whole module, seen by the new numbers, is one of the pruned module.
use Rattle.std.proofs.Common.{◌≡◌, ℕ, ◌+◌, ◌^◌, ◌<◌, inl, inr, Bool, List, [], ◌∷◌, slice_get, Option, Some, None, refl, sym, ap, subst, ◌∙◌}
use Rattle.std.specs.Prelude.{IfSome, option_map}
use Rattle.netlist.specs.declared.line.Line.{Line}
use Rattle.netlist.specs.declared.line.Memory.{Memory}
use Rattle.netlist.specs.declared.line.MemWrite.{MemWrite}
use Rattle.netlist.specs.declared.line.Equation.{Equation}
use Rattle.netlist.specs.declared.line.Equation.TheVariants.{Input, Constant, And, Or, Xor, Add, Sub, Eq, Less, Concat, Not, Any, Mux, Slice, Reg, Read}
use Rattle.netlist.specs.Netlists.{Netlist, IsSound, next_in, next_of}
use Rattle.netlist.specs.Runs.{Cycle, Run, cycle_of, value_of, word_after, NetHolds, IsValuation, StartsAt, Steps, IsRun, reset_of}
use Rattle.pruned_netlists.specs.Needed.{IsOneOf}
use Rattle.pruned_netlists.specs.Numbers.{place, IsMarked}
use Rattle.pruned_netlists.specs.Moved.{moved, moved_write}
use Rattle.pruned_netlists.proofs.Places.{old, old_place}
use Rattle.pruned_netlists.proofs.Sources.{not_waiting, next_is}
use Rattle.pruned_netlists.proofs.Renumbered.{IsRenumbered, line_from, memory_from, width_moved, AreSourcesMarked, sources_marked, write_marked}

abbrev pub restricted : List Bool → List Bool → Cycle → Cycle
restricted marks memory_marks cycle = record {
  input = cycle.input;
  net = λ j. cycle.net (old marks j);
  cell = λ j address. cycle.cell (old memory_marks j) address;
}

abbrev pub restricted_run : List Bool → List Bool → Run → Run
restricted_run marks memory_marks run = record {
  input = run.input;
  net = λ c j. run.net c (old marks j);
  cell = λ c j address. run.cell c (old memory_marks j) address;
}

-- the value of an equation is the same
value_moved : (whole pruned : Netlist) (marks memory_marks : List Bool) (cycle : Cycle) (n w : ℕ) (e : Equation) → IsRenumbered whole pruned marks memory_marks → AreSourcesMarked whole.memories marks memory_marks e
    → IsSound whole.ports whole.memories whole.lines n w e
    → value_of pruned.lines (restricted marks memory_marks cycle) w (moved (place marks) (place memory_marks) e) ≡ value_of whole.lines cycle w e
value_moved whole pruned marks memory_marks cycle n w (Input port) r m s = refl
value_moved whole pruned marks memory_marks cycle n w (Constant value) r m s = refl
value_moved whole pruned marks memory_marks cycle n w (And a b) r m s = rw (old_place marks a (m.nets a (inl refl)), old_place marks b (m.nets b (inr (inl refl)))) refl
value_moved whole pruned marks memory_marks cycle n w (Or a b) r m s = rw (old_place marks a (m.nets a (inl refl)), old_place marks b (m.nets b (inr (inl refl)))) refl
value_moved whole pruned marks memory_marks cycle n w (Xor a b) r m s = rw (old_place marks a (m.nets a (inl refl)), old_place marks b (m.nets b (inr (inl refl)))) refl
value_moved whole pruned marks memory_marks cycle n w (Add a b) r m s = rw (old_place marks a (m.nets a (inl refl)), old_place marks b (m.nets b (inr (inl refl)))) refl
value_moved whole pruned marks memory_marks cycle n w (Sub a b) r m s = rw (old_place marks a (m.nets a (inl refl)), old_place marks b (m.nets b (inr (inl refl)))) refl
value_moved whole pruned marks memory_marks cycle n w (Eq a b) r m s = rw (old_place marks a (m.nets a (inl refl)), old_place marks b (m.nets b (inr (inl refl)))) refl
value_moved whole pruned marks memory_marks cycle n w (Less a b) r m s = rw (old_place marks a (m.nets a (inl refl)), old_place marks b (m.nets b (inr (inl refl)))) refl
value_moved whole pruned marks memory_marks cycle n w (Concat a b) r m s =
    let its = width_moved whole pruned marks memory_marks b s.low_width r (m.nets b (inr (inl refl))) s.low.width in
    rw (old_place marks a (m.nets a (inl refl)), old_place marks b (m.nets b (inr (inl refl))), its, s.low.width) refl
value_moved whole pruned marks memory_marks cycle n w (Not a) r m s = rw (old_place marks a (m.nets a (inl refl))) refl
value_moved whole pruned marks memory_marks cycle n w (Any a) r m s = rw (old_place marks a (m.nets a (inl refl))) refl
value_moved whole pruned marks memory_marks cycle n w (Mux t a b) r m s =
    rw (old_place marks t (m.nets t (inl refl)), old_place marks a (m.nets a (inr (inl refl))), old_place marks b (m.nets b (inr (inr (inl refl))))) refl
value_moved whole pruned marks memory_marks cycle n w (Slice a high low) r m s = rw (old_place marks a (m.nets a (inl refl))) refl
value_moved whole pruned marks memory_marks cycle n w (Reg reset next) r m s = refl
value_moved whole pruned marks memory_marks cycle n w (Read j a) r m s = rw (old_place marks a (m.nets a (inl refl)), old_place memory_marks j (m.memory j a refl)) refl

reset_moved : (net memory : ℕ → ℕ) (e : Equation) → reset_of (moved net memory e) ≡ reset_of e
reset_moved net memory (Reg reset next) = refl
reset_moved net memory _ = refl

-- what a net was is so by its new number
holds_moved : (whole pruned : Netlist) (marks memory_marks : List Bool) (cycle : Cycle) (j : ℕ) (line : Line) → IsRenumbered whole pruned marks memory_marks → IsValuation whole cycle → slice_get pruned.lines j ≡ Some line
    → NetHolds pruned.lines (restricted marks memory_marks cycle) j line
holds_moved whole pruned marks memory_marks cycle j line r v at =
    let from = line_from whole pruned marks memory_marks j line r at in
    let holds = v.nets (old marks j) from.before from.at in
    let its = sources_marked whole marks memory_marks (old marks j) from.before r.is_module r.marked r.read from.marked from.at in
    let same = value_moved whole pruned marks memory_marks cycle (old marks j) from.before.width from.before.equation r its (r.is_module.well_made.lines (old marks j) from.before from.at).equation in
    subst (NetHolds pruned.lines (restricted marks memory_marks cycle) j) (sym from.is) (record {
      fits = holds.fits;
      value = subst (λ (o : Option ℕ). IfSome o (λ x. cycle.net (old marks j) ≡ x)) (sym same) holds.value;
    })

pub valuation_moved : (whole pruned : Netlist) (marks memory_marks : List Bool) (cycle : Cycle) → IsRenumbered whole pruned marks memory_marks → IsValuation whole cycle → IsValuation pruned (restricted marks memory_marks cycle)
valuation_moved whole pruned marks memory_marks cycle r v = record {
  nets = λ j line at. holds_moved whole pruned marks memory_marks cycle j line r v at;
  words = λ m memory at address lt. (let from = memory_from whole pruned marks memory_marks m memory r at in
      let inside : address < 2 ^ from.before.address_bits = subst (λ (x : Memory). address < 2 ^ x.address_bits) from.is lt in
      subst (λ (x : Memory). cycle.cell (old memory_marks m) address < 2 ^ x.width) (sym from.is) (v.words (old memory_marks m) from.before from.at address inside));
}

starts_moved : (whole pruned : Netlist) (marks memory_marks : List Bool) (cycle : Cycle) → IsRenumbered whole pruned marks memory_marks → StartsAt whole cycle → StartsAt pruned (restricted marks memory_marks cycle)
starts_moved whole pruned marks memory_marks cycle r s = record {
  registers = λ j line at. (let from = line_from whole pruned marks memory_marks j line r at in
      let same : reset_of line.equation ≡ reset_of from.before.equation = ap (λ (l : Line). reset_of l.equation) from.is ∙ reset_moved (place marks) (place memory_marks) from.before.equation in
      subst (λ (o : Option ℕ). IfSome o (λ x. cycle.net (old marks j) ≡ x)) (sym same) (s.registers (old marks j) from.before from.at));
}

next_taken : (memories : List Memory) (marks memory_marks : List Bool) (before : Cycle) (v : ℕ) (e : Equation) → AreSourcesMarked memories marks memory_marks e → IfSome (next_in e) (λ m. v ≡ before.net m)
    → IfSome (next_in (moved (place marks) (place memory_marks) e)) (λ m. v ≡ before.net (old marks m))
next_taken memories marks memory_marks before v (Reg reset next) m h = h ∙ ap before.net (sym (old_place marks next (m.nets next (inl refl))))
next_taken memories marks memory_marks before v _ m h = tt

write_taken : (marks memory_marks : List Bool) (before : Cycle) (m address v : ℕ) (o : Option MemWrite) → ((a : ℕ) (write : MemWrite) → o ≡ Some write → IsOneOf a (write.enable ∷ write.address ∷ write.word ∷ []) → IsMarked marks a)
    → IfSome o (λ write. v ≡ word_after before write (old memory_marks m) address)
    → IfSome (option_map (moved_write (place marks)) o) (λ write. v ≡ word_after (restricted marks memory_marks before) write m address)
write_taken marks memory_marks before m address v None k h = tt
write_taken marks memory_marks before m address v (Some write) k h =
    rw (old_place marks write.enable (k write.enable write refl (inl refl)), old_place marks write.address (k write.address write refl (inr (inl refl))), old_place marks write.word (k write.word write refl (inr (inr (inl refl))))) h

steps_moved : (whole pruned : Netlist) (marks memory_marks : List Bool) (before after : Cycle) → IsRenumbered whole pruned marks memory_marks → Steps whole before after
    → Steps pruned (restricted marks memory_marks before) (restricted marks memory_marks after)
steps_moved whole pruned marks memory_marks before after r s = record {
  registers = λ j line at. (let from = line_from whole pruned marks memory_marks j line r at in
      let its = sources_marked whole marks memory_marks (old marks j) from.before r.is_module r.marked r.read from.marked from.at in
      let taken = subst (λ (o : Option ℕ). IfSome o (λ m. after.net (old marks j) ≡ before.net m)) (next_is from.before (not_waiting whole (old marks j) from.before r.is_module from.at)) (s.registers (old marks j) from.before from.at) in
      subst (λ (l : Line). IfSome (next_of l) (λ m. after.net (old marks j) ≡ before.net (old marks m))) (sym from.is)
      (next_taken whole.memories marks memory_marks before (after.net (old marks j)) from.before.equation its taken));
  words = λ m memory at address lt. (let from = memory_from whole pruned marks memory_marks m memory r at in
      let inside : address < 2 ^ from.before.address_bits = subst (λ (x : Memory). address < 2 ^ x.address_bits) from.is lt in
      subst (λ (x : Memory). IfSome x.write (λ write. after.cell (old memory_marks m) address ≡ word_after (restricted marks memory_marks before) write m address)) (sym from.is)
      (write_taken marks memory_marks before m address (after.cell (old memory_marks m) address) from.before.write
      (λ a write e k. write_marked whole marks memory_marks (old memory_marks m) a from.before write r.marked r.read from.marked from.at e k) (s.words (old memory_marks m) from.before from.at address inside)));
}

pub run_moved : (whole pruned : Netlist) (marks memory_marks : List Bool) (run : Run) (cycles : ℕ) → IsRenumbered whole pruned marks memory_marks → IsRun whole run cycles → IsRun pruned (restricted_run marks memory_marks run) cycles
run_moved whole pruned marks memory_marks run cycles r h = record {
  valuations = λ c lt. valuation_moved whole pruned marks memory_marks (cycle_of run c) r (h.valuations c lt);
  starts = λ lt. starts_moved whole pruned marks memory_marks (cycle_of run 0) r (h.starts lt);
  steps = λ c lt. steps_moved whole pruned marks memory_marks (cycle_of run c) (cycle_of run (c + 1)) r (h.steps c lt);
}
