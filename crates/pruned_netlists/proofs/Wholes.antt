-- Each run and each valuation of the pruned module has one of the whole module that shows the same.
use Rattle.std.proofs.Common.{◌≡◌, ℕ, zero, suc, ◌+◌, ◌^◌, ◌<◌, Bool, true, false, cond, List, [], ◌∷◌, length, slice_get, get_or, Option, Some, None, refl, sym, ap, subst, ◌∙◌, arith}
use Rattle.std.specs.Prelude.{IsSome, option_map, unwrap_or, if◌then◌else◌}
use Rattle.std.specs.List.{position_from}
use Rattle.std.specs.Str.{bytes_eq}
use Rattle.std.proofs.Math.Path.{fun_ext}
use Rattle.std.proofs.lemmas.Option.{get_or_from_slice_get, slice_get_within}
use Rattle.std.proofs.lemmas.Nat.{pow_pos}
use Rattle.netlist.specs.declared.line.Line.{Line}
use Rattle.netlist.specs.declared.line.PortLine.{PortLine}
use Rattle.netlist.specs.declared.line.Memory.{Memory}
use Rattle.netlist.specs.declared.line.Equation.{Equation}
use Rattle.netlist.specs.declared.line.Equation.TheVariants.{Input, Constant, Reg}
use Rattle.netlist.specs.Netlists.{Netlist, IsWellMade, IsInputPort, driver_of, input_lines, input_net, is_register, line_of}
use Rattle.netlist.specs.Runs.{Cycle, Run, cycle_of, IsValuation, IsRun, WordsFit, InputsFit, AlwaysFit, StateFits, SameState, SameNets, HasRun, HasValuation}
use Rattle.netlist.specs.Signals.{port_net, port_value, port_named, signal}
use Rattle.pruned_netlists.specs.Numbers.{place, IsMarked}
use Rattle.pruned_netlists.specs.Moved.{moved, moved_line, moved_memory}
use Rattle.pruned_netlists.specs.Pruned.{HasWholeRun, HasWholeCycle, over_and_over, IsPruned}
use Rattle.pruned_netlists.proofs.Lines.{slice_get-some, input_lines-at}
use Rattle.pruned_netlists.proofs.Places.{old, old_place, place_below, place_front}
use Rattle.pruned_netlists.proofs.Renumbered.{IsRenumbered, line_from, memory_from, driver_marked, front_marked, front_place, few_lines, few_memories, pruned_module, each_needed, each_read}
use Rattle.pruned_netlists.proofs.Restricted.{restricted, restricted_run, valuation_moved, run_moved}
use Rattle.pruned_netlists.proofs.Alike.{Agree, BeginAlike, nets_same}

-- the laws of each netlist
pub record Laws : Type 0 where
  pub agree : Agree
  pub has_run : (netlist : Netlist) → IsWellMade netlist → (inputs : ℕ → ℕ → ℕ) (contents : ℕ → ℕ → ℕ) (cycles : ℕ) → AlwaysFit netlist.ports inputs cycles → WordsFit netlist.memories contents → HasRun netlist inputs contents cycles
  pub has_valuation : (netlist : Netlist) → IsWellMade netlist → (given : Cycle) → InputsFit netlist.ports given.input → StateFits netlist given → HasValuation netlist given

-- ---- marks as tests

abbrev mark_at : List Bool → ℕ → Bool
mark_at marks n = get_or marks n false

mark_is : (marks : List Bool) (n : ℕ) → IsMarked marks n → mark_at marks n ≡ true
mark_is marks n e = get_or_from_slice_get marks n true false e

marked_is : (marks : List Bool) (n : ℕ) → mark_at marks n ≡ true → IsMarked marks n
marked_is [] n e = cc
marked_is (mark ∷ marks) zero e = ap Some e
marked_is (mark ∷ marks) (suc n) e = marked_is marks n e

-- the word that is kept, or 0
abbrev kept_or : List Bool → ℕ → ℕ → ℕ → ℕ
kept_or marks n kept other = if mark_at marks n then kept else other

kept_is : (marks : List Bool) (n kept other : ℕ) → IsMarked marks n → kept_or marks n kept other ≡ kept
kept_is marks n kept other e = ap (λ (t : Bool). if t then kept else other) (mark_is marks n e)

-- ---- inputs and first words

input_fits : (b : Netlist) (cycle : Cycle) (k w : ℕ) → IsWellMade b → IsValuation b cycle → IsInputPort b.ports k w → cycle.input k < 2 ^ w
input_fits b cycle k w h v i =
    let line = line_of w (Input (0 + k)) in
    let there = h.inputs.first (input_net b.ports k) line (input_lines-at b.ports 0 k w i) in
    let holds = v.nets (input_net b.ports k) line there in
    let same : 0 + k ≡ k = omega arith in
    subst (λ j. cycle.input j < 2 ^ w) same (subst (λ x. x < 2 ^ w) holds.value holds.fits)

abbrev contents : List Bool → (ℕ → ℕ → ℕ) → ℕ → ℕ → ℕ
contents marks cell m address = kept_or marks m (cell (place marks m) address) 0

contents_fit : (whole pruned : Netlist) (marks memory_marks : List Bool) (cell : ℕ → ℕ → ℕ) → IsRenumbered whole pruned marks memory_marks → WordsFit pruned.memories cell → WordsFit whole.memories (contents memory_marks cell)
contents_fit whole pruned marks memory_marks cell r fit m memory at address lt = one (mark_at memory_marks m) refl where
  one : (t : Bool) → mark_at memory_marks m ≡ t → (if t then cell (place memory_marks m) address else 0) < 2 ^ memory.width
  one true e = fit (place memory_marks m) (moved_memory (place marks) memory) (r.memories.each m memory (slice_get_within whole.memories m memory at) at (marked_is memory_marks m e)) address lt
  one false e = pow_pos memory.width

-- ---- what stands at the ports

record IsFoundAt (ports : List PortLine) (j k : ℕ) : Type 0 where
  pub place : ℕ
  pub is : k ≡ j + place
  pub inside : place < length ports

found_here : (port : PortLine) (ports : List PortLine) (j k : ℕ) (t : Bool) (o : Option ℕ) → cond t (Some j) o ≡ Some k → (o ≡ Some k → IsFoundAt ports (j + 1) k) → IsFoundAt (port ∷ ports) j k
found_here port ports j k true o e rest = let same : j ≡ k = cc in record { place = 0; is = omega (arith, same); inside = omega arith }
found_here port ports j k false o e rest = let its = rest e in let is = its.is in let lt = its.inside in record { place = suc its.place; is = omega (arith, is); inside = omega (arith, lt) }

found_at : (test : PortLine → Bool) (ports : List PortLine) (j k : ℕ) → position_from test j ports ≡ Some k → IsFoundAt ports j k
found_at test [] j k e = cc
found_at test (port ∷ ports) j k e = found_here port ports j k (test port) (position_from test (j + 1) ports) e (λ f. found_at test ports (j + 1) k f)

named_port : (ports : List PortLine) (name : List ℕ) (k : ℕ) → port_named ports name ≡ Some k → (port : PortLine) × (slice_get ports k ≡ Some port)
named_port ports name k e =
    let found = found_at (λ (port : PortLine). bytes_eq port.name name) ports 0 k e in
    let is = found.is in
    let lt = found.inside in
    slice_get-some ports k (omega (arith, is, lt))

-- the net at a port is marked, and by its new number it stands at the same port
record IsPortNet (whole pruned : Netlist) (marks : List Bool) (k : ℕ) : Type 0 where
  pub marked : IsMarked marks (port_net whole k)
  pub number : place marks (port_net whole k) ≡ port_net pruned k

port_net_is : (whole pruned : Netlist) (marks memory_marks : List Bool) (k : ℕ) (port : PortLine) → IsRenumbered whole pruned marks memory_marks → slice_get whole.ports k ≡ Some port → IsPortNet whole pruned marks k
port_net_is whole pruned marks memory_marks k port r at = by_driver (driver_of whole k) refl where
  input : ℕ
  input = input_net whole.ports k

  from_driver : (o : Option ℕ) → driver_of whole k ≡ o → IsMarked marks (unwrap_or o (input_net whole.ports k)) → place marks (unwrap_or o (input_net whole.ports k)) ≡ unwrap_or (option_map (place marks) o) (input_net pruned.ports k)
      → IsPortNet whole pruned marks k
  from_driver o e m n = record {
    marked = subst (λ (d : Option ℕ). IsMarked marks (unwrap_or d (input_net whole.ports k))) (sym e) m;
    number = ap (λ (d : Option ℕ). place marks (unwrap_or d (input_net whole.ports k))) e ∙ n
        ∙ ap (λ (d : Option ℕ). unwrap_or d (input_net pruned.ports k)) (sym (r.drivers k ∙ ap (option_map (place marks)) e));
  }

  by_direction : (t : Bool) → port.output ≡ t → driver_of whole k ≡ None → IsPortNet whole pruned marks k
  by_direction true f e = absurd (let some : IsSome (driver_of whole k) = r.is_module.driven k port.width (record { port = port; is = at; output = f; width = refl }) in
      let none : IsSome {T = ℕ} None = subst (λ (o : Option ℕ). IsSome o) e some in cc)
  by_direction false f e = (let line = input_lines-at whole.ports 0 k port.width (record { port = port; is = at; input = f; width = refl }) in
      let lt = slice_get_within (input_lines 0 whole.ports) (input_net whole.ports k) _ line in
      from_driver None e (front_marked whole marks (input_net whole.ports k) r.is_module r.marked lt)
      (front_place whole marks (input_net whole.ports k) r.is_module r.marked lt ∙ ap (λ (ps : List PortLine). input_net ps k) (sym r.ports)))

  by_driver : (o : Option ℕ) → driver_of whole k ≡ o → IsPortNet whole pruned marks k
  by_driver (Some d) e = from_driver (Some d) e (driver_marked whole marks k d r.marked e) refl
  by_driver None e = by_direction port.output refl e

signals_same : (whole pruned : Netlist) (marks memory_marks : List Bool) (one other : Run) → IsRenumbered whole pruned marks memory_marks → ((c n : ℕ) → IsMarked marks n → one.net c n ≡ other.net c (place marks n))
    → (name : List ℕ) → signal whole one name ≡ signal pruned other name
signals_same whole pruned marks memory_marks one other r h name =
    by_port (port_named whole.ports name) (λ k e. named_port whole.ports name k e)
    ∙ ap (λ (ps : List PortLine). option_map {U = ℕ → ℕ} (λ k. λ c. port_value pruned other c k) (port_named ps name)) (sym r.ports)
  where
    by_port : (o : Option ℕ) → ((k : ℕ) → o ≡ Some k → (port : PortLine) × (slice_get whole.ports k ≡ Some port))
        → option_map {U = ℕ → ℕ} (λ k. λ c. port_value whole one c k) o ≡ option_map {U = ℕ → ℕ} (λ k. λ c. port_value pruned other c k) o
    by_port None f = refl
    by_port (Some k) f = (let port = f k refl in
        let its = port_net_is whole pruned marks memory_marks k port.0 r port.1 in
        ap Some (fun_ext (λ c. h c (port_net whole k) its.marked ∙ ap (other.net c) its.number)))

-- ---- runs

-- the whole run, with the values of the other where a net is kept
abbrev merged : List Bool → Run → Run → Run
merged marks run all = record { input = run.input; net = λ c n. kept_or marks n (run.net c (place marks n)) (all.net c n); cell = all.cell }

merged_signals : (whole pruned : Netlist) (marks memory_marks : List Bool) (run all : Run) → IsRenumbered whole pruned marks memory_marks → (name : List ℕ) → signal whole (merged marks run all) name ≡ signal pruned run name
merged_signals whole pruned marks memory_marks run all r name =
    signals_same whole pruned marks memory_marks (merged marks run all) run r (λ c n m. kept_is marks n (run.net c (place marks n)) (all.net c n) m) name

place_within : (whole pruned : Netlist) (marks memory_marks : List Bool) (n : ℕ) → IsRenumbered whole pruned marks memory_marks → IsMarked marks n → place marks n < length pruned.lines
place_within whole pruned marks memory_marks n r m =
    let lt = slice_get_within marks n true m in
    let count = r.marked.count in
    let few = r.lines.few in
    let below = place_below marks n (length whole.lines) m (omega (arith, lt, count)) in
    omega (arith, below, few)

alike : (whole pruned : Netlist) (marks memory_marks : List Bool) (run : Run) (cycles : ℕ) → (r : IsRenumbered whole pruned marks memory_marks) → IsRun pruned run cycles
    → (all : HasRun whole run.input (contents memory_marks (run.cell 0)) cycles) → BeginAlike pruned (restricted_run marks memory_marks all.run) run cycles
alike whole pruned marks memory_marks run cycles r h all = record {
  one = run_moved whole pruned marks memory_marks all.run cycles r all.is_run;
  other = h;
  inputs = λ c lt k w i. ap (λ (f : ℕ → ℕ → ℕ). f c k) all.inputs_are;
  contents = λ lt m memory at address below. (let from = memory_from whole pruned marks memory_marks m memory r at in
      ap (λ (f : ℕ → ℕ → ℕ). f (old memory_marks m) address) all.contents_are
      ∙ kept_is memory_marks (old memory_marks m) (run.cell 0 (place memory_marks (old memory_marks m)) address) 0 from.marked
      ∙ ap (λ j. run.cell 0 j address) from.number);
}

merged_cycle : (whole pruned : Netlist) (marks memory_marks : List Bool) (run : Run) (cycles c : ℕ) → Laws → (r : IsRenumbered whole pruned marks memory_marks) → IsRun pruned run cycles
    → (all : HasRun whole run.input (contents memory_marks (run.cell 0)) cycles) → c < cycles → cycle_of all.run c ≡ cycle_of (merged marks run all.run) c
merged_cycle whole pruned marks memory_marks run cycles c laws r h all lt =
    ap (λ (f : ℕ → ℕ → ℕ). record { input = f c; net = all.run.net c; cell = all.run.cell c }) all.inputs_are
    ∙ ap (λ (f : ℕ → ℕ). record { input = run.input c; net = f; cell = all.run.cell c }) (fun_ext (λ n. one n (mark_at marks n) refl))
  where
    one : (n : ℕ) (t : Bool) → mark_at marks n ≡ t → all.run.net c n ≡ kept_or marks n (run.net c (place marks n)) (all.run.net c n)
    one n true e = (let m = marked_is marks n e in
        let same = nets_same pruned (restricted_run marks memory_marks all.run) run cycles c (pruned_module whole pruned marks memory_marks r) laws.agree (alike whole pruned marks memory_marks run cycles r h all) lt
        (place marks n) (place_within whole pruned marks memory_marks n r m) in
        ap (all.run.net c) (sym (old_place marks n m)) ∙ same ∙ sym (kept_is marks n (run.net c (place marks n)) (all.run.net c n) m))
    one n false e = ap (λ (t : Bool). if t then run.net c (place marks n) else all.run.net c n) (sym e)

merged_run : (whole pruned : Netlist) (marks memory_marks : List Bool) (run : Run) (cycles : ℕ) → Laws → (r : IsRenumbered whole pruned marks memory_marks) → IsRun pruned run cycles
    → (all : HasRun whole run.input (contents memory_marks (run.cell 0)) cycles) → IsRun whole (merged marks run all.run) cycles
merged_run whole pruned marks memory_marks run cycles laws r h all = record {
  valuations = λ c lt. subst (IsValuation whole) (merged_cycle whole pruned marks memory_marks run cycles c laws r h all lt) (all.is_run.valuations c lt);
  starts = λ lt. subst (Rattle.netlist.specs.Runs.StartsAt whole) (merged_cycle whole pruned marks memory_marks run cycles 0 laws r h all lt) (all.is_run.starts lt);
  steps = λ c lt. (let below : c < cycles = omega arith in
      subst (λ (x : Cycle). Rattle.netlist.specs.Runs.Steps whole x (cycle_of (merged marks run all.run) (c + 1))) (merged_cycle whole pruned marks memory_marks run cycles c laws r h all below)
      (subst (λ (x : Cycle). Rattle.netlist.specs.Runs.Steps whole (cycle_of all.run c) x) (merged_cycle whole pruned marks memory_marks run cycles (c + 1) laws r h all lt) (all.is_run.steps c lt)));
}

pub has_whole_run : (whole pruned : Netlist) (marks memory_marks : List Bool) (run : Run) (cycles : ℕ) → Laws → IsRenumbered whole pruned marks memory_marks → IsRun pruned run cycles → HasWholeRun whole pruned run cycles
has_whole_run whole pruned marks memory_marks run zero laws r h = record {
  whole_run = merged marks run run;
  is_run = record { valuations = λ c lt. absurd (omega arith); starts = λ lt. absurd (omega arith); steps = λ c lt. absurd (omega arith) };
  inputs = refl;
  signals = merged_signals whole pruned marks memory_marks run run r;
}
has_whole_run whole pruned marks memory_marks run (suc cycles) laws r h =
    let module_is = pruned_module whole pruned marks memory_marks r in
    let all = laws.has_run whole r.is_module.well_made run.input (contents memory_marks (run.cell 0)) (suc cycles)
    (λ c lt k w i. input_fits pruned (cycle_of run c) k w module_is.well_made (h.valuations c lt) (subst (λ (ps : List PortLine). IsInputPort ps k w) (sym r.ports) i))
    (contents_fit whole pruned marks memory_marks (run.cell 0) r (h.valuations 0 (omega arith)).words) in
    record {
      whole_run = merged marks run all.run;
      is_run = merged_run whole pruned marks memory_marks run (suc cycles) laws r h all;
      inputs = refl;
      signals = merged_signals whole pruned marks memory_marks run all.run r;
    }

-- ---- states

abbrev whole_state : List Bool → List Bool → Cycle → (ℕ → ℕ) → Cycle
whole_state marks memory_marks state input = record { input = input; net = λ n. kept_or marks n (state.net (place marks n)) 0; cell = contents memory_marks state.cell }

register_moved : (net memory : ℕ → ℕ) (e : Equation) → is_register (moved net memory e) ≡ is_register e
register_moved net memory (Reg reset next) = refl
register_moved net memory _ = refl

state_fits : (whole pruned : Netlist) (marks memory_marks : List Bool) (state cycle : Cycle) → IsRenumbered whole pruned marks memory_marks → IsValuation pruned cycle → SameState pruned state cycle
    → StateFits whole (whole_state marks memory_marks state cycle.input)
state_fits whole pruned marks memory_marks state cycle r v s = record {
  registers = λ n line at e. register n line at e (mark_at marks n) refl;
  words = λ m memory at address lt. word m memory at address lt (mark_at memory_marks m) refl;
} where
  register : (n : ℕ) (line : Line) → slice_get whole.lines n ≡ Some line → is_register line.equation ≡ true → (t : Bool) → mark_at marks n ≡ t → (if t then state.net (place marks n) else 0) < 2 ^ line.width
  register n line at e true m = (let there = r.lines.each n line (slice_get_within whole.lines n line at) at (marked_is marks n m) in
      let same = s.registers (place marks n) (moved_line marks memory_marks line) there (register_moved (place marks) (place memory_marks) line.equation ∙ e) in
      subst (λ x. x < 2 ^ line.width) (sym same) ((v.nets (place marks n) (moved_line marks memory_marks line) there).fits))
  register n line at e false m = pow_pos line.width

  word : (m : ℕ) (memory : Memory) → slice_get whole.memories m ≡ Some memory → (address : ℕ) → address < 2 ^ memory.address_bits → (t : Bool) → mark_at memory_marks m ≡ t
      → (if t then state.cell (place memory_marks m) address else 0) < 2 ^ memory.width
  word m memory at address lt true k = (let there = r.memories.each m memory (slice_get_within whole.memories m memory at) at (marked_is memory_marks m k) in
      let same = s.words (place memory_marks m) (moved_memory (place marks) memory) there address lt in
      subst (λ x. x < 2 ^ memory.width) (sym same) (v.words (place memory_marks m) (moved_memory (place marks) memory) there address lt))
  word m memory at address lt false k = pow_pos memory.width

restricted_state : (whole pruned : Netlist) (marks memory_marks : List Bool) (state cycle x : Cycle) → IsRenumbered whole pruned marks memory_marks → SameState pruned state cycle
    → SameState whole (whole_state marks memory_marks state cycle.input) x → SameState pruned (restricted marks memory_marks x) cycle
restricted_state whole pruned marks memory_marks state cycle x r s h = record {
  registers = λ j line at e. (let from = line_from whole pruned marks memory_marks j line r at in
      let is : is_register from.before.equation ≡ true = sym (register_moved (place marks) (place memory_marks) from.before.equation) ∙ ap (λ (l : Line). is_register l.equation) (sym from.is) ∙ e in
      sym (h.registers (old marks j) from.before from.at is) ∙ kept_is marks (old marks j) (state.net (place marks (old marks j))) 0 from.marked ∙ ap state.net from.number ∙ s.registers j line at e);
  words = λ m memory at address lt. (let from = memory_from whole pruned marks memory_marks m memory r at in
      let inside : address < 2 ^ from.before.address_bits = subst (λ (y : Memory). address < 2 ^ y.address_bits) from.is lt in
      sym (h.words (old memory_marks m) from.before from.at address inside)
      ∙ kept_is memory_marks (old memory_marks m) (state.cell (place memory_marks (old memory_marks m)) address) 0 from.marked ∙ ap (λ i. state.cell i address) from.number ∙ s.words m memory at address lt);
}

has_whole_cycle : (whole pruned : Netlist) (marks memory_marks : List Bool) (state cycle : Cycle) → Laws → IsRenumbered whole pruned marks memory_marks → IsValuation pruned cycle → SameState pruned state cycle
    → HasWholeCycle whole pruned (whole_state marks memory_marks state (λ _. 0)) cycle
has_whole_cycle whole pruned marks memory_marks state cycle laws r v s =
    let module_is = pruned_module whole pruned marks memory_marks r in
    let all = laws.has_valuation whole r.is_module.well_made (whole_state marks memory_marks state cycle.input)
    (λ k w i. input_fits pruned cycle k w module_is.well_made v (subst (λ (ps : List PortLine). IsInputPort ps k w) (sym r.ports) i)) (state_fits whole pruned marks memory_marks state cycle r v s) in
    let nets = laws.agree pruned module_is.well_made (restricted marks memory_marks all.cycle) cycle (valuation_moved whole pruned marks memory_marks all.cycle r all.valuation) v
    (λ k w i. ap (λ (f : ℕ → ℕ). f k) all.inputs) (restricted_state whole pruned marks memory_marks state cycle all.cycle r s all.state) in
    record {
      whole_cycle = all.cycle;
      valuation = all.valuation;
      same_state = record { registers = all.state.registers; words = all.state.words };
      inputs = all.inputs;
      signals = signals_same whole pruned marks memory_marks (over_and_over all.cycle) (over_and_over cycle) r
          (λ c n m. ap all.cycle.net (sym (old_place marks n m)) ∙ nets (place marks n) (place_within whole pruned marks memory_marks n r m));
    }

-- ---- the pruned module

pub pruned_is : (whole pruned : Netlist) (marks memory_marks : List Bool) → Laws → IsRenumbered whole pruned marks memory_marks → IsPruned whole pruned
pruned_is whole pruned marks memory_marks laws r = record {
  name = r.name;
  ports = r.ports;
  few = few_lines whole pruned marks memory_marks r;
  few_memories = few_memories whole pruned marks memory_marks r;
  needed = λ n lt. each_needed whole pruned marks memory_marks n r lt;
  needed_memories = λ m lt. each_read whole pruned marks memory_marks m r lt;
  runs = λ run cycles h. has_whole_run whole pruned marks memory_marks run cycles laws r h;
  states = λ state. record {
    whole_state = whole_state marks memory_marks state (λ _. 0);
    each = λ cycle v s. has_whole_cycle whole pruned marks memory_marks state cycle laws r v s;
  };
  drivers = λ k n e below. r.drivers k ∙ ap (option_map (place marks)) e ∙ ap Some (place_front marks n (λ m lt. r.marked.all m (below m lt)));
  constants = λ n w value at needed below. subst (λ j. slice_get pruned.lines j ≡ Some (line_of w (Constant value))) (place_front marks n (λ m lt. r.marked.all m (below m lt)))
      (r.lines.each n (line_of w (Constant value)) (slice_get_within whole.lines n _ at) at (r.marked.all n needed));
}
