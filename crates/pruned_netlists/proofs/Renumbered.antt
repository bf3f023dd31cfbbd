-- A module of the marked nets and memories of another, with new numbers: it is a module, and its nets are needed.
use Rattle.std.proofs.Common.{◌≡◌, ℕ, ◌<◌, ◌≤◌, inl, inr, Bool, true, false, List, [], ◌∷◌, length, map, slice_get, Option, Some, None, refl, sym, ap, subst, ◌∙◌, arith}
use Rattle.std.specs.Prelude.{IfSome, IsSome, option_map}
use Rattle.std.proofs.lemmas.Option.{slice_get_within}
use Rattle.netlist.specs.declared.line.Line.{Line}
use Rattle.netlist.specs.declared.line.PortLine.{PortLine}
use Rattle.netlist.specs.declared.line.Memory.{Memory}
use Rattle.netlist.specs.declared.line.MemWrite.{MemWrite}
use Rattle.netlist.specs.declared.line.Equation.{Equation}
use Rattle.netlist.specs.declared.line.Equation.TheVariants.{Input, Constant, And, Or, Xor, Add, Sub, Eq, Less, Concat, Not, Any, Mux, Slice, Reg, Read}
use Rattle.netlist.specs.Netlists.{Netlist, IsModule, IsDriver, IsWriteOf, IsSoundMemory, IsSoundLine, IsOperand, AreOperands, IsSound, IsInputPort, IsOutputPort, BeginsWithInputs, IsHeader, driver_of, width_at, next_in, is_input, input_lines, line_of}
use Rattle.pruned_netlists.specs.Needed.{IsOneOf, write_nets, memory_nets, sources, IsNeeded, IsReadFrom}
use Rattle.pruned_netlists.specs.Numbers.{place, IsMarked, AreMarks, AreMemoryMarks}
use Rattle.pruned_netlists.specs.Moved.{moved, moved_write, moved_memory, moved_line, AreMovedLines, AreMovedMemories}
use Rattle.pruned_netlists.proofs.Lines.{slice_get-some, width_at-line, width_at-is, input_lines-from}
use Rattle.pruned_netlists.proofs.Places.{old, place_old, place_few, place_below, place_front}
use Rattle.pruned_netlists.proofs.Sources.{not_waiting, next_is}

pub record IsRenumbered (whole pruned : Netlist) (marks memory_marks : List Bool) : Type 0 where
  pub is_module : IsModule whole
  pub marked : AreMarks whole marks
  pub read : AreMemoryMarks whole memory_marks
  pub name : pruned.name ≡ whole.name
  pub ports : pruned.ports ≡ whole.ports
  pub lines : AreMovedLines whole marks memory_marks (length whole.lines) pruned.lines
  pub memories : AreMovedMemories whole marks memory_marks (length whole.memories) pruned.memories
  pub places : length pruned.drivers ≡ length whole.ports
  pub drivers : (k : ℕ) → driver_of pruned k ≡ option_map (place marks) (driver_of whole k)

-- ---- marks

pub source_marked : (b : Netlist) (marks : List Bool) (n a : ℕ) (line : Line) → AreMarks b marks → IsMarked marks n → slice_get b.lines n ≡ Some line → IsOneOf a (sources b.memories line.equation) → IsMarked marks a
source_marked b marks n a line h m at k = h.all a (IsNeeded.source n a line at k (h.only n m))

pub driver_marked : (b : Netlist) (marks : List Bool) (k n : ℕ) → AreMarks b marks → driver_of b k ≡ Some n → IsMarked marks n
driver_marked b marks k n h e = h.all n (IsNeeded.drives k n e)

write_sources : (o : Option Memory) (memory : Memory) (write : MemWrite) (a : ℕ) → o ≡ Some memory → memory.write ≡ Some write → IsOneOf a (write.enable ∷ write.address ∷ write.word ∷ []) → IsOneOf a (memory_nets o)
write_sources o memory write a e f k = rw (e, f) k

pub write_marked : (b : Netlist) (marks memory_marks : List Bool) (m a : ℕ) (memory : Memory) (write : MemWrite) → AreMarks b marks → AreMemoryMarks b memory_marks → IsMarked memory_marks m → slice_get b.memories m ≡ Some memory
    → memory.write ≡ Some write → IsOneOf a (write.enable ∷ write.address ∷ write.word ∷ []) → IsMarked marks a
write_marked b marks memory_marks m a memory write h read mark at e k =
    let from = read.only m mark in
    source_marked b marks from.net a (line_of from.width (Read m from.address)) h (h.all from.net from.needed) from.is (inr (write_sources (slice_get b.memories m) memory write a at e k))

-- ---- nets by their new numbers, and back

pub width_moved : (whole pruned : Netlist) (marks memory_marks : List Bool) (n w : ℕ) → IsRenumbered whole pruned marks memory_marks → IsMarked marks n → width_at whole.lines n ≡ Some w → width_at pruned.lines (place marks n) ≡ Some w
width_moved whole pruned marks memory_marks n w r m e =
    let at = width_at-line whole.lines n w e in
    width_at-is pruned.lines (place marks n) (moved_line marks memory_marks at.0) (r.lines.each n at.0 (slice_get_within whole.lines n at.0 at.1) at.1 m) ∙ ap Some at.2

pub record IsFrom (whole : Netlist) (marks memory_marks : List Bool) (j : ℕ) (line : Line) : Type 0 where
  pub before : Line
  pub at : slice_get whole.lines (old marks j) ≡ Some before
  pub marked : IsMarked marks (old marks j)
  pub number : place marks (old marks j) ≡ j
  pub is : line ≡ moved_line marks memory_marks before

pub line_from : (whole pruned : Netlist) (marks memory_marks : List Bool) (j : ℕ) (line : Line) → IsRenumbered whole pruned marks memory_marks → slice_get pruned.lines j ≡ Some line → IsFrom whole marks memory_marks j line
line_from whole pruned marks memory_marks j line r at =
    let within = slice_get_within pruned.lines j line at in
    let all : place marks (length whole.lines) ≡ place marks (length marks) = ap (place marks) (sym r.marked.count) in
    let its = place_old marks j (let few = r.lines.few in omega (arith, within, few, all)) in
    let inside : old marks j < length whole.lines = (let lt = slice_get_within marks (old marks j) true its.marked in let count = r.marked.count in omega (arith, lt, count)) in
    let some = slice_get-some whole.lines (old marks j) inside in
    let there = r.lines.each (old marks j) some.0 inside some.1 its.marked in
    let here : slice_get pruned.lines j ≡ Some (moved_line marks memory_marks some.0) = subst (λ i. slice_get pruned.lines i ≡ Some (moved_line marks memory_marks some.0)) its.number there in
    record { before = some.0; at = some.1; marked = its.marked; number = its.number; is = (cc) }

pub record IsMemoryFrom (whole : Netlist) (marks memory_marks : List Bool) (j : ℕ) (memory : Memory) : Type 0 where
  pub before : Memory
  pub at : slice_get whole.memories (old memory_marks j) ≡ Some before
  pub marked : IsMarked memory_marks (old memory_marks j)
  pub number : place memory_marks (old memory_marks j) ≡ j
  pub is : memory ≡ moved_memory (place marks) before

pub memory_from : (whole pruned : Netlist) (marks memory_marks : List Bool) (j : ℕ) (memory : Memory) → IsRenumbered whole pruned marks memory_marks → slice_get pruned.memories j ≡ Some memory
    → IsMemoryFrom whole marks memory_marks j memory
memory_from whole pruned marks memory_marks j memory r at =
    let within = slice_get_within pruned.memories j memory at in
    let all : place memory_marks (length whole.memories) ≡ place memory_marks (length memory_marks) = ap (place memory_marks) (sym r.read.count) in
    let its = place_old memory_marks j (let few = r.memories.few in omega (arith, within, few, all)) in
    let inside : old memory_marks j < length whole.memories = (let lt = slice_get_within memory_marks (old memory_marks j) true its.marked in let count = r.read.count in omega (arith, lt, count)) in
    let some = slice_get-some whole.memories (old memory_marks j) inside in
    let there = r.memories.each (old memory_marks j) some.0 inside some.1 its.marked in
    let here : slice_get pruned.memories j ≡ Some (moved_memory (place marks) some.0) = subst (λ i. slice_get pruned.memories i ≡ Some (moved_memory (place marks) some.0)) its.number there in
    record { before = some.0; at = some.1; marked = its.marked; number = its.number; is = (cc) }

-- ---- equations

pub input_moved : (net memory : ℕ → ℕ) (e : Equation) → is_input (moved net memory e) ≡ is_input e
input_moved net memory (Input port) = refl
input_moved net memory _ = refl

operand_moved : (whole pruned : Netlist) (marks memory_marks : List Bool) (n a w : ℕ) → IsRenumbered whole pruned marks memory_marks → IsMarked marks a → IsOperand whole.lines n a w
    → IsOperand pruned.lines (place marks n) (place marks a) w
operand_moved whole pruned marks memory_marks n a w r m h = record { below = place_below marks a n m h.below; width = width_moved whole pruned marks memory_marks a w r m h.width }

operands_moved : (whole pruned : Netlist) (marks memory_marks : List Bool) (n a b w : ℕ) → IsRenumbered whole pruned marks memory_marks → IsMarked marks a → IsMarked marks b → AreOperands whole.lines n a b w
    → AreOperands pruned.lines (place marks n) (place marks a) (place marks b) w
operands_moved whole pruned marks memory_marks n a b w r m k h = record { left = operand_moved whole pruned marks memory_marks n a w r m h.left; right = operand_moved whole pruned marks memory_marks n b w r k h.right }

-- all that an equation goes by is marked
pub record AreSourcesMarked (memories : List Memory) (marks memory_marks : List Bool) (e : Equation) : Type 0 where
  pub nets : (a : ℕ) → IsOneOf a (sources memories e) → IsMarked marks a
  pub memory : (m a : ℕ) → e ≡ Read m a → IsMarked memory_marks m

pub sources_marked : (b : Netlist) (marks memory_marks : List Bool) (n : ℕ) (line : Line) → IsModule b → AreMarks b marks → AreMemoryMarks b memory_marks → IsMarked marks n → slice_get b.lines n ≡ Some line
    → AreSourcesMarked b.memories marks memory_marks line.equation
sources_marked b marks memory_marks n line h marked read m at = record {
  nets = λ a k. source_marked b marks n a line marked m at k;
  memory = λ j a e. read.all j (record {
    net = n;
    width = line.width;
    address = a;
    is = at ∙ ap Some (told line (Read j a) e (not_waiting b n line h at));
    needed = marked.only n m;
  });
} where
  told : (l : Line) (e : Equation) → l.equation ≡ e → l.waits ≡ false → l ≡ line_of l.width e
  told l e is waits = ap (λ (x : Equation). record { width = l.width; equation = x; waits = l.waits }) is ∙ ap (λ (t : Bool). record { width = l.width; equation = e; waits = t }) waits

sound_moved : (whole pruned : Netlist) (marks memory_marks : List Bool) (n w : ℕ) (e : Equation) → IsRenumbered whole pruned marks memory_marks → AreSourcesMarked whole.memories marks memory_marks e
    → IsSound whole.ports whole.memories whole.lines n w e → IsSound pruned.ports pruned.memories pruned.lines (place marks n) w (moved (place marks) (place memory_marks) e)
sound_moved whole pruned marks memory_marks n w (Input port) r m s = subst (λ (ps : List PortLine). IsInputPort ps port w) (sym r.ports) s
sound_moved whole pruned marks memory_marks n w (Constant value) r m s = s
sound_moved whole pruned marks memory_marks n w (And a b) r m s = operands_moved whole pruned marks memory_marks n a b w r (m.nets a (inl refl)) (m.nets b (inr (inl refl))) s
sound_moved whole pruned marks memory_marks n w (Or a b) r m s = operands_moved whole pruned marks memory_marks n a b w r (m.nets a (inl refl)) (m.nets b (inr (inl refl))) s
sound_moved whole pruned marks memory_marks n w (Xor a b) r m s = operands_moved whole pruned marks memory_marks n a b w r (m.nets a (inl refl)) (m.nets b (inr (inl refl))) s
sound_moved whole pruned marks memory_marks n w (Add a b) r m s = operands_moved whole pruned marks memory_marks n a b w r (m.nets a (inl refl)) (m.nets b (inr (inl refl))) s
sound_moved whole pruned marks memory_marks n w (Sub a b) r m s = operands_moved whole pruned marks memory_marks n a b w r (m.nets a (inl refl)) (m.nets b (inr (inl refl))) s
sound_moved whole pruned marks memory_marks n w (Eq a b) r m s = record { width = s.width; operands = operands_moved whole pruned marks memory_marks n a b s.width r (m.nets a (inl refl)) (m.nets b (inr (inl refl))) s.operands; one_bit = s.one_bit }
sound_moved whole pruned marks memory_marks n w (Less a b) r m s = record { width = s.width; operands = operands_moved whole pruned marks memory_marks n a b s.width r (m.nets a (inl refl)) (m.nets b (inr (inl refl))) s.operands; one_bit = s.one_bit }
sound_moved whole pruned marks memory_marks n w (Concat a b) r m s = record {
  high_width = s.high_width;
  low_width = s.low_width;
  high = operand_moved whole pruned marks memory_marks n a s.high_width r (m.nets a (inl refl)) s.high;
  low = operand_moved whole pruned marks memory_marks n b s.low_width r (m.nets b (inr (inl refl))) s.low;
  sum = s.sum;
}
sound_moved whole pruned marks memory_marks n w (Not a) r m s = operand_moved whole pruned marks memory_marks n a w r (m.nets a (inl refl)) s
sound_moved whole pruned marks memory_marks n w (Any a) r m s = record { width = s.width; operand = operand_moved whole pruned marks memory_marks n a s.width r (m.nets a (inl refl)) s.operand; one_bit = s.one_bit }
sound_moved whole pruned marks memory_marks n w (Mux t a b) r m s = record {
  test = operand_moved whole pruned marks memory_marks n t 1 r (m.nets t (inl refl)) s.test;
  branches = operands_moved whole pruned marks memory_marks n a b w r (m.nets a (inr (inl refl))) (m.nets b (inr (inr (inl refl)))) s.branches;
}
sound_moved whole pruned marks memory_marks n w (Slice a high low) r m s = record {
  width = s.width;
  operand = operand_moved whole pruned marks memory_marks n a s.width r (m.nets a (inl refl)) s.operand;
  order = s.order;
  inside = s.inside;
  bits = s.bits;
}
sound_moved whole pruned marks memory_marks n w (Reg reset next) r m s = s
sound_moved whole pruned marks memory_marks n w (Read j a) r m s = record {
  memory = moved_memory (place marks) s.memory;
  is = r.memories.each j s.memory (slice_get_within whole.memories j s.memory s.is) s.is (m.memory j a refl);
  width = s.width;
  address = operand_moved whole pruned marks memory_marks n a s.memory.address_bits r (m.nets a (inl refl)) s.address;
}

next_moved : (whole pruned : Netlist) (marks memory_marks : List Bool) (w : ℕ) (e : Equation) → IsRenumbered whole pruned marks memory_marks → AreSourcesMarked whole.memories marks memory_marks e
    → IfSome (next_in e) (λ m. width_at whole.lines m ≡ Some w) → IfSome (next_in (moved (place marks) (place memory_marks) e)) (λ m. width_at pruned.lines m ≡ Some w)
next_moved whole pruned marks memory_marks w (Reg reset next) r m h = width_moved whole pruned marks memory_marks next w r (m.nets next (inl refl)) h
next_moved whole pruned marks memory_marks w _ r m h = tt

line_moved : (whole pruned : Netlist) (marks memory_marks : List Bool) (n : ℕ) (line : Line) → IsRenumbered whole pruned marks memory_marks → IsMarked marks n → slice_get whole.lines n ≡ Some line
    → IsSoundLine pruned.ports pruned.memories pruned.lines (place marks n) (moved_line marks memory_marks line)
line_moved whole pruned marks memory_marks n line r m at =
    let sound = r.is_module.well_made.lines n line at in
    let its = sources_marked whole marks memory_marks n line r.is_module r.marked r.read m at in
    let next = subst (λ o. IfSome o (λ k. width_at whole.lines k ≡ Some line.width)) (next_is line (not_waiting whole n line r.is_module at)) sound.next in
    record {
      some_bit = sound.some_bit;
      small = sound.small;
      equation = sound_moved whole pruned marks memory_marks n line.width line.equation r its sound.equation;
      next = next_moved whole pruned marks memory_marks line.width line.equation r its next;
      waits = λ e. (cc);
    }

-- ---- inputs

-- input lines are those of inputs, and so are needed
pub front_marked : (whole : Netlist) (marks : List Bool) (m : ℕ) → IsModule whole → AreMarks whole marks → m < length (input_lines 0 whole.ports) → IsMarked marks m
front_marked whole marks m h marked lt =
    let some = slice_get-some (input_lines 0 whole.ports) m lt in
    let from = input_lines-from whole.ports 0 m some.0 some.1 in
    marked.all m (IsNeeded.input m some.0 (h.well_made.inputs.first m some.0 some.1) (ap (λ (l : Line). is_input l.equation) from.is))

pub front_place : (whole : Netlist) (marks : List Bool) (n : ℕ) → IsModule whole → AreMarks whole marks → n < length (input_lines 0 whole.ports) → place marks n ≡ n
front_place whole marks n h marked lt = place_front marks n (λ m below. front_marked whole marks m h marked (omega arith))

input_line_moved : (ports : List PortLine) (marks memory_marks : List Bool) (n : ℕ) (line : Line) → slice_get (input_lines 0 ports) n ≡ Some line → moved_line marks memory_marks line ≡ line
input_line_moved ports marks memory_marks n line at = let from = input_lines-from ports 0 n line at in rw from.is refl

inputs_moved : (whole pruned : Netlist) (marks memory_marks : List Bool) → IsRenumbered whole pruned marks memory_marks → BeginsWithInputs whole.ports pruned.lines
inputs_moved whole pruned marks memory_marks r = record {
  first = λ n line at. (let lt = slice_get_within (input_lines 0 whole.ports) n line at in
      let there = r.is_module.well_made.inputs.first n line at in
      let here = r.lines.each n line (slice_get_within whole.lines n line there) there (front_marked whole marks n r.is_module r.marked lt) in
      subst (λ j. slice_get pruned.lines j ≡ Some line) (front_place whole marks n r.is_module r.marked lt) (here ∙ ap Some (input_line_moved whole.ports marks memory_marks n line at)));
  no_others = λ n line at e. (let from = line_from whole pruned marks memory_marks n line r at in
      let input : is_input from.before.equation ≡ true = sym (input_moved (place marks) (place memory_marks) from.before.equation) ∙ ap (λ (l : Line). is_input l.equation) (sym from.is) ∙ e in
      let there = r.is_module.well_made.inputs.no_others (old marks n) from.before from.at input in
      let lt = slice_get_within (input_lines 0 whole.ports) (old marks n) from.before there in
      let same : old marks n ≡ n = sym (front_place whole marks (old marks n) r.is_module r.marked lt) ∙ from.number in
      subst (λ j. slice_get (input_lines 0 whole.ports) j ≡ Some line) same (there ∙ ap Some (sym (from.is ∙ input_line_moved whole.ports marks memory_marks (old marks n) from.before there))));
}

-- ---- drivers and memories

pub driver_from : (marks : List Bool) (o : Option ℕ) (n : ℕ) → option_map (place marks) o ≡ Some n → (d : ℕ) × (o ≡ Some d) × (place marks d ≡ n)
driver_from marks None n e = cc
driver_from marks (Some d) n e = (d, refl, (cc))

some_moved : (marks : List Bool) (o : Option ℕ) → IsSome o → IsSome (option_map (place marks) o)
some_moved marks None h = h
some_moved marks (Some d) h = h

driver_moved : (whole pruned : Netlist) (marks memory_marks : List Bool) (k n : ℕ) → IsRenumbered whole pruned marks memory_marks → driver_of pruned k ≡ Some n → IsDriver pruned k n
driver_moved whole pruned marks memory_marks k n r e =
    let from = driver_from marks (driver_of whole k) n (sym (r.drivers k) ∙ e) in
    let its = r.is_module.well_made.drivers k from.0 from.1 in
    record {
      width = its.width;
      port = subst (λ (ps : List PortLine). IsOutputPort ps k its.width) (sym r.ports) its.port;
      net = subst (λ j. width_at pruned.lines j ≡ Some its.width) from.2 (width_moved whole pruned marks memory_marks from.0 its.width r (driver_marked whole marks k from.0 r.marked from.1) its.net);
    }

write_moved : (whole pruned : Netlist) (marks memory_marks : List Bool) (memory : Memory) (o : Option MemWrite) → IsRenumbered whole pruned marks memory_marks
    → ((a : ℕ) (write : MemWrite) → o ≡ Some write → IsOneOf a (write.enable ∷ write.address ∷ write.word ∷ []) → IsMarked marks a)
    → IfSome o (λ write. IsWriteOf whole.lines memory write) → IfSome (option_map (moved_write (place marks)) o) (λ write. IsWriteOf pruned.lines (moved_memory (place marks) memory) write)
write_moved whole pruned marks memory_marks memory None r m h = tt
write_moved whole pruned marks memory_marks memory (Some write) r m h = record {
  enable = width_moved whole pruned marks memory_marks write.enable 1 r (m write.enable write refl (inl refl)) h.enable;
  address = width_moved whole pruned marks memory_marks write.address memory.address_bits r (m write.address write refl (inr (inl refl))) h.address;
  word = width_moved whole pruned marks memory_marks write.word memory.width r (m write.word write refl (inr (inr (inl refl)))) h.word;
}

sound_memory : (whole pruned : Netlist) (marks memory_marks : List Bool) (m : ℕ) (memory : Memory) → IsRenumbered whole pruned marks memory_marks → IsMarked memory_marks m → slice_get whole.memories m ≡ Some memory
    → IsSoundMemory pruned.lines (moved_memory (place marks) memory)
sound_memory whole pruned marks memory_marks m memory r mark at =
    let sound = r.is_module.well_made.memories m memory at in
    record {
      some_bit = sound.some_bit;
      small = sound.small;
      some_address = sound.some_address;
      few_addresses = sound.few_addresses;
      write = write_moved whole pruned marks memory_marks memory memory.write r (λ a write e k. write_marked whole marks memory_marks m a memory write r.marked r.read mark at e k) sound.write;
    }

unwritten : (marks : List Bool) (o : Option MemWrite) → option_map (moved_write (place marks)) o ≡ None → o ≡ None
unwritten marks None e = refl
unwritten marks (Some write) e = cc

-- ---- the module

pub few_lines : (whole pruned : Netlist) (marks memory_marks : List Bool) → IsRenumbered whole pruned marks memory_marks → length pruned.lines ≤ length whole.lines
few_lines whole pruned marks memory_marks r = let few = r.lines.few in let most = place_few marks (length whole.lines) in omega (arith, few, most)

pub few_memories : (whole pruned : Netlist) (marks memory_marks : List Bool) → IsRenumbered whole pruned marks memory_marks → length pruned.memories ≤ length whole.memories
few_memories whole pruned marks memory_marks r = let few = r.memories.few in let most = place_few memory_marks (length whole.memories) in omega (arith, few, most)

pub pruned_module : (whole pruned : Netlist) (marks memory_marks : List Bool) → IsRenumbered whole pruned marks memory_marks → IsModule pruned
pruned_module whole pruned marks memory_marks r = record {
  well_made = record {
    header = subst (λ (ps : List PortLine). IsHeader pruned.name ps) (sym r.ports) (subst (λ (xs : List ℕ). IsHeader xs whole.ports) (sym r.name) r.is_module.well_made.header);
    few = (let most = few_lines whole pruned marks memory_marks r in let all = r.is_module.well_made.few in omega (arith, most, all));
    inputs = subst (λ (ps : List PortLine). BeginsWithInputs ps pruned.lines) (sym r.ports) (inputs_moved whole pruned marks memory_marks r);
    lines = λ n line at. (let from = line_from whole pruned marks memory_marks n line r at in
        subst (λ j. IsSoundLine pruned.ports pruned.memories pruned.lines j line) from.number
        (subst (IsSoundLine pruned.ports pruned.memories pruned.lines (place marks (old marks n))) (sym from.is) (line_moved whole pruned marks memory_marks (old marks n) from.before r from.marked from.at)));
    places = r.places ∙ ap (λ (ps : List PortLine). length ps) (sym r.ports);
    drivers = λ k n e. driver_moved whole pruned marks memory_marks k n r e;
    few_memories = (let most = few_memories whole pruned marks memory_marks r in let all = r.is_module.well_made.few_memories in omega (arith, most, all));
    memories = λ m memory at. (let from = memory_from whole pruned marks memory_marks m memory r at in
        subst (IsSoundMemory pruned.lines) (sym from.is) (sound_memory whole pruned marks memory_marks (old memory_marks m) from.before r from.marked from.at));
  };
  driven = λ k w o. subst IsSome (sym (r.drivers k)) (some_moved marks (driver_of whole k) (r.is_module.driven k w (subst (λ (ps : List PortLine). IsOutputPort ps k w) r.ports o)));
  clocked = λ n waiting. (let from = line_from whole pruned marks memory_marks n waiting.line r waiting.is in
      let no : waiting.line.waits ≡ false = ap (λ (l : Line). l.waits) from.is in
      let yes = waiting.waits in cc);
  written = λ m waiting. (let from = memory_from whole pruned marks memory_marks m waiting.memory r waiting.is in
      let none : option_map (moved_write (place marks)) from.before.write ≡ None = sym (ap (λ (x : Memory). x.write) from.is) ∙ waiting.waits in
      r.is_module.written (old memory_marks m) (record { memory = from.before; is = from.at; waits = unwritten marks from.before.write none }));
}

-- ---- what is kept is needed

one_moved : (f : ℕ → ℕ) (a : ℕ) (xs : List ℕ) → IsOneOf a xs → IsOneOf (f a) (map f xs)
one_moved f a [] h = absurd h
one_moved f a (x ∷ xs) (inl e) = inl (ap f e)
one_moved f a (x ∷ xs) (inr h) = inr (one_moved f a xs h)

write_nets_moved : (f : ℕ → ℕ) (o : Option MemWrite) → write_nets (option_map (moved_write f) o) ≡ map f (write_nets o)
write_nets_moved f None = refl
write_nets_moved f (Some write) = refl

memory_nets_moved : (whole pruned : Netlist) (marks memory_marks : List Bool) (m : ℕ) (memory : Memory) → IsRenumbered whole pruned marks memory_marks → IsMarked memory_marks m → slice_get whole.memories m ≡ Some memory
    → memory_nets (slice_get pruned.memories (place memory_marks m)) ≡ map (place marks) (memory_nets (slice_get whole.memories m))
memory_nets_moved whole pruned marks memory_marks m memory r mark at =
    ap memory_nets (r.memories.each m memory (slice_get_within whole.memories m memory at) at mark)
    ∙ write_nets_moved (place marks) memory.write ∙ ap (λ (o : Option Memory). map (place marks) (memory_nets o)) (sym at)

sources_moved : (whole pruned : Netlist) (marks memory_marks : List Bool) (n w : ℕ) (e : Equation) → IsRenumbered whole pruned marks memory_marks → AreSourcesMarked whole.memories marks memory_marks e
    → IsSound whole.ports whole.memories whole.lines n w e → sources pruned.memories (moved (place marks) (place memory_marks) e) ≡ map (place marks) (sources whole.memories e)
sources_moved whole pruned marks memory_marks n w (Read m a) r its s = ap (λ (xs : List ℕ). place marks a ∷ xs) (memory_nets_moved whole pruned marks memory_marks m s.memory r (its.memory m a refl) s.is)
sources_moved whole pruned marks memory_marks n w (Input port) r its s = refl
sources_moved whole pruned marks memory_marks n w (Constant value) r its s = refl
sources_moved whole pruned marks memory_marks n w (And a b) r its s = refl
sources_moved whole pruned marks memory_marks n w (Or a b) r its s = refl
sources_moved whole pruned marks memory_marks n w (Xor a b) r its s = refl
sources_moved whole pruned marks memory_marks n w (Add a b) r its s = refl
sources_moved whole pruned marks memory_marks n w (Sub a b) r its s = refl
sources_moved whole pruned marks memory_marks n w (Eq a b) r its s = refl
sources_moved whole pruned marks memory_marks n w (Less a b) r its s = refl
sources_moved whole pruned marks memory_marks n w (Concat a b) r its s = refl
sources_moved whole pruned marks memory_marks n w (Not a) r its s = refl
sources_moved whole pruned marks memory_marks n w (Any a) r its s = refl
sources_moved whole pruned marks memory_marks n w (Mux t a b) r its s = refl
sources_moved whole pruned marks memory_marks n w (Slice a high low) r its s = refl
sources_moved whole pruned marks memory_marks n w (Reg reset next) r its s = refl

needed_moved : (whole pruned : Netlist) (marks memory_marks : List Bool) (n : ℕ) → IsRenumbered whole pruned marks memory_marks → IsNeeded whole n → IsNeeded pruned (place marks n)
needed_moved whole pruned marks memory_marks n r (IsNeeded.input _ line at e) =
    IsNeeded.input (place marks n) (moved_line marks memory_marks line) (r.lines.each n line (slice_get_within whole.lines n line at) at (r.marked.all n (IsNeeded.input n line at e))) (input_moved (place marks) (place memory_marks) line.equation ∙ e)
needed_moved whole pruned marks memory_marks n r (IsNeeded.drives k _ e) = IsNeeded.drives k (place marks n) (r.drivers k ∙ ap (option_map (place marks)) e)
needed_moved whole pruned marks memory_marks n r (IsNeeded.source m _ line at k needed) =
    let mark = r.marked.all m needed in
    let its = sources_marked whole marks memory_marks m line r.is_module r.marked r.read mark at in
    let same = sources_moved whole pruned marks memory_marks m line.width line.equation r its (r.is_module.well_made.lines m line at).equation in
    IsNeeded.source (place marks m) (place marks n) (moved_line marks memory_marks line) (r.lines.each m line (slice_get_within whole.lines m line at) at mark)
    (subst (IsOneOf (place marks n)) (sym same) (one_moved (place marks) n (sources whole.memories line.equation) k)) (needed_moved whole pruned marks memory_marks m r needed)

pub each_needed : (whole pruned : Netlist) (marks memory_marks : List Bool) (n : ℕ) → IsRenumbered whole pruned marks memory_marks → n < length pruned.lines → IsNeeded pruned n
each_needed whole pruned marks memory_marks n r lt =
    let some = slice_get-some pruned.lines n lt in
    let from = line_from whole pruned marks memory_marks n some.0 r some.1 in
    subst (IsNeeded pruned) from.number (needed_moved whole pruned marks memory_marks (old marks n) r (r.marked.only (old marks n) from.marked))

pub each_read : (whole pruned : Netlist) (marks memory_marks : List Bool) (m : ℕ) → IsRenumbered whole pruned marks memory_marks → m < length pruned.memories → IsReadFrom pruned m
each_read whole pruned marks memory_marks m r lt =
    let some = slice_get-some pruned.memories m lt in
    let from = memory_from whole pruned marks memory_marks m some.0 r some.1 in
    let its = r.read.only (old memory_marks m) from.marked in
    let line = line_of its.width (Read (old memory_marks m) its.address) in
    record {
      net = place marks its.net;
      width = its.width;
      address = place marks its.address;
      is = r.lines.each its.net line (slice_get_within whole.lines its.net line its.is) its.is (r.marked.all its.net its.needed)
          ∙ ap (λ j. Some (line_of its.width (Read j (place marks its.address)))) from.number;
      needed = needed_moved whole pruned marks memory_marks its.net r its.needed;
    }
