-- A module with constants where values are known is a module.
use Rattle.std.proofs.Common.{◌≡◌, ℕ, zero, suc, ◌+◌, Bool, true, false, List, [], ◌∷◌, length, slice_get, Option, Some, None, refl, sym, ap, subst, ◌∙◌, arith}
use Rattle.std.specs.Prelude.{IfSome, IsSome, if◌then◌else◌}
use Rattle.std.proofs.lemmas.Option.{slice_get_within, same_Some}
use Rattle.av_base.specs.Word.{Word}
use Rattle.netlist.specs.declared.line.Line.{Line}
use Rattle.netlist.specs.declared.line.PortLine.{PortLine}
use Rattle.netlist.specs.declared.line.Memory.{Memory}
use Rattle.netlist.specs.declared.line.MemWrite.{MemWrite}
use Rattle.netlist.specs.declared.line.Equation.{Equation}
use Rattle.netlist.specs.declared.line.Equation.TheVariants.{Input, Constant, And, Or, Xor, Add, Sub, Eq, Less, Concat, Not, Any, Mux, Slice, Reg, Read}
use Rattle.netlist.specs.Netlists.{Netlist, IsModule, IsWellMade, IsSound, IsSoundLine, IsWriteOf, IsOperand, AreOperands, IsOutputPort, width_at, driver_of, input_lines, is_input, next_of, line_of}
use Rattle.settled_netlists.specs.Values.{value_at, given_by, AreSettled, AreBounds}
use Rattle.settled_netlists.specs.Lines.{settled_line, AreSettledLines}
use Rattle.settled_netlists.proofs.Lists.{slice_get-some, width_at-line, width_at-is}

-- this module is that one, with a constant where a net has a value
pub record IsMade (whole made : Netlist) (values : List (Option Word)) : Type 0 where
  pub is_module : IsModule whole
  pub bounds : AreBounds whole values
  pub settled : AreSettled whole values
  pub name : made.name ≡ whole.name
  pub ports : made.ports ≡ whole.ports
  pub lines : AreSettledLines whole values (length whole.lines) made.lines
  pub places : length made.drivers ≡ length whole.ports
  pub drivers : (k : ℕ) → driver_of made k ≡ driver_of whole k
  pub memories : made.memories ≡ whole.memories

-- ---- lines

pub line_made : (whole made : Netlist) (values : List (Option Word)) (n : ℕ) (line : Line) (o : Option Word) → IsMade whole made values → slice_get whole.lines n ≡ Some line → value_at values n ≡ o
    → slice_get made.lines n ≡ Some (settled_line o line)
line_made whole made values n line o m at is =
    m.lines.each n line (slice_get_within whole.lines n line at) at ∙ ap (λ (x : Option Word). Some (settled_line x line)) is

pub record IsLineFrom (whole : Netlist) (values : List (Option Word)) (n : ℕ) (line : Line) : Type 0 where
  pub before : Line
  pub at : slice_get whole.lines n ≡ Some before
  pub is : line ≡ settled_line (value_at values n) before

pub line_from : (whole made : Netlist) (values : List (Option Word)) (n : ℕ) (line : Line) → IsMade whole made values → slice_get made.lines n ≡ Some line → IsLineFrom whole values n line
line_from whole made values n line m at =
    let within = slice_get_within made.lines n line at in
    let few = m.lines.few in
    let some = slice_get-some whole.lines n (omega (arith, within, few)) in
    let there = line_made whole made values n some.0 (value_at values n) m some.1 refl in
    record { before = some.0; at = some.1; is = same_Some _ _ (sym at ∙ there) }

pub value_wide : (whole : Netlist) (values : List (Option Word)) (n : ℕ) (line : Line) (v : Word) → AreBounds whole values → slice_get whole.lines n ≡ Some line → value_at values n ≡ Some v → v.width ≡ line.width
value_wide whole values n line v h at is = same_Some _ _ (sym (h.widths n v is) ∙ width_at-is whole.lines n line at)

settled_width : (whole : Netlist) (values : List (Option Word)) (n : ℕ) (line : Line) (o : Option Word) → AreBounds whole values → slice_get whole.lines n ≡ Some line → value_at values n ≡ o → (settled_line o line).width ≡ line.width
settled_width whole values n line (Some v) h at is = value_wide whole values n line v h at is
settled_width whole values n line None h at is = refl

pub width_made : (whole made : Netlist) (values : List (Option Word)) (n w : ℕ) → IsMade whole made values → width_at whole.lines n ≡ Some w → width_at made.lines n ≡ Some w
width_made whole made values n w m e =
    let at = width_at-line whole.lines n w e in
    width_at-is made.lines n (settled_line (value_at values n) at.0) (line_made whole made values n at.0 (value_at values n) m at.1 refl)
    ∙ ap Some (settled_width whole values n at.0 (value_at values n) m.bounds at.1 refl ∙ at.2)

pub width_from : (whole made : Netlist) (values : List (Option Word)) (n w : ℕ) → IsMade whole made values → width_at made.lines n ≡ Some w → width_at whole.lines n ≡ Some w
width_from whole made values n w m e =
    let at = width_at-line made.lines n w e in
    let from = line_from whole made values n at.0 m at.1 in
    width_at-is whole.lines n from.before from.at
    ∙ ap Some (sym (settled_width whole values n from.before (value_at values n) m.bounds from.at refl) ∙ ap (λ (l : Line). l.width) (sym from.is) ∙ at.2)

-- ---- soundness

operand_made : (whole made : Netlist) (values : List (Option Word)) (n a w : ℕ) → IsMade whole made values → IsOperand whole.lines n a w → IsOperand made.lines n a w
operand_made whole made values n a w m h = record { below = h.below; width = width_made whole made values a w m h.width }

operands_made : (whole made : Netlist) (values : List (Option Word)) (n a c w : ℕ) → IsMade whole made values → AreOperands whole.lines n a c w → AreOperands made.lines n a c w
operands_made whole made values n a c w m h = record { left = operand_made whole made values n a w m h.left; right = operand_made whole made values n c w m h.right }

sound_made : (whole made : Netlist) (values : List (Option Word)) (n w : ℕ) (e : Equation) → IsMade whole made values → IsSound whole.ports whole.memories whole.lines n w e → IsSound whole.ports whole.memories made.lines n w e
sound_made whole made values n w (Input port) m s = s
sound_made whole made values n w (Constant value) m s = s
sound_made whole made values n w (And a c) m s = operands_made whole made values n a c w m s
sound_made whole made values n w (Or a c) m s = operands_made whole made values n a c w m s
sound_made whole made values n w (Xor a c) m s = operands_made whole made values n a c w m s
sound_made whole made values n w (Add a c) m s = operands_made whole made values n a c w m s
sound_made whole made values n w (Sub a c) m s = operands_made whole made values n a c w m s
sound_made whole made values n w (Eq a c) m s = record { width = s.width; operands = operands_made whole made values n a c s.width m s.operands; one_bit = s.one_bit }
sound_made whole made values n w (Less a c) m s = record { width = s.width; operands = operands_made whole made values n a c s.width m s.operands; one_bit = s.one_bit }
sound_made whole made values n w (Concat a c) m s = record {
  high_width = s.high_width;
  low_width = s.low_width;
  high = operand_made whole made values n a s.high_width m s.high;
  low = operand_made whole made values n c s.low_width m s.low;
  sum = s.sum;
}
sound_made whole made values n w (Not a) m s = operand_made whole made values n a w m s
sound_made whole made values n w (Any a) m s = record { width = s.width; operand = operand_made whole made values n a s.width m s.operand; one_bit = s.one_bit }
sound_made whole made values n w (Mux t a c) m s = record { test = operand_made whole made values n t 1 m s.test; branches = operands_made whole made values n a c w m s.branches }
sound_made whole made values n w (Slice a high low) m s = record { width = s.width; operand = operand_made whole made values n a s.width m s.operand; order = s.order; inside = s.inside; bits = s.bits }
sound_made whole made values n w (Reg reset next) m s = s
sound_made whole made values n w (Read j a) m s = record { memory = s.memory; is = s.is; width = s.width; address = operand_made whole made values n a s.memory.address_bits m s.address }

next_made : (whole made : Netlist) (values : List (Option Word)) (w : ℕ) (o : Option ℕ) → IsMade whole made values → IfSome o (λ j. width_at whole.lines j ≡ Some w) → IfSome o (λ j. width_at made.lines j ≡ Some w)
next_made whole made values w None m h = tt
next_made whole made values w (Some j) m h = width_made whole made values j w m h

sound_line : (whole made : Netlist) (values : List (Option Word)) (n : ℕ) (line : Line) (o : Option Word) → IsMade whole made values → slice_get whole.lines n ≡ Some line → value_at values n ≡ o
    → IsSoundLine whole.ports whole.memories made.lines n (settled_line o line)
sound_line whole made values n line (Some v) m at is =
    let is_word = m.lines.words n v (slice_get_within whole.lines n line at) is in
    record { some_bit = is_word.some_bit; small = is_word.small; equation = record { word = is_word; width = refl }; next = tt; waits = λ e. cc }
sound_line whole made values n line None m at is =
    let its = m.is_module.well_made.lines n line at in
    record {
      some_bit = its.some_bit;
      small = its.small;
      equation = sound_made whole made values n line.width line.equation m its.equation;
      next = next_made whole made values line.width (next_of line) m its.next;
      waits = its.waits;
    }

write_made : (whole made : Netlist) (values : List (Option Word)) (memory : Memory) (o : Option MemWrite) → IsMade whole made values → IfSome o (λ write. IsWriteOf whole.lines memory write) → IfSome o (λ write. IsWriteOf made.lines memory write)
write_made whole made values memory None m h = tt
write_made whole made values memory (Some write) m h = record {
  enable = width_made whole made values write.enable 1 m h.enable;
  address = width_made whole made values write.address memory.address_bits m h.address;
  word = width_made whole made values write.word memory.width m h.word;
}

-- ---- the lines of inputs

head_input : (t : Bool) (l : Line) (xs : List Line) (n : ℕ) (line : Line) → is_input l.equation ≡ true → ((m : ℕ) → slice_get xs m ≡ Some line → is_input line.equation ≡ true) → slice_get (if t then xs else l ∷ xs) n ≡ Some line
    → is_input line.equation ≡ true
head_input true l xs n line is rest e = rest n e
head_input false l xs zero line is rest e = subst (λ (x : Line). is_input x.equation ≡ true) (same_Some _ _ e) is
head_input false l xs (suc n) line is rest e = rest n e

are_inputs : (ports : List PortLine) (j n : ℕ) (line : Line) → slice_get (input_lines j ports) n ≡ Some line → is_input line.equation ≡ true
are_inputs [] j n line e = cc
are_inputs (p ∷ ports) j n line e = head_input p.output (line_of p.width (Input j)) (input_lines (j + 1) ports) n line refl (λ m h. are_inputs ports (j + 1) m line h) e

input_free : (values : List (Option Word)) (e : Equation) (v : Word) → is_input e ≡ true → given_by values e ≡ Some v → ⊥
input_free values (Input port) v is h = cc
input_free values _ v is h = cc

input_stays : (whole : Netlist) (values : List (Option Word)) (n : ℕ) (line : Line) (o : Option Word) → AreSettled whole values → slice_get whole.lines n ≡ Some line → is_input line.equation ≡ true → value_at values n ≡ o → settled_line o line ≡ line
input_stays whole values n line None s at input is = refl
input_stays whole values n line (Some v) s at input is = absurd (input_free values line.equation v input (s.each n line v at is))

input_was : (o : Option Word) (line : Line) → is_input (settled_line o line).equation ≡ true → settled_line o line ≡ line
input_was None line e = refl
input_was (Some v) line e = cc

waiting_was : (o : Option Word) (line : Line) → (settled_line o line).waits ≡ true → line.waits ≡ true
waiting_was None line e = e
waiting_was (Some v) line e = cc

-- ---- the module

pub module_made : (whole made : Netlist) (values : List (Option Word)) → IsMade whole made values → IsModule made
module_made whole made values m = record {
  well_made = record {
    header = rw (m.name, m.ports) h.header;
    few = (let few = h.few in let same = m.lines.few in omega (arith, few, same));
    inputs = record {
      first = λ n line at. (let there : slice_get (input_lines 0 whole.ports) n ≡ Some line = subst (λ (ps : List PortLine). slice_get (input_lines 0 ps) n ≡ Some line) m.ports at in
          let is = h.inputs.first n line there in
          line_made whole made values n line (value_at values n) m is refl
          ∙ ap Some (input_stays whole values n line (value_at values n) m.settled is (are_inputs whole.ports 0 n line there) refl));
      no_others = λ n line at input. (let from = line_from whole made values n line m at in
          let was : line ≡ from.before = from.is ∙ input_was (value_at values n) from.before (subst (λ (l : Line). is_input l.equation ≡ true) from.is input) in
          let here = h.inputs.no_others n from.before from.at (subst (λ (l : Line). is_input l.equation ≡ true) was input) in
          subst (λ (ps : List PortLine). slice_get (input_lines 0 ps) n ≡ Some line) (sym m.ports) (here ∙ ap Some (sym was)));
    };
    lines = λ n line at. (let from = line_from whole made values n line m at in
        rw (m.ports, m.memories) (subst (IsSoundLine whole.ports whole.memories made.lines n) (sym from.is) (sound_line whole made values n from.before (value_at values n) m from.at refl)));
    places = m.places ∙ ap (λ (ps : List PortLine). length ps) (sym m.ports);
    drivers = λ k n e. (let d = h.drivers k n (sym (m.drivers k) ∙ e) in record {
      width = d.width;
      port = subst (λ (ps : List PortLine). IsOutputPort ps k d.width) (sym m.ports) d.port;
      net = width_made whole made values n d.width m d.net;
    });
    few_memories = rw m.memories h.few_memories;
    memories = λ j memory at. (let its = h.memories j memory (subst (λ (ms : List Memory). slice_get ms j ≡ Some memory) m.memories at) in record {
      some_bit = its.some_bit;
      small = its.small;
      some_address = its.some_address;
      few_addresses = its.few_addresses;
      write = write_made whole made values memory memory.write m its.write;
    });
  };
  driven = λ k w port. subst (λ (o : Option ℕ). IsSome o) (sym (m.drivers k)) (m.is_module.driven k w (subst (λ (ps : List PortLine). IsOutputPort ps k w) m.ports port));
  clocked = λ n waiting. (let from = line_from whole made values n waiting.line m waiting.is in
      m.is_module.clocked n (record { line = from.before; is = from.at; waits = waiting_was (value_at values n) from.before (subst (λ (l : Line). l.waits ≡ true) from.is waiting.waits) }));
  written = λ j waiting. m.is_module.written j (record { memory = waiting.memory; is = subst (λ (ms : List Memory). slice_get ms j ≡ Some waiting.memory) m.memories waiting.is; waits = waiting.waits });
} where
  h : IsWellMade whole
  h = m.is_module.well_made
