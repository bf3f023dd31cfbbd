-- What a builder's steps keep: that the netlist is well made, and all that stood there.
use Rattle.std.proofs.Common.{◌≡◌, ℕ, zero, suc, ◌+◌, ◌-◌, ◌^◌, ◌<◌, ◌≤◌, List, [], ◌∷◌, ◌++◌, length, take, slice_get, get_or, set, Bool, true, false, Option, Some, None, refl, sym, subst, ap, ◌∙◌, arith, length-append, ◌⊎◌, inl, inr}
use Rattle.std.specs.Prelude.{IfSome, IfOk, Result, Ok, Err, option_map}
use Rattle.std.proofs.Math.ListN.{length-set}
use Rattle.std.proofs.lemmas.Option.{get_or_from_slice_get, slice_get_read}
use Rattle.av_base.specs.Word.{word, concat_of}
use Rattle.av_base.specs.declared.value.Val.{Val}
use Rattle.netlist.specs.declared.line.Line.{Line}
use Rattle.netlist.specs.declared.line.PortLine.{PortLine}
use Rattle.netlist.specs.declared.line.Memory.{Memory}
use Rattle.netlist.specs.declared.line.MemWrite.{MemWrite}
use Rattle.netlist.specs.declared.line.Equation.{Equation}
use Rattle.netlist.specs.declared.line.Equation.TheVariants.{Input, Constant, And, Or, Xor, Add, Sub, Eq, Less, Concat, Not, Any, Mux, Slice, Reg, Read}
use Rattle.netlist.specs.Nets.{NetValue, net_of}
use Rattle.netlist.specs.Netlists.{Netlist, line_of, line_with, width_at, HasWidth, IsNet, driver_of, IsInputPort, IsOutputPort, input_count, input_net, input_lines, is_input, is_register, next_in, next_of, IsOperand, AreOperands, IsComparison, IsAnyOf, IsSound, IsSoundLine, IsWriteOf, IsSoundMemory, IsWritten, IsHeader, BeginsWithInputs, IsDriver, IsWellMade, IsWaiting, IsClocked, started, appended, next_set, with_next, with_line, with_driver}
use Rattle.netlist.specs.Runs.{Run, Cycle, cycle_of, value_of, word_after, NetHolds, IsValuation, IsRun, reset_of, Always}
use Rattle.netlist.specs.Longer.{IsSetFrom, IsKept, IsKeptMemory, Keeps, Extends}
use Rattle.netlist.proofs.Lists.{slice_get-front, slice_get-last, slice_get-newly, slice_get-within, slice_get-some, slice_get-set_kept, slice_get-set_newly, slice_get-set_same, slice_get-set_other, width_at-line, width_at-is, driver-newly, driver-kept}
use Rattle.netlist.proofs.Inputs.{length-input_lines, input_lines-at, IsOfInput, input_lines-from, All-slice_get, undriven-at, length-undriven}

pub width-front : (lines more : List Line) (n w : ℕ) → width_at lines n ≡ Some w → width_at (lines ++ more) n ≡ Some w
width-front lines more n w e =
    let l = width_at-line lines n w e in
    let line : Line = l.0 in
    let at : slice_get (lines ++ more) n ≡ Some line = slice_get-front lines more n line l.1 in
    width_at-is (lines ++ more) n line at ∙ ap Some l.2

pub width-last : (lines : List Line) (line : Line) → width_at (lines ++ line ∷ []) (length lines) ≡ Some line.width
width-last lines line = width_at-is (lines ++ line ∷ []) (length lines) line (slice_get-last lines line)

-- each net of the first list is one of the second, of the same width
abbrev pub IsWider : List Line → List Line → Type 0
IsWider lines more = (n w : ℕ) → width_at lines n ≡ Some w → width_at more n ≡ Some w

operand_wider : (lines more : List Line) (n a w : ℕ) → IsWider lines more → IsOperand lines n a w → IsOperand more n a w
operand_wider lines more n a w wider h = record { below = h.below; width = wider a w h.width }

operands_wider : (lines more : List Line) (n a b w : ℕ) → IsWider lines more → AreOperands lines n a b w → AreOperands more n a b w
operands_wider lines more n a b w wider h = record { left = operand_wider lines more n a w wider h.left; right = operand_wider lines more n b w wider h.right }

comparison_wider : (lines more : List Line) (n w a b : ℕ) → IsWider lines more → IsComparison lines n w a b → IsComparison more n w a b
comparison_wider lines more n w a b wider h = record { width = h.width; operands = operands_wider lines more n a b h.width wider h.operands; one_bit = h.one_bit }

-- each memory of the first list is one of the second, kept
abbrev pub IsRicher : List Memory → List Memory → Type 0
IsRicher memories later = (m : ℕ) (memory : Memory) → slice_get memories m ≡ Some memory → (x : Memory) × (slice_get later m ≡ Some x) × IsKeptMemory memory x

kept_write : (o : Option MemWrite) → IfSome o (λ write. o ≡ Some write)
kept_write None = tt
kept_write (Some write) = refl

pub kept_same : (memory : Memory) → IsKeptMemory memory memory
kept_same memory = record { width = refl; address_bits = refl; write = kept_write memory.write }

same_memories : (memories : List Memory) → IsRicher memories memories
same_memories memories m memory at = (memory, at, kept_same memory)

-- an equation asks no more among more lines and memories
IsSound-wider : (ports : List PortLine) (memories later : List Memory) (lines more : List Line) (n w : ℕ) (e : Equation) → IsRicher memories later → IsWider lines more →
    IsSound ports memories lines n w e → IsSound ports later more n w e
IsSound-wider ports memories later lines more n w (Input port) richer wider h = h
IsSound-wider ports memories later lines more n w (Constant value) richer wider h = h
IsSound-wider ports memories later lines more n w (And a b) richer wider h = operands_wider lines more n a b w wider h
IsSound-wider ports memories later lines more n w (Or a b) richer wider h = operands_wider lines more n a b w wider h
IsSound-wider ports memories later lines more n w (Xor a b) richer wider h = operands_wider lines more n a b w wider h
IsSound-wider ports memories later lines more n w (Add a b) richer wider h = operands_wider lines more n a b w wider h
IsSound-wider ports memories later lines more n w (Sub a b) richer wider h = operands_wider lines more n a b w wider h
IsSound-wider ports memories later lines more n w (Eq a b) richer wider h = comparison_wider lines more n w a b wider h
IsSound-wider ports memories later lines more n w (Less a b) richer wider h = comparison_wider lines more n w a b wider h
IsSound-wider ports memories later lines more n w (Concat a b) richer wider h = record {
  high_width = h.high_width;
  low_width = h.low_width;
  high = operand_wider lines more n a h.high_width wider h.high;
  low = operand_wider lines more n b h.low_width wider h.low;
  sum = h.sum;
}
IsSound-wider ports memories later lines more n w (Not a) richer wider h = operand_wider lines more n a w wider h
IsSound-wider ports memories later lines more n w (Any a) richer wider h = record { width = h.width; operand = operand_wider lines more n a h.width wider h.operand; one_bit = h.one_bit }
IsSound-wider ports memories later lines more n w (Mux s a b) richer wider h = record { test = operand_wider lines more n s 1 wider h.test; branches = operands_wider lines more n a b w wider h.branches }
IsSound-wider ports memories later lines more n w (Slice a high low) richer wider h = record {
  width = h.width;
  operand = operand_wider lines more n a h.width wider h.operand;
  order = h.order;
  inside = h.inside;
  bits = h.bits;
}
IsSound-wider ports memories later lines more n w (Reg reset next) richer wider h = h
IsSound-wider ports memories later lines more n w (Read m a) richer wider h =
    let l = richer m h.memory h.is in
    record {
      memory = l.0;
      is = l.1;
      width = l.2.width ∙ h.width;
      address = subst (λ k. IsOperand more n a k) (sym l.2.address_bits) (operand_wider lines more n a h.memory.address_bits wider h.address);
    }

pub if_some : {X : Type 0} (o : Option X) (P Q : X → Type 0) → ((m : X) → P m → Q m) → IfSome o P → IfSome o Q
if_some None P Q f h = tt
if_some (Some m) P Q f h = f m h

pub IsSoundLine-wider : (ports : List PortLine) (memories later : List Memory) (lines more : List Line) (n : ℕ) (line : Line) → IsRicher memories later → IsWider lines more →
    IsSoundLine ports memories lines n line → IsSoundLine ports later more n line
IsSoundLine-wider ports memories later lines more n line richer wider h = record {
  some_bit = h.some_bit;
  small = h.small;
  equation = IsSound-wider ports memories later lines more n line.width line.equation richer wider h.equation;
  next = if_some (next_of line) (λ m. width_at lines m ≡ Some line.width) (λ m. width_at more m ≡ Some line.width) (λ m e. wider m line.width e) h.next;
  waits = h.waits;
}

IsSoundMemory-wider : (lines more : List Line) (memory : Memory) → IsWider lines more → IsSoundMemory lines memory → IsSoundMemory more memory
IsSoundMemory-wider lines more memory wider h = record {
  some_bit = h.some_bit;
  small = h.small;
  some_address = h.some_address;
  few_addresses = h.few_addresses;
  write = if_some memory.write (λ write. IsWriteOf lines memory write) (λ write. IsWriteOf more memory write)
      (λ write w. record { enable = wider write.enable 1 w.enable; address = wider write.address memory.address_bits w.address; word = wider write.word memory.width w.word }) h.write;
}

BeginsWithInputs-push : (ports : List PortLine) (lines : List Line) (l : Line) → is_input l.equation ≡ false → BeginsWithInputs ports lines → BeginsWithInputs ports (lines ++ l ∷ [])
BeginsWithInputs-push ports lines l e h = record {
  first = λ n line at. slice_get-front lines (l ∷ []) n line (h.first n line at);
  no_others = λ n line at i. elim (slice_get-newly lines l line n at) [
    | inl o ↦ h.no_others n line o i
    | inr o ↦ absurd (let same : is_input l.equation ≡ is_input line.equation = ap (λ (x : Line). is_input x.equation) o.1 in cc)
  ];
}

pub IsWellMade-appended : (b : Netlist) (l : Line) → IsWellMade b → length b.lines < 2 ^ 20 → IsSoundLine b.ports b.memories b.lines (length b.lines) l → is_input l.equation ≡ false → IsWellMade (appended b l)
IsWellMade-appended b l h few sound computed = record {
  header = h.header;
  few = (let k = length-append b.lines (l ∷ []) in omega arith);
  inputs = BeginsWithInputs-push b.ports b.lines l computed h.inputs;
  lines = λ n line at. elim (slice_get-newly b.lines l line n at) [
    | inl o ↦ IsSoundLine-wider b.ports b.memories b.memories b.lines (b.lines ++ l ∷ []) n line (same_memories b.memories) (λ m v. width-front b.lines (l ∷ []) m v) (h.lines n line o)
    | inr o ↦ rw (o.0, ← o.1) (IsSoundLine-wider b.ports b.memories b.memories b.lines (b.lines ++ l ∷ []) (length b.lines) l (same_memories b.memories) (λ m v. width-front b.lines (l ∷ []) m v) sound)
  ];
  places = h.places;
  drivers = λ k n d. (let i = h.drivers k n d in record { width = i.width; port = i.port; net = width-front b.lines _ n i.width i.net });
  few_memories = h.few_memories;
  memories = λ m memory at. IsSoundMemory-wider b.lines (b.lines ++ l ∷ []) memory (λ j v. width-front b.lines (l ∷ []) j v) (h.memories m memory at);
}

-- the widths of the ports
port_width : (name : List ℕ) (ports : List PortLine) (k : ℕ) (port : PortLine) → IsHeader name ports → slice_get ports k ≡ Some port → (1 ≤ port.width) × (port.width ≤ 128)
port_width name ports k port h e = All-slice_get (λ (p : PortLine). (1 ≤ p.width) × (p.width ≤ 128)) ports k port h.widths e

IsSoundLine-input : (name : List ℕ) (ports : List PortLine) (n : ℕ) (line : Line) → IsHeader name ports → IsOfInput ports 0 line → IsSoundLine ports [] (input_lines 0 ports) n line
IsSoundLine-input name ports n line h i =
    let z : 0 + i.port ≡ i.port = omega arith in
    let ws = port_width name ports i.port i.input.port h i.input.is in
    let v : i.input.port.width ≡ i.width = i.input.width in
    let made : IsSoundLine ports [] (input_lines 0 ports) n (line_of i.width (Input (0 + i.port))) = record {
      some_bit = omega (arith, ws.0, v);
      small = omega (arith, ws.1, v);
      equation = rw z i.input;
      next = tt;
      waits = λ e. cc;
    } in
    rw i.is made

pub IsWellMade-started : (name : List ℕ) (ports : List PortLine) → IsHeader name ports → input_count ports ≤ 2 ^ 20 → IsWellMade (started name ports)
IsWellMade-started name ports h few = record {
  header = h;
  few = rw length-input_lines few;
  inputs = record { first = λ n line at. at; no_others = λ n line at i. at };
  lines = λ n line at. IsSoundLine-input name ports n line h (input_lines-from ports 0 n line at);
  places = length-undriven ports;
  drivers = λ k n d. absurd (undriven-at ports k n d);
  few_memories = omega arith;
  memories = λ m memory at. cc;
}

pub IsWritten-started : (name : List ℕ) (ports : List PortLine) → IsWritten (started name ports)
IsWritten-started name ports m h = let at = h.is in cc

pub IsClocked-started : (name : List ℕ) (ports : List PortLine) → IsClocked (started name ports)
IsClocked-started name ports n h =
    let i = input_lines-from ports 0 n h.line h.is in
    let set : h.line.waits ≡ false = ap (λ (l : Line). l.waits) i.is in
    let waits = h.waits in
    cc

pub place_within : (b : Netlist) (k w : ℕ) → IsWellMade b → IsOutputPort b.ports k w → k < length b.drivers
place_within b k w h i = let lt = slice_get-within b.ports k i.port i.is in let e = h.places in omega arith

pub IsWellMade-with_driver : (b : Netlist) (k n : ℕ) → IsWellMade b → IsDriver b k n → IsWellMade (with_driver b k n)
IsWellMade-with_driver b k n h d = record {
  header = h.header;
  few = h.few;
  inputs = h.inputs;
  lines = h.lines;
  places = length-set b.drivers k (Some n) ∙ h.places;
  drivers = λ j m e. elim (driver-newly b.drivers k n j m e) [
    | inl o ↦ (let i = h.drivers j m o in record { width = i.width; port = i.port; net = i.net })
    | inr o ↦ rw (o.0, ← o.1) (record { width = d.width; port = d.port; net = d.net })
  ];
  few_memories = h.few_memories;
  memories = h.memories;
}

-- a next net changes nothing else of a line
next_reset : (e : Equation) (m : ℕ) → reset_of (next_set e m) ≡ reset_of e
next_reset (Reg reset next) m = refl
next_reset _ m = refl

next_value : (lines : List Line) (cycle : Cycle) (w : ℕ) (e : Equation) (m : ℕ) → value_of lines cycle w (next_set e m) ≡ value_of lines cycle w e
next_value lines cycle w (Reg reset next) m = refl
next_value lines cycle w _ m = refl

-- what a longer list keeps of a line
kept_width : (line later : Line) → IsKept line later → later.width ≡ line.width
kept_width line later (inl e) = ap (λ (l : Line). l.width) e
kept_width line later (inr s) = ap (λ (l : Line). l.width) s.is

-- an equation's value among more lines is its value
wider_width : (o o' : Option ℕ) (f : ℕ → ℕ) (P : ℕ → Type 0) → ((k : ℕ) → o ≡ Some k → o' ≡ Some k) → IfSome (option_map f o') P → IfSome (option_map f o) P
wider_width None o' f P wider h = tt
wider_width (Some k) o' f P wider h = subst (λ p. IfSome (option_map f p) P) (wider k refl) h

wider_value : (lines more : List Line) → IsWider lines more → (cycle : Cycle) (w : ℕ) (e : Equation) (P : ℕ → Type 0) → IfSome (value_of more cycle w e) P → IfSome (value_of lines cycle w e) P
wider_value lines more wider cycle w (Concat a b) P h =
    wider_width (width_at lines b) (width_at more b) (λ k. (concat_of (word (w - k) (cycle.net a)) (word k (cycle.net b))).bits) P (λ k. wider b k) h
wider_value lines more wider cycle w _ P h = h

kept_value : (lines more : List Line) → IsWider lines more → (cycle : Cycle) (line later : Line) (P : ℕ → Type 0) → IsKept line later →
    IfSome (value_of more cycle later.width later.equation) P → IfSome (value_of lines cycle line.width line.equation) P
kept_value lines more wider cycle line later P (inl e) h =
    wider_value lines more wider cycle line.width line.equation P (subst (λ (l : Line). IfSome (value_of more cycle l.width l.equation) P) e h)
kept_value lines more wider cycle line later P (inr s) h =
    wider_value lines more wider cycle line.width line.equation P
    (subst (λ o. IfSome o P) (next_value more cycle line.width line.equation s.next) (subst (λ (l : Line). IfSome (value_of more cycle l.width l.equation) P) s.is h))

kept_reset : (line later : Line) (P : ℕ → Type 0) → IsKept line later → IfSome (reset_of later.equation) P → IfSome (reset_of line.equation) P
kept_reset line later P (inl e) h = subst (λ (l : Line). IfSome (reset_of l.equation) P) e h
kept_reset line later P (inr s) h = subst (λ o. IfSome o P) (next_reset line.equation s.next) (subst (λ (l : Line). IfSome (reset_of l.equation) P) s.is h)

kept_next : (line later : Line) (P : ℕ → Type 0) → IsKept line later → IfSome (next_of later) P → IfSome (next_of line) P
kept_next line later P (inl e) h = subst (λ (l : Line). IfSome (next_of l) P) e h
kept_next line later P (inr s) h = rw s.waits tt

kept_widths : (b b' : Netlist) → Keeps b b' → IsWider b.lines b'.lines
kept_widths b b' keeps n w h =
    let o = width_at-line b.lines n w h in
    let l = keeps.lines n o.0 o.1 in
    width_at-is b'.lines n l.later l.is ∙ ap Some (kept_width o.0 l.later l.kept ∙ o.2)

-- an address and a word of a kept memory
kept_inside : (memory later : Memory) (address : ℕ) → IsKeptMemory memory later → address < 2 ^ memory.address_bits → address < 2 ^ later.address_bits
kept_inside memory later address k lt = subst (λ n. address < 2 ^ n) (sym k.address_bits) lt

written_again : (o p : Option MemWrite) (P : MemWrite → Type 0) → IfSome o (λ write. p ≡ Some write) → IfSome p P → IfSome o P
written_again None p P k h = tt
written_again (Some write) p P k h = subst (λ (q : Option MemWrite). IfSome q P) k h

kept_valuation : (b b' : Netlist) → Keeps b b' → (cycle : Cycle) → IsValuation b' cycle → IsValuation b cycle
kept_valuation b b' keeps cycle v = record {
  nets = λ n line at.
      (let l = keeps.lines n line at in
      let holds = v.nets n l.later l.is in
      let same : l.later.width ≡ line.width = kept_width line l.later l.kept in
      record {
        fits = subst (λ w. cycle.net n < 2 ^ w) same holds.fits;
        value = kept_value b.lines b'.lines (kept_widths b b' keeps) cycle line l.later (λ x. cycle.net n ≡ x) l.kept holds.value;
      });
  words = λ m memory at address lt.
      (let l = keeps.memories m memory at in
      subst (λ w. cycle.cell m address < 2 ^ w) l.kept.width (v.words m l.later l.is address (kept_inside memory l.later address l.kept lt)));
}

kept_run : (b b' : Netlist) → Keeps b b' → (run : Run) (cycles : ℕ) → IsRun b' run cycles → IsRun b run cycles
kept_run b b' keeps run cycles r = record {
  valuations = λ c h. kept_valuation b b' keeps (cycle_of run c) (r.valuations c h);
  starts = λ h. record { registers = λ n line at. (let l = keeps.lines n line at in kept_reset line l.later (λ x. run.net 0 n ≡ x) l.kept ((r.starts h).registers n l.later l.is)) };
  steps = λ c h. record {
    registers = λ n line at. (let l = keeps.lines n line at in kept_next line l.later (λ m. run.net (c + 1) n ≡ run.net c m) l.kept ((r.steps c h).registers n l.later l.is));
    words = λ m memory at address lt.
        (let l = keeps.memories m memory at in
        written_again memory.write l.later.write (λ write. run.cell (c + 1) m address ≡ word_after (cycle_of run c) write m address) l.kept.write
        ((r.steps c h).words m l.later l.is address (kept_inside memory l.later address l.kept lt)));
  };
}

kept_count : (b b' : Netlist) → Keeps b b' → (length b.lines ≤ length b'.lines) ⊎ (length b'.lines < length b.lines) → length b.lines ≤ length b'.lines
kept_count b b' keeps (inl h) = h
kept_count b b' keeps (inr h) =
    let some = slice_get-some b.lines (length b'.lines) h in
    let l = keeps.lines (length b'.lines) some.0 some.1 in
    let lt = slice_get-within b'.lines (length b'.lines) l.later l.is in
    absurd (omega (arith, lt))

compared : (m n : ℕ) → (m ≤ n) ⊎ (n < m)
compared zero n = inl (omega arith)
compared (suc m) zero = inr (omega arith)
compared (suc m) (suc n) = elim (compared m n) [ inl h ↦ inl (omega arith) | inr h ↦ inr (omega arith) ]

-- the law of longer lists
pub Extends-keeps : (b b' : Netlist) → Keeps b b' → Extends b b'
Extends-keeps b b' keeps = record {
  keeps = keeps;
  nets = λ n w h. (let o = width_at-line b.lines n w h in
      let l = keeps.lines n o.0 o.1 in
      width_at-is b'.lines n l.later l.is ∙ ap Some (kept_width o.0 l.later l.kept ∙ o.2));
  memories = λ mem h. (let l = keeps.memories mem.number h.memory h.is in
      record { memory = l.later; is = l.is; width = l.kept.width ∙ h.width; address_bits = l.kept.address_bits ∙ h.address_bits });
  valuations = kept_valuation b b' keeps;
  runs = kept_run b b' keeps;
  count = kept_count b b' keeps (compared (length b.lines) (length b'.lines));
}

kept_twice : (x y z : Line) → IsKept x y → IsKept y z → IsKept x z
kept_twice x y z (inl e) k = subst (λ (l : Line). IsKept l z) e k
kept_twice x y z (inr s) (inl f) = inr (record { waits = s.waits; next = s.next; is = f ∙ s.is })
kept_twice x y z (inr s) (inr t) = absurd (let set : y.waits ≡ false = ap (λ (l : Line). l.waits) s.is in let waits = t.waits in cc)

write_twice : (x y z : Option MemWrite) → IfSome x (λ write. y ≡ Some write) → IfSome y (λ write. z ≡ Some write) → IfSome x (λ write. z ≡ Some write)
write_twice None y z p q = tt
write_twice (Some write) y z p q = subst (λ (o : Option MemWrite). IfSome o (λ w. z ≡ Some w)) p q

memory_twice : (x y z : Memory) → IsKeptMemory x y → IsKeptMemory y z → IsKeptMemory x z
memory_twice x y z p q = record { width = q.width ∙ p.width; address_bits = q.address_bits ∙ p.address_bits; write = write_twice x.write y.write z.write p.write q.write }

pub Keeps-chain : (a b c : Netlist) → Keeps a b → Keeps b c → Keeps a c
Keeps-chain a b c p q = record {
  name = q.name ∙ p.name;
  ports = q.ports ∙ p.ports;
  lines = λ n line at. (let l = p.lines n line at in let m = q.lines n l.later l.is in record { later = m.later; is = m.is; kept = kept_twice line l.later m.later l.kept m.kept });
  drivers = λ k n d. q.drivers k n (p.drivers k n d);
  memories = λ m memory at. (let l = p.memories m memory at in let k = q.memories m l.later l.is in record { later = k.later; is = k.is; kept = memory_twice memory l.later k.later l.kept k.kept });
}

Keeps-appended : (b : Netlist) (l : Line) → Keeps b (appended b l)
Keeps-appended b l = record {
  name = refl;
  ports = refl;
  lines = λ n line at. record { later = line; is = slice_get-front b.lines _ n line at; kept = inl refl };
  drivers = λ k n d. d;
  memories = λ m memory at. record { later = memory; is = at; kept = kept_same memory };
}

pub Extends-appended : (b : Netlist) (l : Line) → Extends b (appended b l)
Extends-appended b l = Extends-keeps b (appended b l) (Keeps-appended b l)

Keeps-with_driver : (b : Netlist) (k n : ℕ) → driver_of b k ≡ None → Keeps b (with_driver b k n)
Keeps-with_driver b k n u = record {
  name = refl;
  ports = refl;
  lines = λ m line at. record { later = line; is = at; kept = inl refl };
  drivers = λ j m d. driver-kept b.drivers k n j m u d;
  memories = λ j memory at. record { later = memory; is = at; kept = kept_same memory };
}

pub Extends-with_driver : (b : Netlist) (k n : ℕ) → driver_of b k ≡ None → Extends b (with_driver b k n)
Extends-with_driver b k n u = Extends-keeps b (with_driver b k n) (Keeps-with_driver b k n u)

pub Extends-same : (b b' : Netlist) → b' ≡ b → Extends b b'
Extends-same b b' e = rw e (Extends-keeps b b (record { name = refl; ports = refl; lines = λ n line at. record { later = line; is = at; kept = inl refl }; drivers = λ k n d. d; memories = λ m memory at. record { later = memory; is = at; kept = kept_same memory } }))

-- what a new line says in each valuation
pub Always-appended : (b : Netlist) (l : Line) → Always (appended b l) (λ cycle. NetHolds (appended b l).lines cycle (length b.lines) l)
Always-appended b l cycle v = v.nets (length b.lines) l (slice_get-last b.lines l)

-- an input port's net
pub input_line : (b : Netlist) (k w : ℕ) → IsWellMade b → IsInputPort b.ports k w → slice_get b.lines (input_net b.ports k) ≡ Some (line_of w (Input k))
input_line b k w h i =
    let z : 0 + k ≡ k = omega arith in
    let at = rw z at (input_lines-at b.ports 0 k w i) in
    h.inputs.first (input_net b.ports k) (line_of w (Input k)) at

-- the fields of a builder with one more line, and with one more driver
pub pushed : (b now : Netlist) (lines : List Line) (l : Line) → b ≡ now → lines ≡ b.lines ++ l ∷ [] → record b { lines = lines } ≡ appended now l
pushed b now lines l v p = rw (p, ← v) refl

-- and one to which nothing was pushed
pub unpushed : (b now : Netlist) (lines : List Line) → b ≡ now → lines ≡ b.lines → record b { lines = lines } ≡ now
unpushed b now lines v p = ap (λ (ls : List Line). record b { lines = ls }) p ∙ v

pub input_width : (b : Netlist) (k w n : ℕ) → IsWellMade b → n ≡ input_net b.ports k → IsInputPort b.ports k w → HasWidth b n w
input_width b k w n h e i = rw e (width_at-is b.lines (input_net b.ports k) (line_of w (Input k)) (input_line b k w h i))

pub input_value : (b : Netlist) (k w n : ℕ) → IsWellMade b → n ≡ input_net b.ports k → IsInputPort b.ports k w → Always b (λ cycle. cycle.net n ≡ cycle.input k)
input_value b k w n h e i cycle v = rw e ((v.nets (input_net b.ports k) (line_of w (Input k)) (input_line b k w h i)).value)

-- one port has one width
output_width : (ports : List PortLine) (k v w : ℕ) → IsOutputPort ports k v → IsOutputPort ports k w → v ≡ w
output_width ports k v w p q =
    let a = p.is in
    let b = q.is in
    let c = p.width in
    let d = q.width in
    let e : p.port ≡ q.port = cc in
    cc

pub driver_width : (b : Netlist) (k w n : ℕ) → IsWellMade b → driver_of b k ≡ Some n → IsOutputPort b.ports k w → HasWidth b n w
driver_width b k w n h d i = let o = h.drivers k n d in subst (λ v. HasWidth b n v) (output_width b.ports k o.width w o.port i) o.net

-- a driver that was read at its place
pub driver_read : (b : Netlist) (k w : ℕ) (d : Option ℕ) → IsWellMade b → IsOutputPort b.ports k w → d ≡ get_or b.drivers k d → d ≡ driver_of b k
driver_read b k w d h i e =
    let o = slice_get-some b.drivers k (place_within b k w h i) in
    e ∙ get_or_from_slice_get b.drivers k o.0 d o.1 ∙ sym (get_or_from_slice_get b.drivers k o.0 None o.1)

pub driven_view : (b now : Netlist) (k m n : ℕ) → b ≡ now → m ≡ n → with_driver b k m ≡ with_driver now k n
driven_view b now k m n v e = rw (v, e) refl

-- setting a register's next net

register_next : (e : Equation) (m : ℕ) → is_register e ≡ true → next_in (next_set e m) ≡ Some m
register_next (Reg reset next) m h = refl
register_next (Input port) m h = cc
register_next (Constant value) m h = cc
register_next (And a b) m h = cc
register_next (Or a b) m h = cc
register_next (Xor a b) m h = cc
register_next (Add a b) m h = cc
register_next (Sub a b) m h = cc
register_next (Eq a b) m h = cc
register_next (Less a b) m h = cc
register_next (Concat a b) m h = cc
register_next (Not a) m h = cc
register_next (Any a) m h = cc
register_next (Mux s a b) m h = cc
register_next (Slice a high low) m h = cc
register_next (Read k a) m h = cc

next_input : (e : Equation) (m : ℕ) → is_input (next_set e m) ≡ is_input e
next_input (Reg reset next) m = refl
next_input _ m = refl

register_input : (e : Equation) → is_register e ≡ true → is_input e ≡ false
register_input (Input port) h = cc
register_input _ h = refl

next_sound : (ports : List PortLine) (memories : List Memory) (lines : List Line) (n w : ℕ) (e : Equation) (m : ℕ) → IsSound ports memories lines n w e → IsSound ports memories lines n w (next_set e m)
next_sound ports memories lines n w (Reg reset next) m h = h
next_sound ports memories lines n w _ m h = h

-- line k of the netlist waits, and net m may be its next net
pub record MaySet (b : Netlist) (k m : ℕ) (line : Line) : Type 0 where
  pub is : slice_get b.lines k ≡ Some line
  pub waits : line.waits ≡ true
  pub next : HasWidth b m line.width

set_wider : (b : Netlist) (k m : ℕ) (line : Line) → slice_get b.lines k ≡ Some line → IsWider b.lines (set b.lines k (with_next line m))
set_wider b k m line is n w h =
    let o = width_at-line b.lines n w h in
    elim (slice_get-set_kept b.lines k n (with_next line m) o.0 o.1) [
      | inl e ↦ width_at-is (set b.lines k (with_next line m)) n o.0 e ∙ ap Some o.2
      | inr e ↦ width_at-is (set b.lines k (with_next line m)) n (with_next line m) e.1 ∙ ap Some (same_line o.0 (subst (λ j. slice_get b.lines j ≡ Some o.0) e.0 o.1) ∙ o.2)
    ]
  where
    same_line : (x : Line) → slice_get b.lines k ≡ Some x → line.width ≡ x.width
    same_line x e = (let same : line ≡ x = cc in ap (λ (l : Line). l.width) same)

set_inputs : (b : Netlist) (k m : ℕ) (line : Line) → slice_get b.lines k ≡ Some line → is_register line.equation ≡ true → BeginsWithInputs b.ports b.lines → BeginsWithInputs b.ports (set b.lines k (with_next line m))
set_inputs b k m line is register h = record {
  first = λ n x at. elim (slice_get-set_kept b.lines k n (with_next line m) x (h.first n x at)) [
    | inl o ↦ o
    | inr o ↦ absurd (not_there n x at o.0)
  ];
  no_others = λ n x at i. elim (slice_get-set_newly b.lines k n (with_next line m) x at) [
    | inl o ↦ h.no_others n x o.1 i
    | inr o ↦ absurd (not_input x o.1 i)
  ];
} where
  not_there : (n : ℕ) (x : Line) → slice_get (input_lines 0 b.ports) n ≡ Some x → n ≡ k → ⊥
  not_there n x at e =
      (let here : slice_get b.lines k ≡ Some x = subst (λ j. slice_get b.lines j ≡ Some x) e (h.first n x at) in
      let same : x ≡ line = cc in
      let i = input_lines-from b.ports 0 n x at in
      let input : is_input x.equation ≡ true = ap (λ (l : Line). is_input l.equation) i.is in
      let other : is_input line.equation ≡ false = register_input line.equation register in
      let both : is_input x.equation ≡ is_input line.equation = ap (λ (l : Line). is_input l.equation) same in
      cc)

  not_input : (x : Line) → with_next line m ≡ x → is_input x.equation ≡ true → ⊥
  not_input x e i =
      (let same : is_input (next_set line.equation m) ≡ is_input x.equation = ap (λ (l : Line). is_input l.equation) e in
      let old : is_input (next_set line.equation m) ≡ is_input line.equation = next_input line.equation m in
      let other : is_input line.equation ≡ false = register_input line.equation register in
      cc)

set_line : (b : Netlist) (k m : ℕ) (line : Line) → IsWellMade b → MaySet b k m line → IsSoundLine b.ports b.memories (set b.lines k (with_next line m)) k (with_next line m)
set_line b k m line h s =
    let old = h.lines k line s.is in
    let wider = set_wider b k m line s.is in
    record {
      some_bit = old.some_bit;
      small = old.small;
      equation = next_sound b.ports b.memories (set b.lines k (with_next line m)) k line.width line.equation m (IsSound-wider b.ports b.memories b.memories b.lines (set b.lines k (with_next line m)) k line.width line.equation (same_memories b.memories) wider old.equation);
      next = subst (λ o. IfSome o (λ j. width_at (set b.lines k (with_next line m)) j ≡ Some line.width)) (sym (register_next line.equation m (old.waits s.waits))) (wider m line.width s.next);
      waits = λ e. cc;
    }

pub IsWellMade-with_next : (b : Netlist) (k m : ℕ) (line : Line) → IsWellMade b → MaySet b k m line → IsWellMade (with_line b k (with_next line m))
IsWellMade-with_next b k m line h s =
    let wider = set_wider b k m line s.is in
    record {
      header = h.header;
      few = rw length-set h.few;
      inputs = set_inputs b k m line s.is ((h.lines k line s.is).waits s.waits) h.inputs;
      lines = λ n x at. elim (slice_get-set_newly b.lines k n (with_next line m) x at) [
        | inl o ↦ IsSoundLine-wider b.ports b.memories b.memories b.lines (set b.lines k (with_next line m)) n x (same_memories b.memories) wider (h.lines n x o.1)
        | inr o ↦ rw (o.0, ← o.1) (set_line b k m line h s)
      ];
      places = h.places;
      drivers = λ j n d. (let i = h.drivers j n d in record { width = i.width; port = i.port; net = wider n i.width i.net });
      few_memories = h.few_memories;
      memories = λ j memory at. IsSoundMemory-wider b.lines (set b.lines k (with_next line m)) memory wider (h.memories j memory at);
    }

Keeps-with_next : (b : Netlist) (k m : ℕ) (line : Line) → MaySet b k m line → Keeps b (with_line b k (with_next line m))
Keeps-with_next b k m line s = record {
  name = refl;
  ports = refl;
  lines = λ n x at. elim (slice_get-set_kept b.lines k n (with_next line m) x at) [
    | inl o ↦ record { later = x; is = o; kept = inl refl }
    | inr o ↦ record { later = with_next line m; is = o.1; kept = inr (was_set x (subst (λ j. slice_get b.lines j ≡ Some x) o.0 at)) }
  ];
  drivers = λ j n d. d;
  memories = λ j memory at. record { later = memory; is = at; kept = kept_same memory };
} where
  was_set : (x : Line) → slice_get b.lines k ≡ Some x → IsSetFrom x (with_next line m)
  was_set x e = (let is = s.is in let same : line ≡ x = cc in
      record { waits = subst (λ (l : Line). l.waits ≡ true) same s.waits; next = m; is = ap (λ (l : Line). with_next l m) same })

pub Extends-with_next : (b : Netlist) (k m : ℕ) (line : Line) → MaySet b k m line → Extends b (with_line b k (with_next line m))
Extends-with_next b k m line s = Extends-keeps b (with_line b k (with_next line m)) (Keeps-with_next b k m line s)

-- the register takes what its next net was
pub with_next-steps : (b : Netlist) (k m : ℕ) (line : Line) → IsWellMade b → MaySet b k m line → (run : Run) (cycles : ℕ) → IsRun (with_line b k (with_next line m)) run cycles → (c : ℕ) → c + 1 < cycles → run.net (c + 1) k ≡ run.net c m
with_next-steps b k m line h s run cycles r c lt =
    let is = slice_get-set_same b.lines k (with_next line m) (slice_get-within b.lines k line s.is) in
    subst (λ o. IfSome o (λ j. run.net (c + 1) k ≡ run.net c j)) (register_next line.equation m ((h.lines k line s.is).waits s.waits)) ((r.steps c lt).registers k (with_next line m) is)

-- which registers wait

pub waiting-appended : (b : Netlist) (l : Line) (n : ℕ) → IsWaiting b n → IsWaiting (appended b l) n
waiting-appended b l n h = record { line = h.line; is = slice_get-front b.lines (l ∷ []) n h.line h.is; waits = h.waits }

pub waiting-newly : (b : Netlist) (l : Line) (n : ℕ) → IsWaiting (appended b l) n → IsWaiting b n ⊎ (l.waits ≡ true) × (n ≡ length b.lines)
waiting-newly b l n h = elim (slice_get-newly b.lines l h.line n h.is) [
  | inl o ↦ inl (record { line = h.line; is = o; waits = h.waits })
  | inr o ↦ inr (ap (λ (x : Line). x.waits) o.1 ∙ h.waits, o.0)
]

pub waiting-last : (b : Netlist) (l : Line) → l.waits ≡ true → IsWaiting (appended b l) (length b.lines)
waiting-last b l h = record { line = l; is = slice_get-last b.lines l; waits = h }

pub waiting-set : (b : Netlist) (k m n : ℕ) (line : Line) → (n ≡ k → ⊥) → IsWaiting b n → IsWaiting (with_line b k (with_next line m)) n
waiting-set b k m n line d h = record { line = h.line; is = slice_get-set_other b.lines k n (with_next line m) h.line d h.is; waits = h.waits }

pub waiting-unset : (b : Netlist) (k m n : ℕ) (line : Line) → IsWaiting (with_line b k (with_next line m)) n → IsWaiting b n × (n ≡ k → ⊥)
waiting-unset b k m n line h = elim (slice_get-set_newly b.lines k n (with_next line m) h.line h.is) [
  | inl o ↦ (record { line = h.line; is = o.1; waits = h.waits }, o.0)
  | inr o ↦ absurd (let set : h.line.waits ≡ false = ap (λ (x : Line). x.waits) (sym o.1) in let waits = h.waits in cc)
]

-- what the makers' conditions say of the lines

net_within : (b : Netlist) (n w : ℕ) → HasWidth b n w → n < length b.lines
net_within b n w h = let o = width_at-line b.lines n w h in slice_get-within b.lines n o.0 o.1

pub operand_known : (b : Netlist) (x a w : ℕ) → x ≡ a → HasWidth b a w → IsOperand b.lines (length b.lines) x w
operand_known b x a w e h = rw e (record { below = net_within b a w h; width = h })

pub operands_known : (b : Netlist) (x y a c w v : ℕ) → x ≡ a → y ≡ c → HasWidth b a w → HasWidth b c v → w ≡ v → AreOperands b.lines (length b.lines) x y w
operands_known b x y a c w v e f h k same = record { left = operand_known b x a w e h; right = operand_known b y c w f (subst (λ u. HasWidth b c u) (sym same) k) }

pub comparison_known : (b : Netlist) (x y a c w v : ℕ) → x ≡ a → y ≡ c → HasWidth b a w → HasWidth b c v → w ≡ v → IsComparison b.lines (length b.lines) 1 x y
comparison_known b x y a c w v e f h k same = record { width = w; operands = operands_known b x y a c w v e f h k same; one_bit = refl }

pub any_known : (b : Netlist) (x a w : ℕ) → x ≡ a → HasWidth b a w → IsAnyOf b.lines (length b.lines) 1 x
any_known b x a w e h = record { width = w; operand = operand_known b x a w e h; one_bit = refl }

-- a line that was read at its place
pub line_read : {X : Type 0} (lines : List X) (k n : ℕ) (line : X) → k ≡ n → n < length lines → line ≡ get_or lines k line → slice_get lines n ≡ Some line
line_read lines k n line e h is = slice_get_read lines (length lines) n line refl h (subst (λ j. line ≡ get_or lines j line) e is)

-- a line that was read at a net has its width, which is within the bounds
pub record IsReadAt (w : ℕ) (line : Line) : Type 0 where
  pub width : line.width ≡ w
  pub bounds : (1 ≤ line.width) × (line.width ≤ 128)

pub net_read : (b now : Netlist) (k n w : ℕ) (line : Line) → b ≡ now → IsWellMade b → k ≡ n → HasWidth now n w → line ≡ get_or b.lines k line → IsReadAt w line
net_read b now k n w line v h e has is =
    let has' : HasWidth b n w = subst (λ (x : Netlist). HasWidth x n w) (sym v) has in
    let at = line_read b.lines k n line e (net_within b n w has') is in
    let sound = h.lines n line at in
    record { width = (let known = width_at-is b.lines n line at in cc); bounds = (sound.some_bit, sound.small) }

-- a line that lacks nothing is its width and its equation
pub whole_line : (b : Netlist) (n w : ℕ) (line : Line) → (IsWaiting b n → ⊥) → slice_get b.lines n ≡ Some line → HasWidth b n w → slice_get b.lines n ≡ Some (line_of w line.equation)
whole_line b n w line clocked is has =
    let width : line.width ≡ w = (let at = width_at-is b.lines n line is in cc) in
    let set : line.waits ≡ false = not_waiting line.waits refl in
    is ∙ ap Some (subst (λ v. line ≡ line_with v line.equation false) width (subst (λ t. line ≡ line_with line.width line.equation t) set refl))
  where
    not_waiting : (t : Bool) → line.waits ≡ t → line.waits ≡ false
    not_waiting true e = absurd (clocked (record { line = line; is = is; waits = e }))
    not_waiting false e = e

-- a register's first value
pub register_starts : (old new : Netlist) (n : NetValue) (m w : ℕ) (reset : Val) → (new ≡ appended old (line_with w (Reg reset m) true)) × (n ≡ net_of (length old.lines) w) →
    (run : Run) (cycles : ℕ) → IsRun new run cycles → 0 < cycles → run.net 0 n.number ≡ reset.bits
register_starts old new n m w reset made run cycles r lt =
    let r' : IsRun (appended old (line_with w (Reg reset m) true)) run cycles = subst (λ (b : Netlist). IsRun b run cycles) made.0 r in
    rw made.1 ((r'.starts lt).registers (length old.lines) (line_with w (Reg reset m) true) (slice_get-last old.lines (line_with w (Reg reset m) true)))

pub register_waits : (old new : Netlist) (n : NetValue) (l : Line) → l.waits ≡ true → (new ≡ appended old l) × (n ≡ net_of (length old.lines) l.width) → IsWaiting new n.number
register_waits old new n l h made = rw (made.0, made.1) (waiting-last old l h)

pub if_ok : {X E : Type 0} (r : Result X E) (P Q : X → Type 0) → ((n : X) → P n → Q n) → IfOk r P → IfOk r Q
if_ok (Ok n) P Q f h = f n h
if_ok (Err e) P Q f h = tt

pub may_set : (b : Netlist) (k m v w : ℕ) (waiting : IsWaiting b k) → HasWidth b k v → HasWidth b m w → v ≡ w → MaySet b k m waiting.line
may_set b k m v w waiting has h same = record {
  is = waiting.is;
  waits = waiting.waits;
  next =
      (let at = width_at-is b.lines k waiting.line waiting.is in
      let known : w ≡ waiting.line.width = cc in
      subst (λ u. HasWidth b m u) known h);
}

-- the fields of a builder in which a line was set
pub set_view : (b now : Netlist) (k n : ℕ) (read line : Line) (next m : ℕ) (x : Line) → b ≡ now → k ≡ n → next ≡ m → n < length now.lines → read ≡ get_or b.lines k read →
    slice_get now.lines n ≡ Some line → x ≡ with_next read next → with_line b k x ≡ with_line now n (with_next line m)
set_view b now k n read line next m x v e f lt is at p =
    let few : n < length b.lines = subst (λ (y : Netlist). n < length y.lines) (sym v) lt in
    let here : slice_get now.lines n ≡ Some read = subst (λ (y : Netlist). slice_get y.lines n ≡ Some read) v (line_read b.lines k n read e few is) in
    let same : read ≡ line = cc in
    rw (p, same, v, e, f) refl

-- the net that `input` answers
pub record IsInputNet (b : Netlist) (k : ℕ) (n : NetValue) : Type 0 where
  pub number : n.number ≡ input_net b.ports k
  pub width : (w : ℕ) → IsInputPort b.ports k w → n.width ≡ w

pub input_made : (b now : Netlist) (ports : List PortLine) (k count : ℕ) (port : PortLine) (n : NetValue) → b ≡ now → ports ≡ b.ports → count ≡ input_count (take k ports) →
    n ≡ net_of count (get_or ports k port).width → IsInputNet now k n
input_made b now ports k count port n v p e made =
    let same : ports ≡ now.ports = p ∙ ap (λ (x : Netlist). x.ports) v in
    record {
      number = ap (λ (m : NetValue). m.number) made ∙ e ∙ ap (λ (ps : List PortLine). input_count (take k ps)) same;
      width = λ w i. ap (λ (m : NetValue). m.width) made ∙ ap (λ (ps : List PortLine). (get_or ps k port).width) same
          ∙ ap (λ (q : PortLine). q.width) (get_or_from_slice_get now.ports k i.port port i.is) ∙ i.width;
    }

pub input_is_net : (b : Netlist) (k w : ℕ) (n : NetValue) → IsWellMade b → IsInputNet b k n → IsInputPort b.ports k w → IsNet b n
input_is_net b k w n h made i = subst (λ v. HasWidth b n.number v) (sym (made.width w i)) (input_width b k w n.number h made.number i)

pub input_holds : (b : Netlist) (k w : ℕ) (n : NetValue) → IsWellMade b → IsInputNet b k n → IsInputPort b.ports k w → Always b (λ cycle. (cycle.net n.number < 2 ^ n.width) × (cycle.net n.number ≡ cycle.input k))
input_holds b k w n h made i cycle v =
    let holds = v.nets (input_net b.ports k) (line_of w (Input k)) (input_line b k w h i) in
    rw (made.number, made.width w i) (holds.fits, holds.value)
