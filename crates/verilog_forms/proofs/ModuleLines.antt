-- The lines of a module as its text first tells them, and lists of forms.
use Rattle.std.proofs.Common.{◌≡◌, ℕ, zero, suc, ◌+◌, ◌-◌, ◌==◌, ◌<◌, ◌≤◌, ◌^◌, ◌&&◌, Bool, true, false, cond, not, List, [], ◌∷◌, ◌++◌, length, drop, drop_at, slice_get, Option, Some, None, refl, sym, ap, subst, ◌∙◌, arith, codes, decimal, append_assoc}
use Rattle.std.specs.Prelude.{if◌then◌else◌, nat_lt}
use Rattle.std.proofs.lemmas.List.{append-nil}
use Rattle.std.proofs.lemmas.Bool.{lt-ltb}
use Rattle.netlist.specs.declared.line.Equation.{Equation}
use Rattle.netlist.specs.declared.line.Equation.TheVariants.{Input, Constant, And, Or, Xor, Add, Sub, Eq, Less, Concat, Not, Any, Mux, Slice, Reg, Read}
use Rattle.netlist.specs.declared.line.Line.{Line}
use Rattle.netlist.specs.declared.line.Memory.{Memory}
use Rattle.netlist.specs.declared.line.PortLine.{PortLine}
use Rattle.netlist.specs.Netlists.{width_at, IsSound, IsOperand, AreOperands, is_register, memory_with}
use Rattle.verilog_writer.specs.Text.{memory_line, memories_text, net_line, nets_text}
use Rattle.verilog_forms.specs.Forms.{Form, is_hole_byte, next, followed, Due, Reads}
use Rattle.verilog_forms.specs.RegisterLines.{untold}
use Rattle.verilog_forms.specs.WholeTexts.{begins, is_wire_line, is_reg_line, is_net_line, behind_hole, named_letter, is_memory_line, listed, told, room_form}
use Rattle.verilog_forms.specs.Headers.{is_next}
use Rattle.verilog_forms.specs.Spellings.{prefix_run}
use Rattle.verilog_forms.proofs.Lines.{third, begins_net, register_shape, net_register, wire_third}
use Rattle.verilog_forms.proofs.Memories.{memory_shape}
use Rattle.verilog_forms.proofs.RightReads.{number_hole}
use Rattle.verilog_forms.specs.Walked.{inverted, Walked}
use Rattle.verilog_forms.proofs.Followed.{followed_walked, then_due}
use Rattle.verilog_forms.proofs.PortLines.{or_parts}

-- what holds of each element

abbrev pub AllOf : {X : Type 0} → (X → Type 0) → List X → Type 0
AllOf P [] = Unit {0}
AllOf P (x ∷ xs) = P x × AllOf P xs

pub all_of : {X : Type 0} (P : X → Type 0) (xs : List X) → ((k : ℕ) (x : X) → slice_get xs k ≡ Some x → P x) → AllOf P xs
all_of P [] each = tt
all_of P (x ∷ xs) each = (each 0 x refl, all_of P xs (λ k y e. each (suc k) y e))

pub some_same : {X : Type 0} (x y : X) → Some x ≡ Some y → x ≡ y
some_same x y e = cc

pub none_same : {X Y : Type 0} (x : X) → None ≡ Some x → Y
none_same x e = absurd (let clash : None ≡ Some x = e in cc)

pub of_all : {X : Type 0} (P : X → Type 0) (xs : List X) → AllOf P xs → (k : ℕ) (x : X) → slice_get xs k ≡ Some x → P x
of_all P [] all k x e = none_same x e
of_all P (y ∷ xs) all zero x e = subst P (some_same y x e) all.0
of_all P (y ∷ xs) all (suc k) x e = of_all P xs all.1 k x e

pub all_more : {X : Type 0} (P : X → Type 0) (xs : List X) (x : X) → AllOf P xs → P x → AllOf P (xs ++ x ∷ [])
all_more P [] x all is = (is, tt)
all_more P (y ∷ xs) x all is = (all.0, all_more P xs x all.1 is)

-- forms in a row

pub listed_due : {X : Type 0} (one : Form X) (others : Form (List X)) (x : X) (xs : List X) (rest front back : List ℕ) → Due (Form.whole x) (back ++ rest) one front → Due (Form.whole xs) rest others back
    → Due (Form.whole (x ∷ xs)) rest (listed one others) (front ++ back)
listed_due one others x xs rest front back d more =
    let due = Form.whole (x ∷ xs) in
    let inner = then_due others (λ ys. Form.whole (x ∷ ys)) xs due rest back [] more Due.nothing in
    then_due one (λ y. followed others (λ ys. Form.whole (y ∷ ys))) x due rest front back d (subst (λ (t : List ℕ). Due due rest (followed others (λ ys. Form.whole (x ∷ ys))) t) (append-nil back) inner)

pub told_due : {X Y : Type 0} (form : Form X) (make : X → Y) (x : X) (rest front : List ℕ) → Due (Form.whole x) rest form front → Due (Form.whole (make x)) rest (told form make) front
told_due form make x rest front d =
    let due = Form.whole (make x) in
    subst (λ (t : List ℕ). Due due rest (told form make) t) (append-nil front) (then_due form (λ y. Form.whole (make y)) x due rest front [] d Due.nothing)

pub record Told {X Y : Type 0} (form : Form X) (make : X → Y) (y : Y) (rest front : List ℕ) : Type 0 where
  pub value : X
  pub is : make value ≡ y
  pub walked : Walked value rest form front

pub told_walked : {X Y : Type 0} (form : Form X) (make : X → Y) (y : Y) (rest front : List ℕ) → Walked y rest (told form make) front → Told form make y rest front
told_walked form make y rest front d =
    let apart = followed_walked y rest form (λ x. Form.whole (make x)) front d in
    let last = inverted y refl apart.second in
    let front_is : apart.ahead ≡ front = sym (append-nil apart.ahead) ∙ ap (λ (t : List ℕ). apart.ahead ++ t) (sym last.1) ∙ sym apart.parts in
    let behind_is : apart.behind ++ rest ≡ rest = ap (λ (t : List ℕ). t ++ rest) last.1 in
    record { value = apart.value; is = last.0; walked = subst (λ (t : List ℕ). Walked apart.value rest form t) front_is (subst (λ (t : List ℕ). Walked apart.value t form apart.ahead) behind_is apart.first) }

pub record Listed {X : Type 0} (one : Form X) (others : Form (List X)) (all : List X) (rest front : List ℕ) : Type 0 where
  pub x : X
  pub xs : List X
  pub ahead : List ℕ
  pub behind : List ℕ
  pub is : x ∷ xs ≡ all
  pub parts : front ≡ ahead ++ behind
  pub first : Walked x (behind ++ rest) one ahead
  pub second : Walked xs rest others behind

pub listed_walked : {X : Type 0} (one : Form X) (others : Form (List X)) (all : List X) (rest front : List ℕ) → Walked all rest (listed one others) front → Listed one others all rest front
listed_walked one others all rest front d =
    let apart = followed_walked all rest one (λ x. followed others (λ xs. Form.whole (x ∷ xs))) front d in
    let more = told_walked others (λ xs. apart.value ∷ xs) all rest apart.behind apart.second in
    record { x = apart.value; xs = more.value; ahead = apart.ahead; behind = apart.behind; is = more.is; parts = apart.parts; first = apart.first; second = more.walked }

-- what was walked is read
pub walked_reads : {A : Type 0} (form : Form A) (a : A) (rest front : List ℕ) → Walked a rest form front → Reads form (front ++ rest) a rest
walked_reads form a rest front d = record { front = front; parts = refl; good = d }

-- what stands ahead

pub ahead_due : {A : Type 0} (due : Form A) (rest : List ℕ) (test : List ℕ → Bool) (met otherwise : Form A) (front : List ℕ) → test (front ++ rest) ≡ true → Due due rest met front → Due due rest (Form.ahead (λ text. if test text then met else otherwise)) front
ahead_due due rest test met otherwise front e d = Due.ahead (λ text. if test text then met else otherwise) (subst (λ (t : Bool). Due due rest (cond t met otherwise) front) (sym e) d)

pub not_ahead_due : {A : Type 0} (due : Form A) (rest : List ℕ) (test : List ℕ → Bool) (met otherwise : Form A) (front : List ℕ) → test (front ++ rest) ≡ false → Due due rest otherwise front → Due due rest (Form.ahead (λ text. if test text then met else otherwise)) front
not_ahead_due due rest test met otherwise front e d = Due.ahead (λ text. if test text then met else otherwise) (subst (λ (t : Bool). Due due rest (cond t met otherwise) front) (sym e) d)

and_false : (b : Bool) → (b && false) ≡ false
and_false true = refl
and_false false = refl

pub room_due : {A : Type 0} (due : Form A) (rest : List ℕ) (n : ℕ) (form : Form A) (front : List ℕ) → n < 2 ^ 20 → Due due rest form front → Due due rest (room_form n form) front
room_due due rest n form front room d =
    let full : (is_net_line (front ++ rest) && not (nat_lt n (2 ^ 20))) ≡ false = rw (lt-ltb n (2 ^ 20) room) (and_false (is_net_line (front ++ rest))) in
    not_ahead_due due rest (λ text. is_net_line text && not (nat_lt n (2 ^ 20))) _ form front full d

third_differs : (c : ℕ) (text : List ℕ) → (third text == c) ≡ false → begins (32 ∷ 32 ∷ c ∷ []) text ≡ false
third_differs c [] e = refl
third_differs c (a ∷ []) e = and_false (a == 32)
third_differs c (a ∷ b ∷ []) e = rw (and_false (b == 32)) (and_false (a == 32))
third_differs c (a ∷ b ∷ d ∷ text) e = rw (e, and_false (b == 32)) (and_false (a == 32))

-- no line of a net, and so no memory's
pub no_net_ahead : (text : List ℕ) → begins_net text ≡ false → (is_wire_line text ≡ false) × (is_reg_line text ≡ false)
no_net_ahead text e =
    let parts = or_parts (third text == 119) (third text == 114) e in
    (third_differs 119 text parts.0, third_differs 114 text parts.1)

pub no_memory_ahead : (text : List ℕ) → is_reg_line text ≡ false → is_memory_line text ≡ false
no_memory_ahead text e = rw e refl

hole_passed : (n : ℕ) (tail : List ℕ) → n < 2 ^ 64 → behind_hole (decimal n ++ (codes ":0] " ++ tail)) ≡ codes ":0] " ++ tail
hole_passed n tail few =
    let hole = number_hole n (codes ":0] " ++ tail) few refl in
    ap (λ (k : ℕ). drop k (decimal n ++ (codes ":0] " ++ tail))) (prefix_run is_hole_byte (decimal n) (codes ":0] " ++ tail) hole.bytes refl) ∙ drop_at (decimal n) (codes ":0] " ++ tail) (length (decimal n)) refl

letter_behind : (n : ℕ) (tail : List ℕ) → n < 2 ^ 64 → named_letter (codes "  reg [" ++ (decimal n ++ (codes ":0] " ++ tail))) ≡ next tail
letter_behind n tail few = ap (λ (t : List ℕ). next (drop 4 t)) (hole_passed n tail few)

pub memory_ahead : (m : ℕ) (memory : Memory) (rest : List ℕ) → memory.width ≤ 128 → is_memory_line (memory_line m memory ++ rest) ≡ true
memory_ahead m memory rest small =
    let few : memory.width - 1 < 2 ^ 64 = omega (arith, small) in
    ap is_memory_line (memory_shape m memory rest)
    ∙ ap (λ (o : Option ℕ). is_next (codes "m") o) (letter_behind (memory.width - 1) (codes "m" ++ (decimal m ++ (codes " [0:" ++ (decimal (2 ^ memory.address_bits - 1) ++ (codes "];\n" ++ rest))))) few)

no_memory_as : (ports : List PortLine) (n : ℕ) (line : Line) (rest : List ℕ) → line.width ≤ 128 → (b : Bool) → is_register line.equation ≡ b → is_memory_line (net_line ports n line ++ rest) ≡ false
no_memory_as ports n line rest small true is =
    let few : line.width - 1 < 2 ^ 64 = omega (arith, small) in
    ap (λ (t : List ℕ). is_memory_line (t ++ rest)) (net_register ports n line is) ∙ ap is_memory_line (register_shape n line.width rest)
    ∙ ap (λ (o : Option ℕ). is_next (codes "m") o) (letter_behind (line.width - 1) (codes "n" ++ (decimal n ++ (codes ";\n" ++ rest))) few)
no_memory_as ports n line rest small false is =
    let third_is : (third (net_line ports n line ++ rest) == 114) ≡ false = ap (λ (b : ℕ). b == 114) (wire_third ports n line rest is) in
    no_memory_ahead (net_line ports n line ++ rest) (third_differs 114 (net_line ports n line ++ rest) third_is)

pub no_memory_line : (ports : List PortLine) (n : ℕ) (line : Line) (rest : List ℕ) → line.width ≤ 128 → is_memory_line (net_line ports n line ++ rest) ≡ false
no_memory_line ports n line rest small = no_memory_as ports n line rest small (is_register line.equation) refl

-- the lines as they stand before any clocked line

abbrev pub bare_line : ℕ → Line → Line
bare_line n line = if is_register line.equation then untold n line.width else line

abbrev pub bare : ℕ → List Line → List Line
bare n [] = []
bare n (line ∷ lines) = bare_line n line ∷ bare (n + 1) lines

abbrev pub blank_of : Memory → Memory
blank_of memory = memory_with memory.width memory.address_bits

abbrev pub blank : List Memory → List Memory
blank [] = []
blank (memory ∷ memories) = blank_of memory ∷ blank memories

pub still_bare : (n : ℕ) (line : Line) → is_register line.equation ≡ false → bare_line n line ≡ line
still_bare n line e = rw e refl

pub bare_length : (n : ℕ) (lines : List Line) → length (bare n lines) ≡ length lines
bare_length n [] = refl
bare_length n (line ∷ lines) = ap suc (bare_length (n + 1) lines)

pub blank_length : (memories : List Memory) → length (blank memories) ≡ length memories
blank_length [] = refl
blank_length (memory ∷ memories) = ap suc (blank_length memories)

pub width_same_as : (n : ℕ) (line : Line) (b : Bool) → is_register line.equation ≡ b → (bare_line n line).width ≡ line.width
width_same_as n line true e = rw e refl
width_same_as n line false e = rw e refl

pub bare_width : (n : ℕ) (lines : List Line) (a : ℕ) → width_at (bare n lines) a ≡ width_at lines a
bare_width n [] a = refl
bare_width n (line ∷ lines) zero = ap (λ (w : ℕ). Some w) (width_same_as n line (is_register line.equation) refl)
bare_width n (line ∷ lines) (suc a) = bare_width (n + 1) lines a

pub bare_at : (n : ℕ) (lines : List Line) (k : ℕ) (x : Line) → slice_get (bare n lines) k ≡ Some x → (line : Line) × (slice_get lines k ≡ Some line) × (bare_line (n + k) line ≡ x)
bare_at n [] k x e = none_same x e
bare_at n (line ∷ lines) zero x e =
    let here : n + 0 ≡ n = omega arith in
    (line, refl, ap (λ (m : ℕ). bare_line m line) here ∙ some_same (bare_line n line) x e)
bare_at n (line ∷ lines) (suc k) x e =
    let more = bare_at (n + 1) lines k x e in
    let there : n + suc k ≡ (n + 1) + k = omega arith in
    (more.0, more.1, ap (λ (m : ℕ). bare_line m more.0) there ∙ more.2)

pub at_bare : (n : ℕ) (lines : List Line) (k : ℕ) (line : Line) → slice_get lines k ≡ Some line → slice_get (bare n lines) k ≡ Some (bare_line (n + k) line)
at_bare n [] k line e = none_same line e
at_bare n (x ∷ lines) zero line e =
    let here : n ≡ n + 0 = omega arith in
    ap (λ (l : Line). Some (bare_line n l)) (some_same x line e) ∙ ap (λ (m : ℕ). Some (bare_line m line)) here
at_bare n (x ∷ lines) (suc k) line e =
    let there : (n + 1) + k ≡ n + suc k = omega arith in
    at_bare (n + 1) lines k line e ∙ ap (λ (m : ℕ). Some (bare_line m line)) there

pub blank_at : (memories : List Memory) (m : ℕ) (memory : Memory) → slice_get memories m ≡ Some memory → slice_get (blank memories) m ≡ Some (blank_of memory)
blank_at [] m memory e = none_same memory e
blank_at (x ∷ memories) zero memory e = ap (λ (y : Memory). Some (blank_of y)) (some_same x memory e)
blank_at (x ∷ memories) (suc m) memory e = blank_at memories m memory e

pub at_blank : (memories : List Memory) (m : ℕ) (x : Memory) → slice_get (blank memories) m ≡ Some x → (memory : Memory) × (slice_get memories m ≡ Some memory) × (blank_of memory ≡ x)
at_blank [] m x e = none_same x e
at_blank (memory ∷ memories) zero x e = (memory, refl, some_same (blank_of memory) x e)
at_blank (memory ∷ memories) (suc m) x e = at_blank memories m x e

-- their texts are those of the module

net_line_same : (ports : List PortLine) (n : ℕ) (line : Line) (b : Bool) → is_register line.equation ≡ b → net_line ports n (bare_line n line) ≡ net_line ports n line
net_line_same ports n line true e = rw e refl
net_line_same ports n line false e = ap (net_line ports n) (still_bare n line e)

pub bare_text : (ports : List PortLine) (n : ℕ) (lines : List Line) → nets_text ports n (bare n lines) ≡ nets_text ports n lines
bare_text ports n [] = refl
bare_text ports n (line ∷ lines) =
    ap (λ (t : List ℕ). t ++ nets_text ports (n + 1) (bare (n + 1) lines)) (net_line_same ports n line (is_register line.equation) refl) ∙ ap (λ (t : List ℕ). net_line ports n line ++ t) (bare_text ports (n + 1) lines)

pub blank_text : (m : ℕ) (memories : List Memory) → memories_text m (blank memories) ≡ memories_text m memories
blank_text m [] = refl
blank_text m (memory ∷ memories) = ap (λ (t : List ℕ). memory_line m memory ++ t) (blank_text (m + 1) memories)

pub nets_text-append : (ports : List PortLine) (n : ℕ) (xs ys : List Line) → nets_text ports n (xs ++ ys) ≡ nets_text ports n xs ++ nets_text ports (n + length xs) ys
nets_text-append ports n [] ys = let here : n ≡ n + 0 = omega arith in ap (λ (k : ℕ). nets_text ports k ys) here
nets_text-append ports n (x ∷ xs) ys =
    let there : (n + 1) + length xs ≡ n + suc (length xs) = omega arith in
    ap (λ (t : List ℕ). net_line ports n x ++ t) (nets_text-append ports (n + 1) xs ys ∙ ap (λ (k : ℕ). nets_text ports (n + 1) xs ++ nets_text ports k ys) there)
    ∙ sym (append_assoc (net_line ports n x) (nets_text ports (n + 1) xs) (nets_text ports (n + suc (length xs)) ys))

-- an equation among the lines before it, and among other lists that agree there

abbrev pub Agree : List Line → List Line → ℕ → Type 0
Agree lines others n = (a w : ℕ) → a < n → width_at lines a ≡ Some w → width_at others a ≡ Some w

pub record SameMemory (others : List Memory) (m : ℕ) (memory : Memory) : Type 0 where
  pub other : Memory
  pub is : slice_get others m ≡ Some other
  pub width : other.width ≡ memory.width
  pub bits : other.address_bits ≡ memory.address_bits

abbrev pub AgreeOnMemories : List Memory → List Memory → Type 0
AgreeOnMemories memories others = (m : ℕ) (memory : Memory) → slice_get memories m ≡ Some memory → SameMemory others m memory

operand_moved : (lines others : List Line) (n a w : ℕ) → Agree lines others n → IsOperand lines n a w → IsOperand others n a w
operand_moved lines others n a w agree o = record { below = o.below; width = agree a w o.below o.width }

operands_moved : (lines others : List Line) (n a b w : ℕ) → Agree lines others n → AreOperands lines n a b w → AreOperands others n a b w
operands_moved lines others n a b w agree o = record { left = operand_moved lines others n a w agree o.left; right = operand_moved lines others n b w agree o.right }

pub sound_moved : (ports : List PortLine) (memories stored : List Memory) (lines others : List Line) (n w : ℕ) (e : Equation) → Agree lines others n → AgreeOnMemories memories stored → IsSound ports memories lines n w e → IsSound ports stored others n w e
sound_moved ports memories stored lines others n w (Input port) agree same s = s
sound_moved ports memories stored lines others n w (Constant value) agree same s = s
sound_moved ports memories stored lines others n w (And a b) agree same s = operands_moved lines others n a b w agree s
sound_moved ports memories stored lines others n w (Or a b) agree same s = operands_moved lines others n a b w agree s
sound_moved ports memories stored lines others n w (Xor a b) agree same s = operands_moved lines others n a b w agree s
sound_moved ports memories stored lines others n w (Add a b) agree same s = operands_moved lines others n a b w agree s
sound_moved ports memories stored lines others n w (Sub a b) agree same s = operands_moved lines others n a b w agree s
sound_moved ports memories stored lines others n w (Eq a b) agree same s = record { width = s.width; operands = operands_moved lines others n a b s.width agree s.operands; one_bit = s.one_bit }
sound_moved ports memories stored lines others n w (Less a b) agree same s = record { width = s.width; operands = operands_moved lines others n a b s.width agree s.operands; one_bit = s.one_bit }
sound_moved ports memories stored lines others n w (Concat a b) agree same s =
    record { high_width = s.high_width; low_width = s.low_width; high = operand_moved lines others n a s.high_width agree s.high; low = operand_moved lines others n b s.low_width agree s.low; sum = s.sum }
sound_moved ports memories stored lines others n w (Not a) agree same s = operand_moved lines others n a w agree s
sound_moved ports memories stored lines others n w (Any a) agree same s = record { width = s.width; operand = operand_moved lines others n a s.width agree s.operand; one_bit = s.one_bit }
sound_moved ports memories stored lines others n w (Mux t a b) agree same s = record { test = operand_moved lines others n t 1 agree s.test; branches = operands_moved lines others n a b w agree s.branches }
sound_moved ports memories stored lines others n w (Slice a high low) agree same s =
    record { width = s.width; operand = operand_moved lines others n a s.width agree s.operand; order = s.order; inside = s.inside; bits = s.bits }
sound_moved ports memories stored lines others n w (Reg reset next) agree same s = s
sound_moved ports memories stored lines others n w (Read m a) agree same s =
    let there = same m s.memory s.is in
    record { memory = there.other; is = there.is; width = there.width ∙ s.width; address = subst (λ (v : ℕ). IsOperand others n a v) (sym there.bits) (operand_moved lines others n a s.memory.address_bits agree s.address) }

pub to_blank : (memories : List Memory) → AgreeOnMemories memories (blank memories)
to_blank memories m memory e = record { other = blank_of memory; is = blank_at memories m memory e; width = refl; bits = refl }

pub from_blank : (memories : List Memory) → AgreeOnMemories (blank memories) memories
from_blank memories m x e =
    let found = at_blank memories m x e in
    record { other = found.0; is = found.1; width = ap (λ (y : Memory). y.width) found.2; bits = ap (λ (y : Memory). y.address_bits) found.2 }
