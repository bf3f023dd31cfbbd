-- A sound right side is read.
use Rattle.std.proofs.Common.{◌≡◌, ◌≢◌, ℕ, zero, suc, ◌+◌, ◌/◌, ◌==◌, ◌<◌, ◌≤◌, ◌^◌, ◌&&◌, ◌||◌, ◌%◌, inl, inr, Bool, true, false, not, List, [], ◌∷◌, ◌++◌, length, get_or, slice_get, Option, Some, None, refl, sym, ap, subst, ◌∙◌, arith, codes, decimal, append_assoc}
use Rattle.std.specs.Prelude.{nat_lt}
use Rattle.std.specs.List.{list_all}
use Rattle.std.specs.Char.{digit_value}
use Rattle.std.specs.Int.{is_in_range}
use Rattle.std.specs.Str.Parse.{digits_value}
use Rattle.std.proofs.lemmas.Bool.{eq-eqb, ne_eqb, lt-ltb, le-ltb, le-leb, ltb-true, and_parts, cases_lt}
use Rattle.std.proofs.lemmas.List.{append-nil}
use Rattle.std.proofs.lemmas.List.Folds.{list_all-append}
use Rattle.std.proofs.lemmas.Str.Parse.{digit_from_value}
use Rattle.std.proofs.lemmas.Fmt.{decimal_is_IsNumeral, decimal_digit, decimal_nonempty, first_decimal}
use Rattle.std.proofs.lemmas.Option.{slice_get_within}
use Rattle.av_base.specs.Word.{IsWord}
use Rattle.netlist.specs.declared.line.Equation.{Equation}
use Rattle.netlist.specs.declared.line.Equation.TheVariants.{Input, Constant, And, Or, Xor, Add, Sub, Eq, Less, Concat, Not, Any, Mux, Slice, Reg, Read}
use Rattle.netlist.specs.declared.line.Line.{Line}
use Rattle.netlist.specs.declared.line.PortLine.{PortLine}
use Rattle.netlist.specs.declared.line.Memory.{Memory}
use Rattle.netlist.specs.Netlists.{Netlist, IsWellMade, width_at, IsOperand, AreOperands, IsComparison, IsConcatenation, IsAnyOf, IsChoice, IsSliceOf, IsReadOf, IsSound, is_input, is_register}
use Rattle.verilog_writer.specs.Text.{hex_digit, hex_digits, net_name, memory_name, infix_text, right_text, constant_text}
use Rattle.verilog_forms.specs.declared.rule.Rule.{Rule}
use Rattle.verilog_forms.specs.declared.rule.Rule.TheVariants.{Width, Spelling, NotThere, Bounds}
use Rattle.verilog_forms.specs.Forms.{is_hole_byte, next, Form, fixed, ends_hole, IsHole, Due, Reads}
use Rattle.verilog_forms.specs.RightSides.{unless, guarded, same_bytes, value_of, well_led, is_number, net_of, is_net, or_zero, width_of, fit_any, operand_test, operand, second, choice_form, sign_form, behind_form, constant_form, is_constant, words_of, bits_of, memory_test, begun_form, right_form, Here}
use Rattle.verilog_forms.proofs.Nets.{width_at-line}
use Rattle.verilog_forms.proofs.Cuts.{first}
use Rattle.verilog_forms.specs.Spellings.{digit, decimal_passes, true_false, same-refl, value-decimal, number_is}
use Rattle.verilog_forms.proofs.Rights.{hex_value, width_fits, first_digit}

or_last : (x : Bool) → (x || true) ≡ true
or_last true = refl
or_last false = refl

digit_byte : (b : ℕ) → 48 ≤ b → b ≤ 57 → is_hole_byte b ≡ true
digit_byte b lo hi = rw (le-leb 48 b lo, le-leb b 57 hi) refl

letter_byte : (b : ℕ) → 97 ≤ b → b ≤ 122 → is_hole_byte b ≡ true
letter_byte b lo hi =
    let low : is_in_range 97 122 b ≡ true = rw (le-leb 97 b lo, le-leb b 122 hi) refl in
    rw (low, or_last (is_in_range 48 57 b || is_in_range 65 90 b)) refl

digit_in_hole : (b : ℕ) → digit b ≡ true → is_hole_byte b ≡ true
digit_in_hole b h =
    let r = digit_from_value b (ltb-true (digit_value b) 10 h) in
    rw (le-leb 48 b r.0, le-leb b 57 r.1) refl

hex_in_hole : (d : ℕ) → d < 16 → is_hole_byte (hex_digit d) ≡ true
hex_in_hole d h =
    elim (cases_lt d 10) [
      | inl low ↦
          let is : hex_digit d ≡ 48 + d = rw (lt-ltb d 10 low) refl in
          ap is_hole_byte is ∙ digit_byte (48 + d) (omega arith) (omega (arith, low))
      | inr high ↦
          let is : hex_digit d ≡ 87 + d = rw (le-ltb d 10 high) refl in
          ap is_hole_byte is ∙ letter_byte (87 + d) (omega (arith, high)) (omega (arith, h))
    ]

hexes_in_hole : (count n : ℕ) → list_all is_hole_byte (hex_digits count n) ≡ true
hexes_in_hole zero n = refl
hexes_in_hole (suc count) n =
    let last : n % 16 < 16 = omega arith in
    list_all-append is_hole_byte (hex_digits count (n / 16)) (hex_digit (n % 16) ∷ []) ∙ rw (hexes_in_hole count (n / 16), hex_in_hole (n % 16) last) refl

digits_in_hole : (bs : List ℕ) → list_all digit bs ≡ true → list_all is_hole_byte bs ≡ true
digits_in_hole [] h = refl
digits_in_hole (b ∷ bs) h =
    let parts = and_parts (digit b) (list_all digit bs) h in
    rw (digit_in_hole b parts.0, digits_in_hole bs parts.1) refl

pub number_hole : (n : ℕ) (behind : List ℕ) → n < 2 ^ 64 → ends_hole behind ≡ true → IsHole (decimal n) behind
number_hole n behind h ends = record { bytes = digits_in_hole (decimal n) (decimal_passes n h); ends = ends }

pub net_hole : (n : ℕ) (behind : List ℕ) → n < 2 ^ 64 → ends_hole behind ≡ true → IsHole (net_name n) behind
net_hole n behind h ends = record { bytes = digits_in_hole (decimal n) (decimal_passes n h); ends = ends }

pub net_is : (n : ℕ) → n < 2 ^ 64 → is_net (net_name n) ≡ true
net_is n h = number_is n h

width_is : (lines : List Line) (a w : ℕ) → width_at lines a ≡ Some w → width_of lines a ≡ w
width_is lines a w e = ap or_zero e

-- net n stands where no more than so many nets can stand
pub record Operand (lines : List Line) (n : ℕ) (fits : ℕ → Bool) (a : ℕ) : Type 0 where
  pub small : a < 2 ^ 64
  pub below : a < n
  pub fit : fits (width_of lines a) ≡ true

operand_passes : (lines : List Line) (n : ℕ) (fits : ℕ → Bool) (a : ℕ) → Operand lines n fits a → operand_test lines n fits (net_name a) ≡ None
operand_passes lines n fits a o =
    ap (λ (t : Bool). unless t Spelling (unless (nat_lt (net_of (net_name a)) n) NotThere (unless (fits (width_of lines (net_of (net_name a)))) Width None))) (net_is a o.small)
    ∙ ap (λ (m : ℕ). unless (nat_lt m n) NotThere (unless (fits (width_of lines m)) Width None)) (value-decimal a o.small)
    ∙ ap (λ (t : Bool). unless t NotThere (unless (fits (width_of lines a)) Width None)) (lt-ltb a n o.below)
    ∙ ap (λ (t : Bool). unless t Width None) o.fit

pub operand_due : {A : Type 0} (due : Form A) (rest : List ℕ) (lines : List Line) (n : ℕ) (fits : ℕ → Bool) (form : ℕ → Form A) (a : ℕ) (front : List ℕ) → Operand lines n fits a → ends_hole (front ++ rest) ≡ true
    → Due due rest (form a) front → Due due rest (operand lines n fits form) (net_name a ++ front)
operand_due due rest lines n fits form a front o ends d =
    Due.hole (operand_test lines n fits) (λ run. form (net_of run)) (net_name a) (net_hole a (front ++ rest) o.small ends) (operand_passes lines n fits a o)
    (subst (λ (m : ℕ). Due due rest (form m) front) (sym (value-decimal a o.small)) d)

pub fixed_due : {A : Type 0} (due : Form A) (rest bs : List ℕ) (form : Form A) (front : List ℕ) → Due due rest form front → Due due rest (fixed bs form) (bs ++ front)
fixed_due due rest [] form front d = d
fixed_due due rest (b ∷ bs) form front d = Due.byte b (fixed_due due rest bs form front d)

guarded_due : {A : Type 0} (due : Form A) (rest : List ℕ) (t : Bool) (rule : Rule) (form : Form A) (front : List ℕ) → t ≡ true → Due due rest form front → Due due rest (guarded t rule form) front
guarded_due due rest t rule form front e d = subst (λ (u : Bool). Due due rest (guarded u rule form) front) (sym e) d

infix_front : (a s1 o s2 b : List ℕ) → a ++ s1 ++ o ++ s2 ++ b ≡ a ++ (s1 ++ ((o ++ s2) ++ (b ++ [])))
infix_front a s1 o s2 b = simp (append_assoc, append-nil)

-- an operator between two nets
infix_read : (memories : List Memory) (lines : List Line) (n w a b s : ℕ) (op : List ℕ) (test : Bool) (fits : ℕ → Bool) (make : ℕ → Equation) (rest : List ℕ)
    → Operand lines n fit_any a → Operand lines n fits b → ends_hole rest ≡ true → test ≡ true
    → sign_form lines n w a (Some s) ≡ guarded test Width (second lines n (s ∷ (op ++ codes " ")) fits make)
    → Reads (right_form memories lines n w) (infix_text a (s ∷ op) b ++ rest) (make b) rest
infix_read memories lines n w a b s op test fits make rest x y ends holds is =
    let due = Form.whole (make b) in
    let last = operand_due due rest lines n fits (λ m. Form.whole (make m)) b [] y ends Due.nothing in
    let sign = guarded_due due rest test Width (second lines n (s ∷ (op ++ codes " ")) fits make) _ holds (fixed_due due rest (s ∷ (op ++ codes " ")) _ _ last) in
    let turned = Due.byte 32 (Due.turn (sign_form lines n w a) (subst (λ (f : Form Equation). Due due rest f ((s ∷ (op ++ codes " ")) ++ (net_name b ++ []))) (sym is) sign)) in
    let first = operand_due due rest lines n fit_any (λ m. Form.turn (behind_form lines n w m)) a _ x refl (Due.turn (behind_form lines n w a) turned) in
    record {
      front = net_name a ++ (32 ∷ ((s ∷ (op ++ codes " ")) ++ (net_name b ++ [])));
      parts = ap (λ (t : List ℕ). t ++ rest) (infix_front (net_name a) (codes " ") (s ∷ op) (codes " ") (net_name b));
      good = Due.turn (begun_form memories lines n w) first;
    }

pub side : (lines : List Line) (n a v : ℕ) (fits : ℕ → Bool) → n < 2 ^ 64 → IsOperand lines n a v → fits v ≡ true → Operand lines n fits a
side lines n a v fits few o fit =
    record { small = omega (arith, o.below, few); below = o.below; fit = ap fits (width_is lines a v o.width) ∙ fit }

of_width : (lines : List Line) (a w : ℕ) → width_at lines a ≡ Some w → (width_of lines a == w) ≡ true
of_width lines a w e = eq-eqb (width_of lines a) w (width_is lines a w e)

-- an operator between two nets of the net's width
same_read : (memories : List Memory) (lines : List Line) (n w a b s : ℕ) (make : ℕ → Equation) (rest : List ℕ) → n < 2 ^ 64 → AreOperands lines n a b w → ends_hole rest ≡ true
    → sign_form lines n w a (Some s) ≡ guarded (width_of lines a == w) Width (second lines n (s ∷ codes " ") (λ v. v == w) make)
    → Reads (right_form memories lines n w) (infix_text a (s ∷ []) b ++ rest) (make b) rest
same_read memories lines n w a b s make rest few o ends is =
    infix_read memories lines n w a b s [] (width_of lines a == w) (λ v. v == w) make rest (side lines n a w fit_any few o.left refl) (side lines n b w (λ v. v == w) few o.right (eq-eqb w w refl)) ends
    (of_width lines a w o.left.width) is

-- and between two nets that are compared
compared_read : (memories : List Memory) (lines : List Line) (n w a b s : ℕ) (op : List ℕ) (make : ℕ → Equation) (rest : List ℕ) → n < 2 ^ 64 → IsComparison lines n w a b → ends_hole rest ≡ true
    → sign_form lines n w a (Some s) ≡ guarded (w == 1) Width (second lines n (s ∷ (op ++ codes " ")) (λ u. u == width_of lines a) make)
    → Reads (right_form memories lines n w) (infix_text a (s ∷ op) b ++ rest) (make b) rest
compared_read memories lines n w a b s op make rest few c ends is =
    let v : (c.width == width_of lines a) ≡ true = eq-eqb c.width (width_of lines a) (sym (width_is lines a c.width c.operands.left.width)) in
    infix_read memories lines n w a b s op (w == 1) (λ u. u == width_of lines a) make rest (side lines n a c.width fit_any few c.operands.left refl)
    (side lines n b c.width (λ u. u == width_of lines a) few c.operands.right v) ends (eq-eqb w 1 c.one_bit) is

not_read : (memories : List Memory) (lines : List Line) (n w a : ℕ) (rest : List ℕ) → n < 2 ^ 64 → IsOperand lines n a w → ends_hole rest ≡ true → Reads (right_form memories lines n w) ((codes "~" ++ net_name a) ++ rest) (Not a) rest
not_read memories lines n w a rest few o ends =
    let last = operand_due (Form.whole (Not a)) rest lines n (λ v. v == w) (λ m. Form.whole (Not m)) a [] (side lines n a w (λ v. v == w) few o (eq-eqb w w refl)) ends Due.nothing in
    record { front = 126 ∷ (net_name a ++ []); parts = ap (λ (t : List ℕ). 126 ∷ (t ++ rest)) (sym (append-nil (net_name a))); good = Due.turn (begun_form memories lines n w) (Due.byte 126 last) }

any_read : (memories : List Memory) (lines : List Line) (n w a : ℕ) (rest : List ℕ) → n < 2 ^ 64 → IsAnyOf lines n w a → ends_hole rest ≡ true → Reads (right_form memories lines n w) ((codes "|" ++ net_name a) ++ rest) (Any a) rest
any_read memories lines n w a rest few o ends =
    let due = Form.whole (Any a) in
    let last = operand_due due rest lines n fit_any (λ m. Form.whole (Any m)) a [] (side lines n a o.width fit_any few o.operand refl) ends Due.nothing in
    let sign = guarded_due due rest (w == 1) Width (Form.byte 124 (operand lines n fit_any (λ m. Form.whole (Any m)))) _ (eq-eqb w 1 o.one_bit) (Due.byte 124 last) in
    record { front = 124 ∷ (net_name a ++ []); parts = ap (λ (t : List ℕ). 124 ∷ (t ++ rest)) (sym (append-nil (net_name a))); good = Due.turn (begun_form memories lines n w) sign }

concat_front : (o a c b e : List ℕ) → o ++ a ++ c ++ b ++ e ≡ o ++ (a ++ (c ++ (b ++ e)))
concat_front o a c b e = simp append_assoc

concat_read : (memories : List Memory) (lines : List Line) (n w a b : ℕ) (rest : List ℕ) → n < 2 ^ 64 → IsConcatenation lines n w a b
    → Reads (right_form memories lines n w) ((codes "{" ++ net_name a ++ codes ", " ++ net_name b ++ codes "}") ++ rest) (Concat a b) rest
concat_read memories lines n w a b rest few c =
    let due = Form.whole (Concat a b) in
    let sum : (width_of lines a + c.low_width == w) ≡ true = eq-eqb _ w (ap (λ (v : ℕ). v + c.low_width) (width_is lines a c.high_width c.high.width) ∙ sym c.sum) in
    let closing : Due due rest (Form.byte 125 (Form.whole (Concat a b))) (125 ∷ []) = Due.byte 125 Due.nothing in
    let low = operand_due due rest lines n (λ v. width_of lines a + v == w) (λ m. Form.byte 125 (Form.whole (Concat a m))) b (125 ∷ []) (side lines n b c.low_width (λ v. width_of lines a + v == w) few c.low sum) refl closing in
    let high = operand_due due rest lines n fit_any (λ m. fixed (codes ", ") (operand lines n (λ v. width_of lines m + v == w) (λ k. Form.byte 125 (Form.whole (Concat m k))))) a _
    (side lines n a c.high_width fit_any few c.high refl) refl (fixed_due due rest (codes ", ") _ _ low) in
    record {
      front = 123 ∷ (net_name a ++ (codes ", " ++ (net_name b ++ (125 ∷ []))));
      parts = ap (λ (t : List ℕ). t ++ rest) (concat_front (codes "{") (net_name a) (codes ", ") (net_name b) (codes "}"));
      good = Due.turn (begun_form memories lines n w) (Due.byte 123 high);
    }

choice_front : (s q a c b : List ℕ) → s ++ q ++ a ++ c ++ b ≡ s ++ (q ++ (a ++ (c ++ (b ++ []))))
choice_front s q a c b = simp (append_assoc, append-nil)

choice_read : (memories : List Memory) (lines : List Line) (n w s a b : ℕ) (rest : List ℕ) → n < 2 ^ 64 → IsChoice lines n w s a b → ends_hole rest ≡ true
    → Reads (right_form memories lines n w) ((net_name s ++ codes " ? " ++ net_name a ++ codes " : " ++ net_name b) ++ rest) (Mux s a b) rest
choice_read memories lines n w s a b rest few c ends =
    let due = Form.whole (Mux s a b) in
    let last = operand_due due rest lines n (λ v. v == w) (λ m. Form.whole (Mux s a m)) b [] (side lines n b w (λ v. v == w) few c.branches.right (eq-eqb w w refl)) ends Due.nothing in
    let middle = operand_due due rest lines n (λ v. v == w) (λ m. fixed (codes " : ") (operand lines n (λ v. v == w) (λ k. Form.whole (Mux s m k)))) a _
    (side lines n a w (λ v. v == w) few c.branches.left (eq-eqb w w refl)) refl (fixed_due due rest (codes " : ") _ _ last) in
    let sign = guarded_due due rest (width_of lines s == 1) Width (choice_form lines n w s) _ (of_width lines s 1 c.test.width) (fixed_due due rest (codes "? ") _ _ middle) in
    let turned = Due.byte 32 (Due.turn (sign_form lines n w s) sign) in
    let first = operand_due due rest lines n fit_any (λ m. Form.turn (behind_form lines n w m)) s _ (side lines n s 1 fit_any few c.test refl) refl (Due.turn (behind_form lines n w s) turned) in
    record {
      front = net_name s ++ (codes " ? " ++ (net_name a ++ (codes " : " ++ (net_name b ++ []))));
      parts = ap (λ (t : List ℕ). t ++ rest) (choice_front (net_name s) (codes " ? ") (net_name a) (codes " : ") (net_name b));
      good = Due.turn (begun_form memories lines n w) first;
    }

pub number_passes : (k : ℕ) (t : ℕ → Bool) (rule : Rule) (later : ℕ → Option Rule) → k < 2 ^ 64 → t k ≡ true → unless (is_number (decimal k)) Spelling (unless (t (value_of (decimal k))) rule (later (value_of (decimal k)))) ≡ later k
number_passes k t rule later h holds =
    ap (λ (b : Bool). unless b Spelling (unless (t (value_of (decimal k))) rule (later (value_of (decimal k))))) (number_is k h)
    ∙ ap (λ (m : ℕ). unless (t m) rule (later m)) (value-decimal k h)
    ∙ ap (λ (b : Bool). unless b rule (later k)) holds

pub numbered_due : {A : Type 0} (due : Form A) (rest : List ℕ) (test : List ℕ → Option Rule) (form : ℕ → Form A) (k : ℕ) (front : List ℕ) → k < 2 ^ 64 → ends_hole (front ++ rest) ≡ true → test (decimal k) ≡ None
    → Due due rest (form k) front → Due due rest (Form.hole test (λ run. form (value_of run))) (decimal k ++ front)
numbered_due due rest test form k front h ends passes d =
    Due.hole test (λ run. form (value_of run)) (decimal k) (number_hole k (front ++ rest) h ends) passes (subst (λ (m : ℕ). Due due rest (form m) front) (sym (value-decimal k h)) d)

abbrev low_form : ℕ → ℕ → ℕ → Form Equation
low_form w a high =
    Form.byte 58 (Form.hole (λ run. unless (is_number run) Spelling (unless (value_of run + w == high + 1) Bounds None)) (λ low. Form.byte 93 (Form.whole (Slice a high (value_of low)))))

slice_front : (a o h c l e : List ℕ) → a ++ o ++ h ++ c ++ l ++ e ≡ a ++ (o ++ (h ++ (c ++ (l ++ e))))
slice_front a o h c l e = simp append_assoc

slice_read : (memories : List Memory) (lines : List Line) (n w a high low : ℕ) (rest : List ℕ) → Here memories lines n w → IsSliceOf lines n w a high low
    → Reads (right_form memories lines n w) ((net_name a ++ codes "[" ++ decimal high ++ codes ":" ++ decimal low ++ codes "]") ++ rest) (Slice a high low) rest
slice_read memories lines n w a high low rest here s =
    let due = Form.whole (Slice a high low) in
    let wide = here.small a s.width s.operand.width in
    let top : high < 2 ^ 64 = omega (arith, wide, s.inside) in
    let bottom : low < 2 ^ 64 = omega (arith, top, s.order) in
    let inside : nat_lt high (width_of lines a) ≡ true = lt-ltb high (width_of lines a) (omega (arith, s.inside, width_is lines a s.width s.operand.width)) in
    let count : low + w ≡ high + 1 = omega (arith, s.bits, s.order) in
    let closing : Due due rest (Form.byte 93 (Form.whole (Slice a high low))) (93 ∷ []) = Due.byte 93 Due.nothing in
    let lower = numbered_due due rest (λ run. unless (is_number run) Spelling (unless (value_of run + w == high + 1) Bounds None)) (λ m. Form.byte 93 (Form.whole (Slice a high m))) low (93 ∷ []) bottom refl
    (number_passes low (λ m. m + w == high + 1) Bounds (λ m. None) bottom (eq-eqb (low + w) (high + 1) count)) closing in
    let upper = numbered_due due rest (λ run. unless (is_number run) Spelling (unless (nat_lt (value_of run) (width_of lines a)) Bounds None)) (low_form w a) high _ top refl
    (number_passes high (λ m. nat_lt m (width_of lines a)) Bounds (λ m. None) top inside) (Due.byte 58 lower) in
    let turned = Due.turn (behind_form lines n w a) (Due.byte 91 upper) in
    let first = operand_due due rest lines n fit_any (λ m. Form.turn (behind_form lines n w m)) a _ (side lines n a s.width fit_any here.few s.operand refl) refl turned in
    record {
      front = net_name a ++ (91 ∷ (decimal high ++ (58 ∷ (decimal low ++ (93 ∷ [])))));
      parts = ap (λ (t : List ℕ). t ++ rest) (slice_front (net_name a) (codes "[") (decimal high) (codes ":") (decimal low) (codes "]"));
      good = Due.turn (begun_form memories lines n w) first;
    }

read_front : (m o a e : List ℕ) → m ++ o ++ a ++ e ≡ m ++ (o ++ (a ++ e))
read_front m o a e = simp append_assoc

abbrev address_form : List Memory → List Line → ℕ → ℕ → Form Equation
address_form memories lines n m = Form.byte 91 (operand lines n (λ v. v == bits_of (slice_get memories m)) (λ a. Form.byte 93 (Form.whole (Read m a))))

word_read : (memories : List Memory) (lines : List Line) (n w m a : ℕ) (rest : List ℕ) → Here memories lines n w → IsReadOf memories lines n w m a
    → Reads (right_form memories lines n w) ((memory_name m ++ codes "[" ++ net_name a ++ codes "]") ++ rest) (Read m a) rest
word_read memories lines n w m a rest here s =
    let due = Form.whole (Read m a) in
    let inside = slice_get_within memories m s.memory s.is in
    let small : m < 2 ^ 64 = omega (arith, inside, here.few_memories) in
    let words : (words_of (slice_get memories m) == w) ≡ true = eq-eqb _ w (ap words_of s.is ∙ s.width) in
    let bits : (s.memory.address_bits == bits_of (slice_get memories m)) ≡ true = eq-eqb s.memory.address_bits _ (sym (ap bits_of s.is)) in
    let closing : Due due rest (Form.byte 93 (Form.whole (Read m a))) (93 ∷ []) = Due.byte 93 Due.nothing in
    let address = operand_due due rest lines n (λ v. v == bits_of (slice_get memories m)) (λ k. Form.byte 93 (Form.whole (Read m k))) a (93 ∷ [])
    (side lines n a s.memory.address_bits (λ v. v == bits_of (slice_get memories m)) here.few s.address bits) refl closing in
    let number = numbered_due due rest (memory_test memories w) (address_form memories lines n) m _ small refl
    (number_passes m (λ k. nat_lt k (length memories)) NotThere (λ k. unless (words_of (slice_get memories k) == w) Width None) small (lt-ltb m (length memories) inside) ∙ ap (λ (b : Bool). unless b Width None) words)
    (Due.byte 91 address) in
    record {
      front = 109 ∷ (decimal m ++ (91 ∷ (net_name a ++ (93 ∷ []))));
      parts = ap (λ (t : List ℕ). t ++ rest) (read_front (memory_name m) (codes "[") (net_name a) (codes "]"));
      good = Due.turn (begun_form memories lines n w) (Due.byte 109 number);
    }

constant_turn : (memories : List Memory) (lines : List Line) (n w : ℕ) (t : List ℕ) → digit (first t) ≡ true → begun_form memories lines n w (next t) ≡ constant_form w
constant_turn memories lines n w [] h = absurd (true_false (sym h))
constant_turn memories lines n w (b ∷ bs) h = rw h refl

hex_passes : (w bits : ℕ) → IsWord w bits → is_constant w (hex_digits ((w + 3) / 4) bits) ≡ true
hex_passes w bits is =
    let value = hex_value ((w + 3) / 4) bits (width_fits w bits is.fits) in
    ap (λ (k : ℕ). same_bytes (hex_digits ((w + 3) / 4) bits) (hex_digits ((w + 3) / 4) k) && nat_lt k (2 ^ w)) value
    ∙ rw (same-refl (hex_digits ((w + 3) / 4) bits), lt-ltb bits (2 ^ w) is.fits) refl

pub constant_due : (w bits : ℕ) (rest : List ℕ) → IsWord w bits → ends_hole rest ≡ true
    → Due (Form.whole (Constant (record { width = w; bits = bits }))) rest (constant_form w) (decimal w ++ (codes "'h" ++ (hex_digits ((w + 3) / 4) bits ++ [])))
constant_due w bits rest is ends =
    let due : Form Equation = Form.whole (Constant (record { width = w; bits = bits })) in
    let small : w < 2 ^ 64 = omega (arith, is.small) in
    let hex = hex_digits ((w + 3) / 4) bits in
    let make = λ (k : ℕ). (let f : Form Equation = Form.whole (Constant (record { width = w; bits = k })) in f) in
    let value = hex_value ((w + 3) / 4) bits (width_fits w bits is.fits) in
    let done : Due due rest (make (digits_value 16 hex)) [] = subst (λ (k : ℕ). Due due rest (make k) []) (sym value) Due.nothing in
    let digits_due = Due.hole (λ run. unless (is_constant w run) Spelling None) (λ run. make (digits_value 16 run)) hex (record { bytes = hexes_in_hole ((w + 3) / 4) bits; ends = ends })
    (ap (λ (b : Bool). unless b Spelling None) (hex_passes w bits is)) done in
    let marked = fixed_due due rest (codes "'h") _ _ digits_due in
    numbered_due due rest (λ run. unless (is_number run) Spelling (unless (value_of run == w) Width None))
    (λ k. fixed (codes "'h") (Form.hole (λ run. unless (is_constant w run) Spelling None) (λ run. make (digits_value 16 run)))) w _ small refl
    (number_passes w (λ k. k == w) Width (λ k. None) small (eq-eqb w w refl)) marked

pub constant_front : (d h x : List ℕ) → d ++ h ++ x ≡ d ++ (h ++ (x ++ []))
constant_front d h x = simp (append_assoc, append-nil)

constant_read : (memories : List Memory) (lines : List Line) (n w bits : ℕ) (rest : List ℕ) → IsWord w bits → ends_hole rest ≡ true
    → Reads (right_form memories lines n w) (constant_text w bits ++ rest) (Constant (record { width = w; bits = bits })) rest
constant_read memories lines n w bits rest is ends =
    let due : Form Equation = Form.whole (Constant (record { width = w; bits = bits })) in
    let small : w < 2 ^ 64 = omega (arith, is.small) in
    let hex = hex_digits ((w + 3) / 4) bits in
    let number = constant_due w bits rest is ends in
    let tail = codes "'h" ++ (hex ++ []) in
    let begun : begun_form memories lines n w (next ((decimal w ++ tail) ++ rest)) ≡ constant_form w =
    constant_turn memories lines n w ((decimal w ++ tail) ++ rest) (ap (λ (t : List ℕ). digit (first t)) (append_assoc (decimal w) tail rest) ∙ first_digit w (tail ++ rest) small) in
    record {
      front = decimal w ++ tail;
      parts = ap (λ (t : List ℕ). t ++ rest) (constant_front (decimal w) (codes "'h") hex);
      good = Due.turn (begun_form memories lines n w) (subst (λ (f : Form Equation). Due due rest f (decimal w ++ tail)) (sym begun) number);
    }

pub right_read : (ports : List PortLine) (memories : List Memory) (lines : List Line) (n w : ℕ) (e : Equation) (rest : List ℕ) → Here memories lines n w → IsSound ports memories lines n w e
    → is_input e ≡ false → is_register e ≡ false → ends_hole rest ≡ true → Reads (right_form memories lines n w) (right_text ports e ++ rest) e rest
right_read ports memories lines n w (Input port) rest here s input register ends = absurd (true_false input)
right_read ports memories lines n w (Constant value) rest here s input register ends =
    subst (λ (v : ℕ). Reads (right_form memories lines n v) (constant_text value.width value.bits ++ rest) (Constant value) rest) s.width (constant_read memories lines n value.width value.bits rest s.word ends)
right_read ports memories lines n w (And a b) rest here s input register ends = same_read memories lines n w a b 38 (And a) rest here.few s ends refl
right_read ports memories lines n w (Or a b) rest here s input register ends = same_read memories lines n w a b 124 (Or a) rest here.few s ends refl
right_read ports memories lines n w (Xor a b) rest here s input register ends = same_read memories lines n w a b 94 (Xor a) rest here.few s ends refl
right_read ports memories lines n w (Add a b) rest here s input register ends = same_read memories lines n w a b 43 (Add a) rest here.few s ends refl
right_read ports memories lines n w (Sub a b) rest here s input register ends = same_read memories lines n w a b 45 (Sub a) rest here.few s ends refl
right_read ports memories lines n w (Eq a b) rest here s input register ends = compared_read memories lines n w a b 61 (61 ∷ []) (Eq a) rest here.few s ends refl
right_read ports memories lines n w (Less a b) rest here s input register ends = compared_read memories lines n w a b 60 [] (Less a) rest here.few s ends refl
right_read ports memories lines n w (Concat a b) rest here s input register ends = concat_read memories lines n w a b rest here.few s
right_read ports memories lines n w (Not a) rest here s input register ends = not_read memories lines n w a rest here.few s ends
right_read ports memories lines n w (Any a) rest here s input register ends = any_read memories lines n w a rest here.few s ends
right_read ports memories lines n w (Mux t a b) rest here s input register ends = choice_read memories lines n w t a b rest here.few s ends
right_read ports memories lines n w (Slice a high low) rest here s input register ends = slice_read memories lines n w a high low rest here s
right_read ports memories lines n w (Reg reset next) rest here s input register ends = absurd (true_false register)
right_read ports memories lines n w (Read m a) rest here s input register ends = word_read memories lines n w m a rest here s

-- where a net of a module stands
pub stands_here : (one : Netlist) (n : ℕ) (line : Line) → IsWellMade one → slice_get one.lines n ≡ Some line → Here one.memories one.lines n line.width
stands_here one n line h at =
    let inside = slice_get_within one.lines n line at in
    let sound = h.lines n line at in
    record {
      few = omega (arith, inside, h.few);
      room = omega (arith, inside);
      few_memories = h.few_memories;
      small = λ a v e. (let found = width_at-line one.lines a v e in let small = (h.lines a found.0 found.1).small in omega (arith, small, found.2));
      some_bit = sound.some_bit;
      bits = sound.small;
    }
