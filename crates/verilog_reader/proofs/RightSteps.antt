-- What right sides find, part after part.
use Rattle.std.proofs.Common.{◌≡◌, ℕ, ◌+◌, ◌==◌, Bool, true, false, List, length, slice_get, Option, Some, refl, sym, ap, ◌∙◌, codes}
use Rattle.std.specs.Prelude.{if◌then◌else◌}
use Rattle.std.specs.Char.{is_digit}
use Rattle.std.proofs.lemmas.Bool.{ne_eqb, eqb-true}
use Rattle.netlist.specs.declared.line.Equation.{Equation}
use Rattle.netlist.specs.declared.line.Equation.TheVariants.{And, Or, Xor, Add, Sub, Concat, Not, Any as Any_of, Mux, Slice, Read}
use Rattle.netlist.specs.declared.line.Line.{Line}
use Rattle.netlist.specs.declared.line.Memory.{Memory}
use Rattle.verilog_forms.specs.declared.rule.Rule.{Rule}
use Rattle.verilog_forms.specs.declared.rule.Rule.TheVariants.{OtherByte, Width}
use Rattle.verilog_reader.specs.declared.spot.Spot.{Spot}
use Rattle.verilog_reader.specs.declared.holes.Wanted.{Wanted}
use Rattle.verilog_reader.specs.declared.holes.Wanted.TheVariants.{Any, Exactly, Behind}
use Rattle.verilog_forms.specs.Forms.{Form, next, fixed}
use Rattle.verilog_reader.specs.Spots.{found, ahead_of, fixed_from, refused, Takes}
use Rattle.verilog_forms.specs.RightSides.{guarded, value_of, net_of, width_of, bits_of, fit_any, constant_form, operand_test, operand, second, choice_form, sign_form, slice_form, behind_form, memory_test, read_form, concat_form, begun_form}
use Rattle.verilog_reader.specs.declared.operators.Infix.{Infix}
use Rattle.verilog_reader.specs.declared.operators.Infix.TheVariants as op
use Rattle.verilog_reader.specs.Operators.{first_byte, operation_form}
use Rattle.verilog_reader.specs.Holes.{fits, high_bound, low_bound, TakesOperand}
use Rattle.verilog_reader.proofs.Steps.{fixed_found, taken_found, turn_found, refuse_found}

pub operand_found : {A : Type 0} (lines : List Line) (wanted : Wanted) (form : ℕ → Form A) (text : List ℕ) (spot : Spot) (net : ℕ) (behind : Spot) → TakesOperand lines wanted text spot net behind
    → found (operand lines (length lines) (fits wanted) form) text spot ≡ found (form net) text behind
operand_found lines wanted form text spot net behind t = taken_found (operand_test lines (length lines) (fits wanted)) net_of form text spot net behind t

pub second_found : (lines : List Line) (wanted : Wanted) (sign : List ℕ) (make : ℕ → Equation) (text : List ℕ) (spot behind : Spot) (b : ℕ) (end : Spot) → behind ≡ fixed_from sign text spot → TakesOperand lines wanted text behind b end
    → found (second lines (length lines) sign (fits wanted) make) text spot ≡ found (Form.whole (make b)) text end
second_found lines wanted sign make text spot behind b end s t =
    fixed_found sign (operand lines (length lines) (fits wanted) (λ x. Form.whole (make x))) text spot behind s ∙ operand_found lines wanted (λ x. Form.whole (make x)) text behind b end t

-- a form behind a test that holds, and one that is refused
pub guarded_found : {A : Type 0} (t : Bool) (rule : Rule) (form : Form A) (text : List ℕ) (spot : Spot) → t ≡ true → found (guarded t rule form) text spot ≡ found form text spot
guarded_found t rule form text spot e = ap (λ (b : Bool). found (guarded b rule form) text spot) e

pub guarded_refused : {A : Type 0} (t : Bool) (rule : Rule) (form other : Form A) (text : List ℕ) (spot end : Spot) → t ≡ false → end ≡ refused rule spot → found (guarded t rule form) text spot ≡ found other text end
guarded_refused t rule form other text spot end e r = ap (λ (b : Bool). found (guarded b rule form) text spot) e ∙ refuse_found rule other text spot end r

pub choice_found : (lines : List Line) (w s : ℕ) (text : List ℕ) (spot asked : Spot) (a : ℕ) (chosen colon : Spot) (b : ℕ) (end : Spot) → (width_of lines s == 1) ≡ true → asked ≡ fixed_from (codes "? ") text spot
    → TakesOperand lines (Exactly w) text asked a chosen → colon ≡ fixed_from (codes " : ") text chosen → TakesOperand lines (Exactly w) text colon b end
    → found (guarded (width_of lines s == 1) Width (choice_form lines (length lines) w s)) text spot ≡ found (Form.whole (Mux s a b)) text end
choice_found lines w s text spot asked a chosen colon b end bit sign first mark last =
    let n = length lines in
    let later = λ (x : ℕ). (fixed (codes " : ") (operand lines n (λ v. v == w) (λ y. Form.whole (Mux s x y)))) in
    guarded_found (width_of lines s == 1) Width (choice_form lines n w s) text spot bit
    ∙ fixed_found (codes "? ") (operand lines n (λ v. v == w) later) text spot asked sign
    ∙ operand_found lines (Exactly w) later text asked a chosen first
    ∙ fixed_found (codes " : ") (operand lines n (λ v. v == w) (λ y. Form.whole (Mux s a y))) text chosen colon mark
    ∙ operand_found lines (Exactly w) (λ y. Form.whole (Mux s a y)) text colon b end last

-- a slice

pub slice_found : (lines : List Line) (w a wide : ℕ) (text : List ℕ) (spot opened : Spot) (high : ℕ) (ranged colon : Spot) (low : ℕ) (closed end : Spot) → wide ≡ width_of lines a → opened ≡ fixed_from (codes "[") text spot
    → Takes (high_bound wide) value_of text opened high ranged → colon ≡ fixed_from (codes ":") text ranged → Takes (low_bound high w) value_of text colon low closed → end ≡ fixed_from (codes "]") text closed
    → found (slice_form lines w a) text spot ≡ found (Form.whole (Slice a high low)) text end
slice_found lines w a wide text spot opened high ranged colon low closed end is bracket first mark last ends =
    let bottom = λ (h l : ℕ). (fixed (codes "]") (Form.whole (Slice a h l))) in
    let lower = λ (h : ℕ). (Form.hole (low_bound h w) (λ run. bottom h (value_of run))) in
    let upper = λ (h : ℕ). (fixed (codes ":") (lower h)) in
    let begun = λ (v : ℕ). (fixed (codes "[") (Form.hole (high_bound v) (λ run. upper (value_of run)))) in
    ap (λ (v : ℕ). found (begun v) text spot) (sym is)
    ∙ fixed_found (codes "[") (Form.hole (high_bound wide) (λ run. upper (value_of run))) text spot opened bracket
    ∙ taken_found (high_bound wide) value_of upper text opened high ranged first
    ∙ fixed_found (codes ":") (lower high) text ranged colon mark
    ∙ taken_found (low_bound high w) value_of (bottom high) text colon low closed last
    ∙ fixed_found (codes "]") (Form.whole (Slice a high low)) text closed end ends

pub concat_found : (lines : List Line) (w high : ℕ) (text : List ℕ) (spot opened : Spot) (a : ℕ) (first comma : Spot) (b : ℕ) (last end : Spot) → high ≡ width_of lines a → opened ≡ fixed_from (codes "{") text spot
    → TakesOperand lines Any text opened a first → comma ≡ fixed_from (codes ", ") text first → TakesOperand lines (Behind high w) text comma b last → end ≡ fixed_from (codes "}") text last
    → found (concat_form lines (length lines) w) text spot ≡ found (Form.whole (Concat a b)) text end
concat_found lines w high text spot opened a first comma b last end is brace upper mark lower ends =
    let n = length lines in
    let bottom = λ (x y : ℕ). (fixed (codes "}") (Form.whole (Concat x y))) in
    let later = λ (h x : ℕ). (operand lines n (λ v. h + v == w) (bottom x)) in
    fixed_found (codes "{") (operand lines n (fits Any) (λ x. fixed (codes ", ") (later (width_of lines x) x))) text spot opened brace
    ∙ operand_found lines Any (λ x. fixed (codes ", ") (later (width_of lines x) x)) text opened a first upper
    ∙ fixed_found (codes ", ") (later (width_of lines a) a) text first comma mark
    ∙ ap (λ (h : ℕ). found (later h a) text comma) (sym is)
    ∙ operand_found lines (Behind high w) (bottom a) text comma b last lower
    ∙ fixed_found (codes "}") (Form.whole (Concat a b)) text last end ends

pub word_found : (memories : List Memory) (lines : List Line) (w bits : ℕ) (text : List ℕ) (spot lettered : Spot) (m : ℕ) (named opened : Spot) (a : ℕ) (behind end : Spot) → bits ≡ bits_of (slice_get memories m)
    → lettered ≡ fixed_from (codes "m") text spot → Takes (memory_test memories w) value_of text lettered m named → opened ≡ fixed_from (codes "[") text named → TakesOperand lines (Exactly bits) text opened a behind
    → end ≡ fixed_from (codes "]") text behind → found (read_form memories lines (length lines) w) text spot ≡ found (Form.whole (Read m a)) text end
word_found memories lines w bits text spot lettered m named opened a behind end is letter number bracket address ends =
    let n = length lines in
    let bottom = λ (k x : ℕ). (fixed (codes "]") (Form.whole (Read k x))) in
    let inner = λ (v k : ℕ). (operand lines n (λ u. u == v) (bottom k)) in
    let later = λ (k : ℕ). (fixed (codes "[") (inner (bits_of (slice_get memories k)) k)) in
    fixed_found (codes "m") (Form.hole (memory_test memories w) (λ run. later (value_of run))) text spot lettered letter
    ∙ taken_found (memory_test memories w) value_of later text lettered m named number
    ∙ fixed_found (codes "[") (inner (bits_of (slice_get memories m)) m) text named opened bracket
    ∙ ap (λ (v : ℕ). found (inner v m) text opened) (sym is)
    ∙ operand_found lines (Exactly bits) (bottom m) text opened a behind address
    ∙ fixed_found (codes "]") (Form.whole (Read m a)) text behind end ends

-- the next byte is this one
pub turn_at : {A : Type 0} (form : Option ℕ → Form A) (text : List ℕ) (spot : Spot) (b k : ℕ) → b ≡ k → Some b ≡ next (ahead_of text spot) → found (Form.turn form) text spot ≡ found (form (Some k)) text spot
turn_at form text spot b k is stands = turn_found form text spot (Some k) (ap (λ (x : ℕ). Some x) (sym is) ∙ stands)

pub other_sign : (lines : List Line) (n w a b : ℕ) → (b ≡ 38 → ⊥) → (b ≡ 124 → ⊥) → (b ≡ 94 → ⊥) → (b ≡ 43 → ⊥) → (b ≡ 45 → ⊥) → (b ≡ 61 → ⊥) → (b ≡ 60 → ⊥) → (b ≡ 63 → ⊥)
    → sign_form lines n w a (Some b) ≡ Form.refuse OtherByte
other_sign lines n w a b e f g h i j k l = rw (ne_eqb b 38 e, ne_eqb b 124 f, ne_eqb b 94 g, ne_eqb b 43 h, ne_eqb b 45 i, ne_eqb b 61 j, ne_eqb b 60 k, ne_eqb b 63 l) refl

pub other_behind : (lines : List Line) (n w a b : ℕ) → (b ≡ 91 → ⊥) → behind_form lines n w a (Some b) ≡ fixed (codes " ") (Form.turn (sign_form lines n w a))
other_behind lines n w a b e = rw (ne_eqb b 91 e) refl

no_other : (memories : List Memory) (lines : List Line) (n w b : ℕ) → (b == 126) ≡ false → (b == 124) ≡ false → (b == 123) ≡ false → (b == 110) ≡ false → (b == 109) ≡ false
    → (if b == 126 then fixed (codes "~") (operand lines n (λ v. v == w) (λ a. Form.whole (Not a))) else if b == 124 then guarded (w == 1) Width (fixed (codes "|") (operand lines n fit_any (λ a. Form.whole (Any_of a))))
    else if b == 123 then concat_form lines n w else if b == 110 then operand lines n fit_any (λ a. Form.turn (behind_form lines n w a)) else if b == 109 then read_form memories lines n w else Form.refuse OtherByte) ≡ Form.refuse OtherByte
no_other memories lines n w b e f g h i = rw (e, f, g, h, i) refl

-- where no other right side begins, a constant has to
pub other_begun : (memories : List Memory) (lines : List Line) (n w b : ℕ) → (b ≡ 126 → ⊥) → (b ≡ 124 → ⊥) → (b ≡ 123 → ⊥) → (b ≡ 110 → ⊥) → (b ≡ 109 → ⊥)
    → begun_form memories lines n w (Some b) ≡ (if is_digit b 10 then constant_form w else Form.refuse OtherByte)
other_begun memories lines n w b e f g h i =
    ap (λ (form : Form Equation). if is_digit b 10 then constant_form w else form) (no_other memories lines n w b (ne_eqb b 126 e) (ne_eqb b 124 f) (ne_eqb b 123 g) (ne_eqb b 110 h) (ne_eqb b 109 i))

-- operators between two operands: their second operand is as wide as the first

widths_agree : {A : Type 0} (form : ℕ → Form A) (v w : ℕ) → guarded (v == w) Width (form w) ≡ guarded (v == w) Width (form v)
widths_agree form v w = by (v == w) refl
  where
    by : (t : Bool) → (v == w) ≡ t → guarded t Width (form w) ≡ guarded t Width (form v)
    by true e = ap (λ (u : ℕ). guarded true Width (form u)) (sym (eqb-true v w e))
    by false e = refl

pub sign_is : (lines : List Line) (n w a : ℕ) (operator : Infix) → sign_form lines n w a (Some (first_byte operator)) ≡ operation_form lines n w a operator (width_of lines a)
sign_is lines n w a op.And = widths_agree (λ (v : ℕ). second lines n (codes "& ") (λ u. u == v) (And a)) (width_of lines a) w
sign_is lines n w a op.Or = widths_agree (λ (v : ℕ). second lines n (codes "| ") (λ u. u == v) (Or a)) (width_of lines a) w
sign_is lines n w a op.Xor = widths_agree (λ (v : ℕ). second lines n (codes "^ ") (λ u. u == v) (Xor a)) (width_of lines a) w
sign_is lines n w a op.Add = widths_agree (λ (v : ℕ). second lines n (codes "+ ") (λ u. u == v) (Add a)) (width_of lines a) w
sign_is lines n w a op.Sub = widths_agree (λ (v : ℕ). second lines n (codes "- ") (λ u. u == v) (Sub a)) (width_of lines a) w
sign_is lines n w a op.Eq = refl
sign_is lines n w a op.Less = refl
