-- Hexadecimal digits in lower case, and the number that they spell.
use Rattle.std.proofs.Common.{◌≡◌, ℕ, zero, suc, ◌+◌, ◌*◌, ◌/◌, ◌%◌, ◌<◌, ◌≤◌, ◌^◌, ◌&&◌, Bool, true, false, List, [], ◌∷◌, ◌++◌, length, take, get_or, Some, None, inl, inr, refl, sym, ap, ◌∙◌, arith, codes, length-append}
use Rattle.std.specs.Prelude.{nat_lt}
use Rattle.std.specs.Char.{digit_value}
use Rattle.std.specs.Str.Parse.{digits_value}
use Rattle.std.proofs.lemmas.Bool.{lt-ltb, le-ltb, cases_lt}
use Rattle.std.proofs.lemmas.Int.Digits.{digits_value_more}
use Rattle.std.proofs.Math.Seq.{take-suc, get_or-append_seam}
use Rattle.std.proofs.Math.ListN.{get_or-append}
use Rattle.std.proofs.Math.Nat.{pow-suc, pow-le-pow_right}
use Rattle.av_base.specs.declared.value.Val.{Val}
use Rattle.netlist.specs.declared.line.Equation.{Equation}
use Rattle.netlist.specs.declared.line.Equation.TheVariants.{Constant}
use Rattle.verilog_writer.specs.Text.{hex_digit, hex_digits}
use Rattle.verilog_forms.specs.declared.rule.Rule.TheVariants.{Spelling}
use Rattle.verilog_forms.specs.RightSides.{same_bytes, is_constant, constant_form}
use Rattle.verilog_reader.specs.declared.spot.Spot.{Spot}
use Rattle.verilog_forms.specs.Forms.{Form, fixed}
use Rattle.verilog_reader.specs.Spots.{found, fixed_from, Takes}
use Rattle.verilog_reader.specs.Holes.{width_bound, hex_bound, constant_told}
use Rattle.verilog_reader.proofs.Steps.{fixed_found, hole_found, taken_found}
use Rattle.verilog_reader.proofs.Numbers.{unless_not, unless_so}
use Rattle.verilog_forms.specs.Spellings.{same-refl, same_equal}

pub length-hex_digits : (k n : ℕ) → length (hex_digits k n) ≡ k
length-hex_digits zero n = refl
length-hex_digits (suc k) n = length-append (hex_digits k (n / 16)) (hex_digit (n % 16) ∷ []) ∙ omega (arith, length-hex_digits k (n / 16))

-- one digit more
pub hexes_on : (run : List ℕ) (i v d : ℕ) → i < length run → v ≡ digits_value 16 (take i run) → hex_digits i v ≡ take i run → d < 16 → hex_digit d ≡ get_or run i 0 → digit_value (get_or run i 0) ≡ d
    → (v * 16 + d ≡ digits_value 16 (take (i + 1) run)) × (hex_digits (i + 1) (v * 16 + d) ≡ take (i + 1) run)
hexes_on run i v d inside value spelled small is told =
    let up : (v * 16 + d) / 16 ≡ v = omega (arith, small) in
    let low : (v * 16 + d) % 16 ≡ d = omega (arith, small) in
    let one : i + 1 ≡ suc i = omega arith in (
      ap (λ (x : ℕ). x * 16 + d) value ∙ ap (λ (x : ℕ). digits_value 16 (take i run) * 16 + x) (sym told) ∙ sym (digits_value_more 16 run i inside),
      ap (λ (k : ℕ). hex_digits k (v * 16 + d)) one ∙ ap (λ (x : ℕ). hex_digits i x ++ hex_digit ((v * 16 + d) % 16) ∷ []) up ∙ ap (λ (x : ℕ). hex_digits i v ++ hex_digit x ∷ []) low
          ∙ ap (λ (t : List ℕ). t ++ hex_digit d ∷ []) spelled ∙ ap (λ (b : ℕ). take i run ++ b ∷ []) is ∙ sym (take-suc run i 0 inside) ∙ ap (λ (k : ℕ). take k run) (sym one),
    )

-- each byte of such digits is one
hex_at : (k n i : ℕ) → i < k → (d : ℕ) × (d < 16) × (hex_digit d ≡ get_or (hex_digits k n) i 0)
hex_at zero n i inside = absurd (omega arith)
hex_at (suc k) n i inside =
    let front = hex_digits k (n / 16) in
    let last = hex_digit (n % 16) ∷ [] in
    let count = length-hex_digits k (n / 16) in
    elim (cases_lt i k) [
      | inl low ↦ let d = hex_at k (n / 16) i low in (d.0, d.1, d.2 ∙ sym (get_or-append front last 0 i (omega (arith, low, count))))
      | inr high ↦ let at : i ≡ length front = omega (arith, high, inside, count) in (n % 16, omega arith, sym (ap (λ (j : ℕ). get_or (front ++ last) j 0) at ∙ get_or-append_seam front (hex_digit (n % 16)) [] 0))
    ]

pub no_hexes : (run : List ℕ) (i n : ℕ) → i < length run → ((d : ℕ) → d < 16 → hex_digit d ≡ get_or run i 0 → ⊥) → hex_digits (length run) n ≡ run → ⊥
no_hexes run i n inside none e = let d = hex_at (length run) n i inside in none d.0 d.1 (d.2 ∙ ap (λ (t : List ℕ). get_or t i 0) e)

-- a constant's digits, by what they are

unspelled : (run : List ℕ) (k : ℕ) (t : Bool) → same_bytes run (hex_digits k (digits_value 16 run)) ≡ t → (run ≡ hex_digits k (digits_value 16 run) → ⊥) → t ≡ false
unspelled run k true e other = absurd (other (same_equal run (hex_digits k (digits_value 16 run)) e))
unspelled run k false e other = refl

pub other_digits_break : (w : ℕ) (run : List ℕ) → (run ≡ hex_digits ((w + 3) / 4) (digits_value 16 run) → ⊥) → hex_bound w run ≡ Some Spelling
other_digits_break w run other =
    let k = (w + 3) / 4 in
    let no = unspelled run k (same_bytes run (hex_digits k (digits_value 16 run))) refl other in
    unless_not (is_constant w run) Spelling None (ap (λ (t : Bool). t && nat_lt (digits_value 16 run) (2 ^ w)) no)

pub other_count_breaks : (w : ℕ) (run : List ℕ) → (length run ≡ (w + 3) / 4 → ⊥) → hex_bound w run ≡ Some Spelling
other_count_breaks w run other = other_digits_break w run (λ e. other (ap (λ (t : List ℕ). length t) e ∙ length-hex_digits ((w + 3) / 4) (digits_value 16 run)))

pub no_digits_break : (w : ℕ) (run : List ℕ) → length run ≡ (w + 3) / 4 → ((n : ℕ) → hex_digits (length run) n ≡ run → ⊥) → hex_bound w run ≡ Some Spelling
no_digits_break w run count none =
    other_digits_break w run (λ e. none (digits_value 16 run) (ap (λ (k : ℕ). hex_digits k (digits_value 16 run)) count ∙ sym e))

constant_is : (w : ℕ) (run : List ℕ) (bits : ℕ) → length run ≡ (w + 3) / 4 → bits ≡ digits_value 16 run → hex_digits (length run) bits ≡ run → is_constant w run ≡ nat_lt bits (2 ^ w)
constant_is w run bits count value spelled =
    let k = (w + 3) / 4 in
    let v = digits_value 16 run in
    let same : run ≡ hex_digits k v = sym spelled ∙ ap (λ (j : ℕ). hex_digits j bits) count ∙ ap (λ (n : ℕ). hex_digits k n) value in
    let spells : same_bytes run (hex_digits k v) ≡ true = ap (λ (t : List ℕ). same_bytes t (hex_digits k v)) same ∙ same-refl (hex_digits k v) in
    ap (λ (t : Bool). t && nat_lt v (2 ^ w)) spells ∙ ap (λ (n : ℕ). nat_lt n (2 ^ w)) (sym value)

pub small_passes : (w : ℕ) (run : List ℕ) (bits : ℕ) → length run ≡ (w + 3) / 4 → bits ≡ digits_value 16 run → hex_digits (length run) bits ≡ run → bits < 2 ^ w → hex_bound w run ≡ None
small_passes w run bits count value spelled small = unless_so (is_constant w run) Spelling None (constant_is w run bits count value spelled ∙ lt-ltb bits (2 ^ w) small)

pub large_breaks : (w : ℕ) (run : List ℕ) (bits : ℕ) → length run ≡ (w + 3) / 4 → bits ≡ digits_value 16 run → hex_digits (length run) bits ≡ run → 2 ^ w ≤ bits → hex_bound w run ≡ Some Spelling
large_breaks w run bits count value spelled large = unless_not (is_constant w run) Spelling None (constant_is w run bits count value spelled ∙ le-ltb bits (2 ^ w) large)

-- the number stays below 2^128
pub hex_room : (i v d : ℕ) → i < 32 → v < 16 ^ i → d < 16 → (v * 16 + d < 2 ^ 128) × (v * 16 + d < 16 ^ (i + 1))
hex_room i v d inside small digit =
    let one : i + 1 ≡ suc i = omega arith in
    let up : 16 ^ (i + 1) ≡ 16 ^ i * 16 = ap (λ (k : ℕ). 16 ^ k) one ∙ pow-suc 16 i in
    let last : i + 1 ≤ 32 = omega arith in
    let most : 16 ^ (i + 1) ≤ 16 ^ 32 = pow-le-pow_right {n = 16} (omega arith) last in
    let below : v * 16 + d < 16 ^ (i + 1) = omega (arith, small, digit, up) in
    (omega (arith, below, most), below)

pub constant_found : (w : ℕ) (text : List ℕ) (spot : Spot) (told : ℕ) (behind marked : Spot) (value : Val) (end : Spot) → Takes (width_bound w) (λ run. w) text spot told behind → marked ≡ fixed_from (codes "'h") text behind
    → Takes (hex_bound w) (constant_told w) text marked value end → found (constant_form w) text spot ≡ found (Form.whole (Constant value)) text end
constant_found w text spot told behind marked value end width mark digits =
    let last = λ (v : Val). (let f : Form Equation = Form.whole (Constant v) in f) in
    let hex = Form.hole (hex_bound w) (λ run. last (constant_told w run)) in
    hole_found (width_bound w) (λ run. fixed (codes "'h") hex) text spot behind width.leads
    ∙ fixed_found (codes "'h") hex text behind marked mark
    ∙ taken_found (hex_bound w) (constant_told w) last text marked value end digits
