-- What numbers of a text tell, where they are capped.
use Rattle.std.proofs.Common.{◌≡◌, ◌≢◌, ℕ, ◌+◌, ◌-◌, ◌*◌, ◌==◌, ◌<◌, ◌≤◌, ◌^◌, ◌&&◌, Bool, true, false, cond, List, length, take, drop, get_or, slice_get, Option, Some, None, inl, inr, refl, sym, ap, ◌∙◌, arith, decimal}
use Rattle.std.specs.Prelude.{nat_lt, option_map}
use Rattle.std.specs.List.{list_all}
use Rattle.std.specs.Char.{is_digit, digit_value}
use Rattle.std.proofs.lemmas.Bool.{lt-ltb, le-ltb, ltb-true, eq-eqb, ne_eqb, cases_lt}
use Rattle.std.proofs.lemmas.Int.Digits.{digits_value_more}
use Rattle.std.proofs.lemmas.Str.Parse.{digit_from_value}
use Rattle.std.proofs.lemmas.Str.{digit_value_digit}
use Rattle.std.proofs.lemmas.Option.{slice_get-get_or}
use Rattle.netlist.specs.declared.line.Line.{Line}
use Rattle.netlist.specs.declared.line.Memory.{Memory}
use Rattle.verilog_forms.specs.declared.rule.Rule.{Rule}
use Rattle.verilog_forms.specs.declared.rule.Rule.TheVariants.{Width, Spelling, NotThere}
use Rattle.verilog_forms.specs.RightSides.{unless, same_bytes, value_of, is_number, net_of, is_net, or_zero, width_of, operand_test, words_of, memory_test}
use Rattle.verilog_forms.specs.WireLines.{number_test}
use Rattle.verilog_reader.specs.Holes.{capped}
use Rattle.verilog_reader.proofs.Steps.{here}
use Rattle.verilog_forms.specs.Spellings.{same-refl, number_is, value-decimal, same_equal, number_spelled}

capped_by : (n : ℕ) (t : Bool) → nat_lt n (2 ^ 32) ≡ t → capped n ≡ cond t n (2 ^ 32)
capped_by n t e = ap (λ (b : Bool). cond b n (2 ^ 32)) e

capped_low : (n : ℕ) → n < 2 ^ 32 → capped n ≡ n
capped_low n h = capped_by n true (lt-ltb n (2 ^ 32) h)

capped_high : (n : ℕ) → 2 ^ 32 ≤ n → capped n ≡ 2 ^ 32
capped_high n h = capped_by n false (le-ltb n (2 ^ 32) h)

-- one digit more
capped_more : (n d : ℕ) → capped (capped n * 10 + d) ≡ capped (n * 10 + d)
capped_more n d =
    elim (cases_lt n (2 ^ 32)) [
      | inl low ↦ ap (λ (m : ℕ). capped (m * 10 + d)) (capped_low n low)
      | inr high ↦
          ap (λ (m : ℕ). capped (m * 10 + d)) (capped_high n high) ∙ capped_high (2 ^ 32 * 10 + d) (omega arith) ∙ sym (capped_high (n * 10 + d) (omega (arith, high)))
    ]

pub digits_on : (run : List ℕ) (i v : ℕ) → i < length run → v ≡ capped (value_of (take i run)) → is_digit (get_or run i 0) 10 ≡ true → capped (v * 10 + (get_or run i 0 - 48)) ≡ capped (value_of (take (i + 1) run))
digits_on run i v inside so_far digit =
    let b = get_or run i 0 in
    let range = digit_from_value b (ltb-true (digit_value b) 10 digit) in
    let value : b - 48 ≡ digit_value b = omega (arith, digit_value_digit b range) in
    ap (λ (m : ℕ). capped (m * 10 + (b - 48))) so_far ∙ capped_more (value_of (take i run)) (b - 48)
    ∙ ap (λ (d : ℕ). capped (value_of (take i run) * 10 + d)) value ∙ ap capped (sym (digits_value_more 10 run i inside))

pub all_on : (p : ℕ → Bool) (run : List ℕ) (i : ℕ) → i < length run → p (get_or run i 0) ≡ true → list_all p (drop (i + 1) run) ≡ list_all p (drop i run)
all_on p run i inside passes = sym (ap (list_all p) (here run i inside) ∙ ap (λ (t : Bool). t && list_all p (drop (i + 1) run)) passes)

-- a number below a small bound is itself, and one from the bound on isn't below it
pub capped_below : (v n k : ℕ) → n ≡ capped v → n < k → k ≤ 2 ^ 32 → n ≡ v
capped_below v n k is low few =
    elim (cases_lt v (2 ^ 32)) [
      | inl small ↦ is ∙ capped_low v small
      | inr large ↦ absurd (omega (arith, is ∙ capped_high v large, low, few))
    ]

pub capped_above : (v n k : ℕ) → n ≡ capped v → k ≤ n → k ≤ 2 ^ 32 → k ≤ v
capped_above v n k is high few =
    elim (cases_lt v (2 ^ 32)) [
      | inl small ↦ omega (arith, is ∙ capped_low v small, high)
      | inr large ↦ omega (arith, large, few)
    ]

-- a test of a number, by what the number is

pub unless_not : (t : Bool) (rule : Rule) (later : Option Rule) → t ≡ false → unless t rule later ≡ Some rule
unless_not t rule later e = ap (λ (b : Bool). unless b rule later) e

pub unless_so : (t : Bool) (rule : Rule) (later : Option Rule) → t ≡ true → unless t rule later ≡ later
unless_so t rule later e = ap (λ (b : Bool). unless b rule later) e

-- a number spelled well that is below a bound, or not
pub below_passes : (spelled : Bool) (v n k : ℕ) (other rule : Rule) (later : Option Rule) → spelled ≡ true → n ≡ capped v → n < k → k ≤ 2 ^ 32 → unless spelled other (unless (nat_lt v k) rule later) ≡ later
below_passes spelled v n k other rule later good is low few =
    unless_so spelled other _ good ∙ unless_so (nat_lt v k) rule later (lt-ltb v k (omega (arith, capped_below v n k is low few, low)))

pub above_breaks : (spelled : Bool) (v n k : ℕ) (other rule : Rule) (later : Option Rule) → spelled ≡ true → n ≡ capped v → k ≤ n → k ≤ 2 ^ 32 → unless spelled other (unless (nat_lt v k) rule later) ≡ Some rule
above_breaks spelled v n k other rule later good is high few = unless_so spelled other _ good ∙ unless_not (nat_lt v k) rule later (le-ltb v k (capped_above v n k is high few))

-- this number

pub number_passes_exactly : (run : List ℕ) (k n : ℕ) → is_number run ≡ true → n ≡ capped (value_of run) → n ≡ k → k < 2 ^ 32 → number_test k run ≡ None
number_passes_exactly run k n good is same few =
    let value : n ≡ value_of run = capped_below (value_of run) n (2 ^ 32) is (omega (arith, same, few)) (omega arith) in
    let spelled : run ≡ decimal k = number_spelled run good (omega (arith, value, same, few)) ∙ ap (λ (m : ℕ). decimal m) (sym value ∙ same) in
    unless_so (same_bytes run (decimal k)) Spelling None (ap (λ (t : List ℕ). same_bytes t (decimal k)) spelled ∙ same-refl (decimal k))

-- what isn't spelled so isn't the number
other_spelling : (run : List ℕ) (k : ℕ) (t : Bool) → same_bytes run (decimal k) ≡ t → (run ≡ decimal k → ⊥) → t ≡ false
other_spelling run k true e other = absurd (other (same_equal run (decimal k) e))
other_spelling run k false e other = refl

pub no_number_breaks : (run : List ℕ) (k : ℕ) → k < 2 ^ 32 → is_number run ≡ false → number_test k run ≡ Some Spelling
no_number_breaks run k few none =
    unless_not (same_bytes run (decimal k)) Spelling None (other_spelling run k (same_bytes run (decimal k)) refl (λ e. absurd (clash (sym none ∙ ap is_number e ∙ number_is k (omega (arith, few))))))
  where
    clash : false ≡ true → ⊥
    clash e = cc

pub other_number_breaks : (run : List ℕ) (k n : ℕ) → k < 2 ^ 32 → n ≡ capped (value_of run) → n ≢ k → number_test k run ≡ Some Spelling
other_number_breaks run k n few is other =
    unless_not (same_bytes run (decimal k)) Spelling None (other_spelling run k (same_bytes run (decimal k)) refl (λ e.
    other (is ∙ ap (λ (t : List ℕ). capped (value_of t)) e ∙ ap capped (value-decimal k (omega (arith, few))) ∙ capped_low k few)))

-- an operand

net_width : (lines : List Line) (n : ℕ) (line : Line) → n < length lines → width_of lines n ≡ (get_or lines n line).width
net_width lines n line low = ap (λ (o : Option Line). or_zero (option_map (λ (l : Line). l.width) o)) (slice_get-get_or lines n line low)

operand_judged : (lines : List Line) (fits : ℕ → Bool) (run : List ℕ) (n : ℕ) (line : Line) (t : Bool) → is_net run ≡ true → n ≡ capped (net_of run) → n < length lines → length lines ≤ 2 ^ 32 → fits (get_or lines n line).width ≡ t
    → operand_test lines (length lines) fits run ≡ unless t Width None
operand_judged lines fits run n line t good is low few fit =
    let same = capped_below (net_of run) n (length lines) is low few in
    below_passes (is_net run) (net_of run) n (length lines) Spelling NotThere (unless (fits (width_of lines (net_of run))) Width None) good is low few
    ∙ ap (λ (m : ℕ). unless (fits (width_of lines m)) Width None) (sym same) ∙ ap (λ (v : ℕ). unless (fits v) Width None) (net_width lines n line low) ∙ ap (λ (b : Bool). unless b Width None) fit

pub operand_passes_by : (lines : List Line) (fits : ℕ → Bool) (run : List ℕ) (n : ℕ) (line : Line) → is_net run ≡ true → n ≡ capped (net_of run) → n < length lines → length lines ≤ 2 ^ 32 → fits (get_or lines n line).width ≡ true
    → (operand_test lines (length lines) fits run ≡ None) × (n ≡ net_of run)
operand_passes_by lines fits run n line good is low few fit = (operand_judged lines fits run n line true good is low few fit, capped_below (net_of run) n (length lines) is low few)

pub operand_breaks_by : (lines : List Line) (fits : ℕ → Bool) (run : List ℕ) (n : ℕ) (line : Line) → is_net run ≡ true → n ≡ capped (net_of run) → n < length lines → length lines ≤ 2 ^ 32 → fits (get_or lines n line).width ≡ false
    → operand_test lines (length lines) fits run ≡ Some Width
operand_breaks_by lines fits run n line good is low few fit = operand_judged lines fits run n line false good is low few fit

-- a memory

memory_judged : (memories : List Memory) (w : ℕ) (run : List ℕ) (m v : ℕ) (t : Bool) → is_number run ≡ true → m ≡ capped (value_of run) → m < length memories → length memories ≤ 2 ^ 32 → v ≡ words_of (slice_get memories m) → (v == w) ≡ t
    → memory_test memories w run ≡ unless t Width None
memory_judged memories w run m v t good is low few told same =
    let value = capped_below (value_of run) m (length memories) is low few in
    below_passes (is_number run) (value_of run) m (length memories) Spelling NotThere (unless (words_of (slice_get memories (value_of run)) == w) Width None) good is low few
    ∙ ap (λ (k : ℕ). unless (words_of (slice_get memories k) == w) Width None) (sym value) ∙ ap (λ (k : ℕ). unless (k == w) Width None) (sym told) ∙ ap (λ (b : Bool). unless b Width None) same

pub memory_passes_by : (memories : List Memory) (w : ℕ) (run : List ℕ) (m v : ℕ) → is_number run ≡ true → m ≡ capped (value_of run) → m < length memories → length memories ≤ 2 ^ 32 → v ≡ words_of (slice_get memories m) → v ≡ w
    → (memory_test memories w run ≡ None) × (m ≡ value_of run)
memory_passes_by memories w run m v good is low few told same = (memory_judged memories w run m v true good is low few told (eq-eqb v w same), capped_below (value_of run) m (length memories) is low few)

pub memory_breaks_by : (memories : List Memory) (w : ℕ) (run : List ℕ) (m v : ℕ) → is_number run ≡ true → m ≡ capped (value_of run) → m < length memories → length memories ≤ 2 ^ 32 → v ≡ words_of (slice_get memories m) → v ≢ w
    → memory_test memories w run ≡ Some Width
memory_breaks_by memories w run m v good is low few told other = memory_judged memories w run m v false good is low few told (ne_eqb v w other)
