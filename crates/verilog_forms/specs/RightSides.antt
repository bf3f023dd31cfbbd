-- The form of a net's right side, where each input port has its net.
use Rattle.std.specs.Prelude.{ℕ, ◌+◌, ◌/◌, ◌^◌, Bool, true, false, ◌&&◌, ◌||◌, not, ◌==◌, ◌≡◌, ◌<◌, ◌≤◌, nat_lt, List, [], ◌∷◌, drop, length, slice_get, Option, Some, None, codes, if◌then◌else◌}
use Rattle.std.specs.List.{list_all}
use Rattle.std.specs.Char.{is_digit}
use Rattle.std.specs.Str.Parse.{digits_value}
use Rattle.netlist.specs.declared.line.Equation.{Equation}
use Rattle.netlist.specs.declared.line.Equation.TheVariants.{Constant, And, Or, Xor, Add, Sub, Eq, Less, Concat, Not, Any, Mux, Slice, Read}
use Rattle.netlist.specs.declared.line.Line.{Line}
use Rattle.netlist.specs.declared.line.Memory.{Memory}
use Rattle.netlist.specs.declared.line.PortLine.{PortLine}
use Rattle.netlist.specs.Netlists.{width_at, IsSound, is_input, is_register}
use Rattle.verilog_writer.specs.Text.{hex_digits}
use Rattle.verilog_forms.specs.declared.rule.Rule.{Rule}
use Rattle.verilog_forms.specs.declared.rule.Rule.TheVariants.{OtherByte, Width, Spelling, NotThere, Bounds}
use Rattle.verilog_forms.specs.Forms.{Form, fixed}

-- the byte is this character
abbrev pub is_char : List ℕ → ℕ → Bool
is_char [] b = false
is_char (c ∷ cs) b = b == c

-- the rule, unless the test holds; then what comes later
abbrev pub unless : Bool → Rule → Option Rule → Option Rule
unless true rule later = later
unless false rule later = Some rule

-- the form, or the rule at this place
abbrev pub guarded : {A : Type 0} → Bool → Rule → Form A → Form A
guarded true rule form = form
guarded false rule form = Form.refuse rule

abbrev pub same_bytes : List ℕ → List ℕ → Bool
same_bytes [] [] = true
same_bytes [] (d ∷ ds) = false
same_bytes (c ∷ cs) [] = false
same_bytes (c ∷ cs) (d ∷ ds) = c == d && same_bytes cs ds

abbrev pub value_of : List ℕ → ℕ
value_of run = digits_value 10 run

-- something, where a zero at the front stands alone
abbrev pub well_led : List ℕ → Bool
well_led [] = false
well_led (d ∷ ds) = not (d == 48) || same_bytes ds []

-- a number as it has to be spelled: digits, and no leading zero
abbrev pub is_number : List ℕ → Bool
is_number run = list_all (λ b. is_digit b 10) run && well_led run

-- the number behind a net's letter
abbrev pub net_of : List ℕ → ℕ
net_of run = value_of (drop 1 run)

abbrev pub is_net : List ℕ → Bool
is_net [] = false
is_net (c ∷ run) = is_char (codes "n") c && is_number run

abbrev pub or_zero : Option ℕ → ℕ
or_zero None = 0
or_zero (Some n) = n

-- the width of a net that is there
abbrev pub width_of : List Line → ℕ → ℕ
width_of lines a = or_zero (width_at lines a)

abbrev pub fit_any : ℕ → Bool
fit_any width = true

-- an operand of net n: a net before it, of a width that fits
abbrev pub operand_test : List Line → ℕ → (ℕ → Bool) → List ℕ → Option Rule
operand_test lines n fits run =
    unless (is_net run) Spelling
    (unless (nat_lt (net_of run) n) NotThere (unless (fits (width_of lines (net_of run))) Width None))

abbrev pub operand : {A : Type 0} → List Line → ℕ → (ℕ → Bool) → (ℕ → Form A) → Form A
operand lines n fits form = Form.hole (operand_test lines n fits) (λ run. form (net_of run))

-- an operator and its second operand
abbrev pub second : List Line → ℕ → List ℕ → (ℕ → Bool) → (ℕ → Equation) → Form Equation
second lines n sign fits make = fixed sign (operand lines n fits (λ b. Form.whole (make b)))

abbrev pub choice_form : List Line → ℕ → ℕ → ℕ → Form Equation
choice_form lines n w s =
    fixed (codes "? ")
    (operand lines n (λ v. v == w) (λ a. fixed (codes " : ") (operand lines n (λ v. v == w) (λ b. Form.whole (Mux s a b)))))

-- what stands from the operator sign on, behind net a and a blank
abbrev pub sign_form : List Line → ℕ → ℕ → ℕ → Option ℕ → Form Equation
sign_form lines n w a None = Form.refuse OtherByte
sign_form lines n w a (Some sign) =
    let v = width_of lines a in
    if is_char (codes "&") sign then guarded (v == w) Width (second lines n (codes "& ") (λ u. u == w) (And a))
    else if is_char (codes "|") sign then guarded (v == w) Width (second lines n (codes "| ") (λ u. u == w) (Or a))
    else if is_char (codes "^") sign then guarded (v == w) Width (second lines n (codes "^ ") (λ u. u == w) (Xor a))
    else if is_char (codes "+") sign then guarded (v == w) Width (second lines n (codes "+ ") (λ u. u == w) (Add a))
    else if is_char (codes "-") sign then guarded (v == w) Width (second lines n (codes "- ") (λ u. u == w) (Sub a))
    else if is_char (codes "=") sign then guarded (w == 1) Width (second lines n (codes "== ") (λ u. u == v) (Eq a))
    else if is_char (codes "<") sign then guarded (w == 1) Width (second lines n (codes "< ") (λ u. u == v) (Less a))
    else if is_char (codes "?") sign then guarded (v == 1) Width (choice_form lines n w a)
    else Form.refuse OtherByte

-- the bits of net a from the first bound on
abbrev pub slice_form : List Line → ℕ → ℕ → Form Equation
slice_form lines w a =
    fixed (codes "[")
    (Form.hole (λ run. unless (is_number run) Spelling
    (unless (nat_lt (value_of run) (width_of lines a)) Bounds None)) (λ high.
    fixed (codes ":")
    (Form.hole (λ run. unless (is_number run) Spelling (unless (value_of run + w == value_of high + 1) Bounds None)) (λ low.
    fixed (codes "]") (Form.whole (Slice a (value_of high) (value_of low)))))))

-- what stands behind a first operand
abbrev pub behind_form : List Line → ℕ → ℕ → ℕ → Option ℕ → Form Equation
behind_form lines n w a None = Form.refuse OtherByte
behind_form lines n w a (Some b) =
    if is_char (codes "[") b then slice_form lines w a else fixed (codes " ") (Form.turn (sign_form lines n w a))

abbrev pub is_constant : ℕ → List ℕ → Bool
is_constant w run = same_bytes run (hex_digits ((w + 3) / 4) (digits_value 16 run)) && nat_lt (digits_value 16 run) (2 ^ w)

abbrev pub constant_form : ℕ → Form Equation
constant_form w =
    Form.hole (λ run. unless (is_number run) Spelling (unless (value_of run == w) Width None)) (λ width.
    fixed (codes "'h") (Form.hole (λ run. unless (is_constant w run) Spelling None) (λ run.
    Form.whole (Constant (record { width = w; bits = digits_value 16 run })))))

abbrev pub words_of : Option Memory → ℕ
words_of None = 0
words_of (Some memory) = memory.width

abbrev pub bits_of : Option Memory → ℕ
bits_of None = 0
bits_of (Some memory) = memory.address_bits

abbrev pub memory_test : List Memory → ℕ → List ℕ → Option Rule
memory_test memories w run =
    unless (is_number run) Spelling
    (unless (nat_lt (value_of run) (length memories)) NotThere
    (unless (words_of (slice_get memories (value_of run)) == w) Width None))

abbrev pub read_form : List Memory → List Line → ℕ → ℕ → Form Equation
read_form memories lines n w =
    fixed (codes "m") (Form.hole (memory_test memories w) (λ m.
    fixed (codes "[") (operand lines n (λ v. v == bits_of (slice_get memories (value_of m))) (λ a.
    fixed (codes "]") (Form.whole (Read (value_of m) a))))))

abbrev pub concat_form : List Line → ℕ → ℕ → Form Equation
concat_form lines n w =
    fixed (codes "{")
    (operand lines n fit_any (λ a. fixed (codes ", ")
    (operand lines n (λ v. width_of lines a + v == w) (λ b. fixed (codes "}") (Form.whole (Concat a b))))))

abbrev pub begun_form : List Memory → List Line → ℕ → ℕ → Option ℕ → Form Equation
begun_form memories lines n w None = Form.refuse OtherByte
begun_form memories lines n w (Some b) =
    if is_digit b 10 then constant_form w
    else if is_char (codes "~") b then fixed (codes "~") (operand lines n (λ v. v == w) (λ a. Form.whole (Not a)))
    else if is_char (codes "|") b
    then guarded (w == 1) Width (fixed (codes "|") (operand lines n fit_any (λ a. Form.whole (Any a))))
    else if is_char (codes "{") b then concat_form lines n w
    else if is_char (codes "n") b then operand lines n fit_any (λ a. Form.turn (behind_form lines n w a))
    else if is_char (codes "m") b then read_form memories lines n w
    else Form.refuse OtherByte

-- the right side of net n, of w bits, among these memories and the lines before it
abbrev pub right_form : List Memory → List Line → ℕ → ℕ → Form Equation
right_form memories lines n w = Form.turn (begun_form memories lines n w)

-- where net n stands: its width, and what stands before it
pub record Here (memories : List Memory) (lines : List Line) (n w : ℕ) : Type 0 where
  pub few : n < 2 ^ 64
  pub room : n ≤ length lines
  pub few_memories : length memories ≤ 2 ^ 16
  pub small : (a v : ℕ) → width_at lines a ≡ Some v → v ≤ 128
  pub some_bit : 1 ≤ w
  pub bits : w ≤ 128

-- a sound equation that is spelled on the right by nets, memories and numbers: an input is spelled by its port, and a register
-- elsewhere
pub record IsRightSide (ports : List PortLine) (memories : List Memory) (lines : List Line) (n w : ℕ)
    (e : Equation) : Type 0 where
  pub sound : IsSound ports memories lines n w e
  pub no_input : is_input e ≡ false
  pub no_register : is_register e ≡ false
