-- The right side of a net's line tells its equation.
use Rattle.std.proofs.Common.{◌≡◌, ℕ, zero, suc, ◌+◌, ◌*◌, ◌/◌, ◌%◌, ◌==◌, ◌<◌, ◌≤◌, ◌^◌, Bool, true, List, [], ◌∷◌, ◌++◌, length, take, drop, take_at, refl, ap, ◌∙◌, arith, codes, decimal, append_assoc, length-append}
use Rattle.std.specs.Prelude.{if◌then◌else◌}
use Rattle.std.specs.List.{list_all}
use Rattle.std.specs.Char.{digit_value}
use Rattle.std.specs.Str.Parse.{digits_value}
use Rattle.std.proofs.lemmas.Int.Digits.{digits_value_push}
use Rattle.std.proofs.lemmas.Str.{digit_value-digit_char}
use Rattle.std.proofs.lemmas.Fmt.{decimal_is_IsNumeral}
use Rattle.std.proofs.lemmas.Bool.{and_parts}
use Rattle.std.proofs.Math.Nat.{pow-suc, two-pow-succ, pow-le-pow_right}
use Rattle.av_base.specs.Word.{IsWord}
use Rattle.av_base.specs.declared.value.Val.{Val}
use Rattle.netlist.specs.declared.line.Equation.{Equation}
use Rattle.netlist.specs.declared.line.Equation.TheVariants.{Input, Constant, And, Or, Xor, Add, Sub, Eq, Less, Concat, Not, Any, Mux, Slice, Reg, Read}
use Rattle.netlist.specs.declared.line.PortLine.{PortLine}
use Rattle.verilog_writer.specs.Text.{hex_digit, hex_digits, constant_text, net_name, memory_name, infix_text, right_text}
use Rattle.verilog_forms.proofs.Cuts.{first, behind, Number, number, numbered, number_reads}
use Rattle.verilog_forms.specs.Spellings.{stops, digit, decimal_passes}

pub record Small (a b : ℕ) : Type 0 where
  pub left : a < 2 ^ 64
  pub right : b < 2 ^ 64

pub record Smalls (a b c : ℕ) : Type 0 where
  pub left : a < 2 ^ 64
  pub middle : b < 2 ^ 64
  pub right : c < 2 ^ 64

-- the equation is neither an input's nor a register's, and its numbers fit
abbrev pub IsPlain : Equation → Type 0
IsPlain (Input port) = ⊥
IsPlain (Constant value) = IsWord value.width value.bits
IsPlain (And a b) = Small a b
IsPlain (Or a b) = Small a b
IsPlain (Xor a b) = Small a b
IsPlain (Add a b) = Small a b
IsPlain (Sub a b) = Small a b
IsPlain (Eq a b) = Small a b
IsPlain (Less a b) = Small a b
IsPlain (Concat a b) = Small a b
IsPlain (Not a) = a < 2 ^ 64
IsPlain (Any a) = a < 2 ^ 64
IsPlain (Mux s a b) = Smalls s a b
IsPlain (Slice a high low) = Smalls a high low
IsPlain (Reg reset next) = ⊥
IsPlain (Read m a) = Small m a

abbrev second : List ℕ → ℕ
second t = first (behind t)

abbrev slice_from : ℕ → Number → Equation
slice_from a p = Slice a p.value (number (drop 1 p.rest)).value

abbrev choice_from : ℕ → Number → Equation
choice_from a p = Mux a p.value (number (drop 4 p.rest)).value

-- what stands behind the first operand
abbrev after_net : Number → Equation
after_net p =
    if first p.rest == 91 then slice_from p.value (number (drop 1 p.rest))
    else if second p.rest == 63 then choice_from p.value (number (drop 4 p.rest))
    else if second p.rest == 38 then And p.value (number (drop 4 p.rest)).value
    else if second p.rest == 124 then Or p.value (number (drop 4 p.rest)).value
    else if second p.rest == 94 then Xor p.value (number (drop 4 p.rest)).value
    else if second p.rest == 43 then Add p.value (number (drop 4 p.rest)).value
    else if second p.rest == 45 then Sub p.value (number (drop 4 p.rest)).value
    else if second p.rest == 60 then Less p.value (number (drop 4 p.rest)).value
    else Eq p.value (number (drop 5 p.rest)).value

abbrev valued : ℕ → ℕ → Val
valued w b = record { width = w; bits = b }

abbrev constant_from : Number → Val
constant_from p = valued p.value (digits_value 16 (take ((p.value + 3) / 4) (drop 2 p.rest)))

abbrev concat_from : Number → Equation
concat_from p = Concat p.value (number (drop 3 p.rest)).value

abbrev read_from : Number → Equation
read_from p = Read p.value (number (drop 2 p.rest)).value

-- the equation that a right side spells
abbrev pub right_of : List ℕ → Equation
right_of t =
    if digit (first t) then Constant (constant_from (number t))
    else if first t == 110 then after_net (number (drop 1 t))
    else if first t == 126 then Not (number (drop 2 t)).value
    else if first t == 124 then Any (number (drop 2 t)).value
    else if first t == 123 then concat_from (number (drop 2 t))
    else read_from (number (drop 1 t))

pub five : (a b c d e r : List ℕ) → (a ++ b ++ c ++ d ++ e) ++ r ≡ a ++ (b ++ (c ++ (d ++ (e ++ r))))
five a b c d e r = simp append_assoc

pub six : (a b c d e f r : List ℕ) → (a ++ b ++ c ++ d ++ e ++ f) ++ r ≡ a ++ (b ++ (c ++ (d ++ (e ++ (f ++ r)))))
six a b c d e f r = simp append_assoc

pub four : (a b c d r : List ℕ) → (a ++ b ++ c ++ d) ++ r ≡ a ++ (b ++ (c ++ (d ++ r)))
four a b c d r = simp append_assoc

pub three : (a b c r : List ℕ) → (a ++ b ++ c) ++ r ≡ a ++ (b ++ (c ++ r))
three a b c r = simp append_assoc

pub two : (a b r : List ℕ) → (a ++ b) ++ r ≡ a ++ (b ++ r)
two a b r = append_assoc a b r

-- two nets and an operator of one byte or two
infix_reads : (op : List ℕ) (make : ℕ → ℕ → Equation) (a b : ℕ) (r : List ℕ) → Small a b → stops digit r ≡ true
    → ((t : List ℕ) → after_net (numbered a (32 ∷ (op ++ (32 ∷ 110 ∷ t)))) ≡ make a (number t).value)
    → right_of (infix_text a op b ++ r) ≡ make a b
infix_reads op make a b r s stop is =
    ap right_of (five (net_name a) (codes " ") op (codes " ") (net_name b) r)
    ∙ ap after_net (number_reads a (32 ∷ (op ++ (32 ∷ 110 ∷ (decimal b ++ r)))) s.left refl)
    ∙ is (decimal b ++ r)
    ∙ ap (λ (p : Number). make a p.value) (number_reads b r s.right stop)

-- the digits of a constant

pub length-hex : (count n : ℕ) → length (hex_digits count n) ≡ count
length-hex zero n = refl
length-hex (suc count) n =
    let below = length-hex count (n / 16) in
    let one : length (hex_digits count (n / 16)) + 1 ≡ suc count = omega (arith, below) in
    length-append (hex_digits count (n / 16)) (hex_digit (n % 16) ∷ []) ∙ one

pub hex_value : (count n : ℕ) → n < 16 ^ count → digits_value 16 (hex_digits count n) ≡ n
hex_value zero n h = omega arith
hex_value (suc count) n h =
    let grown : 16 ^ suc count ≡ 16 ^ count * 16 = pow-suc 16 count in
    let fits : n / 16 < 16 ^ count = omega (arith, h, grown) in
    let last : digit_value (hex_digit (n % 16)) ≡ n % 16 = digit_value-digit_char (n % 16) (omega arith) in
    let above : digits_value 16 (hex_digits count (n / 16)) ≡ n / 16 = hex_value count (n / 16) fits in
    digits_value_push 16 (hex_digits count (n / 16)) (hex_digit (n % 16)) ∙ omega (arith, last, above)

sixteen : (k : ℕ) → 2 ^ (4 * k) ≡ 16 ^ k
sixteen zero = refl
sixteen (suc k) =
    let four_more : 4 * suc k ≡ suc (suc (suc (suc (4 * k)))) = omega arith in
    ap (λ (m : ℕ). 2 ^ m) four_more
    ∙ omega (arith, two-pow-succ (4 * k), two-pow-succ (suc (4 * k)), two-pow-succ (suc (suc (4 * k))), two-pow-succ (suc (suc (suc (4 * k)))), pow-suc 16 k, sixteen k)

pub width_fits : (w n : ℕ) → n < 2 ^ w → n < 16 ^ ((w + 3) / 4)
width_fits w n h =
    let room : w ≤ 4 * ((w + 3) / 4) = omega arith in
    omega (arith, h, pow-le-pow_right {n = 2} (omega arith) room, sixteen ((w + 3) / 4))

first_passes : (p : ℕ → Bool) (u r : List ℕ) → 0 < length u → list_all p u ≡ true → p (first (u ++ r)) ≡ true
first_passes p [] r some h = absurd (omega arith)
first_passes p (x ∷ u) r some h = (and_parts (p x) (list_all p u) h).0

pub first_digit : (n : ℕ) (r : List ℕ) → n < 2 ^ 64 → digit (first (decimal n ++ r)) ≡ true
first_digit n r h = first_passes digit (decimal n) r (decimal_is_IsNumeral n h).0.0 (decimal_passes n h)

chosen : {X : Type 0} (b : Bool) (x y : X) → b ≡ true → (if b then x else y) ≡ x
chosen b x y e = rw e refl

-- what stands for a text that begins with no digit
other_of : List ℕ → Equation
other_of t =
    if first t == 110 then after_net (number (drop 1 t))
    else if first t == 126 then Not (number (drop 2 t)).value
    else if first t == 124 then Any (number (drop 2 t)).value
    else if first t == 123 then concat_from (number (drop 2 t))
    else read_from (number (drop 1 t))

constant_reads : (value : Val) (r : List ℕ) → IsWord value.width value.bits → right_of (constant_text value.width value.bits ++ r) ≡ Constant value
unfolding other_of
constant_reads value r is =
    let w = value.width in
    let b = value.bits in
    let small : w < 2 ^ 64 = omega (arith, is.small) in
    let hex = hex_digits ((w + 3) / 4) b in
    let t : List ℕ = decimal w ++ (39 ∷ 104 ∷ (hex ++ r)) in
    ap right_of (three (decimal w) (codes "'h") hex r)
    ∙ chosen (digit (first t)) (Constant (constant_from (number t))) (other_of t) (first_digit w (39 ∷ 104 ∷ (hex ++ r)) small)
    ∙ ap (λ (p : Number). Constant (constant_from p)) (number_reads w (39 ∷ 104 ∷ (hex ++ r)) small refl)
    ∙ ap (λ (ds : List ℕ). Constant (valued w (digits_value 16 ds))) (take_at hex r ((w + 3) / 4) (length-hex ((w + 3) / 4) b))
    ∙ ap (λ (n : ℕ). Constant (valued w n)) (hex_value ((w + 3) / 4) b (width_fits w b is.fits))

pub right_reads : (ports : List PortLine) (e : Equation) (r : List ℕ) → IsPlain e → stops digit r ≡ true → right_of (right_text ports e ++ r) ≡ e
right_reads ports (Input port) r h stop = absurd h
right_reads ports (Constant value) r h stop = constant_reads value r h
right_reads ports (And a b) r h stop = infix_reads (codes "&") And a b r h stop (λ t. refl)
right_reads ports (Or a b) r h stop = infix_reads (codes "|") Or a b r h stop (λ t. refl)
right_reads ports (Xor a b) r h stop = infix_reads (codes "^") Xor a b r h stop (λ t. refl)
right_reads ports (Add a b) r h stop = infix_reads (codes "+") Add a b r h stop (λ t. refl)
right_reads ports (Sub a b) r h stop = infix_reads (codes "-") Sub a b r h stop (λ t. refl)
right_reads ports (Eq a b) r h stop = infix_reads (codes "==") Eq a b r h stop (λ t. refl)
right_reads ports (Less a b) r h stop = infix_reads (codes "<") Less a b r h stop (λ t. refl)
right_reads ports (Concat a b) r h stop =
    ap right_of (five (codes "{") (net_name a) (codes ", ") (net_name b) (codes "}") r)
    ∙ ap concat_from (number_reads a (44 ∷ 32 ∷ 110 ∷ (decimal b ++ (125 ∷ r))) h.left refl)
    ∙ ap (λ (p : Number). Concat a p.value) (number_reads b (125 ∷ r) h.right refl)
right_reads ports (Not a) r h stop = ap (λ (p : Number). Not p.value) (number_reads a r h stop)
right_reads ports (Any a) r h stop = ap (λ (p : Number). Any p.value) (number_reads a r h stop)
right_reads ports (Mux s a b) r h stop =
    ap right_of (five (net_name s) (codes " ? ") (net_name a) (codes " : ") (net_name b) r)
    ∙ ap after_net (number_reads s (32 ∷ 63 ∷ 32 ∷ 110 ∷ (decimal a ++ (32 ∷ 58 ∷ 32 ∷ 110 ∷ (decimal b ++ r)))) h.left refl)
    ∙ ap (choice_from s) (number_reads a (32 ∷ 58 ∷ 32 ∷ 110 ∷ (decimal b ++ r)) h.middle refl)
    ∙ ap (λ (p : Number). Mux s a p.value) (number_reads b r h.right stop)
right_reads ports (Slice a high low) r h stop =
    ap right_of (six (net_name a) (codes "[") (decimal high) (codes ":") (decimal low) (codes "]") r)
    ∙ ap after_net (number_reads a (91 ∷ (decimal high ++ (58 ∷ (decimal low ++ (93 ∷ r))))) h.left refl)
    ∙ ap (slice_from a) (number_reads high (58 ∷ (decimal low ++ (93 ∷ r))) h.middle refl)
    ∙ ap (λ (p : Number). Slice a high p.value) (number_reads low (93 ∷ r) h.right refl)
right_reads ports (Reg reset next) r h stop = absurd h
right_reads ports (Read m a) r h stop =
    ap right_of (four (memory_name m) (codes "[") (net_name a) (codes "]") r)
    ∙ ap read_from (number_reads m (91 ∷ 110 ∷ (decimal a ++ (93 ∷ r))) h.left refl)
    ∙ ap (λ (p : Number). Read m p.value) (number_reads a (93 ∷ r) h.right refl)
