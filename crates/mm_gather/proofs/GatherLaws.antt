-- What the nets of the wide beat are as numbers.
use Rattle.std.proofs.Common.{◌≡◌, ℕ, zero, suc, ◌+◌, ◌-◌, ◌*◌, ◌^◌, ◌<◌, ◌≤◌, Bool, true, false, nat_lt, refl, sym, ap, ap₂, ◌∙◌, arith, mul_assoc}
use Rattle.std.proofs.Math.Nat.{mul-lt-mul_of_pos_left, pow-suc}
use Rattle.std.proofs.Math.Pow.{pow-lt}
use Rattle.std.proofs.lemmas.Bool.{ltb-true, ltb-false}
use Rattle.memory_runs.specs.Views.{Levels}

abbrev levels_from : ℕ → ℕ → ℕ → ℕ → ℕ → ℕ → Levels
levels_from r w a d e c = record { read = r; write = w; address = a; word = d; enables = e; count = c }

-- levels that are the same one by one
pub levels_same : (one other : Levels) → one.read ≡ other.read → one.write ≡ other.write → one.address ≡ other.address → one.word ≡ other.word → one.enables ≡ other.enables → one.count ≡ other.count → one ≡ other
levels_same one other r w a d e c =
    ap₂ (λ x y. levels_from x y one.address one.word one.enables one.count) r w
    ∙ ap₂ (λ x y. levels_from other.read other.write x y one.enables one.count) a d
    ∙ ap₂ (λ x y. levels_from other.read other.write other.address other.word x y) e c

-- a wide word is larger, so there is a bit of place
pub some_place : (narrow wide bits : ℕ) → narrow < wide → wide ≡ narrow * 2 ^ bits → 1 ≤ bits
some_place narrow wide zero less ratio = absurd (omega (arith, less, ratio))
some_place narrow wide (suc bits) less ratio = omega arith

-- one power of 2 has one exponent
same_exponent : (n a b : ℕ) → 0 < n → n * 2 ^ a ≡ n * 2 ^ b → a ≡ b
same_exponent n a b some e = by_case (nat_lt a b) (nat_lt b a) refl refl
  where
    by_case : (t s : Bool) → nat_lt a b ≡ t → nat_lt b a ≡ s → a ≡ b
    by_case true s below other = absurd (let power : 2 ^ a < 2 ^ b = pow-lt (ltb-true a b below) in let more = mul-lt-mul_of_pos_left power some in omega (arith, e, more))
    by_case false true above below = absurd (let power : 2 ^ b < 2 ^ a = pow-lt (ltb-true b a below) in let more = mul-lt-mul_of_pos_left power some in omega (arith, e, more))
    by_case false false above below = (let low = ltb-false a b above in let high = ltb-false b a below in omega (arith, low, high))

-- a count that tells the words of a wide word has one bit more than a place
pub count_wider : (narrow wide count places : ℕ) → 0 < narrow → narrow < wide → wide ≡ narrow * 2 ^ (count - 1) → wide ≡ narrow * 2 ^ places → count ≡ places + 1
count_wider narrow wide count places some less told ratio =
    let same = same_exponent narrow (count - 1) places some (sym told ∙ ratio) in
    let more = some_place narrow wide places less ratio in
    omega (arith, same, more)

-- twice the lanes of a wide word
pub twice_lanes : (wide lanes places : ℕ) → wide ≡ lanes * 2 ^ places → wide ≤ 16 → lanes * 2 ^ (places + 1) ≤ 128
twice_lanes wide lanes places ratio few =
    let more : places + 1 ≡ suc places = omega arith in
    let product : lanes * 2 ^ (places + 1) ≡ wide * 2 = ap (λ n. lanes * 2 ^ n) more ∙ ap (λ n. lanes * n) (pow-suc 2 places) ∙ sym (mul_assoc lanes (2 ^ places) 2) ∙ ap (λ n. n * 2) (sym ratio) in
    omega (arith, product, few)

pub few_bits : (bytes : ℕ) → bytes ≤ 16 → bytes * 8 ≤ 128
few_bits bytes few = omega (arith, few)
