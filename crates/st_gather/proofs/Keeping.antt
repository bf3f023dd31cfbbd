-- Words side by side, as a memory keeps them.
use Rattle.std.specs.Prelude.{ℕ, zero, suc, ◌+◌, ◌-◌, ◌*◌, ◌%◌, ◌^◌, ◌<◌, ◌≤◌, ◌≡◌, List, [], ◌∷◌, length}
use Rattle.std.proofs.Common.{sym, ap, ◌∙◌, arith}
use Rattle.std.proofs.lemmas.Nat.{mod-pow-add, div-mul-add, mod-mul-add}
use Rattle.std.proofs.Math.Nat.{mod-eq_of_lt}
use Rattle.std.proofs.Math.Pow.{mod-mod-pow}
use Rattle.routed_runs.specs.Gathering.{side_by_side}

-- the lowest bits of a memory's word are the words that a channel has
abbrev pub HasWords : ℕ → ℕ → List ℕ → Type 0
HasWords bits had words = had % 2 ^ (bits * length words) ≡ side_by_side bits words

pub has_none : (bits had : ℕ) → HasWords bits had []
has_none bits had = let none : bits * 0 ≡ 0 = omega arith in ap (λ n. had % 2 ^ n) none ∙ omega arith

-- a word that comes goes behind them, and only the highest bits are lost
pub has_more : (bits most had word : ℕ) (words : List ℕ) → HasWords bits had words → word < 2 ^ bits → length words + 1 ≤ most
    → HasWords bits ((had * 2 ^ bits + word) % 2 ^ (bits * most)) (word ∷ words)
has_more bits most had word words has fits few =
    ap (λ n. (had * 2 ^ bits + word) % 2 ^ n % 2 ^ (bits * length (word ∷ words))) room
    ∙ mod-mod-pow (had * 2 ^ bits + word) (bits * rest) (bits * length (word ∷ words))
    ∙ ap (λ n. (had * 2 ^ bits + word) % 2 ^ n) one_more
    ∙ mod-pow-add (had * 2 ^ bits + word) (bits * length words) bits
    ∙ ap (λ n. (n % 2 ^ (bits * length words)) * 2 ^ bits + (had * 2 ^ bits + word) % 2 ^ bits) (div-mul-add had (2 ^ bits) word fits)
    ∙ ap (λ n. n * 2 ^ bits + (had * 2 ^ bits + word) % 2 ^ bits) has
    ∙ ap (λ n. side_by_side bits words * 2 ^ bits + n) (mod-mul-add had (2 ^ bits) word fits)
  where
    rest : ℕ
    rest = most - length (word ∷ words)

    size : length (word ∷ words) ≡ length words + 1
    size = omega arith

    room : bits * most ≡ bits * rest + bits * length (word ∷ words)
    room = let whole : most ≡ rest + length (word ∷ words) = omega (arith, few, size) in ap (λ n. bits * n) whole ∙ omega arith

    one_more : bits * length (word ∷ words) ≡ bits * length words + bits
    one_more = ap (λ n. bits * n) size ∙ omega arith

-- all but one of a beat fill the memory's word
pub has_all : (bits most had : ℕ) (words : List ℕ) → HasWords bits had words → had < 2 ^ (bits * most) → length words ≡ most → had ≡ side_by_side bits words
has_all bits most had words has fits all = sym (ap (λ n. had % 2 ^ (bits * n)) all ∙ mod-eq_of_lt fits) ∙ has

-- all but one and one are all
pub whole_bits : (bits parts : ℕ) → 1 ≤ parts → bits * (parts - 1) + bits ≡ bits * parts
whole_bits bits parts some = let back : parts ≡ parts - 1 + 1 = omega (arith, some) in let more : bits * (parts - 1 + 1) ≡ bits * (parts - 1) + bits = omega arith in sym (ap (λ n. bits * n) back ∙ more)

pub some_bits : (bits parts : ℕ) → 1 ≤ bits → 2 ≤ parts → 1 ≤ bits * (parts - 1)
some_bits bits parts bit some = some_product (parts - 1) (omega (arith, some))
  where
    some_product : (n : ℕ) → 1 ≤ n → 1 ≤ bits * n
    some_product zero more = absurd (omega (arith, more))
    some_product (suc n) more = let whole : bits * suc n ≡ bits * n + bits = omega arith in omega (arith, whole, bit)

-- so many counts have few bits
pub few_bits : (bits channels : ℕ) → bits ≤ 4 → channels ≤ 16 → bits * channels ≤ 64
few_bits bits channels few most =
    let less : bits * channels ≤ 4 * channels = mul_le (4 - bits) bits channels 4 (omega (arith, few)) in
    omega (arith, less, most)
  where
    mul_le : (more bits channels whole : ℕ) → whole ≡ more + bits → bits * channels ≤ whole * channels
    mul_le more bits channels whole is = let apart : (more + bits) * channels ≡ more * channels + bits * channels = omega arith in let same = ap (λ n. n * channels) is in omega (arith, apart, same)

pub some_counts : (bits channels : ℕ) → 1 ≤ bits → 1 ≤ channels → 1 ≤ bits * channels
some_counts bits zero bit some = absurd (omega (arith, some))
some_counts bits (suc channels) bit some = let whole : bits * suc channels ≡ bits * channels + bits = omega arith in omega (arith, whole, bit)
