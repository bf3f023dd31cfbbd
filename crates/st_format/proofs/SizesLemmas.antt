-- Products of sizes.
use Rattle.std.proofs.Common.{◌≡◌, ℕ, zero, suc, ◌+◌, ◌-◌, ◌*◌, ◌<◌, ◌≤◌, ap, ◌∙◌, arith}
use Rattle.std.proofs.Math.Nat.{mul-le-mul_left}

-- one part and the others make all
pub split_bits : (bits symbols parts : ℕ) → 1 ≤ parts → bits * (symbols * (parts - 1)) + bits * symbols ≡ bits * (symbols * parts)
split_bits bits symbols zero h = absurd (omega arith)
split_bits bits symbols (suc more) h =
    let back : suc more - 1 ≡ more = omega arith in
    let sum : bits * (symbols * more) + bits * symbols ≡ bits * (symbols * suc more) = omega arith in
    ap (λ n. bits * (symbols * n) + bits * symbols) back ∙ sum

pub split_symbols : (symbols parts : ℕ) → 1 ≤ parts → symbols * (parts - 1) + symbols ≡ symbols * parts
split_symbols symbols zero h = absurd (omega arith)
split_symbols symbols (suc more) h =
    let back : suc more - 1 ≡ more = omega arith in
    let sum : symbols * more + symbols ≡ symbols * suc more = omega arith in
    ap (λ n. symbols * n + symbols) back ∙ sum

-- what stands above a part
pub below_all : (bits symbols parts part : ℕ) → part < parts → bits * (symbols * part) + bits * symbols ≤ bits * (symbols * parts)
below_all bits symbols parts part h =
    let most : symbols * suc part ≤ symbols * parts = mul-le-mul_left symbols (omega arith) in
    let all : bits * (symbols * suc part) ≤ bits * (symbols * parts) = mul-le-mul_left bits most in
    let sum : bits * (symbols * suc part) ≡ bits * (symbols * part) + bits * symbols = omega arith in
    omega (arith, all, sum)

-- several parts of a size are more than one
pub more_parts : (size parts : ℕ) → 2 ≤ parts → 0 < size → size ≡ size * parts → ⊥
more_parts size zero several some e = omega (arith, several)
more_parts size (suc zero) several some e = omega (arith, several)
more_parts size (suc (suc more)) several some e = let spread : size * suc (suc more) ≡ size + size + size * more = omega arith in omega (arith, some, e, spread)
