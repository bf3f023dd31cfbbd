-- The symbols of a part of a word.
use Rattle.std.proofs.Common.{◌≡◌, ℕ, ◌+◌, ◌-◌, ◌*◌, ◌/◌, ◌%◌, ◌^◌, ◌<◌, true, ap, ◌∙◌, arith}
use Rattle.std.proofs.lemmas.Nat.{field_of, shr-shr}
use Rattle.std.proofs.Math.Pow.{mod-mod-pow}
use Rattle.stream_runs.specs.View.{Side}
use Rattle.stream_runs.specs.Symbols.{value_of}

-- symbol place of part number part of a word, both counted from the low-order end, with so many symbols a part
pub symbol_of_part : (word bits size part place : ℕ) → place < size
    → word / 2 ^ (bits * (size * part)) % 2 ^ (bits * size) / 2 ^ (bits * place) % 2 ^ bits ≡ word / 2 ^ (bits * (size * part + place)) % 2 ^ bits
symbol_of_part word bits size part place h =
    let rest : ℕ = size - place - 1 in
    let whole : size ≡ rest + 1 + place = omega arith in
    let width : bits * size ≡ bits * rest + bits + bits * place = ap (λ n. bits * n) whole ∙ omega arith in
    let cut : word / 2 ^ (bits * (size * part)) % 2 ^ (bits * rest + bits + bits * place) / 2 ^ (bits * place) ≡ word / 2 ^ (bits * (size * part)) / 2 ^ (bits * place) % 2 ^ (bits * rest + bits) =
    field_of (word / 2 ^ (bits * (size * part))) (bits * rest + bits) (bits * place) in
    let joined : bits * (size * part) + bits * place ≡ bits * (size * part + place) = omega arith in
    ap (λ n. word / 2 ^ (bits * (size * part)) % 2 ^ n / 2 ^ (bits * place) % 2 ^ bits) width
    ∙ (ap (λ n. n % 2 ^ bits) cut
    ∙ (mod-mod-pow (word / 2 ^ (bits * (size * part)) / 2 ^ (bits * place)) (bits * rest) bits
    ∙ (ap (λ n. n % 2 ^ bits) (shr-shr word (bits * (size * part)) (bits * place)) ∙ ap (λ n. word / 2 ^ n % 2 ^ bits) joined)))

-- the piece of a beat with the first symbol in the high-order bits: piece number piece of parts
abbrev pub piece_of : ℕ → ℕ → ℕ → ℕ → ℕ → ℕ
piece_of bits size parts word piece = word / 2 ^ (bits * (size * (parts - 1 - piece))) % 2 ^ (bits * size)

-- a piece has the symbols that stand at its place in the beat, in symbol order
pub value_of-piece : (wide narrow : Side) (parts word piece place : ℕ) → wide.first_high ≡ true → narrow.first_high ≡ true → narrow.symbol_bits ≡ wide.symbol_bits → wide.symbols ≡ narrow.symbols * parts
    → piece < parts → place < narrow.symbols → value_of narrow (piece_of narrow.symbol_bits narrow.symbols parts word piece) place ≡ value_of wide word (narrow.symbols * piece + place)
value_of-piece wide narrow parts word piece place high high' bits size h l =
    let inner : narrow.symbols - 1 - place < narrow.symbols = omega arith in
    let back : parts ≡ (parts - 1 - piece) + 1 + piece = omega arith in
    let product : narrow.symbols * parts ≡ narrow.symbols * (parts - 1 - piece) + narrow.symbols + narrow.symbols * piece = ap (λ n. narrow.symbols * n) back ∙ omega arith in
    let place_is : narrow.symbols * (parts - 1 - piece) + (narrow.symbols - 1 - place) ≡ wide.symbols - 1 - (narrow.symbols * piece + place) = omega (arith, size, product) in
    rw (high, high') (symbol_of_part word narrow.symbol_bits narrow.symbols (parts - 1 - piece) (narrow.symbols - 1 - place) inner
    ∙ (ap (λ n. word / 2 ^ (narrow.symbol_bits * n) % 2 ^ narrow.symbol_bits) place_is ∙ ap (λ b. word / 2 ^ (b * (wide.symbols - 1 - (narrow.symbols * piece + place))) % 2 ^ b) bits))
