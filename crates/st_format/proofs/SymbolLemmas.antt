-- The symbols of words that are cut or shifted.
use Rattle.std.proofs.Common.{◌≡◌, ℕ, ◌+◌, ◌-◌, ◌*◌, ◌/◌, ◌%◌, ◌^◌, ◌<◌, ◌≤◌, true, if◌then◌else◌, sym, ap, ◌∙◌, arith}
use Rattle.std.proofs.lemmas.Nat.{shr-shr, shl-shr, pow-add, pow_pos}
use Rattle.std.proofs.Math.Nat.{mod-eq_of_lt, add-mul-mod_self_right}
use Rattle.stream_runs.specs.View.{Side}
use Rattle.stream_runs.specs.Symbols.{value_of}
use Rattle.st_format.proofs.PartsLemmas.{cut_above}

above_one : (b above place : ℕ) → b * (above + 1 + place) ≡ (b * above + b) + b * place
above_one b above place = omega arith

-- below a cut
pub cut_symbol : (x b top place : ℕ) → place < top → x % 2 ^ (b * top) / 2 ^ (b * place) % 2 ^ b ≡ x / 2 ^ (b * place) % 2 ^ b
cut_symbol x b top place below =
    let sum : top ≡ (top - 1 - place) + 1 + place = omega (arith, below) in
    ap (λ n. x % 2 ^ n / 2 ^ (b * place) % 2 ^ b) (ap (λ n. b * n) sum ∙ above_one b (top - 1 - place) place) ∙ cut_above x (b * place) (b * (top - 1 - place)) b

-- where a shift brings a symbol
pub shifted_symbol : (x b d place : ℕ) → d ≤ place → x * 2 ^ (b * d) / 2 ^ (b * place) % 2 ^ b ≡ x / 2 ^ (b * (place - d)) % 2 ^ b
shifted_symbol x b d place above =
    let sum : place ≡ d + (place - d) = omega (arith, above) in
    let parted : b * place ≡ b * d + b * (place - d) = ap (λ n. b * n) sum ∙ spread b d (place - d) in
    ap (λ n. x * 2 ^ (b * d) / 2 ^ n % 2 ^ b) parted
    ∙ ap (λ n. n % 2 ^ b) (sym (shr-shr (x * 2 ^ (b * d)) (b * d) (b * (place - d))))
    ∙ ap (λ n. n / 2 ^ (b * (place - d)) % 2 ^ b) (shl-shr x (b * d))
  where
    spread : (b d e : ℕ) → b * (d + e) ≡ b * d + b * e
    spread b d e = omega arith

-- and where it brings none
pub shifted_none : (x b d place : ℕ) → place < d → x * 2 ^ (b * d) / 2 ^ (b * place) % 2 ^ b ≡ 0
shifted_none x b d place below =
    let above = d - 1 - place in
    let sum : d ≡ above + 1 + place = omega (arith, below) in
    let parted : b * d ≡ (b * above + b) + b * place = ap (λ n. b * n) sum ∙ above_one b above place in
    let power : 2 ^ (b * d) ≡ 2 ^ (b * above) * 2 ^ b * 2 ^ (b * place) = ap (λ n. 2 ^ n) parted ∙ pow-add 2 (b * above + b) (b * place) ∙ ap (λ n. n * 2 ^ (b * place)) (pow-add 2 (b * above) b) in
    let bare : x * 2 ^ (b * above) * 2 ^ b ≡ 0 + x * 2 ^ (b * above) * 2 ^ b = omega arith in
    ap (λ n. n / 2 ^ (b * place) % 2 ^ b) (ap (λ n. x * n) power ∙ grouped x (2 ^ (b * above)) (2 ^ b) (2 ^ (b * place)))
    ∙ ap (λ n. n % 2 ^ b) (shl-shr (x * 2 ^ (b * above) * 2 ^ b) (b * place))
    ∙ ap (λ n. n % 2 ^ b) bare
    ∙ add-mul-mod_self_right 0 (x * 2 ^ (b * above)) (2 ^ b)
    ∙ mod-eq_of_lt (pow_pos b)
  where
    grouped : (x p q r : ℕ) → x * (p * q * r) ≡ x * p * q * r
    grouped x p q r = omega arith

-- where the first symbol has the high-order bits
pub high_value : (side : Side) (word k : ℕ) → side.first_high ≡ true → value_of side word k ≡ word / 2 ^ (side.symbol_bits * (side.symbols - 1 - k)) % 2 ^ side.symbol_bits
high_value side word k high = ap (λ t. word / 2 ^ (side.symbol_bits * (if t then side.symbols - 1 - k else k)) % 2 ^ side.symbol_bits) high
