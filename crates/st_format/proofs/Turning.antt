-- The word whose symbols are put in the other order one by one.
use Rattle.std.proofs.Common.{◌≡◌, ℕ, zero, suc, ◌+◌, ◌*◌, ◌/◌, ◌%◌, ◌^◌, ◌<◌, ◌≤◌, sym, ap, ◌∙◌, arith}
use Rattle.std.proofs.Math.Nat.{add-mul, mul_assoc, mul-le-mul_left, mod-eq_of_lt}
use Rattle.std.proofs.lemmas.Nat.{shr-shr, pow-add}
use Rattle.netlist.specs.Nets.{NetValue}
use Rattle.netlist.specs.Netlists.{Netlist}
use Rattle.netlist.specs.Runs.{Always}
use Rattle.stream_machines.specs.Words.{turned_word}
use Rattle.net_parts.specs.Nets.{IsNetOfWidth}
use Rattle.net_parts.specs.Growth.{AddsNets}

-- the first symbols are turned
pub record AreTurned (bits done : ℕ) (word turned : NetValue) (old new : Netlist) : Type 0 where
  pub some : 1 ≤ done
  pub adds : AddsNets (2 * done) old new
  pub net : IsNetOfWidth new turned (bits * done)
  pub value : Always new (λ cycle. cycle.net turned.number ≡ turned_word bits done (cycle.net word.number))

-- a symbol more, behind those that are turned
pub turned_more : (bits done word : ℕ) → turned_word bits (suc done) word ≡ turned_word bits done word * 2 ^ bits + word / 2 ^ (bits * done) % 2 ^ bits
turned_more bits zero word =
    let none : bits * 0 ≡ 0 = omega arith in
    let one : 2 ^ (bits * 0) ≡ 1 = ap (λ n. 2 ^ n) none in
    let whole : word / 1 ≡ word = omega arith in
    rw (one, whole) (omega arith)
turned_more bits (suc done) word =
    let sum : bits * suc done ≡ bits * done + bits = omega arith in
    let power : 2 ^ (bits * suc done) ≡ 2 ^ (bits * done) * 2 ^ bits = ap (λ n. 2 ^ n) sum ∙ pow-add 2 (bits * done) bits in
    let turned : bits + bits * done ≡ bits * suc done = omega arith in
    let before : turned_word bits (suc done) (word / 2 ^ bits) ≡ turned_word bits done (word / 2 ^ bits) * 2 ^ bits + word / 2 ^ (bits * suc done) % 2 ^ bits =
    turned_more bits done (word / 2 ^ bits) ∙ ap (λ n. turned_word bits done (word / 2 ^ bits) * 2 ^ bits + n % 2 ^ bits) (shr-shr word bits (bits * done) ∙ ap (λ n. word / 2 ^ n) turned) in
    added (word % 2 ^ bits) (2 ^ (bits * done)) (2 ^ bits) (2 ^ (bits * suc done)) (turned_word bits done (word / 2 ^ bits)) (turned_word bits (suc done) (word / 2 ^ bits)) (word / 2 ^ (bits * suc done) % 2 ^ bits) power before
  where
    added : (low p b q x more symbol : ℕ) → q ≡ p * b → more ≡ x * b + symbol → low * q + more ≡ (low * p + x) * b + symbol
    added low p b q x more symbol power before =
        let spread = add-mul (low * p) x b in
        let turn = mul_assoc low p b in
        let same = ap (λ n. low * n) power in
        omega (arith, spread, turn, same, before)

-- what stands above a symbol
pub below_width : (bits place symbols : ℕ) → place < symbols → bits * place + bits ≤ bits * symbols
below_width bits place symbols h =
    let most : bits * suc place ≤ bits * symbols = mul-le-mul_left bits (omega arith) in
    let sum : bits * suc place ≡ bits * place + bits = omega arith in
    omega (arith, most, sum)

-- a single symbol needs no turn
pub turned_one : (bits word : ℕ) → word < 2 ^ bits → word ≡ turned_word bits 1 word
turned_one bits word fits =
    let none : bits * 0 ≡ 0 = omega arith in
    let one : 2 ^ (bits * 0) ≡ 1 = ap (λ n. 2 ^ n) none in
    let bare : word % 2 ^ bits ≡ word % 2 ^ bits * 1 + 0 = omega arith in
    sym (mod-eq_of_lt fits) ∙ bare ∙ ap (λ n. word % 2 ^ bits * n + 0) (sym one)
