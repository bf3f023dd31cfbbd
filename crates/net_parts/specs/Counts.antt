-- How many bits are high.
use Rattle.std.specs.Prelude.{◌≡◌, ℕ, zero, suc, ◌+◌, ◌*◌, ◌%◌, ◌^◌, ◌<◌}
use Rattle.std.proofs.Common.{ap, ◌∙◌, arith}
use Rattle.std.proofs.Math.Nat.{mod-eq_of_lt}
use Rattle.std.specs.Int.{bit_at}
use Rattle.netlist.specs.Nets.{NetValue}
use Rattle.netlist.specs.Netlists.{Netlist}
use Rattle.netlist.specs.Runs.{Always}
use Rattle.netlist.specs.Longer.{Extends}
use Rattle.net_parts.specs.Nets.{IsNetOfWidth}
use Rattle.net_parts.specs.Laws.{net_lasts}

-- how many of a number's lowest bits are high
abbrev pub high_bits : ℕ → ℕ → ℕ
high_bits zero x = 0
high_bits (suc n) x = high_bits n x + bit_at x n

-- the four zeros that stand above a bit in a summand
pub record AreZeros (netlist : Netlist) (zeros : NetValue) : Type 0 where
  pub net : IsNetOfWidth netlist zeros 4
  pub value : Always netlist (λ cycle. cycle.net zeros.number ≡ 0)

-- ---- laws. No contract reads a proof of these

-- a sum of five bits that has room takes a bit, with four zeros above it
pub bit_added : (w k z s b t m : ℕ) → w ≡ 5 → k ≡ 1 → z ≡ 0 → s < 31 → b < 2 → t ≡ z * 2 ^ k + b → m ≡ (s + t) % 2 ^ w → m ≡ s + b
bit_added w k z s b t m five one none small bit is sum =
    let whole : t ≡ b = is ∙ (ap (λ n. n * 2 ^ k + b) none ∙ omega arith) in
    sum ∙ ap (λ n. (s + n) % 2 ^ w) whole ∙ ap (λ n. (s + b) % 2 ^ n) five ∙ mod-eq_of_lt (omega arith)

pub zeros_last : (a b : Netlist) (zeros : NetValue) → Extends a b → AreZeros a zeros → AreZeros b zeros
zeros_last a b zeros e h = record { net = net_lasts a b zeros 4 e h.net; value = λ cycle v. h.value cycle (e.valuations cycle v) }
