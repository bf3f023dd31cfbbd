use Rattle.std.proofs.Common.{◌≡◌, ℕ, zero, suc, ◌^◌, ◌≤◌, arith}
use Rattle.command_nets.proofs.words.lane_bits.Goals as goal

sixteen : (bytes k : ℕ) → k ≤ 4 → bytes ≡ 2 ^ k → (bytes ≡ 1 → ⊥) → (bytes ≡ 2 → ⊥) → (bytes ≡ 4 → ⊥) → (bytes ≡ 8 → ⊥) → bytes ≡ 16
sixteen bytes zero few e a b d f = absurd (a e)
sixteen bytes (suc zero) few e a b d f = absurd (b e)
sixteen bytes (suc (suc zero)) few e a b d f = absurd (d e)
sixteen bytes (suc (suc (suc zero))) few e a b d f = absurd (f e)
sixteen bytes (suc (suc (suc (suc zero)))) few e a b d f = e
sixteen bytes (suc (suc (suc (suc (suc k))))) few e a b d f = absurd (omega arith)

pub returns-else-word_bytes-eq8-clause-power : goal.returns-else-word_bytes-eq8-clause-power
returns-else-word_bytes-eq8-clause-power c = sixteen _ c.requires.exponent c.requires.small c.requires.power c.if-word_bytes-eq1.false c.if-word_bytes-eq2.false c.if-word_bytes-eq4.false c.if-word_bytes-eq8.false
