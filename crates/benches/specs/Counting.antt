-- What several components count together.
use Rattle.std.specs.Prelude.{ℕ, ◌+◌, ◌*◌, ◌^◌, ◌<◌, ◌≤◌, List, sum_by}
use Rattle.trace_lines.specs.declared.counts.Counts.{Counts}

-- no count of one cycle is larger than this
pub record AreFew (counts : Counts) : Type 0 where
  pub taken : counts.taken ≤ 65535
  pub answered : counts.answered ≤ 65535
  pub delivered : counts.delivered ≤ 65535
  pub dropped : counts.dropped ≤ 65535

-- so many components can be counted besides
pub record HaveRoom (components : ℕ) (counts : Counts) : Type 0 where
  pub taken : counts.taken + 65535 * components < 2 ^ 64
  pub answered : counts.answered + 65535 * components < 2 ^ 64
  pub delivered : counts.delivered + 65535 * components < 2 ^ 64
  pub dropped : counts.dropped + 65535 * components < 2 ^ 64

-- what they count together
abbrev pub counted_together : {C : Type 0} → (C → Counts) → List C → Counts
counted_together {C} counts components = record {
  taken = sum_by (λ (c : C). (counts c).taken) components;
  answered = sum_by (λ (c : C). (counts c).answered) components;
  delivered = sum_by (λ (c : C). (counts c).delivered) components;
  dropped = sum_by (λ (c : C). (counts c).dropped) components;
}
