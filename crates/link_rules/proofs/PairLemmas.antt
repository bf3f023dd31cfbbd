-- Tests by their numbers.
use Rattle.std.proofs.Common.{◌≡◌, ℕ, ◌<◌, ◌≤◌, ◌⊎◌, inl, inr, zero, suc, Bool, false, List, length, arith}
use Rattle.std.proofs.lemmas.Bool.{cases_lt}
use Rattle.std.proofs.lemmas.List.{get_or_past}
use Rattle.link_rules.specs.Pairs.{fails, KeepsAll}

fails-past : (tests : List Bool) (rule : ℕ) → length tests < rule → fails tests rule ≡ false
fails-past tests zero past = absurd (omega arith)
fails-past tests (suc k) past = get_or_past tests k false (omega arith)

-- where none of the tests by their numbers is true, none is
pub KeepsAll-from_numbers : (tests : List Bool) (end : ℕ) → length tests < end → ((k : ℕ) → k < end → fails tests k ≡ false) → KeepsAll tests
KeepsAll-from_numbers tests end all none rule = by (cases_lt rule end)
  where
    by : (rule < end) ⊎ (end ≤ rule) → fails tests rule ≡ false
    by (inl h) = none rule h
    by (inr h) = fails-past tests rule (omega arith)
