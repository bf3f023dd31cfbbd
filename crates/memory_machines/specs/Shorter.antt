-- What holds of a path up to a cycle holds of it up to each earlier one.
use Rattle.std.specs.Prelude.{ℕ, ◌≤◌}
use Rattle.std.proofs.Math.Nat.{lt_of_lt_of_le}
use Rattle.memory_runs.specs.Shorter.{legal_before}
use Rattle.memory_machines.specs.Link.{Port, AreLegalAt}

pub legal_at_before : (port : Port) (shorter end : ℕ) → shorter ≤ end → AreLegalAt port end → AreLegalAt port shorter
legal_at_before port shorter end h legal = record {
  legal = legal_before _ _ _ shorter end h legal.legal;
  tag = λ c low. legal.tag c (lt_of_lt_of_le low h);
  more = λ c low. legal.more c (lt_of_lt_of_le low h);
  joined = λ c low. legal.joined c (lt_of_lt_of_le low h);
}
