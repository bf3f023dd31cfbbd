-- The reads that go along a row, each with its tag.
use Rattle.std.proofs.Common.{◌≡◌, ℕ, zero, suc, ◌+◌, ◌-◌, ◌<◌, Bool, true, false, if◌then◌else◌, Option, Some, None, refl, sym, ap, ◌∙◌, arith}
use Rattle.std.proofs.lemmas.Bool.{le-leb}
use Rattle.std.specs.Prelude.{is_some, MatchOption}
use Rattle.histories.specs.History.{is_raised}
use Rattle.net_parts.specs.Histories.{earlier}
use Rattle.net_parts.specs.HistoryLaw.{earlier_none, earlier_one, earlier_more}
use Rattle.memory_machines.specs.Link.{Port}
use Rattle.memory_parts.specs.Queue.{takes_read}

-- the tag of the read that was taken so many cycles ago, and one more
abbrev pub row_at : Port → ℕ → ℕ → Option ℕ
row_at port zero i = None
row_at port (suc c) zero = if takes_read port c then Some (port.commands.tag c) else None
row_at port (suc c) (suc i) = row_at port c i

came : (t : Bool) (x : ℕ) → t ≡ is_some (if t then Some x else None)
came true x = refl
came false x = refl

pub row_filled : (port : Port) (taken : ℕ → ℕ) → ((d : ℕ) → is_raised (taken d) ≡ takes_read port d) → (c i : ℕ) → is_raised (earlier taken (suc i) c) ≡ is_some (row_at port c i)
row_filled port taken same zero i = ap is_raised (earlier_none taken i)
row_filled port taken same (suc c) zero = ap is_raised (earlier_one taken c) ∙ same c ∙ came (takes_read port c) (port.commands.tag c)
row_filled port taken same (suc c) (suc i) = ap is_raised (earlier_more taken (suc i) c) ∙ row_filled port taken same c i

-- a signal that is delayed by one cycle more
pub earlier_step : (from late next : ℕ → ℕ) (count n cycles : ℕ) → ((d : ℕ) → d < cycles → late d ≡ earlier from count d) → (0 < cycles → next 0 ≡ 0) → ((d : ℕ) → d + 1 < cycles → next (d + 1) ≡ late d) → n < cycles → next n ≡ earlier from (suc count) n
earlier_step from late next count zero cycles h starts moves lt = starts lt ∙ sym (earlier_none from count)
earlier_step from late next count (suc n) cycles h starts moves lt =
    let one : suc n ≡ n + 1 = omega arith in
    ap next one ∙ moves n (omega arith) ∙ h n (omega arith) ∙ sym (earlier_more from count n)

pub earlier_now : (from : ℕ → ℕ) (c : ℕ) → from c ≡ earlier from 0 c
earlier_now from c = let same : c ≡ c - 0 = omega arith in rw (le-leb 0 c (omega arith)) (ap from same)

-- the tag that went along the row beside a read
pub row_late : (port : Port) (x c i : ℕ) → x ≡ earlier port.commands.tag (suc i) c → MatchOption (row_at port c i) (Unit {0}) (λ t. x ≡ t)
row_late port x zero i e = tt
row_late port x (suc c) zero e = by_taken (takes_read port c)
  where
    by_taken : (t : Bool) → MatchOption (if t then Some (port.commands.tag c) else None) (Unit {0}) (λ t. x ≡ t)
    by_taken true = e ∙ earlier_one port.commands.tag c
    by_taken false = tt
row_late port x (suc c) (suc i) e = row_late port x c i (e ∙ earlier_more port.commands.tag (suc i) c)

-- where all commands bear one tag
pub row_tagged : (port : Port) (tag x : ℕ) → ((d : ℕ) → port.commands.tag d ≡ tag) → x ≡ tag → (c i : ℕ) → MatchOption (row_at port c i) (Unit {0}) (λ t. x ≡ t)
row_tagged port tag x same e zero i = tt
row_tagged port tag x same e (suc c) zero = by_taken (takes_read port c)
  where
    by_taken : (t : Bool) → MatchOption (if t then Some (port.commands.tag c) else None) (Unit {0}) (λ t. x ≡ t)
    by_taken true = e ∙ sym (same c)
    by_taken false = tt
row_tagged port tag x same e (suc c) (suc i) = row_tagged port tag x same e c i
