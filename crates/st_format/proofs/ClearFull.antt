-- A source none of whose beats has an empty symbol.
use Rattle.std.proofs.Common.{◌≡◌, ℕ, ◌-◌, ◌≤◌, Bool, true, false, ◌==◌, if◌then◌else◌, IsTrue, refl, arith}
use Rattle.std.proofs.lemmas.Bool.{both_ways}
use Rattle.stream_runs.specs.View.{EndView, Side, beat_at}
use Rattle.stream_runs.specs.Symbols.{value_of}
use Rattle.stream_runs.specs.Source.{IsLegalSource, IsWellFormed, is_open, channel_before}
use Rattle.stream_machines.specs.Words.{ShowsClear}

pub full_clear : (side : Side) (view : EndView) (count : ℕ) → (IsTrue side.packets → side.symbols ≤ 1) → IsLegalSource side view count → ShowsClear side view count
full_clear side view count few legal c lt v k from below = by_last (view.last c == 1) refl from
  where
    formed : IsWellFormed side (is_open side.pace view c) (channel_before side.pace view c) (beat_at view c)
    formed = (legal c lt).formed v

    by_packets : (p : Bool) → side.packets ≡ p → (view.last c == 1) ≡ true → side.symbols - view.empty c ≤ k → value_of side (view.word c) k ≡ 0
    by_packets true e l h = let one = few e in let holds = formed.holds_data l in absurd (omega (arith, one, holds, h, below))
    by_packets false e l h = absurd (both_ways _ (formed.unmarked e).1 l)

    by_last : (l : Bool) → (view.last c == 1) ≡ l → (if l then side.symbols - view.empty c else side.symbols) ≤ k → value_of side (view.word c) k ≡ 0
    by_last true e h = by_packets side.packets refl e h
    by_last false e h = absurd (omega (arith, h, below))
