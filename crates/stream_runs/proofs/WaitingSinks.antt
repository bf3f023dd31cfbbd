-- A sink that waits for a beat before it shows ready is served.
use Rattle.std.proofs.Common.{◌≡◌, ◌⊎◌, ℕ, zero, suc, ◌+◌, ◌-◌, ◌≤◌, ◌<◌, false, IsTrue, ap, sym, ◌∙◌, subst, inl, inr, arith, eqb}
use Rattle.std.proofs.lemmas.Bool.{and_from, or_right, both_ways}
use Rattle.stream_runs.specs.View.{is_high, is_transfer}
use Rattle.stream_runs.specs.Source.{IsProperAtSink}
use Rattle.stream_runs.specs.Delivery.{Stream, StreamRun}
use Rattle.stream_runs.specs.Awake.{Throughout, Sometime, makes_beat, on_the_way, NeverIdles, AnswersWithin}
use Rattle.stream_runs.specs.Laws.{some_or_none}

module _ (patience : ℕ) (stream : Stream) (run : StreamRun) (count : ℕ) (proper : IsProperAtSink stream.sink run.sink count) where
  -- a beat that is shown stands as long as it isn't taken
  stands : (start : ℕ) → start + patience ≤ count → IsTrue (is_high run.sink.valid start)
      → Throughout start patience (λ c. is_transfer stream.sink.pace run.sink c ≡ false) → (k : ℕ) → k < patience → IsTrue (is_high run.sink.valid (start + k))
  stands start h shown kept zero k = let same : start ≡ start + 0 = omega arith in subst (λ n. IsTrue (is_high run.sink.valid n)) same shown
  stands start h shown kept (suc j) k =
      let before : IsTrue (is_high run.sink.valid (start + j)) = stands start h shown kept j (omega arith) in
      let held = (proper (suc (start + j)) (omega arith)).held before (kept (start + j) (omega arith) (omega arith)) in
      let next : suc (start + j) ≡ start + suc j = omega arith in
      subst (λ n. IsTrue (is_high run.sink.valid n)) next (ap (λ v. eqb v 1) (sym held.valid) ∙ before)

  stands_throughout : (start : ℕ) → start + patience ≤ count → IsTrue (is_high run.sink.valid start)
      → Throughout start patience (λ c. is_transfer stream.sink.pace run.sink c ≡ false) → Throughout start patience (λ c. IsTrue (is_high run.sink.valid c))
  stands_throughout start h shown kept c from to =
      let same : start + (c - start) ≡ c = omega arith in
      subst (λ n. IsTrue (is_high run.sink.valid n)) same (stands start h shown kept (c - start) (omega arith))

pub waiting_sink_served : (window patience : ℕ) (stream : Stream) (run : StreamRun) (count : ℕ) → NeverIdles window stream run count → IsProperAtSink stream.sink run.sink count
    → stream.sink.pace.latency ≡ 0 → AnswersWithin patience run.sink count
    → (start : ℕ) → start + (window + patience) ≤ count
    → Throughout start (window + patience) (λ c. IsTrue (makes_beat stream.sink.symbols (on_the_way stream run c)))
    → Sometime start (window + patience) (λ c. IsTrue (is_transfer stream.sink.pace run.sink c))
waiting_sink_served window patience stream run count awake proper direct answers start h work =
    let (shown, from, to, valid) = awake.shows direct start (omega arith) (λ c from to. work c from (omega arith)) in
    by_patience shown from to valid (some_or_none (is_transfer stream.sink.pace run.sink) shown patience)
  where
    by_patience : (shown : ℕ) → start ≤ shown → shown < start + window → IsTrue (is_high run.sink.valid shown)
        → Sometime shown patience (λ c. IsTrue (is_transfer stream.sink.pace run.sink c)) ⊎ Throughout shown patience (λ c. is_transfer stream.sink.pace run.sink c ≡ false)
        → Sometime start (window + patience) (λ c. IsTrue (is_transfer stream.sink.pace run.sink c))
    by_patience shown from to valid (inl (c, first, last, moves)) = (c, omega arith, omega arith, moves)
    by_patience shown from to valid (inr kept) =
        let standing : Throughout shown patience (λ c. IsTrue (is_high run.sink.valid c)) = stands_throughout patience stream run count proper shown (omega arith) valid kept in
        let (c, first, last, ready) = answers shown (omega arith) standing in
        absurd (both_ways _ (kept c first last) (and_from _ _ (standing c first last) (or_right _ _ ready)))
