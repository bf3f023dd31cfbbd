-- A queue behind a stage lets it take beats in.
use Rattle.std.proofs.Common.{◌≡◌, ℕ, ◌+◌, ◌-◌, ◌*◌, ◌≤◌, ◌<◌, Bool, true, false, cond, IsTrue, ◌||◌, List, [], ◌∷◌, ◌++◌, map, length, drop, refl, ap, sym, ◌∙◌, subst, arith, eqb}
use Rattle.std.proofs.lemmas.List.{length-map, drop-map, drop-append-le}
use Rattle.std.proofs.lemmas.Bool.{both_ways}
use Rattle.histories.specs.History.{IsPrefix}
use Rattle.histories.specs.Laws.{prefix_trans}
use Rattle.stream_runs.specs.Laws.{length_in_order}
use Rattle.stream_runs.specs.View.{Side, Beat, is_high}
use Rattle.stream_runs.specs.Symbols.{Symbol, without_error, transferred_symbols, kept_symbols}
use Rattle.stream_runs.specs.Source.{IsLegalSource, IsLegalAt}
use Rattle.stream_runs.specs.Awake.{Throughout, Sometime, undelivered, beats_begun, beats_with_room}
use Rattle.stream_machines.specs.Stage.{Shape, StageRun, StageLaw, KeepsStageLaw, IsStill, inside}
use Rattle.stream_machines.specs.Parts.{plain_run}
use Rattle.stream_machines.specs.Buffers.{IsQueueRun, buffer_shape, direct_side}
use Rattle.stream_machines.proofs.Kept.{kept_in_middle}
use Rattle.stream_machines.proofs.Direct.{ready_at_once}
use Rattle.stream_machines.proofs.AwakeLaw.{stage_accepts}
use Rattle.stream_machines.proofs.BuffersLaw.{queue_keeps, queue_has_room}

-- a beginning stays one where as much is left out of both
prefix_drop : (k : ℕ) (xs ys : List Symbol) → IsPrefix xs ys → k ≤ length xs → IsPrefix (drop k xs) (drop k ys)
prefix_drop k xs ys p h = record { rest = p.rest; joins = sym (drop-append-le k xs p.rest h) ∙ ap (drop k) p.joins }

beats-without_error : (size room : ℕ) (xs : List Symbol) → beats_with_room size room (map without_error xs) ≡ beats_with_room size room xs
beats-without_error size room [] = refl
beats-without_error size room (x ∷ xs) =
    by_test (eqb room 0 || x.first) (beats-without_error size (cond x.last 0 (size - 1)) xs) (beats-without_error size (cond x.last 0 (room - 1)) xs)
  where
    by_test : (b : Bool) → beats_with_room size (cond x.last 0 (size - 1)) (map without_error xs) ≡ beats_with_room size (cond x.last 0 (size - 1)) xs
        → beats_with_room size (cond x.last 0 (room - 1)) (map without_error xs) ≡ beats_with_room size (cond x.last 0 (room - 1)) xs
        → cond b (1 + beats_with_room size (cond x.last 0 (size - 1)) (map without_error xs)) (beats_with_room size (cond x.last 0 (room - 1)) (map without_error xs))
        ≡ cond b (1 + beats_with_room size (cond x.last 0 (size - 1)) xs) (beats_with_room size (cond x.last 0 (room - 1)) xs)
    by_test true p q = ap (λ k. 1 + k) p
    by_test false p q = q

more_beats : (size room : ℕ) (xs ys : List Symbol) → beats_with_room size room xs ≤ beats_with_room size room (xs ++ ys)
more_beats size room [] ys = omega arith
more_beats size room (x ∷ xs) ys =
    by_test (eqb room 0 || x.first) (more_beats size (cond x.last 0 (size - 1)) xs ys) (more_beats size (cond x.last 0 (room - 1)) xs ys)
  where
    by_test : (b : Bool) → beats_with_room size (cond x.last 0 (size - 1)) xs ≤ beats_with_room size (cond x.last 0 (size - 1)) (xs ++ ys)
        → beats_with_room size (cond x.last 0 (room - 1)) xs ≤ beats_with_room size (cond x.last 0 (room - 1)) (xs ++ ys)
        → cond b (1 + beats_with_room size (cond x.last 0 (size - 1)) xs) (beats_with_room size (cond x.last 0 (room - 1)) xs)
        ≤ cond b (1 + beats_with_room size (cond x.last 0 (size - 1)) (xs ++ ys)) (beats_with_room size (cond x.last 0 (room - 1)) (xs ++ ys))
    by_test true p q = omega (arith, p)
    by_test false p q = q

beats_in_front : (size room : ℕ) (xs ys : List Symbol) → IsPrefix (map without_error xs) (map without_error ys) → beats_with_room size room xs ≤ beats_with_room size room ys
beats_in_front size room xs ys p =
    let more = more_beats size room (map without_error xs) p.rest in
    let whole : beats_with_room size room (map without_error xs ++ p.rest) ≡ beats_with_room size room (map without_error ys) = ap (beats_with_room size room) p.joins in
    omega (arith, more, whole, beats-without_error size room xs, beats-without_error size room ys)

module _ (front rear : Shape) (one two : StageRun) (depth : ℕ) (held : ℕ → List Beat) (count : ℕ) (keeps_front : KeepsStageLaw front one) (queue : IsQueueRun depth front.down one.down two.up held)
    (keeps_rear : KeepsStageLaw rear two) (still : IsStill rear) (same_side : rear.up ≡ direct_side front.down) (passed : (channel : ℕ) → IsTrue (front.passes channel) → IsTrue (rear.passes channel))
    (no_need : front.needs_ready ≡ false) (direct : front.down.pace.latency ≡ 0) (some_down : 0 < front.down.symbols) (legal : IsLegalSource front.up one.up count) where
  -- the queue passes each channel
  abbrev all : ℕ → Bool
  all channel = true

  front_law : StageLaw front one count
  front_law = keeps_front.law count legal (λ need. absurd (both_ways _ no_need need))

  middle_legal : (c : ℕ) → c < count → IsLegalAt front.down one.down c
  middle_legal c h = keeps_front.legal c (λ b k. legal b (omega arith)) (λ need. absurd (both_ways _ no_need need))

  queue_stage : KeepsStageLaw (buffer_shape all depth front.down) (plain_run one.down two.up)
  queue_stage = queue_keeps all depth front.down one.down two.up held queue direct some_down (λ channel h. refl)

  queue_law : StageLaw (buffer_shape all depth front.down) (plain_run one.down two.up) count
  queue_law = queue_stage.law count middle_legal (λ need. absurd (cc))

  queued_legal : (c : ℕ) → c < count → IsLegalAt (direct_side front.down) two.up c
  queued_legal c h = queue_stage.legal c (λ b k. middle_legal b (omega arith)) (λ need. absurd (cc))

  rear_law : StageLaw rear two count
  rear_law = keeps_rear.law count (λ c h. subst (λ (side : Side). IsLegalAt side two.up c) (sym same_side) (queued_legal c h)) (λ need. absurd (both_ways _ still.needs_ready need))

  -- all that comes into the queue passes it
  came_kept : (c : ℕ) → c ≤ count → kept_symbols all front.down one.down c ≡ transferred_symbols front.down one.down c
  came_kept c h = kept_in_middle front.passes all (transferred_symbols front.up one.up c) (transferred_symbols front.down one.down c) (λ channel _. refl) (front_law.prefix.in_order c h)

  queue_order : (c : ℕ) → c ≤ count → IsPrefix (map without_error (transferred_symbols (direct_side front.down) two.up c)) (map without_error (transferred_symbols front.down one.down c))
  queue_order c h = subst (λ (xs : List Symbol). IsPrefix (map without_error (transferred_symbols (direct_side front.down) two.up c)) (map without_error xs)) (came_kept c h) (queue_law.prefix.in_order c h)

  -- and all that goes out of it passes what stands behind it
  went_kept : (c : ℕ) → c ≤ count → kept_symbols rear.passes (direct_side front.down) two.up c ≡ transferred_symbols (direct_side front.down) two.up c
  went_kept c h =
      kept_in_middle front.passes rear.passes (transferred_symbols front.up one.up c) (transferred_symbols (direct_side front.down) two.up c) passed
      (prefix_trans (queue_order c h) (front_law.prefix.in_order c h))

  -- as many symbols reach the sink as go out of the queue
  same_given : (c : ℕ) → c ≤ count → length (transferred_symbols rear.down two.down c) ≡ length (transferred_symbols (direct_side front.down) two.up c)
  same_given c h =
      let kept = subst (λ (side : Side). length (kept_symbols rear.passes side two.up c) ≤ length (transferred_symbols rear.down two.down c) + rear.hold) same_side (rear_law.hold c h) in
      let order = subst (λ (side : Side). IsPrefix (map without_error (transferred_symbols rear.down two.down c)) (map without_error (kept_symbols rear.passes side two.up c))) same_side (rear_law.prefix.in_order c h) in
      omega (arith, length_in_order _ _ order, kept, still.hold, ap length (went_kept c h))

  -- the queue's symbols are the first of the undelivered ones
  in_queue : (c : ℕ) → c ≤ count → IsPrefix (map without_error (inside (buffer_shape all depth front.down) (plain_run one.down two.up) c)) (map without_error (undelivered front.passes front.up rear.down one.up two.down c))
  in_queue c h =
      let least : length (transferred_symbols (direct_side front.down) two.up c) ≤ length (transferred_symbols front.down one.down c) = length_in_order _ _ (queue_order c h) in
      let first = prefix_drop (length (transferred_symbols (direct_side front.down) two.up c)) (map without_error (transferred_symbols front.down one.down c)) (map without_error (kept_symbols front.passes front.up one.up c))
      (front_law.prefix.in_order c h) (omega (arith, least, length-map (transferred_symbols front.down one.down c) without_error)) in
      let from : drop (length (transferred_symbols (direct_side front.down) two.up c)) (map without_error (transferred_symbols front.down one.down c)) ≡ map without_error (inside (buffer_shape all depth front.down) (plain_run one.down two.up) c) =
      drop-map without_error (length (transferred_symbols (direct_side front.down) two.up c)) (transferred_symbols front.down one.down c) ∙ ap (λ (xs : List Symbol). map without_error (drop (length (transferred_symbols (direct_side front.down) two.up c)) xs)) (sym (came_kept c h)) in
      let to : drop (length (transferred_symbols (direct_side front.down) two.up c)) (map without_error (kept_symbols front.passes front.up one.up c)) ≡ map without_error (undelivered front.passes front.up rear.down one.up two.down c) =
      drop-map without_error (length (transferred_symbols (direct_side front.down) two.up c)) (kept_symbols front.passes front.up one.up c) ∙ ap (λ j. map without_error (drop j (kept_symbols front.passes front.up one.up c))) (sym (same_given c h)) in
      subst (λ (xs : List Symbol). IsPrefix xs (map without_error (undelivered front.passes front.up rear.down one.up two.down c))) from
      (subst (λ (ys : List Symbol). IsPrefix (drop (length (transferred_symbols (direct_side front.down) two.up c)) (map without_error (transferred_symbols front.down one.down c))) ys) to first)

  queue_asks : (c : ℕ) → c < count → beats_begun front.down.symbols (undelivered front.passes front.up rear.down one.up two.down c) < depth → is_high one.down.ready c ≡ true
  queue_asks c h room =
      queue_has_room all depth front.down one.down two.up held queue direct some_down (λ channel k. refl) c (λ b k. middle_legal b (omega arith))
      (omega (arith, room, beats_in_front front.down.symbols 0 _ _ (in_queue c (omega arith))))

-- a stage before a queue with room for a source beat, behind which nothing is held, shows ready in a long enough window
pub queue_takes_in : (front rear : Shape) (one two : StageRun) (depth : ℕ) (held : ℕ → List Beat) (count : ℕ) → KeepsStageLaw front one → IsQueueRun depth front.down one.down two.up held
    → KeepsStageLaw rear two → IsStill rear → rear.up ≡ direct_side front.down → ((channel : ℕ) → IsTrue (front.passes channel) → IsTrue (rear.passes channel))
    → front.needs_ready ≡ false → front.down.pace.latency ≡ 0 → front.up.pace.latency ≤ front.up.pace.allowance → 0 < front.up.symbols → 0 < front.down.symbols
    → IsLegalSource front.up one.up count → (start width : ℕ) → start + width ≤ count
    → front.largest + (front.step + 1) * (front.hold + front.up.pace.allowance * front.up.symbols) < width
    → Throughout start width (λ c. beats_begun front.down.symbols (undelivered front.passes front.up rear.down one.up two.down c) + front.up.symbols ≤ depth)
    → Sometime start width (λ c. IsTrue (is_high one.up.ready c))
queue_takes_in front rear one two depth held count keeps_front queue keeps_rear still same_side passed no_need direct ordered some_up some_down legal start width h long room =
    stage_accepts front one count (keeps_front.law count legal (λ need. absurd (both_ways _ no_need need))) legal ordered start width h long
    (λ c from to. ready_at_once front.down.pace one.down c direct
    (queue_asks front rear one two depth held count keeps_front queue keeps_rear still same_side passed no_need direct some_down legal c (omega arith) (omega (arith, room c from to, some_up))))
