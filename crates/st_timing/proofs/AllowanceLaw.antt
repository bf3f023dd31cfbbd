-- The nets of a buffer behind a ready allowance are the machine of such a buffer.
use Rattle.std.proofs.Common.{◌≡◌, ℕ, zero, suc, ◌+◌, ◌<◌, ◌≤◌, ◌⊎◌, Bool, true, ◌&&◌, ◌==◌, nat_lt, if◌then◌else◌, List, [], ◌∷◌, ◌++◌, length, length-append, length-drop, map, sym, subst, ap, ◌∙◌, arith, inl, inr, drop}
use Rattle.std.proofs.lemmas.Bool.{lt-ltb, le-ltb, cases_lt, and_parts}
use Rattle.std.proofs.lemmas.List.{length-map, map-append}
use Rattle.histories.specs.History.{one_if, only_if}
use Rattle.netlist.specs.Nets.{NetValue}
use Rattle.netlist.specs.Netlists.{Netlist}
use Rattle.netlist.specs.Runs.{Cycle, Run, cycle_of, IsEndlessRun, IsValuation}
use Rattle.stream_runs.specs.View.{EndView, Side, Beat, is_transfer}
use Rattle.stream_runs.specs.Source.{IsLegalSource}
use Rattle.stream_machines.specs.Stage.{Shape, KeepsStageLaw, PassesReady, PassesAll}
use Rattle.stream_machines.specs.Parts.{plain_run}
use Rattle.stream_machines.specs.Buffers.{IsAllowanceRun, buffer_shape, zero_pace, taken_now}
use Rattle.stream_machines.specs.Allowances.{since, still_leaves, finds_place}
use Rattle.net_parts.specs.Groups.{values_of}
use Rattle.net_parts.specs.Memories.{SameWords}
use Rattle.item_queues.specs.Queues.{owns, owns_memories, IsInOrder, MayMove, HasMoved, held_in}
use Rattle.item_queues.specs.Laws.{held_count}
use Rattle.stage_core.specs.declared.beat.BeatNets.{BeatNets}
use Rattle.stage_core.specs.Beats.{view_of, ShowSame, beat_in, group_of}
use Rattle.stage_core.specs.BeatPlaces.{place_nets, beat_of}
use Rattle.stage_core.specs.Law.{KeepsShape, ReadyPasses}
use Rattle.stage_core.specs.StoredLaw.{one_dropped, one_more, shown_some, shows_items, stored_ignores}
use Rattle.st_timing.specs.declared.allowance.AllowanceKept.{AllowanceKept}
use Rattle.st_timing.specs.AllowanceNets.{IsAllowanceShape, AllowanceForward, AllowanceBackward}
use Rattle.st_timing.proofs.BufferLaw.{with_true, count_only}
use Rattle.st_timing.proofs.QueueOf.{queue_may}

-- of two places more than the allowance, one is left besides it where fewer than two are taken
two_left : (taken allowance : ℕ) → nat_lt taken 2 ≡ nat_lt (taken + allowance) (allowance + 2)
two_left taken allowance = by_case (cases_lt taken 2)
  where
    by_case : (taken < 2) ⊎ (2 ≤ taken) → nat_lt taken 2 ≡ nat_lt (taken + allowance) (allowance + 2)
    by_case (inl few) = lt-ltb taken 2 few ∙ sym (lt-ltb (taken + allowance) (allowance + 2) (omega (arith, few)))
    by_case (inr many) = le-ltb taken 2 many ∙ sym (le-ltb (taken + allowance) (allowance + 2) (omega (arith, many)))

module _ (kept : AllowanceKept) (to : BeatNets) (ready up : NetValue) (netlist : Netlist) (run : Run) (endless : IsEndlessRun netlist run) (side : Side) (allows : side.pace.allowance ≡ kept.buffer.allowance)
    (delayed : 0 < side.pace.latency) (larger : side.pace.latency < side.pace.allowance) (f : AllowanceForward kept.stored.from to kept kept.buffer.allowance netlist) (b : AllowanceBackward kept ready up netlist) where
  here : (c : ℕ) → IsValuation netlist (cycle_of run c)
  here c = (endless (c + 1)).valuations c (omega arith)

  next_of : (c : ℕ) → c + 1 ≡ suc c
  next_of c = omega arith

  abbrev front : EndView
  front = view_of run kept.stored.from up

  abbrev comes : ℕ → Bool
  comes c = run.net c kept.stored.from.valid.number == 1

  abbrev goes : ℕ → Bool
  goes c = run.net c b.goes.number == 1

  abbrev items : ℕ → List (List ℕ)
  items c = held_in (cycle_of run c) kept.stored.queue

  abbrev held : ℕ → List Beat
  held c = map beat_of (items c)

  comes_is : (c : ℕ) → is_transfer side.pace front c ≡ comes c
  comes_is c = rw (lt-ltb 0 side.pace.latency delayed) (with_true (comes c))

  goes_is : (c : ℕ) → goes c ≡ is_transfer zero_pace (view_of run to ready) c
  goes_is c = b.gives (cycle_of run c) (here c) ∙ ap (λ (n : NetValue). (run.net c n.number == 1) && (run.net c ready.number == 1)) (sym f.stored.valid_is)

  some_there : (c : ℕ) → goes c ≡ true → (0 < length (items c)) ⊎ (comes c ≡ true)
  some_there c high =
      let shown : (run.net c to.valid.number == 1) ≡ true = ap (λ (n : NetValue). run.net c n.number == 1) f.stored.valid_is ∙ (and_parts _ _ (sym (b.gives (cycle_of run c) (here c)) ∙ high)).0 in
      elim (shown_some (items c) (values_of (cycle_of run c) (group_of kept.stored.from)) (values_of (cycle_of run c) (group_of to)) (f.stored.shows (cycle_of run c) (here c)) shown) [
        | inl some ↦ inl some
        | inr none ↦ inr none.1
      ]

  -- ready is shown where one place is left besides those of the allowance
  asks_for : (c : ℕ) → (run.net c up.number == 1) ≡ nat_lt (length (items c) + side.pace.allowance) (side.pace.allowance + 2)
  asks_for c = b.asks (cycle_of run c) (here c) ∙ ap (λ n. nat_lt n 2) (sym (held_count (cycle_of run c) kept.stored.queue)) ∙ two_left (length (items c)) side.pace.allowance

  -- the queue is in order, and leaves places for all that the allowance still lets come
  abbrev Counted : ℕ → Type 0
  Counted c = IsInOrder kept.stored.queue (cycle_of run c) × (length (items c) + side.pace.allowance ≤ side.pace.allowance + 2 + since side.pace front c)

  may : (c : ℕ) → IsLegalSource side front (suc c) → Counted c → MayMove kept.stored.queue kept.stored.from.valid b.goes (cycle_of run c)
  may c legal now =
      queue_may kept.stored.queue kept.stored.from.valid b.goes (cycle_of run c) now.0
      (λ high. (let place = finds_place side front delayed larger (side.pace.allowance + 2) (length (items c)) c (asks_for c) now.1 (legal c (omega arith)) (comes_is c ∙ high) in omega (arith, place, f.stored.bound, allows)))
      (some_there c)

  step : (c : ℕ) → IsLegalSource side front (suc c) → Counted c → HasMoved kept.stored.queue (place_nets kept.stored.from).item kept.stored.from.valid b.goes (cycle_of run c) (cycle_of run (c + 1))
  step c legal now = b.steps run (c + 2) (endless (c + 2)) c (omega arith) (may c legal now)

  later : (c : ℕ) → IsLegalSource side front (suc c) → Counted c → Counted (suc c)
  later c legal now =
      let moved = step c legal now in
      let coming : List ℕ = values_of (cycle_of run c) (place_nets kept.stored.from).item in
      let dropped = ap length moved.held ∙ length-drop (one_if (goes c)) (items c ++ only_if (comes c) coming) in
      let all = length-append (items c) (only_if (comes c) coming) in
      let one : length (only_if (comes c) coming) ≡ one_if (is_transfer side.pace front c) = count_only (comes c) coming ∙ ap one_if (sym (comes_is c)) in
      let grows : length (items (c + 1)) ≤ length (items c) + one_if (is_transfer side.pace front c) = omega (arith, dropped, all, one) in
      let next = still_leaves side front delayed larger (side.pace.allowance + 2) (length (items c)) c (asks_for c) now.1 (length (items (c + 1))) grows in
      (subst (λ n. IsInOrder kept.stored.queue (cycle_of run n)) (next_of c) moved.in_order, subst (λ n. length (items n) + side.pace.allowance ≤ side.pace.allowance + 2 + since side.pace front (suc c)) (next_of c) next)

  counted : (c : ℕ) → IsLegalSource side front c → Counted c
  counted zero legal =
      let empty = f.stored.starts run 1 (endless 1) (omega arith) in
      let none = ap length empty.none in
      (empty.in_order, omega (arith, none))
  counted (suc c) legal = later c legal (counted c (λ b h. legal b (omega arith)))

  moves : (c : ℕ) → IsLegalSource side front (suc c) → held (suc c) ≡ (if is_transfer zero_pace (view_of run to ready) c then drop 1 (held c ++ taken_now side front c) else held c ++ taken_now side front c)
  moves c legal =
      let coming : List ℕ = values_of (cycle_of run c) (place_nets kept.stored.from).item in
      ap held (sym (next_of c))
      ∙ ap (map beat_of) (step c legal (counted c (λ b h. legal b (omega arith)))).held
      ∙ one_dropped (goes c) (items c ++ only_if (comes c) coming)
      ∙ ap (λ (beats : List Beat). if goes c then drop 1 beats else beats) (map-append beat_of (items c) (only_if (comes c) coming) ∙ ap (λ (beats : List Beat). held c ++ beats) (one_more (comes c) coming))
      ∙ ap (λ t. let beats : List Beat = held c ++ (if t then beat_in (cycle_of run c) kept.stored.from ∷ [] else []) in if goes c then drop 1 beats else beats) (sym (comes_is c))
      ∙ ap (λ t. if t then drop 1 (held c ++ taken_now side front c) else held c ++ taken_now side front c) (goes_is c)

  pub is_allowance_run : IsAllowanceRun (side.pace.allowance + 2) side front (view_of run to ready) held
  is_allowance_run = record {
    holds = record {
      starts = ap (map beat_of) (f.stored.starts run 1 (endless 1) (omega arith)).none;
      shows = λ c. shows_items kept.stored.from to ready up run c (items c) (f.stored.shows (cycle_of run c) (here c));
      moves = moves;
    };
    asks = λ c. asks_for c ∙ ap (λ n. nat_lt (n + side.pace.allowance) (side.pace.allowance + 2)) (sym (length-map (items c) beat_of));
  }

-- the machine of the kept nets
module _ (latency allowance : ℕ) (some : 0 < latency) (above : latency < allowance) (shape : Shape) (from to : BeatNets) (kept : AllowanceKept) (ready up : NetValue) (netlist : Netlist) (run : Run) (p : IsAllowanceShape latency allowance shape)
    (f : AllowanceForward from to kept allowance netlist) (b : AllowanceBackward kept ready up netlist) (endless : IsEndlessRun netlist run) where
  delays : 0 < shape.up.pace.latency
  delays = omega (arith, some, p.behind)

  allows_more : shape.up.pace.latency < shape.up.pace.allowance
  allows_more = omega (arith, above, p.behind, p.allows)

  kept_run : IsAllowanceRun (shape.up.pace.allowance + 2) shape.up (view_of run from up) (view_of run to ready) (λ c. map beat_of (held_in (cycle_of run c) kept.stored.queue))
  kept_run =
      subst (λ (n : BeatNets). IsAllowanceRun (shape.up.pace.allowance + 2) shape.up (view_of run n up) (view_of run to ready) (λ c. map beat_of (held_in (cycle_of run c) kept.stored.queue))) (sym f.stored.from_is)
      (is_allowance_run kept to ready up netlist run endless shape.up (p.allows ∙ sym f.allowance_is) delays allows_more
      (subst (λ (n : BeatNets). AllowanceForward n to kept kept.buffer.allowance netlist) f.stored.from_is (subst (λ n. AllowanceForward from to kept n netlist) (sym f.allowance_is) f)) b)

  pub allowance_between : ((passes : ℕ → Bool) (places : ℕ) (side : Side) (up down : EndView) (held : ℕ → List Beat) → IsAllowanceRun places side up down held → 0 < side.pace.latency → side.pace.latency < side.pace.allowance → side.pace.allowance < places → 0 < side.symbols → PassesAll passes side → KeepsStageLaw (buffer_shape passes places side) (plain_run up down))
      → KeepsShape shape (view_of run from up) (view_of run to ready)
  allowance_between law = record {
    rank = λ _. 0;
    keeps = subst (λ (s : Shape). KeepsStageLaw s (plain_run (view_of run from up) (view_of run to ready))) (sym p.is)
        (law shape.passes (shape.up.pace.allowance + 2) shape.up _ _ _ kept_run delays allows_more (omega arith) p.some p.passes);
  }

  pub allowance_ready : ((passes : ℕ → Bool) (places : ℕ) (side : Side) (up down : EndView) (held : ℕ → List Beat) → IsAllowanceRun places side up down held → 0 < side.pace.latency → side.pace.latency < side.pace.allowance → side.pace.allowance < places → PassesReady (buffer_shape passes places side) (plain_run up down))
      → ReadyPasses shape (view_of run from up) (view_of run to ready)
  allowance_ready law =
      subst (λ (s : Shape). ReadyPasses s (view_of run from up) (view_of run to ready)) (sym p.is)
      (law shape.passes (shape.up.pace.allowance + 2) shape.up _ _ _ kept_run delays allows_more (omega arith))

pub allowance_ignores : (allowance : ℕ) (from to : BeatNets) (kept : AllowanceKept) (netlist : Netlist) (one other : Cycle) → AllowanceForward from to kept allowance netlist → IsValuation netlist one → IsValuation netlist other →
    ((n : ℕ) → owns kept.stored.queue n → one.net n ≡ other.net n) → SameWords (owns_memories kept.stored.queue) netlist one other → ShowSame from one other → ShowSame to one other
allowance_ignores allowance from to kept netlist one other f v w state words same = stored_ignores from to kept.stored (kept.buffer.allowance + 2) netlist one other f.stored v w state words same
