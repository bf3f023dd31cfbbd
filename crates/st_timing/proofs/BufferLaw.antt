-- The nets of a buffer are the machine of a buffer.
use Rattle.std.proofs.Common.{◌≡◌, ℕ, zero, suc, ◌+◌, ◌-◌, ◌<◌, ◌≤◌, ◌⊎◌, Bool, true, false, not, ◌&&◌, ◌==◌, nat_lt, nat_le, if◌then◌else◌, List, [], ◌∷◌, ◌++◌, length, length-append, length-drop, map, refl, sym, subst, ap, ◌∙◌, arith, inl, inr, drop}
use Rattle.std.specs.Int.{bit_at}
use Rattle.std.proofs.lemmas.Bool.{lt-ltb, le-ltb, cases_lt, and_parts}
use Rattle.std.proofs.lemmas.List.{length-map, map-append}
use Rattle.histories.specs.History.{one_if, only_if}
use Rattle.netlist.specs.Nets.{NetValue}
use Rattle.netlist.specs.Netlists.{Netlist}
use Rattle.netlist.specs.Runs.{Cycle, Run, cycle_of, IsEndlessRun, IsValuation}
use Rattle.stream_runs.specs.View.{EndView, Side, Beat, is_high, is_transfer, is_ready_cycle}
use Rattle.stream_runs.specs.Source.{IsLegalSource}
use Rattle.stream_machines.specs.Stage.{Shape, KeepsStageLaw, PassesReady, PassesAll, ready_cycles}
use Rattle.stream_machines.specs.Parts.{plain_run}
use Rattle.stream_machines.specs.Buffers.{IsBufferRun, buffer_shape, zero_pace, taken_now}
use Rattle.stream_machines.specs.ReadyCycles.{ready_cycles_step, comes_in_ready}
use Rattle.net_parts.specs.Groups.{values_of}
use Rattle.net_parts.specs.Histories.{earlier}
use Rattle.net_parts.specs.HistoryLaw.{history_bits}
use Rattle.item_queues.specs.Queues.{IsInOrder, MayMove, HasMoved, held_in}
use Rattle.stage_core.specs.declared.beat.BeatNets.{BeatNets}
use Rattle.stage_core.specs.Beats.{view_of, ShowSame, beat_in, group_of}
use Rattle.stage_core.specs.BeatPlaces.{place_nets, beat_of}
use Rattle.net_parts.specs.Memories.{SameWords}
use Rattle.stage_core.specs.Law.{KeepsShape, ReadyPasses}
use Rattle.stage_core.specs.StoredLaw.{one_dropped, one_more, shown_some, shows_items, stored_ignores}
use Rattle.st_timing.specs.declared.buffer.BufferKept.{BufferKept}
use Rattle.st_timing.specs.PromiseNets.{IsNextFree}
use Rattle.st_timing.specs.BufferNets.{IsReadyBufferShape, buffer_owns, buffer_owns_memories, BufferForward, BufferBackward}
use Rattle.st_timing.proofs.DelayLaw.{earlier_high}
use Rattle.st_timing.proofs.PromiseCounts.{places_kept}
use Rattle.st_timing.proofs.QueueOf.{queue_may}

-- ---- ready cycles that are still to come

ready_now : (n : ℕ) (view : EndView) (c : ℕ) → 0 < n → is_high view.ready c ≡ true → 1 ≤ ready_cycles n view (suc c)
ready_now zero view c some now = absurd (omega (arith, some))
ready_now (suc n) view c some now = let one = ap one_if now in omega (arith, one)

-- where ready was high so many cycles ago, that is one of those
one_owed : (n : ℕ) (view : EndView) (c : ℕ) → 0 < n → (nat_le n c && is_high view.ready (c - n)) ≡ true → 1 ≤ ready_cycles n view c
one_owed n view c some high = by_ready (is_high view.ready c) refl (ready_cycles_step n view c)
  where
    by_ready : (r : Bool) → is_high view.ready c ≡ r → ready_cycles n view (suc c) + one_if (nat_le n c && is_high view.ready (c - n)) ≡ ready_cycles n view c + one_if (is_high view.ready c) → 1 ≤ ready_cycles n view c
    by_ready true now step = let due = ap one_if high in let one = ap one_if now in let more = ready_now n view c some now in omega (arith, step, due, one, more)
    by_ready false low step = let due = ap one_if high in let none = ap one_if low in omega (arith, step, due, none)

none_owed : (n : ℕ) (view : EndView) → ready_cycles n view 0 ≡ 0
none_owed zero view = refl
none_owed (suc n) view = refl

-- ---- counts and tests

pub with_true : (t : Bool) → (t && true) ≡ t
with_true true = refl
with_true false = refl

pub count_only : (t : Bool) (item : List ℕ) → length (only_if t item) ≡ one_if t
count_only true item = refl
count_only false item = refl

one_within : (g t : Bool) (count : ℕ) → (g ≡ true → (0 < count) ⊎ (t ≡ true)) → one_if g ≤ count + one_if t
one_within false t count some = omega arith
one_within true t count some = elim (some refl) [ inl held ↦ omega (arith, held) | inr comes ↦ (let one = ap one_if comes in omega (arith, one)) ]

-- a place is free where the taken and the promised ones are fewer than all
free_left : (free taken places : ℕ) → free + taken ≡ places → nat_lt 0 free ≡ nat_lt taken places
free_left free taken places sum = by_case (cases_lt 0 free)
  where
    by_case : (0 < free) ⊎ (free ≤ 0) → nat_lt 0 free ≡ nat_lt taken places
    by_case (inl some) = lt-ltb 0 free some ∙ sym (lt-ltb taken places (omega (arith, sum, some)))
    by_case (inr none) = le-ltb 0 free none ∙ sym (le-ltb taken places (omega (arith, sum, none)))

module _ (kept : BufferKept) (to : BeatNets) (ready up : NetValue) (netlist : Netlist) (run : Run) (endless : IsEndlessRun netlist run) (side : Side) (strict : side.pace.allowance ≡ side.pace.latency) (behind : side.pace.latency ≡ kept.latency)
    (f : BufferForward kept.stored.from to kept kept.latency netlist) (b : BufferBackward kept ready up netlist) where
  here : (c : ℕ) → IsValuation netlist (cycle_of run c)
  here c = (endless (c + 1)).valuations c (omega arith)

  next_of : (c : ℕ) → c + 1 ≡ suc c
  next_of c = omega arith

  abbrev above : EndView
  above = view_of run kept.stored.from up

  abbrev comes : ℕ → Bool
  comes c = run.net c kept.stored.from.valid.number == 1

  abbrev goes : ℕ → Bool
  goes c = run.net c b.goes.number == 1

  abbrev items : ℕ → List (List ℕ)
  items c = held_in (cycle_of run c) kept.stored.queue

  abbrev held : ℕ → List Beat
  held c = map beat_of (items c)

  abbrev free : ℕ → ℕ
  free c = run.net c kept.promises.free.number

  abbrev owed : ℕ → ℕ
  owed c = ready_cycles side.pace.latency above c

  delayed : 0 < side.pace.latency
  delayed = let some = kept.some in omega (arith, behind, some)

  comes_is : (c : ℕ) → is_transfer side.pace above c ≡ comes c
  comes_is c = rw (lt-ltb 0 side.pace.latency delayed) (with_true (comes c))

  goes_is : (c : ℕ) → goes c ≡ is_transfer zero_pace (view_of run to ready) c
  goes_is c = b.gives (cycle_of run c) (here c) ∙ ap (λ (n : NetValue). (run.net c n.number == 1) && (run.net c ready.number == 1)) (sym f.stored.valid_is)

  -- the highest bit of the history is the ready of so many cycles before
  due : (c : ℕ) → (bit_at (run.net c kept.promises.history.number) (kept.latency - 1) == 1) ≡ is_ready_cycle side.pace above c
  due c =
      let some = kept.some in
      let back : suc (kept.latency - 1) ≡ kept.latency = omega (arith, some) in
      let inside : kept.latency - 1 < kept.promises.history.width = omega (arith, some, f.cycles) in
      ap (λ n. n == 1) (history_bits netlist kept.promises.history up run endless f.starts.none b.promises.takes c (kept.latency - 1) inside ∙ ap (λ k. earlier (λ d. run.net d up.number) k c) back)
      ∙ earlier_high (λ d. run.net d up.number) kept.latency c
      ∙ ap (λ n. nat_le n c && (run.net (c - n) up.number == 1)) (sym behind)

  some_there : (c : ℕ) → goes c ≡ true → (0 < length (items c)) ⊎ (comes c ≡ true)
  some_there c high =
      let shown : (run.net c to.valid.number == 1) ≡ true = ap (λ (n : NetValue). run.net c n.number == 1) f.stored.valid_is ∙ (and_parts _ _ (sym (b.gives (cycle_of run c) (here c)) ∙ high)).0 in
      elim (shown_some (items c) (values_of (cycle_of run c) (group_of kept.stored.from)) (values_of (cycle_of run c) (group_of to)) (f.stored.shows (cycle_of run c) (here c)) shown) [
        | inl some ↦ inl some
        | inr none ↦ inr none.1
      ]

  comes_due : (c : ℕ) → IsLegalSource side above (suc c) → comes c ≡ true → is_ready_cycle side.pace above c ≡ true
  comes_due c legal high = comes_in_ready side above c strict (legal c (omega arith)) (comes_is c ∙ high)

  -- the queue is in order, and each place is free, taken or promised
  abbrev Counted : ℕ → Type 0
  Counted c = IsInOrder kept.stored.queue (cycle_of run c) × (free c + length (items c) + owed c ≡ side.pace.latency + 1)

  may : (c : ℕ) → IsLegalSource side above (suc c) → Counted c → MayMove kept.stored.queue kept.stored.from.valid b.goes (cycle_of run c)
  may c legal now =
      queue_may kept.stored.queue kept.stored.from.valid b.goes (cycle_of run c) now.0
      (λ high. (let owes = one_owed side.pace.latency above c delayed (comes_due c legal high) in omega (arith, now.1, owes, f.stored.bound, behind)))
      (some_there c)

  step : (c : ℕ) → IsLegalSource side above (suc c) → Counted c → HasMoved kept.stored.queue (place_nets kept.stored.from).item kept.stored.from.valid b.goes (cycle_of run c) (cycle_of run (c + 1))
  step c legal now = b.steps run (c + 2) (endless (c + 2)) c (omega arith) (may c legal now)

  later : (c : ℕ) → IsLegalSource side above (suc c) → Counted c → Counted (suc c)
  later c legal now =
      let moved = step c legal now in
      let coming : List ℕ = values_of (cycle_of run c) (place_nets kept.stored.from).item in
      let dropped = ap length moved.held ∙ length-drop (one_if (goes c)) (items c ++ only_if (comes c) coming) in
      let all = length-append (items c) (only_if (comes c) coming) in
      let one = count_only (comes c) coming in
      let count : length (items (c + 1)) ≡ length (items c) + one_if (comes c) - one_if (goes c) = omega (arith, dropped, all, one) in
      let owes : owed (c + 1) + one_if (is_ready_cycle side.pace above c) ≡ owed c + one_if (run.net c up.number == 1) =
      subst (λ k. owed k + one_if (is_ready_cycle side.pace above c) ≡ owed c + one_if (run.net c up.number == 1)) (sym (next_of c)) (ready_cycles_step side.pace.latency above c) in
      let next : IsNextFree kept.promises.free.width (free c) (run.net c up.number == 1) (is_ready_cycle side.pace above c && not (comes c)) (goes c) (free (c + 1)) =
      subst (λ t. IsNextFree kept.promises.free.width (free c) (run.net c up.number == 1) (t && not (comes c)) (goes c) (free (c + 1))) (due c) (b.promises.counts run (c + 2) (endless (c + 2)) c (omega arith)) in
      subst Counted (next_of c) (
        moved.in_order,
        places_kept kept.promises.free.width (free c) (length (items c)) (owed c) (free (c + 1)) (length (items (c + 1))) (owed (c + 1)) (side.pace.latency + 1) (run.net c up.number == 1) (is_ready_cycle side.pace above c) (comes c) (goes c)
            now.1 (omega (arith, f.wide, behind)) (b.asks (cycle_of run c) (here c)) (comes_due c legal) (one_within (goes c) (comes c) (length (items c)) (some_there c)) owes count next,
      )

  counted : (c : ℕ) → IsLegalSource side above c → Counted c
  counted zero legal =
      let empty = f.stored.starts run 1 (endless 1) (omega arith) in
      let none = ap length empty.none in
      let owes = none_owed side.pace.latency above in
      let all = f.starts.free run 1 (endless 1) (omega arith) in
      (empty.in_order, omega (arith, none, owes, all, behind))
  counted (suc c) legal = later c legal (counted c (λ b h. legal b (omega arith)))

  asks : (c : ℕ) → IsLegalSource side above c → (run.net c up.number == 1) ≡ nat_lt (length (held c) + owed c) (side.pace.latency + 1)
  asks c legal =
      let sum = (counted c legal).1 in
      b.asks (cycle_of run c) (here c)
      ∙ free_left (free c) (length (items c) + owed c) (side.pace.latency + 1) (omega (arith, sum))
      ∙ ap (λ n. nat_lt (n + owed c) (side.pace.latency + 1)) (sym (length-map (items c) beat_of))

  moves : (c : ℕ) → IsLegalSource side above (suc c) → held (suc c) ≡ (if is_transfer zero_pace (view_of run to ready) c then drop 1 (held c ++ taken_now side above c) else held c ++ taken_now side above c)
  moves c legal =
      let coming : List ℕ = values_of (cycle_of run c) (place_nets kept.stored.from).item in
      ap held (sym (next_of c))
      ∙ ap (map beat_of) (step c legal (counted c (λ b h. legal b (omega arith)))).held
      ∙ one_dropped (goes c) (items c ++ only_if (comes c) coming)
      ∙ ap (λ (beats : List Beat). if goes c then drop 1 beats else beats) (map-append beat_of (items c) (only_if (comes c) coming) ∙ ap (λ (beats : List Beat). held c ++ beats) (one_more (comes c) coming))
      ∙ ap (λ t. let beats : List Beat = held c ++ (if t then beat_in (cycle_of run c) kept.stored.from ∷ [] else []) in if goes c then drop 1 beats else beats) (sym (comes_is c))
      ∙ ap (λ t. if t then drop 1 (held c ++ taken_now side above c) else held c ++ taken_now side above c) (goes_is c)

  pub is_buffer_run : IsBufferRun side above (view_of run to ready) held
  is_buffer_run = record {
    holds = record {
      starts = ap (map beat_of) (f.stored.starts run 1 (endless 1) (omega arith)).none;
      shows = λ c. shows_items kept.stored.from to ready up run c (items c) (f.stored.shows (cycle_of run c) (here c));
      moves = moves;
    };
    asks = asks;
  }

-- the machine of the kept nets
kept_run : (latency : ℕ) (from to : BeatNets) (kept : BufferKept) (ready up : NetValue) (netlist : Netlist) (run : Run) (side : Side) → BufferForward from to kept latency netlist → BufferBackward kept ready up netlist → IsEndlessRun netlist run →
    side.pace.allowance ≡ side.pace.latency → side.pace.latency ≡ latency → IsBufferRun side (view_of run from up) (view_of run to ready) (λ c. map beat_of (held_in (cycle_of run c) kept.stored.queue))
kept_run latency from to kept ready up netlist run side f b endless strict behind =
    subst (λ (n : BeatNets). IsBufferRun side (view_of run n up) (view_of run to ready) (λ c. map beat_of (held_in (cycle_of run c) kept.stored.queue))) (sym f.stored.from_is)
    (is_buffer_run kept to ready up netlist run endless side strict (behind ∙ sym f.latency_is)
    (subst (λ (n : BeatNets). BufferForward n to kept kept.latency netlist) f.stored.from_is (subst (λ n. BufferForward from to kept n netlist) (sym f.latency_is) f)) b)

pub buffer_between : (latency : ℕ) (shape : Shape) (from to : BeatNets) (kept : BufferKept) (ready up : NetValue) (netlist : Netlist) (run : Run) → IsReadyBufferShape latency shape → BufferForward from to kept latency netlist → BufferBackward kept ready up netlist → IsEndlessRun netlist run →
    ((passes : ℕ → Bool) (side : Side) (up down : EndView) (held : ℕ → List Beat) → IsBufferRun side up down held → side.pace.allowance ≡ side.pace.latency → 0 < side.symbols → PassesAll passes side → KeepsStageLaw (buffer_shape passes (side.pace.latency + 1) side) (plain_run up down)) →
    KeepsShape shape (view_of run from up) (view_of run to ready)
buffer_between latency shape from to kept ready up netlist run p f b endless law = record {
  rank = λ _. 0;
  keeps = subst (λ (s : Shape). KeepsStageLaw s (plain_run (view_of run from up) (view_of run to ready))) (sym p.is)
      (law shape.passes shape.up _ _ _ (kept_run latency from to kept ready up netlist run shape.up f b endless p.strict p.behind) p.strict p.some p.passes);
}

pub buffer_ready : (latency : ℕ) (shape : Shape) (from to : BeatNets) (kept : BufferKept) (ready up : NetValue) (netlist : Netlist) (run : Run) → IsReadyBufferShape latency shape → BufferForward from to kept latency netlist → BufferBackward kept ready up netlist → IsEndlessRun netlist run →
    ((passes : ℕ → Bool) (side : Side) (up down : EndView) (held : ℕ → List Beat) → IsBufferRun side up down held → side.pace.allowance ≡ side.pace.latency → PassesReady (buffer_shape passes (side.pace.latency + 1) side) (plain_run up down)) →
    ReadyPasses shape (view_of run from up) (view_of run to ready)
buffer_ready latency shape from to kept ready up netlist run p f b endless law =
    subst (λ (s : Shape). ReadyPasses s (view_of run from up) (view_of run to ready)) (sym p.is)
    (law shape.passes shape.up _ _ _ (kept_run latency from to kept ready up netlist run shape.up f b endless p.strict p.behind) p.strict)

pub buffer_ignores : (latency : ℕ) (from to : BeatNets) (kept : BufferKept) (netlist : Netlist) (one other : Cycle) → BufferForward from to kept latency netlist → IsValuation netlist one → IsValuation netlist other →
    ((n : ℕ) → buffer_owns kept n → one.net n ≡ other.net n) → SameWords (buffer_owns_memories kept) netlist one other → ShowSame from one other → ShowSame to one other
buffer_ignores latency from to kept netlist one other f v w state words same = stored_ignores from to kept.stored (kept.latency + 1) netlist one other f.stored v w (λ n o. state n (inl o)) words same
