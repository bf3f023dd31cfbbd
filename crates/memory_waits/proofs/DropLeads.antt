-- What drops beats without a lane, below what drains: a beat that it keeps takes no more steps than its command.
use Rattle.std.proofs.Common.{◌≡◌, ℕ, suc, ◌+◌, ◌*◌, ◌<◌, ◌≤◌, ◌⊎◌, inl, inr, Bool, true, false, not, ◌&&◌, ◌||◌, length, if◌then◌else◌, arith, refl, sym, ap, ap₂, ◌∙◌, IsTrue, IsFalse}
use Rattle.std.proofs.lemmas.Bool.{and_parts, or_left, or_right}
use Rattle.histories.specs.History.{is_raised, one_if}
use Rattle.memory_runs.specs.Commands.{shows}
use Rattle.memory_machines.specs.Link.{Target, Port, AreLegalAt, AnswersAreOwed, takes, taken_at, marked_at, is_nonempty, operations_among}
use Rattle.memory_parts.specs.Steps.{is_gone}
use Rattle.memory_links.specs.Drops.{DropState, RunsAsDrop, IsDropPlan, any_lane, sends, accepted, keeps, owes_itself, standing_at}
use Rattle.memory_awake.specs.Steps.{HasStepsLeft}
use Rattle.memory_waits.specs.Watched.{LeadsBy, stands_or_owes}
use Rattle.memory_waits.proofs.Bits.{no_true, no_both, both, not_by, any_of, found_below, takes_shows}
use Rattle.memory_waits.proofs.DropCounts.{all_sent, sent_next, words_come}
use Rattle.memory_waits.proofs.Drops.{IsKeptNow, IsPassed, IsGone, now, goes_in, kept_then, none_kept, none_own, swallows_at, kept_open, none_read, none_gone_above}
use Rattle.memory_waits.proofs.Leads.{Drains, come_before, operations_grow, owed_grows, since, since_found, not_since, waits_to_drain}
use Rattle.memory_waits.proofs.Rows.{not_closed}
use Rattle.histories.specs.Junction.{any_below}

-- ---- one cycle

one_most : (b : Bool) → one_if b ≤ 1
one_most true = omega arith
one_most false = omega arith

-- what is kept is a write, and a word of its own that of a read
keeps_no_read : (x w m a : Bool) → (x && ((w && m) && a)) ≡ true → (x && (not w && not a)) ≡ false
keeps_no_read true true m a e = refl
keeps_no_read true false m a e = absurd cc
keeps_no_read false w m a e = refl

-- where none is kept, what is taken below is what stands above
goes_through : (room : ℕ) (s w a m : Bool) (r : ℕ) → sends room (now s w a m false r) ≡ true → accepted (now s w a m false r) true ≡ true
goes_through room false w a m r e = absurd cc
goes_through room true w false m r e = absurd cc
goes_through room true true true true r e = refl
goes_through room true true true false r e = refl
goes_through room true false true m r e = refl

-- none is kept behind a kept one that isn't taken
keeps_one : (s w a m : Bool) (r : ℕ) → keeps (now s w a m true r) false ≡ true → ⊥
keeps_one false w a m r e = cc
keeps_one true true true true r e = cc
keeps_one true true true false r e = cc
keeps_one true true false m r e = let two = and_parts (accepted (now true true false m true r) false) ((true && m) && false) e in no_and (true && m) two.1
  where
    no_and : (x : Bool) → IsTrue (x && false) → ⊥
    no_and true h = no_true h
    no_and false h = no_true h
keeps_one true false a m r e = let two = and_parts (accepted (now true false a m true r) false) ((false && m) && a) e in no_true two.1

-- a cycle in which nothing is taken below, and that doesn't wait
free_parts : (g s o t : Bool) → IsFalse (not g || ((s || o) && not t)) → t ≡ false → IsTrue g × IsFalse s × IsFalse o
free_parts true false false t f e = (refl, refl, refl)
free_parts true true o false f e = absurd (no_true (sym f))
free_parts true false true false f e = absurd (no_true (sym f))
free_parts true true o true f e = absurd cc
free_parts true false true true f e = absurd cc
free_parts false s o t f e = absurd (no_true (sym f))

module _ (target : Target) (room : ℕ) (top up down : Port) (state : DropState) (end : ℕ) (plan : IsDropPlan target up.shape down.shape) (runs : RunsAsDrop room up down state) (legal : AreLegalAt up end) (owed : AnswersAreOwed down end)
    (apart : (c : ℕ) → c < end → state.own c ≡ true → is_raised (down.answers.valid c) ≡ false) (some : 0 < room)
    (good drained : ℕ → Bool) (left : ℕ → ℕ) (most : ℕ) (drains : Drains target top up (stands_or_owes up) drained left most end)
    (longest : ℕ) (rest : ℕ → ℕ) (has : HasStepsLeft up (λ k. good k && not (is_gone up k)) longest rest end) where
  abbrev kept : ℕ → Bool
  kept c = is_nonempty (state.kept c)

  abbrev writes : ℕ → Bool
  writes c = is_raised (up.commands.write c)

  abbrev more : ℕ → Bool
  more c = is_raised (up.commands.more c)

  abbrev acts : ℕ → Bool
  acts c = any_lane up.shape (up.commands.enables c)

  abbrev keeps_at : ℕ → Bool
  keeps_at c = keeps (standing_at up state c) (takes down c)

  abbrev waits : ℕ → Bool
  waits c = not (good c) || stands_or_owes down c

  -- ---- what is kept, and a word of its own

  kept_next : (c : ℕ) (k t : Bool) → keeps_at c ≡ k → takes down c ≡ t → kept (suc c) ≡ (if k then true else if t then false else kept c)
  kept_next c k t = kept_then target room up down state end plan runs legal c k t

  one_more : (c : ℕ) → one_if (kept (suc c)) + one_if (state.own (suc c)) ≤ one_if (kept c) + one_if (state.own c) + 1
  one_more c = by_keeps (keeps_at c) refl (takes down c) refl
    where
      by_keeps : (k : Bool) → keeps_at c ≡ k → (t : Bool) → takes down c ≡ t → one_if (kept (suc c)) + one_if (state.own (suc c)) ≤ one_if (kept c) + one_if (state.own c) + 1
      by_keeps true ek t et =
          let few = one_most (kept (suc c)) in
          let none = ap one_if (runs.own_next c ∙ keeps_no_read (accepted (standing_at up state c) (takes down c)) (writes c) (more c) (acts c) ek) in
          omega (arith, few, none)
      by_keeps false ek true et =
          let none = ap one_if (kept_next c false true ek et) in
          let few = one_most (state.own (suc c)) in
          omega (arith, none, few)
      by_keeps false ek false et =
          let same = ap one_if (kept_next c false false ek et) in
          let few = one_most (state.own (suc c)) in
          omega (arith, same, few)

  -- where nothing is taken above
  no_own : (c : ℕ) → takes up c ≡ false → one_if (state.own (suc c)) ≡ 0
  no_own c none = ap one_if (none_own target room up down state end plan runs legal c none)

  no_more_kept : (c : ℕ) → takes up c ≡ false → one_if (kept (suc c)) ≤ one_if (kept c)
  no_more_kept c none = by_take (takes down c) refl
    where
      by_take : (t : Bool) → takes down c ≡ t → one_if (kept (suc c)) ≤ one_if (kept c)
      by_take true e = let gone = ap one_if (kept_next c false true (none_kept target room up down state end plan runs legal c none) e) in omega (arith, gone)
      by_take false e = let same = ap one_if (kept_next c false false (none_kept target room up down state end plan runs legal c none) e) in omega (arith, same)

  kept_goes : (c : ℕ) → takes up c ≡ false → takes down c ≡ true → one_if (kept (suc c)) < one_if (kept c)
  kept_goes c none took =
      let gone = ap one_if (kept_next c false true (none_kept target room up down state end plan runs legal c none) took) in
      let one = ap one_if (by_kept (kept c) refl) in
      omega (arith, gone, one)
    where
      by_kept : (h : Bool) → kept c ≡ h → kept c ≡ true
      by_kept true e = e
      by_kept false e =
          let sent = sym (ap (λ h. sends room (now (shows up.commands.signals c) (writes c) (acts c) (more c) h (state.reads c))) e) ∙ sym (runs.shown c) ∙ takes_shows down c took in
          let goes = goes_through room (shows up.commands.signals c) (writes c) (acts c) (more c) (state.reads c) sent in
          let took_above = runs.accepts c ∙ ap₂ (λ h t. accepted (now (shows up.commands.signals c) (writes c) (acts c) (more c) h (state.reads c)) t) e took ∙ goes in
          absurd (no_both (takes up c) took_above none)

  -- ---- a cycle in which nothing is taken below, and that doesn't wait

  record IsFree (c : ℕ) : Type 0 where
    fine : IsTrue (good c)
    hidden : IsFalse (shows down.commands.signals c)
    quiet : IsFalse (is_gone down c)

  free : (c : ℕ) → IsFalse (waits c) → takes down c ≡ false → IsFree c
  free c stops none =
      let parts = free_parts (good c) (shows down.commands.signals c) (is_gone down c) (takes down c) stops none in
      record { fine = parts.0; hidden = parts.1; quiet = parts.2 }

  -- what stands above is taken
  hidden_above : (c : ℕ) → c < end → IsFree c → takes down c ≡ false → takes up c ≡ false → IsFalse (shows up.commands.signals c)
  hidden_above c fit is none waiting = by_shown (shows up.commands.signals c) refl
    where
      by_shown : (s : Bool) → shows up.commands.signals c ≡ s → IsFalse s
      by_shown false e = refl
      by_shown true e =
          let reads = none_read target room up down state end plan runs legal owed apart c (omega (arith, fit)) is.quiet in
          let hidden = sym (ap₂ (λ s r. sends room (now s (writes c) (acts c) (more c) (kept c) r)) e reads) ∙ sym (runs.shown c) ∙ is.hidden in
          let goes = goes_in room (writes c) (acts c) (more c) (kept c) some hidden in
          let enters = runs.accepts c ∙ ap (accepted (standing_at up state c)) none ∙ ap₂ (λ s r. accepted (now s (writes c) (acts c) (more c) (kept c) r) false) e reads ∙ goes in
          absurd (no_both (takes up c) enters waiting)

  quiet_above : (c : ℕ) → c < end → IsFree c → state.own c ≡ false → IsFalse (is_gone up c)
  quiet_above c fit is own = none_gone_above target room up down state end plan runs legal owed apart c (omega (arith, fit)) is.quiet own

  -- ---- while a beat stands above, or what was taken there isn't sent

  abbrev value : ℕ → ℕ
  value c = 2 * left c + one_if (kept c) + one_if (state.own c)

  taken_less : (c : ℕ) → c < end → IsFalse (takes top c) → takes up c ≡ true → value (suc c) < value c
  taken_less c fit none took =
      let less = drains.fewer c fit none took in
      let few = one_more c in
      omega (arith, less, few)

  stays_value : (c : ℕ) → c < end → IsFalse (takes top c) → (u : Bool) → takes up c ≡ u → value (suc c) ≤ value c
  stays_value c fit none true e = let less = taken_less c fit none e in omega (arith, less)
  stays_value c fit none false e =
      let stays = drains.stays c fit none in
      let same = no_more_kept c e in
      let own = no_own c e in
      omega (arith, stays, same, own)

  goes_value : (c : ℕ) → c < end → IsFalse (takes top c) → IsTrue (shows top.commands.signals c || not (drained c)) → IsFalse (waits c) → (u : Bool) → takes up c ≡ u → value (suc c) < value c
  goes_value c fit none stands stops true e = taken_less c fit none e
  goes_value c fit none stands stops false e = by_stand (stands_or_owes up c) refl (takes down c) refl
    where
      by_stand : (w : Bool) → stands_or_owes up c ≡ w → (t : Bool) → takes down c ≡ t → value (suc c) < value c
      by_stand false ew t et =
          let less = drains.goes c fit none stands ew in
          let same = no_more_kept c e in
          let own = no_own c e in
          omega (arith, less, same, own)
      by_stand true ew true et =
          let stays = drains.stays c fit none in
          let less = kept_goes c e et in
          let own = no_own c e in
          omega (arith, stays, less, own)
      by_stand true ew false et = by_own (state.own c) refl
        where
          is : IsFree c
          is = free c stops et

          by_own : (o : Bool) → state.own c ≡ o → value (suc c) < value c
          by_own true eo =
              let stays = drains.stays c fit none in
              let same = no_more_kept c e in
              let own = no_own c e in
              let one = ap one_if eo in
              omega (arith, stays, same, own, one)
          by_own false eo = absurd (no_both _ (and_parts (shows up.commands.signals c || is_gone up c) (not (takes up c)) ew).0 (neither (shows up.commands.signals c) (is_gone up c) (hidden_above c fit is et e) (quiet_above c fit is eo)))
            where
              neither : (a b : Bool) → IsFalse a → IsFalse b → IsFalse (a || b)
              neither false b f g = g
              neither true b f g = absurd (no_true (sym f))

  -- ---- while a beat of it is kept

  abbrev kept_value : ℕ → ℕ
  kept_value c = 2 * rest c + one_if (state.own c)

  taken_kept : (c : ℕ) → c < end → kept c ≡ true → takes down c ≡ false → takes up c ≡ true → kept_value (suc c) < kept_value c
  taken_kept c fit holds none took = by_outcome (swallows_at target room up down state end plan runs legal c took none)
    where
      by_outcome : IsKeptNow (acts c) (more c) (keeps_at c) (owes_itself (standing_at up state c) (takes down c)) ⊎ (IsPassed (acts c) (more c) (kept c) ⊎ IsGone (acts c) (kept c)) → kept_value (suc c) < kept_value c
      by_outcome (inl new) =
          let one = sym (ap₂ (λ h t. keeps (now (shows up.commands.signals c) (writes c) (acts c) (more c) h (state.reads c)) t) holds none) ∙ new.kept in
          absurd (keeps_one (shows up.commands.signals c) (writes c) (acts c) (more c) (state.reads c) one)
      by_outcome (inr (inl passed)) =
          let less = has.fewer c fit took (not_closed (marked_at up c).transfer.ends (more c) passed.more) in
          let few = one_most (state.own (suc c)) in
          omega (arith, less, few)
      by_outcome (inr (inr gone)) = absurd (no_both (kept c) holds gone.none)

  stays_kept : (c : ℕ) → c < end → kept c ≡ true → takes down c ≡ false → (u : Bool) → takes up c ≡ u → kept_value (suc c) ≤ kept_value c
  stays_kept c fit holds none true e = let less = taken_kept c fit holds none e in omega (arith, less)
  stays_kept c fit holds none false e =
      let stays = has.stays c fit e in
      let own = no_own c e in
      omega (arith, stays, own)

  goes_kept : (c : ℕ) → c < end → kept c ≡ true → takes down c ≡ false → IsFalse (waits c) → (u : Bool) → takes up c ≡ u → kept_value (suc c) < kept_value c
  goes_kept c fit holds none stops true e = taken_kept c fit holds none e
  goes_kept c fit holds none stops false e = by_own (state.own c) refl
    where
      is : IsFree c
      is = free c stops none

      by_own : (o : Bool) → state.own c ≡ o → kept_value (suc c) < kept_value c
      by_own true eo =
          let stays = has.stays c fit e in
          let own = no_own c e in
          let one = ap one_if eo in
          omega (arith, stays, own, one)
      by_own false eo =
          let less = has.gaps c fit (kept_open target room up down state end plan runs legal c holds) (hidden_above c fit is none e) (both (good c) (not (is_gone up c)) is.fine (not_by (is_gone up c) (quiet_above c fit is eo))) in
          let own = no_own c e in
          omega (arith, less, own)

  -- ---- what was taken before a cycle: first all of it is sent above, and then the beat that is kept then

  abbrev is_passed : ℕ → ℕ → Bool
  is_passed s c = since drained s c && (not (kept c) || takes down c)

  abbrev is_sent : ℕ → ℕ → Bool
  is_sent s c = (since drained s c && not (kept c)) || any_below (is_passed s) c

  sent_on : (s c : ℕ) → is_sent s c ≡ true → is_sent s (suc c) ≡ true
  sent_on s c sent = or_right (since drained s (suc c) && not (kept (suc c))) _ (by_now (since drained s c && not (kept c)) refl)
    where
      by_now : (b : Bool) → (since drained s c && not (kept c)) ≡ b → IsTrue (any_below (is_passed s) (suc c))
      by_now true e =
          let two = and_parts (since drained s c) (not (kept c)) e in
          any_of (is_passed s) (suc c) c (omega arith) (both (since drained s c) _ two.0 (or_left (not (kept c)) (takes down c) two.1))
      by_now false e = or_right (is_passed s c) (any_below (is_passed s) c) (sym (ap (λ b. b || any_below (is_passed s) c) e) ∙ sent)

  still_kept : (s c : ℕ) → is_sent s c ≡ false → since drained s c ≡ true → kept c ≡ true
  still_kept s c unsent opened = by_kept (kept c) refl
    where
      by_kept : (h : Bool) → kept c ≡ h → h ≡ true
      by_kept true e = refl
      by_kept false e = absurd (no_both (is_sent s c) (or_left (since drained s c && not (kept c)) (any_below (is_passed s) c) (both (since drained s c) (not (kept c)) opened (not_by (kept c) e))) unsent)

  sent_by_take : (s c : ℕ) → since drained s c ≡ true → takes down c ≡ true → is_sent s (suc c) ≡ true
  sent_by_take s c opened took =
      or_right (since drained s (suc c) && not (kept (suc c))) _ (any_of (is_passed s) (suc c) c (omega arith) (both (since drained s c) _ opened (or_right (not (kept c)) (takes down c) took)))

  record Sent (s c : ℕ) : Type 0 where
    cycle : ℕ
    from : s ≤ cycle
    until : cycle ≤ c
    empty : IsTrue (drained cycle)
    handed : length (operations_among target up.shape (taken_at up cycle)) ≤ length (operations_among target down.shape (taken_at down c))

  all_of : (s c : ℕ) → c ≤ end → is_sent s c ≡ true → Sent s c
  all_of s c fit sent = by_now (since drained s c && not (kept c)) refl
    where
      by_now : (b : Bool) → (since drained s c && not (kept c)) ≡ b → Sent s c
      by_now true e =
          let two = and_parts (since drained s c) (not (kept c)) e in
          let found = since_found drained s c two.0 in
          let low = operations_grow target up found.0 c found.2 in
          let here = all_sent target room up down state end plan runs legal owed apart c fit (not_true (kept c) two.1) in
          record { cycle = found.0; from = found.1; until = found.2; empty = found.3; handed = omega (arith, low, here) }
        where
          not_true : (b : Bool) → IsTrue (not b) → b ≡ false
          not_true true h = absurd (no_true h)
          not_true false h = refl
      by_now false e = by_passed (found_below (is_passed s) c (sym (ap (λ b. b || any_below (is_passed s) c) e) ∙ sent))
        where
          by_passed : (j : ℕ) × (j < c) × IsTrue (is_passed s j) → Sent s c
          by_passed passed =
              let two = and_parts (since drained s passed.0) _ passed.2 in
              let found = since_found drained s passed.0 two.0 in
              let less = passed.1 in
              let near = found.2 in
              let low = operations_grow target up found.0 passed.0 near in
              let here = by_kept (kept passed.0) refl two.1 in
              let high = operations_grow target down (suc passed.0) c (omega (arith, less)) in
              record { cycle = found.0; from = found.1; until = omega (arith, near, less); empty = found.3; handed = omega (arith, low, here, high) }
            where
              by_kept : (h : Bool) → kept passed.0 ≡ h → IsTrue (not h || takes down passed.0) → length (operations_among target up.shape (taken_at up passed.0)) ≤ length (operations_among target down.shape (taken_at down (suc passed.0)))
              by_kept false e h =
                  let less = passed.1 in
                  let all = all_sent target room up down state end plan runs legal owed apart passed.0 (omega (arith, less, fit)) e in
                  let grow = operations_grow target down passed.0 (suc passed.0) (omega arith) in
                  omega (arith, all, grow)
              by_kept true e h = let less = passed.1 in sent_next target room up down state end plan runs legal owed apart passed.0 (omega (arith, less, fit)) h

  abbrev dropped_still : ℕ → ℕ → ℕ
  dropped_still s c = if is_sent s c then 0 else if since drained s c then kept_value c else value c + (2 * longest + 1)

  when_sent : (s c : ℕ) → is_sent s c ≡ true → dropped_still s c ≡ 0
  when_sent s c e = rw e refl

  when_kept : (s c : ℕ) → is_sent s c ≡ false → since drained s c ≡ true → dropped_still s c ≡ kept_value c
  when_kept s c e f = ap₂ (λ a b. if a then 0 else if b then kept_value c else value c + (2 * longest + 1)) e f

  when_held : (s c : ℕ) → is_sent s c ≡ false → since drained s c ≡ false → dropped_still s c ≡ value c + (2 * longest + 1)
  when_held s c e f = ap₂ (λ a b. if a then 0 else if b then kept_value c else value c + (2 * longest + 1)) e f

  few_kept : (c : ℕ) → c ≤ end → kept_value c ≤ 2 * longest + 1
  few_kept c fit = let few = has.few c fit in let one = one_most (state.own c) in omega (arith, few, one)

  few_value : (c : ℕ) → c ≤ end → value c ≤ 2 * most + 2
  few_value c fit = let few = drains.few c fit in let one = one_most (kept c) in let own = one_most (state.own c) in omega (arith, few, one, own)

  sent_then : (s c : ℕ) → s ≤ c → c ≤ end → dropped_still s c ≡ 0 → is_sent s c ≡ true
  sent_then s c near fit none = by_sent (is_sent s c) refl (since drained s c) refl
    where
      by_sent : (b : Bool) → is_sent s c ≡ b → (d : Bool) → since drained s c ≡ d → b ≡ true
      by_sent true e d ed = refl
      by_sent false e true ed = let is = when_kept s c e ed in let some_left = has.some c fit in absurd (omega (arith, is, some_left, none))
      by_sent false e false ed = let is = when_held s c e ed in absurd (omega (arith, is, none))

  -- what comes next where it isn't sent by then
  next_kept : (s c : ℕ) → c < end → is_sent s (suc c) ≡ false → dropped_still s (suc c) ≤ value (suc c) + (2 * longest + 1)
  next_kept s c fit unsent = by_since (since drained s (suc c)) refl
    where
      by_since : (d : Bool) → since drained s (suc c) ≡ d → dropped_still s (suc c) ≤ value (suc c) + (2 * longest + 1)
      by_since true e = let is = when_kept s (suc c) unsent e in let few = few_kept (suc c) (omega (arith, fit)) in omega (arith, is, few)
      by_since false e = let is = when_held s (suc c) unsent e in omega (arith, is)

  pub drop_leads : LeadsBy target top down waits value dropped_still (2 * most + 2 * longest + 3) end
  drop_leads = record {
    few = λ c fit. (let few = few_value c fit in omega (arith, few));
    stays = λ c fit none. stays_value c fit none (takes up c) refl;
    goes = λ c fit none shown stops. goes_value c fit none (or_left (shows top.commands.signals c) (not (drained c)) shown) stops (takes up c) refl;
    few_still = λ s fit. few_still s fit (is_sent s s) refl (since drained s s) refl;
    stays_still = λ s c near fit. stays_still s c near fit (is_sent s (suc c)) refl (is_sent s c) refl (since drained s c) refl;
    goes_still = λ s c near fit some_left stops. goes_still s c near fit some_left stops (is_sent s (suc c)) refl (is_sent s c) refl (since drained s c) refl;
    through = λ s c near fit none. (let sent = all_of s c fit (sent_then s c near fit none) in
        let until = sent.until in
        let low = operations_grow target top s sent.cycle sent.from in
        let high = drains.through sent.cycle (omega (arith, until, fit)) sent.empty in
        let handed = sent.handed in
        omega (arith, low, high, handed));
    come = λ s c d near later fit none all. (let sent = all_of s c (omega (arith, later, fit)) (sent_then s c near (omega (arith, later, fit)) none) in
        let until = sent.until in
        let come = words_come target room up down state end plan runs legal owed apart c d later (omega (arith, fit)) all in
        let asked = owed_grows up sent.cycle c until in
        come_before top s sent.cycle d sent.from (drains.come sent.cycle d (omega (arith, until, later)) fit sent.empty (omega (arith, asked, come))));
  }
    where
      few_still : (s : ℕ) → s ≤ end → (b : Bool) → is_sent s s ≡ b → (d : Bool) → since drained s s ≡ d → dropped_still s s ≤ 2 * most + 2 * longest + 3
      few_still s fit true e d ed = let is = when_sent s s e in omega (arith, is)
      few_still s fit false e true ed = let is = when_kept s s e ed in let few = few_kept s fit in omega (arith, is, few)
      few_still s fit false e false ed = let is = when_held s s e ed in let few = few_value s fit in omega (arith, is, few)

      stays_still : (s c : ℕ) → s ≤ c → c < end → (n : Bool) → is_sent s (suc c) ≡ n → (b : Bool) → is_sent s c ≡ b → (d : Bool) → since drained s c ≡ d → dropped_still s (suc c) ≤ dropped_still s c
      stays_still s c near fit true en b e d ed = let next = when_sent s (suc c) en in omega (arith, next)
      stays_still s c near fit false en true e d ed = absurd (no_both (is_sent s (suc c)) (sent_on s c e) en)
      stays_still s c near fit false en false e false ed =
          let is = when_held s c e ed in
          let next = next_kept s c fit en in
          let stays = stays_value c fit (waits_to_drain target top up (stands_or_owes up) drained left most end drains c fit (not_since drained s c near ed)) (takes up c) refl in
          omega (arith, is, next, stays)
      stays_still s c near fit false en false e true ed = by_take (takes down c) refl
        where
          by_take : (t : Bool) → takes down c ≡ t → dropped_still s (suc c) ≤ dropped_still s c
          by_take true et = absurd (no_both (is_sent s (suc c)) (sent_by_take s c ed et) en)
          by_take false et =
              let is = when_kept s c e ed in
              let next = when_kept s (suc c) en (or_right _ (since drained s c) ed) in
              let stays = stays_kept c fit (still_kept s c e ed) et (takes up c) refl in
              omega (arith, is, next, stays)

      goes_still : (s c : ℕ) → s ≤ c → c < end → 0 < dropped_still s c → IsFalse (waits c) → (n : Bool) → is_sent s (suc c) ≡ n → (b : Bool) → is_sent s c ≡ b → (d : Bool) → since drained s c ≡ d → dropped_still s (suc c) < dropped_still s c
      goes_still s c near fit some_left stops true en b e d ed = let next = when_sent s (suc c) en in omega (arith, next, some_left)
      goes_still s c near fit some_left stops false en true e d ed = absurd (no_both (is_sent s (suc c)) (sent_on s c e) en)
      goes_still s c near fit some_left stops false en false e false ed =
          let held = not_since drained s c near ed in
          let is = when_held s c e ed in
          let next = next_kept s c fit en in
          let goes = goes_value c fit (waits_to_drain target top up (stands_or_owes up) drained left most end drains c fit held) (or_right (shows top.commands.signals c) (not (drained c)) (not_by (drained c) held)) stops (takes up c) refl in
          omega (arith, is, next, goes)
      goes_still s c near fit some_left stops false en false e true ed = by_take (takes down c) refl
        where
          by_take : (t : Bool) → takes down c ≡ t → dropped_still s (suc c) < dropped_still s c
          by_take true et = absurd (no_both (is_sent s (suc c)) (sent_by_take s c ed et) en)
          by_take false et =
              let is = when_kept s c e ed in
              let next = when_kept s (suc c) en (or_right _ (since drained s c) ed) in
              let goes = goes_kept c fit (still_kept s c e ed) et stops (takes up c) refl in
              omega (arith, is, next, goes)
