-- A cutter of bursts: a command comes to no more steps below than it has beats.
use Rattle.std.proofs.Common.{◌≡◌, ℕ, zero, suc, ◌+◌, ◌-◌, ◌<◌, ◌≤◌, Bool, true, false, not, ◌&&◌, ◌||◌, nat_lt, if◌then◌else◌, arith, refl, sym, ap, ◌∙◌, subst, IsTrue, IsFalse, tests, ltb-true, ltb-false}
use Rattle.histories.specs.History.{is_raised}
use Rattle.memory_runs.specs.Commands.{shows, byte_address}
use Rattle.memory_machines.specs.Link.{Port, takes, taken_at, marked_at, closes, is_last_joined}
use Rattle.memory_machines.specs.Machines.{Raw, raw_at}
use Rattle.memory_links.specs.Cutters.{Rest, Reach, CutterState, RunsAsCutter, is_sending, read_burst_of, behind_burst, whole_read, first_burst, write_of_burst}
use Rattle.memory_awake.proofs.Bits.{no_true, takes_shows, not_shown, last_joined_end, none_taken, one_taken}
use Rattle.memory_awake.specs.Steps.{HasStepsLeft, HasSingleReads}
use Rattle.memory_awake.proofs.HostGrants.{no_both}

module _ (reach : Reach) (longest : ℕ) (up down : Port) (state : CutterState) (end : ℕ) (runs : RunsAsCutter reach longest up down state) (least : (address : ℕ) → 0 < reach address) (joined : (c : ℕ) → c < end → IsTrue (shows down.commands.signals c) → IsTrue ((marked_at down c).transfer.ends || is_raised (down.commands.more c))) (good : ℕ → Bool) (most : ℕ) (rest : ℕ → ℕ) (above : HasStepsLeft up good most rest end) (reads : HasSingleReads up rest end) where
  abbrev pub cut_left : ℕ → ℕ
  cut_left c = if is_sending state c then (state.rest c).left else rest c

  abbrev next_by : Bool → Bool → Bool → ℕ → Rest
  next_by sending down_took read_took c =
      if sending then (if down_took then behind_burst reach up.shape.word_bytes (state.rest c) else state.rest c)
      else if read_took then behind_burst reach up.shape.word_bytes (whole_read up.shape (raw_at up c)) else state.rest c

  rest_is : (c : ℕ) (s d t w : Bool) → is_sending state c ≡ s → takes down c ≡ d → takes up c ≡ t → is_raised (up.commands.write c) ≡ w → state.rest (suc c) ≡ next_by s d (t && not w) c
  rest_is c s d t w es ed et ew = runs.rest_next c ∙ (rw (es, ed, et, ew) refl)

  above_takes : (c : ℕ) (s d : Bool) → is_sending state c ≡ s → takes down c ≡ d → takes up c ≡ (not s && d)
  above_takes c s d es ed = runs.accepts c ∙ (rw (es, ed) refl)

  -- what is left of a read is few, and isn't joined to another
  record Left (c : ℕ) : Type 0 where
    few : (state.rest c).left ≤ most
    single : IsTrue (is_sending state c) → IsFalse (is_raised (state.rest c).command.more)

  left : (c : ℕ) → c ≤ end → Left c
  left zero fit = let none = runs.rest_begins in record { few = omega (arith, none); single = λ h. absurd (no_true (subst (λ n. IsTrue (nat_lt 0 n)) none h)) }
  left (suc c) fit = by_all (is_sending state c) (takes down c) (is_raised (up.commands.write c)) refl refl refl (left c (omega (arith, fit)))
    where
      moved : (r : Rest) → state.rest (suc c) ≡ r → r.left ≤ most → (IsTrue (nat_lt 0 r.left) → IsFalse (is_raised r.command.more)) → Left (suc c)
      moved r e few single = record { few = subst (λ (x : Rest). x.left ≤ most) (sym e) few; single = subst (λ (x : Rest). IsTrue (nat_lt 0 x.left) → IsFalse (is_raised x.command.more)) (sym e) single }

      by_all : (s d w : Bool) → is_sending state c ≡ s → takes down c ≡ d → is_raised (up.commands.write c) ≡ w → Left c → Left (suc c)
      by_all true true w es ed ew was = let few = was.few in moved _ (rest_is c true true false w es ed (above_takes c true true es ed) ew) (omega (arith, few)) (λ h. was.single es)
      by_all true false w es ed ew was = moved _ (rest_is c true false false w es ed (above_takes c true false es ed) ew) was.few (λ h. was.single es)
      by_all false false w es ed ew was = moved _ (rest_is c false false false w es ed (above_takes c false false es ed) ew) was.few (λ h. was.single h)
      by_all false true true es ed ew was = moved _ (rest_is c false true true true es ed (above_takes c false true es ed) ew) was.few (λ h. was.single h)
      by_all false true false es ed ew was =
          let took = above_takes c false true es ed in
          let shown = takes_shows up c took in
          let count = reads.few c fit shown ew in
          let all = above.few c (omega (arith, fit)) in
          moved _ (rest_is c false true true false es ed took ew) (omega (arith, count, all)) (λ h. reads.single c fit shown ew)

  more_below : (e m : Bool) → IsTrue (e || m) → IsFalse (e && not m) → IsTrue m
  more_below true true x f = refl
  more_below true false x f = absurd (no_true (sym f))
  more_below false true x f = refl
  more_below false false x f = absurd (no_true x)

  not_closed : (e m : Bool) → IsTrue m → IsFalse (e && not m)
  not_closed true true h = refl
  not_closed false m h = refl
  not_closed true false h = absurd (no_true h)

  -- whether the beat that is shown below is joined to the next one
  sending_more : (c : ℕ) → IsTrue (shows down.commands.signals c) → is_sending state c ≡ true → down.commands.more c ≡ (if nat_lt (reach (state.rest c).address) (state.rest c).left then 1 else (state.rest c).command.more)
  sending_more c shown es = ap (λ (r : Raw). r.more) (runs.beat c shown ∙ ap (λ b. if b then read_burst_of reach (state.rest c) else first_burst reach longest up.shape (state.place c) (raw_at up c)) es)

  write_more : (c : ℕ) → IsTrue (shows down.commands.signals c) → is_sending state c ≡ false → is_raised (up.commands.write c) ≡ true → down.commands.more c ≡ up.commands.more c
  write_more c shown es ew = ap (λ (r : Raw). r.more) (runs.beat c shown ∙ ap (λ b. if b then read_burst_of reach (state.rest c) else first_burst reach longest up.shape (state.place c) (raw_at up c)) es ∙ ap (λ b. if b then write_of_burst longest up.shape (state.place c) (raw_at up c) else read_burst_of reach (whole_read up.shape (raw_at up c))) ew)

  read_more : (c : ℕ) → IsTrue (shows down.commands.signals c) → is_sending state c ≡ false → is_raised (up.commands.write c) ≡ false → down.commands.more c ≡ (if nat_lt (reach (byte_address up.shape (up.commands.address c))) (up.commands.count c) then 1 else up.commands.more c)
  read_more c shown es ew = ap (λ (r : Raw). r.more) (runs.beat c shown ∙ ap (λ b. if b then read_burst_of reach (state.rest c) else first_burst reach longest up.shape (state.place c) (raw_at up c)) es ∙ ap (λ b. if b then write_of_burst longest up.shape (state.place c) (raw_at up c) else read_burst_of reach (whole_read up.shape (raw_at up c))) ew)

  -- where only more beats are joined, more are left
  more_left : (far n m : ℕ) → IsFalse (is_raised m) → IsTrue (is_raised (if nat_lt far n then 1 else m)) → far < n
  more_left far n m none h = by_less (nat_lt far n) refl h
    where
      by_less : (b : Bool) → nat_lt far n ≡ b → IsTrue (is_raised (if b then 1 else m)) → far < n
      by_less true e h = ltb-true far n e
      by_less false e h = absurd (no_both _ h none)

  sends : (c n : ℕ) → (state.rest c).left ≡ n → 1 ≤ n → cut_left c ≡ n
  sends c n e some = let t : nat_lt 0 (state.rest c).left ≡ true = grind (arith, tests, e, some) in rw t e

  rests : (c : ℕ) → is_sending state c ≡ false → cut_left c ≡ rest c
  rests c e = rw e refl

  joined_above : (c : ℕ) → c ≤ end → is_sending state c ≡ false → IsTrue (is_last_joined (taken_at down c)) → IsTrue (is_last_joined (taken_at up c))
  joined_above zero fit none h = absurd (no_true h)
  joined_above (suc c) fit none h = by_all (is_sending state c) (takes down c) (is_raised (up.commands.write c)) refl refl refl (joined_above c (omega (arith, fit)))
    where
      below_is : takes down c ≡ true → IsTrue (is_raised (down.commands.more c))
      below_is ed = sym (ap is_last_joined (one_taken down c ed) ∙ last_joined_end (taken_at down c) (marked_at down c)) ∙ h

      none_left : (r : Rest) → state.rest (suc c) ≡ r → IsFalse (nat_lt 0 r.left)
      none_left r e = subst (λ (x : Rest). IsFalse (nat_lt 0 x.left)) e none

      above_is : takes up c ≡ true → is_last_joined (taken_at up (suc c)) ≡ is_raised (up.commands.more c)
      above_is et = ap is_last_joined (one_taken up c et) ∙ last_joined_end (taken_at up c) (marked_at up c)

      past : (far n : ℕ) → IsFalse (nat_lt 0 (n - far)) → far < n → ⊥
      past far n f less = let t = ltb-false 0 (n - far) f in omega (arith, t, less)

      by_all : (s d w : Bool) → is_sending state c ≡ s → takes down c ≡ d → is_raised (up.commands.write c) ≡ w → (is_sending state c ≡ false → IsTrue (is_last_joined (taken_at down c)) → IsTrue (is_last_joined (taken_at up c))) → IsTrue (is_last_joined (taken_at up (suc c)))
      by_all true true w es ed ew more =
          let shown = takes_shows down c ed in
          let raised = subst (λ n. IsTrue (is_raised n)) (sending_more c shown es) (below_is ed) in
          absurd (past (reach (state.rest c).address) (state.rest c).left (none_left _ (rest_is c true true false w es ed (above_takes c true true es ed) ew)) (more_left (reach (state.rest c).address) (state.rest c).left (state.rest c).command.more ((left c (omega (arith, fit))).single es) raised))
      by_all true false w es ed ew more =
          let same = none_left _ (rest_is c true false false w es ed (above_takes c true false es ed) ew) in absurd (no_both _ es same)
      by_all false false w es ed ew more =
          subst (λ l. IsTrue (is_last_joined l)) (sym (none_taken up c (above_takes c false false es ed))) (more es (subst (λ l. IsTrue (is_last_joined l)) (none_taken down c ed) h))
      by_all false true true es ed ew more = let took = above_takes c false true es ed in above_is took ∙ ap is_raised (sym (write_more c (takes_shows down c ed) es ew)) ∙ below_is ed
      by_all false true false es ed ew more =
          let took = above_takes c false true es ed in
          let shown = takes_shows down c ed in
          let raised = subst (λ n. IsTrue (is_raised n)) (read_more c shown es ew) (below_is ed) in
          absurd (past (reach (byte_address up.shape (up.commands.address c))) (up.commands.count c) (none_left _ (rest_is c false true true false es ed took ew)) (more_left (reach (byte_address up.shape (up.commands.address c))) (up.commands.count c) (up.commands.more c) (reads.single c fit (takes_shows up c took) ew) raised))

  pub cut_has_steps_left : HasStepsLeft down good most cut_left end
  cut_has_steps_left = record {
    some = λ c fit. by_sending_some c fit (is_sending state c) refl;
    few = λ c fit. by_sending_few c fit (is_sending state c);
    fewer = fewer;
    stays = stays;
    gaps = gaps;
  }
    where
      by_sending_some : (c : ℕ) → c ≤ end → (s : Bool) → is_sending state c ≡ s → 1 ≤ (if s then (state.rest c).left else rest c)
      by_sending_some c fit true e = ltb-true 0 (state.rest c).left e
      by_sending_some c fit false e = above.some c fit

      by_sending_few : (c : ℕ) → c ≤ end → (s : Bool) → (if s then (state.rest c).left else rest c) ≤ most
      by_sending_few c fit true = (left c fit).few
      by_sending_few c fit false = above.few c fit

      stays_below : (c : ℕ) → c < end → IsFalse (takes down c) → (s : Bool) → is_sending state c ≡ s → cut_left (suc c) ≤ cut_left c
      stays_below c fit none true es =
          let next = ap (λ (r : Rest). r.left) (rest_is c true false false (is_raised (up.commands.write c)) es none (above_takes c true false es none) refl) in
          let some = ltb-true 0 (state.rest c).left es in
          let now = sends c (state.rest c).left refl some in
          let later = sends (suc c) (state.rest c).left next some in
          omega (arith, now, later)
      stays_below c fit none false es =
          let still = above_takes c false false es none in
          let next = rest_is c false false false (is_raised (up.commands.write c)) es none still refl in
          let later : is_sending state (suc c) ≡ false = ap (λ (r : Rest). nat_lt 0 r.left) next ∙ es in
          let now_is = rests c es in
          let later_is = rests (suc c) later in
          let less = above.stays c fit still in
          omega (arith, now_is, later_is, less)

      stays : (c : ℕ) → c < end → IsFalse (takes down c) → cut_left (suc c) ≤ cut_left c
      stays c fit none = stays_below c fit none (is_sending state c) refl

      fewer : (c : ℕ) → c < end → IsTrue (takes down c) → IsFalse (closes (marked_at down c)) → cut_left (suc c) + 1 ≤ cut_left c
      fewer c fit took open_still = by_all (is_sending state c) (is_raised (up.commands.write c)) refl refl
        where
          shown : IsTrue (shows down.commands.signals c)
          shown = takes_shows down c took

          more : IsTrue (is_raised (down.commands.more c))
          more = more_below (marked_at down c).transfer.ends (is_raised (down.commands.more c)) (joined c fit shown) open_still

          by_all : (s w : Bool) → is_sending state c ≡ s → is_raised (up.commands.write c) ≡ w → cut_left (suc c) + 1 ≤ cut_left c
          by_all true w es ew =
              let raised = subst (λ n. IsTrue (is_raised n)) (sending_more c shown es) more in
              let less = more_left (reach (state.rest c).address) (state.rest c).left (state.rest c).command.more ((left c (omega (arith, fit))).single es) raised in
              let next = ap (λ (r : Rest). r.left) (rest_is c true true false w es took (above_takes c true true es took) ew) in
              let now = sends c (state.rest c).left refl (omega (arith, less)) in
              let later = sends (suc c) ((state.rest c).left - reach (state.rest c).address) next (omega (arith, less)) in
              let some = least (state.rest c).address in
              omega (arith, now, later, less, some)
          by_all false true es ew =
              let above_took = above_takes c false true es took in
              let next = rest_is c false true true true es took above_took ew in
              let later : is_sending state (suc c) ≡ false = ap (λ (r : Rest). nat_lt 0 r.left) next ∙ es in
              let now_is = rests c es in
              let later_is = rests (suc c) later in
              let less = above.fewer c fit above_took (not_closed (marked_at up c).transfer.ends (is_raised (up.commands.more c)) (ap is_raised (sym (write_more c shown es ew)) ∙ more)) in
              omega (arith, now_is, later_is, less)
          by_all false false es ew =
              let above_took = above_takes c false true es took in
              let above_shown = takes_shows up c above_took in
              let raised = subst (λ n. IsTrue (is_raised n)) (read_more c shown es ew) more in
              let less = more_left (reach (byte_address up.shape (up.commands.address c))) (up.commands.count c) (up.commands.more c) (reads.single c fit above_shown ew) raised in
              let next = ap (λ (r : Rest). r.left) (rest_is c false true true false es took above_took ew) in
              let now_is = rests c es in
              let later = sends (suc c) (up.commands.count c - reach (byte_address up.shape (up.commands.address c))) next (omega (arith, less)) in
              let count = reads.few c fit above_shown ew in
              let some = least (byte_address up.shape (up.commands.address c)) in
              omega (arith, now_is, later, less, count, some)

      gaps : (c : ℕ) → c < end → IsTrue (is_last_joined (taken_at down c)) → IsFalse (shows down.commands.signals c) → IsTrue (good c) → cut_left (suc c) + 1 ≤ cut_left c
      gaps c fit opened quiet well = by_sending (is_sending state c) refl
        where
          by_sending : (s : Bool) → is_sending state c ≡ s → cut_left (suc c) + 1 ≤ cut_left c
          by_sending true es = absurd (no_both _ (runs.shown c ∙ ap (λ b. if b then true else shows up.commands.signals c) es) quiet)
          by_sending false es =
              let above_quiet : shows up.commands.signals c ≡ false = sym (runs.shown c ∙ ap (λ b. if b then true else shows up.commands.signals c) es) ∙ quiet in
              let none = not_shown down c quiet in
              let still = above_takes c false false es none in
              let next = rest_is c false false false (is_raised (up.commands.write c)) es none still refl in
              let later : is_sending state (suc c) ≡ false = ap (λ (r : Rest). nat_lt 0 r.left) next ∙ es in
              let now_is = rests c es in
              let later_is = rests (suc c) later in
              let less = above.gaps c fit (joined_above c (omega (arith, fit)) es opened) above_quiet well in
              omega (arith, now_is, later_is, less)
