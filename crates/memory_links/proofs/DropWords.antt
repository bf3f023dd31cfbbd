-- The words that a machine that drops beats without a lane gives: its own never meet those from below, and each is owed.
use Rattle.std.proofs.Common.{ℕ, zero, suc, ◌<◌, ◌≤◌, ◌≡◌, ◌+◌, Bool, true, false, not, ◌&&◌, ◌||◌, List, [], ◌∷◌, arith, refl, sym, ap, ap₂, subst, ◌∙◌, length, nat_eq, IsTrue, length-append, le_of_eq, le-leb, leb-true}
use Rattle.std.proofs.lemmas.Bool.{and_parts, eqb-true}
use Rattle.std.proofs.lemmas.List.{length-map}
use Rattle.histories.specs.History.{is_raised, one_if, only_if, all_accepted}
use Rattle.histories.specs.Laws.{shown_is_accepted_and_standing}
use Rattle.memory_runs.specs.Views.{levels_at}
use Rattle.memory_runs.specs.Commands.{shows, is_held, words_before}
use Rattle.memory_machines.specs.Link.{Target, Port, AreLegalAt, AnswersAreOwed, takes, marked_at, taken_at, shown_at, words_at, words_owed, read_beats}
use Rattle.memory_machines.specs.SideLaws.{marked_keeps, same_counts}
use Rattle.memory_machines.specs.Straight.{are_answered}
use Rattle.memory_machines.specs.Machines.{Raw, raw_at}
use Rattle.memory_links.specs.Selects.{takes_read}
use Rattle.memory_links.specs.Drops.{DropState, RunsAsDrop, IsDropPlan, sends, accepted, owes_itself, sent_beat}
use Rattle.memory_links.proofs.OneBeat.{enables_in, enables_asked, count_is_one, flat_mark, flat_at, transfer_by, reads_in, reads_of_one, reads_append}
use Rattle.memory_links.proofs.DropShown.{stands_so, now, so, sends_at, one_shown, stands_above, drop_legal}

size_if : {A : Type 0} (b : Bool) (x : A) → length (only_if b x) ≡ one_if b
size_if true x = refl
size_if false x = refl

pub words_step : (valid : ℕ → ℕ) (c : ℕ) → words_before valid (suc c) ≡ words_before valid c + one_if (is_raised (valid c))
words_step valid c = length-append _ _ ∙ ap (λ n. words_before valid c + n) (size_if (is_raised (valid c)) c)

-- each read that is taken asks one word
asked_step : (port : Port) (end : ℕ) → ((c : ℕ) → c < end → takes port c ≡ true → port.commands.count c ≡ 1) → (c : ℕ) → c < end → words_owed port (suc c) ≡ words_owed port c + one_if (takes_read port c)
asked_step port end one c h =
    asked (suc c) h ∙ length-append (all_accepted (takes_read port) port.commands.enables c) _
    ∙ ap₂ (λ x y. x + y) (sym (asked c (omega (arith, h)))) (size_if (takes_read port c) (port.commands.enables c))
  where
    asked : (c : ℕ) → c ≤ end → words_owed port c ≡ length (all_accepted (takes_read port) port.commands.enables c)
    asked c h = sym (length-map (read_beats (taken_at port c)) enables_in) ∙ ap length (enables_asked port end one c h)

-- one that stands asks one more
shown_reads : (port : Port) (end : ℕ) → AreLegalAt port end → ((c : ℕ) → c < end → shows port.commands.signals c ≡ true → port.commands.count c ≡ 1) → (c : ℕ) → c < end →
    length (read_beats (shown_at port (suc c))) ≡ words_owed port (suc c) + one_if (is_held port.commands.signals (takes port) c && not (is_raised (port.commands.write c)))
shown_reads port end legal one c h =
    ap (λ l. length (read_beats l)) (shown_is_accepted_and_standing (shows port.commands.signals) (takes port) (marked_at port) end (suc c) (marked_keeps port end legal) h)
    ∙ ap length (reads_append (taken_at port (suc c)) (only_if (is_held port.commands.signals (takes port) c) (marked_at port c)))
    ∙ length-append (read_beats (taken_at port (suc c))) _ ∙ ap (λ n. words_owed port (suc c) + n) (by_held (is_held port.commands.signals (takes port) c) refl)
  where
    by_held : (b : Bool) → is_held port.commands.signals (takes port) c ≡ b → length (read_beats (only_if b (marked_at port c))) ≡ one_if (b && not (is_raised (port.commands.write c)))
    by_held false e = refl
    by_held true e =
        let flat = flat_at port end legal one c h (and_parts (shows port.commands.signals c) (not (takes port c)) e).0 in
        ap (λ m. length (read_beats (m ∷ []))) flat ∙ ap length (reads_of_one (flat_mark port.shape (raw_at port c))) ∙ by_write (is_raised (port.commands.write c))
      where
        by_write : (w : Bool) → length (reads_in (transfer_by port.shape (levels_at port.commands.signals c) w)) ≡ one_if (not w)
        by_write true = refl
        by_write false = refl

-- a read that is accepted while nothing is kept goes through, or is swallowed
reads_alone : (room : ℕ) (s w a m t : Bool) (r : ℕ) → (t ≡ true → sends room (stands_so s w a m false r) ≡ true) →
    one_if (accepted (stands_so s w a m false r) t && not w) ≡ one_if (owes_itself (stands_so s w a m false r) t) + one_if (t && not w)
reads_alone room false w a m true r f = let e = f refl in cc
reads_alone room true w false m true r f = let e = f refl in cc
reads_alone room true true true true true r f = refl
reads_alone room true true true false true r f = refl
reads_alone room true false true m true r f = refl
reads_alone room false w a m false r f = refl
reads_alone room true true true true false r f = refl
reads_alone room true true true false false r f = refl
reads_alone room true false true m false r f = refl
reads_alone room true true false m false r f = refl
reads_alone room true false false m false r f = by_none (nat_eq r 0)
  where
    by_none : (b : Bool) → one_if ((b && true) && true) ≡ one_if ((b && true) && true) + 0
    by_none true = refl
    by_none false = refl

-- one that is accepted while a write is kept is swallowed
reads_kept : (s w a m t : Bool) (r : ℕ) → one_if (accepted (stands_so s w a m true r) t && not w) ≡ one_if (owes_itself (stands_so s w a m true r) t)
reads_kept s true a m t r = refl
reads_kept false false a m t r = refl
reads_kept true false true m t r = refl
reads_kept true false false m t r = refl

-- a read is swallowed only where no words are owed
pub swallowed_free : (s w a m h t : Bool) (r : ℕ) → owes_itself (stands_so s w a m h r) t ≡ true → r ≡ 0
swallowed_free false w a m h t r e = cc
swallowed_free true true a m h t r e = no_more (accepted (stands_so true true a m h r) t) e
  where
    no_more : (x : Bool) → x && false ≡ true → r ≡ 0
    no_more true e = cc
    no_more false e = cc
swallowed_free true false true m h t r e = no_more (accepted (stands_so true false true m h r) t) e
  where
    no_more : (x : Bool) → x && false ≡ true → r ≡ 0
    no_more true e = cc
    no_more false e = cc
swallowed_free true false false m h t r e =
    let parts = and_parts (nat_eq r 0 && (not (h && not m) || t)) true e in
    eqb-true r 0 (and_parts (nat_eq r 0) (not (h && not m) || t) parts.0).0

module _ (target : Target) (room : ℕ) (up down : Port) (state : DropState) (end : ℕ) (plan : IsDropPlan target up.shape down.shape) (run : RunsAsDrop room up down state) (legal : AreLegalAt up end) (owed : AnswersAreOwed down end) where
  abbrev pub swallowed : ℕ → Bool
  swallowed c = owes_itself (so target room up down state end plan run legal (raw_at up c) (state.kept c) (state.reads c)) (takes down c)

  shown_down : (c : ℕ) → takes down c ≡ true → shows down.commands.signals c ≡ true
  shown_down c t = (and_parts (shows down.commands.signals c) (not (is_raised (down.commands.waitrequest c))) t).0

  pub asked_up : (c : ℕ) → c < end → words_owed up (suc c) ≡ words_owed up c + one_if (takes_read up c)
  asked_up c h = asked_step up end (λ k low t. count_is_one up end plan.one_beat legal k low (and_parts (shows up.commands.signals k) (not (is_raised (up.commands.waitrequest k))) t).0) c h

  pub asked_down : (c : ℕ) → c < end → words_owed down (suc c) ≡ words_owed down c + one_if (takes_read down c)
  asked_down c h = asked_step down end (λ k low t. one_shown target room up down state end plan run legal k low (shown_down k t)) c h

  -- where these beats are kept
  abbrev splits_so : ℕ → List Raw → Type 0
  splits_so c q = one_if (accepted (so target room up down state end plan run legal (raw_at up c) q (state.reads c)) (takes down c) && not (is_raised (up.commands.write c)))
      ≡ one_if (owes_itself (so target room up down state end plan run legal (raw_at up c) q (state.reads c)) (takes down c)) + one_if (takes_read down c)

  -- a read that is accepted is swallowed, or is taken below
  pub reads_split : (c : ℕ) → one_if (takes_read up c) ≡ one_if (swallowed c) + one_if (takes_read down c)
  reads_split c = ap (λ t. one_if (t && not (is_raised (up.commands.write c)))) (run.accepts c) ∙ by_kept (state.kept c) refl
    where
      by_kept : (q : List Raw) → state.kept c ≡ q → splits_so c (state.kept c)
      by_kept q e = subst (splits_so c) (sym e) (by_list q e)
        where
          by_list : (q : List Raw) → state.kept c ≡ q → splits_so c q
          by_list [] e =
              reads_alone room (shows up.commands.signals c) (is_raised (up.commands.write c)) _ (is_raised (up.commands.more c)) (takes down c) (state.reads c)
              (λ t. subst (λ q. sends room (so target room up down state end plan run legal (raw_at up c) q (state.reads c)) ≡ true) e (sends_at target room up down state end plan run legal c (shown_down c t)))
              ∙ ap (λ b. one_if (owes_itself (so target room up down state end plan run legal (raw_at up c) [] (state.reads c)) (takes down c)) + one_if b) (by_take (takes down c) refl)
            where
              by_take : (t : Bool) → takes down c ≡ t → t && not (is_raised (up.commands.write c)) ≡ t && not (is_raised (down.commands.write c))
              by_take false t = refl
              by_take true t =
                  ap (λ (raw : Raw). not (is_raised raw.levels.write)) (sym (run.beat c (shown_down c t) ∙ ap (λ q. sent_beat q (raw_at up c) (now target room up down state end plan run legal c).acts) e))
          by_list (kept ∷ later) e =
              reads_kept (shows up.commands.signals c) (is_raised (up.commands.write c)) _ (is_raised (up.commands.more c)) (takes down c) (state.reads c)
              ∙ add_none (one_if (owes_itself (so target room up down state end plan run legal (raw_at up c) (kept ∷ later) (state.reads c)) (takes down c))) _ (by_take (takes down c) refl)
            where
              by_take : (t : Bool) → takes down c ≡ t → t && not (is_raised (down.commands.write c)) ≡ false
              by_take false t = refl
              by_take true t =
                  ap (λ (raw : Raw). not (is_raised raw.levels.write)) (run.beat c (shown_down c t) ∙ ap (λ q. sent_beat q (raw_at up c) (now target room up down state end plan run legal c).acts) e)

              add_none : (n : ℕ) (b : Bool) → b ≡ false → n ≡ n + one_if b
              add_none n b none = let zero_more : one_if b ≡ 0 = ap one_if none in omega (arith, zero_more)

  -- the count is that of the words owed below
  pub reads_are : (c : ℕ) → c ≤ end → words_owed down c ≡ state.reads c + words_before down.answers.valid c
  reads_are zero h = let none = run.reads_begin in omega (arith, none)
  reads_are (suc c) h =
      let so_far = reads_are c (omega (arith, h)) in
      let asked = asked_down c h in
      let words = words_step down.answers.valid c in
      let most = owed c h in
      let next = run.reads_next c in
      omega (arith, so_far, asked, words, most, next)

  pub words_apart : (c : ℕ) → c < end → state.own c ≡ true → is_raised (down.answers.valid c) ≡ false
  words_apart zero h own = let none = run.own_begins in cc
  words_apart (suc c) h own = by_valid (is_raised (down.answers.valid (suc c))) refl
    where
      free : state.reads c ≡ 0
      free = swallowed_free (shows up.commands.signals c) (is_raised (up.commands.write c)) (now target room up down state end plan run legal c).acts (is_raised (up.commands.more c)) (now target room up down state end plan run legal c).holds (takes down c) (state.reads c) (sym (run.own_next c) ∙ own)

      by_valid : (v : Bool) → is_raised (down.answers.valid (suc c)) ≡ v → is_raised (down.answers.valid (suc c)) ≡ false
      by_valid false e = e
      by_valid true e =
          let mine : swallowed c ≡ true = sym (run.own_next c) ∙ own in
          let one = ap one_if mine in
          let split = reads_split c in
          let most_one = at_most_one (takes_read up c) in
          let so_far = reads_are (suc c) (omega (arith, h)) in
          let next = run.reads_next c in
          let none = free in
          let words = words_step down.answers.valid (suc c) in
          let come = ap one_if e in
          let most = owed (suc c) h in
          absurd (omega (arith, one, split, most_one, so_far, next, none, words, come, most))
        where
          at_most_one : (b : Bool) → one_if b ≤ 1
          at_most_one true = omega arith
          at_most_one false = omega arith

  -- its own words are those of the reads that were swallowed before
  abbrev pub own_before : ℕ → ℕ
  own_before c = words_before (λ k. one_if (state.own k)) c

  pub record Counts (c : ℕ) : Type 0 where
    pub words : words_before up.answers.valid (suc c) ≡ own_before (suc c) + words_before down.answers.valid (suc c)
    pub asked : words_owed up c ≡ own_before (suc c) + words_owed down c

  raised_one : (b : Bool) → is_raised (one_if b) ≡ b
  raised_one true = refl
  raised_one false = refl

  one_word : (c : ℕ) → c < end → one_if (is_raised (up.answers.valid c)) ≡ one_if (is_raised (one_if (state.own c))) + one_if (is_raised (down.answers.valid c))
  one_word c h = ap one_if (run.valid c) ∙ by_own (state.own c) refl ∙ ap (λ b. one_if b + one_if (is_raised (down.answers.valid c))) (sym (raised_one (state.own c)))
    where
      none_more : (n : ℕ) → n ≡ one_if false + n
      none_more n = omega arith

      by_own : (b : Bool) → state.own c ≡ b → one_if (state.own c || is_raised (down.answers.valid c)) ≡ one_if (state.own c) + one_if (is_raised (down.answers.valid c))
      by_own true e = let none = words_apart c h e in ap₂ (λ o v. one_if (o || v)) e none ∙ sym (ap₂ (λ o v. one_if o + one_if v) e none)
      by_own false e = ap (λ o. one_if (o || is_raised (down.answers.valid c))) e ∙ none_more (one_if (is_raised (down.answers.valid c))) ∙ sym (ap (λ o. one_if o + one_if (is_raised (down.answers.valid c))) e)

  -- words are asked above for those owed below, and for the reads that were swallowed
  pub asked_is : (c : ℕ) → c ≤ end → words_owed up c ≡ own_before (suc c) + words_owed down c
  asked_is zero h =
      let none : one_if (is_raised (one_if (state.own 0))) ≡ 0 = ap (λ b. one_if (is_raised (one_if b))) run.own_begins in
      let own_words = words_step (λ k. one_if (state.own k)) 0 in
      omega (arith, none, own_words)
  asked_is (suc c) h =
      let asked = asked_is c (omega (arith, h)) in
      let own_words = words_step (λ k. one_if (state.own k)) (suc c) in
      let above = asked_up c (omega (arith, h)) in
      let below = asked_down c (omega (arith, h)) in
      let split = reads_split c in
      let own : one_if (is_raised (one_if (state.own (suc c)))) ≡ one_if (swallowed c) = ap one_if (raised_one (state.own (suc c)) ∙ run.own_next c) in
      omega (arith, asked, above, below, split, own, own_words)

  pub counts : (c : ℕ) → c < end → Counts c
  counts zero h =
      let one = one_word 0 h in
      let up_words = words_step up.answers.valid 0 in
      let down_words = words_step down.answers.valid 0 in
      let own_words = words_step (λ k. one_if (state.own k)) 0 in
      record { words = omega (arith, one, up_words, down_words, own_words); asked = asked_is 0 (omega (arith, h)) }
  counts (suc c) h =
      let words = (counts c (omega (arith, h))).words in
      let one = one_word (suc c) h in
      let up_words = words_step up.answers.valid (suc c) in
      let down_words = words_step down.answers.valid (suc c) in
      let own_words = words_step (λ k. one_if (state.own k)) (suc c) in
      record { words = omega (arith, words, one, up_words, down_words, own_words); asked = asked_is (suc c) (omega (arith, h)) }

  pub words_are_owed : AnswersAreOwed up end
  words_are_owed c h =
      let now = counts c h in
      let words = now.words in
      let asked = now.asked in
      let most = owed c h in
      omega (arith, words, asked, most)

  -- ---- where nothing is owed above, nothing is owed below

  fewer_stand : (c : ℕ) → one_if (is_held down.commands.signals (takes down) c && not (is_raised (down.commands.write c))) ≤ one_if (is_held up.commands.signals (takes up) c && not (is_raised (up.commands.write c)))
  fewer_stand c = by_held (is_held down.commands.signals (takes down) c) refl
    where
      least : (n : ℕ) → one_if false ≤ n
      least n = omega arith

      by_held : (b : Bool) → is_held down.commands.signals (takes down) c ≡ b → one_if (b && not (is_raised (down.commands.write c))) ≤ one_if (is_held up.commands.signals (takes up) c && not (is_raised (up.commands.write c)))
      by_held false e = least (one_if (is_held up.commands.signals (takes up) c && not (is_raised (up.commands.write c))))
      by_held true e = by_kept (state.kept c) refl
        where
          shown : shows down.commands.signals c ≡ true
          shown = (and_parts (shows down.commands.signals c) (not (takes down c)) e).0

          stands : is_held up.commands.signals (takes up) c ≡ true
          stands = stands_above target room up down state end plan run legal c e

          beat : (q : List Raw) → state.kept c ≡ q → raw_at down c ≡ sent_beat q (raw_at up c) (now target room up down state end plan run legal c).acts
          beat q k = run.beat c shown ∙ ap (λ q. sent_beat q (raw_at up c) (now target room up down state end plan run legal c).acts) k

          by_kept : (q : List Raw) → state.kept c ≡ q → one_if (not (is_raised (down.commands.write c))) ≤ one_if (is_held up.commands.signals (takes up) c && not (is_raised (up.commands.write c)))
          by_kept [] k = le_of_eq (ap (λ (raw : Raw). one_if (not (is_raised raw.levels.write))) (beat [] k) ∙ ap (λ b. one_if (b && not (is_raised (up.commands.write c)))) (sym stands))
          by_kept (kept ∷ later) k =
              let none : one_if (not (is_raised (down.commands.write c))) ≡ 0 = ap (λ (raw : Raw). one_if (not (is_raised raw.levels.write))) (beat (kept ∷ later) k) in
              omega (arith, none)

  pub counted : (port : Port) (c : ℕ) → length (words_at port c) ≡ words_before port.answers.valid c
  counted port c = sym (same_counts (λ k. is_raised (port.answers.valid k)) (λ k. k) (λ k. record { word = port.answers.word k; code = port.answers.code k }) c)

  pub quiet_below : (c : ℕ) → c ≤ end → IsTrue (are_answered up (shown_at up c) c) → IsTrue (are_answered down (shown_at down c) c)
  quiet_below zero h answered = refl
  quiet_below (suc c) h answered =
      let given = leb-true (length (read_beats (shown_at up (suc c)))) (length (words_at up (suc c))) answered in
      let now = counts c h in
      let words = now.words in
      let asked = now.asked in
      let above = asked_up c h in
      let below = asked_down c h in
      let split = reads_split c in
      let up_shown = shown_reads up end legal (λ k low shown. count_is_one up end plan.one_beat legal k low shown) c h in
      let down_shown = shown_reads down end (drop_legal target room up down state end plan run legal) (one_shown target room up down state end plan run legal) c h in
      let fewer = fewer_stand c in
      let up_words = counted up (suc c) in
      let down_words = counted down (suc c) in
      le-leb (length (read_beats (shown_at down (suc c)))) (length (words_at down (suc c))) (omega (arith, given, words, asked, above, below, split, up_shown, down_shown, fewer, up_words, down_words))
