-- A machine that drops beats without a lane goes in step: a plain command goes straight through it, once all words of earlier commands are given.
use Rattle.std.proofs.Common.{ℕ, zero, suc, ◌<◌, ◌≤◌, ◌≡◌, ◌+◌, ◌⊎◌, inl, inr, Bool, true, false, not, ◌&&◌, ◌||◌, List, [], ◌∷◌, if◌then◌else◌, arith, refl, sym, ap, ap₂, subst, ◌∙◌, length, map, IsTrue, lt-ltb, le-leb, leb-true}
use Rattle.std.specs.List.{list_any}
use Rattle.std.proofs.lemmas.Bool.{and_parts, both_ways, not-true}
use Rattle.histories.specs.History.{is_raised, one_if, numbers}
use Rattle.memory_runs.specs.Operations.{is_enabled}
use Rattle.memory_runs.specs.Commands.{shows, words_before}
use Rattle.memory_machines.specs.Link.{Target, Port, Marked, AreLegalAt, AnswersAreOwed, takes, marked_at, taken_at, operations_among, operations_in, is_nonempty, words_at, words_owed, read_beats, is_last_joined}
use Rattle.memory_machines.specs.Machines.{Raw, raw_at}
use Rattle.memory_machines.specs.PartRanks.{JoinsAlike}
use Rattle.memory_machines.specs.Straight.{GoesStraightThrough, has_lane, are_answered, are_taken_below, earlier_shown, shows_plain, is_plain}
use Rattle.memory_links.specs.InStep.{GoesInStep}
use Rattle.memory_links.specs.Drops.{DropState, RunsAsDrop, IsDropPlan, sends, standing_at}
use Rattle.memory_links.proofs.DropGoing.{left_open}
use Rattle.memory_links.proofs.DropJoins.{kept_is_open}
use Rattle.memory_links.proofs.DropLink.{high, kept, one_alike, legal_below, so_far, level_sum, ahead_sum, IsLevel, IsAhead}
use Rattle.memory_links.proofs.DropLists.{sum, same_sum}
use Rattle.memory_links.proofs.DropShown.{stands_so, one_shown}
use Rattle.memory_links.proofs.DropTaken.{Alone, lane, now_writes, now_more, dropped_taken, keeps_next, alone_at, beat_with, up_one}
use Rattle.memory_links.proofs.DropTaken.Alone.{idle, swallow, keep, pass_read, pass_write}
use Rattle.memory_links.proofs.DropWords.{asked_is, counts, reads_are, counted, own_before, words_step}
use Rattle.memory_links.proofs.Gated.{total_sizes}
use Rattle.memory_links.proofs.InStep.{plain_parts, earlier_is, both, of_next}
use Rattle.memory_links.proofs.OneBeat.{flat_mark, flat_at}

module _ (target : Target) (room : ℕ) (up down : Port) (state : DropState) (end : ℕ) (plan : IsDropPlan target up.shape down.shape) (run : RunsAsDrop room up down state) (legal : AreLegalAt up end) (alike : JoinsAlike target up end) (owed : AnswersAreOwed down end) (some : 0 < room) where
  -- ---- where all words above are given, none is owed below

  words_upto : (c : ℕ) → c ≤ end → words_before up.answers.valid c ≡ own_before target room up down state end plan run legal owed c + words_before down.answers.valid c
  words_upto zero h = refl
  words_upto (suc c) h = (counts target room up down state end plan run legal owed c h).words

  -- so many reads are under way below as words are owed above, but for one without a lane
  pub none_owed : (c : ℕ) → c ≤ end → words_owed up c ≤ length (words_at up c) → state.reads c ≡ 0
  none_owed c h given =
      let asked = asked_is target room up down state end plan run legal owed c h in
      let words = words_upto c h in
      let all = reads_are target room up down state end plan run legal owed c h in
      let own = words_step (λ k. one_if (state.own k)) c in
      let up_words = counted target room up down state end plan run legal owed up c in
      omega (arith, given, asked, words, all, own, up_words)

  -- ---- a beat with a lane that begins a command and isn't kept

  pub record IsFirstAt (c : ℕ) : Type 0 where
    pub shown : shows up.commands.signals c ≡ true
    pub acts : lane target room up down state end plan run legal alike c ≡ true
    pub last : now_writes target room up down state end plan run legal alike c && now_more target room up down state end plan run legal alike c ≡ false
    pub free : kept target room up down state end plan run legal alike c ≡ []

  pub free_when_closed : (c : ℕ) → c ≤ end → is_last_joined (taken_at up c) ≡ false → kept target room up down state end plan run legal alike c ≡ []
  free_when_closed c h closed = by_kept (kept target room up down state end plan run legal alike c) refl
    where
      by_kept : (ks : List Marked) → kept target room up down state end plan run legal alike c ≡ ks → kept target room up down state end plan run legal alike c ≡ []
      by_kept [] e = e
      by_kept (k ∷ ks) e = absurd (both_ways (is_last_joined (taken_at up c)) closed (kept_is_open target up (dropped_taken target room up down state end plan run legal alike c h) (ap is_nonempty e)).joined)

  pub level_at : (c : ℕ) → c ≤ end → kept target room up down state end plan run legal alike c ≡ [] → IsLevel target room up down state end plan run legal alike c
  level_at c h free = by_so_far (so_far target room up down state end plan run legal alike c h)
    where
      by_so_far : IsLevel target room up down state end plan run legal alike c ⊎ IsAhead target room up down state end plan run legal alike c → IsLevel target room up down state end plan run legal alike c
      by_so_far (inl level) = level
      by_so_far (inr ahead) = absurd (both_ways (is_nonempty (kept target room up down state end plan run legal alike c)) (ap is_nonempty free) ahead.some)

  none_kept : (c : ℕ) → c < end → IsFirstAt c → state.kept c ≡ []
  none_kept c h first = by_kept (state.kept c) refl
    where
      by_kept : (q : List Raw) → state.kept c ≡ q → state.kept c ≡ []
      by_kept [] e = e
      by_kept (k ∷ q) e =
          let some = ap is_nonempty (sym (level_at c (omega (arith, h)) first.free).kept ∙ ap (map (high target room up down state end plan run legal alike)) e) in
          absurd (both_ways (is_nonempty (kept target room up down state end plan run legal alike c)) (ap is_nonempty first.free) some)

  -- it is accepted when it is taken below
  pub first_taken : (c : ℕ) → c < end → IsFirstAt c → takes up c ≡ takes down c
  first_taken c h first = by_alone _ _ _ _ _ _ _ (alone_at target room up down state end plan run legal alike c (none_kept c h first)) refl refl refl refl refl
    where
      by_alone : (s w a m t b k : Bool) → Alone s w a m t b k → now_writes target room up down state end plan run legal alike c ≡ w → lane target room up down state end plan run legal alike c ≡ a → now_more target room up down state end plan run legal alike c ≡ m → takes down c ≡ t → takes up c ≡ b → takes up c ≡ takes down c
      by_alone s w a m t b k (idle s2 w2 a2 m2) ew ea em et eb = eb ∙ sym et
      by_alone s w a m t b k (swallow w2 m2) ew ea em et eb = absurd (both_ways _ ea first.acts)
      by_alone s w a m t b k keep ew ea em et eb = absurd (both_ways _ first.last (ap₂ (λ w m. w && m) ew em))
      by_alone s w a m t b k (pass_read m2) ew ea em et eb = eb ∙ sym et
      by_alone s w a m t b k pass_write ew ea em et eb = eb ∙ sym et

  -- and shown in its cycle, unless it is a read behind reads that are under way
  pub first_shown_now : (c : ℕ) → c < end → IsFirstAt c → (now_writes target room up down state end plan run legal alike c ≡ false → state.reads c < room) → shows down.commands.signals c ≡ true
  first_shown_now c h first free =
      run.shown c ∙ ap (λ q. sends room (stands_so (shows up.commands.signals c) (is_raised (up.commands.write c)) (standing_at up state c).acts (is_raised (up.commands.more c)) (is_nonempty q) (state.reads c))) (none_kept c h first)
      ∙ ap₂ (λ s a. sends room (stands_so s (is_raised (up.commands.write c)) a (is_raised (up.commands.more c)) false (state.reads c))) first.shown first.acts
      ∙ by_write (is_raised (up.commands.write c)) (is_raised (up.commands.more c)) first.last free
    where
      by_write : (w m : Bool) → w && m ≡ false → (w ≡ false → state.reads c < room) → sends room (stands_so true w true m false (state.reads c)) ≡ true
      by_write true true e f = cc
      by_write true false e f = refl
      by_write false m e f = lt-ltb (state.reads c) room (f refl)

  -- as it is above
  first_beat : (c : ℕ) → c < end → IsFirstAt c → shows down.commands.signals c ≡ true → marked_at down c ≡ flat_mark down.shape (raw_at up c)
  first_beat c h first shown =
      flat_at down end (legal_below target room up down state end plan run legal alike) (one_shown target room up down state end plan run legal) c h shown
      ∙ ap (flat_mark down.shape) (beat_with target room up down state end plan run legal alike c [] (none_kept c h first) shown)

  pub above_is : (c : ℕ) → c < end → shows up.commands.signals c ≡ true → marked_at up c ≡ high target room up down state end plan run legal alike (raw_at up c)
  above_is = flat_at up end legal (up_one target room up down state end plan run legal alike)

  pub first_operations : (c : ℕ) → c < end → IsFirstAt c → shows down.commands.signals c ≡ true → operations_in target down.shape (marked_at down c) ≡ operations_in target up.shape (marked_at up c)
  first_operations c h first shown =
      ap (operations_in target down.shape) (first_beat c h first shown) ∙ (one_alike target room up down state end plan run legal alike (raw_at up c)).operations ∙ ap (operations_in target up.shape) (sym (above_is c h first.shown))

  -- ---- a plain command

  pub record IsPlainAt (c : ℕ) : Type 0 where
    pub first : IsFirstAt c
    pub closing : now_more target room up down state end plan run legal alike c ≡ false
    pub alone : is_last_joined (taken_at up c) ≡ false

  pub plain_at : (c : ℕ) → c < end → IsTrue (shows_plain up c) → IsPlainAt c
  plain_at c h plain =
      let p = plain_parts up c plain in
      let above = above_is c h p.shown in
      let alone = ap is_last_joined (sym (earlier_is up end legal c h p.shown)) ∙ not-true (is_last_joined (earlier_shown up c)) p.alone in
      let closing = not-true (is_raised (up.commands.more c)) p.closing in
      record {
        first = record {
          shown = p.shown;
          acts = one_any (list_any (is_enabled (up.commands.enables c)) (numbers 0 up.shape.word_bytes)) (ap (has_lane up.shape) (sym above) ∙ p.lane);
          last = ap (λ m. is_raised (up.commands.write c) && m) closing ∙ none_more (is_raised (up.commands.write c));
          free = free_when_closed c (omega (arith, h)) alone;
        };
        closing = closing;
        alone = alone;
      }
    where
      one_any : (b : Bool) → b || false ≡ true → b ≡ true
      one_any true e = refl
      one_any false e = e

      none_more : (b : Bool) → b && false ≡ false
      none_more true = refl
      none_more false = refl

  -- it is plain below too
  pub plain_below : (c : ℕ) → c < end → IsPlainAt c → shows down.commands.signals c ≡ true → IsTrue (shows_plain down c)
  plain_below c h plain shown =
      both shown (subst (λ m. IsTrue (is_plain down.shape (earlier_shown down c) m)) (sym (first_beat c h plain.first shown)) (both (both (both alone (ap not plain.closing)) refl) lanes))
    where
      level : IsLevel target room up down state end plan run legal alike c
      level = level_at c (omega (arith, h)) plain.first.free

      by_last : (b : Bool) → is_last_joined (taken_at down c) ≡ b → is_last_joined (taken_at down c) ≡ false
      by_last false e = e
      by_last true e = absurd (both_ways (is_last_joined (taken_at up c)) plain.alone (left_open target room up down state end plan run legal alike owed some c (omega (arith, h)) level e).0)

      alone : IsTrue (not (is_last_joined (earlier_shown down c)))
      alone = ap not (ap is_last_joined (earlier_is down end (legal_below target room up down state end plan run legal alike) c h shown) ∙ by_last (is_last_joined (taken_at down c)) refl)

      lanes : list_any (is_enabled (up.commands.enables c)) (numbers 0 down.shape.word_bytes) || false ≡ true
      lanes = ap (λ n. list_any (is_enabled (up.commands.enables c)) (numbers 0 n) || false) plan.same ∙ ap (λ b. b || false) plain.first.acts

  pub given_at : (c : ℕ) → c < end → shows up.commands.signals c ≡ true → IsTrue (are_answered up (earlier_shown up c) c) → state.reads c ≡ 0
  given_at c h shown answered =
      let given = leb-true (length (read_beats (earlier_shown up c))) (length (words_at up c)) answered in
      let same = ap (λ l. length (read_beats l)) (earlier_is up end legal c h shown) in
      none_owed c (omega (arith, h)) (omega (arith, given, same))

  -- while all words are given, it is shown below in its cycle
  plain_shown : (c : ℕ) → c < end → IsPlainAt c → IsTrue (are_answered up (earlier_shown up c) c) → shows down.commands.signals c ≡ true
  plain_shown c h plain answered =
      let none = given_at c h plain.first.shown answered in
      first_shown_now c h plain.first (λ read. omega (arith, none, some))

  -- all that was accepted is taken, where a plain command was accepted
  plain_taken : (c : ℕ) → c < end → IsPlainAt c → takes up c ≡ true → IsTrue (are_taken_below target up down (taken_at up (suc c)) (suc c))
  plain_taken c h plain taken =
      let free : kept target room up down state end plan run legal alike (suc c) ≡ [] =
      keeps_next target room up down state end plan run legal alike c h taken true (is_raised (up.commands.write c)) false plain.first.acts refl plain.closing
      ∙ ap (λ b. if b then high target room up down state end plan run legal alike (raw_at up c) ∷ [] else []) (none_more (is_raised (up.commands.write c))) in
      let sums = same_sum target up.shape (dropped_taken target room up down state end plan run legal alike (suc c) h) in
      let none = ap (sum target up.shape) free in
      let below = level_sum target room up down state end plan run legal alike (suc c) h (level_at (suc c) h free) in
      let above = total_sizes target up.shape (taken_at up (suc c)) in
      le-leb _ _ (omega (arith, sums, none, below, above))
    where
      none_more : (b : Bool) → b && false ≡ false
      none_more true = refl
      none_more false = refl

  pub straight : GoesStraightThrough (λ c. false) target up down end
  straight = record {
    shown = λ c h same plain may.
        let is = plain_at c h plain in
        let shown = plain_shown c h is (answered_of _ _ may) in
        (shown, first_operations c h is.first shown);
    accepted = λ c h same plain may. first_taken c h (plain_at c h plain).first;
    kept = λ c h same plain taken. plain_taken c h (plain_at c h plain) taken;
  }
    where
      answered_of : (a b : Bool) → IsTrue (a && (false || b)) → IsTrue b
      answered_of a b may = (and_parts a b may).1

  pub in_step : GoesInStep false target up down end
  in_step = record {
    accepts = fewer;
    full = λ c h next shown.
        let is = of_next false target up down c next in
        ap is_nonempty (first_operations c h (plain_at c h is.plain).first shown) ∙ is.acts;
    plain = λ c h next. (let is = of_next false target up down c next in let plain = plain_at c h is.plain in plain_below c h plain (plain_shown c h plain is.given));
    at_once = λ c h plain taken.
        let is = plain_at c h plain in
        let low = sym (first_taken c h is.first) ∙ taken in
        (plain_below c h is (and_parts (shows down.commands.signals c) (not (is_raised (down.commands.waitrequest c))) low).0, low);
    quiet = λ c h answered. quiet c h (leb-true (length (read_beats (taken_at up c))) (length (words_at up c)) answered);
  }
    where
      fewer : (c : ℕ) → c ≤ end → length (operations_among target down.shape (taken_at down c)) ≤ length (operations_among target up.shape (taken_at up c))
      fewer c h = by_so_far (so_far target room up down state end plan run legal alike c h)
        where
          by_so_far : IsLevel target room up down state end plan run legal alike c ⊎ IsAhead target room up down state end plan run legal alike c → length (operations_among target down.shape (taken_at down c)) ≤ length (operations_among target up.shape (taken_at up c))
          by_so_far (inl level) =
              let sums = same_sum target up.shape (dropped_taken target room up down state end plan run legal alike c h) in
              let below = level_sum target room up down state end plan run legal alike c h level in
              let above = total_sizes target up.shape (taken_at up c) in
              omega (arith, sums, below, above)
          by_so_far (inr ahead) =
              let below = ahead_sum target room up down state end plan run legal alike c h ahead in
              let above = total_sizes target up.shape (taken_at up c) in
              omega (arith, below, above)

      quiet : (c : ℕ) → c ≤ end → words_owed up c ≤ length (words_at up c) → IsTrue (are_answered down (taken_at down c) c)
      quiet c h given =
          let none = none_owed c h given in
          let all = reads_are target room up down state end plan run legal owed c h in
          let words = counted target room up down state end plan run legal owed down c in
          le-leb _ _ (omega (arith, none, all, words))
