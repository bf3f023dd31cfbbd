-- Each word above a machine that drops beats without a lane is a word from below, or the word of a read without a lane.
use Rattle.std.proofs.Common.{ℕ, zero, suc, ◌<◌, ◌≤◌, ◌≡◌, ◌+◌, ◌*◌, ◌⊎◌, inl, inr, Bool, true, false, not, ◌&&◌, ◌||◌, List, [], ◌∷◌, ◌++◌, if◌then◌else◌, arith, refl, sym, ap, ap₂, subst, ◌∙◌, map, length, zip, flat_map, append-nil, append_assoc, length-append, le_of_eq}
use Rattle.std.proofs.lemmas.Bool.{and_parts, not-true}
use Rattle.histories.specs.History.{is_raised, one_if, only_if}
use Rattle.memory_runs.specs.Views.Kind.{Reads}
use Rattle.memory_runs.specs.Legal.{Word}
use Rattle.memory_runs.specs.Operations.{Beat}
use Rattle.memory_runs.specs.Commands.{shows, byte_address}
use Rattle.memory_machines.specs.Link.{Target, Port, AreLegalAt, AnswersAreOwed, takes, marked_at, taken_at, read_beats, words_at}
use Rattle.memory_machines.specs.Machines.{Raw, raw_at, raws}
use Rattle.memory_machines.specs.SideLaws.{zip_front}
use Rattle.memory_links.specs.Selects.{takes_read}
use Rattle.memory_links.specs.Drops.{DropState, RunsAsDrop, IsDropPlan, any_lane, standing_at, owes_itself, accepted, sent_beat}
use Rattle.memory_links.proofs.OneBeat.{beat_by, count_is_one, flat_mark, flat_at, flat_taken, transfer_by, reads_in, reads_of_one, reads_append}
use Rattle.memory_links.proofs.DropShown.{stands_so, one_shown, drop_legal, now}
use Rattle.memory_links.proofs.DropWords.{swallowed, reads_split, reads_are, words_apart, counted, swallowed_free, words_step}

module _ (target : Target) (room : ℕ) (up down : Port) (state : DropState) (end : ℕ) (plan : IsDropPlan target up.shape down.shape) (run : RunsAsDrop room up down state) (legal : AreLegalAt up end) (owed : AnswersAreOwed down end) where
  -- the beat that stands above, as a read
  abbrev asked : ℕ → Beat
  asked c = beat_by Reads (byte_address up.shape (up.commands.address c) + 0 * up.shape.word_bytes) 0 (up.commands.enables c)

  flat_same : (raw : Raw) → flat_mark down.shape raw ≡ flat_mark up.shape raw
  flat_same raw = ap₂ (λ n w. flat_mark (record up.shape { unit_bytes = n; word_bytes = w }) raw) plan.units plan.same

  -- what is taken below, in the words of the upper side
  pub taken_below : (c : ℕ) → c ≤ end → taken_at down c ≡ map (flat_mark up.shape) (raws down c)
  taken_below c h = flat_taken down end (drop_legal target room up down state end plan run legal) (one_shown target room up down state end plan run legal) c h ∙ same (raws down c)
    where
      same : (rs : List Raw) → map (flat_mark down.shape) rs ≡ map (flat_mark up.shape) rs
      same [] = refl
      same (r ∷ rs) = ap₂ (λ x y. x ∷ y) (flat_same r) (same rs)

  abbrev beat_of : Raw → Beat
  beat_of raw = beat_by Reads (byte_address up.shape raw.levels.address + 0 * up.shape.word_bytes) 0 raw.levels.enables

  abbrev SameRead : ℕ → Raw → Type 0
  SameRead c raw = only_if (not (is_raised raw.levels.write)) (beat_of raw) ≡ only_if (not (is_raised raw.levels.write)) (asked c)

  read_of : (raw : Raw) → read_beats (flat_mark up.shape raw ∷ []) ≡ only_if (not (is_raised raw.levels.write)) (beat_of raw)
  read_of raw = reads_of_one (flat_mark up.shape raw) ∙ by_write (is_raised raw.levels.write)
    where
      by_write : (w : Bool) → reads_in (transfer_by up.shape raw.levels w) ≡ only_if (not w) (beat_of raw)
      by_write true = refl
      by_write false = refl

  -- the reads of one more cycle
  reads_above : (c : ℕ) → c < end → read_beats (taken_at up (suc c)) ≡ read_beats (taken_at up c) ++ only_if (takes_read up c) (asked c)
  reads_above c h = reads_append (taken_at up c) (only_if (takes up c) (marked_at up c)) ∙ ap (λ l. read_beats (taken_at up c) ++ l) (by_take (takes up c) refl)
    where
      by_take : (t : Bool) → takes up c ≡ t → read_beats (only_if t (marked_at up c)) ≡ only_if (t && not (is_raised (up.commands.write c))) (asked c)
      by_take false t = refl
      by_take true t =
          ap (λ m. read_beats (m ∷ [])) (flat_at up end legal (count_is_one up end plan.one_beat legal) c h (and_parts (shows up.commands.signals c) (not (is_raised (up.commands.waitrequest c))) t).0) ∙ read_of (raw_at up c)

  reads_below : (c : ℕ) → c < end → read_beats (taken_at down (suc c)) ≡ read_beats (taken_at down c) ++ only_if (takes_read down c) (asked c)
  reads_below c h = reads_append (taken_at down c) (only_if (takes down c) (marked_at down c)) ∙ ap (λ l. read_beats (taken_at down c) ++ l) (by_take (takes down c) refl)
    where
      by_kept : (q : List Raw) → SameRead c (sent_beat q (raw_at up c) (standing_at up state c).acts)
      by_kept [] = refl
      by_kept (k ∷ later) = refl

      by_take : (t : Bool) → takes down c ≡ t → read_beats (only_if t (marked_at down c)) ≡ only_if (t && not (is_raised (down.commands.write c))) (asked c)
      by_take false t = refl
      by_take true t =
          let shown = (and_parts (shows down.commands.signals c) (not (is_raised (down.commands.waitrequest c))) t).0 in
          ap (λ m. read_beats (m ∷ [])) (flat_at down end (drop_legal target room up down state end plan run legal) (one_shown target room up down state end plan run legal) c h shown ∙ flat_same (raw_at down c))
          ∙ read_of (raw_at down c) ∙ subst (SameRead c) (sym (run.beat c shown)) (by_kept (state.kept c))

  -- ---- which word answers which read

  module _ (C : Type 0) (g : Beat × Word → List C) (none : (b : Beat) (w : Word) → any_lane up.shape b.enables ≡ false → g (b, w) ≡ []) where
    abbrev told : List Beat → List Word → List C
    told bs ws = flat_map g (zip bs ws)

    one_told : (bs : List Beat) (ws : List Word) (b : Beat) (w : Word) → length ws ≡ length bs → told (bs ++ b ∷ []) (ws ++ w ∷ []) ≡ told bs ws ++ g (b, w)
    one_told [] [] b w e = append-nil (g (b, w))
    one_told [] (v ∷ ws) b w e = absurd (omega (arith, e))
    one_told (a ∷ bs) [] b w e = absurd (omega (arith, e))
    one_told (a ∷ bs) (v ∷ ws) b w e = ap (λ l. g (a, v) ++ l) (one_told bs ws b w (omega (arith, e))) ∙ sym (append_assoc (g (a, v)) (told bs ws) (g (b, w)))

    -- of the reads above the first are answered. The others are those that are under way below, or one without a lane alone, whose word comes in this cycle
    record Told (c : ℕ) : Type 0 where
      pub answered : List Beat
      pub low_answered : List Beat
      pub pending : List Beat
      pub lone : List Beat
      pub whole : read_beats (taken_at up c) ≡ (answered ++ pending) ++ lone
      pub low : read_beats (taken_at down c) ≡ low_answered ++ pending
      pub given : length (words_at up c) ≡ length answered
      pub low_given : length (words_at down c) ≡ length low_answered
      pub same : told answered (words_at up c) ≡ told low_answered (words_at down c)
      pub own : ((state.own c ≡ false) × (lone ≡ [])) ⊎ ((b : Beat) × (state.own c ≡ true) × (lone ≡ b ∷ []) × (any_lane up.shape b.enables ≡ false) × (pending ≡ []))

    -- with the words of this cycle
    record Mid (c : ℕ) : Type 0 where
      pub answered : List Beat
      pub low_answered : List Beat
      pub pending : List Beat
      pub whole : read_beats (taken_at up c) ≡ answered ++ pending
      pub low : read_beats (taken_at down c) ≡ low_answered ++ pending
      pub given : length (words_at up (suc c)) ≡ length answered
      pub low_given : length (words_at down (suc c)) ≡ length low_answered
      pub same : told answered (words_at up (suc c)) ≡ told low_answered (words_at down (suc c))
      pub few : length pending ≤ state.reads c

    abbrev word_of : ℕ → ℕ → Word
    word_of word code = record { word = word; code = code }

    more_word : (port : Port) (c : ℕ) (v : Bool) → is_raised (port.answers.valid c) ≡ v → words_at port (suc c) ≡ words_at port c ++ only_if v (word_of (port.answers.word c) (port.answers.code c))
    more_word port c v e = ap (λ b. words_at port c ++ only_if b (word_of (port.answers.word c) (port.answers.code c))) e

    mid : (c : ℕ) → c < end → Told c → Mid c
    mid c h now = by_own now.own (is_raised (down.answers.valid c)) refl
      where
        under_way : length now.pending ≡ state.reads c
        under_way =
            let asked_low = ap length now.low ∙ length-append now.low_answered now.pending in
            let count = reads_are target room up down state end plan run legal owed c (omega (arith, h)) in
            let words = counted target room up down state end plan run legal owed down c in
            let given = now.low_given in
            omega (arith, asked_low, count, words, given)

        by_own : ((state.own c ≡ false) × (now.lone ≡ [])) ⊎ ((b : Beat) × (state.own c ≡ true) × (now.lone ≡ b ∷ []) × (any_lane up.shape b.enables ≡ false) × (now.pending ≡ [])) → (v : Bool) → is_raised (down.answers.valid c) ≡ v → Mid c
        by_own (inr own) v e =
            let w = word_of (up.answers.word c) (up.answers.code c) in
            let up_words = more_word up c true (run.valid c ∙ ap (λ b. b || is_raised (down.answers.valid c)) own.1) in
            let quiet = words_apart target room up down state end plan run legal owed c h own.1 in
            let low_words = more_word down c false quiet ∙ append-nil (words_at down c) in
            let given = now.given in
            record {
              answered = now.answered ++ own.0 ∷ [];
              low_answered = now.low_answered;
              pending = [];
              whole = now.whole ∙ ap₂ (λ p l. (now.answered ++ p) ++ l) own.4 own.2 ∙ ap (λ l. l ++ own.0 ∷ []) (append-nil now.answered) ∙ sym (append-nil (now.answered ++ own.0 ∷ []));
              low = now.low ∙ ap (λ p. now.low_answered ++ p) own.4;
              given = ap length up_words ∙ length-append (words_at up c) (w ∷ []) ∙ ap (λ n. n + 1) given ∙ sym (length-append now.answered (own.0 ∷ []));
              low_given = ap length low_words ∙ now.low_given;
              same = ap (told (now.answered ++ own.0 ∷ [])) up_words ∙ one_told now.answered (words_at up c) own.0 w given ∙ ap (λ l. told now.answered (words_at up c) ++ l) (none own.0 w own.3) ∙ append-nil _
                  ∙ now.same ∙ ap (told now.low_answered) (sym low_words);
              few = omega arith;
            }
        by_own (inl own) false e =
            let up_words = more_word up c false (run.valid c ∙ ap₂ (λ b v. b || v) own.0 e) ∙ append-nil (words_at up c) in
            let low_words = more_word down c false e ∙ append-nil (words_at down c) in
            record {
              answered = now.answered;
              low_answered = now.low_answered;
              pending = now.pending;
              whole = now.whole ∙ ap (λ l. (now.answered ++ now.pending) ++ l) own.1 ∙ append-nil (now.answered ++ now.pending);
              low = now.low;
              given = ap length up_words ∙ now.given;
              low_given = ap length low_words ∙ now.low_given;
              same = ap (told now.answered) up_words ∙ now.same ∙ ap (told now.low_answered) (sym low_words);
              few = le_of_eq under_way;
            }
        by_own (inl own) true e = by_pending now.pending refl
          where
            w : Word
            w = word_of (down.answers.word c) (down.answers.code c)

            up_words : words_at up (suc c) ≡ words_at up c ++ w ∷ []
            up_words =
                more_word up c true (run.valid c ∙ ap₂ (λ b v. b || v) own.0 e)
                ∙ ap₂ (λ x y. words_at up c ++ word_of x y ∷ []) (run.word c own.0) (run.code c ∙ ap (λ b. if b then 0 else down.answers.code c) own.0)

            low_words : words_at down (suc c) ≡ words_at down c ++ w ∷ []
            low_words = more_word down c true e

            by_pending : (ps : List Beat) → now.pending ≡ ps → Mid c
            by_pending [] f =
                let most = owed c h in
                let step = words_step down.answers.valid c in
                let come = ap one_if e in
                let asked_low = ap length now.low ∙ length-append now.low_answered now.pending in
                let words = counted target room up down state end plan run legal owed down c in
                let given = now.low_given in
                let empty = ap length f in
                absurd (omega (arith, most, step, come, asked_low, words, given, empty))
            by_pending (p ∷ ps) f = record {
              answered = now.answered ++ p ∷ [];
              low_answered = now.low_answered ++ p ∷ [];
              pending = ps;
              whole = now.whole ∙ ap₂ (λ q l. (now.answered ++ q) ++ l) f own.1 ∙ append-nil (now.answered ++ p ∷ ps) ∙ sym (append_assoc now.answered (p ∷ []) ps);
              low = now.low ∙ ap (λ q. now.low_answered ++ q) f ∙ sym (append_assoc now.low_answered (p ∷ []) ps);
              given = ap length up_words ∙ length-append (words_at up c) (w ∷ []) ∙ ap (λ n. n + 1) now.given ∙ sym (length-append now.answered (p ∷ []));
              low_given = ap length low_words ∙ length-append (words_at down c) (w ∷ []) ∙ ap (λ n. n + 1) now.low_given ∙ sym (length-append now.low_answered (p ∷ []));
              same = ap (told (now.answered ++ p ∷ [])) up_words ∙ one_told now.answered (words_at up c) p w now.given ∙ ap (λ l. l ++ g (p, w)) now.same
                  ∙ sym (one_told now.low_answered (words_at down c) p w now.low_given) ∙ ap (told (now.low_answered ++ p ∷ [])) (sym low_words);
              few = (let all = under_way in let size = ap length f in omega (arith, all, size));
            }

    no_lane : (s w a m h t : Bool) (r : ℕ) → owes_itself (stands_so s w a m h r) t ≡ true → a ≡ false
    no_lane s w a m h t r e = not-true a (and_parts (not w) (not a) (and_parts (accepted (stands_so s w a m h r) t) (not w && not a) e).1).1

    one_in : (b d : Bool) → one_if b ≡ 1 + one_if d → (b ≡ true) × (d ≡ false)
    one_in true false e = (refl, refl)
    one_in true true e = absurd (omega (arith, e))
    one_in false d e = absurd (omega (arith, e))

    one_same : (b d : Bool) → one_if b ≡ 0 + one_if d → b ≡ d
    one_same true true e = refl
    one_same false false e = refl
    one_same true false e = absurd (omega (arith, e))
    one_same false true e = absurd (omega (arith, e))

    no_length : {A : Type 0} (l : List A) → length l ≤ 0 → l ≡ []
    no_length [] h = refl
    no_length (x ∷ l) h = absurd (omega (arith, h))

    next : (c : ℕ) → c < end → Mid c → Told (suc c)
    next c h mid = by_swallow (swallowed target room up down state end plan run legal owed c) refl (takes_read down c) refl
      where
        split : one_if (takes_read up c) ≡ one_if (swallowed target room up down state end plan run legal owed c) + one_if (takes_read down c)
        split = reads_split target room up down state end plan run legal owed c

        by_swallow : (b : Bool) → swallowed target room up down state end plan run legal owed c ≡ b → (d : Bool) → takes_read down c ≡ d → Told (suc c)
        by_swallow true e d f =
            let both = one_in (takes_read up c) (takes_read down c) (split ∙ ap (λ b. one_if b + one_if (takes_read down c)) e) in
            let free = swallowed_free (shows up.commands.signals c) (is_raised (up.commands.write c)) (standing_at up state c).acts (is_raised (up.commands.more c)) (standing_at up state c).holds (takes down c) (state.reads c) e in
            let few = mid.few in
            let empty = no_length mid.pending (omega (arith, few, free)) in
            record {
              answered = mid.answered;
              low_answered = mid.low_answered;
              pending = mid.pending;
              lone = asked c ∷ [];
              whole = reads_above c h ∙ ap₂ (λ l b. l ++ only_if b (asked c)) mid.whole both.0;
              low = reads_below c h ∙ ap₂ (λ l b. l ++ only_if b (asked c)) mid.low both.1 ∙ append-nil (mid.low_answered ++ mid.pending);
              given = mid.given;
              low_given = mid.low_given;
              same = mid.same;
              own = inr (asked c, run.own_next c ∙ e, refl, no_lane (shows up.commands.signals c) (is_raised (up.commands.write c)) (standing_at up state c).acts (is_raised (up.commands.more c)) (standing_at up state c).holds (takes down c) (state.reads c) e, empty);
            }
        by_swallow false e true f =
            let above = one_same (takes_read up c) (takes_read down c) (split ∙ ap (λ b. one_if b + one_if (takes_read down c)) e) ∙ f in
            record {
              answered = mid.answered;
              low_answered = mid.low_answered;
              pending = mid.pending ++ asked c ∷ [];
              lone = [];
              whole = reads_above c h ∙ ap₂ (λ l b. l ++ only_if b (asked c)) mid.whole above ∙ append_assoc mid.answered mid.pending (asked c ∷ []) ∙ sym (append-nil (mid.answered ++ (mid.pending ++ asked c ∷ [])));
              low = reads_below c h ∙ ap₂ (λ l b. l ++ only_if b (asked c)) mid.low f ∙ append_assoc mid.low_answered mid.pending (asked c ∷ []);
              given = mid.given;
              low_given = mid.low_given;
              same = mid.same;
              own = inl (run.own_next c ∙ e, refl);
            }
        by_swallow false e false f =
            let above = one_same (takes_read up c) (takes_read down c) (split ∙ ap (λ b. one_if b + one_if (takes_read down c)) e) ∙ f in
            record {
              answered = mid.answered;
              low_answered = mid.low_answered;
              pending = mid.pending;
              lone = [];
              whole = reads_above c h ∙ ap₂ (λ l b. l ++ only_if b (asked c)) mid.whole above;
              low = reads_below c h ∙ ap₂ (λ l b. l ++ only_if b (asked c)) mid.low f ∙ append-nil (mid.low_answered ++ mid.pending);
              given = mid.given;
              low_given = mid.low_given;
              same = mid.same;
              own = inl (run.own_next c ∙ e, refl);
            }

    tells : (c : ℕ) → c ≤ end → Told c
    tells zero h = record { answered = []; low_answered = []; pending = []; lone = []; whole = refl; low = refl; given = refl; low_given = refl; same = refl; own = inl (run.own_begins, refl) }
    tells (suc c) h = next c h (mid c h (tells c (omega (arith, h))))

    -- what the words above tell of their reads is what those below tell
    pub told_same : (c : ℕ) → c ≤ end → flat_map g (zip (read_beats (taken_at up c)) (words_at up c)) ≡ flat_map g (zip (read_beats (taken_at down c)) (words_at down c))
    told_same c h =
        let now = tells c h in
        ap (λ l. told l (words_at up c)) (now.whole ∙ append_assoc now.answered now.pending now.lone)
        ∙ ap (flat_map g) (zip_front now.answered (now.pending ++ now.lone) (words_at up c) (le_of_eq now.given))
        ∙ now.same
        ∙ ap (flat_map g) (sym (zip_front now.low_answered now.pending (words_at down c) (le_of_eq now.low_given)))
        ∙ ap (λ l. told l (words_at down c)) (sym now.low)
