-- What a gatherer gives above are the narrow words of the words that have come, in order, without those that it still holds.
use Rattle.std.proofs.Common.{ℕ, zero, suc, ◌<◌, ◌≤◌, ◌≡◌, ◌+◌, ◌*◌, ◌/◌, ◌%◌, ◌^◌, Bool, true, false, not, ◌&&◌, List, [], ◌∷◌, ◌++◌, if◌then◌else◌, arith, refl, sym, ap, ap₂, subst, ◌∙◌, length, drop, nat_lt, append-nil, append_assoc, length-append, length-drop, lt-ltb, ltb-true, ltb-false}
use Rattle.std.proofs.lemmas.Bool.{and_parts, not-true, both_ways}
use Rattle.std.proofs.lemmas.List.{drop-append-le, drop-drop}
use Rattle.histories.specs.History.{is_raised, one_if, only_if, all_accepted, IsPrefix}
use Rattle.memory_runs.specs.Legal.{Word}
use Rattle.memory_machines.specs.Link.{Port, words_at, is_nonempty}
use Rattle.memory_links.specs.Selects.{takes_read}
use Rattle.memory_links.proofs.Lanes.{cut}
use Rattle.memory_links.specs.Gathers.{RunsAsGather, GatherState, Entry, first_entry, first_word, word_at, is_last, held, comes, entry_at}
use Rattle.memory_links.proofs.Expand.{AllSome, AllLie, lie_drop, place_inside, some_drop, cut_entry, expand, expand_front, expand_push, piece_at, drop_all, pieces_length}

module _ (room : ℕ) (up down : Port) (state : GatherState) (run : RunsAsGather room up down state) (end : ℕ) where
  abbrev pub b : ℕ
  b = up.shape.word_bytes

  -- the reads that were asked before a cycle
  abbrev pub asked : ℕ → List Entry
  asked c = all_accepted (takes_read up) (entry_at up down) c

  abbrev coming : ℕ → Bool
  coming c = is_raised (down.answers.valid c)

  module _ (few : (c : ℕ) → c < end → coming c ≡ true → length (words_at down c) < length (asked c)) (some : (c : ℕ) → c ≤ end → AllSome (asked c)) (lies : (c : ℕ) → c ≤ end → AllLie b down.shape.word_bytes (asked c)) (bytes : 0 < up.shape.word_bytes) where
    -- where the reads stand as a cycle begins
    pub record Stands (c : ℕ) : Type 0 where
      pub done : ℕ
      pub entries : state.entries c ≡ drop done (asked c)
      pub words : length (words_at down c) ≡ done + length (state.words c)
      pub asks : length (asked c) ≡ done + length (state.entries c)
      pub few_words : length (state.words c) ≤ length (state.entries c)
      pub some_given : 0 < length (state.words c) → state.given c < (first_entry (state.entries c)).count
      pub none_given : length (state.words c) ≡ 0 → state.given c ≡ 0
      pub given : words_at up c ++ drop (state.given c) (expand b (state.entries c) (state.words c)) ≡ expand b (asked c) (words_at down c)

    -- and with the word of the cycle
    pub record Holds (c : ℕ) (now : Stands c) : Type 0 where
      pub few_held : length (held down state c) ≤ length (state.entries c)
      pub size : length (words_at down (suc c)) ≡ now.done + length (held down state c)
      pub given : words_at up c ++ drop (state.given c) (expand b (state.entries c) (held down state c)) ≡ expand b (asked c) (words_at down (suc c))
      pub inside : 0 < length (held down state c) → state.given c < (first_entry (state.entries c)).count

    first_some : (es : List Entry) → AllSome es → 0 < length es → 0 < (first_entry es).count
    first_some [] a h = absurd (omega (arith, h))
    first_some (e ∷ es) a h = a.0

    pub comes_so : (c : ℕ) → c < end → Stands c → comes down state c ≡ coming c
    comes_so c h now = by_valid (coming c) refl
      where
        by_valid : (v : Bool) → coming c ≡ v → comes down state c ≡ coming c
        by_valid false e = ap (λ v. v && nat_lt (length (state.words c)) (length (state.entries c))) e ∙ sym e
        by_valid true e =
            let less = few c h e in
            let words = now.words in
            let asks = now.asks in
            ap₂ (λ v l. v && l) e (lt-ltb (length (state.words c)) (length (state.entries c)) (omega (arith, less, words, asks))) ∙ sym e

    pub holds : (c : ℕ) → c < end → (now : Stands c) → Holds c now
    holds c h now = by_valid (coming c) refl
      where
        w : Word
        w = word_at down c

        by_valid : (v : Bool) → coming c ≡ v → Holds c now
        by_valid false e =
            let held_is : held down state c ≡ state.words c = ap (λ v. state.words c ++ only_if v w) (comes_so c h now ∙ e) ∙ append-nil (state.words c) in
            let words_are : words_at down (suc c) ≡ words_at down c = ap (λ v. words_at down c ++ only_if v w) e ∙ append-nil (words_at down c) in
            let words = now.words in
            let asks = now.asks in
            let same = ap length held_is in
            let later = ap length words_are in
            record {
              few_held = (let fewer = now.few_words in omega (arith, same, fewer));
              size = omega (arith, same, later, words);
              given = ap (λ l. words_at up c ++ drop (state.given c) (expand b (state.entries c) l)) held_is ∙ now.given ∙ ap (expand b (asked c)) (sym words_are);
              inside = λ more. now.some_given (omega (arith, more, same));
            }
        by_valid true e =
            let held_is : held down state c ≡ state.words c ++ w ∷ [] = ap (λ v. state.words c ++ only_if v w) (comes_so c h now ∙ e) in
            let words_are : words_at down (suc c) ≡ words_at down c ++ w ∷ [] = ap (λ v. words_at down c ++ only_if v w) e in
            let words = now.words in
            let asks = now.asks in
            let less = few c h e in
            let same = ap length held_is ∙ length-append (state.words c) (w ∷ []) in
            let later = ap length words_are ∙ length-append (words_at down c) (w ∷ []) in
            let room_left : length (state.words c) < length (state.entries c) = omega (arith, words, asks, less) in
            let next : drop (length (state.words c)) (state.entries c) ≡ drop (length (words_at down c)) (asked c) =
            ap (drop (length (state.words c))) now.entries ∙ drop-drop (length (state.words c)) now.done (asked c)
            ∙ ap (λ n. drop n (asked c)) (let e2 : now.done + length (state.words c) ≡ length (words_at down c) = omega (arith, words) in e2) in
            let reaches : state.given c ≤ length (expand b (state.entries c) (state.words c)) = given_within now in
            record {
              few_held = omega (arith, same, room_left);
              size = omega (arith, same, later, words);
              given =
                  ap (λ l. words_at up c ++ drop (state.given c) (expand b (state.entries c) l)) held_is
                  ∙ ap (λ l. words_at up c ++ drop (state.given c) l) (expand_push b (state.entries c) (state.words c) w room_left)
                  ∙ ap (λ l. words_at up c ++ l) (drop-append-le (state.given c) (expand b (state.entries c) (state.words c)) (cut_entry b (first_entry (drop (length (state.words c)) (state.entries c))) w) reaches)
                  ∙ sym (append_assoc (words_at up c) (drop (state.given c) (expand b (state.entries c) (state.words c))) (cut_entry b (first_entry (drop (length (state.words c)) (state.entries c))) w))
                  ∙ ap₂ (λ l m. l ++ cut_entry b (first_entry m) w) now.given next
                  ∙ sym (expand_push b (asked c) (words_at down c) w less)
                  ∙ ap (expand b (asked c)) (sym words_are);
              inside = λ more. in_first (length (state.words c)) refl;
            }
          where
            given_within : Stands c → state.given c ≤ length (expand b (state.entries c) (state.words c))
            given_within at = by_words (state.entries c) (state.words c) at.some_given at.none_given
              where
                by_words : (es : List Entry) (ws : List Word) → (0 < length ws → state.given c < (first_entry es).count) → (length ws ≡ 0 → state.given c ≡ 0) → state.given c ≤ length (expand b es ws)
                by_words es [] inside none = (let zeros = none refl in omega (arith, zeros))
                by_words [] (v ∷ ws) inside none = (let less = inside (omega arith) in absurd (omega (arith, less)))
                by_words (f ∷ es) (v ∷ ws) inside none =
                    let less = inside (omega arith) in
                    let one = pieces_length b f.offset f.count v in
                    let both = length-append (cut_entry b f v) (expand b es ws) in
                    omega (arith, less, one, both)

            in_first : (n : ℕ) → length (state.words c) ≡ n → state.given c < (first_entry (state.entries c)).count
            in_first zero k =
                let zeros = now.none_given k in
                let asks = now.asks in
                let words = now.words in
                let less = few c h e in
                let first = first_some (state.entries c) (subst AllSome (sym now.entries) (some_drop now.done (asked c) (some c (omega (arith, h))))) (omega (arith, asks, words, less)) in
                omega (arith, zeros, first)
            in_first (suc n) k = now.some_given (omega (arith, k))

    -- ---- what is given in a cycle

    abbrev up_word : ℕ → Word
    up_word c = record { word = up.answers.word c; code = up.answers.code c }

    words_with : (c : ℕ) (v : Bool) → is_nonempty (held down state c) ≡ v → words_at up (suc c) ≡ words_at up c ++ only_if v (up_word c)
    words_with c v e = ap (λ v. words_at up c ++ only_if v (up_word c)) (run.valid c ∙ e)

    is_some : {A : Type 0} (xs : List A) → is_nonempty xs ≡ true → 0 < length xs
    is_some [] e = cc
    is_some (x ∷ xs) e = omega arith

    is_none : {A : Type 0} (xs : List A) → is_nonempty xs ≡ false → xs ≡ []
    is_none [] e = refl
    is_none (x ∷ xs) e = cc

    -- the word that is given is the next one of those
    given_word : (es : List Entry) (ws : List Word) (g : ℕ) → 0 < length ws → length ws ≤ length es → g < (first_entry es).count →
        drop g (expand b es ws) ≡ cut b ((first_entry es).offset + g * b) (first_word ws) ∷ drop (suc g) (expand b es ws)
    given_word es [] g more fits less = absurd (omega (arith, more))
    given_word [] (w ∷ ws) g more fits less = absurd (omega (arith, fits))
    given_word (e ∷ es) (w ∷ ws) g more fits less = piece_at b e.offset e.count g w (expand b es ws) less

    -- behind the last one
    past_first : (es : List Entry) (ws : List Word) (g : ℕ) → 0 < length ws → length ws ≤ length es → suc g ≡ (first_entry es).count →
        drop (suc g) (expand b es ws) ≡ expand b (drop 1 es) (drop 1 ws)
    past_first es [] g more fits whole = absurd (omega (arith, more))
    past_first [] (w ∷ ws) g more fits whole = absurd (omega (arith, fits))
    past_first (e ∷ es) (w ∷ ws) g more fits whole =
        ap (λ n. drop n (cut_entry b e w ++ expand b es ws)) (whole ∙ sym (pieces_length b e.offset e.count w)) ∙ drop_all (cut_entry b e w) (expand b es ws)

    -- what has been given by the end of a cycle, with what is still held
    none_more : (c : ℕ) → c < end → (now : Stands c) → is_nonempty (held down state c) ≡ false →
        words_at up (suc c) ++ drop (state.given c) (expand b (state.entries c) (held down state c)) ≡ expand b (asked c) (words_at down (suc c))
    none_more c h now e = ap (λ l. l ++ drop (state.given c) (expand b (state.entries c) (held down state c))) (words_with c false e ∙ append-nil (words_at up c)) ∙ (holds c h now).given

    one_more : (c : ℕ) → c < end → (now : Stands c) → is_nonempty (held down state c) ≡ true →
        words_at up (suc c) ++ drop (suc (state.given c)) (expand b (state.entries c) (held down state c)) ≡ expand b (asked c) (words_at down (suc c))
    one_more c h now e =
        let also = holds c h now in
        let more = is_some (held down state c) e in
        let next = given_word (state.entries c) (held down state c) (state.given c) more also.few_held (also.inside more) in
        let few_held_now = also.few_held in
        let inside : ((first_entry (state.entries c)).offset + state.given c * b) % down.shape.word_bytes ≡ (first_entry (state.entries c)).offset + state.given c * b =
        place_inside b down.shape.word_bytes (state.given c) (state.entries c) bytes (subst (AllLie b down.shape.word_bytes) (sym now.entries) (lie_drop b down.shape.word_bytes now.done (asked c) (lies c (omega (arith, h))))) (omega (arith, more, few_held_now)) (also.inside more) in
        let same : up_word c ≡ cut b ((first_entry (state.entries c)).offset + state.given c * b) (first_word (held down state c)) =
        ap₂ (λ w d. word_by w d) (run.word c e ∙ ap (λ n. ((first_word (held down state c)).word / 256 ^ n) % 256 ^ up.shape.word_bytes) inside) (run.code c e) in
        ap (λ l. l ++ drop (suc (state.given c)) (expand b (state.entries c) (held down state c))) (words_with c true e ∙ ap (λ w. words_at up c ++ w ∷ []) same)
        ∙ append_assoc (words_at up c) (cut b ((first_entry (state.entries c)).offset + state.given c * b) (first_word (held down state c)) ∷ []) (drop (suc (state.given c)) (expand b (state.entries c) (held down state c)))
        ∙ ap (λ l. words_at up c ++ l) (sym next) ∙ also.given
      where
        word_by : ℕ → ℕ → Word
        word_by word code = record { word = word; code = code }

    -- ---- the next cycle

    asked_next : (c : ℕ) (t : Bool) → takes_read up c ≡ t → asked (suc c) ≡ asked c ++ only_if t (entry_at up down c)
    asked_next c t e = ap (λ t. asked c ++ only_if t (entry_at up down c)) e

    few_asked : (c : ℕ) → c < end → Stands c → length (words_at down (suc c)) ≤ length (asked c)
    few_asked c h now =
        let also = holds c h now in
        let size = also.size in
        let fewer = also.few_held in
        let asks = now.asks in
        omega (arith, size, fewer, asks)

    first_front : (es more : List Entry) → 0 < length es → first_entry (es ++ more) ≡ first_entry es
    first_front [] more h = absurd (omega (arith, h))
    first_front (e ∷ es) more h = refl

    length_one : (t : Bool) (e : Entry) → length (only_if t e) ≡ one_if t
    length_one true e = refl
    length_one false e = refl

    stand_on : (c : ℕ) → c < end → Stands c → Stands (suc c)
    stand_on c h now = by_last (is_last down state c) refl (is_nonempty (held down state c)) refl
      where
        also : Holds c now
        also = holds c h now

        new : List Entry
        new = only_if (takes_read up c) (entry_at up down c)

        asked_size : length (asked (suc c)) ≡ length (asked c) + length new
        asked_size = length-append (asked c) new

        ws_few : length (words_at down (suc c)) ≤ length (asked c)
        ws_few = few_asked c h now

        entries_with : (l : Bool) → is_last down state c ≡ l → state.entries (suc c) ≡ drop (one_if l) (state.entries c) ++ new
        entries_with l e = run.entries_next c ∙ ap (λ l. drop (one_if l) (state.entries c) ++ new) e

        words_by : (l : Bool) → is_last down state c ≡ l → state.words (suc c) ≡ drop (one_if l) (held down state c)
        words_by l e = run.words_next c ∙ ap (λ l. drop (one_if l) (held down state c)) e

        given_by : (l v : Bool) → is_last down state c ≡ l → is_nonempty (held down state c) ≡ v → state.given (suc c) ≡ (if l then 0 else if v then suc (state.given c) else state.given c)
        given_by l v e f = run.given_next c ∙ ap₂ (λ l v. if l then 0 else if v then suc (state.given c) else state.given c) e f

        -- what stands before and behind
        entries_are : (n : ℕ) → n ≤ length (state.entries c) → drop n (state.entries c) ++ new ≡ drop (now.done + n) (asked (suc c))
        entries_are n fits =
            let asks = now.asks in
            ap (λ l. drop n l ++ new) now.entries ∙ ap (λ l. l ++ new) (drop-drop n now.done (asked c)) ∙ sym (drop-append-le (now.done + n) (asked c) new (omega (arith, fits, asks)))

        whole : expand b (asked c) (words_at down (suc c)) ≡ expand b (asked (suc c)) (words_at down (suc c))
        whole = sym (expand_front b (asked c) new (words_at down (suc c)) ws_few)

        by_last : (l : Bool) → is_last down state c ≡ l → (v : Bool) → is_nonempty (held down state c) ≡ v → Stands (suc c)
        by_last true e v f =
            let parts = and_parts (is_nonempty (held down state c)) (not (nat_lt (suc (state.given c)) (first_entry (state.entries c)).count)) e in
            let more = is_some (held down state c) parts.0 in
            let few_h = also.few_held in
            let inside = also.inside more in
            let most = ltb-false (suc (state.given c)) (first_entry (state.entries c)).count (not-true (nat_lt (suc (state.given c)) (first_entry (state.entries c)).count) parts.1) in
            let last_one : suc (state.given c) ≡ (first_entry (state.entries c)).count = omega (arith, inside, most) in
            let entries = entries_with true e in
            let words = words_by true e in
            let given = given_by true v e f in
            let size_e : length (state.entries (suc c)) ≡ length (drop 1 (state.entries c)) + length new = ap length entries ∙ length-append (drop 1 (state.entries c)) new in
            let size_d = length-drop 1 (state.entries c) in
            let size_w = ap length words ∙ length-drop 1 (held down state c) in
            let size = also.size in
            let asks = now.asks in
            let a_size = asked_size in
            let entries_there = entries ∙ entries_are 1 (omega (arith, few_h, more)) in
            record {
              done = now.done + 1;
              entries = entries_there;
              words = omega (arith, size, size_w, more);
              asks = omega (arith, asks, a_size, size_e, size_d, few_h, more);
              few_words = omega (arith, size_e, size_d, size_w, few_h);
              some_given = λ k. (let first = first_some (state.entries (suc c)) (subst AllSome (sym entries_there) (some_drop (now.done + 1) (asked (suc c)) (some (suc c) h))) (omega (arith, size_e, size_d, size_w, few_h, k)) in omega (arith, given, first));
              none_given = λ k. given;
              given =
                  ap (λ l. words_at up (suc c) ++ l) (ap (λ n. drop n (expand b (state.entries (suc c)) (state.words (suc c)))) given ∙ ap₂ (expand b) entries words
                  ∙ expand_front b (drop 1 (state.entries c)) new (drop 1 (held down state c)) (let dh = length-drop 1 (held down state c) in omega (arith, dh, size_d, few_h))
                  ∙ sym (past_first (state.entries c) (held down state c) (state.given c) more few_h last_one))
                  ∙ one_more c h now parts.0 ∙ whole;
            }
        by_last false e true f =
            let more = is_some (held down state c) f in
            let few_h = also.few_held in
            let entries = entries_with false e in
            let words = words_by false e in
            let given = given_by false true e f in
            let size_e : length (state.entries (suc c)) ≡ length (state.entries c) + length new = ap length entries ∙ length-append (state.entries c) new in
            let size_w = ap length words in
            let size = also.size in
            let asks = now.asks in
            let a_size = asked_size in
            let less : suc (state.given c) < (first_entry (state.entries c)).count = below_last (nat_lt (suc (state.given c)) (first_entry (state.entries c)).count) refl in
            let first = ap (λ (x : Entry). x.count) (ap first_entry entries ∙ first_front (state.entries c) new (omega (arith, more, few_h))) in
            record {
              done = now.done + 0;
              entries = entries ∙ entries_are 0 (omega arith);
              words = omega (arith, size, size_w);
              asks = omega (arith, asks, a_size, size_e);
              few_words = omega (arith, size_e, size_w, few_h);
              some_given = λ k. omega (arith, given, less, first);
              none_given = λ k. absurd (omega (arith, k, size_w, more));
              given =
                  ap (λ l. words_at up (suc c) ++ l) (ap (λ n. drop n (expand b (state.entries (suc c)) (state.words (suc c)))) given ∙ ap (drop (suc (state.given c))) (ap₂ (expand b) entries words
                  ∙ expand_front b (state.entries c) new (held down state c) few_h))
                  ∙ one_more c h now f ∙ whole;
            }
          where
            below_last : (x : Bool) → nat_lt (suc (state.given c)) (first_entry (state.entries c)).count ≡ x → suc (state.given c) < (first_entry (state.entries c)).count
            below_last true k = ltb-true (suc (state.given c)) (first_entry (state.entries c)).count k
            below_last false k = absurd (both_ways (is_last down state c) e (ap₂ (λ v x. v && not x) f k))
        by_last false e false f =
            let few_h = also.few_held in
            let none = is_none (held down state c) f in
            let none_size = ap length none in
            let entries = entries_with false e in
            let words = words_by false e in
            let given = given_by false false e f in
            let size_e : length (state.entries (suc c)) ≡ length (state.entries c) + length new = ap length entries ∙ length-append (state.entries c) new in
            let size_w = ap length words in
            let size = also.size in
            let asks = now.asks in
            let a_size = asked_size in
            let no_words : length (state.words c) ≡ 0 = (let both = length-append (state.words c) (only_if (comes down state c) (word_at down c)) in omega (arith, both, none_size)) in
            record {
              done = now.done + 0;
              entries = entries ∙ entries_are 0 (omega arith);
              words = omega (arith, size, size_w);
              asks = omega (arith, asks, a_size, size_e);
              few_words = omega (arith, size_e, size_w, few_h);
              some_given = λ k. absurd (omega (arith, k, size_w, none_size));
              none_given = λ k. (let zeros = now.none_given no_words in omega (arith, given, zeros));
              given =
                  ap (λ l. words_at up (suc c) ++ l) (ap (λ n. drop n (expand b (state.entries (suc c)) (state.words (suc c)))) given ∙ ap (drop (state.given c)) (ap₂ (expand b) entries words
                  ∙ expand_front b (state.entries c) new (held down state c) few_h))
                  ∙ none_more c h now f ∙ whole;
            }

    pub stands : (c : ℕ) → c ≤ end → Stands c
    stands zero h = record {
      done = 0;
      entries = run.entries_begin;
      words = (let none = ap length run.words_begin in omega (arith, none));
      asks = (let none = ap length run.entries_begin in omega (arith, none));
      few_words = (let none = ap length run.words_begin in omega (arith, none));
      some_given = λ k. (let none = ap length run.words_begin in absurd (omega (arith, none, k)));
      none_given = λ k. run.given_begins;
      given = ap (λ n. drop n (expand b (state.entries 0) (state.words 0))) run.given_begins ∙ ap₂ (expand b) run.entries_begin run.words_begin;
    }
    stands (suc c) h = stand_on c h (stands c (omega (arith, h)))

    -- ---- what follows

    -- the words above are a front of all narrow words that have come by the end of the cycle
    pub words_front : (c : ℕ) → c < end → IsPrefix (words_at up (suc c)) (expand b (asked c) (words_at down (suc c)))
    words_front c h = by_held (is_nonempty (held down state c)) refl
      where
        by_held : (v : Bool) → is_nonempty (held down state c) ≡ v → IsPrefix (words_at up (suc c)) (expand b (asked c) (words_at down (suc c)))
        by_held true e = record { rest = drop (suc (state.given c)) (expand b (state.entries c) (held down state c)); joins = one_more c h (stands c (omega (arith, h))) e }
        by_held false e = record { rest = drop (state.given c) (expand b (state.entries c) (held down state c)); joins = none_more c h (stands c (omega (arith, h))) e }

    pub words_there : (c : ℕ) → c ≤ end → IsPrefix (words_at up c) (expand b (asked c) (words_at down c))
    words_there c h = let now = stands c h in record { rest = drop (state.given c) (expand b (state.entries c) (state.words c)); joins = now.given }
