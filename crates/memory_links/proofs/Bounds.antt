-- The registers of a gatherer are bounded in every run.
use Rattle.std.proofs.Common.{ℕ, zero, suc, ◌<◌, ◌≤◌, ◌≡◌, ◌+◌, ◌-◌, Bool, true, false, not, ◌&&◌, ◌||◌, List, [], ◌∷◌, ◌++◌, if◌then◌else◌, arith, refl, sym, ap, ap₂, subst, ◌∙◌, length, drop, nat_lt, append-nil, length-append, length-drop, ltb-true, lt-ltb}
use Rattle.std.proofs.lemmas.Bool.{and_parts, not-true, both_ways}
use Rattle.histories.specs.History.{is_raised, one_if, only_if}
use Rattle.memory_runs.specs.Commands.{shows}
use Rattle.memory_machines.specs.Link.{Port, takes, is_nonempty}
use Rattle.memory_links.specs.Selects.{takes_read}
use Rattle.memory_links.specs.Gathers.{RunsAsGather, GatherState, Entry, first_entry, is_last, held, comes, entry_at, word_at}

module _ (room : ℕ) (up down : Port) (state : GatherState) (run : RunsAsGather room up down state) where
  only_length : {A : Type 0} (b : Bool) (x : A) → length (only_if b x) ≡ one_if b
  only_length true x = refl
  only_length false x = refl

  open_when_read : (c : ℕ) → takes_read up c ≡ true → length (state.entries c) < room
  open_when_read c e =
      let parts = and_parts (takes up c) (not (is_raised (up.commands.write c))) e in
      let low = (and_parts (shows up.commands.signals c) (not (is_raised (up.commands.waitrequest c))) parts.0).1 in
      let none = not-true (is_raised (up.commands.waitrequest c)) low in
      ltb-true (length (state.entries c)) room (let_in (nat_lt (length (state.entries c)) room) (is_raised (up.commands.write c)) (is_raised (down.commands.waitrequest c)) (not-true (is_raised (up.commands.write c)) parts.1) (sym (run.waitrequest c) ∙ none))
    where
      let_in : (l w d : Bool) → w ≡ false → (not w && not l) || d ≡ false → l ≡ true
      let_in true w d e f = refl
      let_in false true d e f = cc
      let_in false false d e f = cc

  pub few_entries : (c : ℕ) → length (state.entries c) ≤ room
  few_entries zero = (let none = ap length run.entries_begin in omega (arith, none))
  few_entries (suc c) =
      let earlier = few_entries c in
      let size = ap length (run.entries_next c) ∙ length-append (drop (one_if (is_last down state c)) (state.entries c)) (only_if (takes_read up c) (entry_at up down c)) in
      let left = length-drop (one_if (is_last down state c)) (state.entries c) in
      let one = only_length (takes_read up c) (entry_at up down c) in
      by_take (takes_read up c) refl earlier size left one
    where
      by_take : (t : Bool) → takes_read up c ≡ t → length (state.entries c) ≤ room →
          length (state.entries (suc c)) ≡ length (drop (one_if (is_last down state c)) (state.entries c)) + length (only_if (takes_read up c) (entry_at up down c)) →
          length (drop (one_if (is_last down state c)) (state.entries c)) ≡ length (state.entries c) - one_if (is_last down state c) → length (only_if (takes_read up c) (entry_at up down c)) ≡ one_if (takes_read up c) → length (state.entries (suc c)) ≤ room
      by_take true e earlier size left one = (let less = open_when_read c e in let new : one_if (takes_read up c) ≡ 1 = ap one_if e in omega (arith, less, size, left, one, new))
      by_take false e earlier size left one = (let new : one_if (takes_read up c) ≡ 0 = ap one_if e in omega (arith, earlier, size, left, one, new))

  pub few_held : (c : ℕ) → length (state.words c) ≤ length (state.entries c) → length (held down state c) ≤ length (state.entries c)
  few_held c low = by_comes (comes down state c) refl
    where
      by_comes : (v : Bool) → comes down state c ≡ v → length (held down state c) ≤ length (state.entries c)
      by_comes false e = (let same = ap (λ v. length (state.words c ++ only_if v (word_at down c))) e ∙ ap length (append-nil (state.words c)) in omega (arith, same, low))
      by_comes true e =
          let same = ap (λ v. length (state.words c ++ only_if v (word_at down c))) e ∙ length-append (state.words c) (word_at down c ∷ []) in
          let less = ltb-true (length (state.words c)) (length (state.entries c)) (and_parts (is_raised (down.answers.valid c)) (nat_lt (length (state.words c)) (length (state.entries c))) e).1 in
          omega (arith, same, less)

  -- no more words than reads
  pub few_words : (c : ℕ) → length (state.words c) ≤ length (state.entries c)
  few_words zero = (let none = ap length run.words_begin in omega (arith, none))
  few_words (suc c) =
      let earlier = few_held c (few_words c) in
      let size = ap length (run.words_next c) ∙ length-drop (one_if (is_last down state c)) (held down state c) in
      let entries = ap length (run.entries_next c) ∙ length-append (drop (one_if (is_last down state c)) (state.entries c)) (only_if (takes_read up c) (entry_at up down c)) in
      let left = length-drop (one_if (is_last down state c)) (state.entries c) in
      omega (arith, earlier, size, entries, left)

  -- a read that is taken waits for its word: where one comes in the next cycle, one is given
  pub gives_next : (c : ℕ) → takes_read up c ≡ true → is_raised (down.answers.valid (suc c)) ≡ true → is_raised (up.answers.valid (suc c)) ≡ true
  gives_next c e valid =
      let earlier = few_held c (few_words c) in
      let words = ap length (run.words_next c) ∙ length-drop (one_if (is_last down state c)) (held down state c) in
      let entries = ap length (run.entries_next c) ∙ length-append (drop (one_if (is_last down state c)) (state.entries c)) (only_if (takes_read up c) (entry_at up down c)) in
      let left = length-drop (one_if (is_last down state c)) (state.entries c) in
      let one = only_length (takes_read up c) (entry_at up down c) ∙ ap one_if e in
      let less : length (state.words (suc c)) < length (state.entries (suc c)) = omega (arith, earlier, words, entries, left, one) in
      run.valid (suc c)
      ∙ ap (λ b. is_nonempty (state.words (suc c) ++ only_if b (word_at down (suc c)))) (ap₂ (λ v l. v && l) valid (lt-ltb (length (state.words (suc c))) (length (state.entries (suc c))) less))
      ∙ one_more (state.words (suc c)) (word_at down (suc c))
    where
      one_more : {A : Type 0} (xs : List A) (x : A) → is_nonempty (xs ++ x ∷ []) ≡ true
      one_more [] x = refl
      one_more (y ∷ xs) x = refl

  -- where no read asks more than `most` narrow words, fewer of the oldest are given
  module _ (most : ℕ) (some : 0 < most) (small : (c : ℕ) → up.commands.count c ≤ most) where
    abbrev AllSmall : List Entry → Type 0
    AllSmall [] = Unit {0}
    AllSmall (e ∷ es) = (e.count ≤ most) × AllSmall es

    small_append : (es : List Entry) (b : Bool) (e : Entry) → AllSmall es → e.count ≤ most → AllSmall (es ++ only_if b e)
    small_append [] true e all one = (one, tt)
    small_append [] false e all one = tt
    small_append (f ∷ es) b e all one = (all.0, small_append es b e all.1 one)

    small_drop : (b : Bool) (es : List Entry) → AllSmall es → AllSmall (drop (one_if b) es)
    small_drop true [] all = tt
    small_drop true (e ∷ es) all = all.1
    small_drop false es all = all

    small_entries : (c : ℕ) → AllSmall (state.entries c)
    small_entries zero = subst AllSmall (sym run.entries_begin) tt
    small_entries (suc c) = subst AllSmall (sym (run.entries_next c)) (small_append (drop (one_if (is_last down state c)) (state.entries c)) (takes_read up c) (entry_at up down c) (small_drop (is_last down state c) (state.entries c) (small_entries c)) (small c))

    first_small : (es : List Entry) → AllSmall es → (first_entry es).count ≤ most
    first_small [] all = omega arith
    first_small (e ∷ es) all = all.0

    pub few_given : (c : ℕ) → state.given c < most
    few_given zero = (let none = run.given_begins in omega (arith, none, some))
    few_given (suc c) = by_last (is_last down state c) refl (is_nonempty (held down state c)) refl (few_given c)
      where
        by_last : (l : Bool) → is_last down state c ≡ l → (v : Bool) → is_nonempty (held down state c) ≡ v → state.given c < most → state.given (suc c) < most
        by_last l e v f earlier =
            subst (λ n. n < most) (sym (run.given_next c ∙ ap₂ (λ l v. if l then 0 else if v then suc (state.given c) else state.given c) e f)) (by_case l e v f earlier)
          where
            by_case : (l : Bool) → is_last down state c ≡ l → (v : Bool) → is_nonempty (held down state c) ≡ v → state.given c < most → (if l then 0 else if v then suc (state.given c) else state.given c) < most
            by_case true e v f earlier = some
            by_case false e false f earlier = earlier
            by_case false e true f earlier = by_more (nat_lt (suc (state.given c)) (first_entry (state.entries c)).count) refl
              where
                by_more : (x : Bool) → nat_lt (suc (state.given c)) (first_entry (state.entries c)).count ≡ x → suc (state.given c) < most
                by_more true k = (let less = ltb-true (suc (state.given c)) (first_entry (state.entries c)).count k in let all = first_small (state.entries c) (small_entries c) in omega (arith, less, all))
                by_more false k = absurd (both_ways (is_last down state c) e (ap₂ (λ v x. v && not x) f k))
