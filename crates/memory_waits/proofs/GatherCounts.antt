-- What gathers reads: how many reads are under way in it, and what the first of them still has to give.
use Rattle.std.proofs.Common.{◌≡◌, ℕ, zero, suc, ◌+◌, ◌-◌, ◌<◌, ◌≤◌, Bool, true, false, not, ◌&&◌, ◌||◌, List, [], ◌∷◌, ◌++◌, length, drop, nat_lt, if◌then◌else◌, arith, refl, sym, ap, ap₂, ◌∙◌, subst, IsTrue, IsFalse, tests, append-nil, length-append, ltb-true, ltb-false}
use Rattle.histories.specs.History.{is_raised, one_if, only_if}
use Rattle.memory_runs.specs.Legal.{Word}
use Rattle.memory_runs.specs.Views.{Levels}
use Rattle.memory_runs.specs.Commands.{shows}
use Rattle.memory_machines.specs.Link.{Target, Port, takes, is_nonempty, words_at, words_owed}
use Rattle.memory_links.specs.Selects.{takes_read}
use Rattle.memory_links.specs.Gathers.{Entry, GatherState, RunsAsGather, is_shut, comes, held, is_last, first_entry, entry_at, word_at}
use Rattle.memory_parts.specs.Steps.{is_gone}
use Rattle.memory_waits.proofs.Bits.{no_true, no_both, takes_shows}
use Rattle.memory_waits.proofs.Cuts.{read_asks, write_asks, took_asks, still_asks}
use Rattle.memory_waits.proofs.Rows.{words_by}

module _ (target : Target) (room many : ℕ) (up down : Port) (state : GatherState) (runs : RunsAsGather room up down state) (end : ℕ) where
  abbrev shut : ℕ → Bool
  shut c = is_shut room up state c

  pub shown_is : (c : ℕ) → shows down.commands.signals c ≡ (is_raised (if shut c then 0 else up.commands.read c) || is_raised (up.commands.write c))
  shown_is c = ap (λ (l : Levels). is_raised l.read || is_raised l.write) (runs.levels c)

  write_is : (c : ℕ) → is_raised (down.commands.write c) ≡ is_raised (up.commands.write c)
  write_is c = ap (λ (l : Levels). is_raised l.write) (runs.levels c)

  one_beat : (c : ℕ) → down.commands.count c ≡ 1
  one_beat c = ap (λ (l : Levels). l.count) (runs.levels c)

  shut_by : (w n : Bool) → IsTrue (not w && not n) → IsFalse w × IsFalse n
  shut_by false false h = (refl, refl)
  shut_by false true h = absurd (no_true h)
  shut_by true n h = absurd (no_true h)

  pub shut_is : (c : ℕ) → IsTrue (shut c) → IsFalse (is_raised (up.commands.write c)) × IsFalse (nat_lt (length (state.entries c)) room)
  shut_is c h = shut_by (is_raised (up.commands.write c)) (nat_lt (length (state.entries c)) room) h

  pub same_takes : (c : ℕ) → takes up c ≡ takes down c
  same_takes c = by_shut (shut c) refl
    where
      waiting : (s w : Bool) → w ≡ true → (s && not w) ≡ false
      waiting true true h = refl
      waiting false true h = refl
      waiting s false h = absurd cc

      by_shut : (b : Bool) → shut c ≡ b → takes up c ≡ takes down c
      by_shut true e =
          let write = (shut_is c e).0 in
          let quiet : shows down.commands.signals c ≡ false = shown_is c ∙ ap (λ b. is_raised (if b then 0 else up.commands.read c) || is_raised (up.commands.write c)) e ∙ write in
          let waits : is_raised (up.commands.waitrequest c) ≡ true = runs.waitrequest c ∙ ap (λ b. b || is_raised (down.commands.waitrequest c)) e in
          waiting (shows up.commands.signals c) (is_raised (up.commands.waitrequest c)) waits ∙ sym (ap (λ b. b && not (is_raised (down.commands.waitrequest c))) quiet)
      by_shut false e =
          let same : shows down.commands.signals c ≡ shows up.commands.signals c = shown_is c ∙ ap (λ b. is_raised (if b then 0 else up.commands.read c) || is_raised (up.commands.write c)) e in
          let waits : is_raised (up.commands.waitrequest c) ≡ is_raised (down.commands.waitrequest c) = runs.waitrequest c ∙ ap (λ b. b || is_raised (down.commands.waitrequest c)) e in
          ap (λ b. shows up.commands.signals c && not b) waits ∙ ap (λ b. b && not (is_raised (down.commands.waitrequest c))) (sym same)

  -- where a read is taken, there was room for it
  not_shut : (c : ℕ) → IsTrue (takes_read up c) → IsTrue (nat_lt (length (state.entries c)) room)
  not_shut c h = by_shut (is_raised (up.commands.write c)) (nat_lt (length (state.entries c)) room) refl refl
    where
      parts : IsTrue (takes up c) × IsTrue (not (is_raised (up.commands.write c)))
      parts = two (takes up c) (not (is_raised (up.commands.write c))) h
        where
          two : (a b : Bool) → IsTrue (a && b) → IsTrue a × IsTrue b
          two true true h = (refl, refl)
          two true false h = absurd (no_true h)
          two false b h = absurd (no_true h)

      quiet : IsTrue (shut c) → ⊥
      quiet e =
          let write = (shut_is c e).0 in
          let none : shows down.commands.signals c ≡ false = shown_is c ∙ ap (λ b. is_raised (if b then 0 else up.commands.read c) || is_raised (up.commands.write c)) e ∙ write in
          no_both (shows down.commands.signals c) (takes_shows down c (sym (same_takes c) ∙ parts.0)) none

      by_shut : (w n : Bool) → is_raised (up.commands.write c) ≡ w → nat_lt (length (state.entries c)) room ≡ n → IsTrue n
      by_shut w true ew en = refl
      by_shut true false ew en = absurd (no_both (not (is_raised (up.commands.write c))) parts.1 (ap not ew))
      by_shut false false ew en = absurd (quiet (ap₂ (λ w n. not w && not n) ew en))

  -- ---- how many reads are under way, and of which words have come

  size_next : {A : Type 0} (d b : Bool) (xs : List A) (x : A) → length (drop (one_if d) xs ++ only_if b x) ≡ (length xs - one_if d) + one_if b
  size_next {A} true true xs x = let one = length-append (drop 1 xs) (x ∷ []) in let less = drop_one xs in omega (arith, one, less)
    where
      drop_one : (xs : List A) → length (drop 1 xs) ≡ length xs - 1
      drop_one [] = omega arith
      drop_one (y ∷ ys) = let same : drop 0 ys ≡ ys = refl in omega arith
  size_next {A} true false xs x = let one = ap length (append-nil (drop 1 xs)) in let less = drop_one xs in omega (arith, one, less)
    where
      drop_one : (xs : List A) → length (drop 1 xs) ≡ length xs - 1
      drop_one [] = omega arith
      drop_one (y ∷ ys) = let same : drop 0 ys ≡ ys = refl in omega arith
  size_next {A} false true xs x = let one = length-append xs (x ∷ []) in omega (arith, one)
  size_next {A} false false xs x = let one = ap length (append-nil xs) in omega (arith, one)

  pub entries_size : (c : ℕ) → length (state.entries (suc c)) ≡ (length (state.entries c) - one_if (is_last down state c)) + one_if (takes_read up c)
  entries_size c = ap length (runs.entries_next c) ∙ size_next (is_last down state c) (takes_read up c) (state.entries c) (entry_at up down c)

  pub held_size : (c : ℕ) → length (held down state c) ≡ length (state.words c) + one_if (comes down state c)
  held_size c = by_comes (comes down state c)
    where
      by_comes : (b : Bool) → length (state.words c ++ only_if b (word_at down c)) ≡ length (state.words c) + one_if b
      by_comes true = length-append (state.words c) (word_at down c ∷ [])
      by_comes false = let same = ap length (append-nil (state.words c)) in omega (arith, same)

  pub words_size : (c : ℕ) → length (state.words (suc c)) ≡ length (held down state c) - one_if (is_last down state c)
  words_size c = ap length (runs.words_next c) ∙ by_last (is_last down state c) (held down state c)
    where
      by_last : {A : Type 0} (d : Bool) (xs : List A) → length (drop (one_if d) xs) ≡ length xs - one_if d
      by_last {A} true [] = omega arith
      by_last {A} true (y ∷ ys) = let same : drop 0 ys ≡ ys = refl in omega arith
      by_last {A} false xs = omega arith

  few_entries : (c : ℕ) → length (state.entries c) ≤ room
  few_entries zero = let none = ap length runs.entries_begin in omega (arith, none)
  few_entries (suc c) = by_take (takes_read up c) refl (few_entries c)
    where
      by_take : (t : Bool) → takes_read up c ≡ t → length (state.entries c) ≤ room → length (state.entries (suc c)) ≤ room
      by_take true e before = let next = entries_size c in let one : one_if (takes_read up c) ≡ 1 = ap one_if e in let less = ltb-true (length (state.entries c)) room (not_shut c e) in omega (arith, next, one, less)
      by_take false e before = let next = entries_size c in let none : one_if (takes_read up c) ≡ 0 = ap one_if e in omega (arith, next, none, before)

  pub asks : (c : ℕ) → words_owed down (suc c) ≡ words_owed down c + one_if (takes_read up c)
  asks c = by_all (takes down c) (is_raised (down.commands.write c)) refl refl
    where
      by_all : (t w : Bool) → takes down c ≡ t → is_raised (down.commands.write c) ≡ w → words_owed down (suc c) ≡ words_owed down c + one_if (takes_read up c)
      by_all false w et ew = let still = still_asks target down c et in let none : one_if (takes_read up c) ≡ 0 = ap (λ t. one_if (t && not (is_raised (up.commands.write c)))) (same_takes c ∙ et) in omega (arith, still, none)
      by_all true true et ew =
          let took = took_asks target down c et in
          let none = write_asks target down c ew in
          let read : one_if (takes_read up c) ≡ 0 = ap₂ (λ t w. one_if (t && not w)) (same_takes c ∙ et) (sym (write_is c) ∙ ew) in
          omega (arith, took, none, read)
      by_all true false et ew =
          let took = took_asks target down c et in
          let one = read_asks target down c ew in
          let count = one_beat c in
          let read : one_if (takes_read up c) ≡ 1 = ap₂ (λ t w. one_if (t && not w)) (same_takes c ∙ et) (sym (write_is c) ∙ ew) in
          omega (arith, took, one, count, read)

  -- a last word is a word
  pub last_some : (c : ℕ) → one_if (is_last down state c) ≤ length (held down state c)
  last_some c = by_held (held down state c) (not (nat_lt (suc (state.given c)) (first_entry (state.entries c)).count))
    where
      by_held : (ws : List Word) (b : Bool) → one_if (is_nonempty ws && b) ≤ length ws
      by_held [] b = omega arith
      by_held (w ∷ ws) true = omega arith
      by_held (w ∷ ws) false = omega arith

  module _ (owed : (c : ℕ) → c < end → length (words_at down (suc c)) ≤ words_owed down c) where
    -- a word that comes is one that a read waits for
    comes_if : (c : ℕ) → c < end → length (state.entries c) + length (words_at down c) ≡ length (state.words c) + words_owed down c → one_if (comes down state c) ≡ one_if (is_raised (down.answers.valid c))
    comes_if c fit before = by_valid (is_raised (down.answers.valid c)) refl (words_by down c) (owed c fit)
      where
        by_valid : (v : Bool) → is_raised (down.answers.valid c) ≡ v → length (words_at down (suc c)) ≡ length (words_at down c) + one_if (is_raised (down.answers.valid c)) → length (words_at down (suc c)) ≤ words_owed down c →
            one_if (comes down state c) ≡ one_if (is_raised (down.answers.valid c))
        by_valid false e came few = ap (λ v. one_if (v && nat_lt (length (state.words c)) (length (state.entries c)))) e ∙ sym (ap one_if e)
        by_valid true e came few =
            let one : one_if (is_raised (down.answers.valid c)) ≡ 1 = ap one_if e in
            let less : nat_lt (length (state.words c)) (length (state.entries c)) ≡ true = is_less (length (state.words c)) (length (state.entries c)) (omega (arith, before, came, few, one)) in
            ap₂ (λ v b. one_if (v && b)) e less ∙ sym (ap one_if e)
          where
            is_less : (a b : ℕ) → a < b → nat_lt a b ≡ true
            is_less a b h = grind (arith, tests, h)

    -- one entry for each word that has come and isn't given out, and for each that is owed below
    pub entries_are : (c : ℕ) → c ≤ end → length (state.entries c) + length (words_at down c) ≡ length (state.words c) + words_owed down c
    entries_are zero fit = let none = ap length runs.entries_begin in let no_words = ap length runs.words_begin in omega (arith, none, no_words)
    entries_are (suc c) fit =
        let before = entries_are c (omega (arith, fit)) in
        let next = entries_size c in
        let words = words_size c in
        let all = held_size c in
        let asked = asks c in
        let came = words_by down c in
        let few = owed c fit in
        let last = last_some c in
        let come = comes_if c fit before in
        omega (arith, before, next, words, all, asked, came, few, last, come)

    pub comes_is : (c : ℕ) → c < end → one_if (comes down state c) ≡ one_if (is_raised (down.answers.valid c))
    comes_is c fit = comes_if c fit (entries_are c (omega (arith, fit)))

    -- ---- while it is full, what the first read still has to give

    abbrev pub full : ℕ → Bool
    full c = not (nat_lt (length (state.entries c)) room)

    abbrev to_give : ℕ → ℕ
    to_give c = suc ((first_entry (state.entries c)).count - suc (state.given c))

    abbrev pub rest_of : ℕ → ℕ
    rest_of c = if full c then to_give c else 0

    abbrev AllFew : List Entry → Type 0
    AllFew [] = Unit {0}
    AllFew (e ∷ later) = (e.count ≤ many) × AllFew later

    few_next : (d b : Bool) (es : List Entry) (e : Entry) → AllFew es → (b ≡ true → e.count ≤ many) → AllFew (drop (one_if d) es ++ only_if b e)
    few_next d b es e all one = with_one b (drop (one_if d) es) (dropped d es all) one
      where
        dropped : (d : Bool) (es : List Entry) → AllFew es → AllFew (drop (one_if d) es)
        dropped true [] all = tt
        dropped true (x ∷ es) all = let same : drop 0 es ≡ es = refl in all.1
        dropped false es all = all

        with_one : (b : Bool) (xs : List Entry) → AllFew xs → (b ≡ true → e.count ≤ many) → AllFew (xs ++ only_if b e)
        with_one b [] all one = by_b b one
          where
            by_b : (b : Bool) → (b ≡ true → e.count ≤ many) → AllFew (only_if b e)
            by_b true one = (one refl, tt)
            by_b false one = tt
        with_one b (x ∷ xs) all one = (all.0, with_one b xs all.1 one)

    module _ (deep : 1 < room) (some : 1 ≤ many) (short : (c : ℕ) → c < end → IsTrue (shows up.commands.signals c) → IsFalse (is_raised (up.commands.write c)) → up.commands.count c ≤ many) where
      all_few : (c : ℕ) → c ≤ end → AllFew (state.entries c)
      all_few zero fit = subst AllFew (sym runs.entries_begin) tt
      all_few (suc c) fit =
          subst AllFew (sym (runs.entries_next c)) (few_next (is_last down state c) (takes_read up c) (state.entries c) (entry_at up down c) (all_few c (omega (arith, fit))) (λ t. read_few t))
        where
          two : (a b : Bool) → IsTrue (a && b) → IsTrue a × IsTrue b
          two true true h = (refl, refl)
          two true false h = absurd (no_true h)
          two false b h = absurd (no_true h)

          not_true : (b : Bool) → IsTrue (not b) → IsFalse b
          not_true true h = absurd (no_true h)
          not_true false h = refl

          read_few : takes_read up c ≡ true → up.commands.count c ≤ many
          read_few t = let parts = two (takes up c) (not (is_raised (up.commands.write c))) t in short c fit (takes_shows up c parts.0) (not_true _ parts.1)

      pub rest_few : (c : ℕ) → c ≤ end → rest_of c ≤ many
      rest_few c fit = by_full (nat_lt (length (state.entries c)) room) (state.entries c) (all_few c fit)
        where
          by_full : (n : Bool) (es : List Entry) → AllFew es → (if not n then suc ((first_entry es).count - suc (state.given c)) else 0) ≤ many
          by_full true es all = omega arith
          by_full false [] all = omega (arith, some)
          by_full false (e ∷ es) all = let most = all.0 in omega (arith, most, some)

      no_read : (c : ℕ) → takes down c ≡ false → takes_read up c ≡ false
      no_read c none = ap (λ t. t && not (is_raised (up.commands.write c))) (same_takes c ∙ none)

      -- the last word of a read is given: there is room again
      emptied : (c : ℕ) → takes down c ≡ false → is_last down state c ≡ true → rest_of (suc c) ≡ 0
      emptied c none last =
          let next = entries_size c in
          let read : one_if (takes_read up c) ≡ 0 = ap one_if (no_read c none) in
          let one : one_if (is_last down state c) ≡ 1 = ap one_if last in
          let most = few_entries c in
          let less : nat_lt (length (state.entries (suc c))) room ≡ true = is_less _ _ (omega (arith, next, read, one, most, deep)) in
          rw less refl
        where
          is_less : (a b : ℕ) → a < b → nat_lt a b ≡ true
          is_less a b h = grind (arith, tests, h)

      same_entries : (c : ℕ) → takes down c ≡ false → is_last down state c ≡ false → state.entries (suc c) ≡ state.entries c
      same_entries c none last = runs.entries_next c ∙ ap₂ (λ d b. drop (one_if d) (state.entries c) ++ only_if b (entry_at up down c)) last (no_read c none) ∙ append-nil (state.entries c)

      given_then : (c : ℕ) → is_last down state c ≡ false → state.given (suc c) ≡ (if is_nonempty (held down state c) then suc (state.given c) else state.given c)
      given_then c last = runs.given_next c ∙ ap (λ d. if d then 0 else if is_nonempty (held down state c) then suc (state.given c) else state.given c) last

      rest_then : (c : ℕ) → takes down c ≡ false → is_last down state c ≡ false → rest_of (suc c) ≡ (if full c then suc ((first_entry (state.entries c)).count - suc (state.given (suc c))) else 0)
      rest_then c none last = ap (λ es. if not (nat_lt (length es) room) then suc ((first_entry es).count - suc (state.given (suc c))) else 0) (same_entries c none last)

      pub rest_stays : (c : ℕ) → takes down c ≡ false → rest_of (suc c) ≤ rest_of c
      rest_stays c none = by_last (is_last down state c) refl
        where
          by_last : (d : Bool) → is_last down state c ≡ d → rest_of (suc c) ≤ rest_of c
          by_last true e = let zero_left = emptied c none e in omega (arith, zero_left)
          by_last false e =
              let next = rest_then c none e in
              let more = by_held (is_nonempty (held down state c)) (given_then c e) in
              let less = by_full (full c) (first_entry (state.entries c)).count (state.given c) (state.given (suc c)) more in
              omega (arith, next, less)
            where
              by_held : (b : Bool) → state.given (suc c) ≡ (if b then suc (state.given c) else state.given c) → state.given c ≤ state.given (suc c)
              by_held true s = omega (arith, s)
              by_held false s = omega (arith, s)

              by_full : (f : Bool) (n g h : ℕ) → g ≤ h → (if f then suc (n - suc h) else 0) ≤ (if f then suc (n - suc g) else 0)
              by_full true n g h less = omega (arith, less)
              by_full false n g h less = omega arith

      -- while no word is owed below, what is full gives a word
      pub rest_falls : (c : ℕ) → c ≤ end → takes down c ≡ false → full c ≡ true → IsFalse (is_gone down c) → rest_of (suc c) + 1 ≤ rest_of c
      rest_falls c fit none is_full quiet = by_last (is_last down state c) refl
        where
          here : rest_of c ≡ to_give c
          here = rw is_full refl

          by_last : (d : Bool) → is_last down state c ≡ d → rest_of (suc c) + 1 ≤ rest_of c
          by_last true e = let zero_left = emptied c none e in omega (arith, zero_left, here)
          by_last false e =
              let next = rest_then c none e ∙ ap (λ f. if f then suc ((first_entry (state.entries c)).count - suc (state.given (suc c))) else 0) is_full in
              let given = given_then c e ∙ ap (λ b. if b then suc (state.given c) else state.given c) words in
              let less = ltb-true (suc (state.given c)) (first_entry (state.entries c)).count (not_last (is_nonempty (held down state c)) _ words e) in
              omega (arith, next, given, less, here)
            where
              not_last : (a b : Bool) → a ≡ true → (a && not b) ≡ false → b ≡ true
              not_last true true h k = refl
              not_last true false h k = absurd cc
              not_last false b h k = absurd cc

              positive : (ws : List Word) → 0 < length ws → is_nonempty ws ≡ true
              positive [] h = absurd (omega (arith, h))
              positive (w ∷ ws) h = refl

              not_low : (b : Bool) → not b ≡ true → b ≡ false
              not_low true h = absurd cc
              not_low false h = refl

              words : is_nonempty (held down state c) ≡ true
              words =
                  let all = entries_are c fit in
                  let most = ltb-false (length (words_at down c)) (words_owed down c) quiet in
                  let many_entries = ltb-false (length (state.entries c)) room (not_low _ is_full) in
                  let size = held_size c in
                  positive (held down state c) (omega (arith, all, most, many_entries, size, deep))
