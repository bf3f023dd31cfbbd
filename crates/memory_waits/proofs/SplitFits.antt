-- A splitter takes a piece of a beat of a wider host on in each cycle in which one may be taken, unless words are owed, and gives a word once all its pieces have come.
use Rattle.std.proofs.Common.{◌≡◌, ℕ, zero, suc, ◌+◌, ◌-◌, ◌*◌, ◌<◌, ◌≤◌, ◌⊎◌, inl, inr, Bool, true, false, not, ◌&&◌, ◌||◌, List, [], ◌∷◌, length, filter, map, nat_eq, nat_lt, if◌then◌else◌, arith, refl, sym, ap, ap₂, ◌∙◌, subst, IsTrue, IsFalse, tests, ltb-true, ltb-false}
use Rattle.std.proofs.lemmas.Bool.{and_parts}
use Rattle.std.proofs.lemmas.List.{length-map}
use Rattle.histories.specs.History.{is_raised, numbers, one_if}
use Rattle.memory_runs.specs.Views.{Shape, Levels}
use Rattle.memory_runs.specs.Operations.{Beat, pieces}
use Rattle.memory_runs.specs.Commands.{shows}
use Rattle.memory_machines.specs.Link.{Target, Port, AreLegalAt, AnswersAreOwed, takes, words_at, words_owed}
use Rattle.memory_machines.specs.Lines.{KeepsRow}
use Rattle.memory_machines.specs.Machines.{Raw, raw_at, split_parts, or_first, beat_of, touched, is_touched, piece_of}
use Rattle.memory_links.specs.Selects.{takes_read}
use Rattle.memory_links.specs.Splits.{SplitState, RunsAsSplit, opens, split_at}
use Rattle.memory_parts.specs.Steps.{is_gone}
use Rattle.memory_waits.specs.Watched.{stands_or_owes}
use Rattle.memory_waits.proofs.Bits.{no_both, no_true, numbers_length, takes_shows}
use Rattle.memory_waits.proofs.Cuts.{read_asks, write_asks, took_asks, still_asks}
use Rattle.memory_waits.proofs.Fitted.{Fitting}
use Rattle.memory_waits.proofs.Flush.{no_word, one_word}
use Rattle.memory_waits.proofs.OneBeat.{one_read}
use Rattle.memory_waits.proofs.SelectFits.{nothing_held}
use Rattle.memory_waits.proofs.SplitCounts.{Coming, Now, came_next, coming, in_size, joined_size, now_at, set_stays, there}
use Rattle.memory_waits.proofs.Splits.{some_asked, splits_when_quiet}

-- ---- a beat has few pieces

filter_few : (test : Beat → Bool) (xs : List Beat) → length (filter test xs) ≤ length xs
filter_few test [] = omega arith
filter_few test (x ∷ xs) = by_test (test x) (filter_few test xs)
  where
    by_test : (b : Bool) → length (filter test xs) ≤ length xs → length (if b then x ∷ filter test xs else filter test xs) ≤ suc (length xs)
    by_test true most = omega (arith, most)
    by_test false most = omega (arith, most)

first_few : (narrow : Shape) (needed : Bool) (beat : Beat) (pieces : List Beat) (most : ℕ) → length pieces ≤ most → 1 ≤ most → length (or_first narrow needed beat pieces) ≤ most
first_few narrow true beat [] most few some = omega (arith, some)
first_few narrow false beat [] most few some = omega arith
first_few narrow needed beat (piece ∷ later) most few some = few

times_less : (n m k : ℕ) → n ≤ m → k * n ≤ k * m
times_less n m zero h = omega arith
times_less n m (suc k) h = let more = times_less n m k h in let one : suc k * n ≡ k * n + n = omega arith in let two : suc k * m ≡ k * m + m = omega arith in omega (arith, more, one, two, h)

module _ (target : Target) (room : ℕ) (up down : Port) (state : SplitState) (run : RunsAsSplit room up down state) (most end : ℕ) (row : KeepsRow target 0 up down (suc end)) (legal : AreLegalAt up (suc end)) (owed : AnswersAreOwed down (suc end))
    (bits : up.shape.burst_bits ≡ 1) (deep : 0 < room) (few : pieces up.shape down.shape ≤ most) (some : 1 ≤ most) where
  abbrev size : ℕ → ℕ
  size c = length (split_at up down c)

  size_few : (c : ℕ) → size c ≤ most
  size_few c =
      let beat = beat_of up.shape (raw_at up c).levels in
      let needed = not (is_raised (up.commands.more c)) || not (is_raised (up.commands.write c)) in
      let long = joined_size (up.commands.tag c) (up.commands.more c) (or_first down.shape needed beat (touched up.shape down.shape beat)) in
      let kept = filter_few is_touched (map (piece_of down.shape.word_bytes beat) (numbers 0 (pieces up.shape down.shape))) in
      let all = length-map (numbers 0 (pieces up.shape down.shape)) (piece_of down.shape.word_bytes beat) in
      let count = numbers_length 0 (pieces up.shape down.shape) in
      let first = first_few down.shape needed beat (touched up.shape down.shape beat) most (omega (arith, kept, all, count, few)) some in
      omega (arith, long, first)

  -- ---- the pieces that have gone

  -- the last piece that is taken takes the beat, and so does one without pieces
  taken_above : (c : ℕ) → IsTrue (shows up.commands.signals c && opens room up down state c) → IsTrue (nat_eq (size c) 0 || (takes down c && nat_eq (suc (state.place c)) (size c))) → IsTrue (takes up c)
  taken_above c opened last = run.accepts c ∙ (rw (opened, last) refl)

  -- while some pieces have gone, the beat stands with one to go
  place_in : (c : ℕ) → c < suc end → (state.place c ≡ 0) ⊎ (IsTrue (shows up.commands.signals c) × (state.place c < size c))
  place_in zero fit = inl run.place_begins
  place_in (suc c) fit = by_take (takes up c) refl (takes down c) refl (place_in c (omega (arith, fit)))
    where
      next_is : (t d : Bool) → takes up c ≡ t → takes down c ≡ d → state.place (suc c) ≡ (if t then 0 else if d then suc (state.place c) else state.place c)
      next_is t d et ed = run.place_next c ∙ ap₂ (λ a b. if a then 0 else if b then suc (state.place c) else state.place c) et ed

      same_raw : IsTrue (shows up.commands.signals c) → IsFalse (takes up c) → raw_at up c ≡ raw_at up (suc c)
      same_raw f e =
          let held = ap₂ (λ s t. s && not t) f e in
          ap₂ (λ (l : Levels) m. record { levels = l; more = m; tag = up.commands.tag c }) (legal.legal.held c fit held) (legal.more c fit held) ∙ ap (λ t. record { levels = (raw_at up (suc c)).levels; more = up.commands.more (suc c); tag = t }) (legal.tag c fit held)

      later : IsTrue (shows up.commands.signals c) → IsFalse (takes up c) → IsTrue (shows up.commands.signals (suc c)) × (size (suc c) ≡ size c)
      later f e =
          let raw = same_raw f e in
          (sym (ap (λ (r : Raw). is_raised r.levels.read || is_raised r.levels.write) raw) ∙ f, ap (λ (r : Raw). length (split_parts up.shape down.shape (record { left = 0; done = 0; first = 0 }) r)) (sym raw))

      by_take : (t : Bool) → takes up c ≡ t → (d : Bool) → takes down c ≡ d → (state.place c ≡ 0) ⊎ (IsTrue (shows up.commands.signals c) × (state.place c < size c)) →
          (state.place (suc c) ≡ 0) ⊎ (IsTrue (shows up.commands.signals (suc c)) × (state.place (suc c) < size (suc c)))
      by_take true et d ed was = inl (next_is true d et ed)
      by_take false et true ed was =
          let opened = there room up down state run (suc end) legal owed c ed in
          let less = in_size room up down state run (suc end) legal owed c ed in
          let same = later (and_parts (shows up.commands.signals c) _ opened).0 et in
          let long = same.1 in
          let next = next_is false true et ed in
          by_last (nat_eq (suc (state.place c)) (size c)) refl opened less same.0 long next
        where
          by_last : (b : Bool) → nat_eq (suc (state.place c)) (size c) ≡ b → IsTrue (shows up.commands.signals c && opens room up down state c) → state.place c < size c → IsTrue (shows up.commands.signals (suc c)) → size (suc c) ≡ size c → state.place (suc c) ≡ suc (state.place c) →
              (state.place (suc c) ≡ 0) ⊎ (IsTrue (shows up.commands.signals (suc c)) × (state.place (suc c) < size (suc c)))
          by_last true e opened less shown long next = absurd (no_both _ (taken_above c opened (last (nat_eq (size c) 0) _ _ ed e)) et)
            where
              last : (a d s : Bool) → IsTrue d → IsTrue s → IsTrue (a || (d && s))
              last true d s x y = refl
              last false true true x y = refl
              last false true false x y = absurd (no_true y)
              last false false s x y = absurd (no_true x)
          by_last false e opened less shown long next = let more : suc (state.place c) < size c = grind (arith, tests, e, less) in inr (shown, omega (arith, more, long, next))
      by_take false et false ed (inl none) = inl (next_is false false et ed ∙ none)
      by_take false et false ed (inr stands) =
          let next = next_is false false et ed in
          let same = later stands.0 et in
          let long = same.1 in
          let less = stands.1 in
          inr (same.0, omega (arith, next, long, less))

  place_few : (c : ℕ) → c ≤ end → state.place c + 1 ≤ most
  place_few c fit = elim (place_in c (omega (arith, fit))) [
    | inl none ↦ omega (arith, none, some)
    | inr stands ↦ let less = stands.1 in let all = size_few c in omega (arith, less, all)
  ]

  abbrev left : ℕ → ℕ
  left c = most - state.place c

  place_next : (c : ℕ) → IsFalse (takes up c) → (d : Bool) → takes down c ≡ d → state.place (suc c) ≡ (if d then suc (state.place c) else state.place c)
  place_next c et d ed = run.place_next c ∙ ap₂ (λ a b. if a then 0 else if b then suc (state.place c) else state.place c) et ed

  stays : (c : ℕ) → IsFalse (takes up c) → (d : Bool) → takes down c ≡ d → left (suc c) ≤ left c
  stays c none true ed = let next = place_next c none true ed in omega (arith, next)
  stays c none false ed = let next = place_next c none false ed in omega (arith, next)

  goes : (c : ℕ) → c < end → IsFalse (takes up c) → IsTrue (shows up.commands.signals c) → IsFalse (stands_or_owes down c) → (d : Bool) → takes down c ≡ d → left (suc c) < left c
  goes c fit none shown stops true ed = let next = place_next c none true ed in let room_left = place_few (suc c) (omega (arith, fit)) in omega (arith, next, room_left)
  goes c fit none shown stops false ed = absurd (no_both _ (stands (is_gone down c) refl) stops)
    where
      waiting : (s g t : Bool) → IsTrue (s || g) → IsFalse t → IsTrue ((s || g) && not t)
      waiting true g false a b = refl
      waiting false true false a b = refl
      waiting false false false a b = absurd (no_true a)
      waiting s g true a b = absurd (no_true (sym b))

      or_second : (s g : Bool) → IsTrue g → IsTrue (s || g)
      or_second true g h = refl
      or_second false g h = h

      or_first_one : (s g : Bool) → IsTrue s → IsTrue (s || g)
      or_first_one true g h = refl
      or_first_one false g h = absurd (no_true h)

      stands : (g : Bool) → is_gone down c ≡ g → IsTrue (stands_or_owes down c)
      stands true e = waiting (shows down.commands.signals c) (is_gone down c) (takes down c) (or_second (shows down.commands.signals c) (is_gone down c) e) ed
      stands false e = waiting (shows down.commands.signals c) (is_gone down c) (takes down c) (or_first_one (shows down.commands.signals c) (is_gone down c) shown_below) ed
        where
          opened : IsTrue (shows up.commands.signals c && opens room up down state c)
          opened = let open_here = splits_when_quiet room up down state run (suc end) legal owed deep c (omega (arith, fit)) e in (rw (shown, open_here) refl)

          inside : (z : Bool) → nat_eq (size c) 0 ≡ z → (l : Bool) → nat_lt (state.place c) (size c) ≡ l → IsTrue (nat_lt (state.place c) (size c))
          inside z ez true el = el
          inside true ez false el = absurd (no_both _ (taken_above c opened (or_first_one (nat_eq (size c) 0) _ ez)) none)
          inside false ez false el = elim (place_in c (omega (arith, fit))) [
            | inl zero_gone ↦ (let past = ltb-false (state.place c) (size c) el in absurd (let pos : 0 < size c = grind (arith, tests, ez) in omega (arith, past, zero_gone, pos)))
            | inr stands ↦ (let past = ltb-false (state.place c) (size c) el in let less = stands.1 in absurd (omega (arith, past, less)))
          ]

          shown_below : IsTrue (shows down.commands.signals c)
          shown_below = let there_is = inside (nat_eq (size c) 0) refl (nat_lt (state.place c) (size c)) refl in run.shown c ∙ (rw (opened, there_is) refl)

  -- ---- words

  -- what is asked above and hasn't come is a read under way
  reads_are : (c : ℕ) → c ≤ end → words_owed up c ≤ length (words_at up c) + state.reads c
  reads_are zero fit = omega arith
  reads_are (suc c) fit = by_take (takes up c) refl (is_raised (up.commands.write c)) refl (reads_are c (omega (arith, fit)))
    where
      here : Now room up down state run (suc end) legal owed c
      here = now_at room up down state run (suc end) legal owed c (omega (arith, fit))

      come : Coming room up down state run (suc end) legal owed c
      come = coming room up down state run (suc end) legal owed c (omega (arith, fit)) here

      -- one word more is one read less
      balance : (t : Bool) → takes_read up c ≡ t → length (words_at up (suc c)) + state.reads (suc c) ≡ length (words_at up c) + state.reads c + one_if t
      balance t et = by_given (is_raised (up.answers.valid c)) refl
        where
          by_given : (v : Bool) → is_raised (up.answers.valid c) ≡ v → length (words_at up (suc c)) + state.reads (suc c) ≡ length (words_at up c) + state.reads c + one_if t
          by_given false ev =
              let next = run.reads_next c ∙ ap₂ (λ a b. (state.reads c + one_if a) - one_if b) et ev in
              let none = no_word up c ev in
              omega (arith, next, none)
          by_given true ev =
              let next = run.reads_next c ∙ ap₂ (λ a b. (state.reads c + one_if a) - one_if b) et ev in
              let one = one_word up c ev in
              let pending = come.some (sym come.given ∙ ev) in
              omega (arith, next, one, pending)

      by_take : (t : Bool) → takes up c ≡ t → (w : Bool) → is_raised (up.commands.write c) ≡ w → words_owed up c ≤ length (words_at up c) + state.reads c → words_owed up (suc c) ≤ length (words_at up (suc c)) + state.reads (suc c)
      by_take false et w ew more =
          let still = still_asks target up c et in
          let sum = balance false (ap (λ t. t && not (is_raised (up.commands.write c))) et) in
          omega (arith, still, sum, more)
      by_take true et true ew more =
          let took = took_asks target up c et in
          let none = write_asks target up c ew in
          let sum = balance false (ap₂ (λ t w. t && not w) et ew) in
          omega (arith, took, none, sum, more)
      by_take true et false ew more =
          let took = took_asks target up c et in
          let asks = read_asks target up c ew in
          let one = one_read up (suc end) legal bits c (omega (arith, fit)) (takes_shows up c et) ew in
          let sum = balance true (ap₂ (λ t w. t && not w) et ew) in
          omega (arith, took, asks, one, sum, more)

  words_grow : (c : ℕ) → length (words_at up c) ≤ length (words_at up (suc c))
  words_grow c = by_given (is_raised (up.answers.valid c)) refl
    where
      by_given : (v : Bool) → is_raised (up.answers.valid c) ≡ v → length (words_at up c) ≤ length (words_at up (suc c))
      by_given true e = let one = one_word up c e in omega (arith, one)
      by_given false e = let none = no_word up c e in omega (arith, none)

  -- from a cycle on, all words that were asked above by then have come, or each so many words below made one
  module _ (c : ℕ) where
    abbrev each : ℕ
    each = length (state.set c)

    record Counted (d : ℕ) : Type 0 where
      set_is : length (state.set d) ≡ each
      sum : length (words_at down d) + each * length (words_at up c) + state.come c ≡ length (words_at down c) + each * length (words_at up d) + state.come d

    counted : (n : ℕ) → c + n ≤ end → (words_owed up c ≤ length (words_at up (c + n))) ⊎ Counted (c + n)
    counted zero fit = let same : c + 0 ≡ c = omega arith in subst (λ d. (words_owed up c ≤ length (words_at up d)) ⊎ Counted d) (sym same) (inr (record { set_is = refl; sum = refl }))
    counted (suc n) fit =
        let same : c + suc n ≡ suc (c + n) = omega arith in
        subst (λ d. (words_owed up c ≤ length (words_at up d)) ⊎ Counted d) (sym same) (next (counted n (omega (arith, fit))))
      where
        below : c + n < suc end
        below = omega (arith, fit)

        next : (words_owed up c ≤ length (words_at up (c + n))) ⊎ Counted (c + n) → (words_owed up c ≤ length (words_at up (suc (c + n)))) ⊎ Counted (suc (c + n))
        next (inl all) = let grow = words_grow (c + n) in inl (omega (arith, all, grow))
        next (inr is) = elim (set_stays room up down state run (suc end) legal owed (c + n) (now_at room up down state run (suc end) legal owed (c + n) below)) [
          | inl stays ↦ inr (record { set_is = ap length stays ∙ is.set_is; sum = summed (coming room up down state run (suc end) legal owed (c + n) below (now_at room up down state run (suc end) legal owed (c + n) below)) })
          | inr fresh ↦
              let all = reads_are (c + n) (omega (arith, fit)) in
              let none = fresh.reads in
              let grow = words_grow (c + n) in
              let asked = asked_grow n in
              inl (omega (arith, all, none, grow, asked))
        ]
          where
            asked_grow : (m : ℕ) → words_owed up c ≤ words_owed up (c + m)
            asked_grow zero = let same : c + 0 ≡ c = omega arith in rw same (omega arith)
            asked_grow (suc m) = let same : c + suc m ≡ suc (c + m) = omega arith in rw same (let more = asked_grow m in let one = one_step (takes up (c + m)) refl in omega (arith, more, one))
              where
                one_step : (t : Bool) → takes up (c + m) ≡ t → words_owed up (c + m) ≤ words_owed up (suc (c + m))
                one_step true e = let took = took_asks target up (c + m) e in omega (arith, took)
                one_step false e = let still = still_asks target up (c + m) e in omega (arith, still)

            summed : Coming room up down state run (suc end) legal owed (c + n) → length (words_at down (suc (c + n))) + each * length (words_at up c) + state.come c ≡ length (words_at down c) + each * length (words_at up (suc (c + n))) + state.come (suc (c + n))
            summed come = by_completed come.completed come.given come.sum
              where
                by_completed : (b : Bool) → is_raised (up.answers.valid (c + n)) ≡ b → state.come (suc (c + n)) + (if b then length (state.set (c + n)) else 0) ≡ state.come (c + n) + one_if (is_raised (down.answers.valid (c + n))) →
                    length (words_at down (suc (c + n))) + each * length (words_at up c) + state.come c ≡ length (words_at down c) + each * length (words_at up (suc (c + n))) + state.come (suc (c + n))
                by_completed true ev sum =
                    let was = is.sum in
                    let sets = is.set_is in
                    let came = came_next room up down state run (suc end) legal owed (c + n) in
                    let one = one_word up (c + n) ev in
                    let product : each * length (words_at up (suc (c + n))) ≡ each * (length (words_at up (c + n)) + 1) = ap (λ k. each * k) one in
                    let split : each * (length (words_at up (c + n)) + 1) ≡ each * length (words_at up (c + n)) + each = omega arith in
                    omega (arith, was, sets, came, product, split, sum)
                by_completed false ev sum =
                    let was = is.sum in
                    let came = came_next room up down state run (suc end) legal owed (c + n) in
                    let none = no_word up (c + n) ev in
                    let product : each * length (words_at up (suc (c + n))) ≡ each * length (words_at up (c + n)) = ap (λ k. each * k) none in
                    omega (arith, was, came, product, sum)

    come_few : (d : ℕ) → d ≤ end → state.come d ≤ length (state.set d) - 1
    come_few d fit = (now_at room up down state run (suc end) legal owed d (omega (arith, fit))).few

    pub all_come : (d : ℕ) → c ≤ d → d ≤ end → words_owed down c ≤ length (words_at down d) → words_owed up c ≤ length (words_at up d)
    all_come d near fit all =
        let at : c + (d - c) ≡ d = omega (arith, near) in
        by_counted (subst (λ k. (words_owed up c ≤ length (words_at up k)) ⊎ Counted k) at (counted (d - c) (omega (arith, at, fit)))) (nat_lt (length (words_at up d)) (words_owed up c)) refl
      where
        not_more : (n m : ℕ) → IsFalse (nat_lt n m) → m ≤ n
        not_more n m h = ltb-false n m h

        by_counted : (words_owed up c ≤ length (words_at up d)) ⊎ Counted d → (b : Bool) → nat_lt (length (words_at up d)) (words_owed up c) ≡ b → words_owed up c ≤ length (words_at up d)
        by_counted (inl done) b e = done
        by_counted (inr is) false e = not_more _ _ e
        by_counted (inr is) true e =
            let less = ltb-true (length (words_at up d)) (words_owed up c) e in
            let pending = reads_are c (omega (arith, near, fit)) in
            let grown = up_grows (d - c) in
            let at : c + (d - c) ≡ d = omega (arith, near) in
            let grow : length (words_at up c) ≤ length (words_at up d) = subst (λ k. length (words_at up c) ≤ length (words_at up k)) at grown in
            let now = now_at room up down state run (suc end) legal owed c (omega (arith, near, fit)) in
            let owes = now.owes in
            let positive = some_asked room up down state run (suc end) legal owed c (omega (arith, less, pending, grow)) in
            let product = times_less (length (words_at up d) + 1) (length (words_at up c) + state.reads c) each (omega (arith, less, pending)) in
            let one : each * (length (words_at up d) + 1) ≡ each * length (words_at up d) + each = omega arith in
            let two : each * (length (words_at up c) + state.reads c) ≡ each * length (words_at up c) + each * state.reads c = omega arith in
            let turned : state.reads c * each ≡ each * state.reads c = omega arith in
            let sum = is.sum in
            let sets = is.set_is in
            let last = come_few d fit in
            absurd (omega (arith, owes, positive, product, one, two, turned, sum, sets, last, all))
          where
            up_grows : (n : ℕ) → length (words_at up c) ≤ length (words_at up (c + n))
            up_grows zero = let same : c + 0 ≡ c = omega arith in rw same (omega arith)
            up_grows (suc n) = let same : c + suc n ≡ suc (c + n) = omega arith in rw same (let more = up_grows n in let one = words_grow (c + n) in omega (arith, more, one))

  pub split_fits : Fitting target up down (stands_or_owes down) left most end
  split_fits = record {
    some = λ c fit. (let less = place_few c fit in omega (arith, less));
    few = λ c fit. omega arith;
    stays = λ c fit none. stays c none (takes down c) refl;
    goes = λ c fit none shown stops. goes c fit none shown stops (takes down c) refl;
    fewer = λ c fit none took. (let next = place_next c none true took in let room_left = place_few (suc c) (omega (arith, fit)) in omega (arith, next, room_left));
    through = λ c fit. nothing_held target up down (suc end) row legal owed c (omega (arith, fit));
    come = λ c d near fit all. inl (all_come c d near fit all);
  }
