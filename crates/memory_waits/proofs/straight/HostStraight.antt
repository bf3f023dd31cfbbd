-- The part next to a host, told by its two sides: what waits in it, and what it shows.
use Rattle.std.proofs.Common.{ℕ, zero, suc, ◌<◌, ◌≤◌, ◌≡◌, ◌+◌, [], ◌∷◌, ◌++◌, List, Bool, true, false, not, ◌&&◌, ◌||◌, IsTrue, Some, if◌then◌else◌, nat_lt, nat_eq, arith, tests, refl, sym, ap, ap₂, ◌∙◌, subst, length, map, take, slice_get, append-nil, length-append}
use Rattle.std.proofs.lemmas.Bool.{and_parts, ltb-true, lt-ltb, eqb-true}
use Rattle.std.proofs.lemmas.List.{map-append}
use Rattle.std.proofs.lemmas.Option.{slice_get_within}
use Rattle.histories.specs.History.{KeepsItems, only_if, one_if, is_raised, unreached, total}
use Rattle.memory_runs.specs.Views.{System, Run, HostSide, HostView, Levels}
use Rattle.memory_runs.specs.Commands.{Transfer, shows, is_held, transfer_at, is_of_reads, reads_among, accepted}
use Rattle.memory_runs.specs.Legal.{Word, host_accepts, given, gives_word}
use Rattle.memory_runs.specs.Laws.{accepts_shows, legal_keeps}
use Rattle.memory_machines.specs.Link.{Port, Marked, AreLegalAt, takes, marked_at, shown_at, taken_at, closes, read_beats, words_at, words_owed}
use Rattle.memory_machines.specs.SideLaws.{marked_keeps, all_reached, same_counts}
use Rattle.memory_machines.specs.Straight.{HostGoesStraightThrough, HostIsPrompt, port_of_host, earlier_shown, shows_plain, is_plain, host_may_go_on, are_all_taken, has_room_for_reads, are_answered, accepts_empty_write}
use Rattle.memory_parts.specs.Steps.{IsHostPart, has_room, is_gone, may_read, given_before}
use Rattle.memory_waits.proofs.straight.Shown.{shown_length, earlier_is, front_is, accepted_more, length_more}

raised_one : (b : Bool) → is_raised (one_if b) ≡ b
raised_one true = refl
raised_one false = refl

nothing : (b : Bool) → (b && false) ≡ false
nothing true = refl
nothing false = refl

-- the words that these ask, told by their reads
reads_total : (ms : List Marked) → total (map (λ (t : Transfer). length t.beats) (reads_among (map (λ (m : Marked). m.transfer) ms))) ≡ length (read_beats ms)
reads_total [] = refl
reads_total (m ∷ ms) = by_test (is_of_reads m.transfer.kind) refl (reads_total ms)
  where
    by_test : (b : Bool) → is_of_reads m.transfer.kind ≡ b → total (map (λ (t : Transfer). length t.beats) (reads_among (map (λ (m : Marked). m.transfer) ms))) ≡ length (read_beats ms)
        → total (map (λ (t : Transfer). length t.beats) (reads_among (map (λ (m : Marked). m.transfer) (m ∷ ms)))) ≡ length (read_beats (m ∷ ms))
    by_test true e ih = rw e (ap (λ n. length m.transfer.beats + n) ih ∙ sym (length-append m.transfer.beats (read_beats ms)))
    by_test false e ih = rw e ih

reads_append : (xs ys : List Marked) → length (read_beats (xs ++ ys)) ≡ length (read_beats xs) + length (read_beats ys)
reads_append [] ys = omega arith
reads_append (m ∷ xs) ys = by_test (is_of_reads m.transfer.kind) refl (reads_append xs ys)
  where
    by_test : (b : Bool) → is_of_reads m.transfer.kind ≡ b → length (read_beats (xs ++ ys)) ≡ length (read_beats xs) + length (read_beats ys)
        → length (read_beats ((m ∷ xs) ++ ys)) ≡ length (read_beats (m ∷ xs)) + length (read_beats ys)
    by_test true e ih =
        let whole = length-append m.transfer.beats (read_beats (xs ++ ys)) in
        let first = length-append m.transfer.beats (read_beats xs) in
        rw e (omega (arith, ih, whole, first))
    by_test false e ih = rw e ih

-- the words that one asks
abbrev words_in : Transfer → ℕ
words_in t = if is_of_reads t.kind then length t.beats else 0

words_of : (m : Marked) → length (read_beats (m ∷ [])) ≡ words_in m.transfer
words_of m = by_test (is_of_reads m.transfer.kind) refl
  where
    by_test : (b : Bool) → is_of_reads m.transfer.kind ≡ b → length (read_beats (m ∷ [])) ≡ words_in m.transfer
    by_test true e = rw e (ap length (append-nil m.transfer.beats))
    by_test false e = rw e refl

module _ (system : System) (run : Run) (host : ℕ) (down : Port) (end : ℕ) (part : IsHostPart system run host down end) where
  abbrev side : HostSide
  side = system.host host

  abbrev view : HostView
  view = run.at_host host

  abbrev up : Port
  up = port_of_host side view host

  abbrev own : ℕ → Transfer
  own c = transfer_at side.shape view.signals (host_accepts view) c

  abbrev bears : Transfer → Marked
  bears t = record { tag = host; more = is_raised (one_if (not t.ends)); transfer = t }

  keeps_own : KeepsItems (shows view.signals) (host_accepts view) own end
  keeps_own = legal_keeps side.shape view.signals (host_accepts view) end (accepts_shows view.signals view.waitrequest) part.legal

  keeps : KeepsItems (shows view.signals) (takes up) (marked_at up) end
  keeps = record {
    accepted = keeps_own.accepted;
    held = λ c low stands. ((keeps_own.held c low stands).0, ap bears (keeps_own.held c low stands).1);
  }

  -- ---- words

  words_given : (c : ℕ) → length (words_at up c) ≡ given_before system run host c
  words_given zero = refl
  words_given (suc c) =
      length_more (words_at up c) (is_raised (one_if (gives_word side view c))) _
      ∙ ap₂ (λ n b. n + one_if b) (words_given c) (raised_one (gives_word side view c))
      ∙ sym (length_more (given side view c) (gives_word side view c) _)

  accepted_is : (c : ℕ) → accepted side.shape view.signals (host_accepts view) c ≡ map (λ (m : Marked). m.transfer) (taken_at up c)
  accepted_is zero = refl
  accepted_is (suc c) =
      ap₂ (λ x y. x ++ y) (accepted_is c) (one (host_accepts view c))
      ∙ sym (map-append (λ (m : Marked). m.transfer) (taken_at up c) (only_if (takes up c) (marked_at up c)))
    where
      one : (b : Bool) → only_if b (own c) ≡ map (λ (m : Marked). m.transfer) (only_if b (marked_at up c))
      one true = refl
      one false = refl

  room_same : (c : ℕ) → has_room_for_reads up c ≡ has_room system run host c
  room_same c = ap (λ n. nat_lt (unreached (map (λ (t : Transfer). length t.beats) (reads_among (accepted side.shape view.signals (host_accepts view) c))) n) 16) (words_given c)

  -- where all words are given, reads have room
  room_for_all : (c : ℕ) → IsTrue (are_answered up (taken_at up c) c) → IsTrue (has_room system run host c)
  room_for_all c all =
      let asked = ap (λ ts. total (map (λ (t : Transfer). length t.beats) (reads_among ts))) (accepted_is c) ∙ reads_total (taken_at up c) in
      let few : length (read_beats (taken_at up c)) ≤ length (words_at up c) = grind (arith, tests, all) in
      let none = all_reached (map (λ (t : Transfer). length t.beats) (reads_among (accepted side.shape view.signals (host_accepts view) c))) (length (words_at up c)) (omega (arith, asked, few)) in
      sym (room_same c) ∙ ap (λ n. nat_lt n 16) none

  -- ---- what waits in it

  words_more : (c : ℕ) → length (words_at down (suc c)) ≡ length (words_at down c) + one_if (is_raised (down.answers.valid c))
  words_more c = length_more (words_at down c) (is_raised (down.answers.valid c)) _

  owed_more : (c : ℕ) → words_owed down (suc c) ≡ words_owed down c + length (read_beats (only_if (takes down c) (marked_at down c)))
  owed_more c = reads_append (taken_at down c) (only_if (takes down c) (marked_at down c))

  takes_shows : (c : ℕ) → takes down c ≡ true → shows down.commands.signals c ≡ true
  takes_shows c e = (and_parts (shows down.commands.signals c) (not (is_raised (down.commands.waitrequest c))) e).0

  -- as a cycle begins, at most one read is taken below and waits for its word above
  record Waits (c : ℕ) : Type 0 where
    taken : length (taken_at down c) ≡ length (taken_at up c) + one_if (is_gone down c)
    words : words_owed down c ≡ length (words_at down c) + one_if (is_gone down c)
    stands : is_gone down c ≡ true → c < end → is_raised (view.read c) ≡ true

  -- the registers as a cycle begins, and that an acceptance before it leaves nothing
  record Steps (c : ℕ) : Type 0 where
    waits : Waits (suc c)
    fresh : host_accepts view c ≡ true → is_gone down (suc c) ≡ false

  -- a host that reads and waits reads on
  reads_on : (c : ℕ) → suc c < end → is_raised (view.read c) ≡ true → host_accepts view c ≡ false → is_raised (view.read (suc c)) ≡ true
  reads_on c low reads none =
      let held : is_held view.signals (host_accepts view) c ≡ true = ap₂ (λ r a. (r || is_raised (view.write c)) && not a) reads none in
      ap (λ (l : Levels). is_raised l.read) (sym (part.legal.held c low held)) ∙ reads

  module _ (without : side.has_readdatavalid ≡ false) where
    accepts_is : (c : ℕ) → c < end → host_accepts view c ≡ (if is_raised (view.write c) then takes down c else is_raised (down.answers.valid c))
    accepts_is c low =
        part.accepts c low ∙ ap (λ h. if is_raised (view.write c) || h then takes down c else is_raised (down.answers.valid c)) without
        ∙ ap (λ b. if b then takes down c else is_raised (down.answers.valid c)) (or_none (is_raised (view.write c)))
      where
        or_none : (b : Bool) → (b || false) ≡ b
        or_none true = refl
        or_none false = refl

    shown_is_open : (c : ℕ) → c < end → shows down.commands.signals c ≡ (shows view.signals c && (is_raised (view.write c) || not (is_gone down c)))
    shown_is_open c low = part.shown c low ∙ ap (λ h. shows view.signals c && (is_raised (view.write c) || (if h then has_room system run host c else not (is_gone down c)))) without

    -- where nothing is gone no word comes
    no_word : (c : ℕ) → c < end → words_owed down c ≡ length (words_at down c) → is_raised (down.answers.valid c) ≡ false
    no_word c low same = by_valid (is_raised (down.answers.valid c)) refl
      where
        by_valid : (b : Bool) → is_raised (down.answers.valid c) ≡ b → is_raised (down.answers.valid c) ≡ false
        by_valid false e = e
        by_valid true e =
            let few = part.owed c low in
            let counts = same_counts {A = Word} (λ c. is_raised (down.answers.valid c)) (λ c. record { word = down.answers.word c; code = down.answers.code c }) (λ c. c) (suc c) in
            let more = words_more c ∙ ap (λ b. length (words_at down c) + one_if b) e in
            absurd (omega (arith, few, counts, more, same))

    gone_by : (c : ℕ) (b : Bool) → words_owed down c ≡ length (words_at down c) + one_if b → is_gone down c ≡ b
    gone_by c true e = lt-ltb (length (words_at down c)) (words_owed down c) (omega (arith, e))
    gone_by c false e = grind (arith, tests, e)

    -- the new number of words and beats, and what is left of them
    steps_by : (c : ℕ) → c < end → (g : Bool) → length (taken_at down (suc c)) ≡ length (taken_at up (suc c)) + one_if g → words_owed down (suc c) ≡ length (words_at down (suc c)) + one_if g →
        (g ≡ true → suc c < end → is_raised (view.read (suc c)) ≡ true) → (host_accepts view c ≡ true → g ≡ false) → Steps c
    steps_by c low g taken words stands fresh =
        let is = gone_by (suc c) g words in
        record {
          waits = record {
            taken = taken ∙ ap (λ b. length (taken_at up (suc c)) + one_if b) (sym is);
            words = words ∙ ap (λ b. length (words_at down (suc c)) + one_if b) (sym is);
            stands = λ e. stands (sym is ∙ e);
          };
          fresh = λ e. is ∙ fresh e;
        }

    up_more : (c : ℕ) → length (taken_at up (suc c)) ≡ length (taken_at up c) + one_if (host_accepts view c)
    up_more c = accepted_more (shows view.signals) (takes up) (marked_at up) end keeps c

    down_more : (c : ℕ) → length (taken_at down (suc c)) ≡ length (taken_at down c) + one_if (takes down c)
    down_more c = length_more (taken_at down c) (takes down c) (marked_at down c)

    -- nothing is taken
    owes_none : (c : ℕ) → takes down c ≡ false → words_owed down (suc c) ≡ words_owed down c
    owes_none c none = let more = owed_more c ∙ ap (λ b. words_owed down c + length (read_beats (only_if b (marked_at down c)))) none in omega (arith, more)

    step : (c : ℕ) → c < end → Waits c → Steps c
    step c low w = by_gone (is_gone down c) (takes down c) (is_raised (view.write c)) refl refl refl
      where
        quiet : is_raised (view.read c) ≡ true → is_raised (view.write c) ≡ false
        quiet reads = alone (is_raised (view.read c)) (is_raised (view.write c)) reads (part.legal.one_kind c low)
          where
            alone : (r w : Bool) → r ≡ true → not (r && w) ≡ true → w ≡ false
            alone true true e k = sym k
            alone true false e k = refl
            alone false w e k = cc

        hidden : is_gone down c ≡ true → is_raised (view.write c) ≡ false → takes down c ≡ false
        hidden g none =
            let shut : shows down.commands.signals c ≡ false = shown_is_open c low ∙ ap₂ (λ w g. shows view.signals c && (w || not g)) none g ∙ nothing (shows view.signals c) in
            ap (λ s. s && not (is_raised (down.commands.waitrequest c))) shut

        by_gone : (g t wr : Bool) → is_gone down c ≡ g → takes down c ≡ t → is_raised (view.write c) ≡ wr → Steps c
        by_gone true t wr g took ww =
            let none = quiet (w.stands g low) in
            let untaken = hidden g none in
            let accepts : host_accepts view c ≡ is_raised (down.answers.valid c) = accepts_is c low ∙ ap (λ b. if b then takes down c else is_raised (down.answers.valid c)) none in
            by_valid untaken (is_raised (down.answers.valid c)) refl accepts
          where
            by_valid : takes down c ≡ false → (v : Bool) → is_raised (down.answers.valid c) ≡ v → host_accepts view c ≡ is_raised (down.answers.valid c) → Steps c
            by_valid untaken v e accepts =
                let taken = w.taken ∙ ap (λ b. length (taken_at up c) + one_if b) g in
                let words = w.words ∙ ap (λ b. length (words_at down c) + one_if b) g in
                let one = up_more c ∙ ap (λ b. length (taken_at up c) + one_if b) (accepts ∙ e) in
                let two = down_more c ∙ ap (λ b. length (taken_at down c) + one_if b) untaken in
                let three = words_more c ∙ ap (λ b. length (words_at down c) + one_if b) e in
                let four = owes_none c untaken in
                let sum = opposite v in
                steps_by c low (not v) (omega (arith, taken, one, two, sum)) (omega (arith, words, three, four, sum))
                (λ n later. reads_on c later (w.stands g low) (accepts ∙ e ∙ of_not v n)) (λ a. ap not (sym e ∙ sym accepts ∙ a))
              where
                opposite : (b : Bool) → one_if b + one_if (not b) ≡ 1
                opposite true = refl
                opposite false = refl

                of_not : (b : Bool) → not b ≡ true → b ≡ false
                of_not true n = sym n
                of_not false n = refl
        by_gone false false wr g took ww =
            let taken = w.taken ∙ ap (λ b. length (taken_at up c) + one_if b) g in
            let words = w.words ∙ ap (λ b. length (words_at down c) + one_if b) g in
            let calm = no_word c low (omega (arith, words)) in
            let none : host_accepts view c ≡ false = accepts_is c low ∙ ap₂ (λ x y. if is_raised (view.write c) then x else y) took calm ∙ either (is_raised (view.write c)) in
            let one = up_more c ∙ ap (λ b. length (taken_at up c) + one_if b) none in
            let two = down_more c ∙ ap (λ b. length (taken_at down c) + one_if b) took in
            let three = words_more c ∙ ap (λ b. length (words_at down c) + one_if b) calm in
            let four = owes_none c took in
            steps_by c low false (omega (arith, taken, one, two)) (omega (arith, words, three, four)) (λ n later. cc) (λ a. refl)
          where
            either : (b : Bool) → (if b then false else false) ≡ false
            either true = refl
            either false = refl
        by_gone false true true g took ww =
            let taken = w.taken ∙ ap (λ b. length (taken_at up c) + one_if b) g in
            let words = w.words ∙ ap (λ b. length (words_at down c) + one_if b) g in
            let calm = no_word c low (omega (arith, words)) in
            let some : host_accepts view c ≡ true = accepts_is c low ∙ ap₂ (λ w x. if w then x else is_raised (down.answers.valid c)) ww took in
            let one = up_more c ∙ ap (λ b. length (taken_at up c) + one_if b) some in
            let two = down_more c ∙ ap (λ b. length (taken_at down c) + one_if b) took in
            let three = words_more c ∙ ap (λ b. length (words_at down c) + one_if b) calm in
            let writes : is_raised (down.commands.write c) ≡ true = part.level c low (takes_shows c took) ∙ ww in
            let four = owed_more c ∙ ap (λ b. words_owed down c + length (read_beats (only_if b (marked_at down c)))) took in
            let five : length (read_beats (marked_at down c ∷ [])) ≡ 0 = rw writes refl in
            steps_by c low false (omega (arith, taken, one, two)) (omega (arith, words, three, four, five)) (λ n later. cc) (λ a. refl)
        by_gone false true false g took ww =
            let taken = w.taken ∙ ap (λ b. length (taken_at up c) + one_if b) g in
            let words = w.words ∙ ap (λ b. length (words_at down c) + one_if b) g in
            let calm = no_word c low (omega (arith, words)) in
            let none : host_accepts view c ≡ false = accepts_is c low ∙ ap₂ (λ w x. if w then takes down c else x) ww calm in
            let one = up_more c ∙ ap (λ b. length (taken_at up c) + one_if b) none in
            let two = down_more c ∙ ap (λ b. length (taken_at down c) + one_if b) took in
            let three = words_more c ∙ ap (λ b. length (words_at down c) + one_if b) calm in
            let shown = takes_shows c took in
            let above = (and_parts (shows view.signals c) (is_raised (view.write c) || may_read system run host down c) (sym (part.shown c low) ∙ shown)).0 in
            let reads : is_raised (view.read c) ≡ true = left (is_raised (view.read c)) (is_raised (view.write c)) above ww in
            let counted = part.one_word without c low reads in
            let four = owed_more c ∙ ap (λ b. words_owed down c + length (read_beats (only_if b (marked_at down c)))) took in
            let five : length (read_beats (marked_at down c ∷ [])) ≡ 1 = words_of (marked_at down c) ∙ ap words_in (part.same c low shown) ∙ one_beat ww counted in
            steps_by c low true (omega (arith, taken, one, two)) (omega (arith, words, three, four, five)) (λ n later. reads_on c later reads none) (λ a. sym a ∙ none)
          where
            left : (r w : Bool) → (r || w) ≡ true → w ≡ false → r ≡ true
            left true w e k = refl
            left false w e k = sym k ∙ e

            one_beat : is_raised (view.write c) ≡ false → view.count c ≡ 1 → words_in (own c) ≡ 1
            one_beat ww counted = rw ww (rw counted refl)

    all_steps : (c : ℕ) → c ≤ end → Waits c
    all_steps zero low = record { taken = refl; words = refl; stands = λ e. cc }
    all_steps (suc c) low = (step c low (all_steps c (omega (arith, low)))).waits

  -- ---- what it shows

  -- a beat is shown below where nothing of it is gone, and a read has room
  opens : (c : ℕ) → c < end → shows view.signals c ≡ true → length (taken_at down c) ≡ length (taken_at up c) → (side.has_readdatavalid ≡ true → IsTrue (has_room system run host c)) → shows down.commands.signals c ≡ true
  opens c low is same room = by_has side.has_readdatavalid refl
    where
      all_open : (w m : Bool) → m ≡ true → (true && (w || m)) ≡ true
      all_open true m e = refl
      all_open false m e = e

      shown_by : (m : Bool) → may_read system run host down c ≡ m → m ≡ true → shows down.commands.signals c ≡ true
      shown_by m e may = part.shown c low ∙ ap₂ (λ s n. s && (is_raised (view.write c) || n)) is e ∙ all_open (is_raised (view.write c)) m may

      by_has : (h : Bool) → side.has_readdatavalid ≡ h → shows down.commands.signals c ≡ true
      by_has true has = shown_by (has_room system run host c) (ap (λ h. if h then has_room system run host c else not (is_gone down c)) has) (room has)
      by_has false has =
          let w = (all_steps has c (omega (arith, low))).taken in
          let none : is_gone down c ≡ false = none_of (is_gone down c) (omega (arith, w, same)) in
          shown_by true (ap₂ (λ h g. if h then has_room system run host c else not g) has none) refl
        where
          none_of : (b : Bool) → one_if b ≡ 0 → b ≡ false
          none_of true e = cc
          none_of false e = refl

  -- with readdatavalid each beat is accepted where it is taken below
  takes_same : side.has_readdatavalid ≡ true → (c : ℕ) → c < end → takes up c ≡ takes down c
  takes_same has c low =
      part.accepts c low ∙ ap (λ h. if is_raised (view.write c) || h then takes down c else is_raised (down.answers.valid c)) has
      ∙ ap (λ b. if b then takes down c else is_raised (down.answers.valid c)) (or_all (is_raised (view.write c)))
    where
      or_all : (b : Bool) → (b || true) ≡ true
      or_all true = refl
      or_all false = refl

  lengths_same : side.has_readdatavalid ≡ true → (c : ℕ) → c ≤ end → length (taken_at down c) ≡ length (taken_at up c)
  lengths_same has zero low = refl
  lengths_same has (suc c) low =
      length_more (taken_at down c) (takes down c) (marked_at down c)
      ∙ ap₂ (λ n b. n + one_if b) (lengths_same has c (omega (arith, low))) (sym (takes_same has c low))
      ∙ sym (accepted_more (shows view.signals) (takes up) (marked_at up) end keeps c)

  plain_shows : (c : ℕ) → IsTrue (shows_plain up c) → shows view.signals c ≡ true
  plain_shows c plain = (and_parts (shows view.signals c) (is_plain side.shape (earlier_shown up c) (marked_at up c)) plain).0

  goes_on : (c : ℕ) → c < end → IsTrue (shows_plain up c) → IsTrue (host_may_go_on up down c) → shows down.commands.signals c ≡ true
  goes_on c low plain free = opens c low is (eqb-true (length (taken_at down c)) (length (taken_at up c)) (ap (λ l. nat_eq (length (taken_at down c)) (length l)) (sym earlier) ∙ both.0)) (λ has. by_room (has_room_for_reads up c) refl)
    where
      is : shows view.signals c ≡ true
      is = plain_shows c plain

      earlier : earlier_shown up c ≡ taken_at up c
      earlier = earlier_is (shows view.signals) (takes up) (marked_at up) end keeps c low is

      both : (are_all_taken down (earlier_shown up c) c ≡ true) × ((has_room_for_reads up c || are_answered up (earlier_shown up c) c) ≡ true)
      both = and_parts (are_all_taken down (earlier_shown up c) c) (has_room_for_reads up c || are_answered up (earlier_shown up c) c) free

      by_room : (b : Bool) → has_room_for_reads up c ≡ b → IsTrue (has_room system run host c)
      by_room true e = sym (room_same c) ∙ e
      by_room false e = room_for_all c (subst (λ l. IsTrue (are_answered up l c)) earlier (ap (λ b. b || are_answered up (earlier_shown up c) c) (sym e) ∙ both.1))

  pub host_straight : HostGoesStraightThrough side view host down end
  host_straight = record {
    shown = λ c low plain free. let is = goes_on c low plain free in (is, part.same c low is);
    accepted = λ c low plain free kind.
        part.accepts c low
        ∙ ap (λ b. if b then takes down c else is_raised (down.answers.valid c)) (swap side.has_readdatavalid (is_raised (view.write c)) ∙ kind);
  }
    where
      swap : (h w : Bool) → (w || h) ≡ (h || w)
      swap true true = refl
      swap true false = refl
      swap false true = refl
      swap false false = refl

  -- after an acceptance nothing is left in it
  fresh_after : (c : ℕ) → c < end → takes up c ≡ true → length (taken_at down (suc c)) ≡ length (taken_at up (suc c))
  fresh_after c low accepted = by_has side.has_readdatavalid refl
    where
      by_has : (h : Bool) → side.has_readdatavalid ≡ h → length (taken_at down (suc c)) ≡ length (taken_at up (suc c))
      by_has true has = lengths_same has (suc c) low
      by_has false has =
          let s = step has c low (all_steps has c (omega (arith, low))) in
          let sum = s.waits.taken ∙ ap (λ b. length (taken_at up (suc c)) + one_if b) (s.fresh accepted) in
          omega (arith, sum)

  module _ (legal : AreLegalAt down end) where
    shown_below : (c : ℕ) → c < end → length (shown_at down (suc c)) ≡ length (taken_at down c) + one_if (shows down.commands.signals c)
    shown_below c low = shown_length (shows down.commands.signals) (takes down) (marked_at down) end (marked_keeps down end legal) c low

    shown_above : (c : ℕ) → c < end → length (shown_at up (suc c)) ≡ length (taken_at up c) + one_if (shows view.signals c)
    shown_above c low = shown_length (shows view.signals) (takes up) (marked_at up) end keeps c low

    -- no more is taken below than was shown above before this cycle's beat, and where as much is, nothing is gone
    next_is : (c : ℕ) → c < end → (number : ℕ) → number < length (shown_at up (suc c)) → length (taken_at down c) ≡ number → (number ≡ length (taken_at up c)) × (shows view.signals c ≡ true)
    next_is c low number within same = by_has side.has_readdatavalid (shows view.signals c) refl refl
      where
        by_has : (h s : Bool) → side.has_readdatavalid ≡ h → shows view.signals c ≡ s → (number ≡ length (taken_at up c)) × (shows view.signals c ≡ true)
        by_has true s has is =
            let equal = lengths_same has c (omega (arith, low)) in
            let long = shown_above c low in
            (omega (arith, equal, same), some (shows view.signals c) (omega (arith, long, equal, same, within)))
          where
            some : (b : Bool) → 0 < one_if b → b ≡ true
            some true e = refl
            some false e = absurd (omega (arith, e))
        by_has false true has is =
            let w = (all_steps has c (omega (arith, low))).taken in
            let long = shown_above c low ∙ ap (λ b. length (taken_at up c) + one_if b) is in
            (omega (arith, w, long, same, within), is)
        by_has false false has is =
            let w = (all_steps has c (omega (arith, low))).taken in
            let long = shown_above c low ∙ ap (λ b. length (taken_at up c) + one_if b) is in
            absurd (omega (arith, w, long, same, within))

    at_once : (c number : ℕ) (m : Marked) → c < end → slice_get (shown_at up (suc c)) number ≡ Some m → number ≤ length (taken_at down c) →
        IsTrue (are_answered up (take number (shown_at up (suc c))) c) → number < length (shown_at down (suc c))
    at_once c number m low there reached all = by_taken (nat_lt number (length (taken_at down c))) refl
      where
        by_taken : (b : Bool) → nat_lt number (length (taken_at down c)) ≡ b → number < length (shown_at down (suc c))
        by_taken true e = let long = shown_below c low in let more = ltb-true number (length (taken_at down c)) e in omega (arith, long, more)
        by_taken false e =
            let same : length (taken_at down c) ≡ number = grind (arith, tests, e, reached) in
            let next = next_is c low number (slice_get_within (shown_at up (suc c)) number m there) same in
            let front : take number (shown_at up (suc c)) ≡ taken_at up c = ap (λ n. take n (shown_at up (suc c))) next.0 ∙ front_is (shows view.signals) (takes up) (marked_at up) end keeps c low in
            let is = opens c low next.1 (same ∙ next.0) (λ has. room_for_all c (subst (λ l. IsTrue (are_answered up l c)) front all)) in
            let long = shown_below c low ∙ ap (λ b. length (taken_at down c) + one_if b) is in
            omega (arith, long, same)

    plus_none : (n : ℕ) → n + 0 ≡ n
    plus_none n = omega arith

    pub host_prompt : HostIsPrompt 0 side view host down end
    host_prompt = record {
      shown = λ c number m low there begins reached all.
          subst (λ n. number < length (shown_at down (suc n))) (sym (plus_none c)) (at_once c number m (omega (arith, low)) there reached all);
      empty = λ c low accepted. fresh_after c low (first_of_two c accepted);
    }
      where
        first_of_two : (c : ℕ) → IsTrue (accepts_empty_write up c) → takes up c ≡ true
        first_of_two c e =
            (and_parts (takes up c) (closes (marked_at up c)) (and_parts (takes up c && closes (marked_at up c)) _ e).0).0
