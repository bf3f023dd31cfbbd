-- A cutter of bursts shows each beat at once, and holds what of a read is still to be sent.
use Rattle.std.proofs.Common.{◌≡◌, ℕ, zero, suc, ◌+◌, ◌-◌, ◌*◌, ◌<◌, ◌≤◌, min, Bool, true, false, not, ◌&&◌, List, [], ◌∷◌, ◌++◌, length, map, flat_map, nat_eq, if◌then◌else◌, arith, refl, sym, ap, ◌∙◌, IsTrue, IsFalse, tests, append-nil, length-append, ltb-true, ltb-false}
use Rattle.std.proofs.lemmas.List.{length-map}
use Rattle.histories.specs.History.{is_raised, numbers}
use Rattle.memory_runs.specs.Views.{Shape, Levels, levels_at}
use Rattle.memory_runs.specs.Operations.{Beat, filled_lanes, operation_at}
use Rattle.memory_runs.specs.Views.Kind.{Writes}
use Rattle.memory_runs.specs.Commands.{Burst, shows, read_beat, byte_address, burst_before}
use Rattle.memory_machines.specs.Link.{Target, Port, Marked, takes, taken_at, marked_at, operations_in, operations_among, beat_operations, read_beats, words_owed}
use Rattle.memory_machines.specs.Machines.{Raw, raw_at}
use Rattle.memory_links.specs.Cutters.{Rest, Reach, CutterState, RunsAsCutter, is_sending, read_burst_of, behind_burst, whole_read, first_burst, write_of_burst, beats_of}
use Rattle.memory_waits.specs.Waits.{LeadsDown}
use Rattle.memory_waits.proofs.Bits.{no_both, takes_shows, none_taken, one_taken, numbers_length}
use Rattle.memory_waits.proofs.Owed.{beats_append}

-- ---- what a beat brings, in operations and words

module _ (target : Target) where
  abbrev pub lanes : Shape → ℕ → ℕ
  lanes shape enables = length (filled_lanes shape target.shape enables)

  ops_append : (shape : Shape) (xs : List Marked) (m : Marked) → length (operations_among target shape (xs ++ m ∷ [])) ≡ length (operations_among target shape xs) + length (operations_in target shape m)
  ops_append shape [] m = let same = ap length (append-nil (operations_in target shape m)) in omega (arith, same)
  ops_append shape (x ∷ xs) m =
      let more = ops_append shape xs m in
      let one = length-append (operations_in target shape x) (operations_among target shape (xs ++ m ∷ [])) in
      let two = length-append (operations_in target shape x) (operations_among target shape xs) in
      omega (arith, more, one, two)

  beat_lanes : (shape : Shape) (beat : Beat) → length (beat_operations target shape beat) ≡ lanes shape beat.enables
  beat_lanes shape beat = length-map (filled_lanes shape target.shape beat.enables) (operation_at target.span beat)

  reads_lanes : (shape : Shape) (levels : Levels) (ns : List ℕ) → length (flat_map (beat_operations target shape) (map (read_beat shape levels) ns)) ≡ length ns * lanes shape levels.enables
  reads_lanes shape levels [] = omega arith
  reads_lanes shape levels (n ∷ ns) =
      let more = reads_lanes shape levels ns in
      let one = beat_lanes shape (read_beat shape levels n) in
      let split = length-append (beat_operations target shape (read_beat shape levels n)) (flat_map (beat_operations target shape) (map (read_beat shape levels) ns)) in
      let times : suc (length ns) * lanes shape levels.enables ≡ length ns * lanes shape levels.enables + lanes shape levels.enables = omega arith in
      omega (arith, more, one, split, times)

  abbrev beat_shown : Shape → Levels → Burst → Beat
  beat_shown shape levels burst = record {
    kind = Writes;
    address = (if nat_eq burst.left 0 then byte_address shape levels.address else burst.first) + (if nat_eq burst.left 0 then 0 else burst.done) * shape.word_bytes;
    word = levels.word;
    enables = levels.enables;
  }

  one_brings : (shape : Shape) (beat : Beat) → length (flat_map (beat_operations target shape) (beat ∷ [])) ≡ lanes shape beat.enables
  one_brings shape beat = ap length (append-nil (beat_operations target shape beat)) ∙ beat_lanes shape beat

  module _ (port : Port) (c : ℕ) where
    read_brings : IsFalse (is_raised (port.commands.write c)) → length (operations_in target port.shape (marked_at port c)) ≡ port.commands.count c * lanes port.shape (port.commands.enables c)
    read_brings kind = rw kind (reads_lanes port.shape (levels_at port.commands.signals c) (numbers 0 (port.commands.count c)) ∙ ap (λ n. n * lanes port.shape (port.commands.enables c)) (numbers_length 0 (port.commands.count c)))

    write_brings : IsTrue (is_raised (port.commands.write c)) → length (operations_in target port.shape (marked_at port c)) ≡ lanes port.shape (port.commands.enables c)
    write_brings kind = rw kind (one_brings port.shape (beat_shown port.shape (levels_at port.commands.signals c) (burst_before port.shape port.commands.signals (takes port) c)))

    pub read_asks : IsFalse (is_raised (port.commands.write c)) → length (read_beats (marked_at port c ∷ [])) ≡ port.commands.count c
    read_asks kind = rw kind (ap length (append-nil (map (read_beat port.shape (levels_at port.commands.signals c)) (numbers 0 (port.commands.count c)))) ∙ length-map (numbers 0 (port.commands.count c)) (read_beat port.shape (levels_at port.commands.signals c)) ∙ numbers_length 0 (port.commands.count c))

    pub write_asks : IsTrue (is_raised (port.commands.write c)) → length (read_beats (marked_at port c ∷ [])) ≡ 0
    write_asks kind = rw kind refl

    took_ops : IsTrue (takes port c) → length (operations_among target port.shape (taken_at port (suc c))) ≡ length (operations_among target port.shape (taken_at port c)) + length (operations_in target port.shape (marked_at port c))
    took_ops took = ap (λ l. length (operations_among target port.shape l)) (one_taken port c took) ∙ ops_append port.shape (taken_at port c) (marked_at port c)

    still_ops : IsFalse (takes port c) → length (operations_among target port.shape (taken_at port (suc c))) ≡ length (operations_among target port.shape (taken_at port c))
    still_ops none = ap (λ l. length (operations_among target port.shape l)) (none_taken port c none)

    pub took_asks : IsTrue (takes port c) → words_owed port (suc c) ≡ words_owed port c + length (read_beats (marked_at port c ∷ []))
    took_asks took = ap (λ l. length (read_beats l)) (one_taken port c took) ∙ ap length (beats_append (taken_at port c) (marked_at port c ∷ [])) ∙ length-append (read_beats (taken_at port c)) (read_beats (marked_at port c ∷ []))

    pub still_asks : IsFalse (takes port c) → words_owed port (suc c) ≡ words_owed port c
    still_asks none = ap (λ l. length (read_beats l)) (none_taken port c none)

-- a burst and what is left behind it are no less than all
all_there : (far n : ℕ) → n ≤ beats_of far n + (n - far)
all_there far n = by_one (nat_eq far 1) refl
  where
    by_one : (b : Bool) → nat_eq far 1 ≡ b → n ≤ (if b then 1 else min far n) + (n - far)
    by_one true e = let one : far ≡ 1 = grind (arith, tests, e) in omega (arith, one)
    by_one false e = omega arith

pub times_more : (n m k : ℕ) → n ≤ m → n * k ≤ m * k
times_more n m zero h = omega arith
times_more n m (suc k) h =
    let more = times_more n m k h in
    let one : n * suc k ≡ n * k + n = omega arith in
    let two : m * suc k ≡ m * k + m = omega arith in
    omega (arith, more, one, two, h)

two_parts : (n m k : ℕ) → (n + m) * k ≡ n * k + m * k
two_parts n m k = omega arith

module _ (target : Target) (reach : Reach) (longest : ℕ) (up down : Port) (state : CutterState) (end most : ℕ) (runs : RunsAsCutter reach longest up down state) (goes : (address : ℕ) → 0 < reach address) (same : down.shape.word_bytes ≡ up.shape.word_bytes)
    (short : (c : ℕ) → c < end → IsTrue (shows up.commands.signals c) → IsFalse (is_raised (up.commands.write c)) → up.commands.count c ≤ most) where
  abbrev pub held : ℕ → ℕ
  held c = (state.rest c).left

  abbrev next_by : Bool → Bool → Bool → ℕ → Rest
  next_by sending down_took read_took c =
      if sending then (if down_took then behind_burst reach up.shape.word_bytes (state.rest c) else state.rest c)
      else if read_took then behind_burst reach up.shape.word_bytes (whole_read up.shape (raw_at up c)) else state.rest c

  rest_is : (c : ℕ) (s d t w : Bool) → is_sending state c ≡ s → takes down c ≡ d → takes up c ≡ t → is_raised (up.commands.write c) ≡ w → state.rest (suc c) ≡ next_by s d (t && not w) c
  rest_is c s d t w es ed et ew = runs.rest_next c ∙ (rw (es, ed, et, ew) refl)

  above_takes : (c : ℕ) (s d : Bool) → is_sending state c ≡ s → takes down c ≡ d → takes up c ≡ (not s && d)
  above_takes c s d es ed = runs.accepts c ∙ (rw (es, ed) refl)

  none_held : (c : ℕ) → IsFalse (is_sending state c) → held c ≡ 0
  none_held c e = let none = ltb-false 0 (held c) e in omega (arith, none)

  few : (c : ℕ) → c ≤ end → held c ≤ most
  few zero fit = let none = runs.rest_begins in omega (arith, none)
  few (suc c) fit = by_all (is_sending state c) (takes down c) (is_raised (up.commands.write c)) refl refl refl (few c (omega (arith, fit)))
    where
      by_all : (s d w : Bool) → is_sending state c ≡ s → takes down c ≡ d → is_raised (up.commands.write c) ≡ w → held c ≤ most → held (suc c) ≤ most
      by_all true true w es ed ew was = let next = ap (λ (r : Rest). r.left) (rest_is c true true false w es ed (above_takes c true true es ed) ew) in omega (arith, was, next)
      by_all true false w es ed ew was = let next = ap (λ (r : Rest). r.left) (rest_is c true false false w es ed (above_takes c true false es ed) ew) in omega (arith, was, next)
      by_all false false w es ed ew was = let next = ap (λ (r : Rest). r.left) (rest_is c false false false w es ed (above_takes c false false es ed) ew) in omega (arith, was, next)
      by_all false true true es ed ew was = let next = ap (λ (r : Rest). r.left) (rest_is c false true true true es ed (above_takes c false true es ed) ew) in omega (arith, was, next)
      by_all false true false es ed ew was =
          let took = above_takes c false true es ed in
          let count = short c (omega (arith, fit)) (takes_shows up c took) ew in
          let next = ap (λ (r : Rest). r.left) (rest_is c false true true false es ed took ew) in
          omega (arith, count, next)

  -- ---- what is shown below

  module _ (c : ℕ) (shown : IsTrue (shows down.commands.signals c)) where
    abbrev showing : Bool → Raw
    showing b = if b then read_burst_of reach (state.rest c) else first_burst reach longest up.shape (state.place c) (raw_at up c)

    raw_is : (s : Bool) → is_sending state c ≡ s → raw_at down c ≡ showing s
    raw_is s es = runs.beat c shown ∙ ap showing es

    abbrev first_by : Bool → Raw
    first_by w = if w then write_of_burst longest up.shape (state.place c) (raw_at up c) else read_burst_of reach (whole_read up.shape (raw_at up c))

    first_is : (w : Bool) → is_sending state c ≡ false → is_raised (up.commands.write c) ≡ w → raw_at down c ≡ first_by w
    first_is w es ew = raw_is false es ∙ ap first_by ew

  -- ---- what was taken above was taken below, or is held

  record Balance (c : ℕ) : Type 0 where
    operations : length (operations_among target up.shape (taken_at up c)) ≤ length (operations_among target down.shape (taken_at down c)) + held c * lanes target down.shape (state.rest c).command.levels.enables
    words : words_owed up c ≤ words_owed down c + held c

  same_lanes : (enables : ℕ) → lanes target up.shape enables ≡ lanes target down.shape enables
  same_lanes enables = ap (λ (w : ℕ). lanes target (record down.shape { word_bytes = w }) enables) (sym same)

  balance : (c : ℕ) → c ≤ end → Balance c
  balance zero fit = record { operations = omega arith; words = omega arith }
  balance (suc c) fit = by_all (is_sending state c) (takes down c) (is_raised (up.commands.write c)) refl refl refl (balance c (omega (arith, fit)))
    where
      nothing_moves : takes up c ≡ false → takes down c ≡ false → state.rest (suc c) ≡ state.rest c → Balance c → Balance (suc c)
      nothing_moves et ed rest was =
          let up_ops = still_ops target up c et in
          let down_ops = still_ops target down c ed in
          let up_asks = still_asks target up c et in
          let down_asks = still_asks target down c ed in
          let ops = was.operations in
          let asks = was.words in
          let left = ap (λ (r : Rest). r.left) rest in
          let more = ap (λ (r : Rest). r.left * lanes target down.shape r.command.levels.enables) rest in
          record { operations = omega (arith, up_ops, down_ops, ops, more); words = omega (arith, up_asks, down_asks, asks, left) }

      by_all : (s d w : Bool) → is_sending state c ≡ s → takes down c ≡ d → is_raised (up.commands.write c) ≡ w → Balance c → Balance (suc c)
      by_all true false w es ed ew was = nothing_moves (above_takes c true false es ed) ed (rest_is c true false false w es ed (above_takes c true false es ed) ew) was
      by_all false false w es ed ew was = nothing_moves (above_takes c false false es ed) ed (rest_is c false false false w es ed (above_takes c false false es ed) ew) was
      by_all true true w es ed ew was =
          let et = above_takes c true true es ed in
          let raw = raw_is c (takes_shows down c ed) true es in
          let far : ℕ = reach (state.rest c).address in
          let kind : is_raised (down.commands.write c) ≡ false = ap (λ (r : Raw). is_raised r.levels.write) raw in
          let count : down.commands.count c ≡ beats_of far (held c) = ap (λ (r : Raw). r.levels.count) raw in
          let enables : down.commands.enables c ≡ (state.rest c).command.levels.enables = ap (λ (r : Raw). r.levels.enables) raw in
          let rest = rest_is c true true false w es ed et ew in
          let left : held (suc c) ≡ held c - far = ap (λ (r : Rest). r.left) rest in
          let wide : held (suc c) * lanes target down.shape (state.rest (suc c)).command.levels.enables ≡ (held c - far) * lanes target down.shape (state.rest c).command.levels.enables = ap (λ (r : Rest). r.left * lanes target down.shape r.command.levels.enables) rest in
          let up_ops = still_ops target up c et in
          let up_asks = still_asks target up c et in
          let down_ops = took_ops target down c ed in
          let down_asks = took_asks target down c ed in
          let brings : length (operations_in target down.shape (marked_at down c)) ≡ beats_of far (held c) * lanes target down.shape (state.rest c).command.levels.enables = read_brings target down c kind ∙ ap (λ n. n * lanes target down.shape (down.commands.enables c)) count ∙ ap (λ e. beats_of far (held c) * lanes target down.shape e) enables in
          let asks = read_asks target down c kind in
          let all = all_there far (held c) in
          let product = times_more (held c) (beats_of far (held c) + (held c - far)) (lanes target down.shape (state.rest c).command.levels.enables) all in
          let split = two_parts (beats_of far (held c)) (held c - far) (lanes target down.shape (state.rest c).command.levels.enables) in
          let ops = was.operations in
          let words = was.words in
          record { operations = omega (arith, up_ops, down_ops, brings, product, split, ops, wide); words = omega (arith, up_asks, down_asks, asks, count, all, words, left) }
      by_all false true true es ed ew was =
          let et = above_takes c false true es ed in
          let raw = first_is c (takes_shows down c ed) true es ew in
          let kind : is_raised (down.commands.write c) ≡ true = ap (λ (r : Raw). is_raised r.levels.write) raw in
          let enables : down.commands.enables c ≡ up.commands.enables c = ap (λ (r : Raw). r.levels.enables) raw in
          let rest = rest_is c false true true true es ed et ew in
          let left : held (suc c) ≡ held c = ap (λ (r : Rest). r.left) rest in
          let wide = ap (λ (r : Rest). r.left * lanes target down.shape r.command.levels.enables) rest in
          let up_ops = took_ops target up c et in
          let up_asks = took_asks target up c et in
          let down_ops = took_ops target down c ed in
          let down_asks = took_asks target down c ed in
          let up_brings = write_brings target up c ew in
          let down_brings = write_brings target down c kind in
          let lane : lanes target up.shape (up.commands.enables c) ≡ lanes target down.shape (down.commands.enables c) = same_lanes (up.commands.enables c) ∙ ap (lanes target down.shape) (sym enables) in
          let up_none = write_asks target up c ew in
          let down_none = write_asks target down c kind in
          let ops = was.operations in
          let words = was.words in
          record { operations = omega (arith, up_ops, down_ops, up_brings, down_brings, lane, ops, wide); words = omega (arith, up_asks, down_asks, up_none, down_none, words, left) }
      by_all false true false es ed ew was =
          let et = above_takes c false true es ed in
          let raw = first_is c (takes_shows down c ed) false es ew in
          let far : ℕ = reach (byte_address up.shape (up.commands.address c)) in
          let n : ℕ = up.commands.count c in
          let kind : is_raised (down.commands.write c) ≡ false = ap (λ (r : Raw). is_raised r.levels.write) raw in
          let count : down.commands.count c ≡ beats_of far n = ap (λ (r : Raw). r.levels.count) raw in
          let enables : down.commands.enables c ≡ up.commands.enables c = ap (λ (r : Raw). r.levels.enables) raw in
          let rest = rest_is c false true true false es ed et ew in
          let left : held (suc c) ≡ n - far = ap (λ (r : Rest). r.left) rest in
          let wide : held (suc c) * lanes target down.shape (state.rest (suc c)).command.levels.enables ≡ (n - far) * lanes target down.shape (up.commands.enables c) = ap (λ (r : Rest). r.left * lanes target down.shape r.command.levels.enables) rest in
          let none = none_held c es in
          let empty : held c * lanes target down.shape (state.rest c).command.levels.enables ≡ 0 = ap (λ k. k * lanes target down.shape (state.rest c).command.levels.enables) none ∙ (omega arith) in
          let up_ops = took_ops target up c et in
          let up_asks = took_asks target up c et in
          let down_ops = took_ops target down c ed in
          let down_asks = took_asks target down c ed in
          let up_brings : length (operations_in target up.shape (marked_at up c)) ≡ n * lanes target down.shape (up.commands.enables c) = read_brings target up c ew ∙ ap (λ k. n * k) (same_lanes (up.commands.enables c)) in
          let down_brings : length (operations_in target down.shape (marked_at down c)) ≡ beats_of far n * lanes target down.shape (up.commands.enables c) = read_brings target down c kind ∙ ap (λ k. k * lanes target down.shape (down.commands.enables c)) count ∙ ap (λ e. beats_of far n * lanes target down.shape e) enables in
          let up_words = read_asks target up c ew in
          let down_words = read_asks target down c kind in
          let all = all_there far n in
          let product = times_more n (beats_of far n + (n - far)) (lanes target down.shape (up.commands.enables c)) all in
          let split = two_parts (beats_of far n) (n - far) (lanes target down.shape (up.commands.enables c)) in
          let ops = was.operations in
          let words = was.words in
          record { operations = omega (arith, up_ops, down_ops, up_brings, down_brings, product, split, ops, wide, empty); words = omega (arith, up_asks, down_asks, up_words, down_words, count, all, words, left, none) }

  pub cut_leads : LeadsDown target up down held most end
  cut_leads = record {
    few = few;
    shown = λ c fit shown. by_sending c shown (is_sending state c) refl;
    fewer = λ c fit none took. fewer c none took (is_sending state c) refl;
    stays = λ c fit none still. stays c none still (is_sending state c) refl;
    taken = λ c fit took. taken c took (is_sending state c) refl;
    stands = λ c fit some. (let sending : is_sending state c ≡ true = grind (arith, tests, some) in runs.shown c ∙ ap (λ b. if b then true else shows up.commands.signals c) sending);
    through = λ c fit none. (let ops = (balance c fit).operations in let empty : held c * lanes target down.shape (state.rest c).command.levels.enables ≡ 0 = ap (λ k. k * lanes target down.shape (state.rest c).command.levels.enables) none ∙ (omega arith) in omega (arith, ops, empty));
    asked = λ c fit none. (let words = (balance c fit).words in omega (arith, words, none));
    words = λ c fit. ap is_raised (runs.valid c);
  }
    where
      by_sending : (c : ℕ) → IsTrue (shows up.commands.signals c) → (s : Bool) → is_sending state c ≡ s → IsTrue (shows down.commands.signals c)
      by_sending c shown true es = runs.shown c ∙ ap (λ b. if b then true else shows up.commands.signals c) es
      by_sending c shown false es = runs.shown c ∙ ap (λ b. if b then true else shows up.commands.signals c) es ∙ shown

      fewer : (c : ℕ) → IsFalse (takes up c) → IsTrue (takes down c) → (s : Bool) → is_sending state c ≡ s → held (suc c) < held c
      fewer c none took true es =
          let next = ap (λ (r : Rest). r.left) (rest_is c true true false (is_raised (up.commands.write c)) es took (above_takes c true true es took) refl) in
          let some = ltb-true 0 (held c) es in
          let far = goes (state.rest c).address in
          omega (arith, next, some, far)
      fewer c none took false es = absurd (no_both (takes up c) (above_takes c false true es took) none)

      stays : (c : ℕ) → IsFalse (takes up c) → IsFalse (takes down c) → (s : Bool) → is_sending state c ≡ s → held (suc c) ≤ held c
      stays c none still true es = let next = ap (λ (r : Rest). r.left) (rest_is c true false false (is_raised (up.commands.write c)) es still none refl) in omega (arith, next)
      stays c none still false es = let next = ap (λ (r : Rest). r.left) (rest_is c false false false (is_raised (up.commands.write c)) es still none refl) in omega (arith, next)

      taken : (c : ℕ) → IsTrue (takes up c) → (s : Bool) → is_sending state c ≡ s → (held c ≡ 0) × IsTrue (takes down c)
      taken c took true es = absurd (no_both (takes up c) took (above_takes c true (takes down c) es refl))
      taken c took false es = (none_held c es, sym (above_takes c false (takes down c) es refl) ∙ took)
