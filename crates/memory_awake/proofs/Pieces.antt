-- A beat without a lane that is taken below a splitter is the only piece of the beat above: it is accepted in that cycle, and its word is given as it comes.
use Rattle.std.proofs.Common.{ℕ, zero, suc, ◌<◌, ◌≡◌, ◌+◌, ◌*◌, ◌/◌, ◌%◌, ◌^◌, Bool, true, false, not, ◌&&◌, ◌||◌, List, [], ◌∷◌, if◌then◌else◌, arith, refl, sym, ap, ap₂, ◌∙◌, length, map, filter, nat_eq, nat_lt, IsTrue, IsFalse, Some, slice_get, div-one}
use Rattle.std.proofs.lemmas.Bool.{and_parts, not-true}
use Rattle.std.proofs.Math.Arith.{mod-mul}
use Rattle.std.proofs.Math.Nat.{mod-one, mod-lt, mod-mod, pow-suc, div-div-eq-div-mul, one-le-pow}
use Rattle.std.specs.List.{list_any}
use Rattle.histories.specs.History.{is_raised, numbers}
use Rattle.memory_runs.specs.Views.{Shape}
use Rattle.memory_runs.specs.Operations.{Beat, is_enabled, pieces}
use Rattle.memory_machines.specs.Link.{Port, AreLegalAt, AnswersAreOwed, takes}
use Rattle.memory_machines.specs.Machines.{raw_at, or_first, touched, is_touched, piece_of, beat_of}
use Rattle.memory_links.specs.Drops.{any_lane}
use Rattle.memory_links.specs.Splits.{SplitState, RunsAsSplit, split_at, asked_at, completes, or_first_piece}
use Rattle.memory_awake.specs.Slack.{stirs, brings_next}
use Rattle.memory_awake.specs.Still.{SpentStirs}
use Rattle.memory_awake.proofs.Bits.{no_true}
use Rattle.memory_awake.proofs.SplitCounts.{IsOf, joined_size, mapped, part, there, same_kind, few_come}
use Rattle.memory_awake.proofs.Stirred.{write_stirs, word_stirs}

-- where no lane is enabled, all bits are 0
no_lane : (x count from : ℕ) → IsFalse (list_any (is_enabled x) (numbers from count)) → (x / 2 ^ from) % 2 ^ count ≡ 0
no_lane x zero from none = mod-one (x / 2 ^ from)
no_lane x (suc count) from none =
    let y = x / 2 ^ from in
    let half : x / 2 ^ suc from ≡ y / 2 = ap (λ n. x / n) (pow-suc 2 from) ∙ sym (div-div-eq-div-mul x (2 ^ from) 2) in
    let parts : y % 2 ^ suc count ≡ (y / 2 % 2 ^ count) * 2 + y % 2 = ap (λ n. y % n) (pow-suc 2 count) ∙ mod-mul y (one-le-pow count 2 (omega arith)) (omega arith) in
    let both = neither (nat_eq (y % 2) 1) (list_any (is_enabled x) (numbers (suc from) count)) none in
    let later : y / 2 % 2 ^ count ≡ 0 = ap (λ n. n % 2 ^ count) (sym half) ∙ no_lane x count (suc from) both.1 in
    let first = no_digit (y % 2) (mod-lt y (omega arith)) both.0 in
    omega (arith, parts, later, first)
  where
    neither : (a b : Bool) → IsFalse (a || b) → IsFalse a × IsFalse b
    neither true b f = absurd cc
    neither false b f = (refl, f)

    no_digit : (n : ℕ) → n < 2 → IsFalse (nat_eq n 1) → n ≡ 0
    no_digit zero h f = refl
    no_digit (suc zero) h f = absurd cc
    no_digit (suc (suc n)) h f = absurd (omega (arith, h))

-- a piece that is touched has a lane
record IsPiece (bytes : ℕ) (b : Beat) : Type 0 where
  pub touched_so : IsTrue (is_touched b)
  pub few : b.enables % 2 ^ bytes ≡ b.enables

piece_at : (bytes : ℕ) (beat b : Beat) (ns : List ℕ) (n : ℕ) → slice_get (filter is_touched (map (piece_of bytes beat) ns)) n ≡ Some b → IsPiece bytes b
piece_at bytes beat b [] n at = absurd cc
piece_at bytes beat b (p ∷ ns) n at = by_test (is_touched (piece_of bytes beat p)) refl n at (λ k later. piece_at bytes beat b ns k later)
  where
    few_bits : (piece_of bytes beat p).enables % 2 ^ bytes ≡ (piece_of bytes beat p).enables
    few_bits = mod-mod (beat.enables / 2 ^ (p * bytes)) (2 ^ bytes)

    by_test : (t : Bool) → is_touched (piece_of bytes beat p) ≡ t → (n : ℕ) → slice_get (if t then piece_of bytes beat p ∷ filter is_touched (map (piece_of bytes beat) ns) else filter is_touched (map (piece_of bytes beat) ns)) n ≡ Some b →
        ((k : ℕ) → slice_get (filter is_touched (map (piece_of bytes beat) ns)) k ≡ Some b → IsPiece bytes b) → IsPiece bytes b
    by_test false e n at more = more n at
    by_test true e zero at more = let same : piece_of bytes beat p ≡ b = cc in record { touched_so = ap is_touched (sym same) ∙ e; few = ap (λ (x : Beat). x.enables % 2 ^ bytes) (sym same) ∙ few_bits ∙ ap (λ (x : Beat). x.enables) same }
    by_test true e (suc n) at more = more n at

never_idle : (bytes : ℕ) (b : Beat) → IsPiece bytes b → IsFalse (list_any (is_enabled b.enables) (numbers 0 bytes)) → ⊥
never_idle bytes b piece none =
    let zero_bits : b.enables ≡ 0 = sym piece.few ∙ ap (λ n. n % 2 ^ bytes) (sym (div-one b.enables)) ∙ no_lane b.enables bytes 0 none in
    no_true (sym (ap (λ n. not (nat_eq n 0)) zero_bits) ∙ piece.touched_so)

none_mapped : {A B : Type 0} (f : A → B) (xs : List A) → map f xs ≡ [] → xs ≡ []
none_mapped f [] none = refl
none_mapped f (x ∷ xs) none = absurd cc

-- the only piece of a beat, which has no lane
record IsLone (bytes : ℕ) (beat : Beat) (touches beats : List Beat) (n : ℕ) (b : Beat) : Type 0 where
  pub none : touches ≡ []
  pub size : length beats ≡ 1
  pub place : n ≡ 0
  pub is : b ≡ piece_of bytes beat 0

lone : (narrow : Shape) (needed : Bool) (beat : Beat) (touches : List Beat) (n : ℕ) (b : Beat) → (IsPiece narrow.word_bytes b → ⊥) → (slice_get touches n ≡ Some b → IsPiece narrow.word_bytes b) →
    slice_get (or_first narrow needed beat touches) n ≡ Some b → IsLone narrow.word_bytes beat touches (or_first narrow needed beat touches) n b
lone narrow false beat [] n b not_piece so at = absurd cc
lone narrow true beat [] zero b not_piece so at = let same : piece_of narrow.word_bytes beat 0 ≡ b = cc in record { none = refl; size = refl; place = refl; is = sym same }
lone narrow true beat [] (suc n) b not_piece so at = absurd cc
lone narrow needed beat (t ∷ ts) n b not_piece so at = absurd (not_piece (so at))

module _ (room : ℕ) (up down : Port) (state : SplitState) (run : RunsAsSplit room up down state) (end : ℕ) (legal : AreLegalAt up end) (owed : AnswersAreOwed down end) where
  abbrev bytes : ℕ
  bytes = down.shape.word_bytes

  abbrev beat : ℕ → Beat
  beat c = beat_of up.shape (raw_at up c).levels

  abbrev touches : ℕ → List Beat
  touches c = touched up.shape down.shape (beat c)

  abbrev needed : ℕ → Bool
  needed c = not (is_raised (up.commands.more c)) || not (is_raised (up.commands.write c))

  module _ (c : ℕ) (h : c < end) (taken : IsTrue (takes down c)) (no_lanes : IsFalse (any_lane down.shape (down.commands.enables c))) where
    here : (b : Beat) × (slice_get (or_first down.shape (needed c) (beat c) (touches c)) (state.place c) ≡ Some b) × IsOf (raw_at down c) b
    here = part room up down state run end legal owed c taken

    only : IsLone bytes (beat c) (touches c) (or_first down.shape (needed c) (beat c) (touches c)) (state.place c) here.0
    only = lone down.shape (needed c) (beat c) (touches c) (state.place c) here.0
        (λ piece. never_idle bytes here.0 piece (ap (λ n. list_any (is_enabled n) (numbers 0 bytes)) (sym here.2.enables) ∙ no_lanes))
        (λ at. piece_at bytes (beat c) here.0 (numbers 0 (pieces up.shape down.shape)) (state.place c) at) here.1

    one_part : length (split_at up down c) ≡ 1
    one_part = joined_size (up.commands.tag c) (up.commands.more c) (or_first down.shape (needed c) (beat c) (touches c)) ∙ only.size

    accepted_above : IsTrue (takes up c)
    accepted_above =
        run.accepts c ∙ ap₂ (λ x y. x && y) (there room up down state run end legal owed c taken) (ap₂ (λ n t. nat_eq n 0 || (t && nat_eq (suc (state.place c)) n)) one_part taken ∙ ap (λ p. nat_eq (suc p) 1) only.place)

    kinds : is_raised (down.commands.write c) ≡ is_raised (up.commands.write c)
    kinds = same_kind room up down state run end legal owed c taken

    stirs_so : IsTrue (stirs down c) → IsTrue (stirs up c)
    stirs_so is = by_write (is_raised (down.commands.write c)) refl
      where
        by_write : (w : Bool) → is_raised (down.commands.write c) ≡ w → IsTrue (stirs up c)
        by_write true e = write_stirs up c accepted_above (sym kinds ∙ e)
        by_write false e =
            let comes : IsTrue (brings_next down c) = sym (ap₂ (λ t w. (t && w) || brings_next down c) taken e) ∙ is in
            word_stirs up c (run.valid (suc c) ∙ ap₂ (λ x y. x && y) comes complete)
          where
            set_is : length (state.set (suc c)) ≡ 1
            set_is =
                ap length (run.set_next c ∙ ap₂ (λ t w. if t && not w then asked_at up down c else state.set c) taken e)
                ∙ ap (λ l. length (or_first_piece l)) (none_mapped (piece_of bytes (beat c)) _ (sym (mapped is_touched (piece_of bytes (beat c)) (numbers 0 (pieces up.shape down.shape))) ∙ only.none))

            come_is : state.come (suc c) ≡ 0
            come_is = let few = few_come room up down state run end legal owed c h in let set = set_is in omega (arith, few, set)

            complete : IsTrue (completes state (suc c))
            complete = ap₂ (λ n m. nat_lt m (suc (suc n))) come_is set_is

  pub split_spent : SpentStirs up down end
  split_spent c h spent =
      let parts = and_parts (takes down c && not (any_lane down.shape (down.commands.enables c))) (stirs down c) spent in
      let swallowed = and_parts (takes down c) (not (any_lane down.shape (down.commands.enables c))) parts.0 in
      stirs_so c h swallowed.0 (not-true (any_lane down.shape (down.commands.enables c)) swallowed.1) parts.1
