-- How many beats symbols fill or begin is how many beats they came in.
use Rattle.std.proofs.Common.{◌≡◌, ℕ, zero, suc, ◌+◌, ◌-◌, ◌≤◌, ◌<◌, Bool, true, false, cond, ◌||◌, ◌&&◌, List, [], ◌∷◌, ◌++◌, map, length, drop, ◌*◌, length-append, refl, ap, ◌∙◌, arith, eqb}
use Rattle.std.specs.List.{range_with_len, flat_map}
use Rattle.std.proofs.lemmas.List.FromFn.{length-map-range_with_len}
use Rattle.std.proofs.lemmas.Bool.{and_from, and_left, and_right, cond-true, cond-false, eq-eqb, ne_eqb}
use Rattle.stream_runs.specs.View.{Beat, Side}
use Rattle.stream_runs.specs.Symbols.{Symbol, symbol_in, symbols_of, symbol_count}
use Rattle.stream_runs.specs.Awake.{beats_with_room, beats_begun}

or_neither : {a b : Bool} → a ≡ false → b ≡ false → (a || b) ≡ false
or_neither {a} {b} p q = rw (p, q) refl

pub held_within : (side : Side) (beat : Beat) → symbol_count side beat ≤ side.symbols
held_within side beat = by_last (eqb beat.last 1)
  where
    by_last : (b : Bool) → cond b (side.symbols - beat.empty) side.symbols ≤ side.symbols
    by_last true = omega arith
    by_last false = omega arith

-- the room that the last symbol of a beat leaves is none
room_left : (side : Side) (beat : Beat) (k room : ℕ) → k + 1 ≡ symbol_count side beat → room + k + 1 ≡ side.symbols → cond (symbol_in side beat k).last 0 room ≡ 0
room_left side beat k room e r = by_last (eqb beat.last 1) refl
  where
    by_last : (b : Bool) → eqb beat.last 1 ≡ b → cond (eqb beat.last 1 && eqb (k + 1) (symbol_count side beat)) 0 room ≡ 0
    by_last true ends = cond-true _ _ _ (and_from _ _ ends (eq-eqb (k + 1) (symbol_count side beat) e))
    by_last false goes =
        let all : symbol_count side beat ≡ side.symbols = cond-false _ _ _ goes in
        cond-false _ _ _ (and_left _ _ goes) ∙ omega arith

-- a symbol that isn't the last of its beat leaves the room
room_kept : (side : Side) (beat : Beat) (k room : ℕ) → k + 1 < symbol_count side beat → cond (symbol_in side beat k).last 0 room ≡ room
room_kept side beat k room h = cond-false _ _ _ (and_right _ _ (ne_eqb (k + 1) (symbol_count side beat) (λ e. omega arith)))

-- a symbol behind the first one begins no beat
goes_on : (side : Side) (beat : Beat) (xs : List Symbol) (n j : ℕ) → 0 < j → j < symbol_count side beat
    → beats_with_room side.symbols (side.symbols - j) (map (symbol_in side beat) (range_with_len j (suc n)) ++ xs) ≡ beats_with_room side.symbols (cond (symbol_in side beat j).last 0 (side.symbols - j - 1)) (map (symbol_in side beat) (range_with_len (j + 1) n) ++ xs)
goes_on side beat xs n j some e = cond-false _ _ _ (or_neither has_room unmarked)
  where
    unmarked : (symbol_in side beat j).first ≡ false
    unmarked = and_right _ _ (ne_eqb j 0 (λ z. omega arith))

    has_room : eqb (side.symbols - j) 0 ≡ false
    has_room = ne_eqb (side.symbols - j) 0 (λ z. omega (arith, held_within side beat))

rest_begins_none : (side : Side) (beat : Beat) (xs : List Symbol) (n j : ℕ) → 0 < j → j + suc n ≡ symbol_count side beat
    → beats_with_room side.symbols (side.symbols - j) (map (symbol_in side beat) (range_with_len j (suc n)) ++ xs) ≡ beats_with_room side.symbols 0 xs
rest_begins_none side beat xs zero j some e =
    goes_on side beat xs 0 j some (omega arith)
    ∙ ap (λ r. beats_with_room side.symbols r xs) (room_left side beat j (side.symbols - j - 1) (omega arith) (omega (arith, held_within side beat)))
rest_begins_none side beat xs (suc n) j some e =
    let same : side.symbols - j - 1 ≡ side.symbols - (j + 1) = omega arith in
    goes_on side beat xs (suc n) j some (omega arith)
    ∙ (ap (λ r. beats_with_room side.symbols r (map (symbol_in side beat) (range_with_len (j + 1) (suc n)) ++ xs)) (room_kept side beat j (side.symbols - j - 1) (omega arith) ∙ same)
    ∙ rest_begins_none side beat xs n (j + 1) (omega arith) (omega arith))

-- the symbols of a beat, with others behind them, begin one beat more than those others
pub beats_begun-beat : (side : Side) (beat : Beat) (xs : List Symbol) → 0 < symbol_count side beat → beats_begun side.symbols (symbols_of side beat ++ xs) ≡ 1 + beats_begun side.symbols xs
beats_begun-beat side beat xs some = by_count (symbol_count side beat) refl some
  where
    by_count : (n : ℕ) → symbol_count side beat ≡ n → 0 < n → beats_with_room side.symbols 0 (map (symbol_in side beat) (range_with_len 0 n) ++ xs) ≡ 1 + beats_with_room side.symbols 0 xs
    by_count zero e h = absurd (omega arith)
    by_count (suc zero) e h = ap (λ r. 1 + beats_with_room side.symbols r xs) (room_left side beat 0 (side.symbols - 1) (omega arith) (omega (arith, held_within side beat)))
    by_count (suc (suc n)) e h =
        let rest : beats_with_room side.symbols (side.symbols - 1) (map (symbol_in side beat) (range_with_len 1 (suc n)) ++ xs) ≡ beats_with_room side.symbols 0 xs = rest_begins_none side beat xs n 1 (omega arith) (omega arith) in
        ap (λ r. 1 + beats_with_room side.symbols r (map (symbol_in side beat) (range_with_len 1 (suc n)) ++ xs)) (room_kept side beat 0 (side.symbols - 1) (omega arith)) ∙ ap (λ n. 1 + n) rest

-- ---- beats that hold data

-- each of these beats holds a symbol
abbrev pub AllHold : Side → List Beat → Type 0
AllHold side [] = Unit {0}
AllHold side (beat ∷ beats) = (0 < symbol_count side beat) × AllHold side beats

pub hold-append : (side : Side) (xs ys : List Beat) → AllHold side xs → AllHold side ys → AllHold side (xs ++ ys)
hold-append side [] ys p q = q
hold-append side (x ∷ xs) ys p q = (p.0, hold-append side xs ys p.1 q)

pub hold-drop : (side : Side) (xs : List Beat) → AllHold side xs → AllHold side (drop 1 xs)
hold-drop side [] p = tt
hold-drop side (x ∷ xs) p = p.1

pub length_of_beats : (side : Side) (beats : List Beat) → length (flat_map (symbols_of side) beats) ≤ length beats * side.symbols
length_of_beats side [] = omega arith
length_of_beats side (beat ∷ beats) =
    let rest = length_of_beats side beats in
    let first : length (symbols_of side beat) ≡ symbol_count side beat = length-map-range_with_len _ 0 (symbol_count side beat) in
    let least : symbol_count side beat ≤ side.symbols = held_within side beat in
    let split = length-append (symbols_of side beat) (flat_map (symbols_of side) beats) in
    let times : suc (length beats) * side.symbols ≡ side.symbols + length beats * side.symbols = omega arith in
    omega (arith, rest, first, least, split, times)

-- the symbols of beats that hold data fill or begin as many beats
pub beats_begun-all : (side : Side) (beats : List Beat) → AllHold side beats → beats_begun side.symbols (flat_map (symbols_of side) beats) ≡ length beats
beats_begun-all side [] hold = refl
beats_begun-all side (beat ∷ beats) hold = beats_begun-beat side beat (flat_map (symbols_of side) beats) hold.0 ∙ (ap (λ n. 1 + n) (beats_begun-all side beats hold.1) ∙ omega arith)
