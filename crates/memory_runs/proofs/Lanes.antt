-- Lanes and operations of a beat, one by one.
use Rattle.std.proofs.Common.{ℕ, zero, suc, ◌≡◌, ◌*◌, ◌^◌, [], ◌∷◌, ◌++◌, List, Bool, true, false, not, ◌&&◌, ◌||◌, refl, sym, ap, ◌∙◌, append_assoc, append-nil, filter, if◌then◌else◌, min, arith}
use Rattle.std.specs.List.{list_any}
use Rattle.std.proofs.lemmas.Bool.{or_parts}
use Rattle.std.proofs.Math.Nat.{two-pow-succ, pow-suc}
use Rattle.histories.specs.History.{only_if, numbers}
use Rattle.memory_runs.specs.Operations.{is_enabled, filled_of_piece, lanes_of_piece}
use Rattle.memory_runs.specs.Views.{Shape}
use Rattle.memory_runs.specs.Values.{lanes_of}

first_kept : (b : Bool) (items rest : List ℕ) (lane : ℕ) → (items ++ only_if b lane) ++ rest ≡ items ++ (if b then lane ∷ rest else rest)
first_kept true items rest lane = append_assoc items (lane ∷ []) rest
first_kept false items rest lane = ap (λ l. l ++ rest) (append-nil items)

filter_first : (test : ℕ → Bool) (b : Bool) (lane : ℕ) (later : List ℕ) → test lane ≡ b → (if b then lane ∷ filter test later else filter test later) ≡ filter test (lane ∷ later)
filter_first test b lane later e = rw e refl

-- one lane more
pub lane_more : (all : Bool) (enables : ℕ) (items : List ℕ) (lane k : ℕ) →
    (items ++ only_if (all || is_enabled enables lane) lane) ++ lanes_of all enables (numbers (suc lane) k) ≡ items ++ lanes_of all enables (numbers lane (suc k))
lane_more all enables items lane k =
    first_kept (all || is_enabled enables lane) items (lanes_of all enables (numbers (suc lane) k)) lane
    ∙ ap (λ l. items ++ l) (filter_first (λ x. all || is_enabled enables x) (all || is_enabled enables lane) lane (numbers (suc lane) k) refl)

all_kept : (enables : ℕ) (lanes : List ℕ) → lanes_of true enables lanes ≡ lanes
all_kept enables [] = refl
all_kept enables (lane ∷ lanes) = ap (λ l. lane ∷ l) (all_kept enables lanes)

none_kept : (enables : ℕ) (lanes : List ℕ) → list_any (is_enabled enables) lanes ≡ false → filter (is_enabled enables) lanes ≡ []
none_kept enables [] none = refl
none_kept enables (lane ∷ lanes) none =
    let parts = or_parts (is_enabled enables lane) (list_any (is_enabled enables) lanes) none in
    rw parts.0 (none_kept enables lanes parts.1)

by_ends : (has : Bool) (enables : ℕ) (lanes : List ℕ) (any : Bool) → list_any (is_enabled enables) lanes ≡ any →
    (if has then filter (is_enabled enables) lanes else if any then lanes else []) ≡ lanes_of (not has && any) enables lanes
by_ends true enables lanes any e = refl
by_ends false enables lanes true e = sym (all_kept enables lanes)
by_ends false enables lanes false e = sym (none_kept enables lanes e)

-- the lanes that a piece fills
pub piece_is_lanes : (from to : Shape) (enables piece : ℕ) →
    filled_of_piece from to enables piece ≡ lanes_of (not to.has_enables && list_any (is_enabled enables) (lanes_of_piece from to piece)) enables (lanes_of_piece from to piece)
piece_is_lanes from to enables piece = by_ends to.has_enables enables (lanes_of_piece from to piece) (list_any (is_enabled enables) (lanes_of_piece from to piece)) refl

-- a byte is eight bits
pub byte_shift : (lane : ℕ) → 2 ^ (8 * lane) ≡ 256 ^ lane
byte_shift zero = refl
byte_shift (suc lane) =
    let more : 8 * suc lane ≡ suc (suc (suc (suc (suc (suc (suc (suc (8 * lane)))))))) = omega arith in
    let ih = byte_shift lane in
    let one = two-pow-succ (8 * lane) in
    let two = two-pow-succ (suc (8 * lane)) in
    let three = two-pow-succ (suc (suc (8 * lane))) in
    let four = two-pow-succ (suc (suc (suc (8 * lane)))) in
    let five = two-pow-succ (suc (suc (suc (suc (8 * lane))))) in
    let six = two-pow-succ (suc (suc (suc (suc (suc (8 * lane)))))) in
    let seven = two-pow-succ (suc (suc (suc (suc (suc (suc (8 * lane))))))) in
    let eight = two-pow-succ (suc (suc (suc (suc (suc (suc (suc (8 * lane)))))))) in
    let large = pow-suc 256 lane in
    ap (λ n. 2 ^ n) more ∙ omega (arith, ih, one, two, three, four, five, six, seven, eight, large)

-- the lanes of a piece, by its size
pub piece_lanes : (from to : Shape) (enables piece size : ℕ) (all : Bool) → size ≡ min from.word_bytes to.word_bytes →
    all ≡ (not to.has_enables && list_any (is_enabled enables) (numbers (piece * size) size)) →
    lanes_of all enables (numbers (piece * size) size) ≡ filled_of_piece from to enables piece
piece_lanes from to enables piece size all same is =
    ap (λ b. lanes_of b enables (numbers (piece * size) size)) is
    ∙ ap (λ s. lanes_of (not to.has_enables && list_any (is_enabled enables) (numbers (piece * s) s)) enables (numbers (piece * s) s)) same
    ∙ sym (piece_is_lanes from to enables piece)
