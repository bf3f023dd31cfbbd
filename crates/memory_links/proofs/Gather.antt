-- Words that are gathered from the pieces of a wide word, each at its place: their bytes and their codes.
use Rattle.std.proofs.Common.{ℕ, zero, suc, ◌<◌, ◌≤◌, ◌≡◌, ◌+◌, ◌-◌, ◌*◌, ◌/◌, ◌%◌, ◌^◌, Bool, true, false, not, ◌||◌, List, [], ◌∷◌, ◌++◌, if◌then◌else◌, arith, tests, refl, sym, ap, ap₂, subst, ◌∙◌, length, map, filter, flat_map, zip, drop, min, nat_eq, append-nil, mul_assoc, add-mul, mul-le-mul_right, one-mul, div-one, le_refl, zero-mul, mul-div_cancel}
use Rattle.std.specs.List.{list_any}
use Rattle.std.proofs.lemmas.List.{map-append}
use Rattle.std.proofs.lemmas.Nat.{pow-add, div-mul-add}
use Rattle.std.proofs.Math.Arith.{mod-mul}
use Rattle.std.proofs.Math.Nat.{mod-lt, mod-mod, mod-one, mod-eq_of_lt, pow-suc, one-le-pow, div-div-eq-div-mul, add-mul-div_right, add-mul-mod_self_right, mod-add-div'}
use Rattle.histories.specs.History.{numbers}
use Rattle.memory_runs.specs.Views.{Shape}
use Rattle.memory_runs.specs.Views.Kind.{Reads}
use Rattle.memory_runs.specs.Laws.{same_pieces}
use Rattle.memory_runs.specs.Legal.{Word}
use Rattle.memory_runs.specs.Operations.{Beat, operations_of, filled_lanes, filled_of_piece, is_enabled, byte_at, pieces}
use Rattle.memory_runs.specs.Operations.Operation.{Read}
use Rattle.memory_runs.specs.Order.{Answer}
use Rattle.memory_machines.specs.Link.{is_nonempty}
use Rattle.memory_machines.specs.Machines.{operations_of_pieces, piece_of}
use Rattle.memory_links.specs.Splits.{or_first_piece, put_piece, piece_at, IsPut}
use Rattle.memory_links.proofs.Lanes.{offset_of, offsets_read, none_added, byte_of_cut, AllBelow, numbers_below, same_where, map_twice}

-- ---- digits of so many bytes

-- each number is above the ones before it
abbrev pub AreRising : ℕ → List ℕ → Type 0
AreRising from [] = Unit {0}
AreRising from (p ∷ ps) = (from ≤ p) × AreRising (suc p) ps

pub rising_from : (low high : ℕ) (ps : List ℕ) → low ≤ high → AreRising high ps → AreRising low ps
rising_from low high [] h rising = tt
rising_from low high (p ∷ ps) h rising = (let from = rising.0 in omega (arith, from, h), rising.1)

pub numbers_rise : (test : ℕ → Bool) (from count : ℕ) → AreRising from (filter test (numbers from count))
numbers_rise test from zero = tt
numbers_rise test from (suc count) = by_test (test from) (numbers_rise test (suc from) count)
  where
    by_test : (b : Bool) → AreRising (suc from) (filter test (numbers (suc from) count)) → AreRising from (if b then from ∷ filter test (numbers (suc from) count) else filter test (numbers (suc from) count))
    by_test true rest = (le_refl from, rest)
    by_test false rest = rising_from from (suc from) (filter test (numbers (suc from) count)) (omega arith) rest

power_of : (bytes p q : ℕ) → q < p → 256 ^ (p * bytes) ≡ (256 ^ ((p - q - 1) * bytes) * 256 ^ bytes) * 256 ^ (q * bytes)
power_of bytes p q h =
    let one = one-mul bytes in
    let first = add-mul ((p - q - 1) + 1) q bytes in
    let second = add-mul (p - q - 1) 1 bytes in
    let whole : ((p - q - 1) + 1) + q ≡ p = omega (arith, h) in
    let same : p * bytes ≡ ((p - q - 1) * bytes + bytes) + q * bytes = ap (λ n. n * bytes) (sym whole) ∙ first ∙ ap (λ n. n + q * bytes) (second ∙ ap (λ n. (p - q - 1) * bytes + n) one) in
    ap (λ n. 256 ^ n) same ∙ pow-add 256 ((p - q - 1) * bytes + bytes) (q * bytes) ∙ ap (λ n. n * 256 ^ (q * bytes)) (pow-add 256 ((p - q - 1) * bytes) bytes)

-- a higher digit leaves the lower ones as they are
higher_digit : (bytes x d p q : ℕ) → q < p → piece_at bytes (x + d * 256 ^ (p * bytes)) q ≡ piece_at bytes x q
higher_digit bytes x d p q h =
    let high = 256 ^ ((p - q - 1) * bytes) in
    let unit = 256 ^ bytes in
    let low = 256 ^ (q * bytes) in
    let parts : d * 256 ^ (p * bytes) ≡ ((d * high) * unit) * low =
    ap (λ n. d * n) (power_of bytes p q h) ∙ sym (mul_assoc d (high * unit) low) ∙ ap (λ n. n * low) (sym (mul_assoc d high unit)) in
    ap (λ n. ((x + n) / low) % unit) parts
    ∙ ap (λ n. n % unit) (add-mul-div_right x ((d * high) * unit) (one-le-pow (q * bytes) 256 (omega arith)))
    ∙ add-mul-mod_self_right (x / low) (d * high) unit

own_digit : (bytes x d p : ℕ) → x < 256 ^ (p * bytes) → d < 256 ^ bytes → piece_at bytes (x + d * 256 ^ (p * bytes)) p ≡ d
own_digit bytes x d p small digit =
    let place = 256 ^ (p * bytes) in
    let turned : x + d * place ≡ d * place + x = omega arith in
    ap (λ n. (n / place) % 256 ^ bytes) turned ∙ ap (λ n. n % 256 ^ bytes) (div-mul-add d place x small) ∙ mod-eq_of_lt digit

abbrev pub AllDigits : ℕ → ℕ → List ℕ → List Word → Type 0
AllDigits bytes whole [] ws = Unit {0}
AllDigits bytes whole (p ∷ ps) [] = Unit {0}
AllDigits bytes whole (p ∷ ps) (w ∷ ws) = (piece_at bytes whole p ≡ w.word % 256 ^ bytes) × AllDigits bytes whole ps ws

pub none_digits : (bytes whole : ℕ) (ps : List ℕ) → AllDigits bytes whole ps []
none_digits bytes whole [] = tt
none_digits bytes whole (p ∷ ps) = tt

-- a piece that is put at one of these places leaves a lower one as it is
put_leaves : (bytes q before piece after : ℕ) (ps : List ℕ) (n : ℕ) → AreRising (suc q) ps → n < length ps → IsPut bytes (drop n ps) before piece after → piece_at bytes after q ≡ piece_at bytes before q
put_leaves bytes q before piece after [] n rising h put = absurd (omega (arith, h))
put_leaves bytes q before piece after (p ∷ ps) zero rising h put = let low = rising.0 in put.1 q (omega (arith, low))
put_leaves bytes q before piece after (p ∷ ps) (suc n) rising h put =
    let above = rising.0 in
    put_leaves bytes q before piece after ps n (rising_from (suc q) (suc p) ps (omega (arith, above)) rising.1) (omega (arith, h)) put

-- with one word more, at the place of its piece
pub digits_push : (bytes from before after : ℕ) (ps : List ℕ) (ws : List Word) (w : Word) → AreRising from ps → length ws < length ps → AllDigits bytes before ps ws →
    IsPut bytes (drop (length ws) ps) before (w.word % 256 ^ bytes) after → AllDigits bytes after ps (ws ++ w ∷ [])
digits_push bytes from before after [] ws w rising h digits put = absurd (omega (arith, h))
digits_push bytes from before after (p ∷ ps) [] w rising h digits put = (put.0, none_digits bytes after ps)
digits_push bytes from before after (p ∷ ps) (v ∷ ws) w rising h digits put = (
  put_leaves bytes p before (w.word % 256 ^ bytes) after ps (length ws) rising.1 (omega (arith, h)) put ∙ digits.0,
  digits_push bytes (suc p) before after ps ws w rising.1 (omega (arith, h)) digits.1 put,
)

-- a piece over what lies below its place is put there
pub piece_is_put : (bytes : ℕ) (ps : List ℕ) (before piece : ℕ) → piece < 256 ^ bytes → IsPut bytes ps before piece (put_piece bytes ps before piece)
piece_is_put bytes [] before piece small = tt
piece_is_put bytes (p ∷ ps) before piece small =
    let place = 256 ^ (p * bytes) in
    let parts : before % place + before / place * place ≡ before = mod-add-div' before place in (
      own_digit bytes (before % place) piece p (mod-lt before (one-le-pow (p * bytes) 256 (omega arith))) small,
      λ q less. higher_digit bytes (before % place) piece p q less ∙ sym (higher_digit bytes (before % place) (before / place) p q less) ∙ ap (λ n. piece_at bytes n q) parts,
    )

-- ---- bytes by lanes

-- the lanes of narrow words, at their places in the wide one
abbrev pub spread : ℕ → (ℕ → List ℕ) → List ℕ → List ℕ
spread bytes lanes ps = flat_map (λ p. map (λ lane. p * bytes + lane) (lanes p)) ps

one_byte : (bytes whole word p lane : ℕ) → lane < bytes → piece_at bytes whole p ≡ word % 256 ^ bytes → byte_at whole (p * bytes + lane) ≡ byte_at word lane
one_byte bytes whole word p lane h digit =
    let none : 0 + lane ≡ lane = omega arith in
    sym (byte_of_cut whole (p * bytes) bytes lane h) ∙ ap (λ n. byte_at n lane) (digit ∙ ap (λ n. n % 256 ^ bytes) (sym (div-one word)))
    ∙ byte_of_cut word 0 bytes lane h ∙ ap (byte_at word) none

pub lane_bytes : (bytes whole : ℕ) (lanes : ℕ → List ℕ) → ((p : ℕ) → AllBelow bytes (lanes p)) → (ps : List ℕ) (ws : List Word) → length ws ≡ length ps → AllDigits bytes whole ps ws →
    map (byte_at whole) (spread bytes lanes ps) ≡ flat_map (λ (x : ℕ × Word). map (byte_at x.1.word) (lanes x.0)) (zip ps ws)
lane_bytes bytes whole lanes below [] [] h digits = refl
lane_bytes bytes whole lanes below [] (w ∷ ws) h digits = absurd (omega (arith, h))
lane_bytes bytes whole lanes below (p ∷ ps) [] h digits = absurd (omega (arith, h))
lane_bytes bytes whole lanes below (p ∷ ps) (w ∷ ws) h digits =
    map-append (byte_at whole) (map (λ lane. p * bytes + lane) (lanes p)) (spread bytes lanes ps)
    ∙ ap₂ (λ x y. x ++ y)
    (map_twice (byte_at whole) (λ lane. p * bytes + lane) (lanes p)
    ∙ same_where bytes (λ lane. byte_at whole (p * bytes + lane)) (byte_at w.word) (λ lane low. one_byte bytes whole w.word p lane low digits.0) (lanes p) (below p))
    (lane_bytes bytes whole lanes below ps ws (omega (arith, h)) digits.1)

-- ---- lanes of the pieces of a word

pub none_of : {A : Type 0} (xs : List A) → is_nonempty xs ≡ false → xs ≡ []
none_of [] h = refl
none_of (x ∷ xs) h = cc

filter_any : (test : ℕ → Bool) (xs : List ℕ) → is_nonempty (filter test xs) ≡ list_any test xs
filter_any test [] = refl
filter_any test (x ∷ xs) = by_test (test x) (filter_any test xs)
  where
    by_test : (b : Bool) → is_nonempty (filter test xs) ≡ list_any test xs → is_nonempty (if b then x ∷ filter test xs else filter test xs) ≡ (b || list_any test xs)
    by_test true rest = refl
    by_test false rest = rest

any_some : (test : ℕ → Bool) (xs : List ℕ) → (b : Bool) → list_any test xs ≡ b → is_nonempty (if b then xs else []) ≡ b
any_some test [] true h = cc
any_some test (x ∷ xs) true h = refl
any_some test xs false h = refl

digit_sum : (a r : ℕ) → r < 2 → (nat_eq r 1 || not (nat_eq a 0)) ≡ not (nat_eq (a * 2 + r) 0)
digit_sum zero zero h = refl
digit_sum zero (suc zero) h = refl
digit_sum (suc a) zero h = grind (arith, tests)
digit_sum (suc a) (suc zero) h = grind (arith, tests)
digit_sum a (suc (suc r)) h = absurd (omega arith)

-- a lane is enabled where the bits from the first lane on aren't all 0
enabled_from : (x count from : ℕ) → list_any (is_enabled x) (numbers from count) ≡ not (nat_eq ((x / 2 ^ from) % 2 ^ count) 0)
enabled_from x zero from = sym (ap (λ n. not (nat_eq n 0)) (mod-one (x / 2 ^ from)))
enabled_from x (suc count) from =
    let y = x / 2 ^ from in
    let half : x / 2 ^ suc from ≡ y / 2 = ap (λ n. x / n) (pow-suc 2 from) ∙ sym (div-div-eq-div-mul x (2 ^ from) 2) in
    let parts : y % 2 ^ suc count ≡ (y / 2 % 2 ^ count) * 2 + y % 2 = ap (λ n. y % n) (pow-suc 2 count) ∙ mod-mul y (one-le-pow count 2 (omega arith)) (omega arith) in
    ap (λ b. nat_eq (y % 2) 1 || b) (enabled_from x count (suc from) ∙ ap (λ n. not (nat_eq (n % 2 ^ count) 0)) half)
    ∙ digit_sum (y / 2 % 2 ^ count) (y % 2) (mod-lt y (omega arith))
    ∙ ap (λ n. not (nat_eq n 0)) (sym parts)

abbrev filled_of : Bool → ℕ → ℕ → List ℕ
filled_of has bytes x = if has then filter (is_enabled x) (numbers 0 bytes) else if list_any (is_enabled x) (numbers 0 bytes) then numbers 0 bytes else []

filled_some : (has : Bool) (bytes x : ℕ) → is_nonempty (filled_of has bytes x) ≡ list_any (is_enabled x) (numbers 0 bytes)
filled_some true bytes x = filter_any (is_enabled x) (numbers 0 bytes)
filled_some false bytes x = any_some (is_enabled x) (numbers 0 bytes) (list_any (is_enabled x) (numbers 0 bytes)) refl

all_below : (n from count : ℕ) → from + count ≤ n → AllBelow n (numbers from count)
all_below n from zero h = tt
all_below n from (suc count) h = (omega (arith, h), all_below n (suc from) count (omega (arith, h)))

filled_below : (has : Bool) (bytes x : ℕ) → AllBelow bytes (filled_of has bytes x)
filled_below true bytes x = numbers_below (is_enabled x) bytes 0 bytes (omega arith)
filled_below false bytes x = by_any (list_any (is_enabled x) (numbers 0 bytes))
  where
    by_any : (b : Bool) → AllBelow bytes (if b then numbers 0 bytes else [])
    by_any true = all_below bytes 0 bytes (omega arith)
    by_any false = tt

lanes_of_pieces : (f : ℕ → List ℕ) (bytes : ℕ) (ns : List ℕ) → map offset_of (flat_map (λ p. map (λ lane. Read (((0 + p * bytes) + lane) % 0)) (f p)) ns) ≡ spread bytes f ns
lanes_of_pieces f bytes [] = refl
lanes_of_pieces f bytes (n ∷ ns) =
    let none : 0 + n * bytes ≡ n * bytes = omega arith in
    map-append offset_of (map (λ lane. Read (((0 + n * bytes) + lane) % 0)) (f n)) _
    ∙ ap₂ (λ x y. x ++ y) (offsets_read (0 + n * bytes) (f n) ∙ ap (λ k. map (λ lane. k + lane) (f n)) none) (lanes_of_pieces f bytes ns)

abbrev pub HasPieces : Type 0
HasPieces = (wide narrow target : Shape) (span : ℕ) → 0 < target.word_bytes → narrow.word_bytes ≡ target.word_bytes → target.word_bytes ≤ wide.word_bytes → (beat : Beat) →
    operations_of wide target span beat ≡ operations_of_pieces wide narrow target span beat

-- the byte enables of a piece
abbrev pub cut_of : ℕ → ℕ → ℕ → ℕ
cut_of bytes enables piece = (enables / 2 ^ (piece * bytes)) % 2 ^ bytes

abbrev pub has_lane_in : ℕ → ℕ → ℕ → Bool
has_lane_in bytes enables piece = not (nat_eq (cut_of bytes enables piece) 0)

-- the pieces that are asked for these byte enables
abbrev pub asked_of : Shape → Shape → ℕ → List ℕ
asked_of wide narrow enables = or_first_piece (filter (has_lane_in narrow.word_bytes enables) (numbers 0 (pieces wide narrow)))

-- and their own byte enables
abbrev pub pieces_by : Shape → Shape → ℕ → List ℕ
pieces_by wide narrow enables = map (cut_of narrow.word_bytes enables) (asked_of wide narrow enables)

abbrev pub answer_by : Word → ℕ → Answer
answer_by given lane = record { tag = 0; byte = byte_at given.word lane; code = given.code }

-- the answers of words by their byte enables
abbrev pub answers_by : Shape → Shape → List ℕ → List Word → List Answer
answers_by shape target es ws = flat_map (λ (x : ℕ × Word). map (answer_by x.1) (filled_lanes shape target x.0)) (zip es ws)

-- the lanes of each of these pieces
abbrev pub HaveLanes : Shape → Shape → ℕ → List ℕ → Type 0
HaveLanes narrow target enables [] = Unit {0}
HaveLanes narrow target enables (p ∷ ps) = (is_nonempty (filled_lanes narrow target (cut_of narrow.word_bytes enables p)) ≡ true) × HaveLanes narrow target enables ps

module _ (law : HasPieces) (wide narrow target : Shape) (some : 0 < narrow.word_bytes) (same : narrow.word_bytes ≡ target.word_bytes)
    (count : ℕ) (one : 0 < count) (whole : wide.word_bytes ≡ count * narrow.word_bytes) where
  abbrev bytes : ℕ
  bytes = narrow.word_bytes

  abbrev lanes_in : ℕ → ℕ → List ℕ
  lanes_in enables piece = filled_lanes narrow target (cut_of bytes enables piece)

  one_word : pieces narrow target ≡ 1
  one_word = ap (λ n. narrow.word_bytes / min narrow.word_bytes n) (sym same) ∙ same_pieces narrow some

  narrow_filled : (enables : ℕ) → filled_lanes narrow target enables ≡ filled_of target.has_enables bytes enables
  narrow_filled enables =
      let least : min narrow.word_bytes target.word_bytes ≡ narrow.word_bytes = omega (arith, same) in
      let none = zero-mul narrow.word_bytes in
      ap (λ n. flat_map (filled_of_piece narrow target enables) (numbers 0 n)) one_word ∙ append-nil _ ∙ rw (least, none) refl

  -- a piece has lanes where its byte enables aren't 0
  pub piece_lanes : (enables piece : ℕ) → is_nonempty (lanes_in enables piece) ≡ has_lane_in bytes enables piece
  piece_lanes enables piece =
      let cut = cut_of bytes enables piece in
      ap is_nonempty (narrow_filled cut) ∙ filled_some target.has_enables bytes cut ∙ enabled_from cut bytes 0
      ∙ ap (λ n. not (nat_eq (n % 2 ^ bytes) 0)) (div-one cut) ∙ ap (λ n. not (nat_eq n 0)) (mod-mod (enables / 2 ^ (piece * bytes)) (2 ^ bytes))

  pub lanes_below : (enables piece : ℕ) → AllBelow bytes (lanes_in enables piece)
  lanes_below enables piece = subst (AllBelow bytes) (sym (narrow_filled (cut_of bytes enables piece))) (filled_below target.has_enables bytes (cut_of bytes enables piece))

  pub piece_count : pieces wide narrow ≡ count
  piece_count =
      let least : min wide.word_bytes narrow.word_bytes ≡ narrow.word_bytes = (let more = mul-le-mul_right narrow.word_bytes one in let unit = one-mul narrow.word_bytes in omega (arith, more, unit, whole)) in
      ap (λ n. wide.word_bytes / n) least ∙ ap (λ n. n / narrow.word_bytes) whole ∙ mul-div_cancel count some

  all_lanes : (enables : ℕ) → filled_lanes wide target enables ≡ spread bytes (lanes_in enables) (numbers 0 (pieces wide narrow))
  all_lanes enables =
      let beat : Beat = record { kind = Reads; address = 0; word = 0; enables = enables } in
      let fits : target.word_bytes ≤ wide.word_bytes = (let more = mul-le-mul_right narrow.word_bytes one in let unit = one-mul narrow.word_bytes in omega (arith, more, unit, whole, same)) in
      sym (none_added (filled_lanes wide target enables)) ∙ sym (offsets_read 0 (filled_lanes wide target enables))
      ∙ ap (map offset_of) (law wide narrow target 0 (subst (λ n. 0 < n) same some) same fits beat)
      ∙ ap (λ n. map offset_of (flat_map (λ piece. operations_of narrow target 0 (piece_of n beat piece)) (numbers 0 (wide.word_bytes / min wide.word_bytes n)))) (sym same)
      ∙ lanes_of_pieces (λ piece. filled_lanes narrow target (cut_of bytes enables piece)) bytes (numbers 0 (pieces wide narrow))

  spread_some : (enables : ℕ) (ns : List ℕ) → spread bytes (lanes_in enables) (filter (has_lane_in bytes enables) ns) ≡ spread bytes (lanes_in enables) ns
  spread_some enables [] = refl
  spread_some enables (n ∷ ns) = by_test (has_lane_in bytes enables n) refl (spread_some enables ns)
    where
      by_test : (b : Bool) → has_lane_in bytes enables n ≡ b → spread bytes (lanes_in enables) (filter (has_lane_in bytes enables) ns) ≡ spread bytes (lanes_in enables) ns →
          spread bytes (lanes_in enables) (if b then n ∷ filter (has_lane_in bytes enables) ns else filter (has_lane_in bytes enables) ns) ≡ map (λ lane. n * bytes + lane) (lanes_in enables n) ++ spread bytes (lanes_in enables) ns
      by_test true e rest = ap (λ l. map (λ lane. n * bytes + lane) (lanes_in enables n) ++ l) rest
      by_test false e rest = rest ∙ ap (λ l. map (λ lane. n * bytes + lane) l ++ spread bytes (lanes_in enables) ns) (sym (none_of (lanes_in enables n) (piece_lanes enables n ∙ e)))

  none_first : (enables count : ℕ) → 0 < count → filter (has_lane_in bytes enables) (numbers 0 count) ≡ [] → has_lane_in bytes enables 0 ≡ false
  none_first enables zero h e = absurd (omega (arith, h))
  none_first enables (suc count) h e = by_test (has_lane_in bytes enables 0) e
    where
      by_test : (b : Bool) → (if b then 0 ∷ filter (has_lane_in bytes enables) (numbers 1 count) else filter (has_lane_in bytes enables) (numbers 1 count)) ≡ [] → b ≡ false
      by_test true f = cc
      by_test false f = refl

  -- the lanes of a word are those of the pieces that are asked
  pub wide_lanes : (enables : ℕ) → filled_lanes wide target enables ≡ spread bytes (lanes_in enables) (asked_of wide narrow enables)
  wide_lanes enables = all_lanes enables ∙ sym (spread_some enables (numbers 0 (pieces wide narrow))) ∙ by_list (filter (has_lane_in bytes enables) (numbers 0 (pieces wide narrow))) refl
    where
      by_list : (l : List ℕ) → filter (has_lane_in bytes enables) (numbers 0 (pieces wide narrow)) ≡ l → spread bytes (lanes_in enables) l ≡ spread bytes (lanes_in enables) (or_first_piece l)
      by_list [] e =
          let first = none_first enables (pieces wide narrow) (let n = piece_count in omega (arith, n, one)) e in
          ap (λ l. map (λ lane. 0 * bytes + lane) l ++ []) (sym (none_of (lanes_in enables 0) (piece_lanes enables 0 ∙ first)))
      by_list (n ∷ ns) e = refl

  pub asked_rise : (enables : ℕ) → AreRising 0 (asked_of wide narrow enables)
  asked_rise enables = by_list (filter (has_lane_in bytes enables) (numbers 0 (pieces wide narrow))) (numbers_rise (has_lane_in bytes enables) 0 (pieces wide narrow))
    where
      by_list : (l : List ℕ) → AreRising 0 l → AreRising 0 (or_first_piece l)
      by_list [] rising = (le_refl 0, tt)
      by_list (n ∷ ns) rising = rising

  pub asks_some : (enables : ℕ) → 0 < length (asked_of wide narrow enables)
  asks_some enables = by_list (filter (has_lane_in bytes enables) (numbers 0 (pieces wide narrow)))
    where
      by_list : (l : List ℕ) → 0 < length (or_first_piece l)
      by_list [] = omega arith
      by_list (n ∷ ns) = omega arith

  filtered_have : (enables : ℕ) (ns : List ℕ) → HaveLanes narrow target enables (filter (has_lane_in bytes enables) ns)
  filtered_have enables [] = tt
  filtered_have enables (n ∷ ns) = by_test (has_lane_in bytes enables n) refl (filtered_have enables ns)
    where
      by_test : (b : Bool) → has_lane_in bytes enables n ≡ b → HaveLanes narrow target enables (filter (has_lane_in bytes enables) ns) → HaveLanes narrow target enables (if b then n ∷ filter (has_lane_in bytes enables) ns else filter (has_lane_in bytes enables) ns)
      by_test true e rest = (piece_lanes enables n ∙ e, rest)
      by_test false e rest = rest

  -- where the word has a lane, each piece that is asked has one
  pub asked_have : (enables : ℕ) → 0 < length (filled_lanes wide target enables) → HaveLanes narrow target enables (asked_of wide narrow enables)
  asked_have enables h = by_list (filter (has_lane_in bytes enables) (numbers 0 (pieces wide narrow))) refl (filtered_have enables (numbers 0 (pieces wide narrow)))
    where
      by_list : (l : List ℕ) → filter (has_lane_in bytes enables) (numbers 0 (pieces wide narrow)) ≡ l → HaveLanes narrow target enables l → HaveLanes narrow target enables (or_first_piece l)
      by_list [] e have =
          let none : length (filled_lanes wide target enables) ≡ 0 =
          ap length (all_lanes enables ∙ sym (spread_some enables (numbers 0 (pieces wide narrow))) ∙ ap (spread bytes (lanes_in enables)) e) in
          absurd (omega (arith, none, h))
      by_list (n ∷ ns) e have = have
