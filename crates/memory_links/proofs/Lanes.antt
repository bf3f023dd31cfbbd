-- The lanes of a narrow beat in the wide word that holds it, and the bytes of words there.
use Rattle.std.proofs.Common.{ℕ, zero, suc, ◌<◌, ◌≤◌, ◌≡◌, ◌+◌, ◌-◌, ◌*◌, ◌/◌, ◌%◌, ◌^◌, Bool, true, false, List, [], ◌∷◌, if◌then◌else◌, arith, refl, sym, ap, ap₂, subst, ◌∙◌, length, map, filter, flat_map, min, append-nil, zero-mul, one-mul, mul_assoc, add-mul, mul-le-mul_right}
use Rattle.std.proofs.lemmas.List.{length-map}
use Rattle.std.proofs.lemmas.Nat.{pow-add, div-mul-add, mod-mul-add}
use Rattle.std.proofs.Math.Arith.{mod-mul}
use Rattle.std.proofs.Math.Nat.{mod-zero, mod-lt, div-div-eq-div-mul, pow-suc, one-le-pow, mod-eq_of_lt, mod-eq-sub-div-mul, div-mul-le_self}
use Rattle.histories.specs.History.{numbers}
use Rattle.memory_runs.specs.Views.{Shape}
use Rattle.memory_runs.specs.Views.Kind.{Reads}
use Rattle.memory_runs.specs.Laws.{same_pieces}
use Rattle.memory_runs.specs.Legal.{Word}
use Rattle.memory_runs.specs.Order.{Answer}
use Rattle.memory_runs.specs.Operations.{Beat, Operation, operations_of, filled_lanes, filled_of_piece, is_enabled, byte_at, pieces}
use Rattle.memory_runs.specs.Operations.Operation.{Write, Read}
use Rattle.memory_machines.specs.Link.{Target, bytes_in}
use Rattle.memory_machines.specs.Machines.{MaySelect, LiesInOneWord, select_of}

pub offset_of : Operation → ℕ
offset_of (Write offset byte) = offset
offset_of (Read offset) = offset

pub offsets_read : (from : ℕ) (lanes : List ℕ) → map offset_of (map (λ lane. Read ((from + lane) % 0)) lanes) ≡ map (λ lane. from + lane) lanes
unfolding offset_of
offsets_read from [] = refl
offsets_read from (lane ∷ lanes) = ap₂ (λ x y. x ∷ y) (mod-zero (from + lane)) (offsets_read from lanes)

pub none_added : (lanes : List ℕ) → map (λ lane. 0 + lane) lanes ≡ lanes
none_added [] = refl
none_added (lane ∷ lanes) = let same : 0 + lane ≡ lane = omega arith in ap₂ (λ x y. x ∷ y) same (none_added lanes)

abbrev pub SelectsBeats : Type 0
SelectsBeats = (narrow wide target : Shape) (span : ℕ) → MaySelect narrow wide target → (beat : Beat) → LiesInOneWord narrow target beat.address beat.enables →
    operations_of narrow target span beat ≡ operations_of wide target span (select_of target.word_bytes beat)

-- the lanes of a narrow beat stand in the wide word at its offset
pub lanes_moved : SelectsBeats → (narrow wide target : Shape) → MaySelect narrow wide target → (enables offset : ℕ) → offset + narrow.word_bytes ≤ target.word_bytes → enables < 2 ^ narrow.word_bytes →
    filled_lanes wide target (enables * 2 ^ offset) ≡ map (λ lane. offset + lane) (filled_lanes narrow target enables)
lanes_moved law narrow wide target may enables offset fits few =
    let some = may.some in
    let low : offset % target.word_bytes ≡ offset = mod-eq_of_lt (omega (arith, fits, some)) in
    let beat : Beat = record { kind = Reads; address = offset; word = 0; enables = enables } in
    let lies : LiesInOneWord narrow target offset enables = record { lanes = subst (λ n. n + narrow.word_bytes ≤ target.word_bytes) (sym low) fits; few = few } in
    let same = law narrow wide target 0 may beat lies in
    let place : offset - offset % target.word_bytes ≡ 0 = omega (arith, low) in
    let moved : operations_of wide target 0 (select_of target.word_bytes beat) ≡ map (λ lane. Read ((0 + lane) % 0)) (filled_lanes wide target (enables * 2 ^ offset)) =
    ap₂ (λ a s. map (λ lane. Read ((a + lane) % 0)) (filled_lanes wide target (enables * 2 ^ s))) place low in
    sym (none_added (filled_lanes wide target (enables * 2 ^ offset))) ∙ sym (offsets_read 0 (filled_lanes wide target (enables * 2 ^ offset)))
    ∙ ap (map offset_of) (sym moved) ∙ ap (map offset_of) (sym same) ∙ offsets_read offset (filled_lanes narrow target enables)

-- ---- the bytes of a word that is cut out

low_digit : (b y i k : ℕ) → 0 < b → ((y % b ^ (suc k + i)) / b ^ i) % b ≡ (y / b ^ i) % b
low_digit b y i k positive =
    let low : 0 < b ^ i = one-le-pow i b positive in
    let high : 0 < b ^ suc k = one-le-pow (suc k) b positive in
    let some : 0 < b ^ k = one-le-pow k b positive in
    let parts : y % b ^ (suc k + i) ≡ (y / b ^ i % b ^ suc k) * b ^ i + y % b ^ i = ap (λ n. y % n) (pow-add b (suc k) i) ∙ mod-mul y high low in
    let cut : (y % b ^ (suc k + i)) / b ^ i ≡ y / b ^ i % b ^ suc k = ap (λ n. n / b ^ i) parts ∙ div-mul-add (y / b ^ i % b ^ suc k) (b ^ i) (y % b ^ i) (mod-lt y low) in
    let last : y / b ^ i % b ^ suc k ≡ (y / b ^ i / b % b ^ k) * b + y / b ^ i % b = ap (λ n. y / b ^ i % n) (pow-suc b k) ∙ mod-mul (y / b ^ i) some positive in
    ap (λ n. n % b) (cut ∙ last) ∙ mod-mul-add (y / b ^ i / b % b ^ k) b (y / b ^ i % b) (mod-lt (y / b ^ i) positive)

-- byte `lane` of the bytes from `offset` on
pub byte_of_cut : (word offset bytes lane : ℕ) → lane < bytes → byte_at ((word / 256 ^ offset) % 256 ^ bytes) lane ≡ byte_at word (offset + lane)
byte_of_cut word offset bytes lane h =
    let size : bytes ≡ suc (bytes - lane - 1) + lane = omega arith in
    ap (λ n. ((word / 256 ^ offset % 256 ^ n) / 256 ^ lane) % 256) size ∙ low_digit 256 (word / 256 ^ offset) lane (bytes - lane - 1) (omega arith)
    ∙ ap (λ n. n % 256) (div-div-eq-div-mul word (256 ^ offset) (256 ^ lane)) ∙ ap (λ n. (word / n) % 256) (sym (pow-add 256 offset lane))

-- lanes that lie in a word
abbrev pub AllBelow : ℕ → List ℕ → Type 0
AllBelow n [] = Unit {0}
AllBelow n (x ∷ xs) = (x < n) × AllBelow n xs

pub numbers_below : (test : ℕ → Bool) (n from count : ℕ) → from + count ≤ n → AllBelow n (filter test (numbers from count))
numbers_below test n from zero h = tt
numbers_below test n from (suc count) h = by_test (test from) (numbers_below test n (suc from) count (omega arith))
  where
    by_test : (b : Bool) → AllBelow n (filter test (numbers (suc from) count)) → AllBelow n (if b then from ∷ filter test (numbers (suc from) count) else filter test (numbers (suc from) count))
    by_test true rest = (omega arith, rest)
    by_test false rest = rest

pub narrow_lanes : (narrow target : Shape) → 0 < narrow.word_bytes → narrow.word_bytes ≤ target.word_bytes → target.has_enables ≡ true → (enables : ℕ) →
    filled_lanes narrow target enables ≡ filter (is_enabled enables) (numbers 0 narrow.word_bytes)
narrow_lanes narrow target words smaller has enables =
    let least : min narrow.word_bytes target.word_bytes ≡ narrow.word_bytes = omega arith in
    let self : min narrow.word_bytes narrow.word_bytes ≡ narrow.word_bytes = omega arith in
    let one : pieces narrow target ≡ 1 = ap (λ n. narrow.word_bytes / n) least ∙ ap (λ n. narrow.word_bytes / n) (sym self) ∙ same_pieces narrow words in
    let none = zero-mul narrow.word_bytes in
    ap (λ n. flat_map (filled_of_piece narrow target enables) (numbers 0 n)) one ∙ append-nil _ ∙ rw (has, least, none) refl

pub same_where : {A : Type 0} (n : ℕ) (f g : ℕ → A) → ((x : ℕ) → x < n → f x ≡ g x) → (xs : List ℕ) → AllBelow n xs → map f xs ≡ map g xs
same_where n f g same [] below = refl
same_where n f g same (x ∷ xs) below = ap₂ (λ a b. a ∷ b) (same x below.0) (same_where n f g same xs below.1)

pub map_twice : {A : Type 0} (f : ℕ → A) (g : ℕ → ℕ) (xs : List ℕ) → map f (map g xs) ≡ map (λ x. f (g x)) xs
map_twice f g [] = refl
map_twice f g (x ∷ xs) = ap (λ l. f (g x) ∷ l) (map_twice f g xs)

-- a word of `bytes` bytes, from `offset` on
abbrev pub cut : ℕ → ℕ → Word → Word
cut bytes offset given = record { word = (given.word / 256 ^ offset) % 256 ^ bytes; code = given.code }

-- the answers in the word that is cut out are those in the whole word
pub bytes_moved : SelectsBeats → (target : Target) (narrow wide : Shape) → MaySelect narrow wide target.shape → (upper lower : Beat) (offset : ℕ) (given : Word) → offset + narrow.word_bytes ≤ target.shape.word_bytes →
    upper.enables < 2 ^ narrow.word_bytes → lower.enables ≡ upper.enables * 2 ^ offset → bytes_in target narrow upper (cut narrow.word_bytes offset given) ≡ bytes_in target wide lower given
bytes_moved law target narrow wide may upper lower offset given fits few same =
    let f : ℕ → Answer = λ lane. record { tag = 0; byte = byte_at given.word lane; code = given.code } in
    let lanes = narrow_lanes narrow target.shape may.some (omega (arith, fits)) may.enables upper.enables in
    same_where {A = Answer} narrow.word_bytes (λ lane. record { tag = 0; byte = byte_at ((given.word / 256 ^ offset) % 256 ^ narrow.word_bytes) lane; code = given.code }) (λ lane. f (offset + lane))
    (λ lane h. ap (λ b. record { tag = 0; byte = b; code = given.code }) (byte_of_cut given.word offset narrow.word_bytes lane h))
    (filled_lanes narrow target.shape upper.enables) (subst (AllBelow narrow.word_bytes) (sym lanes) (numbers_below (is_enabled upper.enables) narrow.word_bytes 0 narrow.word_bytes (omega arith)))
    ∙ sym (map_twice f (λ lane. offset + lane) (filled_lanes narrow target.shape upper.enables))
    ∙ ap (map f) (sym (ap (filled_lanes wide target.shape) same ∙ lanes_moved law narrow wide target.shape may upper.enables offset fits few))

-- and as many
pub lanes_count : SelectsBeats → (narrow wide target : Shape) → MaySelect narrow wide target → (upper lower : Beat) (offset : ℕ) → offset + narrow.word_bytes ≤ target.word_bytes → upper.enables < 2 ^ narrow.word_bytes →
    lower.enables ≡ upper.enables * 2 ^ offset → length (filled_lanes narrow target upper.enables) ≡ length (filled_lanes wide target lower.enables)
lanes_count law narrow wide target may upper lower offset fits few same =
    sym (ap (λ e. length (filled_lanes wide target e)) same ∙ ap length (lanes_moved law narrow wide target may upper.enables offset fits few) ∙ length-map (filled_lanes narrow target upper.enables) (λ lane. offset + lane))

-- a whole narrow word lies in one wide word
pub lies_within : (x narrow many wide : ℕ) → 0 < narrow → 0 < many → wide ≡ many * narrow → (x - x % narrow) % wide + narrow ≤ wide
lies_within x narrow many wide some more whole =
    let k = x / narrow in
    let multiple : x - x % narrow ≡ k * narrow = (let low = mod-eq-sub-div-mul x narrow in let fits = div-mul-le_self x narrow in omega (arith, low, fits)) in
    let r = k % many in
    let few : r < many = mod-lt k more in
    let parts : k ≡ k / many * many + r = (let low = mod-eq-sub-div-mul k many in let fits = div-mul-le_self k many in omega (arith, low, fits)) in
    let spread : (k / many * many + r) * narrow ≡ k / many * (many * narrow) + r * narrow = add-mul (k / many * many) r narrow ∙ ap (λ n. n + r * narrow) (mul_assoc (k / many) many narrow) in
    let step : (r + 1) * narrow ≤ many * narrow = mul-le-mul_right narrow (omega (arith, few)) in
    let last : (r + 1) * narrow ≡ r * narrow + narrow = add-mul r 1 narrow ∙ ap (λ n. r * narrow + n) (one-mul narrow) in
    let rest : (k * narrow) % (many * narrow) ≡ r * narrow = ap (λ n. (n * narrow) % (many * narrow)) parts ∙ ap (λ n. n % (many * narrow)) spread ∙ mod-mul-add (k / many) (many * narrow) (r * narrow) (omega (arith, step, last, some)) in
    let all : (x - x % narrow) % wide ≡ r * narrow = ap₂ (λ a b. a % b) multiple whole ∙ rest in
    omega (arith, all, step, last, whole)
