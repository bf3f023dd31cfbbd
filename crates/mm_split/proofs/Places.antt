-- The piece at a place of a list of pieces, and the word in which it is put there.
use Rattle.std.proofs.Common.{ℕ, zero, suc, ◌<◌, ◌≤◌, ◌≡◌, ◌+◌, Bool, true, false, ◌&&◌, List, [], ◌∷◌, ◌++◌, length, drop, slice_get, Some, if◌then◌else◌, nat_eq, nat_lt, arith, refl, sym, ap, ap₂, subst, ◌∙◌}
use Rattle.std.proofs.lemmas.List.{length-append}
use Rattle.std.proofs.lemmas.Bool.{eqb-true, eqb-false, eq-eqb, ne_eqb, ltb-true, ltb-false}
use Rattle.histories.specs.History.{one_if, only_if}
use Rattle.mm_split.specs.Pieces.{count_of, stands_at, pick, those}
use Rattle.memory_links.specs.Splits.{piece_at, IsPut}
use Rattle.mm_split.proofs.Masks.{those_count}

-- ---- the piece at a place

get_front : {A : Type 0} (xs ys : List A) (n : ℕ) → n < length xs → slice_get (xs ++ ys) n ≡ slice_get xs n
get_front [] ys n h = absurd (omega (arith, h))
get_front (x ∷ xs) ys zero h = refl
get_front (x ∷ xs) ys (suc n) h = get_front xs ys n (omega (arith, h))

get_end : {A : Type 0} (xs : List A) (x : A) → slice_get (xs ++ x ∷ []) (length xs) ≡ Some x
get_end [] x = refl
get_end (y ∷ xs) x = get_end xs x

passed : (test : ℕ → Bool) (place k : ℕ) (a b : Bool) → b ≡ false → pick (stands_at test place) k ≡ (if a && b then k else pick (stands_at test place) k)
passed test place k true true e = cc
passed test place k true false e = refl
passed test place k false b e = refl

picked_here : (test : ℕ → Bool) (place k : ℕ) → count_of test k ≤ place → place < count_of test k + one_if (test k) → (b : Bool) → test k ≡ b → slice_get (those test (suc k)) place ≡ Some (pick (stands_at test place) (suc k))
picked_here test place k least h false e = absurd (let more : place < count_of test k + one_if false = subst (λ b. place < count_of test k + one_if b) e h in omega (arith, more, least))
picked_here test place k least h true e =
    let more : place < count_of test k + one_if true = subst (λ b. place < count_of test k + one_if b) e h in
    let same : place ≡ count_of test k = omega (arith, more, least) in
    let at : place ≡ length (those test k) = same ∙ sym (those_count test k) in
    ap (λ b. slice_get (those test k ++ only_if b k) place) e
    ∙ ap (slice_get (those test k ++ k ∷ [])) at
    ∙ get_end (those test k) k
    ∙ ap Some (sym (ap₂ (λ a b. if a && b then k else pick (stands_at test place) k) e (eq-eqb (count_of test k) place (sym same))))

picked_step : (test : ℕ → Bool) (place k : ℕ) → place < count_of test (suc k) → (place < count_of test k → slice_get (those test k) place ≡ Some (pick (stands_at test place) k)) →
    (b : Bool) → nat_lt place (count_of test k) ≡ b → slice_get (those test (suc k)) place ≡ Some (pick (stands_at test place) (suc k))
picked_step test place k h rest true low =
    let less = ltb-true place (count_of test k) low in
    let count = those_count test k in
    get_front (those test k) (only_if (test k) k) place (omega (arith, less, count))
    ∙ rest less
    ∙ ap Some (passed test place k (test k) (nat_eq (count_of test k) place) (ne_eqb (count_of test k) place (λ e. absurd (omega (arith, e, less)))))
picked_step test place k h rest false high = picked_here test place k (ltb-false place (count_of test k) high) h (test k) refl

pub picked : (test : ℕ → Bool) (place k : ℕ) → place < count_of test k → slice_get (those test k) place ≡ Some (pick (stands_at test place) k)
picked test place zero h = absurd (omega (arith, h))
picked test place (suc k) h = picked_step test place k h (picked test place k) (nat_lt place (count_of test k)) refl

-- with no piece at the place the first one is picked
pub none_picked : (test : ℕ → Bool) (place k : ℕ) → count_of test k ≤ place → pick (stands_at test place) k ≡ 0
none_picked test place zero h = refl
none_picked test place (suc k) h = by_test (test k) h (none_picked test place k)
  where
    by_test : (b : Bool) → count_of test k + one_if b ≤ place → (count_of test k ≤ place → pick (stands_at test place) k ≡ 0) → (if b && nat_eq (count_of test k) place then k else pick (stands_at test place) k) ≡ 0
    by_test true g rest = rw (ne_eqb (count_of test k) place (λ e. absurd (omega (arith, e, g)))) (rest (omega (arith, g)))
    by_test false g rest = rest (omega (arith, g))

-- ---- the list of the pieces from a place on

drop_all : {A : Type 0} (n : ℕ) (xs : List A) → length xs ≤ n → drop n xs ≡ []
drop_all zero [] h = refl
drop_all zero (x ∷ xs) h = absurd (omega (arith, h))
drop_all (suc n) [] h = refl
drop_all (suc n) (x ∷ xs) h = drop_all n xs (omega (arith, h))

drop_end : {A : Type 0} (n : ℕ) (xs ys : List A) → n ≡ length xs → drop n (xs ++ ys) ≡ ys
drop_end zero [] ys h = refl
drop_end zero (x ∷ xs) ys h = absurd (omega (arith, h))
drop_end (suc n) [] ys h = absurd (omega (arith, h))
drop_end (suc n) (x ∷ xs) ys h = drop_end n xs ys (omega (arith, h))

-- of the first pieces the first one on this list is meant, and none below it; with none on the list none is meant
abbrev pub Lies : (ℕ → Bool) → ℕ → List ℕ → Type 0
Lies meant k [] = (q : ℕ) → q < k → meant q ≡ false
Lies meant k (p ∷ later) = (p < k) × (meant p ≡ true) × ((q : ℕ) → q < p → meant q ≡ false)

-- what stands behind a place that is there doesn't matter
lies_front : (meant : ℕ → Bool) (k : ℕ) (xs ys : List ℕ) (n : ℕ) → n < length xs → Lies meant k (drop n xs) → Lies meant (suc k) (drop n (xs ++ ys))
lies_front meant k [] ys n h lies = absurd (omega (arith, h))
lies_front meant k (x ∷ xs) ys zero h lies = (let low = lies.0 in omega (arith, low), lies.1, lies.2)
lies_front meant k (x ∷ xs) ys (suc n) h lies = lies_front meant k xs ys n (omega (arith, h)) lies

none_meant : (meant : ℕ → Bool) (k : ℕ) (xs : List ℕ) → xs ≡ [] → Lies meant k xs → (q : ℕ) → q < k → meant q ≡ false
none_meant meant k [] e lies = lies
none_meant meant k (x ∷ xs) e lies = cc

none_with : (meant : ℕ → Bool) (k : ℕ) → ((q : ℕ) → q < k → meant q ≡ false) → meant k ≡ false → (q : ℕ) → q < suc k → meant q ≡ false
none_with meant k below here q h = by_same (nat_eq q k) refl
  where
    by_same : (b : Bool) → nat_eq q k ≡ b → meant q ≡ false
    by_same true e = ap meant (eqb-true q k e) ∙ here
    by_same false e = let apart = eqb-false q k e in below q (omega (arith, h, apart))

lies_here : (test : ℕ → Bool) (place k : ℕ) → count_of test k ≤ place → length (those test k) ≡ count_of test k → ((q : ℕ) → q < k → stands_at test place q ≡ false) →
    (a : Bool) → test k ≡ a → (e : Bool) → nat_eq (count_of test k) place ≡ e → Lies (stands_at test place) (suc k) (drop place (those test k ++ only_if (test k) k))
lies_here test place k least count below true is true at =
    let same = eqb-true (count_of test k) place at in
    subst (Lies (stands_at test place) (suc k)) (sym (drop_end place (those test k) (only_if (test k) k) (omega (arith, same, count)) ∙ ap (λ b. only_if b k) is))
    (omega arith, ap₂ (λ x y. x && y) is at, below)
lies_here test place k least count below true is false at =
    let apart = eqb-false (count_of test k) place at in
    let size : length (those test k ++ only_if (test k) k) ≡ length (those test k) + 1 = length-append (those test k) (only_if (test k) k) ∙ ap (λ b. length (those test k) + length (only_if b k)) is in
    subst (Lies (stands_at test place) (suc k)) (sym (drop_all place (those test k ++ only_if (test k) k) (omega (arith, size, apart, least, count))))
    (none_with (stands_at test place) k below (ap₂ (λ x y. x && y) is at))
lies_here test place k least count below false is e at =
    let size : length (those test k ++ only_if (test k) k) ≡ length (those test k) + 0 = length-append (those test k) (only_if (test k) k) ∙ ap (λ b. length (those test k) + length (only_if b k)) is in
    subst (Lies (stands_at test place) (suc k)) (sym (drop_all place (those test k ++ only_if (test k) k) (omega (arith, size, least, count))))
    (none_with (stands_at test place) k below (ap (λ x. x && nat_eq (count_of test k) place) is))

lies_step : (test : ℕ → Bool) (place k : ℕ) → Lies (stands_at test place) k (drop place (those test k)) → (b : Bool) → nat_lt place (count_of test k) ≡ b → Lies (stands_at test place) (suc k) (drop place (those test (suc k)))
lies_step test place k rest true low =
    let less = ltb-true place (count_of test k) low in
    let count = those_count test k in
    lies_front (stands_at test place) k (those test k) (only_if (test k) k) place (omega (arith, less, count)) rest
lies_step test place k rest false high =
    let least = ltb-false place (count_of test k) high in
    let count = those_count test k in
    let below = none_meant (stands_at test place) k (drop place (those test k)) (drop_all place (those test k) (omega (arith, least, count))) rest in
    lies_here test place k least count below (test k) refl (nat_eq (count_of test k) place) refl

pub lies : (test : ℕ → Bool) (place k : ℕ) → Lies (stands_at test place) k (drop place (those test k))
lies test zero zero = λ q h. absurd (omega (arith, h))
lies test (suc place) zero = λ q h. absurd (omega (arith, h))
lies test place (suc k) = lies_step test place k (lies test place k) (nat_lt place (count_of test k)) refl

-- ---- a piece that is put there

-- the piece that is meant is this one, and those below the last one that aren't meant stay
pub put_there : (bytes : ℕ) (meant : ℕ → Bool) (k before piece after : ℕ) (places : List ℕ) → Lies meant k places →
    ((p : ℕ) → p < k → meant p ≡ true → piece_at bytes after p ≡ piece) → ((q : ℕ) → suc q < k → meant q ≡ false → piece_at bytes after q ≡ piece_at bytes before q) → IsPut bytes places before piece after
put_there bytes meant k before piece after [] lies own kept = tt
put_there bytes meant k before piece after (p ∷ later) lies own kept = (own p lies.0 lies.1, λ q less. (let low = lies.0 in kept q (omega (arith, low, less)) (lies.2 q less)))

pub put_front : (bytes before piece after : ℕ) (xs ys : List ℕ) (n : ℕ) → n < length xs → IsPut bytes (drop n xs) before piece after → IsPut bytes (drop n (xs ++ ys)) before piece after
put_front bytes before piece after [] ys n h put = absurd (omega (arith, h))
put_front bytes before piece after (x ∷ xs) ys zero h put = put
put_front bytes before piece after (x ∷ xs) ys (suc n) h put = put_front bytes before piece after xs ys n (omega (arith, h)) put
