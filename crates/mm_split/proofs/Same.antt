-- What is told of pieces that are meant alike.
use Rattle.std.proofs.Common.{ℕ, zero, suc, ◌<◌, ◌≤◌, ◌≡◌, ◌+◌, ◌-◌, ◌*◌, ◌/◌, ◌%◌, ◌^◌, Bool, true, false, ◌&&◌, List, [], ◌∷◌, ◌++◌, length, map, drop, slice_get, Some, if◌then◌else◌, ◌==◌, nat_eq, arith, refl, sym, ap, ap₂, subst, ◌∙◌}
use Rattle.std.proofs.lemmas.Bool.{eqb-true, eqb-false, eq-eqb, ne_eqb}
use Rattle.std.proofs.lemmas.Nat.{pow-add}
use Rattle.std.proofs.Math.Nat.{pow-suc, mod-eq_of_lt}
use Rattle.std.proofs.Math.Pow.{pow_mono}
use Rattle.histories.specs.History.{one_if, only_if}
use Rattle.memory_runs.specs.Operations.{Beat}
use Rattle.memory_machines.specs.Machines.{single, joined}
use Rattle.mm_split.specs.Pieces.{lane, is_marked, mask_of, count_of, stands_at, pick, fill, those, or_first_mask}
use Rattle.memory_links.specs.Splits.{piece_at, IsPut}
use Rattle.mm_split.proofs.Places.{put_front}
use Rattle.mm_split.proofs.Marks.{last_of}
use Rattle.std.proofs.lemmas.List.{length-append}
use Rattle.mm_split.proofs.Masks.{marks, mask_fits}

pub pick_same : (test other : ℕ → Bool) (k : ℕ) → ((j : ℕ) → j < k → test j ≡ other j) → pick test k ≡ pick other k
pick_same test other zero h = refl
pick_same test other (suc k) h = ap₂ (λ b n. if b then k else n) (h k (omega arith)) (pick_same test other k (λ j less. h j (omega (arith, less))))

pub count_same : (test other : ℕ → Bool) (k : ℕ) → ((j : ℕ) → j < k → test j ≡ other j) → count_of test k ≡ count_of other k
count_same test other zero h = refl
count_same test other (suc k) h = ap₂ (λ n b. n + one_if b) (count_same test other k (λ j less. h j (omega (arith, less)))) (h k (omega arith))

pub stands_same : (test other : ℕ → Bool) (place k : ℕ) → ((j : ℕ) → j < k → test j ≡ other j) → (j : ℕ) → j < k → stands_at test place j ≡ stands_at other place j
stands_same test other place k h j less = ap₂ (λ a n. a && nat_eq n place) (h j less) (count_same test other j (λ i low. h i (omega (arith, low, less))))

-- the number of the piece at a place, by its masks
pub number_is : (test : ℕ → Bool) (place k : ℕ) → pick (is_marked (mask_of (stands_at (is_marked (mask_of test k)) place) k)) k ≡ pick (stands_at test place) k
number_is test place k =
    pick_same (is_marked (mask_of (stands_at (is_marked (mask_of test k)) place) k)) (stands_at (is_marked (mask_of test k)) place) k (marks (stands_at (is_marked (mask_of test k)) place) k)
    ∙ pick_same (stands_at (is_marked (mask_of test k)) place) (stands_at test place) k (stands_same (is_marked (mask_of test k)) test place k (marks test k))

pub marked_count : (test : ℕ → Bool) (k : ℕ) → count_of (is_marked (mask_of test k)) k ≡ count_of test k
marked_count test k = count_same (is_marked (mask_of test k)) test k (marks test k)

pub or_first_fits : (test : ℕ → Bool) (k : ℕ) → 1 ≤ k → or_first_mask (mask_of test k) < 2 ^ k
or_first_fits test k some = by_mask (mask_of test k == 0)
  where
    by_mask : (b : Bool) → (if b then 1 else mask_of test k) < 2 ^ k
    by_mask true = let least : 2 ^ 1 ≤ 2 ^ k = pow_mono some in omega (arith, least)
    by_mask false = mask_fits test k

-- ---- bytes

pub byte_power : (m : ℕ) → 2 ^ (m * 8) ≡ 256 ^ m
byte_power zero = let e : 0 * 8 ≡ 0 = omega arith in ap (λ n. 2 ^ n) e
byte_power (suc m) = let e : suc m * 8 ≡ m * 8 + 8 = omega arith in ap (λ n. 2 ^ n) e ∙ pow-add 2 (m * 8) 8 ∙ ap (λ n. n * 256) (byte_power m) ∙ sym (pow-suc 256 m)

pub byte_place : (place bytes : ℕ) → 2 ^ (place * (bytes * 8)) ≡ 256 ^ (place * bytes)
byte_place place bytes = let e : place * (bytes * 8) ≡ place * bytes * 8 = grind (arith) in ap (λ n. 2 ^ n) e ∙ byte_power (place * bytes)

pub byte_lane : (bytes word place : ℕ) → lane (bytes * 8) word place ≡ (word / 256 ^ (place * bytes)) % 256 ^ bytes
byte_lane bytes word place = ap₂ (λ x y. word / x % y) (byte_place place bytes) (byte_power bytes)

-- ---- parts

pub get_map : {A B : Type 0} (f : A → B) (xs : List A) (n : ℕ) (x : A) → slice_get xs n ≡ Some x → slice_get (map f xs) n ≡ Some (f x)
get_map f [] n x e = cc
get_map f (y ∷ ys) zero x e = cc
get_map f (y ∷ ys) (suc n) x e = get_map f ys n x e

same_next : (a b : ℕ) → nat_eq (suc a) (suc b) ≡ nat_eq a b
same_next a b = by_same (nat_eq a b) refl
  where
    by_same : (t : Bool) → nat_eq a b ≡ t → nat_eq (suc a) (suc b) ≡ t
    by_same true e = eq-eqb (suc a) (suc b) (ap suc (eqb-true a b e))
    by_same false e = ne_eqb (suc a) (suc b) (λ s. eqb-false a b e (omega (arith, s)))

-- the part at a place: the last one is joined as the whole is, the others to the next one
pub part_get : (tag last : ℕ) (beats : List Beat) (place : ℕ) (beat : Beat) → slice_get beats place ≡ Some beat → slice_get (joined tag last beats) place ≡ Some (single tag (if nat_eq (suc place) (length beats) then last else 1) beat)
part_get tag last [] place beat e = cc
part_get tag last (b ∷ []) zero beat e = cc
part_get tag last (b ∷ []) (suc place) beat e = cc
part_get tag last (b ∷ next ∷ later) zero beat e = let apart : nat_eq 1 (suc (suc (length later))) ≡ false = ne_eqb 1 (suc (suc (length later))) (λ s. absurd (omega (arith, s))) in rw apart cc
part_get tag last (b ∷ next ∷ later) (suc place) beat e =
    part_get tag last (next ∷ later) place beat e ∙ ap (λ t. Some (single tag (if t then last else 1) beat)) (sym (same_next (suc place) (length (next ∷ later))))

pub joined_count : (tag last : ℕ) (beats : List Beat) → length (joined tag last beats) ≡ length beats
joined_count tag last [] = refl
joined_count tag last (b ∷ []) = refl
joined_count tag last (b ∷ next ∷ later) = ap suc (joined_count tag last (next ∷ later))

abbrev pub chosen : Bool → List ℕ → List ℕ
chosen needed [] = if needed then 0 ∷ [] else []
chosen needed (x ∷ xs) = x ∷ xs

pub chosen_get : (needed : Bool) (xs : List ℕ) (place number : ℕ) → (place < length xs → slice_get xs place ≡ Some number) → (length xs ≡ 0 → number ≡ 0) → place < length (chosen needed xs) → slice_get (chosen needed xs) place ≡ Some number
chosen_get true [] zero number some none h = ap Some (sym (none refl))
chosen_get true [] (suc place) number some none h = absurd (omega (arith, h))
chosen_get false [] place number some none h = absurd (omega (arith, h))
chosen_get needed (x ∷ xs) place number some none h = some h

pub chosen_count : (needed : Bool) (xs : List ℕ) → length (chosen needed xs) ≡ (if length xs == 0 then one_if needed else length xs)
chosen_count true [] = refl
chosen_count false [] = refl
chosen_count needed (x ∷ xs) = rw (ne_eqb (suc (length xs)) 0 (λ e. absurd (omega (arith, e)))) refl

pub fill_same : (test other : ℕ → Bool) (bits word piece k : ℕ) → ((j : ℕ) → j < k → test j ≡ other j) → fill test bits word piece k ≡ fill other bits word piece k
fill_same test other bits word piece zero h = refl
fill_same test other bits word piece (suc k) h =
    ap₂ (λ a low. (if a then piece else lane bits word k) * 2 ^ (k * bits) + low) (h k (omega arith)) (fill_same test other bits word piece k (λ j less. h j (omega (arith, less))))

-- the first pieces of a word that is gathered, by the piece that stands at the place
pub filled_by : (mask place bits word piece whole k : ℕ) → k ≤ whole → fill (is_marked (mask_of (stands_at (is_marked mask) place) whole)) bits word piece k ≡ fill (stands_at (is_marked mask) place) bits word piece k
filled_by mask place bits word piece whole k h =
    fill_same (is_marked (mask_of (stands_at (is_marked mask) place) whole)) (stands_at (is_marked mask) place) bits word piece k (λ j less. marks (stands_at (is_marked mask) place) whole j (omega (arith, less, h)))

-- ---- pieces in bytes

pub piece_small : (bytes piece : ℕ) → piece < 2 ^ (bytes * 8) → piece % 256 ^ bytes ≡ piece
piece_small bytes piece h = mod-eq_of_lt (subst (λ n. piece < n) (byte_power bytes) h)

pub own_piece : (bytes after p piece other : ℕ) (b : Bool) → piece < 2 ^ (bytes * 8) → lane (bytes * 8) after p ≡ (if b then piece else other) → b ≡ true → piece_at bytes after p ≡ piece % 256 ^ bytes
own_piece bytes after p piece other b small is e = sym (byte_lane bytes after p) ∙ is ∙ ap (λ t. if t then piece else other) e ∙ sym (piece_small bytes piece small)

pub kept_piece : (bytes before after q piece : ℕ) (b : Bool) → lane (bytes * 8) after q ≡ (if b then piece else lane (bytes * 8) before q) → b ≡ false → piece_at bytes after q ≡ piece_at bytes before q
kept_piece bytes before after q piece b is e = sym (byte_lane bytes after q) ∙ is ∙ ap (λ t. if t then piece else lane (bytes * 8) before q) e ∙ byte_lane bytes before q

-- with a piece behind the one that comes, the last piece isn't reached
pub low_put : (mask place bytes before piece after whole : ℕ) → 1 ≤ whole → suc place < length (those (is_marked mask) whole) →
    IsPut bytes (drop place (those (is_marked mask) (whole - 1))) before piece after → IsPut bytes (drop place (those (is_marked mask) whole)) before piece after
low_put mask place bytes before piece after whole some h put =
    let test = is_marked mask in
    let last = last_of whole some in
    let split : those test whole ≡ those test (whole - 1) ++ only_if (test (whole - 1)) (whole - 1) = ap (those test) last in
    let size : length (those test whole) ≡ length (those test (whole - 1)) + length (only_if (test (whole - 1)) (whole - 1)) = ap length split ∙ length-append (those test (whole - 1)) (only_if (test (whole - 1)) (whole - 1)) in
    let one = at_most_one (test (whole - 1)) (whole - 1) in
    subst (λ l. IsPut bytes (drop place l) before piece after) (sym split)
    (put_front bytes before piece after (those test (whole - 1)) (only_if (test (whole - 1)) (whole - 1)) place (omega (arith, h, size, one)) put)
  where
    at_most_one : (b : Bool) (x : ℕ) → length (only_if b x) ≤ 1
    at_most_one true x = omega arith
    at_most_one false x = omega arith
