-- Entries by rising address: what a search finds, and what an entry put in its place leaves.
use Rattle.std.proofs.Common.{◌≡◌, ℕ, ◌+◌, ◌-◌, ◌<◌, ◌≤◌, ◌⊎◌, inl, inr, zero, suc, Bool, true, false, cond, nat_le, List, [], ◌∷◌, Some, None, length, get_or, take, drop, refl, sym, ap, subst, ◌∙◌, arith}
use Rattle.std.specs.Prelude.{insert, find, AllPairs}
use Rattle.std.specs.Bool.{then_some}
use Rattle.std.specs.List.{AllWithin, list_any}
use Rattle.std.specs.Option.{option_map}
use Rattle.std.proofs.lemmas.Bool.{cases_lt}
use Rattle.std.proofs.lemmas.Bool.Decides.{nat_tests}
use Rattle.std.proofs.lemmas.List.{get_or_default}
use Rattle.std.proofs.lemmas.List.Edits.{length-insert, get_or-insert_below, get_or-insert_at, get_or-insert_above}
use Rattle.std.proofs.lemmas.List.Elements.{All-append, All-cons, All-take, All-drop}
use Rattle.std.proofs.lemmas.List.Folds.{list_any_none, list_any_at}
use Rattle.address_map.specs.Maps.{MapEntry, IsRising, meets, holds}

-- what is read past the end of a list of entries
abbrev pub zeros : MapEntry
zeros = record { connection = 0; first = 0; last = 0; reads = false; writes = false }

-- earlier entries end before later ones begin, and each begins before it ends
ends_before : (entries : List MapEntry) (i j : ℕ) (d : MapEntry) → IsRising entries → i < j → j < length entries → (get_or entries i d).last < (get_or entries j d).first
ends_before entries i j d rising h k = rising.apart i j d h k

has_byte : (entries : List MapEntry) (i : ℕ) (d : MapEntry) → IsRising entries → i < length entries → (get_or entries i d).first ≤ (get_or entries i d).last
has_byte entries i d rising h = rising.filled i d h

begins_up : (entries : List MapEntry) (i j : ℕ) (d : MapEntry) → IsRising entries → i ≤ j → j < length entries → (get_or entries i d).first ≤ (get_or entries j d).first
begins_up entries i j d rising h k = by (cases_lt i j)
  where
    by : (i < j) ⊎ (j ≤ i) → (get_or entries i d).first ≤ (get_or entries j d).first
    by (inl less) =
        let a = has_byte entries i d rising (omega arith) in
        let b = ends_before entries i j d rising less k in
        omega arith
    by (inr more) =
        let same : i ≡ j = omega arith in
        subst (λ n. (get_or entries i d).first ≤ (get_or entries n d).first) same (omega arith)

-- entries up to one begin no later than it, and those from one on no earlier
pub begun_up_to : (entries : List MapEntry) (middle address : ℕ) (d : MapEntry) → IsRising entries → middle < length entries → (get_or entries middle d).first ≤ address → AllWithin (λ x. x.first ≤ address) entries 0 (middle + 1)
begun_up_to entries middle address d rising within begins k e low below =
    let same : get_or entries middle d ≡ get_or entries middle e = get_or_default entries middle d e within in
    let first : (get_or entries middle d).first ≡ (get_or entries middle e).first = ap (λ (x : MapEntry). x.first) same in
    let up = begins_up entries k middle e rising (omega arith) within in
    omega arith

pub others_from : (entries : List MapEntry) (middle address : ℕ) (d : MapEntry) → IsRising entries → middle < length entries → address < (get_or entries middle d).first → AllWithin (λ x. address < x.first) entries middle (length entries)
others_from entries middle address d rising within begins k e low below =
    let same : get_or entries middle d ≡ get_or entries middle e = get_or_default entries middle d e within in
    let first : (get_or entries middle d).first ≡ (get_or entries middle e).first = ap (λ (x : MapEntry). x.first) same in
    let up = begins_up entries middle k e rising low below in
    omega arith

-- an entry and two bytes apart from it
misses : (e : MapEntry) (first last : ℕ) → (e.last < first) ⊎ (last < e.first) → meets first last e ≡ false
misses e first last (inl h) = grind (arith, nat_tests)
misses e first last (inr h) = grind (arith, nat_tests)

apart_from : (e : MapEntry) (first last : ℕ) → meets first last e ≡ false → (e.last < first) ⊎ (last < e.first)
apart_from e first last h = by (cases_lt e.last first) (cases_lt last e.first)
  where
    by : (e.last < first) ⊎ (first ≤ e.last) → (last < e.first) ⊎ (e.first ≤ last) → (e.last < first) ⊎ (last < e.first)
    by (inl a) b = inl a
    by (inr a) (inl b) = inr b
    by (inr a) (inr b) = absurd (let t : meets first last e ≡ true = grind (arith, nat_tests) in let no : true ≡ false = sym t ∙ h in cc)

-- where neither neighbour has one of the bytes, no entry has
pub none_meets : (entries : List MapEntry) (next first last : ℕ) (d : MapEntry) → IsRising entries → first ≤ last → next ≤ length entries
    → (0 < next → (get_or entries (next - 1) d).last < first)
    → (next < length entries → last < (get_or entries next d).first)
    → list_any (meets first last) entries ≡ false
none_meets entries next first last d rising order few before after =
    list_any_none (meets first last) entries (λ k e within. subst (λ (x : MapEntry). meets first last x ≡ false) (get_or_default entries k d e within) (misses (get_or entries k d) first last (by k within (cases_lt k next))))
  where
    near : (k : ℕ) → k < length entries → k < next → (k < next - 1) ⊎ (next - 1 ≤ k) → (get_or entries (next - 1) d).last < first → (get_or entries k d).last < first
    near k within h (inl less) end =
        let a = ends_before entries k (next - 1) d rising less (omega arith) in
        let b = has_byte entries (next - 1) d rising (omega arith) in
        omega arith
    near k within h (inr more) end =
        let same : next - 1 ≡ k = omega arith in
        subst (λ n. (get_or entries n d).last < first) same end

    by : (k : ℕ) → k < length entries → (k < next) ⊎ (next ≤ k) → ((get_or entries k d).last < first) ⊎ (last < (get_or entries k d).first)
    by k within (inl h) = inl (near k within h (cases_lt k (next - 1)) (before (omega arith)))
    by k within (inr h) =
        let up = begins_up entries next k d rising h within in
        let start = after (omega arith) in
        inr (omega arith)

-- an entry that has one of the bytes
pub one_meets : (entries : List MapEntry) (k first last : ℕ) (d : MapEntry) → k < length entries → (get_or entries k d).first ≤ last → first ≤ (get_or entries k d).last → list_any (meets first last) entries ≡ true
one_meets entries k first last d within begins ends =
    let yes : meets first last (get_or entries k d) ≡ true = grind (arith, nat_tests) in
    list_any_at (meets first last) entries k d within yes

-- where no entry that has begun has one of the bytes, the next decides
pub next_meets : (entries : List MapEntry) (next first last : ℕ) (d : MapEntry) → IsRising entries → first ≤ last → next ≤ length entries
    → (0 < next → (get_or entries (next - 1) d).last < first)
    → AllWithin (λ x. first < x.first) entries next (length entries) → next < length entries
    → nat_le (get_or entries next d).first last ≡ list_any (meets first last) entries
next_meets entries next first last d rising order few before others within = by (cases_lt last (get_or entries next d).first)
  where
    by : (last < (get_or entries next d).first) ⊎ ((get_or entries next d).first ≤ last) → nat_le (get_or entries next d).first last ≡ list_any (meets first last) entries
    by (inl h) =
        let no : nat_le (get_or entries next d).first last ≡ false = grind (arith, nat_tests) in
        no ∙ sym (none_meets entries next first last d rising order few before (λ w. h))
    by (inr h) =
        let yes : nat_le (get_or entries next d).first last ≡ true = grind (arith, nat_tests) in
        let starts = others next d (omega arith) within in
        let byte = has_byte entries next d rising within in
        yes ∙ sym (one_meets entries next first last d within h (omega arith))

-- a test that no element passes fails at each of them
none_passes : {X : Type 0} (p : X → Bool) (xs : List X) (k : ℕ) (d : X) → list_any p xs ≡ false → k < length xs → p (get_or xs k d) ≡ false
none_passes p xs k d none within = by (p (get_or xs k d)) refl
  where
    by : (b : Bool) → p (get_or xs k d) ≡ b → p (get_or xs k d) ≡ false
    by true e = absurd (let no : true ≡ false = sym (list_any_at p xs k d within e) ∙ none in cc)
    by false e = e

AllPairs-insert : {X : Type 0} (R : X → X → Type 0) (xs : List X) (p : ℕ) (y : X) → p ≤ length xs → AllPairs R xs → AllWithin (λ x. R x y) xs 0 p → AllWithin (λ x. R y x) xs p (length xs) → AllPairs R (insert xs p y)
AllPairs-insert R xs p y few pairs before after i j d less within = by (cases_lt i p) (cases_lt j p)
  where
    long : length (insert xs p y) ≡ length xs + 1
    long = length-insert xs p y few

    at : get_or (insert xs p y) p d ≡ y
    at = get_or-insert_at xs p y d few

    above : (k : ℕ) → p < k → get_or (insert xs p y) k d ≡ get_or xs (k - 1) d
    above k h =
        let next : k - 1 + 1 ≡ k = omega arith in
        subst (λ n. get_or (insert xs p y) n d ≡ get_or xs (k - 1) d) next (get_or-insert_above xs p y d (k - 1) (omega arith) few)

    by : (i < p) ⊎ (p ≤ i) → (j < p) ⊎ (p ≤ j) → R (get_or (insert xs p y) i d) (get_or (insert xs p y) j d)
    by (inl a) (inl b) =
        let l = long in
        rw (get_or-insert_below xs p y d i a few, get_or-insert_below xs p y d j b few) (pairs i j d less (omega arith))
    by (inl a) (inr b) = rw (get_or-insert_below xs p y d i a few) (last_of (cases_lt p j))
      where
        last_of : (p < j) ⊎ (j ≤ p) → R (get_or xs i d) (get_or (insert xs p y) j d)
        last_of (inl h) = let l = long in rw (above j h) (pairs i (j - 1) d (omega arith) (omega arith))
        last_of (inr h) =
            let same : p ≡ j = omega arith in
            subst (λ n. R (get_or xs i d) (get_or (insert xs p y) n d)) same (rw at (before i d (omega arith) a))
    by (inr a) (inl b) = absurd (omega arith)
    by (inr a) (inr b) = let l = long in rw (above j (omega arith)) (first_of_two (cases_lt p i))
      where
        first_of_two : (p < i) ⊎ (i ≤ p) → R (get_or (insert xs p y) i d) (get_or xs (j - 1) d)
        first_of_two (inl h) = let l = long in rw (above i h) (pairs (i - 1) (j - 1) d (omega arith) (omega arith))
        first_of_two (inr h) =
            let same : p ≡ i = omega arith in
            let l = long in
            subst (λ n. R (get_or (insert xs p y) n d) (get_or xs (j - 1) d)) same (rw at (after (j - 1) d (omega arith) (omega arith)))

-- an entry apart from all others, put before those that begin after it
pub IsRising-put : (entries : List MapEntry) (place : ℕ) (e : MapEntry) → IsRising entries → e.first ≤ e.last → place ≤ length entries
    → AllWithin (λ x. x.first ≤ e.first) entries 0 place → AllWithin (λ x. e.first < x.first) entries place (length entries)
    → list_any (meets e.first e.last) entries ≡ false → IsRising (insert entries place e)
IsRising-put entries place e rising filled few begun others none = record {
  filled = All-append (λ x. x.first ≤ x.last) (take place entries) (e ∷ drop place entries) (All-take (λ x. x.first ≤ x.last) place entries rising.filled)
      (All-cons (λ x. x.first ≤ x.last) e (drop place entries) filled (All-drop (λ x. x.first ≤ x.last) place entries rising.filled));
  apart = AllPairs-insert (λ a b. a.last < b.first) entries place e few rising.apart
      (λ k d low below. before k d below)
      (λ k d low below. after k d low below);
}
  where
    before : (k : ℕ) (d : MapEntry) → k < place → (get_or entries k d).last < e.first
    before k d h =
        let first = begun k d (omega arith) h in
        elim (apart_from (get_or entries k d) e.first e.last (none_passes (meets e.first e.last) entries k d none (omega arith))) [ inl a ↦ a | inr b ↦ absurd (omega arith) ]

    after : (k : ℕ) (d : MapEntry) → place ≤ k → k < length entries → e.last < (get_or entries k d).first
    after k d h within =
        let first = others k d h within in
        let bytes = has_byte entries k d rising within in
        elim (apart_from (get_or entries k d) e.first e.last (none_passes (meets e.first e.last) entries k d none within)) [ inl a ↦ absurd (omega arith) | inr b ↦ b ]

-- the first element that passes
find_first : {X : Type 0} (p : X → Bool) (xs : List X) (k : ℕ) (d : X) → k < length xs → p (get_or xs k d) ≡ true → ((j : ℕ) → j < k → p (get_or xs j d) ≡ false) → find p xs ≡ Some (get_or xs k d)
find_first p [] k d within here none = absurd (omega arith)
find_first p (x ∷ xs) zero d within here none = rw here refl
find_first p (x ∷ xs) (suc k) d within here none =
    let first : p x ≡ false = none 0 (omega arith) in
    let rest = find_first p xs k d (omega arith) here (λ j h. none (suc j) (omega arith)) in
    rw first rest

find_none : {X : Type 0} (p : X → Bool) (xs : List X) (d : X) → ((j : ℕ) → j < length xs → p (get_or xs j d) ≡ false) → find p xs ≡ None
find_none p [] d none = refl
find_none p (x ∷ xs) d none =
    let first : p x ≡ false = none 0 (omega arith) in
    let rest = find_none p xs d (λ j h. none (suc j) (omega arith)) in
    rw first rest

lacks : (e : MapEntry) (address : ℕ) → (e.last < address) ⊎ (address < e.first) → holds address e ≡ false
lacks e address (inl h) = grind (arith, nat_tests)
lacks e address (inr h) = grind (arith, nat_tests)

-- entries before the last that has begun end before it begins
ended : (entries : List MapEntry) (next address k : ℕ) (d : MapEntry) → IsRising entries → next ≤ length entries → AllWithin (λ x. x.first ≤ address) entries 0 next → k + 1 < next → holds address (get_or entries k d) ≡ false
ended entries next address k d rising few begun h =
    let end = ends_before entries k (next - 1) d rising (omega arith) (omega arith) in
    let start = begun (next - 1) d (omega arith) (omega arith) in
    lacks (get_or entries k d) address (inl (omega arith))

ahead : (entries : List MapEntry) (next address k : ℕ) (d : MapEntry) → AllWithin (λ x. address < x.first) entries next (length entries) → next ≤ k → k < length entries → holds address (get_or entries k d) ≡ false
ahead entries next address k d others h within = lacks (get_or entries k d) address (inr (others k d h within))

-- the last entry that has begun holds the address, or none does
pub found_last : (entries : List MapEntry) (next address : ℕ) (d : MapEntry) → IsRising entries → next ≤ length entries → 0 < next
    → AllWithin (λ x. x.first ≤ address) entries 0 next → AllWithin (λ x. address < x.first) entries next (length entries)
    → find (holds address) entries ≡ cond (nat_le address (get_or entries (next - 1) d).last) (Some (get_or entries (next - 1) d)) None
found_last entries next address d rising few some begun others = by (cases_lt (get_or entries (next - 1) d).last address)
  where
    start : (get_or entries (next - 1) d).first ≤ address
    start = begun (next - 1) d (omega arith) (omega arith)

    later : (k : ℕ) → k < length entries → (get_or entries (next - 1) d).last < address → next ≤ k + 1 → (k < next) ⊎ (next ≤ k) → holds address (get_or entries k d) ≡ false
    later k within end a (inl b) =
        let same : next - 1 ≡ k = omega arith in
        subst (λ n. holds address (get_or entries n d) ≡ false) same (lacks (get_or entries (next - 1) d) address (inl end))
    later k within end a (inr b) = ahead entries next address k d others b within

    fails : (k : ℕ) → k < length entries → (get_or entries (next - 1) d).last < address → (k + 1 < next) ⊎ (next ≤ k + 1) → holds address (get_or entries k d) ≡ false
    fails k within end (inl a) = ended entries next address k d rising few begun a
    fails k within end (inr a) = later k within end a (cases_lt k next)

    by : ((get_or entries (next - 1) d).last < address) ⊎ (address ≤ (get_or entries (next - 1) d).last)
        → find (holds address) entries ≡ cond (nat_le address (get_or entries (next - 1) d).last) (Some (get_or entries (next - 1) d)) None
    by (inl h) =
        let past : nat_le address (get_or entries (next - 1) d).last ≡ false = grind (arith, nat_tests) in
        let none = find_none (holds address) entries d (λ k within. fails k within h (cases_lt (k + 1) next)) in
        rw past none
    by (inr h) =
        let within : nat_le address (get_or entries (next - 1) d).last ≡ true = grind (arith, nat_tests) in
        let begins = start in
        let yes : holds address (get_or entries (next - 1) d) ≡ true = grind (arith, nat_tests) in
        let found = find_first (holds address) entries (next - 1) d (omega arith) yes (λ j less. ended entries next address j d rising few begun (omega arith)) in
        rw within found

pub found_none : (entries : List MapEntry) (address : ℕ) → AllWithin (λ x. address < x.first) entries 0 (length entries) → find (holds address) entries ≡ None
found_none [] address others = refl
found_none (e ∷ entries) address others = find_none (holds address) (e ∷ entries) e (λ k within. ahead (e ∷ entries) 0 address k e others (omega arith) within)

pub then_some-found : (b : Bool) (e : MapEntry) → then_some b e.connection ≡ option_map (λ (x : MapEntry). x.connection) (cond b (Some e) None)
then_some-found true e = refl
then_some-found false e = refl
