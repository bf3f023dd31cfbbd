-- Maps as footprints are put into them one by one.
use Rattle.std.proofs.Common.{◌≡◌, ℕ, ◌+◌, ◌-◌, ◌<◌, ◌≤◌, ◌⊎◌, inl, inr, zero, suc, Bool, true, false, ◌&&◌, ◌||◌, cond, nat_lt, nat_le, List, [], ◌∷◌, ◌++◌, Option, Some, None, length, get_or, take, refl, sym, ap, subst, ◌∙◌, arith, IsPermutation, length-set}
use Rattle.std.specs.Prelude.{slice_get, slice_set, MatchOption}
use Rattle.std.specs.List.{list_any, filter_map, enumerate_from, cons_option}
use Rattle.std.proofs.lemmas.Bool.{cases_lt}
use Rattle.std.proofs.lemmas.Bool.Decides.{nat_tests}
use Rattle.std.proofs.lemmas.List.{append-nil, take_more, length-take}
use Rattle.std.proofs.lemmas.List.Elements.{filter_map-append}
use Rattle.std.proofs.lemmas.List.Sorted.{IsPermutation-push_more, list_any-IsPermutation}
use Rattle.std.proofs.lemmas.Option.{slice_get_read, slice_get_within, get_or_from_slice_get, same_Some, none-some}
use Rattle.system_tables.specs.declared.tables.EndId.{EndId}
use Rattle.address_map.specs.Ends.{is_same_end, each_once, place_in}
use Rattle.address_map.specs.Footprints.{Footprint, IsFit}
use Rattle.address_map.specs.MapRules.{overlaps, overlaps_earlier, is_misplaced, ends_past_range, breaks, breaks_after, first_true}
use Rattle.address_map.specs.Maps.{MapEntry, IsRising, IsMapOf, AreMapsFor, entry_of, entry_at, entries_of, meets}
use Rattle.address_map.proofs.EndsLemmas.{same_end, is_same_end-refl, one_place, at_place}

-- one more item beside its number
enumerate_from-push : {X : Type 0} (n : ℕ) (xs : List X) (x : X) → enumerate_from n (xs ++ x ∷ []) ≡ enumerate_from n xs ++ (n + length xs, x) ∷ []
enumerate_from-push n [] x = let zero : n ≡ n + 0 = omega arith in ap (λ k. (k, x) ∷ []) zero
enumerate_from-push n (y ∷ xs) x =
    let next : n + 1 + length xs ≡ n + suc (length xs) = omega arith in
    ap (λ l. (n, y) ∷ l) (enumerate_from-push (n + 1) xs x ∙ ap (λ k. enumerate_from (n + 1) xs ++ (k, x) ∷ []) next)

-- one more footprint gives its entry, where it has one here
pub entries_of-push : (host : EndId) (placed : List (Option Footprint)) (f : Option Footprint) → entries_of host (placed ++ f ∷ []) ≡ entries_of host placed ++ cons_option (entry_at host (length placed) f) []
entries_of-push host placed f =
    ap (filter_map (λ numbered. entry_at host numbered.0 numbered.1)) (enumerate_from-push 0 placed f)
    ∙ filter_map-append (λ numbered. entry_at host numbered.0 numbered.1) (enumerate_from 0 placed) ((0 + length placed, f) ∷ [])
    ∙ ap (λ n. entries_of host placed ++ cons_option (entry_at host n f) []) (let e : 0 + length placed ≡ length placed = omega arith in e)

-- a byte of one footprint is a byte of the other, told by their last bytes and by their lengths
meets-overlaps : (f g : Footprint) (n : ℕ) → 1 ≤ f.bytes → 1 ≤ g.bytes → is_same_end g.host f.host ≡ true → meets f.base (f.base + f.bytes - 1) (entry_of n g) ≡ overlaps f g
meets-overlaps f g n some_f some_g same = by (cases_lt g.base (f.base + f.bytes)) (cases_lt f.base (g.base + g.bytes))
  where
    by : (g.base < f.base + f.bytes) ⊎ (f.base + f.bytes ≤ g.base) → (f.base < g.base + g.bytes) ⊎ (g.base + g.bytes ≤ f.base) → meets f.base (f.base + f.bytes - 1) (entry_of n g) ≡ overlaps f g
    by (inl a) (inl b) =
        let le : nat_le g.base (f.base + f.bytes - 1) ≡ true = grind (arith, nat_tests) in
        let ge : nat_le f.base (g.base + g.bytes - 1) ≡ true = grind (arith, nat_tests) in
        let lt : nat_lt f.base (g.base + g.bytes) ≡ true = grind (arith, nat_tests) in
        let gt : nat_lt g.base (f.base + f.bytes) ≡ true = grind (arith, nat_tests) in
        rw (le, ge, same, lt, gt) refl
    by (inl a) (inr b) =
        let le : nat_le g.base (f.base + f.bytes - 1) ≡ true = grind (arith, nat_tests) in
        let ge : nat_le f.base (g.base + g.bytes - 1) ≡ false = grind (arith, nat_tests) in
        let lt : nat_lt f.base (g.base + g.bytes) ≡ false = grind (arith, nat_tests) in
        rw (le, ge, same, lt) refl
    by (inr a) (inl b) =
        let le : nat_le g.base (f.base + f.bytes - 1) ≡ false = grind (arith, nat_tests) in
        let lt : nat_lt f.base (g.base + g.bytes) ≡ true = grind (arith, nat_tests) in
        let gt : nat_lt g.base (f.base + f.bytes) ≡ false = grind (arith, nat_tests) in
        rw (le, same, lt, gt) refl
    by (inr a) (inr b) = absurd (omega arith)

-- the footprints of a list fit
AreFit : List (Option Footprint) → Type 0
AreFit placed = (k : ℕ) (f : Footprint) → slice_get placed k ≡ Some (Some f) → IsFit f

-- what an entry list says of overlap is what the footprints say
any-entries : (f : Footprint) (n : ℕ) (placed : List (Option Footprint)) → 1 ≤ f.bytes → ((k : ℕ) (g : Footprint) → slice_get placed k ≡ Some (Some g) → IsFit g)
    → list_any (meets f.base (f.base + f.bytes - 1)) (filter_map (λ numbered. entry_at f.host numbered.0 numbered.1) (enumerate_from n placed)) ≡ overlaps_earlier placed f
any-entries f n [] some fit = refl
any-entries f n (None ∷ placed) some fit = any-entries f (n + 1) placed some (λ k g at. fit (suc k) g at)
any-entries f n (Some g ∷ placed) some fit =
    entry-first f g n (filter_map (λ numbered. entry_at f.host numbered.0 numbered.1) (enumerate_from (n + 1) placed)) some (fit 0 g refl).some (is_same_end g.host f.host) refl
    ∙ ap (λ b. overlaps f g || b) (any-entries f (n + 1) placed some (λ k h at. fit (suc k) h at))
  where
    entry-first : (f g : Footprint) (n : ℕ) (rest : List MapEntry) → 1 ≤ f.bytes → 1 ≤ g.bytes → (b : Bool) → is_same_end g.host f.host ≡ b
        → list_any (meets f.base (f.base + f.bytes - 1)) (cons_option (cond (is_same_end g.host f.host) (Some (entry_of n g)) None) rest)
        ≡ (overlaps f g || list_any (meets f.base (f.base + f.bytes - 1)) rest)
    entry-first f g n rest some_f some_g true same =
        ap (λ b. list_any (meets f.base (f.base + f.bytes - 1)) (cons_option (cond b (Some (entry_of n g)) None) rest)) same
        ∙ ap (λ b. b || list_any (meets f.base (f.base + f.bytes - 1)) rest) (meets-overlaps f g n some_f some_g same)
    entry-first f g n rest some_f some_g false other =
        ap (λ b. list_any (meets f.base (f.base + f.bytes - 1)) (cons_option (cond b (Some (entry_of n g)) None) rest)) other
        ∙ sym (ap (λ b. (b && nat_lt f.base (g.base + g.bytes) && nat_lt g.base (f.base + f.bytes)) || list_any (meets f.base (f.base + f.bytes - 1)) rest) other)

-- a map says whether a footprint overlaps an earlier one of its host
pub meets_map : (hosts : List EndId) (placed : List (Option Footprint)) (maps : List (List MapEntry)) (place : ℕ) (f : Footprint) (entries : List MapEntry)
    → AreMapsFor hosts placed maps → IsFit f → slice_get hosts place ≡ Some f.host → slice_get maps place ≡ Some entries
    → list_any (meets f.base (f.base + f.bytes - 1)) entries ≡ overlaps_earlier placed f
meets_map hosts placed maps place f entries are fit at_host at_map =
    sym (list_any-IsPermutation (meets f.base (f.base + f.bytes - 1)) (entries_of f.host placed) entries (are.each place f.host entries at_host at_map).same)
    ∙ any-entries f 0 placed fit.some are.fit

-- an item of a list with one more
of_pushed : {X : Type 0} (xs : List X) (y : X) (k : ℕ) (x : X) → slice_get (xs ++ y ∷ []) k ≡ Some x → (slice_get xs k ≡ Some x) ⊎ (y ≡ x)
of_pushed [] y zero x at = inr (same_Some y x at)
of_pushed [] y (suc k) x at = absurd (none-some x at)
of_pushed (z ∷ xs) y zero x at = inl at
of_pushed (z ∷ xs) y (suc k) x at = of_pushed xs y k x at

fit_pushed : (placed : List (Option Footprint)) (f : Option Footprint) → ((k : ℕ) (g : Footprint) → slice_get placed k ≡ Some (Some g) → IsFit g) → ((g : Footprint) → f ≡ Some g → IsFit g)
    → (k : ℕ) (g : Footprint) → slice_get (placed ++ f ∷ []) k ≡ Some (Some g) → IsFit g
fit_pushed placed f before here k g at = elim (of_pushed placed f k (Some g) at) [ inl old ↦ before k g old | inr new ↦ here g new ]

-- a footprint that isn't the host's leaves its map as it is
kept_map : (host : EndId) (placed : List (Option Footprint)) (f : Option Footprint) (entries : List MapEntry) → entry_at host (length placed) f ≡ None → IsMapOf host placed entries → IsMapOf host (placed ++ f ∷ []) entries
kept_map host placed f entries none is = record {
  same = subst (λ (l : List MapEntry). IsPermutation l entries) (sym (entries_of-push host placed f ∙ ap (λ (o : Option MapEntry). entries_of host placed ++ cons_option o []) none ∙ append-nil (entries_of host placed))) is.same;
  rising = is.rising;
}

-- the footprint of a stream leaves the maps as they are
pub AreMapsFor-skip : (hosts : List EndId) (placed : List (Option Footprint)) (maps : List (List MapEntry)) → AreMapsFor hosts placed maps → AreMapsFor hosts (placed ++ None ∷ []) maps
AreMapsFor-skip hosts placed maps are = record {
  fit = fit_pushed placed None are.fit (λ g no. absurd (none-some g no));
  count = are.count;
  each = λ number host entries at_host at_map. kept_map host placed None entries refl (are.each number host entries at_host at_map);
}

-- an item of a list in which one was set
of_set : {X : Type 0} (xs : List X) (i k : ℕ) (x y : X) → slice_get (slice_set xs i y) k ≡ Some x → (k ≡ i) ⊎ (slice_get xs k ≡ Some x)
of_set [] i k x y at = absurd (none-some x at)
of_set (z ∷ xs) zero zero x y at = inl refl
of_set (z ∷ xs) zero (suc k) x y at = inr at
of_set (z ∷ xs) (suc i) zero x y at = inr at
of_set (z ∷ xs) (suc i) (suc k) x y at = elim (of_set xs i k x y at) [ inl same ↦ inl (ap suc same) | inr other ↦ inr other ]

at_set : {X : Type 0} (xs : List X) (i : ℕ) (x y : X) → slice_get (slice_set xs i y) i ≡ Some x → y ≡ x
at_set [] i x y at = absurd (none-some x at)
at_set (z ∷ xs) zero x y at = same_Some y x at
at_set (z ∷ xs) (suc i) x y at = at_set xs i x y at

-- the entry of a footprint in the map of another host
other_entry : (host : EndId) (n : ℕ) (f : Footprint) → is_same_end f.host host ≡ false → entry_at host n (Some f) ≡ None
other_entry host n f other = ap (λ b. cond b (Some (entry_of n f)) None) other

own_entry : (host : EndId) (n : ℕ) (f : Footprint) → is_same_end f.host host ≡ true → entry_at host n (Some f) ≡ Some (entry_of n f)
own_entry host n f own = ap (λ b. cond b (Some (entry_of n f)) None) own

pub AreMapsFor-put : (ends : List EndId) (placed : List (Option Footprint)) (maps : List (List MapEntry)) (place : ℕ) (f : Footprint) (entries new : List MapEntry)
    → AreMapsFor (each_once ends) placed maps → IsFit f → slice_get (each_once ends) place ≡ Some f.host → slice_get maps place ≡ Some entries
    → IsPermutation (entry_of (length placed) f ∷ entries) new → IsRising new → AreMapsFor (each_once ends) (placed ++ Some f ∷ []) (slice_set maps place new)
AreMapsFor-put ends placed maps place f entries new are fit at_host at_map put rising = record {
  fit = fit_pushed placed (Some f) are.fit (λ g same. subst IsFit (same_Some f g same) fit);
  count = length-set maps place new ∙ are.count;
  each = λ number host those at_number at_those. here number host those at_number at_those (is_same_end f.host host) refl;
}
  where
    own : (host : EndId) → is_same_end f.host host ≡ true → IsMapOf host (placed ++ Some f ∷ []) new
    own host same =
        let at_new : slice_get (each_once ends) place ≡ Some host = at_host ∙ ap Some (same_end f.host host same) in
        let before = are.each place host entries at_new at_map in
        record {
          same = subst (λ (l : List MapEntry). IsPermutation l new)
              (sym (entries_of-push host placed (Some f) ∙ ap (λ (o : Option MapEntry). entries_of host placed ++ cons_option o []) (own_entry host (length placed) f same)))
              (IsPermutation-push_more (entries_of host placed) entries new (entry_of (length placed) f) before.same put);
          rising = rising;
        }

    here : (number : ℕ) (host : EndId) (those : List MapEntry) → slice_get (each_once ends) number ≡ Some host → slice_get (slice_set maps place new) number ≡ Some those
        → (b : Bool) → is_same_end f.host host ≡ b → IsMapOf host (placed ++ Some f ∷ []) those
    here number host those at_number at_those true same =
        let one : number ≡ place = one_place ends number place host at_number (at_host ∙ ap Some (same_end f.host host same)) in
        let those_new : new ≡ those = at_set maps place those new (subst (λ n. slice_get (slice_set maps place new) n ≡ Some those) one at_those) in
        subst (IsMapOf host (placed ++ Some f ∷ [])) those_new (own host same)
    here number host those at_number at_those false other =
        elim (of_set maps place number those new at_those) [
          | inl one ↦ absurd (apart number host one at_number other)
          | inr old ↦ kept_map host placed (Some f) those (other_entry host (length placed) f other) (are.each number host those at_number old)
        ]
      where
        apart : (number : ℕ) (host : EndId) → number ≡ place → slice_get (each_once ends) number ≡ Some host → is_same_end f.host host ≡ false → ⊥
        apart number host one at_number other =
            let at_place : slice_get (each_once ends) place ≡ Some host = subst (λ n. slice_get (each_once ends) n ≡ Some host) one at_number in
            let same : f.host ≡ host = same_Some f.host host (sym at_host ∙ at_place) in
            let no : true ≡ false = sym (is_same_end-refl f.host) ∙ subst (λ (e : EndId). is_same_end f.host e ≡ false) (sym same) other in
            cc

-- the first test that is true is the least rule that is broken
pub least_rule : (earlier : List (Option Footprint)) (f : Footprint) (any : Bool) → any ≡ overlaps_earlier earlier f
    → MatchOption (first_true (is_misplaced f) any (ends_past_range f)) ((rule : ℕ) → breaks_after earlier (Some f) rule ≡ false)
    (λ rule. (breaks_after earlier (Some f) rule ≡ true) × ((k : ℕ) → k < rule → breaks_after earlier (Some f) k ≡ false))
least_rule earlier f any is = by (is_misplaced f) any (ends_past_range f) refl is refl
  where
    by : (a b c : Bool) → is_misplaced f ≡ a → b ≡ overlaps_earlier earlier f → ends_past_range f ≡ c
        → MatchOption (first_true a b c) ((rule : ℕ) → breaks_after earlier (Some f) rule ≡ false)
        (λ rule. (breaks_after earlier (Some f) rule ≡ true) × ((k : ℕ) → k < rule → breaks_after earlier (Some f) k ≡ false))
    by true b c ha hb hc = (ha, λ k less. none_before k less)
      where
        none_before : (k : ℕ) → k < 1 → breaks_after earlier (Some f) k ≡ false
        none_before zero less = refl
        none_before (suc k) less = absurd (omega arith)
    by false true c ha hb hc = (sym hb, λ k less. none_before k less)
      where
        none_before : (k : ℕ) → k < 2 → breaks_after earlier (Some f) k ≡ false
        none_before zero less = refl
        none_before (suc zero) less = ha
        none_before (suc (suc k)) less = absurd (omega arith)
    by false false true ha hb hc = (hc, λ k less. none_before k less)
      where
        none_before : (k : ℕ) → k < 3 → breaks_after earlier (Some f) k ≡ false
        none_before zero less = refl
        none_before (suc zero) less = ha
        none_before (suc (suc zero)) less = sym hb
        none_before (suc (suc (suc k))) less = absurd (omega arith)
    by false false false ha hb hc = none
      where
        none : (k : ℕ) → breaks_after earlier (Some f) k ≡ false
        none zero = refl
        none (suc zero) = ha
        none (suc (suc zero)) = sym hb
        none (suc (suc (suc zero))) = hc
        none (suc (suc (suc (suc k)))) = refl

-- the front of a list with its next item
pub take-next : {X : Type 0} (xs : List X) (n : ℕ) (x : X) → slice_get xs n ≡ Some x → take (n + 1) xs ≡ take n xs ++ x ∷ []
take-next xs n x at =
    take_more xs n x (slice_get_within xs n x at) ∙ ap (λ y. take n xs ++ y ∷ []) (get_or_from_slice_get xs n x x at)

length-front : {X : Type 0} (xs : List X) (n : ℕ) (x : X) → slice_get xs n ≡ Some x → length (take n xs) ≡ n
length-front xs n x at = let within = slice_get_within xs n x at in omega (arith, length-take n xs)

-- the map at a host's place
map_at : (hosts : List EndId) (placed : List (Option Footprint)) (maps : List (List MapEntry)) (place : ℕ) (host : EndId) (entries : List MapEntry)
    → AreMapsFor hosts placed maps → slice_get hosts place ≡ Some host → entries ≡ get_or maps place entries → slice_get maps place ≡ Some entries
map_at hosts placed maps place host entries are at value =
    let within = slice_get_within hosts place host at in
    slice_get_read maps (length maps) place entries refl (let count = are.count in omega arith) value

pub put_into : (ends hosts : List EndId) (footprints : List (Option Footprint)) (maps : List (List MapEntry)) (number place : ℕ) (f : Footprint) (e : MapEntry) (entries new : List MapEntry)
    → hosts ≡ each_once ends → slice_get footprints number ≡ Some (Some f) → IsFit f → place_in hosts f.host ≡ Some place → entries ≡ get_or maps place entries
    → AreMapsFor hosts (take number footprints) maps → e ≡ entry_of number f → IsPermutation (e ∷ entries) new → IsRising new
    → AreMapsFor hosts (take (number + 1) footprints) (slice_set maps place new)
put_into ends hosts footprints maps number place f e entries new once at fit is_place value are is put rising =
    let at_host = at_place hosts f.host place is_place in
    let at_map = map_at hosts (take number footprints) maps place f.host entries are at_host value in
    let entry : e ≡ entry_of (length (take number footprints)) f = is ∙ ap (λ n. entry_of n f) (sym (length-front footprints number (Some f) at)) in
    let put_entry : IsPermutation (entry_of (length (take number footprints)) f ∷ entries) new = subst (λ (x : MapEntry). IsPermutation (x ∷ entries) new) entry put in
    let are_once : AreMapsFor (each_once ends) (take number footprints) maps = subst (λ (l : List EndId). AreMapsFor l (take number footprints) maps) once are in
    let host_once : slice_get (each_once ends) place ≡ Some f.host = subst (λ (l : List EndId). slice_get l place ≡ Some f.host) once at_host in
    let done = AreMapsFor-put ends (take number footprints) maps place f entries new are_once fit host_once at_map put_entry rising in
    subst (λ (l : List EndId). AreMapsFor l (take (number + 1) footprints) (slice_set maps place new)) (sym once)
    (subst (λ (l : List (Option Footprint)). AreMapsFor (each_once ends) l (slice_set maps place new)) (sym (take-next footprints number (Some f) at)) done)

-- what the tests of a footprint in the map of its host say of its connection
pub judged : (hosts : List EndId) (footprints : List (Option Footprint)) (maps : List (List MapEntry)) (number place : ℕ) (f : Footprint) (entries : List MapEntry)
    → slice_get footprints number ≡ Some (Some f) → IsFit f → place_in hosts f.host ≡ Some place → entries ≡ get_or maps place entries → AreMapsFor hosts (take number footprints) maps
    → MatchOption (first_true (is_misplaced f) (list_any (meets f.base (f.base + f.bytes - 1)) entries) (ends_past_range f)) ((rule : ℕ) → breaks footprints number rule ≡ false)
    (λ rule. (breaks footprints number rule ≡ true) × ((k : ℕ) → k < rule → breaks footprints number k ≡ false))
judged hosts footprints maps number place f entries at fit is_place value are =
    let at_host = at_place hosts f.host place is_place in
    let at_map = map_at hosts (take number footprints) maps place f.host entries are at_host value in
    let any = meets_map hosts (take number footprints) maps place f entries are fit at_host at_map in
    let here : get_or footprints number None ≡ Some f = get_or_from_slice_get footprints number (Some f) None at in
    subst (λ (o : Option Footprint). MatchOption (first_true (is_misplaced f) (list_any (meets f.base (f.base + f.bytes - 1)) entries) (ends_past_range f)) ((rule : ℕ) → breaks_after (take number footprints) o rule ≡ false)
    (λ rule. (breaks_after (take number footprints) o rule ≡ true) × ((k : ℕ) → k < rule → breaks_after (take number footprints) o k ≡ false))) (sym here)
    (least_rule (take number footprints) f (list_any (meets f.base (f.base + f.bytes - 1)) entries) any)
