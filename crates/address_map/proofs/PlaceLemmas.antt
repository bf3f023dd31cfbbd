-- Where an access goes, told by footprints.
use Rattle.std.proofs.Common.{◌≡◌, ◌↔◌, ℕ, ◌+◌, ◌<◌, ◌≤◌, ◌⊎◌, inl, inr, zero, suc, Bool, true, false, cond, nat_le, List, [], ◌∷◌, Option, Some, None, get_or, refl, sym, ap, subst, ◌∙◌, arith}
use Rattle.std.specs.Prelude.{find, slice_get, option_and_then, Contains}
use Rattle.std.specs.List.{filter_map, enumerate_from, cons_option}
use Rattle.std.proofs.lemmas.Bool.{cases_lt}
use Rattle.std.proofs.lemmas.Bool.Decides.{nat_tests}
use Rattle.std.proofs.lemmas.List.Sorted.{Contains-permutation, IsPermutation-sym}
use Rattle.std.proofs.lemmas.Option.{slice_get-get_or, slice_get_within, get_or_from_slice_get, same_Some, none-some}
use Rattle.system_tables.specs.declared.tables.EndId.{EndId}
use Rattle.system_tables.specs.Tables.{SystemTable}
use Rattle.address_map.specs.Ends.{is_same_end}
use Rattle.address_map.specs.Footprints.{Footprint, footprints}
use Rattle.address_map.specs.Maps.{MapEntry, Access, entry_of, entry_at, entries_of, holds, serves, place_of, hosts_of, IsRising, IsMapOf, AreMapsOf, IsPlace}
use Rattle.address_map.proofs.EndsLemmas.{same_end, is_same_end-refl}

-- an element and its place
pub record At {X : Type 0} (xs : List X) (x : X) : Type 0 where
  pub place : ℕ
  pub is : slice_get xs place ≡ Some x

pub contains : {X : Type 0} (xs : List X) (x : X) → At xs x → Contains xs x
contains xs x at = (at.place, slice_get_within xs at.place x at.is, get_or_from_slice_get xs at.place x x at.is)

pub at_contained : {X : Type 0} (xs : List X) (x : X) → Contains xs x → At xs x
at_contained xs x c = record { place = c.0; is = slice_get-get_or xs c.0 x c.1 ∙ ap Some c.2 }

pub later : {X : Type 0} (y : X) (xs : List X) (x : X) → At xs x → At (y ∷ xs) x
later y xs x at = record { place = suc at.place; is = at.is }

-- what a search finds is there and passes, and where something passes it finds something
record Found {X : Type 0} (p : X → Bool) (xs : List X) (x : X) : Type 0 where
  pub there : At xs x
  pub passes : p x ≡ true

found : {X : Type 0} (p : X → Bool) (xs : List X) (x : X) → find p xs ≡ Some x → Found p xs x
found p [] x is = absurd (none-some x is)
found {X} p (y ∷ xs) x is = by (p y) refl is (found p xs x)
  where
    by : (b : Bool) → p y ≡ b → cond (p y) (Some y) (find p xs) ≡ Some x → (find p xs ≡ Some x → Found p xs x) → Found p (y ∷ xs) x
    by true e h rest =
        let same : y ≡ x = same_Some y x (rw e at h) in
        record { there = record { place = 0; is = ap Some same }; passes = subst (λ (z : X). p z ≡ true) same e }
    by false e h rest =
        let more = rest (rw e at h) in
        record { there = later y xs x more.there; passes = more.passes }

something_at : {X : Type 0} (p : X → Bool) (xs : List X) (k : ℕ) (x : X) → slice_get xs k ≡ Some x → p x ≡ true → (y : X) × (find p xs ≡ Some y)
something_at p [] k x is h = absurd (none-some x is)
something_at p (z ∷ xs) zero x is h =
    let same : z ≡ x = same_Some z x is in
    let passes : p z ≡ true = ap p same ∙ h in
    (z, rw passes refl)
something_at {X} p (z ∷ xs) (suc k) x is h = by (p z) refl (something_at p xs k x is h)
  where
    by : (b : Bool) → p z ≡ b → ((y : X) × (find p xs ≡ Some y)) → (y : X) × (cond (p z) (Some z) (find p xs) ≡ Some y)
    by true e rest = (z, rw e refl)
    by false e rest = (rest.0, rw e rest.1)

-- one entry of a map holds an address
at_index : (entries : List MapEntry) (i : ℕ) (a : MapEntry) → slice_get entries i ≡ Some a → get_or entries i a ≡ a
at_index entries i a is = get_or_from_slice_get entries i a a is

holds-bounds : (e : MapEntry) (address : ℕ) → holds address e ≡ true → (e.first ≤ address) × (address ≤ e.last)
holds-bounds e address h = by (cases_lt address e.first) (cases_lt e.last address)
  where
    by : (address < e.first) ⊎ (e.first ≤ address) → (e.last < address) ⊎ (address ≤ e.last) → (e.first ≤ address) × (address ≤ e.last)
    by (inl a) b = absurd (let no : nat_le e.first address ≡ false = grind (arith, nat_tests) in let n : true ≡ false = sym h ∙ rw no refl in cc)
    by (inr a) (inl b) = absurd (let yes : nat_le e.first address ≡ true = grind (arith, nat_tests) in let no : nat_le address e.last ≡ false = grind (arith, nat_tests) in let n : true ≡ false = sym h ∙ rw (yes, no) refl in cc)
    by (inr a) (inr b) = (a, b)

never_both : (entries : List MapEntry) (address i j : ℕ) (a b : MapEntry) → IsRising entries → slice_get entries i ≡ Some a → slice_get entries j ≡ Some b → holds address a ≡ true → holds address b ≡ true → i < j → ⊥
never_both entries address i j a b rising at_a at_b h k less =
    let apart = rising.apart i j a less (slice_get_within entries j b at_b) in
    let first = get_or_from_slice_get entries i a a at_a in
    let second = get_or_from_slice_get entries j b a at_b in
    let ends : a.last < b.first = rw (first, second) at apart in
    let in_a = holds-bounds a address h in
    let in_b = holds-bounds b address k in
    omega (arith, in_a.1, in_b.0)

one_holds : (entries : List MapEntry) (address : ℕ) (a b : MapEntry) → IsRising entries → At entries a → At entries b → holds address a ≡ true → holds address b ≡ true → a ≡ b
one_holds entries address a b rising at_a at_b h k = by (cases_lt at_a.place at_b.place) (cases_lt at_b.place at_a.place)
  where
    by : (at_a.place < at_b.place) ⊎ (at_b.place ≤ at_a.place) → (at_b.place < at_a.place) ⊎ (at_a.place ≤ at_b.place) → a ≡ b
    by (inl less) other = absurd (never_both entries address at_a.place at_b.place a b rising at_a.is at_b.is h k less)
    by (inr more) (inl less) = absurd (never_both entries address at_b.place at_a.place b a rising at_b.is at_a.is k h less)
    by (inr more) (inr less) =
        let same : at_a.place ≡ at_b.place = omega arith in
        same_Some a b (sym at_a.is ∙ ap (slice_get entries) same ∙ at_b.is)

-- an entry is that of a footprint of the host
pub record IsEntry (host : EndId) (n : ℕ) (placed : List (Option Footprint)) (e : MapEntry) : Type 0 where
  pub number : ℕ
  pub footprint : Footprint
  pub there : slice_get placed number ≡ Some (Some footprint)
  pub of_host : footprint.host ≡ host
  pub is : e ≡ entry_of (n + number) footprint

next_entry : (host : EndId) (n : ℕ) (o : Option Footprint) (placed : List (Option Footprint)) (e : MapEntry) → IsEntry host (n + 1) placed e → IsEntry host n (o ∷ placed) e
next_entry host n o placed e entry =
    let number : n + 1 + entry.number ≡ n + suc entry.number = omega arith in
    record { number = suc entry.number; footprint = entry.footprint; there = entry.there; of_host = entry.of_host; is = entry.is ∙ ap (λ m. entry_of m entry.footprint) number }

pub entry_is : (host : EndId) (n : ℕ) (placed : List (Option Footprint)) (e : MapEntry) (k : ℕ) → slice_get (filter_map (λ numbered. entry_at host numbered.0 numbered.1) (enumerate_from n placed)) k ≡ Some e → IsEntry host n placed e
entry_is host n [] e k at = absurd (none-some e at)
entry_is host n (None ∷ placed) e k at = next_entry host n None placed e (entry_is host (n + 1) placed e k at)
entry_is host n (Some f ∷ placed) e k at = by (is_same_end f.host host) refl k at (λ j there. next_entry host n (Some f) placed e (entry_is host (n + 1) placed e j there))
  where
    by : (b : Bool) → is_same_end f.host host ≡ b → (k : ℕ)
        → slice_get (cons_option (cond (is_same_end f.host host) (Some (entry_of n f)) None) (filter_map (λ numbered. entry_at host numbered.0 numbered.1) (enumerate_from (n + 1) placed))) k ≡ Some e
        → ((j : ℕ) → slice_get (filter_map (λ numbered. entry_at host numbered.0 numbered.1) (enumerate_from (n + 1) placed)) j ≡ Some e → IsEntry host n (Some f ∷ placed) e)
        → IsEntry host n (Some f ∷ placed) e
    by true own zero at rest =
        let same : entry_of n f ≡ e = same_Some (entry_of n f) e (rw own at at) in
        let number : n ≡ n + 0 = omega arith in
        record { number = 0; footprint = f; there = refl; of_host = same_end f.host host own; is = sym same ∙ ap (λ m. entry_of m f) number }
    by true own (suc k) at rest = rest k (rw own at at)
    by false other k at rest = rest k (rw other at at)

skip_entry : (host : EndId) (n : ℕ) (o : Option Footprint) (placed : List (Option Footprint)) (e : MapEntry)
    → At (filter_map (λ numbered. entry_at host numbered.0 numbered.1) (enumerate_from (n + 1) placed)) e → At (filter_map (λ numbered. entry_at host numbered.0 numbered.1) (enumerate_from n (o ∷ placed))) e
skip_entry host n o placed e at = by (entry_at host n o)
  where
    by : (first : Option MapEntry) → At (cons_option first (filter_map (λ numbered. entry_at host numbered.0 numbered.1) (enumerate_from (n + 1) placed))) e
    by None = at
    by (Some x) = later x (filter_map (λ numbered. entry_at host numbered.0 numbered.1) (enumerate_from (n + 1) placed)) e at

entry_there : (host : EndId) (n : ℕ) (placed : List (Option Footprint)) (k : ℕ) (f : Footprint) → slice_get placed k ≡ Some (Some f) → f.host ≡ host → At (filter_map (λ numbered. entry_at host numbered.0 numbered.1) (enumerate_from n placed)) (entry_of (n + k) f)
entry_there host n [] k f at of_host = absurd (none-some (Some f) at)
entry_there host n (o ∷ placed) zero f at of_host =
    let first : o ≡ Some f = same_Some o (Some f) at in
    let own : is_same_end f.host host ≡ true = subst (λ (x : EndId). is_same_end f.host x ≡ true) of_host (is_same_end-refl f.host) in
    let number : n ≡ n + 0 = omega arith in
    let entry : entry_at host n o ≡ Some (entry_of n f) = ap (entry_at host n) first ∙ ap (λ b. cond b (Some (entry_of n f)) None) own in
    record { place = 0; is = ap (λ (x : Option MapEntry). slice_get (cons_option x (filter_map (λ numbered. entry_at host numbered.0 numbered.1) (enumerate_from (n + 1) placed))) 0) entry ∙ ap (λ m. Some (entry_of m f)) number }
entry_there host n (o ∷ placed) (suc k) f at of_host =
    let number : n + 1 + k ≡ n + suc k = omega arith in
    subst (λ m. At (filter_map (λ numbered. entry_at host numbered.0 numbered.1) (enumerate_from n (o ∷ placed))) (entry_of m f)) number
    (skip_entry host n o placed (entry_of (n + 1 + k) f) (entry_there host (n + 1) placed k f at of_host))

-- an access goes to what is found, if it serves it
goes : (o : Option MapEntry) (access : Access) (connection : ℕ) → option_and_then (λ e. cond (serves access e) (Some e.connection) None) o ≡ Some connection
    → (e : MapEntry) × (o ≡ Some e) × (serves access e ≡ true) × (e.connection ≡ connection)
goes None access connection is = absurd (none-some connection is)
goes (Some e) access connection is = by (serves access e) refl is
  where
    by : (b : Bool) → serves access e ≡ b → cond (serves access e) (Some e.connection) None ≡ Some connection → (x : MapEntry) × (Some e ≡ Some x) × (serves access x ≡ true) × (x.connection ≡ connection)
    by true h g = (e, refl, h, same_Some e.connection connection (rw h at g))
    by false h g = absurd (none-some connection (rw h at g))

holds-entry : (n address : ℕ) (f : Footprint) → f.base ≤ address → address < f.base + f.bytes → holds address (entry_of n f) ≡ true
holds-entry n address f low high = grind (arith, nat_tests)

-- an entry of a map is that of a footprint of its host
pub of_map : (host : EndId) (placed : List (Option Footprint)) (entries : List MapEntry) (e : MapEntry) → IsMapOf host placed entries → At entries e → IsEntry host 0 placed e
of_map host placed entries e map_of at =
    let before = at_contained (entries_of host placed) e (Contains-permutation entries (entries_of host placed) e (IsPermutation-sym (entries_of host placed) entries map_of.same) (contains entries e at)) in
    entry_is host 0 placed e before.place before.is

pub place_is : (system : SystemTable) (maps : List (List MapEntry)) → AreMapsOf system maps → (number : ℕ) (host : EndId) (entries : List MapEntry) → slice_get (hosts_of system) number ≡ Some host → slice_get maps number ≡ Some entries
    → (access : Access) (address connection : ℕ) → (place_of entries access address ≡ Some connection) ↔ IsPlace (footprints system) host access address connection
place_is system maps are number host entries at_host at_map access address connection = (there, back)
  where
    map_of : IsMapOf host (footprints system) entries
    map_of = are.placed.each number host entries at_host at_map

    there : place_of entries access address ≡ Some connection → IsPlace (footprints system) host access address connection
    there is =
        let went = goes (find (holds address) entries) access connection is in
        let e = went.0 in
        let at = found (holds address) entries e went.1 in
        let entry = of_map host (footprints system) entries e map_of at.there in
        let is_entry : e ≡ entry_of entry.number entry.footprint = entry.is ∙ (let z : 0 + entry.number ≡ entry.number = omega arith in ap (λ m. entry_of m entry.footprint) z) in
        let numbered : entry.number ≡ connection = sym (ap (λ (x : MapEntry). x.connection) is_entry) ∙ went.3 in
        let fit = are.placed.fit entry.number entry.footprint entry.there in
        let bounds = holds-bounds (entry_of entry.number entry.footprint) address (subst (λ (x : MapEntry). holds address x ≡ true) is_entry at.passes) in
        record {
          footprint = entry.footprint;
          is = subst (λ m. slice_get (footprints system) m ≡ Some (Some entry.footprint)) numbered entry.there;
          of_host = entry.of_host;
          from_base = bounds.0;
          below_end = (let some = fit.some in let low = bounds.0 in let high = bounds.1 in omega arith);
          serves_it = subst (λ (x : MapEntry). serves access x ≡ true) (is_entry ∙ ap (λ m. entry_of m entry.footprint) numbered) went.2;
        }

    back : IsPlace (footprints system) host access address connection → place_of entries access address ≡ Some connection
    back place =
        let f = place.footprint in
        let e = entry_of connection f in
        let was = entry_there host 0 (footprints system) connection f place.is place.of_host in
        let zero : 0 + connection ≡ connection = omega arith in
        let at_before : At (entries_of host (footprints system)) e = subst (λ m. At (entries_of host (footprints system)) (entry_of m f)) zero was in
        let at = at_contained entries e (Contains-permutation (entries_of host (footprints system)) entries e map_of.same (contains (entries_of host (footprints system)) e at_before)) in
        let holds_it = holds-entry connection address f place.from_base place.below_end in
        let some = something_at (holds address) entries at.place e at.is holds_it in
        let first = found (holds address) entries some.0 some.1 in
        let same = one_holds entries address some.0 e map_of.rising first.there at first.passes holds_it in
        ap (option_and_then (λ (x : MapEntry). cond (serves access x) (Some x.connection) None)) (some.1 ∙ ap Some same)
        ∙ ap (λ b. cond b (Some connection) None) place.serves_it
