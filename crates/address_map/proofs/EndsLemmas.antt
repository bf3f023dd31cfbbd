-- Ends of connections, each once.
use Rattle.std.proofs.Common.{◌≡◌, ℕ, ◌+◌, ◌<◌, ◌≤◌, ◌⊎◌, inl, inr, zero, suc, Bool, true, false, ◌&&◌, ◌||◌, not, cond, nat_lt, nat_eq, List, [], ◌∷◌, ◌++◌, Option, Some, None, length, get_or, refl, sym, ap, subst, ◌∙◌, arith}
use Rattle.std.specs.Prelude.{filter, position, All, AllPairs, is_some, slice_get}
use Rattle.std.specs.List.{list_any, position_or_len}
use Rattle.std.proofs.lemmas.Bool.Decides.{nat_tests, Decides-eqb}
use Rattle.std.proofs.lemmas.List.Elements.{filter-append, filter_passes}
use Rattle.std.proofs.lemmas.List.Kept.{AllPairs-filter}
use Rattle.std.proofs.lemmas.List.{append-nil}
use Rattle.std.proofs.lemmas.Bool.{cases_lt}
use Rattle.std.proofs.lemmas.List.Quantifiers.{position-Some}
use Rattle.std.proofs.lemmas.Option.{slice_get_within, slice_get-get_or, get_or_from_slice_get}
use Rattle.std.proofs.lemmas.Map.Views.{any-filter_same}
use Rattle.system_tables.specs.declared.tables.EndId.{EndId}
use Rattle.address_map.specs.Ends.{is_same_end, each_once, with_end, place_in}

and-left : (a b : Bool) → (a && b) ≡ true → a ≡ true
and-left true b h = refl
and-left false b h = cc

and-right : (a b : Bool) → (a && b) ≡ true → b ≡ true
and-right true b h = h
and-right false b h = cc

pub same_end : (a b : EndId) → is_same_end a b ≡ true → a ≡ b
same_end a b h =
    let i : a.instance ≡ b.instance = (Decides-eqb a.instance b.instance).0 (and-left (nat_eq a.instance b.instance) (nat_eq a.interface b.interface) h) in
    let f : a.interface ≡ b.interface = (Decides-eqb a.interface b.interface).0 (and-right (nat_eq a.instance b.instance) (nat_eq a.interface b.interface) h) in
    let with_instance : ℕ → EndId = λ n. record { instance = n; interface = a.interface } in
    let with_interface : ℕ → EndId = λ n. record { instance = b.instance; interface = n } in
    ap with_instance i ∙ ap with_interface f

pub is_same_end-refl : (a : EndId) → is_same_end a a ≡ true
is_same_end-refl a =
    let i : nat_eq a.instance a.instance ≡ true = (Decides-eqb a.instance a.instance).1 refl in
    let f : nat_eq a.interface a.interface ≡ true = (Decides-eqb a.interface a.interface).1 refl in
    rw (i, f) refl

pub is_same_end-sym : (a b : EndId) → is_same_end a b ≡ is_same_end b a
is_same_end-sym a b = by (is_same_end a b) (is_same_end b a) refl refl
  where
    by : (s t : Bool) → is_same_end a b ≡ s → is_same_end b a ≡ t → is_same_end a b ≡ is_same_end b a
    by true true h k = h ∙ sym k
    by false false h k = h ∙ sym k
    by true false h k =
        let same = same_end a b h in
        absurd (let no : true ≡ false = sym (is_same_end-refl b) ∙ subst (λ (x : EndId). is_same_end b x ≡ false) same k in cc)
    by false true h k =
        let same = same_end b a k in
        absurd (let no : true ≡ false = sym (is_same_end-refl a) ∙ subst (λ (x : EndId). is_same_end a x ≡ false) same h in cc)

-- a first place is within the list where some element passes
first-step : (b r : Bool) (n len : ℕ) → nat_lt n len ≡ r → nat_lt (cond (not b) (1 + n) 0) (suc len) ≡ (b || r)
first-step true r n len h = grind (arith, nat_tests)
first-step false r n len h = let less : nat_lt (1 + n) (suc len) ≡ nat_lt n len = grind (arith, nat_tests) in less ∙ h

lt-position : {X : Type 0} (p : X → Bool) (xs : List X) → nat_lt (position_or_len p xs) (length xs) ≡ list_any p xs
lt-position p [] = refl
lt-position p (x ∷ xs) = first-step (p x) (list_any p xs) (position_or_len p xs) (length xs) (lt-position p xs)

is_some-cond : (b : Bool) (n : ℕ) → is_some (cond b (Some n) None) ≡ b
is_some-cond true n = refl
is_some-cond false n = refl

pub is_some-position : {X : Type 0} (p : X → Bool) (xs : List X) → is_some (position p xs) ≡ list_any p xs
is_some-position p xs = is_some-cond (nat_lt (position_or_len p xs) (length xs)) (position_or_len p xs) ∙ lt-position p xs

-- leaving another end out leaves an end where it was
any-filter_other : (x end : EndId) (ends : List EndId) → is_same_end end x ≡ false → list_any (is_same_end end) (filter (λ other. not (is_same_end x other)) ends) ≡ list_any (is_same_end end) ends
any-filter_other x end ends h =
    let apart : is_same_end x end ≡ false = is_same_end-sym x end ∙ h in
    any-filter_same (is_same_end end) (λ other. not (is_same_end x other)) true (λ k is. ap (λ (e : EndId). not (is_same_end x e)) (sym (same_end end k is)) ∙ ap not apart) ends

-- an end is among those that come once where it is among them all
pub any-each_once : (end : EndId) (ends : List EndId) → list_any (is_same_end end) (each_once ends) ≡ list_any (is_same_end end) ends
any-each_once end [] = refl
any-each_once end (x ∷ ends) = by (is_same_end end x) refl (any-each_once end ends)
  where
    by : (b : Bool) → is_same_end end x ≡ b → list_any (is_same_end end) (each_once ends) ≡ list_any (is_same_end end) ends
        → (is_same_end end x || list_any (is_same_end end) (filter (λ other. not (is_same_end x other)) (each_once ends))) ≡ (is_same_end end x || list_any (is_same_end end) ends)
    by true h rest = rw h refl
    by false h rest = rw h (any-filter_other x end (each_once ends) h ∙ rest)

-- one more end
filter-push : (x end : EndId) (ends : List EndId) → filter (λ other. not (is_same_end x other)) (ends ++ end ∷ []) ≡ filter (λ other. not (is_same_end x other)) ends ++ cond (not (is_same_end x end)) (end ∷ []) []
filter-push x end ends = filter-append (λ other. not (is_same_end x other)) ends (end ∷ [])

pub with_end-there : (ends : List EndId) (end : EndId) → list_any (is_same_end end) ends ≡ true → with_end ends end ≡ ends
with_end-there ends end h = ap (λ b. cond b ends (ends ++ end ∷ [])) h

pub with_end-fresh : (ends : List EndId) (end : EndId) → list_any (is_same_end end) ends ≡ false → with_end ends end ≡ ends ++ end ∷ []
with_end-fresh ends end h = ap (λ b. cond b ends (ends ++ end ∷ [])) h

first-with_end : (x end : EndId) (ends : List EndId) (b c : Bool) → is_same_end end x ≡ b → list_any (is_same_end end) ends ≡ c
    → x ∷ filter (λ other. not (is_same_end x other)) (with_end ends end) ≡ with_end (x ∷ filter (λ other. not (is_same_end x other)) ends) end
first-with_end x end ends true true h k =
    ap (λ (l : List EndId). x ∷ filter (λ other. not (is_same_end x other)) l) (with_end-there ends end k)
    ∙ sym (with_end-there (x ∷ filter (λ other. not (is_same_end x other)) ends) end (rw h refl))
first-with_end x end ends true false h k =
    let here : is_same_end x end ≡ true = is_same_end-sym x end ∙ h in
    let none : cond (not (is_same_end x end)) (end ∷ []) [] ≡ [] = rw here refl in
    ap (λ (l : List EndId). x ∷ filter (λ other. not (is_same_end x other)) l) (with_end-fresh ends end k)
    ∙ ap (λ (l : List EndId). x ∷ l) (filter-push x end ends ∙ ap (λ (l : List EndId). filter (λ other. not (is_same_end x other)) ends ++ l) none ∙ append-nil (filter (λ other. not (is_same_end x other)) ends))
    ∙ sym (with_end-there (x ∷ filter (λ other. not (is_same_end x other)) ends) end (rw h refl))
first-with_end x end ends false true h k =
    let there : (is_same_end end x || list_any (is_same_end end) (filter (λ other. not (is_same_end x other)) ends)) ≡ true = rw h (any-filter_other x end ends h ∙ k) in
    ap (λ (l : List EndId). x ∷ filter (λ other. not (is_same_end x other)) l) (with_end-there ends end k)
    ∙ sym (with_end-there (x ∷ filter (λ other. not (is_same_end x other)) ends) end there)
first-with_end x end ends false false h k =
    let apart : is_same_end x end ≡ false = is_same_end-sym x end ∙ h in
    let one : cond (not (is_same_end x end)) (end ∷ []) [] ≡ end ∷ [] = rw apart refl in
    let fresh : (is_same_end end x || list_any (is_same_end end) (filter (λ other. not (is_same_end x other)) ends)) ≡ false = rw h (any-filter_other x end ends h ∙ k) in
    ap (λ (l : List EndId). x ∷ filter (λ other. not (is_same_end x other)) l) (with_end-fresh ends end k)
    ∙ ap (λ (l : List EndId). x ∷ l) (filter-push x end ends ∙ ap (λ (l : List EndId). filter (λ other. not (is_same_end x other)) ends ++ l) one)
    ∙ sym (with_end-fresh (x ∷ filter (λ other. not (is_same_end x other)) ends) end fresh)

pub each_once-push : (ends : List EndId) (end : EndId) → each_once (ends ++ end ∷ []) ≡ with_end (each_once ends) end
each_once-push [] end = refl
each_once-push (x ∷ ends) end =
    ap (λ (rest : List EndId). x ∷ filter (λ other. not (is_same_end x other)) rest) (each_once-push ends end)
    ∙ first-with_end x end (each_once ends) (is_same_end end x) (list_any (is_same_end end) (each_once ends)) refl refl

-- no end comes twice
AllPairs-cons : {X : Type 0} (R : X → X → Type 0) (x : X) (xs : List X) → All (R x) xs → AllPairs R xs → AllPairs R (x ∷ xs)
AllPairs-cons R x xs first rest zero zero d less within = absurd (omega arith)
AllPairs-cons R x xs first rest zero (suc j) d less within = first j d (omega arith)
AllPairs-cons R x xs first rest (suc i) zero d less within = absurd (omega arith)
AllPairs-cons R x xs first rest (suc i) (suc j) d less within = rest i j d (omega arith) (omega arith)

not-true : (b : Bool) → not b ≡ true → b ≡ false
not-true true h = cc
not-true false h = refl

apart-each_once : (ends : List EndId) → AllPairs (λ a b. is_same_end a b ≡ false) (each_once ends)
apart-each_once [] = λ i j d less within. absurd (omega arith)
apart-each_once (x ∷ ends) =
    AllPairs-cons (λ a b. is_same_end a b ≡ false) x (filter (λ other. not (is_same_end x other)) (each_once ends))
    (λ k d within. not-true (is_same_end x (get_or (filter (λ other. not (is_same_end x other)) (each_once ends)) k d)) (filter_passes (λ other. not (is_same_end x other)) (each_once ends) k d within))
    (AllPairs-filter (λ a b. is_same_end a b ≡ false) (λ other. not (is_same_end x other)) (each_once ends) (apart-each_once ends))

-- an end has one place in such a list
pub one_place : (ends : List EndId) (j k : ℕ) (end : EndId) → slice_get (each_once ends) j ≡ Some end → slice_get (each_once ends) k ≡ Some end → j ≡ k
one_place ends j k end at_j at_k = by (cases_lt j k) (cases_lt k j)
  where
    differ : (a b : ℕ) → slice_get (each_once ends) a ≡ Some end → slice_get (each_once ends) b ≡ Some end → a < b → ⊥
    differ a b at_a at_b less =
        let apart = apart-each_once ends a b end less (slice_get_within (each_once ends) b end at_b) in
        let same : is_same_end end end ≡ false = rw (get_or_from_slice_get (each_once ends) a end end at_a, get_or_from_slice_get (each_once ends) b end end at_b) at apart in
        let no : true ≡ false = sym (is_same_end-refl end) ∙ same in cc

    by : (j < k) ⊎ (k ≤ j) → (k < j) ⊎ (j ≤ k) → j ≡ k
    by (inl h) other = absurd (differ j k at_j at_k h)
    by (inr h) (inl g) = absurd (differ k j at_k at_j g)
    by (inr h) (inr g) = omega arith

-- what stands at an end's place is the end
pub at_place : (ends : List EndId) (end : EndId) (k : ℕ) → place_in ends end ≡ Some k → slice_get ends k ≡ Some end
at_place ends end k is =
    let found = position-Some (is_same_end end) ends k end is in
    slice_get-get_or ends k end found.0 ∙ ap Some (sym (same_end end (get_or ends k end) found.1))

-- an end that is among others has a place there
pub there_at : (ends : List EndId) (end : EndId) → list_any (is_same_end end) ends ≡ true → (k : ℕ) × (slice_get ends k ≡ Some end)
there_at ends end there = by (place_in ends end) refl
  where
    by : (o : Option ℕ) → place_in ends end ≡ o → (k : ℕ) × (slice_get ends k ≡ Some end)
    by (Some k) is = (k, at_place ends end k is)
    by None is = absurd (let no : true ≡ false = sym there ∙ sym (is_some-position (is_same_end end) ends) ∙ ap is_some is in cc)
