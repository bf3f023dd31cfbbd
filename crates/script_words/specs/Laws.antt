-- Laws of what scripts name: places in lists, what is asked of a command, kinds, roles and properties.
use Rattle.std.proofs.Common.{◌≡◌, ℕ, zero, suc, ◌+◌, ◌<◌, ◌≤◌, Bool, true, false, cond, not, ◌&&◌, IsTrue, List, [], ◌∷◌, length, map, get_or, nat_lt, Option, Some, None, Decides, refl, ap, subst, arith}
use Rattle.std.specs.Prelude.{find, position, IsNone, ◌||◌}
use Rattle.std.specs.List.{prefix_len, position_or_len, list_any}
use Rattle.std.specs.Option.{option_map}
use Rattle.std.proofs.lemmas.Bool.Decides.{nat_tests, Decides-and}
use Rattle.std.proofs.lemmas.List.{length-map}
use Rattle.std.proofs.lemmas.List.Sums.{prefix_len-le-length}
use Rattle.std.proofs.lemmas.Option.{cond_some}
use Rattle.std.proofs.lemmas.Slice.Eq.{bytes_eq-Decides}
use Rattle.iface_roles.specs.declared.kinds.Kind.{Kind}
use Rattle.iface_roles.specs.declared.kinds.Kind.TheVariants.{Clock, Reset, Mm, Stream, Conduit, Interrupt}
use Rattle.iface_roles.specs.declared.properties.Property.TheVariants.{Known, PassedOver}
use Rattle.iface_roles.specs.declared.properties.PropertyId.{PropertyId}
use Rattle.iface_roles.specs.declared.roles.Role.{Role}
use Rattle.iface_roles.specs.Kinds.{is_avalon}
use Rattle.iface_roles.specs.Names.{lower, same_name}
use Rattle.iface_roles.specs.Properties.{property_row, all_properties, is_of, is_called, is_listed, IsKnownAs}
use Rattle.iface_roles.specs.Roles.{role_row, all_roles, IsNamed}
use Rattle.tcl_words.specs.declared.words.Word.{Word}
use Rattle.script_words.specs.declared.judge.Check.{Check}
use Rattle.script_words.specs.Kinds.{same_kind, role_named, property_named, known_or_not}
use Rattle.script_words.specs.Words.{refusal_of}

-- where an item stands, seen through a map
pub prefix_len-map : {A B : Type 0} (p : B → Bool) (f : A → B) (xs : List A)
    → prefix_len p (map f xs) ≡ prefix_len (λ x. p (f x)) xs
prefix_len-map p f [] = refl
prefix_len-map p f (x ∷ xs) = ap (λ (n : ℕ). cond (p (f x)) (1 + n) 0) (prefix_len-map p f xs)

pub position-map : {A B : Type 0} (p : B → Bool) (f : A → B) (xs : List A) → position p (map f xs) ≡ position (λ x. p (f x)) xs
position-map p f xs =
    let e = prefix_len-map (λ x. not (p x)) f xs in
    rw (e, length-map) refl

-- where no member passes, the test fails at each, and the front goes to the end
step : (b : Bool) (n m : ℕ) (r : Bool) → (n ≡ m → r ≡ false) → cond (not b) (1 + n) 0 ≡ suc m → (b || r) ≡ false
step true n m r h e = absurd (omega arith)
step false n m r h e = h (omega arith)

pub fails_at_each : {A : Type 0} (p : A → Bool) (xs : List A) → prefix_len (λ x. not (p x)) xs ≡ length xs → list_any p xs ≡ false
fails_at_each p [] e = refl
fails_at_each p (x ∷ xs) e = step (p x) _ _ (list_any p xs) (fails_at_each p xs) e

goes_to_end : (b : Bool) (n m : ℕ) → nat_lt n m ≡ b → n ≤ m → IsNone (cond b (Some n) None) → n ≡ m
goes_to_end true n m e l h = cc
goes_to_end false n m e l h = grind (arith, nat_tests)

pub none_passes : {A : Type 0} (p : A → Bool) (xs : List A) → IsNone (position p xs)
    → (position_or_len p xs ≡ length xs) × (list_any p xs ≡ false)
none_passes p xs h =
    let end : prefix_len (λ x. not (p x)) xs ≡ length xs = goes_to_end _ _ _ refl (prefix_len-le-length (λ x. not (p x)) xs) h in
    (end, fails_at_each p xs end)

-- a place is one of the list
pub position_within : {A : Type 0} (p : A → Bool) (xs : List A) (k : ℕ) → position p xs ≡ Some k → k < length xs
position_within p xs k h =
    let parts = cond_some (nat_lt (position_or_len p xs) (length xs)) (position_or_len p xs) k h in
    subst (λ n. n < length xs) parts.1 (let e = parts.0 in grind (arith, nat_tests))

-- where a search finds nothing, no item passes
pub find-fails : {X : Type 0} (p : X → Bool) (xs : List X) (k : ℕ) (x : X) → find p xs ≡ None → k < length xs → get_or xs k x ≡ x
    → p x ≡ false
find-fails p [] k x h l e = absurd (omega arith)
find-fails p (y ∷ ys) zero x h l e =
    elim (p y) as (λ b. p y ≡ b → cond b (Some y) (find p ys) ≡ None → p x ≡ false) [
      | true ↦ λ t found. cc
      | false ↦ λ t found. subst (λ z. p z ≡ false) e t
    ] refl h
find-fails p (y ∷ ys) (suc k) x h l e =
    elim (p y) as (λ b. p y ≡ b → cond b (Some y) (find p ys) ≡ None → p x ≡ false) [
      | true ↦ λ t found. cc
      | false ↦ λ t found. find-fails p ys k x found (omega arith) e
    ] refl h

mapped_none : {A B : Type 0} (f : A → B) (o : Option A) → option_map f o ≡ None → o ≡ None
mapped_none f None h = refl
mapped_none f (Some x) h = cc

-- of a command that isn't refused, nothing that is asked fails
pub none_fails : (words : List Word) (checks : List Check) (k : ℕ) (asked : Check) → refusal_of words checks ≡ None
    → k < length checks → get_or checks k asked ≡ asked → asked.fails ≡ false
unfolding refusal_of
none_fails words checks k asked h within at =
    find-fails (λ (c : Check). c.fails) checks k asked (mapped_none _ (find (λ (c : Check). c.fails) checks) h) within at

-- kinds are the same exactly where the test says so
same_kind-true : (a b : Kind) → same_kind a b ≡ true → a ≡ b
same_kind-true Clock Clock h = refl
same_kind-true Reset Reset h = refl
same_kind-true Mm Mm h = refl
same_kind-true Stream Stream h = refl
same_kind-true Conduit Conduit h = refl
same_kind-true Interrupt Interrupt h = refl
same_kind-true _ _ h = cc

same_kind-same : (a : Kind) → same_kind a a ≡ true
same_kind-same Clock = refl
same_kind-same Reset = refl
same_kind-same Mm = refl
same_kind-same Stream = refl
same_kind-same Conduit = refl
same_kind-same Interrupt = refl

pub same_kind-Decides : (a b : Kind) → Decides (same_kind a b) (a ≡ b)
same_kind-Decides a b = (same_kind-true a b, λ e. subst (λ k. same_kind a k ≡ true) e (same_kind-same a))

-- what a search finds passes the test
pub find-passes : {X : Type 0} (p : X → Bool) (xs : List X) (x : X) → find p xs ≡ Some x → p x ≡ true
find-passes p [] x h = cc
find-passes p (y ∷ ys) x h =
    elim (p y) as (λ b. p y ≡ b → cond b (Some y) (find p ys) ≡ Some x → p x ≡ true) [
      | true ↦ λ e found. cc
      | false ↦ λ e found. find-passes p ys x found
    ] refl h

-- a text names this role, or this property, in interfaces of the kind
abbrev pub is_role : Kind → List ℕ → Role → Bool
is_role kind text role = same_kind (role_row role).kind kind && same_name (role_row role).name text

pub role_Decides : (kind : Kind) (text : List ℕ) (role : Role) → Decides (is_role kind text role) (IsNamed kind role text)
role_Decides kind text role =
    let both = Decides-and _ _ (same_kind-Decides (role_row role).kind kind) (bytes_eq-Decides (lower (role_row role).name) (lower text)) in
    (λ t. record { of_kind = (both.0 t).0; name = (both.0 t).1 }, λ h. both.1 (h.of_kind, h.name))

abbrev pub is_property : Kind → List ℕ → PropertyId → Bool
is_property kind text id = is_of (property_row id).kinds kind && is_called id text

pub property_Decides : (kind : Kind) (text : List ℕ) (id : PropertyId)
    → Decides (is_property kind text id) (IsKnownAs kind id text)
property_Decides kind text id =
    let both = Decides-and (is_of (property_row id).kinds kind) (is_called id text) (λ t. t, λ t. t) (λ t. t, λ t. t) in
    (λ t. record { of_kind = (both.0 t).0; name = (both.0 t).1 }, λ h. both.1 (h.of_kind, h.name))

-- a role that is named is of the kind, and so is a property that is known
pub role_named-kind : (kind : Kind) (text : List ℕ) (role : Role) → role_named kind text ≡ Some role → (role_row role).kind ≡ kind
unfolding role_named
role_named-kind kind text role h =
    ((role_Decides kind text role).0 (find-passes (is_role kind text) all_roles role h)).of_kind

pub property_named-kind : (kind : Kind) (text : List ℕ) (id : PropertyId) → property_named kind text ≡ Known id
    → IsTrue (is_of (property_row id).kinds kind)
unfolding property_named
property_named-kind kind text id h =
    by (not (is_avalon kind) || is_listed text) (find (is_property kind text) all_properties) refl h
  where
    by : (b : Bool) (o : Option PropertyId) → find (is_property kind text) all_properties ≡ o
        → cond b PassedOver (known_or_not o) ≡ Known id → IsTrue (is_of (property_row id).kinds kind)
    by true o e q = cc
    by false None e q = cc
    by false (Some other) e q =
        let same : other ≡ id = cc in
        subst (λ i. IsTrue (is_of (property_row i).kinds kind)) same
        ((property_Decides kind text other).0 (find-passes (is_property kind text) all_properties other e)).of_kind
