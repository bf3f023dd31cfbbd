-- Routes that are the map of a host are entries of that map.
use Rattle.std.proofs.Common.{◌≡◌, ◌⊎◌, inl, inr, ℕ, ◌+◌, ◌*◌, ◌-◌, ◌^◌, ◌<◌, ◌≤◌, zero, suc, Bool, true, false, ◌&&◌, ◌||◌, cond, nat_eq, nat_le, nat_lt, List, [], ◌∷◌, Option, Some, None, refl, sym, ap, ◌∙◌, arith}
use Rattle.std.specs.Prelude.{find, slice_get}
use Rattle.std.specs.Option.{option_map}
use Rattle.std.proofs.lemmas.Bool.{cases_lt, ltb-true}
use Rattle.std.proofs.lemmas.Bool.Decides.{nat_tests, Decides-eqb}
use Rattle.std.proofs.lemmas.Nat.{pow-add}
use Rattle.std.proofs.Math.Pow.{pow-lt}
use Rattle.std.proofs.lemmas.Option.{same_Some, none-some}
use Rattle.memory_runs.specs.Views.{System, Kind}
use Rattle.memory_runs.specs.Views.Kind.{Reads, Writes}
use Rattle.memory_runs.specs.Order.{is_agent}
use Rattle.memory_runs.specs.Plan.{IsPowerOfTwo, footprint, serves_kind}
use Rattle.memory_plans.specs.Routes.{Route, takes, routed, AreApart, IsRoute, AreRoutes}
use Rattle.mm_route.specs.Entries.{IsEntry, AreEntries, is_inside, holds}
use Rattle.mm_route.specs.Machine.{has_entry, AreHeld, HoldWords}

-- ---- lists

-- what a search finds is there and passes
record Found {X : Type 0} (p : X → Bool) (xs : List X) (x : X) : Type 0 where
  pub place : ℕ
  pub is : slice_get xs place ≡ Some x
  pub passes : p x ≡ true

found_there : {X : Type 0} (p : X → Bool) (xs : List X) (x : X) → find p xs ≡ Some x → Found p xs x
found_there p [] x found = absurd (none-some x found)
found_there {X} p (z ∷ xs) x found = by (p z) refl found (found_there p xs x)
  where
    by : (b : Bool) → p z ≡ b → cond (p z) (Some z) (find p xs) ≡ Some x → (find p xs ≡ Some x → Found p xs x) → Found p (z ∷ xs) x
    by true e found rest = let same : z ≡ x = same_Some z x (rw e at found) in record { place = 0; is = ap Some same; passes = ap p (sym same) ∙ e }
    by false e found rest = let more = rest (rw e at found) in record { place = suc more.place; is = more.is; passes = more.passes }

-- where a search finds nothing, each fails
none_passes : {X : Type 0} (p : X → Bool) (xs : List X) → find p xs ≡ None → (k : ℕ) (x : X) → slice_get xs k ≡ Some x → p x ≡ false
none_passes p [] found k x at = absurd (none-some x at)
none_passes {X} p (z ∷ xs) found k x at = by (p z) refl found k at (λ f j. none_passes p xs f j x)
  where
    by : (b : Bool) → p z ≡ b → cond (p z) (Some z) (find p xs) ≡ None → (k : ℕ) → slice_get (z ∷ xs) k ≡ Some x → (find p xs ≡ None → (j : ℕ) → slice_get xs j ≡ Some x → p x ≡ false) → p x ≡ false
    by true e found k at rest = absurd (none-some z (sym (rw e at found)))
    by false e found zero at rest = ap p (sym (same_Some z x at)) ∙ e
    by false e found (suc k) at rest = rest (rw e at found) k at

turned : (a b : Bool) → (a && b) ≡ (b && a)
turned true true = refl
turned true false = refl
turned false true = refl
turned false false = refl

pub both : (a b : Bool) → (a && b) ≡ true → (a ≡ true) × (b ≡ true)
both true b h = (refl, h)
both false b h = absurd (let no : false ≡ true = h in cc)

pub not_true : (a : Bool) → (a ≡ true → ⊥) → a ≡ false
not_true true h = absurd (h refl)
not_true false h = refl

-- ---- lists of entries

pub all_entries : (width : ℕ) (routes : List Route) → ((k : ℕ) (route : Route) → slice_get routes k ≡ Some route → IsEntry width route) → AreEntries width routes
all_entries width [] each = tt
all_entries width (route ∷ later) each = (each 0 route refl, all_entries width later (λ k x at. each (suc k) x at))

all_held : (routes : List Route) (kind : Kind) (address : ℕ) (place : Option ℕ) → ((k : ℕ) (route : Route) → slice_get routes k ≡ Some route → is_agent route.agent place ≡ holds route kind address) → AreHeld routes kind address place
all_held [] kind address place each = tt
all_held (route ∷ later) kind address place each = (each 0 route refl, all_held later kind address place (λ k x at. each (suc k) x at))

pub all_words : (bytes : ℕ) (routes : List Route) → ((k : ℕ) (route : Route) → slice_get routes k ≡ Some route → (words : ℕ) × (2 ^ route.bits ≡ words * bytes)) → HoldWords bytes routes
all_words bytes [] each = tt
all_words bytes (route ∷ later) each = (each 0 route refl, all_words bytes later (λ k x at. each (suc k) x at))

pub has_one : (routes : List Route) (k : ℕ) (route : Route) (agent : ℕ) → slice_get routes k ≡ Some route → route.agent ≡ agent → has_entry routes agent ≡ true
has_one [] k route agent at leads = absurd (none-some route at)
has_one (first ∷ later) zero route agent at leads =
    let own : nat_eq first.agent agent ≡ true = (Decides-eqb first.agent agent).1 (ap (λ (r : Route). r.agent) (same_Some first route at) ∙ leads) in
    rw own refl
has_one (first ∷ later) (suc k) route agent at leads = by (nat_eq first.agent agent) (has_one later k route agent at leads)
  where
    by : (b : Bool) → has_entry later agent ≡ true → (b || has_entry later agent) ≡ true
    by true rest = refl
    by false rest = rest

-- ---- a footprint is a whole number of words

whole_words : (bits exponent span bytes : ℕ) → bytes ≡ 2 ^ exponent → 2 ^ bits ≡ footprint span bytes → (words : ℕ) × (2 ^ bits ≡ words * bytes)
whole_words bits exponent span bytes power is = by (cases_lt bits exponent)
  where
    by : (bits < exponent) ⊎ (exponent ≤ bits) → (words : ℕ) × (2 ^ bits ≡ words * bytes)
    by (inl less) = absurd (let above : 2 ^ bits < 2 ^ exponent = pow-lt less in omega (arith, above, power, is))
    by (inr more) =
        let sum : bits ≡ (bits - exponent) + exponent = omega (arith, more) in
        (2 ^ (bits - exponent), ap (λ n. 2 ^ n) sum ∙ pow-add 2 (bits - exponent) exponent ∙ ap (λ n. 2 ^ (bits - exponent) * n) (sym power))

-- ---- a map

module _ (system : System) (host : ℕ) (routes : List Route) (are : AreRoutes system host routes) where
  pub words_held : (bytes : ℕ) → IsPowerOfTwo bytes → (system.host host).word_bytes ≡ bytes → HoldWords bytes routes
  words_held bytes power same = all_words bytes routes (λ k route at. whole_words route.bits power.0 (system.agent route.agent).span bytes power.1 ((are.each k route at).bytes ∙ ap (footprint (system.agent route.agent).span) same))

  module _ (kind : Kind) (address : ℕ) where
    abbrev pub test : Route → Bool
    test route = is_inside route address && takes kind route

    test_is : (kind : Kind) (route : Route) → (is_inside route address && takes kind route) ≡ holds route kind address
    test_is Reads route = turned (is_inside route address) route.reads
    test_is Writes route = turned (is_inside route address) route.writes

    inside_bounds : (route : Route) → is_inside route address ≡ true → (route.base ≤ address) × (address < route.base + 2 ^ route.bits)
    inside_bounds route h =
        let two = both (nat_le route.base address) (nat_lt address (route.base + 2 ^ route.bits)) h in
        let low = two.0 in
        ((let e : route.base ≤ address = grind (arith, nat_tests, low) in e), ltb-true address (route.base + 2 ^ route.bits) two.1)

    not_both : (a b : Route) → AreApart a b → test a ≡ true → test b ≡ true → ⊥
    not_both a b apart in_a in_b =
        let x = inside_bounds a (both (is_inside a address) (takes kind a) in_a).0 in
        let y = inside_bounds b (both (is_inside b address) (takes kind b) in_b).0 in
        by apart x.0 x.1 y.0 y.1
      where
        by : AreApart a b → a.base ≤ address → address < a.base + 2 ^ a.bits → b.base ≤ address → address < b.base + 2 ^ b.bits → ⊥
        by (inl first) low high low_b high_b = omega (arith, first, high, low_b)
        by (inr second) low high low_b high_b = omega (arith, second, low, high_b)

    -- two routes that hold the address are one
    one_route : (j k : ℕ) (a b : Route) → slice_get routes j ≡ Some a → slice_get routes k ≡ Some b → test a ≡ true → test b ≡ true → a ≡ b
    one_route j k a b at_j at_k in_a in_b = by (cases_lt j k) (cases_lt k j)
      where
        by : (j < k) ⊎ (k ≤ j) → (k < j) ⊎ (j ≤ k) → a ≡ b
        by (inl less) other = absurd (not_both a b (are.apart j k a b less at_j at_k) in_a in_b)
        by (inr more) (inl less) = absurd (not_both b a (are.apart k j b a less at_k at_j) in_b in_a)
        by (inr more) (inr less) = let same : j ≡ k = omega (arith, more, less) in same_Some a b (sym at_j ∙ ap (slice_get routes) same ∙ at_k)

    takes_as : (kind : Kind) (route : Route) → IsRoute system host route → takes kind route ≡ serves_kind (system.agent route.agent) kind
    takes_as Reads route is = is.reads
    takes_as Writes route is = is.writes

    -- routes to one agent hold the same addresses
    same_test : (a b : Route) → IsRoute system host a → IsRoute system host b → a.agent ≡ b.agent → test a ≡ test b
    same_test a b is_a is_b same =
        let base : a.base ≡ b.base = is_a.base ∙ ap (system.base host) same ∙ sym is_b.base in
        let bytes : 2 ^ a.bits ≡ 2 ^ b.bits = is_a.bytes ∙ ap (λ n. footprint (system.agent n).span (system.host host).word_bytes) same ∙ sym is_b.bytes in
        let kinds : takes kind a ≡ takes kind b = takes_as kind a is_a ∙ ap (λ n. serves_kind (system.agent n) kind) same ∙ sym (takes_as kind b is_b) in
        ap (λ n. (nat_le n address && nat_lt address (n + 2 ^ a.bits)) && takes kind a) base
        ∙ ap (λ n. (nat_le b.base address && nat_lt address (b.base + n)) && takes kind a) bytes
        ∙ ap (λ t. is_inside b address && t) kinds

    goes : (k : ℕ) (route : Route) → slice_get routes k ≡ Some route → is_agent route.agent (routed routes kind address) ≡ test route
    goes k route at = by (find test routes) refl
      where
        led : (found : Route) → Found test routes found → (b : Bool) → test route ≡ b → nat_eq route.agent found.agent ≡ test route
        led found f true passes =
            let same = one_route k f.place route found at f.is passes f.passes in
            (Decides-eqb route.agent found.agent).1 (ap (λ (r : Route). r.agent) same) ∙ sym passes
        led found f false fails =
            not_true (nat_eq route.agent found.agent) (λ e.
            (let same = same_test route found (are.each k route at) (are.each f.place found f.is) ((Decides-eqb route.agent found.agent).0 e) in
            let no : false ≡ true = sym fails ∙ same ∙ f.passes in cc)) ∙ sym fails

        by : (found : Option Route) → find test routes ≡ found → is_agent route.agent (option_map (λ (r : Route). r.agent) (find test routes)) ≡ test route
        by None none = ap (λ o. is_agent route.agent (option_map (λ (r : Route). r.agent) o)) none ∙ sym (none_passes test routes none k route at)
        by (Some found) some = ap (λ o. is_agent route.agent (option_map (λ (r : Route). r.agent) o)) some ∙ led found (found_there test routes found some) (test route) refl

    pub places_held : AreHeld routes kind address (system.place host kind address)
    places_held =
        all_held routes kind address (system.place host kind address) (λ k route at. ap (is_agent route.agent) (are.place kind address) ∙ goes k route at ∙ test_is kind route)

    pub agents_have : (agent : ℕ) → system.place host kind address ≡ Some agent → has_entry routes agent ≡ true
    agents_have agent there = by (find test routes) refl
      where
        by : (found : Option Route) → find test routes ≡ found → has_entry routes agent ≡ true
        by None none = absurd (none-some agent (sym (ap (option_map (λ (r : Route). r.agent)) none) ∙ sym (are.place kind address) ∙ there))
        by (Some found) some =
            let f = found_there test routes found some in
            has_one routes f.place found agent f.is (same_Some found.agent agent (sym (ap (option_map (λ (r : Route). r.agent)) some) ∙ sym (are.place kind address) ∙ there))
