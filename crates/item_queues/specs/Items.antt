-- The items in places in a row, from the oldest on and from the last place to the first.
use Rattle.std.proofs.Common.{◌≡◌, ℕ, zero, suc, ◌+◌, ◌-◌, ◌%◌, ◌<◌, ◌≤◌, ◌==◌, Bool, true, false, ◌&&◌, nat_lt, if◌then◌else◌, List, [], ◌∷◌, ◌++◌, length, map, drop, refl, sym, subst, ap, ◌∙◌, append-nil, arith}
use Rattle.std.proofs.Math.Nat.{mod-eq_of_lt, mod-lt, mod-add-mod, add-mod_right}
use Rattle.std.proofs.lemmas.Bool.{eqb-false, ne_eqb, ltb-true, ltb-false}
use Rattle.histories.specs.History.{one_if, only_if}

-- the items in so many places from one on, of so many places in all
abbrev pub items_from : {A : Type 0} → (ℕ → A) → ℕ → ℕ → ℕ → List A
items_from item depth at zero = []
items_from item depth at (suc count) = item (at % depth) ∷ items_from item depth (suc at) count

-- ---- laws. No contract reads a proof of these

pub items_count : {A : Type 0} (item : ℕ → A) (depth at count : ℕ) → length (items_from item depth at count) ≡ count
items_count item depth at zero = refl
items_count item depth at (suc count) = ap suc (items_count item depth (suc at) count)

pub items_mapped : {A B : Type 0} (f : A → B) (item : ℕ → A) (depth at count : ℕ)
    → map f (items_from item depth at count) ≡ items_from (λ k. f (item k)) depth at count
items_mapped f item depth at zero = refl
items_mapped f item depth at (suc count) =
    ap (λ (items : List _). f (item (at % depth)) ∷ items) (items_mapped f item depth (suc at) count)

-- the same items in each place are the same from a place on
pub items_same : {A : Type 0} (item after : ℕ → A) (depth at count : ℕ)
    → ((j : ℕ) → j < count → after ((at + j) % depth) ≡ item ((at + j) % depth))
    → items_from after depth at count ≡ items_from item depth at count
items_same item after depth at zero same = refl
items_same item after depth at (suc count) same =
    let here : at + 0 ≡ at = omega arith in
    ap (λ x. x ∷ items_from after depth (suc at) count)
    (subst (λ k. after (k % depth) ≡ item (k % depth)) here (same 0 (omega arith)))
    ∙ ap (λ (items : List _). item (at % depth) ∷ items)
    (items_same item after depth
    (suc at) count (λ j below. (let further : at + suc j ≡ suc at + j = omega arith in
    subst (λ k. after (k % depth) ≡ item (k % depth)) further (same (suc j) (omega (arith, below))))))

-- ---- places modulo the depth

mod_twice : (a depth : ℕ) → a % depth % depth ≡ a % depth
mod_twice a depth =
    let plain : a % depth + 0 ≡ a % depth = omega arith in
    let whole : a + 0 ≡ a = omega arith in
    sym (ap (λ k. k % depth) plain) ∙ mod-add-mod a depth 0 ∙ ap (λ k. k % depth) whole

next_place : (a b depth : ℕ) → a % depth ≡ b % depth → suc a % depth ≡ suc b % depth
next_place a b depth e =
    let one : suc a ≡ a + 1 = omega arith in
    let other : suc b ≡ b + 1 = omega arith in
    ap (λ k. k % depth) one ∙ sym (mod-add-mod a depth 1) ∙ ap (λ k. (k + 1) % depth) e ∙ mod-add-mod b depth 1
    ∙ ap (λ k. k % depth) (sym other)

-- a step of less than the depth leads to another place
steps_away : (m k depth : ℕ) → m < depth → 0 < k → k < depth → m ≡ (m + k) % depth → ⊥
steps_away m k depth low some few e = by_case (nat_lt (m + k) depth) refl
  where
    by_case : (t : Bool) → nat_lt (m + k) depth ≡ t → ⊥
    by_case true below = (let same = mod-eq_of_lt (ltb-true (m + k) depth below) in omega (arith, e, same, some))
    by_case false above =
        (let high = ltb-false (m + k) depth above in
        let split : m + k ≡ (m + k - depth) + depth = omega (arith, high) in
        let rest : (m + k) % depth ≡ m + k - depth = ap
        (λ n. n % depth) split ∙ add-mod_right (m + k - depth) depth ∙ mod-eq_of_lt (omega (arith, low, few, high)) in
        omega (arith, e, rest, few, high))

places_apart : (at j n depth : ℕ) → j < n → n < depth → (at + j) % depth ≡ (at + n) % depth → ⊥
places_apart at j n depth before few e =
    let low : (at + j) % depth < depth = mod-lt (at + j) (omega (arith, few)) in
    let split : at + n ≡ (at + j) + (n - j) = omega (arith, before) in
    steps_away ((at + j) % depth) (n - j) depth low (omega (arith, before)) (omega (arith, few, before))
    (e ∙ ap (λ k. k % depth) split ∙ sym (mod-add-mod (at + j) depth (n - j)))

-- ---- an item that comes, and one that goes

-- from the same place on
items_at : {A : Type 0} (item : ℕ → A) (depth a b count : ℕ) → a % depth ≡ b % depth
    → items_from item depth a count ≡ items_from item depth b count
items_at item depth a b zero e = refl
items_at item depth a b (suc count) e =
    ap (λ k. item k ∷ items_from item depth (suc a) count) e
    ∙ ap (λ (items : List _). item (b % depth) ∷ items) (items_at item depth (suc a) (suc b) count (next_place a b depth e))

items_more : {A : Type 0} (item : ℕ → A) (depth at count : ℕ)
    → items_from item depth at count ++ item ((at + count) % depth) ∷ [] ≡ items_from item depth at (suc count)
items_more item depth at zero = ap (λ k. item (k % depth) ∷ []) (let here : at + 0 ≡ at = omega arith in here)
items_more item depth at (suc count) =
    ap (λ (items : List _). item (at % depth) ∷ items)
    (ap (λ k. items_from item depth (suc at) count ++ item (k % depth) ∷ [])
    (let further : at + suc count ≡ suc at + count = omega arith in further)
    ∙ items_more item depth (suc at) count)

same_is : (n : ℕ) → (n == n) ≡ true
same_is n = by_case (n == n) refl
  where
    by_case : (t : Bool) → (n == n) ≡ t → (n == n) ≡ true
    by_case true e = e
    by_case false e = absurd (eqb-false n n e refl)

-- an item goes to the place behind the others
items_pushed : {A : Type 0} (item after : ℕ → A) (depth at count next : ℕ) (coming : A) (comes : Bool) → 0 < depth
    → next ≡ (at + count) % depth → (comes ≡ true → count < depth) →
    ((place : ℕ) → place < depth → after place ≡ (if comes && (next == place) then coming else item place)) →
    items_from after depth at (count + one_if comes) ≡ items_from item depth at count ++ only_if comes coming
items_pushed item after depth at count next coming true some behind room writes =
    let one : count + 1 ≡ suc count = omega arith in
    let last : after ((at + count) % depth) ≡ coming = writes _ (mod-lt (at + count) some) ∙ rw behind (rw (same_is ((at + count) % depth)) refl) in
    ap (items_from after depth at) one ∙ sym (items_more after depth at count)
    ∙ ap (λ (items : List _). items ++ after ((at + count) % depth) ∷ []) (items_same item after depth at count (λ j below.
    writes _ (mod-lt (at + j) some)
    ∙ rw (ne_eqb next ((at + j) % depth) (λ e. places_apart at j count depth below (room refl) (sym (sym behind ∙ e)))) refl))
    ∙ ap (λ x. items_from item depth at count ++ x ∷ []) last
items_pushed item after depth at count next coming false some behind room writes =
    let none : count + 0 ≡ count = omega arith in
    ap (items_from after depth at) none ∙ items_same item after depth at count (λ j below. writes _ (mod-lt (at + j) some))
    ∙ sym (append-nil (items_from item depth at count))

items_dropped : {A : Type 0} (item : ℕ → A) (depth at count : ℕ) (goes : Bool) → one_if goes ≤ count
    → drop (one_if goes) (items_from item depth at count) ≡ items_from item depth (at + one_if goes) (count - one_if goes)
items_dropped item depth at zero true some = absurd (omega (arith, some))
items_dropped item depth at (suc count) true some =
    let place : at + 1 ≡ suc at = omega arith in
    let fewer : suc count - 1 ≡ count = omega arith in
    sym (ap (λ k. items_from item depth k (suc count - 1)) place ∙ ap (items_from item depth (suc at)) fewer)
items_dropped item depth at count false some =
    let place : at + 0 ≡ at = omega arith in
    let all : count - 0 ≡ count = omega arith in
    sym (ap (λ k. items_from item depth k (count - 0)) place ∙ ap (items_from item depth at) all)

-- the places and the count of a queue, and of the queue a cycle later
pub record ItemsMove {A : Type 0} (item after : ℕ → A) (depth bound first count next later_first later_count later_next : ℕ)
    (comes goes : Bool) (coming : A) : Type 0 where
  pub some : 0 < depth
  pub deep : bound ≤ depth
  pub behind : next ≡ (first + count) % depth
  pub few : count ≤ bound
  pub room : comes ≡ true → count < bound
  pub within : one_if goes ≤ count + one_if comes
  pub first_is : later_first ≡ (first + one_if goes) % depth
  pub next_is : later_next ≡ (next + one_if comes) % depth
  pub count_is : later_count ≡ (count + one_if comes) - one_if goes
  pub writes : (place : ℕ) → place < depth → after place ≡ (if comes && (next == place) then coming else item place)

module _ {A : Type 0} (item after : ℕ → A) (depth bound first count next later_first later_count later_next : ℕ)
    (comes goes : Bool) (coming : A)
    (m : ItemsMove item after depth bound first count next later_first later_count later_next comes goes coming) where
  pub moved_items : items_from after depth later_first later_count
      ≡ drop (one_if goes) (items_from item depth first count ++ only_if comes coming)
  moved_items =
      let deep = m.deep in
      let place : later_first % depth ≡ (first + one_if goes) % depth = ap
      (λ k. k % depth) m.first_is ∙ mod_twice (first + one_if goes) depth in
      ap (items_from after depth later_first) m.count_is
      ∙ items_at after depth later_first (first + one_if goes) ((count + one_if comes) - one_if goes) place
      ∙ sym (items_dropped after depth first (count + one_if comes) goes m.within)
      ∙ ap (drop (one_if goes))
      (items_pushed item after depth first count next coming comes m.some m.behind (λ t. (let below = m.room t in
      omega (arith, below, deep))) m.writes)

  pub moved_behind : later_next ≡ (later_first + later_count) % depth
  moved_behind =
      let within = m.within in
      let number = m.count_is in
      let sum : (first + count) + one_if comes ≡ (first + one_if goes) + later_count = omega (arith, within, number) in
      m.next_is ∙ ap (λ k. (k + one_if comes) % depth) m.behind ∙ mod-add-mod (first + count) depth (one_if comes)
      ∙ ap (λ k. k % depth) sum
      ∙ sym (mod-add-mod (first + one_if goes) depth later_count) ∙ ap (λ k. (k + later_count) % depth) (sym m.first_is)

  few_more : (t : Bool) → (t ≡ true → count < bound) → count + one_if t ≤ bound
  few_more true room = (let below = room refl in omega (arith, below))
  few_more false room = (let few = m.few in omega (arith, few))

  pub moved_few : later_count ≤ bound
  moved_few = let all = few_more comes m.room in let number = m.count_is in omega (arith, all, number)
