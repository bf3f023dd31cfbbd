-- The operations of a host on both sides of an arbiter.
use Rattle.std.proofs.Common.{ℕ, zero, suc, ◌<◌, ◌≤◌, ◌≡◌, ◌+◌, Bool, true, false, List, [], ◌∷◌, ◌++◌, arith, refl, sym, ap, ◌∙◌, nat_eq, length, map, filter, IsFalse, tests, if◌then◌else◌, append-nil, length-append}
use Rattle.memory_runs.specs.Views.{System, Shape}
use Rattle.memory_runs.specs.Operations.{Operation}
use Rattle.memory_runs.specs.Order.{of_host, Tagged, has_tag}
use Rattle.memory_machines.specs.Lines.{tagged_operations, groups_of, with_tag, TaggedPort}
use Rattle.memory_machines.specs.Link.{Target, Port, Marked, takes, taken_at, marked_at, operations_among, operations_in}
use Rattle.memory_parts.specs.Steps.{IsArbiterPart}
use Rattle.memory_waits.proofs.Bits.{none_taken, one_taken}

-- ---- operations with one tag
pub host_ops : (tag : ℕ) (ops : List Operation) (h : ℕ) → length (of_host h (map (λ o. record { tag = tag; operation = o }) ops)) ≡ (if nat_eq tag h then length ops else 0)
host_ops tag [] h = by_same (nat_eq tag h)
  where
    by_same : (b : Bool) → zero ≡ (if b then zero else zero)
    by_same true = refl
    by_same false = refl
host_ops tag (o ∷ ops) h = by_same (nat_eq tag h) (host_ops tag ops h)
  where
    by_same : (b : Bool) → length (of_host h (map (λ o. record { tag = tag; operation = o }) ops)) ≡ (if b then length ops else 0) →
        length (map (λ (t : Tagged). t.operation) (if b then record { tag = tag; operation = o } ∷ filter (has_tag h) (map (λ o. record { tag = tag; operation = o }) ops) else filter (has_tag h) (map (λ o. record { tag = tag; operation = o }) ops)))
        ≡ (if b then suc (length ops) else 0)
    by_same true more = ap suc more
    by_same false more = more

pub of_host_append : (h : ℕ) (xs ys : List Tagged) → length (of_host h (xs ++ ys)) ≡ length (of_host h xs) + length (of_host h ys)
of_host_append h [] ys = omega arith
of_host_append h (x ∷ xs) ys = by_same (has_tag h x) (of_host_append h xs ys)
  where
    by_same : (b : Bool) → length (of_host h (xs ++ ys)) ≡ length (of_host h xs) + length (of_host h ys) →
        length (map (λ (t : Tagged). t.operation) (if b then x ∷ filter (has_tag h) (xs ++ ys) else filter (has_tag h) (xs ++ ys)))
        ≡ length (map (λ (t : Tagged). t.operation) (if b then x ∷ filter (has_tag h) xs else filter (has_tag h) xs)) + length (of_host h ys)
    by_same true more = omega (arith, more)
    by_same false more = more

pub tagged_of_host : (target : Target) (shape : Shape) (ms : List Marked) (h : ℕ) → length (of_host h (tagged_operations (groups_of target shape ms))) ≡ length (operations_among target shape (with_tag h ms))
tagged_of_host target shape [] h = refl
tagged_of_host target shape (m ∷ ms) h = by_same (nat_eq m.tag h) refl (tagged_of_host target shape ms h)
  where
    by_same : (b : Bool) → nat_eq m.tag h ≡ b → length (of_host h (tagged_operations (groups_of target shape ms))) ≡ length (operations_among target shape (with_tag h ms)) →
        length (of_host h (map (λ o. record { tag = m.tag; operation = o }) (operations_in target shape m) ++ tagged_operations (groups_of target shape ms)))
        ≡ length (operations_among target shape (if b then m ∷ with_tag h ms else with_tag h ms))
    by_same true e more =
        let split = of_host_append h (map (λ o. record { tag = m.tag; operation = o }) (operations_in target shape m)) (tagged_operations (groups_of target shape ms)) in
        let one : length (of_host h (map (λ o. record { tag = m.tag; operation = o }) (operations_in target shape m))) ≡ length (operations_in target shape m) = host_ops m.tag (operations_in target shape m) h ∙ ap (λ b. if b then length (operations_in target shape m) else 0) e in
        let long = length-append (operations_in target shape m) (operations_among target shape (with_tag h ms)) in
        omega (arith, split, one, long, more)
    by_same false e more =
        let split = of_host_append h (map (λ o. record { tag = m.tag; operation = o }) (operations_in target shape m)) (tagged_operations (groups_of target shape ms)) in
        let one : length (of_host h (map (λ o. record { tag = m.tag; operation = o }) (operations_in target shape m))) ≡ 0 = host_ops m.tag (operations_in target shape m) h ∙ ap (λ b. if b then length (operations_in target shape m) else 0) e in
        omega (arith, split, one, more)

-- operations are told by the bytes of a word alone
pub same_operations : (target : Target) (one other : Shape) (m : Marked) → one.word_bytes ≡ other.word_bytes → operations_in target one m ≡ operations_in target other m
same_operations target one other m e = ap (λ w. operations_in target (record one { word_bytes = w }) m) e

pub more_operations : (target : Target) (shape : Shape) (xs : List Marked) (m : Marked) → length (operations_among target shape (xs ++ m ∷ [])) ≡ length (operations_among target shape xs) + length (operations_in target shape m)
more_operations target shape [] m = let same = ap length (append-nil (operations_in target shape m)) in omega (arith, same)
more_operations target shape (x ∷ xs) m =
    let more = more_operations target shape xs m in
    let one = length-append (operations_in target shape x) (operations_among target shape (xs ++ m ∷ [])) in
    let two = length-append (operations_in target shape x) (operations_among target shape xs) in
    omega (arith, more, one, two)

-- what an arbiter takes of an asker is what it takes below with that tag
pub own_taken : (system : System) (agent : ℕ) (up : ℕ → Port) (down : TaggedPort) (end : ℕ) → IsArbiterPart system agent up down end → (target : Target) (h : ℕ) → h < system.hosts → (up h).shape.word_bytes ≡ down.shape.word_bytes →
    (c : ℕ) → c ≤ end → length (operations_among target (up h).shape (taken_at (up h) c)) ≡ length (operations_among target down.shape (with_tag h (taken_at down.port c)))
own_taken system agent up down end part target h low word zero fit = refl
own_taken system agent up down end part target h low word (suc c) fit = by_take (takes down.port c) refl (nat_eq (down.commands.tag c) h) refl (own_taken system agent up down end part target h low word c (omega (arith, fit)))
  where
    tag_append : (xs : List Marked) (m : Marked) → with_tag h (xs ++ m ∷ []) ≡ with_tag h xs ++ (if nat_eq m.tag h then m ∷ [] else [])
    tag_append [] m = refl
    tag_append (x ∷ xs) m = by_tag (nat_eq x.tag h) (tag_append xs m)
      where
        by_tag : (b : Bool) → with_tag h (xs ++ m ∷ []) ≡ with_tag h xs ++ (if nat_eq m.tag h then m ∷ [] else []) →
            (if b then x ∷ with_tag h (xs ++ m ∷ []) else with_tag h (xs ++ m ∷ [])) ≡ (if b then x ∷ with_tag h xs else with_tag h xs) ++ (if nat_eq m.tag h then m ∷ [] else [])
        by_tag true e = ap (λ l. x ∷ l) e
        by_tag false e = e

    not_own : nat_eq (down.commands.tag c) h ≡ false → (b : Bool) → takes (up h) c ≡ b → IsFalse b
    not_own e true eb = let tag = part.tagged h c low (omega (arith, fit)) eb in absurd (grind (arith, tests, e, tag))
    not_own e false eb = refl

    by_take : (t : Bool) → takes down.port c ≡ t → (s : Bool) → nat_eq (down.commands.tag c) h ≡ s →
        length (operations_among target (up h).shape (taken_at (up h) c)) ≡ length (operations_among target down.shape (with_tag h (taken_at down.port c))) →
        length (operations_among target (up h).shape (taken_at (up h) (suc c))) ≡ length (operations_among target down.shape (with_tag h (taken_at down.port (suc c))))
    by_take true et true es more =
        let tag : down.commands.tag c ≡ h = grind (arith, tests, es) in
        let above = part.taken h c low (omega (arith, fit)) tag ∙ et in
        let same = part.same h c low (omega (arith, fit)) tag et in
        let left = ap (λ l. length (operations_among target (up h).shape l)) (one_taken (up h) c above) ∙ more_operations target (up h).shape (taken_at (up h) c) (marked_at (up h) c) in
        let right = ap (λ l. length (operations_among target down.shape (with_tag h l))) (one_taken down.port c et)
        ∙ ap (λ l. length (operations_among target down.shape l)) (tag_append (taken_at down.port c) (marked_at down.port c) ∙ ap (λ b. with_tag h (taken_at down.port c) ++ (if b then marked_at down.port c ∷ [] else [])) es)
        ∙ more_operations target down.shape (with_tag h (taken_at down.port c)) (marked_at down.port c) in
        let one = ap length (same_operations target (up h).shape down.shape (marked_at (up h) c) word ∙ ap (operations_in target down.shape) same) in
        omega (arith, left, right, one, more)
    by_take true et false es more =
        let left = ap (λ l. length (operations_among target (up h).shape l)) (none_taken (up h) c (not_own es (takes (up h) c) refl)) in
        let right = ap (λ l. length (operations_among target down.shape (with_tag h l))) (one_taken down.port c et)
        ∙ ap (λ l. length (operations_among target down.shape l)) (tag_append (taken_at down.port c) (marked_at down.port c) ∙ ap (λ b. with_tag h (taken_at down.port c) ++ (if b then marked_at down.port c ∷ [] else [])) es ∙ append-nil (with_tag h (taken_at down.port c))) in
        left ∙ more ∙ sym right
    by_take false et true es more =
        let tag : down.commands.tag c ≡ h = grind (arith, tests, es) in
        let above = part.taken h c low (omega (arith, fit)) tag ∙ et in
        ap (λ l. length (operations_among target (up h).shape l)) (none_taken (up h) c above) ∙ more ∙ sym (ap (λ l. length (operations_among target down.shape (with_tag h l))) (none_taken down.port c et))
    by_take false et false es more =
        ap (λ l. length (operations_among target (up h).shape l)) (none_taken (up h) c (not_own es (takes (up h) c) refl)) ∙ more ∙ sym (ap (λ l. length (operations_among target down.shape (with_tag h l))) (none_taken down.port c et))
