-- Levels of one bit, and what the makers of a route compute of them.
use Rattle.std.proofs.Common.{◌≡◌, ℕ, zero, suc, ◌+◌, ◌-◌, ◌/◌, ◌%◌, ◌^◌, ◌<◌, ◌≤◌, Bool, true, false, not, ◌&&◌, ◌||◌, ◌==◌, if◌then◌else◌, nat_eq, nat_lt, bit_and, bit_or, [], ◌∷◌, refl, sym, subst, ap, ◌∙◌, arith}
use Rattle.std.proofs.lemmas.Grind.{common_steps}
use Rattle.std.proofs.Math.Nat.{mod-eq_of_lt, add-mod_right}
use Rattle.std.specs.Int.{bit_at}
use Rattle.histories.specs.History.{is_raised, one_if}
use Rattle.command_nets.specs.Levels.{level_is, one_fits}
use Rattle.mm_route.specs.Backward.{IsNextOwed}

pub bit_is : (x k here : ℕ) → here ≡ x / 2 ^ k % 2 ^ (k - k + 1) → here ≡ bit_at x k
bit_is x k here e = let one : k - k + 1 ≡ 1 = omega arith in e ∙ ap (λ n. x / 2 ^ k % 2 ^ n) one

pub bit_at_fits : (x k : ℕ) → bit_at x k < 2
bit_at_fits x k = omega arith

pub and_fits : (x y z : ℕ) → x < 2 → y < 2 → z ≡ bit_and x y → z < 2
and_fits zero zero z h k e = omega (arith, e)
and_fits zero (suc zero) z h k e = omega (arith, e)
and_fits (suc zero) zero z h k e = omega (arith, e)
and_fits (suc zero) (suc zero) z h k e = omega (arith, e)
and_fits (suc (suc x)) y z h k e = absurd (omega arith)
and_fits zero (suc (suc y)) z h k e = absurd (omega arith)
and_fits (suc zero) (suc (suc y)) z h k e = absurd (omega arith)

-- a level that is shown where its place is this one and the gate is up
pub shown_level : (here gate goes level made : ℕ) → here < 2 → gate < 2 → level < 2 → goes ≡ bit_and here gate → made ≡ bit_and goes level → made ≡ (if (here == 1) && is_raised gate then level else 0)
shown_level zero zero goes zero made h k l e f = f ∙ ap (λ g. bit_and g 0) e
shown_level zero zero goes (suc zero) made h k l e f = f ∙ ap (λ g. bit_and g 1) e
shown_level zero (suc zero) goes zero made h k l e f = f ∙ ap (λ g. bit_and g 0) e
shown_level zero (suc zero) goes (suc zero) made h k l e f = f ∙ ap (λ g. bit_and g 1) e
shown_level (suc zero) zero goes zero made h k l e f = f ∙ ap (λ g. bit_and g 0) e
shown_level (suc zero) zero goes (suc zero) made h k l e f = f ∙ ap (λ g. bit_and g 1) e
shown_level (suc zero) (suc zero) goes zero made h k l e f = f ∙ ap (λ g. bit_and g 0) e
shown_level (suc zero) (suc zero) goes (suc zero) made h k l e f = f ∙ ap (λ g. bit_and g 1) e
shown_level (suc (suc here)) gate goes level made h k l e f = absurd (omega arith)
shown_level here (suc (suc gate)) goes level made h k l e f = absurd (omega arith)
shown_level here gate goes (suc (suc level)) made h k l e f = absurd (omega arith)

pub owes_level : (owed owes : ℕ) → owes ≡ (if owed == 0 then 0 else 1) → owes ≡ one_if (nat_lt 0 owed)
owes_level owed owes e = grind (arith, common_steps)

some_raised : (t : Bool) → not (is_raised (if t then 0 else 1)) ≡ t
some_raised true = refl
some_raised false = refl

one_raised : (t : Bool) → is_raised (if t then 1 else 0) ≡ t
one_raised true = refl
one_raised false = refl

three_or : (r s t : Bool) → (r || (s || t)) ≡ (r || s || t)
three_or true s t = refl
three_or false true t = refl
three_or false false t = refl

-- the gate's nets, one after the other
pub gate_level : (write owed owing place owes free same reads gate : ℕ) → owes ≡ (if owed == 0 then 0 else 1) → is_raised free ≡ not (is_raised owes) → same ≡ (if owing == place then 1 else 0) →
    is_raised reads ≡ (is_raised free || is_raised same) → is_raised gate ≡ (is_raised write || is_raised reads) → is_raised gate ≡ (is_raised write || nat_eq owed 0 || nat_eq owing place)
gate_level write owed owing place owes free same reads gate e f g h i =
    let none : is_raised free ≡ nat_eq owed 0 = f ∙ ap (λ n. not (is_raised n)) e ∙ some_raised (nat_eq owed 0) in
    let here : is_raised same ≡ nat_eq owing place = ap is_raised g ∙ one_raised (nat_eq owing place) in
    i ∙ ap (λ t. is_raised write || t) (h ∙ ap (λ t. t || is_raised same) none ∙ ap (λ t. nat_eq owed 0 || t) here) ∙ three_or (is_raised write) (nat_eq owed 0) (nat_eq owing place)

-- ---- what is taken

taken_so : (read write wait : ℕ) → read < 2 → write < 2 → wait < 2 → is_raised (bit_and (bit_or read write) (2 ^ 1 - 1 - wait)) ≡ ((is_raised read || is_raised write) && not (is_raised wait))
taken_so zero zero zero h k l = refl
taken_so zero zero (suc zero) h k l = refl
taken_so zero (suc zero) zero h k l = refl
taken_so zero (suc zero) (suc zero) h k l = refl
taken_so (suc zero) zero zero h k l = refl
taken_so (suc zero) zero (suc zero) h k l = refl
taken_so (suc zero) (suc zero) zero h k l = refl
taken_so (suc zero) (suc zero) (suc zero) h k l = refl
taken_so (suc (suc read)) write wait h k l = absurd (omega arith)
taken_so read (suc (suc write)) wait h k l = absurd (omega arith)
taken_so read write (suc (suc wait)) h k l = absurd (omega arith)

pub taken_level : (width read write wait asks ready beat : ℕ) → width ≡ 1 → read < 2 → write < 2 → wait < 2 → asks ≡ bit_or read write → ready ≡ 2 ^ width - 1 - wait → beat ≡ bit_and asks ready →
    is_raised beat ≡ ((is_raised read || is_raised write) && not (is_raised wait))
taken_level width read write wait asks ready beat one h k l e f g =
    ap is_raised (g ∙ ap (λ n. bit_and n ready) e ∙ ap (bit_and (bit_or read write)) (f ∙ ap (λ n. 2 ^ n - 1 - wait) one)) ∙ taken_so read write wait h k l

-- a choice by a bit
pub by_raised : {X : Type 0} (bit : ℕ) (t : Bool) (x y : X) → bit < 2 → is_raised bit ≡ t → (if bit == 0 then y else x) ≡ (if t then x else y)
by_raised zero t x y h e = ap (λ s. if s then x else y) e
by_raised (suc zero) t x y h e = ap (λ s. if s then x else y) e
by_raised (suc (suc bit)) t x y h e = absurd (omega arith)

-- ---- the debt

pub asked_level : (bits taken count words none asked : ℕ) → 1 ≤ bits → taken < 2 → words ≡ count % 2 ^ bits → none ≡ 0 → asked ≡ (if taken == 0 then none else words) → asked ≡ (if is_raised taken then count else 0) % 2 ^ bits
asked_level bits zero count words none asked some h e f g = g ∙ f ∙ sym (mod-eq_of_lt (let k = one_fits bits some in omega (arith, k)))
asked_level bits (suc zero) count words none asked some h e f g = g ∙ e
asked_level bits (suc (suc taken)) count words none asked some h e f g = absurd (omega arith)

wraps : (room sum word : ℕ) → sum < room → word ≤ sum → (sum + (room - word)) % room + word ≡ sum
wraps room sum word h le =
    let rest : sum + (room - word) ≡ (sum - word) + room = omega (arith, h, le) in
    let small : (sum - word) % room ≡ sum - word = mod-eq_of_lt (omega (arith, h)) in
    let is : (sum + (room - word)) % room ≡ sum - word = ap (λ n. n % room) rest ∙ add-mod_right (sum - word) room ∙ small in
    omega (arith, is, le)

pub owed_level : (bits wide wider owed asked valid sum word next : ℕ) → 1 ≤ bits → wide ≡ bits → wider ≡ bits → valid < 2 → sum ≡ (owed + asked) % 2 ^ wide → word ≡ valid % 2 ^ bits → next ≡ (sum + (2 ^ wider - word)) % 2 ^ wider →
    IsNextOwed (2 ^ bits) owed asked (one_if (is_raised valid)) next
owed_level bits wide wider owed asked valid sum word next some w x h e f g few enough =
    let two = one_fits bits some in
    let level = sym (level_is valid h) in
    let is_word : word ≡ valid = f ∙ mod-eq_of_lt (omega (arith, two, h)) in
    let is_sum : sum ≡ owed + asked = e ∙ ap (λ n. (owed + asked) % 2 ^ n) w ∙ mod-eq_of_lt few in
    let is : next ≡ (owed + asked + (2 ^ bits - valid)) % 2 ^ bits = g ∙ ap (λ n. (sum + (2 ^ n - word)) % 2 ^ n) x ∙ ap (λ n. (n + (2 ^ bits - word)) % 2 ^ bits) is_sum ∙ ap (λ n. (owed + asked + (2 ^ bits - n)) % 2 ^ bits) is_word in
    let back = wraps (2 ^ bits) (owed + asked) valid few (omega (arith, level, enough)) in
    ap (λ n. next + n) level ∙ ap (λ n. n + valid) is ∙ back

-- words that fit are not cut
pub owed_uncut : (room owed asked words next : ℕ) → IsNextOwed room owed (asked % room) words next → IsNextOwed room owed asked words next
owed_uncut room owed asked words next h few enough =
    let same : asked % room ≡ asked = mod-eq_of_lt (omega (arith, few)) in
    (subst (λ n. IsNextOwed room owed n words next) same h) few enough

-- ---- the wait and the word above

pub three_are : (x y z a : ℕ) → x ≡ a → y ≡ 0 → z ≡ 3 → (x ∷ y ∷ z ∷ []) ≡ (a ∷ 0 ∷ 3 ∷ [])
three_are x y z a e f g = cc
