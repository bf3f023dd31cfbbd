-- Bits, and addresses in bytes.
use Rattle.std.proofs.Common.{◌≡◌, ℕ, zero, suc, ◌+◌, ◌-◌, ◌*◌, ◌/◌, ◌%◌, ◌^◌, ◌<◌, ◌≤◌, Bool, true, false, not, ◌&&◌, if◌then◌else◌, ◌==◌, nat_lt, nat_eq, refl, sym, subst, ap, ◌∙◌, arith}
use Rattle.std.proofs.Math.Nat.{mod-eq_of_lt, div-lt_iff_lt-mul, zero-mod, mod_self, add-mod_right}
use Rattle.std.proofs.Math.Pow.{pow_mono}
use Rattle.std.proofs.lemmas.Nat.{pow-add, pow_pos, div-add-mod'}
use Rattle.std.proofs.lemmas.Bool.{ltb-true, ltb-false}
use Rattle.std.specs.Prelude.{Result, Ok, Err, IfOk}
use Rattle.histories.specs.History.{is_raised, one_if}
use Rattle.command_nets.specs.Levels.{level_is, is_some, one_fits}
use Rattle.mm_host.specs.Writes.{beats_of}

-- a number without its lowest bits, by a slice
pub aligned : (n bits low high made : ℕ) → low < bits → n < 2 ^ bits → high ≡ n / 2 ^ low % 2 ^ (bits - 1 - low + 1) → made ≡ high * 2 ^ low → made ≡ n - n % 2 ^ low
aligned n bits low high made few fits is raised =
    let width : bits - 1 - low + 1 ≡ bits - low = omega arith in
    let whole : bits - low + low ≡ bits = omega arith in
    let split : 2 ^ (bits - low) * 2 ^ low ≡ 2 ^ bits = sym (pow-add 2 (bits - low) low) ∙ ap (λ k. 2 ^ k) whole in
    let some : 0 < 2 ^ low = pow_pos low in
    let below : n / 2 ^ low < 2 ^ (bits - low) = (div-lt_iff_lt-mul some).1 (subst (λ k. n < k) (sym split) fits) in
    let high_is : high ≡ n / 2 ^ low = is ∙ ap (λ k. n / 2 ^ low % 2 ^ k) width ∙ mod-eq_of_lt below in
    let parts = div-add-mod' n (2 ^ low) in
    let product : made ≡ n / 2 ^ low * 2 ^ low = raised ∙ ap (λ k. k * 2 ^ low) high_is in
    omega (arith, parts, product)

pub all_low : (n bits low : ℕ) → bits ≤ low → n < 2 ^ bits → 0 ≡ n - n % 2 ^ low
all_low n bits low le fits =
    let more = pow_mono le in
    let same : n % 2 ^ low ≡ n = mod-eq_of_lt (omega (arith, fits, more)) in
    omega (arith, same)

-- no carry is lost where the sum fits, and nothing is taken from 0
count_goes : (u t v answers : ℕ) → t < 2 → v < 2 → answers ≡ one_if (is_raised v && is_raised (if u == 0 then 0 else 1)) → u + t < 32 → ((u + t % 32) % 32 + (32 - answers % 32)) % 32 ≡ (u - v) + t
count_goes zero t zero answers h k e few = (let none : answers ≡ 0 = e in omega (arith, none))
count_goes zero t (suc zero) answers h k e few = (let none : answers ≡ 0 = e in omega (arith, none))
count_goes (suc u) t zero answers h k e few = (let none : answers ≡ 0 = e in omega (arith, none))
count_goes (suc u) t (suc zero) answers h k e few = (let one : answers ≡ 1 = e ∙ ap (λ n. one_if (is_raised n)) (is_some u) in omega (arith, one))
count_goes u t (suc (suc v)) answers h k e few = absurd (omega arith)

pub next_counted : (u t v some answers more fewer sum next w : ℕ) → w ≡ 5 → t < 2 → v < 2 → answers < 2 → some ≡ (if u == 0 then 0 else 1) → is_raised answers ≡ (is_raised v && is_raised some) →
    more ≡ t % 32 → fewer ≡ answers % 32 → sum ≡ (u + more) % 2 ^ w → next ≡ (sum + (2 ^ w - fewer)) % 2 ^ w → u + one_if (is_raised t) < 32 → next ≡ (u - one_if (is_raised v)) + one_if (is_raised t)
next_counted u t v some answers more fewer sum next w five ht hv ha e1 e2 e3 e4 e5 e6 few =
    let is : answers ≡ one_if (is_raised v && is_raised (if u == 0 then 0 else 1)) = level_is answers ha ∙ ap one_if e2 ∙ ap (λ n. one_if (is_raised v && is_raised n)) e1 in
    let taken : one_if (is_raised t) ≡ t = sym (level_is t ht) in
    let came : one_if (is_raised v) ≡ v = sym (level_is v hv) in
    let room : u + t < 32 = omega arith in
    let whole : next ≡ ((u + t % 32) % 32 + (32 - answers % 32)) % 32 = e6 ∙ rw (five, e5, five, e3, e4) refl in
    whole ∙ count_goes u t v answers ht hv is room ∙ omega arith

pub raised_choice : (s a b z : ℕ) → s < 2 → z ≡ (if s == 0 then b else a) → is_raised z ≡ (if is_raised s then is_raised a else is_raised b)
raised_choice zero a b z h e = ap is_raised e
raised_choice (suc zero) a b z h e = ap is_raised e
raised_choice (suc (suc s)) a b z h e = absurd (omega arith)

-- the highest of five bits
pub top_bit : (u f : ℕ) → u < 2 ^ 5 → f ≡ u / 2 ^ 4 % 2 ^ (4 - 4 + 1) → is_raised f ≡ not (nat_lt u 16)
top_bit u f h e = by_case (nat_lt u 16) refl
  where
    by_case : (t : Bool) → nat_lt u 16 ≡ t → is_raised f ≡ not t
    by_case true below = (let low = ltb-true u 16 below in let none : f ≡ 0 = omega (arith, low, e) in ap is_raised none)
    by_case false above = (let high = ltb-false u 16 above in let one : f ≡ 1 = omega (arith, high, e, h) in ap is_raised one)

pub choice_raised : (s a b z : ℕ) → s < 2 → z ≡ (if s == 0 then b else a) → z ≡ (if is_raised s then a else b)
choice_raised zero a b z h e = e
choice_raised (suc zero) a b z h e = e
choice_raised (suc (suc s)) a b z h e = absurd (omega arith)

pub raised_if : (t : Bool) → is_raised (if t then 1 else 0) ≡ t
raised_if true = refl
raised_if false = refl

by_any : (t : Bool) (left count some beats : ℕ) → some ≡ (if t then 0 else 1) → beats ≡ (if some == 0 then count else left) → beats ≡ (if t then count else left)
by_any true left count some beats e f = f ∙ ap (λ n. if n == 0 then count else left) e
by_any false left count some beats e f = f ∙ ap (λ n. if n == 0 then count else left) e

pub beats_chosen : (left count some beats : ℕ) → some ≡ (if left == 0 then 0 else 1) → beats ≡ (if some == 0 then count else left) → beats ≡ beats_of left count
beats_chosen left count some beats e f = by_any (nat_eq left 0) left count some beats e f

fewer_below : (n limit some one fewer : ℕ) → 1 < limit → n < limit → some ≡ (if n == 0 then 0 else 1) → one ≡ some % limit → fewer ≡ (n + (limit - one)) % limit → fewer ≡ n - 1
fewer_below zero limit some one fewer two fits e1 e2 e3 =
    let none : one ≡ 0 = e2 ∙ ap (λ k. k % limit) e1 ∙ zero-mod limit in
    let whole : 0 + (limit - one) ≡ limit = omega (arith, none) in
    e3 ∙ ap (λ k. k % limit) whole ∙ mod_self limit
fewer_below (suc n) limit some one fewer two fits e1 e2 e3 =
    let single : one ≡ 1 = e2 ∙ ap (λ k. k % limit) (e1 ∙ is_some n) ∙ mod-eq_of_lt two in
    let whole : suc n + (limit - one) ≡ n + limit = omega (arith, single) in
    e3 ∙ ap (λ k. k % limit) whole ∙ add-mod_right n limit ∙ mod-eq_of_lt (omega arith) ∙ omega arith

pub fewer_is : (n bits some one fewer : ℕ) → 1 ≤ bits → n < 2 ^ bits → some ≡ (if n == 0 then 0 else 1) → one ≡ some % 2 ^ bits → fewer ≡ (n + (2 ^ bits - one)) % 2 ^ bits → fewer ≡ n - 1
fewer_is n bits some one fewer some_bit fits e1 e2 e3 = fewer_below n (2 ^ bits) some one fewer (one_fits bits some_bit) fits e1 e2 e3

-- two facts of an outcome together
pub if_both : {X E : Type 0} (r : Result X E) (P Q R : X → Type 0) → ((x : X) → P x → Q x → R x) → IfOk r P → IfOk r Q → IfOk r R
if_both (Ok x) P Q R f h k = f x h k
if_both (Err e) P Q R f h k = tt

pub raised_any : (t : Bool) (some : ℕ) → some ≡ (if t then 0 else 1) → is_raised some ≡ not t
raised_any true some e = ap is_raised e
raised_any false some e = ap is_raised e

pub at_most_one : (b : Bool) → one_if b ≤ 1
at_most_one true = omega arith
at_most_one false = omega arith

pub and_false : (b : Bool) → (b && false) ≡ false
and_false true = refl
and_false false = refl

-- only a read that lacks words gets one
gets_few : (goes : Bool) (lacks : ℕ) → one_if (goes && not (nat_eq lacks 0)) ≤ lacks
gets_few goes zero = (let none : one_if (goes && false) ≡ 0 = ap one_if (and_false goes) in omega (arith, none))
gets_few goes (suc lacks) = (let few = at_most_one (goes && not (nat_eq (suc lacks) 0)) in omega (arith, few))

pub got_counted : (bits got lacks goes last some more step sum zeros next : ℕ) → 1 ≤ bits → last < 2 → more < 2 → some ≡ (if lacks == 0 then 0 else 1) → is_raised more ≡ (is_raised goes && is_raised some) →
    step ≡ more % 2 ^ bits → sum ≡ (got + step) % 2 ^ bits → zeros ≡ 0 → next ≡ (if last == 0 then sum else zeros) → got + lacks < 2 ^ bits → next ≡ (if is_raised last then 0 else got + one_if (is_raised goes && not (nat_eq lacks 0)))
got_counted bits got lacks goes last some more step sum zeros next some_bit hl hm e1 e2 e3 e4 e5 e6 room =
    let two = one_fits bits some_bit in
    let is : more ≡ one_if (is_raised goes && not (nat_eq lacks 0)) = level_is more hm ∙ ap one_if (e2 ∙ ap (λ t. is_raised goes && t) (raised_any (nat_eq lacks 0) some e1)) in
    let few = gets_few (is_raised goes) lacks in
    let step_is : step ≡ more = e3 ∙ mod-eq_of_lt (omega (arith, hm, two)) in
    let whole : (got + step) % 2 ^ bits ≡ got + step = mod-eq_of_lt (omega (arith, step_is, is, few, room)) in
    let sum_is : sum ≡ got + one_if (is_raised goes && not (nat_eq lacks 0)) = e4 ∙ whole ∙ ap (λ n. got + n) (step_is ∙ is) in
    choice_raised last zeros sum next hl e6 ∙ ap (λ n. if is_raised last then n else sum) e5 ∙ ap (λ n. if is_raised last then 0 else n) sum_is

-- no borrow where the difference fits
pub difference : (beats got limit : ℕ) → beats < limit → got ≤ beats → {lacks : ℕ} → lacks ≡ (beats + (limit - got)) % limit → lacks ≡ beats - got
difference beats got limit fits few {lacks} e =
    let whole : beats + (limit - got) ≡ (beats - got) + limit = omega arith in
    e ∙ ap (λ n. n % limit) whole ∙ add-mod_right (beats - got) limit ∙ mod-eq_of_lt (omega arith)

-- a number above 16 takes five bits
pub five_bits : (bits : ℕ) → 16 < 2 ^ bits → 5 ≤ bits
five_bits bits high = by_case (nat_lt bits 5) refl
  where
    by_case : (t : Bool) → nat_lt bits 5 ≡ t → 5 ≤ bits
    by_case true below = (let low = ltb-true bits 5 below in let few : bits ≤ 4 = omega (arith, low) in let most = pow_mono few in absurd (omega (arith, most, high)))
    by_case false above = ltb-false bits 5 above
