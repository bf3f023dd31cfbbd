-- Places as bits of a number.
use Rattle.std.proofs.Common.{◌≡◌, ℕ, zero, suc, ◌+◌, ◌-◌, ◌*◌, ◌/◌, ◌%◌, ◌^◌, ◌<◌, Bool, true, false, ◌&&◌, ◌||◌, nat_eq, nat_le, nat_lt, List, [], ◌∷◌, Option, Some, None, refl, sym, ap, ◌∙◌, arith}
use Rattle.std.proofs.lemmas.Bool.{eqb-true, eqb-false, eq-eqb, ne_eqb}
use Rattle.std.proofs.lemmas.Nat.{pow-add}
use Rattle.std.proofs.Math.Nat.{div-div-eq-div-mul, mul-div_cancel, mod-eq-sub-div-mul, div-mul-le_self}
use Rattle.std.specs.Int.{bit_at}
use Rattle.histories.specs.History.{one_if}
use Rattle.memory_runs.specs.Views.{Kind}
use Rattle.memory_runs.specs.Order.{is_agent}
use Rattle.memory_parts.specs.Route.{is_same_place}
use Rattle.memory_runs.specs.declared.sides.route.Route.{Route}
use Rattle.mm_route.specs.Entries.{IsEntry, AreEntries, is_inside, holds, serves, hits, place_bits}
use Rattle.mm_route.specs.Machine.{has_entry, AreHeld, HoldWords}
use Rattle.mm_route.proofs.Decoding.{same_footprint, power_some}

-- ---- the decoder's bits are those of the place

-- the place has an entry, or is the default agent
abbrev pub IsPlace : List Route → Option ℕ → Type 0
IsPlace entries place = (agent : ℕ) → place ≡ Some agent → has_entry entries agent ≡ true

pub default_place : (entries : List Route) → IsPlace entries None
default_place entries agent e = cc

some_word : (words word_bytes size : ℕ) → 0 < size → size ≡ words * word_bytes → 0 < word_bytes
some_word words zero size h e = absurd (omega (arith, h, e))
some_word words (suc word_bytes) size h e = omega arith

quotient_same : (words word_bytes size address : ℕ) → 0 < size → size ≡ words * word_bytes → (address * 1 - address * 1 % word_bytes) / size ≡ address / size
quotient_same words word_bytes size address some e =
    let one : address * 1 ≡ address = omega arith in
    let rest : address - address % word_bytes ≡ address / word_bytes * word_bytes = (let m = mod-eq-sub-div-mul address word_bytes in let le = div-mul-le_self address word_bytes in omega (arith, m, le)) in
    let whole : address * 1 - address * 1 % word_bytes ≡ address / word_bytes * word_bytes = ap (λ n. n - n % word_bytes) one ∙ rest in
    let size_is : word_bytes * words ≡ size = omega (arith, e) in
    ap (λ n. n / size) whole ∙ ap (λ n. address / word_bytes * word_bytes / n) (sym size_is) ∙ sym (div-div-eq-div-mul (address / word_bytes * word_bytes) word_bytes words)
    ∙ ap (λ n. n / words) (mul-div_cancel (address / word_bytes) (some_word words word_bytes size some e))
    ∙ div-div-eq-div-mul address word_bytes words ∙ ap (λ n. address / n) size_is

inside_by : (entry : Route) (width address : ℕ) (h : IsEntry width entry) → is_inside entry address ≡ nat_eq (address / 2 ^ entry.bits) h.footprints
inside_by entry width address h =
    ap (λ n. nat_le n address && nat_lt address (n + 2 ^ entry.bits)) h.base ∙ sym (same_footprint h.footprints address (2 ^ entry.bits) (power_some entry.bits))

holds_alike : (entry : Route) (width words word_bytes address byte : ℕ) (kind : Kind) → IsEntry width entry → 2 ^ entry.bits ≡ words * word_bytes → byte ≡ address * 1 - address * 1 % word_bytes → holds entry kind byte ≡ holds entry kind address
holds_alike entry width words word_bytes address byte kind h e is =
    ap (λ t. serves entry kind && t) (inside_by entry width byte h
    ∙ ap (λ n. nat_eq n h.footprints) (ap (λ n. n / 2 ^ entry.bits) is ∙ quotient_same words word_bytes (2 ^ entry.bits) address (power_some entry.bits) e)
    ∙ sym (inside_by entry width address h))

pub hits_are : (entries : List Route) (width word_bytes address byte : ℕ) (kind : Kind) (place : Option ℕ) → AreEntries width entries → HoldWords word_bytes entries → byte ≡ address * 1 - address * 1 % word_bytes → AreHeld entries kind byte place → hits entries kind address ≡ place_bits entries place
hits_are [] width word_bytes address byte kind place h w e held = refl
hits_are (entry ∷ later) width word_bytes address byte kind place h w e held =
    ap (λ t. one_if t + 2 * hits later kind address) (sym (holds_alike entry width w.0.0 word_bytes address byte kind h.0 w.0.1 e) ∙ sym held.0)
    ∙ ap (λ n. one_if (is_agent entry.agent place) + 2 * n) (hits_are later width word_bytes address byte kind place h.1 w.1 e held.1)

-- ---- equal places have equal bits

pub none_bits : (entries : List Route) → place_bits entries None ≡ 0
none_bits [] = refl
none_bits (entry ∷ later) = let e = none_bits later in omega (arith, e)

some_step : (t rest : Bool) (x : ℕ) → (t || rest) ≡ true → (rest ≡ true → 0 < x) → 0 < one_if t + 2 * x
some_step true rest x e f = omega arith
some_step false rest x e f = let some = f e in omega (arith, some)

some_bits : (entries : List Route) (agent : ℕ) → has_entry entries agent ≡ true → 0 < place_bits entries (Some agent)
some_bits [] agent h = cc
some_bits (entry ∷ later) agent h = some_step (nat_eq entry.agent agent) (has_entry later agent) (place_bits later (Some agent)) h (some_bits later agent)

low_same : (s t : Bool) (x y : ℕ) → one_if s + 2 * x ≡ one_if t + 2 * y → (s ≡ t) × (x ≡ y)
low_same true true x y e = (refl, omega arith)
low_same false false x y e = (refl, omega arith)
low_same true false x y e = absurd (omega arith)
low_same false true x y e = absurd (omega arith)

apart_step : (s t rest : Bool) (here one other : ℕ) → nat_eq here one ≡ s → nat_eq here other ≡ t → s ≡ t → (s || rest) ≡ true → (rest ≡ true → one ≡ other) → one ≡ other
apart_step true t rest here one other p q same h f = sym (eqb-true here one p) ∙ eqb-true here other (q ∙ sym same)
apart_step false t rest here one other p q same h f = f h

apart_bits : (entries : List Route) (one other : ℕ) → has_entry entries one ≡ true → place_bits entries (Some one) ≡ place_bits entries (Some other) → one ≡ other
apart_bits [] one other h e = cc
apart_bits (entry ∷ later) one other h e =
    let both = low_same (nat_eq entry.agent one) (nat_eq entry.agent other) (place_bits later (Some one)) (place_bits later (Some other)) e in
    apart_step (nat_eq entry.agent one) (nat_eq entry.agent other) (has_entry later one) entry.agent one other refl refl both.0 h (λ k. apart_bits later one other k both.1)

pub same_place : (entries : List Route) (one other : Option ℕ) → IsPlace entries one → IsPlace entries other → nat_eq (place_bits entries one) (place_bits entries other) ≡ is_same_place one other
same_place entries None None h k = eq-eqb _ _ refl
same_place entries None (Some b) h k = ne_eqb _ _ (λ e. (let none = none_bits entries in let some = some_bits entries b (k b refl) in omega (arith, none, some, e)))
same_place entries (Some a) None h k = ne_eqb _ _ (λ e. (let none = none_bits entries in let some = some_bits entries a (h a refl) in omega (arith, none, some, e)))
same_place entries (Some a) (Some b) h k = by_test (nat_eq a b) refl
  where
    by_test : (t : Bool) → nat_eq a b ≡ t → nat_eq (place_bits entries (Some a)) (place_bits entries (Some b)) ≡ nat_eq a b
    by_test true e = eq-eqb _ _ (ap (λ n. place_bits entries (Some n)) (eqb-true a b e)) ∙ sym e
    by_test false e = ne_eqb _ _ (λ p. eqb-false a b e (apart_bits entries a b (h a refl) p)) ∙ sym e

-- ---- each bit

-- the bits from this one on say whether the place is that of their entry
abbrev pub BitsFrom : ℕ → ℕ → List Route → Option ℕ → Type 0
BitsFrom k bits [] place = Unit {0}
BitsFrom k bits (entry ∷ later) place = (bit_at bits k ≡ one_if (is_agent entry.agent place)) × BitsFrom (k + 1) bits later place

lowest : (t : Bool) (n x : ℕ) → n ≡ one_if t + 2 * x → (n % 2 ≡ one_if t) × (n / 2 ≡ x)
lowest true n x e = (omega (arith, e), omega (arith, e))
lowest false n x e = (omega (arith, e), omega (arith, e))

pub bits_from : (k bits : ℕ) (entries : List Route) (place : Option ℕ) → bits / 2 ^ k ≡ place_bits entries place → BitsFrom k bits entries place
bits_from k bits [] place e = tt
bits_from k bits (entry ∷ later) place e =
    let low = lowest (is_agent entry.agent place) (bits / 2 ^ k) (place_bits later place) e in
    let more : 2 ^ k * 2 ≡ 2 ^ (k + 1) = sym (pow-add 2 k 1) in
    let next : bits / 2 ^ (k + 1) ≡ bits / 2 ^ k / 2 = ap (λ n. bits / n) (sym more) ∙ sym (div-div-eq-div-mul bits (2 ^ k) 2) in
    (low.0, bits_from (k + 1) bits later place (next ∙ low.1))
