-- The first of several bits that is high.
use Rattle.std.specs.Prelude.{ℕ, zero, suc, ◌+◌, ◌-◌, ◌<◌, ◌≤◌, ◌≡◌, ◌⊎◌, ◌==◌, Bool, true, false, ◌||◌, ◌&&◌, nat_lt, if◌then◌else◌, IsTrue, List, [], ◌∷◌, length, take, drop}
use Rattle.std.proofs.Common.{refl, sym, ap, ◌∙◌, inl, inr, arith, subst, get_or}
use Rattle.std.proofs.Math.Seq.{take-length}
use Rattle.std.proofs.lemmas.Bool.{cases_Bool, cond-true, cond-false}
use Rattle.netlist.specs.Nets.{NetValue}
use Rattle.netlist.specs.Runs.{Cycle}

-- net k is high in the cycle
abbrev pub is_set : Cycle → List NetValue → ℕ → Bool
is_set cycle [] k = false
is_set cycle (net ∷ nets) zero = cycle.net net.number == 1
is_set cycle (net ∷ nets) (suc k) = is_set cycle nets k

-- one of the nets is high
abbrev pub some_set : Cycle → List NetValue → Bool
some_set cycle [] = false
some_set cycle (net ∷ nets) = (cycle.net net.number == 1) || some_set cycle nets

-- the first of them that is high, or the last one, counted from this number on
abbrev pub first_set : Cycle → List NetValue → ℕ → ℕ
first_set cycle [] from = from
first_set cycle (net ∷ []) from = from
first_set cycle (net ∷ (next ∷ nets)) from = if cycle.net net.number == 1 then from else first_set cycle (next ∷ nets) (from + 1)

-- input k asks, and comes behind the holder
abbrev pub asks_behind : List NetValue → NetValue → Cycle → ℕ → Bool
asks_behind asks holder cycle k = is_set cycle asks k && nat_lt (cycle.net holder.number) k

-- ---- laws. No contract reads a proof of these

pub first_is_one : (cycle : Cycle) (nets : List NetValue) (from : ℕ) → 0 < length nets
    → (from ≤ first_set cycle nets from) × (first_set cycle nets from < from + length nets)
first_is_one cycle [] from some = absurd (omega arith)
first_is_one cycle (net ∷ []) from some = (omega arith, omega arith)
first_is_one cycle (net ∷ (next ∷ nets)) from some =
    by_bit (cycle.net net.number == 1) (first_is_one cycle (next ∷ nets) (from + 1) (omega arith))
  where
    by_bit : (b : Bool)
        → (from + 1 ≤ first_set cycle (next ∷ nets) (from + 1))
        × (first_set cycle (next ∷ nets) (from + 1) < from + 1 + length (next ∷ nets))
        → (from ≤ (if b then from else first_set cycle (next ∷ nets) (from + 1)))
        × ((if b then from else first_set cycle (next ∷ nets) (from + 1)) < from + length (net ∷ (next ∷ nets)))
    by_bit true rest = (omega arith, omega arith)
    by_bit false rest = let low = rest.0 in let high = rest.1 in (omega (arith, low), omega (arith, high))

-- where net k is high the first that is comes no later, and is high
pub first_comes_first : (cycle : Cycle) (nets : List NetValue) (from k : ℕ) → IsTrue (is_set cycle nets k)
    → (first_set cycle nets from ≤ from + k) × IsTrue (is_set cycle nets (first_set cycle nets from - from))
first_comes_first cycle [] from k high = absurd (let p : ◌≡◌ {A = Bool} false true = high in cc)
first_comes_first cycle (net ∷ []) from zero high =
    (omega arith, let none : 0 ≡ from - from = omega arith in subst (λ n. IsTrue (is_set cycle (net ∷ []) n)) none high)
first_comes_first cycle (net ∷ []) from (suc k) high = absurd (let p : ◌≡◌ {A = Bool} false true = high in cc)
first_comes_first cycle (net ∷ (next ∷ nets)) from zero high =
    let here : first_set cycle (net ∷ (next ∷ nets)) from ≡ from = cond-true (cycle.net net.number == 1) _ _ high in
    let none : 0 ≡ first_set cycle (net ∷ (next ∷ nets)) from - from = omega (arith, here) in
    (omega (arith, here), subst (λ n. IsTrue (is_set cycle (net ∷ (next ∷ nets)) n)) none high)
first_comes_first cycle (net ∷ (next ∷ nets)) from (suc k) high =
    by_bit (cases_Bool (cycle.net net.number == 1)) (first_comes_first cycle (next ∷ nets) (from + 1) k high)
    (first_is_one cycle (next ∷ nets) (from + 1) (omega arith))
  where
    by_bit : ((cycle.net net.number == 1) ≡ true) ⊎ ((cycle.net net.number == 1) ≡ false)
        → (first_set cycle (next ∷ nets) (from + 1) ≤ from + 1 + k)
        × IsTrue (is_set cycle (next ∷ nets) (first_set cycle (next ∷ nets) (from + 1) - (from + 1)))
        → (from + 1 ≤ first_set cycle (next ∷ nets) (from + 1))
        × (first_set cycle (next ∷ nets) (from + 1) < from + 1 + length (next ∷ nets))
        → (first_set cycle (net ∷ (next ∷ nets)) from ≤ from + suc k)
        × IsTrue (is_set cycle (net ∷ (next ∷ nets)) (first_set cycle (net ∷ (next ∷ nets)) from - from))
    by_bit (inl set) rest bounds =
        let here : first_set cycle (net ∷ (next ∷ nets)) from ≡ from = cond-true (cycle.net net.number == 1) _ _ set in
        let none : 0 ≡ first_set cycle (net ∷ (next ∷ nets)) from - from = omega (arith, here) in
        (omega (arith, here), subst (λ n. IsTrue (is_set cycle (net ∷ (next ∷ nets)) n)) none set)
    by_bit (inr unset) rest bounds =
        let there : first_set cycle (net ∷ (next ∷ nets)) from ≡ first_set cycle (next ∷ nets) (from + 1) = cond-false (cycle.net net.number == 1) _ _ unset in
        let least = rest.0 in
        let low = bounds.0 in
        let place : suc (first_set cycle (next ∷ nets) (from + 1) - (from + 1)) ≡ first_set cycle (net ∷ (next ∷ nets)) from - from = omega (arith, there, low) in
        (omega (arith, there, least), subst (λ n. IsTrue (is_set cycle (net ∷ (next ∷ nets)) n)) place rest.1)

pub some_where : (cycle : Cycle) (nets : List NetValue) → IsTrue (some_set cycle nets)
    → (k : ℕ) × (k < length nets) × IsTrue (is_set cycle nets k)
some_where cycle [] high = absurd (let p : ◌≡◌ {A = Bool} false true = high in cc)
some_where cycle (net ∷ nets) high = by_bit (λ later. some_where cycle nets later) (cases_Bool (cycle.net net.number == 1))
  where
    by_bit : (IsTrue (some_set cycle nets) → (k : ℕ) × (k < length nets) × IsTrue (is_set cycle nets k))
        → ((cycle.net net.number == 1) ≡ true) ⊎ ((cycle.net net.number == 1) ≡ false)
        → (k : ℕ) × (k < length (net ∷ nets)) × IsTrue (is_set cycle (net ∷ nets) k)
    by_bit among (inl set) = (0, omega arith, set)
    by_bit among (inr unset) =
        let rest = among (ap (λ b. b || some_set cycle nets) (sym unset) ∙ high) in
        let below = rest.1 in
        (suc rest.0, omega (arith, below), rest.2)

pub none_where : (cycle : Cycle) (nets : List NetValue) (k : ℕ) → some_set cycle nets ≡ false → is_set cycle nets k ≡ false
none_where cycle [] k low = refl
none_where cycle (net ∷ nets) k low = by_bit (λ j later. none_where cycle nets j later) (cases_Bool (cycle.net net.number == 1)) k
  where
    by_bit : ((j : ℕ) → some_set cycle nets ≡ false → is_set cycle nets j ≡ false)
        → ((cycle.net net.number == 1) ≡ true) ⊎ ((cycle.net net.number == 1) ≡ false) → (k : ℕ)
        → is_set cycle (net ∷ nets) k ≡ false
    by_bit among (inl set) k =
        absurd (let p : ◌≡◌ {A = Bool} true false = ap (λ b. b || some_set cycle nets) (sym set) ∙ low in cc)
    by_bit among (inr unset) zero = unset
    by_bit among (inr unset) (suc k) = among k (ap (λ b. b || some_set cycle nets) (sym unset) ∙ low)

-- the nets behind the first one
tail_is : (net : NetValue) (nets : List NetValue) → take (length (net ∷ nets) - 1) (drop 1 (net ∷ nets)) ≡ nets
tail_is net nets = let fewer : suc (length nets) - 1 ≡ length nets = omega arith in ap (λ n. take n nets) fewer ∙ take-length nets

pub first_of_more : (cycle : Cycle) (nets : List NetValue) (from : ℕ) (other : NetValue) → 0 < length nets → (length nets ≡ 1 → ⊥)
    → (if cycle.net (get_or nets 0 other).number == 1 then from
    else first_set cycle (take (length nets - 1) (drop 1 nets)) (from + 1))
    ≡ first_set cycle nets from
first_of_more cycle [] from other some more = absurd (omega arith)
first_of_more cycle (net ∷ []) from other some more = absurd (more (omega arith))
first_of_more cycle (net ∷ (next ∷ nets)) from other some more =
    ap (λ (rest : List NetValue). if cycle.net net.number == 1 then from else first_set cycle rest (from + 1))
    (tail_is net (next ∷ nets))

pub some_of_more : (cycle : Cycle) (nets : List NetValue) (other : NetValue) → 0 < length nets
    → ((cycle.net (get_or nets 0 other).number == 1) || some_set cycle (take (length nets - 1) (drop 1 nets)))
    ≡ some_set cycle nets
some_of_more cycle [] other some = absurd (omega arith)
some_of_more cycle (net ∷ nets) other some =
    ap (λ (rest : List NetValue). (cycle.net net.number == 1) || some_set cycle rest) (tail_is net nets)

pub set_at : (cycle : Cycle) (nets : List NetValue) (k : ℕ) (other : NetValue) → k < length nets
    → is_set cycle nets k ≡ (cycle.net (get_or nets k other).number == 1)
set_at cycle [] k other below = absurd (omega arith)
set_at cycle (net ∷ nets) zero other below = refl
set_at cycle (net ∷ nets) (suc k) other below = set_at cycle nets k other (omega (arith, below))
