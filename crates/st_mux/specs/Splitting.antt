-- A bit that is led to one of several nets, by a number.
use Rattle.std.specs.Prelude.{ℕ, zero, suc, ◌+◌, ◌-◌, ◌*◌, ◌/◌, ◌%◌, ◌^◌, ◌<◌, ◌≤◌, ◌≡◌, ◌⊎◌, ◌==◌, Bool, true, false, ◌&&◌, List, [], ◌∷◌, ◌++◌, length}
use Rattle.std.proofs.Common.{refl, sym, ap, ◌∙◌, inl, inr, arith, subst, get_or, length-append}
use Rattle.std.proofs.lemmas.List.{get_or_append_left, get_or-append-add}
use Rattle.std.proofs.lemmas.Bool.{cases_Bool, cases_lt, eqb-true, eqb-false, eq-eqb}
use Rattle.std.proofs.lemmas.Nat.{mod-pow-add, pow_pos}
use Rattle.std.proofs.Math.Nat.{mod-lt}
use Rattle.netlist.specs.Nets.{NetValue}
use Rattle.netlist.specs.Netlists.{Netlist}
use Rattle.netlist.specs.Runs.{Cycle, Always}
use Rattle.netlist.specs.Longer.{Extends}
use Rattle.net_parts.specs.Nets.{IsBit}
use Rattle.st_mux.specs.Selecting.{AreBits, bits_last, two_fits}
use Rattle.st_mux.specs.Each.{AreSetWhere}

-- the bit is high, and the index's lowest bits are the number
abbrev pub led_to : NetValue → NetValue → ℕ → Cycle → ℕ → Bool
led_to bit index bits cycle k = (cycle.net bit.number == 1) && (cycle.net index.number % 2 ^ bits == k)

-- so many nets, each of which is high where the bit is led to its number
pub record AreLed (netlist : Netlist) (bit index : NetValue) (bits : ℕ) (nets : List NetValue) (count : ℕ) : Type 0 where
  pub lengths : length nets ≡ count
  pub are_bits : AreBits netlist nets
  pub value : Always netlist (AreSetWhere (led_to bit index bits) nets)

-- the bit is high where another one is, and the index has this digit above its lowest bits
abbrev pub IsHalf : NetValue → NetValue → NetValue → ℕ → ℕ → Cycle → Type 0
IsHalf half bit index b digit cycle =
    (cycle.net half.number == 1) ≡ ((cycle.net bit.number == 1) && (cycle.net index.number / 2 ^ b % 2 ^ 1 == digit))

-- ---- laws. No contract reads a proof of these

differ : (a b : ℕ) → (a ≡ b → ⊥) → (a == b) ≡ false
differ a b apart = by_test (cases_Bool (a == b))
  where
    by_test : ((a == b) ≡ true) ⊎ ((a == b) ≡ false) → (a == b) ≡ false
    by_test (inl same) = absurd (apart (eqb-true a b same))
    by_test (inr other) = other

same_behind : (r m k p : ℕ) → m ≡ p + r → (r == k) ≡ (m == p + k)
same_behind r m k p e = by_test (cases_Bool (r == k))
  where
    by_test : ((r == k) ≡ true) ⊎ ((r == k) ≡ false) → (r == k) ≡ (m == p + k)
    by_test (inl same) = let is = eqb-true r k same in same ∙ sym (eq-eqb m (p + k) (omega (arith, e, is)))
    by_test (inr other) = let isnt = eqb-false r k other in other ∙ sym (differ m (p + k) (λ same. isnt (omega (arith, e, same))))

in_front : (t r m k p : ℕ) → t < 2 → m ≡ t * p + r → k < p → ((t == 0) && (r == k)) ≡ (m == k)
in_front zero r m k p few e below = let is : r ≡ m = omega (arith, e) in ap (λ n. n == k) is
in_front (suc zero) r m k p few e below =
    let whole : 1 * p + r ≡ p + r = omega arith in sym (differ m k (λ same. omega (arith, e, whole, same, below)))
in_front (suc (suc t)) r m k p few e below = absurd (omega (arith, few))

at_back : (t r m k p : ℕ) → t < 2 → r < p → m ≡ t * p + r → ((t == 1) && (r == k)) ≡ (m == p + k)
at_back zero r m k p few inside e =
    let whole : 0 * p + r ≡ r = omega arith in sym (differ m (p + k) (λ same. omega (arith, e, whole, same, inside)))
at_back (suc zero) r m k p few inside e = same_behind r m k p (let whole : 1 * p + r ≡ p + r = omega arith in e ∙ whole)
at_back (suc (suc t)) r m k p few inside e = absurd (omega (arith, few))

and_moved : (a b c d : Bool) → (b && c) ≡ d → ((a && b) && c) ≡ (a && d)
and_moved true b c d e = e
and_moved false b c d e = refl

module _ (index b : ℕ) where
  digits : index % 2 ^ suc b ≡ (index / 2 ^ b % 2 ^ 1) * 2 ^ b + index % 2 ^ b
  digits = ap (λ n. index % n) (two_fits b) ∙ mod-pow-add index 1 b

  one_digit : index / 2 ^ b % 2 ^ 1 < 2
  one_digit = mod-lt (index / 2 ^ b) (pow_pos 1)

  pub front_test : (k : ℕ) → k < 2 ^ b → ((index / 2 ^ b % 2 ^ 1 == 0) && (index % 2 ^ b == k)) ≡ (index % 2 ^ suc b == k)
  front_test k below = in_front (index / 2 ^ b % 2 ^ 1) (index % 2 ^ b) (index % 2 ^ suc b) k (2 ^ b) one_digit digits below

  pub back_test : (k : ℕ) → ((index / 2 ^ b % 2 ^ 1 == 1) && (index % 2 ^ b == k)) ≡ (index % 2 ^ suc b == 2 ^ b + k)
  back_test k =
      at_back (index / 2 ^ b % 2 ^ 1) (index % 2 ^ b) (index % 2 ^ suc b) k (2 ^ b) one_digit (mod-lt index (pow_pos b)) digits

with_true : (a t : Bool) → t ≡ true → a ≡ (a && t)
with_true true t e = sym e
with_true false t e = refl

pub led_alone : (netlist : Netlist) (bit index : NetValue) → IsBit netlist bit → AreLed netlist bit index 0 (bit ∷ []) 1
led_alone netlist bit index is = record {
  lengths = refl;
  are_bits = λ other k below. at (λ net k. IsBit netlist net) other k below is;
  value = λ cycle v other k below.
      at (λ net k. (cycle.net net.number == 1) ≡ led_to bit index 0 cycle k) other k below
      (with_true (cycle.net bit.number == 1) _
      (eq-eqb (cycle.net index.number % 2 ^ 0) 0
      (let least = mod-lt (cycle.net index.number) (pow_pos 0) in omega (arith, least))));
}
  where
    at : (P : NetValue → ℕ → Type 0) (other : NetValue) (k : ℕ) → k < length (bit ∷ []) → P bit 0
        → P (get_or (bit ∷ []) k other) k
    at P other zero below h = h
    at P other (suc k) below h = absurd (omega (arith, below))

pub led_last : (old new : Netlist) (bit index : NetValue) (bits : ℕ) (nets : List NetValue) (count : ℕ) → Extends old new
    → AreLed old bit index bits nets count → AreLed new bit index bits nets count
led_last old new bit index bits nets count e h =
    record {
      lengths =
          h.lengths;
      are_bits = bits_last old new nets e h.are_bits;
      value = λ cycle v. h.value cycle (e.valuations cycle v);
    }

module _ (netlist : Netlist) (bit index : NetValue) (b : ℕ) where
  -- the first half alone, where there are no more
  pub led_in_front : (half : NetValue) (nets : List NetValue) (count : ℕ) → count ≤ 2 ^ b
      → Always netlist (IsHalf half bit index b 0) → AreLed netlist half index b nets count
      → AreLed netlist bit index (suc b) nets count
  led_in_front half nets count few is h = record {
    lengths = h.lengths;
    are_bits = h.are_bits;
    value = λ cycle v other k below.
        (let size = h.lengths in
        h.value cycle v other k below ∙ ap (λ a. a && (cycle.net index.number % 2 ^ b == k)) (is cycle v)
        ∙ and_moved (cycle.net bit.number == 1) _ _ _
        (front_test (cycle.net index.number) b k (omega (arith, below, size, few))));
  }

  -- both halves
  pub led_in_both : (front back : NetValue) (xs ys : List NetValue) (more : ℕ) → Always netlist (IsHalf front bit index b 0)
      → Always netlist (IsHalf back bit index b 1)
      → AreLed netlist front index b xs (2 ^ b) → AreLed netlist back index b ys more
      → AreLed netlist bit index (suc b) (xs ++ ys) (2 ^ b + more)
  led_in_both front back xs ys more in_xs in_ys h i = record {
    lengths = (let whole = length-append xs ys in let one = h.lengths in let two = i.lengths in omega (arith, whole, one, two));
    are_bits =
        λ other k below. (by_place other k below (λ net n. IsBit netlist net) (λ less. h.are_bits other k less)
        (λ rest. i.are_bits other
        (k - length xs) rest)
        (cases_lt k (length xs)));
    value = λ cycle v other k below.
        (by_place other k below (λ net n. (cycle.net net.number == 1) ≡ led_to bit index (suc b) cycle n)
        (λ less. (let size = h.lengths in
        h.value cycle v other k less ∙ ap (λ a. a && (cycle.net index.number % 2 ^ b == k)) (in_xs cycle v)
        ∙ and_moved (cycle.net bit.number == 1) _ _ _ (front_test (cycle.net index.number) b k (omega (arith, less, size)))))
        (λ rest. (
        i.value cycle v other (k - length xs) rest
        ∙ ap (λ a. a && (cycle.net index.number % 2 ^ b == k - length xs)) (in_ys cycle v)
        ∙ and_moved (cycle.net bit.number == 1) _ _ _ (back_test (cycle.net index.number) b (k - length xs))))
        (cases_lt k (length xs)));
  }
    where
      by_place : (other : NetValue) (k : ℕ) → k < length (xs ++ ys) → (P : NetValue → ℕ → Type 0)
          → (k < length xs → P (get_or xs k other) k)
          → (k - length xs < length ys → P (get_or ys (k - length xs) other) (2 ^ b + (k - length xs)))
          → (k < length xs) ⊎ (length xs ≤ k) → P (get_or (xs ++ ys) k other) k
      by_place other k below P first second (inl less) =
          subst (λ (net : NetValue). P net k) (sym (get_or_append_left xs ys other k less)) (first less)
      by_place other k below P first second (inr more) =
          let whole = length-append xs ys in
          let size = h.lengths in
          let rest : k - length xs < length ys = omega (arith, below, whole, more) in
          let back : 2 ^ b + (k - length xs) ≡ k = omega (arith, more, size) in
          let split : length xs + (k - length xs) ≡ k = omega (arith, more) in
          let here : get_or (xs ++ ys) k other ≡ get_or ys (k - length xs) other = ap
          (λ n. get_or (xs ++ ys) n other) (sym split) ∙ get_or-append-add xs ys (k - length xs) other in
          subst (λ (net : NetValue). P net k) (sym here) (subst (λ n. P (get_or ys (k - length xs) other) n) back (second rest))
