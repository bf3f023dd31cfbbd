-- One of several items, by a number.
use Rattle.std.specs.Prelude.{ℕ, suc, ◌+◌, ◌-◌, ◌*◌, ◌/◌, ◌%◌, ◌^◌, ◌<◌, ◌≤◌, ◌≡◌, ◌⊎◌, ◌==◌, true, false, if◌then◌else◌, List, length, take, drop}
use Rattle.std.proofs.Common.{refl, sym, ap, ◌∙◌, inl, inr, arith, subst, get_or, length-take, length-drop}
use Rattle.std.proofs.lemmas.List.{get_or-take, get_or-drop}
use Rattle.std.proofs.lemmas.Bool.{cases_Bool, cond-true, cond-false, eqb-true, eqb-false}
use Rattle.std.proofs.lemmas.Nat.{mod-pow-add, pow_pos, pow-add}
use Rattle.std.proofs.Math.Nat.{mod-lt, mod-eq_of_lt}
use Rattle.std.proofs.Math.Pow.{mod-mod-pow}
use Rattle.netlist.specs.Nets.{NetValue}
use Rattle.netlist.specs.Netlists.{Netlist}
use Rattle.netlist.specs.Longer.{Extends}
use Rattle.net_parts.specs.Nets.{IsBit}
use Rattle.net_parts.specs.Laws.{net_lasts}

-- the nets are bits of this netlist
abbrev pub AreBits : Netlist → List NetValue → Type 0
AreBits netlist nets = (other : NetValue) (k : ℕ) → k < length nets → IsBit netlist (get_or nets k other)

-- the item is the one that has the number of the index's lowest bits
abbrev pub Selects : {A V : Type 0} → (A → V) → ℕ → ℕ → List A → A → Type 0
Selects {A} value index bits items item =
    (other : A) (k : ℕ) → k < length items → index % 2 ^ bits ≡ k → value item ≡ value (get_or items k other)

-- ---- laws. No contract reads a proof of these

pub bits_before : (netlist : Netlist) (nets : List NetValue) (n : ℕ) → AreBits netlist nets → AreBits netlist (take n nets)
bits_before netlist nets n are other k below =
    let most = length-take n nets in
    subst (IsBit netlist) (sym (get_or-take n nets k other (omega (arith, below, most))))
    (are other k (omega (arith, below, most)))

pub bits_behind : (netlist : Netlist) (nets : List NetValue) (n : ℕ) → AreBits netlist nets → AreBits netlist (drop n nets)
bits_behind netlist nets n are other k below =
    let rest = length-drop n nets in
    subst (IsBit netlist) (sym (get_or-drop n nets k other)) (are other (n + k) (omega (arith, below, rest)))

pub bits_last : (a b : Netlist) (nets : List NetValue) → Extends a b → AreBits a nets → AreBits b nets
bits_last a b nets e are other k below = net_lasts a b (get_or nets k other) 1 e (are other k below)

-- twice as many numbers with one bit more
pub two_halves : (b : ℕ) → 1 ≤ b → 2 ^ b ≡ 2 ^ (b - 1) + 2 ^ (b - 1)
two_halves b some =
    let back : b ≡ (b - 1) + 1 = omega (arith, some) in
    ap (λ n. 2 ^ n) back ∙ pow-add 2 (b - 1) 1 ∙ omega arith

pub two_fits : (b : ℕ) → 2 ^ suc b ≡ 2 ^ (1 + b)
two_fits b = let same : suc b ≡ 1 + b = omega arith in ap (λ n. 2 ^ n) same

module _ {A V : Type 0} (value : A → V) (index b : ℕ) (items : List A) where
  -- a bit less tells as many items apart as it has numbers
  pub selects_fewer : (item : A) → length items ≤ 2 ^ b → Selects value index b items item
      → Selects value index (suc b) items item
  selects_fewer item few selects other k below is =
      selects other k below
      (sym (mod-mod-pow index 1 b) ∙ ap (λ n. index % n % 2 ^ b) (sym (two_fits b)) ∙ ap (λ n. n % 2 ^ b) is
      ∙ mod-eq_of_lt (omega (arith, below, few)))

  -- the highest bit tells both halves apart
  pub selects_halves : (bit : ℕ) (low high item : A) → bit ≡ index / 2 ^ b % 2 ^ 1
      → value item ≡ (if bit == 0 then value low else value high)
      → Selects value index b (take (2 ^ b) items) low → Selects value index b (drop (2 ^ b) items) high
      → Selects value index (suc b) items item
  selects_halves bit low high item bit_is chosen in_front in_back other k below is = by_bit (cases_Bool (bit == 0))
    where
      parts : k ≡ (index / 2 ^ b % 2 ^ 1) * 2 ^ b + index % 2 ^ b
      parts = sym is ∙ ap (λ n. index % n) (two_fits b) ∙ mod-pow-add index 1 b

      inner : index % 2 ^ b < 2 ^ b
      inner = mod-lt index (pow_pos b)

      by_bit : ((bit == 0) ≡ true) ⊎ ((bit == 0) ≡ false) → value item ≡ value (get_or items k other)
      by_bit (inl zero_bit) =
          let none : bit ≡ 0 = eqb-true _ _ zero_bit in
          let here : k ≡ index % 2 ^ b = parts ∙ ap (λ n. n * 2 ^ b + index % 2 ^ b) (sym bit_is ∙ none) ∙ omega arith in
          let most = length-take (2 ^ b) items in
          let low_k : k < 2 ^ b = omega (arith, here, inner) in
          chosen ∙ cond-true (bit == 0) _ _ zero_bit ∙ in_front other k (omega (arith, low_k, below, most)) (sym here)
          ∙ ap value (get_or-take (2 ^ b) items k other low_k)
      by_bit (inr one_bit) =
          let some = eqb-false _ _ one_bit in
          let few : index / 2 ^ b % 2 ^ 1 < 2 ^ 1 = mod-lt (index / 2 ^ b) (pow_pos 1) in
          let one : index / 2 ^ b % 2 ^ 1 ≡ 1 = omega (arith, few, some, bit_is) in
          let there : k ≡ 2 ^ b + index % 2 ^ b = parts ∙ ap (λ n. n * 2 ^ b + index % 2 ^ b) one ∙ omega arith in
          let rest = length-drop (2 ^ b) items in
          chosen ∙ cond-false (bit == 0) _ _ one_bit ∙ in_back other (index % 2 ^ b) (omega (arith, there, below, rest)) refl
          ∙ ap value (get_or-drop (2 ^ b) items (index % 2 ^ b) other) ∙ ap (λ n. value (get_or items n other)) (sym there)
