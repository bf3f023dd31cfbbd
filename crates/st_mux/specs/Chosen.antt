-- Which input a multiplexer leads to its output.
use Rattle.std.specs.Prelude.{ℕ, ◌+◌, ◌-◌, ◌<◌, ◌≤◌, ◌≡◌, ◌⊎◌, Bool, true, false, ◌&&◌, nat_lt, if◌then◌else◌, IsTrue, List, length}
use Rattle.std.proofs.Common.{sym, ap, ◌∙◌, inl, inr, arith, subst}
use Rattle.std.proofs.lemmas.Bool.{cases_Bool, cond-true, cond-false, and_parts, ltb-true, lt-ltb}
use Rattle.netlist.specs.Nets.{NetValue}
use Rattle.netlist.specs.Runs.{Cycle}
use Rattle.routed_runs.specs.Multiplexing.{turns_to}
use Rattle.st_mux.specs.Each.{AreSetWhere}
use Rattle.st_mux.specs.Choosing.{is_set, some_set, first_set, asks_behind, first_is_one, first_comes_first, some_where, none_where, set_at}

-- of so many inputs, some of which ask, the holder where it is locked, and else the first in turn behind it that asks, where one
-- does
pub record IsChosen (inputs holder : ℕ) (asks : ℕ → Bool) (locked : Bool) (chosen : ℕ) : Type 0 where
  pub is_input : holder < inputs → chosen < inputs
  pub keeps : locked ≡ true → chosen ≡ holder
  pub asked : locked ≡ false → (i : ℕ) → i < inputs → IsTrue (asks i) → IsTrue (asks chosen)
  pub first : locked ≡ false → (i : ℕ) → i < inputs → IsTrue (asks i) → turns_to inputs holder chosen ≤ turns_to inputs holder i

-- ---- laws. No contract reads a proof of these

module _ (cycle : Cycle) (asks behind : List NetValue) (holder : NetValue) (same : length behind ≡ length asks)
    (some : 0 < length asks) (are : AreSetWhere (asks_behind asks holder) behind cycle) where
  abbrev h : ℕ
  h = cycle.net holder.number

  -- the first behind the holder, and else the first
  abbrev pub next_in_turn : ℕ
  next_in_turn = if some_set cycle behind then first_set cycle behind 0 else first_set cycle asks 0

  behind_is : (k : ℕ) → k < length asks → is_set cycle behind k ≡ (is_set cycle asks k && nat_lt h k)
  behind_is k below =
      let inside : k < length behind = omega (arith, below, same) in set_at cycle behind k holder inside ∙ are holder k inside

  record IsNext (chosen : ℕ) : Type 0 where
    inside : chosen < length asks
    asked : (i : ℕ) → i < length asks → IsTrue (is_set cycle asks i) → IsTrue (is_set cycle asks chosen)
    first : (i : ℕ) → i < length asks → IsTrue (is_set cycle asks i)
        → turns_to (length asks) h chosen ≤ turns_to (length asks) h i

  turns_behind : (k : ℕ) → h < k → turns_to (length asks) h k ≡ k - h
  turns_behind k less = cond-true (nat_lt h k) _ _ (lt-ltb h k less)

  turns_before : (k : ℕ) → nat_lt h k ≡ false → turns_to (length asks) h k ≡ length asks + k - h
  turns_before k none = cond-false (nat_lt h k) _ _ none

  by_some : (some_set cycle behind ≡ true) ⊎ (some_set cycle behind ≡ false) → IsNext next_in_turn
  by_some (inl high) =
      let at = some_where cycle behind high in
      let least = first_comes_first cycle behind 0 at.0 at.2 in
      let bounds = first_is_one cycle behind 0 (omega (arith, same, some)) in
      let upper = bounds.1 in
      let none : first_set cycle behind 0 - 0 ≡ first_set cycle behind 0 = omega arith in
      let inside : first_set cycle behind 0 < length asks = omega (arith, upper, same) in
      let set : IsTrue (is_set cycle behind (first_set cycle behind 0)) = subst
      (λ n. IsTrue (is_set cycle behind n)) none least.1 in
      let parts = and_parts (is_set cycle asks (first_set cycle behind 0)) _ (sym (behind_is (first_set cycle behind 0) inside) ∙ set) in
      let past : h < first_set cycle behind 0 = ltb-true h (first_set cycle behind 0) parts.1 in
      subst IsNext (sym (cond-true (some_set cycle behind) (first_set cycle behind 0) (first_set cycle asks 0) high))
      (record {
        inside = inside;
        asked = λ i below asking. parts.0;
        first = λ i below asking. (by_side i below asking past inside (cases_Bool (nat_lt h i)));
      })
    where
      by_side : (i : ℕ) → i < length asks → IsTrue (is_set cycle asks i) → h < first_set cycle behind 0
          → first_set cycle behind 0 < length asks → (nat_lt h i ≡ true) ⊎ (nat_lt h i ≡ false)
          → turns_to (length asks) h (first_set cycle behind 0) ≤ turns_to (length asks) h i
      by_side i below asking past inside (inl further) =
          let there : IsTrue (is_set cycle behind i) = behind_is i below ∙ ap (λ b. b && nat_lt h i) asking ∙ further in
          let least = (first_comes_first cycle behind 0 i there).0 in
          let here = turns_behind (first_set cycle behind 0) past in
          let other = turns_behind i (ltb-true h i further) in
          omega (arith, least, here, other)
      by_side i below asking past inside (inr nearer) =
          let here = turns_behind (first_set cycle behind 0) past in
          let other = turns_before i nearer in
          omega (arith, here, other, inside)
  by_some (inr low) =
      subst IsNext (sym (cond-false (some_set cycle behind) (first_set cycle behind 0) (first_set cycle asks 0) low))
      (record {
        inside = (let upper = (first_is_one cycle asks 0 some).1 in omega (arith, upper));
        asked = λ i below asking. (asked i asking);
        first = λ i below asking.
            (let least = (first_comes_first cycle asks 0 i asking).0 in
            let upper = (first_is_one cycle asks 0 some).1 in
            let here = turns_before (first_set cycle asks 0) (none_behind (first_set cycle asks 0) (omega (arith, upper)) (asked i asking)) in
            let other = turns_before i (none_behind i below asking) in
            omega (arith, least, here, other));
      })
    where
      none_behind : (k : ℕ) → k < length asks → IsTrue (is_set cycle asks k) → nat_lt h k ≡ false
      none_behind k below asking =
          sym (ap (λ b. b && nat_lt h k) asking) ∙ sym (behind_is k below) ∙ none_where cycle behind k low

      asked : (i : ℕ) → IsTrue (is_set cycle asks i) → IsTrue (is_set cycle asks (first_set cycle asks 0))
      asked i asking =
          let none : first_set cycle asks 0 - 0 ≡ first_set cycle asks 0 = omega arith in
          subst (λ n. IsTrue (is_set cycle asks n)) none (first_comes_first cycle asks 0 i asking).1

  pub is_chosen : (locked : Bool) (chosen : ℕ) → chosen ≡ (if locked then h else next_in_turn)
      → IsChosen (length asks) h (is_set cycle asks) locked chosen
  is_chosen true chosen e = record {
    is_input = λ below. subst (λ n. n < length asks) (sym e) below;
    keeps = λ is. e;
    asked = λ free. absurd (let p : ◌≡◌ {A = Bool} true false = free in cc);
    first = λ free. absurd (let p : ◌≡◌ {A = Bool} true false = free in cc);
  }
  is_chosen false chosen e =
      let next = by_some (cases_Bool (some_set cycle behind)) in
      record {
        is_input = λ below. subst (λ n. n < length asks) (sym e) next.inside;
        keeps = λ is. absurd (let p : ◌≡◌ {A = Bool} false true = is in cc);
        asked = λ free i below asking. subst (λ n. IsTrue (is_set cycle asks n)) (sym e) (next.asked i below asking);
        first =
            λ free i below asking. subst (λ n. turns_to (length asks) h n ≤ turns_to (length asks) h i) (sym e)
            (next.first i below asking);
      }
