-- What a side has shown by the end of a cycle is what it has taken before and what it shows in it.
use Rattle.std.proofs.Common.{ℕ, suc, ◌<◌, ◌≡◌, ◌+◌, ◌-◌, [], ◌∷◌, ◌++◌, List, Bool, true, false, not, ◌&&◌, arith, refl, ap, ◌∙◌, append_assoc, length, length-append, take}
use Rattle.histories.specs.History.{KeepsItems, only_if, one_if, first_shown, all_accepted}
use Rattle.histories.specs.Laws.{shown_is_accepted_and_standing}

pub length_more : {A : Type 0} (xs : List A) (b : Bool) (x : A) → length (xs ++ only_if b x) ≡ length xs + one_if b
length_more xs true x = length-append xs (x ∷ [])
length_more xs false x = length-append xs []

take_front : {A : Type 0} (xs ys : List A) (n : ℕ) → n ≡ length xs → take n (xs ++ ys) ≡ xs
take_front [] [] n e = rw e refl
take_front [] (y ∷ ys) n e = rw e refl
take_front (x ∷ xs) ys n e = rw e (ap (λ l. x ∷ l) (take_front xs ys (length xs) refl))

module _ {A : Type 0} (shown accepts : ℕ → Bool) (item : ℕ → A) (end : ℕ) (keeps : KeepsItems shown accepts item end) where
  pub shown_is : (c : ℕ) → c < end → first_shown shown accepts item (suc c) ≡ all_accepted accepts item c ++ only_if (shown c) (item c)
  shown_is c low =
      shown_is_accepted_and_standing shown accepts item end (suc c) keeps (omega (arith, low))
      ∙ append_assoc (all_accepted accepts item c) (only_if (accepts c) (item c)) (only_if (shown c && not (accepts c)) (item c))
      ∙ ap (λ l. all_accepted accepts item c ++ l) (both (accepts c) (shown c) (keeps.accepted c))
    where
      both : (a s : Bool) → (a ≡ true → s ≡ true) → only_if a (item c) ++ only_if (s && not a) (item c) ≡ only_if s (item c)
      both true true is = refl
      both true false is = let bad = is refl in cc
      both false true is = refl
      both false false is = refl

  pub shown_length : (c : ℕ) → c < end → length (first_shown shown accepts item (suc c)) ≡ length (all_accepted accepts item c) + one_if (shown c)
  shown_length c low = ap length (shown_is c low) ∙ length_more (all_accepted accepts item c) (shown c) (item c)

  -- what was shown before the item of a cycle has been accepted
  pub earlier_is : (c : ℕ) → c < end → shown c ≡ true → take (length (first_shown shown accepts item (suc c)) - 1) (first_shown shown accepts item (suc c)) ≡ all_accepted accepts item c
  earlier_is c low is =
      let long = shown_length c low ∙ ap (λ b. length (all_accepted accepts item c) + one_if b) is in
      ap (λ l. take (length (first_shown shown accepts item (suc c)) - 1) l) (shown_is c low)
      ∙ take_front (all_accepted accepts item c) (only_if (shown c) (item c)) (length (first_shown shown accepts item (suc c)) - 1) (omega (arith, long))

  -- so of as many as were accepted
  pub front_is : (c : ℕ) → c < end → take (length (all_accepted accepts item c)) (first_shown shown accepts item (suc c)) ≡ all_accepted accepts item c
  front_is c low = ap (take (length (all_accepted accepts item c))) (shown_is c low) ∙ take_front (all_accepted accepts item c) (only_if (shown c) (item c)) (length (all_accepted accepts item c)) refl

  pub accepted_more : (c : ℕ) → length (all_accepted accepts item (suc c)) ≡ length (all_accepted accepts item c) + one_if (accepts c)
  accepted_more c = length_more (all_accepted accepts item c) (accepts c) (item c)
