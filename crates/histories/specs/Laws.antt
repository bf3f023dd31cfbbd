-- Laws of histories, prefixes and groups. No contract reads a proof of theirs; the crates above cite them.
use Rattle.std.specs.Prelude.{ℕ, zero, suc, ◌≤◌, ◌+◌, ◌-◌, List, [], ◌∷◌, ◌++◌, Bool, true, false, filter, flat_map, map, length, ◌≡◌, if◌then◌else◌, nat_lt, not, ◌&&◌}
use Rattle.std.proofs.Common.{refl, sym, ap, ◌∙◌, subst, inl, inr, append_assoc, append-nil, length-append, le_refl, zero-le}
use Rattle.std.proofs.lemmas.Bool.{cases_lt, false≢true, ltb-true, lt-ltb}
use Rattle.std.proofs.lemmas.Grind.{flat_map-append}
use Rattle.std.proofs.lemmas.List.{map-append}
use Rattle.std.proofs.lemmas.List.Elements.{filter-append}
use Rattle.std.proofs.Math.Nat.{eq-or-lt_of_le, le_of_suc-le, le_of_suc-le-suc, le-add_right, le_trans, add-le-add, lt_of_le_of_lt, not-suc-le-zero, sub-add_cancel, sub-eq-zero_of_le, add-le-add_iff_right, le_of_lt}
use Rattle.std.proofs.Math.Numerals.{one-add}
use Rattle.histories.specs.History.{before, only_if, stands_on, first_shown, all_accepted, standing, KeepsItems, IsPrefix, unreached}

pub prefix_refl : {A : Type 0} (xs : List A) → IsPrefix xs xs
prefix_refl xs = record { rest = []; joins = append-nil xs }

-- a prefix of a prefix is one
pub prefix_trans : {A : Type 0} {xs ys zs : List A} → IsPrefix xs ys → IsPrefix ys zs → IsPrefix xs zs
prefix_trans {A} {xs} p q =
    record { rest = p.rest ++ q.rest; joins = sym (append_assoc xs p.rest q.rest) ∙ ap (λ l. l ++ q.rest) p.joins ∙ q.joins }

-- a history grows by what a cycle adds
pub before_extends : {A : Type 0} (adds : ℕ → List A) (c : ℕ) → IsPrefix (before adds c) (before adds (suc c))
before_extends adds c = record { rest = adds c; joins = refl }

-- a history only grows
pub before_prefix : {A : Type 0} (adds : ℕ → List A) (c d : ℕ) → c ≤ d → IsPrefix (before adds c) (before adds d)
before_prefix adds zero zero h = prefix_refl []
before_prefix adds (suc c) zero h = absurd (not-suc-le-zero h)
before_prefix adds c (suc d) h =
    elim (eq-or-lt_of_le h) [
      | inl same ↦ subst (λ k. IsPrefix (before adds c) (before adds k)) same (prefix_refl _)
      | inr less ↦ prefix_trans (before_prefix adds c d (le_of_suc-le-suc less)) (before_extends adds d)
    ]

pub prefix_filter : {A : Type 0} (test : A → Bool) {xs ys : List A} → IsPrefix xs ys → IsPrefix (filter test xs) (filter test ys)
prefix_filter test {xs} p =
    record { rest = filter test p.rest; joins = sym (filter-append test xs p.rest) ∙ ap (filter test) p.joins }

pub prefix_flat_map : {A B : Type 0} (f : A → List B) {xs ys : List A} → IsPrefix xs ys → IsPrefix (flat_map f xs) (flat_map f ys)
prefix_flat_map f {xs} p =
    record { rest = flat_map f p.rest; joins = sym (flat_map-append f xs p.rest) ∙ ap (flat_map f) p.joins }

pub prefix_map : {A B : Type 0} (f : A → B) {xs ys : List A} → IsPrefix xs ys → IsPrefix (map f xs) (map f ys)
prefix_map f {xs} p = record { rest = map f p.rest; joins = sym (map-append f xs p.rest) ∙ ap (map f) p.joins }

-- a prefix is no longer than the whole
pub prefix_length : {A : Type 0} {xs ys : List A} → IsPrefix xs ys → length xs ≤ length ys
prefix_length {A} {xs} {ys} p =
    subst (λ n. length xs ≤ n) (sym (length-append xs p.rest) ∙ ap length p.joins) (le-add_right (length xs) (length p.rest))

left_less : (n m s : ℕ) → n ≤ m → n - s ≤ m - s
left_less n m s h =
    elim (cases_lt n s) [
      | inl less ↦ subst (λ k. k ≤ m - s) (sym (sub-eq-zero_of_le (le_of_lt less))) (zero-le)
      | inr more ↦
          (add-le-add_iff_right s).0
          (subst (λ k. k ≤ m - s + s) (sym (sub-add_cancel more)) (subst (λ k. n ≤ k) (sym (sub-add_cancel (le_trans more h))) h))
    ]

-- counting one where a test holds
one_falls : (a b : Bool) → (a ≡ true → b ≡ true) → (if a then 1 else 0) ≤ (if b then 1 else 0)
one_falls true true h = le_refl 1
one_falls true false h = absurd (false≢true (h refl))
one_falls false true h = le-add_right 0 1
one_falls false false h = le_refl 0

-- fewer are unreached where more is reached
pub unreached_falls : (sizes : List ℕ) (n m : ℕ) → n ≤ m → unreached sizes m ≤ unreached sizes n
unreached_falls [] n m h = le_refl 0
unreached_falls (size ∷ sizes) n m h = add-le-add
    (one_falls (nat_lt m size) (nat_lt n size) (λ low. lt-ltb n size (lt_of_le_of_lt h (ltb-true m size low))))
    (unreached_falls sizes (n - size) (m - size) (left_less n m size h))

one_is_small : (b : Bool) → (if b then 1 else 0) ≤ 1
one_is_small true = le_refl 1
one_is_small false = le-add_right 0 1

-- no more are unreached than there are
pub unreached_length : (sizes : List ℕ) (n : ℕ) → unreached sizes n ≤ length sizes
unreached_length [] n = le_refl 0
unreached_length (size ∷ sizes) n =
    subst (λ k. unreached (size ∷ sizes) n ≤ k) (one-add (length sizes))
    (add-le-add (one_is_small (nat_lt n size)) (unreached_length sizes (n - size)))

-- one step, by what is shown and accepted. `stood` is that an item stood when the cycle began
step : {A : Type 0} (s a stood : Bool) (firsts takens : List A) (old new : A) →
    (a ≡ true → s ≡ true) → (stood ≡ true → (s ≡ true) × (old ≡ new)) →
    firsts ≡ takens ++ only_if stood old →
    firsts ++ only_if (s && not stood) new ≡ (takens ++ only_if a new) ++ only_if (s && not a) new
step true true true firsts takens old new shows same h =
    append-nil _ ∙ h ∙ ap (λ x. takens ++ x ∷ []) (same refl).1 ∙ sym (append-nil _)
step true true false firsts takens old new shows same h = ap (λ l. l ++ new ∷ []) (h ∙ append-nil _) ∙ sym (append-nil _)
step true false true firsts takens old new shows same h =
    append-nil _ ∙ h ∙ ap (λ x. takens ++ x ∷ []) (same refl).1 ∙ ap (λ l. l ++ new ∷ []) (sym (append-nil takens))
step true false false firsts takens old new shows same h = ap (λ l. l ++ new ∷ []) h
step false true stood firsts takens old new shows same h = absurd (false≢true (shows refl))
step false false true firsts takens old new shows same h = absurd (false≢true (same refl).0)
step false false false firsts takens old new shows same h = append-nil _ ∙ h ∙ sym (append-nil _)

only_first : {A : Type 0} (s a : Bool) (x : A) → (a ≡ true → s ≡ true) → only_if s x ≡ only_if a x ++ only_if (s && not a) x
only_first true true x shows = refl
only_first true false x shows = refl
only_first false true x shows = absurd (false≢true (shows refl))
only_first false false x shows = refl

-- what was shown is what was accepted, and the item that stands
pub shown_is_accepted_and_standing : {A : Type 0} (shown accepts : ℕ → Bool) (item : ℕ → A) (end c : ℕ)
    → KeepsItems shown accepts item end → c ≤ end →
    first_shown shown accepts item c ≡ all_accepted accepts item c ++ standing shown accepts item c
shown_is_accepted_and_standing shown accepts item end zero keeps h = refl
shown_is_accepted_and_standing shown accepts item end (suc zero) keeps h =
    only_first (shown 0) (accepts 0) (item 0) (keeps.accepted 0)
shown_is_accepted_and_standing shown accepts item end (suc (suc c)) keeps h =
    step (shown (suc c)) (accepts (suc c)) (stands_on shown accepts c) (first_shown shown accepts item (suc c))
    (all_accepted accepts item (suc c)) (item c) (item (suc c))
    (keeps.accepted (suc c)) (keeps.held c h)
    (shown_is_accepted_and_standing shown accepts item end (suc c) keeps (le_of_suc-le h))

-- so what was accepted is a prefix of what was shown
pub accepted_prefix : {A : Type 0} (shown accepts : ℕ → Bool) (item : ℕ → A) (end c : ℕ) → KeepsItems shown accepts item end
    → c ≤ end →
    IsPrefix (all_accepted accepts item c) (first_shown shown accepts item c)
accepted_prefix shown accepts item end c keeps h =
    record { rest = standing shown accepts item c; joins = sym (shown_is_accepted_and_standing shown accepts item end c keeps h) }
