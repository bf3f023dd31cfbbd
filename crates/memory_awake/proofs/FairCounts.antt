-- The operations of a host's commands by their numbers.
use Rattle.std.proofs.Common.{ℕ, zero, suc, ◌<◌, ◌≤◌, ◌≡◌, ◌+◌, Bool, true, false, List, [], ◌∷◌, ◌++◌, length, replicate, nat_eq, nat_le, if◌then◌else◌, arith, refl, sym, ap, ◌∙◌, tests, IsFalse}
use Rattle.std.specs.Prelude.{slice_index}
use Rattle.memory_runs.specs.Views.{System}
use Rattle.memory_runs.specs.Commands.{Transfer}
use Rattle.memory_runs.specs.Order.{is_agent, place_of, transfer_operations}
use Rattle.memory_awake.proofs.Numbers.{chosen, ends_in, none_above, next_least, next_number, ops_for, ops_append}
use Rattle.memory_awake.proofs.FairBegun.{owners_among}

past_front : (n x k : ℕ) (xs : List ℕ) → slice_index (replicate n x ++ xs) (n + k) ≡ slice_index xs k
past_front zero x k xs = let same : zero + k ≡ k = omega arith in ap (slice_index xs) same
past_front (suc n) x k xs = let same : suc n + k ≡ suc (n + k) = omega arith in ap (slice_index (x ∷ replicate n x ++ xs)) same ∙ past_front n x k xs

module _ (system : System) (host agent : ℕ) where
  abbrev ops : List Transfer → ℕ
  ops ts = ops_for system host agent ts

  abbrev own_ops : Transfer → ℕ
  own_ops t = if is_agent agent (place_of system host t) then length (transfer_operations system host agent t) else 0

  one_ops : (b : Bool) (t : Transfer) → ops (if b then t ∷ [] else []) ≡ (if b then own_ops t else 0)
  unfolding ops_for
  one_ops true t = omega arith
  one_ops false t = refl

  -- the operations up to a command are those before it and its own
  pub ops_step : (k n : ℕ) (ts : List Transfer) → ops (chosen (λ i. nat_le i (suc k)) n ts) ≡ ops (chosen (λ i. nat_le i k) n ts) + ops (chosen (λ i. nat_eq i (suc k)) n ts)
  unfolding chosen ops_for
  ops_step k n [] = refl
  ops_step k n (t ∷ ts) =
      let after : ℕ = if t.ends then n + 1 else n in
      let more = ops_step k after ts in
      let a = ops_append system host agent (if nat_le n (suc k) then t ∷ [] else []) (chosen (λ i. nat_le i (suc k)) after ts) in
      let b = ops_append system host agent (if nat_le n k then t ∷ [] else []) (chosen (λ i. nat_le i k) after ts) in
      let c = ops_append system host agent (if nat_eq n (suc k) then t ∷ [] else []) (chosen (λ i. nat_eq i (suc k)) after ts) in
      let one = own n k (own_ops t) in
      let d = one_ops (nat_le n (suc k)) t in
      let e = one_ops (nat_le n k) t in
      let f = one_ops (nat_eq n (suc k)) t in
      omega (arith, more, a, b, c, one, d, e, f)
    where
      own : (n k r : ℕ) → (if nat_le n (suc k) then r else 0) ≡ (if nat_le n k then r else 0) + (if nat_eq n (suc k) then r else 0)
      own n k r = by_tests (nat_le n k) refl (nat_eq n (suc k)) refl
        where
          by_tests : (a : Bool) → nat_le n k ≡ a → (b : Bool) → nat_eq n (suc k) ≡ b → (if nat_le n (suc k) then r else 0) ≡ (if a then r else 0) + (if b then r else 0)
          by_tests true ea true eb = absurd (grind (arith, tests, ea, eb))
          by_tests true ea false eb = let t : nat_le n (suc k) ≡ true = grind (arith, tests, ea) in rw t (omega arith)
          by_tests false ea true eb = let t : nat_le n (suc k) ≡ true = grind (arith, tests, eb) in rw t (omega arith)
          by_tests false ea false eb = let t : nat_le n (suc k) ≡ false = grind (arith, tests, ea, eb) in rw t refl

  -- the chosen ones of a front are fewer
  pub ops_chosen_front : (test : ℕ → Bool) (n : ℕ) (ts : List Transfer) → ops (chosen test n ts) ≤ ops ts
  unfolding chosen ops_for
  ops_chosen_front test n [] = omega arith
  ops_chosen_front test n (t ∷ ts) =
      let after : ℕ = if t.ends then n + 1 else n in
      let more = ops_chosen_front test after ts in
      let split = ops_append system host agent (if test n then t ∷ [] else []) (chosen test after ts) in
      let one = one_ops (test n) t in
      let few = by_test (test n) in
      omega (arith, more, split, one, few)
    where
      by_test : (b : Bool) → (if b then own_ops t else 0) ≤ own_ops t
      by_test true = omega arith
      by_test false = omega arith

  -- no command past the ends and one is among them
  pub none_later : (j n : ℕ) (ts : List Transfer) → n + ends_in ts < j → chosen (λ i. nat_eq i j) n ts ≡ []
  unfolding chosen ends_in
  none_later j n [] less = refl
  none_later j n (t ∷ ts) less =
      let past = next_number system host n t.ends (ends_in ts) in
      let other : nat_eq n j ≡ false = let low : n < j = omega (arith, less) in grind (arith, tests, low) in
      ap (λ b. (if b then t ∷ [] else []) ++ chosen (λ i. nat_eq i j) (if t.ends then n + 1 else n) ts) other ∙ none_later j (if t.ends then n + 1 else n) ts (omega (arith, less, past))

  -- a command's first operation follows those of the commands before it
  pub first_of : (k n : ℕ) (ts : List Transfer) → n ≤ suc k → 0 < ops (chosen (λ i. nat_eq i (suc k)) n ts) →
      slice_index (owners_among system host agent n ts) (ops (chosen (λ i. nat_le i k) n ts)) ≡ suc k
  unfolding chosen ops_for
  first_of k n [] low some = absurd (omega (arith, some))
  first_of k n (t ∷ ts) low some = by_number (λ m less more. first_of k m ts less more) (nat_le n k) refl
    where
      after : ℕ
      after = if t.ends then n + 1 else n

      rest : List ℕ
      rest = owners_among system host agent after ts

      own_split : (b : Bool) → nat_eq n (suc k) ≡ b → ops (chosen (λ i. nat_eq i (suc k)) n (t ∷ ts)) ≡ (if b then own_ops t else 0) + ops (chosen (λ i. nat_eq i (suc k)) after ts)
      own_split b e =
          let split = ops_append system host agent (if nat_eq n (suc k) then t ∷ [] else []) (chosen (λ i. nat_eq i (suc k)) after ts) in
          let one = one_ops (nat_eq n (suc k)) t ∙ ap (λ b. if b then own_ops t else 0) e in
          omega (arith, split, one)

      low_split : (b : Bool) → nat_le n k ≡ b → ops (chosen (λ i. nat_le i k) n (t ∷ ts)) ≡ (if b then own_ops t else 0) + ops (chosen (λ i. nat_le i k) after ts)
      low_split b e =
          let split = ops_append system host agent (if nat_le n k then t ∷ [] else []) (chosen (λ i. nat_le i k) after ts) in
          let one = one_ops (nat_le n k) t ∙ ap (λ b. if b then own_ops t else 0) e in
          omega (arith, split, one)

      next_low : (b : Bool) → n ≤ k → (if b then n + 1 else n) ≤ suc k
      next_low true less = omega (arith, less)
      next_low false less = omega (arith, less)

      earlier : (h : Bool) → slice_index rest (ops (chosen (λ i. nat_le i k) after ts)) ≡ suc k →
          slice_index ((if h then replicate (length (transfer_operations system host agent t)) n else []) ++ rest) ((if h then length (transfer_operations system host agent t) else 0) + ops (chosen (λ i. nat_le i k) after ts)) ≡ suc k
      earlier true go = past_front (length (transfer_operations system host agent t)) n (ops (chosen (λ i. nat_le i k) after ts)) rest ∙ go
      earlier false go = let same : 0 + ops (chosen (λ i. nat_le i k) after ts) ≡ ops (chosen (λ i. nat_le i k) after ts) = omega arith in ap (slice_index rest) same ∙ go

      not_le : (i : ℕ) → k < i → IsFalse (nat_le i k)
      not_le i h = grind (arith, tests, h)

      not_eq : (i : ℕ) → suc k < i → IsFalse (nat_eq i (suc k))
      not_eq i h = grind (arith, tests, h)

      Goes : Type 0
      Goes = (m : ℕ) → m ≤ suc k → 0 < ops (chosen (λ i. nat_eq i (suc k)) m ts) → slice_index (owners_among system host agent m ts) (ops (chosen (λ i. nat_le i k) m ts)) ≡ suc k

      goes_on : Goes → n ≡ suc k → (b : Bool) → t.ends ≡ b → 0 < ops (chosen (λ i. nat_eq i (suc k)) after ts) → slice_index rest 0 ≡ suc k
      goes_on go same true e more =
          let is : after ≡ n + 1 = ap (λ b. if b then n + 1 else n) e in
          let none = ap ops (none_above system host (λ i. nat_eq i (suc k)) after ts (λ i h. not_eq i (omega (arith, h, is, same)))) in
          absurd (omega (arith, none, more))
      goes_on go same false e more =
          let is : after ≡ n = ap (λ b. if b then n + 1 else n) e in
          let none : ops (chosen (λ i. nat_le i k) after ts) ≡ 0 = ap ops (none_above system host (λ i. nat_le i k) after ts (λ i h. not_le i (omega (arith, h, is, same)))) in
          ap (slice_index rest) (sym none) ∙ go after (omega (arith, is, same)) more

      here : Goes → n ≡ suc k → (h : Bool) (o : ℕ) → 0 < (if h then o else 0) + ops (chosen (λ i. nat_eq i (suc k)) after ts) → slice_index ((if h then replicate o n else []) ++ rest) 0 ≡ suc k
      here go same true (suc o) more = same
      here go same true zero more = goes_on go same t.ends refl (omega (arith, more))
      here go same false o more = goes_on go same t.ends refl (omega (arith, more))

      by_number : Goes → (a : Bool) → nat_le n k ≡ a →
          slice_index ((if is_agent agent (place_of system host t) then replicate (length (transfer_operations system host agent t)) n else []) ++ rest) (ops (chosen (λ i. nat_le i k) n (t ∷ ts))) ≡ suc k
      by_number go true ea =
          let less : n ≤ k = grind (arith, tests, ea) in
          let other : nat_eq n (suc k) ≡ false = grind (arith, tests, less) in
          let own = own_split false other in
          let is = some in
          ap (slice_index ((if is_agent agent (place_of system host t) then replicate (length (transfer_operations system host agent t)) n else []) ++ rest)) (low_split true ea)
          ∙ earlier (is_agent agent (place_of system host t)) (go after (next_low t.ends less) (omega (arith, own, is)))
      by_number go false ea =
          let more : k < n = grind (arith, tests, ea) in
          let same : n ≡ suc k = omega (arith, more, low) in
          let it : nat_eq n (suc k) ≡ true = grind (arith, tests, same) in
          let own = own_split true it in
          let is = some in
          let least = next_least system host n t.ends in
          let none : ops (chosen (λ i. nat_le i k) after ts) ≡ 0 = ap ops (none_above system host (λ i. nat_le i k) after ts (λ i h. not_le i (omega (arith, h, least, more)))) in
          let first = low_split false ea in
          let zeroth : ops (chosen (λ i. nat_le i k) n (t ∷ ts)) ≡ 0 = omega (arith, first, none) in
          ap (slice_index ((if is_agent agent (place_of system host t) then replicate (length (transfer_operations system host agent t)) n else []) ++ rest)) zeroth
          ∙ here go same (is_agent agent (place_of system host t)) (length (transfer_operations system host agent t)) (omega (arith, own, is))
