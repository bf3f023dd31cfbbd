-- By the end of a cycle a transfer was accepted, or it stands still.
use Rattle.std.proofs.Common.{ℕ, zero, suc, ◌<◌, ◌≤◌, ◌≡◌, Bool, true, false, not, List, [], ◌∷◌, ◌++◌, arith, refl, sym, ap, ap₂, subst, ◌∙◌, length, take, nat_lt, IsTrue, Some, slice_get, append-nil, length-append, ltb-true, ltb-false, leb-true}
use Rattle.std.proofs.lemmas.Bool.{and_parts, not-true}
use Rattle.histories.specs.History.{only_if, IsPrefix}
use Rattle.histories.specs.Laws.{shown_is_accepted_and_standing}
use Rattle.memory_runs.specs.Commands.{shows, is_held}
use Rattle.memory_machines.specs.Link.{Port, Marked, AreLegalAt, takes, marked_at, taken_at, shown_at, words_at, words_owed, read_beats}
use Rattle.memory_machines.specs.SideLaws.{marked_keeps, taken_is_shown, prefix_take}
use Rattle.memory_machines.specs.Straight.{are_answered}
use Rattle.memory_links.proofs.Prompt.{front_get}

pub get_low : {A : Type 0} (xs : List A) (n : ℕ) (x : A) → slice_get xs n ≡ Some x → n < length xs
get_low [] n x h = cc
get_low (y ∷ ys) zero x h = omega arith
get_low (y ∷ ys) (suc n) x h = let rest = get_low ys n x h in omega (arith, rest)

pub get_end : {A : Type 0} (xs : List A) (y x : A) → slice_get (xs ++ y ∷ []) (length xs) ≡ Some x → y ≡ x
get_end [] y x h = cc
get_end (z ∷ zs) y x h = get_end zs y x h

pub take_front_of : {A : Type 0} (xs ys : List A) → take (length xs) (xs ++ ys) ≡ xs
take_front_of [] ys = refl
take_front_of (x ∷ xs) ys = ap (λ l. x ∷ l) (take_front_of xs ys)

-- `May`: of which transfers this is said, by what stands before them. `Begun`: what is said of these by the end of a cycle
module _ (up : Port) (end : ℕ) (legal : AreLegalAt up end) (May : List Marked → Marked → Type 0) (Begun : ℕ → List Marked → Type 0)
    (accepted : (c : ℕ) → c < end → (number : ℕ) (m : Marked) → May (take number (taken_at up (suc c))) m → slice_get (taken_at up (suc c)) number ≡ Some m → Begun c (take number (taken_at up (suc c))))
    (stands : (c : ℕ) → c < end → shows up.commands.signals c ≡ true → takes up c ≡ false → May (taken_at up c) (marked_at up c) → words_owed up c ≤ length (words_at up c) → Begun c (taken_at up c)) where
  pub begun_by : (c number : ℕ) (m : Marked) → c < end → slice_get (shown_at up (suc c)) number ≡ Some m → May (take number (shown_at up (suc c))) m →
      IsTrue (are_answered up (take number (shown_at up (suc c))) c) → Begun c (take number (shown_at up (suc c)))
  begun_by c number m h got may answered = by_place (nat_lt number (length (taken_at up (suc c)))) refl
    where
      front : IsPrefix (taken_at up (suc c)) (shown_at up (suc c))
      front = taken_is_shown up end (suc c) legal h

      up_side : (b : Bool) → is_held up.commands.signals (takes up) c ≡ b → shown_at up (suc c) ≡ taken_at up (suc c) ++ only_if b (marked_at up c)
      up_side b f = shown_is_accepted_and_standing (shows up.commands.signals) (takes up) (marked_at up) end (suc c) (marked_keeps up end legal) h ∙ ap (λ b. taken_at up (suc c) ++ only_if b (marked_at up c)) f

      by_held : length (taken_at up (suc c)) ≤ number → (b : Bool) → is_held up.commands.signals (takes up) c ≡ b → Begun c (take number (shown_at up (suc c)))
      by_held high false f =
          let few = get_low (shown_at up (suc c)) number m got in
          let all = ap length (up_side false f) ∙ length-append (taken_at up (suc c)) [] in
          absurd (omega (arith, few, all, high))
      by_held high true f =
          let few = get_low (shown_at up (suc c)) number m got in
          let all = ap length (up_side true f) ∙ length-append (taken_at up (suc c)) (marked_at up c ∷ []) in
          let place : number ≡ length (taken_at up (suc c)) = omega (arith, few, all, high) in
          let parts = and_parts (shows up.commands.signals c) (not (takes up c)) f in
          let not_taken = not-true (takes up c) parts.1 in
          let same : taken_at up (suc c) ≡ taken_at up c = ap (λ b. taken_at up c ++ only_if b (marked_at up c)) not_taken ∙ append-nil (taken_at up c) in
          let before : take number (shown_at up (suc c)) ≡ taken_at up c = ap₂ (λ n l. take n l) place (up_side true f) ∙ take_front_of (taken_at up (suc c)) (marked_at up c ∷ []) ∙ same in
          let is : m ≡ marked_at up c = sym (get_end (taken_at up (suc c)) (marked_at up c) m (ap₂ (λ n l. slice_get l n) (sym place) (sym (up_side true f)) ∙ got)) in
          let given = leb-true (length (read_beats (take number (shown_at up (suc c))))) (length (words_at up c)) answered in
          let reads = ap (λ l. length (read_beats l)) before in
          subst (Begun c) (sym before) (stands c h parts.0 not_taken (subst (λ x. May (taken_at up c) x) is (subst (λ l. May l m) before may)) (omega (arith, given, reads)))

      by_place : (b : Bool) → nat_lt number (length (taken_at up (suc c))) ≡ b → Begun c (take number (shown_at up (suc c)))
      by_place true e =
          let few = ltb-true number (length (taken_at up (suc c))) e in
          let same = prefix_take front number (omega (arith, few)) in
          subst (Begun c) (sym same) (accepted c h number m (subst (λ l. May l m) same may) (front_get (taken_at up (suc c)) front.rest number m few (subst (λ l. slice_get l number ≡ Some m) (sym front.joins) got)))
      by_place false e = by_held (ltb-false number (length (taken_at up (suc c))) e) (is_held up.commands.signals (takes up) c) refl
