-- The rule that refuses an interface is the least that it breaks.
use Rattle.std.proofs.Common.{◌≡◌, ◌⊎◌, inl, inr, lit≤, slice_index_or, ℕ, zero, suc, ◌+◌, ◌<◌, ◌≤◌, Bool, true, false, cond, ◌&&◌, ◌||◌, List, Some, None, refl, sym, ap, ◌∙◌, arith, lit<}
use Rattle.std.specs.Prelude.{find, ◌==◌}
use Rattle.std.specs.List.{range_with_len}
use Rattle.std.specs.Option.{option_map}
use Rattle.std.proofs.lemmas.Bool.{and_parts, and_right, cases_lt, true≢false}
use Rattle.std.proofs.lemmas.List.{get_or_past}
use Rattle.std.proofs.lemmas.Bool.Decides.{nat_tests}
use Rattle.iface_roles.specs.Held.{Held}
use Rattle.iface_roles.specs.Rules.{breaks, tests, KeepsRules, IsLeastBroken}
use Rattle.component_scripts.specs.Component.{breaks_rule, lacks_clock, interface_refusal}
use Rattle.component_scripts.specs.declared.component.DeclaredInterface.{DeclaredInterface}
use Rattle.script_words.specs.declared.faults.ScriptRule.TheVariants.{Interface}

-- the first of some numbers in a row at which a test passes
find-first : (p : ℕ → Bool) (from count k : ℕ) → from ≤ k → k < from + count → p k ≡ true → ((j : ℕ) → from ≤ j → j < k → p j ≡ false)
    → find p (range_with_len from count) ≡ Some k
find-first p from zero k low high here before = absurd (omega arith)
find-first p from (suc count) k low high here before = by (p from) refl (find-first p (from + 1) count k)
  where
    by : (b : Bool) → p from ≡ b
        → (from + 1 ≤ k → k < from + 1 + count → p k ≡ true → ((j : ℕ) → from + 1 ≤ j → j < k → p j ≡ false) → find p (range_with_len (from + 1) count) ≡ Some k)
        → cond b (Some from) (find p (range_with_len (from + 1) count)) ≡ Some k
    by true e further = ap Some (here_is (cases_lt from k))
      where
        here_is : (from < k) ⊎ (k ≤ from) → from ≡ k
        here_is (inl l) = absurd (true≢false (sym e ∙ before from (omega arith) l))
        here_is (inr l) = omega arith
    by false e further = further (past (cases_lt from k)) (omega arith) here (λ j l h. before j (omega arith) h)
      where
        past : (from < k) ⊎ (k ≤ from) → from + 1 ≤ k
        past (inl l) = omega arith
        past (inr l) = absurd (true≢false (sym here ∙ ap p (let same : k ≡ from = omega arith in same) ∙ e))

find-none : (p : ℕ → Bool) (from count : ℕ) → ((j : ℕ) → p j ≡ false) → find p (range_with_len from count) ≡ None
find-none p from zero fails = refl
find-none p from (suc count) fails = ap (λ b. cond b (Some from) (find p (range_with_len (from + 1) count))) (fails from) ∙ find-none p (from + 1) count fails

-- only the rules 1 to 14 can be broken
breaks-low : (i : Held) (k : ℕ) → breaks i k ≡ true → (0 < k) × (k < 15)
breaks-low i zero h = cc
breaks-low i (suc k) h = (omega arith, small k (and_parts _ _ h).1)
  where
    small : (k : ℕ) → slice_index_or (tests i) k false ≡ true → suc k < 15
    small k e = by (cases_lt k 14) e
      where
        by : (k < 14) ⊎ (14 ≤ k) → slice_index_or (tests i) k false ≡ true → suc k < 15
        by (inl l) e = omega arith
        by (inr l) e = absurd (true≢false (sym e ∙ get_or_past (tests i) k false l))

pub refused_by_rule : (interfaces : List DeclaredInterface) (declared : DeclaredInterface) (rule : ℕ) → IsLeastBroken declared.interface rule
    → interface_refusal interfaces declared ≡ Some (record { place = declared.place; rule = Interface rule })
unfolding interface_refusal
refused_by_rule interfaces declared rule h =
    let low = breaks-low declared.interface rule h.broken in
    ap (option_map (λ (r : ℕ). record { place = declared.place; rule = Interface r }))
    (find-first (breaks_rule interfaces declared) 1 14 rule (omega (arith, low.0)) (omega (arith, low.1))
    (ap (λ b. b || (rule == 14 && lacks_clock interfaces declared)) h.broken)
    (λ j l k. earlier j k (omega (arith, low.1))))
  where
    earlier : (j : ℕ) → j < rule → j < 14 → breaks_rule interfaces declared j ≡ false
    earlier j k small =
        let other : (j == 14) ≡ false = grind (arith, nat_tests) in
        ap (λ b. b || (j == 14 && lacks_clock interfaces declared)) (h.least j k) ∙ ap (λ b. b && lacks_clock interfaces declared) other

pub refused_by_clock : (interfaces : List DeclaredInterface) (declared : DeclaredInterface) → KeepsRules declared.interface → lacks_clock interfaces declared ≡ true
    → interface_refusal interfaces declared ≡ Some (record { place = declared.place; rule = Interface 14 })
unfolding interface_refusal
refused_by_clock interfaces declared keeps lacks =
    ap (option_map (λ (r : ℕ). record { place = declared.place; rule = Interface r }))
    (find-first (breaks_rule interfaces declared) 1 14 14 (lit≤ tt) (lit< tt)
    (ap (λ b. b || lacks_clock interfaces declared) (keeps 14) ∙ lacks)
    (λ j l k. earlier j k))
  where
    earlier : (j : ℕ) → j < 14 → breaks_rule interfaces declared j ≡ false
    earlier j small =
        let other : (j == 14) ≡ false = grind (arith, nat_tests) in
        ap (λ b. b || (j == 14 && lacks_clock interfaces declared)) (keeps j) ∙ ap (λ b. b && lacks_clock interfaces declared) other

pub not_refused : (interfaces : List DeclaredInterface) (declared : DeclaredInterface) → KeepsRules declared.interface → lacks_clock interfaces declared ≡ false
    → interface_refusal interfaces declared ≡ None
unfolding interface_refusal
not_refused interfaces declared keeps has =
    ap (option_map (λ (r : ℕ). record { place = declared.place; rule = Interface r }))
    (find-none (breaks_rule interfaces declared) 1 14 (λ j. none j))
  where
    none : (j : ℕ) → breaks_rule interfaces declared j ≡ false
    none j = ap (λ b. b || (j == 14 && lacks_clock interfaces declared)) (keeps j) ∙ ap (λ b. j == 14 && b) has ∙ and_right (j == 14) false refl
