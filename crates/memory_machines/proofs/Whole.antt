-- Whole commands at the arbiter are whole commands at the agent.
use Rattle.std.proofs.Common.{ℕ, zero, suc, ◌<◌, ◌≡◌, [], ◌∷◌, ◌++◌, List, Bool, true, false, not, ◌&&◌, ◌||◌, if◌then◌else◌, arith, refl, sym, ap, ◌∙◌, subst, length, replicate, nat_eq, tests, eqb-true}
use Rattle.std.specs.List.{list_all}
use Rattle.std.proofs.lemmas.Bool.{and_parts}
use Rattle.memory_runs.specs.Order.{Owner, is_same_owner, stays_together, are_together}
use Rattle.memory_machines.specs.Link.{is_nonempty}
use Rattle.memory_machines.specs.Lines.{Group}
use Rattle.memory_machines.specs.Begun.{is_ended, turn_after, acts_after, owners_of_groups, groups_whole}
use Rattle.memory_machines.proofs.Laws.{same_number}

pub all_of_copies : {A : Type 0} (test : A → Bool) (n : ℕ) (x : A) (rest : List A) → test x ≡ true → list_all test rest ≡ true → list_all test (replicate n x ++ rest) ≡ true
all_of_copies test zero x rest e all = all
all_of_copies test (suc n) x rest e all = rw (e, all_of_copies test n x rest e all) refl

-- an owner whose turn is over doesn't come again
no_return : (h u : ℕ) (turn : ℕ → ℕ) (acted : ℕ → Bool) (groups : List Group) → u < turn h → list_all (λ o. not (is_same_owner (record { tag = h; command = u }) o)) (owners_of_groups turn acted groups) ≡ true
no_return h u turn acted [] low = refl
no_return h u turn acted (g ∷ later) low =
    all_of_copies (λ o. not (is_same_owner (record { tag = h; command = u }) o)) (length g.operations) (record { tag = g.tag; command = turn g.tag }) _
    (other (nat_eq h g.tag) refl)
    (no_return h u (turn_after turn acted g) (acts_after acted g) later (grows (nat_eq h g.tag && is_ended acted g)))
  where
    grows : (b : Bool) → u < (if b then suc (turn h) else turn h)
    grows true = omega arith
    grows false = low

    other : (b : Bool) → nat_eq h g.tag ≡ b → not (nat_eq h g.tag && nat_eq u (turn g.tag)) ≡ true
    other true e = let same : h ≡ g.tag = eqb-true h g.tag e in let less : u < turn g.tag = subst (λ x. u < turn x) same low in grind (arith, tests, less)
    other false e = rw e refl

stays_of_none : (owner : Owner) (owners : List Owner) → list_all (λ o. not (is_same_owner owner o)) owners ≡ true → stays_together owner owners ≡ true
stays_of_none owner [] all = refl
stays_of_none owner (o ∷ later) all =
    by_test (nat_eq o.tag owner.tag) (stays_of_none owner later (and_parts (not (is_same_owner owner o)) (list_all (λ o. not (is_same_owner owner o)) later) all).1)
    (and_parts (not (is_same_owner owner o)) (list_all (λ o. not (is_same_owner owner o)) later) all).1
  where
    by_test : (b : Bool) → stays_together owner later ≡ true → list_all (λ o. not (is_same_owner owner o)) later ≡ true → (if b then stays_together owner later else list_all (λ o. not (is_same_owner owner o)) later) ≡ true
    by_test true rest all = rest
    by_test false rest all = all

stays_of_copies : (owner o : Owner) (n : ℕ) (rest : List Owner) → o.tag ≡ owner.tag → stays_together owner rest ≡ true → stays_together owner (replicate n o ++ rest) ≡ true
stays_of_copies owner o zero rest e stays = stays
stays_of_copies owner o (suc n) rest e stays = let test : nat_eq o.tag owner.tag ≡ true = rw e (same_number owner.tag) in rw test (stays_of_copies owner o n rest e stays)

-- the first group, if there is one, has this tag
abbrev begins_with : ℕ → List Group → Bool
begins_with h [] = true
begins_with h (g ∷ later) = nat_eq g.tag h

whole_tail : (g : Group) (later : List Group) → groups_whole (g ∷ later) ≡ true → groups_whole later ≡ true
whole_tail g [] whole = refl
whole_tail g (next ∷ later) whole = (and_parts (g.closes || nat_eq g.tag next.tag) (groups_whole (next ∷ later)) whole).1

whole_next : (g : Group) (later : List Group) → g.closes ≡ false → groups_whole (g ∷ later) ≡ true → begins_with g.tag later ≡ true
whole_next g [] closes whole = refl
whole_next g (next ∷ later) closes whole =
    let both = (and_parts (g.closes || nat_eq g.tag next.tag) (groups_whole (next ∷ later)) whole).0 in
    let same : nat_eq g.tag next.tag ≡ true = subst (λ b. (b || nat_eq g.tag next.tag) ≡ true) closes both in
    subst (λ x. nat_eq x g.tag ≡ true) (eqb-true g.tag next.tag same) (same_number g.tag)

or_true : (b : Bool) → (b || true) ≡ true
or_true true = refl
or_true false = refl

acts_of_some : {A : Type 0} (xs : List A) → 0 < length xs → is_nonempty xs ≡ true
acts_of_some [] h = absurd (omega arith)
acts_of_some (x ∷ xs) h = refl

together_of_copies : (n : ℕ) (o : Owner) (rest : List Owner) → (0 < n → stays_together o rest ≡ true) → are_together rest ≡ true → are_together (replicate n o ++ rest) ≡ true
together_of_copies zero o rest stays together = together
together_of_copies (suc n) o rest stays together =
    let now = stays (omega arith) in
    rw (stays_of_copies o o n rest refl now, together_of_copies n o rest (λ _. now) together) refl

stays_whole : (h u : ℕ) (turn : ℕ → ℕ) (acted : ℕ → Bool) (groups : List Group) → turn h ≡ u → acted h ≡ true → groups_whole groups ≡ true → begins_with h groups ≡ true →
    stays_together (record { tag = h; command = u }) (owners_of_groups turn acted groups) ≡ true
stays_whole h u turn acted [] is open_ whole begins = refl
stays_whole h u turn acted (g ∷ later) is open_ whole begins =
    let same : g.tag ≡ h = eqb-true g.tag h begins in
    let opened : acted g.tag ≡ true = ap acted same ∙ open_ in
    let number : nat_eq h g.tag ≡ true = subst (λ x. nat_eq h x ≡ true) (sym same) (same_number h) in
    stays_of_copies (record { tag = h; command = u }) (record { tag = g.tag; command = turn g.tag }) (length g.operations) (owners_of_groups (turn_after turn acted g) (acts_after acted g) later) same
    (by_close g.closes refl opened number same (λ now opened_there next. stays_whole h u (turn_after turn acted g) (acts_after acted g) later now opened_there (whole_tail g later whole) next))
  where
    by_close : (b : Bool) → g.closes ≡ b → acted g.tag ≡ true → nat_eq h g.tag ≡ true → g.tag ≡ h →
        (turn_after turn acted g h ≡ u → acts_after acted g h ≡ true → begins_with h later ≡ true → stays_together (record { tag = h; command = u }) (owners_of_groups (turn_after turn acted g) (acts_after acted g) later) ≡ true) →
        stays_together (record { tag = h; command = u }) (owners_of_groups (turn_after turn acted g) (acts_after acted g) later) ≡ true
    by_close true closes opened number same go =
        let after : turn_after turn acted g h ≡ suc u = rw (number, closes, opened) (ap suc is) in
        stays_of_none (record { tag = h; command = u }) (owners_of_groups (turn_after turn acted g) (acts_after acted g) later) (no_return h u (turn_after turn acted g) (acts_after acted g) later (omega (arith, after)))
    by_close false closes opened number same go =
        let after : turn_after turn acted g h ≡ u = rw (number, closes) is in
        let still : acts_after acted g h ≡ true = rw (number, closes, open_) refl in
        go after still (subst (λ x. begins_with x later ≡ true) same (whole_next g later closes whole))

pub whole_together : (turn : ℕ → ℕ) (acted : ℕ → Bool) (groups : List Group) → groups_whole groups ≡ true → are_together (owners_of_groups turn acted groups) ≡ true
whole_together turn acted [] whole = refl
whole_together turn acted (g ∷ later) whole =
    together_of_copies (length g.operations) (record { tag = g.tag; command = turn g.tag }) (owners_of_groups (turn_after turn acted g) (acts_after acted g) later)
    (λ some. by_close g.closes refl (acts_of_some g.operations some))
    (whole_together (turn_after turn acted g) (acts_after acted g) later (whole_tail g later whole))
  where
    by_close : (b : Bool) → g.closes ≡ b → is_nonempty g.operations ≡ true →
        stays_together (record { tag = g.tag; command = turn g.tag }) (owners_of_groups (turn_after turn acted g) (acts_after acted g) later) ≡ true
    by_close true closes acts =
        let after : turn_after turn acted g g.tag ≡ suc (turn g.tag) = rw (same_number g.tag, closes, acts, or_true (acted g.tag)) refl in
        stays_of_none (record { tag = g.tag; command = turn g.tag }) (owners_of_groups (turn_after turn acted g) (acts_after acted g) later) (no_return g.tag (turn g.tag) (turn_after turn acted g) (acts_after acted g) later (omega (arith, after)))
    by_close false closes acts =
        let after : turn_after turn acted g g.tag ≡ turn g.tag = rw (same_number g.tag, closes) refl in
        let still : acts_after acted g g.tag ≡ true = rw (same_number g.tag, closes, acts, or_true (acted g.tag)) refl in
        stays_whole g.tag (turn g.tag) (turn_after turn acted g) (acts_after acted g) later after still (whole_tail g later whole) (whole_next g later closes whole)
