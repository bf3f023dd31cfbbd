-- Small sums.
use Rattle.std.proofs.Common.{◌≡◌, ℕ, zero, suc, ◌+◌, ◌-◌, ◌*◌, ◌<◌, ◌≤◌, Bool, true, false, ◌||◌, List, [], ◌∷◌, nat_eq, if◌then◌else◌, arith, refl, IsTrue, inl, inr, ◌⊎◌, le_refl}
use Rattle.histories.specs.Sizes.{sum_below, Passage, IsPassage, all_cycles}
use Rattle.histories.specs.Turns.{Seat, Round, ahead, may_pass, is_seated, last_host, last_shares, shares_of_others}

pub passage_grows : (p : Passage) (hold : ℕ) → IsPassage p hold → p.above_end - p.above ≤ (p.below_end - p.below) + hold
passage_grows p hold law = let a = law.done_before in let b = law.completes in let c = law.held in omega (arith, a, b, c)

pub holds_bound : (grown hold : ℕ → ℕ) (n : ℕ) → grown 0 ≡ 0 → ((i : ℕ) → i < n → grown (suc i) ≤ grown i + hold i) → grown n ≤ sum_below hold n
holds_bound grown hold zero first step = omega (arith, first)
holds_bound grown hold (suc n) first step = let one = step n (omega arith) in let rest = holds_bound grown hold n first (λ i h. step i (omega (arith, h))) in omega (arith, one, rest)

below_five : (n : ℕ) → n ≤ 4 → (n ≡ 0) ⊎ (n ≡ 1) ⊎ (n ≡ 2) ⊎ (n ≡ 3) ⊎ (n ≡ 4)
below_five n h = grind arith

pub cycles_fit : (stages wait : ℕ) → stages ≤ 4 → all_cycles stages wait + (stages + 6) ≤ 64 * (4 + stages) + 2 * wait
cycles_fit stages wait h = elim (below_five stages h) [
  | inl e ↦ rw e (omega arith)
  | inr (inl e) ↦ rw e (omega arith)
  | inr (inr (inl e)) ↦ rw e (omega arith)
  | inr (inr (inr (inl e))) ↦ rw e (omega arith)
  | inr (inr (inr (inr e))) ↦ rw e (omega arith)
]

last_counts : (host : ℕ) (ring : List Seat) → nat_eq (last_host ring) host ≡ false → last_shares ring ≤ shares_of_others host ring
last_counts host [] e = omega arith
last_counts host (x ∷ []) e = rw e (omega arith)
last_counts host (x ∷ y ∷ later) e = let rest = last_counts host (y ∷ later) e in omega (arith, rest)

pub pass_within_shares : (host : ℕ) (round : Round) → IsTrue (is_seated host round.ring) → round.left ≤ last_shares round.ring → may_pass host round ≤ shares_of_others host round.ring
pass_within_shares host round seated few = go round.ring seated few (nat_eq (last_host round.ring) host) refl
  where
    go : (ring : List Seat) → IsTrue (is_seated host ring) → round.left ≤ last_shares ring → (b : Bool) → nat_eq (last_host ring) host ≡ b → ahead host ring + (if b then 0 else round.left) ≤ shares_of_others host ring
    go [] seated few b e = absurd cc
    go (x ∷ []) seated few b e = by_same (nat_eq x.host host) refl seated b e
      where
        by_same : (same : Bool) → nat_eq x.host host ≡ same → IsTrue (same || false) → (b : Bool) → nat_eq x.host host ≡ b → (if same then 0 else x.shares + 0) + (if b then 0 else round.left) ≤ (if same then 0 else x.shares) + 0
        by_same true e h true g = le_refl 0
        by_same true e h false g = absurd cc
        by_same false e h b g = absurd cc
    go (x ∷ y ∷ later) seated few b here = by_same (nat_eq x.host host) refl seated (λ rest. go (y ∷ later) rest few b here) b here
      where
        left_small : (b : Bool) → nat_eq (last_host (y ∷ later)) host ≡ b → (if b then 0 else round.left) ≤ shares_of_others host (y ∷ later)
        left_small true e = omega arith
        left_small false e = let rest = last_counts host (y ∷ later) e in omega (arith, rest, few)

        by_same : (same : Bool) → nat_eq x.host host ≡ same → IsTrue (same || is_seated host (y ∷ later)) →
            (IsTrue (is_seated host (y ∷ later)) → ahead host (y ∷ later) + (if b then 0 else round.left) ≤ shares_of_others host (y ∷ later)) →
            (d : Bool) → nat_eq (last_host (y ∷ later)) host ≡ d →
            (if same then 0 else x.shares + ahead host (y ∷ later)) + (if b then 0 else round.left) ≤ (if same then 0 else x.shares) + shares_of_others host (y ∷ later)
        by_same true e h more d g = let small = left_small b here in omega (arith, small)
        by_same false e h more d g = let rest = more h in omega (arith, rest)
