-- A window in which nothing comes out is no longer than the budgets of the parts that matter.
use Rattle.std.proofs.Common.{◌≡◌, ℕ, zero, suc, ◌<◌, ◌≤◌, Bool, true, false, ◌||◌, List, [], ◌∷◌, ◌++◌, arith, refl, IsTrue, IsFalse, inl, inr, ◌⊎◌, tests, nat_eq}
use Rattle.histories.specs.RanksLaws.{PathIsShort, acts_is_active}
use Rattle.histories.specs.Path.{works}
use Rattle.histories.specs.Window.{Keeps, AllKeep, Budget, is_active, some_active, allowances}
use Rattle.histories.specs.Junction.{Junctions, any_below, arbiter_works, moment, lower_budget, upper_budget, arbiter_budget, budgets, budgets_of_hosts, all_budgets, is_among, IsStuck}
use Rattle.histories.proofs.ranks.Hosts.{Acts, from_upper, from_arbiter, from_lower, some_below}
use Rattle.histories.proofs.ranks.Falling.{active_is_short}
use Rattle.histories.proofs.ranks.Descent.{settle}
use Rattle.std.proofs.lemmas.Bool.{or_left, or_right}
use Rattle.histories.proofs.ranks.Cases.{less_or_same}

left_active : (xs ys : List Budget) (c : ℕ) → IsTrue (some_active xs c) → IsTrue (some_active (xs ++ ys) c)
left_active [] ys c h = absurd cc
left_active (x ∷ xs) ys c h = by_first (is_active x.part c) h (left_active xs ys c)
  where
    by_first : (b : Bool) → IsTrue (b || some_active xs c) → (IsTrue (some_active xs c) → IsTrue (some_active (xs ++ ys) c)) → IsTrue (b || some_active (xs ++ ys) c)
    by_first true h more = refl
    by_first false h more = more h

right_active : (xs ys : List Budget) (c : ℕ) → IsTrue (some_active ys c) → IsTrue (some_active (xs ++ ys) c)
right_active [] ys c h = h
right_active (x ∷ xs) ys c h = or_right (is_active x.part c) (some_active (xs ++ ys) c) (right_active xs ys c h)

pub one_active : (budget : ℕ → Budget) (n i c : ℕ) → i < n → IsTrue (is_active (budget i).part c) → IsTrue (some_active (budgets budget n) c)
one_active budget zero i c h active = absurd (omega (arith, h))
one_active budget (suc n) i c h active = by_place (less_or_same i n h) (λ less. one_active budget n i c less active)
  where
    by_place : (i < n) ⊎ (i ≡ n) → (i < n → IsTrue (some_active (budgets budget n) c)) → IsTrue (is_active (budget n).part c || some_active (budgets budget n) c)
    by_place (inl less) more = or_right (is_active (budget n).part c) (some_active (budgets budget n) c) (more less)
    by_place (inr same) more = or_left (is_active (budget n).part c) (some_active (budgets budget n) c) (rw same at active)

host_active : (run : Junctions) (seen : List ℕ) (h c : ℕ) → IsTrue (is_among seen h) → IsTrue (some_active (budgets (upper_budget run h) (run.above h)) c) → IsTrue (some_active (budgets_of_hosts run seen) c)
host_active run [] h c among active = absurd cc
host_active run (x ∷ later) h c among active = by_same (nat_eq x h) refl among (host_active run later h c)
  where
    by_same : (b : Bool) → nat_eq x h ≡ b → IsTrue (b || is_among later h) →
        (IsTrue (is_among later h) → IsTrue (some_active (budgets (upper_budget run h) (run.above h)) c) → IsTrue (some_active (budgets_of_hosts run later) c)) →
        IsTrue (some_active (budgets (upper_budget run x) (run.above x) ++ budgets_of_hosts run later) c)
    by_same true e among more = let same : x ≡ h = grind (arith, tests, e) in left_active (budgets (upper_budget run x) (run.above x)) (budgets_of_hosts run later) c (rw same active)
    by_same false e among more = right_active (budgets (upper_budget run x) (run.above x)) (budgets_of_hosts run later) c (more among active)

stuck_is_active : (run : Junctions) (host size : ℕ) (seen : List ℕ) → IsStuck run host size seen → (c : ℕ) → c < size → IsTrue (some_active (all_budgets run seen) c)
stuck_is_active run host size seen stuck c h = from_work (any_below (works (run.upper host c)) (run.above host)) (arbiter_works (moment run c)) refl refl (stuck.work c h)
  where
    acts : Acts (moment run c) (is_among seen) (IsTrue (some_active (all_budgets run seen) c))
    acts = record {
      covers = λ g low waits. stuck.covers c g h low waits;
      lower = λ i low must. or_right (is_active (arbiter_budget run).part c) _ (left_active (budgets (lower_budget run) (suc run.below)) (budgets_of_hosts run seen) c
          (one_active (lower_budget run) (suc run.below) i c low (acts_is_active _ _ _ must)));
      arbiter = λ must. or_left (is_active (arbiter_budget run).part c) _ (acts_is_active _ _ _ must);
      upper = λ g i low known in_path must. or_right (is_active (arbiter_budget run).part c) _ (right_active (budgets (lower_budget run) (suc run.below)) (budgets_of_hosts run seen) c
          (host_active run seen g c known (one_active (upper_budget run g) (run.above g) i c in_path (acts_is_active _ _ _ must))));
    }

    from_work : (a b : Bool) → any_below (works (run.upper host c)) (run.above host) ≡ a → arbiter_works (moment run c) ≡ b → IsTrue (a || b || any_below (works (run.lower c)) (suc run.below)) → IsTrue (some_active (all_budgets run seen) c)
    from_work true b ea eb w = let found = some_below (works (run.upper host c)) (run.above host) ea in from_upper (moment run c) (stuck.sound c h) acts host found.0 stuck.is_host stuck.is_seen found.1 found.2
    from_work false true ea eb w = from_arbiter (moment run c) (stuck.sound c h) acts eb
    from_work false false ea eb w = let found = some_below (works (run.lower c)) (suc run.below) w in from_lower (moment run c) (stuck.sound c h) acts found.0 found.1 found.2

pub stuck_is_short : (run : Junctions) (host size : ℕ) (seen : List ℕ) → IsStuck run host size seen → size ≤ allowances (all_budgets run seen)
stuck_is_short run host size seen stuck = active_is_short (all_budgets run seen) size stuck.keep (stuck_is_active run host size seen stuck)

-- a test holds of some number below, or fails of all
some_or_none : (test : ℕ → Bool) (n : ℕ) → ((c : ℕ) × (c < n) × IsTrue (test c)) ⊎ ((c : ℕ) → c < n → IsFalse (test c))
some_or_none test zero = inr (λ c h. absurd (omega (arith, h)))
some_or_none test (suc n) = go (some_or_none test n)
  where
    by_test : (b : Bool) → test n ≡ b → ((c : ℕ) → c < n → IsFalse (test c)) → ((c : ℕ) × (c < suc n) × IsTrue (test c)) ⊎ ((c : ℕ) → c < suc n → IsFalse (test c))
    by_test true e none = inl (n, omega arith, e)
    by_test false e none = inr (λ c h. elim (less_or_same c n h) [ inl less ↦ none c less | inr same ↦ rw same e ])

    go : ((c : ℕ) × (c < n) × IsTrue (test c)) ⊎ ((c : ℕ) → c < n → IsFalse (test c)) → ((c : ℕ) × (c < suc n) × IsTrue (test c)) ⊎ ((c : ℕ) → c < suc n → IsFalse (test c))
    go (inl found) = inl (found.0, omega (arith, found.1), found.2)
    go (inr none) = by_test (test n) refl none

pub wanted_is_served : (run : Junctions) (host size : ℕ) (seen : List ℕ) (serves : ℕ → Bool) → (((c : ℕ) → c < size → IsFalse (serves c)) → IsStuck run host size seen) →
    allowances (all_budgets run seen) < size → (c : ℕ) × (c < size) × IsTrue (serves c)
wanted_is_served run host size seen serves stuck more = elim (some_or_none serves size) [
  | inl found ↦ found
  | inr none ↦ let short = stuck_is_short run host size seen (stuck none) in absurd (omega (arith, short, more))
]

pub all_keep : (budget : ℕ → Budget) (n size : ℕ) → ((i : ℕ) → i < n → Keeps (budget i) size) → AllKeep (budgets budget n) size
all_keep budget zero size keep = tt
all_keep budget (suc n) size keep = (keep n (omega arith), all_keep budget n size (λ i h. keep i (omega (arith, h))))

-- the parts of one path over a window: some part works in each cycle, and the bottom and the top are free
pub path_is_short : PathIsShort
path_is_short path budget n size active keep flow top bottom work =
    active_is_short (budgets budget n) size (all_keep budget n size keep)
    (λ c h. settle (path c) n (flow c h) (λ b. absurd (top c h b)) (λ b. absurd (bottom c h b))
    (λ j low must. one_active budget n j c low (active j c low h must)) (work c h).0 (work c h).1 (work c h).2)
