-- Pieces of a word and of a mask: their counts and their numbers.
use Rattle.std.proofs.Common.{ℕ, zero, suc, ◌<◌, ◌≤◌, ◌≡◌, ◌+◌, ◌-◌, ◌*◌, ◌/◌, ◌%◌, ◌^◌, Bool, true, false, not, ◌&&◌, if◌then◌else◌, ◌==◌, nat_eq, arith, refl, sym, ap, ap₂, subst, ◌∙◌}
use Rattle.std.proofs.lemmas.Bool.{eqb-true, eqb-false, ne_eqb}
use Rattle.histories.specs.History.{is_raised, one_if}
use Rattle.command_nets.specs.Levels.{level_is}
use Rattle.command_nets.specs.Groups.{chosen_raised}
use Rattle.mm_split.specs.Pieces.{lane, is_marked, mask_of, count_of, stands_at, pick, AreFound}

-- the last one of a count
pub last_of : (k : ℕ) → 1 ≤ k → k ≡ suc (k - 1)
last_of k h = omega arith

-- the pieces up to the last one fill so many bits
pub last_fits : (k bits : ℕ) → 1 ≤ k → (k - 1) * bits + bits ≡ k * bits
last_fits k bits h = let e = last_of k h in ap (λ j. (j - 1) * bits + bits) e ∙ (let same : suc (k - 1) - 1 ≡ k - 1 = omega arith in ap (λ j. j * bits + bits) same) ∙ (let next : (k - 1) * bits + bits ≡ suc (k - 1) * bits = omega arith in next) ∙ ap (λ j. j * bits) (sym e)

pub slice_is : (w number bits : ℕ) → 1 ≤ bits → w / 2 ^ (number * bits) % 2 ^ (number * bits + (bits - 1) - number * bits + 1) ≡ lane bits w number
slice_is w number bits h = let same : number * bits + (bits - 1) - number * bits + 1 ≡ bits = omega arith in ap (λ k. w / 2 ^ (number * bits) % 2 ^ k) same

pub any_is : (x : ℕ) → (if x == 0 then 0 else 1) ≡ one_if (not (nat_eq x 0))
any_is x = by_test (x == 0)
  where
    by_test : (b : Bool) → (if b then 0 else 1) ≡ one_if (not b)
    by_test true = refl
    by_test false = refl

pub both_are : (r s : Bool) → (if r then one_if s else 0) ≡ one_if (r && s)
both_are true s = refl
both_are false s = refl

pub mark_is : (mask number : ℕ) → lane 1 mask number ≡ one_if (is_marked mask number)
mark_is mask number = level_is (lane 1 mask number) (omega arith)

pub count_most : (test : ℕ → Bool) (k : ℕ) → count_of test k ≤ k
count_most test zero = omega arith
count_most test (suc k) = by_test (test k) (count_most test k)
  where
    by_test : (b : Bool) → count_of test k ≤ k → count_of test k + one_if b ≤ suc k
    by_test true h = omega (arith, h)
    by_test false h = omega (arith, h)

count_grows : (test : ℕ → Bool) (i k : ℕ) → i ≤ k → count_of test i ≤ count_of test k
count_grows test i zero h = let none : i ≡ 0 = omega (arith, h) in subst (λ n. count_of test n ≤ 0) (sym none) (omega arith)
count_grows test i (suc k) h = by_last (nat_eq i (suc k)) refl (λ within. count_grows test i k within)
  where
    by_last : (b : Bool) → nat_eq i (suc k) ≡ b → (i ≤ k → count_of test i ≤ count_of test k) → count_of test i ≤ count_of test k + one_if (test k)
    by_last true e grows = let same = eqb-true i (suc k) e in subst (λ n. count_of test n ≤ count_of test k + one_if (test k)) (sym same) (omega arith)
    by_last false e grows = let apart = eqb-false i (suc k) e in let more = grows (omega (arith, h, apart)) in omega (arith, more)

-- below the last piece, which is meant, none stands at a place behind which no further one is meant
pub none_below : (test : ℕ → Bool) (place count : ℕ) → 1 ≤ count → test (count - 1) ≡ true → count_of test count ≤ suc place → (j : ℕ) → j < count - 1 → stands_at test place j ≡ false
none_below test place count some last few j less = by_test (test j) refl
  where
    whole : count_of test count ≡ count_of test (count - 1) + 1
    whole = ap (count_of test) (last_of count some) ∙ ap (λ b. count_of test (count - 1) + one_if b) last

    by_test : (b : Bool) → test j ≡ b → (b && nat_eq (count_of test j) place) ≡ false
    by_test false e = refl
    by_test true e =
        let more : count_of test j + one_if (test j) ≤ count_of test (count - 1) = count_grows test (suc j) (count - 1) (omega (arith, less)) in
        let one : count_of test j + one_if (test j) ≡ count_of test j + 1 = ap (λ t. count_of test j + one_if t) e in
        ne_eqb (count_of test j) place (λ same. absurd (omega (arith, same, more, one, whole, few)))

-- ---- what a search finds, piece by piece

pub first_found : (mask place count none here found : ℕ) → count ≡ 1 → none ≡ 0 → here ≡ one_if (is_marked mask 0 && nat_eq none place) → found ≡ none + one_if (is_marked mask 0) → AreFound mask place count here found
first_found mask place count none here found one low is more =
    subst (λ n. AreFound mask place n here found) (sym one)
    (record { here_is = is ∙ ap (λ n. one_if (is_marked mask 0 && nat_eq n place)) low ∙ omega arith; count_is = more ∙ ap (λ n. n + one_if (is_marked mask 0)) low })

pub more_found : (mask place count width below so_far bit found here : ℕ) → 1 ≤ count → width ≡ count - 1 → AreFound mask place (count - 1) below so_far →
    bit ≡ one_if (is_marked mask (count - 1) && nat_eq so_far place) → found ≡ so_far + one_if (is_marked mask (count - 1)) → here ≡ bit * 2 ^ width + below → AreFound mask place count here found
more_found mask place count width below so_far bit found here some wide before is more whole =
    subst (λ n. AreFound mask place n here found) (sym (last_of count some))
    (record {
      here_is = whole ∙ ap₂ (λ x y. x * 2 ^ y + below) (is ∙ ap (λ n. one_if (is_marked mask (count - 1) && nat_eq n place)) before.count_is) wide ∙ ap (λ n. one_if (stands_at (is_marked mask) place (count - 1)) * 2 ^ (count - 1) + n) before.here_is;
      count_is = more ∙ ap (λ n. n + one_if (is_marked mask (count - 1))) before.count_is;
    })

-- one piece more of a mask
pub more_masked : (test : ℕ → Bool) (count width bit below net : ℕ) → 1 ≤ count → width ≡ count - 1 → bit ≡ one_if (test (count - 1)) → below ≡ mask_of test (count - 1) → net ≡ bit * 2 ^ width + below → net ≡ mask_of test count
more_masked test count width bit below net some wide is before whole =
    whole ∙ ap₂ (λ x y. x * 2 ^ y + below) is wide ∙ ap (λ n. one_if (test (count - 1)) * 2 ^ (count - 1) + n) before ∙ sym (ap (mask_of test) (last_of count some))

-- one piece more to pick from
pub more_picked : (test : ℕ → Bool) (f : ℕ → ℕ) (count here bit highest below net : ℕ) → 1 ≤ count → bit ≡ here → is_raised here ≡ test (count - 1) → highest ≡ f (count - 1) → below ≡ f (pick test (count - 1)) →
    net ≡ (if bit == 0 then below else highest) → net ≡ f (pick test count)
more_picked test f count here bit highest below net some bit_is is high before whole =
    whole ∙ chosen_raised bit highest below ∙ ap (λ b. if b then highest else below) (ap is_raised bit_is ∙ is) ∙ ap₂ (λ x y. if test (count - 1) then x else y) high before ∙ by_test (test (count - 1)) ∙ sym (ap (λ n. f (pick test n)) (last_of count some))
  where
    by_test : (b : Bool) → (if b then f (count - 1) else f (pick test (count - 1))) ≡ f (if b then count - 1 else pick test (count - 1))
    by_test true = refl
    by_test false = refl
