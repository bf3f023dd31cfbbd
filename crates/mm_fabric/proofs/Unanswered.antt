-- Reads that are taken and words that come, cycle by cycle: no more reads are unanswered than stand in what goes on with them.
use Rattle.std.proofs.Common.{◌≡◌, ℕ, zero, suc, ◌+◌, ◌-◌, ◌<◌, ◌≤◌, Bool, true, false, if◌then◌else◌, nat_eq, List, [], ◌∷◌, ◌++◌, length, refl, sym, subst, arith}
use Rattle.std.proofs.lemmas.Bool.{eqb-true, eq-eqb}
use Rattle.histories.specs.History.{is_raised, one_if, only_if}
use Rattle.netlist.specs.Nets.{NetValue}
use Rattle.netlist.specs.Runs.{Run, cycle_of}
use Rattle.memory_parts.specs.Queue.{Entry, answered, head_tag}
use Rattle.mm_host.specs.Reads.{unanswered_in, takes_in}

-- so many at most stand for the reads that are taken and aren't answered: from a cycle to the next they fall by one at most, where a word comes, and rise where a read is taken
pub record StandFor (taken came : ℕ → Bool) (most : ℕ) : Type 0 where
  pub held : ℕ → ℕ
  pub steps : (c : ℕ) → (held c - one_if (came c)) + one_if (taken c) ≤ held (suc c)
  pub few : (c : ℕ) → held c ≤ most

still_most : (unanswered held came taken later : ℕ) → unanswered ≤ held → (held - came) + taken ≤ later → (unanswered - came) + taken ≤ later
still_most unanswered held came taken later most step = omega (arith, most, step)

module _ (run : Run) (read wait valid : NetValue) (most : ℕ) (s : StandFor (λ c. takes_in (cycle_of run c) read wait) (λ c. is_raised (run.net c valid.number)) most) where
  within : (c : ℕ) → unanswered_in run read wait valid c ≤ s.held c
  within zero = omega arith
  within (suc c) = still_most (unanswered_in run read wait valid c) (s.held c) (one_if (is_raised (run.net c valid.number))) (one_if (takes_in (cycle_of run c) read wait)) (s.held (suc c)) (within c) (s.steps c)

  pub no_more_unanswered : (c : ℕ) → unanswered_in run read wait valid c ≤ most
  no_more_unanswered c = let low = within c in let few = s.few c in omega (arith, low, few)

-- ---- where fewer are taken than elsewhere, and no fewer words come

less_gone : (count : ℕ) (came more : Bool) → (came ≡ true → more ≡ true) → count - one_if more ≤ count - one_if came
less_gone count true more h = subst (λ t. count - one_if t ≤ count - 1) (sym (h refl)) (omega arith)
less_gone count false true h = omega arith
less_gone count false false h = omega arith

pub fewer_taken : (taken fewer : Bool) → (fewer ≡ true → taken ≡ true) → one_if fewer ≤ one_if taken
fewer_taken taken true h = subst (λ t. 1 ≤ one_if t) (sym (h refl)) (omega arith)
fewer_taken true false h = omega arith
fewer_taken false false h = omega arith

pub fewer_left : (count : ℕ) (came more taken fewer : Bool) → (came ≡ true → more ≡ true) → (fewer ≡ true → taken ≡ true) → (count - one_if more) + one_if fewer ≤ (count - one_if came) + one_if taken
fewer_left count came more taken fewer h g = let gone = less_gone count came more h in let new = fewer_taken taken fewer g in omega (arith, gone, new)

pub stand_by : (taken came fewer more : ℕ → Bool) (most : ℕ) → ((c : ℕ) → fewer c ≡ true → taken c ≡ true) → ((c : ℕ) → came c ≡ true → more c ≡ true) → StandFor taken came most → StandFor fewer more most
stand_by taken came fewer more most h g s = record {
  held = s.held;
  steps = λ c. (let less = fewer_left (s.held c) (came c) (more c) (taken c) (fewer c) (g c) (h c) in let step = s.steps c in omega (arith, less, step));
  few = s.few;
}

-- ---- reads in a queue, by their tags

-- how many bear this tag
abbrev pub tagged : ℕ → List Entry → ℕ
tagged tag [] = 0
tagged tag (e ∷ later) = one_if (nat_eq e.tag tag) + tagged tag later

bit_most : (t : Bool) → one_if t ≤ 1
bit_most true = omega arith
bit_most false = omega arith

pub few_tagged : (tag : ℕ) (queue : List Entry) → tagged tag queue ≤ length queue
few_tagged tag [] = omega arith
few_tagged tag (e ∷ later) = let rest = few_tagged tag later in let one = bit_most (nat_eq e.tag tag) in omega (arith, rest, one)

tagged_both : (tag : ℕ) (xs ys : List Entry) → tagged tag (xs ++ ys) ≡ tagged tag xs + tagged tag ys
tagged_both tag [] ys = omega arith
tagged_both tag (e ∷ later) ys = let rest = tagged_both tag later ys in omega (arith, rest)

first_gone : (tag : ℕ) (came : Bool) (e : Entry) (later : List Entry) → (e.tag ≡ tag → came ≡ true) → tagged tag (e ∷ later) - one_if came ≤ tagged tag later
first_gone tag came e later h = by (nat_eq e.tag tag) refl
  where
    by : (t : Bool) → nat_eq e.tag tag ≡ t → (one_if (nat_eq e.tag tag) + tagged tag later) - one_if came ≤ tagged tag later
    by true own = subst (λ t. (one_if t + tagged tag later) - one_if came ≤ tagged tag later) (sym own) (subst (λ t. (1 + tagged tag later) - one_if t ≤ tagged tag later) (sym (h (eqb-true e.tag tag own))) (omega arith))
    by false other = subst (λ t. (one_if t + tagged tag later) - one_if came ≤ tagged tag later) (sym other) (omega arith)

answered_tagged : (tag : ℕ) (word came : Bool) (queue : List Entry) → (word ≡ true → 0 < length queue → head_tag queue ≡ tag → came ≡ true) → tagged tag queue - one_if came ≤ tagged tag (answered word queue)
answered_tagged tag word came [] h = omega arith
answered_tagged tag false came (e ∷ later) h = omega arith
answered_tagged tag true came (e ∷ later) h = by (nat_eq e.left 1)
  where
    by : (t : Bool) → tagged tag (e ∷ later) - one_if came ≤ tagged tag (if t then later else record { tag = e.tag; left = e.left - 1 } ∷ later)
    by true = first_gone tag came e later (h refl (omega arith))
    by false = omega arith

only_tagged : (tag : ℕ) (own taken : Bool) (e : Entry) → (own ≡ true → taken ≡ true) → (own ≡ true → e.tag ≡ tag) → one_if own ≤ tagged tag (only_if taken e)
only_tagged tag false taken e h g = omega arith
only_tagged tag true taken e h g =
    let same : nat_eq e.tag tag ≡ true = eq-eqb e.tag tag (g refl) in
    subst (λ t. 1 ≤ tagged tag (only_if t e)) (sym (h refl)) (subst (λ t. 1 ≤ one_if t + 0) (sym same) (omega arith))

-- a word lowers those of a tag by one at most, where it comes under that tag
pub queue_stands : (tag : ℕ) (word came own taken : Bool) (queue : List Entry) (e : Entry) → (word ≡ true → 0 < length queue → head_tag queue ≡ tag → came ≡ true) → (own ≡ true → taken ≡ true) → (own ≡ true → e.tag ≡ tag) →
    (tagged tag queue - one_if came) + one_if own ≤ tagged tag (answered word queue ++ only_if taken e)
queue_stands tag word came own taken queue e h g k =
    let old = answered_tagged tag word came queue h in
    let new = only_tagged tag own taken e g k in
    let both = tagged_both tag (answered word queue) (only_if taken e) in
    omega (arith, old, new, both)

-- ---- reads whose words come so many cycles later

-- in how many of so many cycles before this one a read was taken
abbrev pub recent : (ℕ → Bool) → ℕ → ℕ → ℕ
recent taken zero c = 0
recent taken (suc count) zero = 0
recent taken (suc count) (suc c) = one_if (taken c) + recent taken count c

pub few_recent : (taken : ℕ → Bool) (count c : ℕ) → recent taken count c ≤ count
few_recent taken zero c = omega arith
few_recent taken (suc count) zero = omega arith
few_recent taken (suc count) (suc c) = let rest = few_recent taken count c in let one = bit_most (taken c) in omega (arith, rest, one)

-- one more cycle has one more read at most: the one that is answered now
oldest_gone : (taken : ℕ → Bool) (count c : ℕ) (came : Bool) → ((d : ℕ) → c ≡ d + suc count → taken d ≡ true → came ≡ true) → recent taken (suc count) c ≤ recent taken count c + one_if came
oldest_gone taken zero zero came h = omega arith
oldest_gone taken zero (suc c) came h = let one = fewer_taken came (taken c) (h c (omega arith)) in omega (arith, one)
oldest_gone taken (suc count) zero came h = omega arith
oldest_gone taken (suc count) (suc c) came h = let rest = oldest_gone taken count c came (λ d e t. h d (omega (arith, e)) t) in omega (arith, rest)

pub row_stands : (taken : ℕ → Bool) (count c : ℕ) (came : Bool) → ((d : ℕ) → c ≡ d + suc count → taken d ≡ true → came ≡ true) → (recent taken (suc count) c - one_if came) + one_if (taken c) ≤ recent taken (suc count) (suc c)
row_stands taken count c came h = let gone = oldest_gone taken count c came h in omega (arith, gone)
