-- The words of a window, choice by choice.
use Rattle.std.proofs.Common.{◌≡◌, ℕ, zero, suc, ◌+◌, ◌-◌, ◌*◌, ◌≤◌, Bool, true, false, ◌==◌, if◌then◌else◌, sym, ap, ◌∙◌, arith}
use Rattle.netlist.specs.Nets.{NetValue}
use Rattle.netlist.specs.Netlists.{Netlist}
use Rattle.netlist.specs.Runs.{Always}
use Rattle.net_parts.specs.Nets.{IsNetOfWidth}
use Rattle.net_parts.specs.Growth.{AddsNets}
use Rattle.st_windows.specs.declared.sizes.WindowSizes.{WindowSizes}
use Rattle.st_windows.specs.Cuts.{cut_of, front_at, rest_at, chosen_at, chosen_below}

chosen_by : (t : Bool) (here old coming e : ℕ) → here ≡ (if t then 1 else 0) → e ≡ (if here == 0 then old else coming) → e ≡ (if t then coming else old)
chosen_by true here old coming e is chosen = chosen ∙ ap (λ n. if n == 0 then old else coming) is
chosen_by false here old coming e is chosen = chosen ∙ ap (λ n. if n == 0 then old else coming) is

pub chosen_here : (held number k here word other e : ℕ) → number ≡ k → here ≡ (if held == number then 1 else 0) → e ≡ (if here == 0 then other else word) → e ≡ (if held == k then word else other)
chosen_here held number k here word other e at is chosen = chosen_by (held == k) here other word e (is ∙ ap (λ n. if held == n then 1 else 0) at) chosen

-- one more choice
pub chosen_more : (count done : ℕ) (choice : ℕ → ℕ) (chosen word other : ℕ) → 1 ≤ done → other ≡ chosen_at count choice (done - 1) → word ≡ choice done → chosen ≡ (if count == done then word else other) → chosen ≡ chosen_at count choice (done + 1 - 1)
chosen_more count zero choice chosen word other some before here is = absurd (omega (arith, some))
chosen_more count (suc d) choice chosen word other some before here is =
    let back : suc d - 1 ≡ d = omega arith in
    let next : suc d + 1 - 1 ≡ suc d = omega arith in
    is ∙ ap (λ n. if count == suc d then n else other) here ∙ ap (λ n. if count == suc d then choice (suc d) else n) (before ∙ ap (chosen_at count choice) back) ∙ sym (ap (chosen_at count choice) next)

pub chosen_none : (count : ℕ) (choice : ℕ → ℕ) (word : ℕ) → word ≡ choice 0 → word ≡ chosen_at count choice (1 - 1)
chosen_none count choice word is = let none : 1 - 1 ≡ 0 = omega arith in is ∙ sym (ap (chosen_at count choice) none)

-- one more choice below a bound
pub below_more : (count done : ℕ) (choice : ℕ → ℕ) (rest chosen word other : ℕ) → other ≡ chosen_below count choice rest done → word ≡ choice done → chosen ≡ (if count == done then word else other) → chosen ≡ chosen_below count choice rest (done + 1)
below_more count done choice rest chosen word other before here is =
    let next : done + 1 ≡ suc done = omega arith in
    is ∙ ap (λ n. if count == done then n else other) here ∙ ap (λ n. if count == done then choice done else n) before ∙ sym (ap (chosen_below count choice rest) next)

-- the front of the fewest that are held
pub record IsFrontOf (sizes : WindowSizes) (done : ℕ) (held coming count front : NetValue) (old new : Netlist) : Type 0 where
  pub most : done ≤ sizes.into
  pub adds : AddsNets (10 * done + 3) old new
  pub net : IsNetOfWidth new front (sizes.bits * sizes.into)
  pub value : Always new (λ cycle. cycle.net front.number ≡ chosen_below (cycle.net count.number) (front_at sizes.bits sizes.from sizes.into sizes.held (cycle.net held.number) (cycle.net coming.number)) (cut_of sizes.bits sizes.held 0 sizes.into (cycle.net held.number)) done)

-- and the rest behind it
pub record IsRestOf (sizes : WindowSizes) (done : ℕ) (coming count rest : NetValue) (old new : Netlist) : Type 0 where
  pub some : 1 ≤ done
  pub most : done ≤ sizes.into
  pub adds : AddsNets (6 * done) old new
  pub net : IsNetOfWidth new rest (sizes.bits * sizes.held)
  pub value : Always new (λ cycle. cycle.net rest.number ≡ chosen_at (cycle.net count.number) (rest_at sizes.bits sizes.from sizes.into sizes.held (cycle.net coming.number)) (done - 1))
