-- A host that asks at an arbiter is passed by no more commands than the other joined hosts have shares.
use Rattle.std.proofs.Common.{ℕ, zero, suc, ◌≤◌, ◌≡◌, ◌+◌, Bool, true, false, not, List, [], ◌∷◌, map, nat_eq, if◌then◌else◌, arith, subst}
use Rattle.std.specs.Prelude.{filter, sum}
use Rattle.std.proofs.lemmas.List.Sums.{sum_by-cons}
use Rattle.memory_runs.specs.Views.{System}
use Rattle.memory_runs.specs.Awake.{shares_of_others}
use Rattle.memory_machines.specs.Link.{Port}
use Rattle.memory_machines.specs.Lines.{TaggedPort}
use Rattle.memory_machines.specs.Turns.{AsksInVain, IsKeptAsking, others_begun, seats_of}
use Rattle.histories.specs.Turns as turns
use Rattle.memory_parts.specs.Steps.{IsArbiterPart}
use Rattle.memory_awake.proofs.Arbiter.{seated_if_joined}

same_shares : (shares : ℕ → ℕ) (host : ℕ) (order : List ℕ) →
    turns.shares_of_others host (map (λ other. record { host = other; shares = shares other }) order) ≡ sum (map shares (filter (λ other. not (nat_eq other host)) order))
same_shares shares host [] = omega arith
same_shares shares host (x ∷ order) = by_same (nat_eq x host) (same_shares shares host order)
  where
    by_same : (b : Bool) → turns.shares_of_others host (map (λ other. record { host = other; shares = shares other }) order) ≡ sum (map shares (filter (λ other. not (nat_eq other host)) order)) →
        (if b then 0 else shares x) + turns.shares_of_others host (map (λ other. record { host = other; shares = shares other }) order)
        ≡ sum (map shares (if not b then x ∷ filter (λ other. not (nat_eq other host)) order else filter (λ other. not (nat_eq other host)) order))
    by_same true more = omega (arith, more)
    by_same false more = let split = sum_by-cons (λ n. n) (shares x) (map shares (filter (λ other. not (nat_eq other host)) order)) in omega (arith, more, split)

module _ (system : System) (agent : ℕ) (up : ℕ → Port) (down : TaggedPort) (end : ℕ) (arbiter : IsArbiterPart system agent up down end)
    (few : (host from size : ℕ) → AsksInVain (seats_of system agent) up down.port end host from size → others_begun (seats_of system agent) up down.port host from size ≤ turns.shares_of_others host (seats_of system agent)) where
  pub passed_by_few : (host from size : ℕ) → from + size ≤ end → IsKeptAsking (seats_of system agent) up down.port host from size →
      others_begun (seats_of system agent) up down.port host from size ≤ shares_of_others system agent host
  passed_by_few host from zero fit asks = omega arith
  passed_by_few host from (suc size) fit asks =
      let asked = (asks from (omega arith) (omega arith)).0 in
      let joined = (arbiter.joined host from (omega (arith, fit)) asked).1 in
      let seated = seated_if_joined (λ h. system.shares h agent) (system.joined agent) host joined in
      let all = few host from (suc size) (record { seated = seated; within = fit; asks = asks }) in
      subst (λ n. others_begun (seats_of system agent) up down.port host from (suc size) ≤ n) (same_shares (λ h. system.shares h agent) host (system.joined agent)) all
