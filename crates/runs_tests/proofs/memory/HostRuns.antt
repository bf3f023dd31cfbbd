-- Hosts in turn, and hosts that hang, computed.
use Rattle.std.proofs.Common.{ℕ, zero, suc, ◌<◌, ◌≤◌, ◌≡◌, [], arith, tests, refl, sym, ap, subst, length, filter, not, nat_le, nat_eq, ◌&&◌, ◌||◌, None, IsTrue, IsFalse, ◌+◌, ◌-◌}
use Rattle.std.proofs.lemmas.Bool.{and_parts}
use Rattle.histories.specs.Below.{each_below}
use Rattle.memory_runs.specs.Views.{System, Run}
use Rattle.memory_runs.specs.Order.{Owner}
use Rattle.memory_runs.specs.Awake.{IsWanted, serves, ServesWithin, Throughout, Sometime, IsPassedByFew, begun, begun_by_others, is_oldest, are_finished_before, commands_begun, owes, ServesDefaultWithin, is_wanted_at_default, is_given_from, is_written_to, moves_on_at_default, MovesAtDefaultWithin}
use Rattle.runs_tests.proofs.memory.EmptyRead.{no_true}
use Rattle.memory_runs.specs.Legal.{host_accepts}
use Rattle.memory_runs.specs.Onward.{moves_on, MovesWithin, IsPrompt, IsLacking, AcceptsWithin}
use Rattle.histories.specs.History.{is_raised}
use Rattle.runs_tests.specs.HostRuns.{shared, turns_run, hanging_run, forgetful_run, crowded_run, nowhere, silent_run}

six : (P : ℕ → Type 0) → P 0 → P 1 → P 2 → P 3 → P 4 → P 5 → (c : ℕ) → c < 6 → P c
six P a b d e f g c h = each_below P 6 c ((((((tt, a), b), d), e), f), g) h

-- where something moves in each cycle, every window is served
served : (system : System) (run : Run) (size end : ℕ) → 0 < size → ((c : ℕ) → c < end → IsTrue (serves system run 0 c)) → ServesWithin size system run 0 end
served system run size end some all from host number inside low wanted = (from, omega arith, omega (arith, some), all from (omega (arith, inside, some)))

pub hanging_served : ServesWithin 3 shared hanging_run 0 6
hanging_served = served shared hanging_run 3 6 (omega arith) (six (λ c. IsTrue (serves shared hanging_run 0 c)) refl refl refl refl refl refl)

pub forgetful_served : ServesWithin 3 shared forgetful_run 0 6
forgetful_served = served shared forgetful_run 3 6 (omega arith) (six (λ c. IsTrue (serves shared forgetful_run 0 c)) refl refl refl refl refl refl)

pub crowded_served : ServesWithin 3 shared crowded_run 0 6
crowded_served = served shared crowded_run 3 6 (omega arith) (six (λ c. IsTrue (serves shared crowded_run 0 c)) refl refl refl refl refl refl)

-- a command that is wanted from cycle 2 to 5 and doesn't move
stuck : (run : Run) → ((c : ℕ) → c < 6 → 2 ≤ c → IsWanted shared run 0 0 1 c) → ((c : ℕ) → c < 6 → 2 ≤ c → IsTrue (moves_on shared run 0 0 1 c) → ⊥) → MovesWithin 3 shared run 0 0 6 → ⊥
stuck run wanted still moves = let found = moves 2 1 (omega arith) (λ c low high. wanted c (omega (arith, high)) low) in still found.0 (omega (arith, found.2)) found.1 found.3

early : {P : Type 0} {c : ℕ} → c < 2 → 2 ≤ c → P
early {P} {c} h low = absurd (omega (arith, h, low))

pub hanging_stuck : MovesWithin 3 shared hanging_run 0 0 6 → ⊥
hanging_stuck = stuck hanging_run
    (six (λ c. 2 ≤ c → IsWanted shared hanging_run 0 0 1 c) (λ low. early (omega arith) low) (λ low. early (omega arith) low)
    (λ low. record { oldest = refl; for_agent = refl; ready = refl; answered = refl; bursts = refl }) (λ low. record { oldest = refl; for_agent = refl; ready = refl; answered = refl; bursts = refl })
    (λ low. record { oldest = refl; for_agent = refl; ready = refl; answered = refl; bursts = refl }) (λ low. record { oldest = refl; for_agent = refl; ready = refl; answered = refl; bursts = refl }))
    (six (λ c. 2 ≤ c → IsTrue (moves_on shared hanging_run 0 0 1 c) → ⊥) (λ low. early (omega arith) low) (λ low. early (omega arith) low) (λ low h. cc) (λ low h. cc) (λ low h. cc) (λ low h. cc))

pub forgetful_stuck : MovesWithin 3 shared forgetful_run 0 0 6 → ⊥
forgetful_stuck = stuck forgetful_run
    (six (λ c. 2 ≤ c → IsWanted shared forgetful_run 0 0 1 c) (λ low. early (omega arith) low) (λ low. early (omega arith) low)
    (λ low. record { oldest = refl; for_agent = refl; ready = refl; answered = refl; bursts = refl }) (λ low. record { oldest = refl; for_agent = refl; ready = refl; answered = refl; bursts = refl })
    (λ low. record { oldest = refl; for_agent = refl; ready = refl; answered = refl; bursts = refl }) (λ low. record { oldest = refl; for_agent = refl; ready = refl; answered = refl; bursts = refl }))
    (six (λ c. 2 ≤ c → IsTrue (moves_on shared forgetful_run 0 0 1 c) → ⊥) (λ low. early (omega arith) low) (λ low. early (omega arith) low) (λ low h. cc) (λ low h. cc) (λ low h. cc) (λ low h. cc))

pub crowded_stuck : MovesWithin 3 shared crowded_run 0 0 6 → ⊥
crowded_stuck = stuck crowded_run
    (six (λ c. 2 ≤ c → IsWanted shared crowded_run 0 0 1 c) (λ low. early (omega arith) low) (λ low. early (omega arith) low)
    (λ low. record { oldest = refl; for_agent = refl; ready = refl; answered = refl; bursts = refl }) (λ low. record { oldest = refl; for_agent = refl; ready = refl; answered = refl; bursts = refl })
    (λ low. record { oldest = refl; for_agent = refl; ready = refl; answered = refl; bursts = refl }) (λ low. record { oldest = refl; for_agent = refl; ready = refl; answered = refl; bursts = refl }))
    (six (λ c. 2 ≤ c → IsTrue (moves_on shared crowded_run 0 0 1 c) → ⊥) (λ low. early (omega arith) low) (λ low. early (omega arith) low) (λ low h. cc) (λ low h. cc) (λ low h. cc) (λ low h. cc))

-- no command begins there, so none passes
pub crowded_passed : IsPassedByFew 0 shared crowded_run 0 5
crowded_passed from later host number first last low waits none =
    let nothing : begun shared crowded_run 0 later ≡ [] = six (λ c. begun shared crowded_run 0 c ≡ []) refl refl refl refl refl refl later (omega (arith, last)) in
    let few : begun_by_others shared crowded_run 0 host later ≡ 0 = ap (λ l. length (filter (λ (o : Owner). not (nat_eq o.tag host)) l)) nothing in
    omega (arith, few)

-- ---- the right run

begun_so : (number c : ℕ) → IsTrue (is_oldest shared turns_run 0 number c) → (1 ≤ number) × (number ≤ commands_begun shared turns_run 0 (suc c))
begun_so number c oldest =
    let a = (and_parts _ (are_finished_before shared turns_run 0 number c) oldest).0 in
    let b = (and_parts (nat_le 1 number && nat_le number (commands_begun shared turns_run 0 (suc c))) _ a).0 in
    let d = and_parts (nat_le 1 number) (nat_le number (commands_begun shared turns_run 0 (suc c))) b in
    (grind (arith, tests, d.0), grind (arith, tests, d.1))

abbrev Moves : ℕ → Type 0
Moves from = (number : ℕ) → Throughout from 2 (IsWanted shared turns_run 0 0 number) → Sometime from 2 (λ c. IsTrue (moves_on shared turns_run 0 0 number c))

from_zero : Moves 0
from_zero number wanted = by_number number (begun_so number 0 (wanted 0 (omega arith) (omega arith)).oldest)
  where
    by_number : (n : ℕ) → (1 ≤ n) × (n ≤ 1) → Sometime 0 2 (λ c. IsTrue (moves_on shared turns_run 0 0 n c))
    by_number zero h = let l = h.0 in absurd (omega (arith, l))
    by_number (suc zero) h = (1, omega arith, omega arith, refl)
    by_number (suc (suc n)) h = let l = h.1 in absurd (omega (arith, l))

from_one : Moves 1
from_one number wanted = by_number number (begun_so number 1 (wanted 1 (omega arith) (omega arith)).oldest)
  where
    by_number : (n : ℕ) → (1 ≤ n) × (n ≤ 1) → Sometime 1 2 (λ c. IsTrue (moves_on shared turns_run 0 0 n c))
    by_number zero h = let l = h.0 in absurd (omega (arith, l))
    by_number (suc zero) h = (1, omega arith, omega arith, refl)
    by_number (suc (suc n)) h = let l = h.1 in absurd (omega (arith, l))

from_two : Moves 2
from_two number wanted = by_number number (begun_so number 2 (wanted 2 (omega arith) (omega arith)).oldest) (wanted 2 (omega arith) (omega arith)).oldest
  where
    by_number : (n : ℕ) → (1 ≤ n) × (n ≤ 2) → IsTrue (is_oldest shared turns_run 0 n 2) → Sometime 2 2 (λ c. IsTrue (moves_on shared turns_run 0 0 n c))
    by_number zero h oldest = let l = h.0 in absurd (omega (arith, l))
    by_number (suc zero) h oldest = absurd (no_true oldest)
    by_number (suc (suc zero)) h oldest = (3, omega arith, omega arith, refl)
    by_number (suc (suc (suc n))) h oldest = let l = h.1 in absurd (omega (arith, l))

pub turns_move : MovesWithin 2 shared turns_run 0 0 4
turns_move from number inside wanted = each_below Moves 3 from (((tt, from_zero), from_one), from_two) (omega (arith, inside)) number wanted

-- a round of the other and the command's own beat take two cycles: one is too few
pub one_is_too_few : MovesWithin 1 shared turns_run 0 0 4 → ⊥
one_is_too_few moves =
    let found = moves 0 1 (omega arith) (λ c low high. each_below (λ c. IsWanted shared turns_run 0 0 1 c) 1 c (tt, record { oldest = refl; for_agent = refl; ready = refl; answered = refl; bursts = refl }) (omega (arith, high))) in
    each_below (λ c. IsTrue (moves_on shared turns_run 0 0 1 c) → ⊥) 1 found.0 (tt, λ h. cc) (omega (arith, found.2)) found.3

-- ---- the default agent

pub silent_served : ServesDefaultWithin 3 nowhere silent_run 6
silent_served from host number inside low wanted = by_host host refl
  where
    by_host : (h : ℕ) → host ≡ h → Sometime from 3 (λ c. IsTrue (is_given_from nowhere silent_run None c host || is_written_to nowhere silent_run None c host))
    by_host zero e = subst (λ h. Sometime from 3 (λ c. IsTrue (is_given_from nowhere silent_run None c h || is_written_to nowhere silent_run None c h))) (sym e) (
      suc from,
      omega arith,
      omega arith,
      six (λ c. IsTrue (is_given_from nowhere silent_run None (suc c) 0 || is_written_to nowhere silent_run None (suc c) 0)) refl refl refl refl refl refl from (omega (arith, inside)),
    )
    by_host (suc h) e = absurd (omega (arith, low, e))

pub silent_stuck : MovesAtDefaultWithin 3 nowhere silent_run 0 6 → ⊥
silent_stuck moves =
    let found = moves 2 1 (omega arith) (λ c low high. six (λ c. 2 ≤ c → IsTrue (is_wanted_at_default nowhere silent_run 0 1 c)) (λ low. early (omega arith) low) (λ low. early (omega arith) low) (λ low. refl) (λ low. refl) (λ low. refl) (λ low. refl) c (omega (arith, high)) low) in
    six (λ c. 2 ≤ c → IsTrue (moves_on_at_default nowhere silent_run 0 1 c) → ⊥) (λ low. early (omega arith) low) (λ low. early (omega arith) low) (λ low h. cc) (λ low h. cc) (λ low h. cc) (λ low h. cc) found.0 (omega (arith, found.2)) found.1 found.3

-- ---- beats that are accepted soon

four : (P : ℕ → Type 0) → P 0 → P 1 → P 2 → P 3 → (c : ℕ) → c < 4 → P c
four P a b d e c h = each_below P 4 c ((((tt, a), b), d), e) h

pub turns_prompt : IsPrompt shared turns_run 0 1 4
turns_prompt = record {
  ready = λ c low. four (λ c. IsFalse (is_raised ((turns_run.at_agent 0).waitrequest c))) refl refl refl refl c low;
  answers = λ c low none. four (λ c. IsFalse (owes shared turns_run 0 (c + 1 - 1))) refl refl refl refl c (omega (arith, low));
}

pub turns_accept : AcceptsWithin 2 shared turns_run 0 0 4
turns_accept from number inside lacking =
    each_below (λ c. Sometime c 2 (λ c. IsTrue (host_accepts (turns_run.at_host 0) c))) 3 from (((tt, (1, omega arith, omega arith, refl)), (1, omega arith, omega arith, refl)), (3, omega arith, omega arith, refl)) (omega (arith, inside))

pub one_accepts_too_few : AcceptsWithin 1 shared turns_run 0 0 4 → ⊥
one_accepts_too_few accepts =
    let found = accepts 0 1 (omega arith) (λ c low high. each_below (λ c. IsLacking shared turns_run 0 0 1 c) 1 c (tt, record { oldest = refl; for_agent = refl; lacking = refl; bursts = refl; passes = refl }) (omega (arith, high))) in
    each_below (λ c. IsTrue (host_accepts (turns_run.at_host 0) c) → ⊥) 1 found.0 (tt, λ h. cc) (omega (arith, found.2)) found.3

pub hanging_prompt : IsPrompt shared hanging_run 0 1 6
hanging_prompt = record {
  ready = λ c low. six (λ c. IsFalse (is_raised ((hanging_run.at_agent 0).waitrequest c))) refl refl refl refl refl refl c low;
  answers = λ c low none. six (λ c. IsFalse (owes shared hanging_run 0 (c + 1 - 1))) refl refl refl refl refl refl c (omega (arith, low));
}

pub hanging_stands : AcceptsWithin 3 shared hanging_run 0 0 6 → ⊥
hanging_stands accepts =
    let found = accepts 2 1 (omega arith) (λ c low high. six (λ c. IsLacking shared hanging_run 0 0 1 c) (record { oldest = refl; for_agent = refl; lacking = refl; bursts = refl; passes = refl }) (record { oldest = refl; for_agent = refl; lacking = refl; bursts = refl; passes = refl })
    (record { oldest = refl; for_agent = refl; lacking = refl; bursts = refl; passes = refl }) (record { oldest = refl; for_agent = refl; lacking = refl; bursts = refl; passes = refl })
    (record { oldest = refl; for_agent = refl; lacking = refl; bursts = refl; passes = refl }) (record { oldest = refl; for_agent = refl; lacking = refl; bursts = refl; passes = refl }) c (omega (arith, high))) in
    six (λ c. IsTrue (host_accepts (hanging_run.at_host 0) c) → ⊥) (λ h. cc) (λ h. cc) (λ h. cc) (λ h. cc) (λ h. cc) (λ h. cc) found.0 (omega (arith, found.2)) found.3
