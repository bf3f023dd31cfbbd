-- A wanted agent, and the default agent, are served, in the words of the definitions at the ports.
use Rattle.std.proofs.Common.{ℕ, zero, suc, ◌<◌, ◌≤◌, ◌≡◌, ◌+◌, ◌-◌, Bool, true, false, not, ◌||◌, ◌&&◌, arith, subst, nat_le, length, IsTrue, IsFalse, inl, inr, Option, Some, None}
use Rattle.std.proofs.lemmas.Bool.{or_left, and_parts, both_ways}
use Rattle.memory_runs.specs.Views.{System, Run}
use Rattle.memory_runs.specs.Commands.{shows, agent_accepts}
use Rattle.memory_runs.specs.Legal.{IsLegalHost}
use Rattle.memory_runs.specs.Awake.{count_for, serves, is_given_from, is_written_to, Throughout, Sometime, ServesWithin, ServesDefaultWithin, is_oldest, is_for, shows_its_burst, is_finished, are_finished_before, commands_begun}
use Rattle.memory_runs.specs.Order.{of_host, taken}
use Rattle.memory_machines.specs.Lines.{host_accepted}
use Rattle.memory_machines.specs.Turns.{seats_of}
use Rattle.histories.specs.Turns.{AllShare}
use Rattle.memory_awake.specs.Ways.{Ways, Standings, longest}
use Rattle.memory_awake.specs.Front.{KeepsWhole, Wants, Wants.a_beat as wants_beat, Wants.an_operation as wants_operation, Wants.a_word as wants_word, IsWantedAt, is_bursting, AllowLessThan, IsDefaultFront, WantsDefault, WantsDefault.beat, WantsDefault.word}
use Rattle.memory_awake.proofs.Wanted.{some_or_none, listed, three_parts}
use Rattle.memory_awake.proofs.Numbers.{Outcome, Outcome.a_beat, Outcome.an_operation, Outcome.a_word, Outcome.a_given, outcome, each_holds}
use Rattle.memory_awake.proofs.Bits.{no_true}

pub record Laws : Type 0 where
  pub served : (system : System) (run : Run) (agent : ℕ) (ways : Ways) (standings : Standings) (host from size end : ℕ) → from + size + 2 ≤ end → host < system.hosts → AllShare (seats_of system agent) →
      KeepsWhole system run agent ways standings end → longest system run agent ways standings from size < size →
      Throughout from size (IsWantedAt system run agent host) → Sometime from size (λ c. IsTrue (serves system run agent c))

pub shown_burst : (under shown : Bool) → IsTrue (not under || shown) → IsTrue under → IsTrue shown
shown_burst true shown h u = h
shown_burst false shown h u = absurd (no_true u)

never_none : (system : System) (run : Run) (host c : ℕ) → IsTrue (is_oldest system run host 0 c) → ⊥
never_none system run host c h =
    let a = (and_parts ((nat_le 1 0 && nat_le 0 (commands_begun system run host (suc c))) && not (is_finished system run host 0 c)) (are_finished_before system run host 0 c) h).0 in
    let b = (and_parts (nat_le 1 0 && nat_le 0 (commands_begun system run host (suc c))) (not (is_finished system run host 0 c)) a).0 in
    no_true (and_parts (nat_le 1 0) (nat_le 0 (commands_begun system run host (suc c))) b).0

-- what is wanted in a cycle, by the host's port
pub outcome_of : (system : System) (run : Run) (host end : ℕ) → IsLegalHost (system.host host) (run.at_host host) end → (c number : ℕ) (place : Option ℕ) → c < end → IsTrue (is_oldest system run host number c) → IsTrue (is_for system run host place number (suc c)) →
    (IsTrue (is_bursting system run host place c) → IsTrue (shows (run.at_host host).signals c)) → Outcome system run host place number c
outcome_of system run host end legal c zero place h oldest for_place bursts = absurd (never_none system run host c oldest)
outcome_of system run host end legal c (suc k) place h oldest for_place bursts = outcome system run host end legal c k place h oldest for_place bursts

wants_of : (system : System) (run : Run) (agent host number c : ℕ) → Outcome system run host (Some agent) number c → (IsTrue (is_given_from system run (Some agent) c host) → ⊥) → Wants system run agent host c
wants_of system run agent host number c (a_beat lacks shown all) none = wants_beat shown all
wants_of system run agent host number c (an_operation whole b e less) none = let same : b ≡ agent = cc in wants_operation (subst (λ x. length (of_host host (taken system run x c)) < count_for system host x (host_accepted system run host c)) same less)
wants_of system run agent host number c (a_word whole still owing) none = wants_word owing
wants_of system run agent host number c (a_given whole given lacking) none = absurd (none given)

pub served_within : Laws → (system : System) (run : Run) (agent : ℕ) (ways : Ways) (standings : Standings) (size end longer : ℕ) → end + 2 ≤ longer → AllShare (seats_of system agent) → KeepsWhole system run agent ways standings longer →
    ((h : ℕ) → h < system.hosts → IsLegalHost (system.host h) (run.at_host h) longer) → AllowLessThan size system run agent ways standings end → ServesWithin (suc size) system run agent end
served_within laws system run agent ways standings size end longer fits share keeps legal short from host number inside host_is wanted =
    elim (some_or_none (λ c. serves system run agent (from + c)) (suc size)) [
      | inl found ↦ (from + found.0, omega arith, omega (arith, found.1), found.2)
      | inr none ↦ one_later (laws.served system run agent ways standings host from size longer (omega (arith, inside, fits)) host_is share keeps (short from inside (record { none = none; answered = λ c h. (wanted (from + c) (omega arith) (omega (arith, h))).answered })) (λ c low high. now none c low (omega (arith, high))))
    ]
  where
    one_later : Sometime from size (λ c. IsTrue (serves system run agent c)) → Sometime from (suc size) (λ c. IsTrue (serves system run agent c))
    one_later found = (found.0, found.1, omega (arith, found.2), found.3)

    is_none : ((c : ℕ) → c < suc size → IsFalse (serves system run agent (from + c))) → (c : ℕ) → from ≤ c → c < from + suc size → IsFalse (serves system run agent c)
    is_none none c low high = let same : from + (c - from) ≡ c = omega (arith, low) in subst (λ x. IsFalse (serves system run agent x)) same (none (c - from) (omega (arith, low, high)))

    now : ((c : ℕ) → c < suc size → IsFalse (serves system run agent (from + c))) → (c : ℕ) → from ≤ c → c < from + suc size → IsWantedAt system run agent host c
    now none c low high = record {
      wants = wants_of system run agent host number c
          (outcome_of system run host longer (legal host host_is) c number (Some agent) (omega (arith, high, inside, fits)) (wanted c low high).oldest (wanted c low high).for_agent
          (λ under. burst host host_is under))
          (λ given. both_ways _ (three_parts (agent_accepts (system.agent agent) (run.at_agent agent) c) _ _ (is_none none c low high)).1 (listed (is_given_from system run (Some agent) c) 0 system.hosts host (omega arith) (omega (arith, host_is)) given));
      ready = (wanted c low high).ready;
      answered = (wanted c low high).answered;
      bursts = λ h low' under. burst h low' under;
    }
      where
        burst : (h : ℕ) → h < system.hosts → IsTrue (is_bursting system run h (Some agent) c) → IsTrue (shows (run.at_host h).signals c)
        burst h low' under = shown_burst (is_bursting system run h (Some agent) c) (shows (run.at_host h).signals c) (each_holds (shows_its_burst system run (Some agent) c) 0 system.hosts h (wanted c low high).bursts (omega arith) (omega (arith, low'))) under

pub record DefaultLaws : Type 0 where
  pub served : (system : System) (run : Run) (host from size end : ℕ) → from + size ≤ end → 2 ≤ size → IsDefaultFront system run host end → Throughout from size (WantsDefault system run host) → Sometime from size (λ c. IsTrue (is_given_from system run None c host || is_written_to system run None c host))

pub default_within : DefaultLaws → (system : System) (run : Run) (size end longer : ℕ) → 2 ≤ size → end + 2 ≤ longer → ((h : ℕ) → h < system.hosts → IsLegalHost (system.host h) (run.at_host h) longer) →
    ((h : ℕ) → h < system.hosts → IsDefaultFront system run h longer) → ServesDefaultWithin size system run end
default_within laws system run size end longer long fits legal fronts from host number inside host_is wanted =
    elim (some_or_none (λ c. is_given_from system run None (from + c) host || is_written_to system run None (from + c) host) size) [
      | inl found ↦ (from + found.0, omega arith, omega (arith, found.1), found.2)
      | inr none ↦ laws.served system run host from size longer (omega (arith, inside, fits)) long (fronts host host_is) (λ c low high. now none c low high)
    ]
  where
    wants : (c : ℕ) → Outcome system run host None number c → (IsTrue (is_given_from system run None c host) → ⊥) → WantsDefault system run host c
    wants c (a_beat lacks shown all) none = beat shown all
    wants c (an_operation whole b e less) none = absurd cc
    wants c (a_word whole still owing) none = word owing
    wants c (a_given whole given lacking) none = absurd (none given)

    now : ((c : ℕ) → c < size → IsFalse (is_given_from system run None (from + c) host || is_written_to system run None (from + c) host)) → (c : ℕ) → from ≤ c → c < from + size → WantsDefault system run host c
    now none c low high =
        let w = wanted c low high in
        let two = and_parts (is_oldest system run host number c && is_for system run host None number (suc c)) (shows_its_burst system run None c host) w in
        let one = and_parts (is_oldest system run host number c) (is_for system run host None number (suc c)) two.0 in
        let same : from + (c - from) ≡ c = omega (arith, low) in
        let nothing = subst (λ x. IsFalse (is_given_from system run None x host || is_written_to system run None x host)) same (none (c - from) (omega (arith, low, high))) in
        wants c (outcome_of system run host longer (legal host host_is) c number None (omega (arith, high, inside, fits)) one.0 one.1 (λ under. shown_burst (is_bursting system run host None c) (shows (run.at_host host).signals c) two.1 under))
        (λ given. both_ways _ nothing (or_left (is_given_from system run None c host) _ given))
