-- What is wanted in a cycle, by the host's port; and a read that stands at a host is accepted with its word.
use Rattle.std.proofs.Common.{ℕ, zero, suc, ◌<◌, ◌≤◌, ◌≡◌, ◌+◌, Bool, true, false, not, ◌||◌, ◌&&◌, arith, nat_le, length, IsTrue, Option, [], ◌∷◌, ◌++◌, refl, ap, ◌∙◌, tests, append-nil, length-append}
use Rattle.std.proofs.lemmas.Bool.{and_parts}
use Rattle.memory_runs.specs.Views.{System, Run}
use Rattle.memory_runs.specs.Commands.{shows, read_beats, words_before}
use Rattle.memory_runs.specs.Legal.{IsLegalHost, IsProperAtHost, gives_word, given}
use Rattle.memory_runs.specs.Awake.{is_oldest, is_for, is_finished, are_finished_before, commands_begun, lacks_beats, is_accepted_now}
use Rattle.memory_machines.specs.Lines.{host_accepted}
use Rattle.memory_awake.specs.Front.{is_bursting, are_all_given}
use Rattle.histories.specs.History.{before, only_if, is_raised}
use Rattle.memory_parts.specs.Steps.{given_before}
use Rattle.memory_waits.proofs.Bits.{no_true, both}
use Rattle.memory_waits.proofs.Numbers.{Outcome, outcome}

pub shown_burst : (under shown : Bool) → IsTrue (not under || shown) → IsTrue under → IsTrue shown
shown_burst true shown h u = h
shown_burst false shown h u = absurd (no_true u)

never_none : (system : System) (run : Run) (host c : ℕ) → IsTrue (is_oldest system run host 0 c) → ⊥
never_none system run host c h =
    let a = (and_parts ((nat_le 1 0 && nat_le 0 (commands_begun system run host (suc c))) && not (is_finished system run host 0 c)) (are_finished_before system run host 0 c) h).0 in
    let b = (and_parts (nat_le 1 0 && nat_le 0 (commands_begun system run host (suc c))) (not (is_finished system run host 0 c)) a).0 in
    no_true (and_parts (nat_le 1 0) (nat_le 0 (commands_begun system run host (suc c))) b).0

-- what is wanted in a cycle, by the host's port
pub outcome_of : (system : System) (run : Run) (host end : ℕ) → IsLegalHost (system.host host) (run.at_host host) end → (c number : ℕ) (place : Option ℕ) → c < end → IsTrue (is_oldest system run host number c) → IsTrue (is_for system run host place number (suc c)) →
    (IsTrue (is_bursting system run host place c) → IsTrue (shows (run.at_host host).signals c)) → Outcome system run host place number c
outcome_of system run host end legal c zero place h oldest for_place bursts = absurd (never_none system run host c oldest)
outcome_of system run host end legal c (suc k) place h oldest for_place bursts = outcome system run host end legal c k place h oldest for_place bursts

-- a read that stands at a host is accepted with its word
module _ (system : System) (run : Run) (host end : ℕ) (proper : IsProperAtHost (system.host host) (run.at_host host) end) where
  -- words of a host with readdatavalid are counted alike
  given_count : (system.host host).has_readdatavalid ≡ true → (c : ℕ) → given_before system run host c ≡ words_before (run.at_host host).readdatavalid c
  given_count has zero = refl
  given_count has (suc c) = by_valid (is_raised ((run.at_host host).readdatavalid c)) gives (given_count has c)
    where
      gives : gives_word (system.host host) (run.at_host host) c ≡ is_raised ((run.at_host host).readdatavalid c)
      gives = rw has refl

      by_valid : (v : Bool) → gives_word (system.host host) (run.at_host host) c ≡ v → given_before system run host c ≡ words_before (run.at_host host).readdatavalid c →
          given_before system run host (suc c) ≡ length (before (λ k. only_if (is_raised ((run.at_host host).readdatavalid k)) k) c ++ only_if v c)
      by_valid true e more =
          let one : given_before system run host (suc c) ≡ given_before system run host c + 1 = ap (λ b. length (given (system.host host) (run.at_host host) c ++ only_if b (record { word = (run.at_host host).readdata c; code = (run.at_host host).response c }))) e ∙ length-append (given (system.host host) (run.at_host host) c) _ in
          let two = length-append (before (λ k. only_if (is_raised ((run.at_host host).readdatavalid k)) k) c) (c ∷ []) in
          omega (arith, one, two, more)
      by_valid false e more =
          let one : given_before system run host (suc c) ≡ given_before system run host c = ap (λ b. length (given (system.host host) (run.at_host host) c ++ only_if b (record { word = (run.at_host host).readdata c; code = (run.at_host host).response c }))) e ∙ ap length (append-nil _) in
          let two = ap length (append-nil (before (λ k. only_if (is_raised ((run.at_host host).readdatavalid k)) k) c)) in
          omega (arith, one, two, more)

  -- a word that comes for a read that stands at the host is given where the read is accepted
  pub accepted_with_word : (number c : ℕ) → c < end → IsTrue (lacks_beats system run host number c) → IsTrue (are_all_given system run host c) → IsTrue (gives_word (system.host host) (run.at_host host) c) → IsTrue (is_accepted_now system run host number c)
  accepted_with_word number c fit lacks all gives = by_has (system.host host).has_readdatavalid refl
    where
      by_has : (b : Bool) → (system.host host).has_readdatavalid ≡ b → IsTrue (is_accepted_now system run host number c)
      by_has true has =
          let owed = proper.later has c fit in
          let after : given_before system run host (suc c) ≡ given_before system run host c + 1 = ap (λ b. length (given (system.host host) (run.at_host host) c ++ only_if b (record { word = (run.at_host host).readdata c; code = (run.at_host host).response c }))) gives ∙ length-append (given (system.host host) (run.at_host host) c) _ in
          let same = given_count has (suc c) in
          let most : length (read_beats (host_accepted system run host c)) ≤ given_before system run host c = grind (arith, tests, all) in
          absurd (omega (arith, owed, after, same, most))
      by_has false has =
          let is : IsTrue (is_raised ((run.at_host host).read c) && not (is_raised ((run.at_host host).waitrequest c))) = rw has at gives in
          both _ _ (by_two (is_raised ((run.at_host host).read c)) (is_raised ((run.at_host host).write c)) (is_raised ((run.at_host host).waitrequest c)) is) lacks
        where
          by_two : (r w q : Bool) → IsTrue (r && not q) → IsTrue ((r || w) && not q)
          by_two true w q h = h
          by_two false w q h = absurd (no_true h)
