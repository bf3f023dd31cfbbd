-- What the lines of the parts refuse, and what a plan of an agent that only writes keeps.
use Rattle.std.proofs.Common.{ℕ, zero, suc, ◌<◌, ◌≤◌, ◌≡◌, ◌+◌, ◌*◌, ◌^◌, Bool, true, false, arith, tests, refl, IsTrue, Some, None, nat_eq, nat_lt, if◌then◌else◌, ◌||◌, inl, inr, length, lt-ltb, ltb-true, ap, ◌∙◌}
use Rattle.histories.specs.Below.{each_below}
use Rattle.histories.specs.History.{IsPrefix}
use Rattle.memory_runs.specs.Views.{Kind}
use Rattle.memory_runs.specs.Views.Kind.{Reads, Writes}
use Rattle.memory_runs.specs.Views.Responses.{AreZero, AreCodes}
use Rattle.memory_runs.specs.Order.{answers, answers_to, is_joined}
use Rattle.memory_runs.specs.Plan.{IsMemoryPlan, IsInFootprint, serves_kind}
use Rattle.memory_machines.specs.Link.{read_beats, taken_at}
use Rattle.memory_machines.specs.Lines.{AgentCarriesAnswers, AreFitToAsk, AreSingle, IsFit, OwesBelow, RouteCarriesCommands, answers_with, bytes_of, target_of, with_tag, words_with}
use Rattle.runs_tests.specs.Joint.{joint_system}
use Rattle.runs_tests.specs.LineRows.{marked_side, empty_write, mistagged, some_reads, writing_agent, writing_system, written_place, odd_system, answering_system, answering_run, answered_side}

pub asker_refused : AreFitToAsk joint_system 0 mistagged 1 → ⊥
asker_refused fit = let bad : 7 ≡ 0 = (fit 0 (omega arith)).tag 0 (omega arith) refl in omega (arith, bad)

pub route_refused : RouteCarriesCommands joint_system 0 0 (mistagged 0) (λ a. mistagged 0) 1 → ⊥
route_refused carries = let bad : 7 ≡ 0 = carries.tag 0 0 (omega arith) (omega arith) in omega (arith, bad)

pub kind_refused : IsFit writing_system 0 (marked_side some_reads 0 0) 1 → ⊥
kind_refused fit = let bad = fit.kinds 0 (omega arith) in cc

pub more_refused : AreSingle (marked_side empty_write 1 0) 1 → ⊥
more_refused single = let bad = single 0 (omega arith) refl in cc

pub debt_refused : OwesBelow 2 (marked_side some_reads 0 0) 2 → ⊥
debt_refused below = let bad : 2 < 0 + 2 = below 1 (omega arith) in omega (arith, bad)

pub codes_refused : AgentCarriesAnswers AreCodes answering_system answering_run 0 answered_side 4 → ⊥
codes_refused carries = let bad = carries.codes refl 0 4 (omega arith) (omega arith) in let e = bad.joins in cc

pub zero_kept : AgentCarriesAnswers AreZero answering_system answering_run 0 answered_side 4
zero_kept = record {
  bytes = λ h c is low. each_below (λ h. IsPrefix (bytes_of (answers_with h (target_of answering_system 0) answered_side c)) (bytes_of (answers_to h (answers answering_system answering_run 0 c)))) 2 h
      ((tt, first c (omega arith)), second c (omega arith)) is;
  codes = λ told. let bad : ⊥ = cc in absurd bad;
  owed = λ h c is low. each_below (λ h. length (words_with h answered_side (suc c)) ≤ length (read_beats (with_tag h (taken_at answered_side.port c)))) 2 h ((tt, own c low), other c low) is;
}
  where
    first : (c : ℕ) → c < 5 → IsPrefix (bytes_of (answers_with 0 (target_of answering_system 0) answered_side c)) (bytes_of (answers_to 0 (answers answering_system answering_run 0 c)))
    first c low = each_below (λ c. IsPrefix (bytes_of (answers_with 0 (target_of answering_system 0) answered_side c)) (bytes_of (answers_to 0 (answers answering_system answering_run 0 c)))) 5 c
        (((((tt, record { rest = _; joins = refl }), record { rest = _; joins = refl }), record { rest = _; joins = refl }), record { rest = _; joins = refl }), record { rest = _; joins = refl }) low

    second : (c : ℕ) → c < 5 → IsPrefix (bytes_of (answers_with 1 (target_of answering_system 0) answered_side c)) (bytes_of (answers_to 1 (answers answering_system answering_run 0 c)))
    second c low = each_below (λ c. IsPrefix (bytes_of (answers_with 1 (target_of answering_system 0) answered_side c)) (bytes_of (answers_to 1 (answers answering_system answering_run 0 c)))) 5 c
        (((((tt, record { rest = _; joins = refl }), record { rest = _; joins = refl }), record { rest = _; joins = refl }), record { rest = _; joins = refl }), record { rest = _; joins = refl }) low

    own : (c : ℕ) → c < 4 → length (words_with 0 answered_side (suc c)) ≤ length (read_beats (with_tag 0 (taken_at answered_side.port c)))
    own c low = each_below (λ c. length (words_with 0 answered_side (suc c)) ≤ length (read_beats (with_tag 0 (taken_at answered_side.port c)))) 4 c ((((tt, omega arith), omega arith), omega arith), omega arith) low

    other : (c : ℕ) → c < 4 → length (words_with 1 answered_side (suc c)) ≤ length (read_beats (with_tag 1 (taken_at answered_side.port c)))
    other c low = each_below (λ c. length (words_with 1 answered_side (suc c)) ≤ length (read_beats (with_tag 1 (taken_at answered_side.port c)))) 4 c ((((tt, omega arith), omega arith), omega arith), omega arith) low

-- three is no power of two
no_power : (bits : ℕ) → 3 ≡ 2 ^ bits → ⊥
no_power zero e = omega (arith, e)
no_power (suc zero) e = omega (arith, e)
no_power (suc (suc bits)) e = let four : 2 ^ (suc (suc bits)) ≡ 4 * 2 ^ bits = grind arith in omega (arith, e, four)

pub odd_refused : IsMemoryPlan odd_system → ⊥
odd_refused plan = let size = (plan.hosts 0 (omega arith)).word in no_power size.0 size.1

joined_first : (a h : ℕ) → IsTrue (is_joined writing_system a h) → h ≡ 0
joined_first a h joined = grind (arith, tests)

pub writer_is_plan : IsMemoryPlan writing_system
writer_is_plan = record {
  hosts = λ h there. record { word = (2, refl); unit = inl refl; burst = omega arith };
  agents = λ a there. record { word = (2, refl); unit = inr refl; burst = omega arith };
  plain = λ h there none. let bad : ⊥ = cc in absurd bad;
  plain_agent = λ a there none. let bad : ⊥ = cc in absurd bad;
  pending = λ a there. omega arith;
  fixed = λ a there read none. let bad : ⊥ = cc in absurd bad;
  reads = λ a there valid. let bad : ⊥ = cc in absurd bad;
  waits = λ a there burst. refl;
  span = λ a there. ((8, refl), omega arith);
  wider = λ a h joined less. absurd (omega (arith, less));
  joined = λ a h joined. let first = joined_first a h joined in omega arith;
  shares = λ a h joined. omega arith;
  few_shares = λ a h joined. omega arith;
  few_hosts = omega arith;
  few_stages = omega arith;
  base = λ h a joined. (0, omega arith);
  place = λ h a address kind there. (to h a address kind there, from h a address kind there);
}
  where
    to : (h a address : ℕ) (kind : Kind) → h < 1 → written_place kind address ≡ Some a → (a < 1) × IsInFootprint writing_system h a address × IsTrue (serves_kind writing_agent kind)
    to h a address Reads there placed = let bad : ⊥ = cc in absurd bad
    to h a address Writes there placed = by_test (nat_lt address 256) refl placed
      where
        by_test : (b : Bool) → nat_lt address 256 ≡ b → (if b then Some 0 else None) ≡ Some a → (a < 1) × IsInFootprint writing_system h a address × IsTrue (serves_kind writing_agent Writes)
        by_test true low at =
            let one : 0 ≡ a = cc in
            let inside : address < 256 = ltb-true address 256 low in (
              omega (arith, one),
              record {
                joined = (let first : h ≡ 0 = omega arith in ap (λ h. nat_eq h 0 || false) first);
                from_base = omega arith;
                below_end = omega (arith, inside);
              },
              refl,
            )
        by_test false high at = let bad : ⊥ = cc in absurd bad

    from : (h a address : ℕ) (kind : Kind) → h < 1 → (a < 1) × IsInFootprint writing_system h a address × IsTrue (serves_kind writing_agent kind) → written_place kind address ≡ Some a
    from h a address Reads there holds = let none = holds.2 in cc
    from h a address Writes there holds =
        let low = holds.1.below_end in
        let first : 0 ≡ a = omega (arith, holds.0) in
        ap (λ t. if t then Some 0 else None) (lt-ltb address 256 (omega (arith, low))) ∙ ap Some first
