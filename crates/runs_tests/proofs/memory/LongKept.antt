-- The system with rows of several links suits its plan, and its components are legal.
use Rattle.std.proofs.Common.{ℕ, zero, suc, ◌<◌, ◌≤◌, ◌≡◌, Bool, true, false, not, ◌||◌, arith, refl, sym, ap, subst, inl, IsTrue, IsFalse, if◌then◌else◌, nat_eq, tests}
use Rattle.std.proofs.lemmas.Bool.{both_ways}
use Rattle.memory_runs.specs.Views.{Signals}
use Rattle.memory_runs.specs.Awake.{is_alike}
use Rattle.memory_runs.specs.Order.{is_joined}
use Rattle.memory_runs.specs.Commands.{shows}
use Rattle.memory_runs.specs.Plan.{IsMemoryPlan, IsShape, IsPowerOfTwo}
use Rattle.memory_runs.specs.Whole.{IsLegalRun}
use Rattle.memory_links.specs.Cutters.{reach_longest}
use Rattle.memory_machines.specs.Lines.{target_of}
use Rattle.memory_awake.specs.RowRun.{SuitsRow, Cutter.Uncut, Cutter.Cuts, Fitter.Unfitted, Fitter.Selects, Fitter.Splits}
use Rattle.memory_awake.specs.RowSystem.{IsFairRow}
use Rattle.memory_awake.specs.LinkSystem.{SuitsLinks, AreFitHosts, IsWireRow, row_of}
use Rattle.runs_tests.specs.Examples.{quiet}
use Rattle.runs_tests.specs.TwoByTwo.{first_or}
use Rattle.runs_tests.specs.LongRows.{long_plan, long_run, long_ports, long_outside, first_host, second_host}
use Rattle.runs_tests.proofs.memory.TwoByTwo.{two, pairs, joined_below, none_past, is_memory_plan}
use Rattle.runs_tests.proofs.memory.Tables.{legal_run, host_views, never}

pub is_plan : IsMemoryPlan long_plan.system
is_plan = is_memory_plan long_plan.system.host (first_or 8 2) (first_or true false) 0
    (two (λ h. IsShape (long_plan.system.host h).shape) (record { word = (2, refl); unit = inl refl; burst = omega arith }) (record { word = (1, refl); unit = inl refl; burst = omega arith }))
    (two (λ h. IsFalse (long_plan.system.host h).has_burst → (long_plan.system.host h).burst_bits ≡ 1) (λ none. let bad : ⊥ = cc in absurd bad) (λ none. refl))
    (two (λ h. (long_plan.system.host h).word_bytes ≤ 16) (omega arith) (omega arith))
    (two (λ a. IsPowerOfTwo (first_or 8 2 a)) (3, refl) (1, refl))
    (two (λ a. first_or 8 2 a ≤ 16) (omega arith) (omega arith))
    wide (omega arith)
  where
    wide : (a h : ℕ) → h < 2 → (long_plan.system.host h).word_bytes < first_or 8 2 a → IsTrue (first_or true false a)
    wide zero h there less = refl
    wide (suc a) h there less =
        let e : nat_eq (suc a) 0 ≡ false = grind (arith, tests) in
        let small : first_or 8 2 (suc a) ≡ 2 = ap (λ (b : Bool). if b then 8 else 2) e in
        absurd (two (λ h. (long_plan.system.host h).word_bytes < 2 → ⊥) (λ l. omega (arith, l)) (λ l. omega (arith, l)) h there (subst (λ n. (long_plan.system.host h).word_bytes < n) small less))

pub suits : SuitsLinks long_plan
suits = record {
  idle = λ h a. false;
  stages = refl;
  rows = λ h a is there links. pairs (λ h a. SuitsRow (target_of long_plan.system a) (row_of long_plan h a))
      (record {
        cutter = record { some = omega arith; same = refl; bytes = refl; least = omega arith; most = omega arith; goes = λ address. omega arith; allowed = λ address. omega arith };
        fitter = (2, record { some = omega arith; more = omega arith; whole = refl; same = refl; bytes = refl; enables = refl; one_beat = refl; one_beat_below = refl });
        gathering = tt;
        dropper = (refl, omega arith, omega arith);
        room = omega arith;
      })
      (record {
        cutter = record { some = omega arith; same = refl; bytes = refl; least = omega arith; most = omega arith; goes = λ address. omega arith; allowed = λ address. omega arith };
        fitter = (2, record { bytes = refl; some = omega arith; same = refl; one = omega arith; whole = refl; one_beat = refl });
        gathering = tt;
        dropper = record { some = omega arith; same = refl; units = refl; agent = refl; enables = refl; one_beat = refl };
        room = omega arith;
      })
      (record {
        cutter = (refl, omega arith, omega arith);
        fitter = (4, record { some = omega arith; more = omega arith; whole = refl; same = refl; bytes = refl; enables = refl; one_beat = refl; one_beat_below = refl });
        gathering = tt;
        dropper = (refl, omega arith, omega arith);
        room = omega arith;
      })
      (record {
        cutter = (refl, omega arith, omega arith);
        fitter = (refl, omega arith, omega arith);
        gathering = tt;
        dropper = record { some = omega arith; same = refl; units = refl; agent = refl; enables = refl; one_beat = refl };
        room = omega arith;
      })
      h a is there;
  wired = λ h a is there joined. pairs (λ h a. IsTrue (is_alike (long_plan.system.host h) (long_plan.system.agent a)) → IsWireRow (row_of long_plan h a))
      (λ alike. let bad : ⊥ = cc in absurd bad) (λ alike. let bad : ⊥ = cc in absurd bad) (λ alike. let bad : ⊥ = cc in absurd bad) (λ alike. let bad : ⊥ = cc in absurd bad)
      h a is there;
  -- agent 0 has byte enables, and before agent 1 beats are dropped
  lanes = λ h a is there links. pairs (λ h a. long_plan.drops h a ≡ false → IsTrue ((long_plan.system.agent a).has_enables || not (long_plan.system.host h).has_enables))
      (λ none. refl) (λ none. let bad : ⊥ = cc in absurd bad) (λ none. refl) (λ none. let bad : ⊥ = cc in absurd bad)
      h a is there;
  apart = λ h a is there idle. absurd (both_ways false refl idle);
  past = λ h a past. record {
    uncut = none_past (Cuts (reach_longest 1) 1 1) Uncut Uncut h past;
    unfitted = none_past (first_or Selects Splits a) (first_or Selects Unfitted a) Unfitted h past;
    undropped = none_past (first_or false true a) (first_or false true a) false h past;
  };
}

quiet_past : (h c : ℕ) → 2 ≤ h → IsFalse (shows (long_outside.host h) c)
quiet_past h c past = subst (λ (signals : Signals). IsFalse (shows signals c)) (sym (none_past first_host second_host quiet h past)) refl

pub fit : AreFitHosts long_plan.system long_outside 15
fit = record {
  ports = host_views long_plan.system long_run 15 (record { enables = record { holds = refl }; all_lanes = record { holds = refl }; word = record { holds = refl }; one_beat = record { holds = refl } });
  one_word = λ h c is low none reads. absurd (never true refl none);
  none_past = quiet_past;
}

-- both hosts have byte enables
pub fair_row : (agent host : ℕ) → agent < 2 → IsTrue (is_joined long_plan.system agent host) → IsFairRow long_plan.system long_ports agent host
fair_row agent host there joined = two (λ h. IsFairRow long_plan.system long_ports agent h)
    (λ none bursts. absurd (never true refl none))
    (λ none bursts. absurd (never true refl none))
    host (joined_below host joined)

pub legal : IsLegalRun long_plan.system long_run 15
legal = legal_run long_plan.system long_run 15 (record {
  one_kind = record { holds = refl };
  held = record { holds = refl };
  least = record { holds = refl };
  most = record { holds = refl };
  finished = record { holds = refl };
  owed = record { holds = refl };
})
