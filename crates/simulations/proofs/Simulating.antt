-- A simulation by its cycles: what is held, and what is counted.
use Rattle.std.proofs.Common.{◌≡◌, ◌+◌, ◌<◌, ◌≤◌, ◌^◌, ℕ, zero, suc, List, [], ◌∷◌, ◌++◌, length, Bool, true, false, take, Option, IsTrue, IsFalse, refl, sym, ap, ap₂, subst, ◌∙◌, arith}
use Rattle.std.proofs.lemmas.List.{append-nil}
use Rattle.std.specs.Bool.{OnTrue, OnFalse}
use Rattle.histories.specs.History.{before}
use Rattle.av_files.specs.Outside.{Rose, with_more}
use Rattle.link_rules.specs.Plans.{PlanTable}
use Rattle.netlist.specs.Netlists.{Netlist}
use Rattle.netlist.specs.Runs.{Run, Cycle}
use Rattle.cycle_sim.specs.Sims.{present}
use Rattle.cycle_sim.specs.Standing.{StandsFor, with_cycle}
use Rattle.benches.specs.Writing.{text_of, HoldsPart}
use Rattle.trace_lines.specs.declared.counts.Counts.{Counts}
use Rattle.trace_lines.specs.Counted.{counts_before}
use Rattle.trace_lines.specs.Sums.{counts_in, with_counts}
use Rattle.trace_lines.specs.Told.{RunEnds, told_in}
use Rattle.trace_lines.specs.Lines.{end_line}
use Rattle.scenario_tables.specs.declared.scenario.Scenario.{Scenario}
use Rattle.simulations.specs.Benches.{BenchValue, IsSetUp, IsUnderWay}
use Rattle.simulations.specs.Cycles.{IsEvaluated, IsTold, counts_of, lines_of, run_with}
use Rattle.simulations.specs.Runs.{TellsSoFar, CountsSoFar, IsCountedRun}
use Rattle.simulated_runs.specs.Simulated.{IsSimulated}
use Rattle.simulations.specs.Traces.{run_ends, AreCounts, IsTrace}
use Rattle.simulations.specs.Written.{Holds, HoldsTrace, HoldsTracePart}
use Rattle.simulations.proofs.Written.{all_if, front_held, part_if, with_nothing}

-- ---- what a sink holds

-- where all was written, what is written next counts
pub holds_next : (whole result : Bool) (held middle holds : Option (List ℕ)) (first between faults : ℕ) (lines more : List (List ℕ)) → whole ≡ true → Holds whole held first middle between lines
    → OnTrue result (holds ≡ with_more middle (text_of more)) → OnFalse result (HoldsPart middle holds (text_of more)) → OnFalse result (Rose between faults) → between ≤ faults
    → (between < 2 ^ 64 → faults < 2 ^ 64) → Holds result held first holds faults (lines ++ more)
holds_next true true held middle holds first between faults lines more is so_far all part rose grows below = record {
  all = all_if true held middle holds lines more so_far.all all;
  part = tt;
  rose = tt;
  grows = (let low = so_far.grows in omega (arith, low, grows));
  below = λ few. below (so_far.below few);
}
holds_next true false held middle holds first between faults lines more is so_far all part rose grows below = record {
  all = tt;
  part = part_if false held middle holds lines more so_far.all part;
  rose = (let low = so_far.grows in omega (arith, low, rose));
  grows = (let low = so_far.grows in omega (arith, low, grows));
  below = λ few. below (so_far.below few);
}
holds_next false result held middle holds first between faults lines more is so_far all part rose grows below = absurd (let no : false ≡ true = is in cc)

-- behind a failed write nothing more is written
pub holds_still : (whole : Bool) (held holds : Option (List ℕ)) (first faults : ℕ) (lines more : List (List ℕ)) → whole ≡ false → Holds whole held first holds faults lines
    → Holds false held first holds faults (lines ++ more)
holds_still false held holds first faults lines more is so_far = record {
  all = tt;
  part = front_held held holds lines more so_far.part;
  rose = so_far.rose;
  grows = so_far.grows;
  below = so_far.below;
}
holds_still true held holds first faults lines more is so_far = absurd (let no : true ≡ false = is in cc)

pub text_of_one : (line : List ℕ) → text_of (line ∷ []) ≡ line
text_of_one line = append-nil line

pub one_all : (result : Bool) (middle holds : Option (List ℕ)) (line : List ℕ) → OnTrue result (holds ≡ with_more middle line) → OnTrue result (holds ≡ with_more middle (text_of (line ∷ [])))
one_all true middle holds line is = is ∙ ap (with_more middle) (sym (text_of_one line))
one_all false middle holds line is = tt

pub one_part : (result : Bool) (middle holds : Option (List ℕ)) (line : List ℕ) → OnFalse result ((k : ℕ) × (k < length line) × (holds ≡ with_more middle (take k line)))
    → OnFalse result (HoldsPart middle holds (text_of (line ∷ [])))
one_part true middle holds line is = tt
one_part false middle holds line (k, low, is) = record {
  count = k;
  part = subst (λ (text : List ℕ). k < length text) (sym (text_of_one line)) low;
  written = is ∙ ap (λ (text : List ℕ). with_more middle (take k text)) (sym (text_of_one line));
}

pub holds_nothing : (held : Option (List ℕ)) (first : ℕ) → Holds true held first held first []
holds_nothing held first = record { all = with_nothing held; part = tt; rose = tt; grows = omega arith; below = λ few. few }

-- ---- what earlier cycles told and counted

pub same_before : {A : Type 0} (f g : ℕ → List A) (c : ℕ) → ((k : ℕ) → k < c → f k ≡ g k) → before f c ≡ before g c
same_before f g zero same = refl
same_before f g (suc c) same = ap₂ (λ l m. l ++ m) (same_before f g c (λ k low. same k (omega (arith, low)))) (same c (omega arith))

abbrev EarlierLines : Type 0
EarlierLines = (plan : PlanTable) (netlist : Netlist) (run : Run) (c : ℕ) (cycle : Cycle) (k : ℕ) → k < c → told_in (run_ends plan netlist run) k ≡ told_in (run_ends plan netlist (with_cycle run c cycle)) k

abbrev EarlierCounts : Type 0
EarlierCounts = (plan : PlanTable) (netlist : Netlist) (run : Run) (c : ℕ) (cycle : Cycle) (k : ℕ) → k < c → counts_in (run_ends plan netlist run) k ≡ counts_in (run_ends plan netlist (with_cycle run c cycle)) k

-- the lines of one cycle more
pub lines_next : EarlierLines → (plan : PlanTable) (netlist : Netlist) (run : Run) (c : ℕ) (cycle : Cycle) (more : List (List ℕ)) → told_in (run_ends plan netlist (with_cycle run c cycle)) c ≡ more
    → before (told_in (run_ends plan netlist run)) c ++ more ≡ before (told_in (run_ends plan netlist (with_cycle run c cycle))) (suc c)
lines_next earlier plan netlist run c cycle more is = ap₂ (λ l m. l ++ m) (same_before _ _ c (earlier plan netlist run c cycle)) (sym is)

abbrev NoCounts : Type 0
NoCounts = (run : RunEnds) → counts_before run 0 ≡ record { taken = 0; answered = 0; delivered = 0; dropped = 0 }

abbrev CountsNext : Type 0
CountsNext = (run : RunEnds) (c : ℕ) → counts_before run (suc c) ≡ with_counts (counts_before run c) (counts_in run c)

pub same_counts : NoCounts → CountsNext → (one other : RunEnds) (c : ℕ) → ((k : ℕ) → k < c → counts_in one k ≡ counts_in other k) → counts_before one c ≡ counts_before other c
same_counts none next one other zero same = none one ∙ sym (none other)
same_counts none next one other (suc c) same =
    next one c ∙ ap₂ with_counts (same_counts none next one other c (λ k low. same k (omega (arith, low)))) (same c (omega arith)) ∙ sym (next other c)

-- the counts of one cycle more
pub counts_next : NoCounts → CountsNext → EarlierCounts → (plan : PlanTable) (netlist : Netlist) (run : Run) (c : ℕ) (cycle : Cycle) (more : Counts) → counts_in (run_ends plan netlist (with_cycle run c cycle)) c ≡ more
    → with_counts (counts_before (run_ends plan netlist run) c) more ≡ counts_before (run_ends plan netlist (with_cycle run c cycle)) (suc c)
counts_next none next earlier plan netlist run c cycle more is =
    ap₂ with_counts (same_counts none next (run_ends plan netlist run) (run_ends plan netlist (with_cycle run c cycle)) c (earlier plan netlist run c cycle)) (sym is) ∙ sym (next (run_ends plan netlist (with_cycle run c cycle)) c)

-- ---- a run before its first cycle

pub no_run : Run
no_run = record { input = λ c port. 0; net = λ c n. 0; cell = λ c m address. 0 }

-- ---- a cycle more, and the end

-- a bench that was evaluated is told
pub is_told : (plan : PlanTable) (scenario : Scenario) (run : Run) (c : ℕ) (bench evaluated : BenchValue) → IsSetUp plan scenario bench.sim.netlist → c < scenario.cycles → evaluated.sim.netlist ≡ bench.sim.netlist
    → IsEvaluated plan scenario run c evaluated → IsTold evaluated
is_told plan scenario run c bench evaluated set left same is = record {
  plan = plan;
  scenario = scenario;
  run = run;
  cycle = c;
  set = subst (IsSetUp plan scenario) (sym same) set;
  left = left;
  evaluated = is;
}

-- where the bench has gone behind a cycle
pub record GoesOn (plan : PlanTable) (scenario : Scenario) (run : Run) (c : ℕ) (bench evaluated after : BenchValue) : Type 0 where
  pub set : IsSetUp plan scenario bench.sim.netlist
  pub same : evaluated.sim.netlist ≡ bench.sim.netlist
  pub evaluated_is : IsEvaluated plan scenario run c evaluated
  pub same_after : after.sim.netlist ≡ evaluated.sim.netlist
  pub under_way : IsUnderWay plan scenario (run_with run c evaluated) (suc c) after

abbrev LinesOfCycles : Type 0
LinesOfCycles = (plan : PlanTable) (scenario : Scenario) (run : Run) (c : ℕ) (bench : BenchValue) → IsSetUp plan scenario bench.sim.netlist → IsEvaluated plan scenario run c bench
    → told_in (run_ends plan bench.sim.netlist (run_with run c bench)) c ≡ lines_of bench c

abbrev CountsOfCycles : Type 0
CountsOfCycles = (plan : PlanTable) (scenario : Scenario) (run : Run) (c : ℕ) (bench : BenchValue) → IsSetUp plan scenario bench.sim.netlist → IsEvaluated plan scenario run c bench
    → counts_in (run_ends plan bench.sim.netlist (run_with run c bench)) c ≡ counts_of bench

pub tells_next : LinesOfCycles → EarlierLines → (plan : PlanTable) (scenario : Scenario) (netlist : Netlist) (c : ℕ) (bench evaluated after : BenchValue) (whole result : Bool) (held middle holds : Option (List ℕ)) (first between faults : ℕ)
    (so_far : TellsSoFar plan scenario netlist c bench whole held first middle between) → GoesOn plan scenario so_far.run c bench evaluated after
    → ((start : Option (List ℕ)) (early : ℕ) (lines : List (List ℕ)) → Holds whole start early middle between lines → Holds result start early holds faults (lines ++ lines_of evaluated c))
    → TellsSoFar plan scenario netlist (c + 1) after result held first holds faults
tells_next told earlier plan scenario netlist c bench evaluated after whole result held middle holds first between faults so_far on tells =
    let next : suc c ≡ c + 1 = omega arith in
    let run = so_far.run in
    let set = subst (IsSetUp plan scenario) (sym on.same) on.set in
    let lines = before (told_in (run_ends plan bench.sim.netlist run)) c in
    let is : lines ++ lines_of evaluated c ≡ before (told_in (run_ends plan after.sim.netlist (run_with run c evaluated))) (suc c) =
    ap (λ (n : Netlist). before (told_in (run_ends plan n run)) c ++ lines_of evaluated c) (sym on.same)
    ∙ lines_next earlier plan evaluated.sim.netlist run c (present evaluated.sim) (lines_of evaluated c) (told plan scenario run c evaluated set on.evaluated_is)
    ∙ ap (λ (n : Netlist). before (told_in (run_ends plan n (run_with run c evaluated))) (suc c)) (sym on.same_after) in
    subst (λ (k : ℕ). TellsSoFar plan scenario netlist k after result held first holds faults) next (record {
      run = run_with run c evaluated;
      netlist_is = on.same_after ∙ on.same ∙ so_far.netlist_is;
      set = subst (IsSetUp plan scenario) (sym on.same_after) set;
      under_way = on.under_way;
      holding = subst (Holds result held first holds faults) is (tells held first lines so_far.holding);
    })

pub counts_on : NoCounts → CountsNext → CountsOfCycles → EarlierCounts → (plan : PlanTable) (scenario : Scenario) (netlist : Netlist) (c : ℕ) (bench evaluated after : BenchValue) (counts result : Counts)
    (so_far : CountsSoFar plan scenario netlist c bench counts) → GoesOn plan scenario so_far.run c bench evaluated after → result ≡ with_counts counts (counts_of evaluated)
    → CountsSoFar plan scenario netlist (c + 1) after result
counts_on none next counted earlier plan scenario netlist c bench evaluated after counts result so_far on is =
    let later : suc c ≡ c + 1 = omega arith in
    let run = so_far.run in
    let set = subst (IsSetUp plan scenario) (sym on.same) on.set in
    subst (λ (k : ℕ). CountsSoFar plan scenario netlist k after result) later (record {
      run = run_with run c evaluated;
      netlist_is = on.same_after ∙ on.same ∙ so_far.netlist_is;
      set = subst (IsSetUp plan scenario) (sym on.same_after) set;
      under_way = on.under_way;
      counted = is ∙ ap (λ (sum : Counts). with_counts sum (counts_of evaluated)) so_far.counted
          ∙ ap (λ (n : Netlist). with_counts (counts_before (run_ends plan n run) c) (counts_of evaluated)) (sym on.same)
          ∙ counts_next none next earlier plan evaluated.sim.netlist run c (present evaluated.sim) (counts_of evaluated) (counted plan scenario run c evaluated set on.evaluated_is)
          ∙ ap (λ (n : Netlist). counts_before (run_ends plan n (run_with run c evaluated)) (suc c)) (sym on.same_after);
    })

pub simulated_whole : (plan : PlanTable) (scenario : Scenario) (netlist own : Netlist) (run : Run) (c : ℕ) → own ≡ netlist → c ≡ scenario.cycles → IsSimulated plan scenario own run c → IsSimulated plan scenario netlist run scenario.cycles
simulated_whole plan scenario netlist own run c same last is =
    subst (λ (n : Netlist). IsSimulated plan scenario n run scenario.cycles) same (subst (IsSimulated plan scenario own run) last is)

pub counted_run : (plan : PlanTable) (scenario : Scenario) (netlist : Netlist) (c : ℕ) (bench : BenchValue) (counts : Counts) → CountsSoFar plan scenario netlist c bench counts → c ≡ scenario.cycles → IsCountedRun plan scenario netlist bench.sim counts
counted_run plan scenario netlist c bench counts so_far last = record {
  run = so_far.run;
  simulated = simulated_whole plan scenario netlist bench.sim.netlist so_far.run c so_far.netlist_is last so_far.under_way.simulated;
  stands = subst (StandsFor bench.sim so_far.run) last so_far.under_way.stands;
  counted = so_far.counted ∙ ap (λ (n : Netlist). counts_before (run_ends plan n so_far.run) c) so_far.netlist_is ∙ ap (counts_before (run_ends plan netlist so_far.run)) last;
}

pub counted_whole : (plan : PlanTable) (scenario : Scenario) (netlist : Netlist) (c : ℕ) (bench : BenchValue) (counts : Counts) → CountsSoFar plan scenario netlist c bench counts → c ≡ scenario.cycles → AreCounts plan scenario netlist counts
counted_whole plan scenario netlist c bench counts so_far last = record {
  run = so_far.run;
  simulated = simulated_whole plan scenario netlist bench.sim.netlist so_far.run c so_far.netlist_is last so_far.under_way.simulated;
  counted = so_far.counted ∙ ap (λ (n : Netlist). counts_before (run_ends plan n so_far.run) c) so_far.netlist_is ∙ ap (counts_before (run_ends plan netlist so_far.run)) last;
}

-- the trace of a whole simulation, and what a sink holds of it
pub record IsHeldTrace (plan : PlanTable) (scenario : Scenario) (netlist : Netlist) (whole : Bool) (held : Option (List ℕ)) (first : ℕ) (holds : Option (List ℕ)) (faults : ℕ) : Type 0 where
  pub lines : List (List ℕ)
  pub is_trace : IsTrace plan scenario netlist (text_of lines)
  pub holding : Holds whole held first holds faults lines

pub told_whole : (plan : PlanTable) (scenario : Scenario) (netlist : Netlist) (c : ℕ) (bench : BenchValue) (whole result : Bool) (held middle holds : Option (List ℕ)) (first between faults : ℕ)
    → TellsSoFar plan scenario netlist c bench whole held first middle between → c ≡ scenario.cycles
    → ((start : Option (List ℕ)) (early : ℕ) (lines : List (List ℕ)) → Holds whole start early middle between lines → Holds result start early holds faults (lines ++ end_line scenario.cycles ∷ []))
    → IsHeldTrace plan scenario netlist result held first holds faults
told_whole plan scenario netlist c bench whole result held middle holds first between faults so_far last tells =
    let lines = before (told_in (run_ends plan bench.sim.netlist so_far.run)) c in
    let is : lines ≡ before (told_in (run_ends plan netlist so_far.run)) scenario.cycles =
    ap (λ (n : Netlist). before (told_in (run_ends plan n so_far.run)) c) so_far.netlist_is ∙ ap (before (told_in (run_ends plan netlist so_far.run))) last in
    record {
      lines = lines ++ end_line scenario.cycles ∷ [];
      is_trace = record {
        run = so_far.run;
        simulated = simulated_whole plan scenario netlist bench.sim.netlist so_far.run c so_far.netlist_is last so_far.under_way.simulated;
        is_text = ap (λ (l : List (List ℕ)). text_of (l ++ end_line scenario.cycles ∷ [])) is;
      };
      holding = tells held first lines so_far.holding;
    }

false_is_untrue : IsTrue false → ⊥
false_is_untrue t = (let no : false ≡ true = t in cc)

true_is_unfalse : IsFalse true → ⊥
true_is_unfalse t = (let no : true ≡ false = t in cc)

pub trace_whole : (plan : PlanTable) (scenario : Scenario) (netlist : Netlist) (whole : Bool) (held : Option (List ℕ)) (first : ℕ) (holds : Option (List ℕ)) (faults : ℕ) → IsHeldTrace plan scenario netlist whole held first holds faults
    → IsTrue whole → HoldsTrace plan scenario netlist held holds
trace_whole plan scenario netlist true held first holds faults is t = record { text = text_of is.lines; is_trace = is.is_trace; whole = is.holding.all }
trace_whole plan scenario netlist false held first holds faults is t = absurd (false_is_untrue t)

pub trace_part : (plan : PlanTable) (scenario : Scenario) (netlist : Netlist) (whole : Bool) (held : Option (List ℕ)) (first : ℕ) (holds : Option (List ℕ)) (faults : ℕ) → IsHeldTrace plan scenario netlist whole held first holds faults
    → IsFalse whole → HoldsTracePart plan scenario netlist held holds
trace_part plan scenario netlist false held first holds faults is t = record { text = text_of is.lines; is_trace = is.is_trace; part = is.holding.part }
trace_part plan scenario netlist true held first holds faults is t = absurd (true_is_unfalse t)

pub trace_rose : (whole : Bool) (first faults : ℕ) → OnFalse whole (Rose first faults) → IsFalse whole → Rose first faults
trace_rose false first faults rose t = rose
trace_rose true first faults rose t = absurd (true_is_unfalse t)
