-- What is written of the trace of a simulation.
use Rattle.std.specs.Prelude.{◌≡◌, ℕ, ◌≤◌, ◌<◌, ◌^◌, List, Option, Bool}
use Rattle.std.specs.Bool.{OnTrue, OnFalse}
use Rattle.link_rules.specs.Plans.{PlanTable}
use Rattle.netlist.specs.Netlists.{Netlist}
use Rattle.av_files.specs.Outside.{Rose, with_more}
use Rattle.scenario_tables.specs.declared.scenario.Scenario.{Scenario}
use Rattle.benches.specs.Writing.{text_of, HoldsPart}
use Rattle.simulations.specs.Traces.{IsTrace}

-- a sink holds the trace besides
pub record HoldsTrace (plan : PlanTable) (scenario : Scenario) (netlist : Netlist) (held holds : Option (List ℕ)) : Type 0 where
  pub text : List ℕ
  pub is_trace : IsTrace plan scenario netlist text
  pub whole : holds ≡ with_more held text

-- it holds a proper part of it besides, from its beginning on
pub record HoldsTracePart (plan : PlanTable) (scenario : Scenario) (netlist : Netlist)
    (held holds : Option (List ℕ)) : Type 0 where
  pub text : List ℕ
  pub is_trace : IsTrace plan scenario netlist text
  pub part : HoldsPart held holds text

-- it holds these lines besides, or, behind a failed write, a proper part of them
pub record Holds (whole : Bool) (held : Option (List ℕ)) (first : ℕ) (holds : Option (List ℕ)) (faults : ℕ)
    (lines : List (List ℕ)) : Type 0 where
  pub all : OnTrue whole (holds ≡ with_more held (text_of lines))
  pub part : OnFalse whole (HoldsPart held holds (text_of lines))
  pub rose : OnFalse whole (Rose first faults)
  pub grows : first ≤ faults
  pub below : first < 2 ^ 64 → faults < 2 ^ 64
