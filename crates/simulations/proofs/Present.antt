-- A run with the present cycle of a simulator.
use Rattle.std.proofs.Common.{◌≡◌, ℕ, suc, ◌==◌, Bool, true, false, List, if◌then◌else◌, refl, ◌∙◌, arith}
use Rattle.std.proofs.lemmas.Bool.{eq-eqb, false≢true}
use Rattle.av_base.specs.Word.{Word}
use Rattle.system_tables.specs.Tables.{SystemTable}
use Rattle.netlist.specs.Netlists.{Netlist, IsModule, IsInputPort}
use Rattle.netlist.specs.Runs.{Run, IsValuation}
use Rattle.cycle_sim.specs.Sims.{SimValue, given_to, present}
use Rattle.cycle_sim.specs.Standing.{IsClearedRun, with_cycle}
use Rattle.port_tables.specs.Ports.{ports_of}
use Rattle.port_rows.specs.Rows.{IsGivenRow}
use Rattle.benches.specs.Present.{IsPresent}
use Rattle.memory_plans.specs.Shown.{standing_still}

chosen : {X : Type 0} (b : Bool) (x y : X) → b ≡ true → (if b then x else y) ≡ x
chosen {X} true x y e = refl
chosen {X} false x y e = absurd (false≢true e)

same : (c : ℕ) → (c == c) ≡ true
same c = eq-eqb c c refl

pub is_present : (run : Run) (c : ℕ) (sim : SimValue) → IsPresent (with_cycle run c (present sim)) c sim
is_present run c sim = λ n. chosen (c == c) ((present sim).net n) (run.net c n) (same c)

pub given_row : (system : SystemTable) (netlist : Netlist) (run : Run) (c : ℕ) (sim : SimValue) (row : List Word) → IsModule netlist → netlist.ports ≡ ports_of system
    → IsClearedRun netlist (with_cycle run c (present sim)) (suc c) → ((k w : ℕ) → IsInputPort netlist.ports k w → (present sim).input k ≡ given_to netlist row k)
    → IsGivenRow system netlist (with_cycle run c (present sim)) c row
given_row system netlist run c sim row is_module ports is_run inputs = record {
  is_module = is_module;
  ports = ports;
  valuation = is_run.is_run.valuations c (omega arith);
  inputs = λ k w is. chosen (c == c) ((present sim).input k) (run.input c k) (same c) ∙ inputs k w is;
}

-- a cycle of its own, over and over
pub still_row : (system : SystemTable) (netlist : Netlist) (sim : SimValue) (row : List Word) → IsModule netlist → netlist.ports ≡ ports_of system → IsValuation netlist (present sim)
    → ((k w : ℕ) → IsInputPort netlist.ports k w → (present sim).input k ≡ given_to netlist row k) → IsGivenRow system netlist (standing_still (present sim)) 0 row
still_row system netlist sim row is_module ports valuation inputs = record { is_module = is_module; ports = ports; valuation = valuation; inputs = inputs }
