use Rattle.std.proofs.Common.{◌≡◌, ℕ, List, ◌<◌, true, sym, subst, arith}
use Rattle.av_base.specs.Word.{Word}
use Rattle.netlist.specs.Runs.{IsValuation}
use Rattle.cycle_sim.specs.Sims.{cycle_with}
use Rattle.lane_sim.specs.LaneWords.{LaneWord}
use Rattle.lane_sim.specs.LaneSims.{AreLaneCells, AreLanesSettled, CellsValue, IsStepWith, LanesValue, cells_at, lane_of, lane_words}
use Rattle.lane_sim.proofs.Values.{refilled}
use Rattle.lane_sim.proofs.LaneLists.{first}
use Rattle.lane_sim.proofs.Runs.{KeepsRegisters, step_with}
use Rattle.lane_sim.proofs.sim.Lanes.step.Goals as goal

pub evaluate-requires-clause-module : goal.evaluate-requires-clause-module
evaluate-requires-clause-module c = (c.self.invariant.0.each 0 first).is_module

pub evaluate-requires-clause-settled : goal.evaluate-requires-clause-settled
evaluate-requires-clause-settled c = rw (c.as_mut_slice.ensures.value, c.as_slice.ensures.value, c.as_mut_slice-2.ensures.value) c.self.invariant.2

pub invariant_of-self : goal.invariant_of-self
invariant_of-self c =
    let nets = refilled c.self.inside.nets.len c.evaluate.new.nets c.self.inside.nets.items (omega (arith, c.evaluate.auto.nets, c.as_mut_slice.ensures.len)) in
    let stale = refilled c.self.inside.stale.len c.evaluate.new.stale c.self.inside.stale.items (omega (arith, c.evaluate.auto.stale, c.as_mut_slice-2.ensures.len)) in
    let valuations = subst (λ (cs : List CellsValue). (j : ℕ) → j < 8 → IsValuation c.self.inside.module (cycle_with c.self.inside.module (lane_words j c.evaluate.new.nets) (cells_at cs j).words)) c.as_slice.ensures.value c.evaluate.ensures.valuation in
    let settled = subst (λ (cs : List CellsValue). AreLanesSettled c.self.inside.module c.evaluate.new.nets cs c.evaluate.new.stale 0) c.as_slice.ensures.value c.evaluate.ensures.settled in
    rw (nets, stale) (
      record {
        count = c.self.invariant.0.count;
        each = λ j lt. record { is_module = (c.self.invariant.0.each j lt).is_module; nets = c.evaluate.ensures.nets j lt; words = (c.self.invariant.0.each j lt).words; valuation = λ e. valuations j lt };
        places = c.self.invariant.0.places;
      },
      c.self.invariant.1,
      settled,
      c.self.invariant.3,
      c.self.invariant.4,
    )

pub returns-clause-lanes : goal.returns-clause-lanes
returns-clause-lanes c j lt =
    let is = refilled c.self.inside.nets.len c.evaluate.new.nets c.self.inside.nets.items (omega (arith, c.evaluate.auto.nets, c.as_mut_slice.ensures.len)) in
    let valuation = subst (λ (cs : List CellsValue). IsValuation c.self.inside.module (cycle_with c.self.inside.module (lane_words j c.evaluate.new.nets) (cells_at cs j).words)) c.as_slice.ensures.value (c.evaluate.ensures.valuation j lt) in
    let kept = subst (λ (ns : List LaneWord). KeepsRegisters c.self.inside.module (lane_words j ns) (lane_words j c.evaluate.new.nets)) c.as_mut_slice.ensures.value (record { same = c.evaluate.ensures.registers j lt }) in
    subst (λ (ns : List LaneWord). IsStepWith (lane_of c.args.self.now j) (lane_of (record { netlist = c.self.inside.module; nets = ns; cells = c.self.inside.cells.items; stepped = true }) j) (lane_words j c.args.inputs.now)) (sym is)
    (subst (λ (v : LanesValue). IsStepWith (lane_of v j) (lane_of (record { netlist = c.self.inside.module; nets = c.evaluate.new.nets; cells = c.self.inside.cells.items; stepped = true }) j) (lane_words j c.args.inputs.now)) c.self.view_is
    (step_with c.self.inside.module (lane_words j c.self.inside.nets.items) (lane_words j c.evaluate.new.nets) (cells_at c.self.inside.cells.items j).words (lane_words j c.args.inputs.now) c.self.inside.stepped
    (c.agree.ensures c.self.inside.module (c.self.invariant.0.each j lt).is_module.well_made) kept valuation (c.evaluate.ensures.inputs j lt)))
