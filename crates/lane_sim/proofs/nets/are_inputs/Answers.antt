use Rattle.std.proofs.Common.{◌≡◌, ◌<◌, length, slice_get, Some, refl, ap, sym, arith, ◌∙◌}
use Rattle.av_base.specs.Word.{Word}
use Rattle.std.proofs.lemmas.Bool.{false≢true}
use Rattle.std.proofs.lemmas.Option.{slice_get_read, slice_get_within}
use Rattle.lane_sim.specs.LaneWords.{LaneWord}
use Rattle.lane_sim.proofs.LaneInputs.{lane_turn}
use Rattle.lane_sim.proofs.nets.are_inputs.Goals as goal
use Rattle.lane_sim.proofs.nets.are_inputs.Goals.{then-taken-inputs-via-then-taken-inputs, then-taken-inputs-via-else-taken-inputs+then-width-port}

pub returns-then-taken-inputs : goal.returns-then-taken-inputs
returns-then-taken-inputs c = (
  (λ t. absurd (false≢true t)),
  (λ all.
      (let at : slice_get c.args.ports.now c.loop-port.port-index ≡ Some c.port-item.result = slice_get_read c.args.ports.now (length c.args.ports.now) c.loop-port.port-index c.port-item.result refl c.loop-port-test.true c.port-item.is in
      let turn = lane_turn c.args.ports.now c.args.inputs.now c.loop-port.port-index c.loop-port.taken c.port-item.result c.loop-port.invariant.taken at c.if-not-port.true all in
      elim c.then-taken-inputs.branch [
        | then-taken-inputs-via-then-taken-inputs w ↦ absurd (let lt = turn.within in omega arith)
        | then-taken-inputs-via-else-taken-inputs+then-width-port w ↦ absurd (w.if-width-port.true (w.width.ensures.value ∙ ap (λ (v : LaneWord). v.width) w.index-inputs-taken.is ∙ turn.width w.index-inputs-taken.result))
      ])),
)
