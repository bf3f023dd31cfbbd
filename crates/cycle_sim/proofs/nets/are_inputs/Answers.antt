use Rattle.std.proofs.Common.{◌≡◌, length, slice_get, Some, refl, ap, arith, ◌∙◌}
use Rattle.av_base.specs.Word.{Word}
use Rattle.std.proofs.lemmas.Bool.{false≢true}
use Rattle.std.proofs.lemmas.Option.{slice_get_read, slice_get_within, get_or_from_slice_get}
use Rattle.cycle_sim.proofs.Inputs.{at_turn}
use Rattle.cycle_sim.proofs.nets.are_inputs.Goals as goal
use Rattle.cycle_sim.proofs.nets.are_inputs.Goals.{then-taken-inputs-via-then-taken-inputs, then-taken-inputs-via-else-taken-inputs+then-width-port}

pub returns-then-taken-inputs : goal.returns-then-taken-inputs
returns-then-taken-inputs c = (
  (λ t. absurd (false≢true t)),
  (λ all.
      (let at : slice_get c.args.ports.now c.loop-port.port-index ≡ Some c.port-item.result = slice_get_read c.args.ports.now (length c.args.ports.now) c.loop-port.port-index c.port-item.result refl c.loop-port-test.true c.port-item.is in
      let turn = at_turn c.args.ports.now c.args.inputs.now c.loop-port.port-index c.loop-port.taken c.port-item.result c.loop-port.invariant.taken at c.if-not-port.true all in
      let lt = slice_get_within c.args.inputs.now c.loop-port.taken turn.0 turn.1 in
      elim c.then-taken-inputs.branch [
        | then-taken-inputs-via-then-taken-inputs w ↦ absurd (omega arith)
        | then-taken-inputs-via-else-taken-inputs+then-width-port w ↦
            (let same : w.index-inputs-taken.result ≡ turn.0 = w.index-inputs-taken.is ∙ get_or_from_slice_get c.args.inputs.now c.loop-port.taken turn.0 w.index-inputs-taken.result turn.1 in
            absurd (w.if-width-port.true (w.width.ensures.value ∙ ap (λ (v : Word). v.width) same ∙ turn.2)))
      ])),
)
