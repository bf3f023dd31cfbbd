use Rattle.std.proofs.Common.{◌++◌, ◌∷◌, [], List, sym, ap, ◌∙◌}
use Rattle.system_tables.specs.declared.tables.Connection.{Connection}
use Rattle.system_scripts.specs.Clocks.{connection_of}
use Rattle.system_scripts.proofs.ClockLemmas.{connections-more, connections-passed}
use Rattle.system_scripts.proofs.system_draft.SystemDraft.connections_from.Goals as goal
use Rattle.system_scripts.proofs.system_draft.SystemDraft.connections_from.Goals.{then-is_avalon+in_ok-connection+in_ok-push, else-is_avalon}

pub loop-joint-preserved : goal.loop-joint-preserved
loop-joint-preserved c = elim c.if-is_avalon.branch [
  | then-is_avalon+in_ok-connection+in_ok-push w ↦ connections-more (connection_of c.args.library.now c.args.self.now c.clock-clock.result) c.as_slice-joint-items.result.now c.loop-joint.joint-index _ w.in_ok-connection.field-0 c.if-is_avalon.connections c.loop-joint-test.true (sym c.is_avalon.ensures ∙ w.if-is_avalon.true) w.in_ok-connection.ensures (w.connections-is ∙ w.in_ok-push.ensures.ok ∙ ap (λ (l : List Connection). l ++ w.in_ok-connection.field-0 ∷ []) c.loop-joint.invariant)
  | else-is_avalon w ↦ w.connections-is ∙ c.loop-joint.invariant ∙ connections-passed (connection_of c.args.library.now c.args.self.now c.clock-clock.result) c.as_slice-joint-items.result.now c.loop-joint.joint-index _ c.loop-joint-test.true (sym c.is_avalon.ensures ∙ w.if-is_avalon.false)
]
