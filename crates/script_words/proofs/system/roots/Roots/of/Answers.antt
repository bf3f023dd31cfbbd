use Rattle.std.proofs.Common.{◌∙◌, sym, ap}
use Rattle.script_words.specs.Roots.{start_for}
use Rattle.script_words.proofs.system.RootLemmas.{source_of-passed, start_for-clock}
use Rattle.script_words.proofs.system.roots.Roots.of.Goals as goal
use Rattle.script_words.proofs.system.roots.Roots.of.Goals.{then-same_kind+in_ok-add, else-same_kind}

pub loop-joint-preserved : goal.loop-joint-preserved
loop-joint-preserved c = λ end. elim c.if-same_kind.branch [
  | then-same_kind+in_ok-add w ↦ ap (λ r. start_for r end) w.roots-is ∙ start_for-clock c.args.joints.now c.loop-joint.joint-index _ end _ _ c.loop-joint-test.true (sym c.same_kind.ensures ∙ w.if-same_kind.true) (c.loop-joint.invariant end) (w.in_ok-add.ensures end)
  | else-same_kind w ↦ ap (λ r. start_for r end) w.roots-is ∙ c.loop-joint.invariant end ∙ source_of-passed c.args.joints.now c.loop-joint.joint-index _ end c.loop-joint-test.true (sym c.same_kind.ensures ∙ w.if-same_kind.false)
]
