use Rattle.std.proofs.Common.{sym, ap, ◌∙◌}
use Rattle.system_scripts.specs.System.{DraftedSystem}
use Rattle.system_scripts.proofs.ClockLemmas.{first_root-found, first_root-none, first_root-passed, system_clock-first}
use Rattle.system_scripts.proofs.system_draft.SystemDraft.clock.Goals as goal
use Rattle.system_scripts.proofs.system_draft.SystemDraft.clock.Goals.{then-is_avalon+in_default, else-is_avalon}

pub loop-joint-init : goal.loop-joint-init
loop-joint-init c = system_clock-first c.args.library.now c.args.self.now c.as_slice-joint-items.result.now (c.as_slice-joint-items.ensures.value ∙ ap (λ (s : DraftedSystem). s.joints) c.self.view_is)

pub returns-in-Some : goal.returns-in-Some
returns-in-Some c =
    sym (c.loop-joint.invariant ∙ first_root-found c.args.library.now c.args.self.now c.as_slice-joint-items.result.now c.loop-joint.joint-index _ c.in-Some.root c.loop-joint-test.true (sym c.is_avalon.ensures ∙ c.if-is_avalon.true) (sym c.root_at.ensures ∙ c.in-Some.is))

pub loop-joint-preserved : goal.loop-joint-preserved
loop-joint-preserved c = elim c.if-is_avalon.branch [
  | then-is_avalon+in_default w ↦ c.loop-joint.invariant ∙ first_root-none c.args.library.now c.args.self.now c.as_slice-joint-items.result.now c.loop-joint.joint-index _ c.loop-joint-test.true (sym c.is_avalon.ensures ∙ w.if-is_avalon.true) (sym w.in_default.ensures)
  | else-is_avalon w ↦ c.loop-joint.invariant ∙ first_root-passed c.args.library.now c.args.self.now c.as_slice-joint-items.result.now c.loop-joint.joint-index _ c.loop-joint-test.true (sym c.is_avalon.ensures ∙ w.if-is_avalon.false)
]
