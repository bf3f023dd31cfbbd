use Rattle.std.proofs.Common.{cond, None, Some, sym, ap, ◌∙◌, arith}
use Rattle.scenarios.proofs.PacketLemmas.{behind_beat, behind_other}
use Rattle.scenarios.proofs.sources.opened.Goals as goal

pub returns-then-beat : goal.returns-then-beat
returns-then-beat c =
    sym (c.statements.invariant.1 ∙ behind_beat c.args.script.now c.statements.count _ c.in-Beat.beat c.statements-test.true c.statements.invariant.0 c.in-Beat.is
    ∙ ap (λ b. cond b None (Some c.in-Beat.beat.channel)) c.if-beat.true)

pub returns-else-beat : goal.returns-else-beat
returns-else-beat c =
    sym (c.statements.invariant.1 ∙ behind_beat c.args.script.now c.statements.count _ c.in-Beat.beat c.statements-test.true c.statements.invariant.0 c.in-Beat.is
    ∙ ap (λ b. cond b None (Some c.in-Beat.beat.channel)) c.if-beat.false)

pub statements-preserved : goal.statements-preserved
statements-preserved c =
    (omega arith, c.statements.invariant.1 ∙ behind_other c.args.script.now c.statements.count _ c.statements-test.true c.statements.invariant.0 c.in_default.not-Beat)
