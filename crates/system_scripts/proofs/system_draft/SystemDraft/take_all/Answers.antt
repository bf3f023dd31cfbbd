use Rattle.std.proofs.Common.{◌+◌, ◌≤◌, sym, ap, ◌∙◌, drop, arith}
use Rattle.std.specs.Prelude.{length}
use Rattle.std.proofs.lemmas.List.{at_drop_all}
use Rattle.std.proofs.lemmas.Result.{err_from_is_err_and}
use Rattle.system_scripts.specs.System.{first_system_refusal, system_after_all}
use Rattle.system_scripts.proofs.SystemDraftLemmas.{IsRefusal-next, draft-accepted, draft-stated}
use Rattle.system_scripts.proofs.system_draft.SystemDraft.take_all.Goals as goal

pub returns-in_err-take-clause-refused : goal.returns-in_err-take-clause-refused
returns-in_err-take-clause-refused c =
    let p = err_from_is_err_and c.from_residual.result c.from_residual.ensures.1 in
    let commands = c.args.commands.now.commands in
    rw (p.1, p.2) (IsRefusal-next c.args.library.now c.loop-k.self commands c.loop-k.k c.command.result.now c.in_err-take.field-0.0 (first_system_refusal c.args.library.now c.args.self.now commands) c.loop-k.invariant.refusal c.command.ensures c.in_err-take.ensures.refused)

pub loop-k-preserved : goal.loop-k-preserved
loop-k-preserved c =
    let library = c.args.library.now in
    let commands = c.args.commands.now.commands in
    record {
      refusal = c.loop-k.invariant.refusal ∙ draft-accepted library c.loop-k.self commands c.loop-k.k c.command.result.now c.command.ensures c.in_ok-take.ensures.accepted ∙ ap (λ d. first_system_refusal library d (drop (c.loop-k.k + 1) commands)) (sym c.in_ok-take.ensures.stated);
      stated = c.loop-k.invariant.stated ∙ draft-stated library c.loop-k.self commands c.loop-k.k c.command.result.now c.command.ensures ∙ ap (λ d. system_after_all library d (drop (c.loop-k.k + 1) commands)) (sym c.in_ok-take.ensures.stated);
    }

pub returns-clause-accepted : goal.returns-clause-accepted
returns-clause-accepted c =
    let commands = c.args.commands.now.commands in
    let past : length commands ≤ c.loop-k.k = omega arith in
    c.loop-k.invariant.refusal ∙ at_drop_all (first_system_refusal c.args.library.now c.loop-k.self) commands c.loop-k.k past

pub returns-clause-stated : goal.returns-clause-stated
returns-clause-stated c =
    let commands = c.args.commands.now.commands in
    let past : length commands ≤ c.loop-k.k = omega arith in
    sym (c.loop-k.invariant.stated ∙ at_drop_all (system_after_all c.args.library.now c.loop-k.self) commands c.loop-k.k past)
