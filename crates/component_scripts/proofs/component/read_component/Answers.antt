use Rattle.std.proofs.Common.{◌≡◌, ◌+◌, sym, ap, ◌∙◌, drop, arith}
use Rattle.std.specs.Prelude.{length, ◌≤◌}
use Rattle.std.proofs.lemmas.Result.{err_from_is_err_and}
use Rattle.component_scripts.specs.Component.{component_of, ended, first_component_refusal, component_after_all}
use Rattle.component_scripts.proofs.ComponentDraftLemmas.{fault_of_next, command-accepted, command-stated, component_of-all}
use Rattle.component_scripts.proofs.component.read_component.Goals as goal

pub returns-in_err-take-clause-refused : goal.returns-in_err-take-clause-refused
returns-in_err-take-clause-refused c =
    let p = err_from_is_err_and c.from_residual.result c.from_residual.ensures.1 in
    rw (p.1, p.2) (fault_of_next c.args.commands.now c.loop-k.draft c.loop-k.k c.command.result.now c.in_err-take.field-0.0 c.loop-k.invariant.refusal c.command.ensures c.in_err-take.ensures.refused)

pub loop-k-preserved : goal.loop-k-preserved
loop-k-preserved c =
    let commands = c.args.commands.now.commands in
    record {
      refusal = c.loop-k.invariant.refusal ∙ command-accepted c.loop-k.draft commands c.loop-k.k c.command.result.now c.command.ensures c.in_ok-take.ensures.accepted ∙ ap (λ d. first_component_refusal d (drop (c.loop-k.k + 1) commands)) (sym c.in_ok-take.ensures.stated);
      stated = c.loop-k.invariant.stated ∙ command-stated c.loop-k.draft commands c.loop-k.k c.command.result.now c.command.ensures ∙ ap (λ d. component_after_all d (drop (c.loop-k.k + 1) commands)) (sym c.in_ok-take.ensures.stated);
    }

pub returns-clause-accepted : goal.returns-clause-accepted
returns-clause-accepted c =
    let script = c.args.commands.now in
    let past : length script.commands ≤ c.loop-k.k = omega arith in
    let same : component_of script ≡ ended c.end.result c.loop-k.draft = component_of-all script c.loop-k.draft c.loop-k.k c.end.result past c.end.ensures c.loop-k.invariant.refusal c.loop-k.invariant.stated in
    rw same c.finish.ensures.accepted

pub returns-clause-refused : goal.returns-clause-refused
returns-clause-refused c =
    let script = c.args.commands.now in
    let past : length script.commands ≤ c.loop-k.k = omega arith in
    let same : component_of script ≡ ended c.end.result c.loop-k.draft = component_of-all script c.loop-k.draft c.loop-k.k c.end.result past c.end.ensures c.loop-k.invariant.refusal c.loop-k.invariant.stated in
    rw same c.finish.ensures.refused
