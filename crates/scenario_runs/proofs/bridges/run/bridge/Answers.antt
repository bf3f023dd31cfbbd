use Rattle.std.proofs.Common.{◌≡◌, ◌*◌, ◌^◌, ◌≤◌, ◌∙◌, inr, subst}
use Rattle.link_rules.specs.Links.{weight_of}
use Rattle.std.proofs.lemmas.Result.{err_from_is_err_and}
use Rattle.scenario_runs.proofs.bridges.BridgeLemmas.{can_be_done, too_long, unfit, faulty, noted}
use Rattle.scenario_runs.proofs.bridges.run.bridge.Goals as goal

pub returns-in_default-clause-fault : goal.returns-in_default-clause-fault
returns-in_default-clause-fault c =
    inr (unfit c.args.files.now c.args.bytes.now c.args.cycles c.in_ok-plan.plan c.in_ok-plan.ensures.accepted c.in_default.ensures.none)

pub returns-in_err-transfers-clause-fault : goal.returns-in_err-transfers-clause-fault
returns-in_err-transfers-clause-fault c =
    let handed = err_from_is_err_and c.from_residual-in_err-transfers.result c.from_residual-in_err-transfers.ensures.1 in
    rw (handed.1, handed.2)
    (faulty c.args.files.now c.args.bytes.now c.args.cycles c.in_ok-plan.plan c.in-Some.port c.in_err-transfers.field-0.0 c.in_ok-plan.ensures.accepted c.in-Some.ensures.host c.in_err-transfers.ensures.fault)

pub returns-then-count-gt-MOST_VALUES-clause-fault : goal.returns-then-count-gt-MOST_VALUES-clause-fault
returns-then-count-gt-MOST_VALUES-clause-fault c =
    inr (too_long c.args.files.now c.args.bytes.now c.args.cycles c.in_ok-plan.plan c.in-Some.port c.in_ok-transfers.field-0.transfers _ c.in_ok-plan.ensures.accepted c.in-Some.ensures.host
    c.in_ok-transfers.ensures.transfers (cc) c.if-count-gt-MOST_VALUES.true)

pub returns-clause-noted : goal.returns-clause-noted
returns-clause-noted c =
    let stated = c.in_ok-transfers in
    let built = c.in_ok-module in
    let run = c.in_ok-note_host.ensures in
    noted c.args.files.now c.args.bytes.now c.args.cycles c.in_ok-plan.plan c.in-Some.port stated.field-0.transfers built.field-0.module stated.field-0.scenario c.note_host.new.notes.replies run.0 run.1
    c.in_ok-plan.ensures.accepted c.in-Some.ensures.host stated.ensures.transfers built.ensures.interconnect built.ensures.sound stated.ensures.scenario
    (run.3.transfers ∙ c.in_ok-new.ensures.transfers) run.2 run.3.noted

pub returns-clause-can : goal.returns-clause-can
returns-clause-can c =
    let same : c.from.result * c.from-2.result ≡ c.args.cycles * weight_of c.in_ok-plan.plan.system = cc in
    can_be_done c.args.files.now c.args.bytes.now c.args.cycles c.in_ok-plan.plan c.in-Some.port c.in_ok-transfers.field-0.transfers c.in_ok-plan.ensures.accepted c.in-Some.ensures.host
    c.in_ok-transfers.ensures.transfers (subst (λ n. n ≤ 2 ^ 32) same c.if-count-gt-MOST_VALUES.false)
