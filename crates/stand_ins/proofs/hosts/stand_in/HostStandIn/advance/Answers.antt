use Rattle.std.proofs.Common.{◌<◌, suc, ◌∷◌, All, drop, length, ap, sym, ◌∙◌, subst, arith}
use Rattle.scenario_tables.specs.Statements.{FitsHost}
use Rattle.stand_ins.specs.Steps.{steps_of, all_steps}
use Rattle.stand_ins.specs.HostsStandIns.{HostStandInValue}
use Rattle.stand_ins.specs.HostsKept.{IsWithinFirst}
use Rattle.stand_ins.proofs.hosts.Stepping.{begins_within, drop_more, behind_last}
use Rattle.stand_ins.proofs.hosts.stand_in.HostStandIn.advance.Goals as goal

pub overflow_add-self-inside : goal.overflow_add-self-inside
overflow_add-self-inside c =
    let within : c.self.inside.done < length (steps_of c.self.inside.port c.in-Some.first.now) =
    subst (λ script. IsWithinFirst c.self.inside.port script c.self.inside.done) c.in-Some.ensures.cases.0 c.self.invariant.within in
    omega (arith, c.step_count-count.ensures c.self.inside.port, c.step_count-count.type_inv)

pub invariant_of-self-else-self-count : goal.invariant_of-self-else-self-count
invariant_of-self-else-self-count c =
    let port = c.self.inside.port in
    let fits : All (FitsHost port) (c.in-Some.first.now ∷ c.in-Some.later.now) = subst (λ script. All (FitsHost port) script) c.in-Some.ensures.cases.0 c.self.invariant.fits in
    let later_fits : All (FitsHost port) c.in-Some.later.now = λ k d less. fits (suc k) d (omega arith) in
    record { bounded = c.self.invariant.bounded; fits = later_fits; within = begins_within port c.in-Some.later.now later_fits }

pub returns-then-self-count-clause-left : goal.returns-then-self-count-clause-left
returns-then-self-count-clause-left c = drop_more c.self.inside.done _ ∙ ap (λ (value : HostStandInValue). drop 1 value.left) c.self.view_is

pub returns-else-self-count-clause-left : goal.returns-else-self-count-clause-left
returns-else-self-count-clause-left c =
    let port = c.self.inside.port in
    let number = c.self.inside.done in
    let whole = c.in-Some.ensures.cases.0 in
    let within : number < length (steps_of port c.in-Some.first.now) = subst (λ script. IsWithinFirst port script number) whole c.self.invariant.within in
    behind_last port c.in-Some.first.now c.in-Some.later.now number (omega (arith, c.step_count-count.ensures c.self.inside.port))
    ∙ ap (λ script. drop 1 (drop number (all_steps port script))) (sym whole)
    ∙ ap (λ (value : HostStandInValue). drop 1 value.left) c.self.view_is
