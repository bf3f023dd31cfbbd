use Rattle.std.proofs.Common.{◌≤◌, length, subst}
use Rattle.interconnect.proofs.Modules.{interconnect_narrowed}
use Rattle.interconnect.proofs.whole.without_constant_bits.Goals as goal

pub returns-in-Some : goal.returns-in-Some
returns-in-Some c =
    let few : length c.in-Some.narrowed.lines ≤ c.weight.result = rw c.in-Some.is at c.in_ok-narrowed.ensures.few in
    interconnect_narrowed c.args.plan.now c.args.module c.in-Some.narrowed c.requires.ports c.well_made.ensures.well_made (subst (λ n. length c.in-Some.narrowed.lines ≤ n) c.weight.ensures.value few)
    (rw c.in-Some.is at c.in_ok-narrowed.ensures.narrowed) c.requires.whole
