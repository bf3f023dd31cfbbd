use Rattle.std.proofs.Common.{◌<◌, length, arith, sym, ◌∙◌}
use Rattle.std.proofs.lemmas.Option.{slice_get-get_or}
use Rattle.benches.proofs.parts.Many.{inside, none_behind, one_more_behind}
use Rattle.benches.proofs.parts.all.end_cycle_of_all.Goals as goal

pub components-init : goal.components-init
components-init g c = none_behind (λ (old new : g.row.C.Denot). g.C.Component.follows old c.args.sim.now new) c.args.components.now

pub end_cycle-requires-clause-fits : goal.end_cycle-requires-clause-fits
end_cycle-requires-clause-fits g c =
    let inside : c.components.component-index < length c.components.components = omega arith in
    c.requires.fits c.components.component-index _
    (sym (c.components.invariant.rest c.components.component-index (omega arith)) ∙ slice_get-get_or c.components.components c.components.component-index c.component-item.result inside)

pub components-preserved : goal.components-preserved
components-preserved g c =
    let inside : c.components.component-index < length c.components.components = omega arith in
    one_more_behind (λ (old new : g.row.C.Denot). g.C.Component.follows old c.args.sim.now new) c.args.components.now c.components.components c.components.component-index
    c.component-item.result c.end_cycle.new.self inside c.components.invariant c.end_cycle.ensures

pub returns-clause-each : goal.returns-clause-each
returns-clause-each g c = λ k before after a b.
    let low = inside c.args.components.now k before a in
    c.components.invariant.before k before after (omega arith) a b
