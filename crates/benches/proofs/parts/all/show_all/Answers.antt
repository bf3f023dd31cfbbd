use Rattle.benches.proofs.parts.Many.{next_fits_at, one_more_set_at}
use Rattle.benches.proofs.parts.all.show_all.Goals as goal

pub show-requires : goal.show-requires
show-requires g c =
    next_fits_at g.C.Component.sets c.levels_stand.ensures.first_fits c.components.row c.args.components.now c.components.component-index c.component-item.result c.component-item.is
    c.components-test.true c.components.invariant.fits

pub components-preserved : goal.components-preserved
components-preserved g c =
    let next = one_more_set_at g.C.Component.sets c.levels_stand.ensures.in_two c.levels_stand.ensures.second_fits c.args.row.now c.components.row c.show.new.row c.args.components.now
    c.components.component-index c.component-item.result c.component-item.is c.components-test.true c.components.invariant.set c.components.invariant.fits c.show.ensures in
    record { set = next.0; fits = next.1 }
