use Rattle.std.proofs.Common.{◌≡◌, slice_get, Some, subst, arith}
use Rattle.cycle_sim.proofs.put.put.Goals as goal

pub mark-requires : goal.mark-requires
mark-requires c j block at =
    let lt = c.requires.readers.nets.inside c.args.net block (record { place = j; is = subst (λ xs. slice_get xs j ≡ Some block) c.list.ensures at }) in
    omega (arith, lt, c.requires.stale)
