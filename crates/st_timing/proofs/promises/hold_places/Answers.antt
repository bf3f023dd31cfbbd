use Rattle.std.proofs.Common.{rules, ◌^◌, ◌<◌, arith}
use Rattle.st_timing.proofs.promises.hold_places.Goals as goal

-- sixteen is more than the places
pub returns-clause-narrow : goal.returns-clause-narrow
returns-clause-narrow c =
    let few = c.requires in
    let below : c.args.places < 2 ^ 4 = omega (arith, few) in
    let bits = c.count_bits-bits.ensures.least 4 (omega arith) below in
    search (rules, bits)
