use Rattle.std.proofs.Common.{◌≤◌, arith}
use Rattle.std.proofs.Math.Pow.{pow_mono}
use Rattle.st_channel.proofs.channels.Channels.new.Goals as goal

pub invariant_of-result-clause-fits : goal.invariant_of-result-clause-fits
invariant_of-result-clause-fits c =
    let is = c.max.ensures in
    let le : c.args.bits ≤ c.max.result = omega (arith, is) in
    let wide = pow_mono le in
    let fits = c.requires.fits in
    omega (arith, wide, fits)
