use Rattle.std.proofs.Common.{◌<◌, ◌^◌, length, decimal, ap, arith, length-append}
use Rattle.std.proofs.lemmas.Fmt.{length-decimal-le}
use Rattle.av_base.proofs.lines.Line.put_number.Goals as goal

pub put_decimal-requires : goal.put_decimal-requires
put_decimal-requires c =
    let small : c.args.number < 10 ^ 20 = omega arith in
    let digits = length-decimal-le 20 c.args.number (omega arith) small c.ranges.number.fits in
    omega (arith, digits, c.requires)

pub returns-clause-short : goal.returns-clause-short
returns-clause-short c =
    let small : c.args.number < 10 ^ 20 = omega arith in
    let digits = length-decimal-le 20 c.args.number (omega arith) small c.ranges.number.fits in
    omega (arith, digits, ap length c.put_decimal.ensures, length-append c.args.self.now (decimal c.args.number))
