use Rattle.std.proofs.Common.{◌≡◌, ℕ, ◌+◌, ◌*◌, ◌^◌, ◌<◌, ◌%◌, ap, sym, subst, ◌∙◌, arith}
use Rattle.av_base.specs.Word.{word}
use Rattle.lane_sim.specs.Planes.{lane}
use Rattle.lane_sim.proofs.planes.Halves.{wide_is, below_power}
use Rattle.lane_sim.proofs.planes.value.wide.Goals as goal

pub invariant_of-result : goal.invariant_of-result
invariant_of-result c = record {
  some_bit = (let h = c.requires.wide in omega arith);
  small = c.requires.small;
  low = c.well_made.ensures;
  high = c.well_made-2.ensures;
  fits = λ j lt. subst (λ n. n < 2 ^ c.args.width) (sym (wide_is (lane c.args.high j) (lane c.args.low j) _ c.args.width c.requires.wide c.requires.small (c.well_made.ensures.fit j lt) (c.low_bits-high.ensures j lt))) (below_power (lane c.args.high j * 2 ^ 64 + lane c.args.low j) c.args.width);
}

pub returns : goal.returns
returns c j lt = ap (word c.args.width) (wide_is (lane c.args.high j) (lane c.args.low j) _ c.args.width c.requires.wide c.requires.small (c.well_made.ensures.fit j lt) (c.low_bits-high.ensures j lt))
