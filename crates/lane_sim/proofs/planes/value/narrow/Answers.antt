use Rattle.std.proofs.Common.{◌≡◌, ℕ, ◌+◌, ◌*◌, ◌^◌, ◌<◌, ◌%◌, ap, sym, subst, ◌∙◌, arith}
use Rattle.av_base.specs.Word.{word}
use Rattle.lane_sim.specs.Planes.{lane}
use Rattle.lane_sim.proofs.planes.Halves.{narrow_is, below_power}
use Rattle.lane_sim.proofs.planes.value.narrow.Goals as goal

pub invariant_of-result : goal.invariant_of-result
invariant_of-result c = record {
  some_bit = c.requires.some_bit;
  small = (let h = c.requires.narrow in omega arith);
  low = c.well_made.ensures;
  high = c.well_made-2.ensures;
  fits = λ j lt. subst (λ n. n < 2 ^ c.args.width) (sym (narrow_is _ (lane c.args.low j) _ c.args.width (c.splat-high.ensures j lt) (c.low_bits-low.ensures j lt))) (below_power (lane c.args.low j) c.args.width);
}

pub returns : goal.returns
returns c j lt = ap (word c.args.width) (narrow_is _ (lane c.args.low j) _ c.args.width (c.splat-high.ensures j lt) (c.low_bits-low.ensures j lt))
