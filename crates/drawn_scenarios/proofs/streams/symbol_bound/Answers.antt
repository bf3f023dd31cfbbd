use Rattle.std.proofs.Common.{◌≤◌, ◌^◌, sym, arith}
use Rattle.std.proofs.Math.Nat.{min-eq_left}
use Rattle.drawn_scenarios.proofs.DrawLemmas.{wider}
use Rattle.drawn_scenarios.proofs.streams.symbol_bound.Goals as goal

pub returns-else-bits-lt8 : goal.returns-else-bits-lt8
returns-else-bits-lt8 c = let wide : 2 ^ 8 ≤ 2 ^ c.args.bits = wider 8 c.args.bits (omega arith) in sym (min-eq_left wide)
