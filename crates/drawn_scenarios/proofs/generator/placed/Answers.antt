use Rattle.std.proofs.Common.{◌*◌, arith}
use Rattle.std.proofs.lemmas.Nat.{shl_whole}
use Rattle.drawn_scenarios.proofs.generator.placed.Goals as goal

pub returns : goal.returns
returns c = let whole = shl_whole c.args.symbol c.args.bits (c.args.bits * c.args.place) 128 (omega arith) (omega arith) in cc
