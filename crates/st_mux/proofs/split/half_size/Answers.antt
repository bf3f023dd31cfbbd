use Rattle.std.proofs.Common.{◌≡◌, ◌^◌, ◌-◌, ◌≤◌, ◌+◌, ◌∙◌, arith}
use Rattle.std.proofs.lemmas.Nat.{pow_pos}
use Rattle.st_mux.specs.Selecting.{two_halves}
use Rattle.st_mux.proofs.split.half_size.Goals as goal

pub returns-clause-whole : goal.returns-clause-whole
returns-clause-whole c = let twice = two_halves c.args.bits c.requires.some in let half = c.from.ensures ∙ c.half_of.ensures in omega (arith, twice, half)

pub returns-clause-some : goal.returns-clause-some
returns-clause-some c = let least : 1 ≤ 2 ^ (c.args.bits - 1) = pow_pos (c.args.bits - 1) in let half = c.from.ensures ∙ c.half_of.ensures in omega (arith, least, half)
