use Rattle.std.proofs.Common.{ap}
use Rattle.std.specs.Prelude.{ℕ, Bool, ◌==◌}
use Rattle.drawn_scenarios.specs.Draws.{stalls}
use Rattle.drawn_scenarios.proofs.generator.Generator.stalls.Goals as goal

pub returns : goal.returns
unfolding stalls
returns c = let P : ℕ × ℕ → Bool × ℕ = λ p. (p.0 == 0, p.1) in ap P c.draw.ensures.drawn
