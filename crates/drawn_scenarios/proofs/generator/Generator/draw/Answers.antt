use Rattle.drawn_scenarios.proofs.DrawLemmas.{draw_is}
use Rattle.drawn_scenarios.proofs.generator.Generator.draw.Goals as goal

pub returns-clause-drawn : goal.returns-clause-drawn
returns-clause-drawn c = let e = draw_is c.args.bound c.args.self.now in cc
