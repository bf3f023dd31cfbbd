use Rattle.mm_route.proofs.Ignores.{ignores_answers}
use Rattle.mm_route.proofs.laws.route_ignores_answers.Goals as goal

pub returns : goal.returns
returns c = ignores_answers
