use Rattle.mm_arbiter.proofs.Ignores.{ignores_answers}
use Rattle.mm_arbiter.proofs.laws.arbiter_ignores_answers.Goals as goal

pub returns : goal.returns
returns c = ignores_answers
