use Rattle.scenarios.proofs.FirstLemmas.{stated_by_all}
use Rattle.scenarios.proofs.laws.all_lines_are_stated.Goals as goal

pub returns : goal.returns
returns c = stated_by_all
