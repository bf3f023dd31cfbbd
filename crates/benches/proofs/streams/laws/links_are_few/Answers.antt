use Rattle.benches.proofs.streams.Links.{few_links}
use Rattle.benches.proofs.streams.laws.links_are_few.Goals as goal

pub returns : goal.returns
returns c = λ plan is. few_links plan is (c.streams_are_numbered.ensures.numbers plan.system is.system)
