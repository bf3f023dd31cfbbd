use Rattle.drawn_scenarios.proofs.LinkLemmas.{source_drawable}
use Rattle.drawn_scenarios.proofs.laws.sources_are_drawable.Goals as goal

pub returns : goal.returns
returns c = λ plan is k link at.
    source_drawable plan.system k link (c.streams_are_numbered.ensures.links plan.system is.system k link at) c.proper_records_are_bounded.ensures.source (c.links_keep_rules.ensures.streams plan is k link at)
