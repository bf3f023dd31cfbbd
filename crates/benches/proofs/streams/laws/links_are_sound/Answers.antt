use Rattle.benches.proofs.streams.Links.{sound}
use Rattle.benches.proofs.streams.laws.links_are_sound.Goals as goal

pub returns : goal.returns
returns c = λ plan is number link at.
    sound plan number link (c.streams_are_numbered.ensures.links plan.system is.system number link at) (c.links_keep_rules.ensures.streams plan is number link at)
    c.proper_records_are_bounded.ensures.source c.proper_records_are_bounded.ensures.sink
