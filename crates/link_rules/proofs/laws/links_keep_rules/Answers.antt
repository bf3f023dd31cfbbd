use Rattle.link_rules.proofs.LinkLemmas.{stream_keeps, memory_keeps}
use Rattle.link_rules.proofs.laws.links_keep_rules.Goals as goal

pub returns : goal.returns
returns c = record {
  streams = λ plan is k link at. stream_keeps plan is k link (c.streams_are_numbered.ensures.links plan.system is.system k link at);
  memory = λ plan is k link at. memory_keeps plan is link (c.memory_connections_are_numbered.ensures.links plan.system is.system k link at);
}
