use Rattle.link_rules.specs.PlanConnections.{stream_connections}
use Rattle.link_rules.proofs.PlanLemmas.{there}
use Rattle.link_rules.proofs.plan.Plan.stream.Goals as goal

pub returns-clause-at : goal.returns-clause-at
returns-clause-at c = there c.stream_connections.result.now (stream_connections c.args.self.now.system) c.args.number _ c.stream_connections.ensures c.requires

pub returns-clause-is : goal.returns-clause-is
returns-clause-is c =
    let at = there c.stream_connections.result.now (stream_connections c.args.self.now.system) c.args.number _ c.stream_connections.ensures c.requires in
    c.streams_are_numbered.ensures.links c.args.self.now.system c.well_made.ensures.system c.args.number _ at

pub returns-clause-source : goal.returns-clause-source
returns-clause-source c =
    let at = there c.stream_connections.result.now (stream_connections c.args.self.now.system) c.args.number _ c.stream_connections.ensures c.requires in
    c.proper_records_are_bounded.ensures.source _ (c.streams_are_numbered.ensures.links c.args.self.now.system c.well_made.ensures.system c.args.number _ at).source_proper

pub returns-clause-sink : goal.returns-clause-sink
returns-clause-sink c =
    let at = there c.stream_connections.result.now (stream_connections c.args.self.now.system) c.args.number _ c.stream_connections.ensures c.requires in
    c.proper_records_are_bounded.ensures.sink _ (c.streams_are_numbered.ensures.links c.args.self.now.system c.well_made.ensures.system c.args.number _ at).sink_proper

pub returns-clause-rules : goal.returns-clause-rules
returns-clause-rules c =
    let at = there c.stream_connections.result.now (stream_connections c.args.self.now.system) c.args.number _ c.stream_connections.ensures c.requires in
    c.links_keep_rules.ensures.streams c.args.self.now c.well_made.ensures c.args.number _ at
