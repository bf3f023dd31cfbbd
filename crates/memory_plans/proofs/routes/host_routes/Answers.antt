use Rattle.std.proofs.Common.{List, ap, sym, ◌∙◌, slice_get}
use Rattle.link_rules.specs.declared.plan_connections.MemoryConnection.{MemoryConnection}
use Rattle.memory_plans.proofs.routes.host_routes.Goals as goal

pub routes_among-requires : goal.routes_among-requires
routes_among-requires c = λ k link at.
    let same = ap (λ (links : List MemoryConnection). slice_get links k) (sym c.memory_connections.ensures) in
    let l = c.memory_connections_are_numbered.ensures.links c.args.plan.now.system c.well_made.ensures.system k link (same ∙ at) in
    (c.proper_records_are_bounded.ensures.agent link.agent l.agent_proper).ports.address
