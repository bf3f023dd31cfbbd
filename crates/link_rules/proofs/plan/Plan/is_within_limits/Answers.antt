use Rattle.std.proofs.Common.{length}
use Rattle.address_map.specs.Maps.{hosts_of, agents_of}
use Rattle.link_rules.specs.Links.{streams_of}
use Rattle.link_rules.proofs.CountLemmas.{few_connections, within_limit}
use Rattle.link_rules.proofs.plan.Plan.is_within_limits.Goals as goal

pub returns : goal.returns
returns c =
    let system = c.args.self.now.system in
    let plan = c.well_made.ensures in
    let hosts = within_limit 16 (length (hosts_of system)) (plan.limits 1) in
    let agents = within_limit 32 (length (agents_of system)) (plan.limits 2) in
    record {
      hosts = hosts;
      agents = agents;
      streams = within_limit 16 (length (streams_of system)) (plan.limits 3);
      connections = few_connections system plan.system (c.ends_have_one_number.ensures.there system) hosts agents;
    }
