use Rattle.scenario_runs.proofs.transfers.Ends.{first_known}
use Rattle.scenario_runs.proofs.transfers.hosts.host_name.Goals as goal

pub instance_name-requires : goal.instance_name-requires
instance_name-requires c =
    let known = first_known c.args.plan.now.system c.hosts.result.now (record { instance = 0; interface = 0 }) c.hosts.ensures c.in-len1-up.len_at_least (c.ends_are_known.ensures.hosts c.args.plan.now.system c.well_made.ensures.system) in
    (_, known.is)

pub interface_name-requires : goal.interface_name-requires
interface_name-requires c =
    let known = first_known c.args.plan.now.system c.hosts.result.now (record { instance = 0; interface = 0 }) c.hosts.ensures c.in-len1-up.len_at_least (c.ends_are_known.ensures.hosts c.args.plan.now.system c.well_made.ensures.system) in
    (_, known.is)
