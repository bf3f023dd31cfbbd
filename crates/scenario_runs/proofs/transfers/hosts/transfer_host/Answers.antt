use Rattle.scenario_runs.proofs.transfers.Ends.{first_known, bounded_at}
use Rattle.scenario_runs.proofs.transfers.hosts.transfer_host.Goals as goal

pub returns-in-Host-clause-bounded : goal.returns-in-Host-clause-bounded
returns-in-Host-clause-bounded c =
    let known = first_known c.args.plan.now.system c.hosts.result.now (record { instance = 0; interface = 0 }) c.hosts.ensures c.in-len1-up.len_at_least (c.ends_are_known.ensures.hosts c.args.plan.now.system c.well_made.ensures.system) in
    bounded_at c.args.plan.now.system _ c.in-Host.port known c.in-Host.ensures c.proper_records_are_bounded.ensures.host
