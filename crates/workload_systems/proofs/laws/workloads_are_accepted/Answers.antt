use Rattle.workload_systems.proofs.Accepted.{accepted, is_workload, short}
use Rattle.workload_systems.proofs.laws.workloads_are_accepted.Goals as goal

pub returns : goal.returns
returns c = record { accepted = accepted; workload = is_workload; short = short }
