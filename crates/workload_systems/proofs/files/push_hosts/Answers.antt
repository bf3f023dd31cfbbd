use Rattle.workload_systems.proofs.Writing.{pushed, four_pushed}
use Rattle.workload_systems.proofs.files.push_hosts.Goals as goal

pub returns : goal.returns
returns c = four_pushed _ _ _ _ _ _ _ _ _ (pushed _ _ _ _ c.in_ok-push.ensures.ok c.in_ok-host_text.ensures) (pushed _ _ _ _ c.in_ok-push-2.ensures.ok c.in_ok-host_text-2.ensures) (pushed _ _ _ _ c.in_ok-push-3.ensures.ok c.in_ok-host_text-3.ensures) (pushed _ _ _ _ c.in_ok-push-4.ensures.ok c.in_ok-host_text-4.ensures)
