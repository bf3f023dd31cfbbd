use Rattle.port_rows.proofs.host_ends.Fitting.{script_fits, left_before_fits, shown_fits}
use Rattle.stand_ins.specs.Steps.{all_steps}
use Rattle.stand_ins.specs.HostsStandIns.{left_before}
use Rattle.port_rows.proofs.host_ends.laws.shown_hosts_fit.Goals as goal

pub returns : goal.returns
returns c port script waitrequest cycle bounded kept =
    shown_fits port bounded (left_before (all_steps port script) waitrequest cycle) (left_before_fits port (all_steps port script) waitrequest cycle (script_fits port bounded script kept.each))
