use Rattle.std.proofs.Common.{◌∙◌, ap}
use Rattle.stand_ins.specs.HostsStandIns.{HostStandInValue}
use Rattle.stand_ins.specs.HostsKept.{presents_first}
use Rattle.stand_ins.proofs.hosts.Stepping.{presented_by_first}
use Rattle.stand_ins.proofs.hosts.stand_in.HostStandIn.presents.Goals as goal

pub returns-in-Some : goal.returns-in-Some
returns-in-Some c =
    c.has_beats.ensures
    ∙ presented_by_first c.self.inside.port c.self.inside.script.now c.self.inside.done _ _ c.in-Some.ensures.cases.0 c.self.invariant.within
    ∙ ap (λ (value : HostStandInValue). presents_first value.left) c.self.view_is
