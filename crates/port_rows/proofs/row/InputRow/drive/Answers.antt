use Rattle.port_rows.proofs.Driving.{one_more}
use Rattle.port_rows.proofs.row.InputRow.drive.Goals as goal

pub driven-preserved : goal.driven-preserved
driven-preserved c = one_more c.args.self.now c.driven.self c.set_if.new.self c.args.driven.now c.driven.one-index _ c.driven-test.true c.driven.invariant.0 c.driven.invariant.1 c.set_if.ensures
