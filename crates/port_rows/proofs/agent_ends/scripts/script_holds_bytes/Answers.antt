use Rattle.std.proofs.Common.{arith}
use Rattle.port_rows.proofs.agent_ends.Holding.{one_held, all_held}
use Rattle.port_rows.proofs.agent_ends.scripts.script_holds_bytes.Goals as goal

pub statements-preserved : goal.statements-preserved
statements-preserved c =
    one_held c.args.script.now c.statements.statement-index c.statement-item.result (omega arith) c.statement-item.is c.holds_bytes.ensures c.statements.invariant

pub returns : goal.returns
returns c = all_held c.args.script.now c.statements.statement-index c.statements-test.false c.statements.invariant
