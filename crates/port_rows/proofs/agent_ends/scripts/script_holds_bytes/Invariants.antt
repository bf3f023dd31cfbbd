use Rattle.port_rows.proofs.agent_ends.Holding.{HoldIfLater}
use Rattle.port_rows.proofs.agent_ends.scripts.script_holds_bytes.Given as goal

abbrev pub invariant-statements : goal.invariant-statements
invariant-statements l = HoldIfLater l.script l.statement-index
