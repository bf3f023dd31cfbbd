use Rattle.marked_bytes.proofs.Running.{one_rule, fault_is_behind, fault_ends}
use Rattle.marked_bytes.proofs.laws.one_fault.Goals as goal

pub returns : goal.returns
returns c = record { rule = one_rule; before = fault_is_behind; end = fault_ends }
