use Rattle.waves.proofs.LawLemmas.{rows_or_fault}
use Rattle.waves.proofs.laws.rows_or_fault.Goals as goal

pub returns : goal.returns
returns c = rows_or_fault
