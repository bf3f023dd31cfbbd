use Rattle.histories.proofs.ranks.TightRules.{tight_never_hangs}
use Rattle.histories.proofs.ranks.lax_exceptions_hang.Goals as goal

pub returns-clause-tight : goal.returns-clause-tight
returns-clause-tight c = tight_never_hangs
