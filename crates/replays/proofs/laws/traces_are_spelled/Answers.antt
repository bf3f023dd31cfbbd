use Rattle.std.proofs.Common.{refl}
use Rattle.std.specs.Fmt.{digits}
use Rattle.replays.proofs.laws.traces_are_spelled.Goals as goal

pub returns-clause-run : goal.returns-clause-run
unfolding digits
returns-clause-run c = refl

pub returns-clause-wide_value : goal.returns-clause-wide_value
returns-clause-wide_value c = refl

pub returns-clause-widest_value : goal.returns-clause-widest_value
returns-clause-widest_value c = refl
