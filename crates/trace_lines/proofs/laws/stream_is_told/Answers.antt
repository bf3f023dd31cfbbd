use Rattle.std.proofs.Common.{refl}
use Rattle.std.specs.Fmt.{digits}
use Rattle.trace_lines.proofs.laws.stream_is_told.Goals as goal

pub returns-clause-lines : goal.returns-clause-lines
unfolding digits
returns-clause-lines c = refl
