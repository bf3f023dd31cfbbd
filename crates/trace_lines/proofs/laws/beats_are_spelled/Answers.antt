use Rattle.std.proofs.Common.{refl}
use Rattle.std.specs.Fmt.{digits}
use Rattle.trace_lines.proofs.laws.beats_are_spelled.Goals as goal

pub returns-clause-whole_packet : goal.returns-clause-whole_packet
unfolding digits
returns-clause-whole_packet c = refl

pub returns-clause-inside : goal.returns-clause-inside
unfolding digits
returns-clause-inside c = refl

pub returns-clause-dropped : goal.returns-clause-dropped
unfolding digits
returns-clause-dropped c = refl
