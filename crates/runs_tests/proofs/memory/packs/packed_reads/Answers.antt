use Rattle.std.proofs.Common.{refl}
use Rattle.runs_tests.proofs.memory.packs.packed_reads.Goals as goal

pub returns-clause-places : goal.returns-clause-places
returns-clause-places c = refl

pub returns-clause-first : goal.returns-clause-first
returns-clause-first c = refl

pub returns-clause-second : goal.returns-clause-second
returns-clause-second c = refl

pub returns-clause-joined : goal.returns-clause-joined
returns-clause-joined c = refl

pub returns-clause-words : goal.returns-clause-words
returns-clause-words c = refl

pub returns-clause-touches : goal.returns-clause-touches
returns-clause-touches c = refl

pub returns-clause-wrapped : goal.returns-clause-wrapped
returns-clause-wrapped c = refl

pub returns-clause-held_back : goal.returns-clause-held_back
returns-clause-held_back c = refl
