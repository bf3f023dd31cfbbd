use Rattle.memory_machines.proofs.Alike.{single_joins_alike, whole_joins_alike}
use Rattle.memory_machines.proofs.progress.joins_are_alike.Goals as goal

pub returns-clause-single : goal.returns-clause-single
returns-clause-single c = λ target port tag end legal single tags. single_joins_alike port tag end legal single tags target

pub returns-clause-whole : goal.returns-clause-whole
returns-clause-whole c = whole_joins_alike
