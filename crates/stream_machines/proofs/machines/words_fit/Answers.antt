use Rattle.stream_machines.proofs.machines.words_fit.Goals as goal
use Rattle.stream_machines.proofs.WordLemmas

pub returns-clause-pieces : goal.returns-clause-pieces
returns-clause-pieces c = WordLemmas.split_is

pub returns-clause-joined : goal.returns-clause-joined
returns-clause-joined c = WordLemmas.joined_is

pub returns-clause-turned : goal.returns-clause-turned
returns-clause-turned c = WordLemmas.turned_values
