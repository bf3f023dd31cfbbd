use Rattle.trace_lines.proofs.ToldLemmas.{nothing_told, write_told, read_told, one_beat, so_many_words}
use Rattle.trace_lines.proofs.laws.agents_are_told_by_their_ports.Goals as goal

pub returns-clause-nothing : goal.returns-clause-nothing
returns-clause-nothing c = nothing_told

pub returns-clause-write : goal.returns-clause-write
returns-clause-write c = write_told

pub returns-clause-read : goal.returns-clause-read
returns-clause-read c = read_told

pub returns-clause-one_beat : goal.returns-clause-one_beat
returns-clause-one_beat c = one_beat

pub returns-clause-words : goal.returns-clause-words
returns-clause-words c = so_many_words
