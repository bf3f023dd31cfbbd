use Rattle.adapters_tests.proofs.builders.beat_of.Goals as goal

pub returns-clause-nets : goal.returns-clause-nets
returns-clause-nets c = record {
  valid = c.requires.bit;
  word = c.requires.word;
  channel = c.requires.channel;
  error = c.requires.bit.is_net;
  first = c.requires.bit;
  last = c.requires.bit;
  empty = c.requires.empty;
}
