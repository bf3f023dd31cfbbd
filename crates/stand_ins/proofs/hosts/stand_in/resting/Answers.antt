use Rattle.stand_ins.proofs.hosts.Bounds.{few_bytes}
use Rattle.stand_ins.proofs.hosts.stand_in.resting.Goals as goal

pub all_lanes-requires-clause-few : goal.all_lanes-requires-clause-few
all_lanes-requires-clause-few c = few_bytes c.args.port.now.word_bytes c.requires.ports.word
