use Rattle.std.proofs.Common.{arith}
use Rattle.scenarios.proofs.PortLemmas.{lanes_small}
use Rattle.scenarios.proofs.ports.all_lanes.Goals as goal

pub pow-requires : goal.pow-requires
pow-requires c = let small = lanes_small c.from.result c.args.host.now.word_bytes c.from.ensures c.requires.ports.word in omega arith

pub overflow_cast-result : goal.overflow_cast-result
overflow_cast-result c = let small = lanes_small c.from.result c.args.host.now.word_bytes c.from.ensures c.requires.ports.word in omega (arith, c.pow.ensures)
