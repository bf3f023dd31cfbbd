use Rattle.item_queues.proofs.FewBits.{stored_few}
use Rattle.item_queues.proofs.laws.stored_queue_keeps_few_bits.Goals as goal

pub returns : goal.returns
returns c size netlist like queue made some few = stored_few netlist like queue made some few
