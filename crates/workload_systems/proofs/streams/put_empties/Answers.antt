use Rattle.workload_systems.proofs.Writing.{empties_none, empties_two, empties_more, written_none, written_one}
use Rattle.workload_systems.proofs.streams.put_empties.Goals as goal

pub returns-then-symbols-eq1 : goal.returns-then-symbols-eq1
returns-then-symbols-eq1 c = written_none _ _ (empties_none c.args.interface.now c.args.direction.now c.args.symbols c.if-symbols-eq1.true)

pub returns-then-symbols-eq2 : goal.returns-then-symbols-eq2
returns-then-symbols-eq2 c = written_one _ _ _ _ (empties_two c.args.interface.now c.args.direction.now c.args.symbols c.if-symbols-eq2.true) c.in_ok-put_port.ensures

pub returns : goal.returns
returns c = written_one _ _ _ _ (empties_more c.args.interface.now c.args.direction.now c.args.symbols c.if-symbols-eq1.false c.if-symbols-eq2.false) c.in_ok-put_port-2.ensures
