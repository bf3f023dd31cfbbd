use Rattle.memory_awake.proofs.packed.Dropping.{drop_keeps}
use Rattle.memory_awake.proofs.packed.Splitting.{split_keeps}
use Rattle.memory_awake.proofs.packed.Wiring.{wire_keeps}
use Rattle.memory_awake.proofs.packed.links_keep_sizes.Goals as goal

pub returns-clause-wire : goal.returns-clause-wire
returns-clause-wire c = λ target up down end wire. wire_keeps up down wire target end

pub returns-clause-drop : goal.returns-clause-drop
returns-clause-drop c = λ target room up down state end plan run. drop_keeps target room up down state plan run end

pub returns-clause-split : goal.returns-clause-split
returns-clause-split c = λ target room count up down state end may run legal narrow. split_keeps target room count up down state end may run legal narrow
