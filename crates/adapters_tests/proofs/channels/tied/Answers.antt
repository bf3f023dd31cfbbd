use Rattle.std.proofs.Common.{List, subst}
use Rattle.netlist.specs.declared.line.PortLine.{PortLine}
use Rattle.netlist.specs.Netlists.{IsOutputPort}
use Rattle.adapters_tests.proofs.channels.tied.Goals as goal

pub finish-requires-clause-driven : goal.finish-requires-clause-driven
finish-requires-clause-driven c k w i = absurd (c.in_ok-builder.ensures.no_output k w (subst (λ (ps : List PortLine). IsOutputPort ps k w) c.in_ok-numbers.ensures.ports i))

pub finish-requires-clause-clocked : goal.finish-requires-clause-clocked
finish-requires-clause-clocked c n h = c.in_ok-builder.ensures.clocked n (c.in_ok-numbers.ensures.no_more_wait n h)

pub finish-requires-clause-written : goal.finish-requires-clause-written
finish-requires-clause-written c m h = c.in_ok-builder.ensures.written m (c.in_ok-numbers.ensures.no_more_write m h)
