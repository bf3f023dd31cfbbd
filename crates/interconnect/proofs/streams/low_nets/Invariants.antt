use Rattle.interconnect.proofs.LowNets.{AreLowsTo}
use Rattle.interconnect.proofs.streams.low_nets.Given as goal

abbrev pub invariant-loop-link : goal.invariant-loop-link
invariant-loop-link l = AreLowsTo l.plan.system l.link-index l.fn.builder l.builder l.lows
