use Rattle.stand_ins.proofs.hosts.Stepping.{begins_within}
use Rattle.stand_ins.proofs.hosts.stand_in.HostStandIn.new.Goals as goal

pub invariant_of-result : goal.invariant_of-result
invariant_of-result c = record { bounded = c.requires.bounded; fits = c.requires.script.each; within = begins_within c.args.port c.args.script.now c.requires.script.each }
