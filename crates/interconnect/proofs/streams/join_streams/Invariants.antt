use Rattle.interconnect.specs.Joins.{IsJoinedUpTo}
use Rattle.interconnect.proofs.streams.join_streams.Given as goal

abbrev pub invariant-loop-number : goal.invariant-loop-number
invariant-loop-number l = IsJoinedUpTo l.plan l.number l.builder
