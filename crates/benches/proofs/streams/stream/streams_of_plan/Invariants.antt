use Rattle.std.proofs.Common.{◌≡◌, length}
use Rattle.benches.proofs.streams.Keeping.{AreFirst}
use Rattle.benches.proofs.streams.stream.streams_of_plan.Given as goal

abbrev pub invariant-links : goal.invariant-links
invariant-links l = record { count : length l.streams.items ≡ l.number; first : AreFirst l.plan.system l.sources l.sinks l.streams.items }
