use Rattle.std.proofs.Common.{◌≡◌, length}
use Rattle.narrowed_netlists.specs.Masks.{AreNetGaps}
use Rattle.narrowed_netlists.proofs.masks.net_gaps.Given as goal

abbrev pub invariant-loop-net : goal.invariant-loop-net
invariant-loop-net l = record { count : length l.gaps.items ≡ l.net; fit : AreNetGaps l.module l.masks l.gaps.items l.net }
