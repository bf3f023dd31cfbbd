use Rattle.std.proofs.Common.{◌≡◌, ◌++◌, None, true}
use Rattle.histories.specs.History.{before}
use Rattle.routed_modules.specs.Drivers.{coming_drivers, going_drivers}
use Rattle.routed_modules.specs.Demultiplexers.{shown_at}
use Rattle.routed_modules.proofs.demux.demux_drivers.Given as goal

abbrev pub invariant-loop-output : goal.invariant-loop-output
invariant-loop-output l = l.drivers.items ≡ coming_drivers l.made.ready true l.empty ++ before (λ k. going_drivers (shown_at l.from l.made.valids.items k) None l.empty) l.output
