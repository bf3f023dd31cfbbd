use Rattle.std.proofs.Common.{◌≡◌, false, get_or}
use Rattle.histories.specs.History.{before}
use Rattle.routed_modules.specs.Drivers.{coming_drivers}
use Rattle.routed_modules.proofs.mux.mux_drivers.Given as goal

abbrev pub invariant-loop-input : goal.invariant-loop-input
invariant-loop-input l = l.drivers.items ≡ before (λ i. coming_drivers (get_or l.made.readies.items i l.made.channel) false l.empty) l.input
