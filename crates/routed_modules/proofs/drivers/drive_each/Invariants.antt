use Rattle.routed_modules.proofs.Driving.{AreDrivenTo}
use Rattle.routed_modules.proofs.drivers.drive_each.Given as goal

abbrev pub invariant-loop-port : goal.invariant-loop-port
invariant-loop-port l = AreDrivenTo l.port l.drivers l.fn.builder l.builder
