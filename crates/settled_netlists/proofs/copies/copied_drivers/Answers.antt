use Rattle.std.proofs.Common.{◌≡◌, List, length, slice_get, Some, None, refl, ap, sym, subst, arith}
use Rattle.std.proofs.lemmas.Option.{slice_get_read}
use Rattle.netlist.specs.declared.line.PortLine.{PortLine}
use Rattle.netlist.specs.Netlists.{driver_of}
use Rattle.settled_netlists.proofs.Copying.{drivers_more, undriven_input, none_driven, all_drivers}
use Rattle.settled_netlists.proofs.copies.copied_drivers.Goals as goal
use Rattle.settled_netlists.proofs.copies.copied_drivers.Goals.{then-port+in_ok-push, else-port+in_ok-push-2}

pub driver-requires : goal.driver-requires
driver-requires c =
    let at : slice_get c.ports-port-items.result.now c.loop-k.k ≡ Some c.port-item.result = slice_get_read c.ports-port-items.result.now (length c.ports-port-items.result.now) c.loop-k.k c.port-item.result refl c.loop-k-test.true c.port-item.is in (
      c.port-item.result.width,
      record {
        port = c.port-item.result;
        is = subst (λ (ps : List PortLine). slice_get ps c.loop-k.k ≡ Some c.port-item.result) c.ports-port-items.ensures at;
        output = c.if-port.true;
        width = refl;
      },
    )

pub loop-k-preserved : goal.loop-k-preserved
loop-k-preserved c =
    let b = c.args.module.now in
    let at : slice_get c.ports-port-items.result.now c.loop-k.k ≡ Some c.port-item.result = slice_get_read c.ports-port-items.result.now (length c.ports-port-items.result.now) c.loop-k.k c.port-item.result refl c.loop-k-test.true c.port-item.is in
    let there = subst (λ (ps : List PortLine). slice_get ps c.loop-k.k ≡ Some c.port-item.result) c.ports-port-items.ensures at in
    elim c.if-port.branch [
      | then-port+in_ok-push w ↦ rw (w.drivers-is, w.in_ok-push.ensures.items) (drivers_more b c.loop-k.k c.loop-k.drivers.items (Some w.driver.result) c.loop-k.invariant (sym w.driver.ensures.driver))
      | else-port+in_ok-push-2 w ↦ rw (w.drivers-is, w.in_ok-push-2.ensures.items) (drivers_more b c.loop-k.k c.loop-k.drivers.items None c.loop-k.invariant
          (none_driven (driver_of b c.loop-k.k) (λ n e. undriven_input b c.loop-k.k n c.port-item.result c.well_made.ensures.well_made there w.if-port.false e)))
    ]

pub returns-clause-each : goal.returns-clause-each
returns-clause-each c k =
    let ports = ap (λ (ps : List PortLine). length ps) c.ports-port-items.ensures in
    all_drivers c.args.module.now c.loop-k.k k c.loop-k.drivers.items c.well_made.ensures.well_made (omega (arith, ports, c.loop-k-test.false, c.loop-k.auto.k-end)) c.loop-k.invariant
