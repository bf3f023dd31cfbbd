use Rattle.std.proofs.Common.{◌≡◌, List, length, slice_get, Some, None, refl, ap, sym, subst, ◌∙◌}
use Rattle.std.specs.Prelude.{option_map}
use Rattle.std.proofs.lemmas.Option.{slice_get_read}
use Rattle.netlist.specs.declared.line.PortLine.{PortLine}
use Rattle.netlist.specs.Netlists.{driver_of}
use Rattle.pruned_netlists.specs.Numbers.{place}
use Rattle.pruned_netlists.proofs.Keeping.{drivers_more, undriven_input, none_driven}
use Rattle.pruned_netlists.proofs.copies.moved_drivers.Goals as goal
use Rattle.pruned_netlists.proofs.copies.moved_drivers.Goals.{then-port+in_ok-push, else-port+in_ok-push-2}

pub driver-driver-requires : goal.driver-driver-requires
driver-driver-requires c =
    let at : slice_get c.ports-port-items.result.now c.loop-k.k ≡ Some c.port-item.result = slice_get_read c.ports-port-items.result.now (length c.ports-port-items.result.now) c.loop-k.k c.port-item.result refl c.loop-k-test.true c.port-item.is in (
      c.port-item.result.width,
      record {
        port = c.port-item.result;
        is = subst (λ (ps : List PortLine). slice_get ps c.loop-k.k ≡ Some c.port-item.result) c.ports-port-items.ensures at;
        output = c.if-port.true;
        width = refl;
      },
    )

pub loop-k-preserved : goal.loop-k-preserved
loop-k-preserved c =
    let b = c.args.module.now in
    let marks = c.args.nets.now in
    let at : slice_get c.ports-port-items.result.now c.loop-k.k ≡ Some c.port-item.result = slice_get_read c.ports-port-items.result.now (length c.ports-port-items.result.now) c.loop-k.k c.port-item.result refl c.loop-k-test.true c.port-item.is in
    let there = subst (λ (ps : List PortLine). slice_get ps c.loop-k.k ≡ Some c.port-item.result) c.ports-port-items.ensures at in
    elim c.if-port.branch [
      | then-port+in_ok-push w ↦ rw (w.drivers-is, w.in_ok-push.ensures.items) (drivers_more b marks c.loop-k.k c.loop-k.drivers.items (Some w.place.result) c.loop-k.invariant
          (ap Some w.place.ensures ∙ sym (ap (option_map (place marks)) w.driver-driver.ensures.driver)))
      | else-port+in_ok-push-2 w ↦ rw (w.drivers-is, w.in_ok-push-2.ensures.items) (drivers_more b marks c.loop-k.k c.loop-k.drivers.items None c.loop-k.invariant
          (sym (ap (option_map (place marks)) (none_driven (driver_of b c.loop-k.k) (λ n e. undriven_input b c.loop-k.k n c.port-item.result c.well_made.ensures.well_made there w.if-port.false e)))))
    ]
