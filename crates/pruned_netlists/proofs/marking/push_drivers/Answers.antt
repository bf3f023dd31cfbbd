use Rattle.std.proofs.Common.{◌≡◌, length, slice_get, Some, List, refl, subst}
use Rattle.std.proofs.lemmas.Option.{slice_get_read}
use Rattle.netlist.specs.declared.line.PortLine.{PortLine}
use Rattle.pruned_netlists.proofs.Keeping.{undriven_input}
use Rattle.pruned_netlists.proofs.Needs.{root_more, root_same}
use Rattle.pruned_netlists.proofs.marking.push_drivers.Goals as goal
use Rattle.pruned_netlists.proofs.marking.push_drivers.Goals.{then-port+in_ok-push, else-port}

pub driver-requires : goal.driver-requires
driver-requires c =
    let ports = c.ports-port-items.result.now in
    let at : slice_get c.ports-port-items.result.now c.loop-k.k ≡ Some c.port-item.result = slice_get_read c.ports-port-items.result.now (length c.ports-port-items.result.now) c.loop-k.k c.port-item.result refl c.loop-k-test.true c.port-item.is in (
      c.port-item.result.width,
      record {
        port = c.port-item.result;
        is = subst (λ (ps : List PortLine). slice_get ps c.loop-k.k ≡ Some c.port-item.result) c.ports-port-items.ensures at;
        output = c.if-port.true;
        width = refl;
      },
    )

pub loop-k-preserved : goal.loop-k-preserved
loop-k-preserved c =
    let at : slice_get c.ports-port-items.result.now c.loop-k.k ≡ Some c.port-item.result = slice_get_read c.ports-port-items.result.now (length c.ports-port-items.result.now) c.loop-k.k c.port-item.result refl c.loop-k-test.true c.port-item.is in
    let there = subst (λ (ps : List PortLine). slice_get ps c.loop-k.k ≡ Some c.port-item.result) c.ports-port-items.ensures at in
    elim c.if-port.branch [
      | then-port+in_ok-push w ↦ rw (w.pending-is, w.in_ok-push.ensures.items) (root_more c.args.module.now c.loop-k.k w.driver.result c.loop-k.pending.items c.loop-k.invariant w.driver.ensures.driver)
      | else-port w ↦ rw w.pending-is (root_same c.args.module.now c.loop-k.k c.loop-k.pending.items c.loop-k.invariant
          (λ n e. undriven_input c.args.module.now c.loop-k.k n c.port-item.result c.well_made.ensures.well_made there w.if-port.false e))
    ]
