use Rattle.std.proofs.Common.{◌≡◌, ℕ, ◌<◌, List, codes, ◌++◌, refl, length, slice_get, get_or, Some, None, string_bytes, ap, ◌∙◌, sym, arith, append-nil}
use Rattle.std.proofs.lemmas.Option.{slice_get_read, slice_get-get_or}
use Rattle.verilog_writer.specs.Text.{assign_line, net_name}
use Rattle.verilog_writer.proofs.TextLemmas.{written_more, assigns_step, assign_input, assign_output}
use Rattle.verilog_writer.proofs.put_assigns.Goals as goal
use Rattle.verilog_writer.proofs.put_assigns.Goals.{then-port+in_ok-put_assign, else-port}

pub driver-requires : goal.driver-requires
driver-requires c =
    let ports = c.args.module.now.ports in
    let inside : c.loop-k.k < length ports = rw c.ports-port-items.ensures at c.loop-k-test.true in
    let read = rw c.ports-port-items.ensures at c.port-item.is in
    let is : slice_get ports c.loop-k.k ≡ Some c.port-item.result = slice_get_read ports _ c.loop-k.k c.port-item.result refl inside read in
    (c.port-item.result.width, record { port = c.port-item.result; is = is; output = c.if-port.true; width = refl })

pub loop-k-preserved : goal.loop-k-preserved
loop-k-preserved c =
    let ports = c.args.module.now.ports in
    let drivers = c.args.module.now.drivers in
    let k = c.loop-k.k in
    let port = c.port-item.result in
    let inside : k < length ports = rw c.ports-port-items.ensures at c.loop-k-test.true in
    let read = rw c.ports-port-items.ensures at c.port-item.is in
    let is : slice_get ports k ≡ Some port = slice_get_read ports _ k port refl inside read in
    let places : k < length drivers = omega (arith, c.requires.well_made.places) in
    let driven : slice_get drivers k ≡ Some (get_or drivers k None) = slice_get-get_or drivers k None places in
    let step = assigns_step ports drivers k port (get_or drivers k None) is driven in
    elim c.if-port.branch [
      | then-port+in_ok-put_assign w ↦
          let driver : get_or drivers k None ≡ Some w.driver.result = w.driver.ensures.driver in
          let line = ap (assign_line port) driver ∙ assign_output port w.driver.result w.if-port.true in
          let named = ap (λ (name : List ℕ). codes "  assign " ++ name ++ codes " = " ++ net_name w.driver.result ++ codes ";\n") w.as_str.ensures in
          let added = ap (λ t. string_bytes c.loop-k.text ++ t) (named ∙ sym line) in
          written_more _ _ _ _ _ _ (ap string_bytes w.text-is ∙ w.in_ok-put_assign.ensures ∙ added) step c.loop-k.invariant
      | else-port w ↦
          let none = assign_input port (get_or drivers k None) w.if-port.false in
          written_more _ _ _ _ _ _ (ap string_bytes w.text-is ∙ sym (append-nil (string_bytes c.loop-k.text)) ∙ ap (λ t. string_bytes c.loop-k.text ++ t) (sym none)) step c.loop-k.invariant
    ]
