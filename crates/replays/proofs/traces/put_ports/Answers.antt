use Rattle.std.proofs.Common.{◌≡◌, ℕ, ◌<◌, List, ◌++◌, refl, length, slice_get, Some, string_bytes, ap, ◌∙◌, sym, append-nil}
use Rattle.std.proofs.lemmas.Option.{slice_get_read}
use Rattle.netlist.specs.Netlists.{Netlist}
use Rattle.cycle_sim.specs.Sims.{present}
use Rattle.replays.proofs.TextLemmas.{written_more, ports_step, input_text, output_width, output_told}
use Rattle.replays.proofs.traces.put_ports.Goals as goal
use Rattle.replays.proofs.traces.put_ports.Goals.{then-port+in_ok-put_value, else-port}

pub output-requires-clause-port_is : goal.output-requires-clause-port_is
output-requires-clause-port_is c =
    let ports = c.args.sim.now.netlist.ports in
    let same : c.ports-port-items.result.now ≡ ports = c.ports-port-items.ensures ∙ ap (λ (b : Netlist). b.ports) c.module-module.ensures in
    let inside : c.loop-k.k < length ports = rw same at c.loop-k-test.true in
    let read = rw same at c.port-item.is in
    let is : slice_get ports c.loop-k.k ≡ Some c.port-item.result = slice_get_read ports _ c.loop-k.k c.port-item.result refl inside read in
    (c.port-item.result.width, record { port = c.port-item.result; is = is; output = c.if-port.true; width = refl })

pub loop-k-preserved : goal.loop-k-preserved
loop-k-preserved c =
    let netlist = c.args.sim.now.netlist in
    let cycle = present c.args.sim.now in
    let k = c.loop-k.k in
    let port = c.port-item.result in
    let same : c.ports-port-items.result.now ≡ netlist.ports = c.ports-port-items.ensures ∙ ap (λ (b : Netlist). b.ports) c.module-module.ensures in
    let inside : k < length netlist.ports = rw same at c.loop-k-test.true in
    let read = rw same at c.port-item.is in
    let is : slice_get netlist.ports k ≡ Some port = slice_get_read netlist.ports _ k port refl inside read in
    let step = ports_step netlist cycle k port is in
    elim c.if-port.branch [
      | then-port+in_ok-put_value w ↦
          let told = output_told netlist cycle k port _ _ _ w.if-port.true w.as_str.ensures (output_width netlist.ports k _ port is w.output.ensures.width) w.output.ensures.bits in
          let added = ap (λ (t : List ℕ). string_bytes c.loop-k.text ++ t) told in
          written_more _ _ _ _ _ _ (ap string_bytes w.text-is ∙ w.in_ok-put_value.ensures ∙ added) step c.loop-k.invariant
      | else-port w ↦
          let none = input_text netlist cycle k port w.if-port.false in
          let added = ap (λ (t : List ℕ). string_bytes c.loop-k.text ++ t) (sym none) in
          written_more _ _ _ _ _ _ (ap string_bytes w.text-is ∙ sym (append-nil (string_bytes c.loop-k.text)) ∙ added) step c.loop-k.invariant
    ]
