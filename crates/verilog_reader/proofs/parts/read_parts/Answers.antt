use Rattle.std.proofs.Common.{◌-◌, ◌≤◌, ◌^◌, List, length, sym, ap, ◌∙◌, arith}
use Rattle.netlist.specs.declared.line.Memory.{Memory}
use Rattle.netlist.specs.declared.line.PortLine.{PortLine}
use Rattle.netlist.specs.Netlists.{started}
use Rattle.verilog_reader.specs.declared.spot.Spot.TheVariants.{At}
use Rattle.verilog_forms.specs.WholeTexts.{inputs_form, nets_form}
use Rattle.verilog_reader.specs.Spots.{found}
use Rattle.verilog_reader.specs.Faults.{with_parts}
use Rattle.verilog_reader.proofs.Whole.{module_found}
use Rattle.verilog_reader.proofs.parts.read_parts.Goals as goal

pub returns : goal.returns
returns c =
    let text = c.args.bytes.now in
    let header = started c.in_ok-header.header.name c.in_ok-header.header.ports in
    let memories = c.in_ok-stored.stored.items in
    let inputs = c.in_ok-lines.lines.items in
    let lines = c.read_nets.new.lines.items in
    let one = with_parts header c.read_behind_nets.new.lines.items c.in_ok-drivers.drivers.items c.read_behind_nets.new.memories.items in
    let begun : 0 ≤ length text = omega arith in
    let feeds = ap (λ (ps : List PortLine). found (inputs_form 0 0 ps) text c.in_ok-stored.declared) (sym c.as_slice.ensures) ∙ c.in_ok-lines.ensures.read in
    let nets = ap (λ (ms : List Memory). found (nets_form (2 ^ 20 - length inputs) ms inputs) text c.in_ok-lines.fed) (sym c.as_slice-2.ensures.value) ∙ c.in_ok-netted.ensures.read in
    module_found header one memories inputs lines text (At 0) c.in_ok-header.headed c.in_ok-stored.declared c.in_ok-lines.fed c.in_ok-netted.netted c.in_ok-drivers.end
    begun c.in_ok-header.ensures.within c.in_ok-stored.ensures.within c.in_ok-lines.ensures.within c.in_ok-netted.ensures.within
    c.in_ok-header.ensures.read c.in_ok-stored.ensures.read feeds nets (c.in_ok-drivers.ensures.read header (sym c.as_slice-3.ensures))
