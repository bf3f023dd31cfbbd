use Rattle.std.proofs.Common.{◌≡◌, Bool, false, List, length, sym, ap, subst, ◌∙◌, arith}
use Rattle.netlist.specs.declared.line.PortLine.{PortLine}
use Rattle.verilog_reader.specs.Spots.{found}
use Rattle.verilog_forms.specs.WholeTexts.{all_driven_form, has_output, last_form}
use Rattle.verilog_reader.specs.ClockedParts.{SameWidths}
use Rattle.verilog_reader.specs.Faults.{with_parts}
use Rattle.verilog_reader.proofs.Whole.{behind_found}
use Rattle.verilog_reader.proofs.parts.read_behind_nets.Goals as goal

pub returns : goal.returns
returns c = record {
  read = λ header same. (
      let text = c.args.bytes.now in
      let memories = c.args.memories.now.items in
      let lines = c.args.lines.now.items in
      let clocked = c.read_clocked-clocked.new.lines.items in
      let stored = c.read_written-written.new.memories.items in
      let drivers = c.in_ok-drivers.drivers.items in
      let written = c.read_written-written.result in
      let driven = c.in_ok-drivers.driven in
      let one = with_parts header clocked drivers stored in
      let count : length memories ≡ c.len-count.result = omega (arith, c.len-count.ensures) in
      let widths = c.read_clocked-clocked.ensures.widths in
      let writes = c.read_written-written.ensures.read lines (subst (SameWidths lines) (sym c.as_slice.ensures.value) widths) in
      let drives = c.in_ok-drivers.ensures.read lines memories (subst (SameWidths lines) (sym c.as_slice-2.ensures.value) widths) count in
      let asked = ap (λ (ps : List PortLine). found (all_driven_form memories lines false ps) text written) same ∙ drives in
      let outputs : has_output header.ports ≡ c.has_output.result = ap has_output same ∙ sym c.has_output.ensures in
      let last = c.last_line-end.ensures.read lines memories one (subst (SameWidths lines) (sym c.as_slice-3.ensures.value) widths) count in
      let ends = ap (λ (b : Bool). found (last_form memories lines b one) text driven) outputs ∙ last in
      behind_found header memories stored lines clocked drivers text c.args.start c.read_clocked-clocked.result written driven c.last_line-end.result c.requires.within c.read_clocked-clocked.ensures.within
      c.read_written-written.ensures.within c.in_ok-drivers.ensures.within (c.read_clocked-clocked.ensures.read memories count) writes asked ends
      );
}
