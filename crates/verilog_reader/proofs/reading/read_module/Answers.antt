use Rattle.std.proofs.Common.{inl, sym, ap, subst, ◌∙◌}
use Rattle.verilog_writer.specs.Text.{text_of}
use Rattle.verilog_forms.specs.Forms.{Form}
use Rattle.verilog_reader.specs.Spots.{found}
use Rattle.verilog_reader.specs.Faults.{IsTextFault, netlist_of}
use Rattle.verilog_reader.proofs.Whole.{good_whole, breaks_whole, fault_told, same_fault, no_fault}
use Rattle.verilog_reader.proofs.reading.read_module.Goals as goal

pub of_parts-requires : goal.of_parts-requires
of_parts-requires c =
    let bytes = c.args.bytes.now in
    let one = netlist_of c.in_ok-read.read in
    (good_whole c.reads_whole_texts.ensures.sound bytes one c.in-At.field-0 (c.in_ok-read.ensures ∙ ap (found (Form.whole one) bytes) c.in-At.is)).0

pub returns-in-At-clause-text : goal.returns-in-At-clause-text
returns-in-At-clause-text c =
    let bytes = c.args.bytes.now in
    let one = netlist_of c.in_ok-read.read in
    let good = good_whole c.reads_whole_texts.ensures.sound bytes one c.in-At.field-0 (c.in_ok-read.ensures ∙ ap (found (Form.whole one) bytes) c.in-At.is) in
    good.1 ∙ ap text_of (sym c.of_parts.ensures.same)

pub returns-in-At-clause-only : goal.returns-in-At-clause-only
returns-in-At-clause-only c other is at =
    let bytes = c.args.bytes.now in
    let one = netlist_of c.in_ok-read.read in
    let good = good_whole c.reads_whole_texts.ensures.sound bytes one c.in-At.field-0 (c.in_ok-read.ensures ∙ ap (found (Form.whole one) bytes) c.in-At.is) in
    c.of_parts.ensures.same ∙ c.no_two_modules.ensures one other good.0 is (sym good.1 ∙ at)

pub returns-in-At-clause-refused : goal.returns-in-At-clause-refused
returns-in-At-clause-refused c at rule f =
    let bytes = c.args.bytes.now in
    let one = netlist_of c.in_ok-read.read in
    let good = good_whole c.reads_whole_texts.ensures.sound bytes one c.in-At.field-0 (c.in_ok-read.ensures ∙ ap (found (Form.whole one) bytes) c.in-At.is) in
    no_fault c.reads_whole_texts.ensures.read bytes one at rule good.0 good.1 f

pub returns-in-Flawed-clause-only : goal.returns-in-Flawed-clause-only
returns-in-Flawed-clause-only c other is at =
    let bytes = c.args.bytes.now in
    let one = netlist_of c.in_ok-read.read in
    let breaks = breaks_whole bytes one c.in-Flawed.at c.in-Flawed.rule (c.in_ok-read.ensures ∙ ap (found (Form.whole one) bytes) c.in-Flawed.is) in
    absurd (no_fault c.reads_whole_texts.ensures.read bytes other c.in-Flawed.at c.in-Flawed.rule is at breaks)

pub returns-in-Flawed-clause-fault : goal.returns-in-Flawed-clause-fault
returns-in-Flawed-clause-fault c =
    let bytes = c.args.bytes.now in
    let one = netlist_of c.in_ok-read.read in
    let breaks = breaks_whole bytes one c.in-Flawed.at c.in-Flawed.rule (c.in_ok-read.ensures ∙ ap (found (Form.whole one) bytes) c.in-Flawed.is) in
    subst (IsTextFault bytes) (sym c.fault_of.ensures) (fault_told bytes c.in-Flawed.at c.in-Flawed.rule breaks)

pub returns-in-Flawed-clause-refused : goal.returns-in-Flawed-clause-refused
returns-in-Flawed-clause-refused c at rule f =
    let bytes = c.args.bytes.now in
    let one = netlist_of c.in_ok-read.read in
    let breaks = breaks_whole bytes one c.in-Flawed.at c.in-Flawed.rule (c.in_ok-read.ensures ∙ ap (found (Form.whole one) bytes) c.in-Flawed.is) in
    inl (c.fault_of.ensures ∙ same_fault bytes c.in-Flawed.at at c.in-Flawed.rule rule breaks f)
