use Rattle.std.proofs.Common.{suc, length, sym, ◌∙◌, arith}
use Rattle.std.proofs.lemmas.Result.{err_from_is_err_and}
use Rattle.std.proofs.lemmas.List.{length-map}
use Rattle.vcd_text.specs.declared.port.DumpPort.{DumpPort}
use Rattle.vcd_text.specs.Dumps.{widths_of}
use Rattle.vcd_reader.specs.Readings.{change_lines}
use Rattle.vcd_reader.proofs.ValueSteps.{first_taken, one_taken, taken_breaks, all_taken}
use Rattle.vcd_reader.proofs.values.take_changes.Goals as goal

pub changes-init : goal.changes-init
changes-init c =
    let within = c.in_ok-next.ensures.within in
    record {
      each = omega arith;
      within = within.1;
      taken = first_taken (widths_of c.args.ports.now) c.in_ok-next.next c.args.row.now c.take_change.new.row c.args.reader.now c.take_change.new.reader within.0 c.in_ok-next.ensures.read;
    }

pub changes-preserved : goal.changes-preserved
changes-preserved c =
    let ports = c.args.ports.now in
    let widths = widths_of ports in
    let all = change_lines (suc (length widths)) widths 0 c.args.row.now c.args.reader.now in
    let within = c.in_ok-next-2.ensures.within in
    let long = length-map ports (λ (port : DumpPort). port.width) in
    record {
      each = omega arith;
      within = within.1;
      taken = one_taken widths all c.changes.next c.in_ok-next-2.next c.changes.row c.take_change-in-changes.new.row c.changes.reader c.take_change-in-changes.new.reader (omega arith) within.0
          (sym c.begins.ensures ∙ c.changes-test.true) c.changes.invariant.taken c.in_ok-next-2.ensures.read;
    }

pub returns-in_err-next-2 : goal.returns-in_err-next-2
returns-in_err-next-2 c =
    let ports = c.args.ports.now in
    let widths = widths_of ports in
    let all = change_lines (suc (length widths)) widths 0 c.args.row.now c.args.reader.now in
    let long = length-map ports (λ (port : DumpPort). port.width) in
    let p = err_from_is_err_and c.from_residual-in_err-next-2.result c.from_residual-in_err-next-2.ensures.1 in rw (p.1, p.2) (taken_breaks widths all c.changes.next c.changes.row c.changes.reader c.take_change-in-changes.new.reader c.in_err-next-2.field-0.0 (omega arith)
    (sym c.begins.ensures ∙ c.changes-test.true) c.changes.invariant.taken c.in_err-next-2.ensures.read)

pub returns : goal.returns
returns c =
    let widths = widths_of c.args.ports.now in
    let all = change_lines (suc (length widths)) widths 0 c.args.row.now c.args.reader.now in
    all_taken widths all c.changes.next c.changes.row c.changes.reader (sym c.begins.ensures ∙ c.changes-test.false) c.changes.invariant.taken
