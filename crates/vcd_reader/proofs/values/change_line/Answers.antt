use Rattle.std.proofs.Common.{ℕ, List, ◌&&◌, not, true, length, sym, ap, ◌∙◌, arith}
use Rattle.std.specs.Prelude.{nat_lt}
use Rattle.std.proofs.lemmas.Result.{err_from_is_err_and}
use Rattle.std.proofs.lemmas.List.{get_or_read}
use Rattle.av_base.specs.Word.{Word, word}
use Rattle.vcd_text.specs.Dumps.{widths_of}
use Rattle.vcd_reader.specs.Readings.{width_at, judged_value}
use Rattle.vcd_reader.specs.Reads.{found_by, changed}
use Rattle.vcd_reader.proofs.ValueSteps.{change_broken, change_told, later_ports}
use Rattle.vcd_reader.proofs.values.change_line.Goals as goal

pub returns-in_err-port-clause-read : goal.returns-in_err-port-clause-read
returns-in_err-port-clause-read c =
    let ports = c.args.ports.now in
    let next = c.args.next in
    let p = err_from_is_err_and c.from_residual.result c.from_residual.ensures.1 in rw (p.1, p.2) (change_broken ports next c.args.row.now c.args.reader.now c.spelled_line.new.reader c.in_err-port.field-0.0
    (c.in_err-port.ensures.read (width_at (widths_of ports)) (λ port. not (nat_lt port next) && nat_lt port (length (widths_of ports))) (later_ports ports next)))

pub returns-clause-read : goal.returns-clause-read
returns-clause-read c =
    let ports = c.args.ports.now in
    let next = c.args.next in
    let row = c.args.row.now in
    let port = c.in_ok-port.port in
    let within = c.in_ok-port.ensures.within in
    let here = get_or_read row port c.index-row-port.result (omega (arith, within.1, c.requires.each)) c.index-row-port.is (word 0 0) in
    change_told ports next row c.args.reader.now c.spelled_line.new.reader port c.in_ok-port.value (found_by c.judged.result c.judged.new.reader)
    (c.in_ok-port.ensures.read (width_at (widths_of ports)) (λ port. not (nat_lt port next) && nat_lt port (length (widths_of ports))) (later_ports ports next))
    (ap (λ (before : Word). judged_value (λ _ _. true) c.args.reader.now port c.spelled_line.new.reader (changed before c.in_ok-port.value)) (sym here)
    ∙ ap (judged_value (λ _ _. true) c.args.reader.now port c.spelled_line.new.reader) (sym c.changed.ensures)
    ∙ ap (λ (text : List ℕ). judged_value (λ _ _. true) text port c.spelled_line.new.reader c.changed.result) (sym c.rest-text.ensures) ∙ c.judged.ensures)
