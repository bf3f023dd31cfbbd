use Rattle.std.proofs.Common.{ℕ, List, ◌==◌, length, sym, ap, ◌∙◌}
use Rattle.std.proofs.lemmas.Result.{err_from_is_err_and}
use Rattle.vcd_reader.specs.Found.{Found}
use Rattle.vcd_reader.proofs.HeaderSteps.{code_breaks, blank_breaks, name_breaks, end_breaks, port_told}
use Rattle.vcd_reader.proofs.ValueSteps.{next_port}
use Rattle.vcd_reader.proofs.header.port_line.Goals as goal

pub returns-in_err-code-clause-read : goal.returns-in_err-code-clause-read
returns-in_err-code-clause-read c = λ ports is named. (
    let p = err_from_is_err_and c.from_residual-in_err-code.result c.from_residual-in_err-code.ensures.1 in rw (p.1, p.2) (code_breaks ports c.args.reader.now c.fixed.new.self c.number.new.self c.fixed-2.new.self c.code.new.self c.in_ok-width.width c.in_err-code.field-0.0 c.in_ok-fixed.ensures c.in_ok-width.ensures.read c.in_ok-fixed-2.ensures
    (c.in_err-code.ensures.read (λ k. k == length ports) (next_port c.args.number (length ports) is))))

pub returns-in_err-fixed-3-clause-read : goal.returns-in_err-fixed-3-clause-read
returns-in_err-fixed-3-clause-read c = λ ports is named. (
    let p = err_from_is_err_and c.from_residual-in_err-fixed-3.result c.from_residual-in_err-fixed-3.ensures.1 in rw (p.1, p.2) (blank_breaks ports c.args.reader.now c.fixed.new.self c.number.new.self c.fixed-2.new.self c.code.new.self c.fixed-3.new.self c.in_ok-width.width c.in_ok-code.field-0 c.in_err-fixed-3.field-0.0 c.in_ok-fixed.ensures c.in_ok-width.ensures.read c.in_ok-fixed-2.ensures
    (c.in_ok-code.ensures.read (λ k. k == length ports) (next_port c.args.number (length ports) is)) c.in_err-fixed-3.ensures))

pub returns-in_err-name-clause-read : goal.returns-in_err-name-clause-read
returns-in_err-name-clause-read c = λ ports is named. (
    let p = err_from_is_err_and c.from_residual-in_err-name.result c.from_residual-in_err-name.ensures.1 in rw (p.1, p.2) (name_breaks ports c.args.reader.now c.fixed.new.self c.number.new.self c.fixed-2.new.self c.code.new.self c.fixed-3.new.self c.port_name.new.self c.in_ok-width.width c.in_ok-code.field-0 c.in_err-name.field-0.0 c.in_ok-fixed.ensures c.in_ok-width.ensures.read c.in_ok-fixed-2.ensures
    (c.in_ok-code.ensures.read (λ k. k == length ports) (next_port c.args.number (length ports) is)) c.in_ok-fixed-3.ensures (c.in_err-name.ensures ports named)))

pub returns-in_err-fixed-4-clause-read : goal.returns-in_err-fixed-4-clause-read
returns-in_err-fixed-4-clause-read c = λ ports is named. (
    let p = err_from_is_err_and c.from_residual-in_err-fixed-4.result c.from_residual-in_err-fixed-4.ensures.1 in rw (p.1, p.2) (end_breaks ports c.args.reader.now c.fixed.new.self c.number.new.self c.fixed-2.new.self c.code.new.self c.fixed-3.new.self c.port_name.new.self c.fixed-4.new.self c.in_ok-width.width c.in_ok-code.field-0 c.in_ok-name.name.now c.in_err-fixed-4.field-0.0
    c.in_ok-fixed.ensures c.in_ok-width.ensures.read c.in_ok-fixed-2.ensures (c.in_ok-code.ensures.read (λ k. k == length ports) (next_port c.args.number (length ports) is)) c.in_ok-fixed-3.ensures (c.in_ok-name.ensures ports named) c.in_err-fixed-4.ensures))

pub returns-clause-read : goal.returns-clause-read
returns-clause-read c = λ ports is named. (
    port_told ports c.args.reader.now c.fixed.new.self c.number.new.self c.fixed-2.new.self c.code.new.self c.fixed-3.new.self c.port_name.new.self c.fixed-4.new.self c.in_ok-width.width c.in_ok-code.field-0 c.in_ok-name.name.now c.in_ok-fixed.ensures c.in_ok-width.ensures.read c.in_ok-fixed-2.ensures (c.in_ok-code.ensures.read (λ k. k == length ports) (next_port c.args.number (length ports) is)) c.in_ok-fixed-3.ensures
    (c.in_ok-name.ensures ports named) c.in_ok-fixed-4.ensures
    ∙ ap (λ (name : List ℕ). Found.told (record { name = name; width = c.in_ok-width.width }) c.fixed-4.new.self) (sym c.in_ok-copy.ensures))

pub returns-clause-named : goal.returns-clause-named
returns-clause-named c = λ ports named. c.in_ok-add_name.ensures ports _ (sym c.in_ok-copy.ensures) named
