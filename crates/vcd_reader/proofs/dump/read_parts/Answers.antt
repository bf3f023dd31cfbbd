use Rattle.std.proofs.Common.{[], suc, codes, length, arith}
use Rattle.std.proofs.lemmas.Result.{err_from_is_err_and}
use Rattle.vcd_reader.specs.declared.rule.Rule.TheVariants.{Name}
use Rattle.vcd_reader.specs.Spellings.{is_of_name, module_name_in}
use Rattle.vcd_reader.specs.Readings.{port_lines, dump_read}
use Rattle.vcd_reader.proofs.HeaderSteps.{shorter_fixed, shorter_hole, stop_on, first_words, scope_breaks, module_breaks, scope_end_breaks, ports_break, header_breaks}
use Rattle.vcd_reader.proofs.dump.read_parts.Goals as goal

pub port_lines-requires : goal.port_lines-requires
port_lines-requires c =
    let one = shorter_fixed first_words c.args.reader.now c.fixed.new.self tt c.in_ok-fixed.ensures in
    let two = shorter_hole is_of_name Name module_name_in c.fixed.new.self c.in_ok-module_name.field-0.now c.module_name.new.self c.in_ok-module_name.ensures in
    let three = shorter_fixed (codes " $end\n") c.module_name.new.self c.fixed-2.new.self tt c.in_ok-fixed-2.ensures in
    omega (arith, c.requires)

pub returns-in_err-fixed-clause-stop : goal.returns-in_err-fixed-clause-stop
returns-in_err-fixed-clause-stop c = let p = err_from_is_err_and c.from_residual.result c.from_residual.ensures.1 in rw (p.1, p.2) (scope_breaks c.args.reader.now c.fixed.new.self c.in_err-fixed.field-0.0 c.in_err-fixed.ensures)

pub returns-in_err-module_name-clause-stop : goal.returns-in_err-module_name-clause-stop
returns-in_err-module_name-clause-stop c =
    let p = err_from_is_err_and c.from_residual-in_err-module_name.result c.from_residual-in_err-module_name.ensures.1 in rw (p.1, p.2) (module_breaks c.args.reader.now c.fixed.new.self c.module_name.new.self c.in_err-module_name.field-0.0 c.in_ok-fixed.ensures c.in_err-module_name.ensures)

pub returns-in_err-fixed-2-clause-stop : goal.returns-in_err-fixed-2-clause-stop
returns-in_err-fixed-2-clause-stop c =
    let p = err_from_is_err_and c.from_residual-in_err-fixed-2.result c.from_residual-in_err-fixed-2.ensures.1 in rw (p.1, p.2) (scope_end_breaks c.args.reader.now c.fixed.new.self c.module_name.new.self c.fixed-2.new.self c.in_ok-module_name.field-0.now c.in_err-fixed-2.field-0.0 c.in_ok-fixed.ensures c.in_ok-module_name.ensures
    c.in_err-fixed-2.ensures)

pub returns-in_err-ports-clause-stop : goal.returns-in_err-ports-clause-stop
returns-in_err-ports-clause-stop c =
    let d = c.fixed-2.new.self in
    let e = c.port_lines.new.reader in
    let p = err_from_is_err_and c.from_residual-in_err-ports.result c.from_residual-in_err-ports.ensures.1 in rw (p.1, p.2) (stop_on (port_lines (suc (length d)) [] d) (dump_read c.args.reader.now) e c.in_err-ports.field-0.0
    (λ rule h. ports_break c.args.reader.now c.fixed.new.self c.module_name.new.self d e c.in_ok-module_name.field-0.now rule c.in_ok-fixed.ensures c.in_ok-module_name.ensures c.in_ok-fixed-2.ensures h) c.in_err-ports.ensures.read)

pub returns-in_err-fixed-3-clause-stop : goal.returns-in_err-fixed-3-clause-stop
returns-in_err-fixed-3-clause-stop c =
    let p = err_from_is_err_and c.from_residual-in_err-fixed-3.result c.from_residual-in_err-fixed-3.ensures.1 in rw (p.1, p.2) (header_breaks c.args.reader.now c.fixed.new.self c.module_name.new.self c.fixed-2.new.self c.port_lines.new.reader c.fixed-3.new.self c.in_ok-module_name.field-0.now c.in_ok-ports.ports
    c.in_err-fixed-3.field-0.0 c.in_ok-fixed.ensures c.in_ok-module_name.ensures c.in_ok-fixed-2.ensures c.in_ok-ports.ensures.read c.in_err-fixed-3.ensures)
