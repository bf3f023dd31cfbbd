use Rattle.std.proofs.Common.{List, length, sym, ap, subst, ◌∙◌, arith}
use Rattle.std.proofs.lemmas.Result.{err_from_is_err_and}
use Rattle.av_base.specs.Word.{Word}
use Rattle.vcd_text.specs.Dumps.{widths_of}
use Rattle.vcd_reader.specs.Readings.{row_lines}
use Rattle.vcd_reader.specs.Reads.{begun, later_row}
use Rattle.vcd_reader.specs.Walks.{IsUnder}
use Rattle.vcd_reader.proofs.HeaderSteps.{stop_on}
use Rattle.vcd_reader.proofs.RowSteps.{begun_under, begun_breaks, moved_under, moved_breaks, next_under, ended_under, written_back}
use Rattle.vcd_reader.proofs.rows.row_lines.Goals as goal

pub returns-in_err-row-clause-stop : goal.returns-in_err-row-clause-stop
returns-in_err-row-clause-stop c =
    let widths = widths_of c.args.ports.now in
    let text = c.args.reader.now in
    let rest = c.begin.new.reader in
    let p = err_from_is_err_and c.from_residual.result c.from_residual.ensures.1 in rw (p.1, p.2) (stop_on (begun widths text) (row_lines widths text) rest c.in_err-row.field-0.0 (λ rule e. begun_breaks widths text rest rule e) c.in_err-row.ensures.stop)

pub times-init : goal.times-init
times-init c =
    let widths = widths_of c.args.ports.now in
    let text = c.args.reader.now in
    let within = c.in_ok-row.ensures.within in
    let time = c.in_ok-row.time in
    let row = c.in_ok-row.row.items in
    record {
      each = c.in_ok-row.ensures.count;
      small = within.1;
      under = next_under widths (row_lines widths text) 0 time time row c.begin.new.reader (omega arith) (begun_under widths text time row c.begin.new.reader within.0 c.in_ok-row.ensures.read);
    }

pub returns-in_err-time-clause-stop : goal.returns-in_err-time-clause-stop
returns-in_err-time-clause-stop c =
    let widths = widths_of c.args.ports.now in
    let found = row_lines widths c.args.reader.now in
    let time = c.times.time in
    let line = ap (λ (r : List Word). later_row widths time r c.times.reader) (sym c.as_mut_slice.ensures.value) ∙ c.in_err-time.ensures.read in
    let p = err_from_is_err_and c.from_residual-in_err-time.result c.from_residual-in_err-time.ensures.1 in rw (p.1, p.2)
    (moved_breaks widths found time time c.times.row.items c.times.reader c.later_row.new.reader c.in_err-time.field-0.0 c.times.invariant.under (sym c.is_empty.ensures ∙ c.times-test.true) line)

pub times-preserved : goal.times-preserved
times-preserved c =
    let widths = widths_of c.args.ports.now in
    let found = row_lines widths c.args.reader.now in
    let time = c.times.time in
    let later = c.in_ok-time.time in
    let row = c.times.row.items in
    let now = c.later_row.new.row in
    let rest = c.later_row.new.reader in
    let within = c.in_ok-time.ensures.within in
    let line = ap (λ (r : List Word). later_row widths time r c.times.reader) (sym c.as_mut_slice.ensures.value) ∙ c.in_ok-time.ensures.read in
    let under = moved_under widths found time time later row now c.times.reader rest c.times.invariant.under within.0 (sym c.is_empty.ensures ∙ c.times-test.true) line in
    let whole = written_back now row c.times.row.len (omega arith) (omega arith) in
    record {
      each = ap length whole ∙ omega arith;
      small = within.1;
      under = subst (λ (r : List Word). IsUnder widths found later later r rest) (sym whole) (next_under widths found time later later now rest (omega arith) under);
    }

pub returns-clause-read : goal.returns-clause-read
returns-clause-read c =
    let widths = widths_of c.args.ports.now in
    ended_under widths (row_lines widths c.args.reader.now) c.times.time c.times.time c.times.row.items c.times.reader c.times.invariant.under (sym c.is_empty.ensures ∙ c.times-test.false)
