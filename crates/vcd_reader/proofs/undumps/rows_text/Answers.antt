use Rattle.std.proofs.Common.{◌≡◌, List, ◌+◌, ◌<◌, ◌++◌, length, drop, slice_get, Some, string_bytes, sym, ap, ◌∙◌, arith}
use Rattle.av_base.specs.Word.{Word}
use Rattle.vcd_text.specs.declared.port.DumpPort.{DumpPort}
use Rattle.vcd_reader.specs.Undumps.{row_line, row_lines}
use Rattle.vcd_reader.proofs.undumps.Written.{written_more, rows_step, row_is_long}
use Rattle.vcd_reader.proofs.undumps.rows_text.Goals as goal

pub put_row-requires : goal.put_row-requires
put_row-requires c =
    let dump = c.args.dump.now in
    let k = c.rows.cycle in
    let count = c.cycles-cycles.ensures in
    let inside : k < length dump.rows = omega arith in
    let at = c.rows.invariant.at inside in
    let here : slice_get dump.rows k ≡ Some c.values.result.now =
    ap (λ (rows : List (List Word)). slice_get rows k) (sym c.rows.invariant.all) ∙ ap (slice_get c.rows.rows.rows) (sym at) ∙ c.values.ensures in
    row_is_long dump k c.values.result.now c.requires here ∙ ap length (sym c.ports.ensures)

pub rows-preserved : goal.rows-preserved
rows-preserved c =
    let dump = c.args.dump.now in
    let k = c.rows.cycle in
    let row = c.values.result.now in
    let count = c.cycles-cycles.ensures in
    let inside : k < length dump.rows = omega arith in
    let at = c.rows.invariant.at inside in
    let here : slice_get dump.rows k ≡ Some row =
    ap (λ (rows : List (List Word)). slice_get rows k) (sym c.rows.invariant.all) ∙ ap (slice_get c.rows.rows.rows) (sym at) ∙ c.values.ensures in
    let old = string_bytes c.rows.text in
    let added = c.in_ok-put_row.ensures ∙ ap (λ (ports : List DumpPort). old ++ row_line ports k row) c.ports.ensures in
    record {
      all = c.go_on.ensures.same ∙ c.rows.invariant.all;
      at = λ more. c.go_on.ensures.next (omega arith);
      goes_on = written_more old (string_bytes c.put_row.new.text) (row_line dump.ports k row) (row_lines dump.ports k (drop k dump.rows)) (row_lines dump.ports (k + 1) (drop (k + 1) dump.rows))
          (row_lines dump.ports 0 dump.rows) added (rows_step dump.ports dump.rows k row here) c.rows.invariant.goes_on;
    }
