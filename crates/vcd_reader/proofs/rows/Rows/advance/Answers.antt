use Rattle.std.proofs.Common.{◌≡◌, List, ◌+◌, ◌<◌, ◌≤◌, Ok, length, sym, ap, subst, ◌∙◌, arith}
use Rattle.std.proofs.lemmas.Result.{IfOk-at_ok}
use Rattle.av_base.specs.Word.{Word}
use Rattle.vcd_text.specs.Dumps.{widths_of}
use Rattle.vcd_reader.specs.Readings.{row_lines}
use Rattle.vcd_reader.specs.Reads.{rows_told, later_row, found_with}
use Rattle.vcd_reader.specs.Walks.{RowsValue, IsUnder}
use Rattle.vcd_reader.proofs.RowSteps.{walk_goes_on, moved_under, next_under, more_ahead, written_back}
use Rattle.vcd_reader.proofs.rows.Rows.advance.Goals as goal

pub unwrap-self-inside-requires : goal.unwrap-self-inside-requires
unwrap-self-inside-requires c =
    let in_ = c.self.inside in
    let is = c.self.invariant in
    let widths = widths_of in_.ports.now in
    let found = row_lines widths in_.text.now in
    let ahead : in_.cycle + 1 < length (rows_told found) = subst (λ (v : RowsValue). v.cycle + 1 < length v.rows) (sym c.self.view_is) c.requires in
    let line = ap (λ (r : List Word). later_row widths in_.until r in_.reader) (sym c.as_mut_slice.ensures.value) ∙ c.later_row.ensures.read in
    walk_goes_on widths found (rows_told found) in_.cycle in_.until in_.row.items c.later_row.new.row in_.reader c.later_row.new.reader c.later_row.result is.under is.told (omega arith) line

pub invariant_of-self : goal.invariant_of-self
invariant_of-self c =
    let in_ = c.self.inside in
    let is = c.self.invariant in
    let widths = widths_of in_.ports.now in
    let found = row_lines widths in_.text.now in
    let ahead : in_.cycle + 1 < length (rows_told found) = subst (λ (v : RowsValue). v.cycle + 1 < length v.rows) (sym c.self.view_is) c.requires in
    let later = c.unwrap-self-inside.result in
    let here : c.later_row.result ≡ Ok later = c.unwrap-self-inside.ensures in
    let within = IfOk-at_ok (λ later. (in_.until < later) × (later ≤ 65536)) here c.later_row.ensures.within in
    let line = ap (λ (r : List Word). later_row widths in_.until r in_.reader) (sym c.as_mut_slice.ensures.value) ∙ c.later_row.ensures.read ∙ ap (λ r. found_with c.later_row.new.row r c.later_row.new.reader) here in
    let there = more_ahead widths found (rows_told found) in_.cycle in_.until in_.row.items in_.reader is.under is.told (omega arith) in
    let under = moved_under widths found in_.cycle in_.until later in_.row.items c.later_row.new.row in_.reader c.later_row.new.reader is.under within.0 there line in
    let whole = written_back c.later_row.new.row in_.row.items in_.row.len (omega arith) (omega arith) in
    record {
      bits = is.bits;
      few = is.few;
      each = ap length whole ∙ omega arith;
      small = within.1;
      within = omega arith;
      told = is.told;
      under = subst (λ (r : List Word). IsUnder widths found (in_.cycle + 1) later r c.later_row.new.reader) (sym whole)
          (next_under widths found in_.until (in_.cycle + 1) later c.later_row.new.row c.later_row.new.reader (omega arith) under);
    }
