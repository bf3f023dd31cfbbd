use Rattle.std.proofs.Common.{ℕ, List, subst}
use Rattle.vcd_text.specs.Dumps.{widths_of}
use Rattle.vcd_reader.specs.Readings.{row_lines}
use Rattle.vcd_reader.specs.Walks.{IsUnder}
use Rattle.vcd_reader.proofs.RowSteps.{begun_under}
use Rattle.vcd_reader.proofs.rows.Rows.new.Goals as goal

pub invariant_of-result : goal.invariant_of-result
invariant_of-result c =
    let widths = widths_of c.args.ports.now in
    let within = c.in-Ok.ensures.within in
    record {
      bits = c.requires.bits;
      few = c.requires.few;
      each = c.in-Ok.ensures.count;
      small = within.1;
      within = within.0;
      told = c.requires.read.1.told;
      under = subst (λ (text : List ℕ). IsUnder widths (row_lines widths text) 0 c.in-Ok.until c.in-Ok.row.items c.begin.new.reader) c.new-reader.ensures
          (begun_under widths c.new-reader.result c.in-Ok.until c.in-Ok.row.items c.begin.new.reader within.0 c.in-Ok.ensures.read);
    }
