use Rattle.std.proofs.Common.{true, false, sym, ◌∙◌, codes}
use Rattle.verilog_forms.specs.declared.rule.Rule.TheVariants.{Name}
use Rattle.verilog_forms.specs.Forms.{Form, fixed}
use Rattle.verilog_reader.proofs.ClockedSteps.{none_clocked_found, late_name_found}
use Rattle.verilog_reader.proofs.clocked.late_line.Goals as goal

pub returns-then-clocked_next-clause-read : goal.returns-then-clocked_next-clause-read
returns-then-clocked_next-clause-read c = λ old all one same counted.
    none_clocked_found all old c.args.assigned (fixed (codes "ssign ") (Form.refuse Name)) one c.args.bytes.now c.args.spot c.fixed-begun.result c.other_clocked.result true c.fixed-begun.ensures.fixed (sym c.if-clocked_next.true ∙ c.clocked_next.ensures)
    (c.other_clocked.ensures.at_the_end old all one same counted)

pub returns-else-clocked_next-clause-read : goal.returns-else-clocked_next-clause-read
returns-else-clocked_next-clause-read c = λ old all one same counted.
    none_clocked_found all old c.args.assigned (fixed (codes "ssign ") (Form.refuse Name)) one c.args.bytes.now c.args.spot c.fixed-begun.result c.refuse.result false c.fixed-begun.ensures.fixed (sym c.if-clocked_next.false ∙ c.clocked_next.ensures)
    (late_name_found one c.args.bytes.now c.fixed-begun.result c.fixed-word.result c.refuse.result c.fixed-word.ensures.fixed c.refuse.ensures)
