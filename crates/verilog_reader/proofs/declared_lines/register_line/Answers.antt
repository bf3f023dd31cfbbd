use Rattle.std.proofs.Common.{ap, sym, subst, ◌∙◌, ◌≡◌, true, Option}
use Rattle.std.specs.Prelude.{IfSome}
use Rattle.av_base.specs.Word.{Word, word}
use Rattle.netlist.specs.declared.line.Equation.TheVariants.{Reg}
use Rattle.netlist.specs.Netlists.{line_with}
use Rattle.verilog_forms.specs.Forms.{Form}
use Rattle.verilog_reader.specs.Spots.{found}
use Rattle.verilog_reader.proofs.DeclaredSteps.{register_found}
use Rattle.verilog_reader.proofs.declared_lines.register_line.Goals as goal

pub returns-clause-read : goal.returns-clause-read
returns-clause-read c =
    let text = c.args.bytes.now in
    let n = c.args.net in
    let w = c.range-width.result.0 in
    let zero : c.unwrap.result ≡ word w 0 = subst (λ (o : Option Word). IfSome o (λ v. v ≡ word w 0)) c.unwrap.ensures c.new.ensures.value in
    register_found text n w c.args.spot c.fixed-begun.result c.range-width.result.1 c.fixed-blank.result c.named-behind.result c.fixed.result
    c.fixed-begun.ensures.fixed c.range-width.ensures.read c.fixed-blank.ensures.fixed c.named-behind.ensures.read c.fixed.ensures.fixed
    ∙ ap (λ (v : Word). found (Form.whole (line_with w (Reg v n) true)) text c.fixed.result) (sym zero)
