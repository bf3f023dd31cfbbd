use Rattle.std.proofs.Common.{◌-◌, ◌/◌, ◌++◌, List, ℕ, length, append_assoc, length-append, sym, ap, ◌∙◌, arith}
use Rattle.vcd_text.specs.Text.{code}
use Rattle.vcd_text.specs.CodeLaws.{code_low, code_high, code_some}
use Rattle.vcd_text.proofs.part.Part.+put_code.Goals as goal

pub push-requires : goal.push-requires
push-requires t c = omega (arith, code_some c.args.port, c.requires)

pub put_code-requires : goal.put_code-requires
put_code-requires t c =
    let long = ap length c.push.ensures ∙ length-append c.args.self.now _ in
    let whole = ap length (code_high c.args.port c.if-port-ge94.true) in
    (omega (arith, c.decreases), omega (arith, long, whole, c.requires))

pub returns-then-port-ge94 : goal.returns-then-port-ge94
returns-then-port-ge94 t c =
    c.put_code.ensures ∙ ap (λ (bs : List ℕ). bs ++ code (c.args.port / 94 - 1)) c.push.ensures ∙ append_assoc c.args.self.now _ _
    ∙ ap (λ (bs : List ℕ). c.args.self.now ++ bs) (sym (code_high c.args.port c.if-port-ge94.true))

pub returns-else-port-ge94 : goal.returns-else-port-ge94
returns-else-port-ge94 t c = c.push.ensures ∙ ap (λ (bs : List ℕ). c.args.self.now ++ bs) (sym (code_low c.args.port c.if-port-ge94.false))
