use Rattle.std.proofs.Common.{◌≡◌, ℕ, List, OnOk, ◌++◌, string_bytes, true, false, subst, sym, ◌∙◌}
use Rattle.netlist.specs.Netlists.{is_register}
use Rattle.verilog_writer.proofs.TextLemmas.{line_here, net_line-register, net_line-wire}
use Rattle.verilog_writer.proofs.put_net.Goals as goal

pub put_register-requires : goal.put_register-requires
put_register-requires c = (c.requires.whole.well_made.lines _ _ (c.equation-equation.ensures c.width-width.result c.width-width.ensures)).some_bit

pub put_wire-requires-clause-some_bit : goal.put_wire-requires-clause-some_bit
put_wire-requires-clause-some_bit c = (c.requires.whole.well_made.lines _ _ (c.equation-equation.ensures c.width-width.result c.width-width.ensures)).some_bit

pub put_wire-requires-clause-sound : goal.put_wire-requires-clause-sound
put_wire-requires-clause-sound c = (c.args.net, c.width-width.result, (c.requires.whole.well_made.lines _ _ (c.equation-equation.ensures c.width-width.result c.width-width.ensures)).equation)

pub returns-then-is_register : goal.returns-then-is_register
returns-then-is_register c line at =
    let is = line_here c.args.module.now c.args.net c.width-width.result c.equation-equation.result line c.width-width.ensures c.equation-equation.ensures at in
    let register : is_register c.equation-equation.result ≡ true = sym c.is_register.ensures ∙ c.if-is_register.true in
    let text = net_line-register c.args.module.now.ports c.args.net c.width-width.result c.equation-equation.result line is register in
    subst (λ (t : List ℕ). OnOk c.put_register.result (string_bytes c.put_register.new.text ≡ string_bytes c.args.text.now ++ t)) (sym text) c.put_register.ensures

pub returns-else-is_register : goal.returns-else-is_register
returns-else-is_register c line at =
    let is = line_here c.args.module.now c.args.net c.width-width.result c.equation-equation.result line c.width-width.ensures c.equation-equation.ensures at in
    let wire : is_register c.equation-equation.result ≡ false = sym c.is_register.ensures ∙ c.if-is_register.false in
    let text = net_line-wire c.args.module.now.ports c.args.net c.width-width.result c.equation-equation.result line is wire in
    subst (λ (t : List ℕ). OnOk c.put_wire.result (string_bytes c.put_wire.new.text ≡ string_bytes c.args.text.now ++ t)) (sym text) c.put_wire.ensures
