use Rattle.std.proofs.Common.{◌≡◌, ◌-◌, ◌<◌, ◌^◌, ◌||◌, Bool, true, cond, List, [], ◌∷◌, ◌++◌, length, sym, ap, subst, ◌∙◌, arith, length-append}
use Rattle.std.specs.Prelude.{All}
use Rattle.std.proofs.lemmas.List.Elements.{All-push}
use Rattle.netlist.specs.declared.line.Line.{Line}
use Rattle.verilog_forms.specs.Forms.{Form}
use Rattle.verilog_reader.specs.Spots.{found, ahead_of}
use Rattle.verilog_forms.specs.WireLines.{wire_form}
use Rattle.verilog_forms.specs.RegisterLines.{register_form}
use Rattle.verilog_forms.specs.WholeTexts.{is_wire_line, is_reg_line, is_net_line, nets_form}
use Rattle.verilog_reader.specs.Sections.{HasBits}
use Rattle.verilog_reader.proofs.NetSteps.{nets_end, nets_full, nets_on, one_less, either_last}
use Rattle.verilog_reader.proofs.net_lines.read_nets.Goals as goal
use Rattle.verilog_reader.proofs.net_lines.read_nets.Goals.{else-not-is_wire-via-then-not-is_wire+else-not-begins_line, else-not-is_wire-via-else-not-is_wire}

pub returns-then-not-begins_line-clause-read : goal.returns-then-not-begins_line-clause-read
returns-then-not-begins_line-clause-read c =
    let lines = c.nets.lines.items in
    sym c.nets.invariant.goes_on
    ∙ nets_end (2 ^ 20 - length lines) c.args.memories.now lines c.args.bytes.now c.nets.at (sym c.begins_line-is_wire.ensures ∙ c.if-not-is_wire.true) (sym c.begins_line.ensures ∙ c.if-not-begins_line.true)

pub returns-then-len-ge-MOST_NETS-clause-read : goal.returns-then-len-ge-MOST_NETS-clause-read
returns-then-len-ge-MOST_NETS-clause-read c =
    let lines = c.nets.lines.items in
    let text = ahead_of c.args.bytes.now c.nets.at in
    let none : 2 ^ 20 - length lines ≡ 0 = omega (arith, c.len.ensures) in
    let net : is_net_line text ≡ true = elim c.else-not-is_wire.branch [
      | else-not-is_wire-via-then-not-is_wire+else-not-begins_line w ↦ either_last (is_wire_line text) (is_reg_line text) (sym w.begins_line.ensures ∙ w.if-not-begins_line.false)
      | else-not-is_wire-via-else-not-is_wire w ↦ ap (λ (b : Bool). b || is_reg_line text) (sym c.begins_line-is_wire.ensures ∙ w.if-not-is_wire.false)
    ] in
    sym c.nets.invariant.goes_on ∙ nets_full (2 ^ 20 - length lines) c.args.memories.now lines c.args.bytes.now c.nets.at c.refuse.result none net c.refuse.ensures

pub nets-preserved : goal.nets-preserved
nets-preserved c =
    let lines = c.nets.lines.items in
    let memories = c.args.memories.now in
    let bytes = c.args.bytes.now in
    let at = c.nets.at in
    let line = c.net_line-line.result.0 in
    let behind = c.net_line-line.result.1 in
    let wire = c.begins_line-is_wire.result in
    let text = ahead_of bytes at in
    let net : is_net_line text ≡ true = elim c.else-not-is_wire.branch [
      | else-not-is_wire-via-then-not-is_wire+else-not-begins_line w ↦ either_last (is_wire_line text) (is_reg_line text) (sym w.begins_line.ensures ∙ w.if-not-begins_line.false)
      | else-not-is_wire-via-else-not-is_wire w ↦ ap (λ (b : Bool). b || is_reg_line text) (sym c.begins_line-is_wire.ensures ∙ w.if-not-is_wire.false)
    ] in
    let room : length lines < 2 ^ 20 = omega (arith, c.len.ensures) in
    let read = subst (λ (ls : List Line). found (cond wire (wire_form memories ls (length ls)) (register_form (length ls))) bytes at ≡ found (Form.whole line) bytes behind) c.as_slice.ensures.value c.net_line-line.ensures.read in
    let on = nets_on (2 ^ 20 - length lines) (2 ^ 20 - length (lines ++ line ∷ [])) memories lines line bytes at behind wire (one_less lines line room) (sym c.begins_line-is_wire.ensures) net c.nets.invariant.within c.net_line-line.ensures.within read in
    let grown = c.in_ok-push.ensures.items in
    record {
      within = c.net_line-line.ensures.within;
      few = omega (arith, ap (λ (ls : List Line). length ls) grown, length-append lines (line ∷ []), room);
      widths = subst (All HasBits) (sym grown) (All-push HasBits lines line c.nets.invariant.widths c.net_line-line.ensures.bits);
      goes_on = ap (λ (ls : List Line). found (nets_form (2 ^ 20 - length ls) memories ls) bytes behind) grown ∙ sym on ∙ c.nets.invariant.goes_on;
    }
