-- What the lines of nets find, line after line.
use Rattle.std.proofs.Common.{◌≡◌, ℕ, zero, suc, ◌-◌, ◌<◌, ◌^◌, ◌||◌, Bool, true, false, cond, List, [], ◌∷◌, ◌++◌, length, refl, sym, ap, ◌∙◌, arith, codes, length-append}
use Rattle.netlist.specs.declared.line.Equation.{Equation}
use Rattle.netlist.specs.declared.line.Line.{Line}
use Rattle.netlist.specs.declared.line.Memory.{Memory}
use Rattle.netlist.specs.Netlists.{line_of}
use Rattle.verilog_forms.specs.declared.rule.Rule.TheVariants.{TooManyNets}
use Rattle.verilog_reader.specs.declared.spot.Spot.{Spot}
use Rattle.verilog_forms.specs.Forms.{Form, fixed, followed}
use Rattle.verilog_reader.specs.Spots.{found, IsWithin, ahead_of, fixed_from, refused}
use Rattle.verilog_reader.specs.Holes.{Ranges, named_from}
use Rattle.verilog_forms.specs.RightSides.{right_form}
use Rattle.verilog_forms.specs.WireLines.{named_form, range_form, ending_form, wire_form}
use Rattle.verilog_forms.specs.RegisterLines.{register_form}
use Rattle.verilog_forms.specs.WholeTexts.{is_wire_line, is_reg_line, is_net_line, nets_form}
use Rattle.verilog_reader.proofs.Steps.{fixed_found, ahead_found, refuse_found, followed_found}
use Rattle.verilog_reader.proofs.DeclaredSteps.{range_found, named_found}

pub wire_found : (memories : List Memory) (lines : List Line) (n w : ℕ) (e : Equation) (text : List ℕ) (spot begun ranged blank behind equals right end : Spot) → begun ≡ fixed_from (codes "  wire ") text spot → Ranges text begun w ranged
    → blank ≡ fixed_from (codes " ") text ranged → behind ≡ named_from n text blank → equals ≡ fixed_from (codes " = ") text behind → IsWithin text equals → IsWithin text right
    → found (right_form memories lines n w) text equals ≡ found (Form.whole e) text right → end ≡ fixed_from (codes ";\n") text right → found (wire_form memories lines n) text spot ≡ found (Form.whole (line_of w e)) text end
wire_found memories lines n w e text spot begun ranged blank behind equals right end word range space name mark from_ to_ side ends =
    let ended = λ (v : ℕ) (x : Equation). (fixed (codes ";\n") (Form.whole (line_of v x))) in
    let tail = λ (v : ℕ). (fixed (codes " = ") (ending_form memories lines n v)) in
    let later = λ (v : ℕ). (fixed (codes " ") (named_form n (tail v))) in
    fixed_found (codes "  wire ") (range_form later) text spot begun word
    ∙ range_found later text begun w ranged range
    ∙ fixed_found (codes " ") (named_form n (tail w)) text ranged blank space
    ∙ named_found n (tail w) text blank behind name
    ∙ fixed_found (codes " = ") (ending_form memories lines n w) text behind equals mark
    ∙ followed_found (right_form memories lines n w) (ended w) text equals e right from_ to_ side
    ∙ fixed_found (codes ";\n") (Form.whole (line_of w e)) text right end ends

-- no net's line is ahead
pub nets_end : (few : ℕ) (memories : List Memory) (lines : List Line) (text : List ℕ) (spot : Spot) → is_wire_line (ahead_of text spot) ≡ false → is_reg_line (ahead_of text spot) ≡ false
    → found (nets_form few memories lines) text spot ≡ found (Form.whole lines) text spot
nets_end zero memories lines text spot wire reg =
    let none : is_net_line (ahead_of text spot) ≡ false = ap (λ (b : Bool). b || is_reg_line (ahead_of text spot)) wire ∙ reg in
    ahead_found (λ t. cond (is_net_line t) (Form.refuse TooManyNets) (Form.whole lines)) text spot ∙ ap (λ (b : Bool). found (cond b (Form.refuse TooManyNets) (Form.whole lines)) text spot) none
nets_end (suc few) memories lines text spot wire reg =
    let next = λ (line : Line). (nets_form few memories (lines ++ line ∷ [])) in
    let wires = followed (wire_form memories lines (length lines)) next in
    let registers = followed (register_form (length lines)) next in
    ahead_found (λ t. cond (is_wire_line t) wires (cond (is_reg_line t) registers (Form.whole lines))) text spot
    ∙ ap (λ (b : Bool). found (cond b wires (cond (is_reg_line (ahead_of text spot)) registers (Form.whole lines))) text spot) wire
    ∙ ap (λ (b : Bool). found (cond b registers (Form.whole lines)) text spot) reg

-- a net's line is ahead, and there is no room for it
pub nets_full : (few : ℕ) (memories : List Memory) (lines : List Line) (text : List ℕ) (spot end : Spot) → few ≡ 0 → is_net_line (ahead_of text spot) ≡ true → end ≡ refused TooManyNets spot
    → found (nets_form few memories lines) text spot ≡ found (Form.whole lines) text end
nets_full few memories lines text spot end none net e =
    ap (λ (k : ℕ). found (nets_form k memories lines) text spot) none
    ∙ ahead_found (λ t. cond (is_net_line t) (Form.refuse TooManyNets) (Form.whole lines)) text spot ∙ ap (λ (b : Bool). found (cond b (Form.refuse TooManyNets) (Form.whole lines)) text spot) net
    ∙ refuse_found TooManyNets (Form.whole lines) text spot end e

pub either_last : (s t : Bool) → t ≡ true → (s || t) ≡ true
either_last true t e = refl
either_last false t e = e

either : (s t : Bool) → s ≡ false → (s || t) ≡ true → t ≡ true
either s t e h = sym (ap (λ (b : Bool). b || t) e) ∙ h

-- the line of a wire or a register is ahead
pub nets_on : (few left : ℕ) (memories : List Memory) (lines : List Line) (line : Line) (text : List ℕ) (spot behind : Spot) (wire : Bool) → few ≡ suc left → is_wire_line (ahead_of text spot) ≡ wire → is_net_line (ahead_of text spot) ≡ true
    → IsWithin text spot → IsWithin text behind → found (cond wire (wire_form memories lines (length lines)) (register_form (length lines))) text spot ≡ found (Form.whole line) text behind
    → found (nets_form few memories lines) text spot ≡ found (nets_form left memories (lines ++ line ∷ [])) text behind
nets_on few left memories lines line text spot behind true room wire net from_ to_ e =
    let next = λ (x : Line). (nets_form left memories (lines ++ x ∷ [])) in
    let wires = followed (wire_form memories lines (length lines)) next in
    let registers = followed (register_form (length lines)) next in
    ap (λ (k : ℕ). found (nets_form k memories lines) text spot) room
    ∙ ahead_found (λ t. cond (is_wire_line t) wires (cond (is_reg_line t) registers (Form.whole lines))) text spot
    ∙ ap (λ (b : Bool). found (cond b wires (cond (is_reg_line (ahead_of text spot)) registers (Form.whole lines))) text spot) wire
    ∙ followed_found (wire_form memories lines (length lines)) next text spot line behind from_ to_ e
nets_on few left memories lines line text spot behind false room wire net from_ to_ e =
    let next = λ (x : Line). (nets_form left memories (lines ++ x ∷ [])) in
    let wires = followed (wire_form memories lines (length lines)) next in
    let registers = followed (register_form (length lines)) next in
    let reg : is_reg_line (ahead_of text spot) ≡ true = either (is_wire_line (ahead_of text spot)) (is_reg_line (ahead_of text spot)) wire net in
    ap (λ (k : ℕ). found (nets_form k memories lines) text spot) room
    ∙ ahead_found (λ t. cond (is_wire_line t) wires (cond (is_reg_line t) registers (Form.whole lines))) text spot
    ∙ ap (λ (b : Bool). found (cond b wires (cond (is_reg_line (ahead_of text spot)) registers (Form.whole lines))) text spot) wire
    ∙ ap (λ (b : Bool). found (cond b registers (Form.whole lines)) text spot) reg
    ∙ followed_found (register_form (length lines)) next text spot line behind from_ to_ e

-- room for one more
pub one_less : (lines : List Line) (line : Line) → length lines < 2 ^ 20 → 2 ^ 20 - length lines ≡ suc (2 ^ 20 - length (lines ++ line ∷ []))
one_less lines line room = omega (arith, room, length-append lines (line ∷ []))
