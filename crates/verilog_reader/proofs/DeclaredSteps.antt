-- What the lines of registers, memories and inputs find, part after part.
use Rattle.std.proofs.Common.{◌≡◌, ℕ, ◌==◌, ◌<◌, ◌≤◌, ◌^◌, Bool, true, false, cond, List, Option, refl, sym, ap, ◌∙◌, arith, codes}
use Rattle.std.specs.Prelude.{nat_lt}
use Rattle.std.proofs.lemmas.Bool.{ne_eqb, ltb-false}
use Rattle.netlist.specs.declared.line.Equation.TheVariants.{Input}
use Rattle.netlist.specs.declared.line.Line.{Line}
use Rattle.netlist.specs.declared.line.Memory.{Memory}
use Rattle.netlist.specs.declared.line.PortLine.{PortLine}
use Rattle.netlist.specs.Netlists.{line_of, memory_with}
use Rattle.verilog_forms.specs.declared.rule.Rule.TheVariants.{Name, Spelling}
use Rattle.verilog_reader.specs.declared.spot.Spot.{Spot}
use Rattle.verilog_forms.specs.Forms.{Form, fixed, next}
use Rattle.verilog_reader.specs.Spots.{found, ahead_of, hole_from, fixed_from, refused, Takes}
use Rattle.verilog_reader.specs.Holes.{capped, width_told, Ranges, named_from}
use Rattle.verilog_forms.specs.WireLines.{high_test, number_test, range_form, named_form}
use Rattle.verilog_forms.specs.RegisterLines.{untold, register_form}
use Rattle.verilog_forms.specs.MemoryLines.{address_bits_of, last_test, memory_form}
use Rattle.verilog_forms.specs.Headers.{is_next}
use Rattle.verilog_forms.specs.InputLines.{port_test, input_wire_form, no_input_form, input_form}
use Rattle.verilog_forms.specs.WholeTexts.{late_memory_form}
use Rattle.verilog_reader.specs.DeclaredLines.{last_told}
use Rattle.verilog_reader.proofs.Steps.{fixed_found, hole_found, taken_found, turn_found, refuse_found}

pub range_found : {A : Type 0} (form : ℕ → Form A) (text : List ℕ) (spot : Spot) (w : ℕ) (behind : Spot) → Ranges text spot w behind → found (range_form form) text spot ≡ found (form w) text behind
range_found form text spot w behind r =
    let closed = λ (v : ℕ). (fixed (codes ":0]") (form v)) in
    let opened = fixed_from (codes "[") text spot in
    fixed_found (codes "[") (Form.hole high_test (λ run. closed (width_told run))) text spot opened refl
    ∙ taken_found high_test width_told closed text opened w r.inner r.high
    ∙ fixed_found (codes ":0]") (form w) text r.inner behind r.closes

pub named_found : {A : Type 0} (n : ℕ) (form : Form A) (text : List ℕ) (spot behind : Spot) → behind ≡ named_from n text spot → found (named_form n form) text spot ≡ found form text behind
named_found n form text spot behind e =
    let lettered = fixed_from (codes "n") text spot in
    fixed_found (codes "n") (Form.hole (number_test n) (λ run. form)) text spot lettered refl ∙ hole_found (number_test n) (λ run. form) text lettered behind e

pub register_found : (text : List ℕ) (n w : ℕ) (spot begun ranged blank behind end : Spot) → begun ≡ fixed_from (codes "  reg ") text spot → Ranges text begun w ranged → blank ≡ fixed_from (codes " ") text ranged
    → behind ≡ named_from n text blank → end ≡ fixed_from (codes ";\n") text behind → found (register_form n) text spot ≡ found (Form.whole (untold n w)) text end
register_found text n w spot begun ranged blank behind end word range space name ends =
    let last = λ (v : ℕ). (fixed (codes ";\n") (Form.whole (untold n v))) in
    let later = λ (v : ℕ). (fixed (codes " ") (named_form n (last v))) in
    fixed_found (codes "  reg ") (range_form later) text spot begun word
    ∙ range_found later text begun w ranged range
    ∙ fixed_found (codes " ") (named_form n (last w)) text ranged blank space
    ∙ named_found n (last w) text blank behind name
    ∙ fixed_found (codes ";\n") (Form.whole (untold n w)) text behind end ends

-- the number of address bits is the same where a greater last address counts as 2^32

differs : (k v : ℕ) → k < v → (k == v) ≡ false
differs k v less = ne_eqb k v (λ e. omega (arith, less, e))

none_above : (v : ℕ) → 1024 ≤ v → address_bits_of v ≡ 0
none_above v many =
    rw (
      differs 1 v (omega (arith, many)),
      differs 3 v (omega (arith, many)),
      differs 7 v (omega (arith, many)),
      differs 15 v (omega (arith, many)),
      differs 31 v (omega (arith, many)),
      differs 63 v (omega (arith, many)),
      differs 127 v (omega (arith, many)),
      differs 255 v (omega (arith, many)),
      differs 511 v (omega (arith, many)),
      differs 1023 v (omega (arith, many)),
    ) refl

capped_bits : (v : ℕ) (t : Bool) → nat_lt v (2 ^ 32) ≡ t → address_bits_of (cond t v (2 ^ 32)) ≡ address_bits_of v
capped_bits v true e = refl
capped_bits v false e = let many : 2 ^ 32 ≤ v = ltb-false v (2 ^ 32) e in sym (none_above v (omega (arith, many)))

pub address_bits_capped : (v : ℕ) → address_bits_of (capped v) ≡ address_bits_of v
address_bits_capped v = capped_bits v (nat_lt v (2 ^ 32)) refl

pub memory_found : (text : List ℕ) (m w bits : ℕ) (spot begun ranged lettered behind opened closed end : Spot) → begun ≡ fixed_from (codes "  reg ") text spot → Ranges text begun w ranged
    → lettered ≡ fixed_from (codes " m") text ranged → behind ≡ hole_from (number_test m) text lettered → opened ≡ fixed_from (codes " [0:") text behind
    → Takes last_test last_told text opened bits closed → end ≡ fixed_from (codes "];\n") text closed → found (memory_form m) text spot ≡ found (Form.whole (memory_with w bits)) text end
memory_found text m w bits spot begun ranged lettered behind opened closed end word range letter number bracket last ends =
    let told = λ (v k : ℕ). (fixed (codes "];\n") (Form.whole (memory_with v k))) in
    let depth = λ (v : ℕ). (Form.hole last_test (λ run. told v (last_told run))) in
    let words = λ (v : ℕ). (fixed (codes " [0:") (depth v)) in
    let name = λ (v : ℕ). (Form.hole (number_test m) (λ run. words v)) in
    let later = λ (v : ℕ). (fixed (codes " m") (name v)) in
    fixed_found (codes "  reg ") (range_form later) text spot begun word
    ∙ range_found later text begun w ranged range
    ∙ fixed_found (codes " m") (name w) text ranged lettered letter
    ∙ hole_found (number_test m) (λ run. words w) text lettered behind number
    ∙ fixed_found (codes " [0:") (depth w) text behind opened bracket
    ∙ taken_found last_test last_told (told w) text opened bits closed last
    ∙ fixed_found (codes "];\n") (Form.whole (memory_with w bits)) text closed end ends

pub late_memory_found : (text : List ℕ) (w : ℕ) (memories : List Memory) (spot begun ranged lettered end : Spot) → begun ≡ fixed_from (codes "  reg ") text spot → Ranges text begun w ranged
    → lettered ≡ fixed_from (codes " m") text ranged → end ≡ refused Spelling lettered → found late_memory_form text spot ≡ found (Form.whole memories) text end
late_memory_found text w memories spot begun ranged lettered end word range letter ends =
    let refusal : Form (List Memory) = Form.refuse Spelling in
    let later = λ (v : ℕ). (fixed (codes " m") refusal) in
    fixed_found (codes "  reg ") (range_form later) text spot begun word
    ∙ range_found later text begun w ranged range
    ∙ fixed_found (codes " m") refusal text ranged lettered letter
    ∙ refuse_found Spelling (Form.whole memories) text lettered end ends

pub input_wire_found : (text : List ℕ) (n k w : ℕ) (port : PortLine) (spot begun ranged blank behind right source end : Spot) → begun ≡ fixed_from (codes "wire ") text spot → Ranges text begun w ranged
    → blank ≡ fixed_from (codes " ") text ranged → behind ≡ named_from n text blank → right ≡ fixed_from (codes " = ") text behind → source ≡ hole_from (port_test port w) text right
    → end ≡ fixed_from (codes ";\n") text source → found (input_wire_form n k port) text spot ≡ found (Form.whole (line_of port.width (Input k))) text end
input_wire_found text n k w port spot begun ranged blank behind right source end word range space name sign from_port ends =
    let line = Form.whole (line_of port.width (Input k)) in
    let last = fixed (codes ";\n") line in
    let named = λ (v : ℕ). (Form.hole (port_test port v) (λ run. last)) in
    let takes = λ (v : ℕ). (fixed (codes " = ") (named v)) in
    let later = λ (v : ℕ). (fixed (codes " ") (named_form n (takes v))) in
    fixed_found (codes "wire ") (range_form later) text spot begun word
    ∙ range_found later text begun w ranged range
    ∙ fixed_found (codes " ") (named_form n (takes w)) text ranged blank space
    ∙ named_found n (takes w) text blank behind name
    ∙ fixed_found (codes " = ") (named w) text behind right sign
    ∙ hole_found (port_test port w) (λ run. last) text right source from_port
    ∙ fixed_found (codes ";\n") line text source end ends

pub no_input_found : (text : List ℕ) (w : ℕ) (line : Line) (spot begun ranged lettered end : Spot) → begun ≡ fixed_from (codes "reg ") text spot → Ranges text begun w ranged → lettered ≡ fixed_from (codes " n") text ranged
    → end ≡ refused Name lettered → found no_input_form text spot ≡ found (Form.whole line) text end
no_input_found text w line spot begun ranged lettered end word range letter ends =
    let refusal : Form Line = Form.refuse Name in
    let later = λ (v : ℕ). (fixed (codes " n") refusal) in
    fixed_found (codes "reg ") (range_form later) text spot begun word
    ∙ range_found later text begun w ranged range
    ∙ fixed_found (codes " n") refusal text ranged lettered letter
    ∙ refuse_found Name (Form.whole line) text lettered end ends

-- the line of an input, by the byte behind its first blanks
pub input_found : (text : List ℕ) (n k : ℕ) (port : PortLine) (spot begun end : Spot) (t : Bool) → begun ≡ fixed_from (codes "  ") text spot → t ≡ is_next (codes "r") (next (ahead_of text begun))
    → found (cond t no_input_form (input_wire_form n k port)) text begun ≡ found (Form.whole (line_of port.width (Input k))) text end
    → found (input_form n k port) text spot ≡ found (Form.whole (line_of port.width (Input k))) text end
input_found text n k port spot begun end t blanks is there =
    let either = λ (b : Bool). (cond b no_input_form (input_wire_form n k port)) in
    let turned = λ (b : Option ℕ). (either (is_next (codes "r") b)) in
    fixed_found (codes "  ") (Form.turn turned) text spot begun blanks
    ∙ turn_found turned text begun (next (ahead_of text begun)) refl
    ∙ ap (λ (b : Bool). found (either b) text begun) (sym is)
    ∙ there
