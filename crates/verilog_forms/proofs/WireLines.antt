-- The form of a wire's line reads exactly the lines of sound wires.
use Rattle.std.proofs.Common.{◌≡◌, ℕ, ◌+◌, ◌-◌, ◌<◌, ◌≤◌, ◌^◌, Bool, true, false, List, [], ◌++◌, slice_get, Some, None, refl, sym, ap, subst, ◌∙◌, arith, codes, decimal, append_assoc}
use Rattle.std.specs.Prelude.{nat_lt}
use Rattle.std.proofs.lemmas.Bool.{lt-ltb, ltb-true}
use Rattle.netlist.specs.declared.line.Equation.{Equation}
use Rattle.netlist.specs.declared.line.Line.{Line}
use Rattle.netlist.specs.declared.line.Memory.{Memory}
use Rattle.netlist.specs.declared.line.PortLine.{PortLine}
use Rattle.netlist.specs.Netlists.{Netlist, IsModule, line_of, is_input, is_register}
use Rattle.verilog_writer.specs.Text.{net_name, right_text, wire_line, net_line}
use Rattle.verilog_forms.specs.declared.rule.Rule.TheVariants.{Width, Spelling}
use Rattle.verilog_forms.specs.Forms.{Form, fixed, next, Due, Reads}
use Rattle.verilog_forms.specs.RightSides.{unless, same_bytes, value_of, right_form, Here, IsRightSide}
use Rattle.verilog_forms.specs.WireLines.{high_test, number_test, named_form, ending_form, wire_form, Behind, IsWire}
use Rattle.verilog_forms.proofs.Lines.{line_is, wire_parts, net_wire}
use Rattle.verilog_forms.specs.Spellings.{same-refl, same_equal}
use Rattle.verilog_forms.proofs.RightReads.{fixed_due, number_passes, numbered_due, right_read, stands_here}
use Rattle.verilog_forms.proofs.Followed.{followed_due, followed_walked}
use Rattle.verilog_forms.specs.Walked.{inverted, Walked}
use Rattle.verilog_forms.proofs.RightSound.{unless_held, number_held, fixed_walked, begun_walked}

here_behind : (memories : List Memory) (lines : List Line) (n w : ℕ) → Behind memories lines n → 1 ≤ w → w ≤ 128 → Here memories lines n w
here_behind memories lines n w at some small = record { few = at.few; room = at.room; few_memories = at.few_memories; small = at.small; some_bit = some; bits = small }

-- a sound wire's line is read

front_parts : (a b c d e f g h i r : List ℕ) → a ++ (b ++ (c ++ (d ++ (e ++ (f ++ (g ++ (h ++ (i ++ r)))))))) ≡ (a ++ (b ++ (c ++ (d ++ (e ++ (f ++ (g ++ (h ++ i)))))))) ++ r
front_parts a b c d e f g h i r = simp append_assoc

pub number_test_passes : (n : ℕ) → number_test n (decimal n) ≡ None
number_test_passes n = ap (λ (t : Bool). unless t Spelling None) (same-refl (decimal n))

wire_due : (memories : List Memory) (lines : List Line) (n w : ℕ) (e : Equation) (rest front : List ℕ) → n < 2 ^ 64 → 1 ≤ w → w ≤ 128
    → Due (Form.whole e) (codes ";\n" ++ rest) (right_form memories lines n w) front
    → Due (Form.whole (line_of w e)) rest (wire_form memories lines n) (codes "  wire " ++ (codes "[" ++ (decimal (w - 1) ++ (codes ":0]" ++ (codes " " ++ (net_name n ++ (codes " = " ++ (front ++ codes ";\n"))))))))
wire_due memories lines n w e rest front few some small right =
    let due = Form.whole (line_of w e) in
    let last : Due due rest (fixed (codes ";\n") (Form.whole (line_of w e))) (codes ";\n") = fixed_due due rest (codes ";\n") _ [] Due.nothing in
    let side = followed_due e (λ x. fixed (codes ";\n") (Form.whole (line_of w x))) due (codes ";\n") rest refl refl right last in
    let equals = fixed_due due rest (codes " = ") (ending_form memories lines n w) _ side in
    let number = numbered_due due rest (number_test n) (λ k. fixed (codes " = ") (ending_form memories lines n w)) n _ few refl (number_test_passes n) equals in
    let named = fixed_due due rest (codes " n") (Form.hole (number_test n) (λ run. fixed (codes " = ") (ending_form memories lines n w))) _ number in
    let back : (w - 1) + 1 ≡ w = omega (arith, some) in
    let low : w - 1 < 128 = omega (arith, some, small) in
    let below : w - 1 < 2 ^ 64 = omega (arith, low) in
    let make = λ (v : ℕ). (fixed (codes " ") (named_form n (fixed (codes " = ") (ending_form memories lines n v)))) in
    let spelled = codes " n" ++ (decimal n ++ (codes " = " ++ (front ++ codes ";\n"))) in
    let ranged = fixed_due due rest (codes ":0]") (make ((w - 1) + 1)) spelled (subst (λ (v : ℕ). Due due rest (make v) spelled) (sym back) named) in
    let high = numbered_due due rest high_test (λ k. fixed (codes ":0]") (make (k + 1))) (w - 1) _ below refl (number_passes (w - 1) (λ k. nat_lt k 128) Width (λ k. None) below (lt-ltb (w - 1) 128 low)) ranged in
    fixed_due due rest (codes "  wire [") _ _ high

wire_read_of : (ports : List PortLine) (memories : List Memory) (lines : List Line) (n w : ℕ) (e : Equation) (rest : List ℕ) → Behind memories lines n → 1 ≤ w → w ≤ 128 → IsRightSide ports memories lines n w e
    → Reads (wire_form memories lines n) (wire_line ports n w e ++ rest) (line_of w e) rest
wire_read_of ports memories lines n w e rest at some small right =
    let side = right_read ports memories lines n w e (codes ";\n" ++ rest) (here_behind memories lines n w at some small) right.sound right.no_input right.no_register refl in
    let apart = wire_parts (codes "  wire ") (codes "[") (decimal (w - 1)) (codes ":0]") (codes " ") (net_name n) (codes " = ") (right_text ports e) (codes ";\n") rest in
    let begin = λ (t : List ℕ). (codes "  wire " ++ (codes "[" ++ (decimal (w - 1) ++ (codes ":0]" ++ (codes " " ++ (net_name n ++ (codes " = " ++ t))))))) in
    record {
      front = codes "  wire " ++ (codes "[" ++ (decimal (w - 1) ++ (codes ":0]" ++ (codes " " ++ (net_name n ++ (codes " = " ++ (side.front ++ codes ";\n")))))));
      parts = apart ∙ ap begin side.parts ∙ front_parts (codes "  wire ") (codes "[") (decimal (w - 1)) (codes ":0]") (codes " ") (net_name n) (codes " = ") side.front (codes ";\n") rest;
      good = wire_due memories lines n w e rest side.front at.few some small side.good;
    }

pub wire_read : (ports : List PortLine) (memories : List Memory) (lines : List Line) (n : ℕ) (line : Line) (rest : List ℕ) → Behind memories lines n → IsWire ports memories lines n line
    → Reads (wire_form memories lines n) (wire_line ports n line.width line.equation ++ rest) line rest
wire_read ports memories lines n line rest at wire =
    subst (λ (x : Line). Reads (wire_form memories lines n) (wire_line ports n line.width line.equation ++ rest) x rest) (sym (line_is line line.width line.equation wire.complete refl refl))
    (wire_read_of ports memories lines n line.width line.equation rest at wire.some_bit wire.small wire.right)

-- and what is read is one

range_parts : (a b c d e f g h i : List ℕ) → a ++ (b ++ (c ++ (d ++ (e ++ (f ++ (g ++ (h ++ i))))))) ≡ a ++ (b ++ c ++ d) ++ e ++ f ++ g ++ h ++ i
range_parts a b c d e f g h i = simp append_assoc

pub record WireMeaning (ports : List PortLine) (memories : List Memory) (lines : List Line) (n : ℕ) (line : Line) (front : List ℕ) : Type 0 where
  pub spelled : front ≡ wire_line ports n line.width line.equation
  pub wire : IsWire ports memories lines n line

pub wire_walked : (ports : List PortLine) (memories : List Memory) (lines : List Line) (n : ℕ) (line : Line) (rest front : List ℕ) → Behind memories lines n → Walked line rest (wire_form memories lines n) front
    → WireMeaning ports memories lines n line front
wire_walked ports memories lines n line rest front at d =
    let begun = fixed_walked line rest (codes "  wire [") _ front d in
    let (run, left, parts, none, walked, run_ends) = inverted line refl begun.2 in
    let high = number_held run (λ k. nat_lt k 128) Width (λ k. None) (λ t. omega (arith, ltb-true (value_of run) 128 t)) none in
    let w = value_of run + 1 in
    let some : 1 ≤ w = omega arith in
    let below : value_of run < 128 = ltb-true (value_of run) 128 high.1 in
    let small : w ≤ 128 = omega (arith, below) in
    let named = fixed_walked line rest (codes ":0] n") (Form.hole (number_test n) (λ r. fixed (codes " = ") (ending_form memories lines n w))) left walked in
    let (name, behind, name_parts, name_none, name_walked, name_ends) = inverted line refl named.2 in
    let held = unless_held (same_bytes name (decimal n)) Spelling None name_none in
    let is_n : name ≡ decimal n = same_equal name (decimal n) held.0 in
    let equals = fixed_walked line rest (codes " = ") (ending_form memories lines n w) behind name_walked in
    let apart = followed_walked line rest (right_form memories lines n w) (λ e. fixed (codes ";\n") (Form.whole (line_of w e))) equals.0 equals.2 in
    let e = apart.value in
    let side = begun_walked ports memories lines n w e (apart.behind ++ rest) apart.ahead (next (apart.ahead ++ (apart.behind ++ rest))) (here_behind memories lines n w at some small) (inverted e refl apart.first) in
    let ended = fixed_walked line rest (codes ";\n") (Form.whole (line_of w e)) apart.behind apart.second in
    let last = inverted line refl ended.2 in
    let one : w - 1 ≡ value_of run = omega arith in
    let is_high : run ≡ decimal (w - 1) = high.0 ∙ ap (λ (k : ℕ). decimal k) (sym one) in
    let end_ : apart.behind ≡ codes ";\n" = ended.1 ∙ ap (λ (t : List ℕ). codes ";\n" ++ t) last.1 in
    let tail : equals.0 ≡ right_text ports e ++ codes ";\n" = apart.parts ∙ ap (λ (t : List ℕ). t ++ apart.behind) side.spelled ∙ ap (λ (t : List ℕ). right_text ports e ++ t) end_ in
    let behind_is : behind ≡ codes " = " ++ (right_text ports e ++ codes ";\n") = equals.1 ∙ ap (λ (t : List ℕ). codes " = " ++ t) tail in
    let name_is : named.0 ≡ decimal n ++ (codes " = " ++ (right_text ports e ++ codes ";\n")) = name_parts ∙ ap (λ (t : List ℕ). t ++ behind) is_n ∙ ap (λ (t : List ℕ). decimal n ++ t) behind_is in
    let left_is : left ≡ codes ":0] n" ++ (decimal n ++ (codes " = " ++ (right_text ports e ++ codes ";\n"))) = named.1 ∙ ap (λ (t : List ℕ). codes ":0] n" ++ t) name_is in
    let begun_is : begun.0 ≡ decimal (w - 1) ++ (codes ":0] n" ++ (decimal n ++ (codes " = " ++ (right_text ports e ++ codes ";\n")))) =
    parts ∙ ap (λ (t : List ℕ). t ++ left) is_high ∙ ap (λ (t : List ℕ). decimal (w - 1) ++ t) left_is in
    let text : front ≡ wire_line ports n w e =
    begun.1 ∙ ap (λ (t : List ℕ). codes "  wire [" ++ t) begun_is
    ∙ range_parts (codes "  wire ") (codes "[") (decimal (w - 1)) (codes ":0]") (codes " ") (net_name n) (codes " = ") (right_text ports e) (codes ";\n") in
    subst (λ (x : Line). WireMeaning ports memories lines n x front) last.0 (record {
      spelled = text;
      wire = record { some_bit = some; small = small; right = side.sound; complete = refl };
    })

pub wire_sound : (ports : List PortLine) (memories : List Memory) (lines : List Line) (n : ℕ) (line : Line) (text rest : List ℕ) → Behind memories lines n → Reads (wire_form memories lines n) text line rest
    → (text ≡ wire_line ports n line.width line.equation ++ rest) × IsWire ports memories lines n line
wire_sound ports memories lines n line text rest at r =
    let m = wire_walked ports memories lines n line rest r.front at r.good in
    (r.parts ∙ ap (λ (t : List ℕ). t ++ rest) m.spelled, m.wire)

still_as : (one : Netlist) (n : ℕ) (line : Line) → IsModule one → slice_get one.lines n ≡ Some line → (b : Bool) → line.waits ≡ b → line.waits ≡ false
still_as one n line is at true waits = absurd (is.clocked n (record { line = line; is = at; waits = waits }))
still_as one n line is at false waits = waits

-- the line of a module's wire
pub module_wire : (one : Netlist) (n : ℕ) (line : Line) (rest : List ℕ) → IsModule one → slice_get one.lines n ≡ Some line → is_input line.equation ≡ false → is_register line.equation ≡ false
    → Reads (wire_form one.memories one.lines n) (net_line one.ports n line ++ rest) line rest
module_wire one n line rest is at input register =
    let here = stands_here one n line is.well_made at in
    let behind : Behind one.memories one.lines n = record { few = here.few; room = here.room; few_memories = here.few_memories; small = here.small } in
    let right : IsRightSide one.ports one.memories one.lines n line.width line.equation = record { sound = (is.well_made.lines n line at).equation; no_input = input; no_register = register } in
    let wire : IsWire one.ports one.memories one.lines n line = record { some_bit = here.some_bit; small = here.bits; right = right; complete = still_as one n line is at line.waits refl } in
    subst (λ (t : List ℕ). Reads (wire_form one.memories one.lines n) (t ++ rest) line rest) (sym (net_wire one.ports n line register)) (wire_read one.ports one.memories one.lines n line rest behind wire)
