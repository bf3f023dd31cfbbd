-- The form of an input net's line reads exactly the line of the input that is due.
use Rattle.std.proofs.Common.{◌≡◌, ℕ, ◌==◌, ◌<◌, ◌^◌, true, List, [], ◌++◌, slice_get, Option, Some, None, inl, inr, refl, sym, ap, subst, ◌∙◌, codes, decimal, append_assoc}
use Rattle.std.specs.Prelude.{if◌then◌else◌}
use Rattle.std.proofs.lemmas.Bool.{eq-eqb, eqb-true}
use Rattle.netlist.specs.declared.line.Equation.TheVariants.{Input}
use Rattle.netlist.specs.declared.line.Line.{Line}
use Rattle.netlist.specs.declared.line.PortLine.{PortLine}
use Rattle.netlist.specs.Netlists.{line_of}
use Rattle.verilog_writer.specs.Text.{range_text, net_name, name_of, wire_line}
use Rattle.verilog_forms.specs.declared.rule.Rule.TheVariants.{Name, Width, Spelling}
use Rattle.verilog_forms.specs.Forms.{Form, next, ends_hole, fixed, Due, Reads}
use Rattle.verilog_forms.specs.RightSides.{same_bytes}
use Rattle.verilog_forms.specs.WireLines.{range_form, number_test, named_form}
use Rattle.verilog_forms.specs.Headers.{is_next}
use Rattle.verilog_forms.specs.InputLines.{port_test, input_wire_form, no_input_form, input_form, IsInputAt}
use Rattle.verilog_forms.specs.Spellings.{same-refl, same_equal}
use Rattle.verilog_forms.proofs.RightReads.{fixed_due, numbered_due}
use Rattle.verilog_forms.specs.Walked.{inverted, Walked}
use Rattle.verilog_forms.proofs.RightSound.{unless_held, cond_walked, fixed_walked}
use Rattle.verilog_forms.proofs.Followed.{ranged_due, ranged_walked}
use Rattle.verilog_forms.proofs.WireLines.{number_test_passes}

-- net n by its name

named_due : {A : Type 0} (due : Form A) (rest : List ℕ) (n : ℕ) (form : Form A) (front : List ℕ) → n < 2 ^ 64 → ends_hole (front ++ rest) ≡ true → Due due rest form front → Due due rest (named_form n form) (net_name n ++ front)
named_due due rest n form front few ends d = fixed_due due rest (codes "n") _ _ (numbered_due due rest (number_test n) (λ k. form) n front few ends (number_test_passes n) d)

named_walked : {A : Type 0} (a : A) (rest : List ℕ) (n : ℕ) (form : Form A) (front : List ℕ) → Walked a rest (named_form n form) front → (later : List ℕ) × (front ≡ net_name n ++ later) × Walked a rest form later
named_walked a rest n form front d =
    let letter = fixed_walked a rest (codes "n") (Form.hole (number_test n) (λ run. form)) front d in
    let (run, later, parts, none, walked, ends) = inverted a refl letter.2 in
    let held = unless_held (same_bytes run (decimal n)) Spelling None none in
    let is_n : run ≡ decimal n = same_equal run (decimal n) held.0 in
    (later, letter.1 ∙ ap (λ (t : List ℕ). codes "n" ++ t) (parts ∙ ap (λ (t : List ℕ). t ++ later) is_n), walked)

-- the input's line is read

port_passes : (port : PortLine) → port_test port port.width port.name ≡ None
port_passes port = rw (same-refl port.name, eq-eqb port.width port.width refl) refl

wire_whole : (a b c d e f g : List ℕ) → a ++ (b ++ (c ++ (d ++ (e ++ (f ++ g))))) ≡ a ++ b ++ c ++ d ++ e ++ f ++ g
wire_whole a b c d e f g = simp append_assoc

-- the line of net n by the port's name
abbrev spelled_by : ℕ → ℕ → List ℕ → List ℕ
spelled_by n w name = codes "  wire " ++ range_text w ++ codes " " ++ net_name n ++ codes " = " ++ name ++ codes ";\n"

line_by : (ports : List PortLine) (n k : ℕ) (port : PortLine) → slice_get ports k ≡ Some port → spelled_by n port.width port.name ≡ wire_line ports n port.width (Input k)
line_by ports n k port is = ap (λ (o : Option PortLine). spelled_by n port.width (name_of o)) (sym is)

pub input_due : (ports : List PortLine) (n k : ℕ) (port : PortLine) (rest : List ℕ) → n < 2 ^ 64 → IsInputAt ports k port
    → Due (Form.whole (line_of port.width (Input k))) rest (input_form n k port) (wire_line ports n port.width (Input k))
input_due ports n k port rest few is =
    let due = Form.whole (line_of port.width (Input k)) in
    let tail = λ (w : ℕ). (Form.hole (port_test port w) (λ run. fixed (codes ";\n") due)) in
    let make = λ (w : ℕ). (fixed (codes " ") (named_form n (fixed (codes " = ") (tail w)))) in
    let ended : Due due rest (fixed (codes ";\n") due) (codes ";\n") = fixed_due due rest (codes ";\n") due [] Due.nothing in
    let name = Due.hole (port_test port port.width) (λ run. fixed (codes ";\n") due) port.name (record { bytes = is.name.bytes; ends = refl }) (port_passes port) ended in
    let equals = fixed_due due rest (codes " = ") (tail port.width) _ name in
    let named = named_due due rest n (fixed (codes " = ") (tail port.width)) _ few refl equals in
    let blank : Due due rest (make port.width) (codes " " ++ (net_name n ++ (codes " = " ++ (port.name ++ codes ";\n")))) = fixed_due due rest (codes " ") _ _ named in
    let wire = fixed_due due rest (codes "wire ") (range_form make) _ (ranged_due due rest make port.width _ is.some_bit is.small blank) in
    let turned = Due.turn (λ b. if is_next (codes "r") b then no_input_form else input_wire_form n k port) wire in
    subst (λ (t : List ℕ). Due due rest (input_form n k port) t)
    (wire_whole (codes "  wire ") (range_text port.width) (codes " ") (net_name n) (codes " = ") port.name (codes ";\n") ∙ line_by ports n k port is.is)
    (fixed_due due rest (codes "  ") _ _ turned)

pub input_read : (ports : List PortLine) (n k : ℕ) (port : PortLine) (rest : List ℕ) → n < 2 ^ 64 → IsInputAt ports k port
    → Reads (input_form n k port) (wire_line ports n port.width (Input k) ++ rest) (line_of port.width (Input k)) rest
input_read ports n k port rest few is = record { front = wire_line ports n port.width (Input k); parts = refl; good = input_due ports n k port rest few is }

-- and what is read is that line

no_input : {X : Type 0} (line : Line) (rest front : List ℕ) → Walked line rest no_input_form front → X
no_input line rest front d =
    let reg = fixed_walked line rest (codes "reg ") (range_form (λ w. fixed (codes " n") (Form.refuse Name))) front d in
    let range = ranged_walked line rest (λ w. fixed (codes " n") (Form.refuse Name)) reg.0 reg.2 in
    let name = fixed_walked line rest (codes " n") (Form.refuse Name) range.later range.walked in
    absurd (inverted line refl name.2)

pub input_walked : (ports : List PortLine) (n k : ℕ) (port : PortLine) (line : Line) (rest front : List ℕ) → slice_get ports k ≡ Some port → Walked line rest (input_form n k port) front
    → (line ≡ line_of port.width (Input k)) × (front ≡ wire_line ports n port.width (Input k))
input_walked ports n k port line rest front is d =
    let due = Form.whole (line_of port.width (Input k)) in
    let tail = λ (w : ℕ). (Form.hole (port_test port w) (λ run. fixed (codes ";\n") due)) in
    let make = λ (w : ℕ). (fixed (codes " ") (named_form n (fixed (codes " = ") (tail w)))) in
    let begun = fixed_walked line rest (codes "  ") (Form.turn (λ b. if is_next (codes "r") b then no_input_form else input_wire_form n k port)) front d in
    elim (cond_walked line rest (is_next (codes "r") (next (begun.0 ++ rest))) no_input_form (input_wire_form n k port) begun.0 (inverted line refl begun.2)) [
      | inl register ↦ no_input line rest begun.0 register
      | inr wire ↦
          let word = fixed_walked line rest (codes "wire ") (range_form make) begun.0 wire in
          let range = ranged_walked line rest make word.0 word.2 in
          let blank = fixed_walked line rest (codes " ") (named_form n (fixed (codes " = ") (tail range.width))) range.later range.walked in
          let named = named_walked line rest n (fixed (codes " = ") (tail range.width)) blank.0 blank.2 in
          let equals = fixed_walked line rest (codes " = ") (tail range.width) named.0 named.2 in
          let (run, left, parts, none, walked, ends) = inverted line refl equals.2 in
          let held = unless_held (same_bytes run port.name) Name _ none in
          let wide = unless_held (range.width == port.width) Width None held.1 in
          let ended = fixed_walked line rest (codes ";\n") due left walked in
          let last = inverted line refl ended.2 in
          let is_name : run ≡ port.name = same_equal run port.name held.0 in
          let is_wide : range.width ≡ port.width = eqb-true range.width port.width wide.0 in
          let end_ : left ≡ codes ";\n" = ended.1 ∙ ap (λ (t : List ℕ). codes ";\n" ++ t) last.1 in
          let name : equals.0 ≡ port.name ++ codes ";\n" = parts ∙ ap (λ (t : List ℕ). t ++ left) is_name ∙ ap (λ (t : List ℕ). port.name ++ t) end_ in
          let number : blank.0 ≡ net_name n ++ (codes " = " ++ (port.name ++ codes ";\n")) = named.1 ∙ ap (λ (t : List ℕ). net_name n ++ t) (equals.1 ∙ ap (λ (t : List ℕ). codes " = " ++ t) name) in
          let bits : word.0 ≡ range_text port.width ++ (codes " " ++ (net_name n ++ (codes " = " ++ (port.name ++ codes ";\n")))) =
          range.spelled ∙ ap (λ (w : ℕ). range_text w ++ range.later) is_wide ∙ ap (λ (t : List ℕ). range_text port.width ++ t) (blank.1 ∙ ap (λ (t : List ℕ). codes " " ++ t) number) in
          let text : front ≡ wire_line ports n port.width (Input k) =
          begun.1 ∙ ap (λ (t : List ℕ). codes "  " ++ t) (word.1 ∙ ap (λ (t : List ℕ). codes "wire " ++ t) bits)
          ∙ wire_whole (codes "  wire ") (range_text port.width) (codes " ") (net_name n) (codes " = ") port.name (codes ";\n") ∙ line_by ports n k port is in
          (sym last.0, text)
    ]

pub input_sound : (ports : List PortLine) (n k : ℕ) (port : PortLine) (line : Line) (text rest : List ℕ) → slice_get ports k ≡ Some port → Reads (input_form n k port) text line rest
    → (line ≡ line_of port.width (Input k)) × (text ≡ wire_line ports n port.width (Input k) ++ rest)
input_sound ports n k port line text rest is r =
    let m = input_walked ports n k port line rest r.front is r.good in
    (m.0, r.parts ∙ ap (λ (t : List ℕ). t ++ rest) m.1)
