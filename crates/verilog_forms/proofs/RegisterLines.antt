-- The form of a register's line reads exactly the lines of registers.
use Rattle.std.proofs.Common.{◌≡◌, ℕ, ◌+◌, ◌-◌, ◌<◌, ◌≤◌, ◌^◌, true, List, [], ◌++◌, slice_get, Some, None, refl, sym, ap, subst, ◌∙◌, arith, codes, decimal, append_assoc}
use Rattle.std.specs.Prelude.{nat_lt}
use Rattle.std.proofs.lemmas.Bool.{lt-ltb, ltb-true}
use Rattle.netlist.specs.declared.line.Line.{Line}
use Rattle.netlist.specs.Netlists.{Netlist, IsModule, is_register}
use Rattle.verilog_writer.specs.Text.{register_line, net_line}
use Rattle.verilog_forms.specs.declared.rule.Rule.TheVariants.{Width, Spelling}
use Rattle.verilog_forms.specs.Forms.{Form, fixed, Due, Reads}
use Rattle.verilog_forms.specs.RightSides.{same_bytes, value_of}
use Rattle.verilog_forms.specs.WireLines.{high_test, number_test, named_form}
use Rattle.verilog_forms.specs.RegisterLines.{untold, register_form}
use Rattle.verilog_forms.proofs.Lines.{register_shape, net_register}
use Rattle.verilog_forms.proofs.RightReads.{fixed_due, number_passes, numbered_due, stands_here}
use Rattle.verilog_forms.specs.Walked.{inverted}
use Rattle.verilog_forms.proofs.RightSound.{unless_held, number_held, fixed_walked}
use Rattle.verilog_forms.specs.Spellings.{same_equal}
use Rattle.verilog_forms.proofs.WireLines.{number_test_passes}

register_due : (n w : ℕ) (rest : List ℕ) → n < 2 ^ 64 → 1 ≤ w → w ≤ 128
    → Due (Form.whole (untold n w)) rest (register_form n) (codes "  reg [" ++ (decimal (w - 1) ++ (codes ":0] n" ++ (decimal n ++ codes ";\n"))))
register_due n w rest few some small =
    let due = Form.whole (untold n w) in
    let last : Due due rest (fixed (codes ";\n") due) (codes ";\n") = fixed_due due rest (codes ";\n") _ [] Due.nothing in
    let number = numbered_due due rest (number_test n) (λ k. fixed (codes ";\n") due) n (codes ";\n") few refl (number_test_passes n) last in
    let spelled = codes " n" ++ (decimal n ++ codes ";\n") in
    let make = λ (v : ℕ). (fixed (codes " ") (named_form n (fixed (codes ";\n") (Form.whole (untold n v))))) in
    let named : Due due rest (make w) spelled = fixed_due due rest (codes " n") (Form.hole (number_test n) (λ run. fixed (codes ";\n") due)) (decimal n ++ codes ";\n") number in
    let back : (w - 1) + 1 ≡ w = omega (arith, some) in
    let low : w - 1 < 128 = omega (arith, some, small) in
    let below : w - 1 < 2 ^ 64 = omega (arith, low) in
    let ranged = fixed_due due rest (codes ":0]") (make ((w - 1) + 1)) spelled (subst (λ (v : ℕ). Due due rest (make v) spelled) (sym back) named) in
    let high = numbered_due due rest high_test (λ k. fixed (codes ":0]") (make (k + 1))) (w - 1) _ below refl (number_passes (w - 1) (λ k. nat_lt k 128) Width (λ k. None) below (lt-ltb (w - 1) 128 low)) ranged in
    fixed_due due rest (codes "  reg [") _ _ high

regrouped : (a b c d e r : List ℕ) → a ++ (b ++ (c ++ (d ++ (e ++ r)))) ≡ (a ++ (b ++ (c ++ (d ++ e)))) ++ r
regrouped a b c d e r = simp append_assoc

pub register_read : (n w : ℕ) (rest : List ℕ) → n < 2 ^ 64 → 1 ≤ w → w ≤ 128 → Reads (register_form n) (register_line n w ++ rest) (untold n w) rest
register_read n w rest few some small = record {
  front = codes "  reg [" ++ (decimal (w - 1) ++ (codes ":0] n" ++ (decimal n ++ codes ";\n")));
  parts = register_shape n w rest ∙ regrouped (codes "  reg [") (decimal (w - 1)) (codes ":0] n") (decimal n) (codes ";\n") rest;
  good = register_due n w rest few some small;
}

pub register_sound : (n : ℕ) (line : Line) (text rest : List ℕ) → Reads (register_form n) text line rest → (w : ℕ) × (1 ≤ w) × (w ≤ 128) × (line ≡ untold n w) × (text ≡ register_line n w ++ rest)
register_sound n line text rest r =
    let begun = fixed_walked line rest (codes "  reg [") _ r.front r.good in
    let (run, left, parts, none, walked, run_ends) = inverted line refl begun.2 in
    let high = number_held run (λ k. nat_lt k 128) Width (λ k. None) (λ t. omega (arith, ltb-true (value_of run) 128 t)) none in
    let w = value_of run + 1 in
    let some : 1 ≤ w = omega arith in
    let below : value_of run < 128 = ltb-true (value_of run) 128 high.1 in
    let small : w ≤ 128 = omega (arith, below) in
    let named = fixed_walked line rest (codes ":0] n") (Form.hole (number_test n) (λ r. fixed (codes ";\n") (Form.whole (untold n w)))) left walked in
    let (name, behind, name_parts, name_none, name_walked, name_ends) = inverted line refl named.2 in
    let held = unless_held (same_bytes name (decimal n)) Spelling None name_none in
    let is_n : name ≡ decimal n = same_equal name (decimal n) held.0 in
    let ended = fixed_walked line rest (codes ";\n") (Form.whole (untold n w)) behind name_walked in
    let last = inverted line refl ended.2 in
    let one : w - 1 ≡ value_of run = omega arith in
    let is_high : run ≡ decimal (w - 1) = high.0 ∙ ap (λ (k : ℕ). decimal k) (sym one) in
    let behind_is : behind ≡ codes ";\n" = ended.1 ∙ ap (λ (t : List ℕ). codes ";\n" ++ t) last.1 in
    let name_is : named.0 ≡ decimal n ++ codes ";\n" = name_parts ∙ ap (λ (t : List ℕ). t ++ behind) is_n ∙ ap (λ (t : List ℕ). decimal n ++ t) behind_is in
    let left_is : left ≡ codes ":0] n" ++ (decimal n ++ codes ";\n") = named.1 ∙ ap (λ (t : List ℕ). codes ":0] n" ++ t) name_is in
    let begun_is : begun.0 ≡ decimal (w - 1) ++ (codes ":0] n" ++ (decimal n ++ codes ";\n")) = parts ∙ ap (λ (t : List ℕ). t ++ left) is_high ∙ ap (λ (t : List ℕ). decimal (w - 1) ++ t) left_is in
    let front_is : r.front ≡ codes "  reg [" ++ (decimal (w - 1) ++ (codes ":0] n" ++ (decimal n ++ codes ";\n"))) = begun.1 ∙ ap (λ (t : List ℕ). codes "  reg [" ++ t) begun_is in
    let all = r.parts ∙ ap (λ (t : List ℕ). t ++ rest) front_is ∙ sym (regrouped (codes "  reg [") (decimal (w - 1)) (codes ":0] n") (decimal n) (codes ";\n") rest) ∙ sym (register_shape n w rest) in
    (w, some, small, sym last.0, all)

-- the line of a module's register
pub module_register : (one : Netlist) (n : ℕ) (line : Line) (rest : List ℕ) → IsModule one → slice_get one.lines n ≡ Some line → is_register line.equation ≡ true
    → Reads (register_form n) (net_line one.ports n line ++ rest) (untold n line.width) rest
module_register one n line rest is at register =
    let here = stands_here one n line is.well_made at in
    subst (λ (t : List ℕ). Reads (register_form n) (t ++ rest) (untold n line.width) rest) (sym (net_register one.ports n line register)) (register_read n line.width rest here.few here.some_bit here.bits)
