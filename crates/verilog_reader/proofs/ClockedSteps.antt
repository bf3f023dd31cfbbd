-- What clocked lines, lines of outputs and the last line find, part after part.
use Rattle.std.proofs.Common.{◌≡◌, ℕ, ◌==◌, ◌&&◌, Bool, not, cond, List, length, Option, Some, None, Result, Ok, Err, refl, sym, ap, ◌∙◌, codes}
use Rattle.std.specs.Prelude.{nat_lt}
use Rattle.av_base.specs.declared.value.Val.{Val}
use Rattle.netlist.specs.declared.line.Equation.{Equation}
use Rattle.netlist.specs.declared.line.Equation.TheVariants.{Constant, Reg}
use Rattle.netlist.specs.declared.line.Line.{Line}
use Rattle.netlist.specs.declared.line.Memory.{Memory}
use Rattle.netlist.specs.declared.line.PortLine.{PortLine}
use Rattle.netlist.specs.Netlists.{Netlist, line_of, write_of}
use Rattle.verilog_forms.specs.declared.rule.Rule.{Rule}
use Rattle.verilog_forms.specs.declared.rule.Rule.TheVariants.{Name, Width, Spelling, NotThere, Order, AfterEnd}
use Rattle.verilog_reader.specs.declared.spot.Spot.{Spot}
use Rattle.verilog_reader.specs.declared.holes.Wanted.TheVariants.{Exactly}
use Rattle.verilog_forms.specs.Forms.{Form, fixed, next}
use Rattle.verilog_reader.specs.Spots.{found, IsWithin, ahead_of, run_from, hole_from, fixed_from, past, refused, Judges, Takes}
use Rattle.verilog_reader.specs.Holes.{TellsNumber, TellsNet, TakesOperand}
use Rattle.verilog_forms.specs.RightSides.{unless, is_number, value_of, is_net, net_of, or_zero, width_of, operand_test, constant_form}
use Rattle.verilog_forms.specs.Headers.{is_next}
use Rattle.verilog_forms.specs.ClockedLines.{net_form, clocked_net_test, clocked_memory_test, none_due, clocked_memory_form, other_net_form, other_memory_form, register_with, next_form, none_clocked_form, output_test, driver_form}
use Rattle.verilog_forms.specs.WholeTexts.{nothing_form, last_form}
use Rattle.verilog_reader.specs.DeclaredLines.{nothing_told}
use Rattle.verilog_reader.specs.ClockedParts.{SameWidths, Tells, is_due, due_test, Passes, clocked_register_form, written_memory_form, other_clocked_form, late_form}
use Rattle.verilog_reader.proofs.Steps.{fixed_found, hole_found, taken_found, turn_found, refuse_found, followed_found}

-- an operand among nets of the same widths

operand_same : (old lines : List Line) (fits : ℕ → Bool) (run : List ℕ) → SameWidths old lines → operand_test lines (length lines) fits run ≡ operand_test old (length old) fits run
operand_same old lines fits run same =
    let width = λ (o : Option ℕ). (unless (fits (or_zero o)) Width None) in
    ap (λ (k : ℕ). unless (is_net run) Spelling (unless (nat_lt (net_of run) k) NotThere (unless (fits (width_of lines (net_of run))) Width None))) (sym same.count)
    ∙ ap (λ (o : Option ℕ). unless (is_net run) Spelling (unless (nat_lt (net_of run) (length old)) NotThere (width o))) (sym (same.width (net_of run)))

pub net_found : {A : Type 0} (old lines : List Line) (w : ℕ) (form : ℕ → Form A) (text : List ℕ) (spot : Spot) (net : ℕ) (behind : Spot) → SameWidths old lines → TakesOperand lines (Exactly w) text spot net behind
    → found (net_form old (λ v. v == w) form) text spot ≡ found (form net) text behind
net_found old lines w form text spot net behind same t =
    let run = run_from text spot in
    let takes : Takes (operand_test old (length old) (λ v. v == w)) net_of text spot net behind =
    record { leads = t.leads ∙ ap (λ (o : Option Rule). past o (length run) spot) (operand_same old lines (λ v. v == w) run same); tells = t.tells } in
    taken_found (operand_test old (length old) (λ v. v == w)) net_of form text spot net behind takes

-- the number that is due

pub net_tells : (run : List ℕ) (told : Option ℕ) → TellsNet run told → Tells (is_net run) (net_of run) told
net_tells run None t = t
net_tells run (Some n) t = t

pub number_tells : (run : List ℕ) (told : Option ℕ) → TellsNumber run told → Tells (is_number run) (value_of run) told
number_tells run None t = t
number_tells run (Some n) t = t

unit_is : (u : Unit {0}) → u ≡ tt
unit_is u = refl

pub net_judges : (lines : List Line) (count : ℕ) (due : Option ℕ) (run : List ℕ) (judged : Result (Unit {0}) Rule) → length lines ≡ count → Passes (due_test (is_net run) (net_of run) count due) judged
    → Judges (clocked_net_test lines (is_due due)) nothing_told run judged
net_judges lines count due run (Ok u) counted p = (ap (λ (k : ℕ). due_test (is_net run) (net_of run) k due) counted ∙ p, unit_is u)
net_judges lines count due run (Err rule) counted p = ap (λ (k : ℕ). due_test (is_net run) (net_of run) k due) counted ∙ p

pub memory_judges : (memories : List Memory) (count : ℕ) (due : Option ℕ) (run : List ℕ) (judged : Result (Unit {0}) Rule) → length memories ≡ count → Passes (due_test (is_number run) (value_of run) count due) judged
    → Judges (clocked_memory_test memories (is_due due)) nothing_told run judged
memory_judges memories count due run (Ok u) counted p = (ap (λ (k : ℕ). due_test (is_number run) (value_of run) k due) counted ∙ p, unit_is u)
memory_judges memories count due run (Err rule) counted p = ap (λ (k : ℕ). due_test (is_number run) (value_of run) k due) counted ∙ p

-- the parts of a clocked line

pub enabled_found : (text : List ℕ) (memories : List Memory) (old lines : List Line) (due : ℕ → Bool) (enable : ℕ) (spot enabled lettered end : Spot) → SameWidths old lines → TakesOperand lines (Exactly 1) text spot enable enabled
    → lettered ≡ fixed_from (codes ") m") text enabled → end ≡ hole_from (clocked_memory_test memories due) text lettered → found (clocked_memory_form memories old due Form.whole) text spot ≡ found (Form.whole enable) text end
enabled_found text memories old lines due enable spot enabled lettered end same net bracket memory =
    let name = λ (e : ℕ). (Form.hole (clocked_memory_test memories due) (λ run. Form.whole e)) in
    let later = λ (e : ℕ). (fixed (codes ") m") (name e)) in
    net_found old lines 1 later text spot enable enabled same net
    ∙ fixed_found (codes ") m") (name enable) text enabled lettered bracket
    ∙ hole_found (clocked_memory_test memories due) (λ run. Form.whole enable) text lettered end memory

pub other_net_found : (text : List ℕ) (lines : List Line) (none : ℕ) (spot begun named end : Spot) → begun ≡ fixed_from (codes "reset) ") text spot → named ≡ hole_from (clocked_net_test lines none_due) text begun
    → end ≡ refused Order named → found (other_net_form lines) text spot ≡ found (Form.whole none) text end
other_net_found text lines none spot begun named end word net ends =
    let refusal : Form ℕ = Form.refuse Order in
    fixed_found (codes "reset) ") (Form.hole (clocked_net_test lines none_due) (λ run. refusal)) text spot begun word
    ∙ hole_found (clocked_net_test lines none_due) (λ run. refusal) text begun named net
    ∙ refuse_found Order (Form.whole none) text named end ends

pub other_memory_found : (text : List ℕ) (memories : List Memory) (lines : List Line) (enable none : ℕ) (spot named end : Spot) → IsWithin text spot → IsWithin text named
    → found (clocked_memory_form memories lines none_due Form.whole) text spot ≡ found (Form.whole enable) text named → end ≡ refused Order named → found (other_memory_form memories lines) text spot ≡ found (Form.whole none) text end
other_memory_found text memories lines enable none spot named end in_spot in_named memory ends =
    let refusal : Form ℕ = Form.refuse Order in
    followed_found (clocked_memory_form memories lines none_due Form.whole) (λ e. refusal) text spot enable named in_spot in_named memory
    ∙ refuse_found Order (Form.whole none) text named end ends

pub next_found : (text : List ℕ) (old lines : List Line) (n w : ℕ) (reset : Val) (next : ℕ) (spot valued other named takes driven end : Spot) → SameWidths old lines → IsWithin text spot → IsWithin text valued
    → found (constant_form w) text spot ≡ found (Form.whole (Constant reset)) text valued → other ≡ fixed_from (codes "; else ") text valued
    → named ≡ hole_from (clocked_net_test old (λ k. k == n)) text other → takes ≡ fixed_from (codes " <= ") text named
    → TakesOperand lines (Exactly w) text takes next driven → end ≡ fixed_from (codes ";\n") text driven
    → found (next_form old n w) text spot ≡ found (Form.whole (line_of w (Reg reset next))) text end
next_found text old lines n w reset next spot valued other named takes driven end same in_spot in_valued value otherwise net sign driver ends =
    let told = λ (k : ℕ). (fixed (codes ";\n") (Form.whole (line_of w (Reg reset k)))) in
    let driven_form = net_form old (λ v. v == w) told in
    let sign_form = fixed (codes " <= ") driven_form in
    let later = λ (e : Equation). (fixed (codes "; else ") (Form.hole (clocked_net_test old (λ k. k == n)) (λ run. fixed (codes " <= ") (net_form old (λ v. v == w) (λ k. fixed (codes ";\n") (Form.whole (register_with w e k))))))) in
    followed_found (constant_form w) later text spot (Constant reset) valued in_spot in_valued value
    ∙ fixed_found (codes "; else ") (Form.hole (clocked_net_test old (λ k. k == n)) (λ run. sign_form)) text valued other otherwise
    ∙ hole_found (clocked_net_test old (λ k. k == n)) (λ run. sign_form) text other named net
    ∙ fixed_found (codes " <= ") driven_form text named takes sign
    ∙ net_found old lines w told text takes next driven same driver
    ∙ fixed_found (codes ";\n") (Form.whole (line_of w (Reg reset next))) text driven end ends

pub clocked_register_found : (text : List ℕ) (lines : List Line) (n w : ℕ) (line : Line) (spot begun named takes end : Spot) → begun ≡ fixed_from (codes "reset) ") text spot
    → named ≡ hole_from (clocked_net_test lines (λ k. k == n)) text begun → takes ≡ fixed_from (codes " <= ") text named
    → found (next_form lines n w) text takes ≡ found (Form.whole line) text end → found (clocked_register_form lines n w) text spot ≡ found (Form.whole line) text end
clocked_register_found text lines n w line spot begun named takes end word net sign next =
    let taken = fixed (codes " <= ") (next_form lines n w) in
    fixed_found (codes "reset) ") (Form.hole (clocked_net_test lines (λ k. k == n)) (λ run. taken)) text spot begun word
    ∙ hole_found (clocked_net_test lines (λ k. k == n)) (λ run. taken) text begun named net
    ∙ fixed_found (codes " <= ") (next_form lines n w) text named takes sign
    ∙ next

-- a clocked line from its first word on, by the byte behind its first bracket
pub always_found : {A : Type 0} (word : List ℕ) (register memory : Form A) (a : A) (text : List ℕ) (spot begun end : Spot) (t : Bool) → begun ≡ fixed_from word text spot → t ≡ is_next (codes "r") (next (ahead_of text begun))
    → found (cond t register memory) text begun ≡ found (Form.whole a) text end → found (fixed word (Form.turn (λ b. cond (is_next (codes "r") b) register memory))) text spot ≡ found (Form.whole a) text end
always_found word register memory a text spot begun end t begins is there =
    let turned = λ (b : Option ℕ). (cond (is_next (codes "r") b) register memory) in
    fixed_found word (Form.turn turned) text spot begun begins ∙ turn_found turned text begun (next (ahead_of text begun)) refl ∙ ap (λ (b : Bool). found (cond b register memory) text begun) (sym is) ∙ there

pub other_net_as : {A : Type 0} (a : A) (text : List ℕ) (lines : List Line) (none : ℕ) (spot end : Spot) → IsWithin text spot → IsWithin text end → found (other_net_form lines) text spot ≡ found (Form.whole none) text end
    → found (other_net_form lines) text spot ≡ found (Form.whole a) text end
other_net_as a text lines none spot end in_spot in_end e = followed_found (other_net_form lines) (λ (k : ℕ). Form.whole a) text spot none end in_spot in_end e

pub other_memory_as : {A : Type 0} (a : A) (text : List ℕ) (memories : List Memory) (lines : List Line) (none : ℕ) (spot end : Spot) → IsWithin text spot → IsWithin text end
    → found (other_memory_form memories lines) text spot ≡ found (Form.whole none) text end → found (other_memory_form memories lines) text spot ≡ found (Form.whole a) text end
other_memory_as a text memories lines none spot end in_spot in_end e = followed_found (other_memory_form memories lines) (λ (k : ℕ). Form.whole a) text spot none end in_spot in_end e

pub written_found : (text : List ℕ) (memories : List Memory) (old lines : List Line) (m : ℕ) (memory : Memory) (enable address word : ℕ) (spot named opened addressed takes worded end : Spot) → SameWidths old lines
    → IsWithin text spot → IsWithin text named → found (clocked_memory_form memories old (λ k. k == m) Form.whole) text spot ≡ found (Form.whole enable) text named → opened ≡ fixed_from (codes "[") text named
    → TakesOperand lines (Exactly memory.address_bits) text opened address addressed → takes ≡ fixed_from (codes "] <= ") text addressed
    → TakesOperand lines (Exactly memory.width) text takes word worded → end ≡ fixed_from (codes ";\n") text worded
    → found (written_memory_form memories old m memory) text spot ≡ found (Form.whole (write_of enable address word)) text end
written_found text memories old lines m memory enable address word spot named opened addressed takes worded end same in_spot in_named enables bracket addresses sign words ends =
    let told = λ (e a k : ℕ). (fixed (codes ";\n") (Form.whole (write_of e a k))) in
    let word_form = λ (e a : ℕ). (net_form old (λ v. v == memory.width) (told e a)) in
    let sign_form = λ (e a : ℕ). (fixed (codes "] <= ") (word_form e a)) in
    let address_form = λ (e : ℕ). (net_form old (λ v. v == memory.address_bits) (sign_form e)) in
    let later = λ (e : ℕ). (fixed (codes "[") (address_form e)) in
    followed_found (clocked_memory_form memories old (λ k. k == m) Form.whole) later text spot enable named in_spot in_named enables
    ∙ fixed_found (codes "[") (address_form enable) text named opened bracket
    ∙ net_found old lines memory.address_bits (sign_form enable) text opened address addressed same addresses
    ∙ fixed_found (codes "] <= ") (word_form enable address) text addressed takes sign
    ∙ net_found old lines memory.width (told enable address) text takes word worded same words
    ∙ fixed_found (codes ";\n") (Form.whole (write_of enable address word)) text worded end ends

-- lines of outputs, and the last line

pub driver_found : (text : List ℕ) (old lines : List Line) (port : PortLine) (net : ℕ) (spot begun named takes driven end : Spot) → SameWidths old lines
    → begun ≡ fixed_from (codes "ssign ") text spot → named ≡ hole_from (output_test port.name) text begun → takes ≡ fixed_from (codes " = ") text named
    → TakesOperand lines (Exactly port.width) text takes net driven → end ≡ fixed_from (codes ";\n") text driven
    → found (driver_form old port) text spot ≡ found (Form.whole net) text end
driver_found text old lines port net spot begun named takes driven end same word name sign drives ends =
    let told = λ (k : ℕ). (fixed (codes ";\n") (Form.whole k)) in
    let net_told = net_form old (λ v. v == port.width) told in
    let sign_form = fixed (codes " = ") net_told in
    fixed_found (codes "ssign ") (Form.hole (output_test port.name) (λ run. sign_form)) text spot begun word
    ∙ hole_found (output_test port.name) (λ run. sign_form) text begun named name
    ∙ fixed_found (codes " = ") net_told text named takes sign
    ∙ net_found old lines port.width told text takes net driven same drives
    ∙ fixed_found (codes ";\n") (Form.whole net) text driven end ends

-- a line behind the nets, from its first blanks on, where no clocked line is due
pub none_clocked_found : {A : Type 0} (memories : List Memory) (lines : List Line) (assigned : Bool) (form : Form A) (a : A) (text : List ℕ) (spot begun end : Spot) (t : Bool) → begun ≡ fixed_from (codes "  a") text spot
    → t ≡ (is_next (codes "l") (next (ahead_of text begun)) && not assigned) → found (cond t (other_clocked_form memories lines) form) text begun ≡ found (Form.whole a) text end
    → found (fixed (codes "  a") (Form.turn (none_clocked_form memories lines assigned form))) text spot ≡ found (Form.whole a) text end
none_clocked_found {A} memories lines assigned form a text spot begun end t begins is there =
    let other : Form A = other_clocked_form memories lines in
    let turned = λ (b : Option ℕ). (cond (is_next (codes "l") b && not assigned) other form) in
    fixed_found (codes "  a") (Form.turn turned) text spot begun begins ∙ turn_found turned text begun (next (ahead_of text begun)) refl ∙ ap (λ (b : Bool). found (cond b other form) text begun) (sym is) ∙ there

pub late_name_found : {A : Type 0} (a : A) (text : List ℕ) (spot word end : Spot) → word ≡ fixed_from (codes "ssign ") text spot → end ≡ refused Name word
    → found (fixed (codes "ssign ") (Form.refuse Name)) text spot ≡ found (Form.whole a) text end
late_name_found {A} a text spot word end begins ends =
    let refusal : Form A = Form.refuse Name in
    fixed_found (codes "ssign ") refusal text spot word begins ∙ refuse_found Name (Form.whole a) text word end ends

pub last_found : (memories : List Memory) (lines : List Line) (assigned : Bool) (one : Netlist) (text : List ℕ) (spot end : Spot) (t : Bool) → t ≡ is_next (codes " ") (next (ahead_of text spot))
    → found (cond t (late_form memories lines assigned) (fixed (codes "endmodule\n") (Form.turn (nothing_form one)))) text spot ≡ found (Form.whole one) text end
    → found (last_form memories lines assigned one) text spot ≡ found (Form.whole one) text end
last_found memories lines assigned one text spot end t is there =
    let late : Form Netlist = late_form memories lines assigned in
    let word = fixed (codes "endmodule\n") (Form.turn (nothing_form one)) in
    let turned = λ (b : Option ℕ). (cond (is_next (codes " ") b) late word) in
    turn_found turned text spot (next (ahead_of text spot)) refl ∙ ap (λ (b : Bool). found (cond b late word) text spot) (sym is) ∙ there

pub ended_found : (one : Netlist) (text : List ℕ) (spot word end : Spot) → word ≡ fixed_from (codes "endmodule\n") text spot → found (Form.turn (nothing_form one)) text word ≡ found (Form.whole one) text end
    → found (fixed (codes "endmodule\n") (Form.turn (nothing_form one))) text spot ≡ found (Form.whole one) text end
ended_found one text spot word end begins ends = fixed_found (codes "endmodule\n") (Form.turn (nothing_form one)) text spot word begins ∙ ends

-- nothing stands behind the last line

pub nothing_found : (one : Netlist) (text : List ℕ) (spot : Spot) → next (ahead_of text spot) ≡ None → found (Form.turn (nothing_form one)) text spot ≡ found (Form.whole one) text spot
nothing_found one text spot none = turn_found (nothing_form one) text spot None (sym none)

pub more_found : (one : Netlist) (text : List ℕ) (spot end : Spot) (b : ℕ) → next (ahead_of text spot) ≡ Some b → end ≡ refused AfterEnd spot → found (Form.turn (nothing_form one)) text spot ≡ found (Form.whole one) text end
more_found one text spot end b some ends = turn_found (nothing_form one) text spot (Some b) (sym some) ∙ refuse_found AfterEnd (Form.whole one) text spot end ends
