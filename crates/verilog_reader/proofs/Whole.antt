-- What a whole text finds is its module or its first fault.
use Rattle.std.proofs.Common.{◌≡◌, ℕ, List, [], drop, refl, sym, ap, subst, ◌∙◌, ◌-◌, ◌^◌, false, length, Option}
use Rattle.netlist.specs.declared.line.Line.{Line}
use Rattle.netlist.specs.declared.line.Memory.{Memory}
use Rattle.netlist.specs.Netlists.{Netlist, IsModule}
use Rattle.verilog_writer.specs.Text.{text_of}
use Rattle.verilog_forms.specs.declared.rule.Rule.{Rule}
use Rattle.verilog_forms.specs.declared.rule.Rule.TheVariants.{OtherByte, Name, Width, Spelling, NotThere, Bounds, Depth, Order, AfterEnd, TooManyNets}
use Rattle.verilog_reader.specs.declared.spot.Spot.{Spot}
use Rattle.verilog_reader.specs.declared.spot.Spot.TheVariants.{At, Flawed}
use Rattle.verilog_forms.specs.Forms.{Form, Reads, HasFault, followed}
use Rattle.verilog_forms.specs.Walks.{walk}
use Rattle.verilog_reader.specs.Spots.{found, IsWithin}
use Rattle.verilog_forms.specs.Headers.{header_form}
use Rattle.verilog_forms.specs.WholeTexts.{memories_form, inputs_form, nets_form, all_clocked_form, all_written_form, all_driven_form, last_form, has_output, behind_nets_form, module_form}
use Rattle.verilog_reader.specs.Faults.{fault_of, IsTextFault, with_parts}
use Rattle.verilog_forms.specs.WalkLaws.{pushed_zero, walk_reads, walk_refuses, never_both, one_fault}
use Rattle.verilog_reader.proofs.Steps.{followed_found}

begun : {A : Type 0} (form : Form A) (text : List ℕ) → found form text (At 0) ≡ walk form text
unfolding found
begun form text = pushed_zero (walk form text)

pub reads_whole : (text : List ℕ) (one : Netlist) (k : ℕ) → found module_form text (At 0) ≡ found (Form.whole one) text (At k) → Reads module_form text one (drop k text)
unfolding found
reads_whole text one k e = walk_reads module_form text one (drop k text) (sym (begun module_form text) ∙ e)

pub breaks_whole : (text : List ℕ) (one : Netlist) (at : ℕ) (rule : Rule) → found module_form text (At 0) ≡ found (Form.whole one) text (Flawed at rule) → HasFault module_form text at rule
unfolding found
breaks_whole text one at rule e = walk_refuses module_form text at rule (sym (begun module_form text) ∙ e)

-- the fault that is told
pub fault_told : (text : List ℕ) (at : ℕ) (rule : Rule) → HasFault module_form text at rule → IsTextFault text (fault_of at rule)
fault_told text at OtherByte f = (OtherByte, refl, f)
fault_told text at Name f = (Name, refl, f)
fault_told text at Width f = (Width, refl, f)
fault_told text at Spelling f = (Spelling, refl, f)
fault_told text at NotThere f = (NotThere, refl, f)
fault_told text at Bounds f = (Bounds, refl, f)
fault_told text at Depth f = (Depth, refl, f)
fault_told text at Order f = (Order, refl, f)
fault_told text at AfterEnd f = (AfterEnd, refl, f)
fault_told text at TooManyNets f = (at, f)

pub same_fault : (text : List ℕ) (at place : ℕ) (rule other : Rule) → HasFault module_form text at rule → HasFault module_form text place other → fault_of at rule ≡ fault_of place other
same_fault text at place rule other x y =
    let same = one_fault module_form text at place rule other x y in ap (λ (k : ℕ). fault_of k rule) same.same_place ∙ ap (λ (r : Rule). fault_of place r) same.same_rule

-- the text of each module is read, and what is read is the text of a module
abbrev pub AllRead : Type 0
AllRead = (one : Netlist) → IsModule one → Reads module_form (text_of one) one []

abbrev pub AllSound : Type 0
AllSound = (one : Netlist) (text rest : List ℕ) → Reads module_form text one rest → IsModule one × (text ≡ text_of one) × (rest ≡ [])

-- a module's text has no fault, and a text that is read has none
pub no_fault : AllRead → (text : List ℕ) (one : Netlist) (at : ℕ) (rule : Rule) → IsModule one → text ≡ text_of one → HasFault module_form text at rule → ⊥
no_fault module_read text one at rule is e f = never_both module_form text one [] at rule (subst (λ (t : List ℕ). Reads module_form t one []) (sym e) (module_read one is)) f

pub good_whole : AllSound → (text : List ℕ) (one : Netlist) (k : ℕ) → found module_form text (At 0) ≡ found (Form.whole one) text (At k) → IsModule one × (text ≡ text_of one)
good_whole module_sound text one k e = let sound = module_sound one text (drop k text) (reads_whole text one k e) in (sound.0, sound.1)

-- the sections behind the nets

pub behind_found : (header : Netlist) (memories stored : List Memory) (lines clocked : List Line) (drivers : List (Option ℕ)) (text : List ℕ) (start behind written driven end : Spot)
    → IsWithin text start → IsWithin text behind → IsWithin text written → IsWithin text driven
    → found (all_clocked_form memories lines 0 lines) text start ≡ found (Form.whole clocked) text behind
    → found (all_written_form memories lines 0 memories) text behind ≡ found (Form.whole stored) text written
    → found (all_driven_form memories lines false header.ports) text written ≡ found (Form.whole drivers) text driven
    → found (last_form memories lines (has_output header.ports) (with_parts header clocked drivers stored)) text driven ≡ found (Form.whole (with_parts header clocked drivers stored)) text end
    → found (behind_nets_form header memories lines) text start ≡ found (Form.whole (with_parts header clocked drivers stored)) text end
behind_found header memories stored lines clocked drivers text start behind written driven end at_start at_behind at_written at_driven clocks writes drives ends =
    let last = λ (c : List Line) (s : List Memory) (d : List (Option ℕ)). (last_form memories lines (has_output header.ports) (with_parts header c d s)) in
    let outputs = λ (c : List Line) (s : List Memory). (followed (all_driven_form memories lines false header.ports) (last c s)) in
    let stores = λ (c : List Line). (followed (all_written_form memories lines 0 memories) (outputs c)) in
    followed_found (all_clocked_form memories lines 0 lines) stores text start clocked behind at_start at_behind clocks
    ∙ followed_found (all_written_form memories lines 0 memories) (outputs clocked) text behind stored written at_behind at_written writes
    ∙ followed_found (all_driven_form memories lines false header.ports) (last clocked stored) text written drivers driven at_written at_driven drives
    ∙ ends

-- the sections of a whole text
pub module_found : (header one : Netlist) (memories : List Memory) (inputs lines : List Line) (text : List ℕ) (start headed declared fed netted end : Spot)
    → IsWithin text start → IsWithin text headed → IsWithin text declared → IsWithin text fed → IsWithin text netted
    → found header_form text start ≡ found (Form.whole header) text headed
    → ((most : ℕ) → most ≡ 2 ^ 16 → found (memories_form most 0) text headed ≡ found (Form.whole memories) text declared)
    → found (inputs_form 0 0 header.ports) text declared ≡ found (Form.whole inputs) text fed
    → found (nets_form (2 ^ 20 - length inputs) memories inputs) text fed ≡ found (Form.whole lines) text netted
    → found (behind_nets_form header memories lines) text netted ≡ found (Form.whole one) text end
    → found module_form text start ≡ found (Form.whole one) text end
module_found header one memories inputs lines text start headed declared fed netted end at_start at_headed at_declared at_fed at_netted heads stores feeds nets behind =
    let later = λ (h : Netlist) (ms : List Memory) (ls : List Line). (behind_nets_form h ms ls) in
    let listed = λ (h : Netlist) (ms : List Memory) (ls : List Line). (followed (nets_form (2 ^ 20 - length ls) ms ls) (later h ms)) in
    let fed_ = λ (h : Netlist) (ms : List Memory). (followed (inputs_form 0 0 h.ports) (listed h ms)) in
    let stored = λ (h : Netlist). (followed (memories_form (2 ^ 16) 0) (fed_ h)) in
    followed_found header_form stored text start header headed at_start at_headed heads
    ∙ followed_found (memories_form (2 ^ 16) 0) (fed_ header) text headed memories declared at_headed at_declared (stores (2 ^ 16) refl)
    ∙ followed_found (inputs_form 0 0 header.ports) (listed header memories) text declared inputs fed at_declared at_fed feeds
    ∙ followed_found (nets_form (2 ^ 20 - length inputs) memories inputs) (later header memories) text fed lines netted at_fed at_netted nets
    ∙ behind
