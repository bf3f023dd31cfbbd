-- What the sections behind the nets find, line after line.
use Rattle.std.proofs.Common.{◌≡◌, ℕ, zero, suc, ◌+◌, ◌<◌, ◌||◌, Bool, true, false, List, [], ◌∷◌, ◌++◌, length, take, drop, get_or, set, slice_get, Option, Some, None, refl, sym, ap, subst, ◌∙◌, arith}
use Rattle.std.proofs.lemmas.List.{drop-set, drop-drop}
use Rattle.std.proofs.lemmas.Option.{slice_get-get_or}
use Rattle.std.specs.Prelude.{if◌then◌else◌}
use Rattle.std.proofs.Math.Seq.{take-suc-set, drop-cons}
use Rattle.std.proofs.Math.ListN.{length-set}
use Rattle.netlist.specs.declared.line.Line.{Line}
use Rattle.netlist.specs.declared.line.Memory.{Memory}
use Rattle.netlist.specs.declared.line.MemWrite.{MemWrite}
use Rattle.netlist.specs.declared.line.PortLine.{PortLine}
use Rattle.netlist.specs.Netlists.{width_at}
use Rattle.verilog_reader.specs.declared.spot.Spot.{Spot}
use Rattle.verilog_forms.specs.Forms.{Form}
use Rattle.verilog_reader.specs.Spots.{found, IsWithin}
use Rattle.verilog_forms.specs.ClockedLines.{write_form, assign_form}
use Rattle.verilog_forms.specs.WholeTexts.{listed, told, clocked_form, all_clocked_form, written, all_written_form, driven, all_driven_form}
use Rattle.verilog_reader.specs.ClockedParts.{SameWidths}
use Rattle.verilog_reader.specs.Sections.{Leads, driven_form}
use Rattle.verilog_reader.proofs.Steps.{here, followed_found}
use Rattle.verilog_reader.proofs.SectionSteps.{leads_on}

-- a net in place of another of its width
width_set : (xs : List Line) (n a : ℕ) (x line : Line) → slice_get xs n ≡ Some line → x.width ≡ line.width → width_at xs a ≡ width_at (set xs n x) a
width_set [] n a x line e w = cc
width_set (y ∷ ys) zero zero x line e w = cc
width_set (y ∷ ys) zero (suc a) x line e w = refl
width_set (y ∷ ys) (suc n) zero x line e w = refl
width_set (y ∷ ys) (suc n) (suc a) x line e w = width_set ys n a x line e w

pub widths_start : (old : List Line) → SameWidths old old
widths_start old = record { count = refl; width = λ a. refl }

pub widths_on : (old new : List Line) (n : ℕ) (x line : Line) → SameWidths old new → n < length new → line ≡ get_or new n line → x.width ≡ line.width → SameWidths old (set new n x)
widths_on old new n x line same inside is width = record {
  count = same.count ∙ sym (length-set new n x);
  width = λ a. same.width a ∙ width_set new n a x line (slice_get-get_or new n line inside ∙ ap (λ (l : Line). Some l) (sym is)) width;
}

-- the items from the next on are as before
pub todo_on : {X : Type 0} (old new : List X) (n : ℕ) (x : X) → n < length new → drop n new ≡ drop n old → drop (n + 1) (set new n x) ≡ drop (n + 1) old
todo_on old new n x inside e =
    sym (drop-drop 1 n (set new n x)) ∙ ap (drop 1) (drop-set new n x inside) ∙ sym (drop-drop 1 n new) ∙ ap (drop 1) e ∙ drop-drop 1 n old

pub here_item : {X : Type 0} (old new : List X) (n : ℕ) (x : X) → n < length new → drop n new ≡ drop n old → x ≡ get_or new n x → drop n old ≡ x ∷ drop (n + 1) old
here_item old new n x inside e is =
    let one : suc n ≡ n + 1 = omega arith in
    let now = drop-cons new n x inside in
    sym e ∙ now ∙ ap (λ y. y ∷ drop (suc n) new) (sym is) ∙ ap (λ (k : ℕ). x ∷ drop k new) one ∙ ap (λ ys. x ∷ ys) (sym (drop-drop 1 n new) ∙ ap (drop 1) e ∙ drop-drop 1 n old)

pub clocked_on : (all : List Memory) (old new : List Line) (text : List ℕ) (start spot behind : Spot) (n : ℕ) (line x : Line) → n < length new → IsWithin text spot → IsWithin text behind → drop n old ≡ line ∷ drop (n + 1) old
    → Leads (all_clocked_form all old 0 old) text start (take n new) (all_clocked_form all old n (drop n old)) spot → found (clocked_form all old n line) text spot ≡ found (Form.whole x) text behind
    → Leads (all_clocked_form all old 0 old) text start (take (n + 1) (set new n x)) (all_clocked_form all old (n + 1) (drop (n + 1) old)) behind
clocked_on all old new text start spot behind n line x inside from_ to_ at leads read =
    let form = all_clocked_form all old 0 old in
    let others = all_clocked_form all old (n + 1) (drop (n + 1) old) in
    let one : suc n ≡ n + 1 = omega arith in
    let at_here = subst (λ (ls : List Line). Leads form text start (take n new) (all_clocked_form all old n ls) spot) at leads in
    let on = leads_on form text start (take n new) (clocked_form all old n line) others spot x behind from_ to_ at_here read in
    subst (λ (ls : List Line). Leads form text start ls others behind) (sym (take-suc-set new n x inside) ∙ ap (λ (k : ℕ). take k (set new n x)) one) on

-- the writes of memories

pub told_found : {X Y : Type 0} (form : Form X) (make : X → Y) (text : List ℕ) (spot : Spot) (x : X) (behind : Spot) → IsWithin text spot → IsWithin text behind → found form text spot ≡ found (Form.whole x) text behind
    → found (told form make) text spot ≡ found (Form.whole (make x)) text behind
told_found form make text spot x behind from_ to_ e = followed_found form (λ y. Form.whole (make y)) text spot x behind from_ to_ e

pub written_on : (lines : List Line) (old new : List Memory) (text : List ℕ) (start spot behind : Spot) (m : ℕ) (memory : Memory) (write : MemWrite) → m < length new → IsWithin text spot → IsWithin text behind → drop m old ≡ memory ∷ drop (m + 1) old
    → Leads (all_written_form old lines 0 old) text start (take m new) (all_written_form old lines m (drop m old)) spot → found (write_form old lines m memory) text spot ≡ found (Form.whole write) text behind
    → Leads (all_written_form old lines 0 old) text start (take (m + 1) (set new m (written memory write))) (all_written_form old lines (m + 1) (drop (m + 1) old)) behind
written_on lines old new text start spot behind m memory write inside from_ to_ at leads read =
    let form = all_written_form old lines 0 old in
    let others = all_written_form old lines (m + 1) (drop (m + 1) old) in
    let one : suc m ≡ m + 1 = omega arith in
    let x = written memory write in
    let at_here = subst (λ (ms : List Memory). Leads form text start (take m new) (all_written_form old lines m ms) spot) at leads in
    let told_one = told_found (write_form old lines m memory) (written memory) text spot write behind from_ to_ read in
    let on = leads_on form text start (take m new) (told (write_form old lines m memory) (written memory)) others spot x behind from_ to_ at_here told_one in
    subst (λ (ms : List Memory). Leads form text start ms others behind) (sym (take-suc-set new m x inside) ∙ ap (λ (k : ℕ). take k (set new m x)) one) on

-- the outputs

either_port : (memories : List Memory) (lines : List Line) (assigned t : Bool) (port : PortLine) (ports : List PortLine)
    → (if t then listed (told (assign_form memories lines assigned port) driven) (all_driven_form memories lines true ports) else listed (Form.whole None) (all_driven_form memories lines assigned ports))
    ≡ listed (if t then told (assign_form memories lines assigned port) driven else Form.whole None) (all_driven_form memories lines (assigned || t) ports)
either_port memories lines true true port ports = refl
either_port memories lines false true port ports = refl
either_port memories lines true false port ports = refl
either_port memories lines false false port ports = refl

pub driven_on : (memories : List Memory) (lines : List Line) (assigned : Bool) (all ports : List PortLine) (port : PortLine) (text : List ℕ) (start spot behind : Spot) (drivers : List (Option ℕ)) (x : Option ℕ) → IsWithin text spot → IsWithin text behind
    → Leads (all_driven_form memories lines false all) text start drivers (all_driven_form memories lines assigned (port ∷ ports)) spot → found (driven_form memories lines assigned port) text spot ≡ found (Form.whole x) text behind
    → Leads (all_driven_form memories lines false all) text start (drivers ++ x ∷ []) (all_driven_form memories lines (assigned || port.output) ports) behind
driven_on memories lines assigned all ports port text start spot behind drivers x from_ to_ leads read =
    let form = all_driven_form memories lines false all in
    let others = all_driven_form memories lines (assigned || port.output) ports in
    let at_here = subst (λ (f : Form (List (Option ℕ))). Leads form text start drivers f spot) (either_port memories lines assigned port.output port ports) leads in
    leads_on form text start drivers (driven_form memories lines assigned port) others spot x behind from_ to_ at_here read
