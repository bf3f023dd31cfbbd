-- The forms of a port's line and of the header read exactly those of modules.
use Rattle.std.proofs.Common.{◌≡◌, ◌≢◌, ℕ, zero, suc, ◌-◌, ◌<◌, ◌≤◌, ◌^◌, ◌&&◌, ◌||◌, Bool, true, false, not, List, [], ◌∷◌, ◌++◌, length, Option, None, inl, inr, refl, sym, ap, subst, ◌∙◌, arith, codes, append_assoc}
use Rattle.std.specs.Prelude.{All, AllPairs, nat_eq, if◌then◌else◌}
use Rattle.std.specs.List.{list_all, list_any, ends_with}
use Rattle.std.proofs.lemmas.Bool.{and_parts, not-true}
use Rattle.std.proofs.lemmas.List.{append-nil}
use Rattle.std.proofs.lemmas.List.Elements.{All-cons, All-head, All-tail, All-push}
use Rattle.std.proofs.lemmas.List.Quantifiers.{all_pairs_push}
use Rattle.std.proofs.lemmas.Option.{get_or_from_slice_get, slice_get_within}
use Rattle.netlist.specs.Names.{IsModuleName, IsPortName, begins_with_letter, is_name_byte, is_dollar}
use Rattle.netlist.specs.declared.line.PortLine.{PortLine}
use Rattle.netlist.specs.Netlists.{Netlist, IsHeader, started}
use Rattle.verilog_writer.specs.Text.{port_text, ports_text, range_text, header_text}
use Rattle.verilog_forms.specs.declared.rule.Rule.{Rule}
use Rattle.verilog_forms.specs.declared.rule.Rule.TheVariants.{Name}
use Rattle.verilog_forms.specs.Forms.{Form, next, ends_hole, fixed, followed, IsHole, Due, Reads}
use Rattle.verilog_forms.specs.RightSides.{same_bytes}
use Rattle.verilog_forms.specs.WireLines.{range_form}
use Rattle.verilog_forms.specs.Headers.{is_next, module_name_test, is_named, port_name_test, port_of, described_form, direction_form, port_form, ports_form, header_form, IsNextPort}
use Rattle.verilog_forms.proofs.Nets.{slice_get-some, all-slice_get, slice_get-middle, slice_get-left}
use Rattle.verilog_forms.specs.Spellings.{true_false, same-refl, same_equal}
use Rattle.verilog_forms.proofs.Texts.{name_bytes}
use Rattle.verilog_forms.proofs.RightReads.{fixed_due}
use Rattle.verilog_forms.specs.Walked.{inverted, Walked}
use Rattle.verilog_forms.proofs.RightSound.{unless_held, cond_walked, fixed_walked}
use Rattle.verilog_forms.proofs.Followed.{followed_walked, then_due, ranged_due, ranged_walked}

-- names

same_as : (cs ds : List ℕ) (b : Bool) → same_bytes cs ds ≡ b → cs ≢ ds → same_bytes cs ds ≡ false
same_as cs ds true e other = absurd (other (same_equal cs ds e))
same_as cs ds false e other = e

unnamed : (name : List ℕ) (ports : List PortLine) → All (λ (other : PortLine). other.name ≢ name) ports → is_named name ports ≡ false
unnamed name [] new = refl
unnamed name (p ∷ ps) new =
    rw (same_as p.name name (same_bytes p.name name) refl (All-head (λ (other : PortLine). other.name ≢ name) p ps new), unnamed name ps (All-tail (λ (other : PortLine). other.name ≢ name) p ps new)) refl

pub or_parts : (x y : Bool) → (x || y) ≡ false → (x ≡ false) × (y ≡ false)
or_parts true y e = absurd (true_false e)
or_parts false y e = (refl, e)

all_none : {X : Type 0} (P : X → Type 0) → All P []
all_none P i d h = absurd (omega (arith, h))

named_new : (name : List ℕ) (ports : List PortLine) → is_named name ports ≡ false → All (λ (other : PortLine). other.name ≢ name) ports
named_new name [] e = all_none _
named_new name (p ∷ ps) e =
    let parts = or_parts (same_bytes p.name name) (is_named name ps) e in
    let differs : p.name ≢ name = λ same. true_false (sym (ap (λ (n : List ℕ). same_bytes n name) same ∙ same-refl name) ∙ parts.0) in
    All-cons (λ (other : PortLine). other.name ≢ name) p ps differs (named_new name ps parts.1)

port_name_passes : (ports : List PortLine) (name : List ℕ) → IsPortName name → All (λ (other : PortLine). other.name ≢ name) ports → port_name_test ports name ≡ None
port_name_passes ports name is new = rw (is.first, is.dollar, unnamed name ports new) refl

module_name_passes : (name : List ℕ) → IsModuleName name → module_name_test name ≡ None
module_name_passes name is = rw (is.first, is.bytes, is.suffix) refl

-- a port's line is read

last_hole : {A : Type 0} (due : Form A) (rest : List ℕ) (test : List ℕ → Option Rule) (form : List ℕ → Form A) (run : List ℕ) → IsHole run rest → test run ≡ None → Due due rest (form run) [] → Due due rest (Form.hole test form) run
last_hole due rest test form run is none d = subst (λ (t : List ℕ). Due due rest (Form.hole test form) t) (append-nil run) (Due.hole test form run is none d)

described_due : (ports : List PortLine) (port : PortLine) (rest : List ℕ) → IsNextPort ports port → ends_hole rest ≡ true
    → Due (Form.whole port) rest (described_form ports port.output) (codes " wire " ++ (range_text port.width ++ (codes " " ++ port.name)))
described_due ports port rest is ends =
    let due = Form.whole port in
    let make = λ (w : ℕ). (fixed (codes " ") (Form.hole (port_name_test ports) (λ name. Form.whole (port_of name w port.output)))) in
    let named = last_hole due rest (port_name_test ports) (λ name. Form.whole (port_of name port.width port.output)) port.name (record { bytes = is.name.bytes; ends = ends }) (port_name_passes ports port.name is.name is.new) Due.nothing in
    let blank : Due due rest (make port.width) (codes " " ++ port.name) = fixed_due due rest (codes " ") _ port.name named in
    fixed_due due rest (codes " wire ") _ _ (ranged_due due rest make port.width (codes " " ++ port.name) is.some_bit is.small blank)

port_whole : (a b c d e f : List ℕ) → a ++ (b ++ (c ++ (d ++ (e ++ f)))) ≡ a ++ b ++ c ++ d ++ e ++ f
port_whole a b c d e f = simp append_assoc

port_due_as : (ports : List PortLine) (name : List ℕ) (w : ℕ) (output : Bool) (rest : List ℕ) → IsNextPort ports (port_of name w output) → ends_hole rest ≡ true
    → Due (Form.whole (port_of name w output)) rest (port_form ports) (port_text (port_of name w output))
port_due_as ports name w true rest is ends =
    let due = Form.whole (port_of name w true) in
    let word = fixed_due due rest (codes "output") (described_form ports true) _ (described_due ports (port_of name w true) rest is ends) in
    subst (λ (t : List ℕ). Due due rest (port_form ports) t) (port_whole (codes ",\n  ") (codes "output") (codes " wire ") (range_text w) (codes " ") name)
    (fixed_due due rest (codes ",\n  ") (Form.turn (direction_form ports)) _ (Due.turn (direction_form ports) word))
port_due_as ports name w false rest is ends =
    let due = Form.whole (port_of name w false) in
    let word = fixed_due due rest (codes "input") (described_form ports false) _ (described_due ports (port_of name w false) rest is ends) in
    subst (λ (t : List ℕ). Due due rest (port_form ports) t) (port_whole (codes ",\n  ") (codes "input") (codes " wire ") (range_text w) (codes " ") name)
    (fixed_due due rest (codes ",\n  ") (Form.turn (direction_form ports)) _ (Due.turn (direction_form ports) word))

pub port_due : (ports : List PortLine) (port : PortLine) (rest : List ℕ) → IsNextPort ports port → ends_hole rest ≡ true → Due (Form.whole port) rest (port_form ports) (port_text port)
port_due ports port rest is ends = port_due_as ports port.name port.width port.output rest is ends

pub port_read : (ports : List PortLine) (port : PortLine) (rest : List ℕ) → IsNextPort ports port → ends_hole rest ≡ true → Reads (port_form ports) (port_text port ++ rest) port rest
port_read ports port rest is ends = record { front = port_text port; parts = refl; good = port_due ports port rest is ends }

-- and what is read is one

pub record PortMeaning (ports : List PortLine) (port : PortLine) (front : List ℕ) : Type 0 where
  pub spelled : front ≡ port_text port
  pub is : IsNextPort ports port

described_walked : (ports : List PortLine) (output : Bool) (port : PortLine) (rest front : List ℕ) → Walked port rest (described_form ports output) front
    → (front ≡ codes " wire " ++ (range_text port.width ++ (codes " " ++ port.name))) × IsNextPort ports port × (port.output ≡ output)
described_walked ports output port rest front d =
    let wire = fixed_walked port rest (codes " wire ") (range_form (λ w. fixed (codes " ") (Form.hole (port_name_test ports) (λ name. Form.whole (port_of name w output))))) front d in
    let range = ranged_walked port rest (λ w. fixed (codes " ") (Form.hole (port_name_test ports) (λ name. Form.whole (port_of name w output)))) wire.0 wire.2 in
    let blank = fixed_walked port rest (codes " ") (Form.hole (port_name_test ports) (λ name. Form.whole (port_of name range.width output))) range.later range.walked in
    let (run, after, parts, none, walked, ends) = inverted port refl blank.2 in
    let last = inverted port refl walked in
    let held = unless_held (begins_with_letter run && (list_any is_dollar run && not (is_named run ports))) Name None none in
    let two = and_parts (begins_with_letter run) (list_any is_dollar run && not (is_named run ports)) held.0 in
    let three = and_parts (list_any is_dollar run) (not (is_named run ports)) two.1 in
    let name : blank.0 ≡ run = parts ∙ ap (λ (t : List ℕ). run ++ t) last.1 ∙ append-nil run in
    let text : front ≡ codes " wire " ++ (range_text range.width ++ (codes " " ++ run)) =
    wire.1 ∙ ap (λ (t : List ℕ). codes " wire " ++ t) (range.spelled ∙ ap (λ (t : List ℕ). range_text range.width ++ t) (blank.1 ∙ ap (λ (t : List ℕ). codes " " ++ t) name)) in
    let next : IsNextPort ports (port_of run range.width output) =
    record { name = record { first = two.0; bytes = ends.bytes; dollar = three.0 }; new = named_new run ports (not-true (is_named run ports) three.1); some_bit = range.some_bit; small = range.small } in
    subst (λ (p : PortLine). (front ≡ codes " wire " ++ (range_text p.width ++ (codes " " ++ p.name))) × IsNextPort ports p × (p.output ≡ output)) last.0 (text, next, refl)

port_shaped : (name : List ℕ) (w : ℕ) (output : Bool) (b : Bool) (front : List ℕ) → output ≡ b
    → front ≡ codes ",\n  " ++ ((if b then codes "output" else codes "input") ++ (codes " wire " ++ (range_text w ++ (codes " " ++ name)))) → front ≡ port_text (port_of name w output)
port_shaped name w output b front same is =
    is ∙ port_whole (codes ",\n  ") (if b then codes "output" else codes "input") (codes " wire ") (range_text w) (codes " ") name ∙ ap (λ (out : Bool). port_text (port_of name w out)) (sym same)

pub port_walked : (ports : List PortLine) (port : PortLine) (rest front : List ℕ) → Walked port rest (port_form ports) front → PortMeaning ports port front
port_walked ports port rest front d =
    let begun = fixed_walked port rest (codes ",\n  ") (Form.turn (direction_form ports)) front d in
    elim (cond_walked port rest (is_next (codes "o") (next (begun.0 ++ rest))) (fixed (codes "output") (described_form ports true)) (fixed (codes "input") (described_form ports false)) begun.0 (inverted port refl begun.2)) [
      | inl out ↦
          let word = fixed_walked port rest (codes "output") (described_form ports true) begun.0 out in
          let more = described_walked ports true port rest word.0 word.2 in
          let text = begun.1 ∙ ap (λ (t : List ℕ). codes ",\n  " ++ t) (word.1 ∙ ap (λ (t : List ℕ). codes "output" ++ t) more.0) in
          record { spelled = port_shaped port.name port.width port.output true front more.2 text; is = more.1 }
      | inr into ↦
          let word = fixed_walked port rest (codes "input") (described_form ports false) begun.0 into in
          let more = described_walked ports false port rest word.0 word.2 in
          let text = begun.1 ∙ ap (λ (t : List ℕ). codes ",\n  " ++ t) (word.1 ∙ ap (λ (t : List ℕ). codes "input" ++ t) more.0) in
          record { spelled = port_shaped port.name port.width port.output false front more.2 text; is = more.1 }
    ]

pub port_sound : (ports : List PortLine) (port : PortLine) (text rest : List ℕ) → Reads (port_form ports) text port rest → (text ≡ port_text port ++ rest) × IsNextPort ports port
port_sound ports port text rest r =
    let m = port_walked ports port rest r.front r.good in
    (r.parts ∙ ap (λ (t : List ℕ). t ++ rest) m.spelled, m.is)

-- ports in a row

abbrev AreNext : List PortLine → List PortLine → Type 0
AreNext done [] = Unit {0}
AreNext done (p ∷ ps) = IsNextPort done p × AreNext (done ++ p ∷ []) ps

pub pushed_same : {X : Type 0} (done : List X) (x : X) (xs : List X) → (done ++ x ∷ []) ++ xs ≡ done ++ x ∷ xs
pushed_same done x xs = append_assoc done (x ∷ []) xs

ports_end : (ports : List PortLine) (rest : List ℕ) → ends_hole rest ≡ true → ends_hole (ports_text ports ++ rest) ≡ true
ports_end [] rest ends = ends
ports_end (p ∷ ps) rest ends = refl

ports_due : (few : ℕ) (done todo : List PortLine) (rest : List ℕ) → length todo ≤ few → is_next (codes ",") (next rest) ≡ false → ends_hole rest ≡ true → AreNext done todo
    → Due (Form.whole (done ++ todo)) rest (ports_form few done) (ports_text todo)
ports_due zero done [] rest fits stop ends are = subst (λ (x : List PortLine). Due (Form.whole x) rest (Form.whole done) []) (sym (append-nil done)) Due.nothing
ports_due zero done (p ∷ ps) rest fits stop ends are = absurd (omega (arith, fits))
ports_due (suc few) done [] rest fits stop ends are =
    let form = λ (b : Option ℕ). (if is_next (codes ",") b then followed (port_form done) (λ port. ports_form few (done ++ port ∷ [])) else Form.whole done) in
    let whole : Due (Form.whole (done ++ [])) rest (Form.whole done) [] = subst (λ (x : List PortLine). Due (Form.whole x) rest (Form.whole done) []) (sym (append-nil done)) Due.nothing in
    Due.turn form (subst (λ (t : Bool). Due (Form.whole (done ++ [])) rest (if t then followed (port_form done) (λ port. ports_form few (done ++ port ∷ [])) else Form.whole done) []) (sym stop) whole)
ports_due (suc few) done (p ∷ ps) rest fits stop ends are =
    let form = λ (b : Option ℕ). (if is_next (codes ",") b then followed (port_form done) (λ port. ports_form few (done ++ port ∷ [])) else Form.whole done) in
    let due = Form.whole (done ++ p ∷ ps) in
    let fewer : length ps ≤ few = omega (arith, fits) in
    let more : Due due rest (ports_form few (done ++ p ∷ [])) (ports_text ps) =
    subst (λ (x : List PortLine). Due (Form.whole x) rest (ports_form few (done ++ p ∷ [])) (ports_text ps)) (pushed_same done p ps) (ports_due few (done ++ p ∷ []) ps rest fewer stop ends are.1) in
    let here = port_due done p (ports_text ps ++ rest) are.0 (ports_end ps rest ends) in
    Due.turn form (then_due (port_form done) (λ port. ports_form few (done ++ port ∷ [])) p due rest (port_text p) (ports_text ps) here more)

record PortsRead (few : ℕ) (done all : List PortLine) (front : List ℕ) : Type 0 where
  pub todo : List PortLine
  pub is : all ≡ done ++ todo
  pub spelled : front ≡ ports_text todo
  pub next : AreNext done todo
  pub fits : length todo ≤ few

none_read : (few : ℕ) (done all : List PortLine) (rest front : List ℕ) → Walked all rest (Form.whole done) front → PortsRead few done all front
none_read few done all rest front d =
    let last = inverted all refl d in
    record { todo = []; is = sym last.0 ∙ sym (append-nil done); spelled = last.1; next = tt; fits = omega arith }

ports_walked : (few : ℕ) (done all : List PortLine) (rest front : List ℕ) → Walked all rest (ports_form few done) front → PortsRead few done all front
ports_walked zero done all rest front d = none_read zero done all rest front d
ports_walked (suc few) done all rest front d =
    elim (cond_walked all rest (is_next (codes ",") (next (front ++ rest))) (followed (port_form done) (λ port. ports_form few (done ++ port ∷ []))) (Form.whole done) front (inverted all refl d)) [
      | inl comma ↦
          let apart = followed_walked all rest (port_form done) (λ port. ports_form few (done ++ port ∷ [])) front comma in
          let p = apart.value in
          let here = port_walked done p (apart.behind ++ rest) apart.ahead apart.first in
          let more = ports_walked few (done ++ p ∷ []) all rest apart.behind apart.second in
          record {
            todo = p ∷ more.todo;
            is = more.is ∙ pushed_same done p more.todo;
            spelled = apart.parts ∙ ap (λ (t : List ℕ). t ++ apart.behind) here.spelled ∙ ap (λ (t : List ℕ). port_text p ++ t) more.spelled;
            next = (here.is, more.next);
            fits = omega (arith, more.fits);
          }
      | inr whole ↦ none_read (suc few) done all rest front whole
    ]

-- what the header of a module asks of its ports

record Ports (ports : List PortLine) : Type 0 where
  pub names : All (λ (port : PortLine). IsPortName port.name) ports
  pub distinct : AllPairs (λ (p q : PortLine). p.name ≢ q.name) ports
  pub widths : All (λ (port : PortLine). (1 ≤ port.width) × (port.width ≤ 128)) ports

one_more : (done : List PortLine) (p : PortLine) → Ports done → IsNextPort done p → Ports (done ++ p ∷ [])
one_more done p are is = record {
  names = All-push (λ (port : PortLine). IsPortName port.name) done p are.names is.name;
  distinct = all_pairs_push (λ (x y : PortLine). x.name ≢ y.name) done p are.distinct is.new;
  widths = All-push (λ (port : PortLine). (1 ≤ port.width) × (port.width ≤ 128)) done p are.widths (is.some_bit, is.small);
}

all_ports : (done todo : List PortLine) → Ports done → AreNext done todo → Ports (done ++ todo)
all_ports done [] are next = subst Ports (sym (append-nil done)) are
all_ports done (p ∷ ps) are next = subst Ports (pushed_same done p ps) (all_ports (done ++ p ∷ []) ps (one_more done p are next.0) next.1)

-- the port behind these of a header is a next one
one_next : (done : List PortLine) (p : PortLine) (ps : List PortLine) → Ports (done ++ p ∷ ps) → IsNextPort done p
one_next done p ps are =
    let all = done ++ p ∷ ps in
    let at = slice_get-middle done p ps in
    let widths = all-slice_get (λ (port : PortLine). (1 ≤ port.width) × (port.width ≤ 128)) all (length done) p are.widths at in
    record {
      name = all-slice_get (λ (port : PortLine). IsPortName port.name) all (length done) p are.names at;
      new = λ i d h. (
          let there = slice_get-some done i h in
          let left = get_or_from_slice_get all i there.0 d (slice_get-left done (p ∷ ps) i there.0 there.1) in
          let own = get_or_from_slice_get done i there.0 d there.1 in
          let right = get_or_from_slice_get all (length done) p d at in
          let differ = are.distinct i (length done) d h (slice_get_within all (length done) p at) in
          λ same. (differ (ap (λ (port : PortLine). port.name) (left ∙ sym own) ∙ same ∙ sym (ap (λ (port : PortLine). port.name) right)))
          );
      some_bit = widths.0;
      small = widths.1;
    }

each_next : (done todo : List PortLine) → Ports (done ++ todo) → AreNext done todo
each_next done [] are = tt
each_next done (p ∷ ps) are = (one_next done p ps are, each_next (done ++ p ∷ []) ps (subst Ports (sym (pushed_same done p ps)) are))

-- the header

no_ports : Ports []
no_ports = record { names = all_none _; distinct = λ i j d h g. absurd (omega (arith, g)); widths = all_none _ }

pub five_together : (a b c d e : List ℕ) → a ++ (b ++ (c ++ (d ++ e))) ≡ a ++ b ++ c ++ d ++ e
five_together a b c d e = simp append_assoc

pub header_due : (name : List ℕ) (ports : List PortLine) (rest : List ℕ) → IsHeader name ports → Due (Form.whole (started name ports)) rest header_form (header_text (started name ports))
header_due name ports rest is =
    let due = Form.whole (started name ports) in
    let few : length ports ≤ 2 ^ 32 - 1 = omega (arith, is.few) in
    let closed : Due due rest (fixed (codes "\n);\n") due) (codes "\n);\n") = fixed_due due rest (codes "\n);\n") due [] Due.nothing in
    let each = each_next [] ports (record { names = is.port_names; distinct = is.distinct; widths = is.widths }) in
    let listed = then_due (ports_form (2 ^ 32 - 1) []) (λ ps. fixed (codes "\n);\n") (Form.whole (started name ps))) ports due rest (ports_text ports) (codes "\n);\n")
    (ports_due (2 ^ 32 - 1) [] ports (codes "\n);\n" ++ rest) few refl refl each) closed in
    let opened = fixed_due due rest (codes " (\n  input wire clk,\n  input wire reset") _ _ listed in
    let named = Due.hole module_name_test (λ n. fixed (codes " (\n  input wire clk,\n  input wire reset") (followed (ports_form (2 ^ 32 - 1) []) (λ ps. fixed (codes "\n);\n") (Form.whole (started n ps))))) name
    (record { bytes = name_bytes name is.module_name.bytes; ends = refl }) (module_name_passes name is.module_name) opened in
    subst (λ (t : List ℕ). Due due rest header_form t) (five_together (codes "module ") name (codes " (\n  input wire clk,\n  input wire reset") (ports_text ports) (codes "\n);\n"))
    (fixed_due due rest (codes "module ") _ _ named)

pub record HeaderMeaning (one : Netlist) (front : List ℕ) : Type 0 where
  pub begun : one ≡ started one.name one.ports
  pub spelled : front ≡ header_text one
  pub is : IsHeader one.name one.ports

pub header_walked : (one : Netlist) (rest front : List ℕ) → Walked one rest header_form front → HeaderMeaning one front
header_walked one rest front d =
    let begun = fixed_walked one rest (codes "module ") _ front d in
    let (name, left, parts, none, walked, ends) = inverted one refl begun.2 in
    let opened = fixed_walked one rest (codes " (\n  input wire clk,\n  input wire reset") (followed (ports_form (2 ^ 32 - 1) []) (λ ps. fixed (codes "\n);\n") (Form.whole (started name ps)))) left walked in
    let apart = followed_walked one rest (ports_form (2 ^ 32 - 1) []) (λ ps. fixed (codes "\n);\n") (Form.whole (started name ps))) opened.0 opened.2 in
    let listed = ports_walked (2 ^ 32 - 1) [] apart.value (apart.behind ++ rest) apart.ahead apart.first in
    let closed = fixed_walked one rest (codes "\n);\n") (Form.whole (started name apart.value)) apart.behind apart.second in
    let last = inverted one refl closed.2 in
    let held = unless_held (begins_with_letter name && (list_all is_name_byte name && ends_with nat_eq name (codes "_interconnect"))) Name None none in
    let two = and_parts (begins_with_letter name) (list_all is_name_byte name && ends_with nat_eq name (codes "_interconnect")) held.0 in
    let three = and_parts (list_all is_name_byte name) (ends_with nat_eq name (codes "_interconnect")) two.1 in
    let ports : apart.value ≡ listed.todo = listed.is in
    let are = all_ports [] listed.todo no_ports listed.next in
    let few : length listed.todo < 2 ^ 32 = omega (arith, listed.fits) in
    let header : IsHeader name listed.todo =
    record { module_name = record { first = two.0; bytes = three.0; suffix = three.1 }; port_names = are.names; distinct = are.distinct; widths = are.widths; few = few } in
    let end_ : apart.behind ≡ codes "\n);\n" = closed.1 ∙ ap (λ (t : List ℕ). codes "\n);\n" ++ t) last.1 in
    let tail : opened.0 ≡ ports_text listed.todo ++ codes "\n);\n" = apart.parts ∙ ap (λ (t : List ℕ). t ++ apart.behind) listed.spelled ∙ ap (λ (t : List ℕ). ports_text listed.todo ++ t) end_ in
    let text : front ≡ header_text (started name listed.todo) =
    begun.1 ∙ ap (λ (t : List ℕ). codes "module " ++ t) (parts ∙ ap (λ (t : List ℕ). name ++ t) (opened.1 ∙ ap (λ (t : List ℕ). codes " (\n  input wire clk,\n  input wire reset" ++ t) tail))
    ∙ five_together (codes "module ") name (codes " (\n  input wire clk,\n  input wire reset") (ports_text listed.todo) (codes "\n);\n") in
    let is : started name listed.todo ≡ one = ap (started name) (sym ports) ∙ last.0 in
    subst (λ (x : Netlist). HeaderMeaning x front) is (record { begun = refl; spelled = text; is = header })

pub header_read : (name : List ℕ) (ports : List PortLine) (rest : List ℕ) → IsHeader name ports → Reads header_form (header_text (started name ports) ++ rest) (started name ports) rest
header_read name ports rest is = record { front = header_text (started name ports); parts = refl; good = header_due name ports rest is }

pub header_sound : (one : Netlist) (text rest : List ℕ) → Reads header_form text one rest → (one ≡ started one.name one.ports) × (text ≡ header_text one ++ rest) × IsHeader one.name one.ports
header_sound one text rest r =
    let m = header_walked one rest r.front r.good in
    (m.begun, r.parts ∙ ap (λ (t : List ℕ). t ++ rest) m.spelled, m.is)
