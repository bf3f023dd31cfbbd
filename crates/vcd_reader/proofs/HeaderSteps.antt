-- The header, step by step.
use Rattle.std.proofs.Common.{◌≡◌, ℕ, zero, suc, ◌+◌, ◌<◌, ◌≤◌, ◌==◌, Bool, true, false, List, [], ◌∷◌, ◌++◌, length, length-append, Option, codes, refl, sym, ap, ◌∙◌, arith}
use Rattle.av_base.specs.Word.{Word}
use Rattle.vcd_text.specs.declared.port.DumpPort.{DumpPort}
use Rattle.vcd_text.specs.Dumps.{widths_of}
use Rattle.vcd_reader.specs.declared.faults.Stop.{Stop}
use Rattle.vcd_reader.specs.declared.rule.Rule.{Rule}
use Rattle.vcd_reader.specs.declared.rule.Rule.TheVariants.{Name, Width, Code}
use Rattle.vcd_reader.specs.Found.{Found, followed, fixed, hole}
use Rattle.vcd_reader.specs.Spellings.{is_of_name, is_of_number, is_of_code, number_in, module_name_in, port_name_in, port_in}
use Rattle.vcd_reader.specs.Readings.{begins, port_line, port_lines, row_lines, dump_read}
use Rattle.vcd_reader.specs.Reads.{port_follows, IsStop}
use Rattle.vcd_reader.proofs.Told.{parted, same_told, fixed_told, hole_told}

-- ---- the line of a port

pub code_breaks : (ports : List DumpPort) (a b c d e : List ℕ) (width : ℕ) (rule : Rule) → fixed (codes "var wire ") a ≡ Found.told tt b → hole is_of_number Width (number_in 0 128) b ≡ Found.told width c → fixed (codes " ") c ≡ Found.told tt d
    → hole is_of_code Code (port_in (λ k. k == length ports)) d ≡ Found.broken e rule → port_line ports a ≡ Found.broken e rule
code_breaks ports a b c d e width rule words number blank code = rw (words, number, blank, code) refl

pub blank_breaks : (ports : List DumpPort) (a b c d e f : List ℕ) (width port : ℕ) (rule : Rule) → fixed (codes "var wire ") a ≡ Found.told tt b → hole is_of_number Width (number_in 0 128) b ≡ Found.told width c → fixed (codes " ") c ≡ Found.told tt d
    → hole is_of_code Code (port_in (λ k. k == length ports)) d ≡ Found.told port e → fixed (codes " ") e ≡ Found.broken f rule → port_line ports a ≡ Found.broken f rule
blank_breaks ports a b c d e f width port rule words number blank code other = rw (words, number, blank, code, other) refl

pub name_breaks : (ports : List DumpPort) (a b c d e f g : List ℕ) (width port : ℕ) (rule : Rule) → fixed (codes "var wire ") a ≡ Found.told tt b → hole is_of_number Width (number_in 0 128) b ≡ Found.told width c → fixed (codes " ") c ≡ Found.told tt d
    → hole is_of_code Code (port_in (λ k. k == length ports)) d ≡ Found.told port e → fixed (codes " ") e ≡ Found.told tt f → hole is_of_name Name (port_name_in ports) f ≡ Found.broken g rule → port_line ports a ≡ Found.broken g rule
name_breaks ports a b c d e f g width port rule words number blank code other named = rw (words, number, blank, code, other, named) refl

pub end_breaks : (ports : List DumpPort) (a b c d e f g h : List ℕ) (width port : ℕ) (name : List ℕ) (rule : Rule) → fixed (codes "var wire ") a ≡ Found.told tt b → hole is_of_number Width (number_in 0 128) b ≡ Found.told width c → fixed (codes " ") c ≡ Found.told tt d
    → hole is_of_code Code (port_in (λ k. k == length ports)) d ≡ Found.told port e → fixed (codes " ") e ≡ Found.told tt f → hole is_of_name Name (port_name_in ports) f ≡ Found.told name g → fixed (codes " $end\n") g ≡ Found.broken h rule
    → port_line ports a ≡ Found.broken h rule
end_breaks ports a b c d e f g h width port name rule words number blank code other named end_ = rw (words, number, blank, code, other, named, end_) refl

pub port_told : (ports : List DumpPort) (a b c d e f g h : List ℕ) (width port : ℕ) (name : List ℕ) → fixed (codes "var wire ") a ≡ Found.told tt b → hole is_of_number Width (number_in 0 128) b ≡ Found.told width c → fixed (codes " ") c ≡ Found.told tt d
    → hole is_of_code Code (port_in (λ k. k == length ports)) d ≡ Found.told port e → fixed (codes " ") e ≡ Found.told tt f → hole is_of_name Name (port_name_in ports) f ≡ Found.told name g → fixed (codes " $end\n") g ≡ Found.told tt h
    → port_line ports a ≡ Found.told (record { name = name; width = width }) h
port_told ports a b c d e f g h width port name words number blank code other named end_ = rw (words, number, blank, code, other, named, end_) refl

-- ---- all lines of ports

pub shorter_fixed : (bs text rest : List ℕ) (u : Unit {0}) → fixed bs text ≡ Found.told u rest → length rest + length bs ≤ length text
shorter_fixed bs text rest u e = omega (arith, ap length (fixed_told bs text rest u e), length-append bs rest)

pub shorter_hole : {A : Type 0} (p : ℕ → Bool) (rule : Rule) (tells : List ℕ → Option A) (text : List ℕ) (a : A) (rest : List ℕ) → hole p rule tells text ≡ Found.told a rest → length rest ≤ length text
shorter_hole p rule tells text a rest e =
    let is = hole_told p rule tells text a rest e in
    omega (arith, ap length is.is, length-append is.run rest)

abbrev port_found : List ℕ → ℕ → List ℕ → Found DumpPort
port_found name width text = Found.told (record { name = name; width = width }) text

shorter_port : (ports : List DumpPort) (text : List ℕ) (port : DumpPort) (rest : List ℕ) → port_line ports text ≡ Found.told port rest → length rest ≤ length text
shorter_port ports text port rest e =
    let five = λ (width : ℕ) (name : List ℕ) (text : List ℕ). (followed (fixed (codes " $end\n") text) (λ _ text. port_found name width text)) in
    let four = λ (width : ℕ) (text : List ℕ). (followed (fixed (codes " ") text) (λ _ text. followed (hole is_of_name Name (port_name_in ports) text) (λ name text. five width name text))) in
    let three = λ (width : ℕ) (text : List ℕ). (followed (fixed (codes " ") text) (λ _ text. followed (hole is_of_code Code (port_in (λ k. k == length ports)) text) (λ _ text. four width text))) in
    let p1 = parted (fixed (codes "var wire ") text) (λ _ text. followed (hole is_of_number Width (number_in 0 128) text) (λ width text. three width text)) port rest e in
    let p2 = parted (hole is_of_number Width (number_in 0 128) p1.middle) (λ width text. three width text) port rest p1.later in
    let p3 = parted (fixed (codes " ") p2.middle) (λ _ text. followed (hole is_of_code Code (port_in (λ k. k == length ports)) text) (λ _ text. four p2.value text)) port rest p2.later in
    let p4 = parted (hole is_of_code Code (port_in (λ k. k == length ports)) p3.middle) (λ _ text. four p2.value text) port rest p3.later in
    let p5 = parted (fixed (codes " ") p4.middle) (λ _ text. followed (hole is_of_name Name (port_name_in ports) text) (λ name text. five p2.value name text)) port rest p4.later in
    let p6 = parted (hole is_of_name Name (port_name_in ports) p5.middle) (λ name text. five p2.value name text) port rest p5.later in
    let p7 = parted (fixed (codes " $end\n") p6.middle) (λ _ text. port_found p6.value p2.value text) port rest p6.later in
    let same = same_told (record { name = p6.value; width = p2.value }) port p7.middle rest p7.later in
    let s1 = shorter_fixed (codes "var wire ") text p1.middle p1.value p1.first in
    let s2 = shorter_hole is_of_number Width (number_in 0 128) p1.middle p2.value p2.middle p2.first in
    let s3 = shorter_fixed (codes " ") p2.middle p3.middle p3.value p3.first in
    let s4 = shorter_hole is_of_code Code (port_in (λ k. k == length ports)) p3.middle p4.value p4.middle p4.first in
    let s5 = shorter_fixed (codes " ") p4.middle p5.middle p5.value p5.first in
    let s6 = shorter_hole is_of_name Name (port_name_in ports) p5.middle p6.value p6.middle p6.first in
    let s7 = shorter_fixed (codes " $end\n") p6.middle p7.middle p7.value p7.first in
    omega (arith, ap length same.rest)

record Follows (text : List ℕ) (t : Bool) (rest : List ℕ) : Type 0 where
  is : fixed (codes "$") text ≡ Found.told tt rest
  test : begins 118 rest ≡ t
  shorter : length rest < length text

follows : (text : List ℕ) (t : Bool) (rest : List ℕ) → port_follows text ≡ Found.told t rest → Follows text t rest
follows text t rest e =
    let one = parted (fixed (codes "$") text) (λ _ text. Found.told (begins 118 text) text) t rest e in
    let same = same_told (begins 118 one.middle) t one.middle rest one.later in
    let short = shorter_fixed (codes "$") text one.middle one.value one.first in
    record {
      is = one.first ∙ ap (Found.told tt) same.rest;
      test = ap (begins 118) (sym same.rest) ∙ same.value;
      shorter = omega (arith, ap length same.rest);
    }

pub shorter_line : (ports : List DumpPort) (port : DumpPort) (text middle rest : List ℕ) → port_follows text ≡ Found.told true middle → port_line ports middle ≡ Found.told port rest → length rest < length text
shorter_line ports port text middle rest e line =
    let short = (follows text true middle e).shorter in
    let shorter = shorter_port ports middle port rest line in
    omega arith

-- what is read of all ports behind some, with room for as many lines as there may be
pub record AreListed (start : List ℕ) (ports : List DumpPort) (text : List ℕ) : Type 0 where
  pub few : ℕ
  pub goes_on : port_lines (suc (length start)) [] start ≡ port_lines few ports text
  pub room : length text < few
  pub long : length ports + length text ≤ length start

pub none_listed : (start : List ℕ) → AreListed start [] start
none_listed start = record { few = suc (length start); goes_on = refl; room = omega arith; long = omega arith }

-- the line of a port, or the end of them
abbrev lines_by : ℕ → List DumpPort → List ℕ → Bool → Found (List DumpPort)
lines_by few ports text t = elim t [
  | true ↦ followed (port_line ports text) (λ port text. port_lines few (ports ++ port ∷ []) text)
  | false ↦ Found.told ports text
]

turned : (few : ℕ) (ports : List DumpPort) (text rest : List ℕ) (t : Bool) → Follows text t rest → port_lines (suc few) ports text ≡ lines_by few ports rest t
turned few ports text rest t is = ap (λ (f : Found (Unit {0})). followed f (λ _ text. lines_by few ports text (begins 118 text))) is.is ∙ ap (lines_by few ports rest) is.test

one_by : (few : ℕ) (start : List ℕ) (ports : List DumpPort) (port : DumpPort) (text middle rest : List ℕ) → port_lines (suc (length start)) [] start ≡ port_lines few ports text → length text < few → length ports + length text ≤ length start
    → port_follows text ≡ Found.told true middle → port_line ports middle ≡ Found.told port rest → AreListed start (ports ++ port ∷ []) rest
one_by zero start ports port text middle rest goes_on room long e line = absurd (omega arith)
one_by (suc few) start ports port text middle rest goes_on room long e line =
    let is = follows text true middle e in
    let short = is.shorter in
    let shorter = shorter_port ports middle port rest line in
    record {
      few = few;
      goes_on = goes_on ∙ turned few ports text middle true is ∙ ap (λ (f : Found DumpPort). followed f (λ port text. port_lines few (ports ++ port ∷ []) text)) line;
      room = omega arith;
      long = omega (arith, length-append ports (port ∷ []));
    }

pub one_listed : (start : List ℕ) (ports : List DumpPort) (port : DumpPort) (text middle rest : List ℕ) → AreListed start ports text → port_follows text ≡ Found.told true middle → port_line ports middle ≡ Found.told port rest
    → AreListed start (ports ++ port ∷ []) rest
one_listed start ports port text middle rest are e line = one_by are.few start ports port text middle rest are.goes_on are.room are.long e line

all_by : (few : ℕ) (start : List ℕ) (ports : List DumpPort) (text rest : List ℕ) → port_lines (suc (length start)) [] start ≡ port_lines few ports text → length text < few → port_follows text ≡ Found.told false rest
    → port_lines (suc (length start)) [] start ≡ Found.told ports rest
all_by zero start ports text rest goes_on room e = absurd (omega arith)
all_by (suc few) start ports text rest goes_on room e = goes_on ∙ turned few ports text rest false (follows text false rest e)

pub all_listed : (start : List ℕ) (ports : List DumpPort) (text rest : List ℕ) → AreListed start ports text → port_follows text ≡ Found.told false rest → port_lines (suc (length start)) [] start ≡ Found.told ports rest
all_listed start ports text rest are e = all_by are.few start ports text rest are.goes_on are.room e

broken_alike : (B : Type 0) (r s : List ℕ) (one two : Rule) → r ≡ s → one ≡ two → ◌≡◌ {A = Found B} (Found.broken r one) (Found.broken s two)
broken_alike B r s one two a b = cc

broken_same : {A B : Type 0} (r s : List ℕ) (one two : Rule) → ◌≡◌ {A = Found A} (Found.broken r one) (Found.broken s two) → ◌≡◌ {A = Found B} (Found.broken r one) (Found.broken s two)
broken_same {A = A} {B = B} r s one two e = let a : r ≡ s = cc in let b : one ≡ two = cc in broken_alike B r s one two a b

stops_by : (few : ℕ) (ports : List DumpPort) (text rest : List ℕ) (rule : Rule) → port_follows text ≡ Found.broken rest rule → port_lines (suc few) ports text ≡ Found.broken rest rule
stops_by few ports text rest rule e = by_sign (fixed (codes "$") text) e
  where
    by_sign : (found : Found (Unit {0})) → followed found (λ _ text. Found.told (begins 118 text) text) ≡ Found.broken rest rule → followed found (λ _ text. lines_by few ports text (begins 118 text)) ≡ Found.broken rest rule
    by_sign (Found.told u middle) e = cc
    by_sign (Found.broken middle other) e = broken_same {A = Bool} {B = List DumpPort} middle rest other rule e

sign_by : (few : ℕ) (start : List ℕ) (ports : List DumpPort) (text rest : List ℕ) (rule : Rule) → port_lines (suc (length start)) [] start ≡ port_lines few ports text → length text < few → port_follows text ≡ Found.broken rest rule
    → port_lines (suc (length start)) [] start ≡ Found.broken rest rule
sign_by zero start ports text rest rule goes_on room e = absurd (omega arith)
sign_by (suc few) start ports text rest rule goes_on room e = goes_on ∙ stops_by few ports text rest rule e

pub sign_breaks : (start : List ℕ) (ports : List DumpPort) (text rest : List ℕ) (rule : Rule) → AreListed start ports text → port_follows text ≡ Found.broken rest rule → port_lines (suc (length start)) [] start ≡ Found.broken rest rule
sign_breaks start ports text rest rule are e = sign_by are.few start ports text rest rule are.goes_on are.room e

line_by : (few : ℕ) (start : List ℕ) (ports : List DumpPort) (text middle rest : List ℕ) (rule : Rule) → port_lines (suc (length start)) [] start ≡ port_lines few ports text → length text < few → port_follows text ≡ Found.told true middle
    → port_line ports middle ≡ Found.broken rest rule → port_lines (suc (length start)) [] start ≡ Found.broken rest rule
line_by zero start ports text middle rest rule goes_on room e line = absurd (omega arith)
line_by (suc few) start ports text middle rest rule goes_on room e line =
    goes_on ∙ turned few ports text middle true (follows text true middle e) ∙ ap (λ (f : Found DumpPort). followed f (λ port text. port_lines few (ports ++ port ∷ []) text)) line

pub line_breaks : (start : List ℕ) (ports : List DumpPort) (text middle rest : List ℕ) (rule : Rule) → AreListed start ports text → port_follows text ≡ Found.told true middle → port_line ports middle ≡ Found.broken rest rule
    → port_lines (suc (length start)) [] start ≡ Found.broken rest rule
line_breaks start ports text middle rest rule are e line = line_by are.few start ports text middle rest rule are.goes_on are.room e line

-- what stops a part stops the whole
pub stop_on : {A B : Type 0} (part : Found A) (whole : Found B) (rest : List ℕ) (stop : Stop) → ((rule : Rule) → part ≡ Found.broken rest rule → whole ≡ Found.broken rest rule) → IsStop part rest stop → IsStop whole rest stop
stop_on part whole rest (Stop.Broken rule) more e = more rule e
stop_on part whole rest Stop.NoMemory more e = tt

-- ---- a dump

abbrev pub first_words : List ℕ
first_words = codes "$timescale 1 ns $end\n$scope module "

abbrev pub last_words : List ℕ
last_words = codes "upscope $end\n$enddefinitions $end\n"

pub scope_breaks : (a b : List ℕ) (rule : Rule) → fixed first_words a ≡ Found.broken b rule → dump_read a ≡ Found.broken b rule
scope_breaks a b rule words = rw words refl

pub module_breaks : (a b c : List ℕ) (rule : Rule) → fixed first_words a ≡ Found.told tt b → hole is_of_name Name module_name_in b ≡ Found.broken c rule → dump_read a ≡ Found.broken c rule
module_breaks a b c rule words named = rw (words, named) refl

pub scope_end_breaks : (a b c d name : List ℕ) (rule : Rule) → fixed first_words a ≡ Found.told tt b → hole is_of_name Name module_name_in b ≡ Found.told name c → fixed (codes " $end\n") c ≡ Found.broken d rule → dump_read a ≡ Found.broken d rule
scope_end_breaks a b c d name rule words named end_ = rw (words, named, end_) refl

pub ports_break : (a b c d e name : List ℕ) (rule : Rule) → fixed first_words a ≡ Found.told tt b → hole is_of_name Name module_name_in b ≡ Found.told name c → fixed (codes " $end\n") c ≡ Found.told tt d
    → port_lines (suc (length d)) [] d ≡ Found.broken e rule → dump_read a ≡ Found.broken e rule
ports_break a b c d e name rule words named end_ lines = rw (words, named, end_, lines) refl

pub header_breaks : (a b c d e f name : List ℕ) (ports : List DumpPort) (rule : Rule) → fixed first_words a ≡ Found.told tt b → hole is_of_name Name module_name_in b ≡ Found.told name c → fixed (codes " $end\n") c ≡ Found.told tt d
    → port_lines (suc (length d)) [] d ≡ Found.told ports e → fixed last_words e ≡ Found.broken f rule → dump_read a ≡ Found.broken f rule
header_breaks a b c d e f name ports rule words named end_ lines last = rw (words, named, end_, lines, last) refl

pub rows_break : (a b c d e f g name : List ℕ) (ports : List DumpPort) (rule : Rule) → fixed first_words a ≡ Found.told tt b → hole is_of_name Name module_name_in b ≡ Found.told name c → fixed (codes " $end\n") c ≡ Found.told tt d
    → port_lines (suc (length d)) [] d ≡ Found.told ports e → fixed last_words e ≡ Found.told tt f → row_lines (widths_of ports) f ≡ Found.broken g rule → dump_read a ≡ Found.broken g rule
rows_break a b c d e f g name ports rule words named end_ lines last rows = rw (words, named, end_, lines, last, rows) refl

pub dump_told_by : (a b c d e f g name : List ℕ) (ports : List DumpPort) (rows : List (List Word)) → fixed first_words a ≡ Found.told tt b → hole is_of_name Name module_name_in b ≡ Found.told name c → fixed (codes " $end\n") c ≡ Found.told tt d
    → port_lines (suc (length d)) [] d ≡ Found.told ports e → fixed last_words e ≡ Found.told tt f → row_lines (widths_of ports) f ≡ Found.told rows g → dump_read a ≡ Found.told (record { name = name; ports = ports; rows = rows }) g
dump_told_by a b c d e f g name ports rows words named end_ lines last row = rw (words, named, end_, lines, last, row) refl
