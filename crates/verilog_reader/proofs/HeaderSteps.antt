-- What the header of a module finds, part after part.
use Rattle.std.proofs.Common.{◌≡◌, ◌≢◌, ℕ, suc, zero, ◌+◌, ◌-◌, ◌==◌, ◌<◌, ◌^◌, ◌&&◌, ◌||◌, Bool, true, false, cond, List, [], ◌∷◌, ◌++◌, length, take, None, refl, sym, ap, ◌∙◌, arith, codes, length-append}
use Rattle.std.specs.Prelude.{String, nat_eq, nat_lt, All}
use Rattle.std.specs.List.{list_all, prefix_len, ends_with}
use Rattle.std.specs.HashSet.{HashSet, contains_text}
use Rattle.std.specs.Str.{bytes_eq, IsUtf8}
use Rattle.std.specs.declared.alloc.Global.{Global}
use Rattle.std.specs.declared.hash.FoldHasher.{FoldHasher}
use Rattle.std.specs.declared.hash.BuildHasherDefault.{BuildHasherDefault}
use Rattle.std.proofs.lemmas.Bool.{and_parts, ltb-true, lt-ltb}
use Rattle.std.proofs.lemmas.Bool.Decides.{nat_tests}
use Rattle.std.proofs.lemmas.List.Elements.{All-nil, All-cons}
use Rattle.std.proofs.lemmas.Str.{IsUtf8-from_ascii}
use Rattle.std.proofs.lemmas.Str.Ascii.{IsAscii-from_all}
use Rattle.netlist.specs.Names.{begins_with_letter, is_name_byte}
use Rattle.netlist.specs.declared.line.PortLine.{PortLine}
use Rattle.netlist.specs.Netlists.{started}
use Rattle.verilog_forms.specs.declared.rule.Rule.TheVariants.{Name}
use Rattle.verilog_reader.specs.declared.spot.Spot.{Spot}
use Rattle.verilog_forms.specs.Forms.{Form, fixed, followed, next, is_hole_byte}
use Rattle.verilog_reader.specs.Spots.{found, IsWithin, ahead_of, run_from, hole_from, fixed_from}
use Rattle.verilog_reader.specs.Holes.{Ranges}
use Rattle.verilog_forms.specs.RightSides.{unless, same_bytes}
use Rattle.verilog_forms.specs.WireLines.{range_form}
use Rattle.verilog_forms.specs.Headers.{is_next, module_name_test, is_named, port_name_test, port_of, described_form, direction_form, port_form, ports_form, header_form}
use Rattle.verilog_reader.specs.PortNames.{AreNamed}
use Rattle.verilog_reader.proofs.Steps.{fixed_found, hole_found, turn_found, followed_found}
use Rattle.verilog_reader.proofs.DeclaredSteps.{range_found}

-- the bytes of a hole are ASCII

prefix_tested : (p : ℕ → Bool) (x : ℕ) (xs : List ℕ) (t : Bool) → p x ≡ t → list_all p (take (prefix_len p xs) xs) ≡ true → list_all p (take (cond t (1 + prefix_len p xs) 0) (x ∷ xs)) ≡ true
prefix_tested p x xs true e more =
    let one : 1 + prefix_len p xs ≡ suc (prefix_len p xs) = omega arith in
    ap (λ (k : ℕ). list_all p (take k (x ∷ xs))) one ∙ ap (λ (t : Bool). t && list_all p (take (prefix_len p xs) xs)) e ∙ more
prefix_tested p x xs false e more = refl

prefix_passes : (p : ℕ → Bool) (xs : List ℕ) → list_all p (take (prefix_len p xs) xs) ≡ true
prefix_passes p [] = refl
prefix_passes p (x ∷ xs) = prefix_tested p x xs (p x) refl (prefix_passes p xs)

pub run_bytes : (text run : List ℕ) (spot : Spot) → run ≡ run_from text spot → list_all is_hole_byte run ≡ true
run_bytes text run spot is = ap (list_all is_hole_byte) is ∙ prefix_passes is_hole_byte (ahead_of text spot)

hole_byte_small : (b : ℕ) → is_hole_byte b ≡ true → b < 128
hole_byte_small b e = grind (arith, nat_tests)

all_small : (run : List ℕ) → list_all is_hole_byte run ≡ true → All (λ b. b < 128) run
all_small [] e = All-nil (λ b. b < 128)
all_small (b ∷ run) e =
    let parts = and_parts (is_hole_byte b) (list_all is_hole_byte run) e in
    All-cons (λ c. c < 128) b run (hole_byte_small b parts.0) (all_small run parts.1)

pub run_utf8 : (run : List ℕ) → list_all is_hole_byte run ≡ true → IsUtf8 run
run_utf8 run e = IsUtf8-from_ascii run (IsAscii-from_all run (all_small run e))

-- names

pub named_more : (name : List ℕ) (ports : List PortLine) (port : PortLine) → is_named name (ports ++ port ∷ []) ≡ (is_named name ports || same_bytes port.name name)
named_more name [] port = or_swap (same_bytes port.name name)
  where
    or_swap : (t : Bool) → (t || false) ≡ (false || t)
    or_swap true = refl
    or_swap false = refl
named_more name (p ∷ ports) port = ap (λ (t : Bool). same_bytes p.name name || t) (named_more name ports port) ∙ or_group (same_bytes p.name name) (is_named name ports) (same_bytes port.name name)
  where
    or_group : (s t u : Bool) → (s || (t || u)) ≡ ((s || t) || u)
    or_group true t u = refl
    or_group false t u = refl

bytes_same : (xs ys : List ℕ) → bytes_eq xs ys ≡ same_bytes xs ys
bytes_same [] [] = refl
bytes_same [] (y ∷ ys) = refl
bytes_same (x ∷ xs) [] = refl
bytes_same (x ∷ xs) (y ∷ ys) = ap (λ (t : Bool). x == y && t) (bytes_same xs ys)

chosen : (t u : Bool) → cond t true u ≡ (u || t)
chosen true true = refl
chosen true false = refl
chosen false true = refl
chosen false false = refl

abbrev Names : Type 0
Names = HashSet (String Global) (BuildHasherDefault FoldHasher)

-- the set with the name of one more port
pub names_more : (ports : List PortLine) (port : PortLine) (bytes : List ℕ) (old new : Names) → bytes ≡ port.name → ((name : List ℕ) → contains_text new name ≡ cond (bytes_eq bytes name) true (contains_text old name)) → AreNamed ports old
    → AreNamed (ports ++ port ∷ []) new
names_more ports port bytes old new is changed are = λ name.
    changed name
    ∙ ap (λ (t : Bool). cond t true (contains_text old name)) (ap (λ (b : List ℕ). bytes_eq b name) is ∙ bytes_same port.name name)
    ∙ ap (λ (t : Bool). cond (same_bytes port.name name) true t) (are name)
    ∙ chosen (same_bytes port.name name) (is_named name ports)
    ∙ sym (named_more name ports port)

-- the name of a module
pub module_named : (run : List ℕ) → begins_with_letter run ≡ true → list_all is_name_byte run ≡ true → ends_with nat_eq run (codes "_interconnect") ≡ true → module_name_test run ≡ None
module_named run letter bytes suffix =
    let both = λ (t u v : Bool). (unless (t && (u && v)) Name None) in
    ap (λ (t : Bool). both t (list_all is_name_byte run) (ends_with nat_eq run (codes "_interconnect"))) letter
    ∙ ap (λ (t : Bool). both true t (ends_with nat_eq run (codes "_interconnect"))) bytes ∙ ap (both true true) suffix

-- the line of a port

pub described_found : (text : List ℕ) (ports : List PortLine) (output : Bool) (w : ℕ) (name : List ℕ) (spot begun ranged blank end : Spot) → begun ≡ fixed_from (codes " wire ") text spot → Ranges text begun w ranged
    → blank ≡ fixed_from (codes " ") text ranged → end ≡ hole_from (port_name_test ports) text blank → name ≡ run_from text blank
    → found (described_form ports output) text spot ≡ found (Form.whole (port_of name w output)) text end
described_found text ports output w name spot begun ranged blank end word range space hole is =
    let whole = λ (v : ℕ) (run : List ℕ). (Form.whole (port_of run v output)) in
    let named = λ (v : ℕ). (Form.hole (port_name_test ports) (whole v)) in
    let later = λ (v : ℕ). (fixed (codes " ") (named v)) in
    fixed_found (codes " wire ") (range_form later) text spot begun word
    ∙ range_found later text begun w ranged range
    ∙ fixed_found (codes " ") (named w) text ranged blank space
    ∙ hole_found (port_name_test ports) (whole w) text blank end hole
    ∙ ap (λ (run : List ℕ). found (whole w run) text end) (sym is)

directed_found : (text : List ℕ) (ports : List PortLine) (port : PortLine) (spot begun end : Spot) (t : Bool) → begun ≡ fixed_from (codes ",\n  ") text spot → t ≡ is_next (codes "o") (next (ahead_of text begun))
    → found (cond t (fixed (codes "output") (described_form ports true)) (fixed (codes "input") (described_form ports false))) text begun ≡ found (Form.whole port) text end
    → found (port_form ports) text spot ≡ found (Form.whole port) text end
directed_found text ports port spot begun end t blanks is there =
    let either = λ (b : Bool). (cond b (fixed (codes "output") (described_form ports true)) (fixed (codes "input") (described_form ports false))) in
    fixed_found (codes ",\n  ") (Form.turn (direction_form ports)) text spot begun blanks
    ∙ turn_found (direction_form ports) text begun (next (ahead_of text begun)) refl
    ∙ ap (λ (b : Bool). found (either b) text begun) (sym is)
    ∙ there

pub output_found : (text : List ℕ) (ports : List PortLine) (port : PortLine) (spot begun directed end : Spot) → begun ≡ fixed_from (codes ",\n  ") text spot → true ≡ is_next (codes "o") (next (ahead_of text begun))
    → directed ≡ fixed_from (codes "output") text begun → found (described_form ports true) text directed ≡ found (Form.whole port) text end → found (port_form ports) text spot ≡ found (Form.whole port) text end
output_found text ports port spot begun directed end blanks is word there =
    directed_found text ports port spot begun end true blanks is (fixed_found (codes "output") (described_form ports true) text begun directed word ∙ there)

pub input_found : (text : List ℕ) (ports : List PortLine) (port : PortLine) (spot begun directed end : Spot) → begun ≡ fixed_from (codes ",\n  ") text spot → false ≡ is_next (codes "o") (next (ahead_of text begun))
    → directed ≡ fixed_from (codes "input") text begun → found (described_form ports false) text directed ≡ found (Form.whole port) text end → found (port_form ports) text spot ≡ found (Form.whole port) text end
input_found text ports port spot begun directed end blanks is word there =
    directed_found text ports port spot begun end false blanks is (fixed_found (codes "input") (described_form ports false) text begun directed word ∙ there)

-- the lines of the ports

ports_turned : (few : ℕ) (ports : List PortLine) (text : List ℕ) (spot : Spot) (t : Bool) → is_next (codes ",") (next (ahead_of text spot)) ≡ t
    → found (ports_form (suc few) ports) text spot ≡ found (cond t (followed (port_form ports) (λ port. ports_form few (ports ++ port ∷ []))) (Form.whole ports)) text spot
ports_turned few ports text spot t e =
    let either = λ (b : Bool). (cond b (followed (port_form ports) (λ port. ports_form few (ports ++ port ∷ []))) (Form.whole ports)) in
    turn_found (λ b. either (is_next (codes ",") b)) text spot (next (ahead_of text spot)) refl ∙ ap (λ (b : Bool). found (either b) text spot) e

pub one_port : (few : ℕ) (ports : List PortLine) (port : PortLine) (text : List ℕ) (spot behind : Spot) → is_next (codes ",") (next (ahead_of text spot)) ≡ true → IsWithin text spot → IsWithin text behind
    → found (port_form ports) text spot ≡ found (Form.whole port) text behind → found (ports_form (suc few) ports) text spot ≡ found (ports_form few (ports ++ port ∷ [])) text behind
one_port few ports port text spot behind comma in_spot in_behind read =
    ports_turned few ports text spot true comma ∙ followed_found (port_form ports) (λ p. ports_form few (ports ++ p ∷ [])) text spot port behind in_spot in_behind read

pub no_more_ports : (few : ℕ) (ports : List PortLine) (text : List ℕ) (spot : Spot) → (few ≢ 0 → is_next (codes ",") (next (ahead_of text spot)) ≡ false) → found (ports_form few ports) text spot ≡ found (Form.whole ports) text spot
no_more_ports zero ports text spot none = refl
no_more_ports (suc few) ports text spot none = ports_turned few ports text spot false (none (λ e. omega (arith, e)))

-- what is known behind some of the ports
pub record Listed (text : List ℕ) (start spot : Spot) (ports : List PortLine) : Type 0 where
  pub few : length ports < 2 ^ 32
  pub goes_on : (all few : ℕ) → all ≡ 2 ^ 32 - 1 → length ports + few ≡ all → found (ports_form all []) text start ≡ found (ports_form few ports) text spot

pub none_listed : (text : List ℕ) (start : Spot) → Listed text start start []
none_listed text start = record {
  few = omega arith;
  goes_on = λ all few is count. (let same : all ≡ few = omega (arith, count) in ap (λ (k : ℕ). found (ports_form k []) text start) same);
}

pub one_listed : (text : List ℕ) (start spot behind : Spot) (ports : List PortLine) (port : PortLine) → (nat_lt (length ports) (2 ^ 32 - 1) && is_next (codes ",") (next (ahead_of text spot))) ≡ true
    → IsWithin text spot → IsWithin text behind → found (port_form ports) text spot ≡ found (Form.whole port) text behind → Listed text start spot ports → Listed text start behind (ports ++ port ∷ [])
one_listed text start spot behind ports port more in_spot in_behind read l =
    let both = and_parts (nat_lt (length ports) (2 ^ 32 - 1)) (is_next (codes ",") (next (ahead_of text spot))) more in
    let room : length ports < 2 ^ 32 - 1 = ltb-true (length ports) (2 ^ 32 - 1) both.0 in
    let count : length (ports ++ port ∷ []) ≡ length ports + 1 = length-append ports (port ∷ []) in
    record {
      few = omega (arith, count, room);
      goes_on = λ all few is counted. (
          let left : length ports + suc few ≡ all = omega (arith, count, counted) in
          l.goes_on all (suc few) is left ∙ one_port few ports port text spot behind both.1 in_spot in_behind read
          );
    }

not_both : (t u : Bool) → (t && u) ≡ false → t ≡ true → u ≡ false
not_both true u e f = e
not_both false u e f = cc

pub all_listed : (text : List ℕ) (start spot : Spot) (ports : List PortLine) → (nat_lt (length ports) (2 ^ 32 - 1) && is_next (codes ",") (next (ahead_of text spot))) ≡ false → Listed text start spot ports
    → (all : ℕ) → all ≡ 2 ^ 32 - 1 → found (ports_form all []) text start ≡ found (Form.whole ports) text spot
all_listed text start spot ports none l all is =
    let few = all - length ports in
    let counted : length ports + few ≡ all = omega (arith, l.few, is) in
    l.goes_on all few is counted
    ∙ no_more_ports few ports text spot (λ some. not_both (nat_lt (length ports) (2 ^ 32 - 1)) (is_next (codes ",") (next (ahead_of text spot))) none (lt-ltb (length ports) (2 ^ 32 - 1) (omega (arith, some, is, counted))))

-- the header

pub header_found_of : (all : ℕ) (text name : List ℕ) (ports : List PortLine) (spot begun named opened listed end : Spot) → IsWithin text opened → IsWithin text listed → begun ≡ fixed_from (codes "module ") text spot
    → named ≡ hole_from module_name_test text begun → name ≡ run_from text begun → opened ≡ fixed_from (codes " (\n  input wire clk,\n  input wire reset") text named
    → found (ports_form all []) text opened ≡ found (Form.whole ports) text listed → end ≡ fixed_from (codes "\n);\n") text listed
    → found (fixed (codes "module ") (Form.hole module_name_test (λ name. fixed (codes " (\n  input wire clk,\n  input wire reset") (followed (ports_form all []) (λ ports. fixed (codes "\n);\n") (Form.whole (started name ports))))))) text spot
    ≡ found (Form.whole (started name ports)) text end
header_found_of all text name ports spot begun named opened listed end in_opened in_listed word hole is blanks lines ends =
    let last = λ (run : List ℕ) (ps : List PortLine). (fixed (codes "\n);\n") (Form.whole (started run ps))) in
    let inner = λ (run : List ℕ). (followed (ports_form all []) (last run)) in
    let later = λ (run : List ℕ). (fixed (codes " (\n  input wire clk,\n  input wire reset") (inner run)) in
    fixed_found (codes "module ") (Form.hole module_name_test later) text spot begun word
    ∙ hole_found module_name_test later text begun named hole
    ∙ ap (λ (run : List ℕ). found (later run) text named) (sym is)
    ∙ fixed_found (codes " (\n  input wire clk,\n  input wire reset") (inner name) text named opened blanks
    ∙ followed_found (ports_form all []) (last name) text opened ports listed in_opened in_listed lines
    ∙ fixed_found (codes "\n);\n") (Form.whole (started name ports)) text listed end ends

pub header_found : (text name : List ℕ) (ports : List PortLine) (spot begun named opened listed end : Spot) → IsWithin text opened → IsWithin text listed → begun ≡ fixed_from (codes "module ") text spot
    → named ≡ hole_from module_name_test text begun → name ≡ run_from text begun → opened ≡ fixed_from (codes " (\n  input wire clk,\n  input wire reset") text named
    → ((all : ℕ) → all ≡ 2 ^ 32 - 1 → found (ports_form all []) text opened ≡ found (Form.whole ports) text listed) → end ≡ fixed_from (codes "\n);\n") text listed
    → found header_form text spot ≡ found (Form.whole (started name ports)) text end
header_found text name ports spot begun named opened listed end in_opened in_listed word hole is blanks lines ends =
    header_found_of (2 ^ 32 - 1) text name ports spot begun named opened listed end in_opened in_listed word hole is blanks (lines (2 ^ 32 - 1) refl) ends
