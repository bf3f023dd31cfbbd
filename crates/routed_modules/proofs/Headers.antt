-- Headers of names that are good, and the one of a demultiplexer.
use Rattle.std.proofs.Common.{◌≡◌, ℕ, zero, suc, ◌+◌, ◌*◌, ◌≤◌, Bool, true, false, not, List, [], ◌∷◌, ◌++◌, length, length-append, codes, get_or, ◌≢◌, Option, Some, None, refl, ap, arith}
use Rattle.std.specs.Prelude.{All, IfSome, nat_le, nat_lt, if◌then◌else◌}
use Rattle.netlist.specs.Names.{IsModuleName}
use Rattle.netlist.specs.declared.line.Line.{Line}
use Rattle.netlist.specs.declared.line.PortLine.{PortLine}
use Rattle.netlist.specs.declared.line.Equation.TheVariants.{Input}
use Rattle.netlist.specs.Netlists.{IsHeader, input_lines, line_of}
use Rattle.routed_runs.specs.Demultiplexed.{Demultiplexer}
use Rattle.routed_modules.specs.declared.header.EndPorts.{EndPorts}
use Rattle.routed_modules.specs.Sizes.{bits_for, empty_bits}
use Rattle.routed_modules.specs.Ports.{numbered, port_if, mark_ports, end_ports, numbered_ports}
use Rattle.routed_modules.specs.Demultiplexers.{AreSizes, coming, going, demultiplexer_ports}
use Rattle.routed_modules.proofs.Names.{IsEnd, of_end, AreApart, apart_append, apart_end, apart_ends, other_new, distinct_names, AreNamed, named_append, named_of, named_ends, names_all}

-- ---- widths

abbrev pub IsWidth : ℕ → Type 0
IsWidth width = (1 ≤ width) × (width ≤ 128)

abbrev pub AreWide : List PortLine → Type 0
AreWide [] = Unit {0}
AreWide (port ∷ ports) = IsWidth port.width × AreWide ports

pub wide_append : (xs ys : List PortLine) → AreWide xs → AreWide ys → AreWide (xs ++ ys)
wide_append [] ys h k = k
wide_append (x ∷ xs) ys h k = (h.0, wide_append xs ys h.1 k)

wide_all : (xs : List PortLine) → AreWide xs → All (λ (port : PortLine). IsWidth port.width) xs
wide_all [] h k d lt = absurd (omega (arith, lt))
wide_all (x ∷ xs) h zero d lt = h.0
wide_all (x ∷ xs) h (suc k) d lt = wide_all xs h.1 k d (omega (arith, lt))

wide_if : (end role : List ℕ) (o : Option ℕ) (output : Bool) → IfSome o IsWidth → AreWide (port_if end role o output)
wide_if end role None output h = tt
wide_if end role (Some width) output h = (h, tt)

wide_marks : (end : List ℕ) (packets output : Bool) → AreWide (mark_ports end packets output)
wide_marks end true output = ((omega arith, omega arith), ((omega arith, omega arith), tt))
wide_marks end false output = tt

pub record IsWideEnd (has : EndPorts) : Type 0 where
  pub word : IsWidth has.word
  pub channel : IfSome has.channel IsWidth
  pub empty : IfSome has.empty IsWidth

pub wide_end : (comes : Bool) (has : EndPorts) (end : List ℕ) → IsWideEnd has → AreWide (end_ports comes has end)
wide_end comes has end h = (
  (omega arith, omega arith),
  (
    (omega arith, omega arith),
    (
      h.word,
      wide_append (port_if end (codes "channel") has.channel (not comes)) _ (wide_if end (codes "channel") has.channel (not comes) h.channel)
          (wide_append (mark_ports end has.packets (not comes)) _ (wide_marks end has.packets (not comes)) (wide_if end (codes "empty") has.empty (not comes) h.empty)),
    ),
  ),
)

pub wide_ends : (comes : Bool) (has : EndPorts) (end : List ℕ) (count : ℕ) → IsWideEnd has → AreWide (numbered_ports comes has end count)
wide_ends comes has end zero h = tt
wide_ends comes has end (suc count) h = wide_append (numbered_ports comes has end count) _ (wide_ends comes has end count h) (wide_end comes has (numbered end count) h)

pub bits_small : (count : ℕ) → (1 ≤ bits_for count) × (bits_for count ≤ 4)
bits_small count = by_tests (nat_le count 2) (nat_le count 4) (nat_le count 8)
  where
    by_tests : (a b c : Bool) → (1 ≤ (if a then 1 else if b then 2 else if c then 3 else 4)) × ((if a then 1 else if b then 2 else if c then 3 else 4) ≤ 4)
    by_tests true b c = (omega arith, omega arith)
    by_tests false true c = (omega arith, omega arith)
    by_tests false false true = (omega arith, omega arith)
    by_tests false false false = (omega arith, omega arith)

pub bits_width : (count : ℕ) → IsWidth (bits_for count)
bits_width count = let small = bits_small count in let most = small.1 in (small.0, omega (arith, most))

pub empty_width : (symbols : ℕ) → IfSome (empty_bits symbols) IsWidth
empty_width symbols = by_test (nat_lt 1 symbols)
  where
    by_test : (b : Bool) → IfSome (if b then Some (bits_for symbols) else None) IsWidth
    by_test true = bits_width symbols
    by_test false = tt

-- ---- how many ports

few_if : (end role : List ℕ) (o : Option ℕ) (output : Bool) → length (port_if end role o output) ≤ 1
few_if end role None output = omega arith
few_if end role (Some width) output = omega arith

few_marks : (end : List ℕ) (packets output : Bool) → length (mark_ports end packets output) ≤ 2
few_marks end true output = omega arith
few_marks end false output = omega arith

pub few_end : (comes : Bool) (has : EndPorts) (end : List ℕ) → length (end_ports comes has end) ≤ 7
few_end comes has end =
    let channel = few_if end (codes "channel") has.channel (not comes) in
    let marks = few_marks end has.packets (not comes) in
    let empty = few_if end (codes "empty") has.empty (not comes) in
    let inner = length-append (mark_ports end has.packets (not comes)) (port_if end (codes "empty") has.empty (not comes)) in
    let outer = length-append (port_if end (codes "channel") has.channel (not comes)) (mark_ports end has.packets (not comes) ++ port_if end (codes "empty") has.empty (not comes)) in
    omega (arith, channel, marks, empty, inner, outer)

pub few_ends : (comes : Bool) (has : EndPorts) (end : List ℕ) (count : ℕ) → length (numbered_ports comes has end count) ≤ 7 * count
few_ends comes has end zero = omega arith
few_ends comes has end (suc count) =
    let front = few_ends comes has end count in
    let last = few_end comes has (numbered end count) in
    let whole = length-append (numbered_ports comes has end count) (end_ports comes has (numbered end count)) in
    omega (arith, front, last, whole)

lines_if : (output : Bool) (line : Line) (lines : List Line) → length (if output then lines else line ∷ lines) ≤ suc (length lines)
lines_if true line lines = omega arith
lines_if false line lines = omega arith

-- as many nets of inputs as ports, at most
pub few_inputs : (k : ℕ) (ports : List PortLine) → length (input_lines k ports) ≤ length ports
few_inputs k [] = omega arith
few_inputs k (port ∷ ports) =
    let rest = few_inputs (k + 1) ports in
    let one = lines_if port.output (line_of port.width (Input k)) (input_lines (k + 1) ports) in
    omega (arith, rest, one)

-- ---- whole headers

pub header_of : (name : List ℕ) (ports : List PortLine) → IsModuleName name → AreNamed ports → AreApart ports → AreWide ports → length ports ≤ 1000 → IsHeader name ports
header_of name ports is named apart wide few = record {
  module_name = is;
  port_names = names_all ports named;
  distinct = distinct_names ports apart;
  widths = wide_all ports wide;
  few = omega (arith, few);
}

-- ---- a demultiplexer's

pub some_product : (a b : ℕ) → 1 ≤ a → 1 ≤ b → 1 ≤ a * b
some_product zero b some more = absurd (omega (arith, some))
some_product (suc a) b some more = let whole : suc a * b ≡ a * b + b = omega arith in omega (arith, whole, more)

pub coming_wide : (demux : Demultiplexer) → AreSizes demux.outputs demux.symbols demux.bits → IsWideEnd (coming demux)
coming_wide demux h =
    let symbols = h.some_symbols in
    let bits = h.some_bits in
    record { word = (some_product demux.symbols demux.bits symbols bits, h.narrow); channel = bits_width demux.outputs; empty = empty_width demux.symbols }

pub going_wide : (demux : Demultiplexer) → AreSizes demux.outputs demux.symbols demux.bits → IsWideEnd (going demux)
going_wide demux h = let wide = coming_wide demux h in record { word = wide.word; channel = tt; empty = wide.empty }

pub few_demux_ports : (demux : Demultiplexer) → AreSizes demux.outputs demux.symbols demux.bits → length (demultiplexer_ports demux) ≤ 119
few_demux_ports demux h =
    let one = few_end true (coming demux) (codes "in") in
    let many = few_ends false (going demux) (codes "out") demux.outputs in
    let whole = length-append (end_ports true (coming demux) (codes "in")) (numbered_ports false (going demux) (codes "out") demux.outputs) in
    let few = h.few_ends in
    omega (arith, one, many, whole, few)

input_apart : (number : ℕ) → codes "in" ≢ numbered (codes "out") number
input_apart number same = absurd (let no : get_or (codes "in") 0 0 ≡ get_or (codes "out") 0 0 = ap (λ w. get_or w 0 0) same in omega (arith, no))

pub demux_header : (demux : Demultiplexer) → AreSizes demux.outputs demux.symbols demux.bits → IsHeader (codes "demux_interconnect") (demultiplexer_ports demux)
demux_header demux h =
    let few = few_demux_ports demux h in
    let front = end_ports true (coming demux) (codes "in") in
    let outs = numbered_ports false (going demux) (codes "out") demux.outputs in
    let is_in : IsEnd (codes "in") = record { first = refl; bytes = refl } in
    let is_out : IsEnd (codes "out") = record { first = refl; bytes = refl } in
    header_of (codes "demux_interconnect") (demultiplexer_ports demux) (record { first = refl; bytes = refl; suffix = refl })
    (named_append front outs (named_of (codes "in") front is_in (of_end true (coming demux) (codes "in"))) (named_ends false (going demux) 111 (117 ∷ 116 ∷ []) demux.outputs is_out h.few_ends))
    (apart_append front outs (apart_end true (coming demux) (codes "in")) (apart_ends false (going demux) 111 (117 ∷ 116 ∷ []) is_out demux.outputs h.few_ends)
    (other_new false (going demux) 111 (117 ∷ 116 ∷ []) is_out (codes "in") front demux.outputs h.few_ends is_in (of_end true (coming demux) (codes "in")) input_apart))
    (wide_append front outs (wide_end true (coming demux) (codes "in") (coming_wide demux h)) (wide_ends false (going demux) (codes "out") demux.outputs (going_wide demux h)))
    (omega (arith, few))
