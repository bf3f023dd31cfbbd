-- The nets of the input ports.
use Rattle.std.proofs.Common.{◌≡◌, ℕ, zero, suc, ◌+◌, ◌<◌, List, length, [], ◌∷◌, ◌++◌, slice_get, take, drop, map, Bool, true, false, not, cond, Option, Some, refl, sym, subst, ap, ◌∙◌, arith}
use Rattle.std.specs.Prelude.{filter, if◌then◌else◌}
use Rattle.std.proofs.lemmas.List.{take-append-drop, map-append, length-map}
use Rattle.std.proofs.lemmas.List.Elements.{filter-append}
use Rattle.std.proofs.lemmas.List.Sums.{sum_by-cons}
use Rattle.std.proofs.lemmas.Option.{same_Some}
use Rattle.av_base.specs.Word.{Word}
use Rattle.netlist.specs.declared.line.Line.{Line}
use Rattle.netlist.specs.declared.line.PortLine.{PortLine}
use Rattle.netlist.specs.declared.line.Equation.TheVariants.{Input}
use Rattle.netlist.specs.Netlists.{Netlist, IsModule, IsInputPort, input_count, input_net, input_lines, is_input, line_of}
use Rattle.cycle_sim.specs.Sims.{AreInputs, input_widths, widths_of}
use Rattle.lane_sim.proofs.Values.{same_widths, slice_get-some}

input_count-cons : (p : PortLine) (ports : List PortLine) → input_count (p ∷ ports) ≡ cond (not p.output) 1 0 + input_count ports
input_count-cons p ports = sum_by-cons (λ (port : PortLine). cond (not port.output) 1 0) p ports

past : (b : Bool) (l : Line) (xs : List Line) (n : ℕ) (r : Option Line) → slice_get xs n ≡ r → slice_get (if b then xs else l ∷ xs) (cond (not b) 1 0 + n) ≡ r
past true l xs n r e = let z : 0 + n ≡ n = omega arith in rw z e
past false l xs n r e = let z : 1 + n ≡ suc n = omega arith in rw z e

-- the line of an input port stands at its net
input_lines-at : (ports : List PortLine) (j k w : ℕ) → IsInputPort ports k w → slice_get (input_lines j ports) (input_net ports k) ≡ Some (line_of w (Input (j + k)))
input_lines-at [] j k w i = let e = i.is in cc
input_lines-at (p ∷ ports) j zero w i =
    let e = i.is in
    let o : p.output ≡ false = (let h = i.input in cc) in
    let v : p.width ≡ w = (let h = i.width in cc) in
    let z : j + 0 ≡ j = omega arith in
    rw (o, v, z) refl
input_lines-at (p ∷ ports) j (suc k) w i =
    let b : j + suc k ≡ (j + 1) + k = omega arith in
    rw (b, input_count-cons p (take k ports)) (past p.output (line_of p.width (Input j)) (input_lines (j + 1) ports) (input_net ports k) _
    (input_lines-at ports (j + 1) k w (record { port = i.port; is = i.is; input = i.input; width = i.width })))

-- each line among them is one of an input port, at its net
record IsLineOfInput (ports : List PortLine) (j n : ℕ) (line : Line) : Type 0 where
  port : ℕ
  width : ℕ
  input : IsInputPort ports port width
  net : n ≡ input_net ports port
  is : line ≡ line_of width (Input (j + port))

later_input : (p : PortLine) (ports : List PortLine) (j n : ℕ) (line : Line) → IsLineOfInput ports (j + 1) n line → IsLineOfInput (p ∷ ports) j (cond (not p.output) 1 0 + n) line
later_input p ports j n line h = record {
  port = suc h.port;
  width = h.width;
  input = record { port = h.input.port; is = h.input.is; input = h.input.input; width = h.input.width };
  net = ap (λ k. cond (not p.output) 1 0 + k) h.net ∙ sym (input_count-cons p (take h.port ports));
  is = h.is ∙ (let b : (j + 1) + h.port ≡ j + suc h.port = omega arith in ap (λ k. line_of h.width (Input k)) b);
}

by_side : (p : PortLine) (ports : List PortLine) (j : ℕ) (line : Line) → ((n : ℕ) → slice_get (input_lines (j + 1) ports) n ≡ Some line → IsLineOfInput ports (j + 1) n line) → (b : Bool) → p.output ≡ b → (n : ℕ) →
    slice_get (if b then input_lines (j + 1) ports else line_of p.width (Input j) ∷ input_lines (j + 1) ports) n ≡ Some line → IsLineOfInput (p ∷ ports) j n line
by_side p ports j line later true o n e =
    let z : cond (not p.output) 1 0 + n ≡ n = rw o (omega arith) in
    subst (λ k. IsLineOfInput (p ∷ ports) j k line) z (later_input p ports j n line (later n e))
by_side p ports j line later false o zero e = record {
  port = 0;
  width = p.width;
  input = record { port = p; is = refl; input = o; width = refl };
  net = refl;
  is = (let z : j + 0 ≡ j = omega arith in rw z (cc));
}
by_side p ports j line later false o (suc n) e =
    let z : cond (not p.output) 1 0 + n ≡ suc n = rw o (omega arith) in
    subst (λ k. IsLineOfInput (p ∷ ports) j k line) z (later_input p ports j n line (later n e))

line_of_input : (ports : List PortLine) (j n : ℕ) (line : Line) → slice_get (input_lines j ports) n ≡ Some line → IsLineOfInput ports j n line
line_of_input [] j n line e = cc
line_of_input (p ∷ ports) j n line e = by_side p ports j line (λ m at. line_of_input ports (j + 1) m line at) p.output refl n e

one_width : (p : PortLine) (xs : List PortLine) (l : Line) (ls : List Line) → p.width ≡ l.width → map (λ (port : PortLine). port.width) xs ≡ map (λ (line : Line). line.width) ls → (b : Bool) →
    map (λ (port : PortLine). port.width) (cond (not b) (p ∷ xs) xs) ≡ map (λ (line : Line). line.width) (if b then ls else l ∷ ls)
one_width p xs l ls first rest true = rest
one_width p xs l ls first rest false = cc

widths_of_lines : (ports : List PortLine) (j : ℕ) → map (λ (port : PortLine). port.width) (filter (λ (port : PortLine). not port.output) ports) ≡ map (λ (line : Line). line.width) (input_lines j ports)
widths_of_lines [] j = refl
widths_of_lines (p ∷ ports) j =
    one_width p (filter (λ (port : PortLine). not port.output) ports) (line_of p.width (Input j)) (input_lines (j + 1) ports) refl (widths_of_lines ports (j + 1)) p.output

-- the line at an input port's net
pub input_line : (b : Netlist) → IsModule b → (k w : ℕ) → IsInputPort b.ports k w → slice_get b.lines (input_net b.ports k) ≡ Some (line_of w (Input k))
input_line b h k w i =
    let z : 0 + k ≡ k = omega arith in
    let at : slice_get (input_lines 0 b.ports) (input_net b.ports k) ≡ Some (line_of w (Input k)) = rw z at (input_lines-at b.ports 0 k w i) in
    h.well_made.inputs.first (input_net b.ports k) (line_of w (Input k)) at

-- an input's line stands at the net of its port
pub input_stands : (b : Netlist) → IsModule b → (n : ℕ) (line : Line) (k : ℕ) → slice_get b.lines n ≡ Some line → line.equation ≡ Input k → n ≡ input_net b.ports k
input_stands b h n line k at e =
    let among = line_of_input b.ports 0 n line (h.well_made.inputs.no_others n line at (ap is_input e)) in
    let is = among.is in
    let z : 0 + among.port ≡ among.port = omega arith in
    let its : line.equation ≡ Input (0 + among.port) = ap (λ (l : Line). l.equation) is in
    let same : k ≡ among.port = cc in
    among.net ∙ ap (λ j. input_net b.ports j) (sym same)

-- the value that stands among the inputs for an input's line
pub input_value : (b : Netlist) → IsModule b → (inputs : List Word) → AreInputs b inputs → (n : ℕ) (line : Line) → slice_get b.lines n ≡ Some line → is_input line.equation ≡ true →
    (value : Word) × (slice_get inputs n ≡ Some value) × (value.width ≡ line.width)
input_value b h inputs given n line at is =
    same_widths (λ (line : Line). line.width) inputs (input_lines 0 b.ports) (given ∙ widths_of_lines b.ports 0) n line (h.well_made.inputs.no_others n line at is)

-- and an input's line stands for each of them
pub line_of_value : (b : Netlist) → IsModule b → (inputs : List Word) → AreInputs b inputs → (n : ℕ) → n < length inputs → (line : Line) × (slice_get b.lines n ≡ Some line) × (is_input line.equation ≡ true)
line_of_value b h inputs given n lt =
    let all : map (λ (value : Word). value.width) inputs ≡ map (λ (line : Line). line.width) (input_lines 0 b.ports) = given ∙ widths_of_lines b.ports 0 in
    let count : length inputs ≡ length (input_lines 0 b.ports) = sym (length-map inputs (λ (value : Word). value.width)) ∙ ap length all ∙ length-map (input_lines 0 b.ports) (λ (line : Line). line.width) in
    let some = slice_get-some (input_lines 0 b.ports) n (omega arith) in
    let its = line_of_input b.ports 0 n some.0 some.1 in
    (some.0, h.well_made.inputs.first n some.0 some.1, subst (λ (line : Line). is_input line.equation ≡ true) (sym its.is) refl)

-- the value whose turn it is at input port k, when those of the earlier ports were taken
turn_of_port : (ports : List PortLine) (k : ℕ) (p : PortLine) → slice_get ports k ≡ Some p → p.output ≡ false → input_widths (drop k ports) ≡ p.width ∷ input_widths (drop (k + 1) ports)
turn_of_port [] k p at o = cc
turn_of_port (q ∷ qs) zero p at o =
    let is : q ≡ p = same_Some _ _ at in
    rw (is, o) refl
turn_of_port (q ∷ qs) (suc k) p at o =
    let z : suc k + 1 ≡ suc (k + 1) = omega arith in
    rw z (turn_of_port qs k p at o)

value_in_turn : (inputs : List Word) (t w : ℕ) (rest : List ℕ) → widths_of (drop t inputs) ≡ w ∷ rest → (value : Word) × (slice_get inputs t ≡ Some value) × (value.width ≡ w)
value_in_turn [] zero w rest e = cc
value_in_turn [] (suc t) w rest e = cc
value_in_turn (v ∷ vs) zero w rest e = (v, refl, (cc))
value_in_turn (v ∷ vs) (suc t) w rest e = value_in_turn vs t w rest e

cancel : (xs ys zs : List ℕ) → xs ++ ys ≡ xs ++ zs → ys ≡ zs
cancel [] ys zs e = e
cancel (x ∷ xs) ys zs e = cancel xs ys zs (cc)

widths_split : (values : List Word) (t : ℕ) → widths_of values ≡ widths_of (take t values) ++ widths_of (drop t values)
widths_split values t = ap widths_of (sym (take-append-drop t values)) ∙ map-append (λ (value : Word). value.width) (take t values) (drop t values)

input_widths_split : (ports : List PortLine) (k : ℕ) → input_widths ports ≡ input_widths (take k ports) ++ input_widths (drop k ports)
input_widths_split ports k =
    ap input_widths (sym (take-append-drop k ports))
    ∙ ap (λ ps. map (λ (port : PortLine). port.width) ps) (filter-append (λ (port : PortLine). not port.output) (take k ports) (drop k ports))
    ∙ map-append (λ (port : PortLine). port.width) (filter (λ (port : PortLine). not port.output) (take k ports)) (filter (λ (port : PortLine). not port.output) (drop k ports))

pub at_turn : (ports : List PortLine) (inputs : List Word) (k t : ℕ) (p : PortLine) → widths_of (take t inputs) ≡ input_widths (take k ports) → slice_get ports k ≡ Some p → p.output ≡ false →
    widths_of inputs ≡ input_widths ports → (value : Word) × (slice_get inputs t ≡ Some value) × (value.width ≡ p.width)
at_turn ports inputs k t p taken at o all =
    let left : widths_of inputs ≡ input_widths (take k ports) ++ widths_of (drop t inputs) = widths_split inputs t ∙ ap (λ ws. ws ++ widths_of (drop t inputs)) taken in
    let rest : widths_of (drop t inputs) ≡ input_widths (drop k ports) = cancel (input_widths (take k ports)) _ _ (sym left ∙ all ∙ input_widths_split ports k) in
    value_in_turn inputs t p.width (input_widths (drop (k + 1) ports)) (rest ∙ turn_of_port ports k p at o)
