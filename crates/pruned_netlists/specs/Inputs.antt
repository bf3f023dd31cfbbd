-- The nets of inputs are needed, so none is left out below them. No contract reads a proof of these.
use Rattle.std.proofs.Common.{◌≡◌, ℕ, zero, suc, ◌+◌, ◌<◌, ◌≤◌, Bool, true, false, not, cond, List, [], ◌∷◌, take, slice_get, Some, refl, arith}
use Rattle.std.specs.Prelude.{if◌then◌else◌}
use Rattle.std.proofs.lemmas.List.Sums.{sum_by-cons}
use Rattle.netlist.specs.declared.line.Line.{Line}
use Rattle.netlist.specs.declared.line.PortLine.{PortLine}
use Rattle.netlist.specs.declared.line.Equation.TheVariants.{Input}
use Rattle.netlist.specs.Netlists.{Netlist, IsWellMade, input_count, input_net, input_lines, is_input, line_of}
use Rattle.pruned_netlists.specs.Needed.{IsNeeded}
use Rattle.pruned_netlists.specs.Pruned.{AreNeededBelow}

-- an input's line stands at this place
record HasInputLine (lines : List Line) (m : ℕ) : Type 0 where
  pub line : Line
  pub at : slice_get lines m ≡ Some line
  pub input : is_input line.equation ≡ true

one_more : (output : Bool) (line : Line) (lines : List Line) (m count : ℕ) → is_input line.equation ≡ true
    → m < cond (not output) 1 0 + count
    → ((k : ℕ) → k < count → HasInputLine lines k) → HasInputLine (if output then lines else line ∷ lines) m
one_more true line lines m count is lt rest = rest m (omega (arith, lt))
one_more false line lines zero count is lt rest = record { line = line; at = refl; input = is }
one_more false line lines (suc m) count is lt rest =
    (let its = rest m (omega (arith, lt)) in record { line = its.line; at = its.at; input = its.input })

input_line : (ports : List PortLine) (j m : ℕ) → m < input_count ports → HasInputLine (input_lines j ports) m
input_line [] j m lt = absurd (omega (arith, lt))
input_line (p ∷ ports) j m lt =
    let one = sum_by-cons (λ (port : PortLine). cond (not port.output) 1 0) p ports in
    one_more p.output (line_of p.width (Input j)) (input_lines (j + 1) ports) m (input_count ports) refl
    (omega (arith, lt, one)) (λ k less. input_line ports (j + 1) k less)

pub inputs_needed : (netlist : Netlist) (n : ℕ) → IsWellMade netlist → n ≤ input_count netlist.ports → AreNeededBelow netlist n
inputs_needed netlist n h few m lt =
    let its = input_line netlist.ports 0 m (omega (arith, lt, few)) in
    IsNeeded.input m its.line (h.inputs.first m its.line its.at) its.input

pub input_net_few : (ports : List PortLine) (k : ℕ) → input_net ports k ≤ input_count ports
input_net_few ports zero = omega arith
input_net_few [] (suc k) = omega arith
input_net_few (p ∷ ports) (suc k) =
    let rest = input_net_few ports k in
    let one = sum_by-cons (λ (port : PortLine). cond (not port.output) 1 0) p (take k ports) in
    let other = sum_by-cons (λ (port : PortLine). cond (not port.output) 1 0) p ports in
    omega (arith, rest, one, other)
