-- An input's net has the width of its port.
use Rattle.std.proofs.Common.{◌≡◌, ℕ, zero, suc, ◌+◌, ◌<◌, ◌^◌, List, [], ◌∷◌, slice_get, take, Bool, true, false, not, cond, Option, Some, refl, subst, arith}
use Rattle.std.specs.Prelude.{if◌then◌else◌}
use Rattle.std.proofs.lemmas.List.Sums.{sum_by-cons}
use Rattle.netlist.specs.declared.line.Line.{Line}
use Rattle.netlist.specs.declared.line.PortLine.{PortLine}
use Rattle.netlist.specs.declared.line.Equation.TheVariants.{Input}
use Rattle.netlist.specs.Netlists.{Netlist, IsWellMade, IsInputPort, input_count, input_net, input_lines, line_of}
use Rattle.netlist.specs.Runs.{Cycle, InputsFit, Always}

-- one line more where the port is an input
past : (output : Bool) (line : Line) (lines : List Line) (n : ℕ) (found : Option Line) → slice_get lines n ≡ found
    → slice_get (if output then lines else line ∷ lines) (cond (not output) 1 0 + n) ≡ found
past true line lines n found e = let none : 0 + n ≡ n = omega arith in rw none e
past false line lines n found e = let one : 1 + n ≡ suc n = omega arith in rw one e

counted : (port : PortLine) (ports : List PortLine) → input_count (port ∷ ports) ≡ cond (not port.output) 1 0 + input_count ports
counted port ports = sum_by-cons (λ (p : PortLine). cond (not p.output) 1 0) port ports

-- the line of an input port stands at its net
line_at : (ports : List PortLine) (j k w : ℕ) → IsInputPort ports k w → slice_get (input_lines j ports) (input_net ports k) ≡ Some (line_of w (Input (j + k)))
line_at [] j k w i = let e = i.is in cc
line_at (p ∷ ports) j zero w i =
    let e = i.is in
    let o : p.output ≡ false = (let h = i.input in cc) in
    let v : p.width ≡ w = (let h = i.width in cc) in
    let z : j + 0 ≡ j = omega arith in
    rw (o, v, z) refl
line_at (p ∷ ports) j (suc k) w i =
    let b : j + suc k ≡ (j + 1) + k = omega arith in
    rw (b, counted p (take k ports)) (past p.output (line_of p.width (Input j)) (input_lines (j + 1) ports) (input_net ports k) _
    (line_at ports (j + 1) k w (record { port = i.port; is = i.is; input = i.input; width = i.width })))

pub fits : ((netlist : Netlist) → IsWellMade netlist → (k w : ℕ) → IsInputPort netlist.ports k w → Always netlist (λ (cycle : Cycle). cycle.net (input_net netlist.ports k) ≡ cycle.input k))
    → (netlist : Netlist) → IsWellMade netlist → Always netlist (λ (cycle : Cycle). InputsFit netlist.ports cycle.input)
fits law netlist h cycle v k w i =
    let line = h.inputs.first (input_net netlist.ports k) _ (line_at netlist.ports 0 k w i) in
    subst (λ n. n < 2 ^ w) (law netlist h k w i cycle v) (v.nets (input_net netlist.ports k) _ line).fits
