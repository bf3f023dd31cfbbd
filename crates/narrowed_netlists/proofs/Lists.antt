-- What stands at the places of a list.
use Rattle.std.proofs.Common.{◌≡◌, ℕ, zero, suc, ◌+◌, ◌<◌, Bool, true, false, cond, List, [], ◌∷◌, ◌++◌, length, take, slice_get, Option, Some, refl, arith}
use Rattle.std.specs.Prelude.{not, if◌then◌else◌}
use Rattle.std.specs.List.{position_from}
use Rattle.std.specs.Str.{bytes_eq}
use Rattle.std.proofs.lemmas.List.Sums.{sum_by-cons}
use Rattle.netlist.specs.declared.line.Line.{Line}
use Rattle.netlist.specs.declared.line.PortLine.{PortLine}
use Rattle.netlist.specs.declared.line.Equation.TheVariants.{Input}
use Rattle.netlist.specs.Netlists.{IsInputPort, input_lines, input_net, input_count, width_at, line_of}
use Rattle.netlist.specs.Signals.{port_named}

pub slice_get-some : {X : Type 0} (xs : List X) (n : ℕ) → n < length xs → (x : X) × (slice_get xs n ≡ Some x)
slice_get-some [] n h = absurd (omega arith)
slice_get-some (x ∷ xs) zero h = (x, refl)
slice_get-some (x ∷ xs) (suc n) h = slice_get-some xs n (omega arith)

pub slice_get-front : {X : Type 0} (xs ys : List X) (n : ℕ) (x : X) → slice_get xs n ≡ Some x → slice_get (xs ++ ys) n ≡ Some x
slice_get-front [] ys n x e = cc
slice_get-front (a ∷ xs) ys zero x e = e
slice_get-front (a ∷ xs) ys (suc n) x e = slice_get-front xs ys n x e

pub slice_get-last : {X : Type 0} (xs : List X) (x : X) → slice_get (xs ++ x ∷ []) (length xs) ≡ Some x
slice_get-last [] x = refl
slice_get-last (a ∷ xs) x = slice_get-last xs x

pub length-push : {X : Type 0} (xs : List X) (x : X) → length (xs ++ x ∷ []) ≡ length xs + 1
length-push [] x = omega arith
length-push (a ∷ xs) x = let e = length-push xs x in omega (arith, e)

pub width_at-line : (xs : List Line) (n w : ℕ) → width_at xs n ≡ Some w → (line : Line) × (slice_get xs n ≡ Some line) × (line.width ≡ w)
width_at-line [] n w e = cc
width_at-line (x ∷ xs) zero w e = (x, refl, (cc))
width_at-line (x ∷ xs) (suc n) w e = width_at-line xs n w e

pub width_at-is : (xs : List Line) (n : ℕ) (line : Line) → slice_get xs n ≡ Some line → width_at xs n ≡ Some line.width
width_at-is xs n line e = rw e refl

-- ---- ports

pub input_count-cons : (p : PortLine) (ports : List PortLine) → input_count (p ∷ ports) ≡ cond (not p.output) 1 0 + input_count ports
input_count-cons p ports = sum_by-cons (λ (port : PortLine). cond (not port.output) 1 0) p ports

past : (t : Bool) (l : Line) (ls : List Line) (c : ℕ) (o : Option Line) → slice_get ls c ≡ o → slice_get (if t then ls else l ∷ ls) (cond (not t) 1 0 + c) ≡ o
past true l ls c o e = let z : 0 + c ≡ c = omega arith in rw z e
past false l ls c o e = let s : 1 + c ≡ suc c = omega arith in rw s e

-- the line of an input port stands at its net
pub input_lines-at : (ports : List PortLine) (j k w : ℕ) → IsInputPort ports k w → slice_get (input_lines j ports) (input_net ports k) ≡ Some (line_of w (Input (j + k)))
input_lines-at [] j k w i = let e = i.is in cc
input_lines-at (p ∷ ports) j zero w i =
    let e = i.is in
    let o : p.output ≡ false = (let h = i.input in cc) in
    let v : p.width ≡ w = (let h = i.width in cc) in
    let z : j + 0 ≡ j = omega arith in
    rw (o, v, z) refl
input_lines-at (p ∷ ports) j (suc k) w i =
    let b : j + suc k ≡ (j + 1) + k = omega arith in
    rw (b, input_count-cons p (take k ports)) (past p.output (line_of p.width (Input j)) (input_lines (j + 1) ports) (input_net ports k) _
    (input_lines-at ports (j + 1) k w (record { port = i.port; is = i.is; input = i.input; width = i.width })))

record IsFoundAt (ports : List PortLine) (j k : ℕ) : Type 0 where
  pub place : ℕ
  pub is : k ≡ j + place
  pub inside : place < length ports

found_here : (port : PortLine) (ports : List PortLine) (j k : ℕ) (t : Bool) (o : Option ℕ) → cond t (Some j) o ≡ Some k → (o ≡ Some k → IsFoundAt ports (j + 1) k) → IsFoundAt (port ∷ ports) j k
found_here port ports j k true o e rest = let same : j ≡ k = cc in record { place = 0; is = omega (arith, same); inside = omega arith }
found_here port ports j k false o e rest = let its = rest e in let is = its.is in let lt = its.inside in record { place = suc its.place; is = omega (arith, is); inside = omega (arith, lt) }

found_at : (test : PortLine → Bool) (ports : List PortLine) (j k : ℕ) → position_from test j ports ≡ Some k → IsFoundAt ports j k
found_at test [] j k e = cc
found_at test (port ∷ ports) j k e = found_here port ports j k (test port) (position_from test (j + 1) ports) e (λ f. found_at test ports (j + 1) k f)

pub named_port : (ports : List PortLine) (name : List ℕ) (k : ℕ) → port_named ports name ≡ Some k → (port : PortLine) × (slice_get ports k ≡ Some port)
named_port ports name k e =
    let found = found_at (λ (port : PortLine). bytes_eq port.name name) ports 0 k e in
    let is = found.is in
    let lt = found.inside in
    slice_get-some ports k (omega (arith, is, lt))
