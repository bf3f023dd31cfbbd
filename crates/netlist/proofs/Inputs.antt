-- The lines of the input nets.
use Rattle.std.proofs.Common.{◌≡◌, ℕ, zero, suc, ◌+◌, List, [], ◌∷◌, ◌++◌, length, slice_get, get_or, take, map, Bool, true, false, not, cond, All, Option, Some, None, refl, subst, ap, arith}
use Rattle.std.specs.Prelude.{if◌then◌else◌}
use Rattle.std.proofs.lemmas.List.Sums.{sum_by-cons}
use Rattle.std.proofs.lemmas.Option.{get_or_from_slice_get}
use Rattle.netlist.specs.declared.line.Line.{Line}
use Rattle.netlist.specs.declared.line.PortLine.{PortLine}
use Rattle.netlist.specs.declared.line.Equation.TheVariants.{Input}
use Rattle.netlist.specs.Netlists.{IsInputPort, input_count, input_net, input_lines, line_of, undriven}
use Rattle.netlist.proofs.Lists.{slice_get-within}

-- a list that an output leaves as it is, and an input's line heads
one_more : (b : Bool) (l : Line) (xs ys zs : List Line) → ys ≡ xs ++ zs → (if b then ys else l ∷ ys) ≡ (if b then xs else l ∷ xs) ++ zs
one_more true l xs ys zs e = e
one_more false l xs ys zs e = ap (λ t. l ∷ t) e

counted : (b : Bool) (l : Line) (xs : List Line) (n : ℕ) → length xs ≡ n → length (if b then xs else l ∷ xs) ≡ cond (not b) 1 0 + n
counted true l xs n e = omega (arith, e)
counted false l xs n e = omega (arith, e)

past : (b : Bool) (l : Line) (xs : List Line) (n : ℕ) (r : Option Line) → slice_get xs n ≡ r → slice_get (if b then xs else l ∷ xs) (cond (not b) 1 0 + n) ≡ r
past true l xs n r e = let z : 0 + n ≡ n = omega arith in rw z e
past false l xs n r e = let z : 1 + n ≡ suc n = omega arith in rw z e

-- one more port, and its line where it is an input
pub input_lines-take : (ports : List PortLine) (j k : ℕ) (port : PortLine) → slice_get ports k ≡ Some port →
    input_lines j (take (k + 1) ports) ≡ input_lines j (take k ports) ++ (if port.output then [] else line_of port.width (Input (j + k)) ∷ [])
input_lines-take [] j k port e = cc
input_lines-take (p ∷ ports) j zero port e =
    let q : p ≡ port = cc in
    let z : j + 0 ≡ j = omega arith in
    rw (q, z) refl
input_lines-take (p ∷ ports) j (suc k) port e =
    let a : suc k + 1 ≡ suc (k + 1) = omega arith in
    let b : j + suc k ≡ (j + 1) + k = omega arith in
    rw (a, b) (one_more p.output (line_of p.width (Input j)) (input_lines (j + 1) (take k ports)) (input_lines (j + 1) (take (k + 1) ports)) _ (input_lines-take ports (j + 1) k port e))

input_count-cons : (p : PortLine) (ports : List PortLine) → input_count (p ∷ ports) ≡ cond (not p.output) 1 0 + input_count ports
input_count-cons p ports = sum_by-cons (λ (port : PortLine). cond (not port.output) 1 0) p ports

pub length-input_lines : (ports : List PortLine) (j : ℕ) → length (input_lines j ports) ≡ input_count ports
length-input_lines [] j = refl
length-input_lines (p ∷ ports) j =
    rw input_count-cons (counted p.output (line_of p.width (Input j)) (input_lines (j + 1) ports) (input_count ports) (length-input_lines ports (j + 1)))

-- the line of an input port stands at its net
pub input_lines-at : (ports : List PortLine) (j k w : ℕ) → IsInputPort ports k w → slice_get (input_lines j ports) (input_net ports k) ≡ Some (line_of w (Input (j + k)))
input_lines-at [] j k w i = let e = i.is in cc
input_lines-at (p ∷ ports) j zero w i =
    let e = i.is in
    let o : p.output ≡ false = (let h = i.input in cc) in
    let v : p.width ≡ w = (let h = i.width in cc) in
    let z : j + 0 ≡ j = omega arith in
    rw (o, v, z) refl
input_lines-at (p ∷ ports) j (suc k) w i =
    let b : j + suc k ≡ (j + 1) + k = omega arith in
    rw (b, input_count-cons p (take k ports)) (past p.output (line_of p.width (Input j)) (input_lines (j + 1) ports) (input_net ports k) _
    (input_lines-at ports (j + 1) k w (record { port = i.port; is = i.is; input = i.input; width = i.width })))

-- each line among them is one of an input port
pub record IsOfInput (ports : List PortLine) (j : ℕ) (line : Line) : Type 0 where
  pub port : ℕ
  pub width : ℕ
  pub input : IsInputPort ports port width
  pub is : line ≡ line_of width (Input (j + port))

of_rest : (p : PortLine) (ports : List PortLine) (j : ℕ) (line : Line) → IsOfInput ports (j + 1) line → IsOfInput (p ∷ ports) j line
of_rest p ports j line i =
    let b : (j + 1) + i.port ≡ j + suc i.port = omega arith in
    record {
      port = suc i.port;
      width = i.width;
      input = record { port = i.input.port; is = i.input.is; input = i.input.input; width = i.input.width };
      is = rw b at i.is;
    }

of_first : (p : PortLine) (ports : List PortLine) (j : ℕ) (line : Line) → p.output ≡ false → line_of p.width (Input j) ≡ line → IsOfInput (p ∷ ports) j line
of_first p ports j line o e =
    let z : j + 0 ≡ j = omega arith in
    record {
      port = 0;
      width = p.width;
      input = record { port = p; is = refl; input = o; width = refl };
      is = rw z (cc);
    }

pub input_lines-from : (ports : List PortLine) (j n : ℕ) (line : Line) → slice_get (input_lines j ports) n ≡ Some line → IsOfInput ports j line
input_lines-from [] j n line e = cc
input_lines-from (p ∷ ports) j zero line e =
    elim p.output as (λ b. p.output ≡ b → slice_get (if b then input_lines (j + 1) ports else line_of p.width (Input j) ∷ input_lines (j + 1) ports) 0 ≡ Some line → IsOfInput (p ∷ ports) j line) [
      | true ↦ λ o h. of_rest p ports j line (input_lines-from ports (j + 1) 0 line h)
      | false ↦ λ o h. of_first p ports j line o (cc)
    ] refl e
input_lines-from (p ∷ ports) j (suc n) line e =
    elim p.output as (λ b. p.output ≡ b → slice_get (if b then input_lines (j + 1) ports else line_of p.width (Input j) ∷ input_lines (j + 1) ports) (suc n) ≡ Some line → IsOfInput (p ∷ ports) j line) [
      | true ↦ λ o h. of_rest p ports j line (input_lines-from ports (j + 1) (suc n) line h)
      | false ↦ λ o h. of_rest p ports j line (input_lines-from ports (j + 1) n line h)
    ] refl e

-- what holds of all ports holds of the one at a place
pub All-slice_get : (P : PortLine → Type 0) (ports : List PortLine) (k : ℕ) (port : PortLine) → All P ports → slice_get ports k ≡ Some port → P port
All-slice_get P ports k port all e = subst P (get_or_from_slice_get ports k port port e) (all k port (slice_get-within ports k port e))

pub undriven-at : (ports : List PortLine) (k n : ℕ) → get_or (map undriven ports) k None ≡ Some n → ⊥
undriven-at [] k n e = cc
undriven-at (p ∷ ports) zero n e = cc
undriven-at (p ∷ ports) (suc k) n e = undriven-at ports k n e

pub length-undriven : (ports : List PortLine) → length (map undriven ports) ≡ length ports
length-undriven [] = refl
length-undriven (p ∷ ports) = ap suc (length-undriven ports)

pub undriven-none : (ports : List PortLine) (k : ℕ) → get_or (map undriven ports) k None ≡ None
undriven-none [] k = refl
undriven-none (p ∷ ports) zero = refl
undriven-none (p ∷ ports) (suc k) = undriven-none ports k
