-- What stands at the places of a list, and the lines of inputs.
use Rattle.std.proofs.Common.{◌≡◌, ℕ, zero, suc, ◌+◌, ◌<◌, ◌⊎◌, inl, inr, Bool, true, false, not, cond, List, [], ◌∷◌, ◌++◌, length, take, set, slice_get, Option, Some, refl, ap, arith}
use Rattle.std.specs.Prelude.{if◌then◌else◌}
use Rattle.std.proofs.lemmas.List.Sums.{sum_by-cons}
use Rattle.netlist.specs.declared.line.Line.{Line}
use Rattle.netlist.specs.declared.line.PortLine.{PortLine}
use Rattle.netlist.specs.declared.line.Equation.TheVariants.{Input}
use Rattle.netlist.specs.Netlists.{IsInputPort, input_count, input_net, input_lines, line_of, width_at}

-- ---- lists

pub slice_get-some : {X : Type 0} (xs : List X) (n : ℕ) → n < length xs → (x : X) × (slice_get xs n ≡ Some x)
slice_get-some [] n h = absurd (omega arith)
slice_get-some (x ∷ xs) zero h = (x, refl)
slice_get-some (x ∷ xs) (suc n) h = slice_get-some xs n (omega arith)

pub slice_get-front : {X : Type 0} (xs ys : List X) (n : ℕ) (x : X) → slice_get xs n ≡ Some x → slice_get (xs ++ ys) n ≡ Some x
slice_get-front [] ys n x e = cc
slice_get-front (a ∷ xs) ys zero x e = e
slice_get-front (a ∷ xs) ys (suc n) x e = slice_get-front xs ys n x e

pub slice_get-last : {X : Type 0} (xs : List X) (x : X) → slice_get (xs ++ x ∷ []) (length xs) ≡ Some x
slice_get-last [] x = refl
slice_get-last (a ∷ xs) x = slice_get-last xs x

-- what stands in a list in which one item was set
pub slice_get-set_kept : {X : Type 0} (xs : List X) (k n : ℕ) (y x : X) → slice_get xs n ≡ Some x → (slice_get (set xs k y) n ≡ Some x) ⊎ (n ≡ k) × (slice_get (set xs k y) n ≡ Some y)
slice_get-set_kept [] k n y x e = cc
slice_get-set_kept (a ∷ xs) zero zero y x e = inr (refl, refl)
slice_get-set_kept (a ∷ xs) zero (suc n) y x e = inl e
slice_get-set_kept (a ∷ xs) (suc k) zero y x e = inl e
slice_get-set_kept (a ∷ xs) (suc k) (suc n) y x e = elim (slice_get-set_kept xs k n y x e) [ inl o ↦ inl o | inr o ↦ inr (ap suc o.0, o.1) ]

pub slice_get-set_newly : {X : Type 0} (xs : List X) (k n : ℕ) (y z : X) → slice_get (set xs k y) n ≡ Some z → ((n ≡ k → ⊥) × (slice_get xs n ≡ Some z)) ⊎ (n ≡ k) × (y ≡ z)
slice_get-set_newly [] k n y z e = cc
slice_get-set_newly (a ∷ xs) zero zero y z e = inr (refl, (cc))
slice_get-set_newly (a ∷ xs) zero (suc n) y z e = inl ((λ p. absurd (omega (arith, p))), e)
slice_get-set_newly (a ∷ xs) (suc k) zero y z e = inl ((λ p. absurd (omega (arith, p))), e)
slice_get-set_newly (a ∷ xs) (suc k) (suc n) y z e = elim (slice_get-set_newly xs k n y z e)
    [ inl o ↦ inl ((λ p. o.0 (let q : n ≡ k = omega (arith, p) in q)), o.1) | inr o ↦ inr (ap suc o.0, o.1) ]

pub slice_get-set_same : {X : Type 0} (xs : List X) (k : ℕ) (y : X) → k < length xs → slice_get (set xs k y) k ≡ Some y
slice_get-set_same [] k y h = absurd (omega arith)
slice_get-set_same (a ∷ xs) zero y h = refl
slice_get-set_same (a ∷ xs) (suc k) y h = slice_get-set_same xs k y (omega arith)

-- ---- widths

pub width_at-line : (xs : List Line) (n w : ℕ) → width_at xs n ≡ Some w → (line : Line) × (slice_get xs n ≡ Some line) × (line.width ≡ w)
width_at-line [] n w e = cc
width_at-line (x ∷ xs) zero w e = (x, refl, (cc))
width_at-line (x ∷ xs) (suc n) w e = width_at-line xs n w e

pub width_at-is : (xs : List Line) (n : ℕ) (line : Line) → slice_get xs n ≡ Some line → width_at xs n ≡ Some line.width
width_at-is xs n line e = rw e refl

-- ---- the lines of inputs

-- past what an input heads by its line, and an output leaves as it is
past : (b : Bool) (l : Line) (xs : List Line) (n : ℕ) (r : Option Line) → slice_get xs n ≡ r → slice_get (if b then xs else l ∷ xs) (cond (not b) 1 0 + n) ≡ r
past true l xs n r e = let z : 0 + n ≡ n = omega arith in rw z e
past false l xs n r e = let z : 1 + n ≡ suc n = omega arith in rw z e

input_count-cons : (p : PortLine) (ports : List PortLine) → input_count (p ∷ ports) ≡ cond (not p.output) 1 0 + input_count ports
input_count-cons p ports = sum_by-cons (λ (port : PortLine). cond (not port.output) 1 0) p ports

-- the line of an input port stands at its net
pub input_lines-at : (ports : List PortLine) (j k w : ℕ) → IsInputPort ports k w → slice_get (input_lines j ports) (input_net ports k) ≡ Some (line_of w (Input (j + k)))
input_lines-at [] j k w i = let e = i.is in cc
input_lines-at (p ∷ ports) j zero w i =
    let e = i.is in
    let o : p.output ≡ false = (let h = i.input in cc) in
    let v : p.width ≡ w = (let h = i.width in cc) in
    let z : j + 0 ≡ j = omega arith in
    rw (o, v, z) refl
input_lines-at (p ∷ ports) j (suc k) w i =
    let b : j + suc k ≡ (j + 1) + k = omega arith in
    rw (b, input_count-cons p (take k ports)) (past p.output (line_of p.width (Input j)) (input_lines (j + 1) ports) (input_net ports k) _
    (input_lines-at ports (j + 1) k w (record { port = i.port; is = i.is; input = i.input; width = i.width })))

-- each line among them is one of an input port
pub record IsOfInput (ports : List PortLine) (j : ℕ) (line : Line) : Type 0 where
  pub port : ℕ
  pub width : ℕ
  pub input : IsInputPort ports port width
  pub is : line ≡ line_of width (Input (j + port))

of_rest : (p : PortLine) (ports : List PortLine) (j : ℕ) (line : Line) → IsOfInput ports (j + 1) line → IsOfInput (p ∷ ports) j line
of_rest p ports j line i =
    let b : (j + 1) + i.port ≡ j + suc i.port = omega arith in
    record {
      port = suc i.port;
      width = i.width;
      input = record { port = i.input.port; is = i.input.is; input = i.input.input; width = i.input.width };
      is = rw b at i.is;
    }

of_first : (p : PortLine) (ports : List PortLine) (j : ℕ) (line : Line) → p.output ≡ false → line_of p.width (Input j) ≡ line → IsOfInput (p ∷ ports) j line
of_first p ports j line o e =
    let z : j + 0 ≡ j = omega arith in
    record {
      port = 0;
      width = p.width;
      input = record { port = p; is = refl; input = o; width = refl };
      is = rw z (cc);
    }

pub input_lines-from : (ports : List PortLine) (j n : ℕ) (line : Line) → slice_get (input_lines j ports) n ≡ Some line → IsOfInput ports j line
input_lines-from [] j n line e = cc
input_lines-from (p ∷ ports) j zero line e =
    elim p.output as (λ b. p.output ≡ b → slice_get (if b then input_lines (j + 1) ports else line_of p.width (Input j) ∷ input_lines (j + 1) ports) 0 ≡ Some line → IsOfInput (p ∷ ports) j line) [
      | true ↦ λ o h. of_rest p ports j line (input_lines-from ports (j + 1) 0 line h)
      | false ↦ λ o h. of_first p ports j line o (cc)
    ] refl e
input_lines-from (p ∷ ports) j (suc n) line e =
    elim p.output as (λ b. p.output ≡ b → slice_get (if b then input_lines (j + 1) ports else line_of p.width (Input j) ∷ input_lines (j + 1) ports) (suc n) ≡ Some line → IsOfInput (p ∷ ports) j line) [
      | true ↦ λ o h. of_rest p ports j line (input_lines-from ports (j + 1) (suc n) line h)
      | false ↦ λ o h. of_rest p ports j line (input_lines-from ports (j + 1) n line h)
    ] refl e
