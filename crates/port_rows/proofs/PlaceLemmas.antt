-- Where inputs stand in a row: apart, and each as wide as its port.
use Rattle.std.proofs.Common.{◌≡◌, inl, inr, ℕ, zero, suc, ◌+◌, ◌<◌, Bool, true, false, not, cond, List, [], ◌∷◌, take, slice_get, Some, None, refl, sym, ap, subst, ◌∙◌, arith}
use Rattle.std.proofs.lemmas.Bool.{cases_order, cases_Bool}
use Rattle.std.proofs.lemmas.List.Sums.{sum_by-cons}
use Rattle.av_base.specs.Word.{Word}
use Rattle.netlist.specs.declared.line.PortLine.{PortLine}
use Rattle.netlist.specs.Netlists.{IsInputPort, input_net, input_count}
use Rattle.cycle_sim.specs.Sims.{widths_of, input_widths}
use Rattle.port_rows.specs.Rows.{IsPlace}

-- one place for an input, and none for an output
abbrev one_for : PortLine → ℕ
one_for port = cond (not port.output) 1 0

counted : (port : PortLine) (ports : List PortLine) → input_count (port ∷ ports) ≡ one_for port + input_count ports
counted port ports = sum_by-cons one_for port ports

-- a later port has a later place
later_place : (ports : List PortLine) (j k : ℕ) (port : PortLine) → slice_get ports j ≡ Some port → port.output ≡ false → j < k → input_net ports j < input_net ports k
later_place [] j k port at input h = let none : None ≡ Some port = at in cc
later_place (first ∷ later) j zero port at input h = absurd (omega arith)
later_place (first ∷ later) zero (suc k) port at input h =
    let is : first ≡ port = cc in
    let one : one_for first ≡ 1 = ap one_for is ∙ ap (λ (b : Bool). cond (not b) 1 0) input in
    let count = counted first (take k later) in
    omega (arith, one, count)
later_place (first ∷ later) (suc j) (suc k) port at input h =
    let rest = later_place later j k port at input (omega arith) in
    let one = counted first (take j later) in
    let other = counted first (take k later) in
    omega (arith, rest, one, other)

pub places_apart : (ports : List PortLine) (j k v w : ℕ) → IsInputPort ports j v → IsInputPort ports k w → input_net ports j ≡ input_net ports k → j ≡ k
places_apart ports j k v w one other same =
    elim (cases_order j k) [
      | inl e ↦ e
      | inr (inl below) ↦ let h = later_place ports j k one.port one.is one.input below in absurd (omega (arith, h, same))
      | inr (inr above) ↦ let h = later_place ports k j other.port other.is other.input above in absurd (omega (arith, h, same))
    ]

-- an input has its width and its place at the front
widths_with : (first : PortLine) (later : List PortLine) → first.output ≡ false → input_widths (first ∷ later) ≡ first.width ∷ input_widths later
widths_with first later e = rw e refl

widths_without : (first : PortLine) (later : List PortLine) → first.output ≡ true → input_widths (first ∷ later) ≡ input_widths later
widths_without first later e = rw e refl

place_with : (first : PortLine) (later : List PortLine) (k : ℕ) → first.output ≡ false → input_net (first ∷ later) (suc k) ≡ suc (input_net later k)
place_with first later k e =
    let one : one_for first ≡ 1 = ap (λ (b : Bool). cond (not b) 1 0) e in
    let count = counted first (take k later) in
    omega (arith, one, count)

place_without : (first : PortLine) (later : List PortLine) (k : ℕ) → first.output ≡ true → input_net (first ∷ later) (suc k) ≡ input_net later k
place_without first later k e =
    let none : one_for first ≡ 0 = ap (λ (b : Bool). cond (not b) 1 0) e in
    let count = counted first (take k later) in
    omega (arith, none, count)

-- a place of the rest is one further on of the whole
further : (value : Word) (row : List Word) (place width : ℕ) → IsPlace row place width → IsPlace (value ∷ row) (suc place) width
further value row place width h = let inside = h.there in record { there = omega arith; wide = h.wide }

first_place : (value : Word) (row : List Word) (width : ℕ) → value.width ≡ width → IsPlace (value ∷ row) 0 width
first_place value row width h = record { there = omega arith; wide = h }

same_tail : (x y : ℕ) (xs ys : List ℕ) → x ∷ xs ≡ y ∷ ys → (x ≡ y) × (xs ≡ ys)
same_tail x y xs ys e = (cc, cc)

-- each input of these ports has its place in each row of their widths
abbrev pub HavePlaces : List PortLine → Type 0
HavePlaces ports = (row : List Word) (k : ℕ) (port : PortLine) → widths_of row ≡ input_widths ports → slice_get ports k ≡ Some port → port.output ≡ false
    → IsPlace row (input_net ports k) port.width

at_input : (first : PortLine) (later : List PortLine) → HavePlaces later → (row : List Word) (k : ℕ) (port : PortLine) → first.output ≡ false → widths_of row ≡ first.width ∷ input_widths later
    → slice_get (first ∷ later) k ≡ Some port → port.output ≡ false → IsPlace row (input_net (first ∷ later) k) port.width
at_input first later rest [] k port e same at input = cc
at_input first later rest (value ∷ row) zero port e same at input =
    let is : first ≡ port = cc in
    first_place value row port.width ((same_tail _ _ _ _ same).0 ∙ ap (λ (p : PortLine). p.width) is)
at_input first later rest (value ∷ row) (suc k) port e same at input =
    subst (λ (place : ℕ). IsPlace (value ∷ row) place port.width) (sym (place_with first later k e))
    (further value row (input_net later k) port.width (rest row k port (same_tail _ _ _ _ same).1 at input))

at_output : (first : PortLine) (later : List PortLine) → HavePlaces later → (row : List Word) (k : ℕ) (port : PortLine) → first.output ≡ true → widths_of row ≡ input_widths later
    → slice_get (first ∷ later) k ≡ Some port → port.output ≡ false → IsPlace row (input_net (first ∷ later) k) port.width
at_output first later rest row zero port e same at input =
    let is : first ≡ port = cc in
    let both : true ≡ false = sym e ∙ ap (λ (p : PortLine). p.output) is ∙ input in
    cc
at_output first later rest row (suc k) port e same at input =
    subst (λ (place : ℕ). IsPlace row place port.width) (sym (place_without first later k e)) (rest row k port same at input)

pub place_there : (ports : List PortLine) → HavePlaces ports
place_there [] row k port same at input = let none : None ≡ Some port = at in cc
place_there (first ∷ later) row k port same at input =
    elim (cases_Bool first.output) [
      | inl e ↦ at_output first later (place_there later) row k port e (same ∙ widths_without first later e) at input
      | inr e ↦ at_input first later (place_there later) row k port e (same ∙ widths_with first later e) at input
    ]
