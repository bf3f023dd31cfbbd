-- What stands at a port, and the row of all ports.
use Rattle.std.proofs.Common.{◌≡◌, ℕ, zero, suc, ◌+◌, ◌<◌, ◌≤◌, Bool, true, false, not, cond, List, [], ◌∷◌, ◌++◌, length, take, drop, map, get_or, slice_get, Option, Some, None, refl, sym, ap, subst, ◌∙◌, append_assoc, append-nil, drop-cons, arith}
use Rattle.std.specs.Prelude.{if◌then◌else◌, unwrap_or, option_map}
use Rattle.std.proofs.Math.ListN.{set}
use Rattle.std.proofs.lemmas.List.{take_all, take_more_set}
use Rattle.std.proofs.lemmas.List.Sums.{sum_by-cons, sum_by_more}
use Rattle.std.proofs.lemmas.Option.{slice_get_within, get_or_from_slice_get, same_Some}
use Rattle.av_base.specs.Word.{Word, word}
use Rattle.netlist.specs.declared.line.Line.{Line}
use Rattle.netlist.specs.declared.line.PortLine.{PortLine}
use Rattle.netlist.specs.declared.line.Equation.TheVariants.{Input}
use Rattle.netlist.specs.Netlists.{Netlist, IsModule, IsInputPort, IsOutputPort, HasWidth, width_at, driver_of, input_count, input_net, input_lines, line_of}
use Rattle.netlist.specs.Runs.{Cycle}
use Rattle.netlist.specs.Signals.{port_net}
use Rattle.vcd_text.specs.Dumps.{port_of, widths_of}
use Rattle.dumps.specs.Rows.{port_row}

-- ---- the net of an input

past : (b : Bool) (l : Line) (xs : List Line) (n : ℕ) (r : Option Line) → slice_get xs n ≡ r → slice_get (if b then xs else l ∷ xs) (cond (not b) 1 0 + n) ≡ r
past true l xs n r e = let z : 0 + n ≡ n = omega arith in rw z e
past false l xs n r e = let z : 1 + n ≡ suc n = omega arith in rw z e

input_count-cons : (p : PortLine) (ports : List PortLine) → input_count (p ∷ ports) ≡ cond (not p.output) 1 0 + input_count ports
input_count-cons p ports = sum_by-cons (λ (port : PortLine). cond (not port.output) 1 0) p ports

input_lines-at : (ports : List PortLine) (j k w : ℕ) → IsInputPort ports k w → slice_get (input_lines j ports) (input_net ports k) ≡ Some (line_of w (Input (j + k)))
input_lines-at [] j k w i = let e = i.is in cc
input_lines-at (p ∷ ports) j zero w i =
    let e = i.is in
    let o : p.output ≡ false = (let h = i.input in cc) in
    let v : p.width ≡ w = (let h = i.width in cc) in
    let z : j + 0 ≡ j = omega arith in
    rw (o, v, z) refl
input_lines-at (p ∷ ports) j (suc k) w i =
    let b : j + suc k ≡ (j + 1) + k = omega arith in
    rw (b, input_count-cons p (take k ports)) (past p.output (line_of p.width (Input j)) (input_lines (j + 1) ports) (input_net ports k) _
    (input_lines-at ports (j + 1) k w (record { port = i.port; is = i.is; input = i.input; width = i.width })))

input_line : (netlist : Netlist) → IsModule netlist → (k : ℕ) (port : PortLine) → slice_get netlist.ports k ≡ Some port → port.output ≡ false
    → slice_get netlist.lines (input_net netlist.ports k) ≡ Some (line_of port.width (Input (0 + k)))
input_line netlist sound k port at input =
    sound.well_made.inputs.first (input_net netlist.ports k) (line_of port.width (Input (0 + k)))
    (input_lines-at netlist.ports 0 k port.width (record { port = port; is = at; input = input; width = refl }))

pub input_within : (netlist : Netlist) → IsModule netlist → (k : ℕ) (port : PortLine) → slice_get netlist.ports k ≡ Some port → port.output ≡ false → input_net netlist.ports k < length netlist.lines
input_within netlist sound k port at input = slice_get_within netlist.lines (input_net netlist.ports k) (line_of port.width (Input (0 + k))) (input_line netlist sound k port at input)

same_port : (one other : PortLine) → Some one ≡ Some other → one ≡ other
same_port one other e = cc

clash : true ≡ false → ⊥
clash e = cc

-- no net drives an input
pub undriven : (netlist : Netlist) → IsModule netlist → (k : ℕ) (port : PortLine) → slice_get netlist.ports k ≡ Some port → port.output ≡ false → (o : Option ℕ) → driver_of netlist k ≡ o → driver_of netlist k ≡ None
undriven netlist sound k port at input None e = e
undriven netlist sound k port at input (Some n) e =
    let driver = (sound.well_made.drivers k n e).port in
    let same : driver.port ≡ port = same_port driver.port port (sym driver.is ∙ at) in
    absurd (clash (sym driver.output ∙ ap (λ (p : PortLine). p.output) same ∙ input))

word_is : (v : Word) (w n : ℕ) → v.width ≡ w → v.bits ≡ n → v ≡ word w n
word_is v w n e f = ap (λ (x : ℕ). word x v.bits) e ∙ ap (λ (y : ℕ). word w y) f

same_width : (v w : ℕ) → Some v ≡ Some w → v ≡ w
same_width v w e = cc

pub input_value : (netlist : Netlist) → IsModule netlist → (cycle : Cycle) (k : ℕ) (port : PortLine) (inputs : ℕ) (v : Word) → slice_get netlist.ports k ≡ Some port → port.output ≡ false → inputs ≡ input_net netlist.ports k
    → HasWidth netlist inputs v.width → v.bits ≡ cycle.net inputs → v ≡ word port.width (cycle.net (port_net netlist k))
input_value netlist sound cycle k port inputs v at input is wide bits =
    let line = input_line netlist sound k port at input in
    let here : width_at netlist.lines inputs ≡ Some port.width = ap (λ (n : ℕ). width_at netlist.lines n) is ∙ ap (λ (o : Option Line). option_map (λ (l : Line). l.width) o) line in
    let net : input_net netlist.ports k ≡ port_net netlist k = ap (λ (o : Option ℕ). unwrap_or o (input_net netlist.ports k)) (sym (undriven netlist sound k port at input (driver_of netlist k) refl)) in
    word_is v port.width (cycle.net (port_net netlist k)) (same_width v.width port.width (sym wide ∙ here)) (bits ∙ ap cycle.net (is ∙ net))

pub output_value : (netlist : Netlist) (cycle : Cycle) (k : ℕ) (port : PortLine) (v : Word) → slice_get netlist.ports k ≡ Some port
    → IsOutputPort netlist.ports k v.width → v.bits ≡ cycle.net (port_net netlist k) → v ≡ word port.width (cycle.net (port_net netlist k))
output_value netlist cycle k port v at is bits =
    word_is v port.width (cycle.net (port_net netlist k)) (sym is.width ∙ ap (λ (p : PortLine). p.width) (same_port is.port port (sym is.is ∙ at))) bits

-- ---- how many inputs stand before a port

pub inputs_few : (ports : List PortLine) (k : ℕ) → input_net ports k ≤ k
inputs_few [] zero = omega arith
inputs_few [] (suc k) = omega arith
inputs_few (p ∷ ports) zero = omega arith
inputs_few (p ∷ ports) (suc k) = let few = inputs_few ports k in let step = input_count-cons p (take k ports) in counted p.output (input_count (take k ports)) step few
  where
    counted : (b : Bool) (n : ℕ) → input_count (p ∷ take k ports) ≡ cond (not b) 1 0 + n → n ≤ k → input_count (p ∷ take k ports) ≤ suc k
    counted true n e h = omega (arith, e, h)
    counted false n e h = omega (arith, e, h)

turned : (b : Bool) → ◌≡◌ {A = ℕ} (cond (not b) 1 0) (if b then 0 else 1)
turned true = refl
turned false = refl

pub inputs_more : (ports : List PortLine) (k : ℕ) (port : PortLine) → slice_get ports k ≡ Some port → input_net ports (k + 1) ≡ input_net ports k + (if port.output then 0 else 1)
inputs_more ports k port at =
    sum_by_more (λ (p : PortLine). cond (not p.output) 1 0) ports k port (slice_get_within ports k port at)
    ∙ ap (λ (p : PortLine). input_net ports k + cond (not p.output) 1 0) (get_or_from_slice_get ports k port port at)
    ∙ ap (λ (n : ℕ). input_net ports k + n) (turned port.output)

-- ---- the row

-- the values before port k are written
pub record IsPartRow (netlist : Netlist) (cycle : Cycle) (k : ℕ) (row : List Word) (inputs : ℕ) : Type 0 where
  pub count : length row ≡ length netlist.ports
  pub front : take k row ++ port_row netlist cycle k (drop k netlist.ports) ≡ port_row netlist cycle 0 netlist.ports
  pub inputs_is : inputs ≡ input_net netlist.ports k

drop_get : {X : Type 0} (xs : List X) (n : ℕ) (x : X) → slice_get xs n ≡ Some x → drop n xs ≡ x ∷ drop (n + 1) xs
drop_get xs n x e =
    let inside = slice_get_within xs n x e in
    let one : suc n ≡ n + 1 = omega arith in
    drop-cons xs n x inside ∙ ap (λ y. y ∷ drop (suc n) xs) (get_or_from_slice_get xs n x x e) ∙ ap (λ (k : ℕ). x ∷ drop k xs) one

pub row_more : (netlist : Netlist) (cycle : Cycle) (k : ℕ) (row : List Word) (port : PortLine) (v : Word) → slice_get netlist.ports k ≡ Some port → k < length row → v ≡ word port.width (cycle.net (port_net netlist k))
    → take k row ++ port_row netlist cycle k (drop k netlist.ports) ≡ port_row netlist cycle 0 netlist.ports
    → take (k + 1) (set row k v) ++ port_row netlist cycle (k + 1) (drop (k + 1) netlist.ports) ≡ port_row netlist cycle 0 netlist.ports
row_more netlist cycle k row port v at inside is front =
    let later = port_row netlist cycle (k + 1) (drop (k + 1) netlist.ports) in
    ap (λ (r : List Word). r ++ later) (take_more_set row k v inside)
    ∙ append_assoc (take k row) (v ∷ []) later
    ∙ ap (λ (w : Word). take k row ++ w ∷ later) is
    ∙ ap (λ (ports : List PortLine). take k row ++ port_row netlist cycle k ports) (sym (drop_get netlist.ports k port at))
    ∙ front

drop_end : {X : Type 0} (xs : List X) (k : ℕ) → length xs ≤ k → drop k xs ≡ []
drop_end [] zero h = refl
drop_end [] (suc k) h = refl
drop_end (x ∷ xs) zero h = absurd (omega arith)
drop_end (x ∷ xs) (suc k) h = drop_end xs k (omega arith)

pub row_whole : (netlist : Netlist) (cycle : Cycle) (k : ℕ) (row : List Word) (inputs : ℕ) → length netlist.ports ≤ k → IsPartRow netlist cycle k row inputs → row ≡ port_row netlist cycle 0 netlist.ports
row_whole netlist cycle k row inputs all part =
    sym (append-nil row)
    ∙ ap (λ (r : List Word). r ++ []) (sym (take_all k row (let c = part.count in omega arith)))
    ∙ ap (λ (ports : List PortLine). take k row ++ port_row netlist cycle k ports) (sym (drop_end netlist.ports k all))
    ∙ part.front

pub row_widths : (netlist : Netlist) (cycle : Cycle) (k : ℕ) (ports : List PortLine) → map (λ (v : Word). v.width) (port_row netlist cycle k ports) ≡ widths_of (map port_of ports)
row_widths netlist cycle k [] = refl
row_widths netlist cycle k (port ∷ ports) = ap (λ (ws : List ℕ). port.width ∷ ws) (row_widths netlist cycle (k + 1) ports)
