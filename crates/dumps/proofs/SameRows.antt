-- Runs with the same nets have the same rows.
use Rattle.std.proofs.Common.{◌≡◌, ℕ, zero, suc, ◌+◌, ◌<◌, Bool, true, false, List, [], ◌∷◌, ◌++◌, length, drop, slice_get, Option, Some, None, refl, sym, ap, subst, ◌∙◌, arith}
use Rattle.std.specs.Prelude.{unwrap_or}
use Rattle.std.proofs.lemmas.Option.{slice_get_within}
use Rattle.av_base.specs.Word.{Word, word}
use Rattle.netlist.specs.declared.line.Line.{Line}
use Rattle.netlist.specs.declared.line.PortLine.{PortLine}
use Rattle.netlist.specs.Netlists.{Netlist, IsModule, IsInputPort, driver_of, input_net, width_at}
use Rattle.netlist.specs.Runs.{Cycle, Run, cycle_of, SameInputs, SameNets}
use Rattle.netlist.specs.Signals.{port_net}
use Rattle.dumps.specs.Rows.{port_row, run_rows, IsRunOn}
use Rattle.dumps.proofs.Ports.{input_within, undriven}

width_within : (lines : List Line) (n w : ℕ) (o : Option Line) → slice_get lines n ≡ o → width_at lines n ≡ Some w → n < length lines
width_within lines n w (Some line) e h = slice_get_within lines n line e
width_within lines n w None e h = let none : width_at lines n ≡ None = rw e refl in cc

driven_within : (netlist : Netlist) → IsModule netlist → (k : ℕ) (port : PortLine) → slice_get netlist.ports k ≡ Some port → port.output ≡ true
    → (o : Option ℕ) → driver_of netlist k ≡ o → port_net netlist k < length netlist.lines
driven_within netlist sound k port at out (Some n) e =
    let net = (sound.well_made.drivers k n e).net in
    subst (λ (o : Option ℕ). unwrap_or o (input_net netlist.ports k) < length netlist.lines) (sym e) (width_within netlist.lines n _ (slice_get netlist.lines n) refl net)
driven_within netlist sound k port at out None e =
    let some = sound.driven k port.width (record { port = port; is = at; output = out; width = refl }) in
    cc

-- the net at a port is one of the module's
net_within : (netlist : Netlist) → IsModule netlist → (k : ℕ) (port : PortLine) → slice_get netlist.ports k ≡ Some port → (b : Bool) → port.output ≡ b → port_net netlist k < length netlist.lines
net_within netlist sound k port at true out = driven_within netlist sound k port at out (driver_of netlist k) refl
net_within netlist sound k port at false out =
    let none = undriven netlist sound k port at out (driver_of netlist k) refl in
    subst (λ (o : Option ℕ). unwrap_or o (input_net netlist.ports k) < length netlist.lines) (sym none) (input_within netlist sound k port at out)

record IsFront {X : Type 0} (xs : List X) (k : ℕ) (x : X) (rest : List X) : Type 0 where
  at : slice_get xs k ≡ Some x
  behind : drop (k + 1) xs ≡ rest

front : {X : Type 0} (xs : List X) (k : ℕ) (x : X) (rest : List X) → drop k xs ≡ x ∷ rest → IsFront xs k x rest
front xs zero x rest e = record { at = ap (λ ys. slice_get ys 0) e; behind = ap (drop 1) e }
front [] (suc k) x rest e = cc
front (y ∷ ys) (suc k) x rest e = let h = front ys k x rest e in record { at = h.at; behind = (let more : suc k + 1 ≡ suc (k + 1) = omega arith in ap (λ (n : ℕ). drop n (y ∷ ys)) more ∙ h.behind) }

same_row : (netlist : Netlist) (x y : Cycle) → IsModule netlist → SameNets netlist x y → (k : ℕ) (ports : List PortLine) → drop k netlist.ports ≡ ports → port_row netlist x k ports ≡ port_row netlist y k ports
same_row netlist x y sound same k [] e = refl
same_row netlist x y sound same k (port ∷ ports) e =
    let at = front netlist.ports k port ports e in
    let net = same (port_net netlist k) (net_within netlist sound k port at.at port.output refl) in
    ap (λ (n : ℕ). word port.width n ∷ port_row netlist x (k + 1) ports) net
    ∙ ap (λ (row : List Word). word port.width (y.net (port_net netlist k)) ∷ row) (same_row netlist x y sound same (k + 1) ports at.behind)

pub same_rows : (netlist : Netlist) (x y : Run) (n : ℕ) → IsModule netlist → ((c : ℕ) → c < n → SameNets netlist (cycle_of x c) (cycle_of y c)) → run_rows netlist x n ≡ run_rows netlist y n
same_rows netlist x y zero sound same = refl
same_rows netlist x y (suc n) sound same =
    ap (λ (rows : List (List Word)). rows ++ port_row netlist (cycle_of x n) 0 netlist.ports ∷ []) (same_rows netlist x y n sound (λ c less. same c (omega arith)))
    ∙ ap (λ (row : List Word). run_rows netlist y n ++ row ∷ []) (same_row netlist (cycle_of x n) (cycle_of y n) sound (same n (omega arith)) 0 netlist.ports refl)

row_there : (rows : List (List Word)) (c : ℕ) → c < length rows → (row : List Word) × (slice_get rows c ≡ Some row)
row_there [] c less = absurd (omega arith)
row_there (row ∷ rows) zero less = (row, refl)
row_there (row ∷ rows) (suc c) less = row_there rows c (omega arith)

-- two runs on the same rows have the same inputs
pub same_inputs : (netlist : Netlist) (rows : List (List Word)) (x y : Run) → IsRunOn netlist rows x → IsRunOn netlist rows y → (c : ℕ) → c < length rows
    → SameInputs netlist (cycle_of x c) (cycle_of y c)
same_inputs netlist rows x y one other c less k w is =
    let row = row_there rows c less in
    one.inputs c row.0 row.1 k w is ∙ sym (other.inputs c row.0 row.1 k w is)
