-- Ports by number and by name.
use Rattle.std.proofs.Common.{◌≡◌, ◌≢◌, ℕ, zero, suc, ◌+◌, List, [], ◌∷◌, slice_get, get_or, Bool, true, false, Option, Some, None, refl, subst, ap, ◌∙◌, arith}
use Rattle.std.specs.Prelude.{AllPairs, unwrap_or, option_map}
use Rattle.std.specs.List.{position_from}
use Rattle.std.specs.Str.{bytes_eq}
use Rattle.std.specs.Bool.{Decides}
use Rattle.std.proofs.lemmas.Bool.Decides.{Decides-eqb}
use Rattle.std.proofs.lemmas.Slice.Eq.{slice_eq-Decides}
use Rattle.std.proofs.lemmas.Option.{get_or_from_slice_get}
use Rattle.netlist.specs.declared.line.PortLine.{PortLine}
use Rattle.netlist.specs.Netlists.{Netlist, IsInputPort, IsWellMade, driver_of, input_net}
use Rattle.netlist.specs.Runs.{Run}
use Rattle.netlist.specs.Signals.{port_net, port_value, signal}
use Rattle.netlist.proofs.Lists.{slice_get-within}

pub driven_value : (b : Netlist) (run : Run) (c k n : ℕ) → driver_of b k ≡ Some n → port_value b run c k ≡ run.net c n
driven_value b run c k n e = ap (λ (o : Option ℕ). run.net c (unwrap_or o (input_net b.ports k))) e

no_driver : (b : Netlist) (k w : ℕ) → IsWellMade b → IsInputPort b.ports k w → (o : Option ℕ) → driver_of b k ≡ o → o ≡ None
no_driver b k w h i None e = refl
no_driver b k w h i (Some n) e =
    let d = (h.drivers k n e).port in
    let p = i.is in
    let q = d.is in
    let same : i.port ≡ d.port = cc in
    let input = i.input in
    let output = d.output in
    cc

pub input_port_net : (b : Netlist) (k w : ℕ) → IsWellMade b → IsInputPort b.ports k w → port_net b k ≡ input_net b.ports k
input_port_net b k w h i = ap (λ (o : Option ℕ). unwrap_or o (input_net b.ports k)) (no_driver b k w h i (driver_of b k) refl)

pub names_equal : (xs ys : List ℕ) → Decides (bytes_eq xs ys) (xs ≡ ys)
names_equal xs ys = slice_eq-Decides Decides-eqb xs ys (bytes_eq xs ys) refl

not_true : (b : Bool) → (b ≡ true → ⊥) → b ≡ false
not_true true h = absurd (h refl)
not_true false h = refl

names_differ : (xs ys : List ℕ) → xs ≢ ys → bytes_eq xs ys ≡ false
names_differ xs ys h = not_true (bytes_eq xs ys) (λ e. h ((names_equal xs ys).0 e))

-- no two ports have one name, so each is found by its own
found_from : (ports : List PortLine) (j k : ℕ) (port : PortLine) → AllPairs (λ (p q : PortLine). p.name ≢ q.name) ports → slice_get ports k ≡ Some port →
    position_from (λ (p : PortLine). bytes_eq p.name port.name) j ports ≡ Some (j + k)
found_from [] j k port h e = cc
found_from (p ∷ ports) j zero port h e =
    let is : p ≡ port = cc in
    let same : bytes_eq p.name port.name ≡ true = (names_equal p.name port.name).1 (ap (λ (q : PortLine). q.name) is) in
    let z : j + 0 ≡ j = omega arith in
    rw (same, z) refl
found_from (p ∷ ports) j (suc k) port h e =
    let within = slice_get-within ports k port e in
    let at : get_or ports k port ≡ port = get_or_from_slice_get ports k port port e in
    let other : p.name ≢ port.name = subst (λ (q : PortLine). p.name ≢ q.name) at (h 0 (suc k) port (omega arith) (omega arith)) in
    let z : j + suc k ≡ (j + 1) + k = omega arith in
    rw (names_differ p.name port.name other, z) (found_from ports (j + 1) k port (λ m n d lt in_list. h (suc m) (suc n) d (omega arith) (omega arith)) e)

pub named_signal : (b : Netlist) → IsWellMade b → (k : ℕ) (port : PortLine) → slice_get b.ports k ≡ Some port → (run : Run) → signal b run port.name ≡ Some (λ c. port_value b run c k)
named_signal b h k port at run =
    let z : 0 + k ≡ k = omega arith in
    let found = found_from b.ports 0 k port h.header.distinct at in
    ap (option_map (λ j. λ c. port_value b run c j)) (found ∙ ap Some z)
