-- Texts that are written piece by piece.
use Rattle.std.proofs.Common.{◌≡◌, ℕ, suc, ◌+◌, ◌≤◌, true, false, List, [], ◌∷◌, ◌++◌, length, take, drop, slice_get, Some, refl, sym, ap, ◌∙◌, arith, append_assoc, drop-cons}
use Rattle.std.proofs.lemmas.List.{take_all, take-append-le}
use Rattle.std.proofs.lemmas.Option.{slice_get_within, get_or_from_slice_get, same_Some}
use Rattle.netlist.specs.declared.line.PortLine.{PortLine}
use Rattle.netlist.specs.Netlists.{Netlist, IsOutputPort}
use Rattle.netlist.specs.Runs.{Cycle}
use Rattle.netlist.specs.Signals.{port_net}
use Rattle.replays.specs.Traces.{value_text, port_text, ports_text}

-- what is left to write, after one more piece of it
pub written_more : (old new add rest next total : List ℕ) → new ≡ old ++ add → rest ≡ add ++ next → old ++ rest ≡ total → new ++ next ≡ total
written_more old new add rest next total now is known =
    ap (λ (t : List ℕ). t ++ next) now ∙ append_assoc old add next ∙ ap (λ (t : List ℕ). old ++ t) (sym is) ∙ known

-- three pieces written one after the other
pub written_thrice : (old a b c x y z : List ℕ) → a ≡ old ++ x → b ≡ a ++ y → c ≡ b ++ z → c ≡ old ++ (x ++ y ++ z)
written_thrice old a b c x y z e f g = let all : c ≡ old ++ x ++ y ++ z = cc in all ∙ together
  where
    together : old ++ x ++ y ++ z ≡ old ++ (x ++ y ++ z)
    together = simp append_assoc

-- two pieces, the first of which is written behind others
pub written_behind : (a b x y : List ℕ) → a ≡ x → b ≡ a ++ y → b ≡ x ++ y
written_behind a b x y e f = cc

drop_get : {X : Type 0} (xs : List X) (n : ℕ) (x : X) → slice_get xs n ≡ Some x → drop n xs ≡ x ∷ drop (n + 1) xs
drop_get xs n x e =
    let inside = slice_get_within xs n x e in
    let one : suc n ≡ n + 1 = omega arith in
    drop-cons xs n x inside ∙ ap (λ y. y ∷ drop (suc n) xs) (get_or_from_slice_get xs n x x e) ∙ ap (λ (k : ℕ). x ∷ drop k xs) one

pub ports_step : (netlist : Netlist) (cycle : Cycle) (k : ℕ) (port : PortLine) → slice_get netlist.ports k ≡ Some port →
    ports_text netlist cycle k (drop k netlist.ports) ≡ port_text netlist cycle k port ++ ports_text netlist cycle (k + 1) (drop (k + 1) netlist.ports)
ports_step netlist cycle k port e = ap (ports_text netlist cycle k) (drop_get netlist.ports k port e)

-- of an input nothing is told
pub input_text : (netlist : Netlist) (cycle : Cycle) (k : ℕ) (port : PortLine) → port.output ≡ false → port_text netlist cycle k port ≡ []
input_text netlist cycle k port e = rw e refl

pub output_text : (netlist : Netlist) (cycle : Cycle) (k : ℕ) (port : PortLine) → port.output ≡ true → port_text netlist cycle k port ≡ value_text port.name port.width (cycle.net (port_net netlist k))
output_text netlist cycle k port e = rw e refl

-- the value at an output has its port's width
pub output_width : (ports : List PortLine) (k w : ℕ) (port : PortLine) → slice_get ports k ≡ Some port → IsOutputPort ports k w → w ≡ port.width
output_width ports k w port at is = sym is.width ∙ ap (λ (p : PortLine). p.width) (same_Some is.port port (sym is.is ∙ at))

pub output_told : (netlist : Netlist) (cycle : Cycle) (k : ℕ) (port : PortLine) (name : List ℕ) (w bits : ℕ) → port.output ≡ true → name ≡ port.name → w ≡ port.width → bits ≡ cycle.net (port_net netlist k)
    → value_text name w bits ≡ port_text netlist cycle k port
output_told netlist cycle k port name w bits out named wide is =
    ap (λ (n : List ℕ). value_text n w bits) named ∙ ap (λ (v : ℕ). value_text port.name v bits) wide ∙ ap (value_text port.name port.width) is ∙ sym (output_text netlist cycle k port out)

-- what stands in a vector of which all items were written
pub written_back : {X : Type 0} (into items : List X) (len : ℕ) → len ≡ length items → length into ≡ length items → take len (into ++ drop (length into) items) ≡ into
written_back into items len e f =
    let all : len ≡ length into = e ∙ sym f in
    let few : len ≤ length into = omega arith in
    take-append-le len into (drop (length into) items) few ∙ take_all len into (omega arith)
