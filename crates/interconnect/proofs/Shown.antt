-- What is shown at the ports of a finished netlist.
use Rattle.std.proofs.Common.{◌≡◌, ℕ, Bool, true, false, List, Option, Some, None, refl, sym, ap, subst, ◌∙◌, arith}
use Rattle.std.specs.Prelude.{IfSome, IsSome, option_map, unwrap_or, nat_lt}
use Rattle.std.proofs.lemmas.Bool.{false≢true}
use Rattle.std.proofs.lemmas.Bool.Decides.{Decides-ltb}
use Rattle.system_tables.specs.declared.tables.EndId.{EndId}
use Rattle.system_tables.specs.Tables.{SystemTable}
use Rattle.netlist.specs.declared.line.PortLine.{PortLine}
use Rattle.netlist.specs.Nets.{NetValue, net_of}
use Rattle.netlist.specs.Netlists.{Netlist, IsInputPort, IsWellMade, driver_of, input_net}
use Rattle.netlist.specs.Runs.{Run}
use Rattle.netlist.specs.Signals.{port_net, port_value, port_named, signal}
use Rattle.st_path.specs.Ends.{signal_of, signal_where}
use Rattle.port_tables.specs.declared.roles.PortRole.{PortRole}
use Rattle.port_tables.specs.Ports.{role_word, bits_if, port_name, name_at, ports_of}
use Rattle.port_tables.specs.PortMaps.{IsPortIf, port_at}

pub no_driver : (netlist : Netlist) (k w : ℕ) → IsWellMade netlist → IsInputPort netlist.ports k w → (o : Option ℕ) → driver_of netlist k ≡ o → o ≡ None
no_driver netlist k w h i None e = refl
no_driver netlist k w h i (Some n) e =
    let d = (h.drivers k n e).port in
    let p = i.is in
    let q = d.is in
    let same : i.port ≡ d.port = cc in
    let input = i.input in
    let output = d.output in
    let both : false ≡ true = sym input ∙ ap (λ (port : PortLine). port.output) same ∙ output in
    absurd (false≢true both)

-- what is shown at the port of this number
abbrev pub shown : Netlist → Run → Option ℕ → Option (ℕ → ℕ)
shown netlist run port = option_map (λ k. λ c. port_value netlist run c k) port

pub shown_at : (system : SystemTable) (netlist : Netlist) (run : Run) (end : EndId) (r : PortRole) → netlist.ports ≡ ports_of system
    → signal netlist run (port_name (name_at system end) (role_word r)) ≡ shown netlist run (port_at system end r)
shown_at system netlist run end r e = ap (λ (ports : List PortLine). shown netlist run (port_named ports (port_name (name_at system end) (role_word r)))) e

pub output_shown : (ports : List PortLine) (netlist : Netlist) (run : Run) (present : Bool) (width : ℕ) (net : NetValue) (o : Option ℕ) → nat_lt 0 width ≡ present → IsPortIf ports true width o
    → IfSome o (λ k. driver_of netlist k ≡ Some net.number) → shown netlist run o ≡ signal_where present run net
output_shown ports netlist run present width net None e none driven =
    let is : false ≡ present = ap (nat_lt 0) (sym none) ∙ e in
    ap (λ (b : Bool). signal_where b run net) is
output_shown ports netlist run present width net (Some k) e p driven =
    let is : true ≡ present = sym ((Decides-ltb 0 width).1 p.some) ∙ e in
    let at : port_net netlist k ≡ net.number = ap (λ (d : Option ℕ). unwrap_or d (input_net netlist.ports k)) driven in
    ap (λ (n : ℕ). Some (λ (c : ℕ). run.net c n)) at ∙ ap (λ (b : Bool). signal_where b run net) is

pub input_shown : (ports : List PortLine) (netlist : Netlist) (run : Run) (width : ℕ) (net : Option NetValue) (o : Option ℕ) → IsWellMade netlist → netlist.ports ≡ ports → IsPortIf ports false width o
    → net ≡ option_map (λ (k : ℕ). net_of (input_net ports k) width) o → shown netlist run o ≡ signal_of run net
input_shown ports netlist run width net None h e none is = ap (signal_of run) (sym is)
input_shown ports netlist run width net (Some k) h e p is =
    let input : IsInputPort netlist.ports k width = subst (λ (ps : List PortLine). IsInputPort ps k width) (sym e) (record { port = p.port; is = p.is; input = p.output_is; width = p.width_is }) in
    let none = no_driver netlist k width h input (driver_of netlist k) refl in
    let at : port_net netlist k ≡ input_net ports k = ap (λ (d : Option ℕ). unwrap_or d (input_net netlist.ports k)) none ∙ ap (λ (ps : List PortLine). input_net ps k) e in
    ap (λ (n : ℕ). Some (λ (c : ℕ). run.net c n)) at ∙ ap (signal_of run) (sym is)

pub bits_lt : (b : Bool) → nat_lt 0 (bits_if b 1) ≡ b
bits_lt true = refl
bits_lt false = refl

-- what isn't there isn't shown
pub none_shown : (ports : List PortLine) (netlist : Netlist) (run : Run) (output : Bool) (o : Option ℕ) → IsPortIf ports output 0 o → shown netlist run o ≡ None
none_shown ports netlist run output None p = refl
none_shown ports netlist run output (Some k) p = (let some = p.some in absurd (omega (arith, some)))

-- ---- drivers

pub driven_some : (netlist : Netlist) (k : ℕ) (o : Option ℕ) (net : NetValue) → o ≡ Some k → IfSome o (λ k. driver_of netlist k ≡ Some net.number) → IsSome (driver_of netlist k)
driven_some netlist k o net e driven =
    let is : driver_of netlist k ≡ Some net.number = subst (λ (o : Option ℕ). IfSome o (λ k. driver_of netlist k ≡ Some net.number)) e driven in
    subst IsSome (sym is) refl

pub no_input : (b : Bool) {P : Type 0} → b ≡ true → b ≡ false → P
no_input b e f = absurd (let both : false ≡ true = sym f ∙ e in false≢true both)
