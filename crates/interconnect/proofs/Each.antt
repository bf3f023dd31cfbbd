-- The outputs at ends driven, one end after the other.
use Rattle.std.proofs.Common.{◌≡◌, inl, inr, ℕ, ◌+◌, ◌<◌, ◌≤◌, List, slice_get, length, Some, refl, sym, ap, subst, ◌∙◌, arith}
use Rattle.std.proofs.lemmas.Option.{same_Some, slice_get_within}
use Rattle.system_tables.specs.declared.tables.EndId.{EndId}
use Rattle.system_tables.specs.Tables.{SystemTable}
use Rattle.netlist.specs.Netlists.{Netlist, driver_of}
use Rattle.netlist.specs.Longer.{Extends}
use Rattle.net_parts.specs.Laws.{extends_twice}
use Rattle.port_tables.specs.Lists.{Among}
use Rattle.port_tables.specs.Ports.{ends_of}
use Rattle.port_tables.specs.PortMaps.{HasKnownPorts, port_at}
use Rattle.interconnect.specs.declared.outputs.Output.{Output}
use Rattle.interconnect.specs.Outputs.{HasSameNets, MayDriveAt, AreDrivenAt, IsNoPortOf}
use Rattle.interconnect.specs.Each.{MayDriveEach, AreEachDriven, IsNoPortOfEach}
use Rattle.interconnect.proofs.Driving.{nat_cases, still_can, other_port, same-trans, same-refl, extends-refl, stay_driven, IsDrivenOver}

-- the port is none of the first ends'
abbrev pub IsNoPortBelow : ℕ → SystemTable → List EndId → ℕ → Type 0
IsNoPortBelow count system ends port = (k : ℕ) (end : EndId) → k < count → slice_get ends k ≡ Some end → IsNoPortOf system end port

-- the outputs at the first ends are driven, each by its part
pub record AreDrivenTo {P : Type 0} (count : ℕ) (system : SystemTable) (outputs : P → List Output) (ends : List EndId) (parts : List P) (old now : Netlist) : Type 0 where
  pub same : HasSameNets old now
  pub extends : Extends old now
  pub driven : (k : ℕ) (end : EndId) (part : P) → k < count → slice_get ends k ≡ Some end → slice_get parts k ≡ Some part → AreDrivenAt system end (outputs part) now
  pub others : (port : ℕ) → IsNoPortBelow count system ends port → driver_of now port ≡ driver_of old port

-- ends of the system
abbrev pub AreEnds : SystemTable → List EndId → Type 0
AreEnds system ends = (k : ℕ) (end : EndId) → slice_get ends k ≡ Some end → Among end (ends_of system)

pub none_driven : {P : Type 0} (system : SystemTable) (outputs : P → List Output) (ends : List EndId) (parts : List P) (old : Netlist) → AreDrivenTo 0 system outputs ends parts old old
none_driven system outputs ends parts old = record {
  same = same-refl old;
  extends = extends-refl old;
  driven = λ k end part below at has. absurd (omega (arith, below));
  others = λ port none. refl;
}

-- the outputs at the end whose turn it is may still be driven
pub may_now : {P : Type 0} (system : SystemTable) (outputs : P → List Output) (ends : List EndId) (parts : List P) (old now : Netlist) (k : ℕ) (end : EndId) (part : P) (os : List Output) → HasKnownPorts system → AreEnds system ends
    → MayDriveEach system outputs ends parts old → AreDrivenTo k system outputs ends parts old now → slice_get ends k ≡ Some end → slice_get parts k ≡ Some part → os ≡ outputs part → MayDriveAt system end os now
may_now system outputs ends parts old now k end part os h among may to at has is =
    subst (λ (os : List Output). MayDriveAt system end os now) (sym is) (λ n o e.
    still_can old now o.net (port_at system end o.role) to.same
    (λ port here. to.others port (λ j other below there. other_port system other end o.role port h (among j other there) (among k end at)
    (λ same. (let places = may.apart j k end (there ∙ ap Some same) at in omega (arith, places, below))) here))
    (may.can k end part at has n o e))

-- and then they are
pub one_more : {P : Type 0} (system : SystemTable) (outputs : P → List Output) (ends : List EndId) (parts : List P) (old now new : Netlist) (k : ℕ) (end : EndId) (part : P) (os : List Output)
    → AreDrivenTo k system outputs ends parts old now → slice_get ends k ≡ Some end → slice_get parts k ≡ Some part → os ≡ outputs part → IsDrivenOver system end os now new → AreDrivenTo (k + 1) system outputs ends parts old new
one_more {P} system outputs ends parts old now new k end part os to at has is over = record {
  same = same-trans old now new to.same over.same;
  extends = extends_twice old now new to.extends over.extends;
  driven = λ j e p below at_e at_p. elim (nat_cases j k) [
    | inl earlier ↦ stay_driven system e (outputs p) now new over.extends (to.driven j e p earlier at_e at_p)
    | inr later ↦ (let here : j ≡ k = omega (arith, below, later) in
        let ends_are : end ≡ e = same_Some end e (sym at ∙ ap (slice_get ends) (sym here) ∙ at_e) in
        let parts_are : part ≡ p = same_Some part p (sym has ∙ ap (slice_get parts) (sym here) ∙ at_p) in
        subst (λ (q : P). AreDrivenAt system e (outputs q) new) parts_are (subst (λ (x : EndId). AreDrivenAt system x (outputs part) new) ends_are (subst (λ (xs : List Output). AreDrivenAt system end xs new) is over.driven)))
  ];
  others = λ port none. over.others port (none k end (omega arith) at) ∙ to.others port (λ j e below there. none j e (omega (arith, below)) there);
}

-- all of them
pub all_driven : {P : Type 0} (system : SystemTable) (outputs : P → List Output) (ends : List EndId) (parts : List P) (old now : Netlist) (count : ℕ) → length parts ≤ count → AreDrivenTo count system outputs ends parts old now
    → AreEachDriven system outputs ends parts now
all_driven system outputs ends parts old now count whole to k end part at has = to.driven k end part (let inside = slice_get_within parts k part has in omega (arith, inside, whole)) at has

pub no_others : {P : Type 0} (system : SystemTable) (outputs : P → List Output) (ends : List EndId) (parts : List P) (old now : Netlist) (count : ℕ) → AreDrivenTo count system outputs ends parts old now
    → (port : ℕ) → IsNoPortOfEach system ends port → driver_of now port ≡ driver_of old port
no_others system outputs ends parts old now count to port none = to.others port (λ k end below at. none k end at)
