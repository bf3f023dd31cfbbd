-- What drives the ports, one after the other.
use Rattle.std.proofs.Common.{◌≡◌, ◌≢◌, ◌⊎◌, inl, inr, ℕ, zero, suc, ◌+◌, ◌<◌, ◌≤◌, List, [], ◌∷◌, ◌++◌, length, slice_get, Option, Some, None, refl, sym, ap, subst, ◌∙◌, arith}
use Rattle.std.specs.Prelude.{IfSome, IsSome}
use Rattle.std.proofs.lemmas.Bool.{cases_lt, false≢true}
use Rattle.histories.specs.History.{before}
use Rattle.netlist.specs.declared.line.PortLine.{PortLine}
use Rattle.netlist.specs.Nets.{NetValue}
use Rattle.netlist.specs.Netlists.{Netlist, IsOutputPort, IsDriven, driver_of}
use Rattle.netlist.specs.Longer.{Extends}
use Rattle.net_parts.specs.Laws.{extends_twice, extends_none}
use Rattle.routed_modules.specs.Drivers.{MayDrive, MayDriveEach, HasSameNets, AreDriven, CanDrive}

-- ---- a driver for each port

pub record IsAligned (netlist : Netlist) (ports : List PortLine) (k : ℕ) (driver : Option NetValue) : Type 0 where
  pub port : PortLine
  pub is : slice_get ports k ≡ Some port
  pub may : MayDrive netlist port driver

pub port_of : (netlist : Netlist) (ports : List PortLine) (drivers : List (Option NetValue)) (k : ℕ) (driver : Option NetValue) → MayDriveEach netlist ports drivers → slice_get drivers k ≡ Some driver
    → IsAligned netlist ports k driver
port_of netlist ports [] k driver h e = absurd (let n : None ≡ Some driver = e in cc)
port_of netlist [] (d ∷ drivers) k driver h e = absurd h
port_of netlist (p ∷ ports) (d ∷ drivers) zero driver h e = (let same : d ≡ driver = cc in record { port = p; is = refl; may = subst (λ (d : Option NetValue). MayDrive netlist p d) same h.0 })
port_of netlist (p ∷ ports) (d ∷ drivers) (suc k) driver h e = let rest = port_of netlist ports drivers k driver h.1 e in record { port = rest.port; is = rest.is; may = rest.may }

pub record HasDriver (netlist : Netlist) (drivers : List (Option NetValue)) (k : ℕ) (port : PortLine) : Type 0 where
  pub driver : Option NetValue
  pub is : slice_get drivers k ≡ Some driver
  pub may : MayDrive netlist port driver

pub driver_for : (netlist : Netlist) (ports : List PortLine) (drivers : List (Option NetValue)) (k : ℕ) (port : PortLine) → MayDriveEach netlist ports drivers → slice_get ports k ≡ Some port
    → HasDriver netlist drivers k port
driver_for netlist [] drivers k port h e = absurd (let n : None ≡ Some port = e in cc)
driver_for netlist (p ∷ ports) [] k port h e = absurd h
driver_for netlist (p ∷ ports) (d ∷ drivers) zero port h e = (let same : p ≡ port = cc in record { driver = d; is = refl; may = subst (λ (p : PortLine). MayDrive netlist p d) same h.0 })
driver_for netlist (p ∷ ports) (d ∷ drivers) (suc k) port h e = let rest = driver_for netlist ports drivers k port h.1 e in record { driver = rest.driver; is = rest.is; may = rest.may }

pub aligned_append : (netlist : Netlist) (ports more : List PortLine) (drivers others : List (Option NetValue)) → MayDriveEach netlist ports drivers → MayDriveEach netlist more others
    → MayDriveEach netlist (ports ++ more) (drivers ++ others)
aligned_append netlist [] more [] others h k = k
aligned_append netlist [] more (d ∷ drivers) others h k = absurd h
aligned_append netlist (p ∷ ports) more [] others h k = absurd h
aligned_append netlist (p ∷ ports) more (d ∷ drivers) others h k = (h.0, aligned_append netlist ports more drivers others h.1 k)

pub aligned_before : (netlist : Netlist) (ports : ℕ → List PortLine) (drivers : ℕ → List (Option NetValue)) (count : ℕ) → ((k : ℕ) → k < count → MayDriveEach netlist (ports k) (drivers k))
    → MayDriveEach netlist (before ports count) (before drivers count)
aligned_before netlist ports drivers zero each = tt
aligned_before netlist ports drivers (suc count) each =
    aligned_append netlist (before ports count) (ports count) (before drivers count) (drivers count) (aligned_before netlist ports drivers count (λ k lt. each k (omega (arith, lt)))) (each count (omega arith))

-- ---- one port after the other

pub record AreDrivenTo (count : ℕ) (drivers : List (Option NetValue)) (old now : Netlist) : Type 0 where
  pub same : HasSameNets old now
  pub extends : Extends old now
  pub driven : (k : ℕ) (net : NetValue) → k < count → slice_get drivers k ≡ Some (Some net) → driver_of now k ≡ Some net.number
  pub inputs : (k : ℕ) → slice_get drivers k ≡ Some None → driver_of now k ≡ None
  pub later : (k : ℕ) → count ≤ k → driver_of now k ≡ None

same_none : (a : Netlist) → HasSameNets a a
same_none a = record { name = refl; ports = refl; lines = refl; memories = refl }

same_twice : (a b c : Netlist) → HasSameNets a b → HasSameNets b c → HasSameNets a c
same_twice a b c p q = record { name = q.name ∙ p.name; ports = q.ports ∙ p.ports; lines = q.lines ∙ p.lines; memories = q.memories ∙ p.memories }

pub none_driven : (drivers : List (Option NetValue)) (a : Netlist) → ((k : ℕ) → driver_of a k ≡ None) → AreDrivenTo 0 drivers a a
none_driven drivers a none = record {
  same = same_none a;
  extends = extends_none a;
  driven = λ k net lt e. absurd (omega (arith, lt));
  inputs = λ k e. none k;
  later = λ k le. none k;
}

pub can_drive : (drivers : List (Option NetValue)) (old now : Netlist) (k : ℕ) (driver : Option NetValue) → MayDriveEach old old.ports drivers → AreDrivenTo k drivers old now → slice_get drivers k ≡ Some driver
    → IfSome driver (λ net. CanDrive now net k)
can_drive drivers old now k None each to e = tt
can_drive drivers old now k (Some net) each to e =
    let at = port_of old old.ports drivers k (Some net) each e in
    record {
      output = subst (λ (ports : List PortLine). IsOutputPort ports k net.width) (sym to.same.ports) (record { port = at.port; is = at.is; output = at.may.0; width = sym at.may.1.has_width });
      is_net = to.extends.nets net.number net.width at.may.1.is_net;
      undriven = to.later k (omega arith);
    }

-- one driver more
pub record IsDrivenStep (k : ℕ) (driver : Option NetValue) (old new : Netlist) : Type 0 where
  pub same : HasSameNets old new
  pub extends : Extends old new
  pub driver_is : IfSome driver (λ net. driver_of new k ≡ Some net.number)
  pub kept : driver ≡ None → driver_of new k ≡ driver_of old k
  pub others : (j : ℕ) → j ≢ k → driver_of new j ≡ driver_of old j

pub one_more_driven : (drivers : List (Option NetValue)) (old now new : Netlist) (k : ℕ) (driver : Option NetValue) → slice_get drivers k ≡ Some driver → AreDrivenTo k drivers old now → IsDrivenStep k driver now new
    → AreDrivenTo (k + 1) drivers old new
one_more_driven drivers old now new k driver e to step = record {
  same = same_twice old now new to.same step.same;
  extends = extends_twice old now new to.extends step.extends;
  driven = λ j net lt f. (by_place j net f (cases_lt j k) lt);
  inputs = λ j f. (input j f (cases_lt j k) (cases_lt k j));
  later = λ j le. (step.others j (λ same. absurd (omega (arith, le, same))) ∙ to.later j (omega (arith, le)));
}
  where
    here : (net : NetValue) → driver ≡ Some net → driver_of new k ≡ Some net.number
    here net is = subst (λ (o : Option NetValue). IfSome o (λ net. driver_of new k ≡ Some net.number)) is step.driver_is

    by_place : (j : ℕ) (net : NetValue) → slice_get drivers j ≡ Some (Some net) → (j < k) ⊎ (k ≤ j) → j < k + 1 → driver_of new j ≡ Some net.number
    by_place j net f (inl less) lt = step.others j (λ same. absurd (omega (arith, less, same))) ∙ to.driven j net less f
    by_place j net f (inr more) lt =
        let same : j ≡ k = omega (arith, more, lt) in
        let there : slice_get drivers k ≡ Some (Some net) = subst (λ n. slice_get drivers n ≡ Some (Some net)) same f in
        let is : driver ≡ Some net = cc in
        subst (λ n. driver_of new n ≡ Some net.number) (sym same) (here net is)

    input : (j : ℕ) → slice_get drivers j ≡ Some None → (j < k) ⊎ (k ≤ j) → (k < j) ⊎ (j ≤ k) → driver_of new j ≡ None
    input j f (inl less) side = step.others j (λ same. absurd (omega (arith, less, same))) ∙ to.inputs j f
    input j f (inr more) (inl less) = step.others j (λ same. absurd (omega (arith, less, same))) ∙ to.inputs j f
    input j f (inr more) (inr most) =
        let same : j ≡ k = omega (arith, more, most) in
        let there : slice_get drivers k ≡ Some None = subst (λ n. slice_get drivers n ≡ Some None) same f in
        let is : driver ≡ None = cc in
        subst (λ n. driver_of new n ≡ None) (sym same) (step.kept is ∙ to.later k (omega arith))

-- and so all outputs
pub all_driven : (drivers : List (Option NetValue)) (old new : Netlist) → MayDriveEach old old.ports drivers → HasSameNets old new → AreDriven new drivers → IsDriven new
all_driven drivers old new each same driven k w output =
    let there : slice_get old.ports k ≡ Some output.port = subst (λ (ports : List PortLine). slice_get ports k ≡ Some output.port) same.ports output.is in
    let at = driver_for old old.ports drivers k output.port each there in
    by_driver at.driver at.is at.may
  where
    by_driver : (driver : Option NetValue) → slice_get drivers k ≡ Some driver → MayDrive old output.port driver → IsSome (driver_of new k)
    by_driver None is may = absurd (false≢true (sym may ∙ output.output))
    by_driver (Some net) is may = subst IsSome (sym (driven k net is)) refl

pub aligned_length : (netlist : Netlist) (ports : List PortLine) (drivers : List (Option NetValue)) → MayDriveEach netlist ports drivers → length drivers ≡ length ports
aligned_length netlist [] [] h = refl
aligned_length netlist [] (d ∷ drivers) h = absurd h
aligned_length netlist (p ∷ ports) [] h = absurd h
aligned_length netlist (p ∷ ports) (d ∷ drivers) h = ap suc (aligned_length netlist ports drivers h.1)
