-- What drives the ports of an end, one after the other, and what stays as a netlist grows.
use Rattle.std.proofs.Common.{◌≡◌, ◌≢◌, ◌⊎◌, inl, inr, ℕ, zero, suc, ◌+◌, ◌<◌, ◌≤◌, true, false, List, [], ◌∷◌, slice_get, Option, Some, None, is_some, refl, sym, ap, subst, ◌∙◌, arith}
use Rattle.std.specs.Prelude.{IfSome, option_map}
use Rattle.std.proofs.lemmas.Bool.{false≢true}
use Rattle.std.proofs.lemmas.Option.{slice_get-map}
use Rattle.system_tables.specs.declared.tables.EndId.{EndId}
use Rattle.system_tables.specs.Tables.{SystemTable}
use Rattle.netlist.specs.declared.line.Line.{Line}
use Rattle.netlist.specs.declared.line.Memory.{Memory}
use Rattle.netlist.specs.declared.line.MemWrite.{MemWrite}
use Rattle.netlist.specs.declared.line.PortLine.{PortLine}
use Rattle.netlist.specs.Nets.{NetValue, net_of}
use Rattle.netlist.specs.Netlists.{Netlist, IsNet, IsInputPort, IsOutputPort, input_net, IsWaiting, WaitsForWrite, driver_of}
use Rattle.netlist.specs.Longer.{Keeps, Extends}
use Rattle.net_parts.specs.Laws.{extends_twice}
use Rattle.net_parts.specs.Nets.{IsNetOfWidth}
use Rattle.port_tables.specs.declared.roles.PortRole.{PortRole}
use Rattle.port_tables.specs.Lists.{Among, among_at, at_among}
use Rattle.port_tables.specs.Ends.{IsAnEnd}
use Rattle.port_tables.specs.Ports.{ends_of, ports_of}
use Rattle.port_tables.specs.PortMaps.{IsPortIf, HasKnownPorts, port_at}
use Rattle.interconnect.specs.declared.outputs.Output.{Output}
use Rattle.interconnect.specs.Outputs.{IsInputIf, IsInput, input_at, output_of, outputs_by, HaveOwnRoles, HasSameNets, MayDrive, MayDriveAt, IsDrivenAs, AreDrivenAt, AreDrivenBelow, IsNoPortOf, IsNoOutputBelow}
use Rattle.interconnect.specs.Streams.{low_line}

-- ---- numbers

pub nat_cases : (a b : ℕ) → (a < b) ⊎ (b ≤ a)
nat_cases zero zero = inr (omega arith)
nat_cases zero (suc b) = inl (omega arith)
nat_cases (suc a) zero = inr (omega arith)
nat_cases (suc a) (suc b) = elim (nat_cases a b) [ inl h ↦ inl (omega arith) | inr h ↦ inr (omega arith) ]

-- ---- ends

pub is_an_end : (system : SystemTable) (end : EndId) → Among end (ends_of system) → IsAnEnd system end
is_an_end system end a = let at = at_among (ends_of system) end a in (at.place, at.is)

pub is_among : (system : SystemTable) (end : EndId) → IsAnEnd system end → Among end (ends_of system)
is_among system end h = among_at (ends_of system) h.0 end h.1

-- a port of one end is none of another's
pub other_port : (system : SystemTable) (a b : EndId) (r : PortRole) (k : ℕ) → HasKnownPorts system → Among a (ends_of system) → Among b (ends_of system) → (a ≡ b → ⊥) → port_at system b r ≡ Some k
    → IsNoPortOf system a k
other_port system a b r k h mine other apart there s here = apart (h.one_role a b s r k mine other here there).end

-- ---- inputs

-- an input that is there is one that may be there, and its net is there
pub input_may : (system : SystemTable) (end : EndId) (r : PortRole) (width : ℕ) → IsInput system end r width → IsInputIf system end r width
input_may system end r width is = subst (λ (o : Option ℕ). IfSome o (λ port. IsInputPort (ports_of system) port width)) (sym is.place_is) is.port

pub input_some : (system : SystemTable) (end : EndId) (r : PortRole) (width : ℕ) → IsInput system end r width → is_some (input_at system end r width) ≡ true
input_some system end r width is = ap (λ (o : Option ℕ). is_some (option_map (λ port. net_of (input_net (ports_of system) port) width) o)) is.place_is

-- ---- what may drive an output

pub can_drive : (netlist : Netlist) (ports : List PortLine) (width : ℕ) (net : NetValue) (o : Option ℕ) → netlist.ports ≡ ports → IsPortIf ports true width o → (0 < width → IsNetOfWidth netlist net width)
    → IfSome o (λ port. driver_of netlist port ≡ None) → IfSome o (MayDrive netlist net)
can_drive netlist ports width net None e p is undriven = tt
can_drive netlist ports width net (Some k) e p is undriven =
    let net_is = is p.some in
    record {
      output = subst (λ (ps : List PortLine). IsOutputPort ps k net.width) (sym e) (record { port = p.port; is = p.is; output = p.output_is; width = p.width_is ∙ sym net_is.has_width });
      is_net = net_is.is_net;
      undriven = undriven;
    }

-- ---- roles

-- the roles have the numbers from k on, in their order
abbrev pub AreNumbered : (PortRole → ℕ) → ℕ → List PortRole → Type 0
AreNumbered number k [] = Unit {0}
AreNumbered number k (r ∷ roles) = (number r ≡ k) × AreNumbered number (k + 1) roles

numbered_at : (number : PortRole → ℕ) (k n : ℕ) (roles : List PortRole) (r : PortRole) → AreNumbered number k roles → slice_get roles n ≡ Some r → number r ≡ k + n
numbered_at number k n [] r h e = absurd (let none : None ≡ Some r = e in cc)
numbered_at number k zero (s ∷ roles) r h e = (let same : s ≡ r = cc in let is = ap number (sym same) ∙ h.0 in omega (arith, is))
numbered_at number k (suc n) (s ∷ roles) r h e = (let rest = numbered_at number (k + 1) n roles r h.1 e in omega (arith, rest))

-- the role of an output that was made of a list of roles
role_at : (net : PortRole → NetValue) (roles : List PortRole) (n : ℕ) (o : Output) → slice_get (outputs_by net roles) n ≡ Some o → slice_get roles n ≡ Some o.role
role_at net roles n o e = by_role (slice_get roles n) refl (sym (slice_get-map (λ (r : PortRole). output_of r (net r)) roles n) ∙ e)
  where
    by_role : (found : Option PortRole) → slice_get roles n ≡ found → option_map (λ (r : PortRole). output_of r (net r)) found ≡ Some o → slice_get roles n ≡ Some o.role
    by_role None f g = absurd (let none : None ≡ Some o = g in cc)
    by_role (Some r) f g = (let same : output_of r (net r) ≡ o = cc in f ∙ ap (λ (o : Output). Some o.role) same)

pub own_roles : (net : PortRole → NetValue) (number : PortRole → ℕ) (roles : List PortRole) → AreNumbered number 0 roles → HaveOwnRoles (outputs_by net roles)
own_roles net number roles h m n a b e f same =
    let one = numbered_at number 0 m roles a.role h (role_at net roles m a e) in
    let other = numbered_at number 0 n roles b.role h (role_at net roles n b f) in
    let numbers = ap number same in
    omega (arith, one, other, numbers)

-- what holds of each element of a list
abbrev pub Each : {X : Type 0} → (X → Type 0) → List X → Type 0
Each P [] = Unit {0}
Each P (x ∷ xs) = P x × Each P xs

pub each_at : {X : Type 0} (P : X → Type 0) (xs : List X) (n : ℕ) (x : X) → Each P xs → slice_get xs n ≡ Some x → P x
each_at P [] n x h e = absurd (let none : None ≡ Some x = e in cc)
each_at P (y ∷ xs) zero x h e = (let same : y ≡ x = cc in subst P same h.0)
each_at P (y ∷ xs) (suc n) x h e = each_at P xs n x h.1 e

pub each_among : {X : Type 0} (P : X → Type 0) (xs : List X) (x : X) → Each P xs → Among x xs → P x
each_among P [] x h a = absurd a
each_among P (y ∷ xs) x h (inl e) = subst P e h.0
each_among P (y ∷ xs) x h (inr a) = each_among P xs x h.1 a

-- each of these nets may drive its output
pub may_by : (system : SystemTable) (end : EndId) (net : PortRole → NetValue) (roles : List PortRole) (netlist : Netlist)
    → ((n : ℕ) (r : PortRole) → slice_get roles n ≡ Some r → IfSome (port_at system end r) (MayDrive netlist (net r))) → MayDriveAt system end (outputs_by net roles) netlist
may_by system end net roles netlist h n o e =
    let there = role_at net roles n o e in
    let other : slice_get (outputs_by net roles) n ≡ Some (output_of o.role (net o.role)) =
    slice_get-map (λ (r : PortRole). output_of r (net r)) roles n ∙ ap (option_map (λ (r : PortRole). output_of r (net r))) there in
    let is : output_of o.role (net o.role) ≡ o = cc in
    subst (λ (o : Output). IfSome (port_at system end o.role) (MayDrive netlist o.net)) is (h n o.role there)

-- the output of a role is driven by its net
pub role_driven : (system : SystemTable) (end : EndId) (net : PortRole → NetValue) (roles : List PortRole) (netlist : Netlist) → AreDrivenAt system end (outputs_by net roles) netlist
    → (n : ℕ) (r : PortRole) → slice_get roles n ≡ Some r → IfSome (port_at system end r) (λ port. driver_of netlist port ≡ Some (net r).number)
role_driven system end net roles netlist h n r e =
    h n (output_of r (net r)) (slice_get-map (λ (r : PortRole). output_of r (net r)) roles n ∙ ap (option_map (λ (r : PortRole). output_of r (net r))) e)

-- ---- one output after the other

-- a port that is this output is none of the earlier ones
no_earlier : (system : SystemTable) (end : EndId) (outputs : List Output) (i k : ℕ) (o : Output) → HasKnownPorts system → Among end (ends_of system) → HaveOwnRoles outputs → slice_get outputs i ≡ Some o
    → port_at system end o.role ≡ Some k → IsNoOutputBelow i system end outputs k
no_earlier system end outputs i k o h among own e here n s below f there =
    let same = (h.one_role end end s.role o.role k among among there here).role in
    let places = own n i s o f e same in
    absurd (omega (arith, places, below))

same_net : (old new : Netlist) (net : NetValue) → HasSameNets old new → IsNet old net → IsNet new net
same_net old new net same is = subst (λ (ls : List Line). option_map (λ (l : Line). l.width) (slice_get ls net.number) ≡ Some net.width) (sym same.lines) is

-- a net that could drive its output at first still can
pub still_can : (old now : Netlist) (net : NetValue) (o : Option ℕ) → HasSameNets old now → ((k : ℕ) → o ≡ Some k → driver_of now k ≡ driver_of old k) → IfSome o (MayDrive old net) → IfSome o (MayDrive now net)
still_can old now net None same kept can = tt
still_can old now net (Some k) same kept can =
    record {
      output = subst (λ (ps : List PortLine). IsOutputPort ps k net.width) (sym same.ports) can.output;
      is_net = same_net old now net same can.is_net;
      undriven = kept k refl ∙ can.undriven;
    }

-- how far the outputs are driven
pub record AreDrivenTo (count : ℕ) (system : SystemTable) (end : EndId) (outputs : List Output) (old now : Netlist) : Type 0 where
  pub same : HasSameNets old now
  pub extends : Extends old now
  pub driven : AreDrivenBelow count system end outputs now
  pub others : (k : ℕ) → IsNoOutputBelow count system end outputs k → driver_of now k ≡ driver_of old k

pub may_drive : (system : SystemTable) (end : EndId) (outputs : List Output) (old now : Netlist) (i : ℕ) (o : Output) → HasKnownPorts system → Among end (ends_of system) → HaveOwnRoles outputs
    → slice_get outputs i ≡ Some o → MayDriveAt system end outputs old → AreDrivenTo i system end outputs old now → IfSome (port_at system end o.role) (MayDrive now o.net)
may_drive system end outputs old now i o h among own e can to =
    still_can old now o.net (port_at system end o.role) to.same (λ k here. to.others k (no_earlier system end outputs i k o h among own e here)) (can i o e)

-- one output is driven
pub record IsDrivenStep (o : Option ℕ) (net : NetValue) (old new : Netlist) : Type 0 where
  pub same : HasSameNets old new
  pub extends : Extends old new
  pub driver : IfSome o (λ k. driver_of new k ≡ Some net.number)
  pub others : (k : ℕ) → o ≢ Some k → driver_of new k ≡ driver_of old k

pub same-refl : (a : Netlist) → HasSameNets a a
same-refl a = record { name = refl; ports = refl; lines = refl; memories = refl }

pub same-trans : (a b c : Netlist) → HasSameNets a b → HasSameNets b c → HasSameNets a c
same-trans a b c one other =
    record { name = other.name ∙ one.name; ports = other.ports ∙ one.ports; lines = other.lines ∙ one.lines; memories = other.memories ∙ one.memories }

-- what the law of netlists that keep others says
abbrev pub KeepsOn : Type 0
KeepsOn = (old middle new : Netlist) → Keeps old middle → Keeps middle new → Keeps old new

write_kept : (memory : Memory) → IfSome memory.write (λ write. memory.write ≡ Some write)
write_kept memory = by_write memory.write
  where
    by_write : (o : Option MemWrite) → IfSome o (λ write. o ≡ Some write)
    by_write None = tt
    by_write (Some write) = refl

keeps-refl : (a : Netlist) → Keeps a a
keeps-refl a =
    record {
      name = refl;
      ports = refl;
      lines = λ n line e. record { later = line; is = e; kept = inl refl };
      drivers = λ k n e. e;
      memories = λ m memory e. record { later = memory; is = e; kept = record { width = refl; address_bits = refl; write = write_kept memory } };
    }

pub extends-refl : (a : Netlist) → Extends a a
extends-refl a =
    record {
      keeps = keeps-refl a;
      nets = λ n w h. h;
      memories = λ mem h. h;
      valuations = λ cycle h. h;
      runs = λ run cycles h. h;
      count = omega arith;
    }

-- what drives a port drives it still
still_driven : (o : Option ℕ) (net : NetValue) (old new : Netlist) → Extends old new → IfSome o (λ k. driver_of old k ≡ Some net.number) → IfSome o (λ k. driver_of new k ≡ Some net.number)
still_driven None net old new h is = tt
still_driven (Some k) net old new h is = h.keeps.drivers k net.number is

pub one_more_driven : KeepsOn → (system : SystemTable) (end : EndId) (outputs : List Output) (old now new : Netlist) (i : ℕ) (o : Output) → slice_get outputs i ≡ Some o
    → AreDrivenTo i system end outputs old now → IsDrivenStep (port_at system end o.role) o.net now new → AreDrivenTo (i + 1) system end outputs old new
one_more_driven law system end outputs old now new i o e to step =
    record {
      same = same-trans old now new to.same step.same;
      extends = extends_twice old now new to.extends step.extends;
      driven = λ n s below f. elim (nat_cases n i) [
        | inl earlier ↦ still_driven (port_at system end s.role) s.net now new step.extends (to.driven n s earlier f)
        | inr later ↦ (let same : n ≡ i = omega arith in
            let there : slice_get outputs i ≡ Some s = subst (λ (m : ℕ). slice_get outputs m ≡ Some s) same f in
            let one : o ≡ s = cc in
            subst (λ (s : Output). IsDrivenAs system end s new) one step.driver)
      ];
      others = λ k none. step.others k (λ here. none i o (omega arith) e here) ∙ to.others k (λ n s below f there. none n s (omega (arith, below)) f there);
    }

pub can_as : (netlist : Netlist) (o p : Option ℕ) (net : NetValue) → o ≡ p → IfSome p (MayDrive netlist net) → IfSome o (MayDrive netlist net)
can_as netlist o p net e can = subst (λ (q : Option ℕ). IfSome q (MayDrive netlist net)) (sym e) can

pub step_as : (old new : Netlist) (o p : Option ℕ) (net : NetValue) → o ≡ p → HasSameNets old new → Extends old new → IfSome o (λ k. driver_of new k ≡ Some net.number)
    → ((k : ℕ) → o ≢ Some k → driver_of new k ≡ driver_of old k) → IsDrivenStep p net old new
step_as old new o p net e same extends driver others =
    record {
      same = same;
      extends = extends;
      driver = subst (λ (q : Option ℕ). IfSome q (λ k. driver_of new k ≡ Some net.number)) e driver;
      others = λ k none. others k (λ is. none (sym e ∙ is));
    }

-- nets drive the ports of these roles at an end, and no other port changed
pub record IsDrivenOver (system : SystemTable) (end : EndId) (outputs : List Output) (old new : Netlist) : Type 0 where
  pub same : HasSameNets old new
  pub extends : Extends old new
  pub driven : AreDrivenAt system end outputs new
  pub others : (k : ℕ) → IsNoPortOf system end k → driver_of new k ≡ driver_of old k

pub undriven_where : (netlist : Netlist) (o : Option ℕ) → ((k : ℕ) → o ≡ Some k → driver_of netlist k ≡ None) → IfSome o (λ k. driver_of netlist k ≡ None)
undriven_where netlist None h = tt
undriven_where netlist (Some k) h = h k refl

-- ---- what stays

-- all outputs stay driven in a longer netlist
pub stay_driven : (system : SystemTable) (end : EndId) (outputs : List Output) (old new : Netlist) → Extends old new → AreDrivenAt system end outputs old → AreDrivenAt system end outputs new
stay_driven system end outputs old new h driven n o e = still_driven (port_at system end o.role) o.net old new h (driven n o e)

-- an output that isn't driven yet stays so
pub stays_undriven : (old new : Netlist) (o : Option ℕ) → ((k : ℕ) → o ≡ Some k → driver_of new k ≡ driver_of old k) → IfSome o (λ k. driver_of old k ≡ None) → IfSome o (λ k. driver_of new k ≡ None)
stays_undriven old new None kept h = tt
stays_undriven old new (Some k) kept h = kept k refl ∙ h

pub same_drivers : (old new : Netlist) (k : ℕ) → new.drivers ≡ old.drivers → driver_of new k ≡ driver_of old k
same_drivers old new k e = ap (λ (ds : List (Option ℕ)). driver_of (record old { drivers = ds }) k) e

-- a net that is always low stays so
pub low_stays : (old new : Netlist) (n : ℕ) → Extends old new → slice_get old.lines n ≡ Some low_line → slice_get new.lines n ≡ Some low_line
low_stays old new n h e =
    let kept = h.keeps.lines n low_line e in
    elim kept.kept [
      | inl same ↦ kept.is ∙ ap Some same
      | inr set ↦ (let waits : false ≡ true = set.waits in absurd (false≢true waits))
    ]

pub waiting_as : (old new : Netlist) (n : ℕ) → new.lines ≡ old.lines → IsWaiting new n → IsWaiting old n
waiting_as old new n e w = record { line = w.line; is = subst (λ (ls : List Line). slice_get ls n ≡ Some w.line) e w.is; waits = w.waits }

pub unwritten_as : (old new : Netlist) (m : ℕ) → new.memories ≡ old.memories → WaitsForWrite new m → WaitsForWrite old m
unwritten_as old new m e w = record { memory = w.memory; is = subst (λ (ms : List Memory). slice_get ms m ≡ Some w.memory) e w.is; waits = w.waits }
