-- The commands below don't depend on waits or answers.
use Rattle.std.proofs.Common.{◌≡◌, ℕ, ◌+◌, ◌&&◌, ◌==◌, if◌then◌else◌, List, [], ◌∷◌, Option, Some, None, inl, inr, refl, sym, subst, ap, ◌∙◌}
use Rattle.std.specs.Int.{bit_at}
use Rattle.histories.specs.History.{is_raised}
use Rattle.netlist.specs.Nets.{NetValue}
use Rattle.netlist.specs.Netlists.{Netlist}
use Rattle.netlist.specs.Runs.{Cycle, IsValuation}
use Rattle.net_parts.specs.Groups.{InGroup}
use Rattle.memory_machines.specs.Machines.{Raw}
use Rattle.command_nets.specs.declared.nets.CommandNets.{CommandNets}
use Rattle.command_nets.specs.Nets.{ShowSame}
use Rattle.memory_runs.specs.declared.sides.route.Route.{Route}
use Rattle.mm_route.specs.declared.registers.LatchNets.{LatchNets}
use Rattle.mm_route.specs.declared.route.HeldRoute.{HeldRoute}
use Rattle.mm_route.specs.declared.route.HeldRoute.TheVariants.{Wired, Routed}
use Rattle.mm_route.specs.declared.router.HeldRouter.{HeldRouter}
use Rattle.mm_route.specs.declared.shown.ShownNets.{ShownNets}
use Rattle.mm_route.specs.declared.wire.HeldWire.{HeldWire}
use Rattle.mm_route.specs.Entries.{hits, kind_of}
use Rattle.mm_route.specs.Shown.{AreShown}
use Rattle.mm_route.specs.Registers.{latch_of}
use Rattle.mm_route.specs.Wire.{WireForward, below_wire}
use Rattle.mm_route.specs.Forward.{RouteForward, owns, RouterForward, router_owns, opens, latched_in}
use Rattle.mm_route.specs.Machine.{ShowAllSame}

-- the nets of two commands have the same values in two cycles
record AreAlike (a b : CommandNets) (one other : Cycle) : Type 0 where
  pub read : one.net a.read.number ≡ other.net b.read.number
  pub write : one.net a.write.number ≡ other.net b.write.number
  pub address : one.net a.address.number ≡ other.net b.address.number
  pub word : one.net a.word.number ≡ other.net b.word.number
  pub enables : one.net a.enables.number ≡ other.net b.enables.number
  pub count : one.net a.count.number ≡ other.net b.count.number
  pub more : one.net a.more.number ≡ other.net b.more.number

alike_of : (a : CommandNets) (one other : Cycle) → ShowSame a one other → AreAlike a a one other
alike_of a one other e = record {
  read = ap (λ (r : Raw). r.levels.read) e;
  write = ap (λ (r : Raw). r.levels.write) e;
  address = ap (λ (r : Raw). r.levels.address) e;
  word = ap (λ (r : Raw). r.levels.word) e;
  enables = ap (λ (r : Raw). r.levels.enables) e;
  count = ap (λ (r : Raw). r.levels.count) e;
  more = ap (λ (r : Raw). r.more) e;
}

same_raw : (a : CommandNets) (one other : Cycle) → AreAlike a a one other → one.net a.tag.number ≡ other.net a.tag.number → ShowSame a one other
same_raw a one other h tag =
    let r = h.read in
    let w = h.write in
    let d = h.address in
    let x = h.word in
    let e = h.enables in
    let n = h.count in
    let m = h.more in
    cc

shown_alike : (netlist : Netlist) (shown : ShownNets) (one other : Cycle) → IsValuation netlist one → IsValuation netlist other → AreAlike shown.command shown.command one other → one.net shown.place.number ≡ other.net shown.place.number →
    is_raised (one.net shown.gate.number) ≡ is_raised (other.net shown.gate.number) → one.net shown.tag.number ≡ other.net shown.tag.number → (k : ℕ) (commands : List CommandNets) → AreShown netlist shown k commands → ShowAllSame commands one other
shown_alike netlist shown one other v w h place gate tag k [] made = tt
shown_alike netlist shown one other v w h place gate tag k (made ∷ later) is =
    let goes : (x y : ℕ) → x ≡ y → (if (bit_at (one.net shown.place.number) k == 1) && is_raised (one.net shown.gate.number) then x else 0) ≡ (if (bit_at (other.net shown.place.number) k == 1) && is_raised (other.net shown.gate.number) then y else 0) =
    λ x y e. ap (λ n. if (bit_at n k == 1) && is_raised (one.net shown.gate.number) then x else 0) place ∙ ap (λ t. if (bit_at (other.net shown.place.number) k == 1) && t then x else 0) gate
    ∙ ap (λ n. if (bit_at (other.net shown.place.number) k == 1) && is_raised (other.net shown.gate.number) then n else 0) e in
    let at : (net from : NetValue) → net ≡ from → one.net from.number ≡ other.net from.number → one.net net.number ≡ other.net net.number =
    λ net from e same. subst (λ (n : NetValue). one.net n.number ≡ other.net n.number) (sym e) same in (
      same_raw made one other (record {
        read = is.0.read one v ∙ goes _ _ h.read ∙ sym (is.0.read other w);
        write = is.0.write one v ∙ goes _ _ h.write ∙ sym (is.0.write other w);
        address = at _ _ is.0.address h.address;
        word = at _ _ is.0.word h.word;
        enables = at _ _ is.0.enables h.enables;
        count = at _ _ is.0.count h.count;
        more = at _ _ is.0.more h.more;
      }) (at _ _ is.0.tag tag),
      shown_alike netlist shown one other v w h place gate tag (k + 1) later is.1,
    )

same_latched : (latch : Option LatchNets) (one other : Cycle) (x y : ℕ) → ((n : ℕ) → InGroup (latch_of latch) n → one.net n ≡ other.net n) → x ≡ y → latched_in one latch x ≡ latched_in other latch y
same_latched None one other x y state e = e
same_latched (Some latch) one other x y state e =
    ap (λ n. if n == 0 then x else one.net latch.kept.number) (state latch.inside.number (inl refl))
    ∙ ap (λ n. if other.net latch.inside.number == 0 then n else one.net latch.kept.number) e
    ∙ ap (λ n. if other.net latch.inside.number == 0 then y else n) (state latch.kept.number (inr (inl refl)))

router_ignores : (entries : List Route) (host : ℕ) (command : CommandNets) (commands : List CommandNets) (held : HeldRouter) (netlist : Netlist) → RouterForward entries host command commands held netlist →
    (one other : Cycle) → IsValuation netlist one → IsValuation netlist other → ((n : ℕ) → router_owns held n → one.net n ≡ other.net n) → ShowSame command one other → ShowAllSame commands one other
router_ignores entries host command commands held netlist f one other v w state same =
    let h = alike_of held.shown.command one other (subst (λ (c : CommandNets). ShowSame c one other) (sym f.command_is) same) in
    let owed = state held.registers.owed.number (inl refl) in
    let owing = state held.registers.owing.number (inr (inl refl)) in
    let command_nets = held.shown.command in
    let decoded : hits entries (kind_of (one.net command_nets.write.number)) (one.net command_nets.address.number) ≡ hits entries (kind_of (other.net command_nets.write.number)) (other.net command_nets.address.number) =
    ap (λ n. hits entries (kind_of n) (one.net command_nets.address.number)) h.write ∙ ap (λ n. hits entries (kind_of (other.net command_nets.write.number)) n) h.address in
    let place : one.net held.shown.place.number ≡ other.net held.shown.place.number =
    f.place one v ∙ same_latched held.registers.latch one other _ _ (λ n o. state n (inr (inr o))) decoded ∙ sym (f.place other w) in
    let gate : is_raised (one.net held.shown.gate.number) ≡ is_raised (other.net held.shown.gate.number) =
    f.gate one v
    ∙ ap (λ n. opens n (one.net held.registers.owed.number) (one.net held.registers.owing.number) (one.net held.shown.place.number)) h.write
    ∙ ap (λ n. opens (other.net command_nets.write.number) n (one.net held.registers.owing.number) (one.net held.shown.place.number)) owed
    ∙ ap (λ n. opens (other.net command_nets.write.number) (other.net held.registers.owed.number) n (one.net held.shown.place.number)) owing
    ∙ ap (λ n. opens (other.net command_nets.write.number) (other.net held.registers.owed.number) (other.net held.registers.owing.number) n) place
    ∙ sym (f.gate other w) in
    shown_alike netlist held.shown one other v w h place gate (f.tag one v ∙ sym (f.tag other w)) 0 commands f.shown

wire_ignores : (entries : List Route) (host : ℕ) (command : CommandNets) (commands : List CommandNets) (wire : HeldWire) (netlist : Netlist) → WireForward entries host command commands wire netlist →
    (one other : Cycle) → IsValuation netlist one → IsValuation netlist other → ShowSame command one other → ShowAllSame commands one other
wire_ignores entries host command commands wire netlist f one other v w same =
    let h = alike_of wire.command one other (subst (λ (c : CommandNets). ShowSame c one other) (sym f.command_is) same) in
    let below = same_raw (below_wire wire) one other (record { read = h.read; write = h.write; address = h.address; word = h.word; enables = h.enables; count = h.count; more = h.more }) (f.tag one v ∙ sym (f.tag other w)) in
    subst (λ (made : List CommandNets). ShowAllSame made one other) (sym f.only) (below, tt)

pub ignores_answers : (entries : List Route) (host : ℕ) (command : CommandNets) (commands : List CommandNets) (held : HeldRoute) (netlist : Netlist) → RouteForward entries host command commands held netlist →
    (one other : Cycle) → IsValuation netlist one → IsValuation netlist other → ((n : ℕ) → owns held n → one.net n ≡ other.net n) → ShowSame command one other → ShowAllSame commands one other
ignores_answers entries host command commands (Wired wire) netlist f one other v w state same = wire_ignores entries host command commands wire netlist f.made one other v w same
ignores_answers entries host command commands (Routed router) netlist f one other v w state same = router_ignores entries host command commands router netlist f.made one other v w state same
