-- A route is its machine, be it a wire or a router.
use Rattle.std.proofs.Common.{◌≡◌, ℕ, ◌≤◌, Bool, true, false, ◌&&◌, nat_le, List, [], ◌∷◌, length, get_or, refl, sym, subst, ap, ◌∙◌, arith}
use Rattle.std.proofs.lemmas.Bool.{false≢true}
use Rattle.std.proofs.lemmas.Bool.Decides.{nat_tests}
use Rattle.netlist.specs.Nets.{NetValue}
use Rattle.netlist.specs.Netlists.{Netlist}
use Rattle.netlist.specs.Longer.{Extends}
use Rattle.command_nets.specs.declared.nets.CommandNets.{CommandNets}
use Rattle.command_nets.specs.declared.nets.AnswerNets.{AnswerNets}
use Rattle.memory_runs.specs.declared.sides.route.Route.{Route}
use Rattle.mm_route.specs.declared.back.BackNets.{BackNets}
use Rattle.mm_route.specs.declared.wire.HeldWire.{HeldWire}
use Rattle.mm_route.specs.declared.route.HeldRoute.{HeldRoute}
use Rattle.mm_route.specs.declared.route.HeldRoute.TheVariants.{Wired, Routed}
use Rattle.mm_route.specs.Entries.{is_lone}
use Rattle.mm_route.specs.Taken.{EachStep}
use Rattle.mm_route.specs.Wire.{below_wire, WireForward, WireBackward, OwesOn}
use Rattle.mm_route.specs.Forward.{RouteForward}
use Rattle.mm_route.specs.Backward.{RouteBackward}
use Rattle.mm_route.specs.Lone.{RunsAsWire}
use Rattle.mm_route.specs.Machine.{RunsAsMachine}
use Rattle.mm_route.proofs.WireMachine.{IsWire, runs_as_route}

two : (s t : Bool) → (s && t) ≡ true → (s ≡ true) × (t ≡ true)
two true t e = (refl, e)
two false t e = absurd (false≢true e)

at_most : (a b : ℕ) → nat_le a b ≡ true → a ≤ b
at_most a b e = grind (arith, nat_tests, e)

wire_of : (entry : Route) (host : ℕ) (command : CommandNets) (commands : List CommandNets) (wire : HeldWire) (backs : List BackNets) (wait : NetValue) (answer : AnswerNets) (netlist : Netlist) → is_lone (entry ∷ []) command.address.width ≡ true →
    WireForward (entry ∷ []) host command commands wire netlist → (b : WireBackward wire backs wait answer netlist) → IsWire netlist wire entry host b.back answer
wire_of entry host command commands wire backs wait answer netlist lone f b =
    let alone : is_lone (entry ∷ []) wire.command.address.width ≡ true = subst (λ (c : CommandNets). is_lone (entry ∷ []) c.address.width ≡ true) (sym f.command_is) lone in
    let parts = two (entry.reads && entry.writes) (nat_le wire.command.address.width entry.bits) alone in
    let kinds = two entry.reads entry.writes parts.0 in
    record {
      reads = kinds.0;
      writes = kinds.1;
      wide = at_most wire.command.address.width entry.bits parts.1;
      entry_is = f.entries_are.0;
      address = f.nets.address;
      tag = f.tag;
      starts = f.starts;
      word = b.word;
      code = b.code;
      valid = b.valid;
      next = subst (λ (w : NetValue). EachStep netlist (OwesOn wire.owing wire.command w)) b.wait_is b.next;
    }

is_wire_lasts : (old new : Netlist) (wire : HeldWire) (entry : Route) (host : ℕ) (back : BackNets) (answer : AnswerNets) → IsWire old wire entry host back answer → Extends old new → IsWire new wire entry host back answer
is_wire_lasts old new wire entry host back answer h e = record {
  reads = h.reads;
  writes = h.writes;
  wide = h.wide;
  entry_is = h.entry_is;
  address = e.nets _ _ h.address;
  tag = λ cycle v. h.tag cycle (e.valuations cycle v);
  starts = λ run cycles r. h.starts run cycles (e.runs run cycles r);
  word = h.word;
  code = h.code;
  valid = λ cycle v. h.valid cycle (e.valuations cycle v);
  next = λ run cycles r. h.next run cycles (e.runs run cycles r);
}

nets_are_a_wire : (netlist : Netlist) (entries : List Route) (host : ℕ) (command : CommandNets) (commands : List CommandNets) (wire : HeldWire) (room_bits : ℕ) (backs : List BackNets) (wait : NetValue) (answer : AnswerNets) →
    is_lone entries command.address.width ≡ true → WireForward entries host command commands wire netlist → WireBackward wire backs wait answer netlist → RunsAsMachine netlist entries host command commands room_bits backs wait answer
nets_are_a_wire netlist [] host command commands wire room_bits backs wait answer lone f b = absurd (false≢true lone)
nets_are_a_wire netlist (entry ∷ other ∷ later) host command commands wire room_bits backs wait answer lone f b = absurd (false≢true lone)
nets_are_a_wire netlist (entry ∷ []) host command commands wire room_bits backs wait answer lone f b =
    subst (λ (w : NetValue). RunsAsMachine netlist (entry ∷ []) host command commands room_bits backs w answer) (sym b.wait_is)
    (subst (λ (bs : List BackNets). RunsAsMachine netlist (entry ∷ []) host command commands room_bits bs b.back.wait answer) (sym b.only)
    (subst (λ (cs : List CommandNets). RunsAsMachine netlist (entry ∷ []) host command cs room_bits (b.back ∷ []) b.back.wait answer) (sym f.only)
    (subst (λ (c : CommandNets). RunsAsMachine netlist (entry ∷ []) host c (below_wire wire ∷ []) room_bits (b.back ∷ []) b.back.wait answer) f.command_is
    (λ longer e run endless system shape others room end maps enough.
    runs_as_route system host room shape others entry wire b.back answer longer maps
    (is_wire_lasts netlist longer wire entry host b.back answer (wire_of entry host command commands wire backs wait answer netlist lone f b) e) run endless end))))

pub wire_is_a_route : (netlist : Netlist) (entries : List Route) (host : ℕ) (command : CommandNets) (commands : List CommandNets) (wire : HeldWire) (room_bits : ℕ) (backs : List BackNets) (wait : NetValue) (answer : AnswerNets) →
    RouteForward entries host command commands (Wired wire) netlist → WireBackward wire backs wait answer netlist → RunsAsMachine netlist entries host command commands room_bits backs wait answer
wire_is_a_route netlist entries host command commands wire room_bits backs wait answer f b = nets_are_a_wire netlist entries host command commands wire room_bits backs wait answer (sym f.kind) f.made b

-- a route alone is a wire to those around it
pub runs_as_wire : (netlist : Netlist) (entries : List Route) (host : ℕ) (command : CommandNets) (commands : List CommandNets) (held : HeldRoute) (room_bits : ℕ) (backs : List BackNets) (wait : NetValue) (answer : AnswerNets) →
    RouteForward entries host command commands held netlist → RouteBackward held room_bits backs wait answer netlist → is_lone entries command.address.width ≡ true → RunsAsWire netlist held command commands backs wait answer
runs_as_wire netlist entries host command commands (Wired wire) room_bits backs wait answer f b lone = record {
  wire = wire;
  held_is = refl;
  below = below_wire wire;
  only_command = f.made.only;
  back = b.back;
  only_back = b.only;
  lone = record {
    read = ap (λ (c : CommandNets). c.read) f.made.command_is;
    write = ap (λ (c : CommandNets). c.write) f.made.command_is;
    wait_is = b.wait_is;
    word = b.word;
    valid = b.valid;
    starts = f.made.starts;
    next = subst (λ (c : CommandNets). EachStep netlist (OwesOn wire.owing c wait)) f.made.command_is b.next;
  };
}
runs_as_wire netlist entries host command commands (Routed router) room_bits backs wait answer f b lone = absurd (false≢true (f.kind ∙ lone))

-- ---- the same of what the second call is given

pub one_back : (backs : List BackNets) (back : BackNets) → length backs ≡ 1 → back ≡ get_or backs 0 back → backs ≡ back ∷ []
one_back [] back e at = absurd (omega (arith, e))
one_back (first ∷ []) back e at = ap (λ (b : BackNets). b ∷ []) (sym at)
one_back (first ∷ other ∷ later) back e at = absurd (omega (arith, e))
