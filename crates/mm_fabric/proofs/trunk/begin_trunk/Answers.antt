use Rattle.std.proofs.Common.{◌≡◌, false, length, Option, Some, None, is_some, sym, subst, ◌∙◌, inl, inr, arith}
use Rattle.iface_roles.specs.declared.records.HostPort.{HostPort}
use Rattle.netlist.specs.Nets.{NetValue}
use Rattle.netlist.specs.Netlists.{Netlist}
use Rattle.netlist.specs.Runs.{Always}
use Rattle.net_parts.specs.Laws.{grows_twice}
use Rattle.mm_route.specs.Forward.{RouteKeeps}
use Rattle.mm_host.specs.declared.writes.HeldWrites.{HeldWrites}
use Rattle.mm_host.specs.Writes.{AreWritesHeld}
use Rattle.mm_host.specs.Forms.{held_lasts}
use Rattle.mm_fabric.proofs.trunk.begin_trunk.Goals as goal

pub emit_route-requires-clause-entries : goal.emit_route-requires-clause-entries
emit_route-requires-clause-entries c = c.requires.entries _ c.in_ok-host.ensures.held.fields.reaches

-- a host that writes no bursts ends each command with its beat
never_more : (netlist : Netlist) (port : HostPort) (write count more : NetValue) (writes : Option HeldWrites) → AreWritesHeld netlist port write count more writes → is_some writes ≡ false → Always netlist (λ cycle. cycle.net more.number ≡ 0)
never_more netlist port write count more None h e = h.low
never_more netlist port write count more (Some held) h e = cc

pub emit_route-requires-clause-single : goal.emit_route-requires-clause-single
emit_route-requires-clause-single c e = never_more _ c.args.port.now _ _ c.in_ok-host.host.command.more c.in_ok-host.host.writes c.in_ok-host.ensures.held.writes (sym c.is_some.ensures ∙ e)

pub returns-clause-trunk : goal.returns-clause-trunk
returns-clause-trunk c =
    let e = c.emit_route.ensures.grows.extends in
    record {
      held = held_lasts _ _ _ _ c.in_ok-host.ensures.held e;
      ignores = λ one other v w. c.in_ok-host.ensures.ignores one other (e.valuations one v) (e.valuations other w);
      host_waits = λ n o. c.emit_route.ensures.waits n (c.in_ok-host.ensures.own_wait n o);
      keeps = subst (λ bits. RouteKeeps c.in_ok-commands.route (length c.args.routes.now) bits c.emit_route.new.builder) c.room_bits.ensures.bits c.in_ok-commands.ensures.kept;
      apart = λ n o p. (let first = c.in_ok-host.ensures.owned n o in let second = c.in_ok-commands.ensures.owned n p in omega (arith, first.1, second.0));
    }

pub returns-clause-owned : goal.returns-clause-owned
returns-clause-owned c n o =
    let later = c.emit_route.ensures.grows.extends.count in
    let sooner = c.emit_host.ensures.grows.extends.count in
    elim o [
      | inl host ↦ (let made = c.in_ok-host.ensures.owned n host in (made.0, omega (arith, made.1, later)))
      | inr route ↦ (let made = c.in_ok-commands.ensures.owned n route in (omega (arith, made.0, sooner), made.1))
    ]

pub returns-clause-newly : goal.returns-clause-newly
returns-clause-newly c n w =
    elim (c.in_ok-commands.ensures.newly n w) [
      | inl before ↦ (elim (c.in_ok-host.ensures.newly n before) [ inl old ↦ inl old | inr own ↦ inr (inl own) ])
      | inr own ↦ inr (inr own)
    ]

pub returns-in_err-commands-clause-grows : goal.returns-in_err-commands-clause-grows
returns-in_err-commands-clause-grows c = grows_twice _ _ _ _ _ c.emit_host.ensures.grows c.emit_route.ensures.grows

pub returns-clause-grows : goal.returns-clause-grows
returns-clause-grows c = grows_twice _ _ _ _ _ c.emit_host.ensures.grows c.emit_route.ensures.grows

pub returns-in_err-commands-clause-waits : goal.returns-in_err-commands-clause-waits
returns-in_err-commands-clause-waits c n w = c.emit_route.ensures.waits n (c.emit_host.ensures.still_wait n w)

pub returns-clause-waits : goal.returns-clause-waits
returns-clause-waits c n w = c.emit_route.ensures.waits n (c.emit_host.ensures.still_wait n w)
