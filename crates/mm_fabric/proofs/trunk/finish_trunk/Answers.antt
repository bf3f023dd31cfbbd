use Rattle.std.proofs.Common.{ℕ, length, sym, subst, ap, inl, inr, arith}
use Rattle.netlist.specs.declared.line.Memory.{Memory}
use Rattle.iface_roles.specs.declared.records.HostPort.{HostPort}
use Rattle.netlist.specs.Netlists.{Netlist, IsWellMade}
use Rattle.net_parts.specs.Nets.{IsRegister}
use Rattle.net_parts.specs.Laws.{extends_twice, register_lasts, waiting_register, grows_without_memory, memory_grows_twice}
use Rattle.net_parts.specs.Refusing.{handed_on}
use Rattle.command_nets.specs.Nets.{AreAnswerNets}
use Rattle.mm_route.specs.Forward.{RouteKeeps, forward_lasts, owned_wait}
use Rattle.mm_route.specs.Backward.{AreBackNets}
use Rattle.mm_route.specs.Wire.{lone_lasts}
use Rattle.mm_route.specs.Machine.{RunsAsMachine}
use Rattle.mm_host.specs.Forms.{held_lasts}
use Rattle.mm_agent.specs.Memories.{memory_grows_fewer, writes_wait_alike, writes_waited_alike}
use Rattle.mm_fabric.specs.declared.trunk.Trunk.{Trunk}
use Rattle.mm_fabric.specs.Trunks.{room_bits}
use Rattle.mm_fabric.specs.Trunks.{owns, IsTrunk}
use Rattle.mm_fabric.proofs.trunk.finish_trunk.Goals as goal

pub finish_route-requires-clause-held : goal.finish_route-requires-clause-held
finish_route-requires-clause-held c = subst (λ bits. RouteKeeps c.args.trunk.now.route (length c.args.backs.now) bits c.args.builder.now) (sym c.room_bits.ensures.bits) c.requires.trunk.keeps

pub finish_route-requires-clause-backs : goal.finish_route-requires-clause-backs
finish_route-requires-clause-backs c = subst (λ bits. AreBackNets c.args.builder.now bits c.args.backs.now) (sym c.word_bits.ensures.bits) c.requires.backs

pub finish_host-requires-clause-held : goal.finish_host-requires-clause-held
finish_host-requires-clause-held c = held_lasts _ _ _ _ c.requires.trunk.held c.finish_route.ensures.grows.extends

pub finish_host-requires-clause-own_wait : goal.finish_host-requires-clause-own_wait
finish_host-requires-clause-own_wait c n o = c.finish_route.ensures.waits n (c.requires.trunk.apart n o) (c.requires.trunk.host_waits n o)

pub finish_host-requires-clause-answer : goal.finish_host-requires-clause-answer
finish_host-requires-clause-answer c = subst (λ bits. AreAnswerNets c.finish_route.new.builder c.in_ok-wait.answer bits) c.word_bits.ensures.bits c.in_ok-wait.ensures.answer

pub returns-clause-route : goal.returns-clause-route
returns-clause-route c entries host command commands f longer e =
    subst (λ bits. RunsAsMachine c.finish_route.new.builder entries host command commands bits c.args.backs.now c.in_ok-wait.wait c.in_ok-wait.answer) c.room_bits.ensures.bits
    (c.in_ok-wait.ensures.machine entries host command commands (forward_lasts _ _ _ _ _ _ _ f c.finish_route.ensures.grows.extends)) longer (extends_twice _ _ _ c.finish_host.ensures.grows.extends e)

pub returns-clause-lone : goal.returns-clause-lone
returns-clause-lone c entries host command commands f lone =
    let w = c.in_ok-wait.ensures.lone entries host command commands (forward_lasts _ _ _ _ _ _ _ f c.finish_route.ensures.grows.extends) lone in
    record { wire = w.wire; held_is = w.held_is; below = w.below; only_command = w.only_command; back = w.back; only_back = w.only_back; lone = lone_lasts _ _ _ _ _ _ _ _ w.lone c.finish_host.ensures.grows.extends }

are_registers : (netlist : Netlist) (port : HostPort) (routes : ℕ) (trunk : Trunk) → IsTrunk netlist port routes trunk → IsWellMade netlist → (n : ℕ) → owns trunk n → IsRegister netlist n
are_registers netlist port routes trunk h made n (inl host) = waiting_register netlist n made (h.host_waits n host)
are_registers netlist port routes trunk h made n (inr route) = waiting_register netlist n made (owned_wait trunk.route routes (room_bits port) netlist h.keeps n route)

pub returns-in_err-wait-clause-registers : goal.returns-in_err-wait-clause-registers
returns-in_err-wait-clause-registers c n o = register_lasts _ _ n c.finish_route.ensures.grows.extends (are_registers _ _ _ _ c.requires.trunk c.well_made.ensures n o)

pub returns-in_err-host-clause-registers : goal.returns-in_err-host-clause-registers
returns-in_err-host-clause-registers c n o =
    register_lasts _ _ n (extends_twice _ _ _ c.finish_route.ensures.grows.extends c.finish_host.ensures.grows.extends) (are_registers _ _ _ _ c.requires.trunk c.well_made.ensures n o)

pub returns-clause-registers : goal.returns-clause-registers
returns-clause-registers c n o =
    register_lasts _ _ n (extends_twice _ _ _ c.finish_route.ensures.grows.extends c.finish_host.ensures.grows.extends) (are_registers _ _ _ _ c.requires.trunk c.well_made.ensures n o)

pub returns-in_err-wait-clause-grows : goal.returns-in_err-wait-clause-grows
returns-in_err-wait-clause-grows c = memory_grows_fewer _ _ _ _ _ _ (omega arith) (omega arith) (grows_without_memory _ _ _ c.finish_route.ensures.grows)

pub returns-in_err-host-clause-grows : goal.returns-in_err-host-clause-grows
returns-in_err-host-clause-grows c = memory_grows_twice _ _ _ _ _ _ _ (grows_without_memory _ _ _ c.finish_route.ensures.grows) c.finish_host.ensures.grows

pub returns-clause-grows : goal.returns-clause-grows
returns-clause-grows c = memory_grows_twice _ _ _ _ _ _ _ (grows_without_memory _ _ _ c.finish_route.ensures.grows) c.finish_host.ensures.grows

pub returns-in_err-host-clause-waits : goal.returns-in_err-host-clause-waits
returns-in_err-host-clause-waits c n apart w = c.finish_host.ensures.waits n (λ o. apart (inl o)) (c.finish_route.ensures.waits n (λ o. apart (inr o)) w)

pub returns-clause-waits : goal.returns-clause-waits
returns-clause-waits c n apart w = c.finish_host.ensures.waits n (λ o. apart (inl o)) (c.finish_route.ensures.waits n (λ o. apart (inr o)) w)

pub returns-clause-no_more_wait : goal.returns-clause-no_more_wait
returns-clause-no_more_wait c n w =
    let late = c.in_ok-host.ensures.no_more_wait n w in
    let set = c.in_ok-wait.ensures.no_more_wait n late.0 in
    (set.0, λ o. elim o [ inl host ↦ late.1 host | inr route ↦ set.1 route ])

pub returns-in_err-wait-clause-still_wait_for_write : goal.returns-in_err-wait-clause-still_wait_for_write
returns-in_err-wait-clause-still_wait_for_write c m w = writes_wait_alike _ _ c.finish_route.ensures.grows.memories m w

pub returns-in_err-host-clause-still_wait_for_write : goal.returns-in_err-host-clause-still_wait_for_write
returns-in_err-host-clause-still_wait_for_write c m w = c.finish_host.ensures.still_wait_for_write m (writes_wait_alike _ _ c.finish_route.ensures.grows.memories m w)

pub returns-clause-still_wait_for_write : goal.returns-clause-still_wait_for_write
returns-clause-still_wait_for_write c m w = c.finish_host.ensures.still_wait_for_write m (writes_wait_alike _ _ c.finish_route.ensures.grows.memories m w)

pub returns-clause-no_more_wait_for_write : goal.returns-clause-no_more_wait_for_write
returns-clause-no_more_wait_for_write c m w = writes_waited_alike _ _ c.finish_route.ensures.grows.memories m (c.in_ok-host.ensures.no_more_wait_for_write m w)

pub returns-in_err-wait-clause-full : goal.returns-in_err-wait-clause-full
returns-in_err-wait-clause-full c e =
    let full = c.finish_route.ensures.full (handed_on _ _ _ _ c.in_err-wait.was c.from_residual.ensures.1 e) in
    inl (omega (arith, full))

pub returns-in_err-host-clause-full : goal.returns-in_err-host-clause-full
returns-in_err-host-clause-full c e =
    let most = c.finish_route.ensures.grows.most in
    let memories = ap (length {A = Memory}) c.finish_route.ensures.grows.memories in
    elim (c.finish_host.ensures.full (handed_on _ _ _ _ c.in_err-host.was c.from_residual-in_err-host.ensures.1 e)) [
      | inl full ↦ inl (omega (arith, most, full))
      | inr full ↦ inr (omega (arith, memories, full))
    ]
