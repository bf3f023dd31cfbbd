use Rattle.std.proofs.Common.{◌≡◌, ℕ, true, List, length, sym, subst, arith}
use Rattle.net_parts.specs.Laws.{if_ok, grows_fewer}
use Rattle.memory_runs.specs.declared.sides.route.Route.{Route}
use Rattle.command_nets.specs.declared.nets.CommandNets.{CommandNets}
use Rattle.mm_route.specs.declared.back.BackNets.{BackNets}
use Rattle.mm_route.specs.declared.route.HeldRoute.{HeldRoute}
use Rattle.mm_route.specs.Entries.{is_lone}
use Rattle.mm_route.specs.Wire.{WireBackward, WireKeeps}
use Rattle.mm_route.specs.Forward.{RouteKeeps, RouteForward, owns}
use Rattle.mm_route.specs.Backward.{RouteBackward, AreBackNets}
use Rattle.mm_route.specs.Lone.{RunsAsWire}
use Rattle.mm_route.specs.Machine.{RunsAsMachine}
use Rattle.net_parts.specs.Growth.{WaitsWithout}
use Rattle.std.specs.Prelude.{OnOk}
use Rattle.mm_route.proofs.RouteMachine.{wire_is_a_route, runs_as_wire, one_back}
use Rattle.mm_route.proofs.route.finish_route.Goals as goal

pub returns-in-Wired-clause-machine : goal.returns-in-Wired-clause-machine
returns-in-Wired-clause-machine c =
    let new = c.finish_wire.new.builder in
    let keeps = subst (λ (held : HeldRoute). RouteKeeps held (length c.args.backs.now) c.args.room_bits c.args.builder.now) c.in-Wired.is c.requires.held in
    let only = one_back c.args.backs.now c.index-backs-0.result keeps.one c.index-backs-0.is in
    if_ok c.finish_wire.result _
    (λ p. (entries : List Route) (host : ℕ) (command : CommandNets) (commands : List CommandNets) → RouteForward entries host command commands c.args.held c.finish_wire.new.builder →
    RunsAsMachine c.finish_wire.new.builder entries host command commands c.args.room_bits c.args.backs.now p.0 p.1)
    (λ p made entries host command commands f. wire_is_a_route new entries host command commands c.in-Wired.wire c.args.room_bits c.args.backs.now p.0 p.1
    (subst (λ (held : HeldRoute). RouteForward entries host command commands held c.finish_wire.new.builder) c.in-Wired.is f)
    (subst (λ (backs : List BackNets). WireBackward c.in-Wired.wire backs p.0 p.1 c.finish_wire.new.builder) (sym only) made))
    c.finish_wire.ensures.made

pub returns-in-Wired-clause-lone : goal.returns-in-Wired-clause-lone
returns-in-Wired-clause-lone c =
    let new = c.finish_wire.new.builder in
    let keeps = subst (λ (held : HeldRoute). RouteKeeps held (length c.args.backs.now) c.args.room_bits c.args.builder.now) c.in-Wired.is c.requires.held in
    let only = one_back c.args.backs.now c.index-backs-0.result keeps.one c.index-backs-0.is in
    if_ok c.finish_wire.result _
    (λ p. (entries : List Route) (host : ℕ) (command : CommandNets) (commands : List CommandNets) → RouteForward entries host command commands c.args.held c.finish_wire.new.builder →
    is_lone entries command.address.width ≡ true → RunsAsWire c.finish_wire.new.builder c.args.held command commands c.args.backs.now p.0 p.1)
    (λ p made entries host command commands f lone. runs_as_wire new entries host command commands c.args.held c.args.room_bits c.args.backs.now p.0 p.1 f
    (subst (λ (held : HeldRoute). RouteBackward held c.args.room_bits c.args.backs.now p.0 p.1 c.finish_wire.new.builder) (sym c.in-Wired.is)
    (subst (λ (backs : List BackNets). WireBackward c.in-Wired.wire backs p.0 p.1 c.finish_wire.new.builder) (sym only) made)) lone)
    c.finish_wire.ensures.made

pub returns-in-Wired-clause-no_more_wait : goal.returns-in-Wired-clause-no_more_wait
returns-in-Wired-clause-no_more_wait c =
    subst (λ (held : HeldRoute). OnOk c.finish_wire.result (WaitsWithout (owns held) c.args.builder.now c.finish_wire.new.builder)) (sym c.in-Wired.is) c.finish_wire.ensures.no_more_wait

pub returns-in-Routed-clause-machine : goal.returns-in-Routed-clause-machine
returns-in-Routed-clause-machine c =
    if_ok c.finish_router.result _
    (λ p. (entries : List Route) (host : ℕ) (command : CommandNets) (commands : List CommandNets) → RouteForward entries host command commands c.args.held c.finish_router.new.builder →
    RunsAsMachine c.finish_router.new.builder entries host command commands c.args.room_bits c.args.backs.now p.0 p.1)
    (λ p machine entries host command commands f. machine entries host command commands (subst (λ (held : HeldRoute). RouteForward entries host command commands held c.finish_router.new.builder) c.in-Routed.is f).made)
    c.finish_router.ensures.machine

pub finish_wire-requires-clause-wire : goal.finish_wire-requires-clause-wire
finish_wire-requires-clause-wire c =
    let keeps = subst (λ (held : HeldRoute). RouteKeeps held (length c.args.backs.now) c.args.room_bits c.args.builder.now) c.in-Wired.is c.requires.held in
    subst (λ n. WireKeeps c.in-Wired.wire n c.args.builder.now) keeps.one keeps

pub finish_wire-requires-clause-wait : goal.finish_wire-requires-clause-wait
finish_wire-requires-clause-wait c =
    let keeps = subst (λ (held : HeldRoute). RouteKeeps held (length c.args.backs.now) c.args.room_bits c.args.builder.now) c.in-Wired.is c.requires.held in
    let only = one_back c.args.backs.now c.index-backs-0.result keeps.one c.index-backs-0.is in
    (subst (AreBackNets c.args.builder.now c.args.word_bits) only c.requires.backs).0.0

pub finish_wire-requires-clause-answer : goal.finish_wire-requires-clause-answer
finish_wire-requires-clause-answer c =
    let keeps = subst (λ (held : HeldRoute). RouteKeeps held (length c.args.backs.now) c.args.room_bits c.args.builder.now) c.in-Wired.is c.requires.held in
    let only = one_back c.args.backs.now c.index-backs-0.result keeps.one c.index-backs-0.is in
    (subst (AreBackNets c.args.builder.now c.args.word_bits) only c.requires.backs).0.1

pub returns-in-Wired-clause-wait : goal.returns-in-Wired-clause-wait
returns-in-Wired-clause-wait c = c.finish_wire.ensures.wait

pub returns-in-Wired-clause-answer : goal.returns-in-Wired-clause-answer
returns-in-Wired-clause-answer c = c.finish_wire.ensures.answer

pub returns-in-Wired-clause-made : goal.returns-in-Wired-clause-made
returns-in-Wired-clause-made c =
    let keeps = subst (λ (held : HeldRoute). RouteKeeps held (length c.args.backs.now) c.args.room_bits c.args.builder.now) c.in-Wired.is c.requires.held in
    let only = one_back c.args.backs.now c.index-backs-0.result keeps.one c.index-backs-0.is in
    if_ok c.finish_wire.result _ (λ p. RouteBackward c.args.held c.args.room_bits c.args.backs.now p.0 p.1 c.finish_wire.new.builder)
    (λ p made. subst (λ (held : HeldRoute). RouteBackward held c.args.room_bits c.args.backs.now p.0 p.1 c.finish_wire.new.builder) (sym c.in-Wired.is)
    (subst (λ (backs : List BackNets). WireBackward c.in-Wired.wire backs p.0 p.1 c.finish_wire.new.builder) (sym only) made))
    c.finish_wire.ensures.made

pub returns-in-Wired-clause-grows : goal.returns-in-Wired-clause-grows
returns-in-Wired-clause-grows c = grows_fewer _ _ _ _ (omega arith) c.finish_wire.ensures.grows

pub returns-in-Wired-clause-waits : goal.returns-in-Wired-clause-waits
returns-in-Wired-clause-waits c n apart w = c.finish_wire.ensures.waits n (λ o. apart (subst (λ (held : HeldRoute). owns held n) (sym c.in-Wired.is) o)) w

pub returns-in-Wired-clause-full : goal.returns-in-Wired-clause-full
returns-in-Wired-clause-full c e = let full = c.finish_wire.ensures.full e in omega (arith, full)

pub finish_router-requires-clause-held : goal.finish_router-requires-clause-held
finish_router-requires-clause-held c = subst (λ (held : HeldRoute). RouteKeeps held (length c.args.backs.now) c.args.room_bits c.args.builder.now) c.in-Routed.is c.requires.held

pub returns-in-Routed-clause-wait : goal.returns-in-Routed-clause-wait
returns-in-Routed-clause-wait c = c.finish_router.ensures.wait

pub returns-in-Routed-clause-answer : goal.returns-in-Routed-clause-answer
returns-in-Routed-clause-answer c = c.finish_router.ensures.answer

pub returns-in-Routed-clause-made : goal.returns-in-Routed-clause-made
returns-in-Routed-clause-made c =
    if_ok c.finish_router.result _ (λ p. RouteBackward c.args.held c.args.room_bits c.args.backs.now p.0 p.1 c.finish_router.new.builder)
    (λ p made. subst (λ (held : HeldRoute). RouteBackward held c.args.room_bits c.args.backs.now p.0 p.1 c.finish_router.new.builder) (sym c.in-Routed.is) made) c.finish_router.ensures.made

pub returns-in-Routed-clause-grows : goal.returns-in-Routed-clause-grows
returns-in-Routed-clause-grows c = c.finish_router.ensures.grows

pub returns-in-Routed-clause-waits : goal.returns-in-Routed-clause-waits
returns-in-Routed-clause-waits c n apart w = c.finish_router.ensures.waits n (λ o. apart (subst (λ (held : HeldRoute). owns held n) (sym c.in-Routed.is) o)) w

pub returns-in-Routed-clause-no_more_wait : goal.returns-in-Routed-clause-no_more_wait
returns-in-Routed-clause-no_more_wait c = subst (λ (held : HeldRoute). OnOk c.finish_router.result (WaitsWithout (owns held) c.args.builder.now c.finish_router.new.builder)) (sym c.in-Routed.is) c.finish_router.ensures.no_more_wait

pub returns-in-Routed-clause-full : goal.returns-in-Routed-clause-full
returns-in-Routed-clause-full c e = c.finish_router.ensures.full e
