use Rattle.std.proofs.Common.{◌≡◌, List, ◌∷◌, length, subst, sym, ap, ◌∙◌, arith, ◌+◌}
use Rattle.netlist.specs.Runs.{Always}
use Rattle.net_parts.specs.Laws.{if_ok, bit_fits, adds_fewer, adds_twice, grows_once}
use Rattle.command_nets.specs.declared.nets.CommandNets.{CommandNets}
use Rattle.command_nets.specs.Groups.{command_lasts}
use Rattle.net_parts.specs.Refusing.{handed_on}
use Rattle.net_parts.specs.Nets.{IsNetOfWidth}
use Rattle.mm_arbiter.specs.Asks.{number}
use Rattle.mm_arbiter.specs.Shown.{AreCommands, asks_in, commands_last}
use Rattle.mm_arbiter.proofs.Words.{bit_below, ask_level, ask_alone}
use Rattle.mm_arbiter.proofs.Picks.{nil_of}
use Rattle.mm_arbiter.proofs.asks.+ask_bits.Goals as goal

pub ask_bits-requires : goal.ask_bits-requires
ask_bits-requires t c =
    let is = c.in-Some.ensures.cases.0 in
    let fewer = ap (length {A = CommandNets}) is in
    let d = c.decreases in
    let few = c.requires.few in
    let h = subst (AreCommands c.args.builder.now) is c.requires.later in
    let e = c.shown.ensures.adds.grows.extends in
    (omega (arith, d, fewer), (command_lasts _ _ _ e h.0, (commands_last _ _ _ e h.1, omega (arith, few, fewer))))

pub returns-in_ok-above-in-Some-clause-value : goal.returns-in_ok-above-in-Some-clause-value
returns-in_ok-above-in-Some-clause-value t c =
    let is = c.in-Some.ensures.cases.0 in
    if_ok c.concat.result _ (λ bits. Always c.concat.new.self (λ cycle. cycle.net bits.number ≡ number (asks_in cycle (c.args.first.now ∷ c.args.later.now))))
    (λ bits value cycle v2. (
    let v1 = c.concat.ensures.extends.valuations cycle v2 in
    let v0 = c.ask_bits.ensures.adds.grows.extends.valuations cycle v1 in
    let vf = c.shown.ensures.adds.grows.extends.valuations cycle v0 in
    bit_below c.in_ok-asks.asks.width _ _ _ _ _ c.in_ok-asks.ensures.net.has_width (value cycle v2).1 (ask_level _ _ (bit_fits _ _ c.in_ok-asks.ensures.net cycle v0) (c.in_ok-asks.ensures.value cycle v0))
    (c.in_ok-above-in-Some.ensures.value cycle v1 ∙ ap (λ (commands : List CommandNets). number (asks_in cycle commands)) (sym is))))
    c.concat.ensures.value

pub returns-in-None-clause-value : goal.returns-in-None-clause-value
returns-in-None-clause-value t c cycle v =
    ask_alone _ _ (bit_fits _ _ c.in_ok-asks.ensures.net cycle v) (c.in_ok-asks.ensures.value cycle v) ∙ ap (λ (commands : List CommandNets). number (asks_in cycle (c.args.first.now ∷ commands))) (sym (nil_of c.args.later.now (sym c.in-None.ensures.cases)))

pub shown-requires : goal.shown-requires
shown-requires t c = c.requires.first

pub returns-in_err-asks-clause-adds : goal.returns-in_err-asks-clause-adds
returns-in_err-asks-clause-adds t c = adds_fewer _ _ _ _ (omega arith) c.shown.ensures.adds

pub returns-in_err-asks-clause-full : goal.returns-in_err-asks-clause-full
returns-in_err-asks-clause-full t c e = let full = c.shown.ensures.full (handed_on _ _ _ _ c.in_err-asks.was c.from_residual.ensures.1 e) in omega (arith, full)

pub returns-in-None-clause-net : goal.returns-in-None-clause-net
returns-in-None-clause-net t c = let none = ap (length {A = CommandNets}) (nil_of c.args.later.now (sym c.in-None.ensures.cases)) in record { is_net = c.in_ok-asks.ensures.net.is_net; has_width = c.in_ok-asks.ensures.net.has_width ∙ omega (arith, none) }

pub returns-in-None-clause-adds : goal.returns-in-None-clause-adds
returns-in-None-clause-adds t c = adds_fewer _ _ _ _ (omega arith) c.shown.ensures.adds

pub returns-in-None-clause-full : goal.returns-in-None-clause-full
returns-in-None-clause-full t c e = cc

pub returns-in_err-above-in-Some-clause-adds : goal.returns-in_err-above-in-Some-clause-adds
returns-in_err-above-in-Some-clause-adds t c = let count = ap (length {A = CommandNets}) c.in-Some.ensures.cases.0 in adds_fewer _ _ _ _ (omega (arith, count)) (adds_twice _ _ _ _ _ c.shown.ensures.adds c.ask_bits.ensures.adds)

pub returns-in_err-above-in-Some-clause-full : goal.returns-in_err-above-in-Some-clause-full
returns-in_err-above-in-Some-clause-full t c e =
    let count = ap (length {A = CommandNets}) c.in-Some.ensures.cases.0 in
    let most = c.shown.ensures.adds.most in
    let full = c.ask_bits.ensures.full (handed_on _ _ _ _ c.in_err-above-in-Some.was c.from_residual-in_err-above-in-Some.ensures.1 e) in
    omega (arith, count, most, full)

pub returns-in_ok-above-in-Some-clause-adds : goal.returns-in_ok-above-in-Some-clause-adds
returns-in_ok-above-in-Some-clause-adds t c = let count = ap (length {A = CommandNets}) c.in-Some.ensures.cases.0 in adds_fewer _ _ _ _ (omega (arith, count)) (adds_twice _ _ _ _ _ (adds_twice _ _ _ _ _ c.shown.ensures.adds c.ask_bits.ensures.adds) (grows_once _ _ c.concat.ensures.extends c.concat.ensures.grows))

pub returns-in_ok-above-in-Some-clause-full : goal.returns-in_ok-above-in-Some-clause-full
returns-in_ok-above-in-Some-clause-full t c e =
    let count = ap (length {A = CommandNets}) c.in-Some.ensures.cases.0 in
    let most = c.shown.ensures.adds.most in
    let more = c.ask_bits.ensures.adds.most in
    let full = c.concat.ensures.full.0 e in
    omega (arith, count, most, more, full)

pub concat-requires-clause-a_is : goal.concat-requires-clause-a_is
concat-requires-clause-a_is t c = c.in_ok-above-in-Some.ensures.net.is_net

pub concat-requires-clause-b_is : goal.concat-requires-clause-b_is
concat-requires-clause-b_is t c = c.ask_bits.ensures.adds.grows.extends.nets _ _ c.in_ok-asks.ensures.net.is_net

pub concat-requires-clause-widths : goal.concat-requires-clause-widths
concat-requires-clause-widths t c =
    let count = ap (length {A = CommandNets}) c.in-Some.ensures.cases.0 in
    let few = c.requires.few in
    let one = c.in_ok-asks.ensures.net.has_width in
    let more = c.in_ok-above-in-Some.ensures.net.has_width in
    omega (arith, count, few, one, more)

pub returns-in_ok-above-in-Some-clause-net : goal.returns-in_ok-above-in-Some-clause-net
returns-in_ok-above-in-Some-clause-net t c =
    let count = ap (length {A = CommandNets}) c.in-Some.ensures.cases.0 in
    let one = c.in_ok-asks.ensures.net.has_width in
    let more = c.in_ok-above-in-Some.ensures.net.has_width in
    if_ok c.concat.result _ (λ bits. IsNetOfWidth c.concat.new.self bits (length c.args.later.now + 1)) (λ bits net. record { is_net = net.0; has_width = net.1 ∙ omega (arith, count, one, more) }) c.concat.ensures.net
