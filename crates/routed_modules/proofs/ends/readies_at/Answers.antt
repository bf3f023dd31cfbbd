use Rattle.std.proofs.Common.{◌≡◌, ◌+◌, ◌*◌, List, ap, sym, subst, arith}
use Rattle.netlist.specs.Nets.{NetValue}
use Rattle.routed_modules.specs.Ends.{AreReadies}
use Rattle.routed_modules.proofs.InputPorts.{ready_port, is_input_at, no_readies, one_more_ready}
use Rattle.routed_modules.proofs.ends.readies_at.Goals as goal

pub loop-number-init : goal.loop-number-init
loop-number-init c = no_readies c.args.builder.now c.args.place c.args.stride c.new-readies.result.items c.new-readies.ensures.items

pub input-requires : goal.input-requires
input-requires c = (
  1,
  ready_port c.args.builder.now c.args.place c.args.stride c.args.count c.loop-number.number (c.args.place + c.args.stride * c.from.result) c.requires.readies c.loop-number-test.true
      (ap (λ n. c.args.place + c.args.stride * n) c.from.ensures),
)

pub loop-number-preserved : goal.loop-number-preserved
loop-number-preserved c =
    let same = ap (λ n. c.args.place + c.args.stride * n) c.from.ensures in
    subst (λ (nets : List NetValue). AreReadies c.args.builder.now c.args.place c.args.stride (c.loop-number.number + 1) nets) (sym {A = List NetValue} c.in_ok-push.ensures.items)
    (one_more_ready c.args.builder.now c.args.place c.args.stride c.loop-number.number c.loop-number.readies.items c.input.result c.loop-number.invariant
    (is_input_at c.args.builder.now (c.args.place + c.args.stride * c.from.result) 1 c.input.result
    (ready_port c.args.builder.now c.args.place c.args.stride c.args.count c.loop-number.number (c.args.place + c.args.stride * c.from.result) c.requires.readies c.loop-number-test.true same)
    c.input.ensures.net c.input.ensures.number c.input.ensures.width (c.args.place + c.args.stride * c.loop-number.number) same))

pub returns-clause-readies : goal.returns-clause-readies
returns-clause-readies c =
    let most = c.loop-number.auto.number-end in
    let all = c.loop-number-test.false in
    let same : c.loop-number.number ≡ c.args.count = omega (arith, most, all) in
    subst (λ n. AreReadies c.args.builder.now c.args.place c.args.stride n c.loop-number.readies.items) same c.loop-number.invariant
