use Rattle.std.proofs.Common.{inl, inr, refl, sym, ap, ◌∙◌, arith}
use Rattle.cycle_sim.specs.Readers.{block_of, operands_of}
use Rattle.cycle_sim.proofs.reading.Lines.{equation_is}
use Rattle.cycle_sim.proofs.reading.Reading.{operand_within, three_besides, net_reads, net_reads_none}
use Rattle.cycle_sim.proofs.reading.readers.add_net.Goals as goal

pub add-requires : goal.add-requires
add-requires c =
    let lt = operand_within c.args.module.now c.requires.module c.args.net c.requires.net_is c.equation.result c.equation.ensures c.in-Some.operands (sym c.in-Some.ensures) c.in-Some.operands.first (inl refl) in
    omega (arith, lt, c.requires.lists.count)

pub add-requires-in-Some : goal.add-requires-in-Some
add-requires-in-Some c =
    let lt = operand_within c.args.module.now c.requires.module c.args.net c.requires.net_is c.equation.result c.equation.ensures c.in-Some.operands (sym c.in-Some.ensures) c.in-Some.operands.second (inr (inl refl)) in
    omega (arith, lt, c.requires.lists.count, c.in_ok-add.ensures.count)

pub add-requires-in-Some-2 : goal.add-requires-in-Some-2
add-requires-in-Some-2 c =
    let lt = operand_within c.args.module.now c.requires.module c.args.net c.requires.net_is c.equation.result c.equation.ensures c.in-Some.operands (sym c.in-Some.ensures) c.in-Some.operands.third (inr (inr refl)) in
    omega (arith, lt, c.requires.lists.count, c.in_ok-add.ensures.count, c.in_ok-add-2.ensures.count)

pub returns-in_ok-add-3 : goal.returns-in_ok-add-3
returns-in_ok-add-3 c =
    net_reads c.args.module.now c.args.lists.now c.add-in-Some-2.new.self c.args.net c.in-Some.operands c.requires.net_is c.requires.lists
    (three_besides c.args.lists.now c.add.new.self c.add-in-Some.new.self c.add-in-Some-2.new.self c.in-Some.operands (block_of c.args.net) c.in_ok-add.ensures c.in_ok-add-2.ensures c.in_ok-add-3.ensures)
    (λ line at. ap operands_of (equation_is c.args.module.now c.args.net c.equation.result c.requires.module c.requires.net_is c.equation.ensures line at) ∙ sym c.in-Some.ensures)

pub returns-in_default : goal.returns-in_default
returns-in_default c =
    net_reads_none c.args.module.now c.args.lists.now c.args.net c.requires.lists
    (λ line at. ap operands_of (equation_is c.args.module.now c.args.net c.equation.result c.requires.module c.requires.net_is c.equation.ensures line at) ∙ sym c.in_default.ensures)
