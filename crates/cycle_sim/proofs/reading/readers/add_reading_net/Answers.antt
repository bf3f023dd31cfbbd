use Rattle.std.proofs.Common.{sym, ◌∙◌, arith}
use Rattle.std.proofs.lemmas.Option.{slice_get_within}
use Rattle.netlist.specs.declared.line.Equation.TheVariants.{Read}
use Rattle.cycle_sim.proofs.reading.Lines.{here, equation_is}
use Rattle.cycle_sim.proofs.reading.Reading.{memory_read, memory_read_none}
use Rattle.cycle_sim.proofs.reading.readers.add_reading_net.Goals as goal

pub add-requires : goal.add-requires
add-requires c =
    let h = here c.args.module.now c.args.net (Read c.in-Read.memory c.in-Read.address) c.requires.module c.requires.net_is c.in-Read.ensures in
    let lt = slice_get_within c.args.module.now.memories c.in-Read.memory h.sound.memory h.sound.is in
    omega (arith, lt, c.requires.lists.count)

pub returns-in_ok-add : goal.returns-in_ok-add
returns-in_ok-add c =
    memory_read c.args.module.now c.args.lists.now c.add.new.self c.args.net c.in-Read.memory c.in-Read.address c.requires.net_is c.requires.lists c.in_ok-add.ensures
    (λ line at. equation_is c.args.module.now c.args.net (Read c.in-Read.memory c.in-Read.address) c.requires.module c.requires.net_is c.in-Read.ensures line at)

pub returns-in_default : goal.returns-in_default
returns-in_default c =
    memory_read_none c.args.module.now c.args.lists.now c.args.net c.requires.lists
    (λ line m a at e. c.in_default.not-Read m a (sym (equation_is c.args.module.now c.args.net c.equation.result c.requires.module c.requires.net_is c.equation.ensures line at) ∙ e))
