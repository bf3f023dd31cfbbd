use Rattle.std.proofs.Common.{arith}
use Rattle.net_parts.specs.Laws.{extends_twice, width_fits, adds_fewer, adds_twice}
use Rattle.command_nets.specs.Groups.{command_lasts}
use Rattle.mm_arbiter.specs.Shown.{commands_last}
use Rattle.mm_arbiter.specs.Turns.{turn_nets_last}
use Rattle.mm_arbiter.specs.declared.rounds.RoundNets.{RoundNets}
use Rattle.mm_arbiter.specs.Rounds.{chosen_last}
use Rattle.mm_arbiter.proofs.Turned.{turn_made}
use Rattle.net_parts.specs.Refusing.{handed_on}
use Rattle.mm_arbiter.proofs.rounds.take_turns.Goals as goal

pub show_chosen-requires-clause-commands : goal.show_chosen-requires-clause-commands
show_chosen-requires-clause-commands c = commands_last _ _ _ c.choose_asker.ensures.adds.grows.extends c.requires.commands

pub next_turn-requires-clause-turns : goal.next_turn-requires-clause-turns
next_turn-requires-clause-turns c = turn_nets_last _ _ _ _ (extends_twice _ _ _ c.choose_asker.ensures.adds.grows.extends c.show_chosen.ensures.adds.grows.extends) c.requires.turns

pub next_turn-requires-clause-chosen : goal.next_turn-requires-clause-chosen
next_turn-requires-clause-chosen c = chosen_last _ _ _ _ c.show_chosen.ensures.adds.grows.extends c.in_ok-chosen.ensures.nets

pub returns-clause-command : goal.returns-clause-command
returns-clause-command c = command_lasts _ _ _ c.next_turn.ensures.adds.grows.extends c.in_ok-made.ensures.command

pub returns-clause-kept : goal.returns-clause-kept
returns-clause-kept c =
    let e1 = c.next_turn.ensures.adds.grows.extends in
    let e2 = extends_twice _ _ _ c.show_chosen.ensures.adds.grows.extends e1 in
    record {
      turns = turn_nets_last _ _ _ _ (extends_twice _ _ _ c.choose_asker.ensures.adds.grows.extends e2) c.requires.turns;
      chosen = chosen_last _ _ _ _ e2 c.in_ok-chosen.ensures.nets;
      holder = c.in_ok-holder.ensures.holder;
      left = c.in_ok-holder.ensures.left;
    }

pub returns-clause-made : goal.returns-clause-made
returns-clause-made c cycle v3 k lt is =
    let v2 = c.next_turn.ensures.adds.grows.extends.valuations cycle v3 in
    let v1 = c.show_chosen.ensures.adds.grows.extends.valuations cycle v2 in
    let round : RoundNets = record { turns = c.args.turns.now; chosen = c.in_ok-chosen.chosen; holder = c.in_ok-holder.holder; left = c.in_ok-holder.left } in
    turn_made cycle c.args.askers.now c.args.commands.now c.in_ok-made.made round k lt is (c.in_ok-chosen.ensures.value cycle v1 k lt is) (width_fits _ _ _ c.in_ok-chosen.ensures.nets.seat cycle v1)
    (λ seat small e. c.in_ok-made.ensures.shows cycle v2 seat small e) (c.in_ok-made.ensures.hides cycle v2) (c.in_ok-holder.ensures.value cycle v3)

pub returns-clause-reads : goal.returns-clause-reads
returns-clause-reads c one other v3 w3 turns shown =
    let v2 = c.next_turn.ensures.adds.grows.extends.valuations one v3 in
    let w2 = c.next_turn.ensures.adds.grows.extends.valuations other w3 in
    let v1 = c.show_chosen.ensures.adds.grows.extends.valuations one v2 in
    let w1 = c.show_chosen.ensures.adds.grows.extends.valuations other w2 in
    let chosen = c.in_ok-chosen.ensures.reads one other v1 w1 turns shown in
    c.in_ok-made.ensures.reads one other v2 w2 chosen.0 chosen.1 shown

pub returns-in_err-chosen-clause-adds : goal.returns-in_err-chosen-clause-adds
returns-in_err-chosen-clause-adds c = adds_fewer _ _ _ _ (omega arith) c.choose_asker.ensures.adds

pub returns-in_err-chosen-clause-full : goal.returns-in_err-chosen-clause-full
returns-in_err-chosen-clause-full c e = let full = c.choose_asker.ensures.full (handed_on _ _ _ _ c.in_err-chosen.was c.from_residual.ensures.1 e) in omega (arith, full)

pub returns-in_err-made-clause-adds : goal.returns-in_err-made-clause-adds
returns-in_err-made-clause-adds c = adds_fewer _ _ _ _ (omega arith) (adds_twice _ _ _ _ _ c.choose_asker.ensures.adds c.show_chosen.ensures.adds)

pub returns-in_err-made-clause-full : goal.returns-in_err-made-clause-full
returns-in_err-made-clause-full c e =
    let most0 = c.choose_asker.ensures.adds.most in
    let full = c.show_chosen.ensures.full (handed_on _ _ _ _ c.in_err-made.was c.from_residual-in_err-made.ensures.1 e) in
    omega (arith, most0, full)

pub returns-in_err-holder-clause-adds : goal.returns-in_err-holder-clause-adds
returns-in_err-holder-clause-adds c = adds_fewer _ _ _ _ (omega arith) (adds_twice _ _ _ _ _ (adds_twice _ _ _ _ _ c.choose_asker.ensures.adds c.show_chosen.ensures.adds) c.next_turn.ensures.adds)

pub returns-in_err-holder-clause-full : goal.returns-in_err-holder-clause-full
returns-in_err-holder-clause-full c e =
    let most0 = c.choose_asker.ensures.adds.most in
    let most1 = c.show_chosen.ensures.adds.most in
    let full = c.next_turn.ensures.full (handed_on _ _ _ _ c.in_err-holder.was c.from_residual-in_err-holder.ensures.1 e) in
    omega (arith, most0, most1, full)

pub returns-clause-adds : goal.returns-clause-adds
returns-clause-adds c = adds_fewer _ _ _ _ (omega arith) (adds_twice _ _ _ _ _ (adds_twice _ _ _ _ _ c.choose_asker.ensures.adds c.show_chosen.ensures.adds) c.next_turn.ensures.adds)

pub returns-clause-full : goal.returns-clause-full
returns-clause-full c e = cc

pub choose_asker-requires-clause-turns : goal.choose_asker-requires-clause-turns
choose_asker-requires-clause-turns c = c.requires.turns

pub choose_asker-requires-clause-commands : goal.choose_asker-requires-clause-commands
choose_asker-requires-clause-commands c = c.requires.commands

pub choose_asker-requires-clause-some : goal.choose_asker-requires-clause-some
choose_asker-requires-clause-some c = c.requires.some

pub choose_asker-requires-clause-few : goal.choose_asker-requires-clause-few
choose_asker-requires-clause-few c = c.requires.few

pub show_chosen-requires-clause-chosen : goal.show_chosen-requires-clause-chosen
show_chosen-requires-clause-chosen c = c.in_ok-chosen.ensures.nets

pub show_chosen-requires-clause-same : goal.show_chosen-requires-clause-same
show_chosen-requires-clause-same c = c.requires.same

pub show_chosen-requires-clause-few : goal.show_chosen-requires-clause-few
show_chosen-requires-clause-few c = c.requires.few

pub show_chosen-requires-clause-askers : goal.show_chosen-requires-clause-askers
show_chosen-requires-clause-askers c = c.requires.askers

pub show_chosen-requires-clause-alike : goal.show_chosen-requires-clause-alike
show_chosen-requires-clause-alike c = c.requires.alike

pub next_turn-requires-clause-spare : goal.next_turn-requires-clause-spare
next_turn-requires-clause-spare c = c.in_ok-made.ensures.spare
