use Rattle.std.proofs.Common.{Bool, if◌then◌else◌, ap, ◌∙◌, arith}
use Rattle.command_nets.specs.Nets.{raw_in}
use Rattle.command_nets.specs.Groups.{hidden}
use Rattle.mm_arbiter.proofs.Same.{same_raw}
use Rattle.net_parts.specs.Laws.{net_lasts, adds_fewer, adds_twice}
use Rattle.net_parts.specs.Refusing.{handed_on}
use Rattle.mm_arbiter.proofs.rounds.show_chosen.Goals as goal

pub returns-clause-widths : goal.returns-clause-widths
returns-clause-widths c widths h = c.in_ok-command.ensures.widths ∙ c.in_ok-picked.ensures.widths widths h

pub returns-clause-shows : goal.returns-clause-shows
returns-clause-shows c cycle v2 k lt is =
    let v1 = c.shown_while.ensures.adds.grows.extends.valuations cycle v2 in
    let picked = c.in_ok-picked.picked in
    let seat = c.in_ok-picked.ensures.value cycle v1 k (omega arith) (omega arith) is in
    record {
      command = λ some. c.in_ok-command.ensures.value cycle v2 ∙ ap (λ (t : Bool). if t then raw_in cycle picked.command else hidden (raw_in cycle picked.command)) some ∙ seat.command;
      spare = seat.spare;
    }

pub returns-clause-reads : goal.returns-clause-reads
returns-clause-reads c one other v2 w2 seat some shown =
    let v1 = c.shown_while.ensures.adds.grows.extends.valuations one v2 in
    let w1 = c.shown_while.ensures.adds.grows.extends.valuations other w2 in
    let picked = c.in_ok-picked.ensures.reads one other v1 w1 seat shown in
    same_raw some picked (ap hidden picked) (c.in_ok-command.ensures.value one v2) (c.in_ok-command.ensures.value other w2)

pub returns-in_err-picked-clause-adds : goal.returns-in_err-picked-clause-adds
returns-in_err-picked-clause-adds c = adds_fewer _ _ _ _ (omega arith) c.pick_seat.ensures.adds

pub returns-in_err-picked-clause-full : goal.returns-in_err-picked-clause-full
returns-in_err-picked-clause-full c e = let full = c.pick_seat.ensures.full (handed_on _ _ _ _ c.in_err-picked.was c.from_residual.ensures.1 e) in omega (arith, full)

pub returns-in_err-command-clause-adds : goal.returns-in_err-command-clause-adds
returns-in_err-command-clause-adds c = adds_fewer _ _ _ _ (omega arith) (adds_twice _ _ _ _ _ c.pick_seat.ensures.adds c.shown_while.ensures.adds)

pub returns-in_err-command-clause-full : goal.returns-in_err-command-clause-full
returns-in_err-command-clause-full c e =
    let most0 = c.pick_seat.ensures.adds.most in
    let full = c.shown_while.ensures.full (handed_on _ _ _ _ c.in_err-command.was c.from_residual-in_err-command.ensures.1 e) in
    omega (arith, most0, full)

pub returns-clause-adds : goal.returns-clause-adds
returns-clause-adds c = adds_fewer _ _ _ _ (omega arith) (adds_twice _ _ _ _ _ c.pick_seat.ensures.adds c.shown_while.ensures.adds)

pub returns-clause-full : goal.returns-clause-full
returns-clause-full c e = cc

pub returns-clause-command : goal.returns-clause-command
returns-clause-command c = c.in_ok-command.ensures.command

pub returns-clause-spare : goal.returns-clause-spare
returns-clause-spare c = net_lasts _ _ _ _ c.shown_while.ensures.adds.grows.extends c.in_ok-picked.ensures.spare

pub pick_seat-requires-clause-bits : goal.pick_seat-requires-clause-bits
pick_seat-requires-clause-bits c = c.requires.chosen.seat

pub pick_seat-requires-clause-same : goal.pick_seat-requires-clause-same
pick_seat-requires-clause-same c = c.requires.same

pub pick_seat-requires-clause-few : goal.pick_seat-requires-clause-few
pick_seat-requires-clause-few c = c.requires.few

pub pick_seat-requires-clause-askers : goal.pick_seat-requires-clause-askers
pick_seat-requires-clause-askers c = c.requires.askers

pub pick_seat-requires-clause-commands : goal.pick_seat-requires-clause-commands
pick_seat-requires-clause-commands c = c.requires.commands

pub pick_seat-requires-clause-alike : goal.pick_seat-requires-clause-alike
pick_seat-requires-clause-alike c = c.requires.alike

pub shown_while-requires-clause-bit : goal.shown_while-requires-clause-bit
shown_while-requires-clause-bit c = net_lasts _ _ _ _ c.pick_seat.ensures.adds.grows.extends c.requires.chosen.some

pub shown_while-requires-clause-command : goal.shown_while-requires-clause-command
shown_while-requires-clause-command c = c.in_ok-picked.ensures.command
