use Rattle.std.proofs.Common.{sym, if◌then◌else◌, ap, ap₂, ◌∙◌, arith}
use Rattle.memory_machines.specs.Machines.{Raw}
use Rattle.net_parts.specs.Laws.{net_lasts, extends_twice, adds_twice, adds_fewer}
use Rattle.command_nets.specs.Nets.{raw_in}
use Rattle.command_nets.specs.Groups.{hidden, command_lasts}
use Rattle.net_parts.specs.Refusing.{handed_on}
use Rattle.link_core.proofs.stage.next_places.Goals as goal

pub stands_on-requires-clause-first : goal.stands_on-requires-clause-first
stands_on-requires-clause-first c = command_lasts _ _ _ c.shown.ensures.adds.grows.extends c.requires.first

pub returns-in_err-stands-clause-adds : goal.returns-in_err-stands-clause-adds
returns-in_err-stands-clause-adds c = adds_fewer _ _ _ _ (omega arith) (adds_twice _ _ _ _ _ c.shown.ensures.adds c.stands_on.ensures.adds)

pub choose_command-requires-clause-one : goal.choose_command-requires-clause-one
choose_command-requires-clause-one c = command_lasts _ _ _ (extends_twice _ _ _ c.shown.ensures.adds.grows.extends c.stands_on.ensures.adds.grows.extends) c.requires.second

pub choose_command-requires-clause-other : goal.choose_command-requires-clause-other
choose_command-requires-clause-other c = command_lasts _ _ _ (extends_twice _ _ _ c.shown.ensures.adds.grows.extends c.stands_on.ensures.adds.grows.extends) c.requires.from

pub returns-in_err-coming-clause-adds : goal.returns-in_err-coming-clause-adds
returns-in_err-coming-clause-adds c = adds_fewer _ _ _ _ (omega arith) (adds_twice _ _ _ _ _ (adds_twice _ _ _ _ _ c.shown.ensures.adds c.stands_on.ensures.adds) c.choose_command.ensures.adds)

pub choose_command-requires-2-clause-one : goal.choose_command-requires-2-clause-one
choose_command-requires-2-clause-one c =
    command_lasts _ _ _ (extends_twice _ _ _ c.shown.ensures.adds.grows.extends (extends_twice _ _ _ c.stands_on.ensures.adds.grows.extends c.choose_command.ensures.adds.grows.extends)) c.requires.first

pub choose_command-requires-2-clause-widths : goal.choose_command-requires-2-clause-widths
choose_command-requires-2-clause-widths c =
    c.requires.first_widths ∙ sym c.requires.second_widths ∙ sym c.in_ok-coming.ensures.widths

pub returns-in_err-first-clause-adds : goal.returns-in_err-first-clause-adds
returns-in_err-first-clause-adds c =
    adds_fewer _ _ _ _ (omega arith) (adds_twice _ _ _ _ _ (adds_twice _ _ _ _ _ (adds_twice _ _ _ _ _ c.shown.ensures.adds c.stands_on.ensures.adds) c.choose_command.ensures.adds) c.choose_command-2.ensures.adds)

pub shown_while-requires-clause-bit : goal.shown_while-requires-clause-bit
shown_while-requires-clause-bit c = net_lasts _ _ _ _ (extends_twice _ _ _ c.choose_command.ensures.adds.grows.extends c.choose_command-2.ensures.adds.grows.extends) c.in_ok-stands.ensures.net

pub shown_while-requires-clause-command : goal.shown_while-requires-clause-command
shown_while-requires-clause-command c = command_lasts _ _ _ c.choose_command-2.ensures.adds.grows.extends c.in_ok-coming.ensures.command

pub returns-in_err-second-clause-adds : goal.returns-in_err-second-clause-adds
returns-in_err-second-clause-adds c =
    adds_twice _ _ _ _ _ (adds_twice _ _ _ _ _ (adds_twice _ _ _ _ _ (adds_twice _ _ _ _ _ c.shown.ensures.adds c.stands_on.ensures.adds) c.choose_command.ensures.adds) c.choose_command-2.ensures.adds) c.shown_while.ensures.adds

pub returns-clause-adds : goal.returns-clause-adds
returns-clause-adds c =
    adds_twice _ _ _ _ _ (adds_twice _ _ _ _ _ (adds_twice _ _ _ _ _ (adds_twice _ _ _ _ _ c.shown.ensures.adds c.stands_on.ensures.adds) c.choose_command.ensures.adds) c.choose_command-2.ensures.adds) c.shown_while.ensures.adds

pub returns-clause-full_net : goal.returns-clause-full_net
returns-clause-full_net c =
    net_lasts _ _ _ _ (extends_twice _ _ _ c.stands_on.ensures.adds.grows.extends (extends_twice _ _ _ c.choose_command.ensures.adds.grows.extends (extends_twice _ _ _ c.choose_command-2.ensures.adds.grows.extends c.shown_while.ensures.adds.grows.extends))) c.in_ok-full.ensures.net

pub returns-clause-first_nets : goal.returns-clause-first_nets
returns-clause-first_nets c = command_lasts _ _ _ c.shown_while.ensures.adds.grows.extends c.in_ok-first.ensures.command

pub returns-clause-first_same : goal.returns-clause-first_same
returns-clause-first_same c = sym c.in_ok-first.ensures.widths

pub returns-clause-second_same : goal.returns-clause-second_same
returns-clause-second_same c = sym c.in_ok-coming.ensures.widths ∙ sym c.in_ok-second.ensures.widths

pub returns-clause-is_full : goal.returns-clause-is_full
returns-clause-is_full c cycle v5 =
    let v4 = c.shown_while.ensures.adds.grows.extends.valuations cycle v5 in
    let v3 = c.choose_command-2.ensures.adds.grows.extends.valuations cycle v4 in
    let v2 = c.choose_command.ensures.adds.grows.extends.valuations cycle v3 in
    let v1 = c.stands_on.ensures.adds.grows.extends.valuations cycle v2 in
    c.in_ok-full.ensures.value cycle v1

pub returns-clause-first_next : goal.returns-clause-first_next
returns-clause-first_next c cycle v5 =
    let v4 = c.shown_while.ensures.adds.grows.extends.valuations cycle v5 in
    let v3 = c.choose_command-2.ensures.adds.grows.extends.valuations cycle v4 in
    let v2 = c.choose_command.ensures.adds.grows.extends.valuations cycle v3 in
    let v1 = c.stands_on.ensures.adds.grows.extends.valuations cycle v2 in
    let coming = c.in_ok-coming.ensures.value cycle v3 ∙ ap (λ t. if t then raw_in cycle c.args.kept.now.second else raw_in cycle c.args.kept.now.from) (c.in_ok-full.ensures.value cycle v1) in
    c.in_ok-first.ensures.value cycle v4 ∙ ap₂ (λ t r. if t then raw_in cycle c.args.kept.now.first else r) (c.in_ok-stands.ensures.value cycle v2) coming

pub returns-clause-second_next : goal.returns-clause-second_next
returns-clause-second_next c cycle v5 =
    let v4 = c.shown_while.ensures.adds.grows.extends.valuations cycle v5 in
    let v3 = c.choose_command-2.ensures.adds.grows.extends.valuations cycle v4 in
    let v2 = c.choose_command.ensures.adds.grows.extends.valuations cycle v3 in
    let v1 = c.stands_on.ensures.adds.grows.extends.valuations cycle v2 in
    let coming = c.in_ok-coming.ensures.value cycle v3 ∙ ap (λ t. if t then raw_in cycle c.args.kept.now.second else raw_in cycle c.args.kept.now.from) (c.in_ok-full.ensures.value cycle v1) in
    c.in_ok-second.ensures.value cycle v5 ∙ ap₂ (λ t (r : Raw). if t then r else hidden r) (c.in_ok-stands.ensures.value cycle v2) coming

pub returns-in_err-full-clause-adds : goal.returns-in_err-full-clause-adds
returns-in_err-full-clause-adds c = adds_fewer _ _ _ _ (omega arith) c.shown.ensures.adds

pub returns-in_err-full-clause-full : goal.returns-in_err-full-clause-full
returns-in_err-full-clause-full c e = let full = c.shown.ensures.full (handed_on _ _ _ _ c.in_err-full.was c.from_residual.ensures.1 e) in omega (arith, full)

pub returns-in_err-stands-clause-full : goal.returns-in_err-stands-clause-full
returns-in_err-stands-clause-full c e =
    let most0 = c.shown.ensures.adds.most in
    let full = c.stands_on.ensures.full (handed_on _ _ _ _ c.in_err-stands.was c.from_residual-in_err-stands.ensures.1 e) in
    omega (arith, most0, full)

pub returns-in_err-coming-clause-full : goal.returns-in_err-coming-clause-full
returns-in_err-coming-clause-full c e =
    let most0 = c.shown.ensures.adds.most in
    let most1 = c.stands_on.ensures.adds.most in
    let full = c.choose_command.ensures.full (handed_on _ _ _ _ c.in_err-coming.was c.from_residual-in_err-coming.ensures.1 e) in
    omega (arith, most0, most1, full)

pub returns-in_err-first-clause-full : goal.returns-in_err-first-clause-full
returns-in_err-first-clause-full c e =
    let most0 = c.shown.ensures.adds.most in
    let most1 = c.stands_on.ensures.adds.most in
    let most2 = c.choose_command.ensures.adds.most in
    let full = c.choose_command-2.ensures.full (handed_on _ _ _ _ c.in_err-first.was c.from_residual-in_err-first.ensures.1 e) in
    omega (arith, most0, most1, most2, full)

pub returns-in_err-second-clause-full : goal.returns-in_err-second-clause-full
returns-in_err-second-clause-full c e =
    let most0 = c.shown.ensures.adds.most in
    let most1 = c.stands_on.ensures.adds.most in
    let most2 = c.choose_command.ensures.adds.most in
    let most3 = c.choose_command-2.ensures.adds.most in
    let full = c.shown_while.ensures.full (handed_on _ _ _ _ c.in_err-second.was c.from_residual-in_err-second.ensures.1 e) in
    omega (arith, most0, most1, most2, most3, full)

pub returns-clause-full : goal.returns-clause-full
returns-clause-full c e = cc

pub returns-clause-second_nets : goal.returns-clause-second_nets
returns-clause-second_nets c = c.in_ok-second.ensures.command

pub shown-requires : goal.shown-requires
shown-requires c = c.requires.second

pub stands_on-requires-clause-wait : goal.stands_on-requires-clause-wait
stands_on-requires-clause-wait c = net_lasts _ _ _ _ c.shown.ensures.adds.grows.extends c.requires.wait

pub choose_command-requires-clause-bit : goal.choose_command-requires-clause-bit
choose_command-requires-clause-bit c = net_lasts _ _ _ _ c.stands_on.ensures.adds.grows.extends c.in_ok-full.ensures.net

pub choose_command-requires-2-clause-other : goal.choose_command-requires-2-clause-other
choose_command-requires-2-clause-other c = c.in_ok-coming.ensures.command
