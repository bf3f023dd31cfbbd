use Rattle.std.proofs.Common.{◌≡◌, ◌||◌, Bool, if◌then◌else◌, ap, ◌∙◌, arith}
use Rattle.histories.specs.History.{is_raised}
use Rattle.netlist.specs.Runs.{Always}
use Rattle.net_parts.specs.Bits.{of_chosen}
use Rattle.net_parts.specs.Laws.{if_ok, adds_fewer, adds_twice}
use Rattle.command_nets.specs.Groups.{chosen_raised}
use Rattle.net_parts.specs.Nets.{IsBit}
use Rattle.net_parts.specs.Refusing.{handed_on}
use Rattle.mm_arbiter.proofs.next.next_inside.Goals as goal

pub returns-clause-value : goal.returns-clause-value
returns-clause-value c =
    let round = c.args.round.now in
    let command = c.args.command.now in
    if_ok c.choose.result _ (λ inside. Always c.choose.new.builder (λ cycle. is_raised (cycle.net inside.number) ≡ (if is_raised (cycle.net round.chosen.some.number)
    then is_raised (cycle.net c.args.wait.number) || is_raised (cycle.net command.more.number) else is_raised (cycle.net round.turns.inside.number))))
    (λ inside value cycle v2. (
    let v1 = c.choose.ensures.adds.grows.extends.valuations cycle v2 in
    ap is_raised (value cycle v2 ∙ chosen_raised (cycle.net round.chosen.some.number) _ _) ∙ of_chosen is_raised (is_raised (cycle.net round.chosen.some.number)) _ _
    ∙ ap (λ (t : Bool). if is_raised (cycle.net round.chosen.some.number) then t else is_raised (cycle.net round.turns.inside.number)) (c.in_ok-stands.ensures.value cycle v1)))
    c.choose.ensures.value

pub returns-in_err-stands-clause-adds : goal.returns-in_err-stands-clause-adds
returns-in_err-stands-clause-adds c = adds_fewer _ _ _ _ (omega arith) c.stays_open.ensures.adds

pub returns-in_err-stands-clause-full : goal.returns-in_err-stands-clause-full
returns-in_err-stands-clause-full c e = let full = c.stays_open.ensures.full (handed_on _ _ _ _ c.in_err-stands.was c.from_residual.ensures.1 e) in omega (arith, full)

pub returns-clause-adds : goal.returns-clause-adds
returns-clause-adds c = adds_fewer _ _ _ _ (omega arith) (adds_twice _ _ _ _ _ c.stays_open.ensures.adds c.choose.ensures.adds)

pub returns-clause-full : goal.returns-clause-full
returns-clause-full c e =
    let most0 = c.stays_open.ensures.adds.most in
    let full = c.choose.ensures.full e in
    omega (arith, most0, full)

pub returns-clause-net : goal.returns-clause-net
returns-clause-net c = if_ok c.choose.result _ (IsBit c.choose.new.builder) (λ inside net. record { is_net = net.is_net; has_width = net.has_width ∙ c.in_ok-stands.ensures.net.has_width }) c.choose.ensures.net

pub stays_open-requires-clause-command : goal.stays_open-requires-clause-command
stays_open-requires-clause-command c = c.requires.command

pub stays_open-requires-clause-wait : goal.stays_open-requires-clause-wait
stays_open-requires-clause-wait c = c.requires.wait

pub choose-requires-clause-one : goal.choose-requires-clause-one
choose-requires-clause-one c = c.in_ok-stands.ensures.net.is_net
