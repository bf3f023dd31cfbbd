use Rattle.std.proofs.Common.{◌&&◌, if◌then◌else◌, ap, ◌∙◌, sym}
use Rattle.histories.specs.History.{is_raised}
use Rattle.command_nets.specs.Groups.{chosen_raised}
use Rattle.mm_host.proofs.host.give_response.Goals as goal

pub returns-in_ok-given-clause-value : goal.returns-in_ok-given-clause-value
returns-in_ok-given-clause-value c cycle v =
    let valid = cycle.net c.args.answer.now.valid.number in
    let code = cycle.net c.args.answer.now.code.number in
    c.in_ok-given.ensures.value cycle v ∙ chosen_raised valid code _
    ∙ ap (λ n. if is_raised valid then code else n) (c.in_ok-zeros.ensures.value cycle (c.choose.ensures.adds.grows.extends.valuations cycle v))
    ∙ ap (λ t. if t && is_raised valid then code else 0) (sym c.if-port.true)
