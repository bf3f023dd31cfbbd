use Rattle.std.proofs.Common.{◌≡◌, ◌-◌, ◌%◌, ◌^◌, ◌∙◌, arith}
use Rattle.netlist.specs.Runs.{Always}
use Rattle.net_parts.specs.Laws.{if_ok, net_fits}
use Rattle.net_parts.specs.Fitting.{fits_more}
use Rattle.mm_burst.proofs.addresses.start_of.Goals as goal

pub returns-clause-value : goal.returns-clause-value
returns-clause-value c =
    if_ok c.fit_bits.result _ (λ made. Always c.fit_bits.new.builder (λ cycle. cycle.net made.number ≡ cycle.net c.args.address.number - cycle.net c.args.address.number % 2 ^ c.args.lanes))
    (λ made value cycle v. (
    let v0 = c.fit_bits.ensures.adds.grows.extends.valuations cycle v in
    let net = c.in_ok-aligned.ensures.net in
    let width = net.has_width in
    let wider = c.requires.wider in
    value cycle v ∙ fits_more (cycle.net c.in_ok-aligned.aligned.number) c.in_ok-aligned.aligned.width c.args.wanted (net_fits _ _ net.is_net cycle v0) (omega (arith, width, wider)) ∙ c.in_ok-aligned.ensures.value cycle v0))
    c.fit_bits.ensures.value
