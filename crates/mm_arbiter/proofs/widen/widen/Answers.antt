use Rattle.std.proofs.Common.{◌≡◌, ◌∙◌, arith}
use Rattle.netlist.specs.Runs.{Always}
use Rattle.net_parts.specs.Fitting.{fits_more}
use Rattle.net_parts.specs.Laws.{if_ok, net_fits, adds_fewer}
use Rattle.mm_arbiter.proofs.Wider.{few_fitted}
use Rattle.mm_arbiter.proofs.widen.widen.Goals as goal

pub returns-clause-value : goal.returns-clause-value
returns-clause-value c =
    if_ok c.fit_bits.result _ (λ made. Always c.fit_bits.new.builder (λ cycle. cycle.net made.number ≡ cycle.net c.args.net.number))
    (λ made value cycle v. value cycle v ∙ fits_more (cycle.net c.args.net.number) c.args.net.width c.args.wanted (net_fits _ _ c.requires.net cycle (c.fit_bits.ensures.adds.grows.extends.valuations cycle v)) c.requires.wider)
    c.fit_bits.ensures.value

pub returns-clause-adds : goal.returns-clause-adds
returns-clause-adds c = adds_fewer _ 2 _ _ (few_fitted _ _) c.fit_bits.ensures.adds

pub returns-clause-full : goal.returns-clause-full
returns-clause-full c e = let full = c.fit_bits.ensures.full e in let few = few_fitted c.width-bits.result c.args.wanted in omega (arith, full, few)

pub returns-clause-net : goal.returns-clause-net
returns-clause-net c = c.fit_bits.ensures.net

pub fit_bits-requires-clause-few : goal.fit_bits-requires-clause-few
fit_bits-requires-clause-few c = c.requires.few
