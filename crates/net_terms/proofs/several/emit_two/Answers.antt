use Rattle.net_terms.proofs.several.emit_two.Goals as goal

pub returns-clause-values : goal.returns-clause-values
returns-clause-values g c cycle v =
    (c.in_ok-first.ensures.value cycle (c.emit-2.ensures.adds.grows.extends.valuations cycle v), c.in_ok-second.ensures.value cycle v)
