use Rattle.net_terms.proofs.several.emit_three.Goals as goal

pub returns-clause-values : goal.returns-clause-values
returns-clause-values g c cycle v =
    let two = c.in_ok-first.ensures.values cycle (c.emit.ensures.adds.grows.extends.valuations cycle v) in
    (two.0, two.1, c.in_ok-third.ensures.value cycle v)
