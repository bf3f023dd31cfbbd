use Rattle.std.proofs.Common.{◌/◌, ◌%◌, ◌*◌, ◌+◌, ap, sym, ◌∙◌}
use Rattle.iface_roles.specs.Proper.{span_of}
use Rattle.stand_ins.proofs.PlaceLemmas.{some_bytes, some_span, whole_span, place_is}
use Rattle.stand_ins.proofs.places.word_number.Goals as goal

pub returns-clause-places : goal.returns-clause-places
returns-clause-places c = λ lane inside.
    let port = c.args.port.now in
    place_is c.args.address (span_of port) port.word_bytes lane (some_bytes port.word_bytes c.requires.bounded.ports.word) (some_span port c.requires.bounded) (whole_span port c.requires.bounded) c.requires.whole inside
    ∙ ap (λ s. c.args.address % s / port.word_bytes * port.word_bytes + lane) (sym c.span.ensures.value)
    ∙ ap (λ n. c.args.address % c.span.result / n * port.word_bytes + lane) (sym c.from.ensures)
