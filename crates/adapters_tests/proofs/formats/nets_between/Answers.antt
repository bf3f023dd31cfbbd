use Rattle.std.proofs.Common.{◌≡◌, ◌*◌, refl, ◌∙◌, arith}
use Rattle.adapters_tests.proofs.formats.nets_between.Goals as goal

pub nets_of-requires-clause-takes : goal.nets_of-requires-clause-takes
nets_of-requires-clause-takes c widths word empty =
    let bits = c.requires.bits in
    let symbols = c.requires.symbols in
    let all : 32 ≡ c.args.source.now.symbol_bits * c.args.source.now.symbols = rw (bits, symbols) refl in
    let takes = c.format_of.ensures.widths widths (word ∙ all) (omega (arith, empty)) in
    (takes.front, takes.back)
