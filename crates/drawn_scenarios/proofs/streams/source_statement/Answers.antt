use Rattle.std.proofs.Common.{ap, ◌∙◌, ℕ}
use Rattle.drawn_scenarios.specs.Draws.{word_of}
use Rattle.drawn_scenarios.proofs.StreamLemmas.{beat_drawn}
use Rattle.drawn_scenarios.proofs.streams.source_statement.Goals as goal

pub returns : goal.returns
returns c =
    let source = c.args.source.now in
    let P : ℕ → ℕ × ℕ = λ bound. word_of source.first_high source.symbol_bits bound source.symbols c.args.generator.now in
    beat_drawn source _ _ _ _ _ (c.word-word.ensures.drawn ∙ ap P c.symbol_bound-bound.ensures) c.channel.ensures
