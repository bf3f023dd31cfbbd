use Rattle.std.proofs.Common.{◌≡◌, ◌+◌, ℕ, suc, sym, ap, ◌∙◌, arith}
use Rattle.std.specs.Prelude.{◌==◌}
use Rattle.stand_ins.specs.Sources.{Keeping, keeping_at, keeping_behind}
use Rattle.benches.specs.Streams.{is_answered}
use Rattle.benches.proofs.streams.Lines.{lines_same}
use Rattle.benches.proofs.streams.laws.streams_are_told.Goals as goal

pub returns-clause-lines : goal.returns-clause-lines
returns-clause-lines c = lines_same

pub returns-clause-keeping : goal.returns-clause-keeping
returns-clause-keeping c = λ source sink dropped sim stream statements soon seen is.
    let next : suc stream.cycle ≡ stream.cycle + 1 = omega arith in
    ap (λ (keeping : Keeping). keeping_behind keeping (is_answered stream sim)) is
    ∙ ap (λ (ready : ℕ). keeping_behind (keeping_at stream.source statements source stream.cycle) (ready == 1)) (sym seen.answered)
    ∙ c.sources_keep_enough.ensures.goes_on stream.source statements source stream.cycle soon ∙ ap (keeping_at stream.source statements source) next
