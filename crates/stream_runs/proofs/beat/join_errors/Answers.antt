use Rattle.std.proofs.Common.{◌∙◌, ap, sym}
use Rattle.std.specs.List.{fold}
use Rattle.std.specs.Int.Bits.{bit_or}
use Rattle.stream_runs.proofs.beat.join_errors.Goals as goal
use Rattle.stream_runs.proofs.ErrorLemmas.{joined_is}

pub returns : goal.returns
returns c symbols same = c.fold_errors.ensures ∙ sym (joined_is symbols ∙ ap (fold bit_or 0) same)
