use Rattle.std.proofs.Common.{◌≡◌, drop}
use Rattle.std.specs.List.{list_all}
use Rattle.waves.specs.Words.{is_printable}
use Rattle.waves.proofs.line_words.are_printable.Given as goal

abbrev pub invariant-bytes : goal.invariant-bytes
invariant-bytes l = list_all is_printable l.line ≡ list_all is_printable (drop l.byte-index l.line)
