use Rattle.std.proofs.Common.{◌≡◌, ◌++◌}
use Rattle.std.specs.Prelude.{string_bytes}
use Rattle.packet_bytes.specs.Commands.{statements_below}
use Rattle.packet_bytes.proofs.commands.put_statements.Given as goal

abbrev pub invariant-words : goal.invariant-words
invariant-words l = string_bytes l.text ≡ string_bytes l.initial.text ++ statements_below l.host l.word_bytes l.code l.bytes l.word
