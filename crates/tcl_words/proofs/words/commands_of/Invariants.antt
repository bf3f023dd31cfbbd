use Rattle.std.proofs.Common.{◌≡◌, ◌+◌, ◌-◌, ◌≤◌, ◌==◌, length, take, drop, count_by}
use Rattle.std.specs.Prelude.{IsUtf8}
use Rattle.tcl_words.specs.Bytes.{line_feed}
use Rattle.tcl_words.specs.Reading.{commands_of, commands_from}
use Rattle.tcl_words.proofs.words.commands_of.Given as goal

abbrev pub invariant-pieces : goal.invariant-pieces
invariant-pieces l = record {
  within : l.at ≤ length l.bytes;
  counted : l.line ≡ 1 + count_by (λ byte. byte == line_feed) (take l.at l.bytes);
  utf8 : IsUtf8 (drop l.at l.bytes);
  reads : commands_from l.file 0 (take l.at l.bytes) l.lines l.words (drop l.at l.bytes) ≡ commands_of l.file l.bytes;
}

abbrev pub decreases-pieces : goal.decreases-pieces
decreases-pieces l = length l.bytes - l.at
