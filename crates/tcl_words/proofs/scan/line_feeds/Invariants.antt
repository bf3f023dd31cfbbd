use Rattle.std.proofs.Common.{◌≡◌, ◌≤◌, ◌==◌, take, count_by}
use Rattle.tcl_words.specs.Bytes.{line_feed}
use Rattle.tcl_words.proofs.scan.line_feeds.Given as goal

abbrev pub invariant-feeds : goal.invariant-feeds
invariant-feeds l = (l.count ≡ count_by (λ byte. byte == line_feed) (take l.byte-index l.bytes)) × (l.count ≤ l.byte-index)
