use Rattle.std.proofs.Common.{◌≡◌, ◌++◌, take, string_bytes}
use Rattle.std.specs.List.{flat_map}
use Rattle.map_text.specs.Text.{stream_line}
use Rattle.map_text.proofs.put_streams.Given as goal

abbrev pub invariant-loop-stream : goal.invariant-loop-stream
invariant-loop-stream l = string_bytes l.text ≡ string_bytes l.fn.text ++ flat_map (λ stream. stream_line l.plan.system stream.connection) (take l.stream-index l.stream-items)
