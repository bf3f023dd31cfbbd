use Rattle.std.proofs.Common.{◌≡◌, ◌∙◌, ◌++◌, ap, map, ℕ, List, arith}
use Rattle.workload_systems.specs.Texts.{text_of}
use Rattle.workload_systems.specs.Systems.{below, stream_line}
use Rattle.workload_systems.proofs.Writing.{none_yet, one_more}
use Rattle.workload_systems.proofs.systems.put_stream_connections.Goals as goal

pub streams-init : goal.streams-init
streams-init c = none_yet _ stream_line

pub streams-preserved : goal.streams-preserved
streams-preserved c = one_more _ stream_line c.streams.k _ _ c.streams.invariant c.in_ok-put_stream_connection.ensures

pub returns : goal.returns
returns c =
    let all : c.streams.k ≡ c.args.streams = omega arith in
    let P : ℕ → List ℕ = λ count. c.args.text.now ++ text_of (map stream_line (below count)) in
    c.streams.invariant ∙ ap P all
