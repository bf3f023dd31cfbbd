use Rattle.std.proofs.Common.{ℕ, List, ◌++◌, slice_get, string_bytes, ap, sym, ◌∙◌}
use Rattle.std.specs.List.{flat_map}
use Rattle.std.proofs.lemmas.List.{take_all}
use Rattle.std.proofs.lemmas.Option.{slice_get-get_or}
use Rattle.link_rules.specs.declared.plan_connections.StreamConnection.{StreamConnection}
use Rattle.link_rules.specs.Links.{streams_of}
use Rattle.link_rules.specs.PlanConnections.{stream_connections}
use Rattle.map_text.specs.Text.{stream_line}
use Rattle.map_text.proofs.TextLemmas.{flat_numbers}
use Rattle.map_text.proofs.put_streams.Goals as goal

pub put_stream-requires : goal.put_stream-requires
put_stream-requires c =
    let k = c.loop-stream.stream-index in
    let links = c.stream_connections-stream-items.result.now in
    let at = slice_get-get_or links k _ c.loop-stream-test.true in
    (k, c.streams_are_numbered.ensures.links c.args.plan.now.system c.well_made.ensures.system k _ (ap (λ (l : List StreamConnection). slice_get l k) (sym c.stream_connections-stream-items.ensures) ∙ at))

pub returns : goal.returns
returns c =
    let system = c.args.plan.now.system in
    let links = c.stream_connections-stream-items.result.now in
    let all = take_all c.loop-stream.stream-index links c.loop-stream-test.false ∙ c.stream_connections-stream-items.ensures in
    let numbers = c.streams_are_numbered.ensures.numbers system c.well_made.ensures.system in
    let lines = flat_numbers (stream_line system) (λ (stream : StreamConnection). stream.connection) (stream_connections system) (streams_of system) numbers in
    c.loop-stream.invariant
    ∙ ap (λ (l : List StreamConnection). string_bytes c.args.text.now ++ flat_map (λ stream. stream_line system stream.connection) l) all
    ∙ ap (λ (t : List ℕ). string_bytes c.args.text.now ++ t) lines
