use Rattle.std.proofs.Common.{[], ◌++◌, codes, decimal, string_bytes, ap, ◌∙◌}
use Rattle.std.specs.Option.{option_map_or}
use Rattle.system_tables.specs.declared.tables.EndId.{EndId}
use Rattle.map_text.specs.Text.{end_name, stream_line, stream_line_of}
use Rattle.map_text.proofs.TextLemmas.{written_five, last_three}
use Rattle.map_text.proofs.put_stream.Goals as goal

pub put_end-requires : goal.put_end-requires
put_end-requires c = (_, c.requires.1.source)

pub put_end-requires-2 : goal.put_end-requires-2
put_end-requires-2 c = (_, c.requires.1.sink)

pub returns : goal.returns
returns c =
    let system = c.args.plan.now.system in
    let stream = c.args.stream.now in
    let link = c.requires.1 in
    let number = stream.connection in
    written_five (string_bytes c.args.text.now) (string_bytes c.push_str.new.self) (string_bytes c.put_end.new.text) (string_bytes c.push_str-2.new.self) (string_bytes c.put_end-2.new.text) (string_bytes c.write.new.self)
    (codes "stream ") (end_name system stream.source_end) (codes " to ") (end_name system stream.sink_end) (codes " connection " ++ decimal number ++ codes "\n") (stream_line system number)
    c.in_ok-push_str.ensures.bytes c.in_ok-put_end.ensures c.in_ok-push_str-2.ensures.bytes c.in_ok-put_end-2.ensures c.in_ok-write.ensures.bytes
    (ap (λ o. option_map_or (stream_line_of system number) o []) link.connection_is
    ∙ ap (λ (end : EndId). codes "stream " ++ end_name system end ++ codes " to " ++ end_name system link.connection.end ++ codes " connection " ++ decimal number ++ codes "\n") link.start
    ∙ ap (λ (end : EndId). codes "stream " ++ end_name system stream.source_end ++ codes " to " ++ end_name system end ++ codes " connection " ++ decimal number ++ codes "\n") link.end
    ∙ last_three (codes "stream ") (end_name system stream.source_end) (codes " to ") (end_name system stream.sink_end) (codes " connection ") (decimal number) (codes "\n"))
