use Rattle.std.proofs.Common.{◌≡◌, ◌-◌, ◌++◌, ◌∙◌}
use Rattle.std.specs.Prelude.{string_bytes}
use Rattle.packet_bytes.specs.Commands.{lanes_text}
use Rattle.packet_bytes.proofs.Lanes.{lanes_text_more, on_ok}
use Rattle.packet_bytes.proofs.commands.+put_lanes.Goals as goal

pub returns : goal.returns
returns t c =
    let word_bytes = c.args.command.now.word_bytes in
    let bytes = c.args.command.now.bytes.now in
    let word = c.args.command.now.word in
    on_ok c.put_lanes.result
    (string_bytes c.put_lanes.new.text ≡ string_bytes c.put_hex.new.text ++ lanes_text word_bytes bytes word (c.args.lanes - 1))
    (string_bytes c.put_lanes.new.text ≡ string_bytes c.args.text.now ++ lanes_text word_bytes bytes word c.args.lanes)
    (lanes_text_more (string_bytes c.args.text.now) (string_bytes c.put_hex.new.text) (string_bytes c.put_lanes.new.text) c.from.result word_bytes bytes word c.args.lanes c.if-lanes-eq0.false
    c.in_ok-put_hex.ensures (c.from.ensures ∙ c.lane_byte.ensures))
    c.put_lanes.ensures
