use Rattle.std.proofs.Common.{ap, ◌∙◌}
use Rattle.packet_bytes.specs.Gathering.{with_byte, held_by, data_place}
use Rattle.packet_bytes.proofs.Reading.{byte_read}
use Rattle.packet_bytes.proofs.packets.Reader.feed.Goals as goal

pub returns-in_ok-add-in-Byte-clause-read : goal.returns-in_ok-add-in-Byte-clause-read
returns-in_ok-add-in-Byte-clause-read c = λ fed n h.
    byte_read fed c.args.self.now (record { unpacker = c.feed.new.self; gathering = c.add.new.self }) c.args.place c.args.byte c.in-Byte.given n h (c.in-Byte.ensures.follows fed h.items h.read)
    (c.in_ok-add-in-Byte.ensures
    ∙ ap (λ p. with_byte (held_by c.args.self.now.gathering) (record { byte = c.in-Byte.given; place = p })) (c.data_place.ensures ∙ ap (data_place c.args.place) c.is_escaping-escaped.ensures))
