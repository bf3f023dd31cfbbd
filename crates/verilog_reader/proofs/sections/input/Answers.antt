use Rattle.std.proofs.Common.{length, sym, ◌∙◌}
use Rattle.verilog_forms.specs.InputLines.{input_form}
use Rattle.verilog_reader.proofs.SectionSteps.{no_room_found, room_found}
use Rattle.verilog_reader.proofs.sections.input.Goals as goal

pub returns-then-has_no_room-clause-read : goal.returns-then-has_no_room-clause-read
returns-then-has_no_room-clause-read c =
    no_room_found (length c.args.lines.now) (input_form (length c.args.lines.now) c.args.number c.args.port.now) c.args.bytes.now c.args.spot _ c.refuse.result (sym c.has_no_room.ensures ∙ c.if-has_no_room.true) c.refuse.ensures

pub returns-else-has_no_room-clause-read : goal.returns-else-has_no_room-clause-read
returns-else-has_no_room-clause-read c =
    room_found (length c.args.lines.now) (input_form (length c.args.lines.now) c.args.number c.args.port.now) c.args.bytes.now c.args.spot (sym c.has_no_room.ensures ∙ c.if-has_no_room.false) ∙ c.input_line.ensures.read
