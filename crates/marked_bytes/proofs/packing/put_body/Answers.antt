use Rattle.std.proofs.Common.{◌-◌, ◌∷◌, length, get_or, false, sym, subst, arith}
use Rattle.marked_bytes.specs.Packing.{spelled_byte, Writes}
use Rattle.marked_bytes.proofs.Writing.{written_then, written_cut, written_with, body_is}
use Rattle.marked_bytes.proofs.packing.put_body.Goals as goal

pub returns-then-not-put_bytes : goal.returns-then-not-put_bytes
returns-then-not-put_bytes g c =
    let bytes = c.args.bytes.now in
    subst (λ t. Writes t (g.K.Sink.held c.args.sink.now) (g.K.Sink.held c.put_bytes.new.sink) (g.K.Sink.faults c.args.sink.now) (g.K.Sink.faults c.put_bytes.new.sink) false)
    (sym (body_is bytes (length bytes - 1) (omega arith)))
    (written_cut _ (0x7b ∷ spelled_byte (get_or bytes (length bytes - 1) 0)) _ _ _ _ (written_with _ _ _ _ _ _ _ c.if-not-put_bytes.true c.put_bytes.ensures))

pub returns : goal.returns
returns g c =
    let bytes = c.args.bytes.now in
    subst (λ t. Writes t (g.K.Sink.held c.args.sink.now) (g.K.Sink.held c.put_last.new.sink) (g.K.Sink.faults c.args.sink.now) (g.K.Sink.faults c.put_last.new.sink) c.put_last.result)
    (sym (body_is bytes (length bytes - 1) (omega arith)))
    (written_then _ _ _ _ _ _ _ _ _ (written_with _ _ _ _ _ _ _ c.if-not-put_bytes.false c.put_bytes.ensures) c.put_last.ensures)
