use Rattle.std.proofs.Common.{false, [], ◌∷◌, subst, append_assoc}
use Rattle.marked_bytes.specs.Packing.{spelled_byte, body, Writes}
use Rattle.marked_bytes.proofs.Writing.{written_then, written_cut, written_with}
use Rattle.marked_bytes.proofs.packing.pack.Goals as goal

pub returns-then-not-put_header : goal.returns-then-not-put_header
returns-then-not-put_header g c =
    subst (λ t. Writes t (g.K.Sink.held c.args.sink.now) (g.K.Sink.held c.put_header.new.sink) (g.K.Sink.faults c.args.sink.now) (g.K.Sink.faults c.put_header.new.sink) false)
    (append_assoc (0x7c ∷ spelled_byte c.args.channel) (0x7a ∷ []) (body c.args.bytes.now))
    (written_cut _ (body c.args.bytes.now) _ _ _ _ (written_with _ _ _ _ _ _ _ c.if-not-put_header.true c.put_header.ensures))

pub returns : goal.returns
returns g c =
    subst (λ t. Writes t (g.K.Sink.held c.args.sink.now) (g.K.Sink.held c.put_body.new.sink) (g.K.Sink.faults c.args.sink.now) (g.K.Sink.faults c.put_body.new.sink) c.put_body.result)
    (append_assoc (0x7c ∷ spelled_byte c.args.channel) (0x7a ∷ []) (body c.args.bytes.now))
    (written_then _ _ _ _ _ _ _ _ _ (written_with _ _ _ _ _ _ _ c.if-not-put_header.false c.put_header.ensures) c.put_body.ensures)
