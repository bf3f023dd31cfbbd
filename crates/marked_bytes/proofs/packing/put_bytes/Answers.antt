use Rattle.std.proofs.Common.{◌≡◌, ◌+◌, ◌-◌, ◌≤◌, length, take, drop, get_or, true, false, ap, subst, ◌∙◌, arith}
use Rattle.std.specs.List.{prefix_len}
use Rattle.std.proofs.lemmas.List.{take_rest, take_all, length-drop}
use Rattle.marked_bytes.specs.Symbols.{is_plain}
use Rattle.marked_bytes.specs.Packing.{spelled_byte, spelled_bytes, Writes}
use Rattle.marked_bytes.proofs.Writing.{written_none, written_with, run_next, byte_next, more_written, some_written}
use Rattle.marked_bytes.proofs.packing.put_bytes.Goals as goal

pub bytes-init : goal.bytes-init
bytes-init g c = record { inside = omega arith; written = written_none (g.K.Sink.held c.args.sink.now) (g.K.Sink.faults c.args.sink.now) }

pub returns-then-not-put_byte : goal.returns-then-not-put_byte
returns-then-not-put_byte g c =
    let bytes = c.args.bytes.now in
    let d = c.bytes.done in
    some_written bytes (spelled_byte (get_or bytes d 0)) d 1 _ _ _ _ _ _ (byte_next bytes d c.bytes-test.true) c.bytes.invariant.written
    (written_with _ _ _ _ _ _ _ c.if-not-put_byte.true c.put_byte.ensures)

pub returns-then-not-put_all : goal.returns-then-not-put_all
returns-then-not-put_all g c =
    let bytes = c.args.bytes.now in
    let d = c.bytes.done in
    let n = c.plain_len-plain.result in
    let e : d + n - d ≡ n = omega arith in
    let run : n ≡ prefix_len is_plain (drop d bytes) = c.plain_len-plain.ensures.length ∙ ap (prefix_len is_plain) (take_rest bytes d) in
    some_written bytes (take n (drop d bytes)) d n _ _ _ _ _ _ (run_next bytes d n run) c.bytes.invariant.written
    (subst (λ k. Writes (take k (drop d bytes)) (g.K.Sink.held c.bytes.sink) (g.K.Sink.held c.put_all.new.sink) (g.K.Sink.faults c.bytes.sink) (g.K.Sink.faults c.put_all.new.sink) false) e
    (written_with _ _ _ _ _ c.put_all.result false c.if-not-put_all.true
    (record { all = c.put_all.ensures.all; part = c.put_all.ensures.part; rose = c.put_all.ensures.rose; grows = c.put_all.ensures.grows; below = c.put_all.ensures.below })))

pub bytes-preserved : goal.bytes-preserved
bytes-preserved g c =
    let bytes = c.args.bytes.now in
    let d = c.bytes.done in
    let n = c.plain_len-plain.result in
    let e : d + n - d ≡ n = omega arith in
    let run : n ≡ prefix_len is_plain (drop d bytes) = c.plain_len-plain.ensures.length ∙ ap (prefix_len is_plain) (take_rest bytes d) in
    let within : n ≤ length (drop d bytes) = subst (λ xs. n ≤ length xs) (take_rest bytes d) c.plain_len-plain.ensures.within in
    record {
      inside = omega (arith, length-drop d bytes);
      written = more_written bytes (take n (drop d bytes)) d n _ _ _ _ _ _ (run_next bytes d n run) c.bytes.invariant.written
          (subst (λ k. Writes (take k (drop d bytes)) (g.K.Sink.held c.bytes.sink) (g.K.Sink.held c.put_all.new.sink) (g.K.Sink.faults c.bytes.sink) (g.K.Sink.faults c.put_all.new.sink) true) e
          (written_with _ _ _ _ _ c.put_all.result true c.if-not-put_all.false
          (record { all = c.put_all.ensures.all; part = c.put_all.ensures.part; rose = c.put_all.ensures.rose; grows = c.put_all.ensures.grows; below = c.put_all.ensures.below })));
    }

pub returns : goal.returns
returns g c =
    let bytes = c.args.bytes.now in
    subst (λ xs. Writes (spelled_bytes xs) (g.K.Sink.held c.args.sink.now) (g.K.Sink.held c.bytes.sink) (g.K.Sink.faults c.args.sink.now) (g.K.Sink.faults c.bytes.sink) true)
    (take_all c.bytes.done bytes (omega arith)) c.bytes.invariant.written
