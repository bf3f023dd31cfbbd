use Rattle.std.proofs.Common.{◌≡◌, ◌-◌, arith, ap, ◌∙◌, slice_index}
use Rattle.stand_ins.specs.Contents.{number_of}
use Rattle.stand_ins.specs.Memory.{MemoryValue}
use Rattle.stand_ins.proofs.Bytes.{highest_more, byte_more, room_for_byte, word_is}
use Rattle.stand_ins.proofs.memory.Memory.word.Goals as goal

pub overflow_mul-word : goal.overflow_mul-word
overflow_mul-word c = omega (arith, room_for_byte c.lanes.word c.lanes.k c.lanes.invariant.small (omega arith))

pub overflow_add-word : goal.overflow_add-word
overflow_add-word c = omega (arith, room_for_byte c.lanes.word c.lanes.k c.lanes.invariant.small (omega arith))

pub lanes-preserved : goal.lanes-preserved
lanes-preserved c =
    let same : c.self.inside.word_bytes ≡ c.args.self.now.word_bytes = ap (λ (m : MemoryValue). m.word_bytes) c.self.view_is in
    record {
      highest = highest_more (slice_index c.bytes-bytes.result) c.args.self.now.word_bytes c.lanes.k c.lanes.word c.from.result (omega arith) c.lanes.invariant.highest
          (c.from.ensures ∙ ap (λ n. slice_index c.bytes-bytes.result (n - 1 - c.lanes.k)) same);
      small = byte_more c.lanes.word c.lanes.k c.from.result c.lanes.invariant.small (omega arith);
    }

pub returns : goal.returns
returns c =
    let same : c.self.inside.word_bytes ≡ c.args.self.now.word_bytes = ap (λ (m : MemoryValue). m.word_bytes) c.self.view_is in
    let all : c.lanes.k ≡ c.args.self.now.word_bytes = omega arith in
    let none : c.args.self.now.word_bytes - c.lanes.k ≡ 0 = omega arith in
    c.lanes.invariant.highest
    ∙ ap (λ from. number_of (slice_index c.bytes-bytes.result) from c.lanes.k) none
    ∙ ap (λ count. number_of (slice_index c.bytes-bytes.result) 0 count) all
    ∙ ap (λ bytes. number_of (slice_index bytes) 0 c.args.self.now.word_bytes) c.bytes-bytes.ensures
    ∙ word_is c.args.self.now c.args.number
