use Rattle.std.proofs.Common.{◌+◌, List, [], ◌∷◌, ◌++◌, get_or, length-set, slice_set, take, sym, subst, arith}
use Rattle.std.proofs.lemmas.List.{take_all, take_more, take_more_set}
use Rattle.netlist.specs.Nets.{NetValue, MemValue}
use Rattle.net_parts.specs.Groups.{nets_last}
use Rattle.item_queues.specs.Memories.{InMems, mems_in_row}
use Rattle.item_queues.proofs.Written.{MemsMade, mems_more, mems_grow, net_at}
use Rattle.item_queues.proofs.memories.make_memories.Goals as goal

pub make_memory-requires-in-loop-k-clause-like : goal.make_memory-requires-in-loop-k-clause-like
make_memory-requires-in-loop-k-clause-like g c = net_at c.loop-k.builder c.args.like.now c.loop-k.k c.index-like-k.result (omega arith) (nets_last _ _ _ c.loop-k.invariant.0.extends c.requires.like)

pub returns-in_err-made-clause-grows : goal.returns-in_err-made-clause-grows
returns-in_err-made-clause-grows g c = mems_grow _ _ _ _ _ _ _ _ c.loop-k.invariant.0 c.make_memory-in-loop-k.ensures.grows (omega arith)

pub loop-k-preserved : goal.loop-k-preserved
loop-k-preserved g c =
    let x = get_or c.args.like.now c.loop-k.k c.index-like-k.result in (
      subst (λ (group : List NetValue). MemsMade c.args.builder.now c.make_memory-in-loop-k.new.builder c.args.address_bits group (take (c.loop-k.k + 1) (slice_set c.loop-k.made c.loop-k.k c.in_ok-made.field-0)) (c.loop-k.k + 1)) (sym (take_more c.args.like.now c.loop-k.k c.index-like-k.result (omega arith)))
          (subst (λ (mems : List MemValue). MemsMade c.args.builder.now c.make_memory-in-loop-k.new.builder c.args.address_bits (take c.loop-k.k c.args.like.now ++ x ∷ []) mems (c.loop-k.k + 1)) (sym (take_more_set c.loop-k.made c.loop-k.k c.in_ok-made.field-0 (omega arith)))
          (mems_more c.args.builder.now c.loop-k.builder c.make_memory-in-loop-k.new.builder c.args.address_bits (take c.loop-k.k c.args.like.now) (take c.loop-k.k c.loop-k.made) c.loop-k.k x c.in_ok-made.field-0 c.loop-k.invariant.0
          c.in_ok-made.ensures.mem c.in_ok-made.ensures.width c.in_ok-made.ensures.address c.in_ok-made.ensures.number c.in_ok-made.ensures.count c.in_ok-made.ensures.waits
          c.make_memory-in-loop-k.ensures.grows c.make_memory-in-loop-k.ensures.lines c.make_memory-in-loop-k.ensures.still_wait_for_write c.make_memory-in-loop-k.ensures.newly_written)),
      (let same = length-set c.loop-k.made c.loop-k.k c.in_ok-made.field-0 in omega (arith, same)),
    )

pub returns-clause-owned : goal.returns-clause-owned
returns-clause-owned g c m o =
    let made = c.loop-k.invariant.0 in
    let row = mems_in_row _ _ made.numbers m (subst (λ (mems : List MemValue). InMems mems m) (sym (take_all c.loop-k.k c.loop-k.made (omega arith))) o) in
    let least = row.least in
    let below = row.below in
    let count = made.count_is in
    let memories = made.memories in
    (least, omega (arith, below, count, memories))
