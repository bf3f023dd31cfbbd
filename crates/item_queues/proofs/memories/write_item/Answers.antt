use Rattle.std.proofs.Common.{◌+◌, ◌<◌, List, [], ◌∷◌, ◌++◌, length, get_or, take, sym, subst, ap, arith}
use Rattle.std.proofs.lemmas.List.{take_more, take_all}
use Rattle.netlist.specs.declared.line.Line.{Line}
use Rattle.netlist.specs.Nets.{NetValue, MemValue}
use Rattle.net_parts.specs.Groups.{nets_last}
use Rattle.net_parts.specs.Growth.{WriteWaitsWithout}
use Rattle.item_queues.specs.Memories.{InMems, TakesItems, mems_last}
use Rattle.item_queues.proofs.Written.{ItemWritten, written_none, written_more, count_kept, net_at, mem_at, width_at, at_in, at_apart}
use Rattle.item_queues.proofs.memories.write_item.Goals as goal

pub set_write-requires-clause-mem_is : goal.set_write-requires-clause-mem_is
set_write-requires-clause-mem_is g c =
    (mem_at c.loop-k.builder c.args.place.width c.args.memories.now c.loop-k.k c.index-memories-k.result (omega arith) (mems_last _ _ _ _ c.requires.memories c.loop-k.invariant.extends)).is_mem

pub set_write-requires-clause-waits : goal.set_write-requires-clause-waits
set_write-requires-clause-waits g c =
    let below : c.loop-k.k < length c.args.memories.now = omega arith in
    c.loop-k.invariant.still _ (at_apart c.requires.numbers.start c.args.memories.now c.loop-k.k c.index-memories-k.result below c.requires.numbers.numbers)
    (c.requires.waits _ (at_in c.args.memories.now c.loop-k.k c.index-memories-k.result below))

pub set_write-requires-clause-enable_is : goal.set_write-requires-clause-enable_is
set_write-requires-clause-enable_is g c = c.loop-k.invariant.extends.nets _ _ c.requires.comes.is_net

pub set_write-requires-clause-address_is : goal.set_write-requires-clause-address_is
set_write-requires-clause-address_is g c = c.loop-k.invariant.extends.nets _ _ c.requires.place

pub set_write-requires-clause-address_width : goal.set_write-requires-clause-address_width
set_write-requires-clause-address_width g c = sym (mem_at c.args.builder.now c.args.place.width c.args.memories.now c.loop-k.k c.index-memories-k.result (omega arith) c.requires.memories).has_address

pub set_write-requires-clause-word_is : goal.set_write-requires-clause-word_is
set_write-requires-clause-word_is g c = net_at c.loop-k.builder c.args.item.now c.loop-k.k c.index-item-k.result (omega arith) (nets_last _ _ _ c.loop-k.invariant.extends c.requires.item)

pub set_write-requires-clause-word_width : goal.set_write-requires-clause-word_width
set_write-requires-clause-word_width g c = sym (width_at c.args.memories.now c.args.item.now c.loop-k.k c.index-memories-k.result c.index-item-k.result (omega arith) (omega arith) c.requires.widths)

pub loop-k-init : goal.loop-k-init
loop-k-init g c = written_none _ _ _

pub loop-k-preserved : goal.loop-k-preserved
loop-k-preserved g c =
    let x = get_or c.args.memories.now c.loop-k.k c.index-memories-k.result in
    let y = get_or c.args.item.now c.loop-k.k c.index-item-k.result in
    let mem = mem_at c.loop-k.builder c.args.place.width c.args.memories.now c.loop-k.k c.index-memories-k.result (omega arith) (mems_last _ _ _ _ c.requires.memories c.loop-k.invariant.extends) in
    subst (λ (mems : List MemValue). ItemWritten c.args.builder.now c.set_write.new.self c.args.comes c.args.place mems (take (c.loop-k.k + 1) c.args.item.now)) (sym (take_more c.args.memories.now c.loop-k.k c.index-memories-k.result (omega arith)))
    (subst (λ (item : List NetValue). ItemWritten c.args.builder.now c.set_write.new.self c.args.comes c.args.place (take c.loop-k.k c.args.memories.now ++ x ∷ []) item) (sym (take_more c.args.item.now c.loop-k.k c.index-item-k.result (omega arith)))
    (written_more c.args.builder.now c.loop-k.builder c.set_write.new.self c.args.comes c.args.place (take c.loop-k.k c.args.memories.now) (take c.loop-k.k c.args.item.now) x y c.loop-k.invariant
    mem.has_address c.set_write.ensures.value c.set_write.ensures.extends c.set_write.ensures.lines c.set_write.ensures.drivers
    (count_kept _ _ _ _ _ _ mem.is_mem c.set_write.ensures.memory) c.set_write.ensures.still_wait c.set_write.ensures.no_more_wait))

pub returns-clause-value : goal.returns-clause-value
returns-clause-value g c =
    subst (λ (mems : List MemValue). TakesItems c.loop-k.builder mems c.args.comes c.args.place c.args.item.now) (take_all c.loop-k.k c.args.memories.now (omega arith))
    (subst (TakesItems c.loop-k.builder (take c.loop-k.k c.args.memories.now) c.args.comes c.args.place) (take_all c.loop-k.k c.args.item.now (omega arith)) c.loop-k.invariant.takes)

pub returns-clause-grows : goal.returns-clause-grows
returns-clause-grows g c = record {
  extends = c.loop-k.invariant.extends;
  most = (let lines = ap (length {A = Line}) c.loop-k.invariant.lines in omega (arith, lines));
  most_memories = (let same = c.loop-k.invariant.memories in omega (arith, same));
  drivers = c.loop-k.invariant.drivers;
}

pub returns-clause-lines : goal.returns-clause-lines
returns-clause-lines g c = c.loop-k.invariant.lines

pub returns-clause-still_wait_for_write : goal.returns-clause-still_wait_for_write
returns-clause-still_wait_for_write g c m apart w = c.loop-k.invariant.still m (λ o. apart (subst (λ (mems : List MemValue). InMems mems m) (take_all c.loop-k.k c.args.memories.now (omega arith)) o)) w

pub returns-clause-no_more_write : goal.returns-clause-no_more_write
returns-clause-no_more_write g c =
    subst (λ (mems : List MemValue). WriteWaitsWithout (InMems mems) c.args.builder.now c.loop-k.builder) (take_all c.loop-k.k c.args.memories.now (omega arith)) c.loop-k.invariant.no_more
