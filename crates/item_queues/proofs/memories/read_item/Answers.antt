use Rattle.std.proofs.Common.{◌≡◌, ◌+◌, List, [], ◌∷◌, ◌++◌, get_or, length-set, slice_set, take, sym, subst, ap, ◌∙◌, arith}
use Rattle.std.proofs.lemmas.List.{take_all, take_more, take_more_set}
use Rattle.netlist.specs.Nets.{NetValue, MemValue}
use Rattle.netlist.specs.Runs.{Always}
use Rattle.net_parts.specs.Groups.{AreNets, group_widths, values_of}
use Rattle.net_parts.specs.Laws.{alike_once, alike_twice, grows_once}
use Rattle.item_queues.specs.Memories.{item_at, mem_widths, mems_last}
use Rattle.item_queues.proofs.Written.{ItemRead, read_more, mem_at}
use Rattle.item_queues.proofs.memories.read_item.Goals as goal

pub read_memory-requires-clause-mem_is : goal.read_memory-requires-clause-mem_is
read_memory-requires-clause-mem_is g c =
    (mem_at c.loop-k.builder c.args.place.width c.args.memories.now c.loop-k.k c.index-memories-k.result (omega arith) (mems_last _ _ _ _ c.requires.memories c.loop-k.invariant.0.grows.extends)).is_mem

pub read_memory-requires-clause-address_is : goal.read_memory-requires-clause-address_is
read_memory-requires-clause-address_is g c = c.loop-k.invariant.0.grows.extends.nets _ _ c.requires.place

pub read_memory-requires-clause-widths : goal.read_memory-requires-clause-widths
read_memory-requires-clause-widths g c = sym (mem_at c.args.builder.now c.args.place.width c.args.memories.now c.loop-k.k c.index-memories-k.result (omega arith) c.requires.memories).has_address

pub loop-k-preserved : goal.loop-k-preserved
loop-k-preserved g c =
    let x = get_or c.args.memories.now c.loop-k.k c.index-memories-k.result in (
      subst (λ (mems : List MemValue). ItemRead c.args.builder.now c.read_memory.new.self c.args.place mems (take (c.loop-k.k + 1) (slice_set c.loop-k.made c.loop-k.k c.in_ok-made.field-0)) (c.loop-k.k + 1)) (sym (take_more c.args.memories.now c.loop-k.k c.index-memories-k.result (omega arith)))
          (subst (λ (group : List NetValue). ItemRead c.args.builder.now c.read_memory.new.self c.args.place (take c.loop-k.k c.args.memories.now ++ x ∷ []) group (c.loop-k.k + 1)) (sym (take_more_set c.loop-k.made c.loop-k.k c.in_ok-made.field-0 (omega arith)))
          (read_more c.args.builder.now c.loop-k.builder c.read_memory.new.self c.args.place (take c.loop-k.k c.args.memories.now) (take c.loop-k.k c.loop-k.made) c.loop-k.k x c.in_ok-made.field-0 c.loop-k.invariant.0
          c.in_ok-made.ensures.net.0 c.in_ok-made.ensures.net.1 (λ cycle v. (c.in_ok-made.ensures.value cycle v).1) (grows_once _ _ c.read_memory.ensures.extends c.read_memory.ensures.grows))),
      (let same = length-set c.loop-k.made c.loop-k.k c.in_ok-made.field-0 in omega (arith, same)),
    )

pub returns-in_err-made-clause-adds : goal.returns-in_err-made-clause-adds
returns-in_err-made-clause-adds g c = record {
  grows = alike_twice _ _ _ c.loop-k.invariant.0.grows (alike_once _ _ c.read_memory.ensures.extends c.read_memory.ensures.grows);
  most = (let few = c.loop-k.invariant.0.most in let more = c.read_memory.ensures.grows.most in omega (arith, few, more));
}

pub returns-clause-nets : goal.returns-clause-nets
returns-clause-nets g c = subst (AreNets c.loop-k.builder) (take_all c.loop-k.k c.loop-k.made (omega arith)) c.loop-k.invariant.0.nets

pub returns-clause-widths : goal.returns-clause-widths
returns-clause-widths g c =
    ap group_widths (sym (take_all c.loop-k.k c.loop-k.made (omega arith))) ∙ c.loop-k.invariant.0.widths ∙ ap mem_widths (take_all c.loop-k.k c.args.memories.now (omega arith)) ∙ c.requires.widths

pub returns-clause-value : goal.returns-clause-value
returns-clause-value g c =
    subst (λ (mems : List MemValue). Always c.loop-k.builder (λ cycle. values_of cycle c.loop-k.made ≡ item_at cycle mems (cycle.net c.args.place.number))) (take_all c.loop-k.k c.args.memories.now (omega arith))
    (subst (λ (group : List NetValue). Always c.loop-k.builder (λ cycle. values_of cycle group ≡ item_at cycle (take c.loop-k.k c.args.memories.now) (cycle.net c.args.place.number))) (take_all c.loop-k.k c.loop-k.made (omega arith)) c.loop-k.invariant.0.value)
