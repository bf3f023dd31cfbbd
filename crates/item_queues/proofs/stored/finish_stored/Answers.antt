use Rattle.std.proofs.Common.{◌≡◌, ℕ, List, slice_get, Some, subst, sym, arith}
use Rattle.netlist.specs.declared.line.Line.{Line}
use Rattle.netlist.specs.declared.line.Memory.{Memory}
use Rattle.netlist.specs.Netlists.{Netlist, WaitsForWrite, IsWaiting}
use Rattle.net_parts.specs.Groups.{nets_last}
use Rattle.net_parts.specs.Laws.{net_lasts, grows_without_memory, memory_grows_twice}
use Rattle.item_queues.specs.Registers.{going_lasts}
use Rattle.item_queues.specs.Memories.{AreMems, mems_last}
use Rattle.item_queues.proofs.stored.finish_stored.Goals as goal

writes_alike : (old new : Netlist) (m : ℕ) → new.memories ≡ old.memories → WaitsForWrite new m → WaitsForWrite old m
writes_alike old new m e w = record { memory = w.memory; is = subst (λ (ms : List Memory). slice_get ms m ≡ Some w.memory) e w.is; waits = w.waits }

waits_alike : (old new : Netlist) (n : ℕ) → new.lines ≡ old.lines → IsWaiting new n → IsWaiting old n
waits_alike old new n e w = record { line = w.line; is = subst (λ (ls : List Line). slice_get ls n ≡ Some w.line) e w.is; waits = w.waits }

pub write_item-requires : goal.write_item-requires
write_item-requires g c =
    let more = c.finish_pointers.ensures.grows.extends in
    let wide = c.requires.stored.pointers.next_net.has_width in (
      (let few = c.requires.few_nets in omega arith),
      (
        (let few = c.requires.few_nets in omega arith),
        (
          net_lasts _ _ _ _ more c.requires.comes,
          (
            more.nets _ _ c.requires.stored.pointers.next_net.is_net,
            (
              subst (λ k. AreMems c.finish_pointers.new.builder k c.args.stored.now.memories) (sym wide) (mems_last _ _ _ _ c.requires.stored.memories more),
              (
                c.requires.stored.numbers,
                (
                  nets_last _ _ _ more c.requires.item,
                  (
                    c.requires.stored.widths,
                    λ m o. writes_alike _ _ m (sym c.finish_pointers.ensures.grows.memories) (c.requires.waits_for_write m o),
                  ),
                ),
              ),
            ),
          ),
        ),
      ),
    )

pub returns-clause-on : goal.returns-clause-on
returns-clause-on g c = record { pointers = going_lasts _ _ _ _ _ c.in_ok-finish_pointers.ensures.on c.write_item.ensures.grows.extends; writes = c.write_item.ensures.value }

pub returns-clause-grows : goal.returns-clause-grows
returns-clause-grows g c = memory_grows_twice _ _ _ _ _ _ _ (grows_without_memory _ _ _ c.finish_pointers.ensures.grows) c.write_item.ensures.grows

pub returns-clause-waits : goal.returns-clause-waits
returns-clause-waits g c n apart w = waits_alike _ _ n (sym c.write_item.ensures.lines) (c.finish_pointers.ensures.waits n apart w)

pub returns-clause-no_more_wait : goal.returns-clause-no_more_wait
returns-clause-no_more_wait g c n w = c.in_ok-finish_pointers.ensures.no_more_wait n (waits_alike _ _ n c.write_item.ensures.lines w)

pub returns-clause-still_wait_for_write : goal.returns-clause-still_wait_for_write
returns-clause-still_wait_for_write g c m apart w = c.write_item.ensures.still_wait_for_write m apart (writes_alike _ _ m (sym c.finish_pointers.ensures.grows.memories) w)

pub returns-clause-no_more_write : goal.returns-clause-no_more_write
returns-clause-no_more_write g c m w =
    let set = c.write_item.ensures.no_more_write m w in
    (writes_alike c.args.builder.now c.finish_pointers.new.builder m c.finish_pointers.ensures.grows.memories set.0, set.1)
