use Rattle.std.proofs.Common.{◌≡◌, ℕ, ◌*◌, ◌+◌, List, slice_get, Some, subst, sym, arith, inl, inr}
use Rattle.netlist.specs.declared.line.Memory.{Memory}
use Rattle.netlist.specs.Netlists.{Netlist, WaitsForWrite}
use Rattle.net_parts.specs.Growth.{GrowsBy, GrowsInMemory, WaitsWithout}
use Rattle.net_parts.specs.Groups.{nets_last}
use Rattle.net_parts.specs.Laws.{net_lasts, extends_twice, grows_without_memory, memory_grows_twice, on_ok}
use Rattle.item_queues.specs.Storages.{owns_in, StorageGoesOn, storage_lasts}
use Rattle.item_queues.specs.Queues.{owns, StepsQueue}
use Rattle.item_queues.specs.Laws.{queue_lasts}
use Rattle.item_queues.proofs.Steps.{steps_queue}
use Rattle.item_queues.proofs.queue.finish_queue.Goals as goal

writes_alike : (old new : Netlist) (m : ℕ) → new.memories ≡ old.memories → WaitsForWrite new m → WaitsForWrite old m
writes_alike old new m e w = record { memory = w.memory; is = subst (λ (ms : List Memory). slice_get ms m ≡ Some w.memory) e w.is; waits = w.waits }

-- the count and then the rest
both_grow : (size : ℕ) (a b c : Netlist) → GrowsBy 6 a b → GrowsInMemory (3 * size + 6) 0 b c → GrowsInMemory (3 * size + 12) 0 a c
both_grow size a b c p q =
    let all = memory_grows_twice 6 (3 * size + 6) 0 0 a b c (grows_without_memory 6 a b p) q in
    record { extends = all.extends; most = (let more = all.most in omega (arith, more)); most_memories = (let few = all.most_memories in omega (arith, few)); drivers = all.drivers }

pub finish_storage-requires : goal.finish_storage-requires
finish_storage-requires g c =
    let more = c.move_count.ensures.grows.extends in (
      (let few = c.requires.few_nets in omega arith),
      (
        (let few = c.requires.few_nets in omega arith),
        (
          c.requires.few_nets,
          (
            storage_lasts _ _ _ _ _ c.requires.queue.storage more,
            (
              nets_last _ _ _ more c.requires.item,
              (
                net_lasts _ _ _ _ more c.requires.comes,
                (
                  net_lasts _ _ _ _ more c.requires.goes,
                  (
                    (λ n o. c.move_count.ensures.waits n (λ e. (let before = c.requires.queue.before n o in omega (arith, before, e))) (c.requires.waits n (inr o))),
                    (λ m o. writes_alike _ _ m (sym c.move_count.ensures.grows.memories) (c.requires.waits_for_write m o)),
                  ),
                ),
              ),
            ),
          ),
        ),
      ),
    )

pub returns-clause-steps : goal.returns-clause-steps
returns-clause-steps g c =
    let more = c.finish_storage.ensures.grows.extends in
    on_ok c.finish_storage.result (StorageGoesOn c.finish_storage.new.builder c.args.queue.now.bound c.args.queue.now.storage c.args.item.now c.args.comes c.args.goes) (StepsQueue c.finish_storage.new.builder c.args.queue.now c.args.item.now c.args.comes c.args.goes)
    (λ on. steps_queue c.finish_storage.new.builder c.args.queue.now c.args.item.now c.args.comes c.args.goes (queue_lasts _ _ _ _ c.requires.queue (extends_twice _ _ _ c.move_count.ensures.grows.extends more))
    (λ run cycles r. c.in_ok-move_count.ensures.value run cycles (more.runs run cycles r)) on)
    c.finish_storage.ensures.on

pub returns-clause-grows : goal.returns-clause-grows
returns-clause-grows g c = both_grow _ _ _ _ c.move_count.ensures.grows c.finish_storage.ensures.grows

pub returns-clause-no_more_wait : goal.returns-clause-no_more_wait
returns-clause-no_more_wait g c =
    on_ok c.finish_storage.result (WaitsWithout (owns_in c.args.queue.now.bound c.args.queue.now.storage) c.move_count.new.builder c.finish_storage.new.builder) (WaitsWithout (owns c.args.queue.now) c.args.builder.now c.finish_storage.new.builder)
    (λ set n w. (let later = set n w in let count = c.in_ok-move_count.ensures.no_more_wait n later.0 in (count.0, λ o. elim o [ inl e ↦ count.1 e | inr p ↦ later.1 p ])))
    c.finish_storage.ensures.no_more_wait
