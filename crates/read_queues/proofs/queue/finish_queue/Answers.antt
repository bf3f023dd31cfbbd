use Rattle.std.proofs.Common.{◌≡◌, ℕ, List, slice_get, Some, subst, ◌∙◌}
use Rattle.netlist.specs.declared.line.Memory.{Memory}
use Rattle.netlist.specs.Netlists.{Netlist, WaitsForWrite}
use Rattle.net_parts.specs.Laws.{extends_twice, net_lasts, adds_grow, grows_twice, grows_without_memory, memory_grows_twice}
use Rattle.read_queues.specs.Held.{entry_of, entry_in, queue_lasts, registers_last}
use Rattle.read_queues.proofs.Runs.{runs_as_queue}
use Rattle.read_queues.proofs.queue.finish_queue.Goals as goal

pub returns-in_err-word-clause-grows : goal.returns-in_err-word-clause-grows
returns-in_err-word-clause-grows c = grows_without_memory _ _ _ (grows_twice _ _ _ _ _ c.finish_registers.ensures.grows (adds_grow _ _ _ c.word_of.ensures.adds))

pub returns-clause-grows : goal.returns-clause-grows
returns-clause-grows c = memory_grows_twice _ _ _ _ _ _ _ (grows_without_memory _ _ _ (grows_twice _ _ _ _ _ c.finish_registers.ensures.grows (adds_grow _ _ _ c.word_of.ensures.adds))) c.take_writes.ensures.grows

pub returns-clause-waits : goal.returns-clause-waits
returns-clause-waits c n apart w = c.take_writes.ensures.still_wait n (c.word_of.ensures.adds.grows.waits n (c.finish_registers.ensures.waits n apart w))

pub returns-clause-no_more_wait : goal.returns-clause-no_more_wait
returns-clause-no_more_wait c n w = c.in_ok-finish_registers.ensures.no_more_wait n (c.word_of.ensures.adds.grows.no_more_wait n (c.take_writes.ensures.no_more_wait n w))

waits_before : (old new : Netlist) (m : ℕ) → new.memories ≡ old.memories → WaitsForWrite new m → WaitsForWrite old m
waits_before old new m e w = record { memory = w.memory; is = subst (λ (ms : List Memory). slice_get ms m ≡ Some w.memory) e w.is; waits = w.waits }

pub returns-clause-no_more_write : goal.returns-clause-no_more_write
returns-clause-no_more_write c m w =
    let set = c.take_writes.ensures.no_more_write m w in
    (waits_before c.args.builder.now c.word_of.new.builder m (c.word_of.ensures.adds.grows.memories ∙ c.finish_registers.ensures.grows.memories) set.0, set.1)

pub returns-clause-runs : goal.returns-clause-runs
returns-clause-runs c =
    let one = c.take_writes.ensures.grows.extends in
    let two = extends_twice _ _ _ c.word_of.ensures.adds.grows.extends one in
    let three = extends_twice _ _ _ c.finish_registers.ensures.grows.extends two in
    runs_as_queue c.take_writes.new.builder c.args.held.now c.args.traffic.now (queue_lasts _ _ _ c.requires.held three)
    (record {
      registers = registers_last _ _ _ _ c.in_ok-finish_registers.ensures.on two;
      taken_bit = net_lasts _ _ _ _ three c.requires.taken;
      word = c.in_ok-word.word;
      stores = λ cycle v. subst (λ k. entry_of c.args.held.now.words k (cycle.net c.in_ok-word.word.number) ≡ entry_in c.args.traffic.now cycle) c.requires.tag.has_width (c.in_ok-word.ensures.value cycle (one.valuations cycle v));
      writes = c.take_writes.ensures.value;
    })
