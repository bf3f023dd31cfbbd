use Rattle.std.proofs.Common.{◌≡◌, ◌^◌, ◌≤◌, ℕ, List, length, slice_get, Some, subst, ap, sym, inl, inr, arith}
use Rattle.netlist.specs.declared.line.Line.{Line}
use Rattle.netlist.specs.declared.line.Memory.{Memory}
use Rattle.netlist.specs.Netlists.{Netlist, IsWaiting, WaitsForWrite}
use Rattle.net_parts.specs.Growth.{GrowsBy, GrowsInMemory}
use Rattle.net_parts.specs.Laws.{grows_without_memory, memory_grows_twice}
use Rattle.net_parts.specs.Refusing.{handed_on}
use Rattle.item_queues.specs.Memories.{AreMems, mems_last}
use Rattle.item_queues.proofs.stored.make_stored.Goals as goal

writes_alike : (old new : Netlist) (m : ℕ) → new.memories ≡ old.memories → WaitsForWrite new m → WaitsForWrite old m
writes_alike old new m e w = record { memory = w.memory; is = subst (λ (ms : List Memory). slice_get ms m ≡ Some w.memory) e w.is; waits = w.waits }

waits_alike : (old new : Netlist) (n : ℕ) → new.lines ≡ old.lines → IsWaiting new n → IsWaiting old n
waits_alike old new n e w = record { line = w.line; is = subst (λ (ls : List Line). slice_get ls n ≡ Some w.line) e w.is; waits = w.waits }

-- memories and then nets
both_grow : (nets memories : ℕ) (a b c : Netlist) → GrowsInMemory 0 memories a b → GrowsBy nets b c → GrowsInMemory nets memories a c
both_grow nets memories a b c p q =
    let all = memory_grows_twice 0 nets memories 0 a b c p (grows_without_memory nets b c q) in
    record { extends = all.extends; most = (let more = all.most in omega (arith, more)); most_memories = (let few = all.most_memories in omega (arith, few)); drivers = all.drivers }

pub make_memories-requires : goal.make_memories-requires
make_memories-requires g c = (
  (let few = c.requires.few_nets in omega arith),
  (
    (let few = c.requires.few_nets in omega arith),
    (
      c.requires.some_net,
      (
        c.requires.like,
        (
          c.address_bits-bits.ensures.some,
          (let few = c.address_bits-bits.ensures.few in omega (arith, few)),
        ),
      ),
    ),
  ),
)

pub returns-clause-made : goal.returns-clause-made
returns-clause-made g c =
    let wide = c.in_ok-pointers.ensures.width in
    record {
      pointers = c.in_ok-pointers.ensures.pointers;
      depth = subst (λ k. c.args.bound ≤ 2 ^ k) (sym wide) c.address_bits-bits.ensures.fits;
      least = λ bits some fits. subst (λ k. k ≤ bits) (sym wide) (c.address_bits-bits.ensures.least bits some fits);
      memories = subst (λ k. AreMems c.hold_pointers.new.builder k c.in_ok-memories.memories) (sym wide) (mems_last _ _ _ _ c.in_ok-memories.ensures.mems c.hold_pointers.ensures.grows.extends);
      numbers = record { start = length c.args.builder.now.memories; numbers = c.in_ok-memories.ensures.numbers };
      widths = c.in_ok-memories.ensures.widths;
    }

pub returns-clause-owned : goal.returns-clause-owned
returns-clause-owned g c n o =
    let lines = ap (length {A = Line}) c.make_memories.ensures.lines in
    let at = c.in_ok-pointers.ensures.owned n o in
    (omega (arith, at.0, lines), at.1)

pub returns-clause-owned_memories : goal.returns-clause-owned_memories
returns-clause-owned_memories g c m o =
    let memories = ap (length {A = Memory}) c.hold_pointers.ensures.grows.memories in
    let at = c.in_ok-memories.ensures.owned m o in
    (at.0, omega (arith, at.1, memories))

pub returns-clause-grows : goal.returns-clause-grows
returns-clause-grows g c = both_grow _ _ _ _ _ c.make_memories.ensures.grows c.hold_pointers.ensures.grows

pub returns-clause-still_wait : goal.returns-clause-still_wait
returns-clause-still_wait g c n w = c.hold_pointers.ensures.still_wait n (waits_alike _ _ n (sym c.make_memories.ensures.lines) w)

pub returns-clause-own_wait : goal.returns-clause-own_wait
returns-clause-own_wait g c n o = c.in_ok-pointers.ensures.own_wait n o

pub returns-clause-newly : goal.returns-clause-newly
returns-clause-newly g c n w = elim (c.in_ok-pointers.ensures.newly n w) [ inl before ↦ inl (waits_alike _ _ n c.make_memories.ensures.lines before) | inr own ↦ inr own ]

pub returns-clause-still_wait_for_write : goal.returns-clause-still_wait_for_write
returns-clause-still_wait_for_write g c m w = writes_alike _ _ m (sym c.hold_pointers.ensures.grows.memories) (c.make_memories.ensures.still_wait_for_write m w)

pub returns-clause-own_wait_for_write : goal.returns-clause-own_wait_for_write
returns-clause-own_wait_for_write g c m o = writes_alike _ _ m (sym c.hold_pointers.ensures.grows.memories) (c.in_ok-memories.ensures.own_wait_for_write m o)

pub returns-clause-newly_written : goal.returns-clause-newly_written
returns-clause-newly_written g c m w = c.in_ok-memories.ensures.newly_written m (writes_alike _ _ m c.hold_pointers.ensures.grows.memories w)

pub returns-in_err-memories-clause-full : goal.returns-in_err-memories-clause-full
returns-in_err-memories-clause-full g c e = inr (c.make_memories.ensures.full (handed_on _ _ _ _ c.in_err-memories.was c.from_residual.ensures.1 e))

pub returns-in_err-pointers-clause-full : goal.returns-in_err-pointers-clause-full
returns-in_err-pointers-clause-full g c e =
    let lines = ap (length {A = Line}) c.make_memories.ensures.lines in
    let full = c.hold_pointers.ensures.full (handed_on _ _ _ _ c.in_err-pointers.was c.from_residual-in_err-pointers.ensures.1 e) in
    inl (omega (arith, lines, full))

pub returns-in_err-pointers-clause-grows : goal.returns-in_err-pointers-clause-grows
returns-in_err-pointers-clause-grows g c = both_grow _ _ _ _ _ c.make_memories.ensures.grows c.hold_pointers.ensures.grows

pub returns-in_err-pointers-clause-still_wait : goal.returns-in_err-pointers-clause-still_wait
returns-in_err-pointers-clause-still_wait g c n w = c.hold_pointers.ensures.still_wait n (waits_alike _ _ n (sym c.make_memories.ensures.lines) w)

pub returns-in_err-pointers-clause-still_wait_for_write : goal.returns-in_err-pointers-clause-still_wait_for_write
returns-in_err-pointers-clause-still_wait_for_write g c m w = writes_alike _ _ m (sym c.hold_pointers.ensures.grows.memories) (c.make_memories.ensures.still_wait_for_write m w)

pub returns-in_err-memories-clause-grows : goal.returns-in_err-memories-clause-grows
returns-in_err-memories-clause-grows g c = record { extends = c.make_memories.ensures.grows.extends; most = (let more = c.make_memories.ensures.grows.most in omega (arith, more)); most_memories = c.make_memories.ensures.grows.most_memories; drivers = c.make_memories.ensures.grows.drivers }

pub returns-in_err-memories-clause-still_wait : goal.returns-in_err-memories-clause-still_wait
returns-in_err-memories-clause-still_wait g c n w = waits_alike _ _ n (sym c.make_memories.ensures.lines) w

pub returns-in_err-memories-clause-still_wait_for_write : goal.returns-in_err-memories-clause-still_wait_for_write
returns-in_err-memories-clause-still_wait_for_write g c m w = c.make_memories.ensures.still_wait_for_write m w
