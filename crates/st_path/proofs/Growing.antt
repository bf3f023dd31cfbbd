-- Nets around those of stages, which may have memories.
use Rattle.std.proofs.Common.{◌≡◌, ℕ, ◌+◌, ◌≤◌, List, slice_get, Some, sym, subst, arith}
use Rattle.netlist.specs.declared.line.Memory.{Memory}
use Rattle.netlist.specs.Netlists.{Netlist}
use Rattle.net_parts.specs.Growth.{GrowsBy, AddsNets, GrowsInMemory, StillWaitForWrite}
use Rattle.net_parts.specs.Laws.{grows_without_memory, memory_grows_twice}
use Rattle.net_parts.specs.Memories.{memory_grows_fewer}

-- nets without memories, and those of stages with no more than so many, in either order
pub without_memories : (k n r : ℕ) (a b : Netlist) → GrowsBy k a b → k ≤ n → GrowsInMemory n r a b
without_memories k n r a b p few = memory_grows_fewer k n 0 r a b few (omega arith) (grows_without_memory k a b p)

pub memories_behind : (k m n r : ℕ) (a b c : Netlist) → GrowsBy k a b → GrowsInMemory m r b c → k + m ≤ n → GrowsInMemory n r a c
memories_behind k m n r a b c p q few = memory_grows_fewer (k + m) n (0 + r) r a c few (omega arith) (memory_grows_twice k m 0 r a b c (grows_without_memory k a b p) q)

pub memories_before : (k m n r : ℕ) (a b c : Netlist) → GrowsInMemory k r a b → GrowsBy m b c → k + m ≤ n → GrowsInMemory n r a c
memories_before k m n r a b c p q few = memory_grows_fewer (k + m) n (r + 0) r a c few (omega arith) (memory_grows_twice k m r 0 a b c p (grows_without_memory m b c q))

-- where the memories are the same, those that waited for their writes wait
write_waits : (a b : Netlist) → b.memories ≡ a.memories → StillWaitForWrite a b
write_waits a b e m w = record { memory = w.memory; is = subst (λ (ms : List Memory). slice_get ms m ≡ Some w.memory) (sym e) w.is; waits = w.waits }

-- so they do beside nets without memories, and no others
pub adds_wait : (k : ℕ) (a b : Netlist) → AddsNets k a b → StillWaitForWrite a b
adds_wait k a b p = write_waits a b p.grows.memories

pub adds_no_wait : (k : ℕ) (a b : Netlist) → AddsNets k a b → StillWaitForWrite b a
adds_no_wait k a b p = write_waits b a (sym p.grows.memories)
