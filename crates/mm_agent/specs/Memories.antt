-- Memories that wait for their write, where the memories stay the same, and growth in memories. No contract reads these proofs.
use Rattle.std.proofs.Common.{◌≡◌, ℕ, zero, suc, ◌+◌, ◌<◌, ◌≤◌, List, [], ◌∷◌, length, slice_get, Some, subst, sym, arith}
use Rattle.netlist.specs.declared.line.Memory.{Memory}
use Rattle.netlist.specs.Netlists.{Netlist, WaitsForWrite}
use Rattle.net_parts.specs.Growth.{GrowsInMemory, StillWaitForWrite}
use Rattle.net_parts.specs.Laws.{memory_grows_twice}

pub writes_wait_alike : (old new : Netlist) → new.memories ≡ old.memories → StillWaitForWrite old new
writes_wait_alike old new e m w =
    record { memory = w.memory; is = subst (λ (ms : List Memory). slice_get ms m ≡ Some w.memory) (sym e) w.is; waits = w.waits }

pub writes_waited_alike : (old new : Netlist) → new.memories ≡ old.memories → StillWaitForWrite new old
writes_waited_alike old new e m w =
    record { memory = w.memory; is = subst (λ (ms : List Memory). slice_get ms m ≡ Some w.memory) e w.is; waits = w.waits }

memory_within : {X : Type 0} (xs : List X) (n : ℕ) (x : X) → slice_get xs n ≡ Some x → n < length xs
memory_within [] n x e = cc
memory_within (a ∷ xs) zero x e = omega arith
memory_within (a ∷ xs) (suc n) x e = let i = memory_within xs n x e in omega arith

-- a memory that waits is one of the memories
pub write_within : (a : Netlist) (m : ℕ) → WaitsForWrite a m → m < length a.memories
write_within a m w = memory_within a.memories m w.memory w.is

-- fewer nets and fewer memories
pub memory_grows_fewer : (k m r s : ℕ) (a b : Netlist) → k ≤ m → r ≤ s → GrowsInMemory k r a b → GrowsInMemory m s a b
memory_grows_fewer k m r s a b le few g =
    let most = g.most in
    let memories = g.most_memories in
    record
    { extends = g.extends; most = omega (arith, most, le); most_memories = omega (arith, memories, few); drivers = g.drivers }

pub memory_grows_within : (k m n r s t : ℕ) (a b c : Netlist) → GrowsInMemory k r a b → GrowsInMemory m s b c → k + m ≤ n
    → r + s ≤ t → GrowsInMemory n t a c
memory_grows_within k m n r s t a b c g h le few =
    memory_grows_fewer (k + m) n (r + s) t a c le few (memory_grows_twice k m r s a b c g h)
