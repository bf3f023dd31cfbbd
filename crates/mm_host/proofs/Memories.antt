-- Growth in memories, and memories that wait for their write.
use Rattle.std.proofs.Common.{◌≡◌, ℕ, zero, suc, ◌+◌, ◌<◌, ◌≤◌, List, [], ◌∷◌, length, slice_get, Some, subst, sym, arith}
use Rattle.std.specs.Prelude.{Result, Ok, Err, OnOk}
use Rattle.netlist.specs.declared.line.Memory.{Memory}
use Rattle.netlist.specs.Netlists.{Netlist, WaitsForWrite}
use Rattle.net_parts.specs.Growth.{GrowsBy, GrowsInMemory, StillWaitForWrite}
use Rattle.net_parts.specs.Laws.{grows_without_memory, memory_grows_twice}

pub memory_grows_fewer : (k m r s : ℕ) (a b : Netlist) → k ≤ m → r ≤ s → GrowsInMemory k r a b → GrowsInMemory m s a b
memory_grows_fewer k m r s a b le few g =
    let most = g.most in
    let memories = g.most_memories in
    record { extends = g.extends; most = omega (arith, most, le); most_memories = omega (arith, memories, few); drivers = g.drivers }

-- and then by nets alone
pub then_grows : (k m r n s : ℕ) (a b c : Netlist) → GrowsInMemory k r a b → GrowsBy m b c → k + m ≤ n → r ≤ s → GrowsInMemory n s a c
then_grows k m r n s a b c g h le few = memory_grows_fewer (k + m) n (r + 0) s a c le (omega (arith, few)) (memory_grows_twice k m r 0 a b c g (grows_without_memory m b c h))

pub writes_wait_alike : (old new : Netlist) → new.memories ≡ old.memories → StillWaitForWrite old new
writes_wait_alike old new e m w = record { memory = w.memory; is = subst (λ (ms : List Memory). slice_get ms m ≡ Some w.memory) (sym e) w.is; waits = w.waits }

memory_within : {X : Type 0} (xs : List X) (n : ℕ) (x : X) → slice_get xs n ≡ Some x → n < length xs
memory_within [] n x e = cc
memory_within (a ∷ xs) zero x e = omega arith
memory_within (a ∷ xs) (suc n) x e = let i = memory_within xs n x e in omega arith

-- a memory that waits is one of the memories
pub write_within : (a : Netlist) (m : ℕ) → WaitsForWrite a m → m < length a.memories
write_within a m w = memory_within a.memories m w.memory w.is

-- what holds of any outcome
pub on_any : {X E : Type 0} (r : Result X E) (P : Type 0) → P → OnOk r P
on_any (Ok x) P p = p
on_any (Err e) P p = tt
