-- The memories of a part that is made by two calls: the first makes them, and the second gives them their writes.
use Rattle.std.proofs.Common.{◌≡◌, ℕ, zero, suc, ◌+◌, ◌^◌, ◌<◌, ◌≤◌, ◌⊎◌, List, [], ◌∷◌, length, slice_get, Some, refl, sym, subst, inl, inr, arith}
use Rattle.std.proofs.lemmas.Option.{slice_get_within}
use Rattle.netlist.specs.declared.line.Memory.{Memory}
use Rattle.netlist.specs.Netlists.{Netlist, WaitsForWrite}
use Rattle.netlist.specs.Runs.{Cycle}
use Rattle.netlist.specs.Longer.{Extends}
use Rattle.net_parts.specs.Growth.{GrowsBy, GrowsInMemory, StillWaitForWrite, WriteWaitsBeside, WriteWaitsWithout}
use Rattle.net_parts.specs.Laws.{grows_twice, grows_fewer, grows_without_memory, memory_grows_twice}

-- ---- the first call

-- the netlist grew by so many nets at most, and where the part has memories, by no more of them; else they are the same
abbrev pub ForwardGrows : ℕ → ℕ → Netlist → Netlist → Type 0
ForwardGrows zero nets old new = GrowsBy nets old new
ForwardGrows (suc more) nets old new = GrowsInMemory nets (suc more) old new

-- these memories are new, and they wait for their writes beside those that waited
pub record MemoriesCome (made : ℕ → Type 0) (old new : Netlist) : Type 0 where
  pub between : (m : ℕ) → made m → (length old.memories ≤ m) × (m < length new.memories)
  pub own : (m : ℕ) → made m → WaitsForWrite new m
  pub still : StillWaitForWrite old new
  pub newly : WriteWaitsBeside made old new

-- a part without memories has none of these
abbrev pub ForwardMemories : ℕ → (ℕ → Type 0) → Netlist → Netlist → Type 0
ForwardMemories zero made old new = (m : ℕ) → ¬ made m
ForwardMemories (suc more) made old new = MemoriesCome made old new

-- ---- the second call

-- the netlist grew by so many nets at most, and by no memory
abbrev pub BackwardGrows : ℕ → ℕ → Netlist → Netlist → Type 0
BackwardGrows zero nets old new = GrowsBy nets old new
BackwardGrows (suc more) nets old new = GrowsInMemory nets 0 old new

-- these memories have their writes now, and the others that waited wait
pub record MemoriesSettle (set : ℕ → Type 0) (old new : Netlist) : Type 0 where
  pub others : (m : ℕ) → ¬ set m → WaitsForWrite old m → WaitsForWrite new m
  pub settled : WriteWaitsWithout set old new

abbrev pub BackwardMemories : ℕ → (ℕ → Type 0) → Netlist → Netlist → Type 0
BackwardMemories zero set old new = (m : ℕ) → ¬ set m
BackwardMemories (suc more) set old new = MemoriesSettle set old new

-- ---- in a cycle

-- these memories have the same words in both cycles
abbrev pub SameWords : (ℕ → Type 0) → Netlist → Cycle → Cycle → Type 0
SameWords owned netlist one other =
    (m : ℕ) (memory : Memory) → owned m → slice_get netlist.memories m ≡ Some memory → (place : ℕ)
    → place < 2 ^ memory.address_bits → one.cell m place ≡ other.cell m place

-- ---- laws. No contract reads a proof of these

pub memory_grows_fewer : (k m r s : ℕ) (a b : Netlist) → k ≤ m → r ≤ s → GrowsInMemory k r a b → GrowsInMemory m s a b
memory_grows_fewer k m r s a b h few p =
    record {
      extends =
          p.extends;
      most =
          (let nets = p.most in omega arith);
      most_memories = (let memories = p.most_memories in omega arith);
      drivers = p.drivers;
    }

pub forward_grown : (k n : ℕ) (a b : Netlist) → ForwardGrows k n a b → GrowsInMemory n k a b
forward_grown zero n a b p = grows_without_memory n a b p
forward_grown (suc k) n a b p = p

pub backward_grown : (k n : ℕ) (a b : Netlist) → BackwardGrows k n a b → GrowsInMemory n 0 a b
backward_grown zero n a b p = grows_without_memory n a b p
backward_grown (suc k) n a b p = p

pub forward_fewer : (k r n m : ℕ) (a b : Netlist) → k ≤ r → n ≤ m → ForwardGrows k n a b → ForwardGrows r m a b
forward_fewer zero zero n m a b h le p = grows_fewer n m a b le p
forward_fewer zero (suc r) n m a b h le p = memory_grows_fewer n m 0 (suc r) a b le (omega arith) (grows_without_memory n a b p)
forward_fewer (suc k) zero n m a b h le p = absurd (omega (arith, h))
forward_fewer (suc k) (suc r) n m a b h le p = memory_grows_fewer n m (suc k) (suc r) a b le h p

pub backward_fewer : (k r n m : ℕ) (a b : Netlist) → k ≤ r → n ≤ m → BackwardGrows k n a b → BackwardGrows r m a b
backward_fewer zero zero n m a b h le p = grows_fewer n m a b le p
backward_fewer zero (suc r) n m a b h le p = memory_grows_fewer n m 0 0 a b le (omega arith) (grows_without_memory n a b p)
backward_fewer (suc k) zero n m a b h le p = absurd (omega (arith, h))
backward_fewer (suc k) (suc r) n m a b h le p = memory_grows_fewer n m 0 0 a b le (omega arith) p

plain : (r : ℕ) → 0 + suc r ≡ suc r
plain r = omega arith

more : (k r : ℕ) → suc k + r ≡ suc (k + r)
more k r = omega arith

pub forward_twice : (k r n m : ℕ) (a b c : Netlist) → ForwardGrows k n a b → ForwardGrows r m b c
    → ForwardGrows (k + r) (n + m) a c
forward_twice zero zero n m a b c p q = grows_twice n m a b c p q
forward_twice zero (suc r) n m a b c p q =
    subst (λ k. ForwardGrows k (n + m) a c) (sym (plain r))
    (memory_grows_fewer (n + m) (n + m) (0 + suc r) (suc r) a c (omega arith) (omega arith)
    (memory_grows_twice n m 0 (suc r) a b c (grows_without_memory n a b p) q))
forward_twice (suc k) r n m a b c p q =
    subst (λ t. ForwardGrows t (n + m) a c) (sym (more k r))
    (memory_grows_fewer (n + m) (n + m) (suc k + r) (suc (k + r)) a c (omega arith) (omega arith)
    (memory_grows_twice n m (suc k) r a b c p (forward_grown r m b c q)))

pub backward_twice : (k r n m : ℕ) (a b c : Netlist) → BackwardGrows r m a b → BackwardGrows k n b c
    → BackwardGrows (k + r) (m + n) a c
backward_twice zero zero n m a b c p q = grows_twice m n a b c p q
backward_twice zero (suc r) n m a b c p q =
    subst (λ k. BackwardGrows k (m + n) a c) (sym (plain r)) (memory_grows_twice m n 0 0 a b c p (grows_without_memory n b c q))
backward_twice (suc k) r n m a b c p q =
    subst (λ t. BackwardGrows t (m + n) a c) (sym (more k r)) (memory_grows_twice m n 0 0 a b c (backward_grown r m a b p) q)

-- both calls
pub both_grown : (k n m : ℕ) (a b c : Netlist) → ForwardGrows k n a b → BackwardGrows k m b c → ForwardGrows k (n + m) a c
both_grown zero n m a b c p q = grows_twice n m a b c p q
both_grown (suc k) n m a b c p q =
    memory_grows_fewer (n + m) (n + m) (suc k + 0) (suc k) a c (omega arith) (omega arith)
    (memory_grows_twice n m (suc k) 0 a b c p q)

pub waits_where_same : (a b : Netlist) → b.memories ≡ a.memories → (m : ℕ) → WaitsForWrite a m → WaitsForWrite b m
waits_where_same a b e m w =
    record { memory = w.memory; is = subst (λ (ms : List Memory). slice_get ms m ≡ Some w.memory) (sym e) w.is; waits = w.waits }

pub none_come : (made : ℕ → Type 0) (n : ℕ) (a b : Netlist) → GrowsBy n a b → ((m : ℕ) → ¬ made m) → MemoriesCome made a b
none_come made n a b p none = record {
  between = λ m o. absurd (none m o);
  own = λ m o. absurd (none m o);
  still = waits_where_same a b p.memories;
  newly = λ m w. inl (waits_where_same b a (sym p.memories) m w);
}

pub none_settle : (set : ℕ → Type 0) (n : ℕ) (a b : Netlist) → GrowsBy n a b → ((m : ℕ) → ¬ set m) → MemoriesSettle set a b
none_settle set n a b p none =
    record
    { others = λ m o. waits_where_same a b p.memories m; settled = λ m w. (waits_where_same b a (sym p.memories) m w, none m) }

pub memories_come : (k n : ℕ) (made : ℕ → Type 0) (a b : Netlist) → ForwardGrows k n a b → ForwardMemories k made a b
    → MemoriesCome made a b
memories_come zero n made a b p none = none_come made n a b p none
memories_come (suc k) n made a b p come = come

pub memories_settle : (k n : ℕ) (set : ℕ → Type 0) (a b : Netlist) → BackwardGrows k n a b → BackwardMemories k set a b
    → MemoriesSettle set a b
memories_settle zero n set a b p none = none_settle set n a b p none
memories_settle (suc k) n set a b p settle = settle

line_at : (memories : List Memory) (n : ℕ) → n < length memories → (memory : Memory) × (slice_get memories n ≡ Some memory)
line_at [] n below = absurd (omega (arith, below))
line_at (memory ∷ memories) zero below = (memory, refl)
line_at (memory ∷ memories) (suc n) below = line_at memories n (omega (arith, below))

-- a longer netlist has the memories of the shorter one
memories_longer : (a b : Netlist) → Extends a b → length a.memories ≤ length b.memories
memories_longer a b e = by_count (length a.memories) refl
  where
    by_count : (n : ℕ) → length a.memories ≡ n → length a.memories ≤ length b.memories
    by_count zero same = omega (arith, same)
    by_count (suc n) same =
        (let last = line_at a.memories n (omega (arith, same)) in
        let later = e.keeps.memories n last.0 last.1 in
        let within = slice_get_within b.memories n later.later later.is in
        omega (arith, same, within))

pub come_twice : (one other : ℕ → Type 0) (a b c : Netlist) → Extends a b → Extends b c → MemoriesCome one a b
    → MemoriesCome other b c → MemoriesCome (λ m. one m ⊎ other m) a c
come_twice one other a b c e f p q =
    let longer = memories_longer a b e in
    let later = memories_longer b c f in
    record {
      between =
          λ m o. elim o
          [ inl i ↦ (let at = p.between m i in (at.0, omega arith)) | inr i ↦ (let at = q.between m i in (omega arith, at.1)) ];
      own = λ m o. elim o [ inl i ↦ q.still m (p.own m i) | inr i ↦ q.own m i ];
      still = λ m w. q.still m (p.still m w);
      newly =
          λ m w. elim (q.newly m w)
          [ inl before ↦ elim (p.newly m before) [ inl old ↦ inl old | inr i ↦ inr (inl i) ] | inr i ↦ inr (inr i) ];
    }

pub forward_memories : (k r : ℕ) (n m : ℕ) (one other : ℕ → Type 0) (a b c : Netlist) → ForwardGrows k n a b
    → ForwardMemories k one a b → ForwardGrows r m b c → ForwardMemories r other b c
    → ForwardMemories (k + r) (λ m. one m ⊎ other m) a c
forward_memories zero zero n m one other a b c g p h q = λ m o. elim o [ inl i ↦ p m i | inr i ↦ q m i ]
forward_memories zero (suc r) n m one other a b c g p h q =
    subst (λ k. ForwardMemories k (λ m. one m ⊎ other m) a c) (sym (plain r))
    (come_twice one other a b c g.extends h.extends (none_come one n a b g p) q)
forward_memories (suc k) r n m one other a b c g p h q =
    subst (λ t. ForwardMemories t (λ m. one m ⊎ other m) a c) (sym (more k r))
    (come_twice one other a b c g.extends (forward_grown r m b c h).extends p (memories_come r m other b c h q))

settle_twice : (one other : ℕ → Type 0) (a b c : Netlist) → MemoriesSettle other a b → MemoriesSettle one b c
    → MemoriesSettle (λ m. one m ⊎ other m) a c
settle_twice one other a b c p q = record {
  others = λ m apart w. q.others m (λ i. apart (inl i)) (p.others m (λ i. apart (inr i)) w);
  settled =
      λ m w. (let first = q.settled m w in
      let second = p.settled m first.0 in (second.0, λ o. elim o [ inl i ↦ first.1 i | inr i ↦ second.1 i ]));
}

pub backward_memories : (k r : ℕ) (n m : ℕ) (one other : ℕ → Type 0) (a b c : Netlist) → BackwardGrows r m a b
    → BackwardMemories r other a b → BackwardGrows k n b c → BackwardMemories k one b c
    → BackwardMemories (k + r) (λ m. one m ⊎ other m) a c
backward_memories zero zero n m one other a b c g p h q = λ m o. elim o [ inl i ↦ q m i | inr i ↦ p m i ]
backward_memories zero (suc r) n m one other a b c g p h q =
    subst (λ k. BackwardMemories k (λ m. one m ⊎ other m) a c) (sym (plain r))
    (settle_twice one other a b c p (none_settle one n b c h q))
backward_memories (suc k) r n m one other a b c g p h q =
    subst (λ t. BackwardMemories t (λ m. one m ⊎ other m) a c) (sym (more k r))
    (settle_twice one other a b c (memories_settle r m other a b g p) q)

-- a memory that waits is one of the netlist's
pub memory_within : (netlist : Netlist) (m : ℕ) → WaitsForWrite netlist m → m < length netlist.memories
memory_within netlist m w = slice_get_within netlist.memories m w.memory w.is
