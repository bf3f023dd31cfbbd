-- What a builder's steps on memories keep.
use Rattle.std.proofs.Common.{◌≡◌, ℕ, ◌+◌, ◌^◌, ◌<◌, ◌≤◌, List, [], ◌∷◌, ◌++◌, length, slice_get, get_or, set, Option, Some, None, refl, sym, subst, ap, ◌∙◌, arith, length-append, ◌⊎◌, inl, inr}
use Rattle.std.specs.Prelude.{◌==◌, ◌&&◌, IfSome, IsSome, if◌then◌else◌}
use Rattle.std.proofs.Math.ListN.{length-set}
use Rattle.netlist.specs.declared.line.Memory.{Memory}
use Rattle.netlist.specs.declared.line.MemWrite.{MemWrite}
use Rattle.netlist.specs.Nets.{MemValue, mem_of}
use Rattle.netlist.specs.Netlists.{Netlist, HasWidth, IsReadOf, IsWriteOf, IsSoundMemory, IsMem, IsWellMade, WaitsForWrite, IsWritten, memory_with, memory_of, write_of, with_memory, with_write}
use Rattle.netlist.specs.Runs.{Run, IsRun, Always}
use Rattle.netlist.specs.Longer.{IsKeptMemory, Extends}
use Rattle.netlist.proofs.Lists.{slice_get-front, slice_get-last, slice_get-newly, slice_get-within, slice_get-set_kept, slice_get-set_newly, slice_get-set_same, slice_get-set_other}
use Rattle.netlist.proofs.Growth.{IsRicher, IsSoundLine-wider, Extends-keeps, kept_same, line_read, operand_known}

-- one more memory

pub IsWellMade-with_memory : (b : Netlist) (x : Memory) → IsWellMade b → length b.memories < 2 ^ 16 → IsSoundMemory b.lines x → IsWellMade (with_memory b x)
IsWellMade-with_memory b x h few sound = record {
  header = h.header;
  few = h.few;
  inputs = h.inputs;
  lines = λ n line at.
      IsSoundLine-wider b.ports b.memories (b.memories ++ x ∷ []) b.lines b.lines n line (λ m memory e. (memory, slice_get-front b.memories (x ∷ []) m memory e, kept_same memory)) (λ m w e. e) (h.lines n line at);
  places = h.places;
  drivers = λ k n d. (let i = h.drivers k n d in record { width = i.width; port = i.port; net = i.net });
  few_memories = (let k = length-append b.memories (x ∷ []) in omega arith);
  memories = λ m memory at. elim (slice_get-newly b.memories x memory m at) [ inl o ↦ h.memories m memory o | inr o ↦ subst (IsSoundMemory b.lines) o.1 sound ];
}

pub Extends-with_memory : (b : Netlist) (x : Memory) → Extends b (with_memory b x)
Extends-with_memory b x = Extends-keeps b (with_memory b x) (record {
  name = refl;
  ports = refl;
  lines = λ n line at. record { later = line; is = at; kept = inl refl };
  drivers = λ k n d. d;
  memories = λ m memory at. record { later = memory; is = slice_get-front b.memories (x ∷ []) m memory at; kept = kept_same memory };
})

-- a memory of so many bits that waits
pub waiting_sound : (b : Netlist) (w bits : ℕ) → 1 ≤ w → w ≤ 128 → 1 ≤ bits → bits ≤ 10 → IsSoundMemory b.lines (memory_with w bits)
waiting_sound b w bits some small address few = record { some_bit = some; small = small; some_address = address; few_addresses = few; write = tt }

pub mem_last : (b : Netlist) (w bits : ℕ) → IsMem (with_memory b (memory_with w bits)) (mem_of (length b.memories) w bits)
mem_last b w bits = record { memory = memory_with w bits; is = slice_get-last b.memories (memory_with w bits); width = refl; address_bits = refl }

pub words_last : (b : Netlist) (w bits : ℕ) → Always (with_memory b (memory_with w bits)) (λ cycle. (address : ℕ) → address < 2 ^ bits → cycle.cell (length b.memories) address < 2 ^ w)
words_last b w bits cycle v = v.words (length b.memories) (memory_with w bits) (slice_get-last b.memories (memory_with w bits))

pub waits_appended : (b : Netlist) (x : Memory) (m : ℕ) → WaitsForWrite b m → WaitsForWrite (with_memory b x) m
waits_appended b x m h = record { memory = h.memory; is = slice_get-front b.memories (x ∷ []) m h.memory h.is; waits = h.waits }

pub waits_newly : (b : Netlist) (x : Memory) (m : ℕ) → WaitsForWrite (with_memory b x) m → WaitsForWrite b m ⊎ (m ≡ length b.memories)
waits_newly b x m h = elim (slice_get-newly b.memories x h.memory m h.is) [
  | inl o ↦ inl (record { memory = h.memory; is = o; waits = h.waits })
  | inr o ↦ inr o.0
]

pub waits_last : (b : Netlist) (x : Memory) → x.write ≡ None → WaitsForWrite (with_memory b x) (length b.memories)
waits_last b x h = record { memory = x; is = slice_get-last b.memories x; waits = h }

-- the fields of a builder with one more memory
pub pushed_memory : (b now : Netlist) (memories : List Memory) (x : Memory) → b ≡ now → memories ≡ b.memories ++ x ∷ [] → record b { memories = memories } ≡ with_memory now x
pushed_memory b now memories x v p = rw (p, ← v) refl

-- and one to which nothing was pushed
pub unpushed_memory : (b now : Netlist) (memories : List Memory) → b ≡ now → memories ≡ b.memories → record b { memories = memories } ≡ now
unpushed_memory b now memories v p = ap (λ (ms : List Memory). record b { memories = ms }) p ∙ v

-- a memory that was read at its place
pub record IsMemRead (mem : MemValue) (memory : Memory) : Type 0 where
  pub width : memory.width ≡ mem.width
  pub bounds : (1 ≤ memory.width) × (memory.width ≤ 128)

pub mem_read : (b now : Netlist) (mem : MemValue) (k : ℕ) (memory : Memory) → b ≡ now → IsWellMade b → k ≡ mem.number → IsMem now mem → memory ≡ get_or b.memories k memory → IsMemRead mem memory
mem_read b now mem k memory v h e is read =
    let here : IsMem b mem = subst (λ (x : Netlist). IsMem x mem) (sym v) is in
    let at = line_read b.memories k mem.number memory e (slice_get-within b.memories mem.number here.memory here.is) read in
    let known = here.is in
    let same : here.memory ≡ memory = cc in
    let sound = h.memories mem.number memory at in
    record { width = ap (λ (x : Memory). x.width) (sym same) ∙ here.width; bounds = (sound.some_bit, sound.small) }

pub written_some : (b : Netlist) (m : ℕ) (memory : Memory) → IsWritten b → slice_get b.memories m ≡ Some memory → IsSome memory.write
written_some b m memory h at = one memory.write refl where
  one : (o : Option MemWrite) → memory.write ≡ o → IsSome o
  one None e = absurd (h m (record { memory = memory; is = at; waits = e }))
  one (Some write) e = refl

-- a memory with its write is what its line tells
pub memory_told : (memory : Memory) (write : MemWrite) → memory.write ≡ Some write →
    memory ≡ memory_of (record { width = memory.width; address_bits = memory.address_bits; enable = write.enable; address = write.address; word = write.word })
memory_told memory write e = ap (λ (o : Option MemWrite). record { width = memory.width; address_bits = memory.address_bits; write = o }) e

-- a read of a memory at a net's address
pub read_known : (b : Netlist) (mem : MemValue) (m x a v w : ℕ) → m ≡ mem.number → x ≡ a → w ≡ mem.width → IsMem b mem → HasWidth b a v → v ≡ mem.address_bits →
    IsReadOf b.memories b.lines (length b.lines) w m x
read_known b mem m x a v w e f g h k same = record {
  memory = h.memory;
  is = subst (λ j. slice_get b.memories j ≡ Some h.memory) (sym e) h.is;
  width = h.width ∙ sym g;
  address = operand_known b x a h.memory.address_bits f (subst (λ u. HasWidth b a u) (same ∙ sym h.address_bits) k);
}

-- setting a memory's write

-- memory m of the netlist waits, and this may be its write
pub record MayWrite (b : Netlist) (m : ℕ) (memory : Memory) (write : MemWrite) : Type 0 where
  pub is : slice_get b.memories m ≡ Some memory
  pub waits : memory.write ≡ None
  pub nets : IsWriteOf b.lines memory write

abbrev pub with_its : Memory → MemWrite → Memory
with_its memory write = record memory { write = Some write }

kept_with : (memory : Memory) (write : MemWrite) → memory.write ≡ None → IsKeptMemory memory (with_its memory write)
kept_with memory write h = record { width = refl; address_bits = refl; write = subst (λ (o : Option MemWrite). IfSome o (λ w. Some write ≡ Some w)) (sym h) tt }

set_richer : (b : Netlist) (m : ℕ) (memory : Memory) (write : MemWrite) → MayWrite b m memory write → IsRicher b.memories (set b.memories m (with_its memory write))
set_richer b m memory write s j x at = elim (slice_get-set_kept b.memories m j (with_its memory write) x at) [
  | inl o ↦ (x, o, kept_same x)
  | inr o ↦ (with_its memory write, o.1, was x (subst (λ k. slice_get b.memories k ≡ Some x) o.0 at))
] where
  was : (y : Memory) → slice_get b.memories m ≡ Some y → IsKeptMemory y (with_its memory write)
  was y e = (let is = s.is in let same : memory ≡ y = cc in subst (λ (z : Memory). IsKeptMemory z (with_its memory write)) same (kept_with memory write s.waits))

pub IsWellMade-with_write : (b : Netlist) (m : ℕ) (memory : Memory) (write : MemWrite) → IsWellMade b → MayWrite b m memory write → IsWellMade (with_write b m memory write)
IsWellMade-with_write b m memory write h s = record {
  header = h.header;
  few = h.few;
  inputs = h.inputs;
  lines = λ n line at. IsSoundLine-wider b.ports b.memories (set b.memories m (with_its memory write)) b.lines b.lines n line (set_richer b m memory write s) (λ k w e. e) (h.lines n line at);
  places = h.places;
  drivers = λ k n d. (let i = h.drivers k n d in record { width = i.width; port = i.port; net = i.net });
  few_memories = rw length-set h.few_memories;
  memories = λ j x at. elim (slice_get-set_newly b.memories m j (with_its memory write) x at) [
    | inl o ↦ h.memories j x o.1
    | inr o ↦ subst (IsSoundMemory b.lines) o.1 sound
  ];
} where
  sound : IsSoundMemory b.lines (with_its memory write)
  sound = (let old = h.memories m memory s.is in record {
    some_bit = old.some_bit;
    small = old.small;
    some_address = old.some_address;
    few_addresses = old.few_addresses;
    write = record { enable = s.nets.enable; address = s.nets.address; word = s.nets.word };
  })

pub Extends-with_write : (b : Netlist) (m : ℕ) (memory : Memory) (write : MemWrite) → MayWrite b m memory write → Extends b (with_write b m memory write)
Extends-with_write b m memory write s = Extends-keeps b (with_write b m memory write) (record {
  name = refl;
  ports = refl;
  lines = λ n line at. record { later = line; is = at; kept = inl refl };
  drivers = λ k n d. d;
  memories = λ j x at. (let l = set_richer b m memory write s j x at in record { later = l.0; is = l.1; kept = l.2 });
})

-- with the clock the memory takes what its write puts
pub with_write-steps : (b : Netlist) (m bits : ℕ) (memory : Memory) (write : MemWrite) → MayWrite b m memory write → memory.address_bits ≡ bits → (run : Run) (cycles : ℕ) →
    IsRun (with_write b m memory write) run cycles → (c : ℕ) → c + 1 < cycles → (place : ℕ) → place < 2 ^ bits →
    run.cell (c + 1) m place ≡ (if (run.net c write.enable == 1) && (run.net c write.address == place) then run.net c write.word else run.cell c m place)
with_write-steps b m bits memory write s e run cycles r c lt place inside =
    let is = slice_get-set_same b.memories m (with_its memory write) (slice_get-within b.memories m memory s.is) in
    (r.steps c lt).words m (with_its memory write) is place (subst (λ k. place < 2 ^ k) (sym e) inside)

pub waits_set : (b : Netlist) (m n : ℕ) (memory : Memory) (write : MemWrite) → (n ≡ m → ⊥) → WaitsForWrite b n → WaitsForWrite (with_write b m memory write) n
waits_set b m n memory write d h = record { memory = h.memory; is = slice_get-set_other b.memories m n (with_its memory write) h.memory d h.is; waits = h.waits }

pub waits_unset : (b : Netlist) (m n : ℕ) (memory : Memory) (write : MemWrite) → WaitsForWrite (with_write b m memory write) n → WaitsForWrite b n × (n ≡ m → ⊥)
waits_unset b m n memory write h = elim (slice_get-set_newly b.memories m n (with_its memory write) h.memory h.is) [
  | inl o ↦ (record { memory = h.memory; is = o.1; waits = h.waits }, o.0)
  | inr o ↦ absurd (let set : Some write ≡ h.memory.write = ap (λ (x : Memory). x.write) o.1 in let waits = h.waits in cc)
]

-- the memory that waits is the one that is named, and these nets are its write
pub may_write : (b : Netlist) (mem : MemValue) (e a w v bits width : ℕ) → IsMem b mem → (waiting : WaitsForWrite b mem.number) → HasWidth b e v → v ≡ 1 → HasWidth b a bits → bits ≡ mem.address_bits →
    HasWidth b w width → width ≡ mem.width → MayWrite b mem.number waiting.memory (write_of e a w)
may_write b mem e a w v bits width is waiting p q r s t u =
    let known = is.is in
    let at = waiting.is in
    let same : is.memory ≡ waiting.memory = cc in
    let has_bits : bits ≡ waiting.memory.address_bits = s ∙ sym is.address_bits ∙ ap (λ (x : Memory). x.address_bits) same in
    let has_width : width ≡ waiting.memory.width = u ∙ sym is.width ∙ ap (λ (x : Memory). x.width) same in
    record {
      is = waiting.is;
      waits = waiting.waits;
      nets = record { enable = subst (HasWidth b e) q p; address = subst (HasWidth b a) has_bits r; word = subst (HasWidth b w) has_width t };
    }

-- one memory has one count of address bits
pub mem_bits : (b : Netlist) (mem : MemValue) (memory : Memory) → IsMem b mem → slice_get b.memories mem.number ≡ Some memory → memory.address_bits ≡ mem.address_bits
mem_bits b mem memory is at =
    let known = is.is in
    let same : memory ≡ is.memory = cc in
    ap (λ (x : Memory). x.address_bits) same ∙ is.address_bits

-- the fields of a builder in which a memory was set
pub set_memory_view : (b now : Netlist) (k n : ℕ) (read memory x : Memory) (write given : MemWrite) → b ≡ now → k ≡ n → n < length now.memories → read ≡ get_or b.memories k read →
    slice_get now.memories n ≡ Some memory → x ≡ with_its read write → write ≡ given → record b { memories = set b.memories k x } ≡ with_write now n memory given
set_memory_view b now k n read memory x write given v e lt is at p q =
    let few : n < length b.memories = subst (λ (y : Netlist). n < length y.memories) (sym v) lt in
    let here : slice_get now.memories n ≡ Some read = subst (λ (y : Netlist). slice_get y.memories n ≡ Some read) v (line_read b.memories k n read e few is) in
    let same : read ≡ memory = cc in
    rw (p, q, same, v, e) refl

pub nets_are : (e a w f b v : ℕ) → e ≡ f → a ≡ b → w ≡ v → write_of e a w ≡ write_of f b v
nets_are e a w f b v p q r = rw (p, q, r) refl
