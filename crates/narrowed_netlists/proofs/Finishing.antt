-- Memories, their writes and the outputs, one after another.
use Rattle.std.proofs.Common.{◌≡◌, ℕ, ◌+◌, ◌-◌, ◌^◌, ◌<◌, ◌≤◌, ◌⊎◌, inl, inr, List, [], ◌∷◌, ◌++◌, length, slice_get, Option, Some, None, refl, sym, ap, subst, ◌∙◌, arith}
use Rattle.std.specs.Prelude.{◌==◌, ◌&&◌, IfSome, IsSome, option_map, if◌then◌else◌}
use Rattle.std.proofs.lemmas.Bool.{cases_lt}
use Rattle.std.proofs.lemmas.Option.{same_Some}
use Rattle.netlist.specs.declared.line.Memory.{Memory}
use Rattle.netlist.specs.declared.line.MemWrite.{MemWrite}
use Rattle.netlist.specs.Nets.{NetValue, MemValue, mem_of}
use Rattle.netlist.specs.Netlists.{Netlist, IsMem, IsWritten, WaitsForWrite, driver_of}
use Rattle.netlist.specs.Runs.{Run, IsRun}
use Rattle.netlist.specs.Longer.{Extends}
use Rattle.narrowed_netlists.specs.declared.gaps.Gap.{Gap}
use Rattle.narrowed_netlists.specs.Gaps.{narrowed}
use Rattle.narrowed_netlists.specs.Copies.{number_at, AreMems, HaveMemories, HasNarrowMemory, MemoriesWait, HaveWrites, AreDriven}
use Rattle.narrowed_netlists.proofs.Lists.{slice_get-front, slice_get-last}
use Rattle.narrowed_netlists.proofs.Reading.{waits_same}

-- ---- memories

pub mems_more : (whole : Netlist) (gaps : List Gap) (mems : List MemValue) (mem : MemValue) (count : ℕ) (memory : Memory) (gap : Gap) → length mems ≡ count → AreMems whole gaps mems count → slice_get whole.memories count ≡ Some memory
    → slice_get gaps count ≡ Some gap → mem ≡ mem_of count (memory.width - gap.zeros) memory.address_bits → AreMems whole gaps (mems ++ mem ∷ []) (count + 1)
mems_more whole gaps mems mem count memory gap many before at gap_at is m other its lt there its_at = elim (cases_lt m count) [
  | inl less ↦ slice_get-front mems (mem ∷ []) m (mem_of m (other.width - its.zeros) other.address_bits) (before m other its less there its_at)
  | inr from ↦
      (let same : m ≡ count = omega (arith, lt, from) in
      let same_memory : memory ≡ other = same_Some _ _ (sym at ∙ subst (λ k. slice_get whole.memories k ≡ Some other) same there) in
      let same_gap : gap ≡ its = same_Some _ _ (sym gap_at ∙ subst (λ k. slice_get gaps k ≡ Some its) same its_at) in
      subst (λ k. slice_get (mems ++ mem ∷ []) k ≡ Some (mem_of k (other.width - its.zeros) other.address_bits)) (sym same)
      (subst (λ (x : Memory). slice_get (mems ++ mem ∷ []) count ≡ Some (mem_of count (x.width - its.zeros) x.address_bits)) same_memory
      (subst (λ (g : Gap). slice_get (mems ++ mem ∷ []) count ≡ Some (mem_of count (memory.width - g.zeros) memory.address_bits)) same_gap
      (subst (λ k. slice_get (mems ++ mem ∷ []) k ≡ Some mem) many (slice_get-last mems mem) ∙ ap Some is))))
]

pub narrow_more : (whole old new : Netlist) (gaps : List Gap) (mem : MemValue) (count : ℕ) (memory : Memory) (gap : Gap) → Extends old new → HaveMemories whole old gaps count → slice_get whole.memories count ≡ Some memory
    → slice_get gaps count ≡ Some gap → mem ≡ mem_of count (memory.width - gap.zeros) memory.address_bits → IsMem new mem → HaveMemories whole new gaps (count + 1)
narrow_more whole old new gaps mem count memory gap e before at gap_at is there m other lt other_at = elim (cases_lt m count) [
  | inl less ↦ (let has = before m other less other_at in record { gap = has.gap; gap_at = has.gap_at; is = e.memories (mem_of m (other.width - has.gap.zeros) other.address_bits) has.is })
  | inr from ↦
      (let same : m ≡ count = omega (arith, lt, from) in
      let same_memory : memory ≡ other = same_Some _ _ (sym at ∙ subst (λ k. slice_get whole.memories k ≡ Some other) same other_at) in
      subst (λ k. HasNarrowMemory new gaps k other) (sym same) (subst (HasNarrowMemory new gaps count) same_memory (record { gap = gap; gap_at = gap_at; is = subst (IsMem new) is there })))
]

pub narrow_lasts : (whole old new : Netlist) (gaps : List Gap) (count : ℕ) → Extends old new → HaveMemories whole old gaps count → HaveMemories whole new gaps count
narrow_lasts whole old new gaps count e h m memory lt at = (let has = h m memory lt at in record { gap = has.gap; gap_at = has.gap_at; is = e.memories (mem_of m (memory.width - has.gap.zeros) memory.address_bits) has.is })

pub waits_more : (old new : Netlist) (count : ℕ) → MemoriesWait old 0 count → ((m : ℕ) → WaitsForWrite old m → WaitsForWrite new m) → ((m : ℕ) → WaitsForWrite new m → WaitsForWrite old m ⊎ (m ≡ count)) → WaitsForWrite new count
    → MemoriesWait new 0 (count + 1)
waits_more old new count h still newly it = record { all = all; only = only } where
  all : (m : ℕ) → 0 ≤ m → m < count + 1 → WaitsForWrite new m
  all m low lt = elim (cases_lt m count) [
    | inl less ↦ still m (h.all m low less)
    | inr from ↦ (let same : count ≡ m = omega (arith, lt, from) in subst (WaitsForWrite new) same it)
  ]

  only : (m : ℕ) → WaitsForWrite new m → (0 ≤ m) × (m < count + 1)
  only m w = elim (newly m w) [
    | inl was ↦ (let b = h.only m was in let lt = b.1 in (omega arith, omega (arith, lt)))
    | inr same ↦ (omega arith, omega (arith, same))
  ]

-- ---- writes

write_later : (a b : Netlist) (nets : List NetValue) (gap : Gap) (m bits : ℕ) (o : Option MemWrite) → Extends a b
    → IfSome o (λ write. (run : Run) (cycles : ℕ) → IsRun a run cycles → (c : ℕ) → c + 1 < cycles → (address : ℕ) → address < 2 ^ bits
    → run.cell (c + 1) m address
    ≡ (if (run.net c (number_at nets write.enable) == 1) && (run.net c (number_at nets write.address) == address) then narrowed gap (run.net c (number_at nets write.word)) else run.cell c m address))
    → IfSome o (λ write. (run : Run) (cycles : ℕ) → IsRun b run cycles → (c : ℕ) → c + 1 < cycles → (address : ℕ) → address < 2 ^ bits
    → run.cell (c + 1) m address
    ≡ (if (run.net c (number_at nets write.enable) == 1) && (run.net c (number_at nets write.address) == address) then narrowed gap (run.net c (number_at nets write.word)) else run.cell c m address))
write_later a b nets gap m bits None e h = tt
write_later a b nets gap m bits (Some write) e h = λ run cycles r c lt address below. h run cycles (e.runs run cycles r) c lt address below

pub writes_later : (whole a b : Netlist) (gaps : List Gap) (nets : List NetValue) (count : ℕ) → Extends a b → HaveWrites whole a gaps nets count → HaveWrites whole b gaps nets count
writes_later whole a b gaps nets count e h m memory gap lt at gap_at = write_later a b nets gap m memory.address_bits memory.write e (h m memory gap lt at gap_at)

pub writes_more : (whole a b : Netlist) (gaps : List Gap) (nets : List NetValue) (count : ℕ) (memory : Memory) (write : MemWrite) (gap : Gap) → slice_get whole.memories count ≡ Some memory → memory.write ≡ Some write
    → slice_get gaps count ≡ Some gap → Extends a b → HaveWrites whole a gaps nets count
    → ((run : Run) (cycles : ℕ) → IsRun b run cycles → (c : ℕ) → c + 1 < cycles → (address : ℕ) → address < 2 ^ memory.address_bits
    → run.cell (c + 1) count address
    ≡ (if (run.net c (number_at nets write.enable) == 1) && (run.net c (number_at nets write.address) == address) then narrowed gap (run.net c (number_at nets write.word)) else run.cell c count address))
    → HaveWrites whole b gaps nets (count + 1)
writes_more whole a b gaps nets count memory write gap at is gap_is e h step m other its lt there its_at = elim (cases_lt m count) [
  | inl less ↦ write_later a b nets its m other.address_bits other.write e (h m other its less there its_at)
  | inr from ↦
      (let same : m ≡ count = omega (arith, lt, from) in
      let same_memory : memory ≡ other = same_Some _ _ (sym at ∙ subst (λ k. slice_get whole.memories k ≡ Some other) same there) in
      let same_gap : gap ≡ its = same_Some _ _ (sym gap_is ∙ subst (λ k. slice_get gaps k ≡ Some its) same its_at) in
      subst (λ k. Takes k other its other.write) (sym same) (subst (λ (x : Memory). Takes count x its x.write) same_memory (subst (λ (g : Gap). Takes count memory g memory.write) same_gap (subst (Takes count memory gap) (sym is) step))))
] where
  Takes : ℕ → Memory → Gap → Option MemWrite → Type 0
  Takes k x g o = IfSome o (λ w. (run : Run) (cycles : ℕ) → IsRun b run cycles → (c : ℕ) → c + 1 < cycles → (address : ℕ) → address < 2 ^ x.address_bits
      → run.cell (c + 1) k address ≡ (if (run.net c (number_at nets w.enable) == 1) && (run.net c (number_at nets w.address) == address) then narrowed g (run.net c (number_at nets w.word)) else run.cell c k address))

pub waits_fewer : (a b : Netlist) (n count : ℕ) → MemoriesWait a n count → ((m : ℕ) → (m ≡ n → ⊥) → WaitsForWrite a m → WaitsForWrite b m) → ((m : ℕ) → WaitsForWrite b m → WaitsForWrite a m × (m ≡ n → ⊥)) → MemoriesWait b (n + 1) count
waits_fewer a b n count h still no_more = record {
  all = λ m low lt. still m (λ e. omega (arith, low, e)) (h.all m (omega (arith, low)) lt);
  only = λ m w. (let was = no_more m w in let it = h.only m was.0 in let from = it.0 in let below = it.1 in elim (cases_lt n m) [
    | inl more ↦ (omega (arith, more), below)
    | inr same ↦ absurd (was.1 (omega (arith, same, from)))
  ]);
}

pub all_written : (b : Netlist) (count : ℕ) → MemoriesWait b count count → IsWritten b
all_written b count h m w = (let it = h.only m w in let from = it.0 in let below = it.1 in omega (arith, from, below))

-- ---- outputs

pub driven_more : (whole a b : Netlist) (nets : List NetValue) (count : ℕ) → AreDriven whole a nets count → ((k : ℕ) → k < count → driver_of b k ≡ driver_of a k) → driver_of b count ≡ option_map (number_at nets) (driver_of whole count)
    → AreDriven whole b nets (count + 1)
driven_more whole a b nets count h same it k lt = elim (cases_lt k count) [
  | inl less ↦ same k less ∙ h k less
  | inr from ↦ (let e : count ≡ k = omega (arith, lt, from) in subst (λ j. driver_of b j ≡ option_map (number_at nets) (driver_of whole j)) e it)
]

-- a driver that was given for one that is there is there
pub driver_there : (nets : List NetValue) (o found : Option ℕ) → found ≡ option_map (number_at nets) o → IsSome o → IsSome found
driver_there nets (Some n) found e h = subst (λ (x : Option ℕ). IsSome x) (sym e) refl
driver_there nets None found e h = absurd (let none : IsSome {T = ℕ} None = h in cc)

pub all_wait : (a b : Netlist) (low count : ℕ) → b.memories ≡ a.memories → MemoriesWait a low count → MemoriesWait b low count
all_wait a b low count e h = record {
  all = λ m from below. waits_same a b m e (h.all m from below);
  only = λ m w. h.only m (waits_same b a m (sym e) w);
}
