-- How far a netlist grew, and which registers and memories it left without a next net or a write.
use Rattle.std.specs.Prelude.{◌≡◌, ℕ, ◌+◌, ◌<◌, ◌≤◌, ◌⊎◌, ◌==◌, if◌then◌else◌, length}
use Rattle.netlist.specs.Netlists.{Netlist, IsWaiting, WaitsForWrite}
use Rattle.netlist.specs.Longer.{Extends}

-- ---- nets

-- the netlist grew by so many nets at most; no driver was set, and the memories are the same
pub record GrowsBy (count : ℕ) (old new : Netlist) : Type 0 where
  pub extends : Extends old new
  pub most : length new.lines ≤ length old.lines + count
  pub drivers : new.drivers ≡ old.drivers
  pub memories : new.memories ≡ old.memories

-- the registers that waited wait
abbrev pub StillWait : Netlist → Netlist → Type 0
StillWait old new = (n : ℕ) → IsWaiting old n → IsWaiting new n

-- those that wait are those that waited, and these
abbrev pub WaitsBeside : (ℕ → Type 0) → Netlist → Netlist → Type 0
WaitsBeside made old new = (n : ℕ) → IsWaiting new n → IsWaiting old n ⊎ made n

-- those that waited wait, but for these, which got their next nets
abbrev pub WaitsWithout : (ℕ → Type 0) → Netlist → Netlist → Type 0
WaitsWithout set old new = (n : ℕ) → IsWaiting new n → IsWaiting old n × ¬ set n

-- the numbers of these nets are those of nets that were made between the two
abbrev pub AreMadeBetween : (ℕ → Type 0) → Netlist → Netlist → Type 0
AreMadeBetween made old new = (n : ℕ) → made n → (length old.lines ≤ n) × (n < length new.lines)

-- the netlist grew by no register: no driver was set, the memories are the same, and so are the registers that wait
pub record GrowsAlike (old new : Netlist) : Type 0 where
  pub extends : Extends old new
  pub drivers : new.drivers ≡ old.drivers
  pub memories : new.memories ≡ old.memories
  pub waits : StillWait old new
  pub no_more_wait : StillWait new old

-- and by so many nets at most
pub record AddsNets (count : ℕ) (old new : Netlist) : Type 0 where
  pub grows : GrowsAlike old new
  pub most : length new.lines ≤ length old.lines + count

-- the most nets from a net of so many bits to one of so many: none where they are the same
abbrev pub fit_nets : ℕ → ℕ → ℕ
fit_nets bits wanted = if bits == wanted then 0 else 2

-- ---- memories

-- the netlist grew by so many nets and so many memories at most, and no driver was set
pub record GrowsInMemory (nets memories : ℕ) (old new : Netlist) : Type 0 where
  pub extends : Extends old new
  pub most : length new.lines ≤ length old.lines + nets
  pub most_memories : length new.memories ≤ length old.memories + memories
  pub drivers : new.drivers ≡ old.drivers

-- the memories that waited for their write wait
abbrev pub StillWaitForWrite : Netlist → Netlist → Type 0
StillWaitForWrite old new = (m : ℕ) → WaitsForWrite old m → WaitsForWrite new m

-- those that wait are those that waited, and these
abbrev pub WriteWaitsBeside : (ℕ → Type 0) → Netlist → Netlist → Type 0
WriteWaitsBeside made old new = (m : ℕ) → WaitsForWrite new m → WaitsForWrite old m ⊎ made m

-- those that waited wait, but for these, which got their writes
abbrev pub WriteWaitsWithout : (ℕ → Type 0) → Netlist → Netlist → Type 0
WriteWaitsWithout set old new = (m : ℕ) → WaitsForWrite new m → WaitsForWrite old m × ¬ set m
