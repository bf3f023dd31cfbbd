-- Netlists that grow: what a longer one keeps.
use Rattle.std.specs.Prelude.{◌≡◌, ◌⊎◌, ℕ, ◌+◌, ◌≤◌, true, length, slice_get, Some, IfSome}
use Rattle.netlist.specs.declared.line.Line.{Line}
use Rattle.netlist.specs.declared.line.Memory.{Memory}
use Rattle.netlist.specs.Nets.{MemValue}
use Rattle.netlist.specs.Netlists.{Netlist, HasWidth, IsMem, driver_of, IsWaiting, with_next}
use Rattle.netlist.specs.Runs.{Run, Cycle, IsValuation, IsRun}

-- a register that waited, with a next net
pub record IsSetFrom (line later : Line) : Type 0 where
  pub waits : line.waits ≡ true
  pub next : ℕ
  pub is : later ≡ with_next line next

-- a line as a longer list may have it: unchanged, but that a register that waited may have got its next net
abbrev pub IsKept : Line → Line → Type 0
IsKept line later = (later ≡ line) ⊎ IsSetFrom line later

-- line n stands in the list, kept
pub record KeepsLine (netlist : Netlist) (n : ℕ) (line : Line) : Type 0 where
  pub later : Line
  pub is : slice_get netlist.lines n ≡ Some later
  pub kept : IsKept line later

-- a memory as a longer list may have it: one that waited may have got its write
pub record IsKeptMemory (memory later : Memory) : Type 0 where
  pub width : later.width ≡ memory.width
  pub address_bits : later.address_bits ≡ memory.address_bits
  pub write : IfSome memory.write (λ write. later.write ≡ Some write)

-- memory m stands in the list, kept
pub record KeepsMemory (netlist : Netlist) (m : ℕ) (memory : Memory) : Type 0 where
  pub later : Memory
  pub is : slice_get netlist.memories m ≡ Some later
  pub kept : IsKeptMemory memory later

-- name, ports, each line, each driver and each memory of the old netlist stand in the new one
pub record Keeps (old new : Netlist) : Type 0 where
  pub name : new.name ≡ old.name
  pub ports : new.ports ≡ old.ports
  pub lines : (n : ℕ) (line : Line) → slice_get old.lines n ≡ Some line → KeepsLine new n line
  pub drivers : (k n : ℕ) → driver_of old k ≡ Some n → driver_of new k ≡ Some n
  pub memories : (m : ℕ) (memory : Memory) → slice_get old.memories m ≡ Some memory → KeepsMemory new m memory

-- the new netlist keeps the old one, whose nets and memories are those of the new one too; the new one's valuations and runs are
-- valuations and runs of the old one
pub record Extends (old new : Netlist) : Type 0 where
  pub keeps : Keeps old new
  pub nets : (n w : ℕ) → HasWidth old n w → HasWidth new n w
  pub memories : (mem : MemValue) → IsMem old mem → IsMem new mem
  pub valuations : (cycle : Cycle) → IsValuation new cycle → IsValuation old cycle
  pub runs : (run : Run) (cycles : ℕ) → IsRun new run cycles → IsRun old run cycles
  pub count : length old.lines ≤ length new.lines

-- the netlist grew by one net at most; no driver was set, the same registers wait, and the memories are the same
pub record GrowsByOne (old new : Netlist) : Type 0 where
  pub most : length new.lines ≤ length old.lines + 1
  pub drivers : new.drivers ≡ old.drivers
  pub waits : (n : ℕ) → IsWaiting old n → IsWaiting new n
  pub no_more_wait : (n : ℕ) → IsWaiting new n → IsWaiting old n
  pub memories : new.memories ≡ old.memories
