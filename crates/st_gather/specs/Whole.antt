-- Netlists that grow by registers and memories, each of which has what it takes from cycle to cycle.
use Rattle.std.specs.Prelude.{◌≡◌, ◌+◌, ◌≤◌, ℕ, length}
use Rattle.netlist.specs.Netlists.{Netlist}
use Rattle.netlist.specs.Longer.{Extends}
use Rattle.net_parts.specs.Growth.{StillWait, StillWaitForWrite}

-- the netlist grew by so many nets at most; no driver was set, and no register or memory waits that didn't
pub record LeavesWhole (count : ℕ) (old new : Netlist) : Type 0 where
  pub extends : Extends old new
  pub most : length new.lines ≤ length old.lines + count
  pub drivers : new.drivers ≡ old.drivers
  pub waits : StillWait new old
  pub waits_for_write : StillWaitForWrite new old
