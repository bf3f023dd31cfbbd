-- What a maker of the tests keeps of a builder.
use Rattle.std.specs.Prelude.{◌≡◌}
use Rattle.netlist.specs.Netlists.{Netlist}
use Rattle.net_parts.specs.Growth.{StillWait, StillWaitForWrite}

-- a netlist with the same ports, in which no more registers wait, and no more memories
pub record StaysWhole (old new : Netlist) : Type 0 where
  pub ports : new.ports ≡ old.ports
  pub no_more_wait : StillWait new old
  pub no_more_write : StillWaitForWrite new old
