-- The registers of a route: the owed words, the place that owes them, and where it is latched, the place of a burst.
use Rattle.std.specs.Prelude.{ℕ, List, [], ◌∷◌, Option, Some, None, IfSome}
use Rattle.netlist.specs.Nets.{NetValue}
use Rattle.netlist.specs.Netlists.{Netlist, IsWaiting}
use Rattle.netlist.specs.Longer.{Extends}
use Rattle.net_parts.specs.Nets.{IsNetOfWidth, IsBit, StartsLow}
use Rattle.net_parts.specs.Groups.{InGroup, AreNumberedFrom}
use Rattle.net_parts.specs.Laws.{net_lasts}
use Rattle.mm_route.specs.declared.registers.LatchNets.{LatchNets}
use Rattle.mm_route.specs.declared.registers.RegisterNets.{RegisterNets}

-- the registers that latch a place
abbrev pub latch_of : Option LatchNets → List NetValue
latch_of None = []
latch_of (Some latch) = latch.inside ∷ latch.kept ∷ []

abbrev pub registers_of : RegisterNets → List NetValue
registers_of registers = registers.owed ∷ registers.owing ∷ latch_of registers.latch

-- a latch is of nets of this netlist, for so many entries
pub record IsLatch (netlist : Netlist) (count : ℕ) (latch : LatchNets) : Type 0 where
  pub inside : IsBit netlist latch.inside
  pub kept : IsNetOfWidth netlist latch.kept count

-- and so are the registers
pub record AreRegisterNets (netlist : Netlist) (registers : RegisterNets) (count room_bits : ℕ) : Type 0 where
  pub owed : IsNetOfWidth netlist registers.owed room_bits
  pub owing : IsNetOfWidth netlist registers.owing count
  pub latch : IfSome registers.latch (IsLatch netlist count)

-- a latch begins low
pub record LatchStartsLow (netlist : Netlist) (latch : LatchNets) : Type 0 where
  pub inside : StartsLow netlist latch.inside
  pub kept : StartsLow netlist latch.kept

-- and so do the registers
pub record RegistersStartLow (netlist : Netlist) (registers : RegisterNets) : Type 0 where
  pub owed : StartsLow netlist registers.owed
  pub owing : StartsLow netlist registers.owing
  pub latch : IfSome registers.latch (LatchStartsLow netlist)

-- they have numbers in a row, and wait for their next nets
pub record RegistersWait (netlist : Netlist) (registers : RegisterNets) : Type 0 where
  pub start : ℕ
  pub numbers : AreNumberedFrom start (registers_of registers)
  pub wait : (n : ℕ) → InGroup (registers_of registers) n → IsWaiting netlist n

-- ---- laws. No contract reads a proof of these

latch_lasts : (a b : Netlist) (count : ℕ) (latch : Option LatchNets) → Extends a b → IfSome latch (IsLatch a count)
    → IfSome latch (IsLatch b count)
latch_lasts a b count None e h = tt
latch_lasts a b count (Some latch) e h =
    record { inside = net_lasts a b latch.inside 1 e h.inside; kept = net_lasts a b latch.kept count e h.kept }

pub register_nets_last : (a b : Netlist) (registers : RegisterNets) (count room_bits : ℕ) → Extends a b
    → AreRegisterNets a registers count room_bits → AreRegisterNets b registers count room_bits
register_nets_last a b registers count room_bits e h = record {
  owed = net_lasts a b registers.owed room_bits e h.owed;
  owing = net_lasts a b registers.owing count e h.owing;
  latch = latch_lasts a b count registers.latch e h.latch;
}

latch_start_lasts : (a b : Netlist) (latch : Option LatchNets) → Extends a b → IfSome latch (LatchStartsLow a)
    → IfSome latch (LatchStartsLow b)
latch_start_lasts a b None e h = tt
latch_start_lasts a b (Some latch) e h =
    record {
      inside =
          λ run cycles r. h.inside run cycles (e.runs run cycles r);
      kept = λ run cycles r. h.kept run cycles (e.runs run cycles r);
    }

pub start_lasts : (a b : Netlist) (registers : RegisterNets) → Extends a b → RegistersStartLow a registers
    → RegistersStartLow b registers
start_lasts a b registers e h = record {
  owed = λ run cycles r. h.owed run cycles (e.runs run cycles r);
  owing = λ run cycles r. h.owing run cycles (e.runs run cycles r);
  latch = latch_start_lasts a b registers.latch e h.latch;
}

pub registers_wait_on : (a b : Netlist) (registers : RegisterNets)
    → ((n : ℕ) → InGroup (registers_of registers) n → IsWaiting a n → IsWaiting b n) → RegistersWait a registers
    → RegistersWait b registers
registers_wait_on a b registers on h = record { start = h.start; numbers = h.numbers; wait = λ n o. on n o (h.wait n o) }
