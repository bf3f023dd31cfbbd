-- Memories for all nets of an item: one for each net, read and written at one place of each.
use Rattle.std.specs.Prelude.{◌≡◌, ℕ, ◌+◌, ◌^◌, ◌<◌, ◌==◌, ◌&&◌, ◌⊎◌, if◌then◌else◌, List, [], ◌∷◌, length, map}
use Rattle.std.proofs.Common.{arith, inl, inr}
use Rattle.netlist.specs.Nets.{NetValue, MemValue}
use Rattle.netlist.specs.Netlists.{Netlist, IsMem}
use Rattle.netlist.specs.Runs.{Cycle, cycle_of}
use Rattle.netlist.specs.Longer.{Extends}
use Rattle.net_parts.specs.Groups.{values_of, IsInRow}
use Rattle.item_queues.specs.Steps.{EachStep}

-- a memory of this netlist, with addresses of so many bits
pub record IsMemOf (netlist : Netlist) (address_bits : ℕ) (mem : MemValue) : Type 0 where
  pub is_mem : IsMem netlist mem
  pub has_address : mem.address_bits ≡ address_bits

abbrev pub AreMems : Netlist → ℕ → List MemValue → Type 0
AreMems netlist address_bits [] = Unit {0}
AreMems netlist address_bits (mem ∷ mems) = IsMemOf netlist address_bits mem × AreMems netlist address_bits mems

abbrev pub mem_widths : List MemValue → List ℕ
mem_widths mems = map (λ (mem : MemValue). mem.width) mems

-- the memories have numbers in a row, from this one on
abbrev pub AreMemsFrom : ℕ → List MemValue → Type 0
AreMemsFrom from [] = Unit {0}
AreMemsFrom from (mem ∷ mems) = (mem.number ≡ from) × AreMemsFrom (from + 1) mems

-- from some number on
pub record AreMemsInRow (mems : List MemValue) : Type 0 where
  pub start : ℕ
  pub numbers : AreMemsFrom start mems

-- the number is that of one of the memories
abbrev pub InMems : List MemValue → ℕ → Type 0
InMems [] m = ⊥
InMems (mem ∷ mems) m = (m ≡ mem.number) ⊎ InMems mems m

-- the values of the item at a place
abbrev pub item_at : Cycle → List MemValue → ℕ → List ℕ
item_at cycle mems place = map (λ (mem : MemValue). cycle.cell mem.number place) mems

-- in each run the item on these nets goes to the place where the bit is high, and the other places keep theirs
abbrev pub TakesItems : Netlist → List MemValue → NetValue → NetValue → List NetValue → Type 0
TakesItems netlist mems comes place item =
    EachStep netlist (λ run c. (k : ℕ) → k < 2 ^ place.width
    → item_at (cycle_of run (c + 1)) mems k
    ≡ (if (run.net c comes.number == 1) && (run.net c place.number == k) then values_of (cycle_of run c) item
    else item_at (cycle_of run c) mems k))

-- ---- laws. No contract reads a proof of these

pub mems_last : (old new : Netlist) (address_bits : ℕ) (mems : List MemValue) → AreMems old address_bits mems → Extends old new
    → AreMems new address_bits mems
mems_last old new address_bits [] h e = tt
mems_last old new address_bits (mem ∷ mems) h e =
    (record { is_mem = e.memories mem h.0.is_mem; has_address = h.0.has_address }, mems_last old new address_bits mems h.1 e)

-- a memory's number
pub mems_in_row : (from : ℕ) (mems : List MemValue) → AreMemsFrom from mems → (m : ℕ) → InMems mems m
    → IsInRow from (length mems) m
mems_in_row from [] h m o = absurd o
mems_in_row from (mem ∷ mems) h m (inl e) =
    record { least = (let at = h.0 in omega (arith, at, e)); below = (let at = h.0 in omega (arith, at, e)) }
mems_in_row from (mem ∷ mems) h m (inr o) =
    let rest = mems_in_row (from + 1) mems h.1 m o in
    record { least = (let low = rest.least in omega arith); below = (let high = rest.below in omega arith) }

-- one of these numbers is that of a memory of the netlist
pub mem_of_number : (netlist : Netlist) (address_bits : ℕ) (mems : List MemValue) → AreMems netlist address_bits mems → (m : ℕ)
    → InMems mems m → (mem : MemValue) × (m ≡ mem.number) × IsMemOf netlist address_bits mem
mem_of_number netlist address_bits [] h m o = absurd o
mem_of_number netlist address_bits (mem ∷ mems) h m (inl e) = (mem, e, h.0)
mem_of_number netlist address_bits (mem ∷ mems) h m (inr o) = mem_of_number netlist address_bits mems h.1 m o
