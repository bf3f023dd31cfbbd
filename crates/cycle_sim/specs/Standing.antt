-- Where a simulator stands in a run of its module.
use Rattle.std.specs.Prelude.{◌≡◌, ℕ, ◌+◌, ◌<◌, ◌==◌, if◌then◌else◌, ◌^◌, slice_get, Some}
use Rattle.netlist.specs.declared.line.Memory.{Memory}
use Rattle.netlist.specs.Netlists.{Netlist}
use Rattle.netlist.specs.Runs.{Cycle, Run, cycle_of, StartsAt, Steps, IsRun}
use Rattle.cycle_sim.specs.Sims.{SimValue, present}

-- each word of each memory is 0
abbrev pub IsCleared : Netlist → Cycle → Type 0
IsCleared netlist cycle =
    (m : ℕ) (memory : Memory) → slice_get netlist.memories m ≡ Some memory → (address : ℕ) → address < 2 ^ memory.address_bits
    → cycle.cell m address ≡ 0

-- a cycle that a run of a new simulator may begin with: registers at their reset values, memories cleared
pub record IsFirst (netlist : Netlist) (cycle : Cycle) : Type 0 where
  pub starts : StartsAt netlist cycle
  pub cleared : IsCleared netlist cycle

-- the run obeys the netlist for so many cycles, and begins with cleared memories
pub record IsClearedRun (netlist : Netlist) (run : Run) (cycles : ℕ) : Type 0 where
  pub is_run : IsRun netlist run cycles
  pub cleared : 0 < cycles → IsCleared netlist (cycle_of run 0)

-- The simulator took so many edges of the clock, and the cycles between them were those of this run: what registers and memories
-- hold now is what a cycle may begin with after them.
pub record StandsFor (sim : SimValue) (run : Run) (cycles : ℕ) : Type 0 where
  pub passed : IsClearedRun sim.netlist run cycles
  pub first : cycles ≡ 0 → IsFirst sim.netlist (present sim)
  pub later : (c : ℕ) → c + 1 ≡ cycles → Steps sim.netlist (cycle_of run c) (present sim)

-- the run, but with this cycle at c
abbrev pub with_cycle : Run → ℕ → Cycle → Run
with_cycle run c cycle = record {
  input = λ k port. if k == c then cycle.input port else run.input k port;
  net = λ k n. if k == c then cycle.net n else run.net k n;
  cell = λ k m address. if k == c then cycle.cell m address else run.cell k m address;
}
