-- The free places of a buffer and those that it promised: the registers, and what they hold from cycle to cycle.
use Rattle.std.specs.Prelude.{◌≡◌, ℕ, ◌+◌, ◌-◌, ◌^◌, ◌<◌, ◌≤◌, ◌==◌, Bool, not, ◌&&◌, ◌⊎◌}
use Rattle.std.proofs.Common.{refl, inl, inr}
use Rattle.std.specs.Int.{bit_at}
use Rattle.histories.specs.History.{one_if}
use Rattle.netlist.specs.Nets.{NetValue}
use Rattle.netlist.specs.Netlists.{Netlist, IsNet, IsWaiting}
use Rattle.netlist.specs.Runs.{Run, IsRun}
use Rattle.netlist.specs.Longer.{Extends}
use Rattle.net_parts.specs.Nets.{StartsLow}
use Rattle.net_parts.specs.Histories.{IsHistory, TakesBit, history_lasts, takes_lasts}
use Rattle.st_timing.specs.declared.promises.Promises.{Promises}

-- the numbers of the registers
abbrev pub owns_promises : Promises → ℕ → Type 0
owns_promises promises n = (n ≡ promises.free.number) ⊎ (n ≡ promises.history.number)

-- a count of four bits at most that reaches a place more than the latency says, and a bit for each cycle of the latency; both
-- wait for their next nets
pub record ArePromises (netlist : Netlist) (latency : ℕ) (promises : Promises) : Type 0 where
  pub free : IsNet netlist promises.free
  pub wide : latency + 1 < 2 ^ promises.free.width
  pub narrow : promises.free.width ≤ 4
  pub waits : IsWaiting netlist promises.free.number
  pub history : IsHistory netlist promises.history latency
  pub apart : promises.free.number < promises.history.number

-- in each run the net begins with this number
abbrev pub BeginsWith : Netlist → NetValue → ℕ → Type 0
BeginsWith netlist net number = (run : Run) (cycles : ℕ) → IsRun netlist run cycles → 0 < cycles → run.net 0 net.number ≡ number

-- each place is free at first
pub record StartsFree (netlist : Netlist) (latency : ℕ) (promises : Promises) : Type 0 where
  pub free : BeginsWith netlist promises.free (latency + 1)
  pub none : StartsLow netlist promises.history

-- the free places a cycle later, if they fit so many bits: without one that is promised, and with one whose promise isn't used
-- and that of a beat that goes
abbrev pub IsNextFree : ℕ → ℕ → Bool → Bool → Bool → ℕ → Type 0
IsNextFree bits free promised unused goes next =
    one_if promised ≤ free → free - one_if promised + one_if unused + one_if goes < 2 ^ bits
    → next ≡ free - one_if promised + one_if unused + one_if goes

-- ready was high as many cycles ago as the latency says, and no beat comes of it
abbrev pub is_unused : ℕ → ℕ → ℕ → Bool
is_unused latency history comes = (bit_at history (latency - 1) == 1) && not (comes == 1)

-- the history takes each promise, and the count goes on
pub record PromisesGoOn (netlist : Netlist) (latency : ℕ) (promises : Promises) (promised comes goes : NetValue) : Type 0 where
  pub takes : TakesBit netlist promises.history promised
  pub counts : (run : Run) (cycles : ℕ) → IsRun netlist run cycles → (c : ℕ) → c + 1 < cycles
      → IsNextFree promises.free.width (run.net c promises.free.number) (run.net c promised.number == 1)
      (is_unused latency (run.net c promises.history.number) (run.net c comes.number)) (run.net c goes.number == 1)
      (run.net (c + 1) promises.free.number)

-- ---- what stands lasts. No contract reads these proofs; the law of the buffer cites them

pub promises_last : (latency : ℕ) (promises : Promises) (old new : Netlist) → ArePromises old latency promises → Extends old new
    → ((n : ℕ) → owns_promises promises n → IsWaiting old n → IsWaiting new n) → ArePromises new latency promises
promises_last latency promises old new h e w = record {
  free = e.nets _ _ h.free;
  wide = h.wide;
  narrow = h.narrow;
  waits = w promises.free.number (inl refl) h.waits;
  history = history_lasts old new promises.history latency e (w promises.history.number (inr refl)) h.history;
  apart = h.apart;
}

pub free_lasts : (latency : ℕ) (promises : Promises) (old new : Netlist) → StartsFree old latency promises → Extends old new
    → StartsFree new latency promises
free_lasts latency promises old new h e = record {
  free = λ run cycles r. h.free run cycles (e.runs run cycles r);
  none = λ run cycles r. h.none run cycles (e.runs run cycles r);
}

pub going_lasts : (latency : ℕ) (promises : Promises) (promised comes goes : NetValue) (old new : Netlist)
    → PromisesGoOn old latency promises promised comes goes → Extends old new
    → PromisesGoOn new latency promises promised comes goes
going_lasts latency promises promised comes goes old new h e = record {
  takes = takes_lasts old new promises.history promised e h.takes;
  counts = λ run cycles r. h.counts run cycles (e.runs run cycles r);
}
