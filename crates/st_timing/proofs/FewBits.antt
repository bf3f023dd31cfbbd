-- The registers of a buffer have few bits.
use Rattle.std.proofs.Common.{◌≡◌, ℕ, ◌≤◌, ◌⊎◌, List, [], ◌∷◌, inl, inr, arith}
use Rattle.netlist.specs.Nets.{NetValue}
use Rattle.netlist.specs.Netlists.{Netlist}
use Rattle.netlist.specs.Longer.{Extends}
use Rattle.net_parts.specs.Groups.{InGroup}
use Rattle.item_queues.specs.declared.queue.ItemQueue.{ItemQueue}
use Rattle.item_queues.specs.Queues.{owns, IsQueueMade}
use Rattle.item_queues.specs.RegisterBits.{HaveFewBits, few_bits_last, few_bits_of_both}
use Rattle.stage_core.specs.BeatPlaces.{place_nets}
use Rattle.st_timing.specs.declared.allowance.AllowanceKept.{AllowanceKept}
use Rattle.st_timing.specs.declared.buffer.BufferKept.{BufferKept}
use Rattle.st_timing.specs.declared.promises.Promises.{Promises}
use Rattle.st_timing.specs.PromiseNets.{owns_promises, ArePromises}
use Rattle.st_timing.specs.AllowanceNets.{AllowanceKeeps}
use Rattle.st_timing.specs.BufferNets.{queue_owns, buffer_owns, BufferKeeps}

-- what item_queues says of the registers of a queue
abbrev pub QueuesKeepFewBits : Type 0
QueuesKeepFewBits = (size : ℕ) (netlist : Netlist) (like : List NetValue) (queue : ItemQueue size) → IsQueueMade netlist like queue → 4 ≤ queue.bound → queue.bound ≤ 255 → HaveFewBits 24 (owns queue) netlist

either_number : (free history : NetValue) (n : ℕ) → (n ≡ free.number) ⊎ (n ≡ history.number) → InGroup (free ∷ history ∷ []) n
either_number free history n (inl e) = inl e
either_number free history n (inr e) = inr (inl e)

promises_few : (netlist : Netlist) (latency : ℕ) (promises : Promises) → latency ≤ 8 → ArePromises netlist latency promises → HaveFewBits 12 (owns_promises promises) netlist
promises_few netlist latency promises few h =
    let narrow = h.narrow in
    let width = h.history.net.has_width in
    record {
      nets = promises.free ∷ promises.history ∷ [];
      are_nets = (h.free, (h.history.net.is_net, tt));
      each = either_number promises.free promises.history;
      few = omega (arith, narrow, width, few);
    }

pub buffer_few : QueuesKeepFewBits → (kept : BufferKept) (latency : ℕ) (old new : Netlist) → 3 ≤ latency → latency ≤ 8 → BufferKeeps kept latency old → Extends old new → HaveFewBits 36 (buffer_owns kept) new
buffer_few law kept latency old new some few h e =
    let same = h.latency_is in
    let bound = h.stored.bound in
    let queue = law 6 old (place_nets kept.stored.from).item kept.stored.queue h.stored.made (omega (arith, some, bound, same)) (omega (arith, few, bound, same)) in
    let promises = promises_few old kept.latency kept.promises (omega (arith, few, same)) h.promises in
    few_bits_last 36 (buffer_owns kept) old new (few_bits_of_both 24 12 (queue_owns kept.stored) (owns_promises kept.promises) old queue promises) e

-- two places and more than two beats of an allowance are four at least
pub allowance_few : QueuesKeepFewBits → (kept : AllowanceKept) (allowance : ℕ) (old new : Netlist) → 2 ≤ allowance → allowance ≤ 16 → AllowanceKeeps kept allowance old → Extends old new → HaveFewBits 24 (owns kept.stored.queue) new
allowance_few law kept allowance old new some few h e =
    let same = h.allowance_is in
    let bound = h.stored.bound in
    few_bits_last 24 (owns kept.stored.queue) old new (law 6 old (place_nets kept.stored.from).item kept.stored.queue h.stored.made (omega (arith, some, bound, same)) (omega (arith, few, bound, same))) e
