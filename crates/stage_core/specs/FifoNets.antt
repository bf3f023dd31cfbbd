-- A queue of so many places, or a wire: what its two calls leave in a netlist.
use Rattle.std.specs.Prelude.{◌≡◌, ℕ}
use Rattle.netlist.specs.Nets.{NetValue}
use Rattle.netlist.specs.Netlists.{Netlist, IsWaiting, WaitsForWrite}
use Rattle.netlist.specs.Longer.{Extends}
use Rattle.item_queues.specs.Queues.{owns, owns_memories}
use Rattle.stage_core.specs.declared.beat.BeatNets.{BeatNets}
use Rattle.stage_core.specs.declared.queue.FifoKept.{FifoKept}
use Rattle.stage_core.specs.declared.queue.FifoKept.TheVariants.{Wire, Stored}
use Rattle.stage_core.specs.StoredNets.{StoredKeeps, StoredForward, StoredBackward, stored_keeps_lasts, stored_forward_lasts, stored_backward_lasts}

-- the numbers of its registers
abbrev pub fifo_owns : FifoKept → ℕ → Type 0
fifo_owns Wire n = ⊥
fifo_owns (Stored kept) n = owns kept.queue n

-- and of its memories
abbrev pub fifo_owns_memories : FifoKept → ℕ → Type 0
fifo_owns_memories Wire m = ⊥
fifo_owns_memories (Stored kept) m = owns_memories kept.queue m

-- between the calls
abbrev pub FifoKeeps : FifoKept → ℕ → Netlist → Type 0
FifoKeeps Wire depth netlist = depth ≡ 0
FifoKeeps (Stored kept) depth netlist = StoredKeeps kept depth netlist

-- after the first call
abbrev pub FifoForward : BeatNets → BeatNets → FifoKept → ℕ → Netlist → Type 0
FifoForward from to Wire depth netlist = (to ≡ from) × (depth ≡ 0)
FifoForward from to (Stored kept) depth netlist = StoredForward from to kept depth netlist

-- after the second call
abbrev pub FifoBackward : Netlist → FifoKept → NetValue → NetValue → Type 0
FifoBackward netlist Wire ready up = up ≡ ready
FifoBackward netlist (Stored kept) ready up = StoredBackward kept ready up netlist

-- ---- what stands lasts. No contract reads these proofs; the law of the queue cites them

pub fifo_keeps_lasts : (kept : FifoKept) (depth : ℕ) (old new : Netlist) → FifoKeeps kept depth old → Extends old new
    → ((n : ℕ) → fifo_owns kept n → IsWaiting old n → IsWaiting new n)
    → ((m : ℕ) → fifo_owns_memories kept m → WaitsForWrite old m → WaitsForWrite new m) → FifoKeeps kept depth new
fifo_keeps_lasts Wire depth old new h e w v = h
fifo_keeps_lasts (Stored kept) depth old new h e w v = stored_keeps_lasts kept depth old new h e w v

pub fifo_forward_lasts : (from to : BeatNets) (kept : FifoKept) (depth : ℕ) (old new : Netlist)
    → FifoForward from to kept depth old → Extends old new → FifoForward from to kept depth new
fifo_forward_lasts from to Wire depth old new h e = h
fifo_forward_lasts from to (Stored kept) depth old new h e = stored_forward_lasts from to kept depth old new h e

pub fifo_backward_lasts : (old new : Netlist) (kept : FifoKept) (ready up : NetValue) → FifoBackward old kept ready up
    → Extends old new → FifoBackward new kept ready up
fifo_backward_lasts old new Wire ready up h e = h
fifo_backward_lasts old new (Stored kept) ready up h e = stored_backward_lasts kept ready up old new h e
