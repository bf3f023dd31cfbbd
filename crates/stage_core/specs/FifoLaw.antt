-- The nets of a queue, or of a wire, are the machine of a queue.
use Rattle.std.proofs.Common.{◌≡◌, ℕ, sym, subst}
use Rattle.netlist.specs.Nets.{NetValue}
use Rattle.netlist.specs.Netlists.{Netlist}
use Rattle.netlist.specs.Runs.{Cycle, IsValuation}
use Rattle.stage_core.specs.declared.beat.BeatNets.{BeatNets}
use Rattle.stage_core.specs.declared.queue.FifoKept.{FifoKept}
use Rattle.stage_core.specs.declared.queue.FifoKept.TheVariants.{Wire, Stored}
use Rattle.stage_core.specs.Beats.{ShowSame}
use Rattle.net_parts.specs.Memories.{SameWords}
use Rattle.stage_core.specs.Queued.{QueuesInLonger}
use Rattle.stage_core.specs.FifoNets.{fifo_owns, fifo_owns_memories, FifoForward, FifoBackward}
use Rattle.stage_core.specs.QueueLaw.{wire_queues}
use Rattle.stage_core.specs.StoredLaw.{stored_queues, stored_ignores}

pub fifo_queues : (from to : BeatNets) (kept : FifoKept) (depth : ℕ) (ready up : NetValue) (netlist : Netlist)
    → FifoForward from to kept depth netlist → FifoBackward netlist kept ready up → QueuesInLonger depth netlist from up to ready
fifo_queues from to Wire depth ready up netlist f b = wire_queues from to depth ready up netlist f.0 f.1 b
fifo_queues from to (Stored kept) depth ready up netlist f b = stored_queues from to kept depth ready up netlist f b

pub fifo_ignores : (from to : BeatNets) (kept : FifoKept) (depth : ℕ) (netlist : Netlist) (one other : Cycle)
    → FifoForward from to kept depth netlist → IsValuation netlist one → IsValuation netlist other →
    ((n : ℕ) → fifo_owns kept n → one.net n ≡ other.net n) → SameWords (fifo_owns_memories kept) netlist one other
    → ShowSame from one other → ShowSame to one other
fifo_ignores from to Wire depth netlist one other f v w state words same =
    subst (λ (n : BeatNets). ShowSame n one other) (sym f.0) same
fifo_ignores from to (Stored kept) depth netlist one other f v w state words same =
    stored_ignores from to kept depth netlist one other f v w state words same
