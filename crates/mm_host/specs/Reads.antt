-- How the reads of a host are bounded: what two calls leave in a netlist.
use Rattle.std.specs.Prelude.{◌≡◌, ℕ, zero, suc, ◌+◌, ◌-◌, ◌<◌, Bool, true, false, not, ◌&&◌, ◌||◌, nat_lt, if◌then◌else◌}
use Rattle.histories.specs.History.{is_raised, one_if}
use Rattle.iface_roles.specs.declared.records.HostPort.{HostPort}
use Rattle.netlist.specs.Nets.{NetValue}
use Rattle.netlist.specs.Netlists.{Netlist}
use Rattle.netlist.specs.Runs.{Cycle, Run, cycle_of, IsRun, Always}
use Rattle.netlist.specs.Longer.{Extends}
use Rattle.net_parts.specs.Nets.{IsBit, IsNetOfWidth, StartsLow}
use Rattle.net_parts.specs.Laws.{net_lasts}
use Rattle.command_nets.specs.Ports.{ShowsUnless}
use Rattle.mm_host.specs.declared.reads.HeldReads.{HeldReads}
use Rattle.mm_host.specs.declared.reads.HeldReads.TheVariants.{Never, Asks, Counts, Queues, Unbounded}
use Rattle.mm_host.specs.Queued.{QueuesOn, queue_goes_on}

-- ---- after the first call

-- the numbers of the registers
abbrev pub owns_reads : HeldReads → ℕ → Type 0
owns_reads Never n = ⊥
owns_reads (Asks asked) n = n ≡ asked.number
owns_reads (Counts unanswered full) n = n ≡ unanswered.number
owns_reads (Queues unanswered full) n = n ≡ unanswered.number
owns_reads Unbounded n = ⊥

-- the host can't read
pub record ReadsNever (netlist : Netlist) (port : HostPort) (read shown : NetValue) : Type 0 where
  pub kind : port.readdatavalid ≡ false
  pub low : Always netlist (λ cycle. cycle.net read.number ≡ 0)
  pub shows : shown ≡ read

-- without readdatavalid: a register says that the read that stands was taken below
pub record ReadsAsk (netlist : Netlist) (port : HostPort) (read shown asked : NetValue) : Type 0 where
  pub kind : port.readdatavalid ≡ false
  pub net : IsBit netlist asked
  pub starts : StartsLow netlist asked
  pub shows : ShowsUnless netlist asked read shown

-- with readdatavalid: a register counts the reads that aren't answered, up to 16
pub record AreCounted (netlist : Netlist) (read shown unanswered full : NetValue) : Type 0 where
  pub net : IsNetOfWidth netlist unanswered 5
  pub bit : IsBit netlist full
  pub starts : StartsLow netlist unanswered
  pub is_full : Always netlist (λ cycle. is_raised (cycle.net full.number) ≡ not (nat_lt (cycle.net unanswered.number) 16))
  pub shows : ShowsUnless netlist full read shown

-- each of one word
pub record ReadsCount (netlist : Netlist) (port : HostPort) (read shown unanswered full : NetValue) : Type 0 where
  pub kind : port.readdatavalid ≡ true
  pub words : port.burst_bits ≡ 0
  pub counted : AreCounted netlist read shown unanswered full

-- or in bursts
pub record ReadsQueue (netlist : Netlist) (port : HostPort) (read shown unanswered full : NetValue) : Type 0 where
  pub kind : port.readdatavalid ≡ true
  pub counted : AreCounted netlist read shown unanswered full

-- with readdatavalid and reads of one word, fewer than 16 unanswered by what stands below: they go on as they are
pub record ReadsGoBy (port : HostPort) (read shown : NetValue) : Type 0 where
  pub kind : port.readdatavalid ≡ true
  pub words : port.burst_bits ≡ 0
  pub shows : shown ≡ read

abbrev pub AreReadsHeld : Netlist → HostPort → NetValue → NetValue → HeldReads → Type 0
AreReadsHeld netlist port read shown Never = ReadsNever netlist port read shown
AreReadsHeld netlist port read shown (Asks asked) = ReadsAsk netlist port read shown asked
AreReadsHeld netlist port read shown (Counts unanswered full) = ReadsCount netlist port read shown unanswered full
AreReadsHeld netlist port read shown (Queues unanswered full) = ReadsQueue netlist port read shown unanswered full
AreReadsHeld netlist port read shown Unbounded = ReadsGoBy port read shown

-- nothing here bounds the reads
abbrev pub is_unbounded : HeldReads → Bool
is_unbounded Never = false
is_unbounded (Asks asked) = false
is_unbounded (Counts unanswered full) = false
is_unbounded (Queues unanswered full) = false
is_unbounded Unbounded = true

-- ---- after the second call

-- a read is taken below
abbrev pub takes_in : Cycle → NetValue → NetValue → Bool
takes_in cycle shown wait = is_raised (cycle.net shown.number) && not (is_raised (cycle.net wait.number))

-- the reads that are taken below and aren't answered as a cycle begins, where each is of one word
abbrev pub unanswered_in : Run → NetValue → NetValue → NetValue → ℕ → ℕ
unanswered_in run shown wait valid zero = 0
unanswered_in run shown wait valid (suc c) =
    (unanswered_in run shown wait valid c - one_if (is_raised (run.net c valid.number)))
    + one_if (takes_in (cycle_of run c) shown wait)

-- a read waits until its word comes
pub record AsksOn (netlist : Netlist) (read shown asked wait valid told : NetValue) : Type 0 where
  pub tells : Always netlist (λ cycle. is_raised (cycle.net told.number)
      ≡ (if is_raised (cycle.net read.number) then not (is_raised (cycle.net asked.number) && is_raised (cycle.net valid.number))
      else is_raised (cycle.net wait.number)))
  pub next : (run : Run) (cycles : ℕ) → IsRun netlist run cycles → (c : ℕ) → c + 1 < cycles
      → is_raised (run.net (c + 1) asked.number)
      ≡ ((is_raised (run.net c asked.number) || takes_in (cycle_of run c) shown wait)
      && not (is_raised (run.net c valid.number)))

-- a read waits while 16 are unanswered; the count rises where one is taken, and falls where a word comes
pub record CountsOn (netlist : Netlist) (read shown unanswered full wait valid told : NetValue) : Type 0 where
  pub tells : Always netlist (λ cycle. is_raised (cycle.net told.number)
      ≡ ((is_raised (cycle.net full.number) && is_raised (cycle.net read.number)) || is_raised (cycle.net wait.number)))
  pub next : (run : Run) (cycles : ℕ) → IsRun netlist run cycles → (c : ℕ) → c + 1 < cycles
      → run.net c unanswered.number + one_if (takes_in (cycle_of run c) shown wait) < 32
      → run.net (c + 1) unanswered.number
      ≡ (run.net c unanswered.number - one_if (is_raised (run.net c valid.number)))
      + one_if (takes_in (cycle_of run c) shown wait)

abbrev pub ReadsGoOn : Netlist → NetValue → NetValue → NetValue → NetValue → NetValue → NetValue → HeldReads → Type 0
ReadsGoOn netlist read count shown wait valid told Never = told ≡ wait
ReadsGoOn netlist read count shown wait valid told (Asks asked) = AsksOn netlist read shown asked wait valid told
ReadsGoOn netlist read count shown wait valid told (Counts unanswered full) =
    CountsOn netlist read shown unanswered full wait valid told
ReadsGoOn netlist read count shown wait valid told (Queues unanswered full) =
    QueuesOn netlist read count shown unanswered full wait valid told
ReadsGoOn netlist read count shown wait valid told Unbounded = told ≡ wait

-- ---- what stands lasts. No contract reads these proofs; the laws of the host cite them

pub counted_last : (old new : Netlist) (read shown unanswered full : NetValue) → AreCounted old read shown unanswered full
    → Extends old new → AreCounted new read shown unanswered full
counted_last old new read shown unanswered full h e = record {
  net = net_lasts old new unanswered 5 e h.net;
  bit = net_lasts old new full 1 e h.bit;
  starts = λ run cycles r. h.starts run cycles (e.runs run cycles r);
  is_full = λ cycle v. h.is_full cycle (e.valuations cycle v);
  shows = λ cycle v. h.shows cycle (e.valuations cycle v);
}

pub reads_last : (old new : Netlist) (port : HostPort) (read shown : NetValue) (held : HeldReads)
    → AreReadsHeld old port read shown held → Extends old new → AreReadsHeld new port read shown held
reads_last old new port read shown Never h e =
    record { kind = h.kind; low = λ cycle v. h.low cycle (e.valuations cycle v); shows = h.shows }
reads_last old new port read shown (Asks asked) h e = record {
  kind = h.kind;
  net = net_lasts old new asked 1 e h.net;
  starts = λ run cycles r. h.starts run cycles (e.runs run cycles r);
  shows = λ cycle v. h.shows cycle (e.valuations cycle v);
}
reads_last old new port read shown (Counts unanswered full) h e =
    record { kind = h.kind; words = h.words; counted = counted_last old new read shown unanswered full h.counted e }
reads_last old new port read shown (Queues unanswered full) h e =
    record { kind = h.kind; counted = counted_last old new read shown unanswered full h.counted e }
reads_last old new port read shown Unbounded h e = h

pub reads_go_on : (old new : Netlist) (read count shown wait valid told : NetValue) (held : HeldReads)
    → ReadsGoOn old read count shown wait valid told held → Extends old new → ReadsGoOn new read count shown wait valid told held
reads_go_on old new read count shown wait valid told Never h e = h
reads_go_on old new read count shown wait valid told (Asks asked) h e =
    record
    { tells = λ cycle v. h.tells cycle (e.valuations cycle v); next = λ run cycles r. h.next run cycles (e.runs run cycles r) }
reads_go_on old new read count shown wait valid told (Counts unanswered full) h e =
    record
    { tells = λ cycle v. h.tells cycle (e.valuations cycle v); next = λ run cycles r. h.next run cycles (e.runs run cycles r) }
reads_go_on old new read count shown wait valid told (Queues unanswered full) h e =
    queue_goes_on old new read count shown unanswered full wait valid told h e
reads_go_on old new read count shown wait valid told Unbounded h e = h
