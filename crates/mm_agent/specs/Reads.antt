-- How the reads of an agent are bounded: what two calls leave in a netlist.
use Rattle.std.specs.Prelude.{◌≡◌, ℕ, ◌+◌, ◌-◌, ◌^◌, ◌<◌, Bool, true, false, not, ◌&&◌, ◌||◌, nat_lt, Option, Some, None}
use Rattle.histories.specs.History.{is_raised, one_if}
use Rattle.iface_roles.specs.declared.records.AgentPort.{AgentPort}
use Rattle.netlist.specs.Nets.{NetValue}
use Rattle.netlist.specs.Netlists.{Netlist, IsNet}
use Rattle.netlist.specs.Runs.{Cycle, Run, cycle_of, IsRun, Always}
use Rattle.netlist.specs.Longer.{Extends}
use Rattle.net_parts.specs.Nets.{IsBit, IsNetOfWidth, StartsLow}
use Rattle.net_parts.specs.Histories.{TakesBit, takes_lasts}
use Rattle.net_parts.specs.Laws.{net_lasts}
use Rattle.memory_parts.specs.Agent.{row_places}
use Rattle.memory_runs.specs.Sides.{agent_side, bound_of}
use Rattle.command_nets.specs.Ports.{ShowsUnless}
use Rattle.read_queues.specs.declared.queue.HeldReadQueue.{HeldReadQueue}
use Rattle.read_queues.specs.Held.{owns_queue, IsQueueMade, queue_lasts}
use Rattle.mm_agent.specs.declared.reads.HeldReads.{HeldReads}
use Rattle.mm_agent.specs.declared.reads.HeldReads.TheVariants.{Never, Counts, Row, Queued}

-- ---- what is shown

-- the queue that holds the reads, where one does
abbrev pub held_queue : HeldReads → Option HeldReadQueue
held_queue Never = None
held_queue (Counts unanswered full) = None
held_queue (Row row) = None
held_queue (Queued queue) = Some queue

-- the numbers of the registers
abbrev pub owns_reads : HeldReads → ℕ → Type 0
owns_reads Never n = ⊥
owns_reads (Counts unanswered full) n = n ≡ unanswered.number
owns_reads (Row row) n = n ≡ row.number
owns_reads (Queued queue) n = owns_queue queue n

-- those that the part sets itself
abbrev pub sets_reads : HeldReads → ℕ → Type 0
sets_reads Never n = ⊥
sets_reads (Counts unanswered full) n = n ≡ unanswered.number
sets_reads (Row row) n = n ≡ row.number
sets_reads (Queued queue) n = ⊥

-- the most nets that bound the reads, beside those of a queue: of the first call, and of the second one
abbrev pub hold_nets : Option HeldReadQueue → ℕ
hold_nets None = 5
hold_nets (Some queue) = 2

abbrev pub finish_nets : Option HeldReadQueue → ℕ
finish_nets None = 12
finish_nets (Some queue) = 2

-- a queue for the reads of an agent with readdatavalid, with the agent's bound
pub record IsReadQueue (netlist : Netlist) (port : AgentPort) (queue : HeldReadQueue) : Type 0 where
  pub reads : port.reads ≡ true
  pub kind : port.readdatavalid ≡ true
  pub made : IsQueueMade netlist queue
  pub bound : queue.bound ≡ bound_of port

-- the agent can't read
pub record ReadsNever (port : AgentPort) : Type 0 where
  pub reads : port.reads ≡ false
  pub kind : port.readdatavalid ≡ false

-- with readdatavalid: a register counts the reads that aren't answered, up to the agent's bound
pub record ReadsCount (netlist : Netlist) (port : AgentPort) (read shown unanswered full : NetValue) : Type 0 where
  pub reads : port.reads ≡ true
  pub kind : port.readdatavalid ≡ true
  pub net : IsNet netlist unanswered
  pub wide : bound_of port < 2 ^ unanswered.width
  pub bit : IsBit netlist full
  pub starts : StartsLow netlist unanswered
  pub is_full : Always netlist (λ cycle. is_raised (cycle.net full.number)
      ≡ not (nat_lt (cycle.net unanswered.number) (bound_of port)))
  pub shows : ShowsUnless netlist full read shown

-- with fixed latency: a register has a bit for each cycle between a read and its word
pub record ReadsRow (netlist : Netlist) (port : AgentPort) (read shown row : NetValue) : Type 0 where
  pub reads : port.reads ≡ true
  pub kind : port.readdatavalid ≡ false
  pub net : IsNetOfWidth netlist row (row_places (agent_side port))
  pub starts : StartsLow netlist row
  pub shows : shown ≡ read

-- with readdatavalid: a queue holds the reads that aren't answered
pub record ReadsQueue (netlist : Netlist) (port : AgentPort) (read shown : NetValue) (queue : HeldReadQueue) : Type 0 where
  pub is : IsReadQueue netlist port queue
  pub shows : ShowsUnless netlist queue.full read shown

abbrev pub AreReadsHeld : Netlist → AgentPort → NetValue → NetValue → HeldReads → Type 0
AreReadsHeld netlist port read shown Never = ReadsNever port
AreReadsHeld netlist port read shown (Counts unanswered full) = ReadsCount netlist port read shown unanswered full
AreReadsHeld netlist port read shown (Row row) = ReadsRow netlist port read shown row
AreReadsHeld netlist port read shown (Queued queue) = ReadsQueue netlist port read shown queue

-- the register of a row is a net of this netlist
abbrev pub IsRowThere : Netlist → AgentPort → HeldReads → Type 0
IsRowThere netlist port Never = Unit {0}
IsRowThere netlist port (Counts unanswered full) = Unit {0}
IsRowThere netlist port (Row row) = IsNetOfWidth netlist row (row_places (agent_side port))
IsRowThere netlist port (Queued queue) = Unit {0}

-- ---- what is told above, and how the registers go on

-- a read is taken
abbrev pub takes_in : Cycle → NetValue → NetValue → Bool
takes_in cycle shown busy = is_raised (cycle.net shown.number) && not (is_raised (cycle.net busy.number))

-- a count of so many bits falls where a word comes, and rises where a read is taken, if that fits
abbrev pub IsNextCount : ℕ → ℕ → ℕ → ℕ → ℕ → Type 0
IsNextCount bits count taken valid next =
    count + one_if (is_raised taken) < 2 ^ bits → next ≡ (count - one_if (is_raised valid)) + one_if (is_raised taken)

-- a read waits while the agent bears no more, and each beat while the agent is busy
abbrev pub TellsWait : Netlist → NetValue → NetValue → NetValue → NetValue → Type 0
TellsWait netlist read full busy told =
    Always netlist (λ cycle. is_raised (cycle.net told.number)
    ≡ ((is_raised (cycle.net full.number) && is_raised (cycle.net read.number)) || is_raised (cycle.net busy.number)))

pub record CountsOn (netlist : Netlist) (read shown unanswered full busy valid told : NetValue) : Type 0 where
  pub tells : TellsWait netlist read full busy told
  pub next : (run : Run) (cycles : ℕ) → IsRun netlist run cycles → (c : ℕ) → c + 1 < cycles
      → run.net c unanswered.number + one_if (takes_in (cycle_of run c) shown busy) < 2 ^ unanswered.width
      → run.net (c + 1) unanswered.number
      ≡ (run.net c unanswered.number - one_if (is_raised (run.net c valid.number)))
      + one_if (takes_in (cycle_of run c) shown busy)

-- each read that is taken goes along the row, and a beat waits while the agent is busy
pub record RowGoesOn (netlist : Netlist) (shown row busy told : NetValue) : Type 0 where
  pub tells : told ≡ busy
  pub taken : NetValue
  pub is_taken : Always netlist (λ cycle. is_raised (cycle.net taken.number) ≡ takes_in cycle shown busy)
  pub takes : TakesBit netlist row taken

abbrev pub ReadsGoOn : Netlist → NetValue → NetValue → NetValue → NetValue → NetValue → HeldReads → Type 0
ReadsGoOn netlist read shown busy valid told Never = told ≡ busy
ReadsGoOn netlist read shown busy valid told (Counts unanswered full) =
    CountsOn netlist read shown unanswered full busy valid told
ReadsGoOn netlist read shown busy valid told (Row row) = RowGoesOn netlist shown row busy told
ReadsGoOn netlist read shown busy valid told (Queued queue) = TellsWait netlist read queue.full busy told

-- ---- what stands lasts. No contract reads these proofs; the laws of the agent cite them

pub read_queue_lasts : (old new : Netlist) (port : AgentPort) (queue : HeldReadQueue) → IsReadQueue old port queue
    → Extends old new → IsReadQueue new port queue
read_queue_lasts old new port queue h e =
    record { reads = h.reads; kind = h.kind; made = queue_lasts old new queue h.made e; bound = h.bound }

pub reads_last : (old new : Netlist) (port : AgentPort) (read shown : NetValue) (held : HeldReads)
    → AreReadsHeld old port read shown held → Extends old new → AreReadsHeld new port read shown held
reads_last old new port read shown Never h e = h
reads_last old new port read shown (Counts unanswered full) h e = record {
  reads = h.reads;
  kind = h.kind;
  net = e.nets unanswered.number unanswered.width h.net;
  wide = h.wide;
  bit = net_lasts old new full 1 e h.bit;
  starts = λ run cycles r. h.starts run cycles (e.runs run cycles r);
  is_full = λ cycle v. h.is_full cycle (e.valuations cycle v);
  shows = λ cycle v. h.shows cycle (e.valuations cycle v);
}
reads_last old new port read shown (Row row) h e =
    record {
      reads =
          h.reads;
      kind =
          h.kind;
      net =
          net_lasts old new row (row_places (agent_side port)) e h.net;
      starts =
          λ run cycles r. h.starts run cycles (e.runs run cycles r);
      shows = h.shows;
    }
reads_last old new port read shown (Queued queue) h e =
    record { is = read_queue_lasts old new port queue h.is e; shows = λ cycle v. h.shows cycle (e.valuations cycle v) }

pub row_is_there : (netlist : Netlist) (port : AgentPort) (read shown : NetValue) (held : HeldReads)
    → AreReadsHeld netlist port read shown held → IsRowThere netlist port held
row_is_there netlist port read shown Never h = tt
row_is_there netlist port read shown (Counts unanswered full) h = tt
row_is_there netlist port read shown (Row row) h = h.net
row_is_there netlist port read shown (Queued queue) h = tt

pub reads_go_on : (old new : Netlist) (read shown busy valid told : NetValue) (held : HeldReads)
    → ReadsGoOn old read shown busy valid told held → Extends old new → ReadsGoOn new read shown busy valid told held
reads_go_on old new read shown busy valid told Never h e = h
reads_go_on old new read shown busy valid told (Counts unanswered full) h e =
    record
    { tells = λ cycle v. h.tells cycle (e.valuations cycle v); next = λ run cycles r. h.next run cycles (e.runs run cycles r) }
reads_go_on old new read shown busy valid told (Row row) h e =
    record {
      tells =
          h.tells;
      taken =
          h.taken;
      is_taken = λ cycle v. h.is_taken cycle (e.valuations cycle v);
      takes = takes_lasts old new row h.taken e h.takes;
    }
reads_go_on old new read shown busy valid told (Queued queue) h e = λ cycle v. h cycle (e.valuations cycle v)
