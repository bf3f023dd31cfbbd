-- The reads that a host has unanswered at its seat: no more than the agent bears, whoever else has a seat there.
use Rattle.std.proofs.Common.{◌≡◌, ℕ, zero, suc, ◌+◌, ◌-◌, ◌*◌, ◌^◌, ◌<◌, ◌≤◌, Bool, true, false, not, ◌&&◌, ◌||◌, cond, if◌then◌else◌, nat_eq, nat_lt, List, [], ◌∷◌, length, Some, None, is_some, refl, sym, subst, ap, ◌∙◌, arith}
use Rattle.std.proofs.Math.Nat.{le-max_left}
use Rattle.std.specs.List.{AllZip}
use Rattle.std.proofs.lemmas.Bool.{and_parts, ltb-true, eqb-true, eq-eqb, le-leb, false≢true}
use Rattle.std.proofs.lemmas.Option.{same_Some, none-some}
use Rattle.histories.specs.History.{is_raised, one_if}
use Rattle.iface_roles.specs.declared.records.AgentPort.{AgentPort}
use Rattle.netlist.specs.Nets.{NetValue}
use Rattle.netlist.specs.Netlists.{Netlist}
use Rattle.netlist.specs.Runs.{Cycle, Run, cycle_of, IsEndlessRun}
use Rattle.netlist.specs.Longer.{Extends}
use Rattle.net_parts.specs.Histories.{earlier}
use Rattle.net_parts.specs.HistoryLaw.{history_bits}
use Rattle.net_parts.specs.Laws.{extends_twice, extends_none}
use Rattle.memory_runs.specs.Views.{Shape}
use Rattle.memory_machines.specs.Lines.{TaggedPort}
use Rattle.memory_machines.specs.Machines.{Raw}
use Rattle.memory_parts.specs.Agent.{row_places}
use Rattle.memory_runs.specs.Sides.{agent_side, bound_of}
use Rattle.command_nets.specs.declared.nets.CommandNets.{CommandNets}
use Rattle.command_nets.specs.declared.nets.AnswerNets.{AnswerNets}
use Rattle.command_nets.specs.Nets.{Widths}
use Rattle.command_nets.specs.Ports.{value_or}
use Rattle.read_queues.specs.declared.queue.HeldReadQueue.{HeldReadQueue}
use Rattle.read_queues.specs.declared.queue.ReadTraffic.{ReadTraffic}
use Rattle.read_queues.specs.Held.{entry_in}
use Rattle.read_queues.specs.Queues.{queue_in, IsTakenInRoom, ShowsQueue}
use Rattle.mm_host.specs.Reads.{unanswered_in, takes_in}
use Rattle.mm_agent.specs.declared.reads.HeldReads.{HeldReads}
use Rattle.mm_agent.specs.declared.reads.HeldReads.TheVariants.{Never, Counts, Row, Queued}
use Rattle.mm_agent.specs.declared.nets.AgentNets.{AgentNets}
use Rattle.mm_agent.specs.declared.nets.AgentMade.{AgentMade}
use Rattle.mm_agent.specs.Agents.{counts_words, needs_queue}
use Rattle.mm_agent.specs.Reads.{held_queue, ReadsCount, ReadsRow, ReadsQueue, CountsOn, RowGoesOn, TellsWait, AreReadsHeld, ReadsGoOn}
use Rattle.mm_agent.specs.Answers.{GivesRow, AreAnswersGiven, IsAnswerTag}
use Rattle.mm_agent.specs.Forms.{traffic_of, QueueGoesOn, AnyQueueGoesOn, part_lasts, queue_goes_on}
use Rattle.mm_agent.specs.Forms.{IsAgentPart as IsMadePart}
use Rattle.mm_arbiter.specs.declared.asker.Asker.{Asker}
use Rattle.mm_arbiter.specs.declared.back.BackNets.{BackNets}
use Rattle.mm_arbiter.specs.declared.back.BelowNets.{BelowNets}
use Rattle.mm_arbiter.specs.declared.arbiter.HeldArbiter.{HeldArbiter}
use Rattle.mm_arbiter.specs.Machine.{below_port}
use Rattle.mm_arbiter.specs.Passes.{IsPassed, ArePassed, PassesOn}
use Rattle.mm_fabric.specs.declared.parts.Seat.{Seat}
use Rattle.mm_fabric.specs.Parts.{askers_of, commands_above, backs_above}
use Rattle.mm_fabric.specs.Fabrics.{seat_of}
use Rattle.mm_fabric.specs.Askers.{IsAsked, told_by}
use Rattle.mm_fabric.specs.Stages.{RunsAsStages}
use Rattle.mm_fabric.specs.Bounds.{reads_at}
use Rattle.mm_fabric.specs.Lone.{BoundsReads}
use Rattle.mm_fabric.proofs.Known.{always_valued}
use Rattle.mm_fabric.proofs.Unanswered.{StandFor, no_more_unanswered, fewer_left, stand_by, tagged, few_tagged, queue_stands, recent, few_recent, row_stands}
use Rattle.mm_fabric.proofs.StageReads.{taken_under, comes_under, pipe_stands}

-- ---- a count next to the agent

-- as a cycle begins: both counts are one, and at most the agent's bound
record IsSameCount (bound below above : ℕ) : Type 0 where
  same : above ≡ below
  most : below ≤ bound

-- ---- one step

-- a read that doesn't wait at the part next to the agent is one that the agent takes
taken_alike : (read full busy : Bool) → (read && not ((full && read) || busy)) ≡ ((read && not full) && not busy)
taken_alike true true busy = refl
taken_alike true false busy = refl
taken_alike false full busy = refl

room_for : (read full busy : Bool) (count bound : ℕ) → full ≡ not (nat_lt count bound) → ((read && not full) && not busy) ≡ true → count < bound
room_for read full busy count bound e taken = by_case (nat_lt count bound) refl
  where
    shut : (read busy : Bool) → ((read && false) && not busy) ≡ true → ⊥
    shut true busy e = cc
    shut false busy e = cc

    by_case : (t : Bool) → nat_lt count bound ≡ t → count < bound
    by_case true below = ltb-true count bound below
    by_case false above = absurd (shut read busy (ap (λ t. (read && not (not t)) && not busy) (sym above) ∙ ap (λ t. (read && not t) && not busy) (sym e) ∙ taken))

one_more : (taken : Bool) (count bound : ℕ) → (taken ≡ true → count < bound) → count ≤ bound → count + one_if taken ≤ bound
one_more true count bound room most = let some = room refl in omega (arith, some)
one_more false count bound room most = omega (arith, most)

counts_step : (bound limit below above later_below later_above : ℕ) (read full busy told came : Bool) → bound < limit → full ≡ not (nat_lt below bound) → told ≡ ((full && read) || busy) →
    (below + one_if ((read && not full) && not busy) < limit → later_below ≡ (below - one_if came) + one_if ((read && not full) && not busy)) →
    later_above ≡ (above - one_if came) + one_if (read && not told) → IsSameCount bound below above → IsSameCount bound later_below later_above
counts_step bound limit below above later_below later_above read full busy told came wide is_full is_told next_below next_above h =
    let taken : (read && not told) ≡ ((read && not full) && not busy) = ap (λ t. read && not t) is_told ∙ taken_alike read full busy in
    let room = one_more ((read && not full) && not busy) below bound (room_for read full busy below bound is_full) h.most in
    let next : later_below ≡ (below - one_if came) + one_if ((read && not full) && not busy) = next_below (omega (arith, room, wide)) in
    record {
      same = next_above ∙ ap (λ t. (above - one_if came) + one_if t) taken ∙ ap (λ n. (n - one_if came) + one_if ((read && not full) && not busy)) h.same ∙ sym next;
      most = omega (arith, room, next);
    }

-- ---- each cycle

module _ (netlist : Netlist) (port : AgentPort) (read shown unanswered full busy came told : NetValue) (h : ReadsCount netlist port read shown unanswered full) (g : CountsOn netlist read shown unanswered full busy came told)
    (run : Run) (endless : IsEndlessRun netlist run) where
  next_cycle : (c : ℕ) → c + 1 ≡ suc c
  next_cycle c = omega arith

  abbrev Same : ℕ → Type 0
  Same c = IsSameCount (bound_of port) (run.net c unanswered.number) (unanswered_in run read told came c)

  same_at_first : Same 0
  same_at_first =
      let low : run.net 0 unanswered.number ≡ 0 = h.starts run 1 (endless 1) (omega arith) in
      record { same = sym low; most = omega (arith, low) }

  same_on : (c : ℕ) → Same c → Same (suc c)
  same_on c same =
      let cycle : Cycle = cycle_of run c in
      let v = (endless (c + 1)).valuations c (omega arith) in
      let r = endless (c + 2) in
      counts_step _ (2 ^ unanswered.width) _ _ _ _ (is_raised (run.net c read.number)) (is_raised (run.net c full.number)) (is_raised (run.net c busy.number)) (is_raised (run.net c told.number)) (is_raised (run.net c came.number))
      h.wide (h.is_full cycle v) (g.tells cycle v)
      (λ few. ap (λ n. run.net n unanswered.number) (sym (next_cycle c)) ∙ subst (λ t. run.net c unanswered.number + one_if (t && not (is_raised (run.net c busy.number))) < 2 ^ unanswered.width → run.net (c + 1) unanswered.number ≡ (run.net c unanswered.number - one_if (is_raised (run.net c came.number))) + one_if (t && not (is_raised (run.net c busy.number)))) (h.shows cycle v) (g.next run (c + 2) r c (omega arith)) few)
      refl same

  same_counts : (c : ℕ) → Same c
  same_counts zero = same_at_first
  same_counts (suc c) = same_on c (same_counts c)

  few_unanswered : (c : ℕ) → unanswered_in run read told came c ≤ bound_of port
  few_unanswered c = let same = same_counts c in omega (arith, same.same, same.most)

-- ---- what stands next to the agent for the reads of a host

-- a word has no other tag than the host's
abbrev IsOnlyTag : Run → ℕ → NetValue → Type 0
IsOnlyTag run host tag = (c : ℕ) → run.net c tag.number ≡ host

not_shut : (full read busy told : Bool) → told ≡ ((full && read) || busy) → (read && not told) ≡ true → full ≡ false
not_shut true true busy told e t = absurd (false≢true (ap (λ b. true && not b) (sym e) ∙ t))
not_shut true false busy told e t = absurd (false≢true t)
not_shut false read busy told e t = refl

both_true : (a b : Bool) → a ≡ true → b ≡ true → (a && b) ≡ true
both_true a b p q = ap (λ t. t && b) p ∙ q

at_most : (a b c d : ℕ) → a ≤ b → b ≤ c → c ≡ d → a ≤ d
at_most a b c d p q same = omega (arith, p, q, same)

earlier_back : (signal : ℕ → ℕ) (count d : ℕ) → earlier signal count (d + count) ≡ signal d
earlier_back signal count d = let same : (d + count) - count ≡ d = omega arith in rw (le-leb count (d + count) (omega arith)) (ap signal same)

module _ (netlist : Netlist) (several : Bool) (port : AgentPort) (nets : AgentNets) (command : CommandNets) (shown busy told tag : NetValue) (answer : AnswerNets) (plain : counts_words port ≡ false) (reads : port.reads ≡ true) (run : Run) (endless : IsEndlessRun netlist run)
    (host : ℕ) (lone : several ≡ false → IsOnlyTag run host tag) where
  abbrev taken_at : ℕ → Bool
  taken_at c = takes_in (cycle_of run c) command.read told && nat_eq (run.net c command.tag.number) host

  abbrev comes_at : ℕ → Bool
  comes_at c = is_raised (run.net c answer.valid.number) && nat_eq (run.net c tag.number) host

  taken_parts : (c : ℕ) → taken_at c ≡ true → (takes_in (cycle_of run c) command.read told ≡ true) × (run.net c command.tag.number ≡ host)
  taken_parts c own =
      let two = and_parts (takes_in (cycle_of run c) command.read told) (nat_eq (run.net c command.tag.number) host) own in
      (two.0, eqb-true (run.net c command.tag.number) host two.1)

  comes_by : (c : ℕ) → is_raised (run.net c answer.valid.number) ≡ true → run.net c tag.number ≡ host → comes_at c ≡ true
  comes_by c word same = both_true (is_raised (run.net c answer.valid.number)) (nat_eq (run.net c tag.number) host) word (eq-eqb (run.net c tag.number) host same)

  -- so many at most stand for them, by what the agent has
  abbrev Bounded : Bool → Type 0
  Bounded timed = StandFor taken_at comes_at (if timed then bound_of port else row_places (agent_side port))

  -- a register counts the reads of one host
  by_count : (unanswered full : NetValue) → ReadsCount netlist port command.read shown unanswered full → CountsOn netlist command.read shown unanswered full busy answer.valid told → several ≡ false → StandFor taken_at comes_at (reads_at port)
  by_count unanswered full h g alone = subst Bounded (sym h.kind) (record {
    held = λ c. unanswered_in run command.read told answer.valid c;
    steps = λ c. fewer_left (unanswered_in run command.read told answer.valid c) (is_raised (run.net c answer.valid.number)) (comes_at c) (takes_in (cycle_of run c) command.read told) (taken_at c) (λ word. comes_by c word (lone alone c)) (λ own. (taken_parts c own).0);
    few = λ c. few_unanswered netlist port command.read shown unanswered full busy answer.valid told h g run endless c;
  })

  -- a queue holds those of several, by their tags
  module _ (queue : HeldReadQueue) (h : ReadsQueue netlist port command.read shown queue) (g : TellsWait netlist command.read queue.full busy told) (tag_is : tag ≡ queue.tag) (on : QueueGoesOn netlist port command told answer.valid queue) where
    abbrev traffic : ReadTraffic
    traffic = traffic_of port command answer.valid on.taken

    room : (c : ℕ) → IsTakenInRoom queue traffic (cycle_of run c)
    room c raised =
        let cycle : Cycle = cycle_of run c in
        let v = (endless (c + 1)).valuations c (omega arith) in (
          not_shut (is_raised (run.net c queue.full.number)) (is_raised (run.net c command.read.number)) (is_raised (run.net c busy.number)) (is_raised (run.net c told.number)) (g cycle v) (sym (on.is_taken cycle v) ∙ raised),
          subst (λ t. 1 ≤ value_or 1 (if t then Some command.count else None) (cycle_of run c)) (sym plain) (omega arith),
        )

    shows : (c : ℕ) → ShowsQueue queue (queue_in traffic run c) (cycle_of run c)
    shows c = on.runs netlist (extends_none netlist) run endless c (λ d lt. room d) c (omega arith)

    by_queue : StandFor taken_at comes_at (reads_at port)
    by_queue = subst Bounded (sym h.is.kind) (record {
      held = λ c. tagged host (queue_in traffic run c);
      steps = λ c. queue_stands host (is_raised (run.net c answer.valid.number)) (comes_at c) (taken_at c) (is_raised (run.net c on.taken.number)) (queue_in traffic run c) (entry_in traffic (cycle_of run c))
          (λ word some head. comes_by c word (ap (λ (net : NetValue). run.net c net.number) tag_is ∙ (shows c).tag some ∙ head))
          (λ own. on.is_taken (cycle_of run c) ((endless (c + 1)).valuations c (omega arith)) ∙ (taken_parts c own).0)
          (λ own. (taken_parts c own).1);
      few = λ c. at_most (tagged host (queue_in traffic run c)) (length (queue_in traffic run c)) queue.bound (bound_of port) (few_tagged host (queue_in traffic run c)) (shows c).few h.is.bound;
    })

  -- each word comes so many cycles after its read
  abbrev last : ℕ
  last = row_places (agent_side port) - 1

  places : row_places (agent_side port) ≡ suc last
  places = let some : 1 ≤ row_places (agent_side port) = le-max_left 1 port.read_latency in omega (arith, some)

  module _ (row : NetValue) (h : ReadsRow netlist port command.read shown row) (g : RowGoesOn netlist shown row busy told) (a : GivesRow netlist port nets answer row) (tag_is : (c : ℕ) → run.net c command.tag.number ≡ host → run.net (c + row_places (agent_side port)) tag.number ≡ host) where
    row_taken : (c : ℕ) → takes_in (cycle_of run c) command.read told ≡ true → is_raised (run.net c g.taken.number) ≡ true
    row_taken c own =
        g.is_taken (cycle_of run c) ((endless (c + 1)).valuations c (omega arith))
        ∙ ap (λ (net : NetValue). is_raised (run.net c net.number) && not (is_raised (run.net c busy.number))) h.shows
        ∙ ap (λ (net : NetValue). is_raised (run.net c command.read.number) && not (is_raised (run.net c net.number))) (sym g.tells) ∙ own

    word_is : (c : ℕ) → run.net (c + row_places (agent_side port)) answer.valid.number ≡ run.net c g.taken.number
    word_is c =
        let at : ℕ = c + row_places (agent_side port) in
        let wide = h.net.has_width in
        let some = places in
        a.valid (cycle_of run at) ((endless (at + 1)).valuations at (omega arith))
        ∙ history_bits netlist row g.taken run endless h.starts g.takes at last (omega (arith, wide, some))
        ∙ ap (λ n. earlier (λ d. run.net d g.taken.number) n at) (sym places) ∙ earlier_back (λ d. run.net d g.taken.number) (row_places (agent_side port)) c

    word_comes : (c : ℕ) → taken_at c ≡ true → comes_at (c + row_places (agent_side port)) ≡ true
    word_comes c own = comes_by (c + row_places (agent_side port)) (ap is_raised (word_is c) ∙ row_taken c (taken_parts c own).0) (tag_is c (taken_parts c own).1)

    by_row : StandFor taken_at comes_at (reads_at port)
    by_row = subst Bounded (sym h.kind) (record {
      held = λ c. recent taken_at (suc last) c;
      steps = λ c. row_stands taken_at last c (comes_at c) (λ d e own. subst (λ n. comes_at n ≡ true) (ap (λ n. d + n) places ∙ sym e) (word_comes d own));
      few = λ c. at_most (recent taken_at (suc last) c) (suc last) (suc last) (row_places (agent_side port)) (few_recent taken_at (suc last) c) (omega arith) (sym places);
    })

  -- the tag of a word is that of its read
  row_tag : (several : Bool) (row : NetValue) → IsAnswerTag netlist several port command.tag (Row row) tag → (several ≡ false → IsOnlyTag run host tag) → (d : ℕ) → run.net d command.tag.number ≡ host → run.net (d + row_places (agent_side port)) tag.number ≡ host
  row_tag true row t only d is =
      let at : ℕ = d + row_places (agent_side port) in
      t.value run (at + 1) (endless (at + 1)) at (omega arith) ∙ earlier_back (λ k. run.net k command.tag.number) (row_places (agent_side port)) d ∙ is
  row_tag false row t only d is = only refl (d + row_places (agent_side port))

  queue_tag : (queue : HeldReadQueue) → is_some (held_queue (Queued queue)) ≡ needs_queue several port → IsAnswerTag netlist several port command.tag (Queued queue) tag → tag ≡ queue.tag
  queue_tag queue needed t = by several needed t
    where
      by : (b : Bool) → true ≡ ((b || counts_words port) && (port.reads && port.readdatavalid)) → IsAnswerTag netlist b port command.tag (Queued queue) tag → tag ≡ queue.tag
      by true e t = t
      by false e t = absurd (false≢true (sym (e ∙ ap (λ b. (false || b) && (port.reads && port.readdatavalid)) plain)))

  count_alone : (unanswered full : NetValue) → port.readdatavalid ≡ true → is_some (held_queue (Counts unanswered full)) ≡ needs_queue several port → several ≡ false
  count_alone unanswered full kind none = by several none
    where
      by : (b : Bool) → false ≡ ((b || counts_words port) && (port.reads && port.readdatavalid)) → b ≡ false
      by false e = refl
      by true e = absurd (false≢true (e ∙ ap (λ b. true && (b && port.readdatavalid)) reads ∙ kind))

  -- as the agent bounds its reads
  agent_stands : (held : HeldReads) → AreReadsHeld netlist port command.read shown held → ReadsGoOn netlist command.read shown busy answer.valid told held → AreAnswersGiven netlist port nets answer held → IsAnswerTag netlist several port command.tag held tag →
      is_some (held_queue held) ≡ needs_queue several port → ((queue : HeldReadQueue) → held_queue held ≡ Some queue → QueueGoesOn netlist port command told answer.valid queue) → StandFor taken_at comes_at (reads_at port)
  agent_stands Never h g a t needed on = absurd (false≢true (sym h.reads ∙ reads))
  agent_stands (Counts unanswered full) h g a t needed on = by_count unanswered full h g (count_alone unanswered full h.kind needed)
  agent_stands (Row row) h g a t needed on = by_row row h g a (row_tag several row t lone)
  agent_stands (Queued queue) h g a t needed on = by_queue queue h g (queue_tag queue needed t) (on queue refl)

-- ---- the seats of an agent

-- the beats and words of a seat
seat_passed : (cycle : Cycle) (command : CommandNets) (below : BelowNets) (host : ℕ) (seats : List Seat) (seat : Seat) → ArePassed cycle command below (askers_of seats) (commands_above seats) (backs_above seats) → seat_of host seats ≡ Some seat →
    IsPassed cycle host seat.command command below (record { wait = seat.back.wait; answer = seat.back.answer })
seat_passed cycle command below host [] seat all found = absurd (none-some seat found)
seat_passed cycle command below host (first ∷ later) seat all found = by (nat_eq first.host host) refl found (seat_passed cycle command below host later seat all.1)
  where
    by : (b : Bool) → nat_eq first.host host ≡ b → cond b (Some first) (seat_of host later) ≡ Some seat → (seat_of host later ≡ Some seat → IsPassed cycle host seat.command command below (record { wait = seat.back.wait; answer = seat.back.answer })) →
        IsPassed cycle host seat.command command below (record { wait = seat.back.wait; answer = seat.back.answer })
    by true own is rest = subst (λ (s : Seat). IsPassed cycle host s.command command below (record { wait = s.back.wait; answer = s.back.answer })) (same_Some first seat is) (subst (λ h. IsPassed cycle h first.command command below (record { wait = first.back.wait; answer = first.back.answer })) (eqb-true first.host host own) all.0)
    by false other is rest = rest is

-- its command bears the number of its host
seat_tag : (netlist : Netlist) (widths : Widths) (host : ℕ) (seats : List Seat) (seat : Seat) → AllZip (IsAsked netlist widths) (askers_of seats) (commands_above seats) → seat_of host seats ≡ Some seat → IsAsked netlist widths (record { host = host; shares = seat.shares }) seat.command
seat_tag netlist widths host [] seat all found = absurd (none-some seat found)
seat_tag netlist widths host (first ∷ later) seat all found = by (nat_eq first.host host) refl found (seat_tag netlist widths host later seat all.1)
  where
    by : (b : Bool) → nat_eq first.host host ≡ b → cond b (Some first) (seat_of host later) ≡ Some seat → (seat_of host later ≡ Some seat → IsAsked netlist widths (record { host = host; shares = seat.shares }) seat.command) → IsAsked netlist widths (record { host = host; shares = seat.shares }) seat.command
    by true own is rest = subst (λ (s : Seat). IsAsked netlist widths (record { host = host; shares = s.shares }) s.command) (same_Some first seat is) (subst (λ h. IsAsked netlist widths (record { host = h; shares = first.shares }) first.command) (eqb-true first.host host own) all.0)
    by false other is rest = rest is

-- one alone is found
lone_seat : (host : ℕ) (seats : List Seat) (seat : Seat) (command : CommandNets) → commands_above seats ≡ command ∷ [] → seat_of host seats ≡ Some seat → seat.command ≡ command
lone_seat host [] seat command one found = absurd (none-some seat found)
lone_seat host (first ∷ next ∷ later) seat command one found = absurd (let many = ap (λ (xs : List CommandNets). length xs) one in omega (arith, many))
lone_seat host (first ∷ []) seat command one found = by (nat_eq first.host host) found
  where
    head_or : CommandNets → List CommandNets → CommandNets
    head_or other [] = other
    head_or other (x ∷ xs) = x

    by : (b : Bool) → cond b (Some first) None ≡ Some seat → seat.command ≡ command
    by true is = ap (λ (s : Seat). s.command) (sym (same_Some first seat is)) ∙ ap (head_or command) one
    by false is = absurd (none-some seat is)

-- ---- from a seat down to the agent

-- a read that is taken is one that is shown and doesn't wait
taken_alike_at : (read write waits own : Bool) → ((((read || write) && not waits) && read) && own) ≡ ((read && not waits) && own)
taken_alike_at true write waits own = ap (λ t. t && own) (by (not waits))
  where
    by : (t : Bool) → (t && true) ≡ t
    by true = refl
    by false = refl
taken_alike_at false true true own = refl
taken_alike_at false true false own = refl
taken_alike_at false false waits own = refl

both_high : (read waits : Bool) → (read && not waits) ≡ true → (read ≡ true) × (waits ≡ false)
both_high true true e = absurd (false≢true e)
both_high true false e = (refl, refl)
both_high false waits e = absurd (false≢true e)

-- what stands when each is made
pub record StandsInRow (old grown done : Netlist) (stages : ℕ) (port : AgentPort) (nets : AgentNets) (askers : List Asker) (commands : List CommandNets) (asked command : CommandNets) (told : BelowNets) (made : AgentMade) (backs : List BackNets) : Type 0 where
  pub part : IsMadePart grown (nat_lt 1 (length askers)) port nets command made
  pub queue : AnyQueueGoesOn grown port command made
  pub grows : Extends grown done
  pub widths : Widths
  pub each : AllZip (IsAsked old widths) askers commands
  pub grew : Extends old done
  pub passes : PassesOn done askers commands asked told backs
  pub stages_run : RunsAsStages done stages asked told command (told_by made)
  pub lone : nat_lt 1 (length askers) ≡ false → commands ≡ asked ∷ []
  pub one_tag : nat_lt 1 (length askers) ≡ false → command.tag ≡ asked.tag

-- any shape: no word is looked at
abbrev any_shape : Shape
any_shape = record { word_bytes = 1; unit_bytes = 1; burst_bits = 1; has_enables = true }

module _ (old grown done : Netlist) (stages : ℕ) (port : AgentPort) (nets : AgentNets) (asked command : CommandNets) (told : BelowNets) (made : AgentMade) (seats : List Seat) (h : StandsInRow old grown done stages port nets (askers_of seats) (commands_above seats) asked command told made (backs_above seats))
    (host : ℕ) (seat : Seat) (found : seat_of host seats ≡ Some seat) (longer : Netlist) (e : Extends done longer) (run : Run) (endless : IsEndlessRun longer run) where
  bears : (c : ℕ) → run.net c seat.command.tag.number ≡ host
  bears c = (seat_tag old h.widths host seats seat h.each found).tag (cycle_of run c) (always_valued old longer (extends_twice old done longer h.grew e) run endless c)

  passed : (c : ℕ) → IsPassed (cycle_of run c) host seat.command asked told (record { wait = seat.back.wait; answer = seat.back.answer })
  passed c = seat_passed (cycle_of run c) asked told host seats seat (h.passes longer e run endless c) found

  abbrev up : TaggedPort
  up = below_port any_shape run asked told

  abbrev down : TaggedPort
  down = below_port any_shape run command (told_by made)

  -- what the seat takes the pipe takes
  taken_above : (c : ℕ) → takes_in (cycle_of run c) seat.command.read seat.back.wait ≡ true → taken_under up host c ≡ true
  taken_above c own =
      let two = both_high (is_raised (run.net c seat.command.read.number)) (is_raised (run.net c seat.back.wait.number)) own in
      let shown = (passed c).shown two.1 in
      let read : is_raised (run.net c asked.read.number) ≡ true = ap (λ (raw : Raw). is_raised raw.levels.read) shown ∙ two.0 in
      let same : nat_eq (run.net c asked.tag.number) host ≡ true = eq-eqb (run.net c asked.tag.number) host (ap (λ (raw : Raw). raw.tag) shown ∙ bears c) in
      taken_alike_at (is_raised (run.net c asked.read.number)) (is_raised (run.net c asked.write.number)) (is_raised (run.net c told.wait.number)) (nat_eq (run.net c asked.tag.number) host)
      ∙ ap (λ t. (t && not (is_raised (run.net c told.wait.number))) && nat_eq (run.net c asked.tag.number) host) read
      ∙ ap (λ t. (true && not t) && nat_eq (run.net c asked.tag.number) host) ((passed c).taken two.1) ∙ same

  -- and what comes up the pipe comes to the seat
  comes_above : (c : ℕ) → comes_under up host c ≡ true → is_raised (run.net c seat.back.answer.valid.number) ≡ true
  comes_above c word =
      let two = and_parts (is_raised (run.net c told.answer.valid.number)) (nat_eq (run.net c told.tag.number) host) word in
      (passed c).came two.0 (eqb-true (run.net c told.tag.number) host two.1)

  alone : nat_lt 1 (length (askers_of seats)) ≡ false → IsOnlyTag run host made.answer_tag
  alone one c =
      ap (λ (net : NetValue). run.net c net.number) (h.part.tag one ∙ h.one_tag one) ∙ ap (λ (above : CommandNets). run.net c above.tag.number) (sym (lone_seat host seats seat asked (h.lone one) found)) ∙ bears c

  below_stands : port.reads ≡ true → counts_words port ≡ false → StandFor (taken_under down host) (comes_under down host) (reads_at port)
  below_stands reads plain =
      let several = nat_lt 1 (length (askers_of seats)) in
      let grows = extends_twice grown done longer h.grows e in
      let later = part_lasts grown longer several port nets command made h.part grows in
      stand_by (λ c. takes_in (cycle_of run c) command.read made.waitrequest && nat_eq (run.net c command.tag.number) host) (comes_under down host) (taken_under down host) (comes_under down host) (reads_at port)
      (λ c own. sym (taken_alike_at (is_raised (run.net c command.read.number)) (is_raised (run.net c command.write.number)) (is_raised (run.net c made.waitrequest.number)) (nat_eq (run.net c command.tag.number) host)) ∙ own)
      (λ c word. word)
      (agent_stands longer several port nets command later.shown later.busy made.waitrequest made.answer_tag made.answer plain reads run endless host alone
      made.reads later.held later.on later.answers later.answer_tag later.queued (queue_goes_on grown longer port command made h.queue grows))

  pub seat_bounds : port.reads ≡ true → counts_words port ≡ false → (c : ℕ) → unanswered_in run seat.command.read seat.back.wait seat.back.answer.valid c ≤ reads_at port + 3 * stages
  seat_bounds reads plain c =
      no_more_unanswered run seat.command.read seat.back.wait seat.back.answer.valid (reads_at port + 3 * stages)
      (stand_by (taken_under up host) (comes_under up host) (λ d. takes_in (cycle_of run d) seat.command.read seat.back.wait) (λ d. is_raised (run.net d seat.back.answer.valid.number)) (reads_at port + 3 * stages) taken_above comes_above
      (pipe_stands stages up down (h.stages_run longer e run endless any_shape (omega arith)) host (reads_at port) (below_stands reads plain))) c

pub bounds_reads : (old grown done : Netlist) (stages : ℕ) (port : AgentPort) (nets : AgentNets) (askers : List Asker) (commands : List CommandNets) (asked command : CommandNets) (arbiter : HeldArbiter) (told : BelowNets) (made : AgentMade) (backs : List BackNets) (seats : List Seat) →
    StandsInRow old grown done stages port nets askers commands asked command told made backs → askers_of seats ≡ askers → commands_above seats ≡ commands → backs_above seats ≡ backs →
    BoundsReads done stages (record { port = port; nets = nets; seats = seats; arbiter = arbiter; asked = asked; told = told; command = command; made = made })
bounds_reads old grown done stages port nets askers commands asked command arbiter told made backs seats h same_askers same_commands same_backs reads plain host seat found longer e run endless c =
    seat_bounds old grown done stages port nets asked command told made seats
    (subst (λ (xs : List Asker). StandsInRow old grown done stages port nets xs (commands_above seats) asked command told made (backs_above seats)) (sym same_askers)
    (subst (λ (xs : List CommandNets). StandsInRow old grown done stages port nets askers xs asked command told made (backs_above seats)) (sym same_commands)
    (subst (λ (xs : List BackNets). StandsInRow old grown done stages port nets askers commands asked command told made xs) (sym same_backs) h)))
    host seat found longer e run endless reads plain c
