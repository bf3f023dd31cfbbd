-- The nets of an agent run as its machine.
use Rattle.std.proofs.Common.{◌≡◌, ℕ, zero, suc, ◌+◌, ◌-◌, ◌*◌, ◌^◌, ◌<◌, ◌≤◌, Bool, true, false, not, ◌&&◌, ◌||◌, nat_eq, nat_lt, if◌then◌else◌, List, [], length, min, Option, Some, None, refl, sym, ap, ◌∙◌, arith}
use Rattle.std.specs.Prelude.{IsFalse, MatchOption, is_some}
use Rattle.std.proofs.lemmas.Bool.{ltb-true}
use Rattle.std.proofs.lemmas.Nat.{pow_pos}
use Rattle.histories.specs.History.{is_raised, one_if}
use Rattle.iface_roles.specs.declared.records.AgentPort.{AgentPort}
use Rattle.netlist.specs.Nets.{NetValue}
use Rattle.netlist.specs.Netlists.{Netlist}
use Rattle.netlist.specs.Runs.{Cycle, Run, cycle_of, IsEndlessRun, IsValuation, Always}
use Rattle.net_parts.specs.Laws.{extends_none, bit_fits, net_fits}
use Rattle.net_parts.specs.Histories.{earlier}
use Rattle.net_parts.specs.HistoryLaw.{history_bits}
use Rattle.memory_runs.specs.Views.Responses.{AreCodes}
use Rattle.memory_runs.specs.Commands.{shows, stood_before}
use Rattle.memory_machines.specs.Link.{Port}
use Rattle.memory_parts.specs.Queue.{Entry, QueuesReads, takes_read, head_tag}
use Rattle.memory_parts.specs.Agent.{AgentState, ShowsToAgent, GivesQueued, GivesFixed, IsAgentMachine, row_places}
use Rattle.memory_runs.specs.Sides.{agent_side, bound_of, burst_width}
use Rattle.command_nets.specs.declared.nets.CommandNets.{CommandNets}
use Rattle.read_queues.specs.declared.queue.HeldReadQueue.{HeldReadQueue}
use Rattle.read_queues.specs.declared.queue.ReadTraffic.{ReadTraffic}
use Rattle.read_queues.specs.Queues.{queue_in, IsTakenInRoom, ShowsQueue}
use Rattle.mm_agent.specs.declared.nets.AgentNets.{AgentNets}
use Rattle.mm_agent.specs.declared.nets.AgentMade.{AgentMade}
use Rattle.mm_agent.specs.declared.reads.HeldReads.{HeldReads}
use Rattle.mm_agent.specs.declared.reads.HeldReads.TheVariants.{Never, Counts, Row, Queued}
use Rattle.mm_agent.specs.declared.waits.HeldWait.{HeldWait}
use Rattle.mm_agent.specs.declared.waits.HeldWait.TheVariants.{Given, Soon, Counts as Stands}
use Rattle.command_nets.specs.Ports.{HasNet, value_or, all_ones}
use Rattle.mm_agent.specs.Agents.{counts_words, needs_queue, BearsOneTag, GivesAnswer, agent_signals, agent_view}
use Rattle.mm_agent.specs.Reads.{held_queue, AreReadsHeld, ReadsGoOn}
use Rattle.mm_agent.specs.Answers.{GivesRowPort, AreAnswersGiven, IsAnswerTag}
use Rattle.mm_agent.specs.Waits.{wait_by, shows_beat, IsWaitHeld, WaitGoesOn}
use Rattle.mm_agent.specs.Forms.{IsAgentPart, traffic_of, QueueGoesOn, AnyQueueGoesOn, AreFitFor, port_above, tagged_above}
use Rattle.mm_agent.proofs.Waiting.{eq_capped, stood_capped, still_none, soon_accepted}
use Rattle.mm_agent.proofs.Rows.{row_at, row_filled, row_tagged, row_late}
use Rattle.mm_agent.proofs.Queues.{one_word, words_of, words_count, words_tag, words_next, queue_at, queue_same, queue_bears, head_bears}

-- ---- bits

gated : (shut : Bool) (shown read : ℕ) → shown < 2 → read < 2 → is_raised shown ≡ (is_raised read && not shut) → shown ≡ (if shut then 0 else read)
gated true zero read h k e = refl
gated true (suc zero) zero h k e = cc
gated true (suc zero) (suc zero) h k e = cc
gated false zero zero h k e = refl
gated false zero (suc zero) h k e = cc
gated false (suc zero) zero h k e = cc
gated false (suc zero) (suc zero) h k e = refl
gated shut (suc (suc shown)) read h k e = absurd (omega arith)
gated shut shown (suc (suc read)) h k e = absurd (omega arith)

-- a read is taken above exactly where the agent accepts the one that it is shown
read_taken : (read write full busy : Bool) → (((read || write) && not ((full && read) || busy)) && read) ≡ ((read && not full) && not busy)
read_taken true true true true = refl
read_taken true true true false = refl
read_taken true true false true = refl
read_taken true true false false = refl
read_taken true false true true = refl
read_taken true false true false = refl
read_taken true false false true = refl
read_taken true false false false = refl
read_taken false true true true = refl
read_taken false true true false = refl
read_taken false true false true = refl
read_taken false true false false = refl
read_taken false false full busy = refl

plain_taken : (read write busy : Bool) → (((read || write) && not busy) && read) ≡ (read && not busy)
plain_taken true write true = refl
plain_taken true write false = refl
plain_taken false true true = refl
plain_taken false true false = refl
plain_taken false false busy = refl

and_second : (a b : Bool) → (a && b) ≡ true → b ≡ true
and_second true b e = e
and_second false b e = cc

and_false : (a b : Bool) → b ≡ false → (a && b) ≡ false
and_false true b e = e
and_false false b e = refl

at_most_one : (b : Bool) → one_if b ≤ 1
at_most_one true = omega arith
at_most_one false = omega arith

shut_low : (read : Bool) → (read && not true) ≡ false
shut_low true = refl
shut_low false = refl

-- a read is taken while the agent bears one more, so the count fits
room : (shown busy read : Bool) (u bound limit : ℕ) → shown ≡ (read && not (not (nat_lt u bound))) → u < limit → bound < limit → u + one_if (shown && not busy) < limit
room shown busy read u bound limit e fits wide = by_case (nat_lt u bound) refl
  where
    by_case : (t : Bool) → nat_lt u bound ≡ t → u + one_if (shown && not busy) < limit
    by_case true below = (let low = ltb-true u bound below in let few = at_most_one (shown && not busy) in omega (arith, low, few, wide))
    by_case false above =
        (let none : shown ≡ false = e ∙ ap (λ t. read && not (not t)) above ∙ shut_low read in
        let zero : one_if (shown && not busy) ≡ 0 = ap (λ t. one_if (t && not busy)) none in
        omega (arith, zero, fits))

-- no read is taken while the agent bears no more
none_while_full : (read full busy : Bool) → (read && not ((full && read) || busy)) ≡ true → full ≡ false
none_while_full true true true e = cc
none_while_full true true false e = cc
none_while_full true false busy e = refl
none_while_full false full busy e = cc

no_queue : (needs reads kind : Bool) → false ≡ (needs && (reads && kind)) → reads ≡ true → kind ≡ true → needs ≡ false
no_queue true true true e f g = cc
no_queue true true false e f g = cc
no_queue true false kind e f g = cc
no_queue false reads kind e f g = refl

or_first : (a b : Bool) → (a || b) ≡ false → a ≡ false
or_first true b e = cc
or_first false b e = refl

or_second : (a b : Bool) → (a || b) ≡ false → b ≡ false
or_second true b e = cc
or_second false b e = e

-- the words of a read: as many as it asks for, or one each
words_asked : (t : Bool) (count : NetValue) (cycle : Cycle) → (t ≡ false → cycle.net count.number ≡ 1) → value_or 1 (if t then Some count else None) cycle ≡ cycle.net count.number
words_asked true count cycle one = refl
words_asked false count cycle one = sym (one refl)

some_asked : (t : Bool) (count : NetValue) (cycle : Cycle) → (t ≡ true → 1 ≤ cycle.net count.number) → 1 ≤ value_or 1 (if t then Some count else None) cycle
some_asked true count cycle some = some refl
some_asked false count cycle some = omega arith

-- ---- ports

absent : (netlist : Netlist) (there : Bool) (bits : ℕ) (net : Option NetValue) → there ≡ false → HasNet netlist there bits net → (cycle : Cycle) → value_or 0 net cycle ≡ 0
absent netlist there bits None none k cycle = refl
absent netlist there bits (Some net) none k cycle = absurd (let some = k.0 in cc)

plain_by : (t : Bool) (bits : ℕ) → not t ≡ false → (if t then 1 else bits) ≡ 1
plain_by true bits e = refl
plain_by false bits e = cc

plain_count : (bits : ℕ) → not (nat_eq bits 0) ≡ false → burst_width bits ≡ 1
plain_count bits e = plain_by (nat_eq bits 0) bits e

not_served : (read has rest : Bool) → ((not read || has) && rest) ≡ true → has ≡ false → read ≡ false
not_served true true rest e f = cc
not_served true false rest e f = cc
not_served false has rest e f = refl

where_it_reads : {X : Type 0} (t : Bool) (x y : X) → t ≡ true → (if t then x else y) ≡ x
where_it_reads true x y e = refl
where_it_reads false x y e = cc

where_not : {X : Type 0} (t : Bool) (x y : X) → t ≡ false → (if t then x else y) ≡ y
where_not true x y e = cc
where_not false x y e = refl

all_lanes : (bytes : ℕ) → 2 ^ bytes - 1 + 1 ≡ 2 ^ bytes
all_lanes bytes = let some = pow_pos bytes in omega (arith, some)

where_there : (there : Bool) (shown : NetValue) (cycle : Cycle) → value_or 0 (if there then Some shown else None) cycle ≡ (if there then cycle.net shown.number else 0)
where_there true shown cycle = refl
where_there false shown cycle = refl

-- ---- the state

abbrev one_read : ℕ → ℕ → Entry
one_read tag left = record { tag = tag; left = left }

abbrev pub queue_of : HeldReads → Port → (ℕ → ℕ) → ℕ → Run → ℕ → List Entry
queue_of Never up valid tag run c = []
queue_of (Counts unanswered full) up valid tag run c = words_of tag (run.net c unanswered.number)
queue_of (Row row) up valid tag run c = []
queue_of (Queued queue) up valid tag run c = queue_at up valid c

abbrev pub row_of : HeldReads → Port → ℕ → ℕ → Option ℕ
row_of Never up c place = None
row_of (Counts unanswered full) up c place = None
row_of (Row row) up c place = row_at up c place
row_of (Queued queue) up c place = None

abbrev pub state_by : HeldReads → AgentPort → AgentNets → CommandNets → AgentMade → ℕ → Run → AgentState
state_by reads port nets command made tag run =
    record { queue = queue_of reads (port_above port command made run) (λ c. value_or 0 nets.readdatavalid (cycle_of run c)) tag run; row = row_of reads (port_above port command made run); stood = stood_before (agent_side port) (agent_view port nets command made run) }

abbrev pub state_of : AgentPort → AgentNets → CommandNets → AgentMade → ℕ → Run → AgentState
state_of port nets command made tag run = state_by made.reads port nets command made tag run

-- the tag of all commands, where it is one
abbrev pub tag_of : (several : Bool) (netlist : Netlist) (command : CommandNets) → (several ≡ false → BearsOneTag netlist command) → ℕ
tag_of true netlist command one = 0
tag_of false netlist command one = (one refl).tag

bears : (several : Bool) (netlist : Netlist) (command : CommandNets) (one : several ≡ false → BearsOneTag netlist command) → several ≡ false → Always netlist (λ cycle. cycle.net command.tag.number ≡ tag_of several netlist command one)
bears true netlist command one e = cc
bears false netlist command one e = (one refl).always

module _ (several : Bool) (port : AgentPort) (nets : AgentNets) (command : CommandNets) (made : AgentMade) (netlist : Netlist) (h : IsAgentPart netlist several port nets command made) (any : AnyQueueGoesOn netlist port command made) (run : Run) (endless : IsEndlessRun netlist run) where
  val : (c : ℕ) → IsValuation netlist (cycle_of run c)
  val c = (endless (c + 1)).valuations c (omega arith)

  next_cycle : (c : ℕ) → c + 1 ≡ suc c
  next_cycle c = omega arith

  abbrev pub tag : ℕ
  tag = tag_of several netlist command h.one_tag

  abbrev R : ℕ → Bool
  R c = is_raised (run.net c command.read.number)

  abbrev D : ℕ → Bool
  D c = is_raised (run.net c h.shown.number)

  abbrev W : ℕ → Bool
  W c = is_raised (run.net c command.write.number)

  abbrev N : ℕ → Bool
  N c = is_raised (run.net c h.busy.number)

  abbrev V : ℕ → Bool
  V c = is_raised (run.net c made.answer.valid.number)

  abbrev U : Port
  U = port_above port command made run

  abbrev came : ℕ → ℕ
  came c = value_or 0 nets.readdatavalid (cycle_of run c)

  abbrev unanswered_in : HeldReads → ℕ → List Entry
  unanswered_in reads c = queue_of reads U came tag run c

  abbrev full_of : HeldReads → ℕ → Bool
  full_of reads c = port.readdatavalid && not (nat_lt (length (unanswered_in reads c)) (bound_of port))

  -- a queue where there is to be one
  abbrev HoldsAsNeeded : HeldReads → Type 0
  HoldsAsNeeded reads = is_some (held_queue reads) ≡ needs_queue several port

  abbrev GoesOn : HeldReads → Type 0
  GoesOn reads = (queue : HeldReadQueue) → held_queue reads ≡ Some queue → QueueGoesOn netlist port command made.waitrequest made.answer.valid queue

  -- reads of several hosts or of several words aren't counted
  one_host : (unanswered full : NetValue) → HoldsAsNeeded (Counts unanswered full) → AreReadsHeld netlist port command.read h.shown (Counts unanswered full) → several ≡ false
  one_host unanswered full needed k = or_first several (counts_words port) (no_queue (several || counts_words port) port.reads port.readdatavalid needed k.reads k.kind)

  -- ---- a queue

  module _ (queue : HeldReadQueue) (k : AreReadsHeld netlist port command.read h.shown (Queued queue)) (l : ReadsGoOn netlist command.read h.shown h.busy made.answer.valid made.waitrequest (Queued queue)) (g : AreAnswersGiven netlist port nets made.answer (Queued queue)) (q : QueueGoesOn netlist port command made.waitrequest made.answer.valid queue) (end : ℕ) (fit : AreFitFor port U end) where
    abbrev traffic : ReadTraffic
    traffic = traffic_of port command made.answer.valid q.taken

    takes_it : (c : ℕ) → takes_read U c ≡ is_raised (run.net c q.taken.number)
    takes_it c = plain_taken (R c) (W c) (is_raised (run.net c made.waitrequest.number)) ∙ sym (q.is_taken (cycle_of run c) (val c))

    same_queue : (c : ℕ) → c ≤ end → queue_at U came c ≡ queue_in traffic run c
    same_queue = queue_same U came traffic run end (λ c lt. sym (ap is_raised ((g (cycle_of run c) (val c)).valid))) (λ c lt. takes_it c)
        (λ c lt some. ap (λ n. one_read (run.net c command.tag.number) n) (sym (words_asked (counts_words port) command.count (cycle_of run c) (λ plain. fit.one_word plain c lt some))))

    in_room : (c : ℕ) → c < end → IsTakenInRoom queue traffic (cycle_of run c)
    in_room c lt some = (
      none_while_full (R c) (is_raised (run.net c queue.full.number)) (N c)
          (ap (λ t. R c && not t) (sym (l (cycle_of run c) (val c))) ∙ sym (q.is_taken (cycle_of run c) (val c)) ∙ some),
      some_asked (counts_words port) command.count (cycle_of run c) (λ several. fit.some_words several c lt (takes_it c ∙ some)),
    )

    shows_it : (c : ℕ) → c ≤ end → ShowsQueue queue (queue_in traffic run c) (cycle_of run c)
    shows_it = q.runs netlist (extends_none netlist) run endless end in_room

    queue_full : (c : ℕ) → c ≤ end → is_raised (run.net c queue.full.number) ≡ full_of (Queued queue) c
    queue_full c le =
        (shows_it c le).full
        ∙ ap (λ (xs : List Entry). not (nat_lt (length xs) queue.bound)) (sym (same_queue c le))
        ∙ ap (λ n. not (nat_lt (length (queue_at U came c)) n)) k.is.bound
        ∙ ap (λ t. t && not (nat_lt (length (queue_at U came c)) (bound_of port))) (sym k.is.kind)

    queue_tag : (c : ℕ) → c ≤ end → 0 < length (queue_at U came c) → run.net c queue.tag.number ≡ head_tag (queue_at U came c)
    queue_tag c le some = (let same = same_queue c le in rw same ((shows_it c le).tag (rw (sym same) some)))

  full_is : (unanswered full : NetValue) → AreReadsHeld netlist port command.read h.shown (Counts unanswered full) → (c : ℕ) → is_raised (run.net c full.number) ≡ full_of (Counts unanswered full) c
  full_is unanswered full k c =
      k.is_full (cycle_of run c) (val c) ∙ ap (λ n. not (nat_lt n (bound_of port))) (sym (words_count tag (run.net c unanswered.number)))
      ∙ ap (λ t. t && not (nat_lt (length (words_of tag (run.net c unanswered.number))) (bound_of port))) (sym k.kind)

  shut_by : (shut : Bool) (c : ℕ) → D c ≡ (R c && not shut) → run.net c h.shown.number ≡ (if shut then 0 else run.net c command.read.number)
  shut_by shut c e = gated shut _ _ (bit_fits netlist h.shown h.shown_bit (cycle_of run c) (val c)) (bit_fits netlist command.read h.read_bit (cycle_of run c) (val c)) e

  read_is : (reads : HeldReads) → GoesOn reads → AreReadsHeld netlist port command.read h.shown reads → ReadsGoOn netlist command.read h.shown h.busy made.answer.valid made.waitrequest reads → AreAnswersGiven netlist port nets made.answer reads → (end : ℕ) → AreFitFor port U end → port.reads ≡ true → (c : ℕ) → c < end →
      run.net c h.shown.number ≡ (if full_of reads c then 0 else run.net c command.read.number)
  read_is Never q k l g end fit some c lt = absurd (let none = k.reads in cc)
  read_is (Counts unanswered full) q k l g end fit some c lt = shut_by (full_of (Counts unanswered full) c) c (k.shows (cycle_of run c) (val c) ∙ ap (λ t. R c && not t) (full_is unanswered full k c))
  read_is (Row row) q k l g end fit some c lt = ap (λ (n : NetValue). run.net c n.number) k.shows ∙ sym (ap (λ t. if t && not (nat_lt 0 (bound_of port)) then 0 else run.net c command.read.number) k.kind)
  read_is (Queued queue) q k l g end fit some c lt = shut_by (full_of (Queued queue) c) c (k.shows (cycle_of run c) (val c) ∙ ap (λ t. R c && not t) (queue_full queue k l g (q queue refl) end fit c (omega (arith, lt))))

  told_is : (reads : HeldReads) → GoesOn reads → AreReadsHeld netlist port command.read h.shown reads → ReadsGoOn netlist command.read h.shown h.busy made.answer.valid made.waitrequest reads → AreAnswersGiven netlist port nets made.answer reads → (end : ℕ) → AreFitFor port U end → (c : ℕ) → c < end →
      is_raised (run.net c made.waitrequest.number) ≡ ((full_of reads c && R c) || N c)
  told_is Never q k l g end fit c lt =
      ap (λ (n : NetValue). is_raised (run.net c n.number)) l ∙ sym (ap (λ t. ((t && not (nat_lt 0 (bound_of port))) && R c) || N c) k.kind)
  told_is (Counts unanswered full) q k l g end fit c lt = l.tells (cycle_of run c) (val c) ∙ ap (λ t. (t && R c) || N c) (full_is unanswered full k c)
  told_is (Row row) q k l g end fit c lt = ap (λ (n : NetValue). is_raised (run.net c n.number)) l.tells ∙ sym (ap (λ t. ((t && not (nat_lt 0 (bound_of port))) && R c) || N c) k.kind)
  told_is (Queued queue) q k l g end fit c lt = l (cycle_of run c) (val c) ∙ ap (λ t. (t && R c) || N c) (queue_full queue k l g (q queue refl) end fit c (omega (arith, lt)))

  -- for how many cycles the beat has stood
  abbrev stood : ℕ → ℕ
  stood c = stood_before (agent_side port) (agent_view port nets command made run) c

  abbrev shown_beat : ℕ → Bool
  shown_beat c = shows_beat port (run.net c h.shown.number) (run.net c command.write.number)

  abbrev wait_at : ℕ → ℕ
  wait_at c = wait_by port (run.net c command.write.number)

  beat_is : (c : ℕ) → shows (agent_signals port command made run) c ≡ shown_beat c
  beat_is c = ap (λ n. is_raised n || is_raised (if port.writes then run.net c command.write.number else 0)) (ap (λ (o : Option NetValue). value_or 0 o (cycle_of run c)) h.read ∙ where_there port.reads h.shown (cycle_of run c))

  stood_on : (c : ℕ) → stood (suc c) ≡ (if shown_beat c && not (nat_eq (stood c) (wait_at c)) then stood c + 1 else 0)
  stood_on c = ap (λ t. if t && not (nat_eq (stood c) (wait_at c)) then stood c + 1 else 0) (beat_is c)

  busy_is : (held : HeldWait) → IsWaitHeld netlist port nets.waitrequest command.write h.busy held → WaitGoesOn netlist port h.shown command.write h.busy held → (c : ℕ) → N c ≡ (if port.waitrequest then is_raised (value_or 0 nets.waitrequest (cycle_of run c)) else not (nat_eq (stood c) (wait_at c)))
  busy_is Given k l c = sym (where_it_reads port.waitrequest _ _ k.waits ∙ ap (λ (o : Option NetValue). is_raised (value_or 0 o (cycle_of run c))) k.is)
  busy_is Soon k l c =
      k.is_busy (cycle_of run c) (val c)
      ∙ ap (λ n. not (nat_eq n (wait_at c))) (sym (still_none wait_at shown_beat stood refl (λ d. soon_accepted port.reads port.writes port.read_wait port.write_wait (run.net d h.shown.number) (run.net d command.write.number) k.soon) stood_on c))
      ∙ sym (where_not port.waitrequest _ _ k.waits)
  busy_is (Stands register) k l c =
      k.is_busy (cycle_of run c) (val c)
      ∙ ap (λ n. not (nat_eq n (wait_at c))) counted
      ∙ ap not (eq_capped (stood c) (wait_at c) top (few c))
      ∙ sym (where_not port.waitrequest _ _ k.waits)
    where
      top : ℕ
      top = 2 ^ register.width - 1

      few : (d : ℕ) → wait_at d < top
      few d = (let some = k.fits (run.net d command.write.number) in omega (arith, some))

      moves : (d : ℕ) → run.net (suc d) register.number ≡ (if shown_beat d && not (nat_eq (run.net d register.number) (wait_at d)) then min (run.net d register.number + 1) top else 0)
      moves d =
          ap (λ n. run.net n register.number) (sym (next_cycle d))
          ∙ l.next run (d + 2) (endless (d + 2)) d (omega arith)
          ∙ ap (λ t. if shown_beat d && t then min (run.net d register.number + 1) top else 0) (k.is_busy (cycle_of run d) (val d))

      counted : run.net c register.number ≡ min (stood c) top
      counted = stood_capped wait_at shown_beat (λ d. run.net d register.number) stood top few (k.starts run 1 (endless 1) (omega arith)) refl moves stood_on c

  valid_is : Always netlist (GivesAnswer nets made.answer) → (c : ℕ) → V c ≡ is_raised (value_or 0 nets.readdatavalid (cycle_of run c))
  valid_is gives c = ap is_raised ((gives (cycle_of run c) (val c)).valid)

  queue_on : (reads : HeldReads) → HoldsAsNeeded reads → AreReadsHeld netlist port command.read h.shown reads → ReadsGoOn netlist command.read h.shown h.busy made.answer.valid made.waitrequest reads → AreAnswersGiven netlist port nets made.answer reads → port.readdatavalid ≡ true → (end : ℕ) →
      AreFitFor port U end → QueuesReads U came (queue_of reads U came tag run) end
  queue_on (Row row) needed k l g some end fit = absurd (let none = k.kind in cc)
  queue_on Never needed k l g some end fit = absurd (let none = k.kind in cc)
  queue_on (Queued queue) needed k l g some end fit = record { begins = refl; next = λ c lt. refl }
  queue_on (Counts unanswered full) needed k l g some end fit = record {
    begins = ap (words_of tag) (k.starts run 1 (endless 1) (omega arith));
    next = λ c lt.
        (let cycle : Cycle = cycle_of run c in
        let v = val c in
        let shows = k.shows cycle v in
        let few = room (D c) (N c) (R c) (run.net c unanswered.number) (bound_of port) (2 ^ unanswered.width) (shows ∙ ap (λ t. R c && not t) (k.is_full cycle v)) (net_fits netlist unanswered k.net cycle v) k.wide in
        let takes : takes_read U c ≡ (D c && not (N c)) =
        ap (λ t. ((R c || W c) && not t) && R c) (l.tells cycle v) ∙ read_taken (R c) (W c) (is_raised (run.net c full.number)) (N c) ∙ ap (λ t. t && not (N c)) (sym shows) in
        words_next tag (run.net c unanswered.number) (run.net (suc c) unanswered.number) (is_raised (came c)) (D c && not (N c)) _ _ takes
        (λ taken. entries (bears several netlist command h.one_tag (one_host unanswered full needed k) cycle v) (fit.one_word no_burst c (omega arith) taken))
        (ap (λ n. run.net n unanswered.number) (sym (next_cycle c)) ∙ l.next run (c + 2) (endless (c + 2)) c (omega arith) few
        ∙ ap (λ t. (run.net c unanswered.number - one_if t) + one_if (D c && not (N c))) (valid_is g c)));
  } where
    entries : {t count : ℕ} → t ≡ tag → count ≡ 1 → ◌≡◌ {A = Entry} (record { tag = t; left = count }) (one_word tag)
    entries {t} {count} e f = ap (λ n. record { tag = n; left = count }) e ∙ ap (λ n. record { tag = tag; left = n }) f

    no_burst : IsFalse (counts_words port)
    no_burst = or_second several (counts_words port) (no_queue (several || counts_words port) port.reads port.readdatavalid needed k.reads k.kind)

  shown_is : port.reads ≡ true → (c : ℕ) → value_or 0 made.read (cycle_of run c) ≡ run.net c h.shown.number
  shown_is some c = ap (λ (o : Option NetValue). value_or 0 o (cycle_of run c)) (h.read ∙ where_it_reads port.reads (Some h.shown) None some)

  unread : port.reads ≡ false → (c : ℕ) → value_or 0 made.read (cycle_of run c) ≡ 0
  unread none c = ap (λ (o : Option NetValue). value_or 0 o (cycle_of run c)) (h.read ∙ where_not port.reads (Some h.shown) None none)

  shows_to_agent : (end : ℕ) → AreFitFor port (port_above port command made run) end → ShowsToAgent (agent_side port) (agent_view port nets command made run) (tagged_above port command made run) (state_of port nets command made tag run) end
  shows_to_agent end fit = record {
    words = refl;
    bursts = refl;
    plain = plain_count port.burst_bits;
    read = λ c lt some. shown_is some c ∙ read_is made.reads any h.held h.on h.answers end fit some c lt;
    no_read = λ c lt none. unread none c;
    write = λ c lt some. where_it_reads port.writes _ _ some;
    no_write = λ c lt none. where_not port.writes _ _ none;
    address = λ c lt. h.address (cycle_of run c) (val c);
    word = λ c lt some. where_it_reads port.writes _ _ some;
    no_word = λ c lt none. where_not port.writes _ _ none;
    enables = λ c lt some. where_it_reads port.enables _ _ some;
    all_lanes = λ c lt none. ap (λ n. n + 1) (where_not port.enables (run.net c command.enables.number) (all_ones port.word_bytes) none) ∙ all_lanes port.word_bytes;
    count = λ c lt. refl;
    grant = λ c lt. refl;
    wait = λ c lt.
        told_is made.reads any h.held h.on h.answers end fit c lt
        ∙ ap (λ t. (full_of made.reads c && R c) || t) (busy_is made.wait h.wait_held h.wait_on c);
    stood_first = refl;
    stood_next = λ c lt none. refl;
    queues = λ some. queue_on made.reads h.queued h.held h.on h.answers some end fit;
  }

  -- the tag of an answer
  one_tag : several ≡ false → (c : ℕ) → run.net c made.answer_tag.number ≡ tag
  one_tag one c = ap (λ (n : NetValue). run.net c n.number) (h.tag one) ∙ bears several netlist command h.one_tag one (cycle_of run c) (val c)

  abbrev last : ℕ
  last = row_places (agent_side port) - 1

  tag_in_row : (t : Bool) (row : NetValue) → several ≡ t → IsAnswerTag netlist t port command.tag (Row row) made.answer_tag → (c : ℕ) → MatchOption (row_at (port_above port command made run) c last) (Unit {0}) (λ x. run.net c made.answer_tag.number ≡ x)
  tag_in_row false row is made_so c = row_tagged (port_above port command made run) tag (run.net c made.answer_tag.number) (λ d. bears several netlist command h.one_tag is (cycle_of run d) (val d)) (one_tag is c) c last
  tag_in_row true row is made_so c =
      (let places : row_places (agent_side port) ≡ suc last = omega arith in
      row_late (port_above port command made run) (run.net c made.answer_tag.number) c last (made_so.value run (c + 1) (endless (c + 1)) c (omega arith) ∙ ap (λ n. earlier (λ d. run.net d command.tag.number) n c) places))

  -- all reads bear the tag, or the queue tells that of the oldest one
  tag_of_oldest : (t : Bool) (queue : HeldReadQueue) → several ≡ t → IsAnswerTag netlist t port command.tag (Queued queue) made.answer_tag → (c : ℕ) → 0 < length (queue_at U came c) → run.net c queue.tag.number ≡ head_tag (queue_at U came c) → run.net c made.answer_tag.number ≡ head_tag (queue_at U came c)
  tag_of_oldest true queue is made_so c some oldest = ap (λ (n : NetValue). run.net c n.number) made_so ∙ oldest
  tag_of_oldest false queue is made_so c some oldest =
      one_tag is c ∙ head_bears tag (queue_at U came c) (queue_bears U came tag (λ d. bears several netlist command h.one_tag is (cycle_of run d) (val d)) c) some

  gives_queued : (reads : HeldReads) → HoldsAsNeeded reads → GoesOn reads → AreReadsHeld netlist port command.read h.shown reads → ReadsGoOn netlist command.read h.shown h.busy made.answer.valid made.waitrequest reads → AreAnswersGiven netlist port nets made.answer reads → IsAnswerTag netlist several port command.tag reads made.answer_tag → (end : ℕ) →
      AreFitFor port U end → port.readdatavalid ≡ true → GivesQueued AreCodes (agent_view port nets command made run) (tagged_above port command made run) (state_by reads port nets command made tag run) end
  gives_queued Never needed q k l g a end fit queued = absurd (let none = k.kind in cc)
  gives_queued (Row row) needed q k l g a end fit queued = absurd (let none = k.kind in cc)
  gives_queued (Counts unanswered full) needed q k l g a end fit queued = record {
    valid = λ c lt. valid_is g c;
    word = λ c lt. (g (cycle_of run c) (val c)).word;
    code = λ c lt. (g (cycle_of run c) (val c)).code;
    tag = λ c lt some. one_tag (one_host unanswered full needed k) c ∙ words_tag tag (run.net c unanswered.number) some;
  }
  gives_queued (Queued queue) needed q k l g a end fit queued = record {
    valid = λ c lt. valid_is g c;
    word = λ c lt. (g (cycle_of run c) (val c)).word;
    code = λ c lt. (g (cycle_of run c) (val c)).code;
    tag = λ c lt some. tag_of_oldest several queue refl a c some (queue_tag queue k l g (q queue refl) end fit c (omega (arith, lt)) some);
  }

  -- at latency 0 what stands at a port comes a cycle later
  given_late : (given : Option NetValue) (late : NetValue) → GivesRowPort netlist port given late → port.read_latency ≡ 0 → (c : ℕ) → run.net (suc c) late.number ≡ value_or 0 given (cycle_of run c)
  given_late given late g soon c = ap (λ n. run.net n late.number) (sym (next_cycle c)) ∙ g.late soon run (c + 2) (endless (c + 2)) c (omega arith)

  gives_fixed : (reads : HeldReads) → AreReadsHeld netlist port command.read h.shown reads → ReadsGoOn netlist command.read h.shown h.busy made.answer.valid made.waitrequest reads → AreAnswersGiven netlist port nets made.answer reads → IsAnswerTag netlist several port command.tag reads made.answer_tag → (end : ℕ) →
      AreFitFor port (port_above port command made run) end → port.readdatavalid ≡ false → GivesFixed AreCodes (agent_side port) (agent_view port nets command made run) (tagged_above port command made run) (state_by reads port nets command made tag run) end
  gives_fixed (Counts unanswered full) k l g a end fit unqueued = absurd (let some = k.kind in cc)
  gives_fixed (Queued queue) k l g a end fit unqueued = absurd (let some = k.is.kind in cc)
  -- an agent that can't read answers nothing
  gives_fixed Never k l g a end fit unqueued = record {
    empty = λ i. refl;
    first = λ c lt. sym (where_not (takes_read (port_above port command made run) c) _ _ (and_false _ (R c) (not_served (R c) port.reads _ (fit.kinds c (omega arith)) k.reads)));
    next = λ c i lt. refl;
    valid = λ c lt. ap is_raised (g.valid (cycle_of run c) (val c));
    tag = λ c lt. tt;
    word = λ c lt late. g.word (cycle_of run c) (val c) ∙ sym (no_word c);
    code = λ c lt late. g.code.soon late (cycle_of run c) (val c);
    word_late = λ c lt soon. g.word (cycle_of run (suc c)) (val (suc c)) ∙ sym (no_word c);
    code_late = λ c lt soon. given_late nets.response made.answer.code g.code soon c;
  } where
    no_word : (c : ℕ) → value_or 0 nets.readdata (cycle_of run c) ≡ 0
    no_word c = absent netlist port.reads (port.word_bytes * 8) nets.readdata k.reads h.nets_are.readdata (cycle_of run c)
  gives_fixed (Row row) k l g a end fit unqueued = record {
    empty = λ i. refl;
    first = λ c lt. refl;
    next = λ c i lt. refl;
    valid = λ c lt.
        ap is_raised (g.valid (cycle_of run c) (val c) ∙ history_bits netlist row l.taken run endless k.starts l.takes c last (let width = k.net.has_width in omega (arith, width)))
        ∙ row_filled (port_above port command made run) (λ d. run.net d l.taken.number) taken c last;
    tag = λ c lt. tag_in_row several row refl a c;
    word = λ c lt late. g.word.soon late (cycle_of run c) (val c);
    code = λ c lt late. g.code.soon late (cycle_of run c) (val c);
    word_late = λ c lt soon. given_late nets.readdata made.answer.word g.word soon c;
    code_late = λ c lt soon. given_late nets.response made.answer.code g.code soon c;
  } where
    taken : (d : ℕ) → is_raised (run.net d l.taken.number) ≡ takes_read (port_above port command made run) d
    taken d =
        l.is_taken (cycle_of run d) (val d)
        ∙ ap (λ (n : NetValue). is_raised (run.net d n.number) && not (N d)) k.shows
        ∙ sym (ap (λ (n : NetValue). ((R d || W d) && not (is_raised (run.net d n.number))) && R d) l.tells ∙ plain_taken (R d) (W d) (N d))

  pub machine : (end : ℕ) → AreFitFor port (port_above port command made run) end → IsAgentMachine AreCodes (agent_side port) (agent_view port nets command made run) (tagged_above port command made run) (state_of port nets command made tag run) end
  machine end fit = record {
    commands = shows_to_agent end fit;
    queued = gives_queued made.reads h.queued any h.held h.on h.answers h.answer_tag end fit;
    fixed = gives_fixed made.reads h.held h.on h.answers h.answer_tag end fit;
  }
