-- The nets of a host run as its machine.
use Rattle.std.proofs.Common.{◌≡◌, ℕ, zero, suc, ◌+◌, ◌-◌, ◌<◌, Bool, true, false, not, ◌&&◌, ◌||◌, nat_eq, nat_lt, if◌then◌else◌, List, [], length, ◌++◌, Option, Some, None, refl, sym, subst, ap, ◌∙◌, arith}
use Rattle.std.specs.Prelude.{◌≤◌, IsTrue, IsFalse}
use Rattle.std.proofs.lemmas.Bool.{ltb-true, lt-ltb}
use Rattle.histories.specs.History.{is_raised, one_if, only_if}
use Rattle.iface_roles.specs.declared.records.HostPort.{HostPort}
use Rattle.netlist.specs.Nets.{NetValue}
use Rattle.netlist.specs.Netlists.{Netlist}
use Rattle.netlist.specs.Runs.{Cycle, Run, cycle_of, IsEndlessRun, IsValuation}
use Rattle.net_parts.specs.Laws.{bit_fits, width_fits}
use Rattle.net_parts.specs.Bits.{of_chosen}
use Rattle.memory_runs.specs.Views.Responses.{AreCodes}
use Rattle.memory_parts.specs.Queue.{Entry, QueuesReads, answered, entry_at}
use Rattle.memory_parts.specs.Host.{HostState, IsHostMachine}
use Rattle.memory_runs.specs.Sides.{host_side}
use Rattle.command_nets.specs.declared.nets.AnswerNets.{AnswerNets}
use Rattle.command_nets.specs.Nets.{port_in}
use Rattle.mm_host.specs.declared.nets.HostAnswer.{HostAnswer}
use Rattle.mm_host.specs.declared.reads.HeldReads.{HeldReads}
use Rattle.mm_host.specs.declared.reads.HeldReads.TheVariants.{Never, Asks, Counts, Queues, Unbounded}
use Rattle.mm_host.specs.declared.writes.HeldWrites.{HeldWrites}
use Rattle.mm_host.specs.declared.host.HeldHost.{HeldHost}
use Rattle.command_nets.specs.Ports.{value_or}
use Rattle.mm_host.specs.Hosts.{host_view}
use Rattle.mm_host.specs.Reads.{AreReadsHeld, ReadsQueue, ReadsGoOn, is_unbounded, unanswered_in}
use Rattle.mm_host.specs.Writes.{AreWritesHeld, WritesGoOn}
use Rattle.mm_host.specs.Forms.{IsHeld, HostGoesOn, IsBoundedBelow, shape_below, valid_of}
use Rattle.mm_host.proofs.Ignores.{single}
use Rattle.mm_host.specs.Queued.{QueuesOn}
use Rattle.mm_host.proofs.Bursts.{entry}
use Rattle.mm_host.proofs.BurstRuns.{reads_of, full_is, begins, step}
use Rattle.mm_host.proofs.Queues.{one_word, words_of, words_count, words_next}

-- ---- bits

and_true : (b : Bool) → (b && true) ≡ b
and_true true = refl
and_true false = refl

gated : (shut : Bool) (shown read : ℕ) → shown < 2 → read < 2 → is_raised shown ≡ (is_raised read && not shut) → shown ≡ (if shut then 0 else read)
gated true zero read h k e = refl
gated true (suc zero) zero h k e = cc
gated true (suc zero) (suc zero) h k e = cc
gated false zero zero h k e = refl
gated false zero (suc zero) h k e = cc
gated false (suc zero) zero h k e = cc
gated false (suc zero) (suc zero) h k e = refl
gated shut (suc (suc shown)) read h k e = absurd (omega arith)
gated shut shown (suc (suc read)) h k e = absurd (omega arith)

told_never : (read wait told any : Bool) → told ≡ wait → read ≡ false → told ≡ (if read && not false then any else (false && read) || wait)
told_never true wait told any e f = cc
told_never false wait told any e f = e

told_asks : (read asked valid wait told : Bool) → told ≡ (if read then not (asked && valid) else wait) → told ≡ (if read && not false then not (asked && valid) else (asked && read) || wait)
told_asks true asked valid wait told e = e
told_asks false true valid wait told e = e
told_asks false false valid wait told e = e

told_counts : (read full shut wait told any : Bool) → told ≡ ((full && read) || wait) → full ≡ shut → told ≡ (if read && not true then any else (shut && read) || wait)
told_counts true full shut wait told any e f = e ∙ ap (λ t. (t && true) || wait) f
told_counts false full shut wait told any e f = e ∙ ap (λ t. (t && false) || wait) f

read_taken : (read write wait : Bool) → (((read || write) && not wait) && read) ≡ (read && not wait)
read_taken true write wait = and_true (not wait)
read_taken false true true = refl
read_taken false true false = refl
read_taken false false wait = refl

write_taken : (read write wait : Bool) → (((read || write) && not wait) && write) ≡ (write && not wait)
write_taken true true wait = and_true (not wait)
write_taken false true wait = and_true (not wait)
write_taken true false true = refl
write_taken true false false = refl
write_taken false false wait = refl

joined : (write last : Bool) → one_if (write && not last) ≡ one_if (not (not write || last))
joined true last = refl
joined false last = refl

single_ends : (write last : Bool) → (write ≡ true → last ≡ true) → 0 ≡ one_if (not (not write || last))
single_ends true last h = rw (h refl) refl
single_ends false last h = refl

none_left : (taken : Bool) (count : ℕ) → (taken ≡ true → count ≡ 1) → 0 ≡ (if taken then count - 1 else 0)
none_left true count h = let one = h refl in omega (arith, one)
none_left false count h = refl

and_second : (a b : Bool) → (a && b) ≡ true → b ≡ true
and_second true b e = e
and_second false b e = cc

at_most_one : (b : Bool) → one_if b ≤ 1
at_most_one true = omega arith
at_most_one false = omega arith

and_false : (b : Bool) → (b && false) ≡ false
and_false true = refl
and_false false = refl

-- a read is taken below while fewer than 16 are unanswered
room : (shown wait read : Bool) (u : ℕ) → shown ≡ (read && not (not (nat_lt u 16))) → u < 32 → u + one_if (shown && not wait) < 32
room shown wait read u e fits = by_case (nat_lt u 16) refl
  where
    by_case : (t : Bool) → nat_lt u 16 ≡ t → u + one_if (shown && not wait) < 32
    by_case true below = (let low = ltb-true u 16 below in let few = at_most_one (shown && not wait) in omega (arith, low, few))
    by_case false above =
        (let none : shown ≡ false = e ∙ ap (λ t. read && not (not t)) above ∙ and_false read in
        let zero : one_if (shown && not wait) ≡ 0 = ap (λ t. one_if (t && not wait)) none in
        omega (arith, zero, fits))

-- ---- the state

abbrev pub asked_of : HeldReads → Run → ℕ → Bool
asked_of Never run c = false
asked_of (Asks asked) run c = is_raised (run.net c asked.number)
asked_of (Counts unanswered full) run c = false
asked_of (Queues unanswered full) run c = false
asked_of Unbounded run c = false

abbrev pub left_of : Option HeldWrites → Run → ℕ → ℕ
left_of None run c = 0
left_of (Some held) run c = run.net c held.left.number

-- fewer than 16 shut no read out
open_below : (n : ℕ) → n < 16 → not (nat_lt (length (words_of n)) 16) ≡ false
open_below n few = ap not (ap (λ k. nat_lt k 16) (words_count n) ∙ lt-ltb n 16 few)

module _ (port : HostPort) (held : HeldHost) (wait : NetValue) (answer : AnswerNets) (made : HostAnswer) (netlist : Netlist) (h : IsHeld netlist port held) (g : HostGoesOn netlist held port wait answer made) (run : Run) (endless : IsEndlessRun netlist run) where
  val : (c : ℕ) → IsValuation netlist (cycle_of run c)
  val c = (endless (c + 1)).valuations c (omega arith)

  read_is : (c : ℕ) → run.net c held.read.number ≡ value_or 0 held.nets.read (cycle_of run c)
  read_is c = (h.values (cycle_of run c) (val c)).read

  write_is : (c : ℕ) → run.net c held.command.write.number ≡ value_or 0 held.nets.write (cycle_of run c)
  write_is c = (h.values (cycle_of run c) (val c)).write

  count_is : (c : ℕ) → run.net c held.command.count.number ≡ value_or 1 held.nets.burstcount (cycle_of run c)
  count_is c = (h.values (cycle_of run c) (val c)).count

  next_cycle : (c : ℕ) → c + 1 ≡ suc c
  next_cycle c = omega arith

  abbrev R : ℕ → Bool
  R c = is_raised (run.net c held.read.number)

  abbrev D : ℕ → Bool
  D c = is_raised (run.net c held.command.read.number)

  abbrev W : ℕ → Bool
  W c = is_raised (run.net c held.command.write.number)

  abbrev N : ℕ → Bool
  N c = is_raised (run.net c wait.number)

  abbrev V : ℕ → Bool
  V c = is_raised (run.net c answer.valid.number)

  -- the reads that are taken below and aren't answered
  abbrev U : ℕ → ℕ
  U c = unanswered_in run held.command.read wait answer.valid c

  -- ---- reads

  abbrev Kept : HeldReads → Type 0
  Kept reads = AreReadsHeld netlist port held.read held.command.read reads

  abbrev On : HeldReads → Type 0
  On reads = ReadsGoOn netlist held.read held.command.count held.command.read wait answer.valid made.waitrequest reads

  -- the reads that aren't answered: where no register has their number, the run does
  abbrev queue_of : (reads : HeldReads) → On reads → ℕ → List Entry
  queue_of Never l c = []
  queue_of (Asks asked) l c = []
  queue_of (Counts unanswered full) l c = words_of (run.net c unanswered.number)
  queue_of (Queues unanswered full) l c = reads_of l.words.queue l.words.got run c
  queue_of Unbounded l c = words_of (U c)

  abbrev shut_of : (reads : HeldReads) → On reads → ℕ → Bool
  shut_of reads l c = if port.readdatavalid then not (nat_lt (length (queue_of reads l c)) 16) else asked_of reads run c

  queue_full : (unanswered full : NetValue) → ReadsQueue netlist port held.read held.command.read unanswered full → (l : QueuesOn netlist held.read held.command.count held.command.read unanswered full wait answer.valid made.waitrequest) → (c : ℕ) →
      is_raised (run.net c full.number) ≡ not (nat_lt (length (reads_of l.words.queue l.words.got run c)) 16)
  queue_full unanswered full k l c = full_is netlist held.read held.command.count held.command.read unanswered full wait answer.valid made.waitrequest k.counted l run endless c

  bursts_on : (unanswered full : NetValue) → ReadsQueue netlist port held.read held.command.read unanswered full → (l : QueuesOn netlist held.read held.command.count held.command.read unanswered full wait answer.valid made.waitrequest) → (end : ℕ) →
      QueuesReads (port_in (shape_below port) run held.command wait answer) (λ c. run.net c answer.valid.number) (reads_of l.words.queue l.words.got run) end
  bursts_on unanswered full k l end = record {
    begins = begins netlist held.read held.command.count held.command.read unanswered full wait answer.valid made.waitrequest k.counted l run endless;
    next = λ c lt.
        (step netlist held.read held.command.count held.command.read unanswered full wait answer.valid made.waitrequest k.counted l run endless c).queue
        ∙ ap (λ t. answered (V c) (queue c) ++ only_if t (entry (run.net c held.command.count.number))) (sym (read_taken (D c) (W c) (N c)))
        ∙ ap (λ n. answered (V c) (queue c) ++ only_if (((D c || W c) && not (N c)) && D c) (record { tag = n; left = run.net c held.command.count.number })) (sym (h.values (cycle_of run c) (val c)).tag);
  } where
    queue : ℕ → List Entry
    queue = reads_of l.words.queue l.words.got run

  shown_raised : (reads : HeldReads) → Kept reads → (l : On reads) → (c : ℕ) → (IsTrue (is_unbounded reads) → U c < 16) → D c ≡ (R c && not (shut_of reads l c))
  shown_raised Never k l c few = ap (λ (n : NetValue). is_raised (run.net c n.number)) k.shows ∙ sym (and_true (R c)) ∙ rw k.kind refl
  shown_raised (Asks asked) k l c few = k.shows (cycle_of run c) (val c) ∙ rw k.kind refl
  shown_raised (Counts unanswered full) k l c few =
      k.counted.shows (cycle_of run c) (val c) ∙ ap (λ t. R c && not t) (k.counted.is_full (cycle_of run c) (val c) ∙ ap (λ n. not (nat_lt n 16)) (sym (words_count (run.net c unanswered.number)))) ∙ rw k.kind refl
  shown_raised (Queues unanswered full) k l c few = k.counted.shows (cycle_of run c) (val c) ∙ ap (λ t. R c && not t) (queue_full unanswered full k l c) ∙ rw k.kind refl
  shown_raised Unbounded k l c few = ap (λ (n : NetValue). is_raised (run.net c n.number)) k.shows ∙ sym (and_true (R c)) ∙ ap (λ t. R c && not t) (sym (open_below (U c) (few refl))) ∙ rw k.kind refl

  told_is : (reads : HeldReads) → Kept reads → (l : On reads) → (c : ℕ) → (IsTrue (is_unbounded reads) → U c < 16) →
      is_raised (run.net c made.waitrequest.number) ≡ (if R c && not port.readdatavalid then not (asked_of reads run c && V c) else (shut_of reads l c && R c) || N c)
  told_is Never k l c few = rw k.kind (told_never (R c) (N c) _ _ (ap (λ (n : NetValue). is_raised (run.net c n.number)) l) (ap is_raised (k.low (cycle_of run c) (val c))))
  told_is (Asks asked) k l c few = rw k.kind (told_asks (R c) _ (V c) (N c) _ (l.tells (cycle_of run c) (val c)))
  told_is (Counts unanswered full) k l c few =
      rw k.kind (told_counts (R c) _ _ (N c) _ _ (l.tells (cycle_of run c) (val c)) (k.counted.is_full (cycle_of run c) (val c) ∙ ap (λ n. not (nat_lt n 16)) (sym (words_count (run.net c unanswered.number)))))
  told_is (Queues unanswered full) k l c few = rw k.kind (told_counts (R c) _ _ (N c) _ _ (l.tells (cycle_of run c) (val c)) (queue_full unanswered full k l c))
  told_is Unbounded k l c few = rw k.kind (told_counts (R c) false _ (N c) _ _ (ap (λ (n : NetValue). is_raised (run.net c n.number)) l) (sym (open_below (U c) (few refl))))

  quiet_at : (reads : HeldReads) → Kept reads → asked_of reads run 0 ≡ false
  quiet_at Never k = refl
  quiet_at (Asks asked) k = ap is_raised (k.starts run 1 (endless 1) (omega arith))
  quiet_at (Counts unanswered full) k = refl
  quiet_at (Queues unanswered full) k = refl
  quiet_at Unbounded k = refl

  asks_on : (reads : HeldReads) → Kept reads → On reads → IsFalse port.readdatavalid → (c : ℕ) →
      asked_of reads run (suc c) ≡ ((asked_of reads run c || (((D c || W c) && not (N c)) && D c)) && not (V c))
  asks_on Never k l none c =
      (let low : D c ≡ false = ap (λ (n : NetValue). is_raised (run.net c n.number)) k.shows ∙ ap is_raised (k.low (cycle_of run c) (val c)) in
      sym (ap (λ t. t && not (V c)) (read_taken (D c) (W c) (N c) ∙ ap (λ t. t && not (N c)) low)))
  asks_on (Asks asked) k l none c =
      ap (λ n. is_raised (run.net n asked.number)) (sym (next_cycle c)) ∙ l.next run (c + 2) (endless (c + 2)) c (omega arith)
      ∙ ap (λ t. (is_raised (run.net c asked.number) || t) && not (V c)) (sym (read_taken (D c) (W c) (N c)))
  asks_on (Counts unanswered full) k l none c = absurd (let some = k.kind in cc)
  asks_on (Queues unanswered full) k l none c = absurd (let some = k.kind in cc)
  asks_on Unbounded k l none c = absurd (let some = k.kind in cc)

  -- a host without bursts asks for one word
  one_entry : port.burst_bits ≡ 0 → (c : ℕ) → entry_at (port_in (shape_below port) run held.command wait answer) c ≡ one_word
  one_entry words c = entries (h.values (cycle_of run c) (val c)).tag (count_is c ∙ single netlist port words held.nets.burstcount h.host.burstcount (cycle_of run c))
    where
      entries : {tag count : ℕ} → tag ≡ 0 → count ≡ 1 → ◌≡◌ {A = Entry} (record { tag = tag; left = count }) one_word
      entries {tag} {count} e f = ap (λ n. record { tag = n; left = count }) e ∙ ap (λ n. record { tag = 0; left = n }) f

  queue_on : (reads : HeldReads) → Kept reads → (l : On reads) → IsTrue port.readdatavalid → (end : ℕ) →
      QueuesReads (port_in (shape_below port) run held.command wait answer) (λ c. run.net c answer.valid.number) (queue_of reads l) end
  queue_on Never k l some end = absurd (let none = k.kind in cc)
  queue_on (Asks asked) k l some end = absurd (let none = k.kind in cc)
  queue_on (Queues unanswered full) k l some end = bursts_on unanswered full k l end
  queue_on (Counts unanswered full) k l some end = record {
    begins = ap words_of (k.counted.starts run 1 (endless 1) (omega arith));
    next = λ c lt.
        (let cycle : Cycle = cycle_of run c in
        let v = val c in
        let few = room (D c) (N c) (R c) (run.net c unanswered.number) (k.counted.shows cycle v ∙ ap (λ t. R c && not t) (k.counted.is_full cycle v)) (width_fits netlist unanswered 5 k.counted.net cycle v) in
        words_next (run.net c unanswered.number) (run.net (suc c) unanswered.number) (V c) (D c && not (N c)) _ _ (read_taken (D c) (W c) (N c)) (one_entry k.words c)
        (ap (λ n. run.net n unanswered.number) (sym (next_cycle c)) ∙ l.next run (c + 2) (endless (c + 2)) c (omega arith) few));
  }
  queue_on Unbounded k l some end = record {
    begins = refl;
    next = λ c lt. words_next (U c) (U (suc c)) (V c) (D c && not (N c)) _ _ (read_taken (D c) (W c) (N c)) (one_entry k.words c) refl;
  }

  -- ---- writes

  more_is : (writes : Option HeldWrites) → AreWritesHeld netlist port held.command.write held.command.count held.command.more writes → (c : ℕ) →
      run.net c held.command.more.number ≡ one_if (not (not (W c) || (if nat_eq (left_of writes run c) 0 then nat_eq (run.net c held.command.count.number) 1 else nat_eq (left_of writes run c) 1)))
  more_is None k c = k.low (cycle_of run c) (val c) ∙ single_ends (W c) _ (λ e. ap (λ n. nat_eq n 1) (k.single (cycle_of run c) (val c) e))
  more_is (Some lacks) k c =
      k.joins (cycle_of run c) (val c)
      ∙ ap (λ n. one_if (W c && not (nat_eq n 1))) (k.beats_are (cycle_of run c) (val c))
      ∙ ap (λ t. one_if (W c && not t)) (of_chosen (λ n. nat_eq n 1) (nat_eq (run.net c lacks.left.number) 0) (run.net c held.command.count.number) (run.net c lacks.left.number))
      ∙ joined (W c) _

  left_at : (writes : Option HeldWrites) → AreWritesHeld netlist port held.command.write held.command.count held.command.more writes → left_of writes run 0 ≡ 0
  left_at None k = refl
  left_at (Some lacks) k = k.starts run 1 (endless 1) (omega arith)

  left_on : (writes : Option HeldWrites) → AreWritesHeld netlist port held.command.write held.command.count held.command.more writes → WritesGoOn netlist held.command.write wait writes → (c : ℕ) →
      left_of writes run (suc c) ≡ (if ((D c || W c) && not (N c)) && W c then (if nat_eq (left_of writes run c) 0 then run.net c held.command.count.number - 1 else left_of writes run c - 1) else left_of writes run c)
  left_on None k l c = none_left _ _ (λ e. k.single (cycle_of run c) (val c) (and_second _ (W c) e))
  left_on (Some lacks) k l c =
      ap (λ n. run.net n lacks.left.number) (sym (next_cycle c)) ∙ l run (c + 2) (endless (c + 2)) c (omega arith)
      ∙ ap (λ t. if t then run.net c lacks.beats.number - 1 else run.net c lacks.left.number) (sym (write_taken (D c) (W c) (N c)))
      ∙ ap (λ n. if ((D c || W c) && not (N c)) && W c then n else run.net c lacks.left.number)
      (ap (λ n. n - 1) (k.beats_are (cycle_of run c) (val c)) ∙ of_chosen (λ n. n - 1) (nat_eq (run.net c lacks.left.number) 0) (run.net c held.command.count.number) (run.net c lacks.left.number))

  -- ---- the machine

  valid_is : (valid : Option NetValue) → valid ≡ valid_of port answer.valid → IsTrue port.readdatavalid → (c : ℕ) → is_raised (value_or 0 valid (cycle_of run c)) ≡ V c
  valid_is valid e some c = ap (λ (o : Option NetValue). is_raised (value_or 0 o (cycle_of run c))) (e ∙ ap (λ t. if t then Some answer.valid else None) some)

  abbrev pub state : HostState
  state = record { queue = queue_of held.reads g.reads; left = left_of held.writes run; asked = asked_of held.reads run }

  pub machine : (end : ℕ) → IsBoundedBelow held wait answer run end → IsHostMachine AreCodes (host_side port) (host_view port held.nets made run) (port_in (shape_below port) run held.command wait answer) state end
  machine end few = record {
    words = refl;
    units = refl;
    bursts = refl;
    read = λ c lt.
        gated (shut_of held.reads g.reads c) _ _ (bit_fits netlist held.command.read h.shown (cycle_of run c) (val c)) (bit_fits netlist held.read h.fields.read (cycle_of run c) (val c)) (shown_raised held.reads h.reads g.reads c (λ some. few some c lt))
        ∙ ap (λ n. if shut_of held.reads g.reads c then 0 else n) (read_is c);
    write = λ c lt. write_is c;
    address = λ c lt. (h.values (cycle_of run c) (val c)).address;
    word = λ c lt. (h.values (cycle_of run c) (val c)).word;
    enables = λ c lt. (h.values (cycle_of run c) (val c)).enables;
    count = λ c lt. count_is c;
    more = λ c lt.
        subst (λ w. run.net c held.command.more.number ≡ one_if (not (not (is_raised w) || (if nat_eq (left_of held.writes run c) 0 then nat_eq (value_or 1 held.nets.burstcount (cycle_of run c)) 1 else nat_eq (left_of held.writes run c) 1)))) (write_is c)
        (subst (λ n. run.net c held.command.more.number ≡ one_if (not (not (W c) || (if nat_eq (left_of held.writes run c) 0 then nat_eq n 1 else nat_eq (left_of held.writes run c) 1)))) (count_is c)
        (more_is held.writes h.writes c));
    tag = λ c lt. (h.values (cycle_of run c) (val c)).tag;
    wait = λ c lt.
        subst (λ r. is_raised (run.net c made.waitrequest.number) ≡ (if is_raised r && not port.readdatavalid then not (asked_of held.reads run c && V c) else (shut_of held.reads g.reads c && is_raised r) || N c)) (read_is c)
        (told_is held.reads h.reads g.reads c (λ some. few some c lt));
    starts = left_at held.writes h.writes;
    lasts = λ c lt.
        subst (λ w. left_of held.writes run (suc c) ≡ (if ((D c || W c) && not (N c)) && is_raised w then (if nat_eq (left_of held.writes run c) 0 then value_or 1 held.nets.burstcount (cycle_of run c) - 1 else left_of held.writes run c - 1) else left_of held.writes run c)) (write_is c)
        (subst (λ n. left_of held.writes run (suc c) ≡ (if ((D c || W c) && not (N c)) && W c then (if nat_eq (left_of held.writes run c) 0 then n - 1 else left_of held.writes run c - 1) else left_of held.writes run c)) (count_is c)
        (left_on held.writes h.writes g.writes c));
    quiet = quiet_at held.reads h.reads;
    asks = λ c lt none. asks_on held.reads h.reads g.reads none c;
    queues = λ some. queue_on held.reads h.reads g.reads some end;
    valid = λ c lt some. valid_is made.readdatavalid g.valid some c;
    answer = λ c lt some. ap (λ (n : NetValue). run.net c n.number) g.word;
    response = λ c lt. g.response (cycle_of run c) (val c);
  }
