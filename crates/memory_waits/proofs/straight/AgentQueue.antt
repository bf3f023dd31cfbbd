-- The queue of a part next to an agent holds the reads that the agent hasn't fully answered.
use Rattle.std.proofs.Common.{ℕ, zero, suc, ◌<◌, ◌≤◌, ◌≡◌, ◌+◌, ◌-◌, [], ◌∷◌, ◌++◌, List, Bool, true, false, not, ◌&&◌, if◌then◌else◌, nat_lt, nat_eq, arith, refl, sym, ap, ap₂, ◌∙◌, subst, length, map, filter, flat_map, append-nil, length-append}
use Rattle.std.specs.List.{All}
use Rattle.std.proofs.lemmas.Bool.{and_parts, ltb-true, ltb-false, lt-ltb, le-ltb, eqb-true, eqb-false}
use Rattle.std.proofs.lemmas.List.{map-append, length-map}
use Rattle.std.proofs.lemmas.List.Elements.{filter-append, All-head, All-tail, All-append}
use Rattle.histories.specs.History.{before, only_if, one_if, is_raised, unreached, total, numbers}
use Rattle.memory_runs.specs.Views.{AgentSide, AgentView, levels_at}
use Rattle.memory_runs.specs.Commands.{Burst, Transfer, shows, is_of_reads, words_before, burst_before, transfer_at, agent_accepts, accepted, reads_among, read_beats, read_beat}
use Rattle.memory_runs.specs.Legal.{IsLegalAgent, unanswered, words_asked}
use Rattle.memory_machines.specs.Link.{Port, Marked, AreLegalAt, takes, marked_at, taken_at}
use Rattle.memory_machines.specs.Lines.{TaggedPort, ServesKinds}
use Rattle.memory_machines.specs.SideLaws.{fit_when_shown}
use Rattle.memory_parts.specs.Agent.{AgentState, ShowsToAgent, IsAgentPlan, is_full}
use Rattle.memory_parts.specs.Queue.{Entry, answered, takes_read, entry_at, QueuesReads}
use Rattle.memory_waits.proofs.straight.AgentShown.{same_takes, count_is, write_is}

-- the entries of all reads of a list
abbrev pub entry_of : Marked → Entry
entry_of m = record { tag = m.tag; left = length m.transfer.beats }

abbrev pub entries : List Marked → List Entry
entries ms = map entry_of (filter (λ (m : Marked). is_of_reads m.transfer.kind) ms)

-- the entries that are left of a list after so many words
abbrev pub left_after : List Entry → ℕ → List Entry
left_after [] words = []
left_after (e ∷ later) words =
    if nat_lt words e.left then record { tag = e.tag; left = e.left - words } ∷ later
    else left_after later (words - e.left)

abbrev pub words_of : List Entry → ℕ
words_of es = total (map (λ (e : Entry). e.left) es)

abbrev pub HasWords : Entry → Type 0
HasWords e = 1 ≤ e.left

abbrev pub AllAsk : List Entry → Type 0
AllAsk es = All HasWords es

same_entry : (e : Entry) (n : ℕ) → n ≡ e.left → record { tag = e.tag; left = n } ≡ e
same_entry e n same = ap (λ k. record { tag = e.tag; left = k }) same

pub left_push : (es : List Entry) (k : Entry) (w : ℕ) → w ≤ words_of es → 1 ≤ k.left → left_after (es ++ k ∷ []) w ≡ left_after es w ++ k ∷ []
left_push [] k w low some =
    let first : nat_lt w k.left ≡ true = lt-ltb w k.left (omega arith) in
    let none : k.left - w ≡ k.left = omega arith in
    rw first (ap (λ e. e ∷ []) (same_entry k (k.left - w) none))
left_push (e ∷ later) k w low some = by_test (nat_lt w e.left) refl (λ high. left_push later k (w - e.left) (omega arith) some)
  where
    by_test : (b : Bool) → nat_lt w e.left ≡ b → (e.left ≤ w → left_after (later ++ k ∷ []) (w - e.left) ≡ left_after later (w - e.left) ++ k ∷ []) → left_after ((e ∷ later) ++ k ∷ []) w ≡ left_after (e ∷ later) w ++ k ∷ []
    by_test true is go = rw is refl
    by_test false is go = rw is (go (ltb-false w e.left is))

pub left_none : (es : List Entry) → AllAsk es → left_after es 0 ≡ es
left_none [] all = refl
left_none (e ∷ later) all =
    let some = All-head HasWords e later all in
    let first : nat_lt 0 e.left ≡ true = lt-ltb 0 e.left (omega arith) in
    let none : e.left - 0 ≡ e.left = omega arith in
    rw first (ap (λ x. x ∷ later) (same_entry e (e.left - 0) none))

pub left_answer : (es : List Entry) (w : ℕ) → AllAsk es → left_after es (w + 1) ≡ answered true (left_after es w)
left_answer [] w all = refl
left_answer (e ∷ later) w all = by_test (nat_lt w e.left) refl (left_answer later (w - e.left) (All-tail HasWords e later all))
  where
    last : (b : Bool) → nat_eq (e.left - w) 1 ≡ b → w < e.left → left_after (e ∷ later) (w + 1) ≡ (if nat_eq (e.left - w) 1 then later else record { tag = e.tag; left = e.left - w - 1 } ∷ later)
    last true is low =
        let one = eqb-true (e.left - w) 1 is in
        let out : nat_lt (w + 1) e.left ≡ false = le-ltb (w + 1) e.left (omega (arith, one, low)) in
        let none : (w + 1) - e.left ≡ 0 = omega (arith, one, low) in
        rw (is, out) (ap (left_after later) none ∙ left_none later (All-tail HasWords e later all))
    last false is low =
        let other = eqb-false (e.left - w) 1 is in
        let within : nat_lt (w + 1) e.left ≡ true = lt-ltb (w + 1) e.left (omega (arith, other, low)) in
        let less : e.left - (w + 1) ≡ e.left - w - 1 = omega arith in
        rw (is, within) (ap (λ n. record { tag = e.tag; left = n } ∷ later) less)

    by_test : (b : Bool) → nat_lt w e.left ≡ b → left_after later ((w - e.left) + 1) ≡ answered true (left_after later (w - e.left)) → left_after (e ∷ later) (w + 1) ≡ answered true (left_after (e ∷ later) w)
    by_test true is ih = rw is (last (nat_eq (e.left - w) 1) refl (ltb-true w e.left is))
    by_test false is ih =
        let high = ltb-false w e.left is in
        let out : nat_lt (w + 1) e.left ≡ false = le-ltb (w + 1) e.left (omega (arith, high)) in
        let same : (w + 1) - e.left ≡ (w - e.left) + 1 = omega (arith, high) in
        rw (is, out) (ap (left_after later) same ∙ ih)

none_reached : (es : List Entry) → AllAsk es → unreached (map (λ (e : Entry). e.left) es) 0 ≡ length es
none_reached [] all = refl
none_reached (e ∷ later) all =
    let some = All-head HasWords e later all in
    let first : nat_lt 0 e.left ≡ true = lt-ltb 0 e.left (omega arith) in
    let none : 0 - e.left ≡ 0 = omega arith in
    let rest = none_reached later (All-tail HasWords e later all) in
    rw (first, none) (omega (arith, rest))

-- the reads that aren't fully answered are those in the queue
pub unreached_is : (es : List Entry) (w : ℕ) → AllAsk es → unreached (map (λ (e : Entry). e.left) es) w ≡ length (left_after es w)
unreached_is [] w all = refl
unreached_is (e ∷ later) w all = by_test (nat_lt w e.left) refl (unreached_is later (w - e.left) (All-tail HasWords e later all))
  where
    by_test : (b : Bool) → nat_lt w e.left ≡ b → unreached (map (λ (e : Entry). e.left) later) (w - e.left) ≡ length (left_after later (w - e.left)) → unreached (map (λ (e : Entry). e.left) (e ∷ later)) w ≡ length (left_after (e ∷ later) w)
    by_test true is ih =
        let low = ltb-true w e.left is in
        let none : w - e.left ≡ 0 = omega (arith, low) in
        let rest = none_reached later (All-tail HasWords e later all) in
        rw (is, none) (omega (arith, rest))
    by_test false is ih = rw is (omega (arith, ih))

pub word_more : (valid : ℕ → ℕ) (c : ℕ) → words_before valid (suc c) ≡ words_before valid c + one_if (is_raised (valid c))
word_more valid c = length-append (before (λ c. only_if (is_raised (valid c)) c) c) _ ∙ ap (λ n. words_before valid c + n) (one (is_raised (valid c)))
  where
    one : (b : Bool) → length (only_if b c) ≡ one_if b
    one true = refl
    one false = refl

pub numbers_length : (first count : ℕ) → length (numbers first count) ≡ count
numbers_length first zero = refl
numbers_length first (suc count) = ap suc (numbers_length (suc first) count)

pub all_none : AllAsk []
all_none k d low = absurd (omega arith)

pub all_one : (e : Entry) → HasWords e → AllAsk (e ∷ [])
all_one e some zero d low = some
all_one e some (suc k) d low = absurd (omega arith)

-- one cycle's read
module _ (port : Port) (end : ℕ) (legal : AreLegalAt port end) where
  entry_is : (c : ℕ) → c < end → (t r w : Bool) → takes port c ≡ t → is_raised (port.commands.read c) ≡ r → is_raised (port.commands.write c) ≡ w → entries (only_if t (marked_at port c)) ≡ only_if (t && r) (entry_at port c)
  entry_is c low false r w taken read write = refl
  entry_is c low true true true taken read write = let one = legal.legal.one_kind c low in let bad : ⊥ = cc in absurd bad
  entry_is c low true true false taken read write = rw write (ap (λ n. record { tag = port.commands.tag c; left = n } ∷ []) (length-map (numbers 0 (port.commands.count c)) _ ∙ numbers_length 0 (port.commands.count c)))
  entry_is c low true false true taken read write = rw write refl
  entry_is c low true false false taken read write = let shown = (and_parts (shows port.commands.signals c) (not (is_raised (port.commands.waitrequest c))) taken).0 in let bad : ⊥ = cc in absurd bad

  pub entries_more : (c : ℕ) → c < end → entries (taken_at port (suc c)) ≡ entries (taken_at port c) ++ only_if (takes_read port c) (entry_at port c)
  entries_more c low =
      ap (map entry_of) (filter-append (λ (m : Marked). is_of_reads m.transfer.kind) (taken_at port c) (only_if (takes port c) (marked_at port c)))
      ∙ map-append entry_of (filter (λ (m : Marked). is_of_reads m.transfer.kind) (taken_at port c)) (filter (λ (m : Marked). is_of_reads m.transfer.kind) (only_if (takes port c) (marked_at port c)))
      ∙ ap (λ l. entries (taken_at port c) ++ l) (entry_is c low (takes port c) (is_raised (port.commands.read c)) (is_raised (port.commands.write c)) refl refl refl)

  -- a read asks for a word at least
  pub asks_some : (c : ℕ) → c < end → (b : Bool) → takes_read port c ≡ b → AllAsk (only_if b (entry_at port c))
  asks_some c low false is = all_none
  asks_some c low true is = all_one (entry_at port c) (by_left (nat_lt 0 (burst_before port.shape port.commands.signals (takes port) c).left) refl)
    where
      taken : (takes port c ≡ true) × (is_raised (port.commands.read c) ≡ true)
      taken = and_parts (takes port c) (is_raised (port.commands.read c)) is

      by_left : (b : Bool) → nat_lt 0 (burst_before port.shape port.commands.signals (takes port) c).left ≡ b → 1 ≤ port.commands.count c
      by_left true under = let quiet = legal.legal.finished c low under in let read = taken.1 in let bad : ⊥ = cc in absurd bad
      by_left false free = (fit_when_shown port end c legal low (and_parts (shows port.commands.signals c) (not (is_raised (port.commands.waitrequest c))) taken.0).0).least free

  pub all_ask : (c : ℕ) → c ≤ end → AllAsk (entries (taken_at port c))
  all_ask zero low = all_none
  all_ask (suc c) low = subst AllAsk (sym (entries_more c low)) (All-append HasWords (entries (taken_at port c)) (only_if (takes_read port c) (entry_at port c)) (all_ask c (omega arith)) (asks_some c low (takes_read port c) refl))

  module _ (valid : ℕ → ℕ) (queue : ℕ → List Entry) (queues : QueuesReads port valid queue end) (owed : (c : ℕ) → suc c < end → words_before valid (suc c) ≤ words_of (entries (taken_at port c))) where
    pub queue_is : (c : ℕ) → c < end → queue c ≡ left_after (entries (taken_at port c)) (words_before valid c)
    queue_is zero low = queues.begins
    queue_is (suc c) low =
        queues.next c low ∙ ap (λ q. answered (is_raised (valid c)) q ++ only_if (takes_read port c) (entry_at port c)) (queue_is c (omega arith))
        ∙ ap (λ l. l ++ only_if (takes_read port c) (entry_at port c)) (one (is_raised (valid c)) refl)
        ∙ push (takes_read port c) refl
        ∙ sym (ap (λ l. left_after l (words_before valid (suc c))) (entries_more c (omega arith)))
      where
        es : List Entry
        es = entries (taken_at port c)

        one : (b : Bool) → is_raised (valid c) ≡ b → answered b (left_after es (words_before valid c)) ≡ left_after es (words_before valid (suc c))
        one true is = sym (left_answer es (words_before valid c) (all_ask c (omega arith))) ∙ ap (left_after es) (sym (word_more valid c ∙ ap (λ b. words_before valid c + one_if b) is))
        one false is = stays (left_after es (words_before valid c)) ∙ ap (left_after es) (sym (word_more valid c ∙ ap (λ b. words_before valid c + one_if b) is ∙ plus_none (words_before valid c)))
          where
            stays : (l : List Entry) → answered false l ≡ l
            stays [] = refl
            stays (e ∷ l) = refl

            plus_none : (n : ℕ) → n + 0 ≡ n
            plus_none n = omega arith

        push : (b : Bool) → takes_read port c ≡ b → left_after es (words_before valid (suc c)) ++ only_if b (entry_at port c) ≡ left_after (es ++ only_if b (entry_at port c)) (words_before valid (suc c))
        push false is = append-nil _ ∙ ap (λ l. left_after l (words_before valid (suc c))) (sym (append-nil es))
        push true is =
            let some = asks_some c (omega arith) true is in
            sym (left_push es (entry_at port c) (words_before valid (suc c)) (owed c low) (All-head HasWords (entry_at port c) [] some))

pub words_total : (ts : List Transfer) → length (read_beats ts) ≡ total (map (λ (t : Transfer). length t.beats) (reads_among ts))
words_total [] = refl
words_total (t ∷ ts) = by_test (is_of_reads t.kind) (words_total ts)
  where
    by_test : (b : Bool) → length (read_beats ts) ≡ total (map (λ (t : Transfer). length t.beats) (reads_among ts)) →
        length (flat_map (λ (t : Transfer). t.beats) (if b then t ∷ reads_among ts else reads_among ts)) ≡ total (map (λ (t : Transfer). length t.beats) (if b then t ∷ reads_among ts else reads_among ts))
    by_test true ih = length-append t.beats (read_beats ts) ∙ ap (λ n. length t.beats + n) ih
    by_test false ih = ih

module _ (side : AgentSide) (view : AgentView) (up : TaggedPort) (state : AgentState) (end : ℕ) (machine : ShowsToAgent side view up state end) (plan : IsAgentPlan side)
    (legal : AreLegalAt up.port end) (kinds : ServesKinds side up.port end) where
  abbrev over : ℕ → Burst
  over c = burst_before up.shape up.commands.signals (takes up.port) c

  abbrev below : ℕ → Transfer
  below c = transfer_at side.shape view.signals (agent_accepts side view) c

  -- the words that each accepted read asks for
  pub lengths_are : (c : ℕ) → c ≤ end → map (λ (t : Transfer). length t.beats) (reads_among (accepted side.shape view.signals (agent_accepts side view) c)) ≡ map (λ (e : Entry). e.left) (entries (taken_at up.port c))
  lengths_are zero low = refl
  lengths_are (suc c) low =
      ap (map (λ (t : Transfer). length t.beats)) (filter-append (λ (t : Transfer). is_of_reads t.kind) (accepted side.shape view.signals (agent_accepts side view) c) (only_if (agent_accepts side view c) (below c)))
      ∙ map-append (λ (t : Transfer). length t.beats) (reads_among (accepted side.shape view.signals (agent_accepts side view) c)) (reads_among (only_if (agent_accepts side view c) (below c)))
      ∙ ap₂ (λ x y. x ++ y) (lengths_are c (omega arith)) (ap (λ a. map (λ (t : Transfer). length t.beats) (reads_among (only_if a (below c)))) (sym (same_takes side view up state end machine plan legal kinds c low))
      ∙ one (takes up.port c) (is_raised (up.commands.read c)) (is_raised (up.commands.write c)) refl refl refl)
      ∙ sym (map-append (λ (e : Entry). e.left) (entries (taken_at up.port c)) (only_if (takes_read up.port c) (entry_at up.port c)))
      ∙ sym (ap (map (λ (e : Entry). e.left)) (entries_more up.port end legal c low))
    where
      one : (t r w : Bool) → takes up.port c ≡ t → is_raised (up.commands.read c) ≡ r → is_raised (up.commands.write c) ≡ w →
          map (λ (t : Transfer). length t.beats) (reads_among (only_if t (below c))) ≡ map (λ (e : Entry). e.left) (only_if (t && r) (entry_at up.port c))
      one false r w taken read write = refl
      one true true true taken read write = let two = legal.legal.one_kind c low in let bad : ⊥ = cc in absurd bad
      one true true false taken read write =
          let lower : is_raised (view.write c) ≡ false = write_is side view up state end machine plan legal kinds c low ∙ write in
          rw lower (ap (λ n. n ∷ []) (length-map (numbers 0 (view.count c)) (read_beat side.shape (levels_at view.signals c)) ∙ numbers_length 0 (view.count c)
          ∙ count_is side view up state end machine plan legal kinds c low (and_parts (shows up.commands.signals c) (not (is_raised (up.commands.waitrequest c))) taken).0 (idle (nat_lt 0 (over c).left) refl)))
        where
          idle : (b : Bool) → nat_lt 0 (over c).left ≡ b → nat_lt 0 (over c).left ≡ false
          idle false e = e
          idle true e = let quiet = legal.legal.finished c low e in let bad : ⊥ = cc in absurd bad
      one true false true taken read write = let lower : is_raised (view.write c) ≡ true = write_is side view up state end machine plan legal kinds c low ∙ write in rw lower refl
      one true false false taken read write = let shown = (and_parts (shows up.commands.signals c) (not (is_raised (up.commands.waitrequest c))) taken).0 in let bad : ⊥ = cc in absurd bad

  pub asked_is : (c : ℕ) → c ≤ end → words_asked side.shape view.signals (agent_accepts side view) c ≡ words_of (entries (taken_at up.port c))
  asked_is c low = words_total (accepted side.shape view.signals (agent_accepts side view) c) ∙ ap total (lengths_are c low)

  module _ (proper : IsLegalAgent side view (end - 1)) where
    pub queue_holds : side.has_readdatavalid ≡ true → (c : ℕ) → c < end → state.queue c ≡ left_after (entries (taken_at up.port c)) (words_before view.readdatavalid c)
    queue_holds has = queue_is up.port end legal view.readdatavalid state.queue (machine.queues has) (λ c low. subst (λ n. words_before view.readdatavalid (suc c) ≤ n) (asked_is c (omega arith)) (proper.owed has c (omega arith)))

    -- where the agent bears more reads the gate is open
    pub gate_open : side.has_readdatavalid ≡ true → (c : ℕ) → c < end →
        unanswered side.shape view.signals (agent_accepts side view) (words_before view.readdatavalid c) c < side.pending → is_full side state c ≡ false
    gate_open has c low more =
        let holds = ap length (queue_holds has c low) in
        let queue = unreached_is (entries (taken_at up.port c)) (words_before view.readdatavalid c) (all_ask up.port end legal c (omega (arith, low))) in
        let count = ap (λ l. unreached l (words_before view.readdatavalid c)) (lengths_are c (omega (arith, low))) in
        let free : nat_lt (length (state.queue c)) side.pending ≡ true = lt-ltb _ _ (omega (arith, holds, queue, count, more)) in
        ap₂ (λ h f. h && not f) has free
