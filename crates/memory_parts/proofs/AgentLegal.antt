-- What an agent is shown is legal, aligned and within its bound on unanswered reads.
use Rattle.std.proofs.Common.{ℕ, zero, suc, ◌<◌, ◌≤◌, ◌≡◌, ◌+◌, ◌-◌, ◌*◌, ◌/◌, ◌%◌, ◌^◌, [], ◌∷◌, ◌++◌, List, Bool, true, false, not, ◌&&◌, ◌||◌, IsFalse, if◌then◌else◌, nat_lt, arith, refl, sym, ap, ap₂, ◌∙◌, subst, length, map, flat_map, append-nil, length-append}
use Rattle.std.proofs.lemmas.Bool.{and_parts, not-true, ltb-true, ltb-false, lt-ltb}
use Rattle.std.proofs.Math.Nat.{mul-div_cancel}
use Rattle.std.proofs.lemmas.List.{map-append, length-map}
use Rattle.std.proofs.lemmas.List.Elements.{filter-append}
use Rattle.histories.specs.History.{is_raised, only_if, numbers, unreached, total}
use Rattle.memory_runs.specs.Views.{AgentSide, AgentView, Levels, levels_at}
use Rattle.memory_runs.specs.Commands.{Burst, Transfer, shows, is_held, presents, byte_address, burst_before, transfer_at, agent_accepts, accepted, reads_among, is_of_reads, read_beats, words_before, read_beat}
use Rattle.memory_runs.specs.Legal.{IsLegalAgent, IsProperAtAgent, is_under_way, unanswered, words_asked}
use Rattle.memory_machines.specs.Link.{takes, taken_at, AreLegalAt}
use Rattle.memory_machines.specs.Lines.{TaggedPort}
use Rattle.memory_machines.specs.Machines.{IsFitBeat, raw_at}
use Rattle.memory_machines.specs.SideLaws.{fit_when_shown}
use Rattle.memory_machines.specs.Lines.{ServesKinds}
use Rattle.memory_parts.specs.Queue.{Entry, takes_read, entry_at, answered}
use Rattle.memory_parts.proofs.Queued.{entries, left_after}
use Rattle.memory_parts.specs.Agent.{AgentState, ShowsToAgent, IsAgentPlan, is_full}
use Rattle.memory_parts.proofs.AgentShown.{same_takes, same_burst, count_is, write_is, read_is, shows_is, aligned_rest}
use Rattle.memory_parts.proofs.QueueBound.{unanswered_few}
use Rattle.memory_parts.proofs.Queued.{words_of, queue_is, answered_length, entries_more, numbers_length}

shown_over : (f r w : Bool) → ((not f && r) || w) ≡ true → (r || w) ≡ true
shown_over true true w shown = refl
shown_over true false w shown = shown
shown_over false r w shown = shown

still_one : (f r w : Bool) → not (r && w) ≡ true → not ((not f && r) && w) ≡ true
still_one true r w one = refl
still_one false r w one = one

let_through : (f r w : Bool) → not (r && w) ≡ true → ((not f && r) || w) ≡ true → r ≡ true → f ≡ false
let_through true true true one shown read = cc
let_through true true false one shown read = sym shown
let_through true false w one shown read = cc
let_through false r w one shown read = refl

is_low : (level : ℕ) → is_raised level ≡ false → level ≡ 0
is_low level low = let none = ltb-false 0 level low in omega arith

gate_of_zero : (b : Bool) (level : ℕ) → level ≡ 0 → (if b then 0 else level) ≡ 0
gate_of_zero true level none = refl
gate_of_zero false level none = none

no_more : (q : List Entry) (n : ℕ) (b : Bool) → length q ≤ n → length (answered b q ++ []) ≤ n
no_more q n b few = let same = ap length (append-nil (answered b q)) in let less = answered_length b q in omega (arith, same, less)

pub words_total : (ts : List Transfer) → length (read_beats ts) ≡ total (map (λ (t : Transfer). length t.beats) (reads_among ts))
words_total [] = refl
words_total (t ∷ ts) = by_test (is_of_reads t.kind) (words_total ts)
  where
    by_test : (b : Bool) → length (read_beats ts) ≡ total (map (λ (t : Transfer). length t.beats) (reads_among ts)) →
        length (flat_map (λ (t : Transfer). t.beats) (if b then t ∷ reads_among ts else reads_among ts)) ≡ total (map (λ (t : Transfer). length t.beats) (if b then t ∷ reads_among ts else reads_among ts))
    by_test true ih = length-append t.beats (read_beats ts) ∙ ap (λ n. length t.beats + n) ih
    by_test false ih = ih

module _ (side : AgentSide) (view : AgentView) (up : TaggedPort) (state : AgentState) (end : ℕ) (machine : ShowsToAgent side view up state end) (plan : IsAgentPlan side)
    (legal : AreLegalAt up.port end) (kinds : ServesKinds side up.port end) where
  abbrev over : ℕ → Burst
  over c = burst_before up.shape up.commands.signals (takes up.port) c

  abbrev below : ℕ → Transfer
  below c = transfer_at side.shape view.signals (agent_accepts side view) c

  abbrev full : ℕ → Bool
  full c = is_full side state c

  shown_up : (c : ℕ) → c < end → shows view.signals c ≡ true → shows up.commands.signals c ≡ true
  shown_up c low shown = shown_over (full c) (is_raised (up.commands.read c)) (is_raised (up.commands.write c)) (sym (shows_is side view up state end machine plan legal kinds c low) ∙ shown)

  shown_first : (c : ℕ) → presents view.signals (agent_accepts side view) c ≡ true → shows view.signals c ≡ true
  shown_first zero shown = shown
  shown_first (suc c) shown = (and_parts (shows view.signals (suc c)) (not (is_held view.signals (agent_accepts side view) c)) shown).0

  left_is : (c : ℕ) → c ≤ end → (burst_before side.shape view.signals (agent_accepts side view) c).left ≡ (over c).left
  left_is c low = ap (λ (b : Burst). b.left) (same_burst side view up state end machine plan legal kinds c low)

  -- a beat that the agent leaves waiting stands above
  record Waits (c : ℕ) : Type 0 where
    above : is_held up.commands.signals (takes up.port) c ≡ true
    none : takes up.port c ≡ false
    free : is_raised (up.commands.read c) ≡ true → full c ≡ false

  waits : (c : ℕ) → c < end → is_held view.signals (agent_accepts side view) c ≡ true → Waits c
  waits c low held =
      let parts = and_parts (shows view.signals c) (not (agent_accepts side view c)) held in
      let none : takes up.port c ≡ false = same_takes side view up state end machine plan legal kinds c low ∙ not-true (agent_accepts side view c) parts.1 in
      record {
        above = ap₂ (λ s a. s && not a) (shown_up c low parts.0) none;
        none = none;
        free = let_through (full c) (is_raised (up.commands.read c)) (is_raised (up.commands.write c)) (legal.legal.one_kind c low) (sym (shows_is side view up state end machine plan legal kinds c low) ∙ parts.0);
      }

  -- a read that has been shown stays shown: the queue grows by accepted reads alone
  still_free : (c : ℕ) → suc c < end → takes up.port c ≡ false → full c ≡ false → full (suc c) ≡ false
  still_free c low none free = by_valid side.has_readdatavalid refl
    where
      by_valid : (b : Bool) → side.has_readdatavalid ≡ b → full (suc c) ≡ false
      by_valid false has = rw has refl
      by_valid true has =
          let room : nat_lt (length (state.queue c)) side.pending ≡ true = not_false (nat_lt (length (state.queue c)) side.pending) (ap (λ b. b && not (nat_lt (length (state.queue c)) side.pending)) (sym has) ∙ free) in
          let few = ltb-true (length (state.queue c)) side.pending room in
          let next = (machine.queues has).next c low ∙ ap (λ b. answered (is_raised (view.readdatavalid c)) (state.queue c) ++ only_if (b && is_raised (up.commands.read c)) (entry_at up.port c)) none in
          let less = answered_length (is_raised (view.readdatavalid c)) (state.queue c) in
          let same : length (state.queue (suc c)) ≡ length (answered (is_raised (view.readdatavalid c)) (state.queue c)) = ap length next ∙ ap length (append-nil (answered (is_raised (view.readdatavalid c)) (state.queue c))) in
          rw has (ap not (lt-ltb (length (state.queue (suc c))) side.pending (omega (arith, few, less, same))))
        where
          not_false : (b : Bool) → not b ≡ false → b ≡ true
          not_false true e = refl
          not_false false e = sym e

  same_read : (c : ℕ) → suc c < end → Waits c → up.commands.read c ≡ up.commands.read (suc c) → view.read c ≡ view.read (suc c)
  same_read c low stands same = by_has side.has_read refl
    where
      by_read : side.has_read ≡ true → (b : Bool) → is_raised (up.commands.read c) ≡ b → view.read c ≡ view.read (suc c)
      by_read has true high =
          let free = stands.free high in
          let later = still_free c low stands.none free in
          machine.read c (omega arith) has ∙ ap (λ b. if b then 0 else up.commands.read c) free ∙ same ∙ sym (machine.read (suc c) low has ∙ ap (λ b. if b then 0 else up.commands.read (suc c)) later)
      by_read has false quiet =
          let none = is_low (up.commands.read c) quiet in
          machine.read c (omega arith) has ∙ gate_of_zero (full c) (up.commands.read c) none ∙ sym (machine.read (suc c) low has ∙ gate_of_zero (full (suc c)) (up.commands.read (suc c)) (sym same ∙ none))

      by_has : (b : Bool) → side.has_read ≡ b → view.read c ≡ view.read (suc c)
      by_has true has = by_read has (is_raised (up.commands.read c)) refl
      by_has false has = machine.no_read c (omega arith) has ∙ sym (machine.no_read (suc c) low has)

  same_write : (c : ℕ) → suc c < end → up.commands.write c ≡ up.commands.write (suc c) → view.write c ≡ view.write (suc c)
  same_write c low same = by_has side.has_write refl
    where
      by_has : (b : Bool) → side.has_write ≡ b → view.write c ≡ view.write (suc c)
      by_has true has = machine.write c (omega arith) has ∙ same ∙ sym (machine.write (suc c) low has)
      by_has false has = machine.no_write c (omega arith) has ∙ sym (machine.no_write (suc c) low has)

  same_word : (c : ℕ) → suc c < end → up.commands.word c ≡ up.commands.word (suc c) → view.word c ≡ view.word (suc c)
  same_word c low same = by_has side.has_write refl
    where
      by_has : (b : Bool) → side.has_write ≡ b → view.word c ≡ view.word (suc c)
      by_has true has = machine.word c (omega arith) has ∙ same ∙ sym (machine.word (suc c) low has)
      by_has false has = machine.no_word c (omega arith) has ∙ sym (machine.no_word (suc c) low has)

  same_enables : (c : ℕ) → suc c < end → up.commands.enables c ≡ up.commands.enables (suc c) → view.enables c ≡ view.enables (suc c)
  same_enables c low same = by_has side.has_enables refl
    where
      by_has : (b : Bool) → side.has_enables ≡ b → view.enables c ≡ view.enables (suc c)
      by_has true has = machine.enables c (omega arith) has ∙ same ∙ sym (machine.enables (suc c) low has)
      by_has false has = let one = machine.all_lanes c (omega arith) has in let other = machine.all_lanes (suc c) low has in omega (arith, one, other)

  held_levels : (c : ℕ) → suc c < end → is_held view.signals (agent_accepts side view) c ≡ true → levels_at view.signals c ≡ levels_at view.signals (suc c)
  held_levels c low held =
      let stands = waits c (omega arith) held in
      let same = legal.legal.held c low stands.above in
      let read = same_read c low stands (ap (λ (l : Levels). l.read) same) in
      let write = same_write c low (ap (λ (l : Levels). l.write) same) in
      let places : view.address c * side.unit_bytes ≡ view.address (suc c) * side.unit_bytes = machine.address c (omega arith) ∙ ap (λ (l : Levels). byte_address up.shape l.address % side.span) same ∙ sym (machine.address (suc c) low) in
      let address = cancel (view.address c) (view.address (suc c)) side.unit_bytes plan.unit places in
      let word = same_word c low (ap (λ (l : Levels). l.word) same) in
      let enables = same_enables c low (ap (λ (l : Levels). l.enables) same) in
      let beats : view.count c ≡ view.count (suc c) = machine.count c (omega arith) ∙ ap (λ (l : Levels). if side.has_burst then l.count else 1) same ∙ sym (machine.count (suc c) low) in
      cc
    where
      cancel : (a b k : ℕ) → 0 < k → a * k ≡ b * k → a ≡ b
      cancel a b k some same = sym (mul-div_cancel a some) ∙ ap (λ n. n / k) same ∙ mul-div_cancel b some

  -- a command that begins has the count of the one above
  begin_count : (P : ℕ → Type 0) (c : ℕ) → c < end → presents view.signals (agent_accepts side view) c ≡ true → IsFalse (is_under_way side.shape view.signals (agent_accepts side view) c) → P (up.commands.count c) → P (view.count c)
  begin_count P c low shown free holds =
      subst P (sym (count_is side view up state end machine plan legal kinds c low (shown_up c low (shown_first c shown)) (ap (nat_lt 0) (sym (left_is c (omega arith))) ∙ free))) holds

  pub agent_legal_reads : (c : ℕ) → c < end → is_under_way side.shape view.signals (agent_accepts side view) c ≡ true → is_raised (view.read c) ≡ false
  agent_legal_reads c low under =
      let quiet = legal.legal.finished c low (ap (nat_lt 0) (sym (left_is c (omega arith))) ∙ under) in
      read_is side view up state end machine plan legal kinds c low ∙ ap (λ r. not (full c) && r) quiet ∙ none (not (full c))
    where
      none : (b : Bool) → (b && false) ≡ false
      none true = refl
      none false = refl

  -- the words that each accepted read asks for
  pub lengths_are : (c : ℕ) → c ≤ end → map (λ (t : Transfer). length t.beats) (reads_among (accepted side.shape view.signals (agent_accepts side view) c)) ≡ map (λ (e : Entry). e.left) (entries (taken_at up.port c))
  lengths_are zero low = refl
  lengths_are (suc c) low =
      ap (map (λ (t : Transfer). length t.beats)) (filter-append (λ (t : Transfer). is_of_reads t.kind) (accepted side.shape view.signals (agent_accepts side view) c) (only_if (agent_accepts side view c) (below c)))
      ∙ map-append (λ (t : Transfer). length t.beats) (reads_among (accepted side.shape view.signals (agent_accepts side view) c)) (reads_among (only_if (agent_accepts side view c) (below c)))
      ∙ ap₂ (λ x y. x ++ y) (lengths_are c (omega arith)) (ap (λ a. map (λ (t : Transfer). length t.beats) (reads_among (only_if a (below c)))) (sym (same_takes side view up state end machine plan legal kinds c low))
      ∙ one (takes up.port c) (is_raised (up.commands.read c)) (is_raised (up.commands.write c)) refl refl refl)
      ∙ sym (map-append (λ (e : Entry). e.left) (entries (taken_at up.port c)) (only_if (takes_read up.port c) (entry_at up.port c)))
      ∙ sym (ap (map (λ (e : Entry). e.left)) (entries_more up.port end legal c low))
    where
      one : (t r w : Bool) → takes up.port c ≡ t → is_raised (up.commands.read c) ≡ r → is_raised (up.commands.write c) ≡ w →
          map (λ (t : Transfer). length t.beats) (reads_among (only_if t (below c))) ≡ map (λ (e : Entry). e.left) (only_if (t && r) (entry_at up.port c))
      one false r w taken read write = refl
      one true true true taken read write = let two = legal.legal.one_kind c low in let bad : ⊥ = cc in absurd bad
      one true true false taken read write =
          let lower : is_raised (view.write c) ≡ false = write_is side view up state end machine plan legal kinds c low ∙ write in
          rw lower (ap (λ n. n ∷ []) (length-map (numbers 0 (view.count c)) (read_beat side.shape (levels_at view.signals c)) ∙ numbers_length 0 (view.count c)
          ∙ count_is side view up state end machine plan legal kinds c low (and_parts (shows up.commands.signals c) (not (is_raised (up.commands.waitrequest c))) taken).0 (idle (nat_lt 0 (over c).left) refl)))
        where
          idle : (b : Bool) → nat_lt 0 (over c).left ≡ b → nat_lt 0 (over c).left ≡ false
          idle false e = e
          idle true e = let quiet = legal.legal.finished c low e in let bad : ⊥ = cc in absurd bad
      one true false true taken read write = let lower : is_raised (view.write c) ≡ true = write_is side view up state end machine plan legal kinds c low ∙ write in rw lower refl
      one true false false taken read write = let shown = (and_parts (shows up.commands.signals c) (not (is_raised (up.commands.waitrequest c))) taken).0 in let bad : ⊥ = cc in absurd bad

  pub asked_is : (c : ℕ) → c ≤ end → words_asked side.shape view.signals (agent_accepts side view) c ≡ words_of (entries (taken_at up.port c))
  asked_is c low = words_total (accepted side.shape view.signals (agent_accepts side view) c) ∙ ap total (lengths_are c low)

  module _ (proper : IsLegalAgent side view (end - 1)) where
    pub queue_holds : side.has_readdatavalid ≡ true → (c : ℕ) → c < end → state.queue c ≡ left_after (entries (taken_at up.port c)) (words_before view.readdatavalid c)
    queue_holds has = queue_is up.port end legal view.readdatavalid state.queue (machine.queues has) (λ c low. subst (λ n. words_before view.readdatavalid (suc c) ≤ n) (asked_is c (omega arith)) (proper.owed has c (omega arith)))

    -- as a cycle ends, no more reads are unanswered than the agent bears
    free_to_read : side.has_readdatavalid ≡ true → (c : ℕ) → c < end → takes_read up.port c ≡ true → length (state.queue c) < side.pending
    free_to_read has c low taken =
        let parts = and_parts (takes up.port c) (is_raised (up.commands.read c)) taken in
        let calm = not_true' (is_raised (up.commands.waitrequest c)) (and_parts (shows up.commands.signals c) (not (is_raised (up.commands.waitrequest c))) parts.0).1 in
        let gate = first_false (full c) (is_raised (up.commands.read c)) _ parts.1 (sym (machine.wait c low) ∙ calm) in
        ltb-true (length (state.queue c)) side.pending (not_false (nat_lt (length (state.queue c)) side.pending) (ap (λ b. b && not (nat_lt (length (state.queue c)) side.pending)) (sym has) ∙ gate))
      where
        not_true' : (b : Bool) → not b ≡ true → b ≡ false
        not_true' true e = sym e
        not_true' false e = refl

        not_false : (b : Bool) → not b ≡ false → b ≡ true
        not_false true e = refl
        not_false false e = sym e

        first_false : (f r b : Bool) → r ≡ true → ((f && r) || b) ≡ false → f ≡ false
        first_false true true b read e = e
        first_false true false b read e = sym read
        first_false false r b read e = refl

    owed_words : side.has_readdatavalid ≡ true → (c : ℕ) → suc c < end → words_before view.readdatavalid (suc c) ≤ words_of (entries (taken_at up.port c))
    owed_words has c low = let few = proper.owed has c (omega arith) in let asked = asked_is c (omega arith) in omega (arith, few, asked)

    bounded : side.has_readdatavalid ≡ true → (c : ℕ) → c < end → unanswered side.shape view.signals (agent_accepts side view) (words_before view.readdatavalid (suc c)) (suc c) ≤ side.pending
    bounded has c low =
        subst (λ l. unreached l (words_before view.readdatavalid (suc c)) ≤ side.pending) (sym (lengths_are (suc c) low))
        (unanswered_few up.port end legal view.readdatavalid state.queue (machine.queues has) (owed_words has) side.pending (free_to_read has) c low)

    pub proper_at_agent : IsProperAtAgent side view end
    proper_at_agent = record {
      legal = record {
        one_kind = λ c low. ap₂ (λ r w. not (r && w)) (read_is side view up state end machine plan legal kinds c low) (write_is side view up state end machine plan legal kinds c low)
            ∙ still_one (full c) (is_raised (up.commands.read c)) (is_raised (up.commands.write c)) (legal.legal.one_kind c low);
        held = held_levels;
        least = λ c low shown free. begin_count (λ n. 1 ≤ n) c low shown free ((fit_of c low shown).least (ap (nat_lt 0) (sym (left_is c (omega arith))) ∙ free));
        most = λ c low shown free. begin_count (λ n. n ≤ 2 ^ (side.burst_bits - 1)) c low shown free (subst (λ b. up.commands.count c ≤ 2 ^ (b - 1)) machine.bursts ((fit_of c low shown).most (ap (nat_lt 0) (sym (left_is c (omega arith))) ∙ free)));
        finished = agent_legal_reads;
      };
      aligned = λ c low shown.
          let y = up.commands.address c * up.shape.unit_bytes in
          ap (λ n. n % side.word_bytes) (machine.address c low) ∙ ap (λ w. ((y - y % w) % side.span) % side.word_bytes) machine.words ∙ aligned_rest y side.word_bytes plan.span side.span plan.spans;
      bounded = λ c low has. bounded has c low;
    }
      where
        fit_of : (c : ℕ) → c < end → presents view.signals (agent_accepts side view) c ≡ true → IsFitBeat up.shape (over c) (raw_at up.port c)
        fit_of c low shown = fit_when_shown up.port end c legal low (shown_up c low (shown_first c shown))
