-- Where an agent owes nothing by the end of a cycle, all words that were asked above its part have come in the next one.
use Rattle.std.proofs.Common.{◌≡◌, ℕ, zero, suc, ◌+◌, ◌<◌, ◌≤◌, Bool, true, false, not, ◌&&◌, ◌||◌, List, [], ◌∷◌, ◌++◌, length, filter, map, nat_lt, ◌-◌, max, nat_le, if◌then◌else◌, Some, None, is_some, ap₂, arith, refl, sym, ap, ◌∙◌, subst, IsTrue, IsFalse, tests, append-nil, length-append, le_of_eq, ltb-false}
use Rattle.std.proofs.lemmas.Bool.{and_parts}
use Rattle.std.proofs.lemmas.List.{length-map}
use Rattle.std.proofs.lemmas.List.Elements.{filter-append}
use Rattle.histories.specs.History.{before, is_raised, numbers, only_if}
use Rattle.histories.specs.Laws.{prefix_length, before_extends}
use Rattle.memory_runs.specs.Views.{System, Run, Responses, AgentSide, AgentView, Shape, Levels, levels_at}
use Rattle.memory_runs.specs.Operations.{Beat}
use Rattle.memory_runs.specs.Commands.{Burst, shows, agent_accepts, burst_before, longest_burst, read_beat, is_held}
use Rattle.memory_runs.specs.Order.{beats_taken, beats_taken_in, is_read_beat}
use Rattle.memory_machines.specs.Link.{Port, Marked, AreLegalAt, takes, taken_at, marked_at, read_beats, words_at, words_owed}
use Rattle.memory_machines.specs.Lines.{TaggedPort}
use Rattle.memory_parts.specs.Agent.{AgentState, IsAgentMachine, GivesFixed, row_places, is_full}
use Rattle.memory_parts.specs.Steps.{words_from_agent}
use Rattle.memory_waits.proofs.Owed.{beats_append}
use Rattle.memory_waits.proofs.Bits.{no_true, no_both, takes_shows, none_taken, one_taken, numbers_length, both}
use Rattle.memory_awake.specs.Onward.{SendsWordsUp}
use Rattle.memory_waits.specs.Waits.{WordsComeSoon}
use Rattle.memory_parts.specs.Queue.{takes_read}

-- a shown beat of a legal host, at which no burst is under way, begins a burst that isn't too long
module _ (port : Port) (end : ℕ) (legal : AreLegalAt port end) where
  abbrev burst : ℕ → Burst
  burst c = burst_before port.shape port.commands.signals (takes port) c

  few_shown : (c : ℕ) → c < end → IsTrue (shows port.commands.signals c) → IsFalse (nat_lt 0 (burst c).left) → port.commands.count c ≤ longest_burst port.shape.burst_bits
  few_shown zero fit shown free = legal.legal.most 0 fit shown free
  few_shown (suc c) fit shown free = by_held (is_held port.commands.signals (takes port) c) refl (few_shown c (omega (arith, fit)))
    where
      parts_of_held : (s t : Bool) → IsTrue (s && not t) → IsTrue s × IsFalse t
      parts_of_held true false h = (refl, refl)
      parts_of_held true true h = absurd (no_true h)
      parts_of_held false t h = absurd (no_true h)

      first : (s h : Bool) → IsTrue s → IsFalse h → IsTrue (s && not h)
      first s h x y = grind (arith, tests)

      by_held : (b : Bool) → is_held port.commands.signals (takes port) c ≡ b →
          (IsTrue (shows port.commands.signals c) → IsFalse (nat_lt 0 (burst c).left) → port.commands.count c ≤ longest_burst port.shape.burst_bits) → port.commands.count (suc c) ≤ longest_burst port.shape.burst_bits
      by_held false e more = legal.legal.most (suc c) fit (first (shows port.commands.signals (suc c)) (is_held port.commands.signals (takes port) c) shown e) free
      by_held true e more =
          let its = parts_of_held (shows port.commands.signals c) (takes port c) e in
          let same = ap (λ (l : Levels). l.count) (legal.legal.held c fit e) in
          let still : burst (suc c) ≡ burst c = rw its.1 refl in
          subst (λ n. n ≤ longest_burst port.shape.burst_bits) same (more its.0 (subst (λ (b : Burst). IsFalse (nat_lt 0 b.left)) still free))

all_reads : (tag : ℕ) (shape : Shape) (levels : Levels) (ns : List ℕ) → length (filter is_read_beat (map (λ b. record { tag = tag; beat = b }) (map (read_beat shape levels) ns))) ≡ length ns
all_reads tag shape levels [] = refl
all_reads tag shape levels (n ∷ ns) = ap suc (all_reads tag shape levels ns)

beats_length : (xs ys : List Marked) → length (read_beats (xs ++ ys)) ≡ length (read_beats xs) + length (read_beats ys)
beats_length xs ys = ap length (beats_append xs ys) ∙ length-append (read_beats xs) (read_beats ys)

module _ (responses : Responses) (system : System) (run : Run) (agent : ℕ) (up : TaggedPort) (state : AgentState) (end : ℕ) (machine : IsAgentMachine responses (system.agent agent) (run.at_agent agent) up state end)
    (legal : AreLegalAt up.port end) (accepted : (c : ℕ) → c < end → takes up.port c ≡ agent_accepts (system.agent agent) (run.at_agent agent) c) where
  abbrev side : AgentSide
  side = system.agent agent

  abbrev view : AgentView
  view = run.at_agent agent

  -- what is shown above as a read asks no more words than the agent is asked
  read_alike : (c : ℕ) → c < end → IsTrue (takes up.port c) → IsFalse (is_raised (up.commands.write c)) → (is_raised (view.write c) ≡ false) × (up.commands.count c ≤ view.count c)
  read_alike c fit took kind = (by_write side.has_write refl, by_burst side.has_burst refl)
    where
      by_write : (b : Bool) → side.has_write ≡ b → is_raised (view.write c) ≡ false
      by_write true e = ap is_raised (machine.commands.write c fit e) ∙ kind
      by_write false e = ap is_raised (machine.commands.no_write c fit e)

      shown : IsTrue (shows up.commands.signals c)
      shown = takes_shows up.port c took

      read_shown : (r w : Bool) → IsTrue (r || w) → IsFalse w → IsTrue r
      read_shown true w s f = refl
      read_shown false w s f = absurd (no_both w s f)

      free : IsFalse (nat_lt 0 (burst_before up.shape up.commands.signals (takes up.port) c).left)
      free = by_left (nat_lt 0 (burst_before up.shape up.commands.signals (takes up.port) c).left) refl
        where
          by_left : (b : Bool) → nat_lt 0 (burst_before up.shape up.commands.signals (takes up.port) c).left ≡ b → IsFalse b
          by_left false e = refl
          by_left true e = absurd (no_both _ (read_shown (is_raised (up.commands.read c)) (is_raised (up.commands.write c)) shown kind) (legal.legal.finished c fit e))

      by_burst : (b : Bool) → side.has_burst ≡ b → up.commands.count c ≤ view.count c
      by_burst true e = le_of_eq (sym (machine.commands.count c fit ∙ (rw e refl)))
      by_burst false e =
          let one : view.count c ≡ 1 = machine.commands.count c fit ∙ (rw e refl) in
          let bits : up.shape.burst_bits ≡ 1 = machine.commands.bursts ∙ machine.commands.plain e in
          let most : up.commands.count c ≤ longest_burst 1 = subst (λ n. up.commands.count c ≤ longest_burst n) bits (few_shown up.port end legal c fit shown free) in
          omega (arith, one, most)

  reads_few : (c : ℕ) → c ≤ end → words_owed up.port c ≤ length (filter is_read_beat (beats_taken system run agent c))
  reads_few zero low = omega arith
  reads_few (suc c) low = by_take (takes up.port c) refl (is_raised (up.commands.write c)) refl (reads_few c (omega (arith, low)))
    where
      fit : c < end
      fit = omega (arith, low)

      grown : length (filter is_read_beat (beats_taken system run agent (suc c))) ≡ length (filter is_read_beat (beats_taken system run agent c)) + length (filter is_read_beat (beats_taken_in system run agent c))
      grown = ap length (filter-append is_read_beat (beats_taken system run agent c) (beats_taken_in system run agent c)) ∙ length-append (filter is_read_beat (beats_taken system run agent c)) (filter is_read_beat (beats_taken_in system run agent c))

      above : IsTrue (takes up.port c) → words_owed up.port (suc c) ≡ words_owed up.port c + length (read_beats (marked_at up.port c ∷ []))
      above e = ap (λ l. length (read_beats l)) (one_taken up.port c e) ∙ beats_length (taken_at up.port c) (marked_at up.port c ∷ [])

      asked_above : IsFalse (is_raised (up.commands.write c)) → length (read_beats (marked_at up.port c ∷ [])) ≡ up.commands.count c
      asked_above kind = rw kind (ap length (append-nil (map (read_beat up.shape (levels_at up.commands.signals c)) (numbers 0 (up.commands.count c)))) ∙ length-map (numbers 0 (up.commands.count c)) (read_beat up.shape (levels_at up.commands.signals c)) ∙ numbers_length 0 (up.commands.count c))

      asked_here : agent_accepts side view c ≡ true → is_raised (view.write c) ≡ false → length (filter is_read_beat (beats_taken_in system run agent c)) ≡ view.count c
      asked_here accepts kind = rw (accepts, kind) (
          ap (λ (l : List Beat). length (filter is_read_beat (map (λ b. record { tag = view.grant c; beat = b }) l))) (append-nil (map (read_beat side.shape (levels_at view.signals c)) (numbers 0 (view.count c))))
          ∙ all_reads (view.grant c) side.shape (levels_at view.signals c) (numbers 0 (view.count c)) ∙ numbers_length 0 (view.count c)
          )

      by_take : (t : Bool) → takes up.port c ≡ t → (w : Bool) → is_raised (up.commands.write c) ≡ w → words_owed up.port c ≤ length (filter is_read_beat (beats_taken system run agent c)) →
          words_owed up.port (suc c) ≤ length (filter is_read_beat (beats_taken system run agent (suc c)))
      by_take false e w ew more =
          let still = ap (λ l. length (read_beats l)) (none_taken up.port c e) in
          let all = grown in
          omega (arith, still, all, more)
      by_take true e true ew more =
          let one = above e in
          let none : length (read_beats (marked_at up.port c ∷ [])) ≡ 0 = rw ew refl in
          let all = grown in
          omega (arith, one, none, all, more)
      by_take true e false ew more =
          let one = above e in
          let asks = asked_above ew in
          let alike = read_alike c fit e ew in
          let most = alike.1 in
          let here = asked_here (sym (accepted c fit) ∙ e) alike.0 in
          let all = grown in
          omega (arith, one, asks, most, here, all, more)

  -- ---- at fixed latency

  abbrev reads : ℕ → Bool
  reads c = takes_read up.port c

  abbrev gives : ℕ → Bool
  gives c =
      if side.has_readdatavalid then is_raised (view.readdatavalid c)
      else nat_le side.read_latency c && is_raised (view.read (c - side.read_latency)) && agent_accepts side view (c - side.read_latency)

  module _ (fixed : GivesFixed responses side view up state end) where
    -- the row holds the reads that were taken so many cycles before
    row_is : (c i : ℕ) → c < end → is_some (state.row c i) ≡ (nat_lt i c && reads (c - suc i))
    row_is zero i fit = let none : nat_lt i 0 ≡ false = grind (arith, tests) in rw (fixed.empty i, none) refl
    row_is (suc c) zero fit = ap is_some (fixed.first c fit) ∙ by_read (reads c) refl
      where
        by_read : (b : Bool) → reads c ≡ b → is_some (if b then Some (up.commands.tag c) else None) ≡ (nat_lt 0 (suc c) && reads (suc c - 1))
        by_read b e =
            let some : nat_lt 0 (suc c) ≡ true = grind (arith, tests) in
            let last : suc c - 1 ≡ c = omega arith in
            one b ∙ sym (rw (some, last) e)
          where
            one : (b : Bool) → is_some (if b then Some (up.commands.tag c) else None) ≡ b
            one true = refl
            one false = refl
    row_is (suc c) (suc i) fit =
        let more = row_is c i (omega (arith, fit)) in
        let last : suc c - suc (suc i) ≡ c - suc i = omega arith in
        ap is_some (fixed.next c i fit) ∙ more ∙ ap₂ (λ b k. b && reads k) (same_test (nat_lt i c) (nat_lt (suc i) (suc c)) refl refl) (sym last)
      where
        same_test : (a b : Bool) → nat_lt i c ≡ a → nat_lt (suc i) (suc c) ≡ b → nat_lt i c ≡ nat_lt (suc i) (suc c)
        same_test a b ea eb = grind (arith, tests)

    -- a word of the agent goes up in its cycle, or at latency 0 in the next
    goes_up : IsFalse side.has_readdatavalid → (k e : ℕ) → 1 ≤ row_places side → row_places side ≡ side.read_latency + e → k + e < end → IsTrue (gives k) → IsTrue (is_raised (up.answers.valid (k + e)))
    goes_up none k e some places fit h =
        let all : IsTrue (nat_le side.read_latency k && is_raised (view.read (k - side.read_latency)) && agent_accepts side view (k - side.read_latency)) = rw none at h in
        let two = and_parts (nat_le side.read_latency k && is_raised (view.read (k - side.read_latency))) (agent_accepts side view (k - side.read_latency)) all in
        let one = and_parts (nat_le side.read_latency k) (is_raised (view.read (k - side.read_latency))) two.0 in
        let reached : side.read_latency ≤ k = by_test _ _ one.0 in
        let late : nat_lt (row_places side - 1) (k + e) ≡ true = within_row (row_places side) (omega (arith, reached, places, some)) in
        let when : k + e - suc (row_places side - 1) ≡ k - side.read_latency = omega (arith, reached, places, some) in
        let took : IsTrue (reads (k - side.read_latency)) = both _ _ (accepted (k - side.read_latency) (omega (arith, fit)) ∙ two.1) (by_read side.has_read refl one.1) in
        fixed.valid (k + e) fit ∙ row_is (k + e) (row_places side - 1) fit ∙ rw (late, when) took
      where
        by_test : (n m : ℕ) → IsTrue (nat_le n m) → n ≤ m
        by_test n m t = grind (arith, tests, t)

        within_row : (p : ℕ) → p - 1 < k + e → nat_lt (p - 1) (k + e) ≡ true
        within_row p less = grind (arith, tests, less)

        raised : (b : Bool) (n : ℕ) → IsTrue (is_raised (if b then 0 else n)) → IsTrue (is_raised n)
        raised true n x = absurd (grind (arith, tests, x))
        raised false n x = x

        by_read : (b : Bool) → side.has_read ≡ b → IsTrue (is_raised (view.read (k - side.read_latency))) → IsTrue (is_raised (up.commands.read (k - side.read_latency)))
        by_read true e' x = raised (is_full side state (k - side.read_latency)) _ (subst (λ n. IsTrue (is_raised n)) (machine.commands.read (k - side.read_latency) (omega (arith, fit)) e') x)
        by_read false e' x = absurd (no_true (subst (λ n. IsTrue (is_raised n)) (machine.commands.no_read (k - side.read_latency) (omega (arith, fit)) e') x))

  -- what comes later, counted
  counted : {A B : Type 0} (f g : ℕ → Bool) (x : ℕ → A) (y : ℕ → B) (e : ℕ) → ((k : ℕ) → k + e < end → IsTrue (f k) → IsTrue (g (k + e))) → (c : ℕ) → c + e ≤ end →
      length (before (λ k. only_if (f k) (x k)) c) ≤ length (before (λ k. only_if (g k) (y k)) (c + e))
  counted f g x y e later zero fit = omega arith
  counted {A} {B} f g x y e later (suc c) fit =
      let same : suc c + e ≡ suc (c + e) = omega arith in
      subst (λ n. length (before (λ k. only_if (f k) (x k)) (suc c)) ≤ length (before (λ k. only_if (g k) (y k)) n)) (sym same) (by_now (f c) (g (c + e)) refl refl (counted f g x y e later c (omega (arith, fit))))
    where
      by_now : (b d : Bool) → f c ≡ b → g (c + e) ≡ d → length (before (λ k. only_if (f k) (x k)) c) ≤ length (before (λ k. only_if (g k) (y k)) (c + e)) →
          length (before (λ k. only_if (f k) (x k)) c ++ only_if (f c) (x c)) ≤ length (before (λ k. only_if (g k) (y k)) (c + e) ++ only_if (g (c + e)) (y (c + e)))
      by_now true true eb ed more =
          let one = length-append (before (λ k. only_if (f k) (x k)) c) (x c ∷ []) in
          let two = length-append (before (λ k. only_if (g k) (y k)) (c + e)) (y (c + e) ∷ []) in
          rw (eb, ed) (omega (arith, one, two, more))
      by_now true false eb ed more = absurd (no_both (g (c + e)) (later c (omega (arith, fit)) eb) ed)
      by_now false d eb ed more =
          let one = ap length (append-nil (before (λ k. only_if (f k) (x k)) c)) in
          let two = length-append (before (λ k. only_if (g k) (y k)) (c + e)) (only_if (g (c + e)) (y (c + e))) in
          rw eb (omega (arith, one, two, more))

  words_grow : (c : ℕ) → length (words_at up.port c) ≤ length (words_at up.port (suc c))
  words_grow c = prefix_length (before_extends _ c)

  pub come_soon : (IsTrue side.has_readdatavalid → SendsWordsUp system run agent up.port end) → WordsComeSoon system run agent up.port end
  come_soon sends c fit answered = by_has side.has_readdatavalid refl
    where
      reads_up : words_owed up.port (suc c) ≤ length (filter is_read_beat (beats_taken system run agent (suc c)))
      reads_up = reads_few (suc c) (omega (arith, fit))

      all : length (filter is_read_beat (beats_taken system run agent (suc c))) ≤ words_from_agent system run agent (suc c)
      all = ltb-false (words_from_agent system run agent (suc c)) (length (filter is_read_beat (beats_taken system run agent (suc c)))) answered

      by_latency : IsFalse side.has_readdatavalid → (l : ℕ) → side.read_latency ≡ l → words_owed up.port (suc c) ≤ length (words_at up.port (suc (suc c)))
      by_latency none zero e =
          let places : row_places side ≡ 1 = ap (λ n. max 1 n) e ∙ (omega arith) in
          let up_by : words_from_agent system run agent (suc c) ≤ length (words_at up.port (suc c + 1)) = counted gives (λ k. is_raised (up.answers.valid k)) _ _ 1 (λ k less h. goes_up (machine.fixed none) none k 1 (omega (arith, places)) (omega (arith, places, e)) less h) (suc c) (omega (arith, fit)) in
          let same : suc c + 1 ≡ suc (suc c) = omega arith in
          let up_to : words_from_agent system run agent (suc c) ≤ length (words_at up.port (suc (suc c))) = subst (λ n. words_from_agent system run agent (suc c) ≤ length (words_at up.port n)) same up_by in
          let few = reads_up in
          let most = all in
          omega (arith, up_to, few, most)
      by_latency none (suc l) e =
          let places : row_places side ≡ suc l = ap (λ n. max 1 n) e ∙ (omega arith) in
          let up_by : words_from_agent system run agent (suc c) ≤ length (words_at up.port (suc c + 0)) = counted gives (λ k. is_raised (up.answers.valid k)) _ _ 0 (λ k less h. goes_up (machine.fixed none) none k 0 (omega (arith, places)) (omega (arith, places, e)) less h) (suc c) (omega (arith, fit)) in
          let same : suc c + 0 ≡ suc c = omega arith in
          let up_to : words_from_agent system run agent (suc c) ≤ length (words_at up.port (suc c)) = subst (λ n. words_from_agent system run agent (suc c) ≤ length (words_at up.port n)) same up_by in
          let few = reads_up in
          let most = all in
          let more = words_grow (suc c) in
          omega (arith, up_to, few, most, more)

      by_has : (b : Bool) → side.has_readdatavalid ≡ b → words_owed up.port (suc c) ≤ length (words_at up.port (suc (suc c)))
      by_has true has =
          let none = ltb-false (length (words_at up.port (suc c))) (words_owed up.port (suc c)) (sends has c fit answered) in
          let more = words_grow (suc c) in
          omega (arith, none, more)
      by_has false none = by_latency none side.read_latency refl
