-- Where an agent with readdatavalid owes nothing, no word is owed above its part.
use Rattle.std.proofs.Common.{◌≡◌, ℕ, zero, suc, ◌+◌, ◌<◌, ◌≤◌, Bool, true, false, not, ◌&&◌, ◌||◌, List, [], ◌∷◌, ◌++◌, length, filter, map, nat_lt, arith, refl, sym, ap, ◌∙◌, subst, IsTrue, IsFalse, tests, append-nil, length-append, le_of_eq, ltb-false}
use Rattle.std.proofs.lemmas.List.{length-map}
use Rattle.std.proofs.lemmas.List.Elements.{filter-append}
use Rattle.histories.specs.History.{before, is_raised, numbers}
use Rattle.memory_runs.specs.Views.{System, Run, Responses, AgentSide, AgentView, Shape, Levels, levels_at}
use Rattle.memory_runs.specs.Operations.{Beat}
use Rattle.memory_runs.specs.Commands.{Burst, shows, agent_accepts, burst_before, longest_burst, read_beat, is_held}
use Rattle.memory_runs.specs.Order.{beats_taken, beats_taken_in, is_read_beat, words_given_in}
use Rattle.memory_machines.specs.Link.{Port, Marked, AreLegalAt, takes, taken_at, marked_at, read_beats, words_at, words_owed}
use Rattle.memory_machines.specs.Lines.{TaggedPort}
use Rattle.memory_parts.specs.Agent.{AgentState, IsAgentMachine}
use Rattle.memory_parts.specs.Steps.{words_from_agent}
use Rattle.memory_awake.proofs.Beats.{numbers_length}
use Rattle.memory_awake.proofs.Owed.{beats_append}
use Rattle.memory_awake.proofs.Bits.{no_true, takes_shows, none_taken, one_taken}
use Rattle.memory_awake.specs.Onward.{SendsWordsUp}
use Rattle.memory_awake.proofs.HostGrants.{no_both}

-- a shown beat of a legal host, at which no burst is under way, begins a burst that isn't too long
module _ (port : Port) (end : ℕ) (legal : AreLegalAt port end) where
  abbrev burst : ℕ → Burst
  burst c = burst_before port.shape port.commands.signals (takes port) c

  few_shown : (c : ℕ) → c < end → IsTrue (shows port.commands.signals c) → IsFalse (nat_lt 0 (burst c).left) → port.commands.count c ≤ longest_burst port.shape.burst_bits
  few_shown zero fit shown free = legal.legal.most 0 fit shown free
  few_shown (suc c) fit shown free = by_held (is_held port.commands.signals (takes port) c) refl (few_shown c (omega (arith, fit)))
    where
      parts_of_held : (s t : Bool) → IsTrue (s && not t) → IsTrue s × IsFalse t
      parts_of_held true false h = (refl, refl)
      parts_of_held true true h = absurd (no_true h)
      parts_of_held false t h = absurd (no_true h)

      first : (s h : Bool) → IsTrue s → IsFalse h → IsTrue (s && not h)
      first s h x y = grind (arith, tests)

      by_held : (b : Bool) → is_held port.commands.signals (takes port) c ≡ b →
          (IsTrue (shows port.commands.signals c) → IsFalse (nat_lt 0 (burst c).left) → port.commands.count c ≤ longest_burst port.shape.burst_bits) → port.commands.count (suc c) ≤ longest_burst port.shape.burst_bits
      by_held false e more = legal.legal.most (suc c) fit (first (shows port.commands.signals (suc c)) (is_held port.commands.signals (takes port) c) shown e) free
      by_held true e more =
          let its = parts_of_held (shows port.commands.signals c) (takes port c) e in
          let same = ap (λ (l : Levels). l.count) (legal.legal.held c fit e) in
          let still : burst (suc c) ≡ burst c = rw its.1 refl in
          subst (λ n. n ≤ longest_burst port.shape.burst_bits) same (more its.0 (subst (λ (b : Burst). IsFalse (nat_lt 0 b.left)) still free))

all_reads : (tag : ℕ) (shape : Shape) (levels : Levels) (ns : List ℕ) → length (filter is_read_beat (map (λ b. record { tag = tag; beat = b }) (map (read_beat shape levels) ns))) ≡ length ns
all_reads tag shape levels [] = refl
all_reads tag shape levels (n ∷ ns) = ap suc (all_reads tag shape levels ns)

beats_length : (xs ys : List Marked) → length (read_beats (xs ++ ys)) ≡ length (read_beats xs) + length (read_beats ys)
beats_length xs ys = ap length (beats_append xs ys) ∙ length-append (read_beats xs) (read_beats ys)

module _ (responses : Responses) (system : System) (run : Run) (agent : ℕ) (up : TaggedPort) (state : AgentState) (end : ℕ) (machine : IsAgentMachine responses (system.agent agent) (run.at_agent agent) up state end)
    (legal : AreLegalAt up.port end) (accepted : (c : ℕ) → c < end → takes up.port c ≡ agent_accepts (system.agent agent) (run.at_agent agent) c) (has : IsTrue (system.agent agent).has_readdatavalid) where
  abbrev side : AgentSide
  side = system.agent agent

  abbrev view : AgentView
  view = run.at_agent agent

  words_same : (c : ℕ) → c ≤ end → length (words_at up.port c) ≡ words_from_agent system run agent c
  words_same zero low = refl
  words_same (suc c) low = by_valid (is_raised (view.readdatavalid c)) refl (words_same c (omega (arith, low)))
    where
      by_valid : (v : Bool) → is_raised (view.readdatavalid c) ≡ v → length (words_at up.port c) ≡ words_from_agent system run agent c → length (words_at up.port (suc c)) ≡ words_from_agent system run agent (suc c)
      by_valid true e more =
          let above : is_raised (up.answers.valid c) ≡ true = (machine.queued has).valid c (omega (arith, low)) ∙ e in
          let left : length (words_at up.port (suc c)) ≡ length (words_at up.port c) + 1 = rw above (length-append (words_at up.port c) _) in
          let right : words_from_agent system run agent (suc c) ≡ words_from_agent system run agent c + 1 = rw (has, e) (length-append (before (words_given_in system run agent) c) _) in
          omega (arith, left, right, more)
      by_valid false e more =
          let above : is_raised (up.answers.valid c) ≡ false = (machine.queued has).valid c (omega (arith, low)) ∙ e in
          let left : length (words_at up.port (suc c)) ≡ length (words_at up.port c) = rw above (ap length (append-nil (words_at up.port c))) in
          let right : words_from_agent system run agent (suc c) ≡ words_from_agent system run agent c = rw (has, e) (ap length (append-nil (before (words_given_in system run agent) c))) in
          omega (arith, left, right, more)

  -- what is shown above as a read asks no more words than the agent is asked
  read_alike : (c : ℕ) → c < end → IsTrue (takes up.port c) → IsFalse (is_raised (up.commands.write c)) → (is_raised (view.write c) ≡ false) × (up.commands.count c ≤ view.count c)
  read_alike c fit took kind = (by_write side.has_write refl, by_burst side.has_burst refl)
    where
      by_write : (b : Bool) → side.has_write ≡ b → is_raised (view.write c) ≡ false
      by_write true e = ap is_raised (machine.commands.write c fit e) ∙ kind
      by_write false e = ap is_raised (machine.commands.no_write c fit e)

      shown : IsTrue (shows up.commands.signals c)
      shown = takes_shows up.port c took

      read_shown : (r w : Bool) → IsTrue (r || w) → IsFalse w → IsTrue r
      read_shown true w s f = refl
      read_shown false w s f = absurd (no_both w s f)

      free : IsFalse (nat_lt 0 (burst_before up.shape up.commands.signals (takes up.port) c).left)
      free = by_left (nat_lt 0 (burst_before up.shape up.commands.signals (takes up.port) c).left) refl
        where
          by_left : (b : Bool) → nat_lt 0 (burst_before up.shape up.commands.signals (takes up.port) c).left ≡ b → IsFalse b
          by_left false e = refl
          by_left true e = absurd (no_both _ (read_shown (is_raised (up.commands.read c)) (is_raised (up.commands.write c)) shown kind) (legal.legal.finished c fit e))

      by_burst : (b : Bool) → side.has_burst ≡ b → up.commands.count c ≤ view.count c
      by_burst true e = le_of_eq (sym (machine.commands.count c fit ∙ (rw e refl)))
      by_burst false e =
          let one : view.count c ≡ 1 = machine.commands.count c fit ∙ (rw e refl) in
          let bits : up.shape.burst_bits ≡ 1 = machine.commands.bursts ∙ machine.commands.plain e in
          let most : up.commands.count c ≤ longest_burst 1 = subst (λ n. up.commands.count c ≤ longest_burst n) bits (few_shown up.port end legal c fit shown free) in
          omega (arith, one, most)

  reads_few : (c : ℕ) → c ≤ end → words_owed up.port c ≤ length (filter is_read_beat (beats_taken system run agent c))
  reads_few zero low = omega arith
  reads_few (suc c) low = by_take (takes up.port c) refl (is_raised (up.commands.write c)) refl (reads_few c (omega (arith, low)))
    where
      fit : c < end
      fit = omega (arith, low)

      grown : length (filter is_read_beat (beats_taken system run agent (suc c))) ≡ length (filter is_read_beat (beats_taken system run agent c)) + length (filter is_read_beat (beats_taken_in system run agent c))
      grown = ap length (filter-append is_read_beat (beats_taken system run agent c) (beats_taken_in system run agent c)) ∙ length-append (filter is_read_beat (beats_taken system run agent c)) (filter is_read_beat (beats_taken_in system run agent c))

      above : IsTrue (takes up.port c) → words_owed up.port (suc c) ≡ words_owed up.port c + length (read_beats (marked_at up.port c ∷ []))
      above e = ap (λ l. length (read_beats l)) (one_taken up.port c e) ∙ beats_length (taken_at up.port c) (marked_at up.port c ∷ [])

      asked_above : IsFalse (is_raised (up.commands.write c)) → length (read_beats (marked_at up.port c ∷ [])) ≡ up.commands.count c
      asked_above kind = rw kind (ap length (append-nil (map (read_beat up.shape (levels_at up.commands.signals c)) (numbers 0 (up.commands.count c)))) ∙ length-map (numbers 0 (up.commands.count c)) (read_beat up.shape (levels_at up.commands.signals c)) ∙ numbers_length 0 (up.commands.count c))

      asked_here : agent_accepts side view c ≡ true → is_raised (view.write c) ≡ false → length (filter is_read_beat (beats_taken_in system run agent c)) ≡ view.count c
      asked_here accepts kind = rw (accepts, kind) (
          ap (λ (l : List Beat). length (filter is_read_beat (map (λ b. record { tag = view.grant c; beat = b }) l))) (append-nil (map (read_beat side.shape (levels_at view.signals c)) (numbers 0 (view.count c))))
          ∙ all_reads (view.grant c) side.shape (levels_at view.signals c) (numbers 0 (view.count c)) ∙ numbers_length 0 (view.count c)
          )

      by_take : (t : Bool) → takes up.port c ≡ t → (w : Bool) → is_raised (up.commands.write c) ≡ w → words_owed up.port c ≤ length (filter is_read_beat (beats_taken system run agent c)) →
          words_owed up.port (suc c) ≤ length (filter is_read_beat (beats_taken system run agent (suc c)))
      by_take false e w ew more =
          let still = ap (λ l. length (read_beats l)) (none_taken up.port c e) in
          let all = grown in
          omega (arith, still, all, more)
      by_take true e true ew more =
          let one = above e in
          let none : length (read_beats (marked_at up.port c ∷ [])) ≡ 0 = rw ew refl in
          let all = grown in
          omega (arith, one, none, all, more)
      by_take true e false ew more =
          let one = above e in
          let asks = asked_above ew in
          let alike = read_alike c fit e ew in
          let most = alike.1 in
          let here = asked_here (sym (accepted c fit) ∙ e) alike.0 in
          let all = grown in
          omega (arith, one, asks, most, here, all, more)

  pub sends : SendsWordsUp system run agent up.port end
  sends c fit answered =
      let words = words_same (suc c) (omega (arith, fit)) in
      let few = reads_few (suc c) (omega (arith, fit)) in
      let all = ltb-false (words_from_agent system run agent (suc c)) (length (filter is_read_beat (beats_taken system run agent (suc c)))) answered in
      not_less (length (words_at up.port (suc c))) (words_owed up.port (suc c)) (omega (arith, words, few, all))
    where
      not_less : (n m : ℕ) → m ≤ n → nat_lt n m ≡ false
      not_less n m h = grind (arith, tests, h)
