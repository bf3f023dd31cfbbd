-- No word is given before the read that asks for it.
use Rattle.std.proofs.Common.{◌≡◌, ◌+◌, ◌<◌, ◌≤◌, ℕ, zero, suc, Bool, true, false, not, ◌&&◌, nat_le, List, [], ◌∷◌, ◌++◌, length, flat_map, if◌then◌else◌, refl, ap, ◌∙◌, arith, append-nil}
use Rattle.std.proofs.lemmas.List.{length-append, length-map}
use Rattle.std.proofs.lemmas.List.Elements.{filter-append}
use Rattle.std.proofs.lemmas.Grind.{flat_map-append}
use Rattle.iface_roles.specs.declared.records.AgentPort.{AgentPort}
use Rattle.histories.specs.History.{before, is_raised, one_if, only_if, numbers}
use Rattle.memory_runs.specs.Views.{Shape, Signals, Levels, levels_at, AgentSide, AgentView}
use Rattle.memory_runs.specs.Commands.{Transfer, accepted, agent_accepts, burst_before, transfer_of, read_transfer, read_beats, read_beat, reads_among, words_before, is_of_reads}
use Rattle.memory_runs.specs.Legal.{IsLegalAgent, AreOwed, words_asked}
use Rattle.memory_runs.specs.Sides.{agent_side}
use Rattle.scenario_tables.specs.declared.statements.AgentStatement.{AgentStatement}
use Rattle.stand_ins.specs.Contents.{contents_before}
use Rattle.stand_ins.specs.Codes.{code_at}
use Rattle.stand_ins.specs.declared.waiting.Waiting.{Waiting}
use Rattle.stand_ins.specs.Answers.{is_due, still_waiting, is_borne, asked_word, asked_words, takes_read, latency_of, waiting_after, waiting_before}
use Rattle.stand_ins.specs.StandIns.{IsAgentStandIn}

-- ---- what a cycle adds to the words that are asked

pub read_beats_append : (before more : List Transfer) → read_beats (before ++ more) ≡ read_beats before ++ read_beats more
read_beats_append before more =
    ap (flat_map (λ (t : Transfer). t.beats)) (filter-append (λ (t : Transfer). is_of_reads t.kind) before more) ∙ flat_map-append (λ (t : Transfer). t.beats) (reads_among before) (reads_among more)

pub asked_more : (shape : Shape) (signals : Signals) (accepts : ℕ → Bool) (c : ℕ) →
    words_asked shape signals accepts (suc c)
    ≡ words_asked shape signals accepts c + length (read_beats (only_if (accepts c) (transfer_of shape (levels_at signals c) (burst_before shape signals accepts c))))
asked_more shape signals accepts c = ap length (read_beats_append (accepted shape signals accepts c) _) ∙ length-append _ _

read_added : (shape : Shape) (levels : Levels) (written : Transfer) (accepts writes : Bool) → (accepts && not writes) ≡ true →
    length (read_beats (only_if accepts (if writes then written else read_transfer shape levels))) ≡ length (numbers 0 levels.count)
read_added shape levels written true true reads = absurd (cc)
read_added shape levels written true false reads = ap length (append-nil _) ∙ length-map (numbers 0 levels.count) (read_beat shape levels)
read_added shape levels written false writes reads = absurd (cc)

-- ---- what waits

still_or_given : (cycle : ℕ) (waiting : List Waiting) → one_if (is_due cycle waiting) + length (still_waiting cycle waiting) ≡ length waiting
still_or_given cycle [] = refl
still_or_given cycle (first ∷ later) = elim (nat_le first.due cycle) as (λ due. one_if due + length (if due then later else first ∷ later) ≡ suc (length later)) [ true ↦ omega arith | false ↦ omega arith ]

given_waits : (cycle : ℕ) (waiting : List Waiting) → one_if (is_due cycle waiting) ≤ length waiting
given_waits cycle waiting = omega (arith, still_or_given cycle waiting)

pub raised_if : (test : Bool) → is_raised (one_if test) ≡ test
raised_if true = refl
raised_if false = refl

length_if : (test : Bool) (c : ℕ) → length (only_if test c) ≡ one_if test
length_if true c = refl
length_if false c = refl

pub word_more : (valid : ℕ → ℕ) (c : ℕ) → words_before valid (suc c) ≡ words_before valid c + one_if (is_raised (valid c))
word_more valid c = length-append (before (λ c. only_if (is_raised (valid c)) c) c) _ ∙ ap (λ n. words_before valid c + n) (length_if (is_raised (valid c)) c)

added_at_most : (side : AgentSide) (latency cycle : ℕ) (contents codes : ℕ → ℕ) (levels : Levels) (reads : Bool) (waiting : List Waiting) (asked : ℕ) → (reads ≡ true → asked ≡ length (numbers 0 levels.count)) →
    length (waiting_after side latency cycle contents codes levels reads waiting) ≤ length (still_waiting cycle waiting) + asked
added_at_most side latency cycle contents codes levels reads waiting asked is =
    elim reads as (λ (r : Bool). (r ≡ true → asked ≡ length (numbers 0 levels.count)) → length (waiting_after side latency cycle contents codes levels r waiting) ≤ length (still_waiting cycle waiting) + asked) [
      | true ↦ λ is. elim (is_borne side (still_waiting cycle waiting) levels.count) as (λ borne. length (if borne then still_waiting cycle waiting ++ asked_words side contents codes (cycle + latency) levels else still_waiting cycle waiting) ≤ length (still_waiting cycle waiting) + asked) [
        | true ↦ omega (arith, length-append (still_waiting cycle waiting) (asked_words side contents codes (cycle + latency) levels), length-map (numbers 0 levels.count) (λ number. asked_word side contents codes (cycle + latency) levels number), is refl)
        | false ↦ omega arith
      ]
      | false ↦ λ is. omega arith
    ] is

-- ---- a whole run

module _ (port : AgentPort) (script : List AgentStatement) (view : AgentView) (end : ℕ) (late : port.readdatavalid ≡ true) (stand_in : IsAgentStandIn port script view end) where
  pub given_in : (c : ℕ) → c < end → is_raised (view.readdatavalid c) ≡ is_due c (waiting_before (agent_side port) script view c)
  given_in c low =
      ap is_raised (stand_in.readdatavalid c low) ∙ raised_if _ ∙ ap (λ late. late && is_due c (waiting_before (agent_side port) script view c)) late

  -- what is given and what waits was asked
  asked_first : (c : ℕ) → c ≤ end →
      words_before view.readdatavalid c + length (waiting_before (agent_side port) script view c) ≤ words_asked (agent_side port).shape view.signals (agent_accepts (agent_side port) view) c
  asked_first zero low = omega arith
  asked_first (suc c) low =
      let side = agent_side port in
      let waiting = waiting_before side script view c in
      let accepts = agent_accepts side view in
      let levels = levels_at view.signals c in
      let added = length (read_beats (only_if (accepts c) (transfer_of side.shape levels (burst_before side.shape view.signals accepts c)))) in
      omega (
        arith,
        asked_first c (omega arith),
        word_more view.readdatavalid c,
        ap one_if (given_in c low),
        still_or_given c waiting,
        asked_more side.shape view.signals accepts c,
        added_at_most side (latency_of script) c (contents_before side script view c) (code_at side script) levels (takes_read side view c) waiting added
            (λ reads. read_added side.shape levels _ (accepts c) (is_raised levels.write) reads),
      )

  pub owed : AreOwed view.readdatavalid (words_asked (agent_side port).shape view.signals (agent_accepts (agent_side port) view)) end
  owed c low =
      omega (arith, asked_first c (omega arith), word_more view.readdatavalid c, ap one_if (given_in c low), given_waits c (waiting_before (agent_side port) script view c))

pub legal : (port : AgentPort) (script : List AgentStatement) (view : AgentView) (end : ℕ) → IsAgentStandIn port script view end → IsLegalAgent (agent_side port) view end
legal port script view end stand_in = record { owed = λ late. owed port script view end late stand_in }
