-- Reads for an agent whose reads have one word ask for one, and those for another for one at least.
use Rattle.std.proofs.Common.{◌≡◌, ℕ, ◌<◌, ◌≤◌, zero, suc, Bool, true, false, not, ◌||◌, nat_lt, refl, sym, ap, subst, ◌∙◌, arith, IsTrue}
use Rattle.std.specs.Bool.{IsFalse}
use Rattle.std.proofs.lemmas.Bool.{ltb-false}
use Rattle.iface_roles.specs.declared.records.AgentPort.{AgentPort}
use Rattle.histories.specs.History.{is_raised}
use Rattle.memory_runs.specs.Views.{Shape, Signals, Levels}
use Rattle.memory_runs.specs.Commands.{shows, longest_burst, is_held, presents}
use Rattle.memory_runs.specs.Legal.{AreLegal, is_under_way}
use Rattle.memory_machines.specs.Link.{Port, takes}
use Rattle.memory_machines.specs.Lines.{IsFit, ServesKinds}
use Rattle.memory_parts.specs.Queue.{takes_read}
use Rattle.memory_runs.specs.Sides.{burst_width}
use Rattle.memory_plans.specs.Systems.{side_of_agent, memory_system}
use Rattle.link_rules.specs.Plans.{PlanTable}
use Rattle.mm_agent.specs.Agents.{counts_words, shape_above}
use Rattle.mm_agent.specs.Forms.{AreFitFor}
use Rattle.memory_plans.specs.Maps.{IsAgentOf}
use Rattle.memory_plans.proofs.Entries.{both}

-- without burstcount its width counts as 1
plain_width : (bits : ℕ) → IsFalse (nat_lt 1 bits) → burst_width bits ≡ 1
plain_width zero plain = refl
plain_width (suc zero) plain = refl
plain_width (suc (suc bits)) plain = absurd (let most = ltb-false 1 (suc (suc bits)) plain in omega (arith, most))

module _ (shape : Shape) (signals : Signals) (accepts : ℕ → Bool) (end : ℕ) (legal : AreLegal shape signals accepts end) where
  abbrev pub is_read : ℕ → Bool
  is_read c = is_raised (signals.read c)

  -- no burst is under way where a read stands
  no_burst : (c : ℕ) → c < end → is_read c ≡ true → IsFalse (is_under_way shape signals accepts c)
  no_burst c within reads = by (is_under_way shape signals accepts c) refl
    where
      by : (b : Bool) → is_under_way shape signals accepts c ≡ b → is_under_way shape signals accepts c ≡ false
      by true e = absurd (let no : true ≡ false = sym reads ∙ legal.finished c within e in cc)
      by false e = e

  -- a read asks for one word at least, and for no more than the longest burst
  abbrev pub InBounds : ℕ → Type 0
  InBounds count = (1 ≤ count) × (count ≤ longest_burst shape.burst_bits)

  presented : (c : ℕ) → c < end → is_read c ≡ true → presents signals accepts c ≡ true → InBounds (signals.count c)
  presented c within reads first = (legal.least c within first (no_burst c within reads), legal.most c within first (no_burst c within reads))

  shown : (c : ℕ) → is_read c ≡ true → shows signals c ≡ true
  shown c reads = ap (λ b. b || is_raised (signals.write c)) reads

  pub in_bounds : (c : ℕ) → c < end → is_read c ≡ true → InBounds (signals.count c)
  in_bounds zero within reads = presented zero within reads (shown zero reads)
  in_bounds (suc c) within reads = by (is_held signals accepts c) refl (in_bounds c (omega (arith, within)))
    where
      by : (b : Bool) → is_held signals accepts c ≡ b → (is_read c ≡ true → InBounds (signals.count c)) → InBounds (signals.count (suc c))
      by true e before =
          let same = legal.held c within e in
          let reads_before : is_read c ≡ true = ap (λ (l : Levels). is_raised l.read) same ∙ reads in
          subst InBounds (ap (λ (l : Levels). l.count) same) (before reads_before)
      by false e before = presented (suc c) within reads (let here = shown (suc c) reads in rw (here, e) refl)

module _ (plan : PlanTable) (agent : ℕ) (port : AgentPort) (is : IsAgentOf plan agent port) (up : Port) (shape : up.shape ≡ shape_above port) (end : ℕ) (fit : IsFit (memory_system plan) agent up end) where
  one_word : IsFalse (counts_words port) → (c : ℕ) → c < end → IsTrue (takes_read up c) → up.commands.count c ≡ 1
  one_word plain c within taken =
      let bounds = in_bounds up.shape up.commands.signals (takes up) end fit.legal.legal c within (both (takes up c) (is_raised (up.commands.read c)) taken).1 in
      let width : up.shape.burst_bits ≡ 1 = ap (λ (s : Shape). s.burst_bits) shape ∙ plain_width port.burst_bits plain in
      let longest : longest_burst up.shape.burst_bits ≡ 1 = ap longest_burst width in
      let least = bounds.0 in
      let most = bounds.1 in
      omega (arith, least, most, longest)

  some_words : IsTrue (counts_words port) → (c : ℕ) → c < end → IsTrue (takes_read up c) → 1 ≤ up.commands.count c
  some_words several c within taken = (in_bounds up.shape up.commands.signals (takes up) end fit.legal.legal c within (both (takes up c) (is_raised (up.commands.read c)) taken).1).0

  pub are_fit : AreFitFor port up end
  are_fit = record {
    kinds = subst (λ side. ServesKinds side up end) (ap side_of_agent is) fit.kinds;
    one_word = one_word;
    some_words = some_words;
  }
