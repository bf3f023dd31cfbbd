-- What a host has presented and an agent has taken before a cycle depends on what is shown before it.
use Rattle.std.proofs.Common.{◌≡◌, ℕ, zero, suc, ◌+◌, ◌≤◌, ◌<◌, Bool, not, ◌&&◌, ◌||◌, List, ◌++◌, map, flat_map, filter, take, length, slice_get, MatchOption, Option, if◌then◌else◌, refl, ap, ap₂, ◌∙◌, subst, arith, nat_eq, nat_le, IsTrue}
use Rattle.std.specs.Bool.{⊤}
use Rattle.histories.specs.History.{before, only_if, is_raised}
use Rattle.memory_runs.specs.Views.{Signals, Levels, levels_at, Shape, AgentSide, AgentView, System, Run}
use Rattle.memory_runs.specs.Commands.{Transfer, shows, presents, accepts_by, wait_time, stood_before, agent_accepts, burst_before, burst_after, transfer_at, transfer_of, is_of_reads}
use Rattle.memory_runs.specs.Legal.{host_accepts}
use Rattle.memory_runs.specs.Order.{TaggedBeat, beats_taken, for_agent, host_transfers, transfer_operations}
use Rattle.memory_runs.specs.Packed.{ReadsEachTouchedWordOnce, beats_between, operations_touched}
use Rattle.memory_runs.specs.Beginnings.{AgentsAgree, RunsAgreeBefore}

same_before : {A : Type 0} (f g : ℕ → List A) (end : ℕ) → ((c : ℕ) → c < end → f c ≡ g c) → (c : ℕ) → c ≤ end → before f c ≡ before g c
same_before f g end same zero low = refl
same_before f g end same (suc c) low = ap₂ (λ a b. a ++ b) (same_before f g end same c (omega arith)) (same c (omega arith))

-- a side that carries commands
module _ (shape : Shape) (one two : Signals) (takes takes' : ℕ → Bool) (end : ℕ) (same : (c : ℕ) → c < end → levels_at one c ≡ levels_at two c) (accepts : (c : ℕ) → c < end → takes c ≡ takes' c) where
  same_shows : (c : ℕ) → c < end → shows one c ≡ shows two c
  same_shows c low = ap (λ (l : Levels). is_raised l.read || is_raised l.write) (same c low)

  same_presents : (c : ℕ) → c < end → presents one takes c ≡ presents two takes' c
  same_presents zero low = same_shows zero low
  same_presents (suc c) low = ap₂ (λ s k. s && not k) (same_shows (suc c) low) (ap₂ (λ s a. s && not a) (same_shows c (omega arith)) (accepts c (omega arith)))

  same_burst : (c : ℕ) → c ≤ end → burst_before shape one takes c ≡ burst_before shape two takes' c
  same_burst zero low = refl
  same_burst (suc c) low =
      ap₂ (λ l a. burst_after shape l a (burst_before shape one takes c)) (same c (omega arith)) (accepts c (omega arith))
      ∙ ap (burst_after shape (levels_at two c) (takes' c)) (same_burst c (omega arith))

  same_transfer : (c : ℕ) → c < end → transfer_at shape one takes c ≡ transfer_at shape two takes' c
  same_transfer c low = ap₂ (transfer_of shape) (same c low) (same_burst c (omega arith))

  presented_alike : (c : ℕ) → c < end → only_if (presents one takes c) (transfer_at shape one takes c) ≡ only_if (presents two takes' c) (transfer_at shape two takes' c)
  presented_alike c low = ap₂ (λ b t. only_if b t) (same_presents c low) (same_transfer c low)

  taken_alike : (c : ℕ) → c < end → only_if (takes c) (transfer_at shape one takes c) ≡ only_if (takes' c) (transfer_at shape two takes' c)
  taken_alike c low = ap₂ (λ b t. only_if b t) (accepts c low) (same_transfer c low)

-- an agent
module _ (side : AgentSide) (one two : AgentView) (end : ℕ) (same : AgentsAgree one two end) where
  same_stood : (c : ℕ) → c ≤ end → stood_before side one c ≡ stood_before side two c
  same_stood zero low = refl
  same_stood (suc c) low =
      ap₂ (λ (l : Levels) n. if (is_raised l.read || is_raised l.write) && not (nat_eq n (if is_raised l.write then side.write_wait else side.read_wait)) then n + 1 else 0) (same.signals c (omega arith)) (same_stood c (omega arith))

  same_accepts : (c : ℕ) → c < end → agent_accepts side one c ≡ agent_accepts side two c
  same_accepts c low =
      ap₂ (λ (l : Levels) w. if side.has_waitrequest then (is_raised l.read || is_raised l.write) && not (is_raised w)
      else (is_raised l.read || is_raised l.write) && nat_eq (stood_before side one c) (if is_raised l.write then side.write_wait else side.read_wait)) (same.signals c low) (same.waitrequest c low)
      ∙ ap (λ n. if side.has_waitrequest then accepts_by two.signals two.waitrequest c else shows two.signals c && nat_eq n (wait_time side two c)) (same_stood c (omega arith))

module _ (system : System) (one two : Run) (end : ℕ) (same : RunsAgreeBefore one two end) where
  same_transfers : (h c : ℕ) → c ≤ end → host_transfers system one h c ≡ host_transfers system two h c
  same_transfers h = same_before _ _ end (presented_alike (system.host h).shape (one.at_host h).signals (two.at_host h).signals (host_accepts (one.at_host h)) (host_accepts (two.at_host h)) end (same.hosts h).signals
      (λ c low. ap₂ (λ (l : Levels) w. (is_raised l.read || is_raised l.write) && not (is_raised w)) ((same.hosts h).signals c low) ((same.hosts h).waitrequest c low)))

  same_beats : (a c : ℕ) → c ≤ end → beats_taken system one a c ≡ beats_taken system two a c
  same_beats a = same_before _ _ end (λ c low.
      ap₂ (λ g (ts : List Transfer). map (λ b. record { tag = g; beat = b }) (flat_map (λ (t : Transfer). t.beats) ts)) ((same.agents a).grant c low)
      (taken_alike (system.agent a).shape (one.at_agent a).signals (two.at_agent a).signals (agent_accepts (system.agent a) (one.at_agent a)) (agent_accepts (system.agent a) (two.at_agent a)) end (same.agents a).signals
      (same_accepts (system.agent a) (one.at_agent a) (two.at_agent a) end (same.agents a)) c low))

  -- what is asked of what a host has presented and what an agent has taken
  abbrev IsReadOnce : ℕ → ℕ → ℕ → ℕ → List Transfer → List TaggedBeat → Type 0
  IsReadOnce host agent number count presented taken =
      let transfers = for_agent system host agent presented in
      let low = length (flat_map (transfer_operations system host agent) (take number transfers)) in
      MatchOption (slice_get transfers number) ⊤ (λ (t : Transfer).
      IsTrue (is_of_reads t.kind) → IsTrue (nat_le (system.host host).word_bytes (system.agent agent).word_bytes) →
      beats_between system agent low (low + operations_touched system host agent count Option.None t.beats) 0 (filter (λ (b : TaggedBeat). nat_eq b.tag host) taken)
      ≤ count)

  pub same_packed : (host agent : ℕ) → ReadsEachTouchedWordOnce system one host agent end → ReadsEachTouchedWordOnce system two host agent end
  same_packed host agent once c number count low =
      subst (λ ts. IsReadOnce host agent number count ts (beats_taken system two agent c)) (same_transfers host c low)
      (subst (IsReadOnce host agent number count (host_transfers system one host c)) (same_beats agent c low) (once c number count low))
