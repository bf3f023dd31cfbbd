use Rattle.std.proofs.lemmas.Bool.{or_left, or_right}
use Rattle.histories.specs.History.{is_raised}
use Rattle.memory_runs.specs.Commands.{shows}
use Rattle.memory_awake.proofs.Bits.{no_true}
use Rattle.std.proofs.Common.{ℕ, ◌≡◌, ◌+◌, ◌*◌, ◌<◌, ◌≤◌, ◌||◌, ◌⊎◌, inl, inr, refl, tests, if◌then◌else◌, true, false, Bool, arith, subst, IsTrue, ◌-◌, IsFalse}
use Rattle.memory_runs.specs.Views.{System, Run, Responses}
use Rattle.memory_runs.specs.Commands.{agent_accepts}
use Rattle.memory_runs.specs.Awake.{longest_wait}
use Rattle.memory_runs.specs.Order.{taken}
use Rattle.memory_runs.specs.Whole.{IsLegalRun}
use Rattle.memory_machines.specs.Link.{takes, taken_at}
use Rattle.memory_machines.specs.Lines.{target_of, tagged_operations, groups_of}
use Rattle.memory_parts.specs.Steps.{IsAgentPart, agent_rank}
use Rattle.memory_awake.specs.Ways.{count_in}
use Rattle.memory_awake.specs.Theorem.{Boundaries, States, LinkRanks, IsBuilt}
use Rattle.memory_runs.specs.Onward.{IsLacking}
use Rattle.memory_awake.specs.Onward.{is_good, IsStanding, prompt_by, round_by}
use Rattle.memory_runs.specs.Legal.{host_accepts}
use Rattle.memory_awake.proofs.Wanted.{some_or_none}
use Rattle.memory_awake.proofs.Arbiter.{TurnLaws}
use Rattle.memory_awake.proofs.HostStaged.{IsPaced, agent_is_paced, pipe_is_paced, pipe_hands_on, accepts_count}
use Rattle.memory_awake.proofs.HostWired.{WiredParts, parts_of, moves_within, stands_for, stands_prompt, rank_few}
use Rattle.memory_awake.proofs.hosts.hosts_beside_links_move_on.Goals.{After-agent_machine_is_a_part}
use Rattle.memory_awake.proofs.hosts.hosts_beside_links_move_on.Goals as goal

laws_of : After-agent_machine_is_a_part → TurnLaws
laws_of c = record { seats = c.turns_keep_seats.ensures.seats; asked = c.turns_keep_seats.ensures.asked }

module _ (c : After-agent_machine_is_a_part) (responses : Responses) (system : System) (run : Run) (inside : Boundaries) (states : States) (ranks : LinkRanks) (end agent : ℕ) (built : IsBuilt responses system run inside states ranks end) (legal : IsLegalRun system run end) (there : agent < system.agents) where
  its_parts : WiredParts system run agent end inside.after_host (λ h a. inside.upper h a (inside.links h a)) (λ h. inside.upper h agent 0) (inside.lower agent system.stages)
  its_parts = parts_of responses system run inside states ranks end agent built there (c.machines_keep_their_records.ensures.parts responses system run inside states ranks end built legal)
      (c.machines_keep_their_records.ensures.awake responses system run inside states ranks end built legal) (c.machines_are_awake.ensures.safe responses system run inside states ranks end built legal)

  next_to : IsAgentPart system run agent (inside.lower agent 0) (agent_rank system run agent) (longest_wait (system.agent agent) + 1) end
  next_to = ((c.machines_keep_their_records.ensures.awake responses system run inside states ranks end built legal).agents agent there).parts.awake.agent_part

  operations : (k : ℕ) → k ≤ end → taken system run agent k ≡ tagged_operations (groups_of (target_of system agent) (inside.lower agent 0).shape (taken_at (inside.lower agent 0).port k))
  operations k low =
      let settled = c.machines_settle.ensures responses system run inside states end built.plan built.rows built.machines legal in
      c.agent_machine_is_a_part.ensures.operations responses system run agent (inside.lower agent 0) (states.agent agent) end (built.plan.agents agent there) (settled.before_agent agent there) (legal.agents agent there) (built.machines.agent agent there) k low

  paced_here : IsPaced (inside.lower agent 0).port (is_good system run agent) (agent_rank system run agent) (longest_wait (system.agent agent) + 1) end
  paced_here = agent_is_paced system run agent (inside.lower agent 0) end next_to (λ k fit shown. shows_above k fit shown)
    where
      either : (a b : Bool) → IsTrue (a || b) → IsTrue a ⊎ IsTrue b
      either true b h = inl refl
      either false b h = inr h

      raised : (b : Bool) (n : ℕ) → IsTrue (is_raised (if b then 0 else n)) → IsTrue (is_raised n)
      raised true n h = absurd (grind (arith, tests, h))
      raised false n h = h

      shows_above : (k : ℕ) → k < end → IsTrue (shows (run.at_agent agent).signals k) → IsTrue (shows (inside.lower agent 0).commands.signals k)
      shows_above k fit shown = elim (either (is_raised ((run.at_agent agent).read k)) (is_raised ((run.at_agent agent).write k)) shown) [
        | inl reads ↦ or_left (is_raised ((inside.lower agent 0).commands.read k)) (is_raised ((inside.lower agent 0).commands.write k)) (by_read (system.agent agent).has_read refl reads)
        | inr writes ↦ or_right (is_raised ((inside.lower agent 0).commands.read k)) (is_raised ((inside.lower agent 0).commands.write k)) (by_write (system.agent agent).has_write refl writes)
      ]
        where
          by_read : (b : Bool) → (system.agent agent).has_read ≡ b → IsTrue (is_raised ((run.at_agent agent).read k)) → IsTrue (is_raised ((inside.lower agent 0).commands.read k))
          by_read true has h = raised _ _ (subst (λ n. IsTrue (is_raised n)) ((built.machines.agent agent there).commands.read k fit has) h)
          by_read false has h = absurd (no_true (subst (λ n. IsTrue (is_raised n)) ((built.machines.agent agent there).commands.no_read k fit has) h))

          by_write : (b : Bool) → (system.agent agent).has_write ≡ b → IsTrue (is_raised ((run.at_agent agent).write k)) → IsTrue (is_raised ((inside.lower agent 0).commands.write k))
          by_write true has h = subst (λ n. IsTrue (is_raised n)) ((built.machines.agent agent there).commands.write k fit has) h
          by_write false has h = absurd (no_true (subst (λ n. IsTrue (is_raised n)) ((built.machines.agent agent there).commands.no_write k fit has) h))

  paced : (r : ℕ → ℕ) × IsPaced (inside.lower agent system.stages).port (is_good system run agent) r ((longest_wait (system.agent agent) + 1) + system.stages) end
  paced = pipe_is_paced (inside.lower agent) (states.stage agent) system.stages (λ i low. built.machines.stage agent i there low) (is_good system run agent) (agent_rank system run agent) (longest_wait (system.agent agent) + 1) end paced_here system.stages (omega arith)

  counts : (from n : ℕ) → from + n ≤ end → count_in (agent_accepts (system.agent agent) (run.at_agent agent)) from n ≤ count_in (takes (inside.lower agent system.stages).port) from n + 2 * system.stages
  counts from n fit =
      let same = accepts_count system run agent (inside.lower agent 0) end next_to from n fit in
      let few = pipe_hands_on (inside.lower agent) (states.stage agent) system.stages (λ i low. built.machines.stage agent i there low) from n system.stages (omega arith) in
      omega (arith, same, few)

stands : (system : System) (run : Run) (agent host number k : ℕ) → IsLacking system run agent host number k → IsFalse (host_accepts (run.at_host host) k) → IsStanding system run agent host number k
stands system run agent host number k lacking none = record { oldest = lacking.oldest; for_agent = lacking.for_agent; lacking = lacking.lacking; waits = none; bursts = lacking.bursts; passes = lacking.passes }

pub returns-clause-moves : goal.returns-clause-moves
returns-clause-moves c = λ responses system run inside states ranks end agent host steps rest built legal there none wire have sends joined low from number fits wanted.
    let d = (goal.at.returns-clause-moves c).After-agent_machine_is_a_part in
    let behind = λ (h a : ℕ). inside.upper h a (inside.links h a) in
    let up = λ (h : ℕ). inside.upper h agent 0 in
    let parts = subst (λ n. WiredParts system run agent (end + 2) inside.after_host behind up (inside.lower agent n)) none (its_parts d responses system run inside states ranks (end + 2) agent built legal there) in
    moves_within (laws_of d) system run agent (end + 2) inside.after_host behind up (inside.lower agent 0) parts steps rest have host joined low wire (agent_rank system run agent) (longest_wait (system.agent agent)) (paced_here d responses system run inside states ranks (end + 2) agent built legal there)
    (operations d responses system run inside states ranks (end + 2) agent built legal there) sends
    (λ k fit answered. rank_few (laws_of d) system run agent (end + 2) inside.after_host behind up (inside.lower agent 0) parts k answered)
    from _ number (omega (arith, fits)) (omega arith) wanted

pub returns-clause-standing : goal.returns-clause-standing
returns-clause-standing c = λ responses system run inside states ranks end agent host steps rest built legal there wire have joined low from size number fits standing.
    let d = (goal.at.returns-clause-standing c).After-agent_machine_is_a_part in
    let parts = its_parts d responses system run inside states ranks (end + 2) agent built legal there in
    let pace = paced d responses system run inside states ranks (end + 2) agent built legal there in
    let few = stands_for (laws_of d) system run agent (end + 2) inside.after_host (λ h a. inside.upper h a (inside.links h a)) (λ h. inside.upper h agent 0) (inside.lower agent system.stages) parts steps rest have host joined low wire pace.0 ((longest_wait (system.agent agent) + 1) + system.stages) pace.1 from size number (omega (arith, fits)) standing in
    let cycles = few.0 in
    let beats = few.1 in
    let all = counts d responses system run inside states ranks (end + 2) agent built legal there from size (omega (arith, fits)) in
    (omega (arith, cycles), omega (arith, beats, all))

pub returns-clause-prompt : goal.returns-clause-prompt
returns-clause-prompt c = λ responses system run inside states ranks end agent host from size number late steps rest built legal there wire have joined low some prompt fits standing.
    let d = (goal.at.returns-clause-prompt c).After-agent_machine_is_a_part in
    let parts = its_parts d responses system run inside states ranks (end + 2) agent built legal there in
    let pace = paced d responses system run inside states ranks (end + 2) agent built legal there in
    let all = stands_prompt (laws_of d) system run agent (end + 2) inside.after_host (λ h a. inside.upper h a (inside.links h a)) (λ h. inside.upper h agent 0) (inside.lower agent system.stages) parts steps rest have host joined low wire pace.0 ((longest_wait (system.agent agent) + 1) + system.stages) pace.1 from size number late (2 * system.stages) some (omega (arith, fits)) standing prompt
    (counts d responses system run inside states ranks (end + 2) agent built legal there from size (omega (arith, fits))) in
    omega (arith, all)

pub returns-clause-accepts : goal.returns-clause-accepts
returns-clause-accepts c = λ responses system run inside states ranks end agent host late steps rest built legal there wire have joined low some prompt from number fits lacking.
    let size = prompt_by (round_by steps system agent host) system agent late in
    elim (some_or_none (λ k. host_accepts (run.at_host host) (from + k)) size) [
      | inl found ↦ (from + found.0, omega arith, omega (arith, found.1), found.2)
      | inr none ↦
          let d = (goal.at.returns-clause-accepts c).After-agent_machine_is_a_part in
          let parts = its_parts d responses system run inside states ranks (end + 2) agent built legal there in
          let pace = paced d responses system run inside states ranks (end + 2) agent built legal there in
          let all = stands_prompt (laws_of d) system run agent (end + 2) inside.after_host (λ h a. inside.upper h a (inside.links h a)) (λ h. inside.upper h agent 0) (inside.lower agent system.stages) parts steps rest have host joined low wire pace.0 ((longest_wait (system.agent agent) + 1) + system.stages) pace.1 from size number late (2 * system.stages) some (omega (arith, fits))
          (λ k first last. stands system run agent host number k (lacking k first last) (let same : from + (k - from) ≡ k = omega (arith, first) in subst (λ x. IsFalse (host_accepts (run.at_host host) x)) same (none (k - from) (omega (arith, first, last))))) prompt
          (counts d responses system run inside states ranks (end + 2) agent built legal there from size (omega (arith, fits))) in
          absurd (omega (arith, all))
    ]
