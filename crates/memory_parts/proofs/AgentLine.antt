-- The agent translator keeps the command half of its line, and holds nothing.
use Rattle.std.proofs.Common.{ℕ, ◌≤◌, ◌≡◌, ◌+◌, ◌-◌, [], ◌∷◌, List, Bool, true, false, not, IsTrue, arith, refl, sym, ap, ◌∙◌, subst, length, filter, nat_eq, le_of_eq}
use Rattle.std.proofs.lemmas.Bool.{and_parts}
use Rattle.histories.specs.History.{IsPrefix, is_raised, total}
use Rattle.histories.specs.Laws.{prefix_map, prefix_flat_map, prefix_filter}
use Rattle.memory_runs.specs.Views.{System, Run, Shape}
use Rattle.memory_runs.specs.Commands.{shows}
use Rattle.memory_runs.specs.Legal.{IsLegalAgent}
use Rattle.memory_runs.specs.Order.{TaggedBeat, beats_taken, taken, of_host, is_joined}
use Rattle.memory_machines.specs.Link.{Target, Marked, taken_at, shown_at}
use Rattle.memory_machines.specs.Lines.{TaggedPort, Group, AgentCarriesCommands, group_of, groups_of, tagged_operations, target_of, with_tag, beats_of, sizes_of}
use Rattle.memory_machines.specs.SideLaws.{taken_is_shown, all_reached}
use Rattle.memory_machines.specs.SideLaws.{total_of}
use Rattle.memory_machines.specs.SideLaws.{of_host_same, total_front}
use Rattle.memory_machines.specs.Lines.{IsFit}
use Rattle.memory_parts.specs.Agent.{AgentState, ShowsToAgent, IsAgentPlan}
use Rattle.memory_parts.proofs.Alike.{acts_alike, acts_of_groups, counts_alike, counts_of_groups, tagged_beats}
use Rattle.memory_parts.proofs.AgentShown.{same_takes}
use Rattle.memory_parts.proofs.AgentBeats.{all_alike}
use Rattle.memory_parts.proofs.AgentLegal.{proper_at_agent}

beats_of_tagged : (target : Target) (shape : Shape) (h : ℕ) (ms : List Marked) → beats_of h (groups_of target shape (with_tag h ms)) ≡ beats_of h (groups_of target shape ms)
beats_of_tagged target shape h [] = refl
beats_of_tagged target shape h (m ∷ ms) = by_test (nat_eq m.tag h) refl (beats_of_tagged target shape h ms)
  where
    by_test : (b : Bool) → nat_eq m.tag h ≡ b → beats_of h (groups_of target shape (with_tag h ms)) ≡ beats_of h (groups_of target shape ms) → beats_of h (groups_of target shape (with_tag h (m ∷ ms))) ≡ beats_of h (groups_of target shape (m ∷ ms))
    by_test true is ih = rw is (rw is (ap (λ n. length m.transfer.beats + n) ih))
    by_test false is ih = rw is ih

module _ (system : System) (run : Run) (agent : ℕ) (up : TaggedPort) (state : AgentState) (end : ℕ) (machine : ShowsToAgent (system.agent agent) (run.at_agent agent) up state end) (plan : IsAgentPlan (system.agent agent))
    (fit : IsFit system agent up.port end) (proper : IsLegalAgent (system.agent agent) (run.at_agent agent) (end - 1)) where
  abbrev target : Target
  target = target_of system agent

  -- what the agent has taken is what was taken above
  pub taken_is : (c : ℕ) → c ≤ end → taken system run agent c ≡ tagged_operations (groups_of target up.shape (taken_at up.port c))
  taken_is c low =
      acts_alike up.shape (system.agent agent).shape (system.agent agent).span (tagged_beats (taken_at up.port c)) (beats_taken system run agent c) (all_alike system run agent up state end machine plan fit.legal fit.kinds fit.lanes c low)
      ∙ acts_of_groups target up.shape (taken_at up.port c)

  counts : (h c : ℕ) → c ≤ end → length (filter (λ (b : TaggedBeat). nat_eq b.tag h) (beats_taken system run agent c)) ≡ beats_of h (groups_of target up.shape (taken_at up.port c))
  counts h c low =
      counts_alike up.shape (system.agent agent).shape (system.agent agent).span h (tagged_beats (taken_at up.port c)) (beats_taken system run agent c) (all_alike system run agent up state end machine plan fit.legal fit.kinds fit.lanes c low)
      ∙ counts_of_groups target up.shape h (taken_at up.port c)

  front : (c : ℕ) → c ≤ end → IsPrefix (groups_of target up.shape (taken_at up.port c)) (groups_of target up.shape (shown_at up.port c))
  front c low = prefix_map (group_of target up.shape) (taken_is_shown up.port end c fit.legal low)

  pub carries_commands : AgentCarriesCommands system run agent 0 up end
  carries_commands = record {
    in_order = λ c low. subst (λ l. IsPrefix l (tagged_operations (groups_of target up.shape (shown_at up.port c)))) (sym (taken_is c low)) (prefix_flat_map _ (front c low));
    beats = λ h c there low.
        let same = counts h c low in
        let more = total_front (prefix_map (λ (g : Group). g.beats) (prefix_filter (λ (g : Group). nat_eq g.tag h) (front c low))) in
        let tagged = beats_of_tagged target up.shape h (shown_at up.port c) in
        omega (arith, same, more, tagged);
    held = λ h c there low.
        let reached : length (of_host h (taken system run agent c)) ≡ total (sizes_of (groups_of target up.shape (with_tag h (taken_at up.port c)))) =
        ap (λ l. length (of_host h l)) (taken_is c low) ∙ ap length (of_host_same h target up.shape (taken_at up.port c)) ∙ sym (total_of (groups_of target up.shape (with_tag h (taken_at up.port c)))) in
        le_of_eq (all_reached (sizes_of (groups_of target up.shape (with_tag h (taken_at up.port c)))) (length (of_host h (taken system run agent c))) (le_of_eq (sym reached)));
    tags = λ c low accepted.
        let taken = same_takes (system.agent agent) (run.at_agent agent) up state end machine plan fit.legal fit.kinds c low ∙ accepted in
        subst (λ g. IsTrue (is_joined system agent g)) (sym (machine.grant c low)) (fit.tags c low (and_parts (shows up.commands.signals c) (not (is_raised (up.commands.waitrequest c))) taken).0);
    proper = proper_at_agent (system.agent agent) (run.at_agent agent) up state end machine plan fit.legal fit.kinds proper;
  }
