-- Pipes in a row are one pipe.
use Rattle.std.proofs.Common.{ℕ, zero, suc, ◌≤◌, ◌≡◌, ◌-◌, ◌+◌, arith, refl, ap, ◌∙◌, subst, length}
use Rattle.memory_machines.specs.Shorter.{legal_at_before}
use Rattle.histories.specs.Laws.{prefix_trans, prefix_map}
use Rattle.std.proofs.Common.{le_of_eq, le_refl}
use Rattle.memory_machines.proofs.Flows.{counted}
use Rattle.memory_machines.proofs.Parts.{tagged_fronts, shown_grows}
use Rattle.histories.specs.Laws.{prefix_filter, prefix_refl}
use Rattle.memory_machines.proofs.Pipes.{owed_above}
use Rattle.memory_machines.proofs.Rows.{wire_hands_on, both_hand_on}
use Rattle.histories.specs.History.{IsPrefix, total}
use Rattle.memory_runs.specs.Views.{System, Shape}
use Rattle.memory_machines.specs.Link.{AreLegalAt, shown_at, taken_at}
use Rattle.memory_machines.specs.Lines.{TaggedPort, IsPipeLine, AreOwedByTag, words_with, target_of, group_of, groups_of, with_tag, sizes_of, tagged_flow, Group}
use Rattle.memory_machines.specs.SideLaws.{all_reached, prefix_within}

module _ (system : System) (agent first_hold second_hold first_stages second_stages : ℕ) (up middle down : TaggedPort) (end : ℕ)
    (first : IsPipeLine system agent first_hold first_stages up middle end) (second : IsPipeLine system agent second_hold second_stages middle down end) where
  both : (c : ℕ) → c ≤ end → AreLegalAt up.port c → AreOwedByTag system down (c - 1) → AreLegalAt middle.port c × AreOwedByTag system middle (c - 1)
  both zero low legal owed = ((first.commands zero low legal (λ h k is less. absurd (omega arith))).legal, λ h k is less. absurd (omega arith))
  both (suc c) low legal owed =
      let earlier : AreOwedByTag system down c = λ h k is less. owed h k is (omega arith) in
      let before_it = both c (omega arith) (legal_at_before up.port c (suc c) (omega arith) legal) (λ h k is less. earlier h k is (omega arith)) in
      let there : AreOwedByTag system middle c = owed_above system agent second_hold second_stages middle down c
      (second.commands c (omega arith) before_it.0 (λ h k is less. earlier h k is (omega arith))) (second.answers c (omega arith) before_it.0 earlier) earlier in
      ((first.commands (suc c) low legal (λ h k is less. there h k is (omega arith))).legal, λ h k is less. there h k is (omega arith))

  there_now : (c : ℕ) → c ≤ end → AreLegalAt up.port c → AreOwedByTag system down c → AreOwedByTag system middle c
  there_now c low legal owed =
      let before_it = both c low legal (λ h k is less. owed h k is (omega arith)) in
      owed_above system agent second_hold second_stages middle down c (second.commands c low before_it.0 (λ h k is less. owed h k is (omega arith))) (second.answers c low before_it.0 owed) owed

  pub two_pipes : IsPipeLine system agent (first_hold + second_hold) (first_stages + second_stages) up down end
  two_pipes = record {
    same = first.same ∙ second.same;
    commands = λ c low legal owed.
        let before_it = both c low legal owed in
        let one = first.commands c low legal before_it.1 in
        let two = second.commands c low before_it.0 owed in
        record {
          shown = λ k less.
              let delays : (k - second_stages) - first_stages ≡ k - (first_stages + second_stages) = omega arith in
              subst (λ n. IsPrefix (shown_at down.port k) (shown_at up.port n)) delays (prefix_trans (two.shown k less) (one.shown (k - second_stages) (omega arith)));
          taken = λ k less.
              let delays : (k - second_stages) - first_stages ≡ k - (first_stages + second_stages) = omega arith in
              subst (λ n. IsPrefix (taken_at down.port k) (taken_at up.port n)) delays (prefix_trans (two.taken k less) (one.taken (k - second_stages) (omega arith)));
          held = λ h k is less.
              let target = target_of system agent in
              let upper = tagged_flow h target up.port in
              let lower = tagged_flow h target middle.port in
              let shown : IsPrefix (groups_of target middle.shape (with_tag h (shown_at middle.port k))) (groups_of target up.shape (with_tag h (shown_at up.port k))) =
              subst (λ (s : Shape). IsPrefix (groups_of target s (with_tag h (shown_at middle.port k))) (groups_of target up.shape (with_tag h (shown_at up.port k)))) first.same
              (prefix_map (group_of target up.shape) (prefix_filter _ (prefix_trans (one.shown k less) (shown_grows up.port (k - first_stages) k (omega arith))))) in
              counted (sizes_of (upper.shown k)) (sizes_of (upper.taken k)) (sizes_of (lower.shown k)) (sizes_of (lower.taken k)) first_hold second_hold (total (sizes_of ((tagged_flow h target down.port).taken k)))
              (prefix_map (λ (g : Group). length g.operations) (tagged_fronts h target up.port c legal k less)) (prefix_map (λ (g : Group). length g.operations) (tagged_fronts h target middle.port c before_it.0 k less))
              (prefix_within (prefix_map (λ (g : Group). length g.operations) shown)) (one.held h k is less) (two.held h k is less);
          legal = two.legal;
          hands_on = both_hand_on one.hands_on two.hands_on;
        };
    answers = λ c low legal owed h k is less.
        let before_it = both c low legal (λ h k is less. owed h k is (omega arith)) in
        let delays : (k - first_stages) - second_stages ≡ k - (first_stages + second_stages) = omega arith in
        first.answers c low legal (there_now c low legal owed) h k is less ∙ second.answers c low before_it.0 owed h (k - first_stages) is (omega arith) ∙ ap (words_with h down) delays;
  }

-- a wire is a pipe of no stage
pub no_pipe : (system : System) (agent : ℕ) (port : TaggedPort) (end : ℕ) → IsPipeLine system agent 0 0 port port end
no_pipe system agent port end = record {
  same = refl;
  commands = λ c low legal owed. record {
    shown = λ k less. let now : k ≡ k - 0 = omega arith in subst (λ n. IsPrefix (shown_at port.port k) (shown_at port.port n)) now (prefix_refl _);
    taken = λ k less. let now : k ≡ k - 0 = omega arith in subst (λ n. IsPrefix (taken_at port.port k) (taken_at port.port n)) now (prefix_refl _);
    held = λ h k is less. le_of_eq (all_reached (sizes_of ((tagged_flow h (target_of system agent) port.port).taken k)) (total (sizes_of ((tagged_flow h (target_of system agent) port.port).taken k))) (le_refl _));
    legal = legal;
    hands_on = wire_hands_on port.port c;
  };
  answers = λ c low legal owed h k is less. let now : k ≡ k - 0 = omega arith in ap (words_with h port) now;
}
