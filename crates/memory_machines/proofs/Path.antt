-- Any number of links in a row carry commands and bring answers back as one link.
use Rattle.std.proofs.Common.{ℕ, ◌<◌, ◌≤◌, ◌≡◌, ◌+◌, ◌-◌, ◌*◌, arith, sym, ap, ◌∙◌, subst, length, take, mul-le-mul_left, mul-le-mul_right, mul_assoc}
use Rattle.std.proofs.lemmas.List.{map-append}
use Rattle.std.proofs.Math.Seq.{take-append_seam}
use Rattle.memory_machines.proofs.Laws.{legal_between, owed_between}
use Rattle.memory_machines.specs.Shorter.{legal_at_before}
use Rattle.histories.specs.Laws.{prefix_trans, prefix_refl}
use Rattle.memory_machines.proofs.Held.{unreached_through, front_within, within_trans}
use Rattle.memory_machines.proofs.Wire.{total_sizes, wire_is_link}
use Rattle.memory_machines.proofs.ChainAnswers.{bytes_below}
use Rattle.histories.specs.History.{IsPrefix, unreached, total, AreWithin}
use Rattle.memory_runs.specs.Operations.{pieces}
use Rattle.memory_machines.specs.Link.{Target, Port, Marked, KeepsLinkLaw, AreLegalAt, AnswersAreOwed, shown_at, taken_at, sizes, held_by, operations_among, operations_in, CarriesCommands}
use Rattle.memory_machines.specs.Lines.{IsCarrier}
use Rattle.memory_machines.specs.SideLaws.{taken_is_shown}

-- one link
pub carrier_of_link : (target : Target) (hold : ℕ) (up down : Port) (end : ℕ) → KeepsLinkLaw target hold up down end → IsCarrier target hold up down end
carrier_of_link target hold up down end link = record {
  commands = link.commands;
  answers = λ c low legal owed.
      let carries = link.answers c low legal owed in
      record { bytes = bytes_below target up down c legal carries.owed carries; owed = carries.owed };
}

-- none
pub carrier_of_wire : (target : Target) (port : Port) (end : ℕ) → 0 < port.shape.word_bytes → IsCarrier target 0 port port end
carrier_of_wire target port end words = record {
  commands = (wire_is_link target port end words).commands;
  answers = λ c low legal owed. record { bytes = λ k h. prefix_refl _; owed = owed };
}

-- two in a row
module _ (target : Target) (first_hold second_hold : ℕ) (up middle down : Port) (end : ℕ)
    (between : pieces middle.shape down.shape * pieces up.shape middle.shape ≤ pieces up.shape down.shape)
    (first : IsCarrier target first_hold up middle end) (second : IsCarrier target second_hold middle down end) where
  pub there_legal : (c : ℕ) → c ≤ end → AreLegalAt up c → AnswersAreOwed down (c - 1) → AreLegalAt middle c
  there_legal = legal_between up middle down end (λ c h legal owed. (first.commands c h legal owed).legal) (λ c h legal owed. (second.answers c h legal owed).owed)

  pub there_owed : (c : ℕ) → c ≤ end → AreLegalAt up c → AnswersAreOwed down c → AnswersAreOwed middle c
  there_owed = owed_between up middle down end (λ c h legal owed. (first.commands c h legal owed).legal) (λ c h legal owed. (second.answers c h legal owed).owed)

  both_held : (c k : ℕ) → k ≤ c → AreLegalAt up c → AreLegalAt middle c → held_by target up middle k ≤ first_hold → held_by target middle down k ≤ second_hold →
      AreWithin (sizes target middle.shape (shown_at middle k)) (sizes target up.shape (shown_at up k)) → held_by target up down k ≤ first_hold + second_hold
  both_held c k h legal legal_there one two within =
      let up_front : IsPrefix (taken_at up k) (shown_at up k) = taken_is_shown up c k legal h in
      let middle_front : IsPrefix (taken_at middle k) (shown_at middle k) = taken_is_shown middle c k legal_there h in
      let lower = sizes target middle.shape (taken_at middle k) in
      let upper = sizes target up.shape (shown_at up k) in
      let lower_within : AreWithin lower upper =
      front_within lower (sizes target middle.shape middle_front.rest) _ upper within
      (sym (map-append (λ (m : Marked). length (operations_in target middle.shape m)) (taken_at middle k) middle_front.rest) ∙ ap (sizes target middle.shape) middle_front.joins) in
      let n = length (operations_among target down.shape (taken_at down k)) in
      let through = unreached_through lower upper n (length (sizes target up.shape (taken_at up k))) lower_within in
      let taken_sizes : take (length (sizes target up.shape (taken_at up k))) upper ≡ sizes target up.shape (taken_at up k) =
      ap (λ l. take (length (sizes target up.shape (taken_at up k))) l) (ap (sizes target up.shape) (sym up_front.joins) ∙ map-append (λ (m : Marked). length (operations_in target up.shape m)) (taken_at up k) up_front.rest)
      ∙ take-append_seam (sizes target up.shape (taken_at up k)) (sizes target up.shape up_front.rest) in
      let bound : unreached (sizes target up.shape (taken_at up k)) n ≤ unreached (sizes target up.shape (taken_at up k)) (total lower) + unreached lower n =
      subst (λ l. unreached l n ≤ unreached l (total lower) + unreached lower n) taken_sizes through in
      let counted : unreached (sizes target up.shape (taken_at up k)) (total lower) ≤ first_hold =
      subst (λ t. unreached (sizes target up.shape (taken_at up k)) t ≤ first_hold) (sym (total_sizes target middle.shape (taken_at middle k))) one in
      omega (arith, bound, counted, two)

  both_beats : (a b c : ℕ) → a ≤ pieces middle.shape down.shape * b → b ≤ pieces up.shape middle.shape * c → a ≤ pieces up.shape down.shape * c
  both_beats a b c first_bound second_bound =
      let wide : pieces middle.shape down.shape * b ≤ pieces middle.shape down.shape * (pieces up.shape middle.shape * c) = mul-le-mul_left _ second_bound in
      let all : (pieces middle.shape down.shape * pieces up.shape middle.shape) * c ≤ pieces up.shape down.shape * c = mul-le-mul_right _ between in
      let same : (pieces middle.shape down.shape * pieces up.shape middle.shape) * c ≡ pieces middle.shape down.shape * (pieces up.shape middle.shape * c) = mul_assoc _ _ _ in
      omega (arith, first_bound, wide, all, same)

  pub two_carriers : IsCarrier target (first_hold + second_hold) up down end
  two_carriers = record {
    commands = λ c h legal owed.
        let legal_there : AreLegalAt middle c = there_legal c h legal owed in
        let owed_there : AnswersAreOwed middle (c - 1) = there_owed (c - 1) (omega arith) (legal_at_before up (c - 1) c (omega arith) legal) owed in
        let one = first.commands c h legal owed_there in
        let two = second.commands c h legal_there owed in
        record {
          in_order = λ k low. prefix_trans (two.in_order k low) (one.in_order k low);
          beats = λ k tag low. both_beats _ _ _ (two.beats k tag low) (one.beats k tag low);
          legal = two.legal;
          held = λ k low. both_held c k low legal legal_there (one.held k low) (two.held k low) (one.whole k low);
          whole = λ k low. within_trans _ _ _ (two.whole k low) (one.whole k low);
        };
    answers = λ c h legal owed.
        let legal_there : AreLegalAt middle c = there_legal c h legal (λ k low. owed k (omega arith)) in
        let two = second.answers c h legal_there owed in
        let one = first.answers c h legal two.owed in
        record { bytes = λ k low. prefix_trans (one.bytes k low) (two.bytes k low); owed = one.owed };
  }

-- two links in a row carry commands as one link
pub chain_commands : (target : Target) (first_hold second_hold : ℕ) (up middle down : Port) (end : ℕ) → KeepsLinkLaw target first_hold up middle end → KeepsLinkLaw target second_hold middle down end →
    pieces middle.shape down.shape * pieces up.shape middle.shape ≤ pieces up.shape down.shape → (c : ℕ) → c ≤ end → AreLegalAt up c → AnswersAreOwed down (c - 1) → CarriesCommands target (first_hold + second_hold) up down c
chain_commands target first_hold second_hold up middle down end first second between =
    (two_carriers target first_hold second_hold up middle down end between (carrier_of_link target first_hold up middle end first) (carrier_of_link target second_hold middle down end second)).commands
