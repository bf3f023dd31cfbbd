-- One register for commands and one for answers are a pipe of one stage.
use Rattle.std.proofs.Common.{ℕ, zero, suc, ◌≤◌, ◌≡◌, ◌-◌, ◌+◌, [], ◌++◌, Bool, true, false, ◌&&◌, arith, refl, sym, ap, ap₂, ◌∙◌, subst, length, map, nat_eq, append-nil, length-append}
use Rattle.histories.specs.Laws.{prefix_refl}
use Rattle.memory_machines.proofs.Parts.{held_of_fronts, sizes_flat}
use Rattle.memory_machines.proofs.RegisterBeats.{is_ahead, taken_later, shown_later}
use Rattle.memory_machines.proofs.RegisterLegal.{register_legal}
use Rattle.memory_machines.proofs.RegisterTags.{register_hands_on}
use Rattle.histories.specs.History.{IsPrefix, only_if, is_raised, unreached, total}
use Rattle.memory_runs.specs.Views.{System, Shape}
use Rattle.memory_runs.specs.Commands.{shows}
use Rattle.memory_machines.specs.Link.{Marked, marked_at, shown_at, taken_at, AreLegalAt}
use Rattle.memory_machines.specs.Lines.{TaggedPort, IsPipeLine, words_with, target_of, group_of, groups_of, with_tag, sizes_of}
use Rattle.memory_machines.specs.Register.{AreRegisters}

at_most_one : {A : Type 0} (b : Bool) (x : A) → length (only_if b x) ≤ 1
at_most_one true x = omega arith
at_most_one false x = omega arith

module _ (system : System) (agent : ℕ) (up down : TaggedPort) (registers : AreRegisters up down) where
  held_one : (h c : ℕ) → unreached (sizes_of (groups_of (target_of system agent) up.shape (with_tag h (taken_at up.port c)))) (total (sizes_of (groups_of (target_of system agent) down.shape (with_tag h (taken_at down.port c))))) ≤ 1
  held_one h c =
      let target = target_of system agent in
      let ahead = (is_ahead up.port down.port registers.commands c).0 in
      let few : length (taken_at up.port c) ≤ length (taken_at down.port c) + 1 =
      (let sum = ap length ahead ∙ length-append (taken_at down.port c) (only_if (shows down.commands.signals c) (marked_at down.port c)) in let one = at_most_one (shows down.commands.signals c) (marked_at down.port c) in omega (arith, sum, one)) in
      let fronts = held_of_fronts (λ (m : Marked). length (group_of target up.shape m).operations) (λ (m : Marked). nat_eq m.tag h) 1 (taken_at up.port c) (taken_at down.port c) [] (only_if (shows down.commands.signals c) (marked_at down.port c))
      (append-nil (taken_at up.port c) ∙ ahead) few in
      subst (λ (s : Shape). unreached (sizes_of (groups_of target up.shape (with_tag h (taken_at up.port c)))) (total (sizes_of (groups_of target s (with_tag h (taken_at down.port c))))) ≤ 1) (sym registers.commands.shape)
      (subst (λ l. unreached l (total (sizes_of (groups_of target up.shape (with_tag h (taken_at down.port c))))) ≤ 1) (sizes_flat (group_of target up.shape) (with_tag h (taken_at up.port c)))
      (subst (λ l. unreached (map (λ (m : Marked). length (group_of target up.shape m).operations) (with_tag h (taken_at up.port c))) (total l) ≤ 1) (sizes_flat (group_of target up.shape) (with_tag h (taken_at down.port c))) fronts))

  words_later : (h c : ℕ) → words_with h up (suc c) ≡ words_with h down c
  words_later h zero = ap (λ b. only_if (b && nat_eq (up.answer_tag 0) h) (record { word = up.answers.word 0; code = up.answers.code 0 })) registers.empty
  words_later h (suc c) =
      ap (λ l. l ++ only_if (is_raised (up.answers.valid (suc c)) && nat_eq (up.answer_tag (suc c)) h) (record { word = up.answers.word (suc c); code = up.answers.code (suc c) })) (words_later h c)
      ∙ ap₂ (λ v t. words_with h down c ++ only_if (is_raised v && nat_eq t h) (record { word = up.answers.word (suc c); code = up.answers.code (suc c) })) (registers.valid c) (registers.answer_tag c)
      ∙ ap₂ (λ w k. words_with h down c ++ only_if (is_raised (down.answers.valid c) && nat_eq (down.answer_tag c) h) (record { word = w; code = k })) (registers.word c) (registers.code c)

  shown_front : (end c : ℕ) → AreLegalAt up.port end → c ≤ end → IsPrefix (shown_at down.port c) (shown_at up.port (c - 1))
  shown_front end zero legal low = prefix_refl []
  shown_front end (suc c) legal low =
      let back : suc c - 1 ≡ c = omega arith in
      subst (λ k. IsPrefix (shown_at down.port (suc c)) (shown_at up.port k)) (sym back) (shown_later up.port down.port registers.commands end c legal (omega arith))

  taken_front : (c : ℕ) → IsPrefix (taken_at down.port c) (taken_at up.port (c - 1))
  taken_front zero = prefix_refl []
  taken_front (suc c) =
      let back : suc c - 1 ≡ c = omega arith in
      subst (λ k. IsPrefix (taken_at down.port (suc c)) (taken_at up.port k)) (sym back) (taken_later up.port down.port registers.commands c)

  words_delayed : (h c : ℕ) → words_with h up c ≡ words_with h down (c - 1)
  words_delayed h zero = refl
  words_delayed h (suc c) = let back : suc c - 1 ≡ c = omega arith in words_later h c ∙ ap (words_with h down) (sym back)

  pub one_pipe : (end : ℕ) → IsPipeLine system agent 1 1 up down end
  one_pipe end = record {
    same = sym registers.commands.shape;
    commands = λ c low legal owed. record {
      shown = λ k less. shown_front c k legal less;
      taken = λ k less. taken_front k;
      held = λ h k is less. held_one h k;
      legal = register_legal up.port down.port registers.commands c legal;
      hands_on = register_hands_on up.port down.port registers.commands c;
    };
    answers = λ c low legal owed h k is less. words_delayed h k;
  }
