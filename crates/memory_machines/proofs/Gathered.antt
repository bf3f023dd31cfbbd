-- Between two operations of one host command an agent takes none of another host.
use Rattle.std.proofs.Common.{ℕ, zero, suc, not, ◌<◌, ◌≤◌, ◌≡◌, ◌+◌, ◌-◌, [], ◌∷◌, ◌++◌, List, Bool, true, false, ◌&&◌, ◌||◌, IsTrue, if◌then◌else◌, arith, refl, sym, ap, ap₂, ◌∙◌, subst, length, map, filter, replicate, nat_eq}
use Rattle.std.specs.List.{list_all}
use Rattle.std.proofs.lemmas.List.{map-append}
use Rattle.std.proofs.lemmas.Bool.{and_parts}
use Rattle.std.proofs.lemmas.List.Folds.{list_all-append}
use Rattle.histories.specs.Laws.{prefix_trans, prefix_map, prefix_filter, prefix_flat_map, before_prefix}
use Rattle.memory_machines.proofs.Whole.{whole_together, all_of_copies}
use Rattle.memory_machines.specs.Begun.{owners_of_groups, turn_after, acts_after, groups_whole, turn_of, turn_at, by_turn, IsMatched}
use Rattle.memory_machines.proofs.TurnOrder.{turns, prefix_turns, turns_of_groups, host_turns, by_turns, commands_with, together_front, together_back}
use Rattle.memory_machines.proofs.Headline.{at_agent, arbiter_commands, arbiter_path, pipe_commands}
use Rattle.histories.specs.History.{IsPrefix, only_if, is_first, stands_on}
use Rattle.memory_runs.specs.Views.{Responses, System, Run, Shape}
use Rattle.memory_runs.specs.Operations.{Operation}
use Rattle.memory_runs.specs.Commands.{Transfer, shows}
use Rattle.memory_runs.specs.Order.{Owner, are_together, Tagged, owners_taken, owners, taken, is_joined, host_transfers, place_of, is_agent}
use Rattle.memory_machines.specs.Link.{Target, Port, Marked, shown_at, marked_at, takes, closes}
use Rattle.memory_machines.specs.Lines.{Inside, Holds, Wired, Group, Sent, items_among, groups_of, group_of, with_tag, tagged_operations, target_of, tagged_flow, are_whole, placed_group, BearsTags}
use Rattle.memory_runs.specs.Whole.{IsLegalRun}
use Rattle.memory_machines.specs.SideLaws.{prefix_items}

same_whole : (target : Target) (shape : Shape) (ms : List Marked) → are_whole ms ≡ groups_whole (groups_of target shape ms)
same_whole target shape [] = refl
same_whole target shape (m ∷ []) = refl
same_whole target shape (m ∷ next ∷ ms) = ap (λ b. (closes m || nat_eq m.tag next.tag) && b) (same_whole target shape (next ∷ ms))

filter_groups : (target : Target) (shape : Shape) (h : ℕ) (ms : List Marked) → filter (λ (g : Group). nat_eq g.tag h) (groups_of target shape ms) ≡ groups_of target shape (with_tag h ms)
filter_groups target shape h [] = refl
filter_groups target shape h (m ∷ ms) = by_tag (nat_eq m.tag h) (filter_groups target shape h ms)
  where
    by_tag : (b : Bool) → filter (λ (g : Group). nat_eq g.tag h) (groups_of target shape ms) ≡ groups_of target shape (with_tag h ms) →
        (if b then group_of target shape m ∷ filter (λ (g : Group). nat_eq g.tag h) (groups_of target shape ms) else filter (λ (g : Group). nat_eq g.tag h) (groups_of target shape ms)) ≡ groups_of target shape (if b then m ∷ with_tag h ms else with_tag h ms)
    by_tag true e = ap (λ l. group_of target shape m ∷ l) e
    by_tag false e = e

tags_of_copies : (tag command : ℕ) (operations : List Operation) →
    map (λ (t : Tagged). t.tag) (map (λ (o : Operation). record { tag = tag; operation = o }) operations) ≡ map (λ (o : Owner). o.tag) (replicate (length operations) (record { tag = tag; command = command }))
tags_of_copies tag command [] = refl
tags_of_copies tag command (o ∷ os) = ap (λ l. tag ∷ l) (tags_of_copies tag command os)

same_tags : (turn : ℕ → ℕ) (acted : ℕ → Bool) (groups : List Group) → map (λ (t : Tagged). t.tag) (tagged_operations groups) ≡ map (λ (o : Owner). o.tag) (owners_of_groups turn acted groups)
same_tags turn acted [] = refl
same_tags turn acted (g ∷ groups) =
    map-append (λ (t : Tagged). t.tag) (map (λ (o : Operation). record { tag = g.tag; operation = o }) g.operations) (tagged_operations groups)
    ∙ ap₂ (λ a b. a ++ b) (tags_of_copies g.tag (turn g.tag) g.operations) (same_tags (turn_after turn acted g) (acts_after acted g) groups)
    ∙ sym (map-append (λ (o : Owner). o.tag) (replicate (length g.operations) (record { tag = g.tag; command = turn g.tag })) (owners_of_groups (turn_after turn acted g) (acts_after acted g) groups))

owners_joined : (test : ℕ → Bool) (turn : ℕ → ℕ) (acted : ℕ → Bool) (groups : List Group) → list_all (λ (g : Group). test g.tag) groups ≡ true → list_all (λ (o : Owner). test o.tag) (owners_of_groups turn acted groups) ≡ true
owners_joined test turn acted [] h = refl
owners_joined test turn acted (g ∷ groups) h =
    let both = and_parts (test g.tag) (list_all (λ (g : Group). test g.tag) groups) h in
    all_of_copies (λ (o : Owner). test o.tag) (length g.operations) (record { tag = g.tag; command = turn g.tag }) _ both.0 (owners_joined test (turn_after turn acted g) (acts_after acted g) groups both.1)

groups_joined : (test : ℕ → Bool) (target : Target) (shape : Shape) (ms : List Marked) → list_all (λ (m : Marked). test m.tag) ms ≡ list_all (λ (g : Group). test g.tag) (groups_of target shape ms)
groups_joined test target shape [] = refl
groups_joined test target shape (m ∷ ms) = ap (λ b. test m.tag && b) (groups_joined test target shape ms)

-- the tags of what was shown
tags_shown : (may : ℕ → Bool) (port : Port) (end : ℕ) → BearsTags may port end → (c : ℕ) → c ≤ end → list_all (λ (m : Marked). may m.tag) (shown_at port c) ≡ true
tags_shown may port end bears zero low = refl
tags_shown may port end bears (suc c) low =
    list_all-append (λ (m : Marked). may m.tag) (shown_at port c) (only_if (is_first (shows port.commands.signals) (takes port) c) (marked_at port c))
    ∙ ap₂ (λ a b. a && b) (tags_shown may port end bears c (omega arith)) (by_first (is_first (shows port.commands.signals) (takes port) c) (first_is_shown c))
  where
    first_is_shown : (c : ℕ) → is_first (shows port.commands.signals) (takes port) c ≡ true → shows port.commands.signals c ≡ true
    first_is_shown zero e = e
    first_is_shown (suc c) e = (and_parts (shows port.commands.signals (suc c)) (not (stands_on (shows port.commands.signals) (takes port) c)) e).0

    by_first : (b : Bool) → (b ≡ true → shows port.commands.signals c ≡ true) → list_all (λ (m : Marked). may m.tag) (only_if b (marked_at port c)) ≡ true
    by_first true seen = rw (bears c (omega arith) (seen refl)) refl
    by_first false seen = refl

module _ (responses : Responses) (system : System) (run : Run) (inside : Inside) (holds : Holds) (end : ℕ) (wired : Wired responses system run inside holds end) (legal : IsLegalRun system run end) where
  -- what is taken of a joined host at an agent stands in the turns that it has behind the arbiter
  owners_match : (a c : ℕ) → a < system.agents → c ≤ end →
      IsPrefix (map (by_turn (turn_at system run a c)) (owners_taken system run a c))
      (owners_of_groups (λ _. 0) (λ _. false) (groups_of (target_of system a) (inside.after_arbiter a).shape (shown_at (inside.after_arbiter a).port (c - system.stages))))
  owners_match a c there low =
      let target = target_of system a in
      let far = inside.after_arbiter a in
      let near = inside.before_agent a in
      let d = c - system.stages in
      let groups = groups_of target far.shape (shown_at far.port d) in
      let own = (at_agent responses system run inside holds end wired legal a there).in_order c low in
      let through : IsPrefix (groups_of target near.shape (shown_at near.port c)) groups =
      subst (λ shape. IsPrefix (groups_of target shape (shown_at near.port c)) groups) (wired.pipe a there).same (prefix_map (group_of target far.shape) ((pipe_commands responses system run inside holds end wired legal a there).shown c low)) in
      let all_taken : IsPrefix (taken system run a c) (tagged_operations groups) = prefix_trans own (prefix_flat_map _ through) in
      let commands = arbiter_commands responses system run inside holds end wired legal a there in
      let owners_there = owners_of_groups (λ _. 0) (λ _. false) groups in
      let joined : list_all (λ (o : Owner). is_joined system a o.tag) owners_there ≡ true =
      owners_joined (is_joined system a) (λ _. 0) (λ _. false) groups (sym (groups_joined (is_joined system a) target far.shape (shown_at far.port d)) ∙ tags_shown (is_joined system a) far.port end commands.fit.tags d (omega arith)) in
      by_turns (turn_at system run a c) (λ h. owners system run h a c) (is_joined system a) [] (taken system run a c) [] owners_there (λ h. refl)
      (subst (λ l. IsPrefix (map (λ (t : Tagged). t.tag) (taken system run a c)) l) (same_tags (λ _. 0) (λ _. false) groups) (prefix_map (λ (t : Tagged). t.tag) all_taken)) joined
      (λ h is. host_turns_there h (wired.joined a h is))
    where
      host_turns_there : (h : ℕ) → h < system.hosts →
          IsPrefix (commands_with h (owners_of_groups (λ _. 0) (λ _. false) (groups_of (target_of system a) (inside.after_arbiter a).shape (shown_at (inside.after_arbiter a).port (c - system.stages)))))
          (map (turn_of system h a 1 0 false (host_transfers system run h c)) (owners system run h a c))
      host_turns_there h is =
          let target = target_of system a in
          let far = inside.after_arbiter a in
          let d = c - system.stages in
          let e = d - ((0 + 0) + (0 + 0)) in
          let groups = groups_of target far.shape (shown_at far.port d) in
          let own : commands_with h (owners_of_groups (λ _. 0) (λ _. false) groups) ≡ turns 0 (items_among false ((tagged_flow h target far.port).shown d)) =
          turns_of_groups h (λ _. 0) (λ _. false) groups ∙ ap (λ l. turns 0 (items_among false l)) (filter_groups target far.shape h (shown_at far.port d)) in
          let above = (arbiter_path responses system run inside holds end wired legal h a is there).in_order d (omega arith) in
          let grows : IsPrefix (host_transfers system run h e) (host_transfers system run h c) = before_prefix _ e c (omega arith) in
          let items = prefix_items false (prefix_map (placed_group system h a) (prefix_filter (λ (s : Sent). is_agent a (place_of system h s.transfer)) (prefix_map (λ (t : Transfer). record { transfer = t; closes = t.ends }) grows))) in
          let front = prefix_turns 0 (prefix_trans above items) in
          subst (λ l. IsPrefix l (map (turn_of system h a 1 0 false (host_transfers system run h c)) (owners system run h a c))) (sym own)
          (subst (λ l. IsPrefix (turns 0 (items_among false ((tagged_flow h target far.port).shown d))) l) (host_turns system h a 1 0 false (host_transfers system run h c)) front)

  whole_there : (a c : ℕ) → a < system.agents → c ≤ end → groups_whole (groups_of (target_of system a) (inside.after_arbiter a).shape (shown_at (inside.after_arbiter a).port c)) ≡ true
  whole_there a c there low =
      sym (same_whole (target_of system a) (inside.after_arbiter a).shape (shown_at (inside.after_arbiter a).port c)) ∙ (arbiter_commands responses system run inside holds end wired legal a there).whole c low

  pub together : (a c : ℕ) → a < system.agents → c ≤ end → IsTrue (are_together (owners_taken system run a c))
  together a c there low =
      let matched = owners_match a c there low in
      let groups = groups_of (target_of system a) (inside.after_arbiter a).shape (shown_at (inside.after_arbiter a).port (c - system.stages)) in
      together_back (turn_at system run a c) (owners_taken system run a c)
      (together_front (map (by_turn (turn_at system run a c)) (owners_taken system run a c)) matched.rest
      (ap are_together matched.joins ∙ whole_together (λ _. 0) (λ _. false) groups (whole_there a (c - system.stages) there (omega arith))))

  pub matched : (a : ℕ) → a < system.agents → IsMatched system run inside a end
  matched a there = record {
    owners = λ c low. owners_match a c there low;
    taken = λ c low. (pipe_commands responses system run inside holds end wired legal a there).taken c low;
    whole = λ c low. whole_there a c there low;
  }
