-- What is promised of a run up to a cycle depends on what is shown up to it: service within a window, and fairness.
use Rattle.std.proofs.Common.{◌≡◌, ℕ, zero, suc, ◌+◌, ◌-◌, ◌*◌, ◌≤◌, ◌<◌, Bool, true, false, not, ◌&&◌, ◌||◌, IsTrue, List, [], length, filter, flat_map, take, drop, Option, Some, None, refl, ap, ap₂, sym, ◌∙◌, subst, arith, tests, nat_eq, nat_le, nat_lt}
use Rattle.std.proofs.lemmas.List.{drop_all}
use Rattle.std.proofs.Math.Path.{fun_ext}
use Rattle.std.specs.Prelude.{IsFalse}
use Rattle.std.specs.List.{list_all, list_any}
use Rattle.histories.specs.History.{is_raised, numbers}
use Rattle.memory_runs.specs.Views.{Levels, System, Run}
use Rattle.memory_runs.specs.Views.Kind.{Writes}
use Rattle.memory_runs.specs.Commands.{Burst, Transfer, accepted, agent_accepts, read_beats, transfer_at}
use Rattle.memory_runs.specs.Legal.{host_accepts, given, gives_word}
use Rattle.memory_runs.specs.Order.{Owner, Asked, asked, for_agent, host_transfers, is_agent, is_read_beat, is_same_owner, issued, of_host, place_of, taken, transfer_operations}
use Rattle.memory_runs.specs.Awake.{is_accepted_now, IsWanted, ServesWithin, ServesDefaultWithin, ReadsAheadWithin, NeverIdles, IsAsked, IsWaiting, IsPassedByFew, TakesTurns, HasFullTurns, IsFair, are_finished_before, are_given, are_reached, are_taken, asks_only, begun, begun_by_others, begun_within, commands_begun, count_for, first_owners, has_begun, has_no_operation, is_finished, is_for, is_given_from, is_oldest, is_place, is_unfinished, is_wanted_at_default, is_written_to, lacks_beats, may_be_counted, moves_on_at_default, MovesAtDefaultWithin, of_command, owes, serves, shares_of_others, shows_its_burst, shows_plain_write, turns_of, up_to, agent_window, window_of}
use Rattle.memory_runs.specs.Onward.{is_taken_now, is_given_now, moves_on, MovesWithin, NoHostHangs, bursts_go_on, IsLacking, IsPrompt, AcceptsSoon}
use Rattle.memory_runs.specs.Beginnings.{RunsAgreeBefore}
use Rattle.memory_runs.proofs.SameSides.{same_before, same_shows, same_burst, same_transfer, same_gives, same_unanswered, same_words}
use Rattle.memory_runs.proofs.SameSafe.{host_takes, agent_takes, same_transfers, same_host_accepted, words_given, same_asks, same_issued, same_beats, same_taken, same_owners_taken, same_words_in}

module _ (system : System) (one two : Run) (end : ℕ) (same : RunsAgreeBefore one two end) where
  same_begun_commands : (h c : ℕ) → c ≤ end → commands_begun system one h c ≡ commands_begun system two h c
  same_begun_commands h c low = ap (λ (ts : List Transfer). length (filter (λ (t : Transfer). t.begins) ts)) (same_transfers system one two end same h c low)

  same_for : (h : ℕ) (place : Option ℕ) (number c : ℕ) → c ≤ end → is_for system one h place number c ≡ is_for system two h place number c
  same_for h place number c low = ap (λ (ts : List Transfer). list_any (λ (t : Transfer). is_place place (place_of system h t)) (of_command number ts)) (same_transfers system one two end same h c low)

  same_are_taken : (h number c a : ℕ) → c < end → are_taken system one h number c a ≡ are_taken system two h number c a
  same_are_taken h number c a low =
      ap₂ (λ (ts : List Transfer) l. are_reached (count_for system h a (of_command number ts)) (count_for system h a (up_to number ts)) (length (of_host h l))) (same_transfers system one two end same h (suc c) low) (same_taken system one two end same a c (omega arith))

  same_are_given : (h number c : ℕ) → c < end → are_given system one h number c ≡ are_given system two h number c
  same_are_given h number c low =
      ap (λ (ts : List Transfer). are_reached (length (read_beats (of_command number ts))) (length (read_beats (up_to number ts))) (length (given (system.host h) (one.at_host h) c))) (same_transfers system one two end same h (suc c) low)
      ∙ ap (λ n. are_reached (length (read_beats (of_command number (host_transfers system two h (suc c))))) (length (read_beats (up_to number (host_transfers system two h (suc c))))) n) (ap length (words_given system one two end same h c (omega arith)))

  same_finished : (h number c : ℕ) → c < end → is_finished system one h number c ≡ is_finished system two h number c
  same_finished h number c low =
      ap (λ (ts : List Transfer). nat_le number (length (filter (λ (t : Transfer). t.ends) ts)) && list_all (are_taken system one h number c) (numbers 0 system.agents) && are_given system one h number c) (same_host_accepted system one two end same h c (omega arith))
      ∙ ap₂ (λ (f : ℕ → Bool) b. nat_le number (length (filter (λ (t : Transfer). t.ends) (accepted (system.host h).shape (two.at_host h).signals (host_accepts (two.at_host h)) c))) && list_all f (numbers 0 system.agents) && b)
      (fun_ext (λ a. same_are_taken h number c a low)) (same_are_given h number c low)

  same_unfinished : (h number c : ℕ) → c < end → is_unfinished system one h number c ≡ is_unfinished system two h number c
  same_unfinished h number c low = ap₂ (λ n b. nat_le 1 number && nat_le number n && not b) (same_begun_commands h (suc c) low) (same_finished h number c low)

  same_before_it : (h number c : ℕ) → c < end → are_finished_before system one h number c ≡ are_finished_before system two h number c
  same_before_it h number c low = ap (λ (f : ℕ → Bool). list_all f (numbers 1 (number - 1))) (fun_ext (λ earlier. same_finished h earlier c low))

  same_oldest : (h number c : ℕ) → c < end → is_oldest system one h number c ≡ is_oldest system two h number c
  same_oldest h number c low = ap₂ (λ a b. a && b) (same_unfinished h number c low) (same_before_it h number c low)

  same_its_burst : (place : Option ℕ) (c h : ℕ) → c < end → shows_its_burst system one place c h ≡ shows_its_burst system two place c h
  same_its_burst place c h low =
      ap₂ (λ (b : Burst) s. not (nat_lt 0 b.left && is_place place (system.place h Writes b.first)) || s)
      (same_burst (system.host h).shape (one.at_host h).signals (two.at_host h).signals (host_accepts (one.at_host h)) (host_accepts (two.at_host h)) end (same.hosts h).signals (host_takes system one two end same h) c (omega arith))
      (same_shows (system.host h).shape (one.at_host h).signals (two.at_host h).signals (host_accepts (one.at_host h)) (host_accepts (two.at_host h)) end (same.hosts h).signals (host_takes system one two end same h) c low)

  same_owes : (a c : ℕ) → c < end → owes system one a c ≡ owes system two a c
  same_owes a c low = ap₂ (λ ws bs. nat_lt (length ws) (length (filter is_read_beat bs))) (same_before _ _ end (same_words_in system one two end same a) (suc c) low) (same_beats system one two end same a (suc c) low)

  same_given_from : (place : Option ℕ) (c h : ℕ) → c < end → is_given_from system one place c h ≡ is_given_from system two place c h
  same_given_from place c h low =
      ap₂ (λ b n. b && list_any (λ (q : Asked). is_place place q.place) (take 1 (drop n (asked system one h (suc c)))))
      (same_gives (system.host h) (one.at_host h) (two.at_host h) end (same.hosts h) c low) (ap length (words_given system one two end same h c (omega arith)))
      ∙ ap (λ l. gives_word (system.host h) (two.at_host h) c && list_any (λ (q : Asked). is_place place q.place) (take 1 (drop (length (given (system.host h) (two.at_host h) c)) l))) (same_asks system one two end same h (suc c) low)

  shown_transfer : (c h : ℕ) → c < end →
      transfer_at (system.host h).shape (one.at_host h).signals (host_accepts (one.at_host h)) c ≡ transfer_at (system.host h).shape (two.at_host h).signals (host_accepts (two.at_host h)) c
  shown_transfer c h low = same_transfer (system.host h).shape (one.at_host h).signals (two.at_host h).signals (host_accepts (one.at_host h)) (host_accepts (two.at_host h)) end (same.hosts h).signals (host_takes system one two end same h) c low

  same_written_to : (place : Option ℕ) (c h : ℕ) → c < end → is_written_to system one place c h ≡ is_written_to system two place c h
  same_written_to place c h low =
      ap₂ (λ b (l : Levels). b && is_raised l.write && is_place place (place_of system h (transfer_at (system.host h).shape (one.at_host h).signals (host_accepts (one.at_host h)) c)))
      (host_takes system one two end same h c low) ((same.hosts h).signals c low)
      ∙ ap (λ t. host_accepts (two.at_host h) c && is_raised ((two.at_host h).write c) && is_place place (place_of system h t)) (shown_transfer c h low)

  same_serves : (a c : ℕ) → c < end → serves system one a c ≡ serves system two a c
  same_serves a c low =
      ap (λ b. b || list_any (is_given_from system one (Some a) c) (numbers 0 system.hosts) || list_any (is_written_to system one (Some a) c) (numbers 0 system.hosts)) (agent_takes system one two end same a c low)
      ∙ ap₂ (λ (f g : ℕ → Bool). agent_accepts (system.agent a) (two.at_agent a) c || list_any f (numbers 0 system.hosts) || list_any g (numbers 0 system.hosts))
      (fun_ext (λ h. same_given_from (Some a) c h low)) (fun_ext (λ h. same_written_to (Some a) c h low))

  is_ready : (a c : ℕ) → c < end → IsFalse (is_raised ((two.at_agent a).waitrequest c)) → IsFalse (is_raised ((one.at_agent a).waitrequest c))
  is_ready a c low = subst (λ w. IsFalse (is_raised w)) (sym ((same.agents a).waitrequest c low))

  wanted : (a h number c : ℕ) → c < end → IsWanted system two a h number c → IsWanted system one a h number c
  wanted a h number c low want = record {
    oldest = subst IsTrue (sym (same_oldest h number c low)) want.oldest;
    for_agent = subst IsTrue (sym (same_for h (Some a) number (suc c) low)) want.for_agent;
    ready = is_ready a c low want.ready;
    answered = subst IsFalse (sym (same_owes a c low)) want.answered;
    bursts = subst (λ (f : ℕ → Bool). IsTrue (list_all f (numbers 0 system.hosts))) (sym (fun_ext (λ h. same_its_burst (Some a) c h low))) want.bursts;
  }

  same_service : (size a : ℕ) → ServesWithin size system one a end → ServesWithin size system two a end
  same_service size a within from h number low is all =
      let found = within from h number low is (λ c later sooner. wanted a h number c (omega arith) (all c later sooner)) in
      (found.0, found.1, found.2, subst IsTrue (same_serves a found.0 (let there = found.2 in omega (arith, there, low))) found.3)

  same_wanted_at_default : (h number c : ℕ) → c < end → is_wanted_at_default system one h number c ≡ is_wanted_at_default system two h number c
  same_wanted_at_default h number c low =
      ap₂ (λ a b. a && b && shows_its_burst system one None c h) (same_oldest h number c low) (same_for h None number (suc c) low)
      ∙ ap (λ b. is_oldest system two h number c && is_for system two h None number (suc c) && b) (same_its_burst None c h low)

  same_default : (size : ℕ) → ServesDefaultWithin size system one end → ServesDefaultWithin size system two end
  same_default size within from h number low is all =
      let found = within from h number low is (λ c later sooner. subst IsTrue (sym (same_wanted_at_default h number c (omega arith))) (all c later sooner)) in
      let there : found.0 < end = (let sooner = found.2 in omega (arith, sooner, low)) in
      (found.0, found.1, found.2, subst IsTrue (ap₂ (λ a b. a || b) (same_given_from None found.0 h there) (same_written_to None found.0 h there)) found.3)

  same_lacks : (h number c : ℕ) → c ≤ end → lacks_beats system one h number c ≡ lacks_beats system two h number c
  same_lacks h number c low = ap (λ (ts : List Transfer). nat_lt (length (filter (λ (t : Transfer). t.ends) ts)) number) (same_host_accepted system one two end same h c low)

  same_moves_at_default : (h number c : ℕ) → c < end → moves_on_at_default system one h number c ≡ moves_on_at_default system two h number c
  same_moves_at_default h number c low =
      ap₂ (λ a b. (a && b) || (is_given_from system one None c h && not (are_given system one h number c))) (host_takes system one two end same h c low) (same_lacks h number c (omega arith))
      ∙ ap₂ (λ a b. (host_accepts (two.at_host h) c && lacks_beats system two h number c) || (a && not b)) (same_given_from None c h low) (same_are_given h number c low)

  same_default_moves : (size h : ℕ) → MovesAtDefaultWithin size system one h end → MovesAtDefaultWithin size system two h end
  same_default_moves size h within from number low all =
      let found = within from number low (λ c later sooner. subst IsTrue (sym (same_wanted_at_default h number c (omega arith))) (all c later sooner)) in
      let there : found.0 < end = (let sooner = found.2 in omega (arith, sooner, low)) in
      (found.0, found.1, found.2, subst IsTrue (same_moves_at_default h number found.0 there) found.3)

  same_no_operation : (h number c : ℕ) → c ≤ end → has_no_operation system one h number c ≡ has_no_operation system two h number c
  same_no_operation h number c low =
      ap (λ (ts : List Transfer). list_all (λ agent. nat_eq (length (flat_map (transfer_operations system h agent) (for_agent system h agent (of_command number ts)))) 0) (numbers 0 system.agents)) (same_transfers system one two end same h c low)

  same_asks_only : (h a c : ℕ) → c < end → asks_only system one h a c ≡ asks_only system two h a c
  same_asks_only h a c low =
      ap₂ (λ (f : ℕ → Bool) n. list_all f (numbers 1 n))
      (fun_ext (λ number.
      ap (λ b. not b || (is_for system one h (Some a) number (suc c) && not (has_no_operation system one h number (suc c)))) (same_unfinished h number c low)
      ∙ ap₂ (λ f n. not (is_unfinished system two h number c) || (f && not n)) (same_for h (Some a) number (suc c) low) (same_no_operation h number (suc c) low)))
      (same_begun_commands h (suc c) low)

  asks : (a h c : ℕ) → c < end → IsAsked system two a h c → IsAsked system one a h c
  asks a h c low ask = record {
    ready = is_ready a c low ask.ready;
    room = subst (λ n. n < (system.agent a).pending)
        (sym (same_unanswered (system.agent a).shape (one.at_agent a).signals (two.at_agent a).signals (agent_accepts (system.agent a) (one.at_agent a)) (agent_accepts (system.agent a) (two.at_agent a)) end (same.agents a).signals (agent_takes system one two end same a) _ _ c
        (same_words (one.at_agent a).readdatavalid (two.at_agent a).readdatavalid end (same.agents a).readdatavalid c (omega arith)) (omega arith))) ask.room;
    untaken = subst (λ l. length (of_host h l) < length (issued system one h a (suc c))) (sym (same_taken system one two end same a c (omega arith)))
        (subst (λ l. length (of_host h (taken system two a c)) < length l) (sym (same_issued system one two end same h a (suc c) low)) ask.untaken);
    few = subst (λ n. n < 16)
        (sym (same_unanswered (system.host h).shape (one.at_host h).signals (two.at_host h).signals (host_accepts (one.at_host h)) (host_accepts (two.at_host h)) end (same.hosts h).signals (host_takes system one two end same h) _ _ c
        (ap length (words_given system one two end same h c (omega arith))) (omega arith))) ask.few;
    only = subst IsTrue (sym (same_asks_only h a c low)) ask.only;
  }

  same_ahead : (size a : ℕ) → ReadsAheadWithin size system one a end → ReadsAheadWithin size system two a end
  same_ahead size a within has alike from h low is all =
      let found = within has alike from h low is (λ c later sooner. asks a h c (omega arith) (all c later sooner)) in
      (found.0, found.1, found.2, subst IsTrue (agent_takes system one two end same a found.0 (let there = found.2 in omega (arith, there, low))) found.3)

  pub same_awake : NeverIdles system one end → NeverIdles system two end
  same_awake awake = record {
    agents = λ a there. same_service (agent_window system a) a (awake.agents a there);
    default = same_default (window_of system 0) awake.default;
    ahead = λ a there. same_ahead (agent_window system a) a (awake.ahead a there);
    hosts_at_default = λ h low. same_default_moves (window_of system 0) h (awake.hosts_at_default h low);
  }

  -- ---- no host hangs

  same_moves_on : (a h number c : ℕ) → c < end → moves_on system one a h number c ≡ moves_on system two a h number c
  same_moves_on a h number c low =
      ap₂ (λ x y. (x && y) || is_taken_now system one a h number c || is_given_now system one a h number c) (host_takes system one two end same h c low) (same_lacks h number c (omega arith))
      ∙ ap₂ (λ x y. is_accepted_now system two h number c || x || y) same_taken_now same_given_now
    where
      same_taken_now : is_taken_now system one a h number c ≡ is_taken_now system two a h number c
      same_taken_now =
          ap₂ (λ x g. x && nat_eq g h && not (are_taken system one h number c a)) (agent_takes system one two end same a c low) ((same.agents a).grant c low)
          ∙ ap (λ b. agent_accepts (system.agent a) (two.at_agent a) c && nat_eq ((two.at_agent a).grant c) h && not b) (same_are_taken h number c a low)

      same_given_now : is_given_now system one a h number c ≡ is_given_now system two a h number c
      same_given_now = ap₂ (λ x b. x && not b) (same_given_from (Some a) c h low) (same_are_given h number c low)

  same_moves : (size a h : ℕ) → MovesWithin size system one a h end → MovesWithin size system two a h end
  same_moves size a h within from number low all =
      let found = within from number low (λ c later sooner. wanted a h number c (omega arith) (all c later sooner)) in
      (found.0, found.1, found.2, subst IsTrue (same_moves_on a h number found.0 (let there = found.2 in omega (arith, there, low))) found.3)

  pub same_onward : (window : ℕ → ℕ → ℕ) → NoHostHangs window system one end → NoHostHangs window system two end
  same_onward window onward = record { moves = λ a h there low joined. same_moves (window a h) a h (onward.moves a h there low joined) }

  -- ---- what stands is accepted soon

  same_go_on : (a c : ℕ) → c < end → bursts_go_on system one a c ≡ bursts_go_on system two a c
  same_go_on a c low = ap (λ (f : ℕ → Bool). list_all f (numbers 0 system.hosts)) (fun_ext (λ h. same_its_burst (Some a) c h low))

  pub lacking : (a h number c : ℕ) → c < end → IsLacking system two a h number c → IsLacking system one a h number c
  lacking a h number c low lacks = record {
    oldest = subst IsTrue (sym (same_oldest h number c low)) lacks.oldest;
    for_agent = subst IsTrue (sym (same_for h (Some a) number (suc c) low)) lacks.for_agent;
    lacking = subst IsTrue (sym (same_lacks h number c (omega arith))) lacks.lacking;
    bursts = subst IsTrue (sym (same_go_on a c low)) lacks.bursts;
    passes = subst (λ (l : Levels). IsTrue (is_raised l.write || (system.host h).has_readdatavalid)) (sym ((same.hosts h).signals c low)) lacks.passes;
  }

  pub prompt : (a late : ℕ) → 1 ≤ late → IsPrompt system two a late end → IsPrompt system one a late end
  prompt a late some is = record {
    ready = λ c low. is_ready a c low (is.ready c low);
    answers = λ c low none. subst IsFalse (sym (same_owes a (c + late - 1) (omega (arith, low, some))))
        (is.answers c low (λ k first last. subst IsFalse (agent_takes system one two end same a k (omega (arith, last, low))) (none k first last)));
  }

  pub takes_host : (h c : ℕ) → c < end → host_accepts (one.at_host h) c ≡ host_accepts (two.at_host h) c
  takes_host h c low = host_takes system one two end same h c low

  -- ---- fairness

  same_begun : (a c : ℕ) → c ≤ end → begun system one a c ≡ begun system two a c
  same_begun a c low = ap (first_owners []) (same_owners_taken system one two end same a c low)

  same_has_begun : (a h number c : ℕ) → c ≤ end → has_begun system one a h number c ≡ has_begun system two a h number c
  same_has_begun a h number c low = ap (list_any (is_same_owner (record { tag = h; command = number }))) (same_begun a c low)

  same_others : (a h c : ℕ) → c ≤ end → begun_by_others system one a h c ≡ begun_by_others system two a h c
  same_others a h c low = ap (λ l. length (filter (λ (o : Owner). not (nat_eq o.tag h)) l)) (same_begun a c low)

  waits : (a h number c : ℕ) → c < end → IsWaiting system two a h number c → IsWaiting system one a h number c
  waits a h number c low waiting = record {
    presented = subst IsTrue (sym (same_for h (Some a) number (suc c) low)) waiting.presented;
    counted = subst (λ (ts : List Transfer). IsTrue (list_any (may_be_counted system h a) (of_command number ts))) (sym (same_transfers system one two end same h (suc c) low)) waiting.counted;
    not_begun = subst IsFalse (sym (same_has_begun a h number c (omega arith))) waiting.not_begun;
    earlier = subst IsTrue (sym (same_before_it h number c low)) waiting.earlier;
  }

  same_few : (few a : ℕ) → IsPassedByFew few system one a end → IsPassedByFew few system two a end
  same_few few a passed from later h number low high is waiting not_begun = by_order (nat_lt from later) refl
    where
      by_order : (b : Bool) → nat_lt from later ≡ b → begun_by_others system two a h later ≤ begun_by_others system two a h from + shares_of_others system a h + few
      by_order true sooner =
          let less : from < later = grind (arith, tests, sooner) in
          let bound = passed from later h number low high is (waits a h number from (omega (arith, less)) waiting) (subst IsFalse (sym (same_has_begun a h number later high)) not_begun) in
          let first = same_others a h from (omega (arith, low, high)) in
          let last = same_others a h later high in
          omega (arith, bound, first, last)
      by_order false sooner =
          let equal : from ≡ later = grind (arith, tests, sooner) in
          let counts : begun_by_others system two a h from ≡ begun_by_others system two a h later = ap (begun_by_others system two a h) equal in
          omega (arith, counts)

  same_plain_write : (a c h : ℕ) → c < end → shows_plain_write system one a c h ≡ shows_plain_write system two a c h
  same_plain_write a c h low =
      ap₂ (λ (l : Levels) (t : Transfer). is_raised l.write && t.begins && t.ends && nat_eq (system.host h).word_bytes (system.agent a).word_bytes && is_agent a (place_of system h t) && nat_lt 0 (length (transfer_operations system h a t)))
      ((same.hosts h).signals c low) (shown_transfer c h low)

  no_turns : (a from : ℕ) → HasFullTurns system a (turns_of (begun_within system two a from 0))
  no_turns a from =
      let now : from + 0 ≡ from = omega arith in
      let none : begun_within system two a from 0 ≡ [] =
      ap (λ c. drop (length (begun system two a from) + (8 + 2 * system.stages)) (begun system two a c)) now ∙ drop_all (length (begun system two a from) + (8 + 2 * system.stages)) (begun system two a from) (omega arith) in
      subst (λ l. HasFullTurns system a (turns_of l)) (sym none) (λ i some less. absurd (omega arith))

  same_turns : (a : ℕ) → TakesTurns system one a end → TakesTurns system two a end
  same_turns a turns from zero low all finished = no_turns a from
  same_turns a turns from (suc size) low all finished =
      let here : from < end = omega arith in
      subst (λ l. HasFullTurns system a (turns_of l))
      (ap₂ (λ xs ys. drop (length xs + (8 + 2 * system.stages)) ys) (same_begun a from (omega arith)) (same_begun a (from + suc size) low))
      (turns from (suc size) low
      (λ c later sooner. subst (λ (f : ℕ → Bool). IsTrue (list_all f (system.joined a))) (sym (fun_ext (λ h. same_plain_write a c h (omega arith)))) (all c later sooner))
      (subst (λ (f : ℕ → Bool). IsTrue (list_all f (system.joined a)))
      (sym (fun_ext (λ h. ap (λ n. are_finished_before system one h n from) (same_begun_commands h (suc from) here) ∙ same_before_it h (commands_begun system two h (suc from)) from here))) finished))

  pub same_fair : IsFair system one end → IsFair system two end
  same_fair fair = record {
    few = λ a there. same_few (4 * system.stages + 32) a (fair.few a there);
    turns = λ a there. same_turns a (fair.turns a there);
  }

pub same_accepts : (window : ℕ → ℕ → ℕ → ℕ) (system : System) (one two : Run) (end : ℕ) → RunsAgreeBefore one two (end + 2) → AcceptsSoon window system one end → AcceptsSoon window system two end
same_accepts window system one two end same soon = record {
  accepts = λ a h late there low joined alike some is from number fits all.
      let found = soon.accepts a h late there low joined alike some (prompt system one two (end + 2) same a late some is) from number fits (λ c later sooner. lacking system one two (end + 2) same a h number c (omega (arith, sooner, fits)) (all c later sooner)) in
      (found.0, found.1, found.2, subst IsTrue (takes_host system one two (end + 2) same h found.0 (let there = found.2 in omega (arith, there, fits))) found.3);
}
