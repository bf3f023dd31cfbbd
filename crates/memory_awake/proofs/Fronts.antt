-- The part next to a host and the route are a front for each agent.
use Rattle.std.proofs.Common.{ℕ, zero, suc, ◌<◌, ◌≤◌, ◌≡◌, ◌+◌, Bool, true, false, not, ◌||◌, ◌&&◌, List, [], arith, refl, sym, ap, subst, ◌∙◌, nat_lt, length, map, take, drop, IsTrue, IsFalse, tests, inl, inr, ◌⊎◌, if◌then◌else◌, lt-ltb, Option, Some, None}
use Rattle.std.proofs.lemmas.Bool.{or_left, or_right, and_parts}
use Rattle.std.specs.List.{list_any, list_all}
use Rattle.histories.specs.History.{is_raised}
use Rattle.memory_runs.specs.Views.{System, Run, Shape, HostView, levels_at}
use Rattle.memory_runs.specs.Views.Kind.{Writes}
use Rattle.memory_runs.specs.Commands.{Transfer, Burst, shows, transfer_at, burst_before, burst_after, read_beats as reads_in, reads_among}
use Rattle.memory_runs.specs.Legal.{host_accepts, is_under_way}
use Rattle.memory_runs.specs.Order.{Asked, is_agent, place_of}
use Rattle.memory_runs.specs.Awake.{is_place, count_for, is_given_from, is_written_to}
use Rattle.memory_machines.specs.Link.{Port, Marked, takes, taken_at, marked_at, operations_among, words_at, words_owed, is_last_joined}
use Rattle.memory_machines.specs.Lines.{target_of, host_accepted, asked_among}
use Rattle.memory_machines.specs.Rank.{is_owed, is_unclosed}
use Rattle.memory_parts.specs.Steps.{given_before, has_room, IsHostPart, IsRoutePart, is_open, owed_places, place_shown, comes, comes_from}
use Rattle.memory_awake.specs.Front.{IsFront, is_bursting, shows_for, are_all_given, owes_next, owes_alone}
use Rattle.memory_awake.proofs.Beats.{all_reached, reads_total, asked_length, drop_all, both, is_the_place, next_at, count_append, some_beat, writes_on, write_place, goes_on}
use Rattle.memory_awake.proofs.Places.{agent_self, one_word, owed_grows, reads_owed, owes_one, all_taken, next_is}
use Rattle.memory_awake.proofs.Standing.{IsAhead, same_words, write_passes, shows_host, to_middle, place_now, stands, may_read_level, from_host, given_now, next_ahead}
use Rattle.memory_awake.proofs.Bits.{none_taken, one_taken, takes_shows, no_true, last_joined_end}

-- where all words are given, there is room, and nobody owes one
pub room_when_given : (system : System) (run : Run) (host c : ℕ) → IsTrue (are_all_given system run host c) → IsTrue (has_room system run host c)
room_when_given system run host c all =
    let given_all : length (reads_in (host_accepted system run host c)) ≤ given_before system run host c = grind (arith, tests, all) in
    let none = all_reached (map (λ (t : Transfer). length t.beats) (reads_among (host_accepted system run host c))) (given_before system run host c) (let t = reads_total (host_accepted system run host c) in omega (arith, t, given_all)) in
    rw none refl

pub none_when_given : (system : System) (run : Run) (host c : ℕ) → IsTrue (are_all_given system run host c) → drop (given_before system run host c) (asked_among system host (host_accepted system run host c)) ≡ []
none_when_given system run host c all =
    let given_all : length (reads_in (host_accepted system run host c)) ≤ given_before system run host c = grind (arith, tests, all) in
    drop_all (given_before system run host c) (asked_among system host (host_accepted system run host c)) (let a = asked_length system host (host_accepted system run host c) in omega (arith, a, given_all))

module _ (system : System) (run : Run) (host agent : ℕ) (middle : Port) (down : ℕ → Port) (end : ℕ) (low : agent < system.agents) (part : IsHostPart system run host middle end) (route : IsRoutePart system host middle down end) where
  abbrev shape : Shape
  shape = (system.host host).shape

  abbrev view : HostView
  view = run.at_host host

  abbrev accepts : ℕ → Bool
  accepts = host_accepts view

  abbrev shown_now : ℕ → Transfer
  shown_now c = transfer_at shape view.signals accepts c

  abbrev top : Port
  top = down agent

  abbrev below : ℕ → List Transfer
  below c = map (λ (m : Marked). m.transfer) (taken_at middle c)

  shown_below : (c : ℕ) → c < end → IsTrue (shows view.signals c) → IsTrue (is_raised (view.write c)) → IsTrue (shows middle.commands.signals c)
  shown_below c h shown write = to_middle system run host middle end part c h shown (or_left (is_raised (view.write c)) _ write)

  place_is : (c : ℕ) → c < end → IsTrue (shows middle.commands.signals c) → place_shown system host middle c ≡ place_of system host (shown_now c)
  place_is c h shown = place_now system run host middle end part c h shown

  to_top : (c : ℕ) → c < end → IsTrue (shows middle.commands.signals c) → place_of system host (shown_now c) ≡ Some agent → IsTrue (is_open system host middle (Some agent) c) → IsTrue (shows top.commands.signals c)
  to_top c h shown place open_gate =
      route.shown agent c low h ∙ both (shows middle.commands.signals c && is_agent agent (place_shown system host middle c)) _ (both _ _ shown (ap (is_agent agent) (place_is c h shown ∙ place) ∙ agent_self agent)) open_gate

  -- a beat that is shown behind the route is the host's
  pub from_top : (c : ℕ) → c < end → IsTrue (shows top.commands.signals c) → IsTrue (shows middle.commands.signals c) × (place_of system host (shown_now c) ≡ Some agent)
  from_top c h shown =
      let all = and_parts (shows middle.commands.signals c && is_agent agent (place_shown system host middle c)) (is_open system host middle (Some agent) c) (sym (route.shown agent c low h) ∙ shown) in
      let two = and_parts (shows middle.commands.signals c) (is_agent agent (place_shown system host middle c)) all.0 in
      (two.0, sym (place_is c h two.0) ∙ the_agent (place_shown system host middle c) two.1)
    where
      the_agent : (place : Option ℕ) → IsTrue (is_agent agent place) → place ≡ Some agent
      the_agent None x = absurd (no_true x)
      the_agent (Some b) x = let same : agent ≡ b = grind (arith, tests, x) in ap Some (sym same)

  top_takes : (c : ℕ) → c < end → IsTrue (shows middle.commands.signals c) → place_of system host (shown_now c) ≡ Some agent → takes top c ≡ takes middle c
  top_takes c h shown place = sym (route.accepts agent c low h (ap (is_agent agent) (place_is c h shown ∙ place) ∙ agent_self agent))

  -- a write is a write on both sides of the route
  level_is : (c : ℕ) → c < end → IsTrue (shows top.commands.signals c) → is_raised (top.commands.write c) ≡ is_raised (view.write c)
  level_is c h shown = route.level agent c low h shown ∙ part.level c h (from_top c h shown).0

  -- ---- words

  -- a word that comes up behind the route is given to the host in its cycle
  pub at_once : (c : ℕ) → c < end → IsTrue (is_raised (top.answers.valid c)) → IsTrue (is_given_from system run (Some agent) c host)
  at_once c h valid =
      let n = next_is system host middle down end route agent c low h valid in
      let come : comes down c (owed_places system host middle c) ≡ true = ap (comes down c) n.2 ∙ ap (comes_from down c) n.3 ∙ valid in
      let here : IsTrue (next_at (Some agent) (length (words_at middle c)) (asked_among system host (below c))) = ap (λ l. list_any (λ (q : Asked). is_place (Some agent) q.place) (take 1 l)) n.2 ∙ head n.0 n.3 in
      given_now system run host middle end part (Some agent) c h here (route.words c h ∙ come)
    where
      head : (q : Asked) → q.place ≡ Some agent → IsTrue (is_place (Some agent) q.place || false)
      head q e = or_left (is_place (Some agent) q.place) false (ap (is_place (Some agent)) e ∙ agent_self agent)

  owed_front : (c : ℕ) → c < end → IsTrue (owes_next system run host (Some agent) c) → IsTrue (is_owed top c)
  owed_front c h next = lt-ltb (length (words_at top (suc c))) (words_owed top (suc c)) (owes_one system host middle down end route agent (suc c) low (omega (arith, h)) (from_host system run host middle end part (Some agent) (suc c) (omega (arith, h)) next))

  -- a read that stands at the host and was taken is owed its word, or is given it now
  ahead_owed : (c : ℕ) → c < end → IsAhead system run host middle end part c → place_of system host (shown_now c) ≡ Some agent → IsTrue (shows top.commands.signals c || is_owed top c || is_given_from system run (Some agent) c host)
  ahead_owed c h a place = by_valid (is_raised (top.answers.valid c)) refl
    where
      by_valid : (b : Bool) → is_raised (top.answers.valid c) ≡ b → IsTrue (shows top.commands.signals c || is_owed top c || is_given_from system run (Some agent) c host)
      by_valid true e = or_right (shows top.commands.signals c || is_owed top c) _ (at_once c h e)
      by_valid false e =
          let less = owes_one system host middle down end route agent c low (omega (arith, h)) (next_ahead system run host middle end part c h a (Some agent) place) in
          let still = one_word top c ∙ ap (λ b. length (words_at top c) + (if b then 1 else 0)) e in
          let more = owed_grows top c in
          or_left (shows top.commands.signals c || is_owed top c) _ (or_right (shows top.commands.signals c) _ (lt-ltb (length (words_at top (suc c))) (words_owed top (suc c)) (omega (arith, less, still, more))))

  -- ---- a beat for the agent at the host

  -- where no read is ahead, there is room, and the agent alone owes words, a beat for it is shown behind the route
  pub reaches_top : (c : ℕ) → c < end → IsTrue (shows view.signals c) → place_of system host (shown_now c) ≡ Some agent → IsTrue (has_room system run host c) → IsTrue (owes_alone system run host agent c) → below c ≡ host_accepted system run host c → IsTrue (shows top.commands.signals c)
  reaches_top c h shown place room alone same =
      let gate = or_right (is_raised (view.write c)) _ (may_read_level system run host middle end part c h same room) in
      let on = to_middle system run host middle end part c h shown gate in
      let all = subst (λ n. IsTrue (list_all (λ (q : Asked). is_place (Some agent) q.place) (drop n (asked_among system host (below c))))) (sym (same_words system run host middle end part c (omega (arith, h))))
      (subst (λ l. IsTrue (list_all (λ (q : Asked). is_place (Some agent) q.place) (drop (given_before system run host c) (asked_among system host l)))) (sym same) alone) in
      to_top c h on place (or_right (is_raised (middle.commands.write c)) _ all)

  ahead_front : (c : ℕ) → c < end → IsTrue (shows_for system run host (Some agent) c) → IsTrue (has_room system run host c) → IsTrue (owes_alone system run host agent c) → IsTrue (shows top.commands.signals c || is_owed top c || is_given_from system run (Some agent) c host)
  ahead_front c h shown room alone = by_taken (stands system run host middle end part c (omega (arith, h))).taken
    where
      parts : IsTrue (shows view.signals c) × IsTrue (is_place (Some agent) (place_of system host (shown_now c)))
      parts = and_parts (shows view.signals c) _ shown

      place : place_of system host (shown_now c) ≡ Some agent
      place = is_the_place agent (place_of system host (shown_now c)) parts.1

      by_taken : (below c ≡ host_accepted system run host c) ⊎ IsAhead system run host middle end part c → IsTrue (shows top.commands.signals c || is_owed top c || is_given_from system run (Some agent) c host)
      by_taken (inr a) = ahead_owed c h a place
      by_taken (inl same) = or_left (shows top.commands.signals c || is_owed top c) _ (or_left (shows top.commands.signals c) _ (reaches_top c h parts.0 place room alone same))

  shown_front : (c : ℕ) → c < end → IsTrue (shows_for system run host (Some agent) c) → IsTrue (are_all_given system run host c) → IsTrue (shows top.commands.signals c || is_owed top c || is_given_from system run (Some agent) c host)
  shown_front c h shown all = ahead_front c h shown (room_when_given system run host c all) (ap (list_all (λ (q : Asked). is_place (Some agent) q.place)) (none_when_given system run host c all))

  writes_front : (c : ℕ) → c < end → IsTrue (takes top c) → IsTrue (is_raised (top.commands.write c)) → IsTrue (is_written_to system run (Some agent) c host)
  writes_front c h taken write =
      let shown = takes_shows top c taken in
      let f = from_top c h shown in
      let level = sym (level_is c h shown) ∙ write in
      let accepted = write_passes system run host middle end part c h level ∙ sym (top_takes c h f.0 f.1) ∙ taken in
      both (accepts c && is_raised (view.write c)) _ (both _ _ accepted level) (ap (is_place (Some agent)) f.1 ∙ agent_self agent)

  taken_front : (c : ℕ) → c ≤ end → count_for system host agent (host_accepted system run host c) ≤ length (operations_among (target_of system agent) top.shape (taken_at top c))
  taken_front c h = by_taken (stands system run host middle end part c h).taken
    where
      all : count_for system host agent (below c) ≤ length (operations_among (target_of system agent) top.shape (taken_at top c))
      all = all_taken system host middle down end route agent low (sym part.bytes) c h

      by_taken : (below c ≡ host_accepted system run host c) ⊎ IsAhead system run host middle end part c → count_for system host agent (host_accepted system run host c) ≤ length (operations_among (target_of system agent) top.shape (taken_at top c))
      by_taken (inl same) = let most = all in let count = ap (count_for system host agent) same in omega (arith, most, count)
      by_taken (inr a) = let most = all in let count = ap (count_for system host agent) a.taken ∙ count_append system host agent (host_accepted system run host c) a.read in omega (arith, most, count)

  -- ---- bursts

  abbrev burst_now : ℕ → Burst
  burst_now c = burst_before shape view.signals accepts c

  burst_place : (c : ℕ) → c < end → IsTrue (is_bursting system run host (Some agent) c) → IsTrue (shows view.signals c) → (IsTrue (is_raised (view.write c))) × (place_of system host (shown_now c) ≡ Some agent)
  burst_place c h bursting shown =
      let parts = and_parts (is_under_way shape view.signals accepts c) _ bursting in
      let write = writes_on shape view.signals accepts end part.legal c h parts.0 shown in
      (write, write_place system host shape (levels_at view.signals c) (burst_now c) write parts.0 ∙ is_the_place agent (system.place host Writes (burst_now c).first) parts.1)

  bursts_front : (c : ℕ) → c < end → IsTrue (is_bursting system run host (Some agent) c) → IsTrue (shows view.signals c) → IsTrue (shows top.commands.signals c)
  bursts_front c h bursting shown =
      let p = burst_place c h bursting shown in
      let on = shown_below c h shown p.0 in
      to_top c h on p.1 (or_left (is_raised (middle.commands.write c)) _ (part.level c h on ∙ p.0))

  -- what is taken last behind the route is left open as long as the host's command
  last_taken : (c : ℕ) → c < end → IsTrue (takes top c) → is_last_joined (taken_at top (suc c)) ≡ not (shown_now c).ends
  last_taken c h taken =
      let shown = takes_shows top c taken in
      let f = from_top c h shown in
      ap is_last_joined (one_taken top c taken) ∙ last_joined_end (taken_at top c) (marked_at top c)
      ∙ route.more agent c low h shown ∙ part.more c h f.0 ∙ ap (λ (t : Transfer). not t.ends) (part.same c h f.0)

  -- a read leaves nothing open
  read_closes : (c : ℕ) → c < end → IsTrue (takes top c) → IsFalse (is_raised (view.write c)) → IsTrue (is_last_joined (taken_at top (suc c))) → ⊥
  read_closes c h taken quiet joined =
      let ends : (shown_now c).ends ≡ true = rw quiet refl in
      no_true (sym (ap not ends) ∙ sym (last_taken c h taken) ∙ joined)

  -- what is left open behind the route is the host's burst
  pub left_open : (c : ℕ) → c ≤ end → IsTrue (is_last_joined (taken_at top c)) → IsTrue (is_bursting system run host (Some agent) c)
  left_open zero h joined = absurd (no_true joined)
  left_open (suc c) h joined = by_write (is_raised (view.write c)) refl (takes top c) refl (left_open c (omega (arith, h)))
    where
      fit : c < end
      fit = omega (arith, h)

      under_still : burst_now (suc c) ≡ burst_now c → (IsTrue (is_last_joined (taken_at top c)) → IsTrue (is_bursting system run host (Some agent) c)) → IsFalse (takes top c) → IsTrue (is_bursting system run host (Some agent) (suc c))
      under_still same more none =
          subst (λ (b : Burst). IsTrue (nat_lt 0 b.left && is_place (Some agent) (system.place host Writes b.first))) (sym same)
          (more (subst (λ l. IsTrue (is_last_joined l)) (none_taken top c none) joined))

      by_write : (w : Bool) → is_raised (view.write c) ≡ w → (t : Bool) → takes top c ≡ t → (IsTrue (is_last_joined (taken_at top c)) → IsTrue (is_bursting system run host (Some agent) c)) → IsTrue (is_bursting system run host (Some agent) (suc c))
      by_write false w true et more = absurd (read_closes c fit et w joined)
      by_write false w false et more = under_still (still (accepts c) w) more et
        where
          still : (a : Bool) → is_raised (view.write c) ≡ false → burst_after shape (levels_at view.signals c) a (burst_now c) ≡ burst_now c
          still true w = rw w refl
          still false w = refl
      by_write true w true et more =
          let shown = takes_shows top c et in
          let f = from_top c fit shown in
          let taken : accepts c ≡ true = write_passes system run host middle end part c fit w ∙ sym (top_takes c fit f.0 f.1) ∙ et in
          let ends : IsFalse (shown_now c).ends = not_true_is _ (sym (last_taken c fit et) ∙ joined) in
          let on = goes_on system host shape (levels_at view.signals c) (burst_now c) (λ free. some_beat shape view.signals accepts end part.legal c fit (shows_host system run host middle end part c fit f.0) free) ends in
          subst (λ b. IsTrue (nat_lt 0 (burst_after shape (levels_at view.signals c) b (burst_now c)).left && is_place (Some agent) (system.place host Writes (burst_after shape (levels_at view.signals c) b (burst_now c)).first))) (sym taken)
          (both _ _ on.left (ap (is_place (Some agent)) (on.place ∙ f.1) ∙ agent_self agent))
        where
          not_true_is : (b : Bool) → IsTrue (not b) → IsFalse b
          not_true_is true h = absurd (no_true h)
          not_true_is false h = refl
      by_write true w false et more = by_accept (accepts c) refl
        where
          by_accept : (a : Bool) → accepts c ≡ a → IsTrue (is_bursting system run host (Some agent) (suc c))
          by_accept false e = under_still (ap (λ a. burst_after shape (levels_at view.signals c) a (burst_now c)) e) more et
          by_accept true e =
              let taken = sym (write_passes system run host middle end part c fit w) ∙ e in
              let on = takes_shows middle c taken in
              let before = more (subst (λ l. IsTrue (is_last_joined l)) (none_taken top c et) joined) in
              let p = burst_place c fit before (shows_host system run host middle end part c fit on) in
              absurd (no_true (sym et ∙ top_takes c fit on p.1 ∙ taken))

  opened_front : (c : ℕ) → c < end → IsTrue (is_unclosed top c) → IsTrue (is_bursting system run host (Some agent) c || is_written_to system run (Some agent) c host)
  opened_front c h opened = by_take (takes top c) refl (is_raised (top.commands.write c)) refl
    where
      by_take : (t : Bool) → takes top c ≡ t → (w : Bool) → is_raised (top.commands.write c) ≡ w → IsTrue (is_bursting system run host (Some agent) c || is_written_to system run (Some agent) c host)
      by_take false e w ew = or_left (is_bursting system run host (Some agent) c) _ (left_open c (omega (arith, h)) (subst (λ l. IsTrue (is_last_joined l)) (none_taken top c e) opened))
      by_take true e true ew = or_right (is_bursting system run host (Some agent) c) _ (writes_front c h e ew)
      by_take true e false ew = absurd (read_closes c h e (sym (level_is c h (takes_shows top c e)) ∙ ew) opened)

  pub front : IsFront system run host agent (down agent) end
  front = record {
    shown = shown_front;
    writes = writes_front;
    reads = λ c h taken read. reads_owed system host middle down end route agent c low h taken read;
    taken = taken_front;
    owed = owed_front;
    opened = opened_front;
    bursts = bursts_front;
  }
