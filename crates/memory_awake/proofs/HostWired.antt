-- Hosts that are wired to their agent's arbiter: a wanted command moves on within one round of the others.
use Rattle.std.proofs.Common.{◌≡◌, ℕ, zero, suc, ◌+◌, ◌-◌, ◌*◌, ◌<◌, ◌≤◌, Bool, true, false, not, ◌&&◌, ◌||◌, length, filter, nat_eq, nat_lt, if◌then◌else◌, arith, refl, sym, ap, ◌∙◌, subst, IsTrue, IsFalse, tests, inl, inr, ◌⊎◌, Some}
use Rattle.std.proofs.lemmas.Bool.{and_parts, or_parts, or_left}
use Rattle.std.proofs.lemmas.Nat.{pow_pos}
use Rattle.std.specs.List.{list_all}
use Rattle.histories.specs.History.{is_raised, one_if}
use Rattle.memory_runs.specs.Views.{System, Run, Responses, Shape}
use Rattle.memory_runs.specs.Whole.{IsSafe}
use Rattle.memory_runs.specs.Commands.{burst_before, shows, agent_accepts, transfer_at, stood_before, longest_burst}
use Rattle.memory_runs.specs.Legal.{host_accepts, gives_word, IsProperAtHost}
use Rattle.memory_runs.specs.Order.{Asked, place_of, is_agent, is_joined, of_host, taken, beats_taken, is_read_beat}
use Rattle.memory_runs.specs.Awake.{owes, is_place, count_for, is_given_from, is_written_to, shows_its_burst, longest_wait, IsWanted, Throughout, Sometime}
use Rattle.memory_machines.specs.Link.{Port, takes, taken_at, marked_at, is_last_joined}
use Rattle.memory_machines.specs.Lines.{TaggedPort, target_of, tagged_operations, groups_of, host_accepted}
use Rattle.memory_machines.specs.Machines.{ShowsFitBeats}
use Rattle.memory_machines.specs.Rank.{is_owed, is_unclosed}
use Rattle.memory_machines.specs.Turns.{seats_of, asks_at}
use Rattle.histories.specs.Turns.{AllShare}
use Rattle.memory_parts.specs.Steps.{IsHostPart, IsRoutePart, IsArbiterPart, agent_rank, words_from_agent, place_shown}
use Rattle.memory_awake.proofs.Fronts.{reaches_top, room_when_given, none_when_given}
use Rattle.memory_awake.proofs.Standing.{stands}
use Rattle.memory_awake.specs.Front.{owes_alone, IsFront, are_all_given, is_bursting}
use Rattle.memory_awake.specs.Ways.{count_in}
use Rattle.memory_awake.specs.Wires.{IsWire}
use Rattle.memory_awake.specs.Approach.{IsAwake}
use Rattle.memory_awake.specs.Fair.{AreParts}
use Rattle.memory_awake.specs.Theorem.{Boundaries, States, LinkRanks, IsBuilt, approach_of}
use Rattle.memory_awake.proofs.Arbiter.{TurnLaws}
use Rattle.memory_awake.proofs.Beats.{both, is_the_place}
use Rattle.memory_awake.proofs.Final.{outcome_of, shown_burst}
use Rattle.memory_awake.proofs.HostDefault.{accepted_with_word}
use Rattle.memory_awake.proofs.Bits.{no_true, takes_shows, not_shown, none_taken, not_by}
use Rattle.memory_awake.proofs.Owed.{owed_below}
use Rattle.memory_awake.proofs.Wanted.{two_of, three_of, tagged_of_host, own_taken, some_or_none}
use Rattle.memory_awake.proofs.Widened.{wire_stays, wire_operations, bursts as bursts_same}
use Rattle.memory_awake.specs.Steps.{HasStepsLeft, HasSingleReads, WaitsItsTurn, HasPace, beats_of_others}
use Rattle.memory_runs.specs.Awake.{lacks_beats, is_accepted_now}
use Rattle.memory_runs.specs.Onward.{is_taken_now, is_given_now, moves_on, longest_of, IsPrompt}
use Rattle.memory_awake.specs.Onward.{SendsWordsUp, is_good, IsStanding}
use Rattle.memory_awake.proofs.HostGrants.{no_both}
use Rattle.memory_awake.proofs.HostBursts.{beats_left, bursts_have_beats_left}
use Rattle.memory_awake.proofs.Numbers.{Outcome, Outcome.a_beat, Outcome.an_operation, Outcome.a_word, Outcome.a_given, each_holds}
use Rattle.memory_awake.proofs.HostRing.{more_of}
use Rattle.memory_awake.proofs.HostStaged.{IsPaced}
use Rattle.memory_awake.proofs.HostCycles.{all_cycles}
use Rattle.memory_awake.proofs.HostWaits.{few_cycles, few_beats}

three_moves : (a b c : Bool) → IsFalse (a || b || c) → IsFalse a × IsFalse b × IsFalse c
three_moves a b c f = let p = or_parts (a || b) c f in let q = or_parts a b p.0 in (q.0, q.1, p.1)

good_parts : (a b c : Bool) → IsTrue (a && not b && not c) → IsTrue a × IsFalse b × IsFalse c
good_parts true false false h = (refl, refl, refl)
good_parts true true c h = absurd (no_true h)
good_parts true false true h = absurd (no_true h)
good_parts false b c h = absurd (no_true h)

all_so : (a b c : Bool) → IsTrue a → IsFalse b → IsFalse c → IsTrue (a && not b && not c)
all_so a b c x y z = grind (arith, tests)

-- the parts of a system whose joined hosts are wired to an agent's arbiter, which is wired to the part next to the agent
pub record WiredParts (system : System) (run : Run) (agent end : ℕ) (middle : ℕ → Port) (behind : ℕ → ℕ → Port) (up : ℕ → Port) (down : TaggedPort) : Type 0 where
  pub share : AllShare (seats_of system agent)
  pub there : agent < system.agents
  pub joined_low : (h : ℕ) → IsTrue (is_joined system agent h) → h < system.hosts
  pub host : (h : ℕ) → h < system.hosts → IsHostPart system run h (middle h) end
  pub route : (h : ℕ) → h < system.hosts → IsRoutePart system h (middle h) (behind h) end
  pub front : (h : ℕ) → h < system.hosts → IsFront system run h agent (behind h agent) end
  pub arbiter : IsArbiterPart system agent up down end
  pub words : (h : ℕ) → h < system.hosts → (up h).shape.word_bytes ≡ down.shape.word_bytes
  pub proper : (h : ℕ) → h < system.hosts → IsProperAtHost (system.host h) (run.at_host h) end

pub parts_of : (responses : Responses) (system : System) (run : Run) (inside : Boundaries) (states : States) (ranks : LinkRanks) (end agent : ℕ) → IsBuilt responses system run inside states ranks end → agent < system.agents →
    AreParts system run inside end → IsAwake system run (approach_of system run inside states ranks) end → IsSafe responses system run end →
    WiredParts system run agent end inside.after_host (λ h a. inside.upper h a (inside.links h a)) (λ h. inside.upper h agent 0) (inside.lower agent system.stages)
parts_of responses system run inside states ranks end agent built there parts awake safe = record {
  share = built.plan.shares agent there;
  there = there;
  joined_low = λ h joined. built.plan.joined agent h joined;
  host = parts.host;
  route = parts.route;
  front = (awake.agents agent there).parts.front;
  arbiter = parts.arbiter agent there;
  words = λ h low. ap (λ (s : Shape). s.word_bytes) ((built.machines.arbiter agent there).shapes h low);
  proper = safe.at_hosts;
}

module _ (laws : TurnLaws) (system : System) (run : Run) (agent end : ℕ) (middle : ℕ → Port) (behind : ℕ → ℕ → Port) (up : ℕ → Port) (down : TaggedPort) (parts : WiredParts system run agent end middle behind up down) where
  abbrev top : ℕ → Port
  top h = behind h agent

  -- the agent has taken what was taken behind the arbiter
  abbrev pub TakesAll : Type 0
  TakesAll = (c : ℕ) → c ≤ end → taken system run agent c ≡ tagged_operations (groups_of (target_of system agent) down.shape (taken_at down.port c))

  -- ---- how many beats a command has left at each port of the arbiter

  more_is : (h c : ℕ) → h < system.hosts → c < end → IsTrue (shows (top h).commands.signals c) → (marked_at (top h) c).more ≡ not (marked_at (top h) c).transfer.ends
  more_is h c low fit shown =
      let route = parts.route h low in
      let host = parts.host h low in
      let all = and_parts (shows (middle h).commands.signals c && is_agent agent (place_shown system h (middle h) c)) _ (sym (route.shown agent c parts.there fit) ∙ shown) in
      let above = (and_parts (shows (middle h).commands.signals c) _ all.0).0 in
      route.more agent c parts.there fit shown ∙ host.more c fit above ∙ ap (λ t. not t.ends) (sym (route.same agent c parts.there fit shown))

  unclosed_joined : (k c : ℕ) → c ≤ end → IsTrue (is_last_joined (taken_at (up k) c)) → IsTrue (is_joined system agent k)
  unclosed_joined k zero fit h = absurd (no_true h)
  unclosed_joined k (suc c) fit h = by_take (takes (up k) c) refl (unclosed_joined k c (omega (arith, fit)))
    where
      by_take : (t : Bool) → takes (up k) c ≡ t → (IsTrue (is_last_joined (taken_at (up k) c)) → IsTrue (is_joined system agent k)) → IsTrue (is_joined system agent k)
      by_take true e more = (parts.arbiter.joined k c (omega (arith, fit)) (takes_shows (up k) c e)).1
      by_take false e more = more (subst (λ l. IsTrue (is_last_joined l)) (none_taken (up k) c e) h)

  -- a write beat that is accepted from a host for the agent is taken behind its route
  written_takes : (k c : ℕ) → k < system.hosts → c < end → IsTrue (is_written_to system run (Some agent) c k) → IsTrue (takes (top k) c)
  written_takes k c low fit written =
      let two = and_parts (host_accepts (run.at_host k) c && is_raised ((run.at_host k).write c)) _ written in
      let one = and_parts (host_accepts (run.at_host k) c) (is_raised ((run.at_host k).write c)) two.0 in
      let host = parts.host k low in
      let below : takes (middle k) c ≡ true = sym (by_write (is_raised ((run.at_host k).write c)) one.1) ∙ sym (host.accepts c fit) ∙ one.0 in
      let shown = takes_shows (middle k) c below in
      let place : place_shown system k (middle k) c ≡ Some agent = ap (place_of system k) (host.same c fit shown) ∙ is_the_place agent _ two.1 in
      sym ((parts.route k low).accepts agent c parts.there fit (subst (λ p. IsTrue (is_agent agent p)) (sym place) self)) ∙ below
    where
      self : IsTrue (nat_eq agent agent)
      self = grind (arith, tests)

      by_write : (w : Bool) → IsTrue w → (if w || (system.host k).has_readdatavalid then takes (middle k) c else is_raised ((middle k).answers.valid c)) ≡ takes (middle k) c
      by_write true h = refl
      by_write false h = absurd (no_true h)

  -- a command that is left open behind a route goes on in a good cycle
  goes_on : (h c : ℕ) → h < system.hosts → c < end → IsTrue (is_last_joined (taken_at (top h) c)) → IsTrue (is_good system run agent c) → IsTrue (shows (top h).commands.signals c)
  goes_on h c low fit opened good = by_shown (shows (top h).commands.signals c) refl
    where
      by_shown : (b : Bool) → shows (top h).commands.signals c ≡ b → IsTrue b
      by_shown true e = refl
      by_shown false e =
          let unclosed : IsTrue (is_unclosed (top h) c) = subst (λ l. IsTrue (is_last_joined l)) (sym (none_taken (top h) c (not_shown (top h) c e))) opened in
          let on = (good_parts _ _ _ good).0 in
          two_of (is_bursting system run h (Some agent) c) (is_written_to system run (Some agent) c h) ((parts.front h low).opened c fit unclosed)
          (λ bursting. absurd (no_both _ ((parts.front h low).bursts c fit bursting (shown_burst _ _ (each_holds (shows_its_burst system run (Some agent) c) 0 system.hosts h on (omega arith) (omega (arith, low))) bursting)) e))
          (λ written. absurd (no_both _ (takes_shows (top h) c (written_takes h c low fit written)) e))

  -- a host that isn't joined shows nothing there
  pub unjoined_steps : (h : ℕ) → IsFalse (is_joined system agent h) → HasStepsLeft (up h) (is_good system run agent) (longest_of system h) (λ c. longest_of system h) end
  unjoined_steps h e = record {
    some = λ c low. let pos = pow_pos ((system.host h).burst_bits - 1) in omega (arith, pos);
    few = λ c low. omega arith;
    fewer = λ c low took open_still. absurd (no_both (is_joined system agent h) (parts.arbiter.joined h c low (takes_shows (up h) c took)).1 e);
    stays = λ c low none. omega arith;
    gaps = λ c low opened quiet good. absurd (no_both (is_joined system agent h) (unclosed_joined h c (omega (arith, low)) opened) e);
  }

  -- behind a route
  module _ (fits : (h : ℕ) → h < system.hosts → ShowsFitBeats (behind h agent) end) (bits : (h : ℕ) → h < system.hosts → (behind h agent).shape.burst_bits ≡ (system.host h).burst_bits) where
    abbrev pub top_rest : ℕ → ℕ → ℕ
    top_rest h c = beats_left (longest_of system h) (burst_before (top h).shape (top h).commands.signals (takes (top h)) c)

    pub top_steps : (h : ℕ) → h < system.hosts → HasStepsLeft (top h) (is_good system run agent) (longest_of system h) (top_rest h) end
    top_steps h low =
        let here = bursts_have_beats_left (top h) (is_good system run agent) end (fits h low) (λ c fit shown. more_is h c low fit shown) (λ c fit opened good. goes_on h c low fit opened good) in
        let width : longest_burst (top h).shape.burst_bits ≡ longest_of system h = ap longest_burst (bits h low) in
        subst (λ n. HasStepsLeft (top h) (is_good system run agent) n (λ c. beats_left n (burst_before (top h).shape (top h).commands.signals (takes (top h)) c)) end) width here

    pub top_reads : (h : ℕ) → h < system.hosts → HasSingleReads (top h) (top_rest h) end
    top_reads h low = record {
      few = λ c fit shown kind.
          let free = free_read c fit shown kind in
          let none : nat_eq (burst_before (top h).shape (top h).commands.signals (takes (top h)) c).left 0 ≡ true = grind (arith, tests, free) in
          let most = (fits h low c fit shown).most free in
          let width : longest_burst (top h).shape.burst_bits ≡ longest_of system h = ap longest_burst (bits h low) in
          rw none (omega (arith, most, width));
      single = λ c fit shown kind.
          let more = more_is h c low fit shown in
          let ends : (marked_at (top h) c).transfer.ends ≡ true = rw kind refl in
          more ∙ ap not ends;
    }
      where
        read_shown : (r w : Bool) → IsTrue (r || w) → IsFalse w → IsTrue r
        read_shown true w s f = refl
        read_shown false w s f = absurd (no_both w s f)

        free_read : (c : ℕ) → c < end → IsTrue (shows (top h).commands.signals c) → IsFalse (is_raised ((top h).commands.write c)) → IsFalse (nat_lt 0 (burst_before (top h).shape (top h).commands.signals (takes (top h)) c).left)
        free_read c fit shown kind = by_left (nat_lt 0 (burst_before (top h).shape (top h).commands.signals (takes (top h)) c).left) refl
          where
            by_left : (b : Bool) → nat_lt 0 (burst_before (top h).shape (top h).commands.signals (takes (top h)) c).left ≡ b → IsFalse b
            by_left false e = refl
            by_left true e = absurd (no_both _ (read_shown (is_raised ((top h).commands.read c)) (is_raised ((top h).commands.write c)) shown kind) ((fits h low c fit shown).finished e))

  -- after a cycle in which the agent owes nothing only its wait states are left
  pub rank_few : (c : ℕ) → IsFalse (owes system run agent c) → agent_rank system run agent (suc c) ≤ longest_wait (system.agent agent)
  rank_few c answered = by_owing (nat_lt (words_from_agent system run agent (suc c)) (length (filter is_read_beat (beats_taken system run agent (suc c))))) answered
    where
      by_owing : (b : Bool) → IsFalse b → (longest_wait (system.agent agent) - stood_before (system.agent agent) (run.at_agent agent) (suc c)) + one_if b ≤ longest_wait (system.agent agent)
      by_owing true f = absurd (no_true (sym f))
      by_owing false f = omega arith

  -- ---- a host that is wanted asks

  module _ (steps : ℕ → ℕ) (rest : ℕ → ℕ → ℕ) (have : (o : ℕ) → HasStepsLeft (up o) (is_good system run agent) (steps o) (rest o) end) (host : ℕ) (joined : IsTrue (is_joined system agent host)) (low : host < system.hosts) (wire : IsWire (behind host agent) (up host)) where
    abbrev its_top : Port
    its_top = top host

    abbrev round : ℕ
    round = beats_of_others steps host (seats_of system agent)

    shown_above : (c : ℕ) → IsTrue (shows its_top.commands.signals c) → IsTrue (shows (up host).commands.signals c)
    shown_above c shown = wire_stays its_top (up host) wire (λ p. IsTrue (shows p.commands.signals c)) shown

    none_owed : SendsWordsUp system run agent down.port end → (c : ℕ) → suc c < end → IsFalse (owes system run agent c) → IsTrue (is_owed its_top c) → ⊥
    none_owed sends c fit answered owed = no_both _ (owed_below system agent up down end parts.arbiter host c low fit above) (sends c fit answered)
      where
        above : IsTrue (is_owed (up host) c)
        above = wire_stays its_top (up host) wire (λ p. IsTrue (is_owed p c)) (rw (bursts_same (up host).shape.burst_bits its_top) owed)

    all_taken : TakesAll → (c : ℕ) → c < end → length (of_host host (taken system run agent c)) < count_for system host agent (host_accepted system run host c) → ⊥
    all_taken operations c fit less =
        let front = (parts.front host low).taken c (omega (arith, fit)) in
        let wire = wire_operations its_top (up host) wire (target_of system agent) c in
        let own = own_taken system agent up down end parts.arbiter (target_of system agent) host low (parts.words host low) c (omega (arith, fit)) in
        let tags = ap (λ l. length (of_host host l)) (operations c (omega (arith, fit))) ∙ tagged_of_host (target_of system agent) down.shape (taken_at down.port c) host in
        absurd (omega (arith, less, front, wire, own, tags))

    -- a word that comes for a read that stands at the host is given where the read is accepted
    arrives : (number c : ℕ) → c < end → IsTrue (lacks_beats system run host number c) → IsTrue (are_all_given system run host c) → IsTrue (is_given_from system run (Some agent) c host) → IsTrue (moves_on system run agent host number c)
    arrives number c fit lacks all word =
        or_left (is_accepted_now system run host number c || is_taken_now system run agent host number c) _ (or_left (is_accepted_now system run host number c) _
        (accepted_with_word system run host end (parts.proper host low) number c fit lacks all (and_parts (gives_word (system.host host) (run.at_host host) c) _ word).0))

    -- a wanted command that doesn't move stands before the arbiter, and isn't taken there
    asks_for_it : TakesAll → SendsWordsUp system run agent down.port end → (number c : ℕ) → suc c < end → IsWanted system run agent host number c → IsFalse (moves_on system run agent host number c) → IsTrue (asks_at up c host) × IsFalse (takes (up host) c)
    asks_for_it operations sends number c fit wanted idle = by_outcome (outcome_of system run host end (parts.host host low).legal c number (Some agent) (omega (arith, fit)) wanted.oldest wanted.for_agent bursts)
      where
        few : IsFalse (is_accepted_now system run host number c) × IsFalse (is_taken_now system run agent host number c) × IsFalse (is_given_now system run agent host number c)
        few = three_moves _ _ _ idle

        bursts : IsTrue (is_bursting system run host (Some agent) c) → IsTrue (shows (run.at_host host).signals c)
        bursts under = shown_burst (is_bursting system run host (Some agent) c) (shows (run.at_host host).signals c) (each_holds (shows_its_burst system run (Some agent) c) 0 system.hosts host wanted.bursts (omega arith) (omega (arith, low))) under

        by_outcome : Outcome system run host (Some agent) number c → IsTrue (asks_at up c host) × IsFalse (takes (up host) c)
        by_outcome (a_given whole word lacking) = absurd (no_both _ (both _ _ word (not_by _ lacking)) few.2)
        by_outcome (an_operation whole b e less) = let same : b ≡ agent = cc in absurd (all_taken operations c (omega (arith, fit)) (subst (λ x. length (of_host host (taken system run x c)) < count_for system host x (host_accepted system run host c)) same less))
        by_outcome (a_word whole none owing) = absurd (none_owed sends c fit wanted.answered ((parts.front host low).owed c (omega (arith, fit)) owing))
        by_outcome (a_beat lacks shown all) =
            three_of (shows its_top.commands.signals c) (is_owed its_top c) (is_given_from system run (Some agent) c host) ((parts.front host low).shown c (omega (arith, fit)) shown all)
            (λ stands. (shown_above c stands, not_taken (takes (up host) c) refl))
            (λ owed. absurd (none_owed sends c fit wanted.answered owed))
            (λ word. absurd (no_both _ (arrives number c (omega (arith, fit)) lacks all word) idle))
          where
            not_taken : (t : Bool) → takes (up host) c ≡ t → IsFalse t
            not_taken false e = refl
            not_taken true e = by_kind (is_raised (its_top.commands.write c)) refl
              where
                taken_there : IsTrue (takes its_top c)
                taken_there = sym (wire_stays its_top (up host) wire (λ p. takes p c ≡ takes its_top c) refl) ∙ e

                by_kind : (w : Bool) → is_raised (its_top.commands.write c) ≡ w → IsFalse true
                by_kind true ew =
                    let written = (parts.front host low).writes c (omega (arith, fit)) taken_there ew in
                    let accepts = (and_parts (host_accepts (run.at_host host) c) _ (and_parts (host_accepts (run.at_host host) c && is_raised ((run.at_host host).write c)) _ written).0).0 in
                    absurd (no_both _ (both _ _ accepts lacks) few.0)
                by_kind false ew = absurd (none_owed sends c fit wanted.answered ((parts.front host low).reads c (omega (arith, fit)) taken_there ew))

    module _ (rank : ℕ → ℕ) (pace : ℕ) (paced : IsPaced down.port (is_good system run agent) rank (pace + 1) end) where
      -- a rank that is one less once the agent owes nothing
      pub moves_within : TakesAll → SendsWordsUp system run agent down.port end → ((c : ℕ) → c < end → IsFalse (owes system run agent c) → rank (suc c) ≤ pace) →
          (from size number : ℕ) → from + size + 1 < end → (round + 1) * (pace + 1) < size → Throughout from size (IsWanted system run agent host number) →
          Sometime from size (λ c. IsTrue (moves_on system run agent host number c))
      moves_within operations sends after from size number fits long wanted = elim (some_or_none (λ c. moves_on system run agent host number (from + c)) size) [
        | inl found ↦ (from + found.0, omega arith, omega (arith, found.1), found.2)
        | inr none ↦ absurd (too_long none)
      ]
        where
          too_long : ((c : ℕ) → c < size → IsFalse (moves_on system run agent host number (from + c))) → ⊥
          too_long none =
              let few = few_cycles laws system agent up down end parts.arbiter parts.share (is_good system run agent) steps rest have host joined low rank pace from size (omega (arith, fits))
              (record { asks = λ c first last. (stuck c first last).0; none = λ c first last. (stuck c first last).1 })
              (record {
                bounded = λ c first last. after c (omega (arith, fits, last)) (wanted c first last).answered;
                falls = λ c first last shown still fine. paced.falls c (omega (arith, fits, last)) shown still fine;
                stays = λ c first last still. paced.stays c (omega (arith, fits, last)) still;
              }) in
              let start = paced.bounded from (omega (arith, fits)) in
              let whole = all_good size (omega arith) in
              omega (arith, few, start, whole, long)
            where
              idle : (c : ℕ) → from ≤ c → c < from + size → IsFalse (moves_on system run agent host number c)
              idle c first last = let same : from + (c - from) ≡ c = omega (arith, first) in subst (λ x. IsFalse (moves_on system run agent host number x)) same (none (c - from) (omega (arith, first, last)))

              stuck : (c : ℕ) → from ≤ c → c < from + size → IsTrue (asks_at up c host) × IsFalse (takes (up host) c)
              stuck c first last = asks_for_it operations sends number c (omega (arith, fits, last)) (wanted c first last) (idle c first last)

              good : (c : ℕ) → from ≤ c → c < from + size → IsTrue (is_good system run agent c)
              good c first last = all_so _ _ _ (wanted c first last).bursts (wanted c first last).ready (wanted c first last).answered

              all_good : (n : ℕ) → n ≤ size → count_in (is_good system run agent) from n ≡ n
              all_good zero h = refl
              all_good (suc n) h =
                  let more = all_good n (omega (arith, h)) in
                  let one : one_if (is_good system run agent (from + n)) ≡ 1 = ap one_if (good (from + n) (omega arith) (omega (arith, h))) in
                  omega (arith, more, one)

    -- ---- a beat that stands at a host

    standing_asks : (number c : ℕ) → suc c < end → IsStanding system run agent host number c → IsTrue (asks_at up c host) × IsFalse (takes (up host) c)
    standing_asks number c fit stands_there = by_outcome (outcome_of system run host end (parts.host host low).legal c number (Some agent) (omega (arith, fit)) stands_there.oldest stands_there.for_agent bursts)
      where
        bursts : IsTrue (is_bursting system run host (Some agent) c) → IsTrue (shows (run.at_host host).signals c)
        bursts under = shown_burst (is_bursting system run host (Some agent) c) (shows (run.at_host host).signals c) (each_holds (shows_its_burst system run (Some agent) c) 0 system.hosts host stands_there.bursts (omega arith) (omega (arith, low))) under

        one_kind : (r w v : Bool) → IsTrue (not (r && w)) → IsTrue (w || v) → IsTrue r → IsFalse v → ⊥
        one_kind true true v h p r f = no_true h
        one_kind true false true h p r f = no_true (sym f)
        one_kind true false false h p r f = no_true p
        one_kind false w v h p r f = no_true r

        by_outcome : Outcome system run host (Some agent) number c → IsTrue (asks_at up c host) × IsFalse (takes (up host) c)
        by_outcome (a_given whole word lacking) = absurd (no_both _ stands_there.lacking whole)
        by_outcome (an_operation whole b e less) = absurd (no_both _ stands_there.lacking whole)
        by_outcome (a_word whole none owing) = absurd (no_both _ stands_there.lacking whole)
        by_outcome (a_beat lacks shown all) = (shown_above c shown_there, not_taken (takes (up host) c) refl)
          where
            its : IsTrue (shows (run.at_host host).signals c) × IsTrue (is_place (Some agent) (place_of system host (transfer_at (system.host host).shape (run.at_host host).signals (host_accepts (run.at_host host)) c)))
            its = and_parts (shows (run.at_host host).signals c) _ shown

            place : place_of system host (transfer_at (system.host host).shape (run.at_host host).signals (host_accepts (run.at_host host)) c) ≡ Some agent
            place = is_the_place agent _ its.1

            alone : IsTrue (owes_alone system run host agent c)
            alone = ap (list_all (λ (q : Asked). is_place (Some agent) q.place)) (none_when_given system run host c all)

            shown_there : IsTrue (shows its_top.commands.signals c)
            shown_there = elim ((stands system run host (middle host) end (parts.host host low) c (omega (arith, fit))).taken) [
              | inl same ↦ reaches_top system run host agent (middle host) (behind host) end parts.there (parts.host host low) (parts.route host low) c (omega (arith, fit)) its.0 place (room_when_given system run host c all) alone same
              | inr ahead ↦ absurd (one_kind (is_raised ((run.at_host host).read c)) (is_raised ((run.at_host host).write c)) (system.host host).has_readdatavalid ((parts.host host low).legal.one_kind c (omega (arith, fit))) stands_there.passes (ahead.stands (omega (arith, fit))).0 ahead.waits)
            ]

            passed : (b : Bool) → IsTrue b → (if b then takes (middle host) c else is_raised ((middle host).answers.valid c)) ≡ takes (middle host) c
            passed true h = refl
            passed false h = absurd (no_true h)

            self : IsTrue (nat_eq agent agent)
            self = grind (arith, tests)

            not_taken : (t : Bool) → takes (up host) c ≡ t → IsFalse t
            not_taken false e = refl
            not_taken true e =
                let its_route = parts.route host low in
                let its_part = parts.host host low in
                let top_taken : takes its_top c ≡ true = sym (wire_stays its_top (up host) wire (λ p. takes p c ≡ takes its_top c) refl) ∙ e in
                let above = and_parts (shows (middle host).commands.signals c && is_agent agent (place_shown system host (middle host) c)) _ (sym (its_route.shown agent c parts.there (omega (arith, fit))) ∙ shown_there) in
                let two = and_parts (shows (middle host).commands.signals c) (is_agent agent (place_shown system host (middle host) c)) above.0 in
                let taken_middle = its_route.accepts agent c parts.there (omega (arith, fit)) two.1 ∙ top_taken in
                absurd (no_both _ (its_part.accepts c (omega (arith, fit)) ∙ passed _ stands_there.passes ∙ taken_middle) stands_there.waits)

    module _ (rank : ℕ → ℕ) (pace : ℕ) (paced : IsPaced down.port (is_good system run agent) rank pace end) where
      pub stands_for : (from size number : ℕ) → from + size + 1 < end → Throughout from size (IsStanding system run agent host number) →
          (count_in (is_good system run agent) from size ≤ round * (pace + 1) + pace) × (count_in (takes down.port) from size ≤ round)
      stands_for from size number fits standing =
          let waits : WaitsItsTurn up host from size = record { asks = λ c first last. (stuck c first last).0; none = λ c first last. (stuck c first last).1 } in
          let cycles = few_cycles laws system agent up down end parts.arbiter parts.share (is_good system run agent) steps rest have host joined low rank pace from size (omega (arith, fits)) waits has_pace in
          let beats = few_beats laws system agent up down end parts.arbiter parts.share (is_good system run agent) steps rest have host joined low rank pace from size (omega (arith, fits)) waits has_pace in
          let start = paced.bounded from (omega (arith, fits)) in
          (omega (arith, cycles, start), beats)
        where
          stuck : (c : ℕ) → from ≤ c → c < from + size → IsTrue (asks_at up c host) × IsFalse (takes (up host) c)
          stuck c first last = standing_asks number c (omega (arith, fits, last)) (standing c first last)

          has_pace : HasPace down.port (is_good system run agent) rank pace from size
          has_pace = record {
            bounded = λ c first last. paced.bounded (suc c) (omega (arith, fits, last));
            falls = λ c first last shown still fine. paced.falls c (omega (arith, fits, last)) shown still fine;
            stays = λ c first last still. paced.stays c (omega (arith, fits, last)) still;
          }

      -- beside a prompt agent, which accepts few more beats than are taken behind the arbiter
      pub stands_prompt : (from size number late more : ℕ) → 1 ≤ late → from + size + 1 < end → Throughout from size (IsStanding system run agent host number) → IsPrompt system run agent late end →
          count_in (agent_accepts (system.agent agent) (run.at_agent agent)) from size ≤ count_in (takes down.port) from size + more →
          size + 1 ≤ round * (pace + 1) + pace + late * (round + more) + late
      stands_prompt from size number late more some fits standing prompt counts =
          let few = stands_for from size number fits standing in
          let good_few = few.0 in
          let beats_few = few.1 in
          let all = all_cycles (is_good system run agent) (owes system run agent) (agent_accepts (system.agent agent) (run.at_agent agent)) late from size some either answers in
          let most : late * count_in (agent_accepts (system.agent agent) (run.at_agent agent)) from size ≤ late * (round + more) = times late _ _ (omega (arith, beats_few, counts)) in
          omega (arith, good_few, all, most)
        where
          times : (k n m : ℕ) → n ≤ m → k * n ≤ k * m
          times k n m h = let left : k * n ≡ n * k = omega arith in let right : k * m ≡ m * k = omega arith in let less = more_of n m k h in omega (arith, left, right, less)

          either : (c : ℕ) → from ≤ c → c < from + size → IsTrue (is_good system run agent c) ⊎ IsTrue (owes system run agent c)
          either c first last = by_owing (owes system run agent c) refl
            where
              by_owing : (b : Bool) → owes system run agent c ≡ b → IsTrue (is_good system run agent c) ⊎ IsTrue b
              by_owing true e = inr refl
              by_owing false e = inl (all_so _ _ _ (standing c first last).bursts (prompt.ready c (omega (arith, fits, last))) e)

          answers : (c : ℕ) → from ≤ c → c + late ≤ from + size → ((k : ℕ) → c ≤ k → k < c + late → IsFalse (agent_accepts (system.agent agent) (run.at_agent agent) k)) → IsFalse (owes system run agent (c + late - 1))
          answers c first inside none = prompt.answers c (omega (arith, inside, fits)) none
