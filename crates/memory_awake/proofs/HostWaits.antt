-- A host that asks at an arbiter, and isn't taken, waits for few beats of others, and each for no longer than what lies below allows.
use Rattle.std.proofs.Common.{◌≡◌, ℕ, zero, suc, ◌+◌, ◌*◌, ◌<◌, ◌≤◌, Bool, true, false, ◌&&◌, List, arith, refl, sym, ap, ◌∙◌, subst, IsTrue, IsFalse, Option, Some, None, MatchOption}
use Rattle.std.proofs.lemmas.Bool.{and_parts}
use Rattle.histories.specs.History.{one_if}
use Rattle.memory_runs.specs.Views.{System}
use Rattle.memory_runs.specs.Commands.{shows}
use Rattle.memory_runs.specs.Order.{is_joined}
use Rattle.memory_machines.specs.Link.{Port, takes, taken_at, marked_at, closes, is_last_joined}
use Rattle.memory_machines.specs.Lines.{TaggedPort}
use Rattle.memory_machines.specs.Turns.{Grant, seats_of, chosen, grant_before, asks_at, ends_at}
use Rattle.histories.specs.Turns.{Seat, AllShare, IsRoundOf, is_seated}
use Rattle.memory_parts.specs.Steps.{IsArbiterPart}
use Rattle.memory_awake.specs.Ways.{count_in}
use Rattle.memory_awake.proofs.Arbiter.{TurnLaws, is_round as round_is, chosen_asks, seated_if_joined, open_as, OpenAs, is_left, quiet_if_open}
use Rattle.memory_awake.proofs.Bits.{no_true, not_shown, takes_shows}
use Rattle.memory_awake.specs.Steps.{HasStepsLeft, WaitsItsTurn, HasPace, beats_of_others, grant_allows}
use Rattle.memory_awake.proofs.HostRing.{more_of}
use Rattle.memory_awake.proofs.HostGrants.{Cycle, Step, is_gap, grant_step, Stands, keeps_standing, few_stand, no_both}

and_false : (a b : Bool) → IsTrue a → IsFalse (a && b) → IsFalse b
and_false true b h f = f
and_false false b h f = absurd (no_true h)

module _ (laws : TurnLaws) (system : System) (agent : ℕ) (up : ℕ → Port) (down : TaggedPort) (end : ℕ) (part : IsArbiterPart system agent up down end) (share : AllShare (seats_of system agent))
    (good : ℕ → Bool) (longest : ℕ → ℕ) (rest : ℕ → ℕ → ℕ) (beats : (o : ℕ) → HasStepsLeft (up o) good (longest o) (rest o) end) (host : ℕ) (joined : IsTrue (is_joined system agent host)) (low : host < system.hosts) where
  abbrev seats : List Seat
  seats = seats_of system agent

  abbrev grant : ℕ → Grant
  grant c = grant_before seats up down.port c

  abbrev all : ℕ
  all = beats_of_others longest host seats

  abbrev asks : ℕ → ℕ → Bool
  asks c = asks_at up c

  is_round : (c : ℕ) → IsRoundOf seats (grant c).round
  is_round c = round_is laws system agent up down end part share c

  seated : (c : ℕ) → IsTrue (is_seated host (grant c).round.ring)
  seated c = (is_round c).ring.seated host (seated_if_joined (λ x. system.shares x agent) (system.joined agent) host joined)

  stands : (c : ℕ) → Stands longest host all (grant c)
  stands zero = record { others = refl; held = tt }
  stands (suc c) = keeps_standing longest host all (grant c) (asks c) (ends_at up down.port c) (is_round c).ring.share (is_round c).left (stands c)

  -- how many beats of others may still be taken as a cycle begins
  pub allows_at : ℕ → ℕ
  allows_at c = grant_allows longest host (λ o. rest o c) (grant c)

  pub allows_few : (c : ℕ) → c ≤ end → allows_at c ≤ all
  unfolding allows_at
  allows_few c fit = few_stand longest host all (grant c) (λ o. rest o c) (λ o. (beats o).few c fit) (seated c) (is_round c).left (stands c)

  module _ (c : ℕ) (fit : c < end) (asking : IsTrue (asks c host)) (still : IsFalse (takes (up host) c)) where
    abbrev tk : Bool
    tk = takes down.port c

    abbrev choice : Option ℕ
    choice = (chosen (grant c) (asks c)).host

    -- whose beat is chosen
    tag_of : (o : ℕ) → choice ≡ Some o → (down.commands.tag c ≡ o) × (o < system.hosts)
    tag_of o e =
        let asked = chosen_asks laws (grant c).open_host (asks c) (grant c).round o e in
        let turn = subst (λ x. MatchOption x (IsFalse (shows down.commands.signals c)) (λ host. IsTrue (shows down.commands.signals c) × (down.commands.tag c ≡ (up host).commands.tag c))) e (part.turns c fit) in
        (turn.1 ∙ part.own_tag o c fit asked, (part.joined o c fit asked).0)

    none_shown : choice ≡ None → IsFalse tk
    none_shown e = not_shown down.port c (subst (λ x. MatchOption x (IsFalse (shows down.commands.signals c)) (λ host. IsTrue (shows down.commands.signals c) × (down.commands.tag c ≡ (up host).commands.tag c))) e (part.turns c fit))

    taken_above : (o : ℕ) → choice ≡ Some o → takes (up o) c ≡ tk
    taken_above o e = let tag = tag_of o e in part.taken o c tag.1 fit tag.0

    -- a beat that is taken above is the chosen one's
    is_chosen : (o : ℕ) → IsTrue (takes (up o) c) → choice ≡ Some o
    is_chosen o t = by_choice choice refl
      where
        o_low : o < system.hosts
        o_low = (part.joined o c fit (takes_shows (up o) c t)).0

        tag : down.commands.tag c ≡ o
        tag = part.tagged o c o_low fit t

        by_choice : (x : Option ℕ) → choice ≡ x → choice ≡ Some o
        by_choice None e = absurd (no_both tk (sym (part.taken o c o_low fit tag) ∙ t) (none_shown e))
        by_choice (Some k) e = let same = sym (tag_of k e).0 ∙ tag in e ∙ ap Some same

    cycle : Cycle longest host tk (good c) (grant c).open_host choice (ends_at up down.port c) (λ o. rest o c) (λ o. rest o (suc c))
    cycle = record {
      some = λ o. (beats o).some c (omega (arith, fit));
      few = λ o. (beats o).few c (omega (arith, fit));
      fewer = λ o e t ends. (beats o).fewer c fit (taken_above o e ∙ t) (and_false tk (closes (marked_at (up o) c)) t ends);
      stays = λ o idle. (beats o).stays c fit (by_take o idle (takes (up o) c) refl);
      taken = λ o ends. (and_parts tk (closes (marked_at (up o) c)) ends).0;
      none = none_shown;
      own = λ e. sym (taken_above host e) ∙ still;
      gaps = λ o opened none fine. (beats o).gaps c fit (left_open o opened none) (quiet o opened none) fine;
    }
      where
        -- where the host whose command is open shows nothing, its command is left open
        quiet : (o : ℕ) → (grant c).open_host ≡ Some o → choice ≡ None → IsFalse (shows (up o).commands.signals c)
        quiet o opened none = quiet_if_open laws system agent up down end part share c (grant c).open_host (grant c).round o opened none

        left_open : (o : ℕ) → (grant c).open_host ≡ Some o → choice ≡ None → IsTrue (is_last_joined (taken_at (up o) c))
        left_open o opened none =
            let is = subst (λ x. OpenAs laws system agent up down end part share x c) opened (open_as laws system agent up down end part share c (omega (arith, fit))) in
            (is_left laws system agent up down end part share o c is.0 fit (quiet o opened none) is.1).joined

        by_take : (o : ℕ) → (choice ≡ Some o → IsFalse tk) → (t : Bool) → takes (up o) c ≡ t → IsFalse t
        by_take o idle true e = let is = is_chosen o e in absurd (no_both tk (sym (taken_above o is) ∙ e) (idle is))
        by_take o idle false e = refl

    pub steps : Step (allows_at (suc c)) (allows_at c) tk (good c && is_gap choice)
    unfolding allows_at
    steps = grant_step longest host tk (good c) (ends_at up down.port c) (λ o. rest o c) (λ o. rest o (suc c)) (grant c) (asks c) asking (seated c) (is_round c).ring.share cycle

  module _ (rank : ℕ → ℕ) (pace from size : ℕ) (fits : from + size ≤ end) (waits : WaitsItsTurn up host from size) (paced : HasPace down.port good rank pace from size) where
    abbrev weight : ℕ → ℕ
    weight c = allows_at c * (pace + 1) + rank c

    step_in : (n : ℕ) → n < size → Step (allows_at (suc (from + n))) (allows_at (from + n)) (takes down.port (from + n)) (good (from + n) && is_gap (chosen (grant (from + n)) (asks (from + n))).host)
    step_in n h = steps (from + n) (omega (arith, h, fits)) (waits.asks (from + n) (omega arith) (omega (arith, h))) (waits.none (from + n) (omega arith) (omega (arith, h)))

    few_taken : (n : ℕ) → n ≤ size → allows_at (from + n) + count_in (takes down.port) from n ≤ allows_at from
    few_taken zero h = let same : from + 0 ≡ from = omega arith in rw same (omega arith)
    few_taken (suc n) h =
        let same : from + suc n ≡ suc (from + n) = omega arith in
        subst (λ x. allows_at x + count_in (takes down.port) from (suc n) ≤ allows_at from) (sym same) (by_take (takes down.port (from + n)) refl (step_in n (omega (arith, h))) (few_taken n (omega (arith, h))))
      where
        by_take : (t : Bool) → takes down.port (from + n) ≡ t → Step (allows_at (suc (from + n))) (allows_at (from + n)) (takes down.port (from + n)) (good (from + n) && is_gap (chosen (grant (from + n)) (asks (from + n))).host) → allows_at (from + n) + count_in (takes down.port) from n ≤ allows_at from →
            allows_at (suc (from + n)) + (count_in (takes down.port) from n + one_if (takes down.port (from + n))) ≤ allows_at from
        by_take true e step more = let one : one_if (takes down.port (from + n)) ≡ 1 = ap one_if e in let less = step.1 e in omega (arith, one, less, more)
        by_take false e step more = let none : one_if (takes down.port (from + n)) ≡ 0 = ap one_if e in let less = step.0 in omega (arith, none, less, more)

    few_good : (n : ℕ) → n ≤ size → weight (from + n) + count_in good from n ≤ weight from
    few_good zero h = let same : from + 0 ≡ from = omega arith in rw same (omega arith)
    few_good (suc n) h =
        let same : from + suc n ≡ suc (from + n) = omega arith in
        subst (λ x. weight x + count_in good from (suc n) ≤ weight from) (sym same) (by_take (takes down.port (from + n)) refl (good (from + n)) refl (chosen (grant (from + n)) (asks (from + n))).host refl (step_in n (omega (arith, h))) (few_good n (omega (arith, h))))
      where
        here : from + n < from + size
        here = omega (arith, h)

        shown_so : (o : ℕ) → (chosen (grant (from + n)) (asks (from + n))).host ≡ Some o → IsTrue (shows down.commands.signals (from + n))
        shown_so o e = (subst (λ x. MatchOption x (IsFalse (shows down.commands.signals (from + n))) (λ host. IsTrue (shows down.commands.signals (from + n)) × (down.commands.tag (from + n) ≡ (up host).commands.tag (from + n)))) e (part.turns (from + n) (omega (arith, h, fits)))).0

        by_take : (t : Bool) → takes down.port (from + n) ≡ t → (g : Bool) → good (from + n) ≡ g → (choice : Option ℕ) → (chosen (grant (from + n)) (asks (from + n))).host ≡ choice →
            Step (allows_at (suc (from + n))) (allows_at (from + n)) (takes down.port (from + n)) (good (from + n) && is_gap (chosen (grant (from + n)) (asks (from + n))).host) → weight (from + n) + count_in good from n ≤ weight from →
            weight (suc (from + n)) + (count_in good from n + one_if (good (from + n))) ≤ weight from
        by_take true e g eg choice ec step more =
            let one : one_if (good (from + n)) ≤ 1 = one_most (good (from + n)) in
            let less = more_of (allows_at (suc (from + n)) + 1) (allows_at (from + n)) (pace + 1) (step.1 e) in
            let bound = paced.bounded (from + n) (omega arith) here in
            omega (arith, one, less, bound, more)
          where
            one_most : (b : Bool) → one_if b ≤ 1
            one_most true = omega arith
            one_most false = omega arith
        by_take false e true eg None ec step more =
            let one : one_if (good (from + n)) ≡ 1 = ap one_if eg in
            let gap : IsTrue (good (from + n) && is_gap (chosen (grant (from + n)) (asks (from + n))).host) = rw (eg, ec) refl in
            let less = more_of (allows_at (suc (from + n)) + 1) (allows_at (from + n)) (pace + 1) (step.2 gap) in
            let bound = paced.bounded (from + n) (omega arith) here in
            omega (arith, one, less, bound, more)
        by_take false e true eg (Some o) ec step more =
            let one : one_if (good (from + n)) ≡ 1 = ap one_if eg in
            let less = more_of (allows_at (suc (from + n))) (allows_at (from + n)) (pace + 1) step.0 in
            let falls = paced.falls (from + n) (omega arith) here (shown_so o ec) e eg in
            omega (arith, one, less, falls, more)
        by_take false e false eg choice ec step more =
            let none : one_if (good (from + n)) ≡ 0 = ap one_if eg in
            let less = more_of (allows_at (suc (from + n))) (allows_at (from + n)) (pace + 1) step.0 in
            let stays = paced.stays (from + n) (omega arith) here e in
            omega (arith, none, less, stays, more)

    pub few_beats : count_in (takes down.port) from size ≤ all
    few_beats = let taken = few_taken size (omega arith) in let few = allows_few from (omega (arith, fits)) in omega (arith, taken, few)

    pub few_cycles : count_in good from size ≤ all * (pace + 1) + rank from
    few_cycles =
        let good_few = few_good size (omega arith) in
        let few = more_of (allows_at from) all (pace + 1) (allows_few from (omega (arith, fits))) in
        omega (arith, good_few, few)
