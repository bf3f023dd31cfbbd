-- An arbiter that keeps the turn rule and is wired through always moves, or is excused.
use Rattle.std.proofs.Common.{ℕ, zero, suc, ◌<◌, ◌≤◌, ◌≡◌, ◌-◌, Bool, true, false, not, ◌||◌, ◌&&◌, List, [], ◌∷◌, ◌++◌, map, arith, refl, sym, ap, subst, ◌∙◌, nat_lt, nat_eq, IsTrue, IsFalse, tests, inl, inr, ◌⊎◌, Option, Some, None, MatchOption, if◌then◌else◌}
use Rattle.std.proofs.lemmas.Bool.{or_left, or_right}
use Rattle.std.specs.List.{list_any}
use Rattle.memory_runs.specs.Views.{System}
use Rattle.memory_runs.specs.Commands.{shows, is_held, is_of_reads}
use Rattle.memory_machines.specs.Link.{Port, Marked, takes, taken_at, marked_at, closes, is_last_joined}
use Rattle.memory_machines.specs.Lines.{TaggedPort}
use Rattle.memory_machines.specs.Rank.{is_unclosed, is_last_write}
use Rattle.memory_machines.specs.Turns.{seats_of, chosen, choice_by, choice_of, grant_before, asks_at, ends_at, open_after, Grant}
use Rattle.histories.specs.Turns.{Seat, Round, Turn, turn_of, next_asking, IsOfAsker, AllShare, IsRoundOf, round_after, is_seated, last_host}
use Rattle.histories.specs.Turns.Turn.{Nobody, Begins}
use Rattle.memory_parts.specs.Steps.{IsArbiterPart}
use Rattle.memory_awake.proofs.Bits.{last_joined_end, last_write_end, none_taken, one_taken, not_shown, shown_again, holds, no_true}

pub record TurnLaws : Type 0 where
  pub seats : (seats : List Seat) (round : Round) (asks : ℕ → Bool) → IsRoundOf seats round → IsRoundOf seats (round_after (turn_of asks round))
  pub asked : (round : Round) (asks : ℕ → Bool) → IsOfAsker asks (turn_of asks round)

choice_round : (turn : Turn) → (choice_by turn).round ≡ round_after turn
choice_round (Nobody round) = refl
choice_round (Begins host round) = refl

-- a host that is chosen asks
pub chosen_asks : TurnLaws → (open_host : Option ℕ) (asks : ℕ → Bool) (round : Round) (k : ℕ) → (choice_of open_host asks round).host ≡ Some k → IsTrue (asks k)
chosen_asks laws None asks round k e = by_turn (turn_of asks round) (laws.asked round asks) e
  where
    by_turn : (turn : Turn) → IsOfAsker asks turn → (choice_by turn).host ≡ Some k → IsTrue (asks k)
    by_turn (Nobody after) of e = absurd cc
    by_turn (Begins h after) of e = let same : h ≡ k = cc in subst (λ x. IsTrue (asks x)) same of
chosen_asks laws (Some h) asks round k e = by_test (asks h) refl e
  where
    by_test : (b : Bool) → asks h ≡ b → (if b then Some h else None) ≡ Some k → IsTrue (asks k)
    by_test true f e = let same : h ≡ k = cc in subst (λ x. IsTrue (asks x)) same f
    by_test false f e = absurd cc

-- where a command is open, its host alone is chosen
chosen_open : (k : ℕ) (asks : ℕ → Bool) (round : Round) → (choice_of (Some k) asks round).host ≡ None → IsFalse (asks k)
chosen_open k asks round e = by_test (asks k) e
  where
    by_test : (b : Bool) → (if b then Some k else None) ≡ None → IsFalse b
    by_test true e = absurd cc
    by_test false e = refl

-- where nobody begins, nobody who is seated asks
none_in_row : (asks : ℕ → Bool) (skipped seats : List Seat) (h : ℕ) → (choice_by (next_asking asks skipped seats)).host ≡ None → IsTrue (is_seated h seats) → IsFalse (asks h)
none_in_row asks skipped [] h e seated = absurd cc
none_in_row asks skipped (seat ∷ later) h e seated = by_test (asks seat.host) refl e (none_in_row asks (skipped ++ seat ∷ []) later h)
  where
    by_seat : (b : Bool) → nat_eq seat.host h ≡ b → IsTrue (b || is_seated h later) → IsFalse (asks seat.host) → (IsTrue (is_seated h later) → IsFalse (asks h)) → IsFalse (asks h)
    by_seat true f s none more = let same : seat.host ≡ h = grind (arith, tests, f) in subst (λ x. IsFalse (asks x)) same none
    by_seat false f s none more = more s

    by_test : (b : Bool) → asks seat.host ≡ b →
        (choice_by (if b then Begins seat.host (record { left = seat.shares - 1; ring = later ++ skipped ++ seat ∷ [] }) else next_asking asks (skipped ++ seat ∷ []) later)).host ≡ None →
        ((choice_by (next_asking asks (skipped ++ seat ∷ []) later)).host ≡ None → IsTrue (is_seated h later) → IsFalse (asks h)) → IsFalse (asks h)
    by_test true f e more = absurd cc
    by_test false f e more = by_seat (nat_eq seat.host h) refl seated f (more e)

none_begins : (asks : ℕ → Bool) (round : Round) (h : ℕ) → (choice_by (turn_of asks round)).host ≡ None → IsTrue (is_seated h round.ring) → IsFalse (asks h)
none_begins asks round h e seated = by_test (asks (last_host round.ring) && nat_lt 0 round.left) e
  where
    by_test : (b : Bool) → (choice_by (if b then Begins (last_host round.ring) (record { left = round.left - 1; ring = round.ring }) else next_asking asks [] round.ring)).host ≡ None → IsFalse (asks h)
    by_test true e = absurd cc
    by_test false e = none_in_row asks [] round.ring h e seated

pub seated_if_joined : (shares : ℕ → ℕ) (order : List ℕ) (h : ℕ) → IsTrue (list_any (nat_eq h) order) → IsTrue (is_seated h (map (λ host. record { host = host; shares = shares host }) order))
seated_if_joined shares [] h any = absurd cc
seated_if_joined shares (x ∷ order) h any = by_same (nat_eq h x) refl any (seated_if_joined shares order h)
  where
    by_same : (b : Bool) → nat_eq h x ≡ b → IsTrue (b || list_any (nat_eq h) order) →
        (IsTrue (list_any (nat_eq h) order) → IsTrue (is_seated h (map (λ host. record { host = host; shares = shares host }) order))) →
        IsTrue (nat_eq x h || is_seated h (map (λ host. record { host = host; shares = shares host }) order))
    by_same true e any more = or_left (nat_eq x h) _ (grind (arith, tests, e))
    by_same false e any more = or_right (nat_eq x h) _ (more any)

abbrev pub stood : Port → ℕ → Bool
stood port zero = false
stood port (suc c) = is_held port.commands.signals (takes port) c

module _ (laws : TurnLaws) (system : System) (agent : ℕ) (up : ℕ → Port) (down : TaggedPort) (end : ℕ) (part : IsArbiterPart system agent up down end) (share : AllShare (seats_of system agent)) where
  abbrev pub seats : List Seat
  seats = seats_of system agent

  abbrev pub grant : ℕ → Grant
  grant c = grant_before seats up down.port c

  next_round : (round : Round) (asks : ℕ → Bool) (open_host : Option ℕ) → IsRoundOf seats round → IsRoundOf seats (choice_of open_host asks round).round
  next_round round asks None is = subst (IsRoundOf seats) (sym (choice_round (turn_of asks round))) (laws.seats seats round asks is)
  next_round round asks (Some k) is = is

  pub is_round : (c : ℕ) → IsRoundOf seats (grant c).round
  is_round zero = record { ring = record { seated = λ host h. h; others = λ host. refl; share = share }; left = omega arith }
  is_round (suc c) = next_round (grant c).round (asks_at up c) (grant c).open_host (is_round c)

  -- what is left open below is left open by its host
  pub record Left (k c : ℕ) : Type 0 where
    pub joined : IsTrue (is_last_joined (taken_at (up k) c))
    pub writes : is_last_write (taken_at (up k) c) ≡ is_last_write (taken_at down.port c)

  abbrev pub OpenAs : Option ℕ → ℕ → Type 0
  OpenAs None c = IsFalse (is_last_joined (taken_at down.port c))
  OpenAs (Some k) c = (k < system.hosts) × (Left k c ⊎ IsTrue (stood (up k) c))

  -- where the host whose command is open shows nothing, its command is left open
  pub is_left : (k c : ℕ) → k < system.hosts → c < end → IsFalse (shows (up k).commands.signals c) → Left k c ⊎ IsTrue (stood (up k) c) → Left k c
  is_left k c low h none (inl left) = left
  is_left k zero low h none (inr stands) = absurd (no_true stands)
  is_left k (suc c) low h none (inr stands) = let again = shown_again (up k) c end (part.legal k low) h stands in absurd cc

  left_on : (k c : ℕ) → IsFalse (takes (up k) c) → IsFalse (takes down.port c) → Left k c → Left k (suc c)
  left_on k c above below left = record {
    joined = subst (λ l. IsTrue (is_last_joined l)) (sym (none_taken (up k) c above)) left.joined;
    writes = ap is_last_write (none_taken (up k) c above) ∙ left.writes ∙ sym (ap is_last_write (none_taken down.port c below));
  }

  not_closed : (ends more : Bool) → IsTrue (ends || more) → IsFalse (ends && not more) → IsTrue more
  not_closed ends more a b = grind (arith, tests)

  is_closed : (ends more : Bool) → IsTrue (ends && not more) → IsFalse more
  is_closed ends more a = grind (arith, tests)

  open_step : (c : ℕ) → c < end → (open_host : Option ℕ) (choice : Option ℕ) → OpenAs open_host c →
      ((k : ℕ) → choice ≡ Some k → IsTrue (asks_at up c k)) → ((k : ℕ) → open_host ≡ Some k → choice ≡ None → IsFalse (asks_at up c k)) →
      MatchOption choice (IsFalse (shows down.commands.signals c)) (λ host. IsTrue (shows down.commands.signals c) × (down.commands.tag c ≡ (up host).commands.tag c)) →
      OpenAs (open_after open_host choice (ends_at up down.port c)) (suc c)
  open_step c h None None is asks quiet shown = subst (λ l. IsFalse (is_last_joined l)) (sym (none_taken down.port c (not_shown down.port c shown))) is
  open_step c h (Some k) None is asks quiet shown =
      let none = quiet k refl refl in
      (is.0, inl (left_on k c (not_shown (up k) c none) (not_shown down.port c shown) (is_left k c is.0 h none is.1)))
  open_step c h open_host (Some k) is asks quiet shown = by_take (takes down.port c) refl (closes (marked_at (up k) c)) refl
    where
      asked : IsTrue (shows (up k).commands.signals c)
      asked = asks k refl

      low : k < system.hosts
      low = (part.joined k c h asked).0

      tag : down.commands.tag c ≡ k
      tag = shown.1 ∙ part.own_tag k c h asked

      by_take : (t : Bool) → takes down.port c ≡ t → (e : Bool) → closes (marked_at (up k) c) ≡ e → OpenAs (if t && e then None else Some k) (suc c)
      by_take false et e ee = (low, inr (holds (shows (up k).commands.signals c) (takes (up k) c) asked (part.taken k c low h tag ∙ et)))
      by_take true et true ee =
          subst (λ l. IsFalse (is_last_joined l)) (sym (one_taken down.port c et))
          (last_joined_end (taken_at down.port c) (marked_at down.port c) ∙ sym (ap (λ (m : Marked). m.more) (part.same k c low h tag et)) ∙ is_closed (marked_at (up k) c).transfer.ends (marked_at (up k) c).more ee)
      by_take true et false ee =
          let above = part.taken k c low h tag ∙ et in
          let more = not_closed (marked_at (up k) c).transfer.ends (marked_at (up k) c).more ((part.legal k low).joined c h asked) ee in (
            low,
            inl (record {
              joined = ap is_last_joined (one_taken (up k) c above) ∙ last_joined_end (taken_at (up k) c) (marked_at (up k) c) ∙ more;
              writes = ap is_last_write (one_taken (up k) c above) ∙ last_write_end (taken_at (up k) c) (marked_at (up k) c)
                  ∙ ap (λ (m : Marked). not (is_of_reads m.transfer.kind)) (part.same k c low h tag et)
                  ∙ sym (ap is_last_write (one_taken down.port c et) ∙ last_write_end (taken_at down.port c) (marked_at down.port c));
            }),
          )

  pub quiet_if_open : (c : ℕ) (open_host : Option ℕ) (round : Round) (k : ℕ) → open_host ≡ Some k → (choice_of open_host (asks_at up c) round).host ≡ None → IsFalse (asks_at up c k)
  quiet_if_open c None round k e f = absurd cc
  quiet_if_open c (Some x) round k e f = let same : x ≡ k = cc in subst (λ y. IsFalse (asks_at up c y)) same (chosen_open x (asks_at up c) round f)

  pub open_as : (c : ℕ) → c ≤ end → OpenAs (grant c).open_host c
  open_as zero h = refl
  open_as (suc c) h =
      open_step c (omega (arith, h)) (grant c).open_host (chosen (grant c) (asks_at up c)).host (open_as c (omega (arith, h)))
      (λ k e. chosen_asks laws (grant c).open_host (asks_at up c) (grant c).round k e)
      (λ k e f. quiet_if_open c (grant c).open_host (grant c).round k e f)
      (part.turns c (omega (arith, h)))

  -- what the arbiter may do in a cycle in which it takes nothing: a beat stands below; or the host whose command is left open shows nothing; or nobody asks and nothing is open
  pub data Idles (c : ℕ) : Type 0 where
    beat_stands : IsTrue (shows down.commands.signals c) → Idles c
    rests : (k : ℕ) → k < system.hosts → IsFalse (shows (up k).commands.signals c) → IsTrue (is_unclosed (up k) c) → is_last_write (taken_at (up k) (suc c)) ≡ is_last_write (taken_at down.port (suc c)) → Idles c
    nothing : ((h : ℕ) → IsFalse (shows (up h).commands.signals c)) → IsFalse (is_unclosed down.port c) → Idles c

  pub idles : (c : ℕ) → c < end → IsFalse (takes down.port c) → Idles c
  idles c h still = by_choice (chosen (grant c) (asks_at up c)).host refl (part.turns c h)
    where
      nobody : (h' : ℕ) → IsFalse (asks_at up c h') ⊎ IsTrue (asks_at up c h')
      nobody h' = by_test (asks_at up c h')
        where
          by_test : (b : Bool) → IsFalse b ⊎ IsTrue b
          by_test true = inr refl
          by_test false = inl refl

      by_open : (open_host : Option ℕ) → (grant c).open_host ≡ open_host → (choice_of open_host (asks_at up c) (grant c).round).host ≡ None → IsFalse (shows down.commands.signals c) → OpenAs open_host c → Idles c
      by_open None e none shown is = nothing
          (λ h'. elim (nobody h') [ inl quiet ↦ quiet | inr yes' ↦ none_begins (asks_at up c) (grant c).round h' none ((is_round c).ring.seated h' (seated_if_joined (λ x. system.shares x agent) (system.joined agent) h' (part.joined h' c h yes').1)) ])
          (subst (λ l. IsFalse (is_last_joined l)) (sym (none_taken down.port c still)) is)
      by_open (Some k) e none shown is =
          let quiet = chosen_open k (asks_at up c) (grant c).round none in
          let left = left_on k c (not_shown (up k) c quiet) still (is_left k c is.0 h quiet is.1) in
          rests k is.0 quiet left.joined left.writes

      by_choice : (choice : Option ℕ) → (chosen (grant c) (asks_at up c)).host ≡ choice →
          MatchOption choice (IsFalse (shows down.commands.signals c)) (λ host. IsTrue (shows down.commands.signals c) × (down.commands.tag c ≡ (up host).commands.tag c)) → Idles c
      by_choice (Some k) e shown = beat_stands shown.0
      by_choice None e shown = by_open (grant c).open_host refl e shown (open_as c (omega (arith, h)))
