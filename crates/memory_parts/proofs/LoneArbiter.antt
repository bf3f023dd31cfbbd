-- A wire from the only host is an arbiter's machine: that host is chosen in each cycle in which it asks.
use Rattle.std.proofs.Common.{◌≡◌, ◌⊎◌, inl, inr, ℕ, zero, suc, ◌<◌, Bool, true, false, not, ◌&&◌, ◌||◌, List, [], ◌∷◌, IsTrue, IsFalse, if◌then◌else◌, nat_eq, nat_lt, refl, sym, ap, ◌∙◌, subst, Option, Some, None, MatchOption}
use Rattle.std.proofs.lemmas.Bool.{eqb-true, eq-eqb, false≢true}
use Rattle.histories.specs.History.{is_raised}
use Rattle.histories.specs.Turns.{Seat, Round, turn_of}
use Rattle.memory_runs.specs.Commands.{shows}
use Rattle.memory_runs.specs.Order.{is_agent}
use Rattle.memory_machines.specs.Link.{Port}
use Rattle.memory_machines.specs.Lines.{TaggedPort}
use Rattle.memory_machines.specs.Machines.{raw_at}
use Rattle.memory_machines.specs.Turns.{Grant, Choice, chosen, choice_of, choice_by, grant_after, grant_before, open_after, asks_at, ends_at}
use Rattle.memory_parts.specs.Arbiter.{IsArbiterMachine, chooses}
use Rattle.memory_parts.specs.Lone.{IsLoneWire}

module _ (seat : Seat) where
  -- no command is open, or one of the host, which is the only one in the ring
  record IsLone (grant : Grant) : Type 0 where
    holder : (grant.open_host ≡ None) ⊎ (grant.open_host ≡ Some seat.host)
    ring : grant.round.ring ≡ seat ∷ []

  if_asks : Bool → Option ℕ
  if_asks asks = if asks then Some seat.host else None

  -- who is chosen, and what the ring is then
  record IsChosen (choice : Choice) (asks : Bool) : Type 0 where
    host : choice.host ≡ (if asks then Some seat.host else None)
    ring : choice.round.ring ≡ seat ∷ []

  of_turn : (asks : ℕ → Bool) (left : ℕ) → IsChosen (choice_by (turn_of asks (record { left = left; ring = seat ∷ [] }))) (asks seat.host)
  of_turn asks left = by_asking (asks seat.host) refl (nat_lt 0 left) refl
    where
      by_asking : (a : Bool) → asks seat.host ≡ a → (b : Bool) → nat_lt 0 left ≡ b → IsChosen (choice_by (turn_of asks (record { left = left; ring = seat ∷ [] }))) (asks seat.host)
      by_asking true is true some = rw (is, some) (record { host = refl; ring = refl })
      by_asking true is false some = rw (is, some) (record { host = refl; ring = refl })
      by_asking false is b some = rw is (record { host = refl; ring = refl })

  of_round : (asks : ℕ → Bool) (round : Round) → round.ring ≡ seat ∷ [] → IsChosen (choice_by (turn_of asks round)) (asks seat.host)
  of_round asks round is = subst (λ (ring : List Seat). IsChosen (choice_by (turn_of asks (record { left = round.left; ring = ring }))) (asks seat.host)) (sym is) (of_turn asks round.left)

  is_chosen : (grant : Grant) (asks : ℕ → Bool) → IsLone grant → IsChosen (chosen grant asks) (asks seat.host)
  is_chosen grant asks lone = elim lone.holder [
    | inl none ↦ subst (λ (o : Option ℕ). IsChosen (choice_of o asks grant.round) (asks seat.host)) (sym none) (of_round asks grant.round lone.ring)
    | inr some ↦ subst (λ (o : Option ℕ). IsChosen (choice_of o asks grant.round) (asks seat.host)) (sym some) (record { host = refl; ring = lone.ring })
  ]

  stays_open : (o : Option ℕ) (ends : ℕ → Bool) (asks : Bool) → (o ≡ None) ⊎ (o ≡ Some seat.host) → (open_after o (if asks then Some seat.host else None) ends ≡ None) ⊎ (open_after o (if asks then Some seat.host else None) ends ≡ Some seat.host)
  stays_open o ends false holder = holder
  stays_open o ends true holder = by_end (ends seat.host)
    where
      by_end : (b : Bool) → ((if b then None else Some seat.host) ≡ None) ⊎ ((if b then None else Some seat.host) ≡ Some seat.host)
      by_end true = inl refl
      by_end false = inr refl

  stays_lone : (grant : Grant) (asks ends : ℕ → Bool) → IsLone grant → IsLone (grant_after grant (chosen grant asks) ends)
  stays_lone grant asks ends lone =
      let now = is_chosen grant asks lone in
      record {
        holder = subst (λ (o : Option ℕ). (open_after grant.open_host o ends ≡ None) ⊎ (open_after grant.open_host o ends ≡ Some seat.host)) (sym now.host) (stays_open grant.open_host ends (asks seat.host) lone.holder);
        ring = now.ring;
      }

  module _ (hosts : ℕ) (up : ℕ → Port) (down : TaggedPort) (end : ℕ) (wire : IsLoneWire seat.host hosts up down end) where
    grant : ℕ → Grant
    grant c = grant_before (seat ∷ []) up down.port c

    lone : (c : ℕ) → IsLone (grant c)
    unfolding grant
    lone zero = record { holder = inl refl; ring = refl }
    lone (suc c) = stays_lone (grant_before (seat ∷ []) up down.port c) (asks_at up c) (ends_at up down.port c) (lone c)

    choice_is : (c : ℕ) → (chosen (grant c) (asks_at up c)).host ≡ (if shows down.commands.signals c then Some seat.host else None)
    choice_is c = (is_chosen (grant c) (asks_at up c) (lone c)).host ∙ ap (λ (port : Port). if shows port.commands.signals c then Some seat.host else None) wire.one

    shown : (c : ℕ) → MatchOption (chosen (grant c) (asks_at up c)).host (IsFalse (shows down.commands.signals c)) (λ host. raw_at down.port c ≡ raw_at (up host) c)
    shown c = subst (λ (o : Option ℕ). MatchOption o (IsFalse (shows down.commands.signals c)) (λ host. raw_at down.port c ≡ raw_at (up host) c)) (sym (choice_is c)) (by_shown (shows down.commands.signals c) refl)
      where
        by_shown : (b : Bool) → shows down.commands.signals c ≡ b → MatchOption (if b then Some seat.host else None) (IsFalse (shows down.commands.signals c)) (λ host. raw_at down.port c ≡ raw_at (up host) c)
        by_shown true is = ap (λ (port : Port). raw_at port c) (sym wire.one)
        by_shown false is = is

    -- the host, or another one
    by_host : (h : ℕ) {P : Type 0} → (h ≡ seat.host → P) → (IsFalse (nat_eq h seat.host) → P) → P
    by_host h {P} same other = by_test (nat_eq h seat.host) refl
      where
        by_test : (b : Bool) → nat_eq h seat.host ≡ b → P
        by_test true e = same (eqb-true h seat.host e)
        by_test false e = other e

    waits : (h c : ℕ) → c < end → IsTrue (shows (up h).commands.signals c) → is_raised ((up h).commands.waitrequest c) ≡ not (chooses grant up c h) || is_raised (down.commands.waitrequest c)
    waits h c low asks = by_host h
        (λ same.
        let here : shows down.commands.signals c ≡ true = ap (λ (port : Port). shows port.commands.signals c) (sym wire.one) ∙ ap (λ (k : ℕ). shows (up k).commands.signals c) (sym same) ∙ asks in
        let it : chooses grant up c h ≡ true = ap (is_agent h) (choice_is c) ∙ ap (λ b. is_agent h (if b then Some seat.host else None)) here ∙ eq-eqb h seat.host same in
        ap (λ (k : ℕ). is_raised ((up k).commands.waitrequest c)) same ∙ ap (λ (port : Port). is_raised (port.commands.waitrequest c)) wire.one ∙ sym (ap (λ b. not b || is_raised (down.commands.waitrequest c)) it))
        (λ other. absurd (false≢true (sym (wire.silent h c other low) ∙ asks)))

    gives : (h c : ℕ) → h < hosts → c < end → is_raised ((up h).answers.valid c) ≡ is_raised (down.answers.valid c) && nat_eq (down.answer_tag c) h
    gives h c there low = by_host h
        (λ same. ap (λ (k : ℕ). is_raised ((up k).answers.valid c)) same ∙ ap (λ (port : Port). is_raised (port.answers.valid c)) wire.one ∙ own (is_raised (down.answers.valid c)) refl same)
        (λ other. wire.quiet h c there other low ∙ sym (others (is_raised (down.answers.valid c)) refl other))
      where
        own : (b : Bool) → is_raised (down.answers.valid c) ≡ b → h ≡ seat.host → b ≡ b && nat_eq (down.answer_tag c) h
        own true valid same = sym (eq-eqb (down.answer_tag c) h (wire.tag c low valid ∙ sym same))
        own false valid same = refl

        turned : (n m : ℕ) → nat_eq n m ≡ false → nat_eq m n ≡ false
        turned n m e = by_test (nat_eq m n) refl
          where
            by_test : (b : Bool) → nat_eq m n ≡ b → nat_eq m n ≡ false
            by_test false f = f
            by_test true f = absurd (false≢true (sym e ∙ eq-eqb n m (sym (eqb-true m n f))))

        others : (b : Bool) → is_raised (down.answers.valid c) ≡ b → IsFalse (nat_eq h seat.host) → b && nat_eq (down.answer_tag c) h ≡ false
        others true valid other = ap (λ k. nat_eq k h) (wire.tag c low valid) ∙ turned h seat.host other
        others false valid other = refl

    -- where a word comes to a host, its port is the one below
    given : (h c : ℕ) → h < hosts → c < end → IsTrue (is_raised ((up h).answers.valid c)) → up h ≡ down.port
    given h c there low valid = by_host h
        (λ same. ap up same ∙ wire.one)
        (λ other. absurd (false≢true (sym (wire.quiet h c there other low) ∙ valid)))

    pub lone_arbiter : (grant : ℕ → Grant) × IsArbiterMachine (seat ∷ []) hosts up down grant end
    unfolding grant
    lone_arbiter = (
      grant,
      record {
        shapes = wire.shapes;
        begins = refl;
        next = λ c low. refl;
        shown = λ c low. shown c;
        wait = λ h c there low asks. waits h c low asks;
        valid = gives;
        word = λ h c there low valid. ap (λ (port : Port). port.answers.word c) (given h c there low valid);
        code = λ h c there low valid. ap (λ (port : Port). port.answers.code c) (given h c there low valid);
      },
    )
