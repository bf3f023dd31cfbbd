-- The arbiter machine passes the chosen host's beats, told by the two sides alone.
use Rattle.std.proofs.Common.{ℕ, ◌<◌, ◌≤◌, ◌≡◌, Bool, true, false, not, ◌&&◌, IsTrue, IsFalse, nat_eq, nat_lt, arith, tests, refl, sym, ap, ◌∙◌, Option, Some, None}
use Rattle.std.proofs.lemmas.Bool.{and_parts, both_ways, eqb-true}
use Rattle.memory_runs.specs.Views.{System}
use Rattle.memory_runs.specs.Commands.{shows}
use Rattle.memory_runs.specs.Order.{is_joined, is_agent}
use Rattle.memory_machines.specs.Link.{Port, takes, marked_at}
use Rattle.memory_machines.specs.Lines.{TaggedPort, AreFitToAsk, AreTaggedInOrder}
use Rattle.memory_machines.specs.Machines.{Raw}
use Rattle.memory_machines.specs.Turns.{Grant, seats_of, TakesTurnsByRule}
use Rattle.memory_parts.specs.Arbiter.{IsArbiterMachine}
use Rattle.memory_parts.specs.Steps.{IsArbiterPart}
use Rattle.memory_parts.proofs.ArbiterTurns.{choice, of_choice, same_raw, none_shown, takes_up, same_marked}

module _ (system : System) (agent : ℕ) (up : ℕ → Port) (down : TaggedPort) (grant : ℕ → Grant) (end : ℕ) (m : IsArbiterMachine (seats_of system agent) system.hosts up down grant end)
    (joined : (h : ℕ) → IsTrue (is_joined system agent h) → h < system.hosts) (fit : AreFitToAsk system agent up end) (silent : (h c : ℕ) → system.hosts ≤ h → c < end → IsFalse (shows (up h).commands.signals c)) where
  abbrev whom : ℕ → Option ℕ
  whom c = choice system agent up down grant end m joined fit c

  -- the tag below is the chosen host
  tag_is : (c k : ℕ) → c < end → whom c ≡ Some k → down.commands.tag c ≡ k
  tag_is c k low is =
      let asks = of_choice system agent up down grant end m joined fit c k low is in
      ap (λ (r : Raw). r.tag) (same_raw system agent up down grant end m joined fit c k low is) ∙ (fit k asks.0).tag c low asks.1

  same_number : (h k : ℕ) → nat_eq h k ≡ true → h ≡ k
  same_number h k e = eqb-true h k e

  one_number : (k : ℕ) → nat_eq k k ≡ true
  one_number k = grind (arith, tests)

  tagged : (h c : ℕ) → h < system.hosts → c < end → IsTrue (takes (up h) c) → down.commands.tag c ≡ h
  tagged h c there low taken = by_choice (whom c) refl (and_parts (takes down.port c) (is_agent h (whom c)) (sym (takes_up system agent up down grant end m joined fit h c there low) ∙ taken)).1
    where
      by_choice : (o : Option ℕ) → whom c ≡ o → is_agent h (whom c) ≡ true → down.commands.tag c ≡ h
      by_choice None is here = let bad : false ≡ true = sym (ap (is_agent h) is) ∙ here in absurd cc
      by_choice (Some k) is here = tag_is c k low is ∙ sym (same_number h k (sym (ap (is_agent h) is) ∙ here))

  quiet : (c : ℕ) → c < end → whom c ≡ None → takes down.port c ≡ false
  quiet c low is = ap (λ s. s && not (is_low c)) (none_shown system agent up down grant end m joined fit c low is)
    where
      is_low : ℕ → Bool
      is_low c = nat_lt 0 (down.commands.waitrequest c)

  taken : (h c : ℕ) → h < system.hosts → c < end → down.commands.tag c ≡ h → takes (up h) c ≡ takes down.port c
  taken h c there low tag = by_choice (whom c) refl
    where
      whole : (b : Bool) → (b && true) ≡ b
      whole true = refl
      whole false = refl

      by_choice : (o : Option ℕ) → whom c ≡ o → takes (up h) c ≡ takes down.port c
      by_choice None is =
          let none = quiet c low is in
          takes_up system agent up down grant end m joined fit h c there low ∙ ap (λ t. t && is_agent h (whom c)) none ∙ sym none
      by_choice (Some k) is =
          let same : k ≡ h = sym (tag_is c k low is) ∙ tag in
          let it : is_agent h (whom c) ≡ true = ap (is_agent h) (is ∙ ap Some same) ∙ one_number h in
          takes_up system agent up down grant end m joined fit h c there low ∙ ap (λ b. takes down.port c && b) it ∙ whole (takes down.port c)

  same : (h c : ℕ) → h < system.hosts → c < end → down.commands.tag c ≡ h → IsTrue (takes down.port c) → marked_at (up h) c ≡ marked_at down.port c
  same h c there low tag took = by_choice (whom c) refl
    where
      by_choice : (o : Option ℕ) → whom c ≡ o → marked_at (up h) c ≡ marked_at down.port c
      by_choice None is = absurd (both_ways (takes down.port c) (quiet c low is) took)
      by_choice (Some k) is =
          let here : whom c ≡ Some h = is ∙ ap Some (sym (tag_is c k low is) ∙ tag) in
          sym (same_marked system agent up down grant end m joined fit c h low here)

  low_or_not : (h : ℕ) → (b : Bool) → nat_lt h system.hosts ≡ b → (c : ℕ) → c < end → IsTrue (shows (up h).commands.signals c) → h < system.hosts
  low_or_not h true e c low shown = grind (arith, e)
  low_or_not h false e c low shown = let high : system.hosts ≤ h = grind (arith, e) in absurd (both_ways (shows (up h).commands.signals c) (silent h c high low) shown)

  pub arbiter_part : TakesTurnsByRule (seats_of system agent) up down.port end → AreTaggedInOrder down end → IsArbiterPart system agent up down end
  arbiter_part turns in_order = record {
    legal = λ h there. (fit h there).legal;
    joined = λ h c low shown. let there = low_or_not h (nat_lt h system.hosts) refl c low shown in (there, (fit h there).joined c low shown);
    own_tag = λ h c low shown. (fit h (low_or_not h (nat_lt h system.hosts) refl c low shown)).tag c low shown;
    turns = turns;
    tagged = tagged;
    taken = taken;
    same = same;
    words = m.valid;
    in_order = in_order;
  }
