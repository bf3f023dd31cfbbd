-- The seats of an agent and the hosts that are joined to it.
use Rattle.std.proofs.Common.{◌≡◌, ℕ, Bool, true, false, not, ◌&&◌, ◌||◌, cond, nat_eq, List, [], ◌∷◌, Some, None, map, IsTrue, refl, sym, ap, ◌∙◌}
use Rattle.std.specs.List.{list_any}
use Rattle.std.proofs.lemmas.Bool.{eqb-true, eq-eqb, false≢true}
use Rattle.std.proofs.lemmas.Option.{none-some}
use Rattle.histories.specs.Turns.{is_seated}
use Rattle.histories.specs.Turns.{Seat as Turn}
use Rattle.netlist.specs.Runs.{Cycle, Run}
use Rattle.memory_runs.specs.Views.{System, Shape}
use Rattle.memory_runs.specs.Order.{is_joined}
use Rattle.memory_machines.specs.Link.{Port}
use Rattle.memory_machines.specs.Turns.{seats_of}
use Rattle.command_nets.specs.Nets.{port_in, ShowSame}
use Rattle.mm_arbiter.specs.Machine.{seats_from, AreApart, AreSides}
use Rattle.mm_arbiter.specs.Shown.{ShowAllSame}
use Rattle.memory_awake.specs.Fair.{are_apart}
use Rattle.mm_fabric.specs.declared.parts.Seat.{Seat}
use Rattle.mm_fabric.specs.Parts.{askers_of, commands_above, backs_above}
use Rattle.mm_fabric.specs.Fabrics.{seat_of}

pub not_true : (a : Bool) → (a ≡ true → ⊥) → a ≡ false
not_true true h = absurd (h refl)
not_true false h = refl

-- ---- by the hosts that are joined

turned : (a b : ℕ) → nat_eq a b ≡ nat_eq b a
turned a b = by (nat_eq a b) (nat_eq b a) refl refl
  where
    by : (x y : Bool) → nat_eq a b ≡ x → nat_eq b a ≡ y → nat_eq a b ≡ nat_eq b a
    by true y e f = e ∙ sym (eq-eqb b a (sym (eqb-true a b e)))
    by false true e f = absurd (false≢true (sym e ∙ eq-eqb a b (sym (eqb-true b a f))))
    by false false e f = e ∙ sym f

module _ (system : System) (agent : ℕ) where
  abbrev pub turn_of : ℕ → Turn
  turn_of host = record { host = host; shares = system.shares host agent }

  seated_of : (host : ℕ) (hosts : List ℕ) → is_seated host (map turn_of hosts) ≡ list_any (nat_eq host) hosts
  seated_of host [] = refl
  seated_of host (first ∷ later) =
      ap (λ b. b || is_seated host (map turn_of later)) (turned first host) ∙ ap (λ b. nat_eq host first || b) (seated_of host later)

  pub seated_is_joined : (host : ℕ) → is_seated host (seats_of system agent) ≡ is_joined system agent host
  seated_is_joined host = seated_of host (system.joined agent)

  both_parts : (a b : Bool) → (not a && b) ≡ true → (a ≡ false) × (b ≡ true)
  both_parts true b h = absurd (false≢true h)
  both_parts false b h = (refl, h)

  apart_of : (hosts : List ℕ) → IsTrue (are_apart hosts) → AreApart (map turn_of hosts)
  apart_of [] h = tt
  apart_of (first ∷ later) h =
      let two = both_parts (list_any (nat_eq first) later) (are_apart later) h in
      (seated_of first later ∙ two.0, apart_of later two.1)

  -- no host has two seats where none is joined twice
  pub seats_apart : IsTrue (are_apart (system.joined agent)) → AreApart (seats_of system agent)
  seats_apart h = apart_of (system.joined agent) h

-- ---- by the seats of an agent

pub unseated : (host : ℕ) (seats : List Seat) → is_seated host (seats_from (askers_of seats)) ≡ false → seat_of host seats ≡ None
unseated host [] none = refl
unseated host (seat ∷ later) none = by (nat_eq seat.host host) refl (unseated host later)
  where
    by : (b : Bool) → nat_eq seat.host host ≡ b → (is_seated host (seats_from (askers_of later)) ≡ false → seat_of host later ≡ None) → cond (nat_eq seat.host host) (Some seat) (seat_of host later) ≡ None
    by true own rest = absurd (false≢true (sym none ∙ ap (λ b. b || is_seated host (seats_from (askers_of later))) own))
    by false other rest = ap (λ b. cond b (Some seat) (seat_of host later)) other ∙ rest (sym (ap (λ b. b || is_seated host (seats_from (askers_of later))) other) ∙ none)

-- the seat that is found for a host is one of its own
pub found_seated : (host : ℕ) (seats : List Seat) (seat : Seat) → seat_of host seats ≡ Some seat → is_seated host (seats_from (askers_of seats)) ≡ true
found_seated host seats seat there = by (is_seated host (seats_from (askers_of seats))) refl
  where
    by : (b : Bool) → is_seated host (seats_from (askers_of seats)) ≡ b → is_seated host (seats_from (askers_of seats)) ≡ true
    by true e = e
    by false e = absurd (none-some seat (sym (unseated host seats e) ∙ there))

-- where no host has two seats, each is found by its host: what holds of those that are found holds of the first and of the later ones
abbrev pub HoldsOf : (ℕ → Seat → Type 0) → List Seat → Type 0
HoldsOf P seats = (host : ℕ) (seat : Seat) → seat_of host seats ≡ Some seat → P host seat

first_holds : (P : ℕ → Seat → Type 0) (seat : Seat) (later : List Seat) → HoldsOf P (seat ∷ later) → P seat.host seat
first_holds P seat later holds = holds seat.host seat (ap (λ b. cond b (Some seat) (seat_of seat.host later)) (eq-eqb seat.host seat.host refl))

later_hold : (P : ℕ → Seat → Type 0) (seat : Seat) (later : List Seat) → is_seated seat.host (seats_from (askers_of later)) ≡ false → HoldsOf P (seat ∷ later) → HoldsOf P later
later_hold P seat later apart holds host other there = by (nat_eq seat.host host) refl
  where
    by : (b : Bool) → nat_eq seat.host host ≡ b → P host other
    by true own =
        let same : seat.host ≡ host = eqb-true seat.host host own in
        absurd (none-some other (sym (unseated host later (ap (λ h. is_seated h (seats_from (askers_of later))) (sym same) ∙ apart)) ∙ there))
    by false apart = holds host other (ap (λ b. cond b (Some seat) (seat_of host later)) apart ∙ there)

-- the side of a seat above an arbiter of this shape
abbrev pub seat_side : Shape → Run → Seat → Port
seat_side shape run seat = port_in shape run seat.command seat.back.wait seat.back.answer

module _ (shape : Shape) (run : Run) (up : ℕ → Port) where
  abbrev pub HasSide : ℕ → Seat → Type 0
  HasSide host seat = up host ≡ seat_side shape run seat

  -- the side of each host that has a seat is the side of each seat
  pub sides_are : (seats : List Seat) → AreApart (seats_from (askers_of seats)) → HoldsOf HasSide seats → AreSides shape run (askers_of seats) (commands_above seats) (backs_above seats) up
  sides_are [] apart have = tt
  sides_are (seat ∷ later) apart have = (first_holds HasSide seat later have, sides_are later apart.1 (later_hold HasSide seat later apart.0 have))

-- the commands of all seats show the same where those that are found do
module _ (one other : Cycle) where
  abbrev pub ShowsSame : ℕ → Seat → Type 0
  ShowsSame host seat = ShowSame seat.command one other

  pub seats_same : (seats : List Seat) → AreApart (seats_from (askers_of seats)) → HoldsOf ShowsSame seats → ShowAllSame (commands_above seats) one other
  seats_same [] apart have = tt
  seats_same (seat ∷ later) apart have = (first_holds ShowsSame seat later have, seats_same later apart.1 (later_hold ShowsSame seat later apart.0 have))
