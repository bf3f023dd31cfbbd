-- Who the turn rule chooses asks, and is one of the seats.
use Rattle.std.proofs.Common.{ℕ, ◌≡◌, ◌-◌, [], ◌∷◌, ◌++◌, List, Bool, true, false, ◌&&◌, ◌||◌, if◌then◌else◌, nat_lt, nat_eq, arith, tests, refl, sym, ap, subst, map, Option, Some, None}
use Rattle.std.specs.List.{All, list_any}
use Rattle.std.proofs.lemmas.Bool.{and_parts}
use Rattle.std.proofs.lemmas.List.Elements.{All-head, All-tail, All-append, All-cons, All-nil}
use Rattle.memory_runs.specs.Views.{System}
use Rattle.memory_runs.specs.Order.{is_joined}
use Rattle.memory_machines.specs.Turns.{Grant, choice_by, choice_of, chosen, grant_after, open_after, seats_of}
use Rattle.histories.specs.Turns.{Seat, Round, Turn, next_asking, turn_of, last_host}
use Rattle.histories.specs.Turns.Turn.{Nobody, Begins}

module _ (P : ℕ → Type 0) where
  abbrev pub SeatFits : Seat → Type 0
  SeatFits s = P s.host

  pub record RoundFits (round : Round) : Type 0 where
    pub all : All SeatFits round.ring
    pub last : nat_lt 0 round.left ≡ true → P (last_host round.ring)

  -- what a turn leaves, and whom it chooses
  abbrev pub TurnFits : (ℕ → Bool) → Turn → Type 0
  TurnFits asks (Nobody round) = RoundFits round
  TurnFits asks (Begins host round) = RoundFits round × P host × (asks host ≡ true)

  last_of : (xs : List Seat) (s : Seat) → last_host (xs ++ s ∷ []) ≡ s.host
  last_of [] s = refl
  last_of (x ∷ []) s = refl
  last_of (x ∷ y ∷ xs) s = last_of (y ∷ xs) s

  next_fits : (asks : ℕ → Bool) (skipped later : List Seat) → All SeatFits skipped → All SeatFits later → TurnFits asks (next_asking asks skipped later)
  next_fits asks skipped [] one two = record { all = one; last = λ e. cc }
  next_fits asks skipped (s ∷ later) one two = by_test (asks s.host) refl (next_fits asks (skipped ++ s ∷ []) later (All-append SeatFits skipped (s ∷ []) one alone) (All-tail SeatFits s later two))
    where
      alone : All SeatFits (s ∷ [])
      alone = All-cons SeatFits s [] (All-head SeatFits s later two) (All-nil SeatFits)

      by_test : (b : Bool) → asks s.host ≡ b → TurnFits asks (next_asking asks (skipped ++ s ∷ []) later) → TurnFits asks (next_asking asks skipped (s ∷ later))
      by_test true is go =
          let left : Round = record { left = s.shares - 1; ring = later ++ skipped ++ s ∷ [] } in
          let fits : RoundFits left = record { all = All-append SeatFits (later ++ skipped) (s ∷ []) (All-append SeatFits later skipped (All-tail SeatFits s later two) one) alone; last = λ e. subst P (sym (last_of (later ++ skipped) s)) (All-head SeatFits s later two) } in
          rw is (fits, All-head SeatFits s later two, is)
      by_test false is go = rw is go

  pub turn_fits : (asks : ℕ → Bool) (round : Round) → RoundFits round → TurnFits asks (turn_of asks round)
  turn_fits asks round fits = by_test (asks (last_host round.ring) && nat_lt 0 round.left) refl
    where
      by_test : (b : Bool) → (asks (last_host round.ring) && nat_lt 0 round.left) ≡ b → TurnFits asks (turn_of asks round)
      by_test true is =
          let parts = and_parts (asks (last_host round.ring)) (nat_lt 0 round.left) is in
          let same : RoundFits (record { left = round.left - 1; ring = round.ring }) = record { all = fits.all; last = λ e. fits.last parts.1 } in
          rw is (same, fits.last parts.1, parts.0)
      by_test false is = rw is (next_fits asks [] round.ring (All-nil SeatFits) fits.all)

  abbrev pub HostFits : Option ℕ → Type 0
  HostFits None = Unit {0}
  HostFits (Some host) = P host

  pub record GrantFits (grant : Grant) : Type 0 where
    pub holder : HostFits grant.open_host
    pub round : RoundFits grant.round

  abbrev pub ChoiceFits : (ℕ → Bool) → Option ℕ → Type 0
  ChoiceFits asks None = Unit {0}
  ChoiceFits asks (Some host) = P host × (asks host ≡ true)

  by_turn : (asks : ℕ → Bool) (turn : Turn) → TurnFits asks turn → ChoiceFits asks (choice_by turn).host × RoundFits (choice_by turn).round
  by_turn asks (Nobody round) fits = (tt, fits)
  by_turn asks (Begins host round) fits = ((fits.1, fits.2), fits.0)

  pub choice_fits : (holder : Option ℕ) (asks : ℕ → Bool) (round : Round) → HostFits holder → RoundFits round → ChoiceFits asks (choice_of holder asks round).host × RoundFits (choice_of holder asks round).round
  choice_fits None asks round one two = by_turn asks (turn_of asks round) (turn_fits asks round two)
  choice_fits (Some host) asks round one two = by_test (asks host) refl
    where
      by_test : (b : Bool) → asks host ≡ b → ChoiceFits asks (if b then Some host else None) × RoundFits round
      by_test true is = ((one, is), two)
      by_test false is = (tt, two)

  holder_after : (before host : Option ℕ) (asks ends : ℕ → Bool) → HostFits before → ChoiceFits asks host → HostFits (open_after before host ends)
  holder_after before None asks ends one two = one
  holder_after before (Some host) asks ends one two = by_test (ends host)
    where
      by_test : (b : Bool) → HostFits (if b then None else Some host)
      by_test true = tt
      by_test false = two.0

  pub grant_fits : (grant : Grant) (asks ends : ℕ → Bool) → GrantFits grant → GrantFits (grant_after grant (chosen grant asks) ends)
  grant_fits grant asks ends fits =
      let next = choice_fits grant.open_host asks grant.round fits.holder fits.round in
      record { holder = holder_after grant.open_host (chosen grant asks).host asks ends fits.holder next.0; round = next.1 }

seats_fit : (system : System) (agent : ℕ) (P : ℕ → Type 0) (hosts : List ℕ) → ((h : ℕ) → list_any (nat_eq h) hosts ≡ true → P h) → All (SeatFits P) (map (λ host. record { host = host; shares = system.shares host agent }) hosts)
seats_fit system agent P [] joined = All-nil (SeatFits P)
seats_fit system agent P (x ∷ hosts) joined =
    All-cons (SeatFits P) (record { host = x; shares = system.shares x agent }) (map (λ host. record { host = host; shares = system.shares host agent }) hosts)
    (joined x (ap (λ b. b || list_any (nat_eq x) hosts) (same x))) (seats_fit system agent P hosts (λ h there. joined h (later (nat_eq h x) (list_any (nat_eq h) hosts) there)))
  where
    same : (n : ℕ) → nat_eq n n ≡ true
    same n = grind (arith, tests)

    later : (a b : Bool) → b ≡ true → (a || b) ≡ true
    later true b e = refl
    later false b e = e

pub all_seated : (system : System) (agent : ℕ) (P : ℕ → Type 0) → ((h : ℕ) → is_joined system agent h ≡ true → P h) → All (SeatFits P) (seats_of system agent)
all_seated system agent P joined = seats_fit system agent P (system.joined agent) joined
