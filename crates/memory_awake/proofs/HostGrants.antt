-- In a cycle in which a host asks and isn't taken, what may be taken before it doesn't grow, and falls by each beat that is taken.
use Rattle.std.proofs.Common.{◌≡◌, ℕ, suc, ◌+◌, ◌*◌, ◌<◌, ◌≤◌, Bool, true, false, ◌&&◌, nat_eq, if◌then◌else◌, arith, refl, sym, ap, ◌∙◌, subst, IsTrue, IsFalse, inl, inr, ◌⊎◌, tests, Option, Some, None}
use Rattle.std.proofs.lemmas.Bool.{and_parts}
use Rattle.histories.specs.Turns.{Round, Turn, turn_of, is_seated, AllShare, last_host, last_shares, round_after}
use Rattle.histories.specs.Turns.Turn.{Nobody, Begins}
use Rattle.memory_machines.specs.Turns.{Grant, chosen, choice_by, choice_of, grant_after, open_after}
use Rattle.memory_awake.specs.Steps.{beats_of_others, round_allows, open_allows, grant_allows}
use Rattle.memory_awake.proofs.HostRing.{Lowers, turn_lowers, turn_same, turn_holds, Holds, allows_few}
use Rattle.memory_awake.proofs.Bits.{no_true}

pub no_both : (b : Bool) → IsTrue b → IsFalse b → ⊥
no_both true t f = absurd cc
no_both false t f = no_true t

never : (b : Bool) → IsTrue (b && false) → ⊥
never true h = no_true h
never false h = no_true h

-- nobody's beat is chosen
abbrev pub is_gap : Option ℕ → Bool
is_gap None = true
is_gap (Some o) = false

-- no more, and one less where a beat is taken, or in a good cycle in which none is chosen
abbrev pub Step : ℕ → ℕ → Bool → Bool → Type 0
Step after before tk gap = (after ≤ before) × (IsTrue tk → after + 1 ≤ before) × (IsTrue gap → after + 1 ≤ before)

module _ (longest : ℕ → ℕ) (host : ℕ) where
  -- one cycle, told by whose beat is chosen and whether it is taken
  pub record Cycle (tk good : Bool) (opened choice : Option ℕ) (ends : ℕ → Bool) (rest after : ℕ → ℕ) : Type 0 where
    pub some : (o : ℕ) → 1 ≤ rest o
    pub few : (o : ℕ) → rest o ≤ longest o
    pub fewer : (o : ℕ) → choice ≡ Some o → IsTrue tk → IsFalse (ends o) → after o + 1 ≤ rest o
    pub stays : (o : ℕ) → (choice ≡ Some o → IsFalse tk) → after o ≤ rest o
    pub taken : (o : ℕ) → IsTrue (ends o) → IsTrue tk
    pub none : choice ≡ None → IsFalse tk
    pub own : choice ≡ Some host → IsFalse tk
    pub gaps : (o : ℕ) → opened ≡ Some o → choice ≡ None → IsTrue good → after o + 1 ≤ rest o

  module _ (tk good : Bool) (ends : ℕ → Bool) (rest after : ℕ → ℕ) where
    of_turn : (most : ℕ) (round : Round) (turn : Turn) → Lowers longest host most turn → Cycle tk good None (choice_by turn).host ends rest after →
        Step (grant_allows longest host after (grant_after (record { open_host = None; round = round }) (choice_by turn) ends)) most tk (good && is_gap (choice_by turn).host)
    of_turn most round (Nobody r) l cycle = absurd l
    of_turn most round (Begins o r) l cycle = by_same (nat_eq o host) refl l (ends o) refl
      where
        by_same : (s : Bool) → nat_eq o host ≡ s → (IsTrue (nat_eq o host)) ⊎ (round_allows longest host r + longest o ≤ most) → (e : Bool) → ends o ≡ e →
            Step (open_allows longest host after (if e then None else Some o) r) most tk (good && false)
        by_same true es l true ee = let same : o ≡ host = grind (arith, tests, es) in absurd (no_both tk (cycle.taken o ee) (cycle.own (ap Some same)))
        by_same true es l false ee =
            let same : o ≡ host = grind (arith, tests, es) in
            let still = cycle.own (ap Some same) in
            rw es (omega arith, λ t. absurd (no_both tk t still), λ g. absurd (never good g))
        by_same false es (inl same) e ee = absurd (no_both (nat_eq o host) same es)
        by_same false es (inr less) true ee =
            let some = cycle.some o in
            let few = cycle.few o in
            (omega (arith, less), λ t. omega (arith, less, some, few), λ g. absurd (never good g))
        by_same false es (inr less) false ee = rw es (by_taken tk refl)
          where
            by_taken : (t : Bool) → tk ≡ t → Step (after o + round_allows longest host r) most t (good && false)
            by_taken true et = let fewer = cycle.fewer o refl et ee in let few = cycle.few o in (omega (arith, fewer, few, less), λ t. omega (arith, fewer, few, less), λ g. absurd (never good g))
            by_taken false et = let stays = cycle.stays o (λ e. et) in let few = cycle.few o in (omega (arith, stays, few, less), λ t. absurd (no_true t), λ g. absurd (never good g))

    of_open : (k : ℕ) (round : Round) (asks : Bool) → (nat_eq k host ≡ true → IsTrue asks) → Cycle tk good (Some k) (if asks then Some k else None) ends rest after → (e : Bool) → ends k ≡ e →
        Step (open_allows longest host after (open_after (Some k) (if asks then Some k else None) ends) round) (open_allows longest host rest (Some k) round) tk (good && is_gap (if asks then Some k else None))
    of_open k round false asked cycle e ee = by_own (nat_eq k host) refl
      where
        by_own : (s : Bool) → nat_eq k host ≡ s → Step (if s then 0 else after k + round_allows longest host round) (if s then 0 else rest k + round_allows longest host round) tk (good && true)
        by_own true es = absurd (no_true (asked es))
        by_own false es =
            let still = cycle.none refl in
            let stays = cycle.stays k (λ e. absurd cc) in
            (omega (arith, stays), λ t. absurd (no_both tk t still), λ g. (let gap = cycle.gaps k refl refl ((and_parts good true g).0) in omega (arith, gap)))
    of_open k round true asked cycle e ee = by_same (nat_eq k host) refl e ee
      where
        by_same : (s : Bool) → nat_eq k host ≡ s → (e : Bool) → ends k ≡ e →
            Step (open_allows longest host after (if ends k then None else Some k) round) (if s then 0 else rest k + round_allows longest host round) tk (good && false)
        by_same true es true ee = let same : k ≡ host = grind (arith, tests, es) in absurd (no_both tk (cycle.taken k ee) (cycle.own (ap Some same)))
        by_same true es false ee =
            let same : k ≡ host = grind (arith, tests, es) in
            let still = cycle.own (ap Some same) in
            rw (ee, es) (omega arith, λ t. absurd (no_both tk t still), λ g. absurd (never good g))
        by_same false es true ee = let some = cycle.some k in rw ee (omega arith, λ t. omega (arith, some), λ g. absurd (never good g))
        by_same false es false ee = rw (ee, es) (by_taken tk refl)
          where
            by_taken : (t : Bool) → tk ≡ t → Step (after k + round_allows longest host round) (rest k + round_allows longest host round) t (good && false)
            by_taken true et = let fewer = cycle.fewer k refl et ee in (omega (arith, fewer), λ t. omega (arith, fewer), λ g. absurd (never good g))
            by_taken false et = let stays = cycle.stays k (λ e. et) in (omega (arith, stays), λ t. absurd (no_true t), λ g. absurd (never good g))

    step : (open_host : Option ℕ) (round : Round) (asks : ℕ → Bool) → IsTrue (asks host) → IsTrue (is_seated host round.ring) → AllShare round.ring → Cycle tk good open_host (choice_of open_host asks round).host ends rest after →
        Step (grant_allows longest host after (grant_after (record { open_host = open_host; round = round }) (choice_of open_host asks round) ends)) (open_allows longest host rest open_host round) tk (good && is_gap (choice_of open_host asks round).host)
    step None round asks asking seated share cycle = of_turn (round_allows longest host round) round (turn_of asks round) (turn_lowers longest host asks round asking seated share) cycle
    step (Some k) round asks asking seated share cycle = of_open k round (asks k) (λ e. (let same : k ≡ host = grind (arith, tests, e) in subst (λ x. IsTrue (asks x)) (sym same) asking)) cycle (ends k) refl

    pub grant_step : (grant : Grant) (asks : ℕ → Bool) → IsTrue (asks host) → IsTrue (is_seated host grant.round.ring) → AllShare grant.round.ring → Cycle tk good grant.open_host (chosen grant asks).host ends rest after →
        Step (grant_allows longest host after (grant_after grant (chosen grant asks) ends)) (grant_allows longest host rest grant) tk (good && is_gap (chosen grant asks).host)
    grant_step grant asks asking seated share cycle = step grant.open_host grant.round asks asking seated share cycle

  -- ---- what a grant keeps, so that it allows few beats

  abbrev IsHeld : Option ℕ → Round → Type 0
  IsHeld None round = Unit {0}
  IsHeld (Some k) round = (last_host round.ring ≡ k) × (round.left < last_shares round.ring)

  pub record Stands (all : ℕ) (grant : Grant) : Type 0 where
    pub others : beats_of_others longest host grant.round.ring ≡ all
    pub held : IsHeld grant.open_host grant.round

  after_turn : (all : ℕ) (round : Round) (turn : Turn) (ends : ℕ → Bool) → Holds turn → beats_of_others longest host (round_after turn).ring ≡ all →
      Stands all (grant_after (record { open_host = None; round = round }) (choice_by turn) ends)
  after_turn all round (Nobody r) ends holds same = record { others = same; held = tt }
  after_turn all round (Begins o r) ends holds same = record { others = same; held = by_end (ends o) }
    where
      by_end : (e : Bool) → IsHeld (if e then None else Some o) r
      by_end true = tt
      by_end false = holds

  after_open : (all k : ℕ) (round : Round) (asks : Bool) (ends : ℕ → Bool) → beats_of_others longest host round.ring ≡ all → IsHeld (Some k) round →
      Stands all (grant_after (record { open_host = Some k; round = round }) (record { host = if asks then Some k else None; round = round }) ends)
  after_open all k round false ends same held = record { others = same; held = held }
  after_open all k round true ends same held = record { others = same; held = by_end (ends k) }
    where
      by_end : (e : Bool) → IsHeld (if e then None else Some k) round
      by_end true = tt
      by_end false = held

  pub keeps_standing : (all : ℕ) (grant : Grant) (asks ends : ℕ → Bool) → AllShare grant.round.ring → grant.round.left ≤ last_shares grant.round.ring → Stands all grant → Stands all (grant_after grant (chosen grant asks) ends)
  keeps_standing all grant asks ends share few stands = by_open grant.open_host grant.round share few stands.others stands.held
    where
      by_open : (open_host : Option ℕ) (round : Round) → AllShare round.ring → round.left ≤ last_shares round.ring → beats_of_others longest host round.ring ≡ all → IsHeld open_host round →
          Stands all (grant_after (record { open_host = open_host; round = round }) (choice_of open_host asks round) ends)
      by_open None round share few same held = after_turn all round (turn_of asks round) ends (turn_holds asks round share few) (turn_same longest host asks round ∙ same)
      by_open (Some k) round share few same held = after_open all k round (asks k) ends same held

  pub few_stand : (all : ℕ) (grant : Grant) (rest : ℕ → ℕ) → ((o : ℕ) → rest o ≤ longest o) → IsTrue (is_seated host grant.round.ring) → grant.round.left ≤ last_shares grant.round.ring → Stands all grant → grant_allows longest host rest grant ≤ all
  few_stand all grant rest most seated few stands = by_open grant.open_host grant.round seated few stands.others stands.held
    where
      by_open : (open_host : Option ℕ) (round : Round) → IsTrue (is_seated host round.ring) → round.left ≤ last_shares round.ring → beats_of_others longest host round.ring ≡ all → IsHeld open_host round → open_allows longest host rest open_host round ≤ all
      by_open None round seated few same held = let less = allows_few longest host round seated few in omega (arith, less, same)
      by_open (Some k) round seated few same held = by_same (nat_eq k host) refl
        where
          more : Round
          more = record { left = suc round.left; ring = round.ring }

          by_same : (s : Bool) → nat_eq k host ≡ s → (if s then 0 else rest k + round_allows longest host round) ≤ all
          by_same true e = omega arith
          by_same false e =
              let less = allows_few longest host (record { left = suc round.left; ring = round.ring }) seated (omega (arith, held.1)) in
              let last : nat_eq (last_host round.ring) host ≡ false = ap (λ x. nat_eq x host) held.0 ∙ e in
              by_last last (ap longest held.0) less
            where
              by_last : nat_eq (last_host round.ring) host ≡ false → longest (last_host round.ring) ≡ longest k → round_allows longest host (record { left = suc round.left; ring = round.ring }) ≤ beats_of_others longest host round.ring →
                  rest k + round_allows longest host round ≤ all
              by_last last long less =
                  let first = most k in
                  let seen : (if nat_eq (last_host round.ring) host then 0 else suc round.left * longest (last_host round.ring)) ≡ suc round.left * longest (last_host round.ring) = rw last refl in
                  let was : (if nat_eq (last_host round.ring) host then 0 else round.left * longest (last_host round.ring)) ≡ round.left * longest (last_host round.ring) = rw last refl in
                  omega (arith, first, long, less, same, seen, was)
