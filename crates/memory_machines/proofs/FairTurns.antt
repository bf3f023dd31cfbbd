-- An arbiter that keeps the turn rule lets a host that asks be passed by no more commands than the others have shares.
use Rattle.std.proofs.Common.{ℕ, zero, suc, ◌<◌, ◌≤◌, ◌≡◌, ◌+◌, [], ◌∷◌, ◌++◌, List, Bool, true, false, not, ◌&&◌, IsTrue, IsFalse, arith, refl, sym, ◌∙◌, subst, nat_eq, Option, Some, None, is_none, MatchOption, if◌then◌else◌, tests}
use Rattle.histories.specs.History.{one_if}
use Rattle.memory_runs.specs.Commands.{shows}
use Rattle.memory_machines.specs.Link.{Port}
use Rattle.memory_machines.specs.Turns.{choice_by, choice_of, asks_at, grant_before, TakesTurnsByRule, others_begun, IsKeptAsking}
use Rattle.histories.specs.Turns.{Seat, Round, Turn, turn_of, passed_by, passes, AllAsk, AllShare, is_seated, may_pass, last_shares, shares_of_others, IsRoundOf, IsOfAsker, round_after}
use Rattle.histories.specs.Turns.Turn.{Nobody, Begins}

-- what the hosts ask in a cycle in which a command may begin
abbrev if_free : Option ℕ → (ℕ → Bool) → List (ℕ → Bool)
if_free None asks = asks ∷ []
if_free (Some host) asks = []

abbrev free_asks : List Seat → (ℕ → Port) → Port → ℕ → ℕ → List (ℕ → Bool)
free_asks seats up down from zero = []
free_asks seats up down from (suc size) = if_free (grant_before seats up down from).open_host (asks_at up from) ++ free_asks seats up down (suc from) size

-- the laws of turns, as their calls give them
pub record TurnLaws : Type 0 where
  pub few : (host : ℕ) (round : Round) (cycles : List (ℕ → Bool)) → IsTrue (is_seated host round.ring) → AllShare round.ring → AllAsk host cycles → passes host round cycles ≤ may_pass host round
  pub within : (host : ℕ) (round : Round) → IsTrue (is_seated host round.ring) → round.left ≤ last_shares round.ring → may_pass host round ≤ shares_of_others host round.ring
  pub seats : (seats : List Seat) (round : Round) (asks : ℕ → Bool) → IsRoundOf seats round → IsRoundOf seats (round_after (turn_of asks round))
  pub asked : (round : Round) (asks : ℕ → Bool) → IsOfAsker asks (turn_of asks round)

choice_round : (turn : Turn) → (choice_by turn).round ≡ round_after turn
choice_round (Nobody round) = refl
choice_round (Begins host round) = refl

-- what the rule shows for a turn, counted
by_turn : (host tag n : ℕ) (sh : Bool) (asks : ℕ → Bool) (tags : ℕ → ℕ) (rest : List (ℕ → Bool)) (turn : Turn) → IsOfAsker asks turn →
    MatchOption (choice_by turn).host (IsFalse sh) (λ k. IsTrue sh × (tag ≡ tags k)) → ((k : ℕ) → IsTrue (asks k) → tags k ≡ k) →
    IsFalse (true && sh && nat_eq host tag) → n ≤ passes host (choice_by turn).round rest →
    one_if (true && sh && not (nat_eq tag host)) + n ≤ passed_by host turn (λ after. passes host after rest)
by_turn host tag n true asks tags rest (Nobody round) of shown own other more = cc
by_turn host tag n false asks tags rest (Nobody round) of shown own other more = omega (arith, more)
by_turn host tag n false asks tags rest (Begins k round) of shown own other more = let bad = shown.0 in cc
by_turn host tag n true asks tags rest (Begins k round) of shown own other more =
    let same : tag ≡ k = shown.1 ∙ own k of in
    by_same (nat_eq k host) refl (subst (λ t. IsFalse (nat_eq host t)) same other) same
  where
    by_same : (b : Bool) → nat_eq k host ≡ b → IsFalse (nat_eq host k) → tag ≡ k →
        one_if (true && true && not (nat_eq tag host)) + n ≤ (if b then 0 else 1 + passes host round rest)
    by_same true e not_own same = let bad : k ≡ host = grind (arith, tests, e) in absurd (grind (arith, tests, bad, not_own))
    by_same false e not_own same = rw (same, e) (omega (arith, more))

by_open : (host tag n : ℕ) (sh : Bool) (asks : ℕ → Bool) (tags : ℕ → ℕ) (rest : List (ℕ → Bool)) (round : Round) (open_host : Option ℕ) → IsOfAsker asks (turn_of asks round) →
    MatchOption (choice_of open_host asks round).host (IsFalse sh) (λ k. IsTrue sh × (tag ≡ tags k)) → ((k : ℕ) → IsTrue (asks k) → tags k ≡ k) →
    IsFalse (is_none open_host && sh && nat_eq host tag) → n ≤ passes host (choice_of open_host asks round).round rest →
    one_if (is_none open_host && sh && not (nat_eq tag host)) + n ≤ passes host round (if_free open_host asks ++ rest)
by_open host tag n sh asks tags rest round None of shown own other more = by_turn host tag n sh asks tags rest (turn_of asks round) of shown own other more
by_open host tag n sh asks tags rest round (Some k) of shown own other more = omega (arith, more)

free_ask : (host : ℕ) (asks : ℕ → Bool) (rest : List (ℕ → Bool)) (open_host : Option ℕ) → IsTrue (asks host) → AllAsk host rest → AllAsk host (if_free open_host asks ++ rest)
free_ask host asks rest None asked all = (asked, all)
free_ask host asks rest (Some k) asked all = all

module _ (laws : TurnLaws) (seats : List Seat) (up : ℕ → Port) (down : Port) (end : ℕ) (rule : TakesTurnsByRule seats up down end)
    (tags : (h c : ℕ) → c < end → IsTrue (asks_at up c h) → (up h).commands.tag c ≡ h) (share : AllShare seats) where
  next_round : (round : Round) (asks : ℕ → Bool) (open_host : Option ℕ) → IsRoundOf seats round → IsRoundOf seats (choice_of open_host asks round).round
  next_round round asks None is = subst (IsRoundOf seats) (sym (choice_round (turn_of asks round))) (laws.seats seats round asks is)
  next_round round asks (Some k) is = is

  is_round : (c : ℕ) → IsRoundOf seats (grant_before seats up down c).round
  is_round zero = record { ring = record { seated = λ host h. h; others = λ host. refl; share = share }; left = omega arith }
  is_round (suc c) = next_round (grant_before seats up down c).round (asks_at up c) (grant_before seats up down c).open_host (is_round c)

  counted : (host from size : ℕ) → from + size ≤ end → IsKeptAsking seats up down host from size →
      others_begun seats up down host from size ≤ passes host (grant_before seats up down from).round (free_asks seats up down from size)
  counted host from zero fits waits = omega arith
  counted host from (suc size) fits waits =
      let grant = grant_before seats up down from in
      by_open host (down.commands.tag from) (others_begun seats up down host (suc from) size) (shows down.commands.signals from) (asks_at up from) (λ k. (up k).commands.tag from)
      (free_asks seats up down (suc from) size) grant.round grant.open_host (laws.asked grant.round (asks_at up from)) (rule from (omega (arith, fits))) (λ k asked. tags k from (omega (arith, fits)) asked)
      (waits from (omega arith) (omega arith)).1
      (counted host (suc from) size (omega (arith, fits)) (λ c low high. waits c (omega (arith, low)) (omega (arith, high))))

  all_ask : (host from size : ℕ) → IsKeptAsking seats up down host from size → AllAsk host (free_asks seats up down from size)
  all_ask host from zero waits = tt
  all_ask host from (suc size) waits =
      free_ask host (asks_at up from) (free_asks seats up down (suc from) size) (grant_before seats up down from).open_host (waits from (omega arith) (omega arith)).0
      (all_ask host (suc from) size (λ c low high. waits c (omega (arith, low)) (omega (arith, high))))

  pub turn_rule_is_fair : (host from size : ℕ) → IsTrue (is_seated host seats) → from + size ≤ end → IsKeptAsking seats up down host from size →
      others_begun seats up down host from size ≤ shares_of_others host seats
  turn_rule_is_fair host from size seated fits waits =
      let round = (grant_before seats up down from).round in
      let is = is_round from in
      let here = is.ring.seated host seated in
      let few = laws.few host round (free_asks seats up down from size) here is.ring.share (all_ask host from size waits) in
      let within = laws.within host round here is.left in
      let same = is.ring.others host in
      let all = counted host from size fits waits in
      omega (arith, few, within, same, all)
