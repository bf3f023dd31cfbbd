-- A cycle in which a seat holds the turn, from what the makers say.
use Rattle.std.proofs.Common.{◌≡◌, ℕ, ◌-◌, ◌^◌, ◌<◌, ◌≤◌, Bool, true, false, ◌&&◌, List, length, get_or, nat_lt, if◌then◌else◌, Option, Some, None, is_some, refl, sym, subst, ap, ◌∙◌, arith}
use Rattle.std.proofs.lemmas.Bool.{ltb-true, ltb-false}
use Rattle.std.proofs.Math.Pow.{pow_mono}
use Rattle.histories.specs.History.{is_raised}
use Rattle.netlist.specs.Runs.{Cycle}
use Rattle.command_nets.specs.declared.nets.CommandNets.{CommandNets}
use Rattle.mm_arbiter.specs.declared.asker.Asker.{Asker}
use Rattle.mm_arbiter.specs.declared.pick.SeatNets.{SeatNets}
use Rattle.mm_arbiter.specs.declared.rounds.RoundNets.{RoundNets}
use Rattle.mm_arbiter.specs.Asks.{seat_bit, stays_on, first_after, holder_after, begun_left, left_after}
use Rattle.mm_arbiter.specs.Shown.{asks_in, spares_in}
use Rattle.mm_arbiter.specs.Rounds.{seat_in, AreChosen, ShowsSeat, HidesAll, IsNextTurn, IsTurn}

below_width : (seat count : ℕ) → 2 ^ seat < 2 ^ count → seat < count
below_width seat count h = by_order (nat_lt seat count) refl
  where
    by_order : (t : Bool) → nat_lt seat count ≡ t → seat < count
    by_order true e = ltb-true seat count e
    by_order false e = (let more : 2 ^ count ≤ 2 ^ seat = pow_mono (ltb-false seat count e) in absurd (omega (arith, h, more)))

second_true : (s t : Bool) → (s && t) ≡ true → t ≡ true
second_true true t e = e
second_true false t e = absurd (cc)

module _ (cycle : Cycle) (askers : List Asker) (commands : List CommandNets) (made : SeatNets) (round : RoundNets) (k : ℕ) (lt : k < length commands) (holds : cycle.net round.turns.holder.number ≡ 2 ^ k)
    (chosen : AreChosen cycle round.turns round.chosen commands k) (fits : cycle.net round.chosen.seat.number < 2 ^ length commands)
    (shows : (seat : ℕ) → seat < length commands → cycle.net round.chosen.seat.number ≡ 2 ^ seat → ShowsSeat cycle round.chosen.some made askers commands seat) (hides : HidesAll cycle round.chosen.some made.command)
    (next : IsNextTurn cycle round.turns round.chosen made.spare round.holder round.left) where
  abbrev seat_now : Option ℕ
  seat_now = seat_in cycle round.turns commands k

  abbrev left : ℕ
  left = cycle.net round.turns.left.number

  abbrev bits : List Bool
  bits = asks_in cycle commands

  shows_at : (seat : ℕ) → seat_now ≡ Some seat → ShowsSeat cycle round.chosen.some made askers commands seat
  shows_at seat e =
      let is = chosen.seat ∙ ap seat_bit e in
      shows seat (below_width seat (length commands) (subst (λ n. n < 2 ^ length commands) is fits)) is

  some_at : (seat : ℕ) → seat_now ≡ Some seat → is_raised (cycle.net round.chosen.some.number) ≡ true
  some_at seat e = chosen.some ∙ ap (is_some {T = ℕ}) e

  none_at : seat_now ≡ None → is_raised (cycle.net round.chosen.some.number) ≡ false
  none_at e = chosen.some ∙ ap (is_some {T = ℕ}) e

  holder_is : (o : Option ℕ) → seat_now ≡ o → cycle.net round.holder.number ≡ 2 ^ holder_after k seat_now
  holder_is None e = next.holder ∙ ap (λ (t : Bool). if t then cycle.net round.chosen.seat.number else cycle.net round.turns.holder.number) (none_at e) ∙ holds ∙ sym (ap (λ (o : Option ℕ). 2 ^ holder_after k o) e)
  holder_is (Some seat) e =
      next.holder ∙ ap (λ (t : Bool). if t then cycle.net round.chosen.seat.number else cycle.net round.turns.holder.number) (some_at seat e) ∙ chosen.seat ∙ ap seat_bit e ∙ sym (ap (λ (o : Option ℕ). 2 ^ holder_after k o) e)

  positive : is_raised (cycle.net round.chosen.stays.number) ≡ true → 0 < left
  positive e = ltb-true 0 left (second_true (get_or bits k false) (nat_lt 0 left) (sym chosen.stays ∙ e))

  abbrev spare_or : Bool → ℕ
  spare_or some = if some then cycle.net made.spare.number else 0

  begun : (o : Option ℕ) → seat_now ≡ o → spare_or (is_raised (cycle.net round.chosen.some.number)) ≡ begun_left (spares_in askers) o
  begun None e = ap spare_or (none_at e)
  begun (Some seat) e = ap spare_or (some_at seat e) ∙ (shows_at seat e).spare

  by_stays : (inside stays : Bool) → is_raised (cycle.net round.turns.inside.number) ≡ inside → stays_on k left bits ≡ stays →
      (if inside then left else (if stays then left - 1 else spare_or (is_raised (cycle.net round.chosen.some.number)))) ≡ (if inside then left else (if stays then left - 1 else begun_left (spares_in askers) (first_after k bits)))
  by_stays true stays e f = refl
  by_stays false true e f = refl
  by_stays false false e f =
      begun (first_after k bits) (ap (λ (t : Bool). if t then (if get_or bits k false then Some k else None) else (if stays_on k left bits then Some k else first_after k bits)) e ∙ ap (λ (t : Bool). if t then Some k else first_after k bits) f)

  left_is : cycle.net round.left.number ≡ left_after (is_raised (cycle.net round.turns.inside.number)) k left bits (spares_in askers)
  left_is =
      next.left positive
      ∙ ap (λ (t : Bool). if is_raised (cycle.net round.turns.inside.number) then left else (if t then left - 1 else spare_or (is_raised (cycle.net round.chosen.some.number)))) chosen.stays
      ∙ by_stays (is_raised (cycle.net round.turns.inside.number)) (stays_on k left bits) refl refl

  pub turn_made : IsTurn cycle askers commands made.command round k
  turn_made = record {
    chosen = chosen;
    shown = λ seat e. (shows_at seat e).command (some_at seat e);
    hidden = λ e. hides (none_at e);
    holder = holder_is seat_now refl;
    left = left_is;
  }
