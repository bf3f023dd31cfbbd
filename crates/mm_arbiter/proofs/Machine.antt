-- The nets of an arbiter are its machine.
use Rattle.std.proofs.Common.{◌≡◌, ℕ, zero, suc, ◌+◌, ◌-◌, ◌^◌, ◌<◌, ◌≤◌, Bool, true, false, not, ◌&&◌, ◌||◌, ◌==◌, if◌then◌else◌, nat_eq, nat_lt, List, [], ◌∷◌, ◌++◌, length, map, get_or, Option, Some, None, is_some, IfSome, MatchOption, Result, Ok, Err, OnOk, IsTrue, IsFalse, length-append, refl, sym, subst, ap, ◌∙◌, arith}
use Rattle.std.proofs.lemmas.Bool.{eqb-true, eqb-false, eq-eqb, ne_eqb, ltb-false}
use Rattle.std.proofs.lemmas.Nat.Bits.{bit_at-pow_same, bit_at-pow_other, bit_at-zero}
use Rattle.std.specs.Int.{bit_at}
use Rattle.histories.specs.History.{is_raised}
use Rattle.netlist.specs.Nets.{NetValue}
use Rattle.netlist.specs.Netlists.{Netlist}
use Rattle.netlist.specs.Longer.{Extends}
use Rattle.netlist.specs.Runs.{Run, cycle_of, IsEndlessRun, IsValuation}
use Rattle.memory_runs.specs.Views.{Shape}
use Rattle.memory_runs.specs.Commands.{shows}
use Rattle.memory_runs.specs.Order.{is_agent}
use Rattle.memory_machines.specs.Link.{Port, marked_at, closes}
use Rattle.memory_machines.specs.Lines.{TaggedPort}
use Rattle.memory_machines.specs.Machines.{Raw, raw_at}
use Rattle.memory_machines.specs.Turns.{Grant, Choice, chosen, grant_after, grant_before, asks_at, ends_at, open_after}
use Rattle.memory_parts.specs.Lone.{IsLoneWire}
use Rattle.memory_parts.specs.Arbiter.{IsArbiterMachine, chooses}
use Rattle.histories.specs.Turns.{Seat, is_seated}
use Rattle.command_nets.specs.declared.nets.CommandNets.{CommandNets}
use Rattle.command_nets.specs.Nets.{port_in, raw_in}
use Rattle.command_nets.specs.Groups.{nothing_shown, is_shown}
use Rattle.mm_arbiter.specs.declared.asker.Asker.{Asker}
use Rattle.mm_arbiter.specs.declared.back.BackNets.{BackNets}
use Rattle.mm_arbiter.specs.declared.back.BelowNets.{BelowNets}
use Rattle.mm_arbiter.specs.declared.rounds.RoundNets.{RoundNets}
use Rattle.mm_arbiter.specs.declared.arbiter.HeldArbiter.{HeldArbiter}
use Rattle.mm_arbiter.specs.Asks.{seat_bit, chosen_seat, left_after, holder_after}
use Rattle.mm_arbiter.specs.Shown.{asks_in, raws_in, spares_in}
use Rattle.mm_arbiter.specs.Rounds.{seat_in, IsTurn}
use Rattle.mm_arbiter.specs.Forward.{RunsRound, ArbiterForward, forward_lasts}
use Rattle.mm_arbiter.specs.Backward.{IsBackOf, AreBacks, IsStep, RoundBackward, lone_back, round_backward_lasts}
use Rattle.mm_arbiter.specs.Machine.{seats_from, AreApart, AreSides, below_port, IsOutside, Surrounds, BearsTag, RunsAsArbiter}
use Rattle.mm_arbiter.proofs.Rings.{Held, seats_in, ring_of, place_of, asked, spares_of, seat_of, left_of, open_host, Chooses, chooses as chooses_seat}

-- ---- places of hosts

-- the host of this seat
abbrev IsAt : ℕ → ℕ → List Seat → Type 0
IsAt k host [] = ⊥
IsAt zero host (seat ∷ later) = seat.host ≡ host
IsAt (suc k) host (seat ∷ later) = IsAt k host later

at_middle : (front : List Seat) (seat : Seat) (back : List Seat) → IsAt (length front) seat.host (front ++ seat ∷ back)
at_middle [] seat back = refl
at_middle (one ∷ front) seat back = at_middle front seat back

or_true : (t : Bool) → (t || true) ≡ true
or_true true = refl
or_true false = refl

seated_at : (k host : ℕ) (seats : List Seat) → IsAt k host seats → is_seated host seats ≡ true
seated_at k host [] h = absurd h
seated_at zero host (seat ∷ later) h = ap (λ (t : Bool). t || is_seated host later) (eq-eqb seat.host host h)
seated_at (suc k) host (seat ∷ later) h = ap (λ (t : Bool). nat_eq seat.host host || t) (seated_at k host later h) ∙ or_true (nat_eq seat.host host)

same_seat : (k p host other : ℕ) (seats : List Seat) → AreApart seats → IsAt k host seats → IsAt p other seats → host ≡ other → k ≡ p
same_seat k p host other [] a h g e = absurd h
same_seat zero zero host other (seat ∷ later) a h g e = refl
same_seat zero (suc p) host other (seat ∷ later) a h g e = (let one = seated_at p seat.host later (subst (λ n. IsAt p n later) (sym e ∙ sym h) g) in let two = a.0 in absurd (cc))
same_seat (suc k) zero host other (seat ∷ later) a h g e = (let one = seated_at k seat.host later (subst (λ n. IsAt k n later) (e ∙ sym g) h) in let two = a.0 in absurd (cc))
same_seat (suc k) (suc p) host other (seat ∷ later) a h g e = ap suc (same_seat k p host other later a.1 h g e)

same_host : (k p host other : ℕ) (seats : List Seat) → IsAt k host seats → IsAt p other seats → k ≡ p → host ≡ other
same_host k p host other [] h g e = absurd h
same_host zero zero host other (seat ∷ later) h g e = sym h ∙ g
same_host zero (suc p) host other (seat ∷ later) h g e = absurd (omega (arith, e))
same_host (suc k) zero host other (seat ∷ later) h g e = absurd (omega (arith, e))
same_host (suc k) (suc p) host other (seat ∷ later) h g e = same_host k p host other later h g (omega (arith, e))

-- the bit of the seat that is chosen
host_bit : (k p host other : ℕ) (seats : List Seat) → AreApart seats → IsAt k host seats → IsAt p other seats → (bit_at (2 ^ p) k == 1) ≡ nat_eq host other
host_bit k p host other seats a h g = by_same (nat_eq host other) refl
  where
    by_same : (t : Bool) → nat_eq host other ≡ t → (bit_at (2 ^ p) k == 1) ≡ nat_eq host other
    by_same true e = (let same = same_seat k p host other seats a h g (eqb-true host other e) in ap (λ n. bit_at (2 ^ n) k == 1) (sym same) ∙ ap (λ n. n == 1) (bit_at-pow_same k) ∙ sym e)
    by_same false e = ap (λ n. n == 1) (bit_at-pow_other p k (λ same. eqb-false host other e (same_host k p host other seats h g same))) ∙ sym e

-- ---- the sides

-- an asker's place, its nets, and what comes back to it
record IsSide (netlist : Netlist) (chosen : NetValue) (below : BelowNets) (word_bits from : ℕ) (askers : List Asker) (commands : List CommandNets) (shape : Shape) (run : Run) (up : ℕ → Port) (host : ℕ) : Type 0 where
  pub place : ℕ
  pub command : CommandNets
  pub back : BackNets
  pub at : IsAt place host (seats_from askers)
  pub is : up host ≡ port_in shape run command back.wait back.answer
  pub given : IsBackOf netlist chosen below word_bits (from + place) host back

side_of : (netlist : Netlist) (chosen : NetValue) (below : BelowNets) (word_bits from : ℕ) (askers : List Asker) (commands : List CommandNets) (backs : List BackNets) (shape : Shape) (run : Run) (up : ℕ → Port) (host : ℕ) →
    length commands ≡ length askers → length backs ≡ length askers → AreSides shape run askers commands backs up → AreBacks netlist chosen below word_bits from askers backs → is_seated host (seats_from askers) ≡ true → IsSide netlist chosen below word_bits from askers commands shape run up host
side_of netlist chosen below word_bits from [] commands backs shape run up host l m s b h = absurd (cc)
side_of netlist chosen below word_bits from (asker ∷ askers) [] backs shape run up host l m s b h = absurd (omega (arith, l))
side_of netlist chosen below word_bits from (asker ∷ askers) (command ∷ commands) [] shape run up host l m s b h = absurd (omega (arith, m))
side_of netlist chosen below word_bits from (asker ∷ askers) (command ∷ commands) (back ∷ backs) shape run up host l m s b h =
    by_host (nat_eq asker.host host) refl (λ seated. side_of netlist chosen below word_bits (from + 1) askers commands backs shape run up host (omega (arith, l)) (omega (arith, m)) s.1 b.1 seated)
  where
    by_host : (t : Bool) → nat_eq asker.host host ≡ t → (is_seated host (seats_from askers) ≡ true → IsSide netlist chosen below word_bits (from + 1) askers commands shape run up host) → IsSide netlist chosen below word_bits from (asker ∷ askers) (command ∷ commands) shape run up host
    by_host true e rest =
        let same = eqb-true asker.host host e in
        let first : from ≡ from + 0 = omega arith in
        record {
          place = 0;
          command = command;
          back = back;
          at = same;
          is = ap up (sym same) ∙ s.0;
          given = subst (λ n. IsBackOf netlist chosen below word_bits n host back) first (subst (λ n. IsBackOf netlist chosen below word_bits from n back) same b.0);
        }
    by_host false e rest =
        let later = rest (sym (ap (λ (t : Bool). t || is_seated host (seats_from askers)) e) ∙ h) in
        let next : from + 1 + later.place ≡ from + suc later.place = omega arith in
        record {
          place = suc later.place;
          command = later.command;
          back = later.back;
          at = later.at;
          is = later.is;
          given = subst (λ n. IsBackOf netlist chosen below word_bits n host later.back) next later.given;
        }

abbrev raws_at : (ℕ → Port) → ℕ → List Seat → List Raw
raws_at up c seats = map (λ (seat : Seat). raw_at (up seat.host) c) seats

asks_are : (askers : List Asker) (commands : List CommandNets) (backs : List BackNets) (shape : Shape) (run : Run) (up : ℕ → Port) (c : ℕ) → length commands ≡ length askers → length backs ≡ length askers → AreSides shape run askers commands backs up →
    asked (asks_at up c) (seats_from askers) ≡ asks_in (cycle_of run c) commands
asks_are [] [] backs shape run up c l m s = refl
asks_are [] (command ∷ commands) backs shape run up c l m s = absurd (omega (arith, l))
asks_are (asker ∷ askers) [] backs shape run up c l m s = absurd (omega (arith, l))
asks_are (asker ∷ askers) (command ∷ commands) [] shape run up c l m s = absurd (omega (arith, m))
asks_are (asker ∷ askers) (command ∷ commands) (back ∷ backs) shape run up c l m s =
    ap (λ (port : Port). shows port.commands.signals c ∷ asked (asks_at up c) (seats_from askers)) s.0
    ∙ ap (λ (bits : List Bool). is_shown (raw_in (cycle_of run c) command) ∷ bits) (asks_are askers commands backs shape run up c (omega (arith, l)) (omega (arith, m)) s.1)

raws_are : (askers : List Asker) (commands : List CommandNets) (backs : List BackNets) (shape : Shape) (run : Run) (up : ℕ → Port) (c : ℕ) → length commands ≡ length askers → length backs ≡ length askers → AreSides shape run askers commands backs up →
    raws_at up c (seats_from askers) ≡ raws_in (cycle_of run c) commands
raws_are [] [] backs shape run up c l m s = refl
raws_are [] (command ∷ commands) backs shape run up c l m s = absurd (omega (arith, l))
raws_are (asker ∷ askers) [] backs shape run up c l m s = absurd (omega (arith, l))
raws_are (asker ∷ askers) (command ∷ commands) [] shape run up c l m s = absurd (omega (arith, m))
raws_are (asker ∷ askers) (command ∷ commands) (back ∷ backs) shape run up c l m s =
    ap (λ (port : Port). raw_at port c ∷ raws_at up c (seats_from askers)) s.0
    ∙ ap (λ (raws : List Raw). raw_in (cycle_of run c) command ∷ raws) (raws_are askers commands backs shape run up c (omega (arith, l)) (omega (arith, m)) s.1)

spares_are : (askers : List Asker) → spares_of (seats_from askers) ≡ spares_in askers
spares_are [] = refl
spares_are (asker ∷ askers) = ap (λ (xs : List ℕ). (asker.shares - 1) ∷ xs) (spares_are askers)

count_are : (askers : List Asker) → length (seats_from askers) ≡ length askers
count_are [] = refl
count_are (asker ∷ askers) = ap suc (count_are askers)

raw_middle : (up : ℕ → Port) (c : ℕ) (front : List Seat) (seat : Seat) (back : List Seat) → get_or (raws_at up c (front ++ seat ∷ back)) (length front) nothing_shown ≡ raw_at (up seat.host) c
raw_middle up c [] seat back = refl
raw_middle up c (one ∷ front) seat back = raw_middle up c front seat back

-- the last seat, behind the others
record Last (seats : List Seat) : Type 0 where
  pub front : List Seat
  pub seat : Seat
  pub is : front ++ seat ∷ [] ≡ seats

last_of : (seats : List Seat) → 1 ≤ length seats → Last seats
last_of [] h = absurd (omega arith)
last_of (seat ∷ []) h = record { front = []; seat = seat; is = refl }
last_of (seat ∷ next ∷ later) h = (let rest = last_of (next ∷ later) (omega arith) in record { front = seat ∷ rest.front; seat = rest.seat; is = ap (λ (xs : List Seat). seat ∷ xs) rest.is })

-- ---- Booleans

-- the last beat is taken where it neither waits nor has `more` high
ends_when : (wait ends more : Bool) → (ends || more) ≡ true → ((true && not wait) && (ends && not more)) ≡ not (wait || more)
ends_when true ends more h = refl
ends_when false true true h = refl
ends_when false true false h = refl
ends_when false false true h = refl
ends_when false false false h = absurd (cc)

open_when : (t : Bool) (host : ℕ) → (if not t then None else Some host) ≡ (if t then Some host else None)
open_when true host = refl
open_when false host = refl

-- ---- the state

-- the registers are the grant: the holder is one bit among the seats
record IsState (seats : List Seat) (run : Run) (round : RoundNets) (grant : Grant) (c : ℕ) : Type 0 where
  pub held : Held
  pub seats_are : seats_in held ≡ seats
  pub holder : run.net c round.turns.holder.number ≡ 2 ^ place_of held
  pub grant_is : grant ≡ record { open_host = open_host (is_raised (run.net c round.turns.inside.number)) held; round = record { left = run.net c round.turns.left.number; ring = ring_of held } }

some_if : (t : Bool) (p : ℕ) → is_some (if t then Some p else None) ≡ t
some_if true p = refl
some_if false p = refl

same_open : (t : Bool) (held next : Held) → (t ≡ true → next.seat.host ≡ held.seat.host) → open_host t held ≡ open_host t next
same_open true held next h = ap Some (sym (h refl))
same_open false held next h = refl

bit_chosen : (t : Bool) (k p host other : ℕ) (seats : List Seat) → AreApart seats → IsAt k host seats → IsAt p other seats → (bit_at (seat_bit (if t then Some p else None)) k == 1) ≡ is_agent host (if t then Some other else None)
bit_chosen true k p host other seats a h g = host_bit k p host other seats a h g
bit_chosen false k p host other seats a h g = ap (λ n. n == 1) (bit_at-zero k)

module _ (netlist : Netlist) (askers : List Asker) (commands : List CommandNets) (command : CommandNets) (round : RoundNets) (below : BelowNets) (word_bits : ℕ) (backs : List BackNets) (f : RunsRound askers commands command netlist round)
    (b : RoundBackward askers command below word_bits backs netlist round) (l : length commands ≡ length askers) (m : length backs ≡ length askers) (some_askers : 1 ≤ length askers) (apart : AreApart (seats_from askers)) (run : Run)
    (endless : IsEndlessRun netlist run) (shape : Shape) (hosts end : ℕ) (up : ℕ → Port) (s : Surrounds askers commands backs shape run hosts up (below_port shape run command below) end) where
  valued : (c : ℕ) → IsValuation netlist (cycle_of run c)
  valued c = (endless (c + 1)).valuations c (omega arith)

  steps : (c : ℕ) → IsStep round command below.wait (cycle_of run c) (cycle_of run (c + 1))
  steps c = b.steps run (c + 2) (endless (c + 2)) c (omega arith)

  abbrev seats : List Seat
  seats = seats_from askers

  abbrev down : TaggedPort
  down = below_port shape run command below

  abbrev grant : ℕ → Grant
  grant = grant_before seats up down.port

  abbrev inside : ℕ → Bool
  inside c = is_raised (run.net c round.turns.inside.number)

  abbrev left : ℕ → ℕ
  left c = run.net c round.turns.left.number

  abbrev State : ℕ → Type 0
  State c = IsState seats run round (grant c) c

  first : State 0
  first =
      let last = last_of seats (let n = count_are askers in omega (arith, n, some_askers)) in
      let held : Held = record { front = last.front; seat = last.seat; back = [] } in
      let place : length commands - 1 ≡ place_of held = (let n = count_are askers in let k = length-append last.front (last.seat ∷ []) in let e = ap (length {A = Seat}) last.is in omega (arith, n, k, e, l)) in
      let low : inside 0 ≡ false = ap is_raised (f.starts.inside run 1 (endless 1) (omega arith)) in
      let none : left 0 ≡ 0 = f.starts.left run 1 (endless 1) (omega arith) in
      record {
        held = held;
        seats_are = last.is;
        holder = f.starts.holder run 1 (endless 1) (omega arith) ∙ ap (λ n. 2 ^ n) place;
        grant_is = ap (λ (xs : List Seat). record { open_host = None; round = record { left = 0; ring = xs } }) (sym last.is)
            ∙ ap (λ (t : Bool). record { open_host = open_host t held; round = record { left = 0; ring = ring_of held } }) (sym low)
            ∙ ap (λ (n : ℕ). record { open_host = open_host (inside 0) held; round = record { left = n; ring = ring_of held } }) (sym none);
      }

  module _ (c : ℕ) (lt : c < end) (st : State c) where
    abbrev asks : ℕ → Bool
    asks = asks_at up c

    abbrev held : Held
    held = st.held

    ch : Chooses (inside c) asks (left c) held
    ch = chooses_seat asks (left c) held (inside c)

    bits_are : asked asks (seats_in held) ≡ asks_in (cycle_of run c) commands
    bits_are = ap (asked asks) st.seats_are ∙ asks_are askers commands backs shape run up c l m s.sides

    small : place_of held < length commands
    small =
        let n = count_are askers in
        let k = length-append held.front (held.seat ∷ held.back) in
        let e = ap (length {A = Seat}) st.seats_are in
        omega (arith, n, k, e, l)

    turn : IsTurn (cycle_of run c) askers commands command round (place_of held)
    turn = f.turns (cycle_of run c) (valued c) (place_of held) small st.holder

    seat_is : seat_in (cycle_of run c) round.turns commands (place_of held) ≡ seat_of (inside c) asks (left c) held
    seat_is = ap (λ (bits : List Bool). chosen_seat (inside c) (place_of held) (left c) bits) (sym bits_are)

    seat_now : seat_in (cycle_of run c) round.turns commands (place_of held) ≡ (if ch.some then Some (place_of ch.next) else None)
    seat_now = seat_is ∙ ch.seat

    next_seats : seats_in ch.next ≡ seats
    next_seats = ch.seats ∙ st.seats_are

    choice_is : chosen (grant c) asks ≡ record { host = if ch.some then Some ch.next.seat.host else None; round = record { left = left_of (inside c) asks (left c) held; ring = ring_of ch.next } }
    choice_is = ap (λ (g : Grant). chosen g asks) st.grant_is ∙ ch.choice

    left_is : run.net c round.left.number ≡ left_of (inside c) asks (left c) held
    left_is =
        turn.left ∙ ap (λ (bits : List Bool). left_after (inside c) (place_of held) (left c) bits (spares_in askers)) (sym bits_are)
        ∙ ap (λ (xs : List ℕ). left_after (inside c) (place_of held) (left c) (asked asks (seats_in held)) xs) (sym (ap spares_of st.seats_are ∙ spares_are askers))

    holder_is : run.net c round.holder.number ≡ 2 ^ place_of ch.next
    holder_is = turn.holder ∙ ap (λ (o : Option ℕ). 2 ^ holder_after (place_of held) o) seat_is ∙ ap (λ n. 2 ^ n) ch.place

    some_is : is_raised (run.net c round.chosen.some.number) ≡ ch.some
    some_is = turn.chosen.some ∙ ap (is_some {T = ℕ}) seat_now ∙ some_if ch.some (place_of ch.next)

    raw_is : ch.some ≡ true → raw_in (cycle_of run c) command ≡ raw_at (up ch.next.seat.host) c
    raw_is e =
        turn.shown (place_of ch.next) (seat_now ∙ ap (λ (t : Bool). if t then Some (place_of ch.next) else None) e)
        ∙ ap (λ (raws : List Raw). get_or raws (place_of ch.next) nothing_shown) (sym (raws_are askers commands backs shape run up c l m s.sides))
        ∙ ap (λ (xs : List Seat). get_or (raws_at up c xs) (place_of ch.next) nothing_shown) (sym next_seats)
        ∙ raw_middle up c ch.next.front ch.next.seat ch.next.back

    hidden_is : ch.some ≡ false → is_shown (raw_in (cycle_of run c) command) ≡ false
    hidden_is e = turn.hidden (seat_now ∙ ap (λ (t : Bool). if t then Some (place_of ch.next) else None) e)

    next_at : IsAt (place_of ch.next) ch.next.seat.host seats
    next_at = subst (IsAt (place_of ch.next) ch.next.seat.host) next_seats (at_middle ch.next.front ch.next.seat ch.next.back)

    abbrev waits : Bool
    waits = is_raised (run.net c below.wait.number)

    abbrev more : Bool
    more = is_raised (run.net c command.more.number)

    ends_are : ch.some ≡ true → ends_at up down.port c ch.next.seat.host ≡ not (waits || more)
    ends_are e =
        let host = ch.next.seat.host in
        let marked = marked_at (up host) c in
        let shown : is_shown (raw_in (cycle_of run c) command) ≡ true = ap is_shown (raw_is e) ∙ ch.high e in
        let same : marked.more ≡ more = ap (λ (raw : Raw). is_raised raw.more) (sym (raw_is e)) in
        let joined = s.joined host (seated_at (place_of ch.next) host seats next_at) c lt (ch.high e) in
        ap (λ (t : Bool). (t && not waits) && closes marked) shown ∙ ends_when waits marked.transfer.ends marked.more joined ∙ ap (λ (t : Bool). not (waits || t)) same

    next_of : suc c ≡ c + 1
    next_of = omega arith

    inside_next : inside (suc c) ≡ (if ch.some then waits || more else inside c)
    inside_next = ap inside next_of ∙ (steps c).inside ∙ ap (λ (t : Bool). if t then waits || more else inside c) some_is

    open_next : (t : Bool) → ch.some ≡ t → open_after (open_host (inside c) held) (if ch.some then Some ch.next.seat.host else None) (ends_at up down.port c) ≡ open_host (inside (suc c)) ch.next
    open_next true e =
        ap (λ (t : Bool). open_after (open_host (inside c) held) (if t then Some ch.next.seat.host else None) (ends_at up down.port c)) e
        ∙ ap (λ (t : Bool). if t then None else Some ch.next.seat.host) (ends_are e) ∙ open_when (waits || more) ch.next.seat.host
        ∙ ap (λ (t : Bool). open_host t ch.next) (sym (inside_next ∙ ap (λ (t : Bool). if t then waits || more else inside c) e))
    open_next false e =
        ap (λ (t : Bool). open_after (open_host (inside c) held) (if t then Some ch.next.seat.host else None) (ends_at up down.port c)) e
        ∙ same_open (inside c) held ch.next ch.stays ∙ ap (λ (t : Bool). open_host t ch.next) (sym (inside_next ∙ ap (λ (t : Bool). if t then waits || more else inside c) e))

    next_state : State (suc c)
    next_state = record {
      held = ch.next;
      seats_are = next_seats;
      holder = ap (λ n. run.net n round.turns.holder.number) next_of ∙ (steps c).holder ∙ holder_is;
      grant_is =
          ap (λ (g : Grant). grant_after g (chosen (grant c) asks) (ends_at up down.port c)) st.grant_is
          ∙ ap (λ (choice : Choice). grant_after (record { open_host = open_host (inside c) held; round = record { left = left c; ring = ring_of held } }) choice (ends_at up down.port c)) choice_is
          ∙ ap (λ (o : Option ℕ). record { open_host = o; round = record { left = left_of (inside c) asks (left c) held; ring = ring_of ch.next } }) (open_next ch.some refl)
          ∙ ap (λ (n : ℕ). record { open_host = open_host (inside (suc c)) ch.next; round = record { left = n; ring = ring_of ch.next } }) (sym (ap left next_of ∙ (steps c).left ∙ left_is));
    }

    shown_by : (t : Bool) → ch.some ≡ t → MatchOption (if ch.some then Some ch.next.seat.host else None) (IsFalse (shows down.commands.signals c)) (λ host. raw_at down.port c ≡ raw_at (up host) c)
    shown_by true e = subst (λ (t : Bool). MatchOption (if t then Some ch.next.seat.host else None) (IsFalse (shows down.commands.signals c)) (λ host. raw_at down.port c ≡ raw_at (up host) c)) (sym e) (raw_is e)
    shown_by false e = subst (λ (t : Bool). MatchOption (if t then Some ch.next.seat.host else None) (IsFalse (shows down.commands.signals c)) (λ host. raw_at down.port c ≡ raw_at (up host) c)) (sym e) (hidden_is e)

    shown_is : MatchOption (chosen (grant c) asks).host (IsFalse (shows down.commands.signals c)) (λ host. raw_at down.port c ≡ raw_at (up host) c)
    shown_is = subst (λ (choice : Choice). MatchOption choice.host (IsFalse (shows down.commands.signals c)) (λ host. raw_at down.port c ≡ raw_at (up host) c)) (sym choice_is) (shown_by ch.some refl)

    wait_is : (host : ℕ) → IsSide netlist round.chosen.seat below word_bits 0 askers commands shape run up host → is_raised ((up host).commands.waitrequest c) ≡ not (chooses grant up c host) || waits
    wait_is host side =
        let bit : (bit_at (run.net c round.chosen.seat.number) (0 + side.place) == 1) ≡ chooses grant up c host =
        (let none : 0 + side.place ≡ side.place = omega arith in
        ap (λ n. bit_at (run.net c round.chosen.seat.number) n == 1) none ∙ ap (λ n. bit_at n side.place == 1) (turn.chosen.seat ∙ ap seat_bit seat_now)
        ∙ bit_chosen ch.some side.place (place_of ch.next) host ch.next.seat.host seats apart side.at next_at ∙ ap (λ (choice : Choice). is_agent host choice.host) (sym choice_is)) in
        ap (λ (port : Port). is_raised (port.commands.waitrequest c)) side.is ∙ side.given.wait (cycle_of run c) (valued c) ∙ ap (λ (t : Bool). not t || waits) bit

  state : (c : ℕ) → c < end → State c
  state zero lt = first
  state (suc c) lt = next_state c (omega arith) (state c (omega arith))

  side : (host : ℕ) → is_seated host seats ≡ true → IsSide netlist round.chosen.seat below word_bits 0 askers commands shape run up host
  side host e = side_of netlist round.chosen.seat below word_bits 0 askers commands backs shape run up host l m s.sides b.given e

  by_seat : (P : ℕ → Type 0) (host : ℕ) → host < hosts → (is_seated host seats ≡ true → P host) → (IsOutside (up host) down host end → P host) → P host
  by_seat P host lt seated outside = by_test (is_seated host seats) refl
    where
      by_test : (t : Bool) → is_seated host seats ≡ t → P host
      by_test true e = seated e
      by_test false e = outside (s.others host e)

  pub is_arbiter : IsArbiterMachine seats hosts up down grant end
  is_arbiter = record {
    shapes = λ h lt. by_seat (λ h. (up h).shape ≡ down.shape) h lt (λ e. ap (λ (port : Port). port.shape) (side h e).is) (λ o. o.shape);
    begins = refl;
    next = λ c lt. refl;
    shown = λ c lt. shown_is c lt (state c lt);
    wait = λ h c small lt shown. by_seat (λ h. IsTrue (shows (up h).commands.signals c) → is_raised ((up h).commands.waitrequest c) ≡ not (chooses grant up c h) || is_raised (down.commands.waitrequest c)) h small
        (λ e shown. wait_is c lt (state c lt) h (side h e)) (λ o shown. absurd (let low = o.silent c lt in cc)) shown;
    valid = λ h c small lt. by_seat (λ h. is_raised ((up h).answers.valid c) ≡ is_raised (down.answers.valid c) && nat_eq (down.answer_tag c) h) h small
        (λ e. ap (λ (port : Port). is_raised (port.answers.valid c)) (side h e).is ∙ (side h e).given.valid (cycle_of run c) (valued c)) (λ o. o.valid c lt);
    word = λ h c small lt comes. by_seat (λ h. IsTrue (is_raised ((up h).answers.valid c)) → (up h).answers.word c ≡ down.answers.word c) h small
        (λ e comes. ap (λ (port : Port). port.answers.word c) (side h e).is ∙ ap (λ (net : NetValue). run.net c net.number) (side h e).given.word) (λ o comes. o.word c lt comes) comes;
    code = λ h c small lt comes. by_seat (λ h. IsTrue (is_raised ((up h).answers.valid c)) → (up h).answers.code c ≡ down.answers.code c) h small
        (λ e comes. ap (λ (port : Port). port.answers.code c) (side h e).is ∙ ap (λ (net : NetValue). run.net c net.number) (side h e).given.code) (λ o comes. o.code c lt comes) comes;
  }

-- ---- two or more askers, and one alone

some_round : (P : RoundNets → Type 0) (o : Option RoundNets) (round : RoundNets) → o ≡ Some round → IfSome o P → P round
some_round P o round e h = let k : IfSome (Some round) P = subst (λ (x : Option RoundNets). IfSome x P) e h in k

pub nets_are_an_arbiter : (netlist : Netlist) (askers : List Asker) (commands : List CommandNets) (command : CommandNets) (held : HeldArbiter) (round : RoundNets) (below : BelowNets) (word_bits : ℕ) (backs : List BackNets) → held.round ≡ Some round →
    ArbiterForward askers commands command held netlist → RoundBackward askers held.command below word_bits backs netlist round → length commands ≡ length askers → length backs ≡ length askers → 1 ≤ length askers → AreApart (seats_from askers) → RunsAsArbiter netlist askers commands command below backs
nets_are_an_arbiter netlist askers commands command held round below word_bits backs is f b l m some apart longer e run endless shape hosts end up s =
    let forward : RunsRound askers commands command longer round = some_round (RunsRound askers commands command longer) held.round round is (forward_lasts askers commands command held netlist longer f e).round in
    let backward : RoundBackward askers command below word_bits backs longer round = round_backward_lasts askers command below word_bits backs netlist longer round (subst (λ (c : CommandNets). RoundBackward askers c below word_bits backs netlist round) f.command_is b) e in
    (grant_before (seats_from askers) up (below_port shape run command below).port, is_arbiter longer askers commands command round below word_bits backs forward backward l m some apart run endless shape hosts end up s)

abbrev pub WireIsArbiter : Type 0
WireIsArbiter = (seat : Seat) (hosts : ℕ) (up : ℕ → Port) (down : TaggedPort) (end : ℕ) → IsLoneWire seat.host hosts up down end → (grant : ℕ → Grant) × IsArbiterMachine (seat ∷ []) hosts up down grant end

no_and : (t : Bool) → (t && false) ≡ false
no_and true = refl
no_and false = refl

turned_eq : (a b : ℕ) → nat_eq a b ≡ false → nat_eq b a ≡ false
turned_eq a b e = ne_eqb b a (λ p. eqb-false a b e (sym p))

lone_wire : (netlist : Netlist) (asker : Asker) (command : CommandNets) (below : BelowNets) (run : Run) → IsEndlessRun netlist run → BearsTag netlist (asker ∷ []) below → (shape : Shape) (hosts end : ℕ) (up : ℕ → Port) →
    Surrounds (asker ∷ []) (command ∷ []) (lone_back below ∷ []) shape run hosts up (below_port shape run command below) end → IsLoneWire asker.host hosts up (below_port shape run command below) end
lone_wire netlist asker command below run endless tag shape hosts end up s = record {
  one = s.sides.0;
  tag = λ c lt v. tagged c;
  shapes = λ h lt. by_host h (nat_eq asker.host h) refl;
  silent = λ h c e lt. (outside h e).silent c lt;
  quiet = λ h c small e lt.
      (outside h e).valid c lt ∙ ap (λ n. is_raised (run.net c below.answer.valid.number) && nat_eq n h) (tagged c)
      ∙ ap (λ (t : Bool). is_raised (run.net c below.answer.valid.number) && t) (turned_eq h asker.host e) ∙ no_and (is_raised (run.net c below.answer.valid.number));
}
  where
    tagged : (c : ℕ) → run.net c below.tag.number ≡ asker.host
    tagged c = tag (cycle_of run c) ((endless (c + 1)).valuations c (omega arith))

    outside : (h : ℕ) → nat_eq h asker.host ≡ false → IsOutside (up h) (below_port shape run command below) h end
    outside h e = s.others h (ap (λ (t : Bool). t || false) (turned_eq h asker.host e))

    by_host : (h : ℕ) (t : Bool) → nat_eq asker.host h ≡ t → (up h).shape ≡ shape
    by_host h true e = ap (λ n. (up n).shape) (sym (eqb-true asker.host h e)) ∙ ap (λ (port : Port). port.shape) s.sides.0
    by_host h false e = (outside h (turned_eq asker.host h e)).shape

bears_on : (a b : Netlist) (asker : Asker) (below : BelowNets) → Extends a b → BearsTag a (asker ∷ []) below → BearsTag b (asker ∷ []) below
bears_on a b asker below e h = λ cycle v. h cycle (e.valuations cycle v)

pub nets_are_a_wire : WireIsArbiter → (netlist : Netlist) (askers : List Asker) (commands : List CommandNets) (command : CommandNets) (below : BelowNets) (backs : List BackNets) → length askers ≡ 1 →
    commands ≡ command ∷ [] → BearsTag netlist askers below → backs ≡ lone_back below ∷ [] → RunsAsArbiter netlist askers commands command below backs
nets_are_a_wire wire netlist [] commands command below backs one c tag b longer e run endless shape hosts end up s = absurd (omega (arith, one))
nets_are_a_wire wire netlist (asker ∷ next ∷ later) commands command below backs one c tag b longer e run endless shape hosts end up s = absurd (omega (arith, one))
nets_are_a_wire wire netlist (asker ∷ []) commands command below backs one c tag b longer e run endless shape hosts end up s =
    let down = below_port shape run command below in
    let around : Surrounds (asker ∷ []) (command ∷ []) (lone_back below ∷ []) shape run hosts up down end =
    subst (λ (xs : List BackNets). Surrounds (asker ∷ []) (command ∷ []) xs shape run hosts up down end) b (subst (λ (xs : List CommandNets). Surrounds (asker ∷ []) xs backs shape run hosts up down end) c s) in
    wire (record { host = asker.host; shares = asker.shares }) hosts up down end (lone_wire longer asker command below run endless (bears_on netlist longer asker below e tag) shape hosts end up around)

pub one_asker : (round : Option RoundNets) (n : ℕ) → is_some round ≡ nat_lt 1 n → round ≡ None → 1 ≤ n → n ≡ 1
one_asker round n kind none some = let few = ltb-false 1 n (sym kind ∙ ap (is_some {T = RoundNets}) none) in omega (arith, few, some)

pub ok_of : {X E : Type 0} (r : Result X E) (P : Type 0) → P → OnOk r P
ok_of (Ok x) P h = h
ok_of (Err e) P h = tt
