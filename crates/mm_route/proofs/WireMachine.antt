-- The nets of a wire are the machine of a route whose only place is the agent.
use Rattle.std.proofs.Common.{◌≡◌, ℕ, zero, suc, ◌+◌, ◌-◌, ◌*◌, ◌%◌, ◌^◌, ◌<◌, ◌≤◌, Bool, true, false, not, ◌&&◌, ◌||◌, if◌then◌else◌, nat_eq, nat_lt, [], ◌∷◌, Option, Some, None, IsTrue, refl, sym, ap, ◌∙◌, arith}
use Rattle.std.proofs.lemmas.Bool.{eqb-true, eq-eqb, false≢true}
use Rattle.histories.specs.History.{is_raised, one_if}
use Rattle.netlist.specs.Nets.{NetValue}
use Rattle.netlist.specs.Netlists.{Netlist, IsNet}
use Rattle.netlist.specs.Runs.{Run, cycle_of, IsEndlessRun, IsValuation, Always}
use Rattle.net_parts.specs.Nets.{StartsLow}
use Rattle.net_parts.specs.Laws.{net_fits}
use Rattle.memory_runs.specs.Views.{System, Shape, Kind}
use Rattle.memory_runs.specs.Views.Kind.{Reads, Writes}
use Rattle.memory_runs.specs.Commands.{byte_address}
use Rattle.memory_runs.specs.Order.{is_agent}
use Rattle.memory_machines.specs.Paths.{AnswerView}
use Rattle.memory_machines.specs.Link.{Port, takes}
use Rattle.memory_parts.specs.Queue.{takes_read, by_option}
use Rattle.memory_parts.specs.Route.{RouteState, kind_at, place_now, is_open, is_same_place, read_count}
use Rattle.command_nets.specs.declared.nets.AnswerNets.{AnswerNets}
use Rattle.command_nets.specs.Nets.{port_in}
use Rattle.memory_runs.specs.declared.sides.route.Route.{Route}
use Rattle.mm_route.specs.declared.back.BackNets.{BackNets}
use Rattle.mm_route.specs.declared.wire.HeldWire.{HeldWire}
use Rattle.mm_route.specs.Entries.{IsEntry, serves, is_inside, holds}
use Rattle.mm_route.specs.Taken.{EachStep}
use Rattle.mm_route.specs.Wire.{below_wire, IsOwed, OwesOn}
use Rattle.mm_route.specs.Machine.{MapsAs, down_at, silent_port, places_at, RunsAsRoute}
use Rattle.mm_route.proofs.Decoding.{whole_inside}
use Rattle.mm_route.proofs.Machine.{IsBelow, choose_port}

-- ---- the only place

only_agent : (agent : ℕ) (place : Option ℕ) → is_agent agent place ≡ true → place ≡ Some agent
only_agent agent None h = absurd (false≢true h)
only_agent agent (Some other) h = ap (λ n. Some n) (sym (eqb-true agent other h))

serves_both : (entry : Route) (kind : Kind) → entry.reads ≡ true → entry.writes ≡ true → serves entry kind ≡ true
serves_both entry Reads reads writes = reads
serves_both entry Writes reads writes = writes

chosen_same : {X : Type 0} (t : Bool) (x y z : X) → x ≡ z → y ≡ z → (if t then x else y) ≡ z
chosen_same true x y z e f = e
chosen_same false x y z e f = f

-- who owes, from who owed
next_owner : (taken owed owes : Bool) (place owing : Option ℕ) (agent : ℕ) → place ≡ Some agent → owing ≡ (if owed then Some agent else None) → owes ≡ (owed || taken) → (if taken then place else owing) ≡ (if owes then Some agent else None)
next_owner true true owes place owing agent p o e = p ∙ sym (ap (λ t. if t then Some agent else None) e)
next_owner true false owes place owing agent p o e = p ∙ sym (ap (λ t. if t then Some agent else None) e)
next_owner false true owes place owing agent p o e = o ∙ sym (ap (λ t. if t then Some agent else None) e)
next_owner false false owes place owing agent p o e = o ∙ sym (ap (λ t. if t then Some agent else None) e)

neither : (s t : Bool) → (s || t) ≡ false → (s ≡ false) × (t ≡ false)
neither true t e = absurd (false≢true (sym e))
neither false t e = (refl, e)

open_by_debt : (write same : Bool) (owed : ℕ) → owed ≡ 0 → (write || nat_eq owed 0 || same) ≡ true
open_by_debt true same owed e = refl
open_by_debt false same owed e = ap (λ n. nat_eq n 0 || same) e

open_by_place : (write free same : Bool) → same ≡ true → (write || free || same) ≡ true
open_by_place true free same e = refl
open_by_place false true same e = refl
open_by_place false false same e = e

same_place : (agent : ℕ) (owing place : Option ℕ) → owing ≡ Some agent → place ≡ Some agent → is_same_place owing place ≡ true
same_place agent owing place o p = ap (λ x. is_same_place x place) o ∙ ap (is_agent agent) p ∙ eq-eqb agent agent refl

back_again : (sum word : ℕ) → word ≤ sum → (sum - word) + word ≡ sum
back_again sum word le = omega (arith, le)

-- ---- the state, which no register holds

-- the last beat that was taken had `more` high
abbrev pub inside_above : Port → ℕ → Bool
inside_above up zero = false
inside_above up (suc c) = if takes up c then is_raised (up.commands.more c) else inside_above up c

-- the words that are owed above as the cycle begins
abbrev pub owed_above : Port → ℕ → ℕ
owed_above up zero = 0
owed_above up (suc c) = (owed_above up c + read_count up c) - one_if (is_raised (up.answers.valid c))

-- ---- the machine

-- the nets of a wire to the agent of an entry
pub record IsWire (netlist : Netlist) (wire : HeldWire) (entry : Route) (host : ℕ) (back : BackNets) (answer : AnswerNets) : Type 0 where
  pub reads : entry.reads ≡ true
  pub writes : entry.writes ≡ true
  pub wide : wire.command.address.width ≤ entry.bits
  pub entry_is : IsEntry wire.command.address.width entry
  pub address : IsNet netlist wire.command.address
  pub tag : Always netlist (λ cycle. cycle.net wire.tag.number ≡ host)
  pub starts : StartsLow netlist wire.owing
  pub word : answer.word ≡ back.answer.word
  pub code : answer.code ≡ back.answer.code
  pub valid : Always netlist (λ cycle. IsOwed cycle wire.owing back answer)
  pub next : EachStep netlist (OwesOn wire.owing wire.command back.wait)

module _ (system : System) (host room : ℕ) (shape : Shape) (others : ℕ → AnswerView) (entry : Route) (wire : HeldWire) (back : BackNets) (answer : AnswerNets) (netlist : Netlist)
    (maps : MapsAs (entry ∷ []) wire.command.address.width system host shape) (is : IsWire netlist wire entry host back answer) (run : Run) (endless : IsEndlessRun netlist run) where
  valued : (c : ℕ) → IsValuation netlist (cycle_of run c)
  valued c = (endless (c + 1)).valuations c (omega arith)

  next_of : (c : ℕ) → suc c ≡ c + 1
  next_of c = omega arith

  abbrev pub up : Port
  up = port_in shape run wire.command back.wait answer

  abbrev pub side : Port
  side = port_in shape run (below_wire wire) back.wait back.answer

  abbrev pub down : ℕ → Port
  down = down_at shape run wire.command host others (entry ∷ []) (below_wire wire ∷ []) (back ∷ [])

  abbrev pub state : RouteState
  state = record {
    inside = inside_above up;
    kept = λ c. (places_at system host up (inside_above up) c).kept;
    owed = owed_above up;
    owing = λ c. (places_at system host up (inside_above up) c).owing;
  }

  abbrev pub place : ℕ → Option ℕ
  place c = place_now system host up state c

  -- ---- each command goes to the agent

  decoded_is : (c : ℕ) → system.place host (kind_at up c) (byte_address shape (run.net c wire.command.address.number)) ≡ Some entry.agent
  decoded_is c =
      let address = run.net c wire.command.address.number in
      let byte : byte_address shape address ≡ address * 1 - address * 1 % shape.word_bytes = ap (λ u. address * u - (address * u) % shape.word_bytes) maps.bytes in
      let fits = net_fits netlist wire.command.address is.address (cycle_of run c) (valued c) in
      let small : byte_address shape address < 2 ^ wire.command.address.width = omega (arith, byte, fits) in
      let held : holds entry (kind_at up c) (byte_address shape address) ≡ true =
      ap (λ t. t && is_inside entry (byte_address shape address)) (serves_both entry (kind_at up c) is.reads is.writes) ∙ whole_inside entry wire.command.address.width (byte_address shape address) is.entry_is is.wide small in
      only_agent entry.agent _ ((maps.held (kind_at up c) (byte_address shape address) small).0 ∙ held)

  place_is : (c : ℕ) → place c ≡ Some entry.agent
  place_is zero = decoded_is zero
  place_is (suc c) = chosen_same (inside_above up (suc c)) (place c) _ (Some entry.agent) (place_is c) (decoded_is (suc c))

  -- ---- who owes, and what

  raised_next : (c : ℕ) → is_raised (run.net (suc c) wire.owing.number) ≡ (is_raised (run.net c wire.owing.number) || takes_read up c)
  raised_next c = ap (λ n. is_raised (run.net n wire.owing.number)) (next_of c) ∙ is.next run (c + 2) (endless (c + 2)) c (omega arith)

  owing_is : (c : ℕ) → state.owing c ≡ (if is_raised (run.net c wire.owing.number) then Some entry.agent else None)
  owing_is zero = sym (ap (λ n. if is_raised n then Some entry.agent else None) (is.starts run 1 (endless 1) (omega arith)))
  owing_is (suc c) = next_owner (takes_read up c) (is_raised (run.net c wire.owing.number)) _ (place c) (state.owing c) entry.agent (place_is c) (owing_is c) (raised_next c)

  nothing_owed : (c : ℕ) → is_raised (run.net c wire.owing.number) ≡ false → state.owed c ≡ 0
  nothing_owed zero low = refl
  nothing_owed (suc c) low =
      let before = neither (is_raised (run.net c wire.owing.number)) (takes_read up c) (sym (raised_next c) ∙ low) in
      let none = nothing_owed c before.0 in
      let asked : read_count up c ≡ 0 = ap (λ t. if t then up.commands.count c else 0) before.1 in
      omega (arith, none, asked)

  owing_on : (c : ℕ) (t : Bool) → is_raised (run.net c wire.owing.number) ≡ t → state.owing c ≡ (if t then Some entry.agent else None)
  owing_on c t e = owing_is c ∙ ap (λ s. if s then Some entry.agent else None) e

  open_is : (c : ℕ) → is_open system host up state c ≡ true
  open_is c = by (is_raised (run.net c wire.owing.number)) refl
    where
      by : (t : Bool) → is_raised (run.net c wire.owing.number) ≡ t → is_open system host up state c ≡ true
      by true e = open_by_place (is_raised (up.commands.write c)) (nat_eq (state.owed c) 0) _ (same_place entry.agent (state.owing c) (place c) (owing_on c true e) (place_is c))
      by false e = open_by_debt (is_raised (up.commands.write c)) (is_same_place (state.owing c) (place c)) (state.owed c) (nothing_owed c e)

  -- ---- the sides below

  side_is : down entry.agent ≡ port_in shape run (below_wire wire) back.wait back.answer
  side_is = ap (λ t. if t then side else silent_port shape run wire.command host (others entry.agent)) (eq-eqb entry.agent entry.agent refl)

  goes : (a c : ℕ) → (is_agent a (place c) && is_open system host up state c) ≡ nat_eq a entry.agent
  goes a c = ap (λ (p : Option ℕ). is_agent a p && is_open system host up state c) (place_is c) ∙ ap (λ t. nat_eq a entry.agent && t) (open_is c) ∙ and_true (nat_eq a entry.agent)
    where
      and_true : (t : Bool) → (t && true) ≡ t
      and_true true = refl
      and_true false = refl

  below : (a c : ℕ) → IsBelow run c shape wire.command host (is_agent a (place c) && is_open system host up state c) (down a)
  below a c =
      choose_port (IsBelow run c shape wire.command host (is_agent a (place c) && is_open system host up state c)) (nat_eq entry.agent a) (port_in shape run (below_wire wire) back.wait back.answer) (silent_port shape run wire.command host (others a))
      (λ own.
      (let here : (is_agent a (place c) && is_open system host up state c) ≡ true = goes a c ∙ eq-eqb a entry.agent (sym (eqb-true entry.agent a own)) in
      let shown : (level : ℕ) → level ≡ (if is_agent a (place c) && is_open system host up state c then level else 0) = λ level. sym (ap (λ t. if t then level else 0) here) in
      record {
        shape_is = refl;
        read = shown _;
        write = shown _;
        address = refl;
        word = refl;
        enables = refl;
        count = refl;
        more = refl;
        tag = is.tag (cycle_of run c) (valued c);
      }))
      (λ other.
      (let apart : (is_agent a (place c) && is_open system host up state c) ≡ false = goes a c ∙ turned a entry.agent other in
      let hidden : (level : ℕ) → 0 ≡ (if is_agent a (place c) && is_open system host up state c then level else 0) = λ level. sym (ap (λ t. if t then level else 0) apart) in
      record {
        shape_is = refl;
        read = hidden _;
        write = hidden _;
        address = refl;
        word = refl;
        enables = refl;
        count = refl;
        more = refl;
        tag = refl;
      }))
    where
      turned : (x y : ℕ) → nat_eq y x ≡ false → nat_eq x y ≡ false
      turned x y e = by (nat_eq x y) refl
        where
          by : (t : Bool) → nat_eq x y ≡ t → nat_eq x y ≡ false
          by true same = absurd (false≢true (sym e ∙ eq-eqb y x (sym (eqb-true x y same))))
          by false apart = apart

  -- ---- what is told above

  waits_are : (c : ℕ) → is_raised (run.net c back.wait.number) ≡ (not (is_open system host up state c) || by_option (place c) false (λ a. is_raised ((down a).commands.waitrequest c)))
  waits_are c =
      sym (ap (λ t. not t || by_option (place c) false (λ a. is_raised ((down a).commands.waitrequest c))) (open_is c)
      ∙ ap (λ (p : Option ℕ). by_option p false (λ a. is_raised ((down a).commands.waitrequest c))) (place_is c)
      ∙ ap (λ (p : Port). is_raised (p.commands.waitrequest c)) side_is)

  told_by : {X : Type 0} (c : ℕ) (t : Bool) → is_raised (run.net c wire.owing.number) ≡ t → (none : X) (f : Port → X) → by_option (state.owing c) none (λ a. f (down a)) ≡ (if t then f side else none)
  told_by c true e none f = ap (λ (o : Option ℕ). by_option o none (λ a. f (down a))) (owing_on c true e) ∙ ap f side_is
  told_by c false e none f = ap (λ (o : Option ℕ). by_option o none (λ a. f (down a))) (owing_on c false e)

  valid_is : (c : ℕ) → is_raised (run.net c answer.valid.number) ≡ by_option (state.owing c) (nat_lt 0 (state.owed c)) (λ a. is_raised ((down a).answers.valid c))
  valid_is c = by (is_raised (run.net c wire.owing.number)) refl
    where
      by : (t : Bool) → is_raised (run.net c wire.owing.number) ≡ t → is_raised (run.net c answer.valid.number) ≡ by_option (state.owing c) (nat_lt 0 (state.owed c)) (λ a. is_raised ((down a).answers.valid c))
      by true e = is.valid (cycle_of run c) (valued c) ∙ ap (λ t. t && is_raised (run.net c back.answer.valid.number)) e ∙ sym (told_by c true e (nat_lt 0 (state.owed c)) (λ (p : Port). is_raised (p.answers.valid c)))
      by false e =
          is.valid (cycle_of run c) (valued c) ∙ ap (λ t. t && is_raised (run.net c back.answer.valid.number)) e
          ∙ sym (told_by c false e (nat_lt 0 (state.owed c)) (λ (p : Port). is_raised (p.answers.valid c)) ∙ ap (nat_lt 0) (nothing_owed c e))

  -- a word comes only where the agent owes it
  owed_where_valid : (c : ℕ) → IsTrue (is_raised (run.net c answer.valid.number)) → is_raised (run.net c wire.owing.number) ≡ true
  owed_where_valid c comes = by (is_raised (run.net c wire.owing.number)) refl
    where
      by : (t : Bool) → is_raised (run.net c wire.owing.number) ≡ t → is_raised (run.net c wire.owing.number) ≡ true
      by true e = e
      by false e = absurd (false≢true (sym (is.valid (cycle_of run c) (valued c) ∙ ap (λ t. t && is_raised (run.net c back.answer.valid.number)) e) ∙ comes))

  abbrev at : ℕ → NetValue → ℕ
  at c net = run.net c net.number

  pub runs_as_route : (end : ℕ) → RunsAsRoute system host room up down end
  runs_as_route end = record {
    state = state;
    is_machine = record {
      shapes = λ a lt. (below a 0).shape_is;
      read = λ a c lt le. (below a c).read;
      write = λ a c lt le. (below a c).write;
      address = λ a c lt le. (below a c).address;
      word = λ a c lt le. (below a c).word;
      enables = λ a c lt le. (below a c).enables;
      count = λ a c lt le. (below a c).count;
      more = λ a c lt le. (below a c).more;
      tag = λ a c lt le. (below a c).tag;
      wait = λ c lt. waits_are c;
      outside = refl;
      stays = λ c lt. refl;
      keeps = λ c lt. refl;
      nothing = refl;
      nobody = refl;
      counts = λ c lt few some. back_again (state.owed c + read_count up c) (one_if (is_raised (run.net c answer.valid.number))) some;
      owes = λ c lt. refl;
      valid = λ c lt. valid_is c;
      answer = λ c lt comes. ap (at c) is.word ∙ sym (told_by c true (owed_where_valid c comes) 0 (λ (p : Port). p.answers.word c));
      code = λ c lt comes. ap (at c) is.code ∙ sym (told_by c true (owed_where_valid c comes) 3 (λ (p : Port). p.answers.code c));
    };
  }
