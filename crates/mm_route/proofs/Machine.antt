-- The nets of a router are the machine of a route.
use Rattle.std.proofs.Common.{◌≡◌, ℕ, zero, suc, ◌+◌, ◌-◌, ◌*◌, ◌/◌, ◌%◌, ◌^◌, ◌<◌, ◌≤◌, Bool, true, false, not, ◌&&◌, ◌||◌, ◌==◌, if◌then◌else◌, nat_eq, nat_lt, List, [], ◌∷◌, length, map, get_or, Option, Some, None, IfSome, refl, sym, subst, ap, ◌∙◌, arith}
use Rattle.std.proofs.lemmas.Bool.{eqb-true, eqb-false, le-leb}
use Rattle.std.specs.Int.{bit_at}
use Rattle.histories.specs.History.{is_raised, one_if}
use Rattle.netlist.specs.Nets.{NetValue}
use Rattle.netlist.specs.Netlists.{Netlist}
use Rattle.netlist.specs.Runs.{Run, cycle_of, IsEndlessRun, IsValuation}
use Rattle.net_parts.specs.Bits.{of_chosen}
use Rattle.net_parts.specs.Laws.{net_fits}
use Rattle.net_parts.specs.Groups.{values_of}
use Rattle.memory_runs.specs.Views.{System, Shape}
use Rattle.memory_runs.specs.Commands.{byte_address}
use Rattle.memory_runs.specs.Order.{is_agent}
use Rattle.memory_machines.specs.Paths.{AnswerView}
use Rattle.memory_machines.specs.Link.{Port, takes}
use Rattle.memory_parts.specs.Queue.{takes_read, by_option}
use Rattle.memory_parts.specs.Route.{RouteState, kind_at, place_now, is_open}
use Rattle.command_nets.specs.declared.nets.CommandNets.{CommandNets}
use Rattle.command_nets.specs.declared.nets.AnswerNets.{AnswerNets}
use Rattle.command_nets.specs.Nets.{port_in}
use Rattle.memory_runs.specs.declared.sides.route.Route.{Route}
use Rattle.mm_route.specs.declared.back.BackNets.{BackNets}
use Rattle.mm_route.specs.declared.registers.LatchNets.{LatchNets}
use Rattle.mm_route.specs.declared.router.HeldRouter.{HeldRouter}
use Rattle.mm_route.specs.declared.shown.ShownNets.{ShownNets}
use Rattle.mm_route.specs.Entries.{place_bits, hits}
use Rattle.mm_route.specs.Shown.{AreShown}
use Rattle.mm_route.specs.Registers.{LatchStartsLow}
use Rattle.mm_route.specs.Forward.{RouterForward, router_forward_lasts, latched_in}
use Rattle.mm_route.specs.Backward.{RouterBackward, router_backward_lasts, picked, answer_group, IsNextLatch, IsNext}
use Rattle.mm_route.specs.Machine.{has_entry, MapsAs, down_at, inside_at, state_in, RunsAsRoute, RunsAsMachine}
use Rattle.mm_route.proofs.Places.{IsPlace, default_place, hits_are, none_bits, same_place, BitsFrom, bits_from}

-- ---- levels and choices

raised_unless : (x : ℕ) → is_raised x ≡ not (x == 0)
raised_unless x = by_test (x == 0) refl
  where
    by_test : (t : Bool) → (x == 0) ≡ t → is_raised x ≡ not (x == 0)
    by_test true e = ap is_raised (eqb-true x 0 e) ∙ sym (ap not e)
    by_test false e = le-leb 1 x (let apart = eqb-false x 0 e in omega (arith, apart)) ∙ sym (ap not e)

turned_choice : {X : Type 0} (t : Bool) (x y : X) → (if t then y else x) ≡ (if not t then x else y)
turned_choice true x y = refl
turned_choice false x y = refl

chosen_raised : {X : Type 0} (bit : ℕ) (x y : X) → (if bit == 0 then y else x) ≡ (if is_raised bit then x else y)
chosen_raised bit x y = turned_choice (bit == 0) x y ∙ ap (λ t. if t then x else y) (sym (raised_unless bit))

bits_chosen : (t : Bool) (entries : List Route) (one other : Option ℕ) (x y : ℕ) → x ≡ place_bits entries one → y ≡ place_bits entries other → (if t then x else y) ≡ place_bits entries (if t then one else other)
bits_chosen true entries one other x y e f = e
bits_chosen false entries one other x y e f = f

place_chosen : (t : Bool) (entries : List Route) (one other : Option ℕ) → IsPlace entries one → IsPlace entries other → IsPlace entries (if t then one else other)
place_chosen true entries one other h k = h
place_chosen false entries one other h k = k

-- ---- the latch

-- it holds this place as bits
abbrev pub Latches : Run → ℕ → List Route → Option ℕ → LatchNets → Type 0
Latches run c entries place latch = run.net c latch.kept.number ≡ place_bits entries place

latched_bits : (latch : Option LatchNets) (run : Run) (c x : ℕ) (entries : List Route) (kept decoded : Option ℕ) → IfSome latch (Latches run c entries kept) → x ≡ place_bits entries decoded →
    latched_in (cycle_of run c) latch x ≡ place_bits entries (if inside_at run latch c then kept else decoded)
latched_bits None run c x entries kept decoded h e = e
latched_bits (Some latch) run c x entries kept decoded h e = chosen_raised (run.net c latch.inside.number) _ _ ∙ bits_chosen (is_raised (run.net c latch.inside.number)) entries kept decoded _ _ h e

latches_first : (latch : Option LatchNets) (netlist : Netlist) (run : Run) (entries : List Route) → IsEndlessRun netlist run → IfSome latch (LatchStartsLow netlist) → IfSome latch (Latches run 0 entries None)
latches_first None netlist run entries endless h = tt
latches_first (Some latch) netlist run entries endless h = h.kept run 1 (endless 1) (omega arith) ∙ sym (none_bits entries)

latches_next : (latch : Option LatchNets) (shown : ShownNets) (taken : Bool) (run : Run) (c : ℕ) (entries : List Route) (place : Option ℕ) → IfSome latch (IsNextLatch shown taken (cycle_of run c) (cycle_of run (c + 1))) →
    run.net c shown.place.number ≡ place_bits entries place → IfSome latch (Latches run (c + 1) entries place)
latches_next None shown taken run c entries place h e = tt
latches_next (Some latch) shown taken run c entries place h e = h.kept ∙ e

outside_first : (latch : Option LatchNets) (netlist : Netlist) (run : Run) → IsEndlessRun netlist run → IfSome latch (LatchStartsLow netlist) → inside_at run latch 0 ≡ false
outside_first None netlist run endless h = refl
outside_first (Some latch) netlist run endless h = ap is_raised (h.inside run 1 (endless 1) (omega arith))

same_choice : (t : Bool) → (if t then false else false) ≡ false
same_choice true = refl
same_choice false = refl

-- where no place is latched, no beat has `more`
inside_next : (latch : Option LatchNets) (shown : ShownNets) (taken : Bool) (run : Run) (c : ℕ) → IfSome latch (IsNextLatch shown taken (cycle_of run c) (cycle_of run (c + 1))) → (latch ≡ None → run.net c shown.command.more.number ≡ 0) →
    inside_at run latch (c + 1) ≡ (if taken then is_raised (run.net c shown.command.more.number) else inside_at run latch c)
inside_next None shown taken run c h single = sym (same_choice taken) ∙ ap (λ n. if taken then is_raised n else false) (sym (single refl))
inside_next (Some latch) shown taken run c h single = ap is_raised h.inside ∙ of_chosen is_raised taken _ _

one_is : (t : Bool) → (one_if t == 1) ≡ t
one_is true = refl
one_is false = refl

raised_one : (t : Bool) → is_raised (one_if t) ≡ t
raised_one true = refl
raised_one false = refl

pub option_of : {X Y : Type 0} (h : X → Y) (place : Option ℕ) (none : X) (some : ℕ → X) → h (by_option place none some) ≡ by_option place (h none) (λ a. h (some a))
option_of h None none some = refl
option_of h (Some a) none some = refl

same_member : (a b : ℕ) → Some a ≡ Some b → a ≡ b
same_member a b e = ap (λ (o : Option ℕ). by_option o 0 (λ x. x)) e

-- ---- the side of an agent

pub choose_port : (P : Port → Type 0) (t : Bool) (p q : Port) → (t ≡ true → P p) → (t ≡ false → P q) → P (if t then p else q)
choose_port P true p q f g = f refl
choose_port P false p q f g = g refl

silent_low : (t gate : Bool) (level : ℕ) → (t ≡ true → false ≡ true) → 0 ≡ (if t && gate then level else 0)
silent_low true gate level f = (let e = f refl in cc)
silent_low false gate level f = refl

-- what an agent's side shows in a cycle: the command above, where it goes here
pub record IsBelow (run : Run) (c : ℕ) (shape : Shape) (command : CommandNets) (host : ℕ) (here : Bool) (port : Port) : Type 0 where
  pub shape_is : port.shape ≡ shape
  pub read : port.commands.read c ≡ (if here then run.net c command.read.number else 0)
  pub write : port.commands.write c ≡ (if here then run.net c command.write.number else 0)
  pub address : port.commands.address c ≡ run.net c command.address.number
  pub word : port.commands.word c ≡ run.net c command.word.number
  pub enables : port.commands.enables c ≡ run.net c command.enables.number
  pub count : port.commands.count c ≡ run.net c command.count.number
  pub more : port.commands.more c ≡ run.net c command.more.number
  pub tag : port.commands.tag c ≡ host

is_below : (netlist : Netlist) (shown : ShownNets) (shape : Shape) (others : ℕ → AnswerView) (run : Run) (c host agent : ℕ) (gate : Bool) (k : ℕ) (place : Option ℕ) (entries : List Route) (commands : List CommandNets) (backs : List BackNets) →
    IsValuation netlist (cycle_of run c) → run.net c shown.tag.number ≡ host → is_raised (run.net c shown.gate.number) ≡ gate → length commands ≡ length entries → length backs ≡ length entries →
    BitsFrom k (run.net c shown.place.number) entries place → AreShown netlist shown k commands → (is_agent agent place ≡ true → has_entry entries agent ≡ true) →
    IsBelow run c shape shown.command host (is_agent agent place && gate) (down_at shape run shown.command host others entries commands backs agent)
is_below netlist shown shape others run c host agent gate k place [] commands backs v tag opened l m bits made some = record {
  shape_is = refl;
  read = silent_low (is_agent agent place) gate _ some;
  write = silent_low (is_agent agent place) gate _ some;
  address = refl;
  word = refl;
  enables = refl;
  count = refl;
  more = refl;
  tag = refl;
}
is_below netlist shown shape others run c host agent gate k place (entry ∷ entries) [] backs v tag opened l m bits made some = absurd (omega (arith, l))
is_below netlist shown shape others run c host agent gate k place (entry ∷ entries) (one ∷ commands) [] v tag opened l m bits made some = absurd (omega (arith, m))
is_below netlist shown shape others run c host agent gate k place (entry ∷ entries) (one ∷ commands) (back ∷ backs) v tag opened l m bits made some =
    choose_port (IsBelow run c shape shown.command host (is_agent agent place && gate)) (nat_eq entry.agent agent) (port_in shape run one back.wait back.answer) (down_at shape run shown.command host others entries commands backs agent)
    (λ is.
    (let bit : (bit_at (run.net c shown.place.number) k == 1) ≡ is_agent agent place =
    ap (λ n. n == 1) bits.0 ∙ one_is (is_agent entry.agent place) ∙ ap (λ n. is_agent n place) (eqb-true entry.agent agent is) in
    let shows : (level : ℕ) → (if (bit_at (run.net c shown.place.number) k == 1) && is_raised (run.net c shown.gate.number) then level else 0) ≡ (if is_agent agent place && gate then level else 0) =
    λ level. ap (λ t. if t && is_raised (run.net c shown.gate.number) then level else 0) bit ∙ ap (λ t. if is_agent agent place && t then level else 0) opened in
    let at : NetValue → ℕ = λ net. run.net c net.number in
    record {
      shape_is = refl;
      read = made.0.read (cycle_of run c) v ∙ shows _;
      write = made.0.write (cycle_of run c) v ∙ shows _;
      address = ap at made.0.address;
      word = ap at made.0.word;
      enables = ap at made.0.enables;
      count = ap at made.0.count;
      more = ap at made.0.more;
      tag = ap at made.0.tag ∙ tag;
    }))
    (λ other. is_below netlist shown shape others run c host agent gate (k + 1) place entries commands backs v tag opened (omega (arith, l)) (omega (arith, m)) bits.1 made.1
    (λ here. subst (λ t. (t || has_entry entries agent) ≡ true) other (some here)))

-- ---- what is picked

pick_step : {X : Type 0} (t : Bool) (bit : ℕ) (x y : X) (f : Port → X) (p q : Port) → bit ≡ one_if t → f p ≡ y → (t ≡ false → x ≡ f q) → (if bit == 0 then x else y) ≡ f (if t then p else q)
pick_step true bit x y f p q e g h = ap (λ n. if n == 0 then x else y) e ∙ sym g
pick_step false bit x y f p q e g h = ap (λ n. if n == 0 then x else y) e ∙ h refl

picked_is : {X : Type 0} (k bits : ℕ) (entries : List Route) (commands : List CommandNets) (backs : List BackNets) (place : Option ℕ) (shape : Shape) (others : ℕ → AnswerView) (run : Run) (command : CommandNets) (host : ℕ) (none : X) (g : BackNets → X) (f : Port → X) →
    ((one : CommandNets) (back : BackNets) → f (port_in shape run one back.wait back.answer) ≡ g back) → length commands ≡ length entries → length backs ≡ length entries → BitsFrom k bits entries place → IsPlace entries place →
    picked k bits (map g backs) none ≡ by_option place none (λ a. f (down_at shape run command host others entries commands backs a))
picked_is k bits [] commands [] None shape others run command host none g f same l m b p = refl
picked_is k bits [] commands [] (Some a) shape others run command host none g f same l m b p = absurd (let e = p a refl in cc)
picked_is k bits [] commands (back ∷ backs) place shape others run command host none g f same l m b p = absurd (omega (arith, m))
picked_is k bits (entry ∷ entries) [] backs place shape others run command host none g f same l m b p = absurd (omega (arith, l))
picked_is k bits (entry ∷ entries) (one ∷ commands) [] place shape others run command host none g f same l m b p = absurd (omega (arith, m))
picked_is k bits (entry ∷ entries) (one ∷ commands) (back ∷ backs) None shape others run command host none g f same l m b p =
    ap (λ n. if n == 0 then picked (k + 1) bits (map g backs) none else g back) b.0
    ∙ picked_is (k + 1) bits entries commands backs None shape others run command host none g f same (omega (arith, l)) (omega (arith, m)) b.1 (default_place entries)
picked_is k bits (entry ∷ entries) (one ∷ commands) (back ∷ backs) (Some a) shape others run command host none g f same l m b p =
    pick_step (nat_eq entry.agent a) (bit_at bits k) (picked (k + 1) bits (map g backs) none) (g back) f (port_in shape run one back.wait back.answer) (down_at shape run command host others entries commands backs a) b.0 (same one back)
    (λ other. picked_is (k + 1) bits entries commands backs (Some a) shape others run command host none g f same (omega (arith, l)) (omega (arith, m)) b.1
    (λ agent e. subst (λ n. has_entry entries n ≡ true) (same_member a agent e) (subst (λ t. (t || has_entry entries a) ≡ true) other (p a refl))))

-- ---- the machine

module _ (system : System) (host room room_bits : ℕ) (shape : Shape) (others : ℕ → AnswerView) (entries : List Route) (commands : List CommandNets) (backs : List BackNets) (held : HeldRouter) (wait : NetValue) (answer : AnswerNets) (netlist : Netlist)
    (maps : MapsAs entries held.shown.command.address.width system host shape) (f : RouterForward entries host held.shown.command commands held netlist) (b : RouterBackward held room_bits backs wait answer netlist)
    (same : length backs ≡ length entries) (run : Run) (endless : IsEndlessRun netlist run) where
  valued : (c : ℕ) → IsValuation netlist (cycle_of run c)
  valued c = (endless (c + 1)).valuations c (omega arith)

  abbrev pub up : Port
  up = port_in shape run held.shown.command wait answer

  abbrev pub state : RouteState
  state = state_in system host up run held.registers

  abbrev pub place : ℕ → Option ℕ
  place c = place_now system host up state c

  abbrev pub decoded : ℕ → Option ℕ
  decoded c = system.place host (kind_at up c) (byte_address shape (run.net c held.shown.command.address.number))

  byte_is : (c : ℕ) → byte_address shape (run.net c held.shown.command.address.number) ≡ run.net c held.shown.command.address.number * 1 - run.net c held.shown.command.address.number * 1 % shape.word_bytes
  byte_is c = ap (λ u. run.net c held.shown.command.address.number * u - (run.net c held.shown.command.address.number * u) % shape.word_bytes) maps.bytes

  byte_small : (c : ℕ) → byte_address shape (run.net c held.shown.command.address.number) < 2 ^ held.shown.command.address.width
  byte_small c =
      let is = byte_is c in
      let small = net_fits netlist held.shown.command.address f.nets.command.address (cycle_of run c) (valued c) in
      omega (arith, is, small)

  decoded_bits : (c : ℕ) → hits entries (kind_at up c) (run.net c held.shown.command.address.number) ≡ place_bits entries (decoded c)
  decoded_bits c = hits_are entries held.shown.command.address.width shape.word_bytes _ _ (kind_at up c) (decoded c) f.entries_are maps.words (byte_is c) (maps.held (kind_at up c) _ (byte_small c))

  -- the registers hold the places as bits
  abbrev pub Holds : ℕ → Type 0
  Holds c = IfSome held.registers.latch (Latches run c entries (state.kept c)) × ((run.net c held.registers.owing.number ≡ place_bits entries (state.owing c)) × (IsPlace entries (state.kept c) × IsPlace entries (state.owing c)))

  place_is : (c : ℕ) → Holds c → run.net c held.shown.place.number ≡ place_bits entries (place c)
  place_is c h = f.place (cycle_of run c) (valued c) ∙ latched_bits held.registers.latch run c _ entries (state.kept c) (decoded c) h.0 (decoded_bits c)

  is_place : (c : ℕ) → Holds c → IsPlace entries (place c)
  is_place c h = place_chosen (state.inside c) entries (state.kept c) (decoded c) h.1.1.0 (λ agent e. maps.others (kind_at up c) _ agent (byte_small c) e)

  next_of : (c : ℕ) → suc c ≡ c + 1
  next_of c = omega arith

  steps : (c : ℕ) → IsNext held room_bits wait answer.valid (cycle_of run c) (cycle_of run (c + 1))
  steps c = b.steps run (c + 2) (endless (c + 2)) c (omega arith)

  holds : (c : ℕ) → Holds c
  holds zero =
      (latches_first held.registers.latch netlist run entries endless f.starts.latch, (f.starts.owing run 1 (endless 1) (omega arith) ∙ sym (none_bits entries), (default_place entries, default_place entries)))
  holds (suc c) =
      let h = holds c in
      let at = next_of c in (
        subst (λ n. IfSome held.registers.latch (Latches run n entries (place c))) (sym at) (latches_next held.registers.latch held.shown (takes up c) run c entries (place c) (steps c).latch (place_is c h)),
        (
          ap (λ n. run.net n held.registers.owing.number) at ∙ (steps c).debt.owing ∙ bits_chosen (takes_read up c) entries (place c) (state.owing c) _ _ (place_is c h) h.1.0,
          (is_place c h, place_chosen (takes_read up c) entries (place c) (state.owing c) (is_place c h) h.1.1.1),
        ),
      )

  gate_is : (c : ℕ) → is_raised (run.net c held.shown.gate.number) ≡ is_open system host up state c
  gate_is c =
      let h = holds c in
      f.gate (cycle_of run c) (valued c)
      ∙ ap (λ t. is_raised (run.net c held.shown.command.write.number) || nat_eq (run.net c held.registers.owed.number) 0 || t)
      (ap (λ n. nat_eq n (run.net c held.shown.place.number)) h.1.0 ∙ ap (λ n. nat_eq (place_bits entries (state.owing c)) n) (place_is c h) ∙ same_place entries (state.owing c) (place c) h.1.1.1 (is_place c h))

  whole : (n : ℕ) → n / 2 ^ 0 ≡ n
  whole n = omega arith

  place_from : (c : ℕ) → BitsFrom 0 (run.net c held.shown.place.number) entries (place c)
  place_from c = bits_from 0 _ entries (place c) (whole _ ∙ place_is c (holds c))

  owing_from : (c : ℕ) → BitsFrom 0 (run.net c held.registers.owing.number) entries (state.owing c)
  owing_from c = bits_from 0 _ entries (state.owing c) (whole _ ∙ (holds c).1.0)

  abbrev pub down : ℕ → Port
  down = down_at shape run held.shown.command host others entries commands backs

  below : (a c : ℕ) → IsBelow run c shape held.shown.command host (is_agent a (place c) && is_open system host up state c) (down a)
  below a c = is_below netlist held.shown shape others run c host a (is_open system host up state c) 0 (place c) entries commands backs (valued c) (f.tag (cycle_of run c) (valued c)) (gate_is c) f.count same (place_from c) f.shown
      (λ here. agent_here (place c) (is_place c (holds c)) here)
    where
      agent_here : (p : Option ℕ) → IsPlace entries p → is_agent a p ≡ true → has_entry entries a ≡ true
      agent_here None h e = cc
      agent_here (Some other) h e = h a (ap Some (sym (eqb-true a other e)))

  waits_are : (c : ℕ) → is_raised (run.net c wait.number) ≡ (not (is_open system host up state c) || by_option (place c) false (λ a. is_raised ((down a).commands.waitrequest c)))
  waits_are c =
      b.waits (cycle_of run c) (valued c)
      ∙ ap (λ t. not t || is_raised (picked 0 (run.net c held.shown.place.number) (map (λ (back : BackNets). run.net c back.wait.number) backs) 0)) (gate_is c)
      ∙ ap (λ t. not (is_open system host up state c) || t)
      (ap is_raised (picked_is 0 (run.net c held.shown.place.number) entries commands backs (place c) shape others run held.shown.command host 0 (λ (back : BackNets). run.net c back.wait.number) (λ port. port.commands.waitrequest c)
      (λ one back. refl) f.count same (place_from c) (is_place c (holds c)))
      ∙ option_of is_raised (place c) 0 (λ a. (down a).commands.waitrequest c))

  abbrev pub answered_by : Port → ℕ → List ℕ
  answered_by port c = port.answers.valid c ∷ port.answers.word c ∷ port.answers.code c ∷ []

  answers_are : (c : ℕ) → (run.net c answer.valid.number ∷ run.net c answer.word.number ∷ run.net c answer.code.number ∷ []) ≡ by_option (state.owing c) (one_if (nat_lt 0 (state.owed c)) ∷ 0 ∷ 3 ∷ []) (λ a. answered_by (down a) c)
  answers_are c =
      b.answers (cycle_of run c) (valued c)
      ∙ picked_is 0 (run.net c held.registers.owing.number) entries commands backs (state.owing c) shape others run held.shown.command host (one_if (nat_lt 0 (state.owed c)) ∷ 0 ∷ 3 ∷ [])
      (λ (back : BackNets). values_of (cycle_of run c) (answer_group back.answer)) (λ port. answered_by port c) (λ one back. refl) f.count same (owing_from c) (holds c).1.1.1

  pub runs_as_route : (end : ℕ) → room ≤ 2 ^ room_bits → RunsAsRoute system host room up down end
  runs_as_route end enough = record {
    state = state;
    is_machine = record {
      shapes = λ a lt. (below a 0).shape_is;
      read = λ a c lt le. (below a c).read;
      write = λ a c lt le. (below a c).write;
      address = λ a c lt le. (below a c).address;
      word = λ a c lt le. (below a c).word;
      enables = λ a c lt le. (below a c).enables;
      count = λ a c lt le. (below a c).count;
      more = λ a c lt le. (below a c).more;
      tag = λ a c lt le. (below a c).tag;
      wait = λ c lt. waits_are c;
      outside = outside_first held.registers.latch netlist run endless f.starts.latch;
      stays = λ c lt. ap (inside_at run held.registers.latch) (next_of c) ∙ inside_next held.registers.latch held.shown (takes up c) run c (steps c).latch (λ none. f.single none (cycle_of run c) (valued c));
      keeps = λ c lt. refl;
      nothing = f.starts.owed run 1 (endless 1) (omega arith);
      nobody = refl;
      counts = λ c lt few some. ap (λ n. run.net n held.registers.owed.number + one_if (is_raised (run.net c answer.valid.number))) (next_of c) ∙ (steps c).debt.owed (omega (arith, few, enough)) some;
      owes = λ c lt. refl;
      valid = λ c lt.
          (ap (λ (xs : List ℕ). is_raised (get_or xs 0 0)) (answers_are c) ∙ option_of (λ (xs : List ℕ). is_raised (get_or xs 0 0)) (state.owing c) _ _
          ∙ ap (λ t. by_option (state.owing c) t (λ a. is_raised ((down a).answers.valid c))) (raised_one (nat_lt 0 (state.owed c))));
      answer = λ c lt comes. ap (λ (xs : List ℕ). get_or xs 1 0) (answers_are c) ∙ option_of (λ (xs : List ℕ). get_or xs 1 0) (state.owing c) _ _;
      code = λ c lt comes. ap (λ (xs : List ℕ). get_or xs 2 0) (answers_are c) ∙ option_of (λ (xs : List ℕ). get_or xs 2 0) (state.owing c) _ _;
    };
  }

pub nets_are_a_router : (netlist : Netlist) (entries : List Route) (host : ℕ) (command : CommandNets) (commands : List CommandNets) (held : HeldRouter) (room_bits : ℕ) (backs : List BackNets) (wait : NetValue) (answer : AnswerNets) →
    RouterForward entries host command commands held netlist → RouterBackward held room_bits backs wait answer netlist → length backs ≡ length entries → RunsAsMachine netlist entries host command commands room_bits backs wait answer
nets_are_a_router netlist entries host command commands held room_bits backs wait answer f b same =
    subst (λ (c : CommandNets). RunsAsMachine netlist entries host c commands room_bits backs wait answer) f.command_is
    (λ longer e run endless system shape others room end maps enough. runs_as_route system host room room_bits shape others entries commands backs held wait answer longer maps (router_forward_lasts entries host held.shown.command commands held netlist longer here e)
    (router_backward_lasts held room_bits backs wait answer netlist longer b e) same run endless end enough)
  where
    here : RouterForward entries host held.shown.command commands held netlist
    here = subst (λ (c : CommandNets). RouterForward entries host c commands held netlist) (sym f.command_is) f
