-- The links between the route of a host and the arbiter of an agent, as a run shows them.
use Rattle.std.proofs.Common.{◌≡◌, ℕ, ◌<◌, ◌≤◌, Bool, true, false, not, ◌&&◌, ◌||◌, nat_eq, IsTrue, refl, sym, subst, ap, ap₂, ◌∙◌, arith}
use Rattle.std.specs.Bool.{IsFalse}
use Rattle.std.proofs.Math.Path.{fun_ext}
use Rattle.std.proofs.lemmas.Bool.{and_parts, eqb-true, le-ltb, false≢true}
use Rattle.iface_roles.specs.declared.records.AgentPort.{AgentPort}
use Rattle.iface_roles.specs.declared.records.HostPort.{HostPort}
use Rattle.netlist.specs.Netlists.{Netlist}
use Rattle.netlist.specs.Runs.{Run, IsEndlessRun, cycle_of}
use Rattle.netlist.specs.Longer.{Extends}
use Rattle.link_rules.specs.Plans.{PlanTable}
use Rattle.memory_runs.specs.Awake.{is_alike}
use Rattle.memory_runs.specs.Order.{is_joined}
use Rattle.memory_runs.specs.Plan.{IsMemoryPlan}
use Rattle.memory_runs.specs.Views.{AgentSide, HostSide}
use Rattle.memory_machines.specs.Link.{Port, Target}
use Rattle.memory_machines.specs.Lines.{target_of}
use Rattle.memory_machines.specs.Machines.{Raw, ShowsFitBeats, port_of}
use Rattle.memory_machines.specs.Paths.{CommandView}
use Rattle.mm_arbiter.specs.Machine.{JoinsBeats}
use Rattle.memory_runs.specs.Sides.{burst_width, host_side, agent_side}
use Rattle.memory_plans.specs.Systems.{memory_system}
use Rattle.command_nets.specs.Nets.{port_in, raw_in, answer_view}
use Rattle.mm_route.specs.declared.back.BackNets.{BackNets}
use Rattle.memory_awake.specs.Rows.{IsWired, CutsBursts, FitsWords, GathersBelowCut, DropsBeats, DropsBeats.dropper, DropsBeats.no_dropper, drops_some}
use Rattle.memory_awake.specs.Wires.{IsWire, HandsAllOn}
use Rattle.memory_awake.specs.Packed.{RowPacks}
use Rattle.mm_width.specs.Pairs.{needs_drop, keeps_beats, bits_between, needs_cut, is_wire_pair}
use Rattle.mm_width.specs.Widths.{IsTargetOf, RunsAsWidth, inner_shape}
use Rattle.mm_fabric.specs.declared.parts.Seat.{Seat}
use Rattle.mm_fabric.specs.declared.parts.Way.{Way}
use Rattle.mm_fabric.specs.Fabrics.{Fabric, IsFabric, AreJoined}
use Rattle.mm_fabric.proofs.BurstWidths.{some_width, width_or_one}
use Rattle.mm_fabric.proofs.Boundaries.{Inner, below_route, above_arbiter, route_side, arbiter_side}
use Rattle.mm_fabric.proofs.Choices.{choose}
use Rattle.mm_fabric.proofs.Known.{always_valued, host_is, agent_is}
use Rattle.mm_fabric.proofs.Singles.{CuttersShowFit, cuts_keep, words_keep, drops_join}

-- ---- a wire between sides with the same beats

-- the commands that show these beats
abbrev pub commands_by : (ℕ → Raw) → (ℕ → ℕ) → CommandView
commands_by raws wait = record {
  signals = record {
    read = λ c. (raws c).levels.read;
    write = λ c. (raws c).levels.write;
    address = λ c. (raws c).levels.address;
    word = λ c. (raws c).levels.word;
    enables = λ c. (raws c).levels.enables;
    count = λ c. (raws c).levels.count;
  };
  more = λ c. (raws c).more;
  tag = λ c. (raws c).tag;
  waitrequest = wait;
}

-- of a seat, below and above its links
abbrev pub below_links : AgentPort → Run → Seat → Port
below_links agent run seat = port_in (inner_shape agent.word_bytes (burst_width agent.burst_bits)) run seat.command seat.back.wait seat.back.answer

abbrev pub above_links : HostPort → Run → Way → Seat → Port
above_links host run way seat = port_in (inner_shape host.word_bytes (burst_width host.burst_bits)) run way.command seat.told.wait seat.told.answer

wire_between : (host : HostPort) (agent : AgentPort) (run : Run) (way : Way) (seat : Seat) → host.word_bytes ≡ agent.word_bytes → burst_width host.burst_bits ≤ burst_width agent.burst_bits → ((c : ℕ) → raw_in (cycle_of run c) seat.command ≡ raw_in (cycle_of run c) way.command) → seat.back ≡ seat.told →
    IsWire (above_links host run way seat) (below_links agent run seat)
wire_between host agent run way seat same longer beat back =
    let bits : ℕ = burst_width agent.burst_bits in
    record {
      same =
          ap (λ n. port_in (inner_shape n bits) run way.command seat.told.wait seat.told.answer) same
          ∙ ap (λ (raws : ℕ → Raw). port_of (inner_shape agent.word_bytes bits) (commands_by raws (λ c. run.net c seat.told.wait.number)) (answer_view run seat.told.answer)) (fun_ext (λ c. sym (beat c)))
          ∙ ap (λ (back : BackNets). port_in (inner_shape agent.word_bytes bits) run seat.command back.wait back.answer) (sym back);
      longer = longer;
    }

-- ---- what a host and an agent need between them

-- where plain commands go one for one, no beat is dropped
no_drop_alike : (words single host agent : Bool) → ((words && single) && (not host || agent)) ≡ true → ((words ≡ true) × (single ≡ true)) × ((host && not agent) ≡ false)
no_drop_alike words single true true alike = (and_parts words single (and_parts _ _ alike).0, refl)
no_drop_alike words single true false alike = absurd (false≢true (and_parts (words && single) false alike).1)
no_drop_alike words single false agent alike = (and_parts words single (and_parts _ _ alike).0, refl)

wire_if : (words drops : Bool) → words ≡ true → drops ≡ false → (words && not drops) ≡ true
wire_if words drops same none = ap₂ (λ x y. x && not y) same none

-- a host without bursts needs none cut
single_uncut : (host : HostPort) (agent : AgentPort) → host.burst_bits ≡ 0 → needs_cut host agent ≡ false
single_uncut host agent none =
    let one : burst_width host.burst_bits ≡ 1 = ap burst_width none in
    let some = width_or_one (keeps_beats host agent) agent.burst_bits in
    le-ltb (bits_between host agent) (burst_width host.burst_bits) (omega (arith, one, some))

low_twice : (b : Bool) → not (not b) ≡ true → b ≡ true
low_twice true e = refl
low_twice false e = e

lanes_if : (host agent : Bool) → (host && not agent) ≡ false → (agent || not host) ≡ true
lanes_if true true none = refl
lanes_if true false none = absurd (false≢true (sym none))
lanes_if false true none = refl
lanes_if false false none = refl

-- ---- the sides among the links

-- by these sides bursts are cut, words are made those of the agent, and beats are dropped below
pub record LeadsBy (target : Target) (drops : Bool) (up down : Port) (inner : Inner) : Type 0 where
  pub cuts : CutsBursts up inner.middle
  pub fits : FitsWords target inner.middle inner.low
  pub gathers : GathersBelowCut cuts fits
  pub packs : RowPacks cuts fits
  pub dropped : DropsBeats target inner.low down
  pub is : drops_some dropped ≡ drops

abbrev pub inner_of : Port → Inner
inner_of port = record { middle = port; low = port }

-- of a host and an agent. Where these aren't joined both are the one above
pub record StandsBetween (plan : PlanTable) (fabric : Fabric) (run : Run) (h a : ℕ) (inner : Inner) : Type 0 where
  pub leads : IsTrue (is_joined (memory_system plan) a h) → LeadsBy (target_of (memory_system plan) a) (needs_drop (fabric.host h).port (fabric.agent a).port) (below_route plan fabric run h a) (above_arbiter fabric run h a) inner
  pub none : IsFalse (is_joined (memory_system plan) a h) → inner ≡ inner_of (below_route plan fabric run h a)

leads_by : (target : Target) (drops : Bool) (up down : Port) → RunsAsWidth drops target up down → (inner : Inner) × LeadsBy target drops up down inner
leads_by target drops up down run = (record { middle = run.middle; low = run.low }, record { cuts = run.cuts; fits = run.fits; gathers = run.gathers; packs = run.packs; dropped = run.dropped; is = run.is })

module _ (plan : PlanTable) (planned : IsMemoryPlan (memory_system plan)) (netlist : Netlist) (fabric : Fabric) (is : IsFabric plan netlist fabric)
    (longer : Netlist) (extends : Extends netlist longer) (run : Run) (endless : IsEndlessRun longer run) where
  module _ (h a : ℕ) (low : h < (memory_system plan).hosts) (there : a < (memory_system plan).agents) where
    abbrev Joins : Type 0
    Joins = AreJoined netlist h a (fabric.host h) (fabric.agent a)

    above_is : (joins : Joins) → below_route plan fabric run h a ≡ above_links (fabric.host h).port run joins.way joins.seat
    above_is joins =
        let host = (fabric.host h).port in
        route_side plan planned netlist fabric is longer extends run endless h a low joins
        ∙ ap (λ (back : BackNets). port_in (inner_shape host.word_bytes (burst_width host.burst_bits)) run joins.way.command back.wait back.answer) joins.back

    below_is : (joins : Joins) → above_arbiter fabric run h a ≡ below_links (fabric.agent a).port run joins.seat
    below_is joins = arbiter_side plan planned netlist fabric is longer extends run endless h a low joins

    target_is : IsTargetOf (fabric.agent a).port (target_of (memory_system plan) a)
    target_is =
        let side = agent_is plan netlist fabric is a there in
        record { words = ap (λ (s : AgentSide). s.word_bytes) side; enables = ap (λ (s : AgentSide). s.has_enables) side }

    width_runs : (joins : Joins) → RunsAsWidth (needs_drop (fabric.host h).port (fabric.agent a).port) (target_of (memory_system plan) a) (below_route plan fabric run h a) (above_arbiter fabric run h a)
    width_runs joins =
        let target = target_of (memory_system plan) a in
        let drops = needs_drop (fabric.host h).port (fabric.agent a).port in
        let made = joins.meets.runs longer extends run endless target target_is in
        subst (λ (p : Port). RunsAsWidth drops target p (above_arbiter fabric run h a)) (sym (above_is joins))
        (subst (λ (p : Port). RunsAsWidth drops target (above_links (fabric.host h).port run joins.way joins.seat) p) (sym (below_is joins)) made)

    between : (inner : Inner) × StandsBetween plan fabric run h a inner
    between = by (is_joined (memory_system plan) a h) refl
      where
        by : (b : Bool) → is_joined (memory_system plan) a h ≡ b → (inner : Inner) × StandsBetween plan fabric run h a inner
        by true has =
            let found = leads_by (target_of (memory_system plan) a) (needs_drop (fabric.host h).port (fabric.agent a).port) (below_route plan fabric run h a) (above_arbiter fabric run h a) (width_runs (is.joined h a low there has)) in
            (found.0, record { leads = λ joined. found.1; none = λ apart. absurd (false≢true (sym apart ∙ has)) })
        by false apart = (inner_of (below_route plan fabric run h a), record { leads = λ joined. absurd (false≢true (sym apart ∙ joined)); none = λ apart. refl })

    -- a host that is alike to the agent is wired to it
    pub alike_wire : (joins : Joins) → IsTrue (is_alike ((memory_system plan).host h) ((memory_system plan).agent a)) → IsWire (below_route plan fabric run h a) (above_arbiter fabric run h a)
    alike_wire joins alike =
        let host = (fabric.host h).port in
        let agent = (fabric.agent a).port in
        let sides : is_alike (host_side host) (agent_side agent) ≡ true = sym (ap₂ (λ (x : HostSide) (y : AgentSide). is_alike x y) (host_is plan netlist fabric is h low) (agent_is plan netlist fabric is a there)) ∙ alike in
        let plain = no_drop_alike (nat_eq host.word_bytes agent.word_bytes) (not (not (nat_eq host.burst_bits 0))) host.enables agent.enables sides in
        let single : host.burst_bits ≡ 0 = eqb-true host.burst_bits 0 (low_twice (nat_eq host.burst_bits 0) plain.0.1) in
        let keeps : keeps_beats host agent ≡ true = wire_if (nat_eq host.word_bytes agent.word_bytes) (needs_drop host agent) plain.0.0 plain.1 in
        let pair : is_wire_pair host agent ≡ true = wire_if (keeps_beats host agent) (needs_cut host agent) keeps (single_uncut host agent single) in
        let met = joins.meets.wire pair in
        let one : burst_width host.burst_bits ≡ 1 = ap burst_width single in
        let some = some_width agent.burst_bits in
        let made = wire_between host agent run joins.way joins.seat (eqb-true host.word_bytes agent.word_bytes plain.0.0) (omega (arith, one, some)) (λ c. met.0 (cycle_of run c) (always_valued netlist longer extends run endless c)) met.1 in
        subst (λ (p : Port). IsWire p (above_arbiter fabric run h a)) (sym (above_is joins))
        (subst (λ (p : Port). IsWire (above_links host run joins.way joins.seat) p) (sym (below_is joins)) made)

    -- where no beat is dropped the agent has byte enables, or the host none
    pub lanes : needs_drop (fabric.host h).port (fabric.agent a).port ≡ false → IsTrue (((memory_system plan).agent a).has_enables || not ((memory_system plan).host h).has_enables)
    lanes none =
        let agent : ((memory_system plan).agent a).has_enables ≡ (fabric.agent a).port.enables = ap (λ (s : AgentSide). s.has_enables) (agent_is plan netlist fabric is a there) in
        let host : ((memory_system plan).host h).has_enables ≡ (fabric.host h).port.enables = ap (λ (s : HostSide). s.has_enables) (host_is plan netlist fabric is h low) in
        ap₂ (λ x y. x || not y) agent host ∙ lanes_if (fabric.host h).port.enables (fabric.agent a).port.enables none

  pub sides_between : (inner : ℕ → ℕ → Inner) × ((h : ℕ) → h < (memory_system plan).hosts → (a : ℕ) → a < (memory_system plan).agents → StandsBetween plan fabric run h a (inner h a))
  sides_between =
      choose {X = ℕ → Inner} (λ h row. (a : ℕ) → a < (memory_system plan).agents → StandsBetween plan fabric run h a (row a)) (memory_system plan).hosts (λ a. inner_of (below_route plan fabric run 0 a))
      (λ h low. choose {X = Inner} (λ a inner. StandsBetween plan fabric run h a inner) (memory_system plan).agents (inner_of (below_route plan fabric run h 0)) (λ a there. between h a low there))

-- where nothing is joined all that is shown goes on by these sides
pub record HandsOnBy (up down : Port) (inner : Inner) : Type 0 where
  pub high : HandsAllOn up inner.middle
  pub mid : HandsAllOn inner.middle inner.low
  pub low : HandsAllOn inner.low down

pub hands_on : (up down : Port) (inner : Inner) → inner ≡ inner_of up → HandsAllOn up down → HandsOnBy up down inner
hands_on up down inner same hands =
    subst (λ (i : Inner). HandsOnBy up down i) (sym same) (record { high = record { commands = refl; answers = refl }; mid = record { commands = refl; answers = refl }; low = hands })

-- what fits above the links leads to joined beats below
pub joined_below : CuttersShowFit → (target : Target) (drops : Bool) (up down : Port) (inner : Inner) (end : ℕ) → LeadsBy target drops up down inner → ShowsFitBeats up end → JoinsBeats down end
joined_below law target drops up down inner end leads fit =
    drops_join target inner.low down end leads.dropped (words_keep target inner.middle inner.low end leads.fits (cuts_keep law up inner.middle end leads.cuts fit))

none_dropped : (target : Target) (up down : Port) (drops : DropsBeats target up down) → drops_some drops ≡ false → IsWired up down
none_dropped target up down (dropper room state plan some run) none = absurd (false≢true (sym none))
none_dropped target up down (no_dropper wired) none = wired

-- below a host without byte enables no beats are dropped
pub wired_below : (target : Target) (host : HostPort) (agent : AgentPort) (up down : Port) (inner : Inner) → LeadsBy target (needs_drop host agent) up down inner → host.enables ≡ false → IsWired inner.low down
wired_below target host agent up down inner leads lacks = none_dropped target inner.low down leads.dropped (leads.is ∙ ap (λ b. b && not agent.enables) lacks)
