-- What a fabric shows to an agent in a cycle is told by its registers and by what the hosts give.
use Rattle.std.proofs.Common.{◌≡◌, ℕ, ◌<◌, true, if◌then◌else◌, List, Some, IsTrue, inl, sym, subst, ap, ◌∙◌}
use Rattle.std.proofs.lemmas.Option.{same_Some}
use Rattle.netlist.specs.Netlists.{Netlist}
use Rattle.netlist.specs.Runs.{Cycle, IsValuation, SameState}
use Rattle.netlist.specs.Longer.{Extends}
use Rattle.net_parts.specs.Nets.{IsRegister}
use Rattle.net_parts.specs.Laws.{register_lasts}
use Rattle.iface_roles.specs.declared.records.AgentPort.{AgentPort}
use Rattle.link_rules.specs.Plans.{PlanTable}
use Rattle.memory_runs.specs.Views.{Levels, HostView, AgentView, levels_at}
use Rattle.memory_runs.specs.Views.Responses.{AreCodes}
use Rattle.memory_runs.specs.Moment.{Moment, AgentSees, IgnoresReaddata}
use Rattle.memory_runs.specs.Order.{is_joined}
use Rattle.memory_runs.specs.Plan.{IsMemoryPlan}
use Rattle.memory_machines.specs.Machines.{Raw}
use Rattle.memory_runs.specs.declared.sides.route.Route.{Route}
use Rattle.memory_plans.specs.Routes.{routes_of}
use Rattle.memory_plans.specs.Systems.{memory_system}
use Rattle.command_nets.specs.declared.nets.CommandNets.{CommandNets}
use Rattle.command_nets.specs.Nets.{raw_in, ShowSame}
use Rattle.command_nets.specs.Ports.{value_or, all_ones}
use Rattle.mm_route.specs.declared.route.HeldRoute.{HeldRoute}
use Rattle.mm_route.specs.Forward.{owns, RouteForward}
use Rattle.mm_route.specs.Machine.{ShowAllSame}
use Rattle.mm_host.specs.Forms.{GivesSame}
use Rattle.mm_agent.specs.Agents.{bursts}
use Rattle.mm_agent.specs.Forms.{ShowSameTo}
use Rattle.mm_arbiter.specs.declared.asker.Asker.{Asker}
use Rattle.mm_arbiter.specs.declared.arbiter.HeldArbiter.{HeldArbiter}
use Rattle.mm_arbiter.specs.Forward.{ArbiterForward}
use Rattle.mm_arbiter.specs.Forward.{owns as owned_by_arbiter}
use Rattle.mm_arbiter.specs.Shown.{ShowAllSame as AllShowSame}
use Rattle.memory_awake.specs.Fair.{are_apart}
use Rattle.memory_plans.specs.Shown.{standing_still, moment_in}
use Rattle.mm_fabric.specs.declared.parts.Seat.{Seat}
use Rattle.mm_fabric.specs.declared.parts.AgentPart.{AgentPart}
use Rattle.mm_fabric.specs.Parts.{commands_below, commands_above, askers_of}
use Rattle.mm_fabric.specs.Fabrics.{Fabric, IsFabric, seat_of, seen_in, seen_at_host, FabricShows}
use Rattle.mm_fabric.proofs.Known.{seen_host, seen_agent, seated_is, seats_are_apart}
use Rattle.mm_fabric.proofs.Levels.{same_level, same_value}
use Rattle.mm_fabric.proofs.Seats.{found_seated, seats_same}
use Rattle.mm_fabric.proofs.Ways.{way_same}

abbrev pub RouteIgnoresAnswers : Type 0
RouteIgnoresAnswers =
    (entries : List Route) (host : ℕ) (command : CommandNets) (commands : List CommandNets) (held : HeldRoute) (netlist : Netlist)
    → RouteForward entries host command commands held netlist
    → (one other : Cycle) → IsValuation netlist one → IsValuation netlist other
    → ((n : ℕ) → owns held n → one.net n ≡ other.net n) → ShowSame command one other → ShowAllSame commands one other

abbrev pub ArbiterIgnoresAnswers : Type 0
ArbiterIgnoresAnswers =
    (askers : List Asker) (commands : List CommandNets) (command : CommandNets) (held : HeldArbiter) (netlist : Netlist)
    → ArbiterForward askers commands command held netlist
    → (one other : Cycle) → IsValuation netlist one → IsValuation netlist other
    → ((n : ℕ) → owned_by_arbiter held n → one.net n ≡ other.net n) → AllShowSame commands one other → ShowSame command one other

-- what an agent sees of a command, its `read` and its address
abbrev pub sees : AgentPort → Raw → ℕ → ℕ → AgentSees
sees port raw read address = record {
  levels = record {
    read = read;
    write = if port.writes then raw.levels.write else 0;
    address = address;
    word = if port.writes then raw.levels.word else 0;
    enables = if port.enables then raw.levels.enables else all_ones port.word_bytes;
    count = if bursts port then raw.levels.count else 1;
  };
  grant = raw.tag;
}

abbrev pub sees_in : AgentPart → Cycle → AgentSees
sees_in part cycle = sees part.port (raw_in cycle part.command) (value_or 0 part.made.read cycle) (value_or 0 part.made.address cycle)

abbrev pub seen_by : AgentView → AgentSees
seen_by view = record { levels = levels_at view.signals 0; grant = view.grant 0 }

abbrev pub host_levels : Fabric → ℕ → Cycle → Levels
host_levels fabric h cycle = levels_at (seen_at_host (fabric.host h) (standing_still cycle)).signals 0

sees_same : (part : AgentPart) (one other : Cycle) → ShowSame part.command one other → ShowSameTo part.made one other → sees_in part one ≡ sees_in part other
sees_same part one other command made =
    let read = same_value 0 part.made.read one other made.read in
    let address = same_value 0 part.made.address one other made.address in
    ap (λ raw. sees part.port raw (value_or 0 part.made.read one) (value_or 0 part.made.address one)) command
    ∙ ap (λ n. sees part.port (raw_in other part.command) n (value_or 0 part.made.address one)) read
    ∙ ap (λ n. sees part.port (raw_in other part.command) (value_or 0 part.made.read other) n) address

module _ (plan : PlanTable) (planned : IsMemoryPlan (memory_system plan)) (distinct : (a : ℕ) → IsTrue (are_apart ((memory_system plan).joined a)))
    (netlist : Netlist) (fabric : Fabric) (is : IsFabric plan netlist fabric) (longer : Netlist) (extends : Extends netlist longer) (route_ignores : RouteIgnoresAnswers) (arbiter_ignores : ArbiterIgnoresAnswers) where
  abbrev pub HostsGiveSame : Cycle → Cycle → Type 0
  HostsGiveSame x y = (h : ℕ) → h < (memory_system plan).hosts → host_levels fabric h x ≡ host_levels fabric h y

  module _ (state x y : Cycle) (of_x : IsValuation longer x) (of_y : IsValuation longer y) (state_x : SameState longer state x) (state_y : SameState longer state y) (same : HostsGiveSame x y) where
    register_same : (n : ℕ) → IsRegister netlist n → x.net n ≡ y.net n
    register_same n register =
        let later = register_lasts netlist longer n extends register in
        sym (state_x.registers n later.line later.is later.register) ∙ state_y.registers n later.line later.is later.register

    at_x : IsValuation netlist x
    at_x = extends.valuations x of_x

    at_y : IsValuation netlist y
    at_y = extends.valuations y of_y

    same_state : SameState longer x y
    same_state = record {
      registers = λ n line is register. sym (state_x.registers n line is register) ∙ state_y.registers n line is register;
      words = λ m memory is address low. sym (state_x.words m memory is address low) ∙ state_y.words m memory is address low;
    }

    gives_same : (h : ℕ) → h < (memory_system plan).hosts → GivesSame (fabric.host h).held.nets x y
    gives_same h low =
        let nets = (fabric.host h).held.nets in
        record {
          address = ap (λ (l : Levels). l.address) (same h low);
          read = same_level 0 nets.read x y (ap (λ (l : Levels). l.read) (same h low));
          write = same_level 0 nets.write x y (ap (λ (l : Levels). l.write) (same h low));
          writedata = same_level 0 nets.writedata x y (ap (λ (l : Levels). l.word) (same h low));
          byteenable = same_level (all_ones (fabric.host h).port.word_bytes) nets.byteenable x y (ap (λ (l : Levels). l.enables) (same h low));
          burstcount = same_level 1 nets.burstcount x y (ap (λ (l : Levels). l.count) (same h low));
        }

    -- all commands behind the route of a host
    below_same : (h : ℕ) → h < (memory_system plan).hosts → ShowAllSame (commands_below (fabric.host h).ways) x y
    below_same h low =
        let part = is.host h low in
        let command = part.host_ignores x y at_x at_y (λ n own. register_same n (part.host_registers n own)) (gives_same h low) in
        route_ignores (routes_of plan.system h) h (fabric.host h).held.command (commands_below (fabric.host h).ways) (fabric.host h).route netlist part.route x y at_x at_y
        (λ n own. register_same n (part.route_registers n own)) command

    module _ (a : ℕ) (there : a < (memory_system plan).agents) where
      -- the command of a seat is told by that of a way
      seat_same : (h : ℕ) (seat : Seat) → seat_of h (fabric.agent a).seats ≡ Some seat → ShowSame seat.command x y
      seat_same h seat found =
          let has : is_joined (memory_system plan) a h ≡ true = sym (seated_is plan netlist fabric is a there h) ∙ found_seated h (fabric.agent a).seats seat found in
          let low = planned.joined a h has in
          let joins = is.joined h a low there has in
          let way = way_same (fabric.host h).ways a joins.way x y joins.way_is (below_same h low) in
          let met : ShowSame joins.seat.command x y = joins.meets.ignores longer extends x y of_x of_y same_state way in
          subst (λ (s : Seat). ShowSame s.command x y) (same_Some joins.seat seat (sym joins.seat_is ∙ found)) met

      above_same : AllShowSame (commands_above (fabric.agent a).seats) x y
      above_same = seats_same x y (fabric.agent a).seats (seats_are_apart plan netlist fabric is a there (distinct a)) seat_same

      part_same : sees_in (fabric.agent a) x ≡ sees_in (fabric.agent a) y
      part_same =
          let part = fabric.agent a in
          let stands = is.agent a there in
          let asked = arbiter_ignores (askers_of part.seats) (commands_above part.seats) part.asked part.arbiter netlist stands.chosen x y at_x at_y (λ n own. register_same n (stands.arbiter_registers n own)) above_same in
          let command = stands.stages_ignore longer extends x y of_x of_y same_state asked in
          sees_same part x y command (stands.ignores x y at_x at_y (λ n own. register_same n (stands.registers n (inl own))) command)

      pub seen_same : (moment_in (seen_in plan fabric (standing_still x)) 0).to_agent a ≡ (moment_in (seen_in plan fabric (standing_still y)) 0).to_agent a
      seen_same = ap seen_by (seen_agent plan fabric (standing_still x) a there) ∙ part_same ∙ sym (ap seen_by (seen_agent plan fabric (standing_still y) a there))

  -- a moment has what the host gives
  shown_levels : (h : ℕ) (cycle : Cycle) → h < (memory_system plan).hosts → levels_at ((seen_in plan fabric (standing_still cycle)).at_host h).signals 0 ≡ host_levels fabric h cycle
  shown_levels h cycle low = ap (λ (v : HostView). levels_at v.signals 0) (seen_host plan fabric (standing_still cycle) h low)

  pub words_are_ignored : IgnoresReaddata AreCodes (memory_system plan) (FabricShows plan longer fabric)
  words_are_ignored = λ state one other shows_one shows_other inputs a there.
      (let x = shows_one.0 in
      let y = shows_other.0 in
      let same : HostsGiveSame x y =
      λ h low. sym (shown_levels h x low) ∙ sym (ap (λ (m : Moment). m.from_host h) shows_one.3) ∙ inputs.hosts h low ∙ ap (λ (m : Moment). m.from_host h) shows_other.3 ∙ shown_levels h y low in
      ap (λ (m : Moment). m.to_agent a) shows_one.3
      ∙ seen_same state x y shows_one.1 shows_other.1 shows_one.2 shows_other.2 same a there
      ∙ sym (ap (λ (m : Moment). m.to_agent a) shows_other.3))
