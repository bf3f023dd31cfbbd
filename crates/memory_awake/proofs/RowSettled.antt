-- Below routes that lead by links that are machines to the arbiters, by steps in time: joined commands are alike behind the routes, so each row of links keeps its line, and each boundary carries what it may. The parts next to the agents count by their lines alone.
use Rattle.std.proofs.Common.{ℕ, zero, suc, ◌≡◌, ◌<◌, ◌≤◌, ◌-◌, ◌/◌, ◌^◌, min, Bool, true, false, arith, refl, sym, ap, ap₂, subst, ◌∙◌, le_refl, IsTrue, IsFalse}
use Rattle.std.proofs.lemmas.Bool.{both_ways}
use Rattle.memory_runs.specs.Views.{System, Run, Responses}
use Rattle.memory_runs.specs.Commands.{shows}
use Rattle.memory_runs.specs.Order.{host_transfers, is_joined}
use Rattle.memory_runs.specs.Plan.{FitsPorts}
use Rattle.memory_runs.specs.Shorter.{legal_run_before}
use Rattle.memory_runs.specs.Whole.{IsLegalRun}
use Rattle.memory_machines.specs.Link.{Port, Target, AreLegalAt, AnswersAreOwed}
use Rattle.memory_machines.specs.Lines.{TaggedPort, Holds, Wired, Inside, IsHostLine, IsRouteLine, IsArbiterLine, IsAgentLine, IsPipeLine, KeepsRow, BringsLanes, HavePlacedLanes, AreSingle, OwesBelow, sent_by, target_of}
use Rattle.memory_machines.specs.PartRanks.{JoinsAlike}
use Rattle.memory_machines.specs.Settled.{IsSettled}
use Rattle.memory_machines.specs.Turns.{seats_of}
use Rattle.memory_parts.specs.Arbiter.{IsArbiterMachine}
use Rattle.memory_parts.specs.Host.{IsHostMachine}
use Rattle.memory_parts.specs.Route.{RouteState, IsRouteMachine, IsRoutePlan}
use Rattle.memory_parts.specs.Steps.{IsRoutePart}
use Rattle.memory_links.specs.Selects.{EnablesFit}
use Rattle.memory_awake.specs.RowSystem.{RowPorts, AreRows, boundaries_of}
use Rattle.memory_awake.specs.Rows.{CutsBursts, FitsWords, DropsBeats, GathersBelowCut, drops_some}
use Rattle.memory_awake.specs.Theorem.{Boundaries, States, ArePlanned, KeepLines, KeepRows, IsStageBetween, inside_of}
use Rattle.memory_awake.proofs.Enables.{lanes_placed}
use Rattle.memory_awake.proofs.RowLine.{cut_words}
use Rattle.memory_awake.proofs.SilentRoute.{single_behind}
use Rattle.memory_awake.proofs.SilentRow.{IsQuiet, silent_keeps, silent_lanes}
use Rattle.memory_awake.proofs.StageLine.{PipeLaws, hold_of, hold_is, pipe_line}

pub record Laws : Type 0 where
  pub settle : (responses : Responses) (system : System) (run : Run) (inside : Inside) (holds : Holds) (end : ℕ) (wired : Wired responses system run inside holds end) → IsLegalRun system run end → IsSettled system run inside wired.room end
  pub route : (responses : Responses) (system : System) (host room : ℕ) (up : Port) (down : ℕ → Port) (state : RouteState) (end : ℕ) → IsRoutePlan system host up.shape → AreLegalAt up end → AreSingle up end → OwesBelow room up end →
      ((a : ℕ) → a < system.agents → AnswersAreOwed (down a) end) → IsRouteMachine responses system host room up down state end → IsRoutePart system host up down end
  pub row : (target : Target) (top middle low down : Port) (end : ℕ) (cuts : CutsBursts top middle) (fits : FitsWords target middle low) → DropsBeats target low down → GathersBelowCut cuts fits → EnablesFit top end → JoinsAlike target top end → KeepsRow target 2 top down end
  pub lanes : (system : System) (run : Run) (host agent : ℕ) (top middle low down : Port) (end : ℕ) (cuts : CutsBursts top middle) (fits : FitsWords (target_of system agent) middle low) (drops : DropsBeats (target_of system agent) low down) → GathersBelowCut cuts fits → EnablesFit top end → JoinsAlike (target_of system agent) top end →
      (IsFalse (drops_some drops) → (c : ℕ) → c ≤ end → HavePlacedLanes system host agent (sent_by (host_transfers system run host c))) → BringsLanes system run host agent top down end
  pub alike : (target : Target) (port : Port) (tag end : ℕ) → AreLegalAt port end → AreSingle port end → ((c : ℕ) → c < end → port.commands.tag c ≡ tag) → JoinsAlike target port end
  pub pipes : PipeLaws

-- the machines above those next to the agents, and the lines of all
pub record AreAbove (responses : Responses) (system : System) (run : Run) (ports : RowPorts) (states : States) (end : ℕ) : Type 0 where
  pub host : (h : ℕ) → h < system.hosts → IsHostMachine responses (system.host h) (run.at_host h) (ports.after_host h) (states.host h) end
  pub route : (h : ℕ) → h < system.hosts → IsRouteMachine responses system h (states.room h) (ports.after_host h) (ports.after_route h) (states.route h) end
  pub arbiter : (a : ℕ) → a < system.agents → IsArbiterMachine (seats_of system a) system.hosts (λ h. ports.before_arbiter h a) (ports.lower a system.stages) (states.grant a) end
  pub stage : (a i : ℕ) → a < system.agents → i < system.stages → IsStageBetween (states.stage a i) (ports.lower a (suc i)) (ports.lower a i)
  pub words : (a : ℕ) → a < system.agents → (ports.lower a 0).shape.word_bytes ≡ (system.agent a).word_bytes
  pub lines : KeepLines responses system run (boundaries_of ports) states end

-- lines hold up to each earlier cycle
module _ (responses : Responses) (system : System) (run : Run) (c end : ℕ) (h : c ≤ end) where
  host_before : (host hold room : ℕ) (down : Port) → IsHostLine responses system run host hold room down end → IsHostLine responses system run host hold room down c
  host_before host hold room down line = record {
    commands = λ k fit. line.commands k (omega (arith, fit, h));
    single = λ k fit. line.single k (omega (arith, fit, h));
    debt = λ k fit. line.debt k (omega (arith, fit, h));
    answers = λ k fit. line.answers k (omega (arith, fit, h));
  }

  route_before : (host hold room : ℕ) (up : Port) (down : ℕ → Port) → IsRouteLine responses system host hold room up down end → IsRouteLine responses system host hold room up down c
  route_before host hold room up down line = record { commands = λ k fit. line.commands k (omega (arith, fit, h)); answers = λ k fit. line.answers k (omega (arith, fit, h)) }

  arbiter_before : (agent hold : ℕ) (up : ℕ → Port) (down : TaggedPort) → IsArbiterLine responses system agent hold up down end → IsArbiterLine responses system agent hold up down c
  arbiter_before agent hold up down line = record { commands = λ k fit. line.commands k (omega (arith, fit, h)); answers = λ k fit. line.answers k (omega (arith, fit, h)) }

  pipe_before : (agent hold stages : ℕ) (up down : TaggedPort) → IsPipeLine system agent hold stages up down end → IsPipeLine system agent hold stages up down c
  pipe_before agent hold stages up down line = record { same = line.same; commands = λ k fit. line.commands k (omega (arith, fit, h)); answers = λ k fit. line.answers k (omega (arith, fit, h)) }

  agent_before : (agent hold : ℕ) (up : TaggedPort) → IsAgentLine responses system run agent hold up end → IsAgentLine responses system run agent hold up c
  agent_before agent hold up line = record { commands = λ k fit. line.commands k (omega (arith, fit, h)); answers = λ k fit. line.answers k (omega (arith, fit, h)) }

-- links stand between a host and an agent, or wires at which nothing is shown
pub by_idle : {system : System} {run : Run} {ports : RowPorts} {end : ℕ} (rows : AreRows system run ports end) (h a : ℕ) {R : Type 0} → (IsFalse (rows.idle h a) → R) → (IsTrue (rows.idle h a) → R) → R
by_idle {system} {run} {ports} {end} rows h a {R} links wires = by_test (rows.idle h a) refl
  where
    by_test : (b : Bool) → rows.idle h a ≡ b → R
    by_test true e = wires e
    by_test false e = links e

module _ (laws : Laws) (responses : Responses) (system : System) (run : Run) (ports : RowPorts) (states : States) (end : ℕ) (plan : ArePlanned system (boundaries_of ports) states)
    (above : AreAbove responses system run ports states end) (rows : AreRows system run ports end) (legal : IsLegalRun system run end) where
  abbrev inside : Boundaries
  inside = boundaries_of ports

  pub some_word : (a : ℕ) → a < system.agents → 0 < (ports.lower a 0).shape.word_bytes
  some_word a there = let same = above.words a there in let some = (plan.agents a there).word in omega (arith, same, some)

  top_words : (h a : ℕ) → h < system.hosts → a < system.agents → (ports.after_route h a).shape.word_bytes ≡ (system.host h).word_bytes
  top_words h a low there = ap (λ s. s.word_bytes) ((above.route h low).shapes a there) ∙ (plan.places h low).words

  host_word : (h a : ℕ) → h < system.hosts → a < system.agents → IsFalse (rows.idle h a) → 0 < (system.host h).word_bytes
  host_word h a low there joined = let same = top_words h a low there in let some = (cut_words (rows.cuts h a low there joined)).some in omega (arith, same, some)

  views_before : (c : ℕ) → c ≤ end → (h : ℕ) → h < system.hosts → FitsPorts (system.host h).shape (system.host h).has_burst (run.at_host h).signals c
  views_before c fit h low = let views = rows.views h low in record {
    enables = λ k less. views.enables k (omega (arith, less, fit));
    all_lanes = λ none k less. views.all_lanes none k (omega (arith, less, fit));
    word = λ k less. views.word k (omega (arith, less, fit));
    one_beat = λ none k less. views.one_beat none k (omega (arith, less, fit));
  }

  -- byte enables fit behind the routes
  pub enables_behind : (h a : ℕ) → h < system.hosts → a < system.agents → EnablesFit (ports.after_route h a) end
  enables_behind h a low there c less shown =
      let route = (above.route h low).enables a c there less in
      let host = (above.host h low).enables c less in
      let few = (rows.views h low).enables c less in
      subst (λ n. (ports.after_route h a).commands.enables c < 2 ^ n) (sym (top_words h a low there)) (omega (arith, route, host, few))

  enables_before : (c : ℕ) → c ≤ end → (h a : ℕ) → h < system.hosts → a < system.agents → EnablesFit (ports.after_route h a) c
  enables_before c fit h a low there k less = enables_behind h a low there k (omega (arith, less, fit))

  pipe_of : (a : ℕ) → a < system.agents → IsPipeLine system a (hold_of system.stages) system.stages (ports.lower a system.stages) (ports.lower a 0) end
  pipe_of a there = pipe_line laws.pipes system a end (ports.lower a) (states.stage a) system.stages (λ i low. above.stage a i there low) (some_word a there)

  -- before a cycle joined commands are alike behind a route, and it shows something to agents alone that its host is joined to
  pub record IsAlike (h a c : ℕ) : Type 0 where
    pub alike : JoinsAlike (target_of system a) (ports.after_route h a) c
    pub joined : (k : ℕ) → k < c → IsTrue (shows (ports.after_route h a).commands.signals k) → IsTrue (is_joined system a h)

  abbrev Alike : ℕ → Type 0
  Alike c = (h a : ℕ) → h < system.hosts → a < system.agents → IsAlike h a c

  quiet_top : (h a c : ℕ) → IsAlike h a c → IsFalse (is_joined system a h) → IsQuiet (ports.after_route h a) c
  quiet_top h a c is none k less = by_shown (shows (ports.after_route h a).commands.signals k) refl
    where
      by_shown : (b : Bool) → shows (ports.after_route h a).commands.signals k ≡ b → IsFalse b
      by_shown false e = refl
      by_shown true e = absurd (both_ways (is_joined system a h) none (is.joined k less e))

  row_line : (c : ℕ) → c ≤ end → Alike c → (h a : ℕ) → h < system.hosts → a < system.agents → KeepsRow (target_of system a) 2 (ports.after_route h a) (ports.before_arbiter h a) c
  row_line c fit alike h a low there = by_idle rows h a
      (λ joined. laws.row (target_of system a) (ports.after_route h a) (ports.below_cutter h a) (ports.above_dropper h a) (ports.before_arbiter h a) c (rows.cuts h a low there joined) (rows.fits h a low there joined) (rows.drops h a low there joined) (rows.gathers h a low there joined) (enables_before c fit h a low there) (alike h a low there).alike)
      (λ wires. let apart = rows.apart h a low there wires in
      let idle = apart.1 in
      silent_keeps (target_of system a) (ports.after_route h a) (ports.below_cutter h a) (ports.above_dropper h a) (ports.before_arbiter h a) c idle.high idle.mid idle.low (quiet_top h a c (alike h a low there) apart.0))

  row_lanes : (c : ℕ) → c ≤ end → Alike c → (h a : ℕ) → h < system.hosts → a < system.agents → BringsLanes system run h a (ports.after_route h a) (ports.before_arbiter h a) c
  row_lanes c fit alike h a low there = by_idle rows h a
      (λ joined. laws.lanes system run h a (ports.after_route h a) (ports.below_cutter h a) (ports.above_dropper h a) (ports.before_arbiter h a) c (rows.cuts h a low there joined) (rows.fits h a low there joined) (rows.drops h a low there joined) (rows.gathers h a low there joined) (enables_before c fit h a low there) (alike h a low there).alike
      (λ none k less. lanes_placed system run h a c (host_word h a low there joined) (plan.agents a there).word (views_before c fit h low) (rows.lanes h a low there joined none) k less))
      (λ wires. let apart = rows.apart h a low there wires in
      let idle = apart.1 in
      silent_lanes system run h a (ports.after_route h a) (ports.below_cutter h a) (ports.above_dropper h a) (ports.before_arbiter h a) c idle.high idle.mid idle.low (quiet_top h a c (alike h a low there) apart.0))

  kept : (c : ℕ) → c ≤ end → Alike c → KeepRows system run inside states c
  kept c fit alike = record {
    link_hold = 2;
    pipe_hold = hold_of system.stages;
    few = (let few = hold_is system.stages in omega (arith, few));
    links = row_line c fit alike;
    lanes = row_lanes c fit alike;
    words = λ h a low there.
        let top = top_words h a low there in
        let bottom : (ports.before_arbiter h a).shape.word_bytes ≡ (system.agent a).shape.word_bytes = ap (λ s. s.word_bytes) ((above.arbiter a there).shapes h low) ∙ ap (λ s. s.word_bytes) (pipe_of a there).same ∙ above.words a there in
        let same = ap₂ {C = ℕ} (λ m n. m / min m n) top bottom in
        omega (arith, same);
    pipe = λ a there. pipe_before responses system run c end fit a (hold_of system.stages) system.stages (ports.lower a system.stages) (ports.lower a 0) (pipe_of a there);
  }

  abbrev holds : Holds
  holds = record { host = 0; route = 0; links = 2; arbiter = 0; pipe = hold_of system.stages; agent = 0 }

  wired_at : (c : ℕ) → c ≤ end → Alike c → Wired responses system run (inside_of system inside) holds c
  unfolding kept
  wired_at c fit alike =
      let keeps = kept c fit alike in record {
        room = states.room;
        placed = λ h t a low place. (plan.places h low).agents _ _ a place;
        joined = plan.joined;
        words = keeps.words;
        few = (let few = hold_is system.stages in omega (arith, few));
        host = λ h low. host_before responses system run c end fit h 0 (states.room h) (ports.after_host h) (above.lines.host h low);
        route = λ h low. route_before responses system run c end fit h 0 (states.room h) (ports.after_host h) (ports.after_route h) (above.lines.route h low);
        links = keeps.links;
        lanes = keeps.lanes;
        arbiter = λ a there. arbiter_before responses system run c end fit a 0 (λ h. ports.before_arbiter h a) (ports.lower a system.stages) (above.lines.arbiter a there);
        pipe = keeps.pipe;
        agent = λ a there. agent_before responses system run c end fit a 0 (ports.lower a 0) (above.lines.agent a there);
      }

  settled_at : (c : ℕ) → c ≤ end → Alike c → IsSettled system run (inside_of system inside) states.room c
  unfolding wired_at
  settled_at c fit alike = laws.settle responses system run (inside_of system inside) holds c (wired_at c fit alike) (legal_run_before c end fit system run legal)

  alike_by : (c : ℕ) → c ≤ end → ((h : ℕ) → h < system.hosts → AnswersAreOwed (ports.after_host h) (c - 1)) → ((h a : ℕ) → h < system.hosts → a < system.agents → AnswersAreOwed (ports.after_route h a) (c - 1)) →
      ((h a : ℕ) → h < system.hosts → a < system.agents → AreLegalAt (ports.after_host h) c → AreSingle (ports.after_host h) c → OwesBelow (states.room h) (ports.after_host h) c → AreSingle (ports.after_route h a) c) → Alike c
  alike_by c fit owed_host owed_route single h a low there =
      let host_legal = (legal_run_before c end fit system run legal).hosts h low in
      let up_legal = ((above.lines.host h low).commands c fit host_legal (owed_host h low)).legal in
      let up_single = (above.lines.host h low).single c fit host_legal (owed_host h low) in
      let up_below = (above.lines.host h low).debt c fit host_legal (owed_host h low) in
      let carried = (above.lines.route h low).commands c fit up_legal up_single up_below (λ b here. owed_route h b low here) in
      record { alike = laws.alike (target_of system a) (ports.after_route h a) h c (carried.legal a there) (single h a low there up_legal up_single up_below) (λ k less. carried.tag a k there less); joined = λ k less shown. carried.joined a k there less shown }

  alike_at : (c : ℕ) → c ≤ end → Alike c
  alike_at zero fit = alike_by zero fit (λ h low k less. absurd (omega (arith, less))) (λ h a low there k less. absurd (omega (arith, less))) (λ h a low there legal_up single_up below_up k less shown. absurd (omega (arith, less)))
  alike_at (suc c) fit =
      let settled = settled_at c (omega (arith, fit)) (alike_at c (omega (arith, fit))) in
      alike_by (suc c) fit (λ h low k less. settled.owed h low k (omega (arith, less))) (λ h a low there k less. settled.owed_after_route h a low there k (omega (arith, less)))
      (λ h a low there legal_up single_up below_up.
      single_behind laws.route responses system h (states.room h) (ports.after_host h) (ports.after_route h) (states.route h) end (plan.places h low) (above.route h low) c fit legal_up single_up below_up
      (λ b here. settled.owed_after_route h b low here) a there)

  all_alike : Alike end
  all_alike = alike_at end (le_refl end)

  pub alike_behind : (h a : ℕ) → h < system.hosts → a < system.agents → JoinsAlike (target_of system a) (ports.after_route h a) end
  alike_behind h a low there = (all_alike h a low there).alike

  pub boundaries_settle : IsSettled system run (inside_of system inside) states.room end
  boundaries_settle = settled_at end (le_refl end) all_alike

  -- commands are legal behind the routes
  pub legal_behind : (h a : ℕ) → h < system.hosts → a < system.agents → AreLegalAt (ports.after_route h a) end
  legal_behind h a low there =
      ((above.lines.route h low).commands end (le_refl end) (boundaries_settle.legal h low) (boundaries_settle.single h low) (boundaries_settle.debt h low) (λ b here k less. boundaries_settle.owed_after_route h b low here k (omega (arith, less)))).legal a there

  -- nothing is shown to an agent that the host isn't joined to
  pub quiet_apart : (h a : ℕ) → h < system.hosts → a < system.agents → IsFalse (is_joined system a h) → IsQuiet (ports.after_route h a) end
  quiet_apart h a low there = quiet_top h a end (all_alike h a low there)

  pub rows_kept : KeepRows system run inside states end
  rows_kept = kept end (le_refl end) all_alike
