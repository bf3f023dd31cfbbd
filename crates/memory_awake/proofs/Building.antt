-- A system of machines is awake.
use Rattle.std.proofs.Common.{ℕ, suc, ◌≡◌, ◌<◌, ◌≤◌, ◌+◌, ◌-◌, arith, refl, sym, subst, IsTrue, Some, ap}
use Rattle.memory_runs.specs.Views.{System, Run, Responses, Kind}
use Rattle.memory_runs.specs.Commands.{shows}
use Rattle.memory_runs.specs.Whole.{IsLegalRun}
use Rattle.memory_runs.specs.Awake.{longest_wait}
use Rattle.memory_runs.specs.Legal.{IsLegalHost, IsLegalAgent}
use Rattle.memory_runs.specs.Order.{is_joined}
use Rattle.memory_machines.specs.Link.{Port, Target, AreLegalAt, AnswersAreOwed}
use Rattle.memory_machines.specs.Lines.{TaggedPort, Holds, Wired, AreSingle, OwesBelow, AreFitToAsk, IsFit, AreTaggedInOrder, target_of}
use Rattle.memory_machines.specs.Machines.{Stage, above, below, RunsAsStage, WaitsOnlyWhenFull, owing_rank}
use Rattle.memory_machines.specs.Settled.{IsSettled}
use Rattle.memory_machines.specs.Turns.{Grant, seats_of}
use Rattle.memory_parts.specs.Agent.{AgentState, IsAgentMachine, IsAgentPlan}
use Rattle.memory_parts.specs.Arbiter.{IsArbiterMachine}
use Rattle.memory_parts.specs.Host.{HostState, IsHostMachine, ReadsWords}
use Rattle.memory_parts.specs.Route.{RouteState, IsRouteMachine, IsRoutePlan}
use Rattle.memory_parts.specs.Steps.{AreSilentPast, IsHostPart, IsRoutePart, IsArbiterPart, IsAgentPart, agent_rank}
use Rattle.memory_awake.specs.Theorem.{Boundaries, States, LinkRanks, ArePlanned, AreMachines, KeepLines, KeepRows, IsBuilt, inside_of, approach_of, ways_of, standings_of, slacks_of}
use Rattle.memory_awake.specs.Front.{KeepsWhole, IsFront, GivesAtOnce, IsDefaultFront}
use Rattle.memory_links.specs.Going.{KeepsGoing}
use Rattle.memory_awake.specs.Slack.{PassesOn, AreModest}
use Rattle.memory_awake.specs.Approach.{IsAwake}
use Rattle.memory_awake.specs.Ways.{KeepsAwake}
use Rattle.memory_awake.specs.Ahead.{KeepsNothingBack, LeavesNothingOpen, LeadsAhead}
use Rattle.memory_links.specs.Soon.{ShowsSoon}
use Rattle.memory_parts.specs.Ahead.{AcceptsAhead}
use Rattle.memory_awake.specs.Fair.{AreParts}
use Rattle.memory_awake.proofs.FairPipe.{holds_two}
use Rattle.memory_awake.proofs.Piped.{StageLaws, legal_at, tagged_at}

pub record Laws : Type 0 where
  pub host : (responses : Responses) (system : System) (run : Run) (host : ℕ) (down : Port) (state : HostState) (end : ℕ) → ReadsWords (system.host host) (run.at_host host) end → IsLegalHost (system.host host) (run.at_host host) end → AnswersAreOwed down end →
      IsHostMachine responses (system.host host) (run.at_host host) down state end → IsHostPart system run host down end
  pub route : (responses : Responses) (system : System) (host room : ℕ) (up : Port) (down : ℕ → Port) (state : RouteState) (end : ℕ) → IsRoutePlan system host up.shape → AreLegalAt up end → AreSingle up end → OwesBelow room up end →
      ((a : ℕ) → a < system.agents → AnswersAreOwed (down a) end) → IsRouteMachine responses system host room up down state end → IsRoutePart system host up down end
  pub arbiter : (system : System) (agent : ℕ) (up : ℕ → Port) (down : TaggedPort) (grant : ℕ → Grant) (end : ℕ) → ((h : ℕ) → IsTrue (is_joined system agent h) → h < system.hosts) → AreSilentPast system.hosts up end → AreFitToAsk system agent up end →
      AreTaggedInOrder down end → IsArbiterMachine (seats_of system agent) system.hosts up down grant end → IsArbiterPart system agent up down end
  pub tags : (responses : Responses) (system : System) (run : Run) (agent : ℕ) (up : TaggedPort) (state : AgentState) (end : ℕ) → IsAgentPlan (system.agent agent) → IsFit system agent up.port end → IsLegalAgent (system.agent agent) (run.at_agent agent) end →
      IsAgentMachine responses (system.agent agent) (run.at_agent agent) up state end → AreTaggedInOrder up end
  pub stages : StageLaws
  pub agent : (responses : Responses) (system : System) (run : Run) (agent : ℕ) (up : TaggedPort) (state : AgentState) (end : ℕ) → IsAgentPlan (system.agent agent) → IsFit system agent up.port end → IsLegalAgent (system.agent agent) (run.at_agent agent) end →
      IsAgentMachine responses (system.agent agent) (run.at_agent agent) up state end → IsAgentPart system run agent up (agent_rank system run agent) (longest_wait (system.agent agent) + 1) end
  pub going : (stage : Stage) → RunsAsStage stage → 0 < stage.depth → WaitsOnlyWhenFull stage → (target : Target) (end : ℕ) → AreLegalAt (above stage) end → AreLegalAt (below stage) end → KeepsGoing target (above stage) (below stage) (owing_rank (below stage)) 1 end
  pub pass : (stage : Stage) → RunsAsStage stage → (end : ℕ) → PassesOn (record { hold = stage.depth; kept = 1 }) (above stage) (below stage) end
  pub front : (system : System) (run : Run) (host agent : ℕ) (middle : Port) (down : ℕ → Port) (end : ℕ) → agent < system.agents → IsHostPart system run host middle end → IsRoutePart system host middle down end → IsFront system run host agent (down agent) end
  pub gives : (system : System) (run : Run) (host agent : ℕ) (middle : Port) (down : ℕ → Port) (end : ℕ) → agent < system.agents → IsHostPart system run host middle end → IsRoutePart system host middle down end → GivesAtOnce system run host agent (down agent) end
  pub default : (system : System) (run : Run) (host : ℕ) (middle : Port) (down : ℕ → Port) (end : ℕ) → IsHostPart system run host middle end → IsRoutePart system host middle down end → IsDefaultFront system run host end

pub record AheadLaws : Type 0 where
  pub agent : (responses : Responses) (system : System) (run : Run) (agent : ℕ) (up : TaggedPort) (state : AgentState) (end : ℕ) → IsAgentPlan (system.agent agent) → IsFit system agent up.port end → IsLegalAgent (system.agent agent) (run.at_agent agent) end →
      IsAgentMachine responses (system.agent agent) (run.at_agent agent) up state end → AcceptsAhead system run agent up end
  pub stage : (stage : Stage) → RunsAsStage stage → 0 < stage.depth → WaitsOnlyWhenFull stage → ShowsSoon (above stage) (below stage)
  pub back : (system : System) (run : Run) (host agent : ℕ) (middle : Port) (down : ℕ → Port) (end : ℕ) → agent < system.agents → IsHostPart system run host middle end → IsRoutePart system host middle down end → KeepsNothingBack system run host agent (down agent) end
  pub closed : (system : System) (run : Run) (host agent : ℕ) (middle : Port) (down : ℕ → Port) (end : ℕ) → agent < system.agents → IsHostPart system run host middle end → IsRoutePart system host middle down end → (system.host host).burst_bits ≡ 1 →
      LeavesNothingOpen (down agent) (end - 1)
  pub joined : (system : System) (run : Run) (host agent : ℕ) (middle : Port) (down : ℕ → Port) (end : ℕ) → agent < system.agents → IsHostPart system run host middle end → IsRoutePart system host middle down end →
      ((kind : Kind) (address : ℕ) → system.place host kind address ≡ Some agent → IsTrue (is_joined system agent host)) → (c : ℕ) → c < end → IsTrue (shows (down agent).commands.signals c) → IsTrue (is_joined system agent host)

-- the links end at words of the agent, since an arbiter has one shape on all sides
pub end_words : {responses : Responses} {system : System} {run : Run} {inside : Boundaries} {states : States} {end : ℕ} → AreMachines responses system run inside states end → (h a : ℕ) → h < system.hosts → a < system.agents →
    (inside.upper h a 0).shape.word_bytes ≡ (inside.lower a system.stages).shape.word_bytes
end_words machines h a low there = ap (λ s. s.word_bytes) ((machines.arbiter a there).shapes h low)

module _ (responses : Responses) (system : System) (run : Run) (inside : Boundaries) (states : States) (end : ℕ) (plan : ArePlanned system inside states) (rows : KeepRows system run inside states end) where
  abbrev pub holds : Holds
  holds = record { host = 0; route = 0; links = rows.link_hold; arbiter = 0; pipe = rows.pipe_hold; agent = 0 }

  abbrev pub lines : KeepLines responses system run inside states end → Wired responses system run (inside_of system inside) holds end
  lines keep = record {
    room = states.room;
    placed = λ h t a low place. (plan.places h low).agents _ _ a place;
    joined = plan.joined;
    words = rows.words;
    few = let few = rows.few in omega (arith, few);
    host = keep.host;
    route = keep.route;
    links = rows.links;
    lanes = rows.lanes;
    arbiter = keep.arbiter;
    pipe = rows.pipe;
    agent = keep.agent;
  }

module _ (laws : Laws) (responses : Responses) (system : System) (run : Run) (inside : Boundaries) (states : States) (ranks : LinkRanks) (end : ℕ) (built : IsBuilt responses system run inside states ranks end) (legal : IsLegalRun system run end)
    (settled : IsSettled system run (inside_of system inside) states.room end) where
  lower_tags : (a : ℕ) → a < system.agents → AreTaggedInOrder (inside.lower a 0) end
  lower_tags a there = laws.tags responses system run a (inside.lower a 0) (states.agent a) end (built.plan.agents a there) (settled.before_agent a there) (legal.agents a there) (built.machines.agent a there)

  some_word : (a : ℕ) → a < system.agents → 0 < (inside.lower a 0).shape.word_bytes
  some_word a there = let same = (built.machines.agent a there).commands.words in let some = (built.plan.agents a there).word in omega (arith, same, some)

  lower_legal : (a i : ℕ) → a < system.agents → i ≤ system.stages → AreLegalAt (inside.lower a i).port end
  lower_legal a i there low = legal_at laws.stages (target_of system a) (inside.lower a) (states.stage a) system.stages end (λ i low. built.machines.stage a i there low) (some_word a there) (settled.after_arbiter a there).legal (lower_tags a there) i low

  lower_tagged : (a i : ℕ) → a < system.agents → i ≤ system.stages → AreTaggedInOrder (inside.lower a i) end
  lower_tagged a i there low = tagged_at laws.stages (target_of system a) (inside.lower a) (states.stage a) system.stages end (λ i low. built.machines.stage a i there low) (some_word a there) (settled.after_arbiter a there).legal (lower_tags a there) i low

  host_part : (h : ℕ) → h < system.hosts → IsHostPart system run h (inside.after_host h) end
  host_part h low = laws.host responses system run h (inside.after_host h) (states.host h) end (built.machines.one_word h low) (legal.hosts h low) (settled.owed h low) (built.machines.host h low)

  abbrev behind : ℕ → ℕ → Port
  behind h a = inside.upper h a (inside.links h a)

  route_part : (h : ℕ) → h < system.hosts → IsRoutePart system h (inside.after_host h) (behind h) end
  route_part h low = laws.route responses system h (states.room h) (inside.after_host h) (behind h) (states.route h) end (built.plan.places h low) (settled.legal h low) (settled.single h low) (settled.debt h low)
      (λ a there. settled.owed_after_route h a low there) (built.machines.route h low)

  stage_goes : (a i : ℕ) → a < system.agents → i < system.stages → KeepsGoing (target_of system a) (inside.lower a (suc i)).port (inside.lower a i).port (owing_rank (below (states.stage a i))) 1 end
  stage_goes a i there low =
      let stage = states.stage a i in
      let is = built.machines.stage a i there low in
      let up_legal = lower_legal a (suc i) there low in
      let down_legal = lower_legal a i there (omega (arith, low)) in
      let here = laws.going stage is.runs is.some is.ready (target_of system a) end (subst (λ p. AreLegalAt p end) (sym is.up_is) up_legal) (subst (λ p. AreLegalAt p end) (sym is.down_is) down_legal) in
      subst (λ p. KeepsGoing (target_of system a) p (inside.lower a i).port (owing_rank (below stage)) 1 end) is.up_is (subst (λ p. KeepsGoing (target_of system a) (above stage) p (owing_rank (below stage)) 1 end) is.down_is here)

  stage_passes : (a i : ℕ) → a < system.agents → i < system.stages → PassesOn (record { hold = (states.stage a i).depth; kept = 1 }) (inside.lower a (suc i)).port (inside.lower a i).port end
  stage_passes a i there low =
      let stage = states.stage a i in
      let is = built.machines.stage a i there low in
      subst (λ p. PassesOn (record { hold = stage.depth; kept = 1 }) p (inside.lower a i).port end) is.up_is (subst (λ p. PassesOn (record { hold = stage.depth; kept = 1 }) (above stage) p end) is.down_is (laws.pass stage is.runs end))

  awake_at : (a : ℕ) → a < system.agents → KeepsAwake system run a (ways_of system inside a) (standings_of system run states ranks a) end
  awake_at a there = record {
    agent_part = laws.agent responses system run a (inside.lower a 0) (states.agent a) end (built.plan.agents a there) (settled.before_agent a there) (legal.agents a there) (built.machines.agent a there);
    lower = λ i low. stage_goes a i there low;
    arbiter = laws.arbiter system a (λ h. inside.upper h a 0) (inside.lower a system.stages) (states.grant a) end (built.plan.joined a) (built.machines.silent a there) (settled.asks a there) (lower_tagged a system.stages there (omega arith)) (built.machines.arbiter a there);
    upper = λ h i low fit. built.links.going h a i low there fit;
  }

  whole_at : (a : ℕ) → a < system.agents → KeepsWhole system run a (ways_of system inside a) (standings_of system run states ranks a) end
  whole_at a there = record {
    awake = awake_at a there;
    front = λ h low. laws.front system run h a (inside.after_host h) (behind h) end there (host_part h low) (route_part h low);
    gives = λ h low. laws.gives system run h a (inside.after_host h) (behind h) end there (host_part h low) (route_part h low);
    links = λ h low. built.links.some h a low there;
    in_order = λ c low. settled.in_order a c there low;
    words = λ h low. end_words built.machines h a low there;
  }

  modest_at : (a : ℕ) → a < system.agents → AreModest system a (ways_of system inside a) (standings_of system run states ranks a) (slacks_of states ranks a)
  modest_at a there = record {
    stages = refl;
    few_stages = built.plan.few_stages;
    few_hosts = built.plan.few_hosts;
    wait = omega arith;
    lower = λ i low. record { hold = (built.machines.stage a i there low).few; kept = omega arith; rank = omega arith };
    upper = λ h low. built.links.allow h a low there;
    toll = λ h low. built.links.toll h a low there;
  }

  pub is_awake : IsAwake system run (approach_of system run inside states ranks) end
  is_awake = record {
    legal = legal;
    agents = λ a there. record {
      shares = built.plan.shares a there;
      parts = whole_at a there;
      pass = record { lower = λ i low. stage_passes a i there low; upper = λ h i low fit. built.links.pass h a i low there fit };
      modest = modest_at a there;
    };
    default = λ h low. laws.default system run h (inside.after_host h) (behind h) end (host_part h low) (route_part h low);
  }

  pub are_parts : AreParts system run inside end
  are_parts = record {
    host = host_part;
    route = route_part;
    arbiter = λ a there. (awake_at a there).arbiter;
    stage = λ a i there low. holds_two _ _ _ _ end (built.machines.stage a i there low).few (stage_passes a i there low);
    agent = λ a c there low. (awake_at a there).agent_part.accepted c low;
  }

  module _ (ahead : AheadLaws) where
    shows_soon : (a i : ℕ) → a < system.agents → i < system.stages → ShowsSoon (inside.lower a (suc i)).port (inside.lower a i).port
    shows_soon a i there low =
        let is = built.machines.stage a i there low in
        subst (λ p. ShowsSoon p (inside.lower a i).port) is.up_is (subst (λ p. ShowsSoon (above (states.stage a i)) p) is.down_is (ahead.stage (states.stage a i) is.runs is.some is.ready))

    pub leads_ahead : (a : ℕ) → a < system.agents → IsTrue (system.agent a).has_readdatavalid → LeadsAhead system run a (ways_of system inside a) end
    leads_ahead a there has = record {
      accepts = ahead.agent responses system run a (inside.lower a 0) (states.agent a) end (built.plan.agents a there) (settled.before_agent a there) (legal.agents a there) (built.machines.agent a there);
      pipe = λ i low. shows_soon a i there low;
      back = λ h low. ahead.back system run h a (inside.after_host h) (behind h) end there (host_part h low) (route_part h low);
      closed = λ h low plain. ahead.closed system run h a (inside.after_host h) (behind h) end there (host_part h low) (route_part h low) (built.plan.plain h low plain);
      joined = λ h c low fit shown. ahead.joined system run h a (inside.after_host h) (behind h) end there (host_part h low) (route_part h low) (λ kind address place. (built.plan.places h low).joined kind address a place) c fit shown;
      wired = λ h low joined alike. built.links.wired h a low there joined has alike;
    }
