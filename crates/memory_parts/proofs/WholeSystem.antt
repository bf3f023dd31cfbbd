-- The machines of a system keep the lines that give what is promised at its ports.
use Rattle.std.proofs.Common.{ℕ, ◌<◌, ◌*◌, arith, sym, subst}
use Rattle.memory_runs.specs.Views.{Responses, System, Run}
use Rattle.memory_runs.specs.Commands.{longest_burst}
use Rattle.memory_machines.specs.Lines.{Inside, Holds, Wired}
use Rattle.memory_parts.specs.System.{States, Held, RunsAsMachines}
use Rattle.memory_parts.proofs.AgentMachine.{TagsInOrder, agent_line}
use Rattle.memory_parts.proofs.ArbiterMachine.{arbiter_line}
use Rattle.memory_parts.proofs.HostAnswers.{host_line}
use Rattle.memory_parts.proofs.PlanLaws.{agent_plan, route_plan, host_reads_words}
use Rattle.memory_parts.proofs.RouteCodes.{route_line}
use Rattle.memory_parts.proofs.RoutePlan.{BaseIsFree}

abbrev pub holds_of : Held → Holds
holds_of held = record { host = 0; route = 0; links = held.links; arbiter = 0; pipe = held.pipe; agent = 0 }

pub wired_by_machines : TagsInOrder → BaseIsFree → (responses : Responses) (system : System) (run : Run) (inside : Inside) (states : States) (held : Held) (end : ℕ) →
    RunsAsMachines responses system run inside states held end → Wired responses system run inside (holds_of held) end
wired_by_machines by_tag base_is_free responses system run inside states held end machines = record {
  room = machines.room;
  placed = λ h t a is at. ((machines.plan.place h a t.first t.kind is).0 at).0;
  joined = machines.plan.joined;
  words = machines.words;
  few = let few = machines.few in omega (arith, few);
  host = λ h is.
      host_line responses system run h (machines.room h) (inside.after_host h) (states.host h) end
      (subst (λ bits. 16 * longest_burst bits < machines.room h) (sym (machines.host h is).bursts) (machines.large h is))
      (host_reads_words system run h end machines.views is) (machines.host h is);
  route = λ h is.
      route_line responses system h (machines.room h) (inside.after_host h) (inside.after_route h) (states.route h) end
      (record { says = route_plan system machines.plan h (inside.after_host h).shape is (machines.host h is).words; base_is_free = base_is_free }) (machines.route h is);
  links = machines.links;
  lanes = machines.lanes;
  arbiter = λ a there. arbiter_line responses system a (λ h. inside.before_arbiter h a) (inside.after_arbiter a) (states.arbiter a) end (λ h is. machines.plan.joined a h is) (machines.arbiter a there);
  pipe = machines.pipe;
  agent = λ a there. agent_line by_tag responses system run a (inside.before_agent a) (states.agent a) end (agent_plan system machines.plan a there) (machines.agent a there);
}
