use Rattle.memory_awake.proofs.built.machines_keep_their_lines.Goals as goal

pub returns : goal.returns
returns c = λ responses system run inside states end plan machines. record {
  host = λ h low. c.host_machine_keeps_its_line.ensures responses system run h (states.room h) (inside.after_host h) (states.host h) end (plan.rooms h low) (machines.one_word h low) (machines.host h low);
  route = λ h low. c.route_machine_keeps_its_line.ensures responses system h (states.room h) (inside.after_host h) (λ a. inside.upper h a (inside.links h a)) (states.route h) end (plan.places h low) (machines.route h low);
  arbiter = λ a there. c.arbiter_machine_keeps_its_line.ensures responses system a (λ h. inside.upper h a 0) (inside.lower a system.stages) (states.grant a) end (plan.joined a) (machines.arbiter a there);
  agent = λ a there. c.agent_machine_keeps_its_line.ensures responses system run a (inside.lower a 0) (states.agent a) end (plan.agents a there) (machines.agent a there);
}
