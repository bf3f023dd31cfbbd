-- The right system with width changes is one of machines, of which all premises hold.
use Rattle.std.proofs.Common.{ℕ, ◌<◌, ◌≤◌, true, false, arith, refl, le_refl, IsTrue}
use Rattle.std.proofs.lemmas.Bool.{both_ways}
use Rattle.memory_runs.specs.Views.Responses.{AreZero}
use Rattle.memory_runs.specs.Awake.{is_alike}
use Rattle.memory_runs.specs.Order.{is_joined}
use Rattle.memory_runs.specs.Whole.{IsLegalRun}
use Rattle.memory_machines.specs.Link.{Port}
use Rattle.memory_machines.specs.Lines.{target_of}
use Rattle.memory_parts.specs.Agent.{IsAgentPlan}
use Rattle.memory_parts.specs.Queue.{QueuesReads}
use Rattle.memory_links.specs.Driven.{SelectInputs, SplitInputs, select_above, select_below, select_queue, split_above, split_below, split_state}
use Rattle.memory_links.specs.Selects.{RunsAsSelect}
use Rattle.memory_links.specs.Splits.{RunsAsSplit}
use Rattle.memory_awake.specs.RowSystem.{AreRows, IsFairRow, boundaries_of}
use Rattle.memory_awake.specs.Rows.{IsWired, CutsBursts, FitsWords, GathersBelowCut, CutsBursts.no_cutter, FitsWords.no_width, FitsWords.selector, FitsWords.splitter, DropsBeats.no_dropper}
use Rattle.memory_awake.specs.Theorem.{ArePlanned, AreMachines}
use Rattle.memory_awake.specs.Wires.{IsWire}
use Rattle.runs_tests.specs.WidthSystem.{width_system, width_run, width_ports, width_states, swapped_run, unmoved_run, bytes_of, no_port, after_host, after_route, above_dropper, before_arbiter, before_agent, splitting, selecting}
use Rattle.runs_tests.proofs.memory.TwoByTwo.{two, pairs, joined_below, past_two, route_plan}
use Rattle.runs_tests.proofs.memory.Tables.{HostTables, RouteTables, ArbiterTables, AgentTables, host_machine, route_machine, arbiter_machine, agent_machine, host_views, legal_run}

-- ---- the plan

agent_plan : (a : ℕ) → a < 2 → IsAgentPlan (width_system.agent a)
agent_plan a there = two (λ a. IsAgentPlan (width_system.agent a))
    (record { word = omega arith; unit = omega arith; pending = omega arith; span = 4; spans = refl; some_span = omega arith; one_word = λ fixed reads. let bad : ⊥ = cc in absurd bad })
    (record { word = omega arith; unit = omega arith; pending = omega arith; span = 8; spans = refl; some_span = omega arith; one_word = λ fixed reads. let bad : ⊥ = cc in absurd bad })
    a there

pub planned : ArePlanned width_system (boundaries_of width_ports) width_states
planned = record {
  few_stages = omega arith;
  few_hosts = omega arith;
  joined = λ a. joined_below;
  shares = λ a there. (omega arith, (omega arith, tt));
  plain = λ h is none. refl;
  places = λ h is. route_plan width_system.host bytes_of (λ a. true) 0 (after_host h).shape h is refl;
  agents = agent_plan;
  rooms = λ h is. omega arith;
}

-- ---- the machines

hosts : HostTables width_system width_run after_host width_states.host 8
hosts = record {
  has = record { holds = refl };
  words = record { holds = refl };
  units = record { holds = refl };
  bursts = record { holds = refl };
  read = record { holds = refl };
  write = record { holds = refl };
  address = record { holds = refl };
  word = record { holds = refl };
  enables = record { holds = refl };
  count = record { holds = refl };
  more = record { holds = refl };
  tag = record { holds = refl };
  wait = record { holds = refl };
  starts = record { holds = refl };
  lasts = record { holds = refl };
  quiet = record { holds = refl };
  queues = λ h is. record { begins = refl; next = λ c low. refl };
  valid = record { holds = refl };
  answer = record { holds = refl };
  response = record { holds = refl };
}

routes : RouteTables width_system width_states.room after_host after_route width_states.route 8
routes = record {
  shapes = record { holds = refl };
  read = record { holds = refl };
  write = record { holds = refl };
  address = record { holds = refl };
  word = record { holds = refl };
  enables = record { holds = refl };
  count = record { holds = refl };
  more = record { holds = refl };
  tag = record { holds = refl };
  wait = record { holds = refl };
  outside = record { holds = refl };
  stays = record { holds = refl };
  keeps = record { holds = refl };
  nothing = record { holds = refl };
  nobody = record { holds = refl };
  counts = record { holds = refl };
  owes = record { holds = refl };
  valid = record { holds = refl };
  answer = record { holds = refl };
  code = record { holds = refl };
}

arbiters : ArbiterTables width_system before_arbiter before_agent width_states.grant 8
arbiters = record {
  shapes = record { holds = refl };
  grants = λ a c. refl;
  shown = record { holds = refl };
  wait = record { holds = refl };
  valid = record { holds = refl };
  word = record { holds = refl };
  code = record { holds = refl };
}

agents : AgentTables width_system width_run before_agent width_states.agent 8
agents = record {
  has_read = record { holds = refl };
  has_write = record { holds = refl };
  has_wait = record { holds = refl };
  has_valid = record { holds = refl };
  words = record { holds = refl };
  bursts = record { holds = refl };
  plain = record { holds = refl };
  read = record { holds = refl };
  write = record { holds = refl };
  address = record { holds = refl };
  word = record { holds = refl };
  enables = record { holds = refl };
  all_lanes = record { holds = refl };
  count = record { holds = refl };
  grant = record { holds = refl };
  wait = record { holds = refl };
  stood = record { holds = refl };
  queues = λ a there. two (λ a. QueuesReads (before_agent a).port (width_run.at_agent a).readdatavalid (width_states.agent a).queue 8) (record { begins = refl; next = λ c low. refl }) (record { begins = refl; next = λ c low. refl }) a there;
  valid = record { holds = refl };
  answer = record { holds = refl };
  code = record { holds = refl };
  tag = record { holds = refl };
}

pub machines : AreMachines AreZero width_system width_run (boundaries_of width_ports) width_states 8
machines = record {
  one_word = λ h is none. let bad : ⊥ = cc in absurd bad;
  host = host_machine width_system width_run after_host width_states.host 8 hosts;
  route = route_machine width_system width_states.room after_host after_route width_states.route 8 routes;
  arbiter = arbiter_machine width_system before_arbiter before_agent width_states.grant 8 arbiters;
  silent = λ a there h c past low. past_two (above_dropper 0 a) (above_dropper 1 a) no_port c refl h past;
  stage = λ a i there low. absurd (omega (arith, low));
  agent = agent_machine width_system width_run before_agent width_states.agent 8 agents;
}

-- ---- the components

pub legal : IsLegalRun width_system width_run 8
legal = legal_run width_system width_run 8 (record {
  one_kind = record { holds = refl };
  held = record { holds = refl };
  least = record { holds = refl };
  most = record { holds = refl };
  finished = record { holds = refl };
  owed = record { holds = refl };
})

-- the twins are legal too
pub swapped_legal : IsLegalRun width_system swapped_run 8
swapped_legal = legal_run width_system swapped_run 8 (record {
  one_kind = record { holds = refl };
  held = record { holds = refl };
  least = record { holds = refl };
  most = record { holds = refl };
  finished = record { holds = refl };
  owed = record { holds = refl };
})

pub unmoved_legal : IsLegalRun width_system unmoved_run 8
unmoved_legal = legal_run width_system unmoved_run 8 (record {
  one_kind = record { holds = refl };
  held = record { holds = refl };
  least = record { holds = refl };
  most = record { holds = refl };
  finished = record { holds = refl };
  owed = record { holds = refl };
})

-- ---- the links

wire : (h a : ℕ) → h < 2 → a < 2 → IsWired (after_route h a) (after_route h a)
wire h a is there = record { wire = record { same = refl; longer = le_refl (after_route h a).shape.burst_bits }; some = pairs (λ h a. 0 < (after_route h a).shape.word_bytes) (omega arith) (omega arith) (omega arith) (omega arith) h a is there }

-- below them bursts are longer
wire_below : (h a : ℕ) → h < 2 → a < 2 → IsWired (above_dropper h a) (before_arbiter h a)
wire_below h a is there = record {
  wire = record { same = refl; longer = pairs (λ h a. (above_dropper h a).shape.burst_bits ≤ 3) (omega arith) (omega arith) (omega arith) (omega arith) h a is there };
  some = pairs (λ h a. 0 < (above_dropper h a).shape.word_bytes) (omega arith) (omega arith) (omega arith) (omega arith) h a is there;
}

pub record Links : Type 0 where
  pub split : (given : SplitInputs) → RunsAsSplit given.room (split_above given) (split_below given) (split_state given)
  pub select : (given : SelectInputs) → RunsAsSelect given.room (select_above given) (select_below given) (select_queue given)

-- what fits words, and doesn't gather
record Fitted (h a : ℕ) : Type 0 where
  fits : FitsWords (target_of width_system a) (after_route h a) (above_dropper h a)
  none : (top : Port) (cuts : CutsBursts top (after_route h a)) → GathersBelowCut cuts fits

fitted : Links → (h a : ℕ) → h < 2 → a < 2 → Fitted h a
fitted links h a is there = pairs Fitted
    (record { fits = no_width (wire 0 0 (omega arith) (omega arith)); none = λ top cuts. tt })
    (record {
      fits = splitter 2 2 (split_state splitting) (record { bytes = refl; some = omega arith; same = refl; one = omega arith; whole = refl; one_beat = refl }) (omega arith) (links.split splitting);
      none = λ top cuts. tt;
    })
    (record {
      fits = selector 2 2 (select_queue selecting) (record { some = omega arith; more = omega arith; whole = refl; same = refl; bytes = refl; enables = refl; one_beat = refl; one_beat_below = refl }) (omega arith) (links.select selecting);
      none = λ top cuts. tt;
    })
    (record { fits = no_width (wire 1 1 (omega arith) (omega arith)); none = λ top cuts. tt })
    h a is there

pub rows : Links → AreRows width_system width_run width_ports 8
rows links = record {
  idle = λ h a. false;
  views = host_views width_system width_run 8 (record { enables = record { holds = refl }; all_lanes = record { holds = refl }; word = record { holds = refl }; one_beat = record { holds = refl } });
  cuts = λ h a is there joined. no_cutter (wire h a is there);
  fits = λ h a is there joined. (fitted links h a is there).fits;
  gathers = λ h a is there joined. (fitted links h a is there).none (after_route h a) (no_cutter (wire h a is there));
  drops = λ h a is there joined. no_dropper (wire_below h a is there);
  lanes = λ h a is there joined none. refl;
  apart = λ h a is there idle. absurd (both_ways false refl idle);
  wired = λ h a is there joined alike. pairs (λ h a. IsTrue (is_alike (width_system.host h) (width_system.agent a)) → IsWire (after_route h a) (before_arbiter h a))
      (λ x. record { same = refl; longer = omega arith }) (λ x. let bad : ⊥ = cc in absurd bad) (λ x. let bad : ⊥ = cc in absurd bad) (λ x. record { same = refl; longer = omega arith }) h a is there alike;
}

-- no beats are dropped
pub fair_row : (agent host : ℕ) → agent < 2 → IsTrue (is_joined width_system agent host) → IsFairRow width_system width_ports agent host
fair_row agent host there joined = λ none bursts. wire_below host agent (joined_below host joined) there
