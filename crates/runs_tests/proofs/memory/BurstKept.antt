-- The right system with bursts and a stage is one of machines, of which all premises hold.
use Rattle.std.proofs.Common.{ℕ, zero, suc, le_refl, ◌<◌, ◌≡◌, ◌*◌, ◌||◌, true, false, not, arith, refl, IsTrue, IsFalse}
use Rattle.std.proofs.lemmas.Bool.{both_ways}
use Rattle.memory_runs.specs.Views.Responses.{AreZero}
use Rattle.memory_runs.specs.Awake.{is_alike}
use Rattle.memory_runs.specs.Commands.{longest_burst}
use Rattle.memory_runs.specs.Order.{is_joined}
use Rattle.memory_runs.specs.Whole.{IsLegalRun}
use Rattle.memory_machines.specs.Lines.{target_of}
use Rattle.memory_links.specs.Driven.{CutInputs, DropInputs, PipeInputs, cut_above, cut_below, cut_state, drop_above, drop_below, drop_state, pipe_run}
use Rattle.memory_links.specs.Cutters.{RunsAsCutter, reach_longest}
use Rattle.memory_links.specs.Drops.{RunsAsDrop}
use Rattle.memory_links.specs.Pipes.{RunsAsPipe}
use Rattle.memory_awake.specs.RowSystem.{AreRows, IsFairRow, boundaries_of}
use Rattle.memory_awake.specs.Rows.{IsWired, CutsBursts, DropsBeats, CutsBursts.cutter, CutsBursts.no_cutter, FitsWords.no_width, DropsBeats.dropper, DropsBeats.no_dropper, drops_some}
use Rattle.memory_awake.specs.Theorem.{ArePlanned, AreMachines, IsStageBetween}
use Rattle.memory_awake.specs.Wires.{IsWire}
use Rattle.runs_tests.specs.TwoByTwo.{first_or}
use Rattle.runs_tests.specs.BurstSystem.{burst_system, burst_run, burst_ports, burst_states, after_host, after_route, below_cutter, below_dropper, before_arbiter, after_arbiter, before_agent, no_port, cutting, dropping, piping}
use Rattle.runs_tests.proofs.memory.TwoByTwo.{two, pairs, joined_below, past_two, route_plan}
use Rattle.runs_tests.proofs.memory.Tables.{HostTables, RouteTables, ArbiterTables, AgentTables, host_machine, route_machine, arbiter_machine, agent_machine, host_views, legal_run, never}

pub planned : ArePlanned burst_system (boundaries_of burst_ports) burst_states
planned = record {
  few_stages = omega arith;
  few_hosts = omega arith;
  joined = λ a. joined_below;
  shares = λ a there. (omega arith, (omega arith, tt));
  plain = two (λ h. IsFalse (burst_system.host h).has_burst → (burst_system.host h).burst_bits ≡ 1) (λ none. let bad : ⊥ = cc in absurd bad) (λ none. refl);
  places = λ h is. route_plan burst_system.host (λ a. 4) (first_or true false) 1 (after_host h).shape h is refl;
  agents = λ a there. record { word = omega arith; unit = omega arith; pending = omega arith; span = 4; spans = refl; some_span = omega arith; one_word = λ fixed reads. let bad : ⊥ = cc in absurd bad };
  rooms = two (λ h. 16 * longest_burst (after_host h).shape.burst_bits < burst_states.room h) (omega arith) (omega arith);
}

-- ---- the machines

hosts : HostTables burst_system burst_run after_host burst_states.host 12
hosts = record {
  has = record { holds = refl };
  words = record { holds = refl };
  units = record { holds = refl };
  bursts = record { holds = refl };
  read = record { holds = refl };
  write = record { holds = refl };
  address = record { holds = refl };
  word = record { holds = refl };
  enables = record { holds = refl };
  count = record { holds = refl };
  more = record { holds = refl };
  tag = record { holds = refl };
  wait = record { holds = refl };
  starts = record { holds = refl };
  lasts = record { holds = refl };
  quiet = record { holds = refl };
  queues = λ h is. record { begins = refl; next = λ c low. refl };
  valid = record { holds = refl };
  answer = record { holds = refl };
  response = record { holds = refl };
}

routes : RouteTables burst_system burst_states.room after_host after_route burst_states.route 12
routes = record {
  shapes = record { holds = refl };
  read = record { holds = refl };
  write = record { holds = refl };
  address = record { holds = refl };
  word = record { holds = refl };
  enables = record { holds = refl };
  count = record { holds = refl };
  more = record { holds = refl };
  tag = record { holds = refl };
  wait = record { holds = refl };
  outside = record { holds = refl };
  stays = record { holds = refl };
  keeps = record { holds = refl };
  nothing = record { holds = refl };
  nobody = record { holds = refl };
  counts = record { holds = refl };
  owes = record { holds = refl };
  valid = record { holds = refl };
  answer = record { holds = refl };
  code = record { holds = refl };
}

arbiters : ArbiterTables burst_system before_arbiter after_arbiter burst_states.grant 12
arbiters = record {
  shapes = record { holds = refl };
  grants = λ a c. refl;
  shown = record { holds = refl };
  wait = record { holds = refl };
  valid = record { holds = refl };
  word = record { holds = refl };
  code = record { holds = refl };
}

agents : AgentTables burst_system burst_run before_agent burst_states.agent 12
agents = record {
  has_read = record { holds = refl };
  has_write = record { holds = refl };
  has_wait = record { holds = refl };
  has_valid = record { holds = refl };
  words = record { holds = refl };
  bursts = record { holds = refl };
  plain = record { holds = refl };
  read = record { holds = refl };
  write = record { holds = refl };
  address = record { holds = refl };
  word = record { holds = refl };
  enables = record { holds = refl };
  all_lanes = record { holds = refl };
  count = record { holds = refl };
  grant = record { holds = refl };
  wait = record { holds = refl };
  stood = record { holds = refl };
  queues = λ a there. record { begins = refl; next = λ c low. refl };
  valid = record { holds = refl };
  answer = record { holds = refl };
  code = record { holds = refl };
  tag = record { holds = refl };
}

pub record Links : Type 0 where
  pub cut : (given : CutInputs) → RunsAsCutter given.reach given.longest (cut_above given) (cut_below given) (cut_state given)
  pub drop : (given : DropInputs) → RunsAsDrop given.room (drop_above given) (drop_below given) (drop_state given)
  pub pipe : (given : PipeInputs) → RunsAsPipe given.stages (pipe_run given)

stages : Links → (a i : ℕ) → a < 2 → i < 1 → IsStageBetween (burst_states.stage a i) (burst_ports.lower a (suc i)) (burst_ports.lower a i)
stages links a zero there low =
    let pipe = links.pipe (piping a) in
    record { runs = pipe.stage 0 (omega arith); some = omega arith; few = omega arith; ready = λ c. pipe.opens 0 c (omega arith); up_is = refl; down_is = refl; tags = λ c. pipe.answer_tag 0 c (omega arith) }
stages links a (suc i) there low = absurd (omega (arith, low))

pub machines : Links → AreMachines AreZero burst_system burst_run (boundaries_of burst_ports) burst_states 12
machines links = record {
  one_word = λ h is none. let bad : ⊥ = cc in absurd bad;
  host = host_machine burst_system burst_run after_host burst_states.host 12 hosts;
  route = route_machine burst_system burst_states.room after_host after_route burst_states.route 12 routes;
  arbiter = arbiter_machine burst_system before_arbiter after_arbiter burst_states.grant 12 arbiters;
  silent = λ a there h c past low. past_two (below_dropper 0 a) (below_dropper 1 a) no_port c refl h past;
  stage = stages links;
  agent = agent_machine burst_system burst_run before_agent burst_states.agent 12 agents;
}

pub legal : IsLegalRun burst_system burst_run 12
legal = legal_run burst_system burst_run 12 (record {
  one_kind = record { holds = refl };
  held = record { holds = refl };
  least = record { holds = refl };
  most = record { holds = refl };
  finished = record { holds = refl };
  owed = record { holds = refl };
})

-- ---- the links

wire : (h a : ℕ) → h < 2 → a < 2 → IsWired (after_route h a) (after_route h a)
wire h a is there = record { wire = record { same = refl; longer = le_refl (after_route h a).shape.burst_bits }; some = pairs (λ h a. 0 < (after_route h a).shape.word_bytes) (omega arith) (omega arith) (omega arith) (omega arith) h a is there }

wire_below : (h a : ℕ) → h < 2 → a < 2 → IsWired (below_cutter h a) (below_cutter h a)
wire_below h a is there = record { wire = record { same = refl; longer = le_refl (below_cutter h a).shape.burst_bits }; some = pairs (λ h a. 0 < (below_cutter h a).shape.word_bytes) (omega arith) (omega arith) (omega arith) (omega arith) h a is there }

-- the wires before the arbiters: below them bursts are longer
cut_wire : (a : ℕ) → IsWired (below_cutter 0 a) (before_arbiter 0 a)
cut_wire a = record { wire = record { same = refl; longer = omega arith }; some = omega arith }

plain_wire : IsWired (below_cutter 1 0) (before_arbiter 1 0)
plain_wire = record { wire = record { same = refl; longer = omega arith }; some = omega arith }

-- what beats are dropped, by host and agent: those of host 1 before agent 1
drops : Links → (h a : ℕ) → h < 2 → a < 2 → DropsBeats (target_of burst_system a) (below_cutter h a) (before_arbiter h a)
drops links zero a is there = no_dropper (cut_wire a)
drops links (suc zero) zero is there = no_dropper plain_wire
drops links (suc zero) (suc zero) is there = dropper 2 (drop_state dropping) (record { some = omega arith; same = refl; units = refl; agent = refl; enables = refl; one_beat = refl }) (omega arith) (links.drop dropping)
drops links (suc zero) (suc (suc a)) is there = absurd (omega (arith, there))
drops links (suc (suc h)) a is there = absurd (omega (arith, is))

-- where none are dropped the agent has byte enables, or the host, which is host 0, has none
lanes : (links : Links) (h a : ℕ) (is : h < 2) (there : a < 2) → IsFalse (drops_some (drops links h a is there)) → IsTrue ((burst_system.agent a).has_enables || not (burst_system.host h).has_enables)
unfolding drops
lanes links zero zero is there none = refl
lanes links zero (suc zero) is there none = refl
lanes links zero (suc (suc a)) is there none = absurd (omega (arith, there))
lanes links (suc zero) zero is there none = refl
lanes links (suc zero) (suc zero) is there none = absurd (never true refl none)
lanes links (suc zero) (suc (suc a)) is there none = absurd (omega (arith, there))
lanes links (suc (suc h)) a is there none = absurd (omega (arith, is))

pub rows : Links → AreRows burst_system burst_run burst_ports 12
rows links = record {
  idle = λ h a. false;
  views = host_views burst_system burst_run 12 (record { enables = record { holds = refl }; all_lanes = record { holds = refl }; word = record { holds = refl }; one_beat = record { holds = refl } });
  cuts = λ h a is there joined. two (λ h. CutsBursts (after_route h a) (below_cutter h a))
      (cutter (reach_longest 1) 1 (cut_state (cutting a)) (record { some = omega arith; same = refl; bytes = refl; least = omega arith; most = omega arith; goes = λ address. omega arith; allowed = λ address. omega arith }) (links.cut (cutting a)))
      (no_cutter (wire 1 a (omega arith) there))
      h is;
  fits = λ h a is there joined. no_width (wire_below h a is there);
  gathers = λ h a is there joined. tt;
  drops = λ h a is there joined. drops links h a is there;
  lanes = λ h a is there joined none. lanes links h a is there none;
  apart = λ h a is there idle. absurd (both_ways false refl idle);
  wired = λ h a is there joined alike. pairs (λ h a. IsTrue (is_alike (burst_system.host h) (burst_system.agent a)) → IsWire (after_route h a) (before_arbiter h a))
      (λ x. let bad : ⊥ = cc in absurd bad) (λ x. let bad : ⊥ = cc in absurd bad) (λ x. plain_wire.wire) (λ x. let bad : ⊥ = cc in absurd bad) h a is there alike;
}

-- host 1, whose beats are dropped, has byte enables
pub fair_row : (agent host : ℕ) → agent < 2 → IsTrue (is_joined burst_system agent host) → IsFairRow burst_system burst_ports agent host
fair_row agent host there joined = pairs (λ h a. IsFairRow burst_system burst_ports a h)
    (λ none bursts. cut_wire 0)
    (λ none bursts. cut_wire 1)
    (λ none bursts. plain_wire)
    (λ none bursts. absurd (never true refl none))
    host agent (joined_below host joined) there
