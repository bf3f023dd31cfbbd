use Rattle.memory_awake.proofs.HostBursts.{behind_wire}
use Rattle.memory_awake.proofs.HostCuts.{cut_left, cut_has_steps_left}
use Rattle.memory_awake.proofs.HostSelects.{select_has_steps_left}
use Rattle.memory_runs.specs.Commands.{burst_before}
use Rattle.memory_machines.specs.Link.{takes}
use Rattle.memory_machines.specs.Machines.{raw_at}
use Rattle.memory_awake.proofs.HostSplits.{split_has_steps_left, steps_left, pieces_few}
use Rattle.memory_awake.proofs.hosts.links_take_few_steps.Goals as goal

pub returns-clause-wire : goal.returns-clause-wire
returns-clause-wire c = λ up down good longest rest end wire has. behind_wire up down wire good longest rest end has

pub returns-clause-selector : goal.returns-clause-selector
returns-clause-selector c = λ room up down offsets good longest rest end runs fine has. select_has_steps_left room up down offsets runs good end fine longest rest has

pub returns-clause-splitter : goal.returns-clause-splitter
returns-clause-splitter c = λ room many up down state good longest rest end runs legal few some fine has. (
  steps_left room many up down state end runs legal (λ k. pieces_few up.shape down.shape (burst_before up.shape up.commands.signals (takes up) k) (raw_at up k) many few some) some good fine longest rest has,
  split_has_steps_left room many up down state end runs legal (λ k. pieces_few up.shape down.shape (burst_before up.shape up.commands.signals (takes up) k) (raw_at up k) many few some) some good fine longest rest has,
)

pub returns-clause-cutter : goal.returns-clause-cutter
returns-clause-cutter c = λ reach longest up down state good most rest end runs least legal reads has. (
  cut_left reach longest up down state end runs least (λ k fit shown. legal.joined k fit shown) good most rest has reads,
  cut_has_steps_left reach longest up down state end runs least (λ k fit shown. legal.joined k fit shown) good most rest has reads,
)
