-- The command halves of the route's and the host's lines, and what is proved of the route's answers.
use Rattle.std.proofs.Common.{ℕ, ◌<◌, ◌≤◌, ◌-◌, ◌*◌, List, arith}
use Rattle.memory_runs.specs.Views.{System, Run, Responses, HostSide, HostView}
use Rattle.memory_runs.specs.Commands.{longest_burst}
use Rattle.memory_runs.specs.Legal.{IsLegalHost}
use Rattle.memory_machines.specs.Link.{Port, AreLegalAt, AnswersAreOwed}
use Rattle.memory_machines.specs.Lines.{HostCarriesCommands}
use Rattle.memory_parts.specs.Queue.{Entry, QueuesReads}
use Rattle.memory_machines.specs.Lines.{AreSingle, OwesBelow, RouteCarriesCommands}
use Rattle.memory_parts.proofs.RoutePlan.{RoutePlan}
use Rattle.memory_parts.specs.Route.{RouteState, IsRouteMachine}
use Rattle.memory_parts.specs.Host.{HostState, IsHostMachine, ReadsWords}
use Rattle.memory_parts.proofs.RouteLine.{carries_commands}
use Rattle.memory_parts.proofs.HostDebts.{owes_below}
use Rattle.memory_parts.proofs.HostLine.{in_order, held, legal_below, single_below}

queues_shorter : (port : Port) (valid : ℕ → ℕ) (queue : ℕ → List Entry) (end c : ℕ) → c ≤ end → QueuesReads port valid queue end → QueuesReads port valid queue c
queues_shorter port valid queue end c low q = record { begins = q.begins; next = λ k less. q.next k (omega arith) }

pub route_shorter : (responses : Responses) (system : System) (host room : ℕ) (up : Port) (down : ℕ → Port) (state : RouteState) (end c : ℕ) → c ≤ end → IsRouteMachine responses system host room up down state end → IsRouteMachine responses system host room up down state c
route_shorter responses system host room up down state end c low m = record {
  shapes = m.shapes;
  read = λ a k there less. m.read a k there (omega arith);
  write = λ a k there less. m.write a k there (omega arith);
  address = λ a k there less. m.address a k there (omega arith);
  word = λ a k there less. m.word a k there (omega arith);
  enables = λ a k there less. m.enables a k there (omega arith);
  count = λ a k there less. m.count a k there (omega arith);
  more = λ a k there less. m.more a k there (omega arith);
  tag = λ a k there less. m.tag a k there (omega arith);
  wait = λ k less. m.wait k (omega arith);
  outside = m.outside;
  stays = λ k less. m.stays k (omega arith);
  keeps = λ k less. m.keeps k (omega arith);
  nothing = m.nothing;
  nobody = m.nobody;
  counts = λ k less few some. m.counts k (omega arith) few some;
  owes = λ k less. m.owes k (omega arith);
  valid = λ k less. m.valid k (omega arith);
  answer = λ k less comes. m.answer k (omega arith) comes;
  code = λ k less comes. m.code k (omega arith) comes;
}

pub host_shorter : (responses : Responses) (side : HostSide) (view : HostView) (down : Port) (state : HostState) (end c : ℕ) → c ≤ end → IsHostMachine responses side view down state end → IsHostMachine responses side view down state c
host_shorter responses side view down state end c low m = record {
  words = m.words;
  units = m.units;
  bursts = m.bursts;
  read = λ k less. m.read k (omega arith);
  write = λ k less. m.write k (omega arith);
  address = λ k less. m.address k (omega arith);
  word = λ k less. m.word k (omega arith);
  enables = λ k less. m.enables k (omega arith);
  count = λ k less. m.count k (omega arith);
  more = λ k less. m.more k (omega arith);
  tag = λ k less. m.tag k (omega arith);
  wait = λ k less. m.wait k (omega arith);
  starts = m.starts;
  lasts = λ k less. m.lasts k (omega arith);
  quiet = m.quiet;
  asks = λ k less has. m.asks k (omega arith) has;
  queues = λ has. queues_shorter down down.answers.valid state.queue end c low (m.queues has);
  valid = λ k less has. m.valid k (omega arith) has;
  answer = λ k less comes. m.answer k (omega arith) comes;
  response = λ k less. m.response k (omega arith);
}

pub route_commands : (responses : Responses) (system : System) (host room : ℕ) (up : Port) (down : ℕ → Port) (state : RouteState) (end : ℕ) → RoutePlan system host up.shape → IsRouteMachine responses system host room up down state end →
    (c : ℕ) → c ≤ end → AreLegalAt up c → AreSingle up c → OwesBelow room up c → ((a : ℕ) → a < system.agents → AnswersAreOwed (down a) (c - 1)) → RouteCarriesCommands system host 0 up down c
route_commands responses system host room up down state end plan machine c low legal single below owed =
    carries_commands responses system host room up down state c (route_shorter responses system host room up down state end c low machine) legal single plan below owed

pub reads_shorter : (side : HostSide) (view : HostView) (end c : ℕ) → c ≤ end → ReadsWords side view end → ReadsWords side view c
reads_shorter side view end c low single has k less read = single has k (omega (arith, low, less)) read

pub host_commands : (responses : Responses) (system : System) (run : Run) (host : ℕ) (down : Port) (state : HostState) (end : ℕ) → IsHostMachine responses (system.host host) (run.at_host host) down state end → ReadsWords (system.host host) (run.at_host host) end →
    (c : ℕ) → c ≤ end → IsLegalHost (system.host host) (run.at_host host) c → AnswersAreOwed down (c - 1) → HostCarriesCommands system run host 0 down c
host_commands responses system run host down state end machine single c low legal owed =
    let m = host_shorter responses (system.host host) (run.at_host host) down state end c low machine in
    let s = reads_shorter (system.host host) (run.at_host host) end c low single in
    record {
      in_order = in_order responses (system.host host) (run.at_host host) down state c m legal s owed;
      held = held responses (system.host host) (run.at_host host) down state c m legal s owed;
      legal = legal_below responses (system.host host) (run.at_host host) down state c m legal;
    }

pub host_single : (responses : Responses) (system : System) (run : Run) (host : ℕ) (down : Port) (state : HostState) (end : ℕ) → IsHostMachine responses (system.host host) (run.at_host host) down state end → ReadsWords (system.host host) (run.at_host host) end →
    (c : ℕ) → c ≤ end → IsLegalHost (system.host host) (run.at_host host) c → AnswersAreOwed down (c - 1) → AreSingle down c
host_single responses system run host down state end machine single c low legal owed =
    single_below responses (system.host host) (run.at_host host) down state c (host_shorter responses (system.host host) (run.at_host host) down state end c low machine) legal

pub host_debt : (responses : Responses) (system : System) (run : Run) (host : ℕ) (down : Port) (state : HostState) (end : ℕ) → IsHostMachine responses (system.host host) (run.at_host host) down state end → ReadsWords (system.host host) (run.at_host host) end →
    (room : ℕ) → 16 * longest_burst down.shape.burst_bits < room → (c : ℕ) → c ≤ end → IsLegalHost (system.host host) (run.at_host host) c → AnswersAreOwed down (c - 1) → OwesBelow room down c
host_debt responses system run host down state end machine single room large c low legal owed =
    owes_below responses (system.host host) (run.at_host host) down state c (host_shorter responses (system.host host) (run.at_host host) down state end c low machine) legal (reads_shorter (system.host host) (run.at_host host) end c low single) owed room large
