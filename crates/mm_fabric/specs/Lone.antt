-- A host whose only agent bounds its reads.
use Rattle.std.specs.Prelude.{◌≡◌, ℕ, ◌+◌, ◌*◌, ◌≤◌, true, false, List, [], ◌∷◌, Some}
use Rattle.netlist.specs.Nets.{NetValue}
use Rattle.netlist.specs.Netlists.{Netlist}
use Rattle.netlist.specs.Runs.{Run, IsEndlessRun}
use Rattle.netlist.specs.Longer.{Extends}
use Rattle.memory_runs.specs.declared.sides.route.Route.{Route}
use Rattle.command_nets.specs.declared.nets.CommandNets.{CommandNets}
use Rattle.command_nets.specs.declared.nets.AnswerNets.{AnswerNets}
use Rattle.mm_route.specs.declared.back.BackNets.{BackNets}
use Rattle.mm_route.specs.Entries.{is_lone}
use Rattle.mm_host.specs.Reads.{unanswered_in}
use Rattle.mm_agent.specs.Agents.{counts_words}
use Rattle.mm_fabric.specs.declared.begun.BegunHost.{BegunHost}
use Rattle.mm_fabric.specs.declared.parts.Seat.{Seat}
use Rattle.mm_fabric.specs.declared.parts.AgentPart.{AgentPart}
use Rattle.mm_fabric.specs.Fabrics.{seat_of}
use Rattle.mm_fabric.specs.Bounds.{reads_at, bears_few}
use Rattle.mm_fabric.specs.Tells.{HasSeat}
use Rattle.mm_fabric.specs.Wide.{ShowsBeatOf}

-- in each run, so many reads of the command at most are unanswered
abbrev pub HasAtMost : Netlist → ℕ → CommandNets → NetValue → AnswerNets → Type 0
HasAtMost netlist most command wait answer =
    (longer : Netlist) → Extends netlist longer → (run : Run) → IsEndlessRun longer run → (c : ℕ)
    → unanswered_in run command.read wait answer.valid c ≤ most

-- a host with a seat at an agent that reads has no more than the agent bears, and three in each of so many stages, where each
-- read is of one word
abbrev pub BoundsReads : Netlist → ℕ → AgentPart → Type 0
BoundsReads netlist stages part =
    part.port.reads ≡ true → counts_words part.port ≡ false → (host : ℕ) (seat : Seat) → seat_of host part.seats ≡ Some seat
    → HasAtMost netlist (reads_at part.port + 3 * stages) seat.command seat.back.wait seat.back.answer

-- the route is to one agent alone, where fewer than 16 reads are unanswered
pub record IsBoundedRoute (netlist : Netlist) (routes : List Route) (command : CommandNets) (commands : List CommandNets)
    (backs : List BackNets) : Type 0 where
  pub lone : is_lone routes command.address.width ≡ true
  pub few : (below : CommandNets) (back : BackNets) → commands ≡ below ∷ [] → backs ≡ back ∷ []
      → HasAtMost netlist 15 below back.wait back.answer

-- the only route of the host leads to an agent where its seat shows its beat, and where the host is told what the seat is; fewer
-- than 16 reads, each of one word, are under way there
pub record IsLoneWay (netlist : Netlist) (parts : List AgentPart) (number : ℕ) (begun : BegunHost) : Type 0 where
  pub lone : is_lone begun.routes begun.trunk.host.command.address.width ≡ true
  pub route : Route
  pub only : begun.routes ≡ route ∷ []
  pub seat : Seat
  pub has : HasSeat number parts route seat
  pub beat : (command : CommandNets) → begun.commands.items ≡ command ∷ [] → ShowsBeatOf netlist command seat.command
  pub back : seat.back ≡ seat.told
  pub stages : ℕ
  pub bears : bears_few stages has.part.port ≡ true
  pub bounds : BoundsReads netlist stages has.part
