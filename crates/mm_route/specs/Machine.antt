-- The nets of a route as a machine: the map of the host, the sides of its places, and the state.
use Rattle.std.specs.Prelude.{◌≡◌, ℕ, zero, suc, ◌*◌, ◌^◌, ◌<◌, ◌≤◌, Bool, true, false, ◌||◌, if◌then◌else◌, nat_eq, List, [], ◌∷◌, Option, Some, None}
use Rattle.histories.specs.History.{is_raised}
use Rattle.netlist.specs.Nets.{NetValue}
use Rattle.netlist.specs.Netlists.{Netlist}
use Rattle.netlist.specs.Runs.{Run, Cycle, IsEndlessRun}
use Rattle.netlist.specs.Longer.{Extends}
use Rattle.memory_runs.specs.Views.{System, Shape, Kind}
use Rattle.memory_runs.specs.Views.Responses.{AreCodes}
use Rattle.memory_runs.specs.Commands.{byte_address}
use Rattle.memory_runs.specs.Order.{is_agent}
use Rattle.memory_machines.specs.Paths.{AnswerView}
use Rattle.memory_machines.specs.Link.{Port}
use Rattle.memory_parts.specs.Queue.{takes_read}
use Rattle.memory_parts.specs.Route.{RouteState, kind_at, IsRouteMachine}
use Rattle.command_nets.specs.declared.nets.CommandNets.{CommandNets}
use Rattle.command_nets.specs.declared.nets.AnswerNets.{AnswerNets}
use Rattle.command_nets.specs.Nets.{port_in, ShowSame}
use Rattle.memory_runs.specs.declared.sides.route.Route.{Route}
use Rattle.mm_route.specs.declared.back.BackNets.{BackNets}
use Rattle.mm_route.specs.declared.registers.LatchNets.{LatchNets}
use Rattle.mm_route.specs.declared.registers.RegisterNets.{RegisterNets}
use Rattle.mm_route.specs.Entries.{holds}

-- ---- the map

-- an entry is for this agent
abbrev pub has_entry : List Route → ℕ → Bool
has_entry [] agent = false
has_entry (entry ∷ later) agent = nat_eq entry.agent agent || has_entry later agent

-- the place of an address is the agent of exactly those entries that hold it
abbrev pub AreHeld : List Route → Kind → ℕ → Option ℕ → Type 0
AreHeld [] kind address place = Unit {0}
AreHeld (entry ∷ later) kind address place =
    (is_agent entry.agent place ≡ holds entry kind address) × AreHeld later kind address place

-- each footprint is a whole number of words
abbrev pub HoldWords : ℕ → List Route → Type 0
HoldWords word_bytes [] = Unit {0}
HoldWords word_bytes (entry ∷ later) = ((words : ℕ) × (2 ^ entry.bits ≡ words * word_bytes)) × HoldWords word_bytes later

-- the entries are the map of this host, for addresses of so many bits; an agent without an entry is the place of none
pub record MapsAs (entries : List Route) (width : ℕ) (system : System) (host : ℕ) (shape : Shape) : Type 0 where
  pub bytes : shape.unit_bytes ≡ 1
  pub words : HoldWords shape.word_bytes entries
  pub held : (kind : Kind) (address : ℕ) → address < 2 ^ width → AreHeld entries kind address (system.place host kind address)
  pub others : (kind : Kind) (address agent : ℕ) → address < 2 ^ width → system.place host kind address ≡ Some agent
      → has_entry entries agent ≡ true

-- ---- the sides below

-- the side of an agent without an entry: nothing is shown there, whatever it answers
abbrev pub silent_port : Shape → Run → CommandNets → ℕ → AnswerView → Port
silent_port shape run command host answers = record {
  shape = shape;
  commands = record {
    signals = record {
      read = λ c. 0;
      write = λ c. 0;
      address = λ c. run.net c command.address.number;
      word = λ c. run.net c command.word.number;
      enables = λ c. run.net c command.enables.number;
      count = λ c. run.net c command.count.number;
    };
    more = λ c. run.net c command.more.number;
    tag = λ c. host;
    waitrequest = λ c. 0;
  };
  answers = answers;
}

-- the side of an agent: the nets of its entry, where it has one. `others` is what each agent without one answers
abbrev pub down_at : Shape → Run → CommandNets → ℕ → (ℕ → AnswerView) → List Route → List CommandNets → List BackNets → ℕ → Port
down_at shape run command host others (entry ∷ entries) (made ∷ commands) (back ∷ backs) agent =
    if nat_eq entry.agent agent then port_in shape run made back.wait back.answer
    else down_at shape run command host others entries commands backs agent
down_at shape run command host others entries commands backs agent = silent_port shape run command host (others agent)

-- ---- the state

-- the places that the registers keep
pub record KeptPlaces : Type 0 where
  pub kept : Option ℕ
  pub owing : Option ℕ

abbrev pub place_by : System → ℕ → Port → Bool → Option ℕ → ℕ → Option ℕ
place_by system host up inside kept c =
    if inside then kept else system.place host (kind_at up c) (byte_address up.shape (up.commands.address c))

abbrev pub places_at : System → ℕ → Port → (ℕ → Bool) → ℕ → KeptPlaces
places_at system host up inside zero = record { kept = None; owing = None }
places_at system host up inside (suc c) =
    let before = places_at system host up inside c in
    let place = place_by system host up (inside c) before.kept c in
    record { kept = place; owing = if takes_read up c then place else before.owing }

-- the last beat that was taken had `more` high: never where no place is latched
abbrev pub inside_at : Run → Option LatchNets → ℕ → Bool
inside_at run None c = false
inside_at run (Some latch) c = is_raised (run.net c latch.inside.number)

abbrev pub state_in : System → ℕ → Port → Run → RegisterNets → RouteState
state_in system host up run registers =
    let inside : ℕ → Bool = inside_at run registers.latch in
    record {
      inside = inside;
      kept = λ c. (places_at system host up inside c).kept;
      owed = λ c. run.net c registers.owed.number;
      owing = λ c. (places_at system host up inside c).owing;
    }

-- the nets are the machine of a route, in some state
pub record RunsAsRoute (system : System) (host room : ℕ) (up : Port) (down : ℕ → Port) (end : ℕ) : Type 0 where
  pub state : RouteState
  pub is_machine : IsRouteMachine AreCodes system host room up down state end

-- in every endless run of each longer netlist, the nets are the machine of a route of each system whose map of this host these
-- entries are, whatever agents without an entry answer
abbrev pub RunsAsMachine : Netlist → List Route → ℕ → CommandNets → List CommandNets → ℕ → List BackNets → NetValue → AnswerNets
    → Type 0
RunsAsMachine netlist entries host command commands room_bits backs wait answer =
    (longer : Netlist) → Extends netlist longer → (run : Run) → IsEndlessRun longer run
    → (system : System) (shape : Shape) (others : ℕ → AnswerView) (room end : ℕ)
    → MapsAs entries command.address.width system host shape → room ≤ 2 ^ room_bits →
    RunsAsRoute system host room (port_in shape run command wait answer)
    (down_at shape run command host others entries commands backs) end

-- these commands show the same in both cycles
abbrev pub ShowAllSame : List CommandNets → Cycle → Cycle → Type 0
ShowAllSame [] one other = Unit {0}
ShowAllSame (made ∷ later) one other = ShowSame made one other × ShowAllSame later one other
