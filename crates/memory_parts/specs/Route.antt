-- The route as a machine: decoder, limiter, default agent and collector.
use Rattle.std.specs.Prelude.{◌≡◌, ℕ, suc, ◌+◌, ◌*◌, ◌<◌, ◌≤◌, Bool, true, false, not, ◌&&◌, ◌||◌, if◌then◌else◌, nat_eq, nat_lt, Option, Some, None, IsTrue}
use Rattle.histories.specs.History.{is_raised, one_if}
use Rattle.memory_runs.specs.Views.{System, Shape, Responses, Kind}
use Rattle.memory_runs.specs.Views.Responses.{AreZero, AreCodes}
use Rattle.memory_runs.specs.Views.Kind.{Reads, Writes}
use Rattle.memory_runs.specs.Commands.{byte_address}
use Rattle.memory_runs.specs.Order.{is_agent, is_joined}
use Rattle.memory_runs.specs.Plan.{serves_kind}
use Rattle.memory_machines.specs.Link.{Port, takes}
use Rattle.memory_parts.specs.Queue.{takes_read, by_option}

-- the registers, as functions of the cycle
pub record RouteState : Type 0 where
  pub inside : ℕ → Bool  -- the last beat that was taken had `more` high
  pub kept : ℕ → Option ℕ  -- the place of the last cycle
  pub owed : ℕ → ℕ  -- the words that are owed above as the cycle begins
  pub owing : ℕ → Option ℕ  -- the place of the last read that was taken

abbrev pub kind_at : Port → ℕ → Kind
kind_at port c = if is_raised (port.commands.write c) then Writes else Reads

-- the place of a command's first address; it is latched over a burst
abbrev pub place_now : System → ℕ → Port → RouteState → ℕ → Option ℕ
place_now system host up state c =
    if state.inside c then state.kept c
    else system.place host (kind_at up c) (byte_address up.shape (up.commands.address c))

abbrev pub is_same_place : Option ℕ → Option ℕ → Bool
is_same_place None None = true
is_same_place None (Some other) = false
is_same_place (Some place) other = is_agent place other

-- a read goes on where nothing is owed by another place; by registers alone
abbrev pub is_open : System → ℕ → Port → RouteState → ℕ → Bool
is_open system host up state c =
    is_raised (up.commands.write c) || nat_eq (state.owed c) 0 || is_same_place (state.owing c) (place_now system host up state c)

abbrev pub goes_to : System → ℕ → Port → RouteState → ℕ → ℕ → Bool
goes_to system host up state a c = is_agent a (place_now system host up state c) && is_open system host up state c

abbrev pub read_count : Port → ℕ → ℕ
read_count port c = if takes_read port c then port.commands.count c else 0

abbrev pub default_code_by : Responses → ℕ
default_code_by AreZero = 0
default_code_by AreCodes = 3

-- `room`: the register `owed` counts below it
pub record IsRouteMachine (responses : Responses) (system : System) (host room : ℕ) (up : Port) (down : ℕ → Port)
    (state : RouteState) (end : ℕ) : Type 0 where
  pub shapes : (a : ℕ) → a < system.agents → (down a).shape ≡ up.shape
  -- the commands: shown to the place of their first address, with the host's number as their tag
  pub read : (a c : ℕ) → a < system.agents → c < end
      → (down a).commands.read c ≡ (if goes_to system host up state a c then up.commands.read c else 0)
  pub write : (a c : ℕ) → a < system.agents → c < end
      → (down a).commands.write c ≡ (if goes_to system host up state a c then up.commands.write c else 0)
  pub address : (a c : ℕ) → a < system.agents → c < end → (down a).commands.address c ≡ up.commands.address c
  pub word : (a c : ℕ) → a < system.agents → c < end → (down a).commands.word c ≡ up.commands.word c
  pub enables : (a c : ℕ) → a < system.agents → c < end → (down a).commands.enables c ≡ up.commands.enables c
  pub count : (a c : ℕ) → a < system.agents → c < end → (down a).commands.count c ≡ up.commands.count c
  pub more : (a c : ℕ) → a < system.agents → c < end → (down a).commands.more c ≡ up.commands.more c
  pub tag : (a c : ℕ) → a < system.agents → c < end → (down a).commands.tag c ≡ host
  pub wait : (c : ℕ) → c < end
      → is_raised (up.commands.waitrequest c)
      ≡ not (is_open system host up state c)
      || by_option (place_now system host up state c) false (λ a. is_raised ((down a).commands.waitrequest c))
  -- the registers
  pub outside : state.inside 0 ≡ false
  pub stays : (c : ℕ) → suc c < end
      → state.inside (suc c) ≡ (if takes up c then is_raised (up.commands.more c) else state.inside c)
  pub keeps : (c : ℕ) → suc c < end → state.kept (suc c) ≡ place_now system host up state c
  pub nothing : state.owed 0 ≡ 0
  pub nobody : state.owing 0 ≡ None
  pub counts : (c : ℕ) → suc c < end → state.owed c + read_count up c < room
      → one_if (is_raised (up.answers.valid c)) ≤ state.owed c + read_count up c →
      state.owed (suc c) + one_if (is_raised (up.answers.valid c)) ≡ state.owed c + read_count up c
  pub owes : (c : ℕ) → suc c < end
      → state.owing (suc c) ≡ (if takes_read up c then place_now system host up state c else state.owing c)
  -- the answers: those of the place that owes; the default agent gives a word in each cycle in which it owes one
  pub valid : (c : ℕ) → c < end
      → is_raised (up.answers.valid c)
      ≡ by_option (state.owing c) (nat_lt 0 (state.owed c)) (λ a. is_raised ((down a).answers.valid c))
  pub answer : (c : ℕ) → c < end → IsTrue (is_raised (up.answers.valid c))
      → up.answers.word c ≡ by_option (state.owing c) 0 (λ a. (down a).answers.word c)
  pub code : (c : ℕ) → c < end → IsTrue (is_raised (up.answers.valid c))
      → up.answers.code c ≡ by_option (state.owing c) (default_code_by responses) (λ a. (down a).answers.code c)

-- what the map says of the places of a host
pub record IsRoutePlan (system : System) (host : ℕ) (shape : Shape) : Type 0 where
  pub words : shape.word_bytes ≡ (system.host host).word_bytes
  pub agents : (kind : Kind) (address a : ℕ) → system.place host kind address ≡ Some a → a < system.agents
  pub serves : (kind : Kind) (address a : ℕ) → system.place host kind address ≡ Some a
      → IsTrue (serves_kind (system.agent a) kind)
  pub joined : (kind : Kind) (address a : ℕ) → system.place host kind address ≡ Some a → IsTrue (is_joined system a host)
  -- the base is a whole number of spans
  pub base : (kind : Kind) (address a : ℕ) → system.place host kind address ≡ Some a
      → (spans : ℕ) × (system.base host a ≡ spans * (system.agent a).span) × (system.base host a ≤ address)
