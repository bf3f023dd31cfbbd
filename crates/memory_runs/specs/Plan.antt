-- What a plan and the views of its ports keep: it is given by the rules on connections and maps, and the definitions of runs rest
-- on it.
use Rattle.std.specs.Prelude.{◌≡◌, ℕ, ◌+◌, ◌*◌, ◌^◌, ◌<◌, ◌≤◌, max, Bool, Some, IsTrue, IsFalse, ◌↔◌, ◌⊎◌}
use Rattle.histories.specs.History.{is_raised}
use Rattle.memory_runs.specs.Views.{Shape, Signals, AgentSide, System, Run, Kind}
use Rattle.memory_runs.specs.Views.Kind.{Reads, Writes}
use Rattle.memory_runs.specs.Order.{is_joined}

-- the bytes that an agent takes in the map of a host
abbrev pub footprint : ℕ → ℕ → ℕ
footprint span host_word_bytes = max span host_word_bytes

abbrev pub serves_kind : AgentSide → Kind → Bool
serves_kind side Reads = side.has_read
serves_kind side Writes = side.has_write

-- the footprint of an agent in the map of a host holds a byte address
pub record IsInFootprint (system : System) (host agent address : ℕ) : Type 0 where
  pub joined : IsTrue (is_joined system agent host)
  pub from_base : system.base host agent ≤ address
  pub below_end : address < system.base host agent + footprint (system.agent agent).span (system.host host).word_bytes

abbrev pub IsPowerOfTwo : ℕ → Type 0
IsPowerOfTwo size = (bits : ℕ) × (size ≡ 2 ^ bits)

-- an address counts bytes or words
pub record IsShape (shape : Shape) : Type 0 where
  pub word : IsPowerOfTwo shape.word_bytes
  pub unit : (shape.unit_bytes ≡ 1) ⊎ (shape.unit_bytes ≡ shape.word_bytes)
  pub burst : 0 < shape.burst_bits

pub record IsMemoryPlan (system : System) : Type 0 where
  pub hosts : (h : ℕ) → h < system.hosts → IsShape (system.host h).shape
  pub agents : (a : ℕ) → a < system.agents → IsShape (system.agent a).shape
  pub plain : (h : ℕ) → h < system.hosts → IsFalse (system.host h).has_burst → (system.host h).burst_bits ≡ 1
  pub plain_agent : (a : ℕ) → a < system.agents → IsFalse (system.agent a).has_burst → (system.agent a).burst_bits ≡ 1
  -- the bound on unanswered reads: an absent property and 0 count as 1
  pub pending : (a : ℕ) → a < system.agents → 1 ≤ (system.agent a).pending
  -- an agent that is read at a fixed latency has no bursts, so a read command asks for one word
  pub fixed : (a : ℕ) → a < system.agents → IsTrue (system.agent a).has_read → IsFalse (system.agent a).has_readdatavalid
      → IsFalse (system.agent a).has_burst
  pub reads : (a : ℕ) → a < system.agents → IsTrue (system.agent a).has_readdatavalid → IsTrue (system.agent a).has_read
  pub waits : (a : ℕ) → a < system.agents → IsTrue (system.agent a).has_burst → IsTrue (system.agent a).has_waitrequest
  -- a span is at least one word
  pub span : (a : ℕ) → a < system.agents
      → IsPowerOfTwo (system.agent a).span × ((system.agent a).word_bytes ≤ (system.agent a).span)
  -- an agent that is wider than a host writes by byte enables
  pub wider : (a h : ℕ) → IsTrue (is_joined system a h) → (system.host h).word_bytes < (system.agent a).word_bytes
      → IsTrue (system.agent a).has_enables
  pub joined : (a h : ℕ) → IsTrue (is_joined system a h) → h < system.hosts
  pub shares : (a h : ℕ) → IsTrue (is_joined system a h) → 1 ≤ system.shares h a
  pub few_shares : (a h : ℕ) → IsTrue (is_joined system a h) → system.shares h a ≤ 63
  pub few_hosts : system.hosts ≤ 16
  pub few_stages : system.stages ≤ 4
  -- a base is a multiple of the footprint, and so of the span
  pub base : (h a : ℕ) → IsTrue (is_joined system a h)
      → (k : ℕ) × (system.base h a ≡ k * footprint (system.agent a).span (system.host h).word_bytes)
  -- an address is for the agent whose footprint holds it, if this agent has its kind of transfer
  pub place : (h a address : ℕ) (kind : Kind) → h < system.hosts →
      (system.place h kind address ≡ Some a) ↔
      ((a < system.agents) × IsInFootprint system h a address × IsTrue (serves_kind (system.agent a) kind))

-- in the cycles before `end` the levels fit the lanes of their port, and an absent byteenable reads as all ones, an absent
-- burstcount as 1
pub record FitsPorts (shape : Shape) (has_burst : Bool) (signals : Signals) (end : ℕ) : Type 0 where
  pub enables : (c : ℕ) → c < end → signals.enables c < 2 ^ shape.word_bytes
  pub all_lanes : IsFalse shape.has_enables → (c : ℕ) → c < end → signals.enables c + 1 ≡ 2 ^ shape.word_bytes
  pub word : (c : ℕ) → c < end → signals.word c < 256 ^ shape.word_bytes
  pub one_beat : IsFalse has_burst → (c : ℕ) → c < end → signals.count c ≡ 1

-- the views of a run's ports in the cycles before `end`, with what absent ports read
pub record AreViews (system : System) (run : Run) (end : ℕ) : Type 0 where
  pub hosts : (h : ℕ) → h < system.hosts → FitsPorts (system.host h).shape (system.host h).has_burst (run.at_host h).signals end
  -- a host without readdatavalid reads no bursts: it has no `read`, or no burstcount
  pub one_word : (h c : ℕ) → h < system.hosts → c < end → IsFalse (system.host h).has_readdatavalid
      → IsTrue (is_raised ((run.at_host h).read c)) → (run.at_host h).count c ≡ 1
  pub no_response : (h c : ℕ) → h < system.hosts → c < end → IsFalse (system.host h).has_response → (run.at_host h).response c ≡ 0
  pub agents : (a : ℕ) → a < system.agents
      → FitsPorts (system.agent a).shape (system.agent a).has_burst (run.at_agent a).signals end
  pub no_read : (a c : ℕ) → a < system.agents → c < end → IsFalse (system.agent a).has_read → (run.at_agent a).read c ≡ 0
  pub no_write : (a c : ℕ) → a < system.agents → c < end → IsFalse (system.agent a).has_write → (run.at_agent a).write c ≡ 0
  pub no_waitrequest : (a c : ℕ) → a < system.agents → c < end → IsFalse (system.agent a).has_waitrequest
      → (run.at_agent a).waitrequest c ≡ 0
  pub no_code : (a c : ℕ) → a < system.agents → c < end → IsFalse (system.agent a).has_response → (run.at_agent a).response c ≡ 0
