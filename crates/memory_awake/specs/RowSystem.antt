-- Systems of machines whose links are machines too: three in a row between a host's route and an agent's arbiter, each of which
-- may be a wire.
use Rattle.std.specs.Prelude.{ℕ, ◌<◌, Bool, not, ◌||◌, IsTrue, IsFalse}
use Rattle.memory_runs.specs.Views.{System, Run}
use Rattle.memory_runs.specs.Awake.{is_alike}
use Rattle.memory_runs.specs.Order.{is_joined}
use Rattle.memory_runs.specs.Plan.{FitsPorts}
use Rattle.memory_machines.specs.Link.{Port}
use Rattle.memory_machines.specs.Lines.{TaggedPort, target_of}
use Rattle.memory_awake.specs.Rows.{IsWired, CutsBursts, FitsWords, DropsBeats, GathersBelowCut, drops_some, ports_of_three}
use Rattle.memory_awake.specs.Theorem.{Boundaries}
use Rattle.memory_awake.specs.Wires.{IsWire, HandsAllOn}

-- the boundaries inside, of a host and an agent from the route down
pub record RowPorts : Type 0 where
  pub after_host : ℕ → Port
  pub after_route : ℕ → ℕ → Port
  pub below_cutter : ℕ → ℕ → Port
  pub above_dropper : ℕ → ℕ → Port
  pub before_arbiter : ℕ → ℕ → Port
  pub lower : ℕ → ℕ → TaggedPort

abbrev pub boundaries_of : RowPorts → Boundaries
boundaries_of ports = record {
  after_host = ports.after_host;
  links = λ h a. 3;
  upper =
      λ h a. ports_of_three (ports.before_arbiter h a) (ports.above_dropper h a) (ports.below_cutter h a) (ports.after_route h a);
  lower = ports.lower;
}

-- what stands between a host and an agent that it isn't joined to, where nothing is shown: wires, which may lead to any words
pub record AreIdleWires (ports : RowPorts) (h a : ℕ) : Type 0 where
  pub high : HandsAllOn (ports.after_route h a) (ports.below_cutter h a)
  pub mid : HandsAllOn (ports.below_cutter h a) (ports.above_dropper h a)
  pub low : HandsAllOn (ports.above_dropper h a) (ports.before_arbiter h a)

-- every link is its machine or a wire, below hosts whose levels fit their ports
pub record AreRows (system : System) (run : Run) (ports : RowPorts) (end : ℕ) : Type 0 where
  pub idle : ℕ → ℕ → Bool  -- of a host and an agent that aren't joined: wires lead there, whatever the words
  -- what each host shows fits its ports, whose absent byteenable reads as all ones
  pub views : (h : ℕ) → h < system.hosts → FitsPorts (system.host h).shape (system.host h).has_burst (run.at_host h).signals end
  pub cuts : (h a : ℕ) → h < system.hosts → a < system.agents → IsFalse (idle h a)
      → CutsBursts (ports.after_route h a) (ports.below_cutter h a)
  pub fits : (h a : ℕ) → h < system.hosts → a < system.agents → IsFalse (idle h a)
      → FitsWords (target_of system a) (ports.below_cutter h a) (ports.above_dropper h a)
  pub gathers : (h a : ℕ) (low : h < system.hosts) (there : a < system.agents) (links : IsFalse (idle h a))
      → GathersBelowCut (cuts h a low there links) (fits h a low there links)
  pub drops : (h a : ℕ) → h < system.hosts → a < system.agents → IsFalse (idle h a)
      → DropsBeats (target_of system a) (ports.above_dropper h a) (ports.before_arbiter h a)
  -- where no beats are dropped, the agent has byte enables or the host has none
  pub lanes : (h a : ℕ) (low : h < system.hosts) (there : a < system.agents) (links : IsFalse (idle h a))
      → IsFalse (drops_some (drops h a low there links))
      → IsTrue ((system.agent a).has_enables || not (system.host h).has_enables)
  -- a host whose plain commands reach an agent one for one is wired to its arbiter: a link with room for one read, which may
  -- stand there, would hold a second one back while the first is owed
  pub wired : (h a : ℕ) → h < system.hosts → a < system.agents → IsTrue (is_joined system a h)
      → IsTrue (is_alike (system.host h) (system.agent a)) →
      IsWire (ports.after_route h a) (ports.before_arbiter h a)
  pub apart : (h a : ℕ) → h < system.hosts → a < system.agents → IsTrue (idle h a)
      → IsFalse (is_joined system a h) × AreIdleWires ports h a

-- no beats are dropped below a host with bursts and without byte enables: its write bursts are counted from their first beat,
-- which is kept there until the next one comes
abbrev pub IsFairRow : System → RowPorts → ℕ → ℕ → Type 0
IsFairRow system ports agent host =
    IsFalse (system.host host).has_enables → IsTrue (system.host host).has_burst
    → IsWired (ports.above_dropper host agent) (ports.before_arbiter host agent)
