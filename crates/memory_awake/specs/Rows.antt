-- How the links in a row between a host's route and an agent's arbiter keep going and hold little back, and the rows that do.
use Rattle.std.specs.Prelude.{◌≡◌, ℕ, zero, suc, ◌<◌, ◌≤◌, Bool, true, false, List}
use Rattle.memory_machines.specs.Link.{Target, Port}
use Rattle.memory_machines.specs.Machines.{MaySplit}
use Rattle.memory_links.specs.Cutters.{Reach, CutterState, RunsAsCutter, IsCutPlan, IsTouchPlan, reach_words}
use Rattle.memory_links.specs.Drops.{DropState, RunsAsDrop, IsDropPlan}
use Rattle.memory_links.specs.Gathers.{GatherState, RunsAsGather, IsGatherPlan}
use Rattle.memory_links.specs.Going.{KeepsGoing}
use Rattle.memory_links.specs.Selects.{RunsAsSelect, IsSelectPlan}
use Rattle.memory_links.specs.Splits.{SplitState, RunsAsSplit}
use Rattle.memory_awake.specs.Slack.{Slack, PassesWhileStill, IsModestLink}
use Rattle.memory_awake.specs.Ways.{Standing}
use Rattle.memory_awake.specs.Wires.{IsWire}

-- at most three links, of which number 0 is the lowest: each keeps going, and holds little back while the highest port is still
pub record IsModestRow (target : Target) (links : ℕ) (port : ℕ → Port) (standing : ℕ → Standing) (slack : ℕ → Slack)
    (end : ℕ) : Type 0 where
  pub going : (i : ℕ) → i < links → KeepsGoing target (port (suc i)) (port i) (standing i).rank (standing i).largest end
  pub pass : (i : ℕ) → i < links → PassesWhileStill (slack i) (port links) (port (suc i)) (port i) end
  pub few : links ≤ 3
  pub first : 0 < links → IsModestLink (slack 0) (standing 0) 1 1 1
  pub second : 1 < links → IsModestLink (slack 1) (standing 1) 0 0 1
  pub third : 2 < links → IsModestLink (slack 2) (standing 2) 0 0 0

-- a wire, whose words aren't empty
pub record IsWired (up down : Port) : Type 0 where
  pub wire : IsWire up down
  pub some : 0 < up.shape.word_bytes

-- below the route bursts are cut into those that the agent takes, or into single beats, or stay
pub data CutsBursts (up down : Port) : Type 0 where
  cutter : (reach : Reach) (longest : ℕ) (state : CutterState) → IsCutPlan reach longest up.shape down.shape
      → RunsAsCutter reach longest up down state → CutsBursts up down
  no_cutter : IsWired up down → CutsBursts up down

-- below that words are made those of the agent
pub data FitsWords (target : Target) (up down : Port) : Type 0 where
  selector : (many room : ℕ) (offsets : ℕ → List ℕ) → IsSelectPlan target up.shape down.shape many → 1 < room
      → RunsAsSelect room up down offsets → FitsWords target up down
  gatherer : (many room : ℕ) (state : GatherState) → IsGatherPlan target up.shape down.shape many → 1 < room
      → RunsAsGather room up down state → FitsWords target up down
  splitter : (count room : ℕ) (state : SplitState) → MaySplit target up.shape down.shape count → 0 < room
      → RunsAsSplit room up down state → FitsWords target up down
  no_width : IsWired up down → FitsWords target up down

-- reads are cut at the ends of wide words, each of which is as wide as `many` words there, and writes into single beats
abbrev pub CutsAtWords : {up down : Port} → ℕ → CutsBursts up down → Type 0
CutsAtWords {up} {down} many (cutter reach longest state plan run) =
    IsTouchPlan many up.shape down.shape × (reach ≡ reach_words up.shape.word_bytes many) × (longest ≡ 1)
CutsAtWords {up} {down} many (no_cutter wired) = ⊥

-- what gathers stands below such a cutter
abbrev pub GathersBelowCut : {target : Target} {top middle low : Port} → CutsBursts top middle → FitsWords target middle low
    → Type 0
GathersBelowCut cuts (selector many room offsets plan deep run) = Unit {0}
GathersBelowCut cuts (gatherer many room state plan deep run) = CutsAtWords many cuts
GathersBelowCut cuts (splitter count room state may some run) = Unit {0}
GathersBelowCut cuts (no_width wired) = Unit {0}

-- and before the arbiter beats without a lane are dropped, or stay
pub data DropsBeats (target : Target) (up down : Port) : Type 0 where
  dropper : (room : ℕ) (state : DropState) → IsDropPlan target up.shape down.shape → 0 < room → RunsAsDrop room up down state
      → DropsBeats target up down
  no_dropper : IsWired up down → DropsBeats target up down

abbrev pub drops_some : {target : Target} {up down : Port} → DropsBeats target up down → Bool
drops_some (dropper room state plan some run) = true
drops_some (no_dropper wired) = false

-- of three links in a row by number: what the lowest has, the one over it, and the highest
abbrev pub by_number : {A : Type 0} → A → A → A → ℕ → A
by_number {A} low middle high zero = low
by_number {A} low middle high (suc zero) = middle
by_number {A} low middle high (suc (suc i)) = high

-- their ports, the lowest first
abbrev pub ports_of_three : Port → Port → Port → Port → ℕ → Port
ports_of_three lowest low middle top zero = lowest
ports_of_three lowest low middle top (suc i) = by_number low middle top i

-- the lowest holds back a beat, the others nothing
abbrev pub one_beat_lowest : ℕ → Slack
one_beat_lowest = by_number (record { hold = 1; kept = 0 }) (record { hold = 0; kept = 0 }) (record { hold = 0; kept = 0 })
