-- How many reads the links of a pair have room for.
use Rattle.std.proofs.Common.{ℕ, ◌+◌, ◌*◌, ◌<◌, ◌≤◌, min, max, Bool, true, false, if◌then◌else◌, arith}
use Rattle.iface_roles.specs.declared.records.HostPort.{HostPort}
use Rattle.iface_roles.specs.declared.records.AgentPort.{AgentPort}
use Rattle.mm_width.specs.Links.{reads_below, reads_above}

max_some : (a b : ℕ) → 0 < b → 0 < max a b
max_some a b h = omega (arith, h)

some_below : (valid : Bool) (a b more : ℕ) → 0 < (if valid then max a 1 else max b 1 + 1) + more
some_below true a b more = let some = max_some a 1 (omega arith) in omega (arith, some)
some_below false a b more = omega arith

some_above : (valid : Bool) (below : ℕ) → 0 < below → 0 < min (if valid then 16 else 1) below
some_above true below h = omega (arith, h)
some_above false below h = omega (arith, h)

pub below_some : (agent : AgentPort) (stages : ℕ) → 0 < reads_below agent stages
below_some agent stages = some_below agent.readdatavalid _ _ (3 * stages)

pub above_some : (host : HostPort) (agent : AgentPort) (stages : ℕ) → 0 < reads_above host agent stages
above_some host agent stages = some_above host.readdatavalid _ (below_some agent stages)

pub either_some : (split : Bool) (host : HostPort) (agent : AgentPort) (stages : ℕ) → 0 < (if split then reads_below agent stages else reads_above host agent stages)
either_some true host agent stages = below_some agent stages
either_some false host agent stages = above_some host agent stages

pub two_at_least : (a : ℕ) → 1 < max a 2
two_at_least a = omega arith

few_below : (valid : Bool) (a b more : ℕ) → more ≤ 12 → (if valid then max (min a 64) 1 else max (min b 64) 1 + 1) + more ≤ 127
few_below true a b more h = omega (arith, h)
few_below false a b more h = omega (arith, h)

pub below_few : (agent : AgentPort) (stages : ℕ) → stages ≤ 4 → reads_below agent stages ≤ 127
below_few agent stages few = few_below agent.readdatavalid agent.pending agent.read_latency (3 * stages) (omega (arith, few))

few_above : (valid : Bool) (below : ℕ) → min (if valid then 16 else 1) below ≤ 16
few_above true below = omega arith
few_above false below = omega arith

pub above_few : (host : HostPort) (agent : AgentPort) (stages : ℕ) → reads_above host agent stages ≤ 16
above_few host agent stages = few_above host.readdatavalid (reads_below agent stages)
