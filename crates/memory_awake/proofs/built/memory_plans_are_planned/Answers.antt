use Rattle.std.proofs.Common.{ℕ, ◌<◌, List, [], ◌∷◌, map, nat_eq, arith, IsTrue}
use Rattle.std.specs.List.{list_any}
use Rattle.histories.specs.Turns.{AllShare}
use Rattle.memory_runs.specs.Views.{System}
use Rattle.memory_awake.proofs.built.memory_plans_are_planned.Goals as goal

-- a joined host has shares, so each seat has some
seats_share : (system : System) (agent : ℕ) (order : List ℕ) → ((h : ℕ) → IsTrue (list_any (nat_eq h) order) → 0 < system.shares h agent) →
    AllShare (map (λ host. record { host = host; shares = system.shares host agent }) order)
seats_share system agent [] share = cc
seats_share system agent (x ∷ order) share = (share x (grind arith), seats_share system agent order (λ h is. share h (grind arith)))

pub returns : goal.returns
returns c = λ system inside states plan words rooms. record {
  few_stages = plan.few_stages;
  few_hosts = plan.few_hosts;
  joined = plan.joined;
  shares = λ a there. seats_share system a (system.joined a) (λ h is. let some = plan.shares a h is in omega (arith, some));
  plain = plan.plain;
  places = λ h low. c.plans_suit_machines.ensures.routes system plan h (inside.after_host h).shape low (words h low);
  agents = c.plans_suit_machines.ensures.agents system plan;
  rooms = rooms;
}
