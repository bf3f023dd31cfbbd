-- What the lines of a whole system settle of its boundaries.
use Rattle.std.proofs.Common.{ℕ, ◌<◌, ◌≤◌, ◌≡◌, ◌-◌, arith, subst, sym, flat_map, map}
use Rattle.histories.specs.History.{IsPrefix}
use Rattle.histories.specs.Laws.{prefix_trans, prefix_flat_map, prefix_map, before_prefix}
use Rattle.memory_runs.specs.Views.{System, Run, Responses, Shape}
use Rattle.memory_runs.specs.Legal.{IsLegalAgent}
use Rattle.memory_runs.specs.Order.{taken}
use Rattle.memory_runs.specs.Whole.{IsLegalRun}
use Rattle.memory_machines.specs.Link.{shown_at}
use Rattle.memory_machines.specs.Lines.{Inside, Holds, Wired, Group, target_of, tagged_operations, groups_of, group_of, AreOwedByTag}
use Rattle.memory_machines.specs.Settled.{IsSettled}
use Rattle.memory_machines.proofs.Settle.{AllLegal, AllOwed, all_owed, all_legal}

pub settled : (responses : Responses) (system : System) (run : Run) (inside : Inside) (holds : Holds) (end : ℕ) (wired : Wired responses system run inside holds end) → IsLegalRun system run end → IsSettled system run inside wired.room end
settled responses system run inside holds end wired legal = record {
  legal = laws.after_host;
  single = laws.single;
  debt = laws.debt;
  owed = owed.after_host;
  owed_after_route = owed.after_route;
  asks = laws.before_arbiter;
  after_arbiter = laws.after_arbiter;
  before_agent = laws.before_agent;
  in_order = in_order;
}
  where
    laws : AllLegal system inside wired.room end
    laws = all_legal responses system run inside holds end wired end (omega arith) legal

    owed : AllOwed system inside end
    owed = all_owed responses system run inside holds end wired end (omega arith) legal

    in_order : (a c : ℕ) → a < system.agents → c ≤ end →
        IsPrefix (taken system run a c) (tagged_operations (groups_of (target_of system a) (inside.after_arbiter a).shape (shown_at (inside.after_arbiter a).port c)))
    in_order a c there low =
        let own = ((wired.agent a there).commands end (omega arith) (laws.before_agent a there) (record { owed = λ has k less. (legal.agents a there).owed has k (omega (arith, less)) })).in_order c low in
        let pipe = ((wired.pipe a there).commands end (omega arith) (laws.after_arbiter a there).legal (λ tag k is less. owed.before_agent a there tag k is (omega (arith, less)))).shown c low in
        let longer = prefix_trans pipe (before_prefix _ (c - system.stages) c (omega arith)) in
        prefix_trans own (prefix_flat_map _ (subst (λ s. IsPrefix (groups_of (target_of system a) (inside.before_agent a).shape (shown_at (inside.before_agent a).port c)) (groups_of (target_of system a) s (shown_at (inside.after_arbiter a).port c))) (sym (wired.pipe a there).same) (prefix_map (group_of (target_of system a) (inside.before_agent a).shape) longer)))
