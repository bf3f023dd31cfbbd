-- What the lines of a whole system settle of its boundaries.
use Rattle.std.specs.Prelude.{ℕ, ◌<◌, ◌≤◌}
use Rattle.histories.specs.History.{IsPrefix}
use Rattle.memory_runs.specs.Views.{System, Run}
use Rattle.memory_runs.specs.Order.{taken}
use Rattle.memory_machines.specs.Link.{AreLegalAt, AnswersAreOwed, shown_at}
use Rattle.memory_machines.specs.Lines.{Inside, AreSingle, OwesBelow, AreFitToAsk, IsFit, target_of, tagged_operations, groups_of}

pub record IsSettled (system : System) (run : Run) (inside : Inside) (room : ℕ → ℕ) (end : ℕ) : Type 0 where
  pub legal : (h : ℕ) → h < system.hosts → AreLegalAt (inside.after_host h) end
  pub single : (h : ℕ) → h < system.hosts → AreSingle (inside.after_host h) end
  pub debt : (h : ℕ) → h < system.hosts → OwesBelow (room h) (inside.after_host h) end
  pub owed : (h : ℕ) → h < system.hosts → AnswersAreOwed (inside.after_host h) end
  pub owed_after_route : (h a : ℕ) → h < system.hosts → a < system.agents → AnswersAreOwed (inside.after_route h a) end
  pub asks : (a : ℕ) → a < system.agents → AreFitToAsk system a (λ h. inside.before_arbiter h a) end
  pub after_arbiter : (a : ℕ) → a < system.agents → IsFit system a (inside.after_arbiter a).port end
  pub before_agent : (a : ℕ) → a < system.agents → IsFit system a (inside.before_agent a).port end
  -- what an agent has taken is the front of what stands behind its arbiter
  pub in_order : (a c : ℕ) → a < system.agents → c ≤ end →
      IsPrefix (taken system run a c)
      (tagged_operations
      (groups_of (target_of system a) (inside.after_arbiter a).shape (shown_at (inside.after_arbiter a).port c)))
