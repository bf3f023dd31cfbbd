-- One cycle of an arbiter with the path below it and a path above it for each host, and whole runs of it.
use Rattle.std.specs.Prelude.{ℕ, zero, suc, ◌<◌, Bool, false, not, ◌&&◌, ◌||◌, List, [], ◌∷◌, ◌++◌, nat_eq, IsTrue, IsFalse}
use Rattle.histories.specs.Path.{Path, AnswersFlow, IsSound, stands, works, excused, waits_for_rest, writing}
use Rattle.histories.specs.Window.{Budget, AllKeep}

abbrev pub any_below : (ℕ → Bool) → ℕ → Bool
any_below test zero = false
any_below test (suc n) = test n || any_below test n

pub record Junction : Type 0 where
  pub lower : Path  -- its port `below + 1` is below the arbiter, its port 0 the agent's
  pub below : ℕ  -- one less than its parts
  pub hosts : ℕ
  pub upper : ℕ → Path  -- of a host: its port 0 is above the arbiter
  pub above : ℕ → ℕ  -- its parts
  pub untaken : ℕ → Bool  -- what a host presented to the arbiter isn't wholly taken below
  pub ready : ℕ → Bool  -- a word for a host whose answers have all come isn't answered

-- the arbiter is in the middle of a host's command, that host shows it nothing, and is owed no word by it
abbrev pub waits_for : Junction → ℕ → Bool
waits_for j host = waits_for_rest (j.upper host) 0

abbrev pub asks : Junction → ℕ → Bool
asks j host = stands (j.upper host) 0 || j.untaken host || j.ready host

abbrev pub arbiter_works : Junction → Bool
arbiter_works j = any_below (asks j) j.hosts || j.lower.unclosed (suc j.below)

abbrev pub arbiter_excused : Junction → Bool
arbiter_excused j =
    stands j.lower (suc j.below) || (j.lower.owed (suc j.below) && not (writing j.lower (suc j.below)))
    || any_below (waits_for j) j.hosts

abbrev pub arbiter_must_act : Junction → Bool
arbiter_must_act j = arbiter_works j && not (arbiter_excused j)

pub record IsSoundJunction (j : Junction) : Type 0 where
  pub lower : AnswersFlow j.lower (suc j.below)
  pub upper : (h : ℕ) → h < j.hosts → IsSound (j.upper h) (j.above h)
  pub answers : (h : ℕ) → h < j.hosts → IsTrue ((j.upper h).owed 0)
      → IsTrue (j.untaken h || j.ready h || j.lower.owed (suc j.below))
  pub idle : IsFalse (stands j.lower 0 || j.lower.owed 0)  -- the agent neither waits nor owes an answer

-- a part's rank and moves over a window
pub record Ranked : Type 0 where
  pub rank : ℕ → ℕ
  pub largest : ℕ
  pub moves : ℕ → Bool
  pub few : ℕ  -- at most so many moves in the window

abbrev pub budget_of : (ℕ → Bool) → (ℕ → Bool) → Ranked → Budget
budget_of works excused ranked = record {
  part = record { works = works; moves = ranked.moves; excused = excused; rank = ranked.rank; largest = ranked.largest };
  few = ranked.few;
}

-- a window of a run of all that leads to one agent
pub record Junctions : Type 0 where
  pub below : ℕ
  pub hosts : ℕ
  pub above : ℕ → ℕ
  pub lower : ℕ → Path  -- in a cycle
  pub upper : ℕ → ℕ → Path  -- of a host in a cycle
  pub untaken : ℕ → ℕ → Bool
  pub ready : ℕ → ℕ → Bool
  pub lower_rank : ℕ → Ranked
  pub arbiter_rank : Ranked
  pub upper_rank : ℕ → ℕ → Ranked  -- of a host and a part

abbrev pub moment : Junctions → ℕ → Junction
moment run c = record {
  lower = run.lower c;
  below = run.below;
  hosts = run.hosts;
  upper = λ h. run.upper h c;
  above = run.above;
  untaken = λ h. run.untaken h c;
  ready = λ h. run.ready h c;
}

abbrev pub lower_budget : Junctions → ℕ → Budget
lower_budget run i = budget_of (λ c. works (run.lower c) i) (λ c. excused (run.lower c) i) (run.lower_rank i)

abbrev pub upper_budget : Junctions → ℕ → ℕ → Budget
upper_budget run h i = budget_of (λ c. works (run.upper h c) i) (λ c. excused (run.upper h c) i) (run.upper_rank h i)

abbrev pub arbiter_budget : Junctions → Budget
arbiter_budget run = budget_of (λ c. arbiter_works (moment run c)) (λ c. arbiter_excused (moment run c)) run.arbiter_rank

-- the budgets of the parts 0 to n - 1
abbrev pub budgets : (ℕ → Budget) → ℕ → List Budget
budgets budget zero = []
budgets budget (suc n) = budget n ∷ budgets budget n

abbrev pub budgets_of_hosts : Junctions → List ℕ → List Budget
budgets_of_hosts run [] = []
budgets_of_hosts run (h ∷ later) = budgets (upper_budget run h) (run.above h) ++ budgets_of_hosts run later

-- the parts of the arbiter, below it, and on the paths of some hosts
abbrev pub all_budgets : Junctions → List ℕ → List Budget
all_budgets run seen = arbiter_budget run ∷ budgets (lower_budget run) (suc run.below) ++ budgets_of_hosts run seen

abbrev pub is_among : List ℕ → ℕ → Bool
is_among [] h = false
is_among (x ∷ later) h = nat_eq x h || is_among later h

-- some part of this host's path, the arbiter, or a part below it has work
abbrev pub has_work : Junctions → ℕ → ℕ → Bool
has_work run host c =
    any_below (works (run.upper host c)) (run.above host) || arbiter_works (moment run c)
    || any_below (works (run.lower c)) (suc run.below)

-- in a window in which nothing comes out at the ports: the clauses, and work of a host. `seen` has this host and each one whose
-- command the arbiter waits for
pub record IsStuck (run : Junctions) (host size : ℕ) (seen : List ℕ) : Type 0 where
  pub is_host : host < run.hosts
  pub is_seen : IsTrue (is_among seen host)
  pub keep : AllKeep (all_budgets run seen) size
  pub sound : (c : ℕ) → c < size → IsSoundJunction (moment run c)
  pub covers : (c h : ℕ) → c < size → h < run.hosts → IsTrue (waits_for (moment run c) h) → IsTrue (is_among seen h)
  pub work : (c : ℕ) → c < size → IsTrue (has_work run host c)
