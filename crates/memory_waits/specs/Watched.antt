-- What leads from a host's route down to its arbiter, where a beat may wait for words too, and how long its command may wait.
use Rattle.std.specs.Prelude.{ℕ, suc, ◌+◌, ◌*◌, ◌<◌, ◌≤◌, ◌≡◌, ◌⊎◌, Bool, not, ◌&&◌, ◌||◌, length, IsFalse, IsTrue}
use Rattle.histories.specs.History.{is_raised}
use Rattle.memory_runs.specs.Views.{System, Run}
use Rattle.memory_runs.specs.Commands.{shows}
use Rattle.memory_machines.specs.Link.{Target, Port, takes, taken_at, operations_among, words_at, words_owed}
use Rattle.memory_parts.specs.Steps.{is_gone}
use Rattle.memory_awake.specs.Onward.{is_good}
use Rattle.memory_waits.specs.Waits.{agent_pipe_time, word_time, standing_quietly}

-- What stands above is taken there after at most `left` steps, and what was taken there before cycle s is sent below after `still
-- s c`, as cycle c begins: one in each cycle that doesn't wait
pub record LeadsBy (target : Target) (top bottom : Port) (waits : ℕ → Bool) (left : ℕ → ℕ) (still : ℕ → ℕ → ℕ)
    (most end : ℕ) : Type 0 where
  pub few : (c : ℕ) → c ≤ end → left c ≤ most
  pub stays : (c : ℕ) → c < end → IsFalse (takes top c) → left (suc c) ≤ left c
  pub goes : (c : ℕ) → c < end → IsFalse (takes top c) → IsTrue (shows top.commands.signals c) → IsFalse (waits c)
      → left (suc c) < left c
  -- whatever is taken above from s on
  pub few_still : (s : ℕ) → s ≤ end → still s s ≤ most
  pub stays_still : (s c : ℕ) → s ≤ c → c < end → still s (suc c) ≤ still s c
  pub goes_still : (s c : ℕ) → s ≤ c → c < end → 0 < still s c → IsFalse (waits c) → still s (suc c) < still s c
  -- then all its operations are taken below, and once all words that are asked there by then have come, so have its own above, or
  -- one comes now
  pub through : (s c : ℕ) → s ≤ c → c ≤ end → still s c ≡ 0
      → length (operations_among target top.shape (taken_at top s))
      ≤ length (operations_among target bottom.shape (taken_at bottom c))
  pub come : (s c d : ℕ) → s ≤ c → c < d → d < end → still s c ≡ 0 → words_owed bottom c ≤ length (words_at bottom d)
      → (words_owed top s ≤ length (words_at top d)) ⊎ IsTrue (is_raised (top.answers.valid d))

-- a beat stands before the arbiter, or a word is owed there, and nothing is taken
abbrev pub stands_or_owes : Port → ℕ → Bool
stands_or_owes port cycle = (shows port.commands.signals cycle || is_gone port cycle) && not (takes port cycle)

-- so it is, or the agent or a burst for it holds all up
abbrev pub may_wait : System → Run → ℕ → Port → ℕ → Bool
may_wait system run agent port cycle = not (is_good system run agent cycle) || stands_or_owes port cycle

-- a round of the others and of their words, before which all words may have to come first: once, and twice more for each step;
-- then twice what stands in the pipe, and the way of a word up
abbrev pub waits_for_words : ℕ → ℕ → System → ℕ → ℕ
waits_for_words most round system agent =
    (2 * most + 1) * (standing_quietly round system agent + word_time system agent + 1) + 2 * agent_pipe_time system agent
    + system.stages + 6
