-- How long a command may wait behind a pipe of stages, and for its words.
use Rattle.std.specs.Prelude.{ℕ, zero, suc, ◌+◌, ◌*◌, ◌<◌, ◌≤◌, ◌≡◌, Bool, not, ◌&&◌, length, IsFalse, IsTrue}
use Rattle.memory_runs.specs.Views.{System, Run}
use Rattle.memory_runs.specs.Awake.{owes, longest_wait}
use Rattle.histories.specs.History.{is_raised}
use Rattle.memory_runs.specs.Commands.{shows}
use Rattle.memory_machines.specs.Link.{Target, Port, takes, taken_at, operations_among, words_at, words_owed}
use Rattle.memory_parts.specs.Steps.{is_gone}
use Rattle.memory_runs.specs.Onward.{longest_of}
use Rattle.memory_awake.specs.Onward.{standing_by, round_of_others, is_good}

-- where an agent owes nothing by the end of a cycle, all words that were asked above its part by then have come by the end of the
-- next one
abbrev pub WordsComeSoon : System → Run → ℕ → Port → ℕ → Type 0
WordsComeSoon system run agent port end =
    (c : ℕ) → suc c < end → IsFalse (owes system run agent c) → words_owed port (suc c) ≤ length (words_at port (suc (suc c)))

-- the cycles in which an agent that doesn't stall takes all that stands in a pipe: two beats for each stage
abbrev pub pipe_time : ℕ → ℕ → ℕ
pipe_time wait zero = 0
pipe_time wait (suc stages) = pipe_time wait stages + 2 * (wait + stages + 2)

abbrev pub agent_pipe_time : System → ℕ → ℕ
agent_pipe_time system agent = pipe_time (longest_wait (system.agent agent)) system.stages

-- what leads from a host's route down to its arbiter and shows each beat at once: `held` says what of the beats that were taken
-- above is still to be sent
pub record LeadsDown (target : Target) (top bottom : Port) (held : ℕ → ℕ) (most end : ℕ) : Type 0 where
  pub few : (c : ℕ) → c ≤ end → held c ≤ most
  pub shown : (c : ℕ) → c < end → IsTrue (shows top.commands.signals c) → IsTrue (shows bottom.commands.signals c)
  -- each beat that is taken below and not above leaves less
  pub fewer : (c : ℕ) → c < end → IsFalse (takes top c) → IsTrue (takes bottom c) → held (suc c) < held c
  pub stays : (c : ℕ) → c < end → IsFalse (takes top c) → IsFalse (takes bottom c) → held (suc c) ≤ held c
  -- a beat is taken above where nothing is held, and in the cycle in which one is taken below
  pub taken : (c : ℕ) → c < end → IsTrue (takes top c) → (held c ≡ 0) × IsTrue (takes bottom c)
  pub stands : (c : ℕ) → c < end → 0 < held c → IsTrue (shows bottom.commands.signals c)
  -- where nothing is held all operations are taken below, and all words are asked there
  pub through : (c : ℕ) → c ≤ end → held c ≡ 0
      → length (operations_among target top.shape (taken_at top c))
      ≤ length (operations_among target bottom.shape (taken_at bottom c))
  pub asked : (c : ℕ) → c ≤ end → held c ≡ 0 → words_owed top c ≤ words_owed bottom c
  pub words : (c : ℕ) → c < end → is_raised (top.answers.valid c) ≡ is_raised (bottom.answers.valid c)

-- a round of the others, once more for each burst that may be held and twice for what is asked by then, then twice what stands in
-- the pipe, and the way of a word up
abbrev pub waits_by : ℕ → ℕ → System → ℕ → ℕ
waits_by most round system agent =
    (2 * most + 1) * (standing_by round system agent + 1) + 2 * agent_pipe_time system agent + system.stages + 6

-- of a wired host beside neighbours whose commands come to no more steps than their longest bursts have beats
abbrev pub waiting_window : System → ℕ → ℕ → ℕ
waiting_window system agent host = waits_by 0 (round_of_others system agent host) system agent

-- of one whose bursts are cut
abbrev pub cut_window : System → ℕ → ℕ → ℕ
cut_window system agent host = waits_by (longest_of system host) (round_of_others system agent host) system agent

-- ---- beside links that hold reads back while words are owed

-- a good cycle in which, as it begins, no word is owed behind the arbiter
abbrev pub is_quiet : System → Run → ℕ → Port → ℕ → Bool
is_quiet system run agent port cycle = is_good system run agent cycle && not (is_gone port cycle)

-- the cycles after which all words that were asked behind an arbiter have come
abbrev pub word_time : System → ℕ → ℕ
word_time system agent = agent_pipe_time system agent + system.stages + 3

-- each beat of the others may bring its words, while which a link may hold another back
abbrev pub standing_quietly : ℕ → System → ℕ → ℕ
standing_quietly round system agent = standing_by round system agent + word_time system agent * (round + 1)
