-- The rules of the interfaces: legal hosts and agents, and the module's own side.
use Rattle.std.specs.Prelude.{◌≡◌, ℕ, suc, ◌*◌, ◌%◌, ◌<◌, ◌≤◌, Bool, not, ◌&&◌, List, length, map, if◌then◌else◌, nat_lt, IsTrue, IsFalse}
use Rattle.histories.specs.History.{before, only_if, is_raised, unreached}
use Rattle.memory_runs.specs.Views.{Signals, levels_at, Shape, HostSide, AgentSide, HostView, AgentView}
use Rattle.memory_runs.specs.Commands.{longest_burst, shows, accepts_by, is_held, presents, agent_accepts, burst_before, accepted, reads_among, read_beats, words_before}

-- a write burst whose first beat was accepted, and whose last one wasn't before this cycle
abbrev pub is_under_way : Shape → Signals → (ℕ → Bool) → ℕ → Bool
is_under_way shape signals accepts cycle = nat_lt 0 (burst_before shape signals accepts cycle).left

-- in the cycles before `end` the commands are those of a legal host: a read or a write at a time, a beat that waits stands
-- unchanged, a burst is of 1 to the longest number of beats, and a write burst is finished before a read comes
pub record AreLegal (shape : Shape) (signals : Signals) (accepts : ℕ → Bool) (end : ℕ) : Type 0 where
  pub one_kind : (c : ℕ) → c < end → IsTrue (not (is_raised (signals.read c) && is_raised (signals.write c)))
  pub held : (c : ℕ) → suc c < end → IsTrue (is_held signals accepts c) → levels_at signals c ≡ levels_at signals (suc c)
  pub least : (c : ℕ) → c < end → IsTrue (presents signals accepts c) → IsFalse (is_under_way shape signals accepts c)
      → 1 ≤ signals.count c
  pub most : (c : ℕ) → c < end → IsTrue (presents signals accepts c) → IsFalse (is_under_way shape signals accepts c)
      → signals.count c ≤ longest_burst shape.burst_bits
  pub finished : (c : ℕ) → c < end → IsTrue (is_under_way shape signals accepts c) → IsFalse (is_raised (signals.read c))

-- no word before a command that asks it, in an earlier cycle
abbrev pub AreOwed : (ℕ → ℕ) → (ℕ → ℕ) → ℕ → Type 0
AreOwed valid asked end = (c : ℕ) → c < end → words_before valid (suc c) ≤ asked c

abbrev pub host_accepts : HostView → ℕ → Bool
host_accepts view = accepts_by view.signals view.waitrequest

abbrev pub IsLegalHost : HostSide → HostView → ℕ → Type 0
IsLegalHost side view end = AreLegal side.shape view.signals (host_accepts view) end

-- words asked by the read commands that were accepted before a cycle
abbrev pub words_asked : Shape → Signals → (ℕ → Bool) → ℕ → ℕ
words_asked shape signals accepts cycle = length (read_beats (accepted shape signals accepts cycle))

-- an agent with readdatavalid gives no word before a read that asks for it. Nothing else is asked of an agent
pub record IsLegalAgent (side : AgentSide) (view : AgentView) (end : ℕ) : Type 0 where
  pub owed : IsTrue side.has_readdatavalid
      → AreOwed view.readdatavalid (words_asked side.shape view.signals (agent_accepts side view)) end

-- read commands accepted before a cycle that are not fully answered by so many words
abbrev pub unanswered : Shape → Signals → (ℕ → Bool) → ℕ → ℕ → ℕ
unanswered shape signals accepts words cycle =
    unreached (map (λ t. length t.beats) (reads_among (accepted shape signals accepts cycle))) words

-- after each cycle no more read commands are unanswered than the agent bears
abbrev pub IsWithinPendingBound : AgentSide → AgentView → ℕ → Type 0
IsWithinPendingBound side view end =
    (c : ℕ) → c < end → IsTrue side.has_readdatavalid →
    unanswered side.shape view.signals (agent_accepts side view) (words_before view.readdatavalid (suc c)) (suc c) ≤ side.pending

-- the module's own side at an agent: the commands of a legal host, at addresses of whole words, within the bound
pub record IsProperAtAgent (side : AgentSide) (view : AgentView) (end : ℕ) : Type 0 where
  pub legal : AreLegal side.shape view.signals (agent_accepts side view) end
  pub aligned : (c : ℕ) → c < end → IsTrue (shows view.signals c) → (view.address c * side.unit_bytes) % side.word_bytes ≡ 0
  pub bounded : IsWithinPendingBound side view end

-- whether a host is given a word in a cycle
abbrev pub gives_word : HostSide → HostView → ℕ → Bool
gives_word side view cycle =
    if side.has_readdatavalid then is_raised (view.readdatavalid cycle)
    else is_raised (view.read cycle) && not (is_raised (view.waitrequest cycle))

-- a word and its response
pub record Word : Type 0 where
  pub word : ℕ
  pub code : ℕ

abbrev pub given : HostSide → HostView → ℕ → List Word
given side view cycle =
    before (λ c. only_if (gives_word side view c) (record { word = view.readdata c; code = view.response c })) cycle

-- the module's own side at a host: at most 16 reads under way, and no word before its read. What `response` carries is said apart
pub record IsProperAtHost (side : HostSide) (view : HostView) (end : ℕ) : Type 0 where
  pub bounded : (c : ℕ) → c < end
      → unanswered side.shape view.signals (host_accepts view) (length (given side view (suc c))) (suc c) ≤ 16
  pub later : IsTrue side.has_readdatavalid
      → AreOwed view.readdatavalid (words_asked side.shape view.signals (host_accepts view)) end
