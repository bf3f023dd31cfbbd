-- What a link keeps besides its rank, and the rank next to the agent. Host, route and arbiter are wired through and need no rank.
use Rattle.std.specs.Prelude.{ℕ, suc, ◌+◌, ◌-◌, ◌≤◌, Bool, true, false, not, ◌&&◌, ◌||◌, List, [], ◌∷◌, length, if◌then◌else◌, nat_eq, nat_lt, IsTrue, map}
use Rattle.memory_runs.specs.Views.{System, Run}
use Rattle.memory_runs.specs.Commands.{is_held, is_of_reads, agent_accepts}
use Rattle.memory_runs.specs.Legal.{is_under_way}
use Rattle.memory_runs.specs.Order.{taken}
use Rattle.memory_runs.specs.Awake.{owes}
use Rattle.memory_machines.specs.Link.{Target, Port, Marked, closes, is_nonempty, takes, taken_at, shown_at, operations_among, operations_in}
use Rattle.memory_machines.specs.Lines.{TaggedPort, target_of}
use Rattle.memory_machines.specs.Rank.{Falls, LinkRankFalls, AnswersPromptly, may_rest}

-- ---- a link, besides its rank

-- a transfer that was accepted above: how many operations it has, and whether it closes its joined command
pub record Accepted : Type 0 where
  pub size : ℕ
  pub closes : Bool

-- behind the first one that isn't wholly taken, those count that have an operation, and all of the later commands
abbrev pub behind : Bool → List Accepted → ℕ
behind ended [] = 0
behind ended (a ∷ later) = (if ended || nat_lt 0 a.size then 1 else 0) + behind (ended || a.closes) later

-- the transfers from the first that isn't wholly taken on, where so many operations are taken
abbrev pub held_back : List Accepted → ℕ → ℕ
held_back [] reached = 0
held_back (a ∷ later) reached = if nat_lt reached a.size then 1 + behind a.closes later else held_back later (reached - a.size)

-- each transfer that is accepted above, with or without an operation, waits behind few others
abbrev pub HoldsBack : ℕ → Target → Port → Port → ℕ → Type 0
HoldsBack hold target up down end =
    (c : ℕ) → c ≤ end →
    held_back (map (λ m. record { size = length (operations_in target up.shape m); closes = closes m }) (taken_at up c))
    (length (operations_among target down.shape (taken_at down c)))
    ≤ hold

abbrev pub is_same : Bool → Bool → Bool
is_same true other = other
is_same false other = not other

-- the next transfer goes on with the joined command of the one before it: one tag, one kind, and of reads both have an operation
-- or neither has
abbrev pub goes_on_alike : Target → Port → Marked → Marked → Bool
goes_on_alike target port m next =
    nat_eq m.tag next.tag && is_same (is_of_reads m.transfer.kind) (is_of_reads next.transfer.kind)
    && (not (is_of_reads m.transfer.kind)
    || is_same (is_nonempty (operations_in target port.shape m)) (is_nonempty (operations_in target port.shape next)))

abbrev pub are_joined_alike : Target → Port → List Marked → Bool
are_joined_alike target port [] = true
are_joined_alike target port (m ∷ []) = true
are_joined_alike target port (m ∷ next ∷ later) =
    (closes m || goes_on_alike target port m next) && are_joined_alike target port (next ∷ later)

abbrev pub JoinsAlike : Target → Port → ℕ → Type 0
JoinsAlike target port end = (c : ℕ) → c ≤ end → IsTrue (are_joined_alike target port (shown_at port c))

-- what a link keeps for never idling: its commands move on, its words are answered promptly, and few transfers wait in it
pub record KeepsMoving (hold : ℕ) (target : Target) (up down : Port) (rank : ℕ → ℕ) (largest end : ℕ) : Type 0 where
  pub falls : LinkRankFalls target up down rank largest end
  pub answers : AnswersPromptly target up down end
  pub holds : HoldsBack hold target up down end
  pub joins : JoinsAlike target up end → JoinsAlike target down end

-- ---- next to the agent: its own wait excuses, and its fixed wait states don't

abbrev pub has_agent_work : System → Run → ℕ → TaggedPort → ℕ → Bool
has_agent_work system run agent up c =
    is_held up.commands.signals (takes up.port) c
    || nat_lt (length (taken system run agent (suc c)))
    (length (operations_among (target_of system agent) up.shape (shown_at up.port (suc c))))

abbrev pub moves_at_agent : System → Run → ℕ → TaggedPort → ℕ → Bool
moves_at_agent system run agent up c = agent_accepts (system.agent agent) (run.at_agent agent) c || takes up.port c

abbrev pub is_agent_excused : System → Run → ℕ → TaggedPort → ℕ → Bool
is_agent_excused system run agent up c =
    let side = system.agent agent in
    let view = run.at_agent agent in
    (side.has_waitrequest && is_held view.signals (agent_accepts side view) c)
    || (owes system run agent c && not (is_under_way side.shape view.signals (agent_accepts side view) (suc c)))
    || may_rest up.port c

abbrev pub AgentRankFalls : System → Run → ℕ → TaggedPort → (ℕ → ℕ) → ℕ → ℕ → Type 0
AgentRankFalls system run agent up rank largest end =
    Falls (has_agent_work system run agent up) (moves_at_agent system run agent up)
    (is_agent_excused system run agent up) rank largest end
