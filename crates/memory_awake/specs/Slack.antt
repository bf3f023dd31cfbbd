-- How few beats and words the parts hold back, and how long they may keep a window unserved because of it.
use Rattle.std.specs.Prelude.{◌≡◌, ℕ, suc, ◌+◌, ◌*◌, ◌<◌, ◌≤◌, Bool, ◌&&◌, ◌||◌, IsFalse}
use Rattle.histories.specs.History.{is_raised}
use Rattle.memory_runs.specs.Views.{System}
use Rattle.memory_runs.specs.Awake.{longest_wait, Throughout}
use Rattle.memory_machines.specs.Link.{Port, takes}
use Rattle.histories.specs.Sizes.{sum_below}
use Rattle.memory_awake.specs.Ways.{Ways, Standing, Standings, count_in}
use Rattle.memory_awake.specs.Sizes.{allows}

-- how many beats a link may take above beyond those that it hands on, and how many words it may give beyond those that come to it
pub record Slack : Type 0 where
  pub hold : ℕ
  pub kept : ℕ

pub record Slacks : Type 0 where
  pub lower : ℕ → Slack
  pub upper : ℕ → ℕ → Slack

-- a word comes up in the next cycle
abbrev pub brings_next : Port → ℕ → Bool
brings_next port c = is_raised (port.answers.valid (suc c))

-- in each stretch of cycles a part takes few beats more above than below, and gives few words more above than come below
pub record PassesOn (slack : Slack) (up down : Port) (end : ℕ) : Type 0 where
  pub beats : (from size : ℕ) → from + size ≤ end → count_in (takes up) from size ≤ count_in (takes down) from size + slack.hold
  pub words : (from size : ℕ) → from + size < end
      → count_in (brings_next up) from size ≤ count_in (brings_next down) from size + slack.kept

-- a write is taken at a port, or a word comes up there in the next cycle
abbrev pub stirs : Port → ℕ → Bool
stirs port c = (takes port c && is_raised (port.commands.write c)) || brings_next port c

-- in no cycle of a stretch
abbrev pub IsStill : Port → ℕ → ℕ → Type 0
IsStill port from size = Throughout from size (λ c. IsFalse (stirs port c))

-- it does so in each stretch in which the port behind its route, `top`, is still: each beat that a link swallows stirs that port,
-- by its write or by its word
pub record PassesWhileStill (slack : Slack) (top up down : Port) (end : ℕ) : Type 0 where
  pub beats : (from size : ℕ) → from + size ≤ end → IsStill top from size
      → count_in (takes up) from size ≤ count_in (takes down) from size + slack.hold
  pub words : (from size : ℕ) → from + size < end → IsStill top from size
      → count_in (brings_next up) from size ≤ count_in (brings_next down) from size + slack.kept

-- every stage that leads to an agent does so, and every link while the port behind its route is still
pub record AllPassOn (system : System) (ways : Ways) (slacks : Slacks) (end : ℕ) : Type 0 where
  pub lower : (i : ℕ) → i < ways.stages → PassesOn (slacks.lower i) (ways.lower (suc i)) (ways.lower i) end
  pub upper : (h i : ℕ) → h < system.hosts → i < ways.above h
      → PassesWhileStill (slacks.upper h i) (ways.upper h (ways.above h)) (ways.upper h (suc i)) (ways.upper h i) end

-- the beats that are taken at a lower port while nothing is served, and the words that come up there
abbrev pub lower_beats : Slacks → ℕ → ℕ
lower_beats slacks i = sum_below (λ k. (slacks.lower k).hold) i

abbrev pub lower_words : Slacks → ℕ → ℕ
lower_words slacks i = 1 + sum_below (λ k. (slacks.lower k).kept) i

-- and at a host's port, beyond those before the arbiter
abbrev pub upper_beats : Slacks → ℕ → ℕ → ℕ
upper_beats slacks h i = sum_below (λ k. (slacks.upper h k).hold) i

abbrev pub upper_words : Slacks → ℕ → ℕ → ℕ
upper_words slacks h i = sum_below (λ k. (slacks.upper h k).kept) i

-- the cycles that a stage allows, and those that a host's link allows without beats or words before the arbiter
abbrev pub stage_allows : Standings → Slacks → ℕ → ℕ
stage_allows standings slacks i =
    allows ((lower_beats slacks i + lower_beats slacks (suc i)) + lower_words slacks (suc i)) (standings.lower i).largest

abbrev pub link_allows : Standings → Slacks → ℕ → ℕ → ℕ
link_allows standings slacks h i =
    allows ((upper_beats slacks h i + upper_beats slacks h (suc i)) + upper_words slacks h (suc i)) (standings.upper h i).largest

abbrev pub host_allows : System → Ways → Standings → Slacks → ℕ → ℕ
host_allows system ways standings slacks h = sum_below (link_allows standings slacks h) (ways.above h)

-- what a beat or a word before the arbiter costs on the way of a host
abbrev pub toll : Ways → Standings → ℕ → ℕ
toll ways standings h = sum_below (λ i. (standings.upper h i).largest + 1) (ways.above h)

-- the cycles that all parts that lead to an agent allow, where a beat or a word costs no host more than `most`
abbrev pub all_allow : System → Ways → Standings → Slacks → ℕ → ℕ
all_allow system ways standings slacks most =
    standings.agent.largest
    + sum_below (stage_allows standings slacks) ways.stages
    + lower_beats slacks ways.stages
    + sum_below (host_allows system ways standings slacks) system.hosts
    + (2 * lower_beats slacks ways.stages + lower_words slacks ways.stages) * most

-- a beat or a word before the arbiter costs no host more than so many cycles
abbrev pub CostsAtMost : ℕ → System → Ways → Standings → Type 0
CostsAtMost most system ways standings = (h : ℕ) → h < system.hosts → toll ways standings h ≤ most

-- a stage of a pipe: two places for beats, a register for words, and a rank of at most 1
pub record IsModestStage (slack : Slack) (standing : Standing) : Type 0 where
  pub hold : slack.hold ≤ 2
  pub kept : slack.kept ≤ 1
  pub rank : standing.largest ≤ 1

-- ranks and slacks that fit in an agent's window, for up to 4 stages and 16 hosts: of the agent's part the wait time plus 1, and
-- of each host's links 15 cycles, and 5 for a beat or a word
pub record AreModest (system : System) (agent : ℕ) (ways : Ways) (standings : Standings) (slacks : Slacks) : Type 0 where
  pub stages : ways.stages ≡ system.stages
  pub few_stages : system.stages ≤ 4
  pub few_hosts : system.hosts ≤ 16
  pub wait : standings.agent.largest ≤ longest_wait (system.agent agent) + 1
  pub lower : (i : ℕ) → i < ways.stages → IsModestStage (slacks.lower i) (standings.lower i)
  pub upper : (h : ℕ) → h < system.hosts → host_allows system ways standings slacks h ≤ 15
  pub toll : CostsAtMost 5 system ways standings

-- a link with so small a rank that holds so little back
pub record IsModestLink (slack : Slack) (standing : Standing) (most_held most_kept most_rank : ℕ) : Type 0 where
  pub hold : slack.hold ≤ most_held
  pub kept : slack.kept ≤ most_kept
  pub rank : standing.largest ≤ most_rank

-- the links of a host: at most three; the lowest may hold a beat, give a word of its own and have a rank of 1, the next may have
-- a rank of 1
pub record HasModestLinks (ways : Ways) (standings : Standings) (slacks : Slacks) (h : ℕ) : Type 0 where
  pub few : ways.above h ≤ 3
  pub first : 0 < ways.above h → IsModestLink (slacks.upper h 0) (standings.upper h 0) 1 1 1
  pub second : 1 < ways.above h → IsModestLink (slacks.upper h 1) (standings.upper h 1) 0 0 1
  pub third : 2 < ways.above h → IsModestLink (slacks.upper h 2) (standings.upper h 2) 0 0 0
