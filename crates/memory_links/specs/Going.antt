-- How a link goes on, so that a system never idles: a rank that falls, words that come up, and few beats that wait in it.
use Rattle.std.specs.Prelude.{ℕ, suc, ◌<◌, Bool, ◌||◌, List, [], ◌∷◌, length, nat_lt, IsTrue}
use Rattle.histories.specs.History.{is_raised}
use Rattle.memory_runs.specs.Commands.{is_held}
use Rattle.memory_machines.specs.Link.{Target, Port, AreLegalAt, takes, taken_at, shown_at, operations_among}
use Rattle.memory_machines.specs.Rank.{Falls, is_owed, has_commands, moves_commands, is_excused}
use Rattle.memory_machines.specs.PartRanks.{HoldsBack}

-- by the end of the cycle an operation that was presented above isn't taken below
abbrev pub is_untaken : Target → Port → Port → ℕ → Bool
is_untaken target up down c =
    nat_lt (length (operations_among target down.shape (taken_at down (suc c))))
    (length (operations_among target up.shape (shown_at up (suc c))))

-- or a beat, with or without an operation, stands below
abbrev pub is_behind : Target → Port → Port → ℕ → Bool
is_behind target up down c = is_untaken target up down c || is_held down.commands.signals (takes down) c

-- by number of words: a word that is owed above by the end of a cycle is given in the next one, where nothing is behind or moves
-- and no word is owed below
abbrev pub GivesWhatHasCome : Target → Port → Port → ℕ → Type 0
GivesWhatHasCome target up down end =
    (c : ℕ) → suc c < end → IsTrue (is_owed up c) →
    IsTrue (is_behind target up down c || (moves_commands up down c || is_raised (up.answers.valid (suc c))) || is_owed down c)

-- a link has work also while a beat stands below: its rank needn't fall then, but mayn't rise
abbrev pub has_link_work : Target → Port → Port → ℕ → Bool
has_link_work target up down c = has_commands target up down c || is_held down.commands.signals (takes down) c

-- a beat is taken below or accepted above, or a word is given above in the next cycle
abbrev pub moves_or_gives : Port → Port → ℕ → Bool
moves_or_gives up down c = moves_commands up down c || is_raised (up.answers.valid (suc c))

pub record KeepsGoing (target : Target) (up down : Port) (rank : ℕ → ℕ) (largest end : ℕ) : Type 0 where
  pub legal : AreLegalAt up end
  pub legal_down : AreLegalAt down end
  pub falls : Falls (has_link_work target up down) (moves_or_gives up down) (is_excused up down) rank largest end
  pub words : GivesWhatHasCome target up down end

-- the largest value of a link's rank, and how many transfers wait in it behind one that isn't wholly taken
pub record Pace : Type 0 where
  pub largest : ℕ
  pub hold : ℕ

pub record GoesOn (target : Target) (pace : Pace) (up down : Port) (end : ℕ) : Type 0 where
  pub rank : ℕ → ℕ
  pub going : KeepsGoing target up down rank pace.largest end
  pub holds : HoldsBack pace.hold target up down end

-- links in a row, the highest first: each has a rank between its own sides
pub data RowGoesOn (target : Target) (end : ℕ) : List Pace → Port → Port → Type 0 where
  at_end : {port : Port} → RowGoesOn target end [] port port
  further : {pace : Pace} {paces : List Pace} {up middle down : Port} → GoesOn target pace up middle end
      → RowGoesOn target end paces middle down →
      RowGoesOn target end (pace ∷ paces) up down
