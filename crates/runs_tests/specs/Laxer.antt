-- Laxer clauses on the rank of a link, each of which lets a run through in which a wanted agent is never served.
use Rattle.std.specs.Prelude.{ℕ, suc, Bool, not, ◌&&◌, ◌||◌, length, nat_lt}
use Rattle.histories.specs.History.{is_raised}
use Rattle.memory_runs.specs.Commands.{is_held, shows}
use Rattle.memory_runs.specs.Legal.{is_under_way}
use Rattle.memory_machines.specs.Link.{Target, Port, takes, words_at, words_owed, has_word_ready}
use Rattle.memory_machines.specs.Rank.{Falls, has_commands, is_excused, is_owed}

-- a word whose answers have all come and isn't answered is work too
abbrev pub has_work : Target → Port → Port → ℕ → Bool
has_work target up down c = has_commands target up down c || has_word_ready target up down (suc c)

-- and a word that is answered is a move; of the beats that are accepted above only writes are
abbrev pub moves : Port → Port → ℕ → Bool
moves up down c = takes down c || is_raised (up.answers.valid c) || (takes up c && is_raised (up.commands.write c))

-- the wait below excuses also where nothing is shown there, an owed word always, and a burst under way whatever is owed
abbrev pub is_excused_lax : Port → Port → ℕ → Bool
is_excused_lax up down c =
    is_raised (down.commands.waitrequest c)
    || nat_lt (length (words_at down (suc c))) (words_owed down (suc c))
    || (is_under_way up.shape up.commands.signals (takes up) c && not (shows up.commands.signals c))

abbrev pub FallsLax : Target → Port → Port → (ℕ → ℕ) → ℕ → ℕ → Type 0
FallsLax target up down rank largest end =
    Falls (has_work target up down) (moves up down) (is_excused_lax up down) rank largest end

-- the first exception alone is tight
abbrev pub is_excused_half : Port → Port → ℕ → Bool
is_excused_half up down c =
    is_held down.commands.signals (takes down) c || is_owed down c
    || (is_under_way up.shape up.commands.signals (takes up) c && not (shows up.commands.signals c))

abbrev pub FallsHalf : Target → Port → Port → (ℕ → ℕ) → ℕ → ℕ → Type 0
FallsHalf target up down rank largest end =
    Falls (has_work target up down) (moves up down) (is_excused_half up down) rank largest end

-- all exceptions are tight, and words are moves
abbrev pub FallsByWords : Target → Port → Port → (ℕ → ℕ) → ℕ → ℕ → Type 0
FallsByWords target up down rank largest end =
    Falls (has_work target up down) (moves up down) (is_excused up down) rank largest end
