-- The statements of a source as steps, which it leaves one by one.
use Rattle.std.specs.Prelude.{ℕ, zero, suc, ◌+◌, Bool, false, ◌&&◌, ◌||◌, ◌==◌, nat_lt, List, [], ◌∷◌, ◌++◌, replicate, Option, Some, None, is_some, if◌then◌else◌}
use Rattle.histories.specs.History.{one_if}
use Rattle.stream_runs.specs.View.{EndView, Beat, Pace, is_high, is_ready_cycle}
use Rattle.scenario_tables.specs.declared.statements.SourceBeat.{SourceBeat}
use Rattle.scenario_tables.specs.declared.statements.SourceStatement.{SourceStatement}
use Rattle.scenario_tables.specs.declared.statements.SourceStatement.TheVariants as states
use Rattle.stand_ins.specs.Step.{Step}
use Rattle.stand_ins.specs.Step.Step.{Quiet, Sends}

-- a beat as levels on ports
abbrev pub levels_of : SourceBeat → Beat
levels_of beat =
    record {
      word =
          beat.word;
      channel =
          beat.channel;
      error = beat.error;
      first = one_if beat.first;
      last = one_if beat.last;
      empty = beat.empty;
    }

-- a beat is one step, and a gap a quiet one for each of its cycles
abbrev pub steps_of : List SourceStatement → List Step
steps_of [] = []
steps_of (states.Beat beat ∷ later) = Sends (levels_of beat) ∷ steps_of later
steps_of (states.Gap cycles ∷ later) = replicate cycles Quiet ++ steps_of later

-- the steps that are left behind a cycle: a quiet one is left after it, and a beat if it transferred
abbrev pub left_behind : Bool → List Step → List Step
left_behind goes [] = []
left_behind goes (Quiet ∷ later) = later
left_behind goes (Sends beat ∷ later) = if goes then later else Sends beat ∷ later

-- the beat that stands next, where beats may be shown
abbrev pub next_beat : Bool → List Step → Option Beat
next_beat may_show [] = None
next_beat may_show (Quiet ∷ later) = None
next_beat may_show (Sends beat ∷ later) = if may_show then Some beat else None

-- where a source has sent so many beats since the last ready, it may send one in a cycle, whatever ready is in it: always at
-- ready latency 0, else in a ready cycle (`due`), and with an allowance above the latency also after one (`came`), while that
-- lasts
abbrev pub may_send : Pace → Bool → Bool → ℕ → Bool
may_send pace came due sent =
    (pace.latency == 0) || (if nat_lt pace.latency pace.allowance then (came || due) && nat_lt sent pace.allowance else due)

-- where a source stands: the steps that are left, and how many beats it has sent since the last ready, counted up to the
-- allowance
pub record Standing : Type 0 where
  pub left : List Step
  pub sent : ℕ

-- behind a cycle in which ready is so, and the beat that stands next transfers or not
abbrev pub stands_behind : ℕ → Bool → Bool → Standing → Standing
stands_behind allowance ready goes now =
    record {
      left = left_behind goes now.left;
      sent =
          if ready then 0
          else (if is_some (next_beat goes now.left) && nat_lt now.sent allowance then now.sent + 1 else now.sent);
    }

-- behind a cycle in which a beat that it may send transfers, behind ready latency 0 if ready is high
abbrev pub goes_on : Pace → Bool → Bool → Bool → Standing → Standing
goes_on pace came due ready now =
    stands_behind pace.allowance ready (may_send pace came due now.sent && (nat_lt 0 pace.latency || ready)) now

-- a ready cycle came before this one
abbrev pub came_due : Pace → EndView → ℕ → Bool
came_due pace view zero = false
came_due pace view (suc c) = came_due pace view c || is_ready_cycle pace view c

-- where it stands as a cycle begins
abbrev pub standing : Pace → List Step → EndView → ℕ → Standing
standing pace steps view zero = record { left = steps; sent = 0 }
standing pace steps view (suc c) =
    goes_on pace (came_due pace view c) (is_ready_cycle pace view c) (is_high view.ready c) (standing pace steps view c)

-- the steps that are left as a cycle begins
abbrev pub left_before : Pace → List Step → EndView → ℕ → List Step
left_before pace steps view c = (standing pace steps view c).left
