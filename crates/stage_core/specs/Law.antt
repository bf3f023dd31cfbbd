-- What a stage keeps in each endless run.
use Rattle.std.specs.Prelude.{ℕ}
use Rattle.netlist.specs.Nets.{NetValue}
use Rattle.netlist.specs.Netlists.{Netlist}
use Rattle.netlist.specs.Runs.{Cycle, Run, IsEndlessRun, IsValuation, SameState}
use Rattle.netlist.specs.Longer.{Extends}
use Rattle.stream_runs.specs.View.{EndView}
use Rattle.stream_machines.specs.Stage.{Shape, StageRun, KeepsStageLaw, PassesReady}
use Rattle.stage_core.specs.declared.beat.BeatNets.{BeatNets}
use Rattle.stage_core.specs.Beats.{view_of, ShowSame}

-- between these two views the stage keeps its law, with some rank
pub record KeepsShape (shape : Shape) (up down : EndView) : Type 0 where
  pub rank : ℕ → ℕ
  pub keeps : KeepsStageLaw shape (record { up = up; down = down; rank = rank })

-- the run of these two views; nothing is said of its rank
abbrev pub unranked : EndView → EndView → StageRun
unranked up down = record { up = up; down = down; rank = λ _. 0 }

-- ready passes from one view to the other
abbrev pub ReadyPasses : Shape → EndView → EndView → Type 0
ReadyPasses shape up down = PassesReady shape (unranked up down)

-- in each endless run of each longer netlist the law is kept between the beat `from` with ready `up`, and the beat `to`
-- with ready `ready`
abbrev pub KeepsInLonger : Shape → Netlist → BeatNets → NetValue → BeatNets → NetValue → Type 0
KeepsInLonger shape netlist from up to ready =
    (longer : Netlist) → Extends netlist longer → (run : Run) → IsEndlessRun longer run
    → KeepsShape shape (view_of run from up) (view_of run to ready)

-- and ready is passed on
abbrev pub PassesInLonger : Shape → Netlist → BeatNets → NetValue → BeatNets → NetValue → Type 0
PassesInLonger shape netlist from up to ready =
    (longer : Netlist) → Extends netlist longer → (run : Run) → IsEndlessRun longer run
    → ReadyPasses shape (view_of run from up) (view_of run to ready)

-- what the two calls of a stage leave stands in the netlist, with something that was kept between them
pub record Stands {Held : Type 0} (forward backward : Held → Netlist → Type 0) (netlist : Netlist) : Type 0 where
  pub kept : Held
  pub first : forward kept netlist
  pub second : backward kept netlist

-- in two valuations of a longer netlist with one state, the beat `to` is the same where the beat `from` is
abbrev pub IgnoresInLonger : Netlist → BeatNets → BeatNets → Type 0
IgnoresInLonger netlist from to =
    (longer : Netlist) → Extends netlist longer → (one other : Cycle) → IsValuation longer one → IsValuation longer other
    → SameState longer one other →
    ShowSame from one other → ShowSame to one other
