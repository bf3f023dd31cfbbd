-- What stands in for a source: what it shows in each cycle, and what it keeps from cycle to cycle.
use Rattle.std.specs.Prelude.{◌≡◌, ℕ, zero, suc, ◌<◌, ◌&&◌, ◌||◌, nat_lt, Bool, false, List, ◌∷◌, replicate, take, slice_index_or, Option, is_some, unwrap_or}
use Rattle.histories.specs.History.{one_if}
use Rattle.iface_roles.specs.declared.records.StreamPort.{StreamPort}
use Rattle.stream_runs.specs.View.{EndView, Beat, Pace, beat_at, is_high, is_ready_cycle}
use Rattle.stream_runs.specs.Ends.{pace_of}
use Rattle.st_timing.specs.Ends.{declared}
use Rattle.scenario_tables.specs.declared.statements.SourceStatement.{SourceStatement}
use Rattle.stand_ins.specs.Step.{Step}
use Rattle.stand_ins.specs.StreamsSteps.{steps_of, next_beat, may_send, stands_behind, came_due, standing}

abbrev pub port_pace : StreamPort → Pace
port_pace port = pace_of (declared port)

-- all signals of a source that aren't in use
abbrev pub no_beat : Beat
no_beat = record { word = 0; channel = 0; error = 0; first = 0; last = 0; empty = 0 }

-- the beat that a script shows in a cycle: in each in which the pace lets it send, whatever ready is in it
abbrev pub beat_shown : StreamPort → List SourceStatement → EndView → ℕ → Option Beat
beat_shown port script view c =
    let pace = port_pace port in
    let now = standing pace (steps_of script) view c in
    next_beat (may_send pace (came_due pace view c) (is_ready_cycle pace view c) now.sent) now.left

-- in the cycle a source shows this beat, or none
pub record Shows (view : EndView) (c : ℕ) (beat : Option Beat) : Type 0 where
  pub valid : view.valid c ≡ one_if (is_some beat)
  pub signals : beat_at view c ≡ unwrap_or beat no_beat

-- in the cycles before `end` the source shows what the script says, by the cycles in which the module was ready
abbrev pub IsSourceStandIn : StreamPort → List SourceStatement → EndView → ℕ → Type 0
IsSourceStandIn port script view end = (c : ℕ) → c < end → Shows view c (beat_shown port script view c)

-- whether ready was high in the eight cycles before a cycle, the latest first; before the first cycle it was low
abbrev pub lately_ready : EndView → ℕ → List Bool
lately_ready view zero = replicate 8 false
lately_ready view (suc c) = is_high view.ready c ∷ take 7 (lately_ready view c)

-- what a source keeps: its pace, where it stands, whether a ready cycle came, and in which of the eight cycles before ready was
-- high
pub record Keeping : Type 0 where
  pub pace : Pace
  pub left : List Step
  pub sent : ℕ
  pub came : Bool
  pub lately : List Bool

-- what it keeps as a cycle begins
abbrev pub keeping_at : StreamPort → List SourceStatement → EndView → ℕ → Keeping
keeping_at port script view c =
    let pace = port_pace port in
    let now = standing pace (steps_of script) view c in
    record { pace = pace; left = now.left; sent = now.sent; came = came_due pace view c; lately = lately_ready view c }

-- a cycle in which ready is so is a ready cycle
abbrev pub is_due : Keeping → Bool → Bool
is_due keeping ready = slice_index_or (ready ∷ keeping.lately) keeping.pace.latency false

-- it may send in the cycle, whatever ready is in it
abbrev pub may_send_now : Keeping → Bool
may_send_now keeping = may_send keeping.pace keeping.came (is_due keeping false) keeping.sent

-- in a cycle in which ready is so, a beat that stands is taken
abbrev pub is_taken : Keeping → Bool → Bool
is_taken keeping ready = may_send_now keeping && (nat_lt 0 keeping.pace.latency || ready)

-- what it keeps behind such a cycle
abbrev pub keeping_behind : Keeping → Bool → Keeping
keeping_behind keeping ready =
    let behind = stands_behind keeping.pace.allowance ready (is_taken keeping ready) (record { left = keeping.left; sent = keeping.sent }) in
    record {
      pace =
          keeping.pace;
      left =
          behind.left;
      sent = behind.sent;
      came = keeping.came || is_due keeping ready;
      lately = ready ∷ take 7 keeping.lately;
    }

-- the beat that it shows
abbrev pub beat_kept : Keeping → Option Beat
beat_kept keeping = next_beat (may_send_now keeping) keeping.left
