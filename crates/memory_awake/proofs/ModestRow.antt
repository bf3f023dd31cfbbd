-- What may stand in each place of a row, and the row of three.
use Rattle.std.proofs.Common.{ℕ, zero, suc, ◌<◌, ◌≤◌, List, arith, le_refl}
use Rattle.memory_machines.specs.Link.{Target, Port, AreLegalAt, AnswersAreOwed}
use Rattle.memory_machines.specs.Machines.{MaySplit}
use Rattle.memory_machines.specs.PartRanks.{JoinsAlike}
use Rattle.memory_links.specs.Cutters.{Reach, CutterState, RunsAsCutter, IsCutPlan}
use Rattle.memory_links.specs.Drops.{DropState, RunsAsDrop, IsDropPlan}
use Rattle.memory_links.specs.Gathers.{GatherState, RunsAsGather, IsGatherPlan, LieInWords}
use Rattle.memory_links.specs.Going.{KeepsGoing}
use Rattle.memory_links.specs.Selects.{RunsAsSelect, IsSelectPlan, EnablesFit}
use Rattle.memory_links.specs.Splits.{SplitState, RunsAsSplit}
use Rattle.memory_awake.specs.Rows.{IsModestRow, IsWired, CutsBursts, CutsBursts.cutter, CutsBursts.no_cutter, FitsWords, FitsWords.selector, FitsWords.gatherer, FitsWords.splitter, FitsWords.no_width, DropsBeats, DropsBeats.dropper, DropsBeats.no_dropper, GathersBelowCut, by_number, ports_of_three, one_beat_lowest}
use Rattle.memory_awake.specs.Slack.{PassesWhileStill}
use Rattle.memory_awake.specs.Still.{StirsAbove, SpentStirs}
use Rattle.memory_awake.specs.Ways.{Standing}
use Rattle.memory_awake.proofs.FitsBelow.{Suits, suits_below}
use Rattle.memory_awake.proofs.LinksPass.{on_while_still}
use Rattle.memory_awake.proofs.Passing.{wire_passes}
use Rattle.memory_awake.proofs.RowLine.{LinkLaws, carries_of}
use Rattle.memory_awake.proofs.RowOfThree.{Carries, settled}
use Rattle.memory_awake.proofs.Widened.{wire_link, wire_stays, goes_behind_wire}

-- a rank that is at most so large
pub record Goes (largest : ℕ) (target : Target) (up down : Port) (end : ℕ) : Type 0 where
  pub standing : Standing
  pub few : standing.largest ≤ largest
  pub going : KeepsGoing target up down standing.rank standing.largest end

abbrev pub WhenSettled : Target → Port → Port → ℕ → Type 0 → Type 0
WhenSettled target up down end Kept = AreLegalAt up end → AnswersAreOwed down end → JoinsAlike target up end → Kept

-- the laws of links that are used here
pub record Laws : Type 0 where
  pub links : LinkLaws
  pub wire_goes : (target : Target) (port : Port) (end : ℕ) → AreLegalAt port end → KeepsGoing target port port (λ c. 0) 0 end
  pub cut_goes : (target : Target) (reach : Reach) (longest : ℕ) (up down : Port) (state : CutterState) (end : ℕ) → IsCutPlan reach longest up.shape down.shape → RunsAsCutter reach longest up down state →
      WhenSettled target up down end ((rank : ℕ → ℕ) × KeepsGoing target up down rank 0 end)
  pub cut_stirs : (reach : Reach) (longest : ℕ) (up down : Port) (state : CutterState) → RunsAsCutter reach longest up down state → (end : ℕ) → StirsAbove up down end
  pub cut_passes : (reach : Reach) (longest : ℕ) (top up down : Port) (state : CutterState) → RunsAsCutter reach longest up down state → (end : ℕ) → PassesWhileStill (record { hold = 0; kept = 0 }) top up down end
  pub select_goes : (target : Target) (up down : Port) (many room : ℕ) (offsets : ℕ → List ℕ) (end : ℕ) → IsSelectPlan target up.shape down.shape many → 1 < room → RunsAsSelect room up down offsets → EnablesFit up end →
      WhenSettled target up down end ((rank : ℕ → ℕ) × KeepsGoing target up down rank 0 end)
  pub select_stirs : (room : ℕ) (up down : Port) (offsets : ℕ → List ℕ) → RunsAsSelect room up down offsets → (end : ℕ) → StirsAbove up down end
  pub select_passes : (target : Target) (top up down : Port) (many room : ℕ) (offsets : ℕ → List ℕ) → IsSelectPlan target up.shape down.shape many → 1 < room → RunsAsSelect room up down offsets → (end : ℕ) →
      PassesWhileStill (record { hold = 0; kept = 0 }) top up down end
  pub gather_goes : (target : Target) (up down : Port) (many room : ℕ) (state : GatherState) (end : ℕ) → IsGatherPlan target up.shape down.shape many → 1 < room → RunsAsGather room up down state → LieInWords up down.shape end →
      WhenSettled target up down end ((rank : ℕ → ℕ) × KeepsGoing target up down rank 0 end)
  pub gather_spent : (target : Target) (up down : Port) (many room : ℕ) (state : GatherState) → IsGatherPlan target up.shape down.shape many → RunsAsGather room up down state → (end : ℕ) → SpentStirs up down end
  pub gather_passes : (target : Target) (top up down : Port) (many room : ℕ) (state : GatherState) → IsGatherPlan target up.shape down.shape many → RunsAsGather room up down state → (end : ℕ) → StirsAbove top up end →
      PassesWhileStill (record { hold = 0; kept = 0 }) top up down end
  pub split_goes : (target : Target) (room count : ℕ) (up down : Port) (state : SplitState) (end : ℕ) → MaySplit target up.shape down.shape count → 0 < room → RunsAsSplit room up down state →
      WhenSettled target up down end ((rank : ℕ → ℕ) × KeepsGoing target up down rank 1 end)
  pub split_spent : (room : ℕ) (up down : Port) (state : SplitState) → RunsAsSplit room up down state → (end : ℕ) → AreLegalAt up end → AnswersAreOwed down end → SpentStirs up down end
  pub split_passes : (room : ℕ) (top up down : Port) (state : SplitState) → RunsAsSplit room up down state → (end : ℕ) → StirsAbove top up end → PassesWhileStill (record { hold = 0; kept = 0 }) top up down end
  pub drop_goes : (target : Target) (room : ℕ) (up down : Port) (state : DropState) (end : ℕ) → IsDropPlan target up.shape down.shape → 0 < room → RunsAsDrop room up down state →
      WhenSettled target up down end ((rank : ℕ → ℕ) × KeepsGoing target up down rank 1 end)
  pub drop_passes : (room : ℕ) (top up down : Port) (state : DropState) → RunsAsDrop room up down state → (end : ℕ) → SpentStirs top up end → PassesWhileStill (record { hold = 1; kept = 0 }) top up down end
  pub above : (up down : Port) (end : ℕ) → StirsAbove up down end → SpentStirs up down end
  pub further : (top up down : Port) (end : ℕ) → StirsAbove top up end → SpentStirs up down end → SpentStirs top down end

ranked : {target : Target} {up down : Port} {end : ℕ} (largest : ℕ) → (rank : ℕ → ℕ) × KeepsGoing target up down rank largest end → Goes largest target up down end
ranked largest goes = record { standing = record { rank = goes.0; largest = largest }; few = le_refl largest; going = goes.1 }

module _ (laws : Laws) (target : Target) (end : ℕ) where
  wire_carries : (up down : Port) → IsWired up down → Carries target up down end
  wire_carries up down wired = carries_of (wire_link target up down end wired.wire (laws.links.wire target up end wired.some))

  wire_goes : (largest : ℕ) (up down : Port) → IsWired up down → AreLegalAt up end → Goes largest target up down end
  wire_goes largest up down wired legal =
      record { standing = record { rank = λ c. 0; largest = 0 }; few = omega arith; going = goes_behind_wire up down wired.wire target end up (λ c. 0) 0 (laws.wire_goes target up end legal) }

  wire_stirs : (up down : Port) → IsWired up down → StirsAbove up down end
  wire_stirs up down wired = wire_stays up down wired.wire (λ p. StirsAbove up p end) (λ c h is. is)

  wire_still : (top up down : Port) → IsWired up down → PassesWhileStill (record { hold = 0; kept = 0 }) top up down end
  wire_still top up down wired =
      let passes = on_while_still top (wire_passes up end) in
      wire_stays up down wired.wire (λ p. PassesWhileStill (record { hold = 0; kept = 0 }) top up p end) (record { beats = passes.beats; words = passes.words })

  -- next to the route
  pub record High (top middle : Port) : Type 0 where
    pub carries : Carries target top middle end
    pub goes : WhenSettled target top middle end (Goes 0 target top middle end)
    pub stirs_so : StirsAbove top middle end
    pub passes : PassesWhileStill (record { hold = 0; kept = 0 }) top top middle end

  high_of : (top middle : Port) → CutsBursts top middle → High top middle
  high_of top middle (cutter reach longest state plan run) = record {
    carries = carries_of (laws.links.cut target reach longest top middle state end plan run);
    goes = λ legal owed alike. ranked 0 (laws.cut_goes target reach longest top middle state end plan run legal owed alike);
    stirs_so = laws.cut_stirs reach longest top middle state run end;
    passes = laws.cut_passes reach longest top top middle state run end;
  }
  high_of top middle (no_cutter wired) = record {
    carries = wire_carries top middle wired;
    goes = λ legal owed alike. wire_goes 0 top middle wired legal;
    stirs_so = wire_stirs top middle wired;
    passes = wire_still top top middle wired;
  }

  -- below it
  pub record Mid (top middle low : Port) : Type 0 where
    pub carries : Carries target middle low end
    pub goes : WhenSettled target middle low end (Goes 1 target middle low end)
    pub spent : AreLegalAt middle end → AnswersAreOwed low end → SpentStirs middle low end
    pub passes : StirsAbove top middle end → PassesWhileStill (record { hold = 0; kept = 0 }) top middle low end

  larger : {up down : Port} → Goes 0 target up down end → Goes 1 target up down end
  larger goes = record { standing = goes.standing; few = (let few = goes.few in omega (arith, few)); going = goes.going }

  mid_of : (top middle low : Port) (fits : FitsWords target middle low) → Suits fits end → Mid top middle low
  mid_of top middle low (selector many room offsets plan deep run) fit = record {
    carries = carries_of (laws.links.select target middle low many room offsets end plan deep run fit);
    goes = λ legal owed alike. larger (ranked 0 (laws.select_goes target middle low many room offsets end plan deep run fit legal owed alike));
    spent = λ legal owed. laws.above middle low end (laws.select_stirs room middle low offsets run end);
    passes = λ above. laws.select_passes target top middle low many room offsets plan deep run end;
  }
  mid_of top middle low (gatherer many room state plan deep run) lie = record {
    carries = carries_of (laws.links.gather target middle low many room state end plan deep run lie);
    goes = λ legal owed alike. larger (ranked 0 (laws.gather_goes target middle low many room state end plan deep run lie legal owed alike));
    spent = λ legal owed. laws.gather_spent target middle low many room state plan run end;
    passes = λ above. laws.gather_passes target top middle low many room state plan run end above;
  }
  mid_of top middle low (splitter count room state may some run) fit = record {
    carries = carries_of (laws.links.split target room count middle low state end may some run);
    goes = λ legal owed alike. ranked 1 (laws.split_goes target room count middle low state end may some run legal owed alike);
    spent = λ legal owed. laws.split_spent room middle low state run end legal owed;
    passes = λ above. laws.split_passes room top middle low state run end above;
  }
  mid_of top middle low (no_width wired) fit = record {
    carries = wire_carries middle low wired;
    goes = λ legal owed alike. wire_goes 1 middle low wired legal;
    spent = λ legal owed. laws.above middle low end (wire_stirs middle low wired);
    passes = λ above. wire_still top middle low wired;
  }

  -- before the arbiter
  pub record Low (top low down : Port) : Type 0 where
    pub goes : WhenSettled target low down end (Goes 1 target low down end)
    pub passes : SpentStirs top low end → PassesWhileStill (record { hold = 1; kept = 0 }) top low down end

  one_more : {top up down : Port} → PassesWhileStill (record { hold = 0; kept = 0 }) top up down end → PassesWhileStill (record { hold = 1; kept = 0 }) top up down end
  one_more passes = record { beats = λ from size h still. (let few = passes.beats from size h still in omega (arith, few)); words = λ from size h still. passes.words from size h still }

  low_of : (top low down : Port) → DropsBeats target low down → Low top low down
  low_of top low down (dropper room state plan some run) = record {
    goes = λ legal owed alike. ranked 1 (laws.drop_goes target room low down state end plan some run legal owed alike);
    passes = λ spent. laws.drop_passes room top low down state run end spent;
  }
  low_of top low down (no_dropper wired) = record { goes = λ legal owed alike. wire_goes 1 low down wired legal; passes = λ spent. one_more (wire_still top low down wired) }

  module _ (top middle low down : Port) (high : Goes 0 target top middle end) (mid : Goes 1 target middle low end) (lowest : Goes 1 target low down end) (high_passes : PassesWhileStill (record { hold = 0; kept = 0 }) top top middle end)
      (mid_passes : PassesWhileStill (record { hold = 0; kept = 0 }) top middle low end) (low_passes : PassesWhileStill (record { hold = 1; kept = 0 }) top low down end) where
    abbrev standings : ℕ → Standing
    standings = by_number lowest.standing mid.standing high.standing

    modest : IsModestRow target 3 (ports_of_three down low middle top) standings one_beat_lowest end
    modest = record {
      going = goes;
      pass = passes;
      few = omega arith;
      first = λ some. record { hold = omega arith; kept = omega arith; rank = lowest.few };
      second = λ some. record { hold = omega arith; kept = omega arith; rank = mid.few };
      third = λ some. record { hold = omega arith; kept = omega arith; rank = high.few };
    }
      where
        goes : (i : ℕ) → i < 3 → KeepsGoing target (ports_of_three down low middle top (suc i)) (ports_of_three down low middle top i) (standings i).rank (standings i).largest end
        goes zero h = lowest.going
        goes (suc zero) h = mid.going
        goes (suc (suc zero)) h = high.going
        goes (suc (suc (suc i))) h = absurd (omega (arith, h))

        passes : (i : ℕ) → i < 3 → PassesWhileStill (one_beat_lowest i) top (ports_of_three down low middle top (suc i)) (ports_of_three down low middle top i) end
        passes zero h = low_passes
        passes (suc zero) h = mid_passes
        passes (suc (suc zero)) h = high_passes
        passes (suc (suc (suc i))) h = absurd (omega (arith, h))

low_carries : (laws : Laws) (target : Target) (low down : Port) → DropsBeats target low down → (c : ℕ) → JoinsAlike target low c → Carries target low down c
low_carries laws target low down (dropper room state plan some run) c alike = carries_of (laws.links.drop target room low down state c plan some run alike)
low_carries laws target low down (no_dropper wired) c alike = wire_carries laws target c low down wired

pub row_is_modest : Laws → (target : Target) (top middle low down : Port) (end : ℕ) (cuts : CutsBursts top middle) (fits : FitsWords target middle low) → DropsBeats target low down → GathersBelowCut cuts fits →
    EnablesFit top end → AreLegalAt top end → AnswersAreOwed down end → JoinsAlike target top end → (standing : ℕ → Standing) × IsModestRow target 3 (ports_of_three down low middle top) standing one_beat_lowest end
row_is_modest laws target top middle low down end cuts fits drops gathers enables legal owed alike =
    let high = high_of laws target end top middle cuts in
    let mid = mid_of laws target end top middle low fits (suits_below laws.links.lie end cuts fits gathers enables legal) in
    let lowest = low_of laws target end top low down drops in
    let between = settled target top middle low down end legal owed alike high.carries mid.carries (low_carries laws target low down drops) end (le_refl end) in
    let high_goes = high.goes legal between.owed_middle alike in
    let mid_goes = mid.goes between.legal_middle between.owed_low between.alike_middle in
    let low_goes = lowest.goes between.legal_low owed between.alike_low in (
      standings laws target end top middle low down high_goes mid_goes low_goes high.passes (mid.passes high.stirs_so) (lowest.passes (laws.further top middle low end high.stirs_so (mid.spent between.legal_middle between.owed_low))),
      modest laws target end top middle low down high_goes mid_goes low_goes high.passes (mid.passes high.stirs_so) (lowest.passes (laws.further top middle low end high.stirs_so (mid.spent between.legal_middle between.owed_low))),
    )
