-- A row of links runs: the registers that are told together are those that each link's recursion tells.
use Rattle.std.proofs.Common.{◌≡◌, ℕ, zero, suc, ◌<◌, Bool, true, false, List, arith, refl, ap, subst}
use Rattle.std.proofs.Math.Path.{fun_ext}
use Rattle.memory_runs.specs.Views.{Shape}
use Rattle.memory_machines.specs.Link.{Target, Port}
use Rattle.memory_links.specs.Cutters.{Reach, RunsAsCutter}
use Rattle.memory_links.specs.Drops.{RunsAsDrop}
use Rattle.memory_links.specs.Gathers.{RunsAsGather}
use Rattle.memory_links.specs.DrivenGather.{GatherInputs, GatherRegisters, gather_step, gather_registers, gather_above, gather_below, gather_state, gather_above_with, gather_below_with, gather_state_with}
use Rattle.memory_links.specs.Selects.{RunsAsSelect}
use Rattle.memory_links.specs.Splits.{RunsAsSplit}
use Rattle.memory_links.specs.Driven.{Inputs, SelectInputs, SplitInputs, CutInputs, DropInputs, SplitRegisters, CutRegisters, DropRegisters}
use Rattle.memory_links.specs.Driven.{select_step, select_queue, select_above, select_below, select_above_with, select_below_with, split_step, split_registers, split_above, split_below, split_state, split_above_with, split_below_with, split_state_with}
use Rattle.memory_links.specs.Driven.{cut_step, cut_registers, cut_above, cut_below, cut_state, cut_above_with, cut_below_with, cut_state_with}
use Rattle.memory_links.specs.Driven.{drop_step, drop_registers, drop_above, drop_below, drop_state, drop_above_with, drop_below_with, drop_state_with}
use Rattle.memory_awake.specs.Rows.{IsWired, CutsBursts, FitsWords, DropsBeats, CutsBursts.cutter, CutsBursts.no_cutter, FitsWords.selector, FitsWords.splitter, FitsWords.gatherer, FitsWords.no_width, DropsBeats.dropper, DropsBeats.no_dropper, GathersBelowCut, drops_some}
use Rattle.memory_awake.specs.RowRun.{Cutter, Fitter, RowPlan, SuitsWire, SuitsCutter, SuitsFitter, SuitsDropper, Cutter.Uncut, Cutter.Cuts, Fitter.Unfitted, Fitter.Selects, Fitter.Splits, Fitter.Gathers, SuitsGathering}
use Rattle.memory_awake.specs.RowRun.{row_registers, row_top, row_middle, row_low, row_bottom, cut_shown, fit_shown, drop_shown, cuts_given, selects_given, splits_given, gathers_given, drops_given}

pub record Links : Type 0 where
  pub cut : (given : CutInputs) → RunsAsCutter given.reach given.longest (cut_above given) (cut_below given) (cut_state given)
  pub select : (given : SelectInputs) → RunsAsSelect given.room (select_above given) (select_below given) (select_queue given)
  pub gather : (given : GatherInputs) → RunsAsGather given.room (gather_above given) (gather_below given) (gather_state given)
  pub split : (given : SplitInputs) → RunsAsSplit given.room (split_above given) (split_below given) (split_state given)
  pub drop : (given : DropInputs) → RunsAsDrop given.room (drop_above given) (drop_below given) (drop_state given)

abbrev with_shape : Port → Shape → Port
with_shape port shape = record port { shape = shape }

-- a wire between boundaries of one shape, but for the longest burst
pub wire : (port : Port) (up down : Shape) → SuitsWire up down → IsWired (with_shape port up) (with_shape port down)
wire port up down suits = record { wire = record { same = ap (with_shape port) suits.0; longer = suits.1 }; some = suits.2 }

module _ (links : Links) (inputs : Inputs) where
  -- ---- the cutter

  abbrev cut_plan : Cutter → RowPlan → RowPlan
  cut_plan kind rest = record rest { cutter = kind }

  abbrev cut_inputs : RowPlan → Inputs
  cut_inputs plan = cut_shown plan inputs (row_registers plan inputs)

  same_cuts : (reach : Reach) (longest bits : ℕ) (rest : RowPlan) (c : ℕ) →
      let plan = cut_plan (Cuts reach longest bits) rest in cut_registers (cuts_given plan reach longest (cut_inputs plan)) c ≡ (row_registers plan inputs c).cut
  same_cuts reach longest bits rest zero = refl
  same_cuts reach longest bits rest (suc c) =
      let plan = cut_plan (Cuts reach longest bits) rest in ap (λ (now : CutRegisters). cut_step (cuts_given plan reach longest (cut_inputs plan)) now c) (same_cuts reach longest bits rest c)

  pub cuts_run : (kind : Cutter) (rest : RowPlan) → SuitsCutter kind rest.top rest.middle →
      let plan = cut_plan kind rest in CutsBursts (row_top plan inputs (row_registers plan inputs)) (row_middle plan inputs (row_registers plan inputs))
  cuts_run Uncut rest suits = let plan = cut_plan Uncut rest in no_cutter (wire (row_middle plan inputs (row_registers plan inputs)) rest.top rest.middle suits)
  cuts_run (Cuts reach longest bits) rest suits =
      let plan = cut_plan (Cuts reach longest bits) rest in
      let given = cuts_given plan reach longest (cut_inputs plan) in
      cutter reach longest (cut_state_with given (λ c. (row_registers plan inputs c).cut)) suits
      (subst (λ (r : ℕ → CutRegisters). RunsAsCutter reach longest (cut_above_with given r) (cut_below_with given r) (cut_state_with given r)) (fun_ext (same_cuts reach longest bits rest)) (links.cut given))

  -- ---- what fits words

  abbrev fit_plan : Fitter → RowPlan → RowPlan
  fit_plan fitter rest = record rest { fitter = fitter }

  abbrev fit_inputs : RowPlan → Inputs
  fit_inputs plan = fit_shown plan inputs (row_registers plan inputs)

  same_offsets : (rest : RowPlan) (c : ℕ) → let plan = fit_plan Selects rest in select_queue (selects_given plan (fit_inputs plan)) c ≡ (row_registers plan inputs c).offsets
  same_offsets rest zero = refl
  same_offsets rest (suc c) = let plan = fit_plan Selects rest in ap (λ (now : List ℕ). select_step (selects_given plan (fit_inputs plan)) now c) (same_offsets rest c)

  same_pieces : (rest : RowPlan) (c : ℕ) → let plan = fit_plan Splits rest in split_registers (splits_given plan (fit_inputs plan)) c ≡ (row_registers plan inputs c).split
  same_pieces rest zero = refl
  same_pieces rest (suc c) = let plan = fit_plan Splits rest in ap (λ (now : SplitRegisters). split_step (splits_given plan (fit_inputs plan)) now c) (same_pieces rest c)

  same_entries : (many : ℕ) (rest : RowPlan) (c : ℕ) → let plan = fit_plan (Gathers many) rest in gather_registers (gathers_given plan (fit_inputs plan)) c ≡ (row_registers plan inputs c).gather
  same_entries many rest zero = refl
  same_entries many rest (suc c) =
      let plan = fit_plan (Gathers many) rest in ap (λ (now : GatherRegisters). gather_step (gathers_given plan (fit_inputs plan)) now c) (same_entries many rest c)

  pub fits_run : (fitter : Fitter) (rest : RowPlan) (target : Target) → SuitsFitter fitter target rest.middle rest.low → 1 < rest.room →
      let plan = fit_plan fitter rest in FitsWords target (row_middle plan inputs (row_registers plan inputs)) (row_low plan inputs (row_registers plan inputs))
  fits_run Unfitted rest target suits room = let plan = fit_plan Unfitted rest in no_width (wire (row_low plan inputs (row_registers plan inputs)) rest.middle rest.low suits)
  fits_run Selects rest target suits room =
      let plan = fit_plan Selects rest in
      let given = selects_given plan (fit_inputs plan) in
      selector suits.0 rest.room (λ c. (row_registers plan inputs c).offsets) suits.1 room
      (subst (λ (r : ℕ → List ℕ). RunsAsSelect rest.room (select_above_with given r) (select_below_with given r) r) (fun_ext (same_offsets rest)) (links.select given))
  fits_run Splits rest target suits room =
      let plan = fit_plan Splits rest in
      let given = splits_given plan (fit_inputs plan) in
      splitter suits.0 rest.room (split_state_with (λ c. (row_registers plan inputs c).split)) suits.1 (omega (arith, room))
      (subst (λ (r : ℕ → SplitRegisters). RunsAsSplit rest.room (split_above_with given r) (split_below_with given r) (split_state_with r)) (fun_ext (same_pieces rest)) (links.split given))
  fits_run (Gathers many) rest target suits room =
      let plan = fit_plan (Gathers many) rest in
      let given = gathers_given plan (fit_inputs plan) in
      gatherer many rest.room (gather_state_with (λ c. (row_registers plan inputs c).gather)) suits room
      (subst (λ (r : ℕ → GatherRegisters). RunsAsGather rest.room (gather_above_with given r) (gather_below_with given r) (gather_state_with r)) (fun_ext (same_entries many rest)) (links.gather given))

  -- what gathers stands below such a cutter
  pub gathers_run : (kind : Cutter) (fitter : Fitter) (rest : RowPlan) (target : Target) (cuts : SuitsCutter kind rest.top rest.middle) (fits : SuitsFitter fitter target rest.middle rest.low) (room : 1 < rest.room) →
      SuitsGathering kind fitter rest.top rest.middle → GathersBelowCut (cuts_run kind (fit_plan fitter rest) cuts) (fits_run fitter (cut_plan kind rest) target fits room)
  unfolding cuts_run fits_run
  gathers_run kind Unfitted rest target cuts fits room gathering = tt
  gathers_run kind Selects rest target cuts fits room gathering = tt
  gathers_run kind Splits rest target cuts fits room gathering = tt
  gathers_run Uncut (Gathers many) rest target cuts fits room gathering = gathering
  gathers_run (Cuts reach longest bits) (Gathers many) rest target cuts fits room gathering = gathering

  -- ---- what drops beats

  abbrev drop_plan : Bool → RowPlan → RowPlan
  drop_plan drops rest = record rest { drops = drops }

  abbrev drop_inputs : RowPlan → Inputs
  drop_inputs plan = drop_shown plan inputs (row_registers plan inputs)

  same_kept : (rest : RowPlan) (c : ℕ) → let plan = drop_plan true rest in drop_registers (drops_given plan (drop_inputs plan)) c ≡ (row_registers plan inputs c).drop
  same_kept rest zero = refl
  same_kept rest (suc c) = let plan = drop_plan true rest in ap (λ (now : DropRegisters). drop_step (drops_given plan (drop_inputs plan)) now c) (same_kept rest c)

  pub drops_run : (drops : Bool) (rest : RowPlan) (target : Target) → SuitsDropper drops target rest.low rest.bottom → 1 < rest.room →
      let plan = drop_plan drops rest in DropsBeats target (row_low plan inputs (row_registers plan inputs)) (row_bottom plan inputs (row_registers plan inputs))
  drops_run false rest target suits room = let plan = drop_plan false rest in no_dropper (wire (row_bottom plan inputs (row_registers plan inputs)) rest.low rest.bottom suits)
  drops_run true rest target suits room =
      let plan = drop_plan true rest in
      let given = drops_given plan (drop_inputs plan) in
      dropper rest.room (drop_state_with (λ c. (row_registers plan inputs c).drop)) suits (omega (arith, room))
      (subst (λ (r : ℕ → DropRegisters). RunsAsDrop rest.room (drop_above_with given r) (drop_below_with given r) (drop_state_with r)) (fun_ext (same_kept rest)) (links.drop given))

  pub drops_some_are : (drops : Bool) (rest : RowPlan) (target : Target) (suits : SuitsDropper drops target rest.low rest.bottom) (room : 1 < rest.room) → drops_some (drops_run drops rest target suits room) ≡ drops
  unfolding drops_run
  drops_some_are false rest target suits room = refl
  drops_some_are true rest target suits room = refl
