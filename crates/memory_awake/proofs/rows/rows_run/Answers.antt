use Rattle.memory_awake.proofs.RowRuns.{Links, cuts_run, fits_run, gathers_run, drops_run}
use Rattle.memory_awake.proofs.rows.rows_run.Goals as goal

pub returns : goal.returns
returns c = λ plan inputs target suits.
    let links : Links = record { cut = c.cut_runs.ensures; select = c.select_runs.ensures; gather = c.gather_runs.ensures; split = c.split_runs.ensures; drop = c.drop_runs.ensures } in (
      cuts_run links inputs plan.cutter plan suits.cutter,
      fits_run links inputs plan.fitter plan target suits.fitter suits.room,
      drops_run links inputs plan.drops plan target suits.dropper suits.room,
      gathers_run links inputs plan.cutter plan.fitter plan target suits.cutter suits.fitter suits.room suits.gathering,
    )
