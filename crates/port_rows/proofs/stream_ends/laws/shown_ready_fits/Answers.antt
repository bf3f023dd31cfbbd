use Rattle.port_rows.proofs.stream_ends.Fitting.{sink_fits}
use Rattle.port_rows.proofs.stream_ends.laws.shown_ready_fits.Goals as goal

pub returns : goal.returns
returns c = sink_fits
