use Rattle.st_windows.proofs.ClearWindow.{clear_law}
use Rattle.st_windows.proofs.laws.window_sends_clear_beats.Goals as goal

pub returns : goal.returns
returns c = clear_law
