use Rattle.memory_links.proofs.CutShown.{fit_below}
use Rattle.memory_links.proofs.bursts.cut_shows_fit_beats.Goals as goal

pub returns : goal.returns
returns c = λ reach longest up down state end plan run fit. fit_below reach longest up down state plan run end fit
