use Rattle.memory_links.proofs.Gathering.{gather_gate}
use Rattle.memory_links.proofs.Shutting.{shut_fits}
use Rattle.memory_links.proofs.gathers.gather_shows_fit_beats.Goals as goal

pub returns : goal.returns
returns c = λ target up down many room state end plan run fit. shut_fits (gather_gate room up down state run) end fit
