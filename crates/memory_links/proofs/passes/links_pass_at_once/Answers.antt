use Rattle.memory_links.specs.Cutters.{is_sending}
use Rattle.memory_links.proofs.Handing.{select_passes, cutter_passes, split_passes}
use Rattle.memory_links.proofs.passes.links_pass_at_once.Goals as goal

pub returns-clause-select : goal.returns-clause-select
returns-clause-select c = λ target up down many room offsets plan deep run end. select_passes room up down offsets run end

pub returns-clause-cut : goal.returns-clause-cut
returns-clause-cut c = λ reach longest up down state run end. cutter_passes up down (is_sending state) run.accepts run.valid end

pub returns-clause-split : goal.returns-clause-split
returns-clause-split c = λ target room count up down state may run end legal act. split_passes c.beat_is_pieces.ensures target room count up down state may run end legal act
