use Rattle.memory_runs.proofs.Together.{together_by_place}
use Rattle.memory_runs.proofs.together_by_place.Goals as goal

pub returns : goal.returns
returns c = λ owners i j k owner between other together place same.
    together_by_place owners i j k owner between other together place.before place.behind place.first place.second place.third same
