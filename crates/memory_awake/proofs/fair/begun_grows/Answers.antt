use Rattle.memory_awake.proofs.FairBegun.{begun_extends}
use Rattle.memory_awake.proofs.fair.begun_grows.Goals as goal

pub returns : goal.returns
returns c = λ system run agent end serves joined k d low fit.
    begun_extends system run agent end serves joined (λ h i j less. c.histories_grow.ensures.issued system run h agent i j less) (λ i j less. c.histories_grow.ensures.taken system run agent i j less) k d low fit
