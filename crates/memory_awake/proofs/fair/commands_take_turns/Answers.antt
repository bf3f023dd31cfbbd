use Rattle.std.proofs.Common.{arith}
use Rattle.memory_awake.proofs.Building.{end_words}
use Rattle.memory_awake.proofs.FairPipe.{down_the_pipe}
use Rattle.memory_awake.proofs.FairWrites.{all_plain}
use Rattle.memory_awake.proofs.FairWindow.{among}
use Rattle.memory_runs.specs.Awake.{begun_within}
use Rattle.memory_awake.proofs.fair.commands_take_turns.Goals as goal

pub returns : goal.returns
returns c = λ responses system run inside states ranks end agent built legal there hands from size fit writes finished.
    let parts = c.machines_keep_their_records.ensures.parts responses system run inside states ranks end built legal in
    c.plain_writers_take_full_turns.ensures responses system run inside states ranks end agent from size (begun_within system run agent from size) built legal there hands fit writes finished
    (among system run agent (λ h. inside.upper h agent 0) (inside.lower agent 0) (inside.lower agent system.stages) from size end fit
    (c.commands_begin_by_turns.ensures responses system run inside states ranks end agent built legal there) (parts.arbiter agent there) (built.plan.joined agent) (λ h low. end_words built.machines h agent low there)
    (all_plain system run inside agent from size end fit hands
    (λ h k joined low shown. let here = built.plan.joined agent h joined in
    c.plain_writes_go_on.ensures.route system run h agent (inside.after_host h) (λ a. inside.upper h a (inside.links h a)) end there (parts.host h here) (parts.route h here) k low shown) writes finished)
    (down_the_pipe (λ i. (inside.lower agent i).port) system.stages end 0 from (omega (arith, fit)) (λ i low. parts.stage agent i there low)))
