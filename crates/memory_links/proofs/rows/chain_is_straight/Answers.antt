use Rattle.memory_links.proofs.InStep.{straight_chain, step_chain}
use Rattle.memory_links.proofs.rows.chain_is_straight.Goals as goal

pub returns-clause-straight : goal.returns-clause-straight
returns-clause-straight c = λ ahead first second up middle down end same above below legal owed step one two. straight_chain first second up middle down end same above below legal owed ahead step one two

pub returns-clause-step : goal.returns-clause-step
returns-clause-step c = λ ahead first second up middle down end same above below legal owed step one as_up. step_chain first second up middle down end same above below legal owed ahead step one as_up
