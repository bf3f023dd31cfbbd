use Rattle.routed_runs.proofs.machines.multiplexer_multiplexes.Goals as goal
use Rattle.routed_runs.proofs.machines.MultiplexerLaw

pub returns : goal.returns
returns c = λ mux run turns count is legal. MultiplexerLaw.multiplexed mux run turns is count legal
