use Rattle.routed_runs.proofs.machines.demultiplexer_demultiplexes.Goals as goal
use Rattle.routed_runs.proofs.machines.DemultiplexerLaw

pub returns : goal.returns
returns c = λ demux run count is some legal. DemultiplexerLaw.demultiplexed demux run is some count legal
