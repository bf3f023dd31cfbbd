use Rattle.memory_awake.proofs.FairWrites.{goes_on, handed_down}
use Rattle.memory_awake.proofs.fair.plain_writes_go_on.Goals as goal

pub returns-clause-route : goal.returns-clause-route
returns-clause-route c = λ system run host agent middle down end there part route c fit shown. goes_on system run host agent middle down end there part route c fit shown

pub returns-clause-wire : goal.returns-clause-wire
returns-clause-wire c = λ target port end c fit at. at

pub returns-clause-row : goal.returns-clause-row
returns-clause-row c = λ target port links end hands k fit at. handed_down target port links end k fit hands at
