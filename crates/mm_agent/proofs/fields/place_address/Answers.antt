use Rattle.mm_agent.proofs.Levels.{no_address}
use Rattle.mm_agent.proofs.fields.place_address.Goals as goal

pub returns-then-port-eq0-clause-value : goal.returns-then-port-eq0-clause-value
returns-then-port-eq0-clause-value c cycle v = no_address _ _ c.requires.port.ports.word.exponent _ _ c.if-port-eq0.true c.requires.port.ports.word.power
