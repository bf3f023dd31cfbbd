use Rattle.net_parts.specs.Laws.{adds_fewer, grows_once, adds_none}
use Rattle.std.proofs.Common.{arith}
use Rattle.mm_host.proofs.fields.given_or.Goals as goal

pub returns-in-Some-clause-adds : goal.returns-in-Some-clause-adds
returns-in-Some-clause-adds c = adds_fewer _ _ _ _ (omega arith) (adds_none _)

pub returns-in-None-clause-adds : goal.returns-in-None-clause-adds
returns-in-None-clause-adds c = grows_once _ _ c.constant.ensures.extends c.constant.ensures.grows

pub returns-in-None-clause-full : goal.returns-in-None-clause-full
returns-in-None-clause-full c e = let full = c.constant.ensures.full.0 e in omega (arith, full)
