use Rattle.std.proofs.Common.{arith}
use Rattle.net_parts.specs.Laws.{adds_fewer, grows_once, if_ok}
use Rattle.net_parts.specs.Nets.{IsBit}
use Rattle.mm_route.proofs.gate.owes_here.Goals as goal

pub returns-clause-adds : goal.returns-clause-adds
returns-clause-adds c = adds_fewer _ _ _ _ (omega arith) (grows_once _ _ c.eq.ensures.extends c.eq.ensures.grows)

pub returns-clause-full : goal.returns-clause-full
returns-clause-full c e = let full = c.eq.ensures.full.0 e in omega (arith, full)

pub returns-clause-net : goal.returns-clause-net
returns-clause-net c = if_ok c.eq.result _ (IsBit c.eq.new.self) (λ same net. record { is_net = net.0; has_width = net.1 }) c.eq.ensures.net
