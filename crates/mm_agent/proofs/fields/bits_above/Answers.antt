use Rattle.std.proofs.Common.{arith, ◌∙◌}
use Rattle.net_parts.specs.Laws.{adds_fewer, grows_once, if_ok}
use Rattle.net_parts.specs.Nets.{IsNetOfWidth}
use Rattle.mm_agent.proofs.fields.bits_above.Goals as goal

pub returns-clause-adds : goal.returns-clause-adds
returns-clause-adds c = adds_fewer _ _ _ _ (omega arith) (grows_once _ _ c.slice.ensures.extends c.slice.ensures.grows)

pub returns-clause-full : goal.returns-clause-full
returns-clause-full c e = let full = c.slice.ensures.full.0 e in omega (arith, full)

pub returns-clause-net : goal.returns-clause-net
returns-clause-net c = if_ok c.slice.result _ (λ made. IsNetOfWidth c.slice.new.self made c.args.bits) (λ made net. record { is_net = net.0; has_width = net.1 ∙ omega arith }) c.slice.ensures.net

pub slice-requires-clause-a_is : goal.slice-requires-clause-a_is
slice-requires-clause-a_is c = c.requires.net
