use Rattle.std.proofs.Common.{below_more, sym, ◌∙◌}
use Rattle.iface_roles.proofs.interface.Interface.first_broken.Goals as goal

pub loop-rule-preserved : goal.loop-rule-preserved
loop-rule-preserved c = below_more _ _ c.loop-rule.invariant (sym c.breaks.ensures ∙ c.if-breaks.false)
