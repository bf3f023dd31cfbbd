use Rattle.netlist.proofs.Growth.{net_read}
use Rattle.netlist.proofs.builder.Builder.width.Goals as goal

pub returns-clause-value : goal.returns-clause-value
returns-clause-value c = (net_read _ c.args.self.now c.number.result c.args.net.number c.args.net.width c.index.result.now c.self.view_is c.self.invariant c.number.ensures c.requires c.index.ensures).width

pub returns-clause-bounds : goal.returns-clause-bounds
returns-clause-bounds c = (net_read _ c.args.self.now c.number.result c.args.net.number c.args.net.width c.index.result.now c.self.view_is c.self.invariant c.number.ensures c.requires c.index.ensures).bounds
