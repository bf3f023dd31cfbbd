use Rattle.mm_fabric.proofs.FabricViews.{views}
use Rattle.mm_fabric.proofs.served.fabrics_show_views.Goals as goal

pub returns : goal.returns
returns c = λ plan netlist fabric is longer extends run endless end. views plan netlist fabric is longer extends run endless end
