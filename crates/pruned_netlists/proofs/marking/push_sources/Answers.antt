use Rattle.std.proofs.Common.{◌≡◌, ◌++◌, ap, sym, ◌∙◌}
use Rattle.netlist.specs.declared.line.Equation.{Equation}
use Rattle.pruned_netlists.specs.Needed.{sources}
use Rattle.pruned_netlists.proofs.Needs.{told_within, equation_told, on_ok}
use Rattle.pruned_netlists.proofs.marking.push_sources.Goals as goal

pub push_sources_of-requires : goal.push_sources_of-requires
push_sources_of-requires c = told_within c.args.module.now c.args.net c.equation.result c.well_made.ensures c.requires c.equation.ensures

pub returns : goal.returns
returns c = on_ok c.push_sources_of.result _ _
    (λ (e : c.push_sources_of.new.pending.items ≡ c.args.pending.now.items ++ sources c.args.module.now.memories c.equation.result). λ line at.
    e ∙ ap (λ (x : Equation). c.args.pending.now.items ++ sources c.args.module.now.memories x) (sym (equation_told c.args.module.now c.args.net c.equation.result c.equation.ensures line at))) c.push_sources_of.ensures
