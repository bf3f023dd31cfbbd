use Rattle.std.proofs.Common.{◌<◌, ◌^◌, subst, sym}
use Rattle.benches.specs.Outputs.{IsOutputIf, IsOutputWithin}
use Rattle.benches.proofs.parts.Widths.{within}
use Rattle.benches.proofs.parts.outputs.level_at.Goals as goal

pub returns-in-Some-clause-fits : goal.returns-in-Some-clause-fits
returns-in-Some-clause-fits c = λ most few _.
    let there : IsOutputWithin c.args.sim.now.netlist most c.in-Some.port = subst (IsOutputIf c.args.sim.now.netlist most) c.in-Some.is few in
    subst (λ bits. bits < 2 ^ most) (sym c.bits.ensures.value) (within c.args.sim.now.netlist c.in-Some.port _ most _ c.output.ensures.width there c.bits.ensures.word.fits)
