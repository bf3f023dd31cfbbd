use Rattle.workload_systems.proofs.Writing.{enables_none, enables_some, written_none, written_one}
use Rattle.std.proofs.Common.{◌∙◌, ap, ◌++◌, List, ℕ}
use Rattle.std.specs.Prelude.{codes}
use Rattle.workload_systems.specs.Texts.{line_text}
use Rattle.workload_systems.specs.Components.{port}
use Rattle.workload_systems.proofs.components.put_enables.Goals as goal

pub returns-then-exponent-eq0 : goal.returns-then-exponent-eq0
returns-then-exponent-eq0 c = written_none _ _ (enables_none c.args.interface.now c.args.direction.now c.args.exponent c.if-exponent-eq0.true)

pub returns : goal.returns
returns c =
    let P : List ℕ → List ℕ = λ lanes. c.args.text.now ++ line_text (port c.args.interface.now (codes "byteenable") c.args.direction.now lanes) in
    written_one _ _ _ _ (enables_some c.args.interface.now c.args.direction.now c.args.exponent c.if-exponent-eq0.false) (c.in_ok-put_port.ensures ∙ ap P c.one_of-lanes.ensures)
