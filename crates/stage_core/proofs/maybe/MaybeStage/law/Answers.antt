use Rattle.std.proofs.Common.{subst}
use Rattle.stage_core.specs.MaybeNets.{shape_of, forward_of, backward_of}
use Rattle.stage_core.specs.Between.{pass_between, kept_ignores}
use Rattle.stage_core.proofs.maybe.MaybeStage.law.Goals as goal

pub returns-in-None-clause-keeps : goal.returns-in-None-clause-keeps
returns-in-None-clause-keeps g c shape from to kept ready up netlist p f b run endless =
    pass_between shape from to ready up run (subst (λ stage. shape_of g.S.Stage.has_shape stage shape) c.in-None.is p) (subst (λ stage. forward_of g.S.Stage.forward_in stage from to kept netlist) c.in-None.is f)
    (subst (λ stage. backward_of g.S.Stage.backward_in stage kept ready up netlist) c.in-None.is b) c.pass_is_a_stage.ensures.keeps

pub returns-in-Some-clause-ignores_ready : goal.returns-in-Some-clause-ignores_ready
returns-in-Some-clause-ignores_ready g c from to kept netlist f one other v w state words same =
    kept_ignores g.S.Stage.forward_in g.S.Stage.owns g.S.Stage.owns_memories c.in-Some.stage from to kept netlist one other (λ held before owned stored shown. c.law.ensures.ignores_ready from to held netlist before one other v w owned stored shown)
    (subst (λ stage. forward_of g.S.Stage.forward_in stage from to kept netlist) c.in-Some.is f) state words same
