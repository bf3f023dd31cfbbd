use Rattle.std.proofs.Common.{inl, inr, ◌∙◌}
use Rattle.stage_core.specs.Beats.{view_of}
use Rattle.stage_core.specs.Between.{chain_between, chain_ready_between}
use Rattle.stage_core.proofs.chain.ChainStage.law.Goals as goal

pub returns-clause-keeps : goal.returns-clause-keeps
returns-clause-keeps g c shape from to kept ready up netlist p f b run endless =
    chain_between p.first p.second shape (view_of run from up) (view_of run f.middle b.middle) (view_of run to ready) p.is p.fit
    (λ late. c.law.ensures.shown kept.0 b.middle up netlist (p.shown late) b.first run endless)
    (λ needs. c.law-2.ensures.ready p.second f.middle to kept.1 ready b.middle netlist (p.always_ready needs) f.second b.second run endless)
    (c.chain_is_a_stage.ensures.keeps p.first p.second)
    (c.law.ensures.keeps p.first from f.middle kept.0 b.middle up netlist p.first_has f.first b.first run endless)
    (c.law-2.ensures.keeps p.second f.middle to kept.1 ready b.middle netlist p.second_has f.second b.second run endless)

pub returns-clause-ready : goal.returns-clause-ready
returns-clause-ready g c shape from to kept ready up netlist p f b run endless =
    chain_ready_between p.first p.second shape (view_of run from up) (view_of run f.middle b.middle) (view_of run to ready) p.is p.fit
    (λ late. c.law.ensures.shown kept.0 b.middle up netlist (p.shown late) b.first run endless)
    (c.chain_is_a_stage.ensures.ready p.first p.second)
    (c.law.ensures.keeps p.first from f.middle kept.0 b.middle up netlist p.first_has.0 f.first b.first run endless)
    (c.law.ensures.ready p.first from f.middle kept.0 b.middle up netlist p.first_has.1 f.first b.first run endless)
    (c.law-2.ensures.ready p.second f.middle to kept.1 ready b.middle netlist p.second_has f.second b.second run endless)

pub returns-clause-shown : goal.returns-clause-shown
returns-clause-shown g c kept ready up netlist p b run endless n =
    c.law.ensures.shown kept.0 b.middle up netlist p.0 b.first run endless n ∙ c.law-2.ensures.shown kept.1 ready b.middle netlist p.1 b.second run endless n

pub returns-clause-ignores_ready : goal.returns-clause-ignores_ready
returns-clause-ignores_ready g c from to kept netlist f one other v w state words same =
    c.law-2.ensures.ignores_ready f.middle to kept.1 netlist f.second one other v w (λ n o. state n (inr o)) (λ m memory o. words m memory (inr o))
    (c.law.ensures.ignores_ready from f.middle kept.0 netlist f.first one other v w (λ n o. state n (inl o)) (λ m memory o. words m memory (inl o)) same)
