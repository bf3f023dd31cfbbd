use Rattle.std.proofs.Common.{inl, inr}
use Rattle.std.proofs.Math.Nat.{le_trans}
use Rattle.link_core.proofs.Between.{chain_between, row_between, asks_between}
use Rattle.link_core.proofs.StraightChain.{straight_between}
use Rattle.link_core.proofs.chain.ChainLink.law.Goals as goal

pub returns-clause-keeps : goal.returns-clause-keeps
returns-clause-keeps g c form from to kept wait up answer back netlist p f b run endless end asked =
    let asks = asks_between p.first p.second form run from f.middle up b.wait back b.answer (g.A.Link.asks c.args.self.now.first) (g.B.Link.asks c.args.self.now.second) (g.A.Link.runs c.args.self.now.first) p.is p.fit
    (c.law.ensures.machine p.first from f.middle kept.0 b.wait up b.answer back netlist p.first_has f.first b.first run endless) end asked in
    chain_between p.first p.second form run from f.middle to up b.wait wait back b.answer answer p.is p.fit end c.chain_is_a_link.ensures
    (λ k low. c.law.ensures.keeps p.first from f.middle kept.0 b.wait up b.answer back netlist p.first_has f.first b.first run endless k (λ j less. asks.above j (le_trans less low)))
    (λ k low. c.law-2.ensures.keeps p.second f.middle to kept.1 wait b.wait answer b.answer netlist p.second_has f.second b.second run endless k (λ j less. asks.inside j (le_trans less low)))

pub returns-clause-machine : goal.returns-clause-machine
returns-clause-machine g c form from to kept wait up answer back netlist p f b run endless =
    row_between p.first p.second form run from f.middle to up b.wait wait back b.answer answer (g.A.Link.runs c.args.self.now.first) (g.B.Link.runs c.args.self.now.second) p.is p.fit
    (c.law.ensures.machine p.first from f.middle kept.0 b.wait up b.answer back netlist p.first_has f.first b.first run endless)
    (c.law-2.ensures.machine p.second f.middle to kept.1 wait b.wait answer b.answer netlist p.second_has f.second b.second run endless)

pub returns-clause-ignores_answer : goal.returns-clause-ignores_answer
returns-clause-ignores_answer g c from to kept netlist f one other v w state words same =
    c.law-2.ensures.ignores_answer f.middle to kept.1 netlist f.second one other v w (λ n o. state n (inr o)) (λ m memory o. words m memory (inr o))
    (c.law.ensures.ignores_answer from f.middle kept.0 netlist f.first one other v w (λ n o. state n (inl o)) (λ m memory o. words m memory (inl o)) same)

pub returns-clause-straight : goal.returns-clause-straight
returns-clause-straight g c form from to kept wait up answer back netlist p f b run endless end asked =
    let asks = asks_between p.chain.first p.chain.second form run from f.middle up b.wait back b.answer (g.A.Link.asks c.args.self.now.first) (g.B.Link.asks c.args.self.now.second) (g.A.Link.runs c.args.self.now.first) p.chain.is p.chain.fit
    (c.law.ensures.machine p.chain.first from f.middle kept.0 b.wait up b.answer back netlist p.chain.first_has.0 f.first b.first run endless) end asked in
    straight_between (record { chain = c.chain_is_a_link.ensures; straight = c.chain_is_straight.ensures.straight; step = c.chain_is_straight.ensures.step; acts = c.plain_commands_act.ensures }) form run from f.middle to up b.wait wait back b.answer answer _ _ p end
    (λ k low. c.law.ensures.keeps p.chain.first from f.middle kept.0 b.wait up b.answer back netlist p.chain.first_has.0 f.first b.first run endless k (λ j less. asks.above j (le_trans less low)))
    (λ k low. c.law-2.ensures.keeps p.chain.second f.middle to kept.1 wait b.wait answer b.answer netlist p.chain.second_has.0 f.second b.second run endless k (λ j less. asks.inside j (le_trans less low)))
    (c.law.ensures.straight p.chain.first from f.middle kept.0 b.wait up b.answer back netlist p.chain.first_has.1 f.first b.first run endless end asks.above)
    (c.law-2.ensures.straight p.chain.second f.middle to kept.1 wait b.wait answer b.answer netlist p.chain.second_has.1 f.second b.second run endless end asks.inside)
