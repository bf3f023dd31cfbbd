use Rattle.std.proofs.Common.{◌≡◌, List, take, arith, rules, ap, ◌∙◌}
use Rattle.std.specs.Prelude.{flat_map}
use Rattle.std.proofs.lemmas.List.{take_all}
use Rattle.av_files.specs.Outside.{with_more}
use Rattle.benches.specs.Writing.{text_of}
use Rattle.benches.proofs.parts.Many.{with_nothing, one_more_told_at, part_told_at, rose_since}
use Rattle.benches.proofs.parts.all.tell_all.Goals as goal

pub components-init : goal.components-init
components-init g c = record { told = with_nothing (g.K.Sink.held c.args.sink.now); grows = omega arith; below = λ h. h }

pub returns-then-not-tell-clause-part : goal.returns-then-not-tell-clause-part
returns-then-not-tell-clause-part g c =
    let part = part_told_at (λ (it : g.row.C.Denot). g.C.Component.tells it c.args.sim.now c.args.cycle) c.args.components.now c.components.component-index c.component-item.result
    (g.K.Sink.held c.args.sink.now) (g.K.Sink.held c.components.sink) (g.K.Sink.held c.tell.new.sink) _ c.component-item.is c.components-test.true c.components.invariant.told
    c.if-not-tell.ensures.part (search rules) in
    search (rules, part)

pub returns-then-not-tell-clause-rose : goal.returns-then-not-tell-clause-rose
returns-then-not-tell-clause-rose g c = let rose = rose_since _ _ _ c.components.invariant.grows c.if-not-tell.ensures.rose in search (rules, rose)

pub returns-then-not-tell-clause-grows : goal.returns-then-not-tell-clause-grows
returns-then-not-tell-clause-grows g c = omega (arith, c.components.invariant.grows, c.tell.ensures.grows)

pub returns-then-not-tell-clause-below : goal.returns-then-not-tell-clause-below
returns-then-not-tell-clause-below g c = λ h. c.tell.ensures.below (c.components.invariant.below h)

pub components-preserved : goal.components-preserved
components-preserved g c = record {
  told = one_more_told_at (λ (it : g.row.C.Denot). g.C.Component.tells it c.args.sim.now c.args.cycle) c.args.components.now c.components.component-index c.component-item.result
      (g.K.Sink.held c.args.sink.now) (g.K.Sink.held c.components.sink) (g.K.Sink.held c.tell.new.sink) c.component-item.is c.components-test.true c.components.invariant.told
      (c.if-not-tell.ensures.all ∙ search rules);
  grows = omega (arith, c.components.invariant.grows, c.tell.ensures.grows);
  below = λ h. c.tell.ensures.below (c.components.invariant.below h);
}

pub returns-clause-all : goal.returns-clause-all
returns-clause-all g c =
    let all : take c.components.component-index c.args.components.now ≡ c.args.components.now = take_all c.components.component-index c.args.components.now (omega arith) in
    c.components.invariant.told
    ∙ ap (λ (xs : List g.row.C.Denot). with_more (g.K.Sink.held c.args.sink.now) (text_of (flat_map (λ (it : g.row.C.Denot). g.C.Component.tells it c.args.sim.now c.args.cycle) xs))) all

pub returns-clause-grows : goal.returns-clause-grows
returns-clause-grows g c = c.components.invariant.grows

pub returns-clause-below : goal.returns-clause-below
returns-clause-below g c = c.components.invariant.below
