use Rattle.std.proofs.Common.{◌≡◌, ◌<◌, ℕ, List, length, refl, sym, ap, subst, ◌∙◌, arith}
use Rattle.netlist.specs.Netlists.{Netlist}
use Rattle.cycle_sim.specs.Sims.{input_widths}
use Rattle.simulations.specs.Benches.{IsSetUp}
use Rattle.simulations.specs.Lanes.{value_in}
use Rattle.simulations.proofs.campaigns.Cycles.{asked}
use Rattle.simulations.proofs.campaigns.Many.{some_at, within}
use Rattle.simulations.proofs.campaigns.evaluated.evaluate.Goals as goal

pub answer-requires-clause-inputs : goal.answer-requires-clause-inputs
answer-requires-clause-inputs c = c.show.ensures.inputs ∙ c.requires.inputs ∙ ap (λ (n : Netlist). length (input_widths n.ports)) (sym c.show.ensures.netlist)

pub answer-requires-clause-asked : goal.answer-requires-clause-asked
answer-requires-clause-asked c = λ j lane at.
    let low = within c.show.new.benches j lane at in
    let before = some_at c.args.benches.now j (omega (arith, low, c.show.ensures.count, c.requires.count)) in
    asked (value_in c.args.lanes.now j before.0) (value_in c.show.new.lanes j lane) (c.requires.left j before.0 before.1) c.show.ensures.netlist (c.show.ensures.each j before.0 lane before.1 at)

pub returns-then-any_gives_at_once-clause-inputs : goal.returns-then-any_gives_at_once-clause-inputs
returns-then-any_gives_at_once-clause-inputs c = c.answer.ensures.inputs ∙ c.show.ensures.inputs

pub returns-then-any_gives_at_once-clause-netlist : goal.returns-then-any_gives_at_once-clause-netlist
returns-then-any_gives_at_once-clause-netlist c = c.answer.ensures.netlist ∙ c.show.ensures.netlist

pub returns-then-any_gives_at_once-clause-each : goal.returns-then-any_gives_at_once-clause-each
returns-then-any_gives_at_once-clause-each c = λ j before after at now. λ plan scenario run k set left way.
    let low = within c.args.benches.now j before at in
    let middle = some_at c.show.new.benches j (omega (arith, low, c.show.ensures.count, c.requires.count)) in
    c.answer.ensures.each j middle.0 after middle.1 now plan scenario run k (subst (IsSetUp plan scenario) (sym c.show.ensures.netlist) set) left (c.show.ensures.each j before middle.0 at middle.1 plan scenario run k set way)

pub returns-then-any_gives_at_once-clause-counts : goal.returns-then-any_gives_at_once-clause-counts
returns-then-any_gives_at_once-clause-counts c = λ j before after at now.
    let low = within c.args.benches.now j before at in
    let middle = some_at c.show.new.benches j (omega (arith, low, c.show.ensures.count, c.requires.count)) in
    c.answer.ensures.counts j middle.0 after middle.1 now ∙ c.show.ensures.counts j before middle.0 at middle.1

pub returns-else-any_gives_at_once-clause-each : goal.returns-else-any_gives_at_once-clause-each
returns-else-any_gives_at_once-clause-each c = λ j before after at now. λ plan scenario run k set left way.
    c.answers_are_evaluated.ensures.at_once plan scenario run k (value_in c.show.new.lanes j after) (subst (IsSetUp plan scenario) (sym c.show.ensures.netlist) set)
    (c.show.ensures.each j before after at now plan scenario run k set way) (c.if-any_gives_at_once.ensures refl j after now)

pub returns-else-any_gives_at_once-clause-counts : goal.returns-else-any_gives_at_once-clause-counts
returns-else-any_gives_at_once-clause-counts c = λ j before after at now. c.show.ensures.counts j before after at now
