use Rattle.std.proofs.Common.{suc, ◌≡◌, ◌+◌, ◌-◌, ◌||◌, arith, sym, ap, ◌∙◌}
use Rattle.std.specs.List.{list_any}
use Rattle.histories.specs.History.{numbers}
use Rattle.memory_runs.specs.Operations.{is_enabled}
use Rattle.memory_runs.proofs.plain.has_enabled.Goals as goal

pub loop-lane-init : goal.loop-lane-init
loop-lane-init c =
    let all : (c.args.first + c.args.count) - c.args.first ≡ c.args.count = omega arith in
    ap (λ n. list_any (is_enabled c.args.enables) (numbers c.args.first n)) all

pub returns-then-is_enabled : goal.returns-then-is_enabled
returns-then-is_enabled c =
    let k = (c.args.first + c.args.count) - (c.loop-lane.lane + 1) in
    let left : (c.args.first + c.args.count) - c.loop-lane.lane ≡ suc k = omega (arith, c.loop-lane-test.true) in
    sym (ap (λ n. list_any (is_enabled c.args.enables) (numbers c.loop-lane.lane n)) left
    ∙ ap (λ b. b || list_any (is_enabled c.args.enables) (numbers (suc c.loop-lane.lane) k)) (sym c.is_enabled.ensures ∙ c.if-is_enabled.true)) ∙ c.loop-lane.invariant

pub loop-lane-preserved : goal.loop-lane-preserved
loop-lane-preserved c =
    let k = (c.args.first + c.args.count) - (c.loop-lane.lane + 1) in
    let left : (c.args.first + c.args.count) - c.loop-lane.lane ≡ suc k = omega (arith, c.loop-lane-test.true) in
    let next : c.loop-lane.lane + 1 ≡ suc c.loop-lane.lane = omega arith in
    ap (λ x. list_any (is_enabled c.args.enables) (numbers x k)) next
    ∙ sym (ap (λ b. b || list_any (is_enabled c.args.enables) (numbers (suc c.loop-lane.lane) k)) (sym c.is_enabled.ensures ∙ c.if-is_enabled.false))
    ∙ ap (λ n. list_any (is_enabled c.args.enables) (numbers c.loop-lane.lane n)) (sym left) ∙ c.loop-lane.invariant

pub returns : goal.returns
returns c =
    let none : (c.args.first + c.args.count) - c.loop-lane.lane ≡ 0 = omega (arith, c.loop-lane-test.false) in
    ap (λ n. list_any (is_enabled c.args.enables) (numbers c.loop-lane.lane n)) (sym none) ∙ c.loop-lane.invariant
