use Rattle.std.proofs.Common.{suc, ◌≡◌, ◌+◌, ◌-◌, ◌++◌, ◌||◌, arith, sym, ap, ◌∙◌, append-nil}
use Rattle.histories.specs.History.{numbers, only_if}
use Rattle.memory_runs.specs.Operations.{is_enabled}
use Rattle.memory_runs.specs.Values.{lanes_of}
use Rattle.memory_runs.proofs.Lanes.{lane_more}
use Rattle.memory_runs.proofs.plain.push_lanes.Goals as goal

pub loop-lane-init : goal.loop-lane-init
loop-lane-init c =
    let all : (c.args.first + c.args.count) - c.args.first ≡ c.args.count = omega arith in
    record { joins = ap (λ n. c.args.lanes.now.items ++ lanes_of c.args.all c.args.enables (numbers c.args.first n)) all; small = λ h. h }

pub loop-lane-preserved : goal.loop-lane-preserved
loop-lane-preserved c =
    let less = c.loop-lane-test.true in
    let items = c.loop-lane.lanes.items in
    let k = (c.args.first + c.args.count) - (c.loop-lane.lane + 1) in
    let left : (c.args.first + c.args.count) - c.loop-lane.lane ≡ suc k = omega (arith, less) in
    let next : c.loop-lane.lane + 1 ≡ suc c.loop-lane.lane = omega arith in
    record {
      joins = ap (λ l. l ++ lanes_of c.args.all c.args.enables (numbers (c.loop-lane.lane + 1) k)) (c.in_ok-push_if.ensures.ok ∙ ap (λ b. items ++ only_if b c.loop-lane.lane) c.is_kept.ensures)
          ∙ ap (λ x. (items ++ only_if (c.args.all || is_enabled c.args.enables c.loop-lane.lane) c.loop-lane.lane) ++ lanes_of c.args.all c.args.enables (numbers x k)) next
          ∙ lane_more c.args.all c.args.enables items c.loop-lane.lane k
          ∙ ap (λ n. items ++ lanes_of c.args.all c.args.enables (numbers c.loop-lane.lane n)) (sym left) ∙ c.loop-lane.invariant.joins;
      small = λ h. c.in_ok-push_if.ensures.small (omega (arith, less, c.requires)) (c.loop-lane.invariant.small h);
    }

pub returns : goal.returns
returns c =
    let none : (c.args.first + c.args.count) - c.loop-lane.lane ≡ 0 = omega (arith, c.loop-lane-test.false) in
    record { ok = sym (append-nil c.loop-lane.lanes.items) ∙ ap (λ n. c.loop-lane.lanes.items ++ lanes_of c.args.all c.args.enables (numbers c.loop-lane.lane n)) (sym none) ∙ c.loop-lane.invariant.joins; small = c.loop-lane.invariant.small }
