use Rattle.std.proofs.Common.{◌≡◌, ℕ, Bool, true, false, ◌==◌, nat_lt, if◌then◌else◌, ap, ◌∙◌}
use Rattle.netlist.specs.Runs.{Always}
use Rattle.net_parts.specs.Laws.{if_ok}
use Rattle.st_timing.proofs.allowance_nets.is_below_two.Goals as goal

high_if : (t : Bool) (n : ℕ) → n ≡ (if t then 1 else 0) → (n == 1) ≡ t
high_if true n e = ap (λ k. k == 1) e
high_if false n e = ap (λ k. k == 1) e

pub returns-clause-value : goal.returns-clause-value
returns-clause-value c =
    if_ok c.less.result _ (λ below. Always c.less.new.self (λ cycle. (cycle.net below.number == 1) ≡ nat_lt (cycle.net c.args.count.number) 2))
    (λ below value cycle v.
    high_if (nat_lt (cycle.net c.args.count.number) 2) (cycle.net below.number)
    ((value cycle v).1 ∙ ap (λ k. if nat_lt (cycle.net c.args.count.number) k then 1 else 0) (c.in_ok-limit.ensures.value cycle (c.less.ensures.extends.valuations cycle v))))
    c.less.ensures.value
