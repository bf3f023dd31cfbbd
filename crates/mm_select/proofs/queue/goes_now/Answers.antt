use Rattle.std.proofs.Common.{◌≡◌, ℕ, zero, suc, false, ◌==◌, ◌&&◌, nat_lt, if◌then◌else◌, ap, ◌∙◌, sym, arith, lt-ltb}
use Rattle.histories.specs.History.{is_raised}
use Rattle.netlist.specs.Runs.{Always}
use Rattle.net_parts.specs.Laws.{if_ok}
use Rattle.mm_select.proofs.queue.goes_now.Goals as goal

raised_some : (count some : ℕ) → some ≡ (if count == 0 then 0 else 1) → is_raised some ≡ nat_lt 0 count
raised_some zero some e = ap is_raised e
raised_some (suc count) some e = let more : (suc count == 0) ≡ false = grind arith in ap is_raised (e ∙ ap (λ t. if t then 0 else 1) more) ∙ sym (lt-ltb 0 (suc count) (omega arith))

pub returns-clause-value : goal.returns-clause-value
returns-clause-value c =
    if_ok c.both.result _ (λ goes. Always c.both.new.builder (λ cycle. is_raised (cycle.net goes.number) ≡ (is_raised (cycle.net c.args.valid.number) && nat_lt 0 (cycle.net c.args.count.number))))
    (λ goes value cycle v. (
    let some = (c.in_ok-some.ensures.value cycle (c.both.ensures.adds.grows.extends.valuations cycle v)).1 in
    value cycle v ∙ ap (λ t. is_raised (cycle.net c.args.valid.number) && t) (raised_some (cycle.net c.args.count.number) (cycle.net c.in_ok-some.some.number) some)))
    c.both.ensures.value
