use Rattle.std.proofs.Common.{◌≡◌, not, if◌then◌else◌}
use Rattle.histories.specs.History.{is_raised}
use Rattle.netlist.specs.Runs.{Always}
use Rattle.net_parts.specs.Laws.{bit_fits, if_ok}
use Rattle.net_parts.specs.Levels.{raised_xor}
use Rattle.net_terms.proofs.makers.just_one.Goals as goal

pub returns-clause-value : goal.returns-clause-value
returns-clause-value c =
    if_ok c.xor.result _ (λ net. Always c.xor.new.self (λ cycle. is_raised (cycle.net net.number) ≡ (if is_raised (cycle.net c.args.a.number) then not (is_raised (cycle.net c.args.b.number)) else is_raised (cycle.net c.args.b.number))))
    (λ net value cycle v. (
    let v0 = c.xor.ensures.extends.valuations cycle v in
    raised_xor _ _ _ (bit_fits _ _ c.requires.a cycle v0) (bit_fits _ _ c.requires.b cycle v0) (value cycle v).1))
    c.xor.ensures.value
