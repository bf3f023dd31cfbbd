use Rattle.std.proofs.Common.{◌≡◌, ◌==◌, if◌then◌else◌, ◌∙◌, ap}
use Rattle.netlist.specs.Runs.{Always}
use Rattle.net_parts.specs.Laws.{bit_fits, if_ok}
use Rattle.net_parts.specs.Bits.{chosen_high}
use Rattle.st_windows.proofs.rows.mask_word.Goals as goal

pub returns-clause-value : goal.returns-clause-value
returns-clause-value c =
    if_ok c.mux.result _ (λ word. Always c.mux.new.self (λ cycle. cycle.net word.number ≡ (if cycle.net c.args.alone.number == 1 then 0 else cycle.net c.args.coming.number)))
    (λ word value cycle v2. (
    let v1 = c.mux.ensures.extends.valuations cycle v2 in
    let v0 = c.constant.ensures.adds.grows.extends.valuations cycle v1 in
    (value cycle v2).1 ∙ chosen_high (cycle.net c.args.alone.number) _ _ (bit_fits _ _ c.requires.alone cycle v0) ∙ ap (λ n. if cycle.net c.args.alone.number == 1 then n else cycle.net c.args.coming.number) (c.in_ok-nothing.ensures.value cycle v1)))
    c.mux.ensures.value
