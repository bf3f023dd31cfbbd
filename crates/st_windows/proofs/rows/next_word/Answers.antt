use Rattle.std.proofs.Common.{◌≡◌, ◌==◌, if◌then◌else◌, ◌∙◌, ap, arith}
use Rattle.netlist.specs.Runs.{Always}
use Rattle.net_parts.specs.Laws.{adds_twice, adds_fewer, if_ok}
use Rattle.stage_core.specs.Groups.{shown_in}
use Rattle.st_windows.specs.Rows.{front_of}
use Rattle.st_windows.proofs.rows.next_word.Goals as goal

pub returns-clause-value : goal.returns-clause-value
returns-clause-value c =
    if_ok c.front_word.result _ (λ word. Always c.front_word.new.builder (λ cycle. cycle.net word.number ≡ front_of c.args.sizes.now (shown_in cycle c.args.held.now) (if cycle.net c.args.alone.number == 1 then 0 else cycle.net c.args.from.now.word.number)))
    (λ word value cycle v2. (let v1 = c.front_word.ensures.adds.grows.extends.valuations cycle v2 in value cycle v2 ∙ ap (front_of c.args.sizes.now (shown_in cycle c.args.held.now)) (c.in_ok-coming.ensures.value cycle v1)))
    c.front_word.ensures.value

pub returns-clause-adds : goal.returns-clause-adds
returns-clause-adds c = adds_fewer _ _ _ _ (omega arith) (adds_twice _ _ _ _ _ c.mask_word.ensures.adds c.front_word.ensures.adds)
