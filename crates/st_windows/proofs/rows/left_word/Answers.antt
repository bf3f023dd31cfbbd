use Rattle.std.proofs.Common.{◌≡◌, ◌-◌, ◌==◌, if◌then◌else◌, ◌∙◌, ap, arith}
use Rattle.netlist.specs.Runs.{Always}
use Rattle.net_parts.specs.Laws.{grows_once, adds_twice, adds_fewer, bit_fits, if_ok}
use Rattle.net_parts.specs.Bits.{chosen_high}
use Rattle.st_windows.specs.Cuts.{cut_of, rest_at, chosen_at}
use Rattle.st_windows.proofs.CutLemmas.{masked_rest, chosen_rest}
use Rattle.st_windows.proofs.rows.left_word.Goals as goal

pub returns-then-sizes-clause-value : goal.returns-then-sizes-clause-value
returns-then-sizes-clause-value c cycle v1 =
    let v0 = c.rest_word.ensures.adds.grows.extends.valuations cycle v1 in
    c.in_ok-newer.ensures.value cycle v1
    ∙ ap (λ n. chosen_at (cycle.net c.args.count.number) (rest_at c.args.sizes.now.bits c.args.sizes.now.from c.args.sizes.now.into c.args.sizes.now.held n) (c.args.sizes.now.into - 1)) (c.in_ok-masked.ensures.value cycle v0)
    ∙ masked_rest c.args.sizes.now.bits c.args.sizes.now.from c.args.sizes.now.into c.args.sizes.now.held (cycle.net c.args.count.number) (cycle.net c.args.held.number) (cycle.net c.args.coming.number) (c.args.sizes.now.into - 1) (cycle.net c.args.alone.number == 1) c.if-sizes.true

pub returns-clause-value : goal.returns-clause-value
returns-clause-value c =
    if_ok c.mux.result _ (λ word. Always c.mux.new.self (λ cycle. cycle.net word.number ≡ (if cycle.net c.args.alone.number == 1 then cut_of c.args.sizes.now.bits c.args.sizes.now.held c.args.sizes.now.into c.args.sizes.now.held (cycle.net c.args.held.number) else chosen_at (cycle.net c.args.count.number) (rest_at c.args.sizes.now.bits c.args.sizes.now.from c.args.sizes.now.into c.args.sizes.now.held (cycle.net c.args.coming.number)) (c.args.sizes.now.into - 1))))
    (λ word value cycle v3. (
    let v2 = c.mux.ensures.extends.valuations cycle v3 in
    let v1 = c.cut_symbols.ensures.adds.grows.extends.valuations cycle v2 in
    let v0 = c.rest_word.ensures.adds.grows.extends.valuations cycle v1 in
    (value cycle v3).1 ∙ chosen_high (cycle.net c.args.alone.number) _ _ (bit_fits _ _ c.requires.alone cycle (c.mask_word.ensures.adds.grows.extends.valuations cycle v0))
    ∙ ap (λ n. if cycle.net c.args.alone.number == 1 then n else cycle.net c.in_ok-newer.newer.number) (c.in_ok-older.ensures.value cycle v2)
    ∙ ap (λ n. if cycle.net c.args.alone.number == 1 then cut_of c.args.sizes.now.bits c.args.sizes.now.held c.args.sizes.now.into c.args.sizes.now.held (cycle.net c.args.held.number) else n) (c.in_ok-newer.ensures.value cycle v1
    ∙ ap (λ n. chosen_at (cycle.net c.args.count.number) (rest_at c.args.sizes.now.bits c.args.sizes.now.from c.args.sizes.now.into c.args.sizes.now.held n) (c.args.sizes.now.into - 1)) (c.in_ok-masked.ensures.value cycle v0))
    ∙ chosen_rest c.args.sizes.now.bits c.args.sizes.now.from c.args.sizes.now.into c.args.sizes.now.held (cycle.net c.args.count.number) (cycle.net c.args.held.number) (cycle.net c.args.coming.number) (c.args.sizes.now.into - 1) (cycle.net c.args.alone.number == 1)))
    c.mux.ensures.value

pub returns-clause-adds : goal.returns-clause-adds
returns-clause-adds c = adds_fewer _ _ _ _ (omega arith) (adds_twice _ _ _ _ _ (adds_twice _ _ _ _ _ (adds_twice _ _ _ _ _ c.mask_word.ensures.adds c.rest_word.ensures.adds) c.cut_symbols.ensures.adds) (grows_once _ _ c.mux.ensures.extends c.mux.ensures.grows))
