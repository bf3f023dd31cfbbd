use Rattle.std.proofs.Common.{◌≡◌, arith}
use Rattle.netlist.specs.Runs.{Always}
use Rattle.net_parts.specs.Laws.{adds_fewer, adds_twice, grows_once, if_ok, bit_fits}
use Rattle.stage_core.specs.Groups.{shown_in}
use Rattle.st_windows.specs.Rows.{joined_count}
use Rattle.st_windows.proofs.CountNets.{count_is}
use Rattle.st_windows.proofs.counts.count_joined.Goals as goal

pub returns-clause-value : goal.returns-clause-value
returns-clause-value c =
    if_ok c.add.result _ (λ count. Always c.add.new.self (λ cycle. cycle.net count.number ≡ joined_count c.args.sizes.now (cycle.net c.args.held.number) (shown_in cycle c.args.from.now)))
    (λ count value cycle v6.
    (let v5 = c.add.ensures.extends.valuations cycle v6 in
    let v4 = c.sub.ensures.extends.valuations cycle v5 in
    let v3 = c.constant-2.ensures.adds.grows.extends.valuations cycle v4 in
    let v2 = c.mux.ensures.extends.valuations cycle v3 in
    let v1 = c.constant.ensures.adds.grows.extends.valuations cycle v2 in
    let v0 = c.fit_empty.ensures.adds.grows.extends.valuations cycle v1 in
    count_is c.args.sizes.now.count _ _ (cycle.net c.args.held.number) (cycle.net c.args.from.now.last.number) _ _ _ _ _ _ (cycle.net c.args.from.now.empty.number) c.args.sizes.now.from
    c.requires.held.has_width c.in_ok-size.ensures.net.has_width (bit_fits _ _ c.requires.from.last cycle v0) (c.in_ok-fitted.ensures.value cycle v1) (c.in_ok-none.ensures.value cycle v2) (c.in_ok-empty.ensures.value cycle v3).1
    (c.in_ok-size.ensures.value cycle v4) (c.in_ok-coming.ensures.value cycle v5).1 (value cycle v6).1))
    c.add.ensures.value

pub returns-clause-adds : goal.returns-clause-adds
returns-clause-adds c = adds_fewer _ _ _ _ (omega arith) (adds_twice _ _ _ _ _ (adds_twice _ _ _ _ _ (adds_twice _ _ _ _ _ (adds_twice _ _ _ _ _ (adds_twice _ _ _ _ _ c.fit_empty.ensures.adds c.constant.ensures.adds) (grows_once _ _ c.mux.ensures.extends c.mux.ensures.grows)) c.constant-2.ensures.adds) (grows_once _ _ c.sub.ensures.extends c.sub.ensures.grows)) (grows_once _ _ c.add.ensures.extends c.add.ensures.grows))
