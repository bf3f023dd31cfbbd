use Rattle.std.proofs.Common.{◌≡◌, ◌*◌, arith}
use Rattle.netlist.specs.Runs.{Always}
use Rattle.net_parts.specs.Nets.{IsNetOfWidth}
use Rattle.net_parts.specs.Laws.{if_ok}
use Rattle.st_windows.specs.Cuts.{front_at}
use Rattle.st_windows.proofs.CutNets.{front_joined, front_fits}
use Rattle.st_windows.proofs.words.lay_front.Goals as goal

pub concat-requires-clause-widths : goal.concat-requires-clause-widths
concat-requires-clause-widths c =
    let older = c.in_ok-older.ensures.net.has_width in
    let newer = c.in_ok-newer.ensures.net.has_width in
    let sum = front_fits c.args.sizes.now.bits c.args.sizes.now.into c.args.count (omega arith) in
    let few = c.args.sizes.now.into_fits in
    omega (arith, older, newer, sum, few)

pub returns-clause-net : goal.returns-clause-net
returns-clause-net c =
    let older = c.in_ok-older.ensures.net.has_width in
    let newer = c.in_ok-newer.ensures.net.has_width in
    let sum = front_fits c.args.sizes.now.bits c.args.sizes.now.into c.args.count (omega arith) in
    if_ok c.concat.result _ (λ front. IsNetOfWidth c.concat.new.self front (c.args.sizes.now.bits * c.args.sizes.now.into)) (λ front net. record { is_net = net.0; has_width = (let width = net.1 in omega (arith, older, newer, sum, width)) }) c.concat.ensures.net

pub returns-clause-value : goal.returns-clause-value
returns-clause-value c =
    if_ok c.concat.result _ (λ front. Always c.concat.new.self (λ cycle. cycle.net front.number ≡ front_at c.args.sizes.now.bits c.args.sizes.now.from c.args.sizes.now.into c.args.sizes.now.held (cycle.net c.args.held.number) (cycle.net c.args.coming.number) c.args.count))
    (λ front value cycle v2.
    (let v1 = c.concat.ensures.extends.valuations cycle v2 in
    let v0 = c.cut_symbols-3.ensures.adds.grows.extends.valuations cycle v1 in
    front_joined c.args.sizes.now.bits c.args.sizes.now.from c.args.sizes.now.into c.args.sizes.now.held (cycle.net c.args.held.number) (cycle.net c.args.coming.number) c.args.count _ _ _ _ c.if-count-eq0.false
    (c.in_ok-older.ensures.value cycle v0) (c.in_ok-newer.ensures.value cycle v1) c.in_ok-newer.ensures.net.has_width (value cycle v2).1))
    c.concat.ensures.value
