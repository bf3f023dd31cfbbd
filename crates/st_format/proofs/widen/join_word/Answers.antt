use Rattle.std.proofs.Common.{◌≡◌, ◌*◌, ◌∙◌, arith}
use Rattle.netlist.specs.Runs.{Always}
use Rattle.net_parts.specs.Nets.{IsNetOfWidth}
use Rattle.net_parts.specs.Laws.{if_ok, bit_fits, adds_fewer, adds_twice, grows_once}
use Rattle.st_format.specs.WidenNets.{joined_by}
use Rattle.st_format.proofs.PartsLemmas.{parts_wide}
use Rattle.st_format.proofs.WidenLemmas.{joined_places}
use Rattle.st_format.proofs.widen.join_word.Goals as goal

pub returns-then-not-stage-clause-net : goal.returns-then-not-stage-clause-net
returns-then-not-stage-clause-net c =
    if_ok c.concat.result _ (λ word. IsNetOfWidth c.concat.new.self word (c.args.stage.now.sizes.bits * (c.args.stage.now.sizes.symbols * c.args.stage.now.sizes.parts)))
    (λ word net. record { is_net = net.0; has_width = net.1 ∙ (let held = c.requires.held.has_width in let coming = c.requires.coming.has_width in let sum = parts_wide c.args.stage.now.sizes in omega (arith, held, coming, sum)) }) c.concat.ensures.net

pub returns-clause-value : goal.returns-clause-value
returns-clause-value c =
    if_ok c.lay_word.result _ (λ word. Always c.lay_word.new.builder (λ cycle. cycle.net word.number ≡ joined_by c.args.stage.now (cycle.net c.args.some.number) (cycle.net c.args.held.number) (cycle.net c.args.coming.number) (cycle.net c.args.gathered.number)))
    (λ word value cycle v4. (
    let v3 = c.lay_word.ensures.adds.grows.extends.valuations cycle v4 in
    let v2 = c.concat-2.ensures.extends.valuations cycle v3 in
    let v1 = c.constant-2.ensures.adds.grows.extends.valuations cycle v2 in
    let v0 = c.mux.ensures.extends.valuations cycle v1 in
    joined_places c.args.stage.now (cycle.net c.args.some.number) (cycle.net c.args.held.number) (cycle.net c.args.coming.number) (cycle.net c.args.gathered.number) _ _ _ _ _ _ c.if-not-stage.false
    (bit_fits _ _ c.requires.some cycle (c.constant.ensures.adds.grows.extends.valuations cycle v0)) (c.in_ok-none.ensures.value cycle v0) (c.in_ok-known.ensures.value cycle v1).1
    (c.in_ok-low.ensures.net.has_width ∙ c.narrow_bits.ensures.value) (c.in_ok-low.ensures.value cycle v2) (c.in_ok-word.ensures.value cycle v3).1 (value cycle v4))) c.lay_word.ensures.value

pub returns-clause-adds : goal.returns-clause-adds
returns-clause-adds c =
    adds_fewer _ _ _ _ (omega arith) (adds_twice _ _ _ _ _ (adds_twice _ _ _ _ _ (adds_twice _ _ _ _ _ (adds_twice _ _ _ _ _ c.constant.ensures.adds (grows_once _ _ c.mux.ensures.extends c.mux.ensures.grows)) c.constant-2.ensures.adds) (grows_once _ _ c.concat-2.ensures.extends c.concat-2.ensures.grows)) c.lay_word.ensures.adds)
