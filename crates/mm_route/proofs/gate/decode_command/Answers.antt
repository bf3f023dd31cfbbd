use Rattle.std.proofs.Common.{◌≡◌, false, List, ap, ◌∙◌, arith, length, sym, subst}
use Rattle.netlist.specs.Nets.{NetValue}
use Rattle.netlist.specs.Runs.{Always}
use Rattle.net_parts.specs.Laws.{if_ok, adds_fewer, adds_twice}
use Rattle.memory_runs.specs.declared.sides.route.Route.{Route}
use Rattle.net_parts.specs.Refusing.{handed_on}
use Rattle.net_parts.specs.Nets.{IsNetOfWidth}
use Rattle.mm_route.specs.Entries.{hits, kind_of, AreEntries}
use Rattle.mm_route.proofs.Decoding.{split_whole}
use Rattle.mm_route.proofs.gate.decode_command.Goals as goal

pub returns-clause-value : goal.returns-clause-value
returns-clause-value c =
    let asked = c.in_ok-asked.asked in
    if_ok c.decode.result _ (λ bits. Always c.decode.new.builder (λ cycle. cycle.net bits.number ≡ hits c.args.entries.now (kind_of (cycle.net c.args.command.now.write.number)) (cycle.net c.args.command.now.address.number)))
    (λ bits value cycle v. (
    value cycle v
    ∙ ap (λ (entries : List Route). hits entries (kind_of (cycle.net asked.write.number)) (cycle.net asked.address.number)) (split_whole c.args.entries.now (record { agent = 0; base = 0; bits = 0; reads = false; writes = false }) c.requires.some)
    ∙ ap (λ (net : NetValue). hits c.args.entries.now (kind_of (cycle.net net.number)) (cycle.net asked.address.number)) c.in_ok-asked.ensures.write
    ∙ ap (λ (net : NetValue). hits c.args.entries.now (kind_of (cycle.net c.args.command.now.write.number)) (cycle.net net.number)) c.in_ok-asked.ensures.address))
    c.decode.ensures.value

pub returns-in_err-asked-clause-adds : goal.returns-in_err-asked-clause-adds
returns-in_err-asked-clause-adds c = adds_fewer _ _ _ _ (omega arith) c.asked_nets.ensures.adds

pub returns-in_err-asked-clause-full : goal.returns-in_err-asked-clause-full
returns-in_err-asked-clause-full c e = let full = c.asked_nets.ensures.full (handed_on _ _ _ _ c.in_err-asked.was c.from_residual.ensures.1 e) in omega (arith, full)

pub returns-clause-full : goal.returns-clause-full
returns-clause-full c e =
    let most = c.asked_nets.ensures.adds.most in
    let full = c.decode.ensures.full e in
    let whole = ap (length {A = Route}) (split_whole c.args.entries.now (record { agent = 0; base = 0; bits = 0; reads = false; writes = false }) c.requires.some) in
    omega (arith, most, full, whole)

pub returns-clause-adds : goal.returns-clause-adds
returns-clause-adds c =
    let whole = ap (length {A = Route}) (split_whole c.args.entries.now (record { agent = 0; base = 0; bits = 0; reads = false; writes = false }) c.requires.some) in
    adds_fewer _ _ _ _ (omega (arith, whole)) (adds_twice _ _ _ _ _ c.asked_nets.ensures.adds c.decode.ensures.adds)

pub decode-requires-clause-asked : goal.decode-requires-clause-asked
decode-requires-clause-asked c = c.in_ok-asked.ensures.asked

pub decode-requires-clause-small : goal.decode-requires-clause-small
decode-requires-clause-small c = c.in_ok-asked.ensures.small

pub decode-requires-clause-entries : goal.decode-requires-clause-entries
decode-requires-clause-entries c =
    let whole = split_whole c.args.entries.now (record { agent = 0; base = 0; bits = 0; reads = false; writes = false }) c.requires.some in
    subst (AreEntries c.in_ok-asked.asked.width) (sym whole) (subst (λ w. AreEntries w c.args.entries.now) (sym c.in_ok-asked.ensures.width) c.requires.entries)

pub decode-requires-clause-few : goal.decode-requires-clause-few
decode-requires-clause-few c =
    let whole = split_whole c.args.entries.now (record { agent = 0; base = 0; bits = 0; reads = false; writes = false }) c.requires.some in
    let count = ap (length {A = Route}) whole in
    let few = c.requires.few in
    omega (arith, count, few)

pub returns-clause-net : goal.returns-clause-net
returns-clause-net c =
    let whole = split_whole c.args.entries.now (record { agent = 0; base = 0; bits = 0; reads = false; writes = false }) c.requires.some in
    let count = ap (length {A = Route}) whole in
    if_ok c.decode.result _ (λ bits. IsNetOfWidth c.decode.new.builder bits (length c.args.entries.now)) (λ bits net. record { is_net = net.is_net; has_width = net.has_width ∙ omega (arith, count) }) c.decode.ensures.net
