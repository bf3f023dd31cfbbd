use Rattle.std.proofs.Common.{◌≡◌, ◌≤◌, true, ◌&&◌, ◌==◌, nat_lt, IsTrue, sym, ◌∙◌, ap, arith}
use Rattle.std.proofs.lemmas.Bool.{lt-ltb, le-ltb}
use Rattle.netlist.specs.Runs.{Always}
use Rattle.net_parts.specs.Nets.{IsBit}
use Rattle.net_parts.specs.Laws.{bit_fits, if_ok, extends_twice, grows_once, adds_twice}
use Rattle.net_parts.specs.Bits.{high_and}
use Rattle.st_channel.specs.FilterNets.{compares, takes_beat, drops}
use Rattle.st_channel.proofs.Numbers.{bit_of_test}
use Rattle.st_channel.proofs.Comparing.{sink_fits, drops_late, drops_now, drops_legal}
use Rattle.stage_core.specs.Refusing.{handed_on}
use Rattle.st_channel.proofs.Growing.{adds_where, full_where}
use Rattle.st_channel.proofs.filter.ChannelFilter.emit_dropped.Goals as goal

pub is_above-requires-clause-fits : goal.is_above-requires-clause-fits
is_above-requires-clause-fits c = sink_fits c.args.self.now (sym c.compares.ensures ∙ c.if-not-compares.false)

pub returns-then-self-gt0-clause-drops : goal.returns-then-self-gt0-clause-drops
returns-then-self-gt0-clause-drops c cycle v2 =
    let v1 = c.and.ensures.extends.valuations cycle v2 in
    let v0 = c.is_above.ensures.adds.grows.extends.valuations cycle v1 in
    let compared : compares c.args.self.now ≡ true = sym c.compares.ensures ∙ c.if-not-compares.false in
    high_and (cycle.net c.args.from.valid.number) (cycle.net c.in_ok-above.above.number) (cycle.net c.in_ok-over.over.number) (bit_fits _ _ c.requires.from.valid cycle v0) (bit_fits _ _ c.in_ok-above.ensures.net cycle v1) (c.in_ok-over.ensures.value cycle v2).1
    ∙ ap (λ t. (cycle.net c.args.from.valid.number == 1) && t) (ap (λ n. n == 1) (c.in_ok-above.ensures.value cycle v1) ∙ bit_of_test (nat_lt c.args.self.now.sink.largest (cycle.net c.args.from.channel.number)))
    ∙ drops_late c.args.self.now cycle c.args.from c.args.ready compared (lt-ltb 0 c.args.self.now.latency (omega arith))

pub returns-then-self-gt0-clause-legal : goal.returns-then-self-gt0-clause-legal
returns-then-self-gt0-clause-legal c cycle v legal = returns-then-self-gt0-clause-drops c cycle v ∙ drops_legal c.args.self.now cycle c.args.from c.args.ready legal

pub returns-clause-drops : goal.returns-clause-drops
returns-clause-drops c =
    if_ok c.and-2.result _ (λ dropped. Always c.and-2.new.self (λ cycle. (cycle.net dropped.number == 1) ≡ drops c.args.self.now cycle c.args.from c.args.ready))
    (λ dropped value cycle v3. (
    let v2 = c.and-2.ensures.extends.valuations cycle v3 in
    let v1 = c.and.ensures.extends.valuations cycle v2 in
    let v0 = c.is_above.ensures.adds.grows.extends.valuations cycle v1 in
    let compared : compares c.args.self.now ≡ true = sym c.compares.ensures ∙ c.if-not-compares.false in
    let over : IsBit c.and.new.self c.in_ok-over.over = record { is_net = c.in_ok-over.ensures.net.0; has_width = c.in_ok-over.ensures.net.1 ∙ c.requires.from.valid.has_width } in
    high_and (cycle.net c.in_ok-over.over.number) (cycle.net c.args.ready.number) (cycle.net dropped.number) (bit_fits _ _ over cycle v2) (bit_fits _ _ c.requires.ready cycle v0) (value cycle v3).1
    ∙ ap (λ t. t && (cycle.net c.args.ready.number == 1))
    (high_and (cycle.net c.args.from.valid.number) (cycle.net c.in_ok-above.above.number) (cycle.net c.in_ok-over.over.number) (bit_fits _ _ c.requires.from.valid cycle v0) (bit_fits _ _ c.in_ok-above.ensures.net cycle v1) (c.in_ok-over.ensures.value cycle v2).1
    ∙ ap (λ t. (cycle.net c.args.from.valid.number == 1) && t) (ap (λ n. n == 1) (c.in_ok-above.ensures.value cycle v1) ∙ bit_of_test (nat_lt c.args.self.now.sink.largest (cycle.net c.args.from.channel.number))))
    ∙ drops_now c.args.self.now cycle c.args.from c.args.ready compared (le-ltb 0 c.args.self.now.latency (omega arith))))
    c.and-2.ensures.value

pub returns-clause-legal : goal.returns-clause-legal
returns-clause-legal c =
    if_ok c.and-2.result _
    (λ dropped. Always c.and-2.new.self (λ cycle. (IsTrue (cycle.net c.args.from.valid.number == 1) → cycle.net c.args.from.channel.number ≤ c.args.self.now.source.largest)
    → (cycle.net dropped.number == 1) ≡ (takes_beat c.args.self.now cycle c.args.from c.args.ready && nat_lt c.args.self.now.sink.largest (cycle.net c.args.from.channel.number))))
    (λ dropped value cycle v legal. value cycle v ∙ drops_legal c.args.self.now cycle c.args.from c.args.ready legal)
    (returns-clause-drops c)

pub and-requires-clause-a_is : goal.and-requires-clause-a_is
and-requires-clause-a_is c = c.is_above.ensures.adds.grows.extends.nets _ _ c.requires.from.valid.is_net

pub and-requires-clause-b_is : goal.and-requires-clause-b_is
and-requires-clause-b_is c = c.in_ok-above.ensures.net.is_net

pub and-requires-clause-widths : goal.and-requires-clause-widths
and-requires-clause-widths c = c.requires.from.valid.has_width ∙ sym c.in_ok-above.ensures.net.has_width

pub and-requires-2-clause-a_is : goal.and-requires-2-clause-a_is
and-requires-2-clause-a_is c = c.in_ok-over.ensures.net.0

pub and-requires-2-clause-b_is : goal.and-requires-2-clause-b_is
and-requires-2-clause-b_is c = (extends_twice _ _ _ c.is_above.ensures.adds.grows.extends c.and.ensures.extends).nets _ _ c.requires.ready.is_net

pub and-requires-2-clause-widths : goal.and-requires-2-clause-widths
and-requires-2-clause-widths c = c.in_ok-over.ensures.net.1 ∙ (c.requires.from.valid.has_width ∙ sym c.requires.ready.has_width)

pub returns-in_err-above-clause-adds : goal.returns-in_err-above-clause-adds
returns-in_err-above-clause-adds c = adds_where (compares c.args.self.now) 4 1 _ _ _ (sym c.compares.ensures ∙ c.if-not-compares.false) (omega arith) c.is_above.ensures.adds

pub returns-in_err-above-clause-full : goal.returns-in_err-above-clause-full
returns-in_err-above-clause-full c e = full_where (compares c.args.self.now) 4 1 _ _ (sym c.compares.ensures ∙ c.if-not-compares.false) (let full = c.is_above.ensures.full (handed_on _ _ _ _ c.in_err-above.was c.from_residual.ensures.1 e) in omega (arith, full))

pub returns-in_err-over-clause-adds : goal.returns-in_err-over-clause-adds
returns-in_err-over-clause-adds c = adds_where (compares c.args.self.now) 4 1 _ _ _ (sym c.compares.ensures ∙ c.if-not-compares.false) (omega arith) (adds_twice _ _ _ _ _ c.is_above.ensures.adds (grows_once _ _ c.and.ensures.extends c.and.ensures.grows))

pub returns-in_err-over-clause-full : goal.returns-in_err-over-clause-full
returns-in_err-over-clause-full c e = full_where (compares c.args.self.now) 4 1 _ _ (sym c.compares.ensures ∙ c.if-not-compares.false) (let most = c.is_above.ensures.adds.most in let full = c.and.ensures.full.0 (handed_on _ _ _ _ c.in_err-over.was c.from_residual-in_err-over.ensures.1 e) in omega (arith, most, full))

pub returns-then-self-gt0-clause-net : goal.returns-then-self-gt0-clause-net
returns-then-self-gt0-clause-net c = record { is_net = c.in_ok-over.ensures.net.0; has_width = c.in_ok-over.ensures.net.1 ∙ c.requires.from.valid.has_width }

pub returns-then-self-gt0-clause-adds : goal.returns-then-self-gt0-clause-adds
returns-then-self-gt0-clause-adds c = adds_where (compares c.args.self.now) 4 1 _ _ _ (sym c.compares.ensures ∙ c.if-not-compares.false) (omega arith) (adds_twice _ _ _ _ _ c.is_above.ensures.adds (grows_once _ _ c.and.ensures.extends c.and.ensures.grows))

pub returns-then-self-gt0-clause-full : goal.returns-then-self-gt0-clause-full
returns-then-self-gt0-clause-full c e = cc

pub returns-clause-net : goal.returns-clause-net
returns-clause-net c = if_ok c.and-2.result _ (IsBit c.and-2.new.self) (λ dropped net. record { is_net = net.0; has_width = net.1 ∙ (c.in_ok-over.ensures.net.1 ∙ c.requires.from.valid.has_width) }) c.and-2.ensures.net

pub returns-clause-adds : goal.returns-clause-adds
returns-clause-adds c = adds_where (compares c.args.self.now) 4 1 _ _ _ (sym c.compares.ensures ∙ c.if-not-compares.false) (omega arith) (adds_twice _ _ _ _ _ (adds_twice _ _ _ _ _ c.is_above.ensures.adds (grows_once _ _ c.and.ensures.extends c.and.ensures.grows)) (grows_once _ _ c.and-2.ensures.extends c.and-2.ensures.grows))

pub returns-clause-full : goal.returns-clause-full
returns-clause-full c e = full_where (compares c.args.self.now) 4 1 _ _ (sym c.compares.ensures ∙ c.if-not-compares.false) (let most = c.is_above.ensures.adds.most in let most2 = c.and.ensures.grows.most in let full = c.and-2.ensures.full.0 e in omega (arith, most, most2, full))
