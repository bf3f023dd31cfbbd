use Rattle.std.proofs.Common.{◌≡◌, ◌+◌, ◌-◌, ◌*◌, ◌^◌, ◌≤◌, suc, List, [], ◌∷◌, ◌++◌, sym, subst, ap, ◌∙◌, arith}
use Rattle.std.proofs.lemmas.Nat.{pow_pos}
use Rattle.netlist.specs.Nets.{NetValue}
use Rattle.net_parts.specs.Laws.{if_ok, extends_twice, net_lasts, adds_fewer, adds_twice}
use Rattle.st_mux.specs.Selecting.{two_halves}
use Rattle.st_mux.specs.Splitting.{AreLed, led_last, led_alone, led_in_front, led_in_both}
use Rattle.st_mux.proofs.split.+lead_bit.Goals as goal

pub returns-then-bits-eq0-clause-each : goal.returns-then-bits-eq0-clause-each
returns-then-bits-eq0-clause-each t c =
    let none : 0 ≡ c.args.bits = sym c.if-bits-eq0.true in
    let few : c.args.count ≤ 2 ^ 0 = subst (λ b. c.args.count ≤ 2 ^ b) c.if-bits-eq0.true c.requires.few in
    let some = c.requires.some in
    let alone : c.push.new.self.items ≡ c.args.bit ∷ [] = c.in_ok-push.ensures.items ∙ ap (λ (nets : List NetValue). nets ++ c.args.bit ∷ []) c.new-nets.ensures.items in
    subst (λ b. AreLed c.args.builder.now c.args.bit c.args.index b c.push.new.self.items c.args.count) none
    (subst (λ (nets : List NetValue). AreLed c.args.builder.now c.args.bit c.args.index 0 nets c.args.count) (sym alone)
    (subst (λ n. AreLed c.args.builder.now c.args.bit c.args.index 0 (c.args.bit ∷ []) n) (omega (arith, few, some)) (led_alone c.args.builder.now c.args.bit c.args.index c.requires.bit)))

pub returns-then-count-half-clause-each : goal.returns-then-count-half-clause-each
returns-then-count-half-clause-each t c =
    let some = c.if-bits-eq0.false in
    let back : suc (c.args.bits - 1) ≡ c.args.bits = omega (arith, some) in
    let half = c.half_size-half.ensures.size in
    let few = c.if-count-half.true in
    if_ok c.lead_bit.result _ (λ nets. AreLed c.lead_bit.new.builder c.args.bit c.args.index c.args.bits nets.items c.args.count)
    (λ nets led.
    subst (λ b. AreLed c.lead_bit.new.builder c.args.bit c.args.index b nets.items c.args.count) back
    (led_in_front c.lead_bit.new.builder c.args.bit c.args.index (c.args.bits - 1) c.in_ok-halves.halves.front nets.items c.args.count (omega (arith, few, half))
    (λ cycle v. c.in_ok-halves.ensures.front cycle (c.lead_bit.ensures.adds.grows.extends.valuations cycle v)) led))
    c.lead_bit.ensures.each

pub returns-clause-each : goal.returns-clause-each
returns-clause-each t c =
    let some = c.if-bits-eq0.false in
    let back : suc (c.args.bits - 1) ≡ c.args.bits = omega (arith, some) in
    let half = c.half_size-half.ensures.size in
    let more = c.if-count-half.false in
    let last = c.lead_bit-3.ensures.adds.grows.extends in
    let first = extends_twice _ _ _ c.lead_bit-2.ensures.adds.grows.extends last in
    let front = subst (λ n. AreLed c.lead_bit-2.new.builder c.in_ok-halves.halves.front c.args.index (c.args.bits - 1) c.in_ok-nets.nets.items n) half c.in_ok-nets.ensures.each in
    let whole : 2 ^ (c.args.bits - 1) + (c.args.count - c.half_size-half.result) ≡ c.args.count = omega (arith, half, more) in
    subst (λ b. AreLed c.lead_bit-3.new.builder c.args.bit c.args.index b c.extend_from_slice.new.self.items c.args.count) back
    (subst (λ (nets : List NetValue). AreLed c.lead_bit-3.new.builder c.args.bit c.args.index (suc (c.args.bits - 1)) nets c.args.count) (sym {A = List NetValue} (c.in_ok-extend_from_slice.ensures.items ∙ ap (λ (nets : List NetValue). c.in_ok-nets.nets.items ++ nets) c.as_slice.ensures.value))
    (subst (λ n. AreLed c.lead_bit-3.new.builder c.args.bit c.args.index (suc (c.args.bits - 1)) (c.in_ok-nets.nets.items ++ c.in_ok-back.back.items) n) whole
    (led_in_both c.lead_bit-3.new.builder c.args.bit c.args.index (c.args.bits - 1) c.in_ok-halves.halves.front c.in_ok-halves.halves.back c.in_ok-nets.nets.items c.in_ok-back.back.items (c.args.count - c.half_size-half.result)
    (λ cycle v. c.in_ok-halves.ensures.front cycle (first.valuations cycle v))
    (λ cycle v. c.in_ok-halves.ensures.back cycle (first.valuations cycle v))
    (led_last _ _ _ _ _ _ _ last front) c.in_ok-back.ensures.each)))
