use Rattle.std.proofs.Common.{◌≡◌, ℕ, ◌+◌, ◌^◌, ◌≤◌, ◌*◌, max, Bool, false, if◌then◌else◌, sym, subst, ap, ◌∙◌, arith}
use Rattle.std.proofs.lemmas.Nat.{pow-add}
use Rattle.netlist.specs.Runs.{Always}
use Rattle.net_parts.specs.Laws.{if_ok, adds_fewer}
use Rattle.mm_agent.specs.Agents.{PlacesAddress}
use Rattle.mm_agent.proofs.Levels.{width_reaches, word_placed}
use Rattle.mm_agent.proofs.fields.place_word.Goals as goal

reaches : (bits low bytes width : ℕ) (units : Bool) → units ≡ false → bytes ≡ 2 ^ low → (if units then max (2 ^ bits) bytes else 2 ^ bits * bytes) ≤ 2 ^ width → bits + low ≤ width
reaches bits low bytes width units counts power h =
    let span : 2 ^ bits * bytes ≤ 2 ^ width = subst (λ t. (if t then max (2 ^ bits) bytes else 2 ^ bits * bytes) ≤ 2 ^ width) counts h in
    let whole : 2 ^ (bits + low) ≡ 2 ^ bits * bytes = pow-add 2 bits low ∙ ap (λ k. 2 ^ bits * k) (sym power) in
    width_reaches (bits + low) width (omega (arith, span, whole))

pub bits_above-requires-clause-inside : goal.bits_above-requires-clause-inside
bits_above-requires-clause-inside c = let all = reaches _ _ _ _ _ c.requires.counts c.lane_bits-low.ensures.power c.requires.reaches in omega (arith, all)

pub returns-clause-value : goal.returns-clause-value
returns-clause-value c =
    if_ok c.bits_above.result _ (λ made. Always c.bits_above.new.builder (λ cycle. PlacesAddress c.args.port.now (cycle.net c.args.address.number) (cycle.net made.number)))
    (λ made value cycle v. word_placed _ _ c.lane_bits-low.result _ _ _ c.requires.counts c.lane_bits-low.ensures.power (value cycle v))
    c.bits_above.ensures.value

pub returns-clause-net : goal.returns-clause-net
returns-clause-net c = c.bits_above.ensures.net

pub returns-clause-adds : goal.returns-clause-adds
returns-clause-adds c = adds_fewer _ _ _ _ (omega arith) c.bits_above.ensures.adds

pub returns-clause-full : goal.returns-clause-full
returns-clause-full c e = let full = c.bits_above.ensures.full e in omega (arith, full)

pub bits_above-requires-clause-net : goal.bits_above-requires-clause-net
bits_above-requires-clause-net c = c.requires.address
