use Rattle.std.proofs.Common.{◌≡◌, nat_eq}
use Rattle.histories.specs.History.{is_raised}
use Rattle.netlist.specs.Runs.{Always}
use Rattle.net_parts.specs.Laws.{if_ok, adds_twice}
use Rattle.net_terms.proofs.bits.EqualsBit.emit.Goals as goal

pub emit_word-requires-2 : goal.emit_word-requires-2
emit_word-requires-2 g c = g.met.B.Word.word_lasts _ _ _ c.requires.1 c.emit_word.ensures.adds.grows.extends

pub returns-clause-value : goal.returns-clause-value
returns-clause-value g c =
    if_ok c.is_equal.result _ (λ net. Always c.is_equal.new.builder (λ cycle. is_raised (cycle.net net.number) ≡ nat_eq (g.A.Word.value c.args.self.now.0 cycle) (g.B.Word.value c.args.self.now.1 cycle)))
    (λ net made cycle v. (
    let v1 = c.is_equal.ensures.adds.grows.extends.valuations cycle v in
    let v0 = c.emit_word-2.ensures.adds.grows.extends.valuations cycle v1 in
    let f0 = c.in_ok-a.ensures.value cycle v0 in
    let w0 = c.in_ok-a.ensures.net.has_width in
    let f1 = c.in_ok-b.ensures.value cycle v1 in
    let w1 = c.in_ok-b.ensures.net.has_width in
    let fact = made cycle v in cc))
    c.is_equal.ensures.value

pub returns-clause-adds : goal.returns-clause-adds
returns-clause-adds g c = adds_twice _ _ _ _ _ (adds_twice _ _ _ _ _ c.emit_word.ensures.adds c.emit_word-2.ensures.adds) c.is_equal.ensures.adds
