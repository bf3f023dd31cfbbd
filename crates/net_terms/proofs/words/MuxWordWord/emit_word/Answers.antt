use Rattle.std.proofs.Common.{◌≡◌, if◌then◌else◌}
use Rattle.netlist.specs.Runs.{Always}
use Rattle.net_parts.specs.Laws.{if_ok, extends_twice, adds_twice}
use Rattle.net_terms.proofs.words.MuxWordWord.emit_word.Goals as goal

pub emit_word-requires : goal.emit_word-requires
emit_word-requires g c = g.met.A.Word.word_lasts _ _ _ c.requires.1 c.emit.ensures.adds.grows.extends

pub emit_word-requires-2 : goal.emit_word-requires-2
emit_word-requires-2 g c = g.met.B.Word.word_lasts _ _ _ c.requires.2 (extends_twice _ _ _ c.emit.ensures.adds.grows.extends c.emit_word.ensures.adds.grows.extends)

pub returns-clause-value : goal.returns-clause-value
returns-clause-value g c =
    if_ok c.choose_word.result _ (λ net. Always c.choose_word.new.builder (λ cycle. cycle.net net.number ≡ (if g.S.Bit.level c.args.self.now.0 cycle then g.A.Word.value c.args.self.now.1 cycle else g.B.Word.value c.args.self.now.2 cycle)))
    (λ net made cycle v. (
    let v2 = c.choose_word.ensures.adds.grows.extends.valuations cycle v in
    let v1 = c.emit_word-2.ensures.adds.grows.extends.valuations cycle v2 in
    let v0 = c.emit_word.ensures.adds.grows.extends.valuations cycle v1 in
    let f0 = c.in_ok-s.ensures.value cycle v0 in
    let f1 = c.in_ok-a.ensures.value cycle v1 in
    let w1 = c.in_ok-a.ensures.net.has_width in
    let f2 = c.in_ok-b.ensures.value cycle v2 in
    let w2 = c.in_ok-b.ensures.net.has_width in
    let fact = made cycle v in cc))
    c.choose_word.ensures.value

pub returns-clause-adds : goal.returns-clause-adds
returns-clause-adds g c = adds_twice _ _ _ _ _ (adds_twice _ _ _ _ _ (adds_twice _ _ _ _ _ c.emit.ensures.adds c.emit_word.ensures.adds) c.emit_word-2.ensures.adds) c.choose_word.ensures.adds
