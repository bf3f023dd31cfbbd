use Rattle.std.proofs.Common.{◌≡◌}
use Rattle.netlist.specs.Runs.{Always}
use Rattle.net_parts.specs.Laws.{if_ok, adds_twice}
use Rattle.net_terms.proofs.words.ReadWord.emit_word.Goals as goal

pub returns-clause-value : goal.returns-clause-value
returns-clause-value g c =
    if_ok c.word_at.result _ (λ net. Always c.word_at.new.builder (λ cycle. cycle.net net.number ≡ cycle.cell c.args.self.now.memory.number (g.A.Word.value c.args.self.now.address cycle)))
    (λ net made cycle v. (
    let v0 = c.word_at.ensures.adds.grows.extends.valuations cycle v in
    let f0 = c.in_ok-a.ensures.value cycle v0 in
    let w0 = c.in_ok-a.ensures.net.has_width in
    let fact = made cycle v in cc))
    c.word_at.ensures.value

pub returns-clause-adds : goal.returns-clause-adds
returns-clause-adds g c = adds_twice _ _ _ _ _ c.emit_word.ensures.adds c.word_at.ensures.adds
