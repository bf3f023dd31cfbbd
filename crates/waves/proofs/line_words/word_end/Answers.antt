use Rattle.std.proofs.Common.{◌≡◌, ◌-◌, not, length, take, drop, subst, arith}
use Rattle.std.specs.Prelude.{◌==◌}
use Rattle.std.specs.List.{prefix_len}
use Rattle.std.proofs.lemmas.List.{take_all, length-drop}
use Rattle.waves.specs.Cuts.{blank}
use Rattle.waves.specs.CutLaws.{text_cut}
use Rattle.waves.proofs.line_words.word_end.Goals as goal

pub returns-clause-text : goal.returns-clause-text
returns-clause-text c =
    let line = c.args.line.now in
    let at = c.args.at in
    let long = length-drop at line in
    let rest : take (length line - at) (drop at line) ≡ drop at line = take_all (length line - at) (drop at line) (omega arith) in
    text_cut line at c.piece_len.result c.requires (subst (λ xs. c.piece_len.result ≡ prefix_len (λ byte. not (byte == blank)) xs) rest c.piece_len.ensures.length)
