use Rattle.st_format.proofs.ClearFormat.{format_clear}
use Rattle.st_format.proofs.laws.format_sends_clear_beats.Goals as goal

pub returns : goal.returns
returns c = format_clear c.words_fit.ensures.turned c.empty_symbols_are_clear.ensures.clear c.empty_symbols_are_clear.ensures.narrow c.empty_symbols_are_clear.ensures.widen c.window_sends_clear_beats.ensures c.empty_symbols_are_clear.ensures.full c.args.format.now c.law.ensures.keeps c.law-2.ensures.keeps
