use Rattle.stage_core.specs.Lasting.{beat_lasts}
use Rattle.net_parts.specs.Laws.{extends_twice, adds_fewer, adds_twice, net_lasts}
use Rattle.std.proofs.Common.{arith}
use Rattle.stage_core.specs.Refusing.{handed_on}
use Rattle.st_format.proofs.narrow.cut_beat.Goals as goal

pub leave_rest-requires-clause-beat : goal.leave_rest-requires-clause-beat
leave_rest-requires-clause-beat c = beat_lasts _ _ _ (extends_twice _ _ _ c.part_follows.ensures.adds.grows.extends c.show_part.ensures.adds.grows.extends) c.requires.beat

pub leave_rest-requires-clause-follows : goal.leave_rest-requires-clause-follows
leave_rest-requires-clause-follows c cycle v = c.in_ok-more.ensures.value cycle (c.show_part.ensures.adds.grows.extends.valuations cycle v)

pub returns-clause-part : goal.returns-clause-part
returns-clause-part c = beat_lasts _ _ _ c.leave_rest.ensures.adds.grows.extends c.in_ok-part.ensures.part

pub returns-clause-shows : goal.returns-clause-shows
returns-clause-shows c cycle v = c.in_ok-part.ensures.value cycle (c.leave_rest.ensures.adds.grows.extends.valuations cycle v)

pub show_part-requires-clause-beat : goal.show_part-requires-clause-beat
show_part-requires-clause-beat c = beat_lasts _ _ _ c.part_follows.ensures.adds.grows.extends c.requires.beat

pub show_part-requires-clause-follows : goal.show_part-requires-clause-follows
show_part-requires-clause-follows c = c.in_ok-more.ensures.value

pub leave_rest-requires-clause-more : goal.leave_rest-requires-clause-more
leave_rest-requires-clause-more c = net_lasts _ _ _ _ c.show_part.ensures.adds.grows.extends c.in_ok-more.ensures.net

pub returns-in_err-more-clause-adds : goal.returns-in_err-more-clause-adds
returns-in_err-more-clause-adds c = adds_fewer _ _ _ _ (omega arith) c.part_follows.ensures.adds

pub returns-in_err-part-clause-adds : goal.returns-in_err-part-clause-adds
returns-in_err-part-clause-adds c = adds_fewer _ _ _ _ (omega arith) (adds_twice _ _ _ _ _ c.part_follows.ensures.adds c.show_part.ensures.adds)

pub returns-in_err-rest-clause-adds : goal.returns-in_err-rest-clause-adds
returns-in_err-rest-clause-adds c = adds_fewer _ _ _ _ (omega arith) (adds_twice _ _ _ _ _ (adds_twice _ _ _ _ _ c.part_follows.ensures.adds c.show_part.ensures.adds) c.leave_rest.ensures.adds)

pub returns-clause-adds : goal.returns-clause-adds
returns-clause-adds c = adds_fewer _ _ _ _ (omega arith) (adds_twice _ _ _ _ _ (adds_twice _ _ _ _ _ c.part_follows.ensures.adds c.show_part.ensures.adds) c.leave_rest.ensures.adds)

pub returns-in_err-more-clause-full : goal.returns-in_err-more-clause-full
returns-in_err-more-clause-full c e = let full = c.part_follows.ensures.full (handed_on _ _ _ _ c.in_err-more.was c.from_residual.ensures.1 e) in omega (arith, full)

pub returns-in_err-part-clause-full : goal.returns-in_err-part-clause-full
returns-in_err-part-clause-full c e = let most0 = c.part_follows.ensures.adds.most in let full = c.show_part.ensures.full (handed_on _ _ _ _ c.in_err-part.was c.from_residual-in_err-part.ensures.1 e) in omega (arith, most0, full)

pub returns-in_err-rest-clause-full : goal.returns-in_err-rest-clause-full
returns-in_err-rest-clause-full c e = let most0 = c.part_follows.ensures.adds.most in let most1 = c.show_part.ensures.adds.most in let full = c.leave_rest.ensures.full (handed_on _ _ _ _ c.in_err-rest.was c.from_residual-in_err-rest.ensures.1 e) in omega (arith, most0, most1, full)

pub returns-clause-full : goal.returns-clause-full
returns-clause-full c e = cc
