use Rattle.avalon_top.proofs.outcome.write_replies.Goals as goal

pub returns-then-write-clause-grows : goal.returns-then-write-clause-grows
returns-then-write-clause-grows g c = let some = c.requires in (c.write.ensures some.beats some.words some.noted).grows

pub returns-then-write-clause-below : goal.returns-then-write-clause-below
returns-then-write-clause-below g c = let some = c.requires in (c.write.ensures some.beats some.words some.noted).below

pub returns-else-write-clause-grows : goal.returns-else-write-clause-grows
returns-else-write-clause-grows g c = let some = c.requires in (c.write.ensures some.beats some.words some.noted).grows

pub returns-else-write-clause-below : goal.returns-else-write-clause-below
returns-else-write-clause-below g c = let some = c.requires in (c.write.ensures some.beats some.words some.noted).below
