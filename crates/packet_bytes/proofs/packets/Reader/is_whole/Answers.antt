use Rattle.packet_bytes.proofs.Reading.{whole_by, open_by}
use Rattle.packet_bytes.proofs.packets.Reader.is_whole.Goals as goal

pub returns-clause-whole : goal.returns-clause-whole
returns-clause-whole c = λ fed h. whole_by c.at_rest.result fed c.args.self.now c.at_rest.ensures.rests h

pub returns-clause-open_still : goal.returns-clause-open_still
returns-clause-open_still c = λ fed h. open_by c.at_rest.result fed c.args.self.now c.at_rest.ensures.rests h
