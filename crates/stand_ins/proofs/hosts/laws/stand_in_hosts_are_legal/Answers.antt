use Rattle.stand_ins.proofs.hosts.Legality.{legal}
use Rattle.stand_ins.proofs.hosts.laws.stand_in_hosts_are_legal.Goals as goal

pub returns : goal.returns
returns c = λ port script view end fits stand_in. legal port script view end fits.each stand_in
