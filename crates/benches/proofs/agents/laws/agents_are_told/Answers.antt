use Rattle.benches.proofs.agents.Telling.{TellsByPorts, lines_told, beats_counted, agent_stays, stand_in_goes_on}
use Rattle.benches.proofs.agents.laws.agents_are_told.Goals as goal

pub returns-clause-lines : goal.returns-clause-lines
returns-clause-lines c =
    let told = c.agents_are_told_by_their_ports.ensures in
    let law : TellsByPorts = record { nothing = told.nothing; write = told.write; read = told.read; one_beat = told.one_beat; words = told.words } in
    lines_told c.stand_ins_stand_for_runs.ensures.takes law

pub returns-clause-counted : goal.returns-clause-counted
returns-clause-counted c =
    let told = c.agents_are_told_by_their_ports.ensures in
    let law : TellsByPorts = record { nothing = told.nothing; write = told.write; read = told.read; one_beat = told.one_beat; words = told.words } in
    beats_counted c.stand_ins_stand_for_runs.ensures.takes law

pub returns-clause-stays : goal.returns-clause-stays
returns-clause-stays c = agent_stays

pub returns-clause-goes_on : goal.returns-clause-goes_on
returns-clause-goes_on c = stand_in_goes_on c.stand_ins_stand_for_runs.ensures.goes_on
