use Rattle.benches.proofs.hosts.laws.hosts_are_told.Goals as goal

pub returns-clause-stays : goal.returns-clause-stays
returns-clause-stays c system number host sim of = record { at = record { end = of.at.end; end_is = of.at.end_is; is = of.at.is }; name = of.name; places = of.places; ports = of.ports }
