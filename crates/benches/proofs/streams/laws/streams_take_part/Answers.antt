use Rattle.port_rows.specs.Sources.{source_levels}
use Rattle.port_rows.specs.Levels.{level_if}
use Rattle.histories.specs.History.{one_if}
use Rattle.benches.specs.Streams.{is_ready, shown_by}
use Rattle.benches.proofs.streams.Part.{EndsAreShown, fits, room, seen}
use Rattle.benches.proofs.streams.laws.streams_take_part.Goals as goal

pub returns-clause-fit : goal.returns-clause-fit
returns-clause-fit c = λ plan number script stream sim is known same of early.
    fits plan.system number script stream sim of (c.links_are_sound.ensures plan is number of.link of.link_is) known same early

pub returns-clause-room : goal.returns-clause-room
returns-clause-room c = λ system row number script stream known kept same of beat_fits ready_fits.
    room system row number script stream c.sources_are_shown.ensures.room c.sinks_are_shown.ensures.room of (c.streams_are_numbered.ensures.links system kept number of.link of.link_is) known same
    beat_fits ready_fits

pub returns-clause-seen : goal.returns-clause-seen
returns-clause-seen c = λ system netlist run row sim number script stream of known kept given same present beat_fits ready_fits stand.
    let shown : EndsAreShown system netlist run stream.cycle row = record {
      source = c.sources_are_shown.ensures.shown system netlist run stream.cycle row known given;
      answered = λ end. c.sources_are_answered.ensures system netlist run stream.cycle end given.ports;
      ready = c.sinks_are_shown.ensures.shown system netlist run stream.cycle row known given;
      valid = λ end. c.sinks_are_answered.ensures.valid system netlist run stream.cycle end given.ports;
      beat = λ end. c.sinks_are_answered.ensures.beat system netlist run stream.cycle end given.ports;
      dropped = λ end. c.sinks_are_answered.ensures.dropped system netlist run stream.cycle end given.ports;
    } in
    let beat = source_levels stream.places (shown_by stream) in
    let ready = level_if stream.ready_place (one_if (is_ready stream)) in
    seen system netlist run row sim number script stream of shown (c.streams_are_numbered.ensures.links system kept number of.link of.link_is) same present beat_fits ready_fits
    (c.levels_stand.ensures.front row beat ready stand) (c.levels_stand.ensures.back row beat ready stand)
