use Rattle.waves.specs.Rows.{input_widths}
use Rattle.dumps.proofs.replayed.LawLemmas.{can_replay, one_dump}
use Rattle.dumps.proofs.replayed.laws.texts_are_dumped_as_replayed.Goals as goal

pub returns : goal.returns
returns c = record {
  replayed = can_replay;
  one_dump = λ text waves one other. one_dump text waves one other (record {
    one_module = c.no_two_modules.ensures;
    one_reading = λ netlist. c.no_two_readings.ensures (input_widths netlist.ports) waves;
    one_dump = c.runs_have_one_dump.ensures;
  });
}
