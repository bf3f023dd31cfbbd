use Rattle.waves.specs.Rows.{input_widths}
use Rattle.replays.proofs.LawLemmas.{either, never, one_fault}
use Rattle.replays.proofs.laws.replayed_or_refused.Goals as goal

pub returns-clause-either : goal.returns-clause-either
returns-clause-either c netlist bytes = either netlist bytes (c.rows_or_fault.ensures (input_widths netlist.ports) bytes)

pub returns-clause-never_both : goal.returns-clause-never_both
returns-clause-never_both c netlist bytes fault =
    never netlist bytes fault
    (record { never_both = c.never_both.ensures (input_widths netlist.ports) bytes; one_reading = c.no_two_readings.ensures (input_widths netlist.ports) bytes; one_fault = c.no_two_first_faults.ensures (input_widths netlist.ports) bytes })

pub returns-clause-one_fault : goal.returns-clause-one_fault
returns-clause-one_fault c netlist bytes one other =
    one_fault netlist bytes one other
    (record { never_both = c.never_both.ensures (input_widths netlist.ports) bytes; one_reading = c.no_two_readings.ensures (input_widths netlist.ports) bytes; one_fault = c.no_two_first_faults.ensures (input_widths netlist.ports) bytes })
