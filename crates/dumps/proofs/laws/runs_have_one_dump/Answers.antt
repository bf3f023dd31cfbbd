use Rattle.std.proofs.Common.{List, length, ap, map}
use Rattle.av_base.specs.Word.{Word}
use Rattle.vcd_text.specs.Dumps.{port_of}
use Rattle.vcd_text.specs.Text.{DumpValue}
use Rattle.dumps.proofs.SameRows.{same_rows, same_inputs}
use Rattle.dumps.proofs.laws.runs_have_one_dump.Goals as goal

pub returns : goal.returns
returns c netlist sound rows one other x y =
    let nets = c.one_run.ensures netlist sound one other (length rows) x.is_run y.is_run (same_inputs netlist rows one other x y) in
    let make : List (List Word) → DumpValue = λ values. record { name = netlist.name; ports = map port_of netlist.ports; rows = values } in
    ap make (same_rows netlist one other (length rows) sound nets)
