use Rattle.std.proofs.Common.{Err, ℕ, List, sym, ap, subst, arith}
use Rattle.netlist.specs.declared.line.PortLine.{PortLine}
use Rattle.netlist.specs.Netlists.{IsHeader, input_count}
use Rattle.port_tables.specs.Ports.{module_name}
use Rattle.port_tables.specs.EndFacts.{planned}
use Rattle.port_tables.proofs.Headers.{AreBounded, is_header, inputs-few}
use Rattle.port_tables.proofs.header.start.Goals as goal

pub new-requires : goal.new-requires
new-requires c =
    let system = c.args.plan.now.system in
    let laws : AreBounded = record {
      host = c.proper_records_are_bounded.ensures.host;
      agent = c.proper_records_are_bounded.ensures.agent;
      source = c.proper_records_are_bounded.ensures.source;
      sink = c.proper_records_are_bounded.ensures.sink;
    } in
    let known = subst (λ (ports : List PortLine). IsHeader (module_name system) ports) (sym c.in_ok-lines.ensures) (is_header system laws (planned c.args.plan.now c.well_made.ensures)) in
    subst (λ (name : List ℕ). IsHeader name c.in_ok-lines.lines) (sym c.in_ok-name.ensures) known

pub unreachable-requires : goal.unreachable-requires
unreachable-requires c =
    let few = inputs-few c.args.plan.now.system (planned c.args.plan.now c.well_made.ensures) in
    let full = c.in-Err-TooManyNets.ensures.full.0 (ap Err c.in-Err-TooManyNets.field-0-is) in
    let same = ap input_count c.in_ok-lines.ensures in
    absurd (omega (arith, full, few, same))
