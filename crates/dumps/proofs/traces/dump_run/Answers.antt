use Rattle.std.proofs.Common.{◌≡◌, ◌+◌, ◌++◌, ℕ, List, length, map, sym, ap, subst, ◌∙◌, arith}
use Rattle.av_base.specs.Word.{Word}
use Rattle.netlist.specs.Netlists.{Netlist}
use Rattle.cycle_sim.specs.Sims.{given_to, present}
use Rattle.vcd_text.specs.declared.port.DumpPort.{DumpPort}
use Rattle.vcd_text.specs.Dumps.{port_of, widths_of}
use Rattle.vcd_text.specs.Text.{head_text, row_text, time_line}
use Rattle.dumps.proofs.Ports.{row_widths}
use Rattle.dumps.proofs.RunLemmas.{none_dumped, next_dumped, all_dumped, written_back, gathered, row_count}
use Rattle.dumps.proofs.traces.dump_run.Goals as goal

pub cycles-init : goal.cycles-init
cycles-init c =
    let netlist = c.args.sim.now.netlist in
    let dumper = c.in_ok-dumper.dumper in
    let named : dumper.name ≡ netlist.name = c.in_ok-dumper.ensures.name ∙ ap (λ (n : Netlist). n.name) c.module.ensures in
    let ports : dumper.ports ≡ map port_of netlist.ports = c.in_ok-dumper.ensures.ports ∙ ap (λ (n : Netlist). map port_of n.ports) c.module.ensures in
    record {
      room = c.in_ok-inputs.ensures;
      count = c.in_ok-row.ensures ∙ ap length (c.ports.ensures ∙ ap (λ (n : Netlist). n.ports) c.module-2.ensures);
      dumped = none_dumped c.args.waves.now.rows c.args.sim.now c.head.new.sink.bytes dumper c.requires.new ports c.in_ok-dumper.ensures.none
          (gathered c.head.new.sink.bytes (c.new-sink.result.bytes ++ head_text dumper.name dumper.ports) c.if-not-head.ensures.puts
          ∙ ap (λ (bs : List ℕ). bs ++ head_text dumper.name dumper.ports) c.new-sink.ensures
          ∙ ap (λ (name : List ℕ). head_text name dumper.ports) named
          ∙ ap (λ (all : List DumpPort). head_text netlist.name all) ports);
    }

pub cycle-requires-clause-widths : goal.cycle-requires-clause-widths
cycle-requires-clause-widths c =
    let stepped = c.step.new.self in
    let same : stepped.netlist ≡ c.args.sim.now.netlist = c.step.ensures.netlist ∙ c.cycles.invariant.dumped.same in
    ap (λ (row : List Word). map (λ (value : Word). value.width) row) (c.as_slice-in-cycles.ensures.value ∙ c.take_row.ensures)
    ∙ row_widths stepped.netlist (present stepped) 0 stepped.netlist.ports
    ∙ ap (λ (n : Netlist). widths_of (map port_of n.ports)) same
    ∙ ap widths_of (sym c.cycles.invariant.dumped.ports_are)

pub cycles-preserved : goal.cycles-preserved
cycles-preserved c =
    let netlist = c.args.sim.now.netlist in
    let stepped = c.step.new.self in
    let same : stepped.netlist ≡ netlist = c.step.ensures.netlist ∙ c.cycles.invariant.dumped.same in
    let all : c.cycles.inputs.len ≡ length c.cycles.inputs.items = omega arith in
    let kept : length c.row.new.into ≡ length c.cycles.inputs.items = omega (arith, ap (λ (xs : List Word). length xs) c.as_mut_slice.ensures.value) in
    let back = written_back c.row.new.into c.cycles.inputs.items c.cycles.inputs.len all kept in
    let given : c.as_slice.result.now ≡ c.row.new.into = c.as_slice.ensures.value ∙ back in
    record {
      room = ap (λ (xs : List Word). length xs) back ∙ kept ∙ c.cycles.invariant.room;
      count = ap (λ (xs : List Word). length xs) c.take_row.ensures ∙ row_count stepped.netlist (present stepped) 0 stepped.netlist.ports ∙ ap (λ (n : Netlist). length n.ports) same;
      dumped = next_dumped c.rows_are_joined.ensures netlist c.args.waves.now.rows c.cycles.sim stepped c.advance.new.self c.cycles.cycle c.row.new.into c.as_slice-in-cycles.result.now c.cycles.sink.bytes c.cycle.new.sink.bytes
          c.cycles.dumper c.cycle.new.self c.cycles.invariant.dumped
          (record {
            is_row = c.row.ensures.row;
            step_netlist = c.step.ensures.netlist;
            step_inputs = λ k w is. subst (λ (xs : List Word). (present c.step.new.self).input k ≡ given_to c.step.new.self.netlist xs k) given (c.step.ensures.inputs k w is);
            step_stands = c.step.ensures.stands;
            edge_netlist = c.advance.ensures.netlist;
            edge_stands = c.advance.ensures.stands;
            row_is = c.as_slice-in-cycles.ensures.value ∙ c.take_row.ensures;
            told = gathered c.cycle.new.sink.bytes (c.cycles.sink.bytes ++ row_text c.cycles.dumper.cycles c.cycles.dumper.row c.as_slice-in-cycles.result.now) c.if-not-cycle.ensures.puts;
            kept = c.if-not-cycle.ensures.kept;
          });
    }

pub returns : goal.returns
returns c =
    let all : c.cycles.cycle ≡ length c.args.waves.now.rows = omega arith in
    all_dumped c.args.sim.now.netlist c.args.waves.now.rows c.cycles.sim c.cycles.cycle c.cycles.sink.bytes c.into_bytes.result c.cycles.dumper all c.cycles.invariant.dumped
    (c.into_bytes.ensures ∙ gathered c.finish.new.sink.bytes (c.cycles.sink.bytes ++ time_line c.cycles.dumper.cycles) c.if-not-finish.ensures.puts)
