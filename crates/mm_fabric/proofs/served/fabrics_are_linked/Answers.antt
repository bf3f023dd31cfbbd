use Rattle.mm_fabric.proofs.served.fabrics_are_linked.Goals as goal

pub returns : goal.returns
returns c = λ plan is_plan netlist fabric is longer extends run endless end legal.
    let linked = c.fabrics_are_fairly_linked.ensures plan is_plan netlist fabric is longer extends run endless end legal in
    (linked.0, linked.1, linked.2, linked.3, linked.4)
