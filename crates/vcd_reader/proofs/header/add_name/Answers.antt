use Rattle.std.proofs.Common.{ℕ, List}
use Rattle.vcd_reader.proofs.Runs.{names_more}
use Rattle.vcd_reader.proofs.header.add_name.Goals as goal

pub returns : goal.returns
returns c = λ ports port same are.
    names_more ports port c.args.name.now c.args.names.now c.insert.new.self same
    (λ (bytes : List ℕ). c.in_ok-insert.ensures.updates.0 (record { ref_ptr = (0, 0); now = bytes })) are
