use Rattle.std.proofs.Common.{take, ap, ◌∙◌}
use Rattle.std.specs.Prelude.{ℕ}
use Rattle.std.specs.List.{list_all}
use Rattle.vcd_reader.specs.Reads.{is_of}
use Rattle.vcd_reader.proofs.Runs.{prefix_passes}
use Rattle.vcd_reader.proofs.reader.Reader.run.Goals as goal

pub returns-clause-bytes : goal.returns-clause-bytes
returns-clause-bytes c =
    let text = c.rest-text.result.now in
    ap (λ (n : ℕ). list_all (is_of c.args.kind) (take n text)) c.run_len-len.ensures.length ∙ prefix_passes (is_of c.args.kind) text
