use Rattle.std.proofs.Common.{◌++◌, string_bytes, ap, sym, ◌∙◌}
use Rattle.verilog_writer.proofs.TextLemmas.{write_line-parts}
use Rattle.verilog_writer.proofs.put_write.Goals as goal

pub returns : goal.returns
returns c =
    let parts = write_line-parts c.args.number (record { enable = c.args.memory.now.enable; address = c.args.memory.now.address; word = c.args.memory.now.word }) in
    c.in_ok-write.ensures.bytes ∙ ap (λ t. string_bytes c.args.text.now ++ t) (sym parts)
