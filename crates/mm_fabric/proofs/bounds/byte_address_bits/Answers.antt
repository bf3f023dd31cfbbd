use Rattle.std.proofs.Common.{◌*◌, ◌^◌, if◌then◌else◌, sym, ap, ◌∙◌}
use Rattle.std.proofs.lemmas.Nat.{pow-add}
use Rattle.mm_fabric.proofs.bounds.byte_address_bits.Goals as goal

pub returns-else-port : goal.returns-else-port
returns-else-port c =
    let port = c.args.port.now in
    pow-add 2 port.address_bits c.lane_bits.result ∙ ap (λ k. 2 ^ port.address_bits * k) (sym c.lane_bits.ensures.power) ∙ sym (ap (λ t. 2 ^ port.address_bits * (if t then 1 else port.word_bytes)) c.if-port.false)
