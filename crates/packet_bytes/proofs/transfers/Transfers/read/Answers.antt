use Rattle.std.proofs.Common.{◌≡◌, None, sym, ap, subst, ◌∙◌, arith}
use Rattle.packet_bytes.specs.Rules.{IsWordSize, first_fault}
use Rattle.packet_bytes.proofs.Sizes.{passes}
use Rattle.packet_bytes.proofs.Faultless.{all_sound}
use Rattle.packet_bytes.proofs.transfers.Transfers.read.Goals as goal

pub invariant_of-result : goal.invariant_of-result
invariant_of-result c =
    let word_bytes = c.from-word_bytes.result in
    let packets = c.in_ok-packets.packets.items in
    let faultless : first_fault word_bytes c.args.range 0 packets ≡ None = ap (first_fault word_bytes c.args.range 0) (sym c.as_slice.ensures.value) ∙ sym c.first_fault.ensures ∙ c.in_default.is in
    let sound = all_sound word_bytes c.args.range 0 packets (omega arith) faultless in
    record {
      sized = passes word_bytes (subst IsWordSize (sym c.from-word_bytes.ensures) c.requires);
      have_bytes = sound.sized;
      are_few = let few = sound.few in omega arith;
    }
