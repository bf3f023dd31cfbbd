use Rattle.std.proofs.Common.{[], string_bytes, ap, subst, ◌∙◌}
use Rattle.std.specs.Fmt.{AppendsText, digits_output, styled_digits_output}
use Rattle.map_text.proofs.TextLemmas.{address_hole}
use Rattle.map_text.proofs.put_address.Goals as goal

pub returns : goal.returns
returns c =
    let hole = ap (styled_digits_output c.in_radix.result) c.laid_out.ensures ∙ address_hole (digits_output c.in_radix.result) [] c.args.address c.in_radix.ensures in
    subst (AppendsText (string_bytes c.args.text.now) (string_bytes c.write.new.self)) hole c.in_ok-write.ensures.bytes
