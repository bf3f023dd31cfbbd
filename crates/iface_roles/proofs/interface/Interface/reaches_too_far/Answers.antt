use Rattle.std.proofs.Common.{◌<◌, sym, ap, ◌∙◌, nat_lt, arith}
use Rattle.iface_roles.specs.Held.{width_of}
use Rattle.iface_roles.specs.declared.roles.Role.TheVariants.{Address}
use Rattle.iface_roles.proofs.RuleLemmas.{reaches_too_far-bytes, reaches_too_far-words}
use Rattle.iface_roles.proofs.interface.Interface.reaches_too_far.Goals as goal

pub returns-then-counts_bytes : goal.returns-then-counts_bytes
returns-then-counts_bytes c =
    let i = c.args.self.now in
    let wide : 32 < width_of i Address = omega arith in
    c.if-counts_bytes.true ∙ sym (reaches_too_far-bytes i.side i (sym c.counts_bytes.ensures ∙ c.if-counts_bytes.true) wide)

pub returns-else-counts_bytes : goal.returns-else-counts_bytes
returns-else-counts_bytes c =
    let i = c.args.self.now in
    let wide : 32 < width_of i Address = omega arith in
    ap (nat_lt 0) (c.from-word.ensures ∙ c.word_bytes.ensures) ∙ sym (reaches_too_far-words i.side i (sym c.counts_bytes.ensures ∙ c.if-counts_bytes.false) wide)
