use Rattle.std.proofs.Common.{◌<◌, length, refl, sym, subst, ◌∙◌}
use Rattle.std.specs.Prelude.{None}
use Rattle.std.proofs.lemmas.Bool.{eqb-true}
use Rattle.std.proofs.lemmas.Option.{get_or_from_slice_get, slice_get_read}
use Rattle.settled_netlists.proofs.Rounds.{held_is}
use Rattle.settled_netlists.proofs.values.is_held.Goals as goal

pub returns-in-Some-Some-clause-held : goal.returns-in-Some-Some-clause-held
returns-in-Some-Some-clause-held c same =
    let inside : c.args.net < length c.args.values.now = subst (λ n. c.args.net < n) (sym c.requires.count) c.requires.net_is in
    let read = slice_get_read c.args.values.now (length c.args.values.now) c.args.net c.index-values-net.result refl inside c.index-values-net.is in
    held_is c.args.module.now c.args.values.now c.args.net c.in-Some-Some.value c.in-Some-Some.given c.requires.module c.requires.widths c.requires.net_is
    (get_or_from_slice_get c.args.values.now c.args.net c.index-values-net.result None read ∙ c.in-Some-Some.is-0) c.in-Some-Some.ensures
    (sym c.bits.ensures.value ∙ eqb-true _ _ same ∙ c.bits-in-Some-Some.ensures.value)
