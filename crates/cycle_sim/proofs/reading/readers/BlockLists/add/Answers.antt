use Rattle.std.proofs.Common.{◌≡◌, ◌<◌, [], ◌∷◌, ◌++◌, length, slice_set, refl, sym, subst, ap, ◌∙◌}
use Rattle.std.proofs.lemmas.Option.{slice_get_read, get_or_from_slice_get}
use Rattle.cycle_sim.specs.Readers.{HasBesides, list_at}
use Rattle.cycle_sim.proofs.reading.Blocks.{besides_added}
use Rattle.cycle_sim.proofs.reading.readers.BlockLists.add.Goals as goal

pub returns-in_ok-push : goal.returns-in_ok-push
returns-in_ok-push c =
    let items = c.self.inside.lists.items in
    let inside : c.args.number < length items = subst (λ xs. c.args.number < length xs) (sym c.self.view_is) c.requires in
    let there = slice_get_read items (length items) c.args.number c.index_mut.result.now refl inside c.index_mut.ensures.value in
    let pushed : list_at items c.args.number ++ c.args.block ∷ [] ≡ c.push.new.self = ap (λ xs. xs ++ c.args.block ∷ []) (get_or_from_slice_get items c.args.number c.index_mut.result.now [] there) ∙ sym c.in_ok-push.ensures.ok in
    subst (λ xs. HasBesides xs (slice_set items c.args.number c.push.new.self) c.args.number c.args.block) c.self.view_is
    (subst (λ xs. HasBesides items (slice_set items c.args.number xs) c.args.number c.args.block) pushed (besides_added items c.args.number c.args.block inside))
