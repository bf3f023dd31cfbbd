use Rattle.std.proofs.Common.{◌<◌, ◌∷◌, [], ◌++◌, List, ◌∙◌, ap, sym, refl, subst, length, slice_set}
use Rattle.std.proofs.lemmas.Option.{slice_get_read}
use Rattle.scenario_tables.specs.Changes.{changed_at}
use Rattle.scenario_tables.proofs.ChangeLemmas.{set_changed}
use Rattle.scenario_tables.proofs.scripts.Scripts.push.Goals as goal

pub returns-clause-ok : goal.returns-clause-ok
returns-clause-ok g c =
    let items = c.self.inside.scripts.items in
    let inside : c.args.number < length items = subst (λ xs. c.args.number < length xs) (sym c.self.view_is) c.requires in
    let there = slice_get_read items (length items) c.args.number c.index_mut.result.now refl inside c.index_mut.ensures.value in
    let add = λ (script : List g.row.T.Denot). script ++ c.args.statement ∷ [] in
    ap (slice_set items c.args.number) c.in_ok-push.ensures.ok ∙ set_changed items c.args.number c.index_mut.result.now add there ∙ ap (changed_at c.args.number add) c.self.view_is
