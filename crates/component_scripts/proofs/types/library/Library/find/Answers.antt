use Rattle.std.proofs.Common.{Some, None, cond, sym, ap, ◌∙◌, length}
use Rattle.std.specs.Str.{bytes_eq}
use Rattle.component_scripts.specs.Tables.{ComponentTable}
use Rattle.component_scripts.proofs.types.LibraryLemmas.{type_place-last}
use Rattle.component_scripts.proofs.types.library.Library.find.Goals as goal

pub returns-then-eq : goal.returns-then-eq
returns-then-eq c =
    let components = c.self.inside.catalog.now in
    let name = c.args.name.now in
    rw (← c.self.view_is)
    (sym (type_place-last components c.self.inside.clock_source name (sym c.in_default.ensures)
    ∙ ap (λ (t : ComponentTable). cond (bytes_eq name t.name) (Some (length components)) None) c.self.invariant
    ∙ ap (λ b. cond b (Some (length components)) None) (sym c.eq.ensures ∙ c.if-eq.true)
    ∙ ap Some (sym c.len.ensures)))

pub returns : goal.returns
returns c =
    let components = c.self.inside.catalog.now in
    let name = c.args.name.now in
    rw (← c.self.view_is)
    (sym (type_place-last components c.self.inside.clock_source name (sym c.in_default.ensures)
    ∙ ap (λ (t : ComponentTable). cond (bytes_eq name t.name) (Some (length components)) None) c.self.invariant
    ∙ ap (λ b. cond b (Some (length components)) None) (sym c.eq.ensures ∙ c.if-eq.false)))
