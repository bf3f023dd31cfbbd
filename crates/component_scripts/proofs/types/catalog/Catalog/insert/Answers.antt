use Rattle.std.proofs.Common.{◌≡◌, ◌++◌, ◌∷◌, [], ℕ, List, false, sym, ap, ◌∙◌, subst}
use Rattle.std.specs.Prelude.{is_some}
use Rattle.std.proofs.lemmas.Bool.{or_parts}
use Rattle.std.proofs.lemmas.List.{map-append}
use Rattle.script_words.specs.Names.{place_of}
use Rattle.component_scripts.specs.Catalog.{is_refused, types_of}
use Rattle.component_scripts.specs.Tables.{ComponentTable}
use Rattle.component_scripts.proofs.types.catalog.Catalog.insert.Goals as goal

pub add_for-requires : goal.add_for-requires
unfolding is_refused
add_for-requires c =
    let new = (or_parts _ _ (rw (← c.self.view_is) at c.requires)).1 in
    subst (λ n. is_some (place_of c.self.inside.names n) ≡ false) (sym c.name.ensures)
    (ap (λ ns. is_some (place_of ns c.args.component.name)) c.self.invariant.all ∙ new)

pub invariant_of-self : goal.invariant_of-self
invariant_of-self c = record { all = c.in_err-add_for.ensures.err ∙ c.self.invariant.all ∙ ap types_of (sym c.in_err-add_for.ensures.items) }

pushed : (c : goal.After-unwrap) → c.push.new.self.items ≡ c.self.inside.components.items ++ c.args.component ∷ []
pushed c = (rw c.unwrap.ensures at c.push.ensures.items) ∙ ap (λ xs. xs ++ c.args.component ∷ []) c.in_ok-add_for.ensures.items

pub invariant_of-self-2 : goal.invariant_of-self-2
invariant_of-self-2 c =
    record {
      all = c.in_ok-add_for.ensures.ok
          ∙ ap (λ (n : List ℕ). c.self.inside.names ++ n ∷ []) c.name.ensures
          ∙ ap (λ (ns : List (List ℕ)). ns ++ c.args.component.name ∷ []) c.self.invariant.all
          ∙ sym (ap types_of (pushed c) ∙ map-append (λ (component : ComponentTable). component.name) c.self.inside.components.items (c.args.component ∷ []));
    }

pub returns-clause-added : goal.returns-clause-added
returns-clause-added c = rw (← c.self.view_is) (pushed c)
