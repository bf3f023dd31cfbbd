use Rattle.std.proofs.Common.{◌≡◌, ◌≤◌, ◌++◌, ◌∷◌, [], List, length, take, take_all, sym, ap, ◌∙◌, subst, arith}
use Rattle.std.specs.Prelude.{All}
use Rattle.std.proofs.lemmas.List.{map-append, map_more}
use Rattle.std.proofs.lemmas.List.Elements.{All-more, All-push}
use Rattle.component_scripts.specs.Library.{interfaces_of}
use Rattle.system_tables.specs.declared.tables.InterfaceTable.{InterfaceTable}
use Rattle.component_scripts.specs.Tables.{ComponentTable, IsComponent}
use Rattle.component_scripts.proofs.types.library.Library.interfaces.Goals as goal

pub loop-component-preserved : goal.loop-component-preserved
loop-component-preserved c =
    let components = c.components-component-items.result.now in
    let i = c.loop-component.component-index in
    record {
      copied = c.in_ok-push_interfaces.ensures.pushed
          ∙ ap (λ (t : List (List InterfaceTable)). t ++ c.component-item.result.interfaces ∷ []) c.loop-component.invariant.copied
          ∙ ap (λ (component : ComponentTable). interfaces_of (take i components) ++ component.interfaces ∷ []) c.component-item.is
          ∙ sym (map_more (λ (component : ComponentTable). component.interfaces) components i c.component-item.result c.loop-component-test.true);
      made = All-more IsComponent components i c.component-item.result c.loop-component-test.true c.loop-component.invariant.made (subst IsComponent c.component-item.is c.push_interfaces.ensures.made);
    }

pub loop-component-init : goal.loop-component-init
loop-component-init c = record { copied = c.new-copy.ensures; made = λ k d less. absurd (omega (arith, less)) }

all_seen : (c : goal.In_ok-push_interfaces-2) → take c.loop-component.component-index c.components-component-items.result.now ≡ c.self.inside.catalog.now
all_seen c =
    let items = c.components-component-items.result.now in
    let past : length items ≤ c.loop-component.component-index = omega arith in
    take_all c.loop-component.component-index items past ∙ c.components-component-items.ensures

pub returns-clause-interfaces : goal.returns-clause-interfaces
returns-clause-interfaces c =
    let last = c.self.inside.clock_source in
    rw (← c.self.view_is)
    (c.in_ok-push_interfaces-2.ensures.pushed
    ∙ ap (λ (t : List (List InterfaceTable)). t ++ last.interfaces ∷ []) (c.loop-component.invariant.copied ∙ ap interfaces_of (all_seen c))
    ∙ sym (map-append (λ (component : ComponentTable). component.interfaces) c.self.inside.catalog.now (last ∷ [])))

pub returns-clause-made : goal.returns-clause-made
returns-clause-made c =
    rw (← c.self.view_is)
    (All-push IsComponent c.self.inside.catalog.now c.self.inside.clock_source (subst (All IsComponent) (all_seen c) c.loop-component.invariant.made) c.push_interfaces-2.ensures.made)
