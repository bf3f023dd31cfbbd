use Rattle.std.proofs.Common.{◌≡◌, ◌<◌, List, length, slice_get, Some, sym, ap, ◌∙◌, subst}
use Rattle.std.proofs.lemmas.Option.{slice_get_within}
use Rattle.system_tables.specs.declared.tables.InterfaceTable.{InterfaceTable}
use Rattle.system_tables.proofs.KeptLemmas.{kept_end}
use Rattle.system_tables.proofs.system.System.interface_table.Goals as goal

pub at-interfaces-requires : goal.at-interfaces-requires
at-interfaces-requires c =
    let kept = kept_end c.self.inside c.args.self.now c.args.end c.requires.0 c.as_slice.result.now c.at-instance.result.now c.self.view_is c.requires.1 c.as_slice.ensures.value c.at-instance.ensures in
    subst (λ (l : List (List InterfaceTable)). c.at-instance.result.now.component < length l) (sym c.as_slice-2.ensures) kept.within

pub at-requires : goal.at-requires
at-requires c =
    let kept = kept_end c.self.inside c.args.self.now c.args.end c.requires.0 c.as_slice.result.now c.at-instance.result.now c.self.view_is c.requires.1 c.as_slice.ensures.value c.at-instance.ensures in
    let there : Some c.at-interfaces.result.now ≡ Some c.requires.1.instance.interfaces =
    sym c.at-interfaces.ensures ∙ ap (λ (l : List (List InterfaceTable)). slice_get l c.at-instance.result.now.component) c.as_slice-2.ensures ∙ kept.interfaces in
    slice_get_within _ _ c.requires.1.interface (let same : c.as_slice-3.result.now ≡ c.requires.1.instance.interfaces = cc in cc)

pub returns : goal.returns
returns c =
    let kept = kept_end c.self.inside c.args.self.now c.args.end c.requires.0 c.as_slice.result.now c.at-instance.result.now c.self.view_is c.requires.1 c.as_slice.ensures.value c.at-instance.ensures in
    let there : Some c.at-interfaces.result.now ≡ Some c.requires.1.instance.interfaces =
    sym c.at-interfaces.ensures ∙ ap (λ (l : List (List InterfaceTable)). slice_get l c.at-instance.result.now.component) c.as_slice-2.ensures ∙ kept.interfaces in
    record { instance = c.requires.1.instance; instance_is = c.requires.1.instance_is; interface_is = (let same : c.as_slice-3.result.now ≡ c.requires.1.instance.interfaces = cc in cc) }
