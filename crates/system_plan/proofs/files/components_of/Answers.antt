use Rattle.std.proofs.Common.{◌≡◌, ◌<◌, ◌≤◌, ◌∙◌, [], Some, length, slice_get, sym, subst, take_all, arith}
use Rattle.std.proofs.lemmas.Option.{gets}
use Rattle.std.proofs.lemmas.Result.{err_from_is_err_and}
use Rattle.system_plan.specs.Systems.{AreComponents, IsComponentRefused}
use Rattle.system_plan.proofs.ComponentLemmas.{AreComponents-none, AreComponents-step}
use Rattle.system_plan.proofs.ScriptLemmas.{IsScriptCause-weaker}
use Rattle.system_plan.proofs.files.components_of.Goals as goal

pub loop-k-init : goal.loop-k-init
loop-k-init c = subst (AreComponents []) (sym c.new-catalog.ensures) (AreComponents-none [])

pub add_component-requires : goal.add_component-requires
add_component-requires c =
    let at = c.index-component_files-k in
    subst (λ bytes. length bytes < 2147483648) (sym (c.as_slice.ensures ∙ at.is)) (c.requires.short c.loop-k.k at.result c.loop-k-test.true)

pub loop-k-preserved : goal.loop-k-preserved
loop-k-preserved c =
    let added = c.in_ok-add_component.ensures.added in
    let there : slice_get c.args.component_files.now c.loop-k.k ≡ Some c.as_slice.result.now = grind (arith, gets, c.index-component_files-k.is) in
    AreComponents-step c.args.component_files.now c.loop-k.k c.loop-k.catalog c.add_component.new.catalog c.as_slice.result.now added.0 c.loop-k.invariant there added.1 added.2

pub returns-in_err-add_component-clause-refused : goal.returns-in_err-add_component-clause-refused
returns-in_err-add_component-clause-refused c =
    let files = c.args.component_files.now in
    let bytes = c.as_slice.result.now in
    let there : slice_get files c.loop-k.k ≡ Some bytes = grind (arith, gets, c.index-component_files-k.is) in
    let p = err_from_is_err_and c.from_residual.result c.from_residual.ensures.1 in
    rw (p.1, p.2) (IsScriptCause-weaker _ (IsComponentRefused files)
    (λ place rule refused. record { number = c.loop-k.k; components = c.loop-k.catalog; before = c.loop-k.invariant; bytes = bytes; is = there; refused = refused })
    c.in_err-add_component.field-0.0 c.in_err-add_component.ensures.refused)

pub returns-clause-accepted : goal.returns-clause-accepted
returns-clause-accepted c =
    let files = c.args.component_files.now in
    let past : length files ≤ c.loop-k.k = omega arith in
    subst (λ front. AreComponents front c.loop-k.catalog) (take_all c.loop-k.k files past) c.loop-k.invariant
