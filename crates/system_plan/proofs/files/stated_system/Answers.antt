use Rattle.std.proofs.Common.{◌≡◌, ◌<◌, ◌≤◌, ◌∙◌, Some, slice_get, length, drop, sym, subst, inl, inr, arith}
use Rattle.std.specs.Prelude.{All}
use Rattle.std.proofs.lemmas.Option.{gets}
use Rattle.std.proofs.lemmas.Result.{IfOk-weaker, IfErr-weaker, err_from_is_err_and}
use Rattle.system_plan.specs.Scripts.{States, IsRefused}
use Rattle.system_plan.specs.Systems.{SaysSystem, RefusesSystem, AreComponents, IsSystemOf, IsComponentRefused, IsScriptRefused}
use Rattle.system_plan.specs.Plans.{IsScriptCause}
use Rattle.system_plan.proofs.FrontLemmas.{All-rest, length-rest, rest_is}
use Rattle.system_plan.proofs.ScriptLemmas.{IsScriptCause-weaker}
use Rattle.system_plan.proofs.files.stated_system.Goals as goal

pub components_of-requires-clause-few : goal.components_of-requires-clause-few
components_of-requires-clause-few c =
    let files = c.args.files.now in
    subst (λ rest. length rest ≤ 63) (sym (rest_is files)) (omega (arith, length-rest files, c.requires.few))

pub components_of-requires-clause-short : goal.components_of-requires-clause-short
components_of-requires-clause-short c =
    let files = c.args.files.now in
    subst (All (λ bytes. length bytes < 2147483648)) (sym (rest_is files)) (All-rest (λ bytes. length bytes < 2147483648) files c.requires.short)

pub returns-in_err-components-clause-refused : goal.returns-in_err-components-clause-refused
returns-in_err-components-clause-refused c =
    let files = c.args.files.now in
    let p = err_from_is_err_and c.from_residual.result c.from_residual.ensures.1 in
    rw (p.1, p.2) (IsScriptCause-weaker _ (IsScriptRefused files)
    (λ place rule refused. inl (subst (λ rest. IsComponentRefused rest place rule) (rest_is files) refused))
    c.in_err-components.field-0.0 c.in_err-components.ensures.refused)

pub system_of-requires : goal.system_of-requires
system_of-requires c =
    subst (λ bytes. length bytes < 2147483648) (sym (c.as_slice.ensures ∙ c.index-files-0.is)) (c.requires.short 0 c.index-files-0.result (omega (arith, c.requires.some)))

first_is : (c : goal.After-drop-components) → slice_get c.args.files.now 0 ≡ Some c.as_slice.result.now
first_is c = grind (arith, gets, c.index-files-0.is)

components_are : (c : goal.After-drop-components) → AreComponents (drop 1 c.args.files.now) c.in_ok-components.components
components_are c = subst (λ rest. AreComponents rest c.in_ok-components.components) (rest_is c.args.files.now) c.in_ok-components.ensures.accepted

pub returns-clause-accepted : goal.returns-clause-accepted
returns-clause-accepted c =
    let components = c.in_ok-components.components in
    IfOk-weaker c.system_of.result (States (SaysSystem components) 1 c.as_slice.result.now) (IsSystemOf c.args.files.now)
    (λ system stated. record { components = components; are_components = components_are c; bytes = c.as_slice.result.now; first = first_is c; stated = stated })
    c.system_of.ensures.accepted

pub returns-clause-refused : goal.returns-clause-refused
returns-clause-refused c =
    let components = c.in_ok-components.components in
    let bytes = c.as_slice.result.now in
    IfErr-weaker c.system_of.result (IsScriptCause (IsRefused (RefusesSystem components) 1 bytes)) (IsScriptCause (IsScriptRefused c.args.files.now))
    (λ answer cause. IsScriptCause-weaker (IsRefused (RefusesSystem components) 1 bytes) (IsScriptRefused c.args.files.now)
    (λ place rule refused. inr (record { components = components; are_components = components_are c; bytes = bytes; first = first_is c; refused = refused }))
    answer cause) c.system_of.ensures.refused
