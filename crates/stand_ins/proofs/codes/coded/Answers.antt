use Rattle.std.proofs.Common.{◌≡◌, ◌∷◌, drop, ap, sym, ◌∙◌, arith, add-one, drop-cons, suc, ◌+◌}
use Rattle.std.proofs.lemmas.List.{take_rest, drop_all}
use Rattle.stand_ins.specs.Codes.{code_at}
use Rattle.stand_ins.proofs.CodeLemmas.{uncoded}
use Rattle.stand_ins.proofs.codes.coded.Goals as goal

pub returns-in-Code : goal.returns-in-Code
returns-in-Code c = λ side. ap (code_at side) (take_rest c.args.script.now c.statements.k) ∙ c.statements.invariant side

pub statements-preserved : goal.statements-preserved
statements-preserved c = λ side.
    let script = c.args.script.now in
    let k = c.statements.k in
    let first = c.index-script-k.result in
    let whole : drop k script ≡ first ∷ drop (k + 1) script =
    drop-cons script k first (omega arith) ∙ ap (λ one. one ∷ drop (suc k) script) (sym c.index-script-k.is) ∙ ap (λ n. first ∷ drop n script) (sym (add-one k)) in
    sym (uncoded side first (drop (k + 1) script) c.in_default.not-Code) ∙ ap (code_at side) (sym whole) ∙ c.statements.invariant side

pub returns : goal.returns
returns c = λ side. ap (code_at side) (sym (drop_all c.statements.k c.args.script.now (omega arith))) ∙ c.statements.invariant side
