use Rattle.std.proofs.Common.{◌≡◌, ◌==◌, if◌then◌else◌, arith}
use Rattle.netlist.specs.Runs.{Always}
use Rattle.net_parts.specs.Laws.{bit_fits, if_ok, adds_fewer, adds_twice, grows_once}
use Rattle.st_format.proofs.CountedLemmas.{none_where}
use Rattle.stage_core.specs.Refusing.{handed_on}
use Rattle.st_format.proofs.narrow.part_last.Goals as goal

pub returns-clause-value : goal.returns-clause-value
returns-clause-value c =
    if_ok c.mux.result _ (λ mark. Always c.mux.new.self (λ cycle. cycle.net mark.number ≡ (if cycle.net c.args.more.number == 1 then 0 else cycle.net c.args.last.number)))
    (λ mark value cycle v2. (
    let v1 = c.mux.ensures.extends.valuations cycle v2 in
    let v0 = c.constant.ensures.adds.grows.extends.valuations cycle v1 in
    none_where (cycle.net c.args.more.number) _ _ _ (bit_fits _ _ c.requires.more cycle v0) (c.in_ok-none.ensures.value cycle v1) (value cycle v2).1))
    c.mux.ensures.value

pub returns-in_err-none-clause-adds : goal.returns-in_err-none-clause-adds
returns-in_err-none-clause-adds c = adds_fewer _ _ _ _ (omega arith) c.constant.ensures.adds

pub returns-clause-adds : goal.returns-clause-adds
returns-clause-adds c = adds_fewer _ _ _ _ (omega arith) (adds_twice _ _ _ _ _ c.constant.ensures.adds (grows_once _ _ c.mux.ensures.extends c.mux.ensures.grows))

pub returns-in_err-none-clause-full : goal.returns-in_err-none-clause-full
returns-in_err-none-clause-full c e = let full = c.constant.ensures.full (handed_on _ _ _ _ c.in_err-none.was c.from_residual.ensures.1 e) in omega (arith, full)

pub returns-clause-full : goal.returns-clause-full
returns-clause-full c e = let most0 = c.constant.ensures.adds.most in let full = c.mux.ensures.full.0 e in omega (arith, most0, full)
