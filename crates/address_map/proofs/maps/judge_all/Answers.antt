use Rattle.std.proofs.lemmas.Result.{err_from_is_err_and}
use Rattle.address_map.specs.Footprints.{footprints}
use Rattle.address_map.proofs.JudgeLemmas.{IsCause-first}
use Rattle.address_map.proofs.maps.judge_all.Goals as goal

pub returns-in_err-judge-clause-refused : goal.returns-in_err-judge-clause-refused
returns-in_err-judge-clause-refused c =
    let handed = err_from_is_err_and c.from_residual.result c.from_residual.ensures.1 in
    rw (handed.1, handed.2) (IsCause-first (footprints c.args.system.now) c.loop-k.k c.in_err-judge.field-0.0 c.loop-k.invariant.kept c.in_err-judge.ensures.refused)
