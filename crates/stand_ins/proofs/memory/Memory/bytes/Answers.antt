use Rattle.std.proofs.Common.{subst, arith}
use Rattle.stand_ins.specs.Memory.{MemoryValue, AreRising}
use Rattle.stand_ins.proofs.Words.{bytes_found, bytes_missing}
use Rattle.stand_ins.proofs.memory.Memory.bytes.Goals as goal

pub returns-in-Ok : goal.returns-in-Ok
returns-in-Ok c =
    let rising = subst (λ (m : MemoryValue). AreRising m.words) c.self.view_is c.self.invariant.rising in
    let found = bytes_found c.args.self.now.words rising c.in-Ok.place c.in-Ok.ensures.within c.args.number c.in-Ok.ensures.found c.index.result.now in
    grind (arith, found, c.index.ensures, c.self.view_is)

pub returns-in-Err : goal.returns-in-Err
returns-in-Err c =
    let missing = bytes_missing c.args.self.now.words c.args.number c.in-Err.field-0 c.in-Err.ensures.within c.in-Err.ensures.missing in
    grind (arith, missing)
