use Rattle.net_parts.specs.Laws.{adds_grow, grows_fewer, grows_twice}
use Rattle.net_parts.specs.Refusing.{handed_on}
use Rattle.std.proofs.Common.{arith, sym, subst}
use Rattle.netlist.specs.Netlists.{IsWaiting}
use Rattle.mm_host.proofs.reads.hold_asked.Goals as goal

pub returns-in_err-asked-clause-grows : goal.returns-in_err-asked-clause-grows
returns-in_err-asked-clause-grows c = grows_fewer _ _ _ _ (omega arith) c.register.ensures.grows

pub returns-in_err-asked-clause-still_wait : goal.returns-in_err-asked-clause-still_wait
returns-in_err-asked-clause-still_wait c n w = c.register.ensures.still_wait n w

pub returns-in_err-asked-clause-full : goal.returns-in_err-asked-clause-full
returns-in_err-asked-clause-full c e = let full = c.register.ensures.full (handed_on _ _ _ _ c.in_err-asked.was c.from_residual.ensures.1 e) in omega (arith, full)

pub returns-in_err-shown-clause-grows : goal.returns-in_err-shown-clause-grows
returns-in_err-shown-clause-grows c = grows_fewer _ _ _ _ (omega arith) (grows_twice _ _ _ _ _ c.register.ensures.grows (adds_grow _ _ _ c.unless.ensures.adds))

pub returns-in_err-shown-clause-still_wait : goal.returns-in_err-shown-clause-still_wait
returns-in_err-shown-clause-still_wait c n w = c.unless.ensures.adds.grows.waits n (c.register.ensures.still_wait n w)

pub returns-in_err-shown-clause-full : goal.returns-in_err-shown-clause-full
returns-in_err-shown-clause-full c e =
    let most0 = c.register.ensures.grows.most in
    let full = c.unless.ensures.full (handed_on _ _ _ _ c.in_err-shown.was c.from_residual-in_err-shown.ensures.1 e) in
    omega (arith, most0, full)

pub returns-clause-grows : goal.returns-clause-grows
returns-clause-grows c = grows_fewer _ _ _ _ (omega arith) (grows_twice _ _ _ _ _ c.register.ensures.grows (adds_grow _ _ _ c.unless.ensures.adds))

pub returns-clause-full : goal.returns-clause-full
returns-clause-full c e = cc

pub returns-clause-still_wait : goal.returns-clause-still_wait
returns-clause-still_wait c n w = c.unless.ensures.adds.grows.waits n (c.register.ensures.still_wait n w)

pub returns-clause-own_wait : goal.returns-clause-own_wait
returns-clause-own_wait c n o = subst (IsWaiting c.unless.new.builder) (sym o) (c.unless.ensures.adds.grows.waits _ c.in_ok-asked.ensures.waits)

pub returns-clause-owned : goal.returns-clause-owned
returns-clause-owned c n o =
    let number = c.in_ok-asked.ensures.number in
    let within = c.in_ok-asked.ensures.within in
    let more = c.unless.ensures.adds.grows.extends.count in
    (omega (arith, o, number), omega (arith, o, within, more))

pub returns-clause-newly : goal.returns-clause-newly
returns-clause-newly c n w = c.in_ok-asked.ensures.newly n (c.unless.ensures.adds.grows.no_more_wait n w)
