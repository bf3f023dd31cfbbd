use Rattle.std.proofs.Common.{arith, inl, inr}
use Rattle.net_parts.specs.Laws.{grows_twice, grows_fewer}
use Rattle.st_mux.proofs.mux.set_turns.Goals as goal

pub returns-clause-grows : goal.returns-clause-grows
returns-clause-grows c = grows_fewer _ _ _ _ (omega arith) (grows_twice _ _ _ _ _ c.take_next.ensures.grows c.take_next-2.ensures.grows)

pub returns-clause-no_more_wait : goal.returns-clause-no_more_wait
returns-clause-no_more_wait c n w =
    let locked = c.take_next-2.ensures.no_more_wait n w in
    let holder = c.take_next.ensures.no_more_wait n locked.0 in (
      holder.0,
      λ o. elim o [ inl e ↦ holder.1 e | inr e ↦ locked.1 e ],
    )
