use Rattle.std.proofs.Common.{◌≡◌, false, ap, arith, inl}
use Rattle.histories.specs.History.{is_raised}
use Rattle.mm_host.proofs.writes.hold_writes.Goals.{else-port-via-then-port+else-port-ne0, else-port-via-else-port}
use Rattle.net_parts.specs.Laws.{adds_grow, grows_fewer}
use Rattle.net_parts.specs.Refusing.{handed_on}
use Rattle.mm_host.proofs.writes.hold_writes.Goals as goal

pub returns-clause-held : goal.returns-clause-held
returns-clause-held c = record {
  single = λ cycle v raised.
      (let v0 = c.level.ensures.adds.grows.extends.valuations cycle v in
      elim c.else-port.branch [
        | else-port-via-then-port+else-port-ne0 w ↦ c.requires.single w.if-port-ne0.false cycle v0
        | else-port-via-else-port w ↦ absurd (let low : is_raised (cycle.net c.args.write.number) ≡ false = ap is_raised (c.requires.none w.if-port.false cycle v0) in cc)
      ]);
  low = c.in_ok-more.ensures.value;
}

pub returns-in_err-more-clause-grows : goal.returns-in_err-more-clause-grows
returns-in_err-more-clause-grows c = grows_fewer _ _ _ _ (omega arith) (adds_grow _ _ _ c.level.ensures.adds)

pub returns-in_err-more-clause-still_wait : goal.returns-in_err-more-clause-still_wait
returns-in_err-more-clause-still_wait c n w = c.level.ensures.adds.grows.waits n w

pub returns-in_err-more-clause-full : goal.returns-in_err-more-clause-full
returns-in_err-more-clause-full c e = let full = c.level.ensures.full (handed_on _ _ _ _ c.in_err-more.was c.from_residual.ensures.1 e) in omega (arith, full)

pub returns-clause-grows : goal.returns-clause-grows
returns-clause-grows c = grows_fewer _ _ _ _ (omega arith) (adds_grow _ _ _ c.level.ensures.adds)

pub returns-clause-full : goal.returns-clause-full
returns-clause-full c e = cc

pub returns-clause-still_wait : goal.returns-clause-still_wait
returns-clause-still_wait c n w = c.level.ensures.adds.grows.waits n w

pub returns-clause-newly : goal.returns-clause-newly
returns-clause-newly c n w = inl (c.level.ensures.adds.grows.no_more_wait n w)

pub returns-clause-more : goal.returns-clause-more
returns-clause-more c = c.in_ok-more.ensures.net

pub returns-then-port-ne0-clause-grows : goal.returns-then-port-ne0-clause-grows
returns-then-port-ne0-clause-grows c = c.hold_left.ensures.grows

pub returns-then-port-ne0-clause-full : goal.returns-then-port-ne0-clause-full
returns-then-port-ne0-clause-full c = c.hold_left.ensures.full
