use Rattle.std.proofs.Common.{◌∙◌, sym, inl, inr, arith}
use Rattle.net_parts.specs.Laws.{grows_fewer, grows_twice, waiting_within}
use Rattle.net_parts.specs.Refusing.{handed_on}
use Rattle.st_timing.proofs.promises.hold_promises.Goals as goal

pub returns-in_err-free-clause-grows : goal.returns-in_err-free-clause-grows
returns-in_err-free-clause-grows c = grows_fewer _ _ _ _ (omega arith) c.hold_places.ensures.grows

pub returns-in_err-history-clause-grows : goal.returns-in_err-history-clause-grows
returns-in_err-history-clause-grows c = grows_fewer _ _ _ _ (omega arith) (grows_twice _ _ _ _ _ c.hold_places.ensures.grows c.make_history.ensures.grows)

pub returns-clause-grows : goal.returns-clause-grows
returns-clause-grows c = grows_fewer _ _ _ _ (omega arith) (grows_twice _ _ _ _ _ c.hold_places.ensures.grows c.make_history.ensures.grows)

pub returns-in_err-free-clause-full : goal.returns-in_err-free-clause-full
returns-in_err-free-clause-full c e = let full = c.hold_places.ensures.full (handed_on _ _ _ _ c.in_err-free.was c.from_residual.ensures.1 e) in omega (arith, full)

pub returns-in_err-history-clause-full : goal.returns-in_err-history-clause-full
returns-in_err-history-clause-full c e =
    let most = c.hold_places.ensures.grows.most in
    let full = c.make_history.ensures.full (handed_on _ _ _ _ c.in_err-history.was c.from_residual-in_err-history.ensures.1 e) in
    omega (arith, most, full)

pub returns-clause-promises : goal.returns-clause-promises
returns-clause-promises c = record {
  free = c.make_history.ensures.grows.extends.nets _ _ c.in_ok-free.ensures.net;
  wide = c.in_ok-free.ensures.wide;
  narrow = c.in_ok-free.ensures.narrow;
  waits = c.make_history.ensures.still_wait _ c.in_ok-free.ensures.waits;
  history = c.in_ok-history.ensures.history;
  apart = (let free = c.in_ok-free.ensures.number in let count = c.in_ok-free.ensures.count in let history = c.in_ok-history.ensures.number in omega (arith, free, count, history));
}

pub returns-clause-starts : goal.returns-clause-starts
returns-clause-starts c = record {
  free = λ run cycles r. c.in_ok-free.ensures.begins run cycles (c.make_history.ensures.grows.extends.runs run cycles r);
  none = c.in_ok-history.ensures.starts;
}

pub returns-clause-newly : goal.returns-clause-newly
returns-clause-newly c n w =
    elim (c.make_history.ensures.newly n w) [
      | inl before ↦ elim (c.hold_places.ensures.newly n before) [ inl old ↦ inl old | inr free ↦ inr (inl (free ∙ sym c.in_ok-free.ensures.number)) ]
      | inr last ↦ inr (inr (last ∙ sym c.in_ok-history.ensures.number))
    ]

pub returns-clause-owned : goal.returns-clause-owned
returns-clause-owned c n o =
    let free = c.in_ok-free.ensures.number in
    let count = c.in_ok-free.ensures.count in
    let history = c.in_ok-history.ensures.number in
    let inside = waiting_within _ _ c.in_ok-history.ensures.history.waits in
    elim o [
      | inl e ↦ (omega (arith, e, free), omega (arith, e, free, count, history, inside))
      | inr e ↦ (omega (arith, e, history, count), omega (arith, e, inside))
    ]
