use Rattle.std.proofs.Common.{refl, arith}
use Rattle.net_parts.specs.Laws.{extends_twice, net_lasts, adds_grow, grows_fewer, grows_twice}
use Rattle.net_parts.specs.Refusing.{handed_on}
use Rattle.mm_agent.proofs.reads.finish_row.Goals as goal

pub returns-clause-on : goal.returns-clause-on
returns-clause-on c = record {
  tells = refl;
  taken = c.in_ok-taken.taken;
  is_taken = λ cycle v. c.in_ok-taken.ensures.value cycle (c.set_history.ensures.grows.extends.valuations cycle v);
  takes = c.in_ok-set_history.ensures.takes;
}

pub returns-clause-no_more_wait : goal.returns-clause-no_more_wait
returns-clause-no_more_wait c n w = let set = c.in_ok-set_history.ensures.no_more_wait n w in (c.unless.ensures.adds.grows.no_more_wait n set.0, set.1)

pub returns-in_err-taken-clause-grows : goal.returns-in_err-taken-clause-grows
returns-in_err-taken-clause-grows c = grows_fewer _ _ _ _ (omega arith) (adds_grow _ _ _ c.unless.ensures.adds)

pub returns-in_err-taken-clause-waits : goal.returns-in_err-taken-clause-waits
returns-in_err-taken-clause-waits c n apart w = c.unless.ensures.adds.grows.waits n w

pub returns-in_err-taken-clause-full : goal.returns-in_err-taken-clause-full
returns-in_err-taken-clause-full c e = let full = c.unless.ensures.full (handed_on _ _ _ _ c.in_err-taken.was c.from_residual.ensures.1 e) in omega (arith, full)

pub returns-in_err-set_history-clause-grows : goal.returns-in_err-set_history-clause-grows
returns-in_err-set_history-clause-grows c = grows_fewer _ _ _ _ (omega arith) (grows_twice _ _ _ _ _ (adds_grow _ _ _ c.unless.ensures.adds) c.set_history.ensures.grows)

pub returns-in_err-set_history-clause-full : goal.returns-in_err-set_history-clause-full
returns-in_err-set_history-clause-full c e =
    let most0 = c.unless.ensures.adds.most in
    let full = c.set_history.ensures.full (handed_on _ _ _ _ c.in_err-set_history.was c.from_residual-in_err-set_history.ensures.1 e) in
    omega (arith, most0, full)

pub returns-clause-grows : goal.returns-clause-grows
returns-clause-grows c = grows_fewer _ _ _ _ (omega arith) (grows_twice _ _ _ _ _ (adds_grow _ _ _ c.unless.ensures.adds) c.set_history.ensures.grows)

pub returns-clause-full : goal.returns-clause-full
returns-clause-full c e = cc

pub returns-clause-told : goal.returns-clause-told
returns-clause-told c = net_lasts _ _ _ _ (extends_twice _ _ _ c.unless.ensures.adds.grows.extends c.set_history.ensures.grows.extends) c.requires.busy

pub unless-requires-clause-a : goal.unless-requires-clause-a
unless-requires-clause-a c = c.requires.shown

pub unless-requires-clause-b : goal.unless-requires-clause-b
unless-requires-clause-b c = c.requires.busy

pub set_history-requires-clause-bit : goal.set_history-requires-clause-bit
set_history-requires-clause-bit c = c.in_ok-taken.ensures.net
