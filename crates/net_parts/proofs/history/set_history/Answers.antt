use Rattle.std.proofs.Common.{◌∙◌, arith}
use Rattle.netlist.specs.Runs.{cycle_of}
use Rattle.net_parts.specs.Laws.{extends_twice, bit_fits, adds_grow}
use Rattle.std.proofs.lemmas.Result.{IfOk-from_err}
use Rattle.net_parts.specs.Refusing.{handed_on}
use Rattle.net_parts.proofs.history.set_history.Goals as goal

pub returns-clause-takes : goal.returns-clause-takes
returns-clause-takes c = record {
  is_bit = λ cycle v. bit_fits _ _ c.requires.bit cycle (c.later_history.ensures.adds.grows.extends.valuations cycle (c.set_next.ensures.extends.valuations cycle v));
  moves = λ run cycles r n lt.
      c.set_next.ensures.value run cycles r n lt ∙ c.in_ok-later.ensures.value (cycle_of run n) ((c.set_next.ensures.extends.runs run cycles r).valuations n (omega arith));
}

pub returns-clause-grows : goal.returns-clause-grows
returns-clause-grows c = record {
  extends = extends_twice _ _ _ c.later_history.ensures.adds.grows.extends c.set_next.ensures.extends;
  most = (let more = c.later_history.ensures.adds.most in let same = c.set_next.ensures.same_count in omega arith);
  drivers = c.set_next.ensures.drivers ∙ c.later_history.ensures.adds.grows.drivers;
  memories = c.set_next.ensures.memories ∙ c.later_history.ensures.adds.grows.memories;
}

pub returns-clause-no_more_wait : goal.returns-clause-no_more_wait
returns-clause-no_more_wait c n w =
    let set = c.set_next.ensures.no_more_wait n w in
    (c.later_history.ensures.adds.grows.no_more_wait n set.0, set.1)

pub returns-in_err-later-clause-takes : goal.returns-in_err-later-clause-takes
returns-in_err-later-clause-takes c = IfOk-from_err _ _ c.from_residual.ensures.0

pub returns-in_err-later-clause-no_more_wait : goal.returns-in_err-later-clause-no_more_wait
returns-in_err-later-clause-no_more_wait c = IfOk-from_err _ _ c.from_residual.ensures.0

pub returns-in_err-later-clause-grows : goal.returns-in_err-later-clause-grows
returns-in_err-later-clause-grows c = adds_grow _ _ _ c.later_history.ensures.adds

pub returns-in_err-later-clause-waits : goal.returns-in_err-later-clause-waits
returns-in_err-later-clause-waits c n apart w = c.later_history.ensures.adds.grows.waits n w

pub returns-in_err-later-clause-full : goal.returns-in_err-later-clause-full
returns-in_err-later-clause-full c e = c.later_history.ensures.full (handed_on _ _ _ _ c.in_err-later.was c.from_residual.ensures.1 e)

pub set_next-requires-clause-register_is : goal.set_next-requires-clause-register_is
set_next-requires-clause-register_is c = c.later_history.ensures.adds.grows.extends.nets _ _ c.requires.history.net.is_net

pub set_next-requires-clause-waits : goal.set_next-requires-clause-waits
set_next-requires-clause-waits c = c.later_history.ensures.adds.grows.waits _ c.requires.history.waits

pub returns-clause-waits : goal.returns-clause-waits
returns-clause-waits c n apart w = c.set_next.ensures.still_wait n apart (c.later_history.ensures.adds.grows.waits n w)

pub returns-clause-full : goal.returns-clause-full
returns-clause-full c e = cc
