use Rattle.std.proofs.Common.{◌∙◌, arith}
use Rattle.netlist.specs.Runs.{Cycle, cycle_of}
use Rattle.net_parts.specs.Laws.{adds_twice, adds_grow, grows_fewer, grows_twice, extends_twice, net_lasts}
use Rattle.net_parts.specs.Refusing.{handed_on}
use Rattle.mm_agent.proofs.reads.finish_count.Goals as goal

pub returns-in_err-next-clause-grows : goal.returns-in_err-next-clause-grows
returns-in_err-next-clause-grows c = grows_fewer _ _ _ _ (omega arith) (adds_grow _ _ _ (adds_twice _ _ _ _ _ (adds_twice _ _ _ _ _ c.tell_wait.ensures.adds c.unless.ensures.adds) c.next_count.ensures.adds))

pub returns-clause-grows : goal.returns-clause-grows
returns-clause-grows c = grows_fewer _ _ _ _ (omega arith) (grows_twice _ _ _ _ _ (adds_grow _ _ _ (adds_twice _ _ _ _ _ (adds_twice _ _ _ _ _ c.tell_wait.ensures.adds c.unless.ensures.adds) c.next_count.ensures.adds)) c.take_next.ensures.grows)

pub returns-clause-waits : goal.returns-clause-waits
returns-clause-waits c n apart w = c.take_next.ensures.still_wait n apart (c.next_count.ensures.adds.grows.waits n (c.unless.ensures.adds.grows.waits n (c.tell_wait.ensures.adds.grows.waits n w)))

pub returns-clause-no_more_wait : goal.returns-clause-no_more_wait
returns-clause-no_more_wait c n w = let set = c.take_next.ensures.no_more_wait n w in ((c.tell_wait.ensures.adds.grows.no_more_wait n (c.unless.ensures.adds.grows.no_more_wait n (c.next_count.ensures.adds.grows.no_more_wait n set.0))), set.1)

pub returns-clause-on : goal.returns-clause-on
returns-clause-on c = record {
  tells = λ cycle v.
      (let v4 = c.take_next.ensures.grows.extends.valuations cycle v in
      let v3 = c.next_count.ensures.adds.grows.extends.valuations cycle v4 in
      c.in_ok-told.ensures.tells cycle (c.unless.ensures.adds.grows.extends.valuations cycle v3));
  next = λ run cycles r n lt few.
      (let cycle : Cycle = cycle_of run n in
      let v4 = (c.take_next.ensures.grows.extends.runs run cycles r).valuations n (omega arith) in
      let taken = c.in_ok-taken.ensures.value cycle (c.next_count.ensures.adds.grows.extends.valuations cycle v4) in
      c.take_next.ensures.value run cycles r n lt
      ∙ (rw taken at (c.in_ok-next.ensures.value cycle v4)) few);
}

pub returns-in_err-told-clause-grows : goal.returns-in_err-told-clause-grows
returns-in_err-told-clause-grows c = grows_fewer _ _ _ _ (omega arith) (adds_grow _ _ _ c.tell_wait.ensures.adds)

pub returns-in_err-told-clause-waits : goal.returns-in_err-told-clause-waits
returns-in_err-told-clause-waits c n apart w = c.tell_wait.ensures.adds.grows.waits n w

pub returns-in_err-told-clause-full : goal.returns-in_err-told-clause-full
returns-in_err-told-clause-full c e = let full = c.tell_wait.ensures.full (handed_on _ _ _ _ c.in_err-told.was c.from_residual.ensures.1 e) in omega (arith, full)

pub returns-in_err-taken-clause-grows : goal.returns-in_err-taken-clause-grows
returns-in_err-taken-clause-grows c = grows_fewer _ _ _ _ (omega arith) (adds_grow _ _ _ (adds_twice _ _ _ _ _ c.tell_wait.ensures.adds c.unless.ensures.adds))

pub returns-in_err-taken-clause-waits : goal.returns-in_err-taken-clause-waits
returns-in_err-taken-clause-waits c n apart w = c.unless.ensures.adds.grows.waits n (c.tell_wait.ensures.adds.grows.waits n w)

pub returns-in_err-taken-clause-full : goal.returns-in_err-taken-clause-full
returns-in_err-taken-clause-full c e =
    let most0 = c.tell_wait.ensures.adds.most in
    let full = c.unless.ensures.full (handed_on _ _ _ _ c.in_err-taken.was c.from_residual-in_err-taken.ensures.1 e) in
    omega (arith, most0, full)

pub returns-in_err-next-clause-waits : goal.returns-in_err-next-clause-waits
returns-in_err-next-clause-waits c n apart w = c.next_count.ensures.adds.grows.waits n (c.unless.ensures.adds.grows.waits n (c.tell_wait.ensures.adds.grows.waits n w))

pub returns-in_err-next-clause-full : goal.returns-in_err-next-clause-full
returns-in_err-next-clause-full c e =
    let most0 = c.tell_wait.ensures.adds.most in
    let most1 = c.unless.ensures.adds.most in
    let full = c.next_count.ensures.full (handed_on _ _ _ _ c.in_err-next.was c.from_residual-in_err-next.ensures.1 e) in
    omega (arith, most0, most1, full)

pub returns-clause-full : goal.returns-clause-full
returns-clause-full c e = cc

pub returns-clause-told : goal.returns-clause-told
returns-clause-told c = net_lasts _ _ _ _ (extends_twice _ _ _ c.unless.ensures.adds.grows.extends (extends_twice _ _ _ c.next_count.ensures.adds.grows.extends c.take_next.ensures.grows.extends)) c.in_ok-told.ensures.told

pub tell_wait-requires-clause-read : goal.tell_wait-requires-clause-read
tell_wait-requires-clause-read c = c.requires.read

pub tell_wait-requires-clause-full : goal.tell_wait-requires-clause-full
tell_wait-requires-clause-full c = c.requires.full

pub tell_wait-requires-clause-busy : goal.tell_wait-requires-clause-busy
tell_wait-requires-clause-busy c = c.requires.busy

pub unless-requires-clause-a : goal.unless-requires-clause-a
unless-requires-clause-a c = net_lasts _ _ _ _ c.tell_wait.ensures.adds.grows.extends c.requires.shown

pub unless-requires-clause-b : goal.unless-requires-clause-b
unless-requires-clause-b c = net_lasts _ _ _ _ c.tell_wait.ensures.adds.grows.extends c.requires.busy

pub next_count-requires-clause-unanswered : goal.next_count-requires-clause-unanswered
next_count-requires-clause-unanswered c = (extends_twice _ _ _ c.tell_wait.ensures.adds.grows.extends c.unless.ensures.adds.grows.extends).nets _ _ c.requires.unanswered

pub next_count-requires-clause-taken : goal.next_count-requires-clause-taken
next_count-requires-clause-taken c = c.in_ok-taken.ensures.net

pub next_count-requires-clause-valid : goal.next_count-requires-clause-valid
next_count-requires-clause-valid c = net_lasts _ _ _ _ (extends_twice _ _ _ c.tell_wait.ensures.adds.grows.extends c.unless.ensures.adds.grows.extends) c.requires.valid

pub take_next-requires-clause-register : goal.take_next-requires-clause-register
take_next-requires-clause-register c = (extends_twice _ _ _ c.tell_wait.ensures.adds.grows.extends (extends_twice _ _ _ c.unless.ensures.adds.grows.extends c.next_count.ensures.adds.grows.extends)).nets _ _ c.requires.unanswered

pub take_next-requires-clause-next : goal.take_next-requires-clause-next
take_next-requires-clause-next c = c.in_ok-next.ensures.net.is_net
