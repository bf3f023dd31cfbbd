use Rattle.std.proofs.Common.{◌&&◌, ap, ◌∙◌, arith}
use Rattle.histories.specs.History.{is_raised}
use Rattle.netlist.specs.Runs.{Cycle, cycle_of}
use Rattle.mm_agent.specs.Waits.{stood_next}
use Rattle.net_parts.specs.Laws.{extends_twice, net_lasts, adds_twice, adds_grow, grows_fewer, grows_twice}
use Rattle.net_parts.specs.Refusing.{handed_on}
use Rattle.mm_agent.proofs.waits.finish_stood.Goals as goal

pub returns-clause-waits : goal.returns-clause-waits
returns-clause-waits c n apart w = c.take_next.ensures.still_wait n apart (c.next_stood.ensures.adds.grows.waits n (c.both.ensures.adds.grows.waits n (c.shows_beat.ensures.adds.grows.waits n w)))

pub returns-clause-no_more_wait : goal.returns-clause-no_more_wait
returns-clause-no_more_wait c n w = let set = c.take_next.ensures.no_more_wait n w in ((c.shows_beat.ensures.adds.grows.no_more_wait n (c.both.ensures.adds.grows.no_more_wait n (c.next_stood.ensures.adds.grows.no_more_wait n set.0))), set.1)

pub returns-clause-on : goal.returns-clause-on
returns-clause-on c = record {
  next = λ run cycles r n lt.
      (let cycle : Cycle = cycle_of run n in
      let v3 = (c.take_next.ensures.grows.extends.runs run cycles r).valuations n (omega arith) in
      let v2 = c.next_stood.ensures.adds.grows.extends.valuations cycle v3 in
      let v1 = c.both.ensures.adds.grows.extends.valuations cycle v2 in
      c.take_next.ensures.value run cycles r n lt
      ∙ c.in_ok-next.ensures.value cycle v3
      ∙ ap (λ t. stood_next c.args.stood.width t (cycle.net c.args.stood.number)) (c.in_ok-stands.ensures.value cycle v2 ∙ ap (λ t. t && is_raised (cycle.net c.args.busy.number)) (c.in_ok-shows.ensures.value cycle v1)));
}

pub returns-in_err-shows-clause-grows : goal.returns-in_err-shows-clause-grows
returns-in_err-shows-clause-grows c = grows_fewer _ _ _ _ (omega arith) (adds_grow _ _ _ c.shows_beat.ensures.adds)

pub returns-in_err-shows-clause-waits : goal.returns-in_err-shows-clause-waits
returns-in_err-shows-clause-waits c n apart w = c.shows_beat.ensures.adds.grows.waits n w

pub returns-in_err-shows-clause-full : goal.returns-in_err-shows-clause-full
returns-in_err-shows-clause-full c e = let full = c.shows_beat.ensures.full (handed_on _ _ _ _ c.in_err-shows.was c.from_residual.ensures.1 e) in omega (arith, full)

pub returns-in_err-stands-clause-grows : goal.returns-in_err-stands-clause-grows
returns-in_err-stands-clause-grows c = grows_fewer _ _ _ _ (omega arith) (adds_grow _ _ _ (adds_twice _ _ _ _ _ c.shows_beat.ensures.adds c.both.ensures.adds))

pub returns-in_err-stands-clause-waits : goal.returns-in_err-stands-clause-waits
returns-in_err-stands-clause-waits c n apart w = c.both.ensures.adds.grows.waits n (c.shows_beat.ensures.adds.grows.waits n w)

pub returns-in_err-stands-clause-full : goal.returns-in_err-stands-clause-full
returns-in_err-stands-clause-full c e =
    let most0 = c.shows_beat.ensures.adds.most in
    let full = c.both.ensures.full (handed_on _ _ _ _ c.in_err-stands.was c.from_residual-in_err-stands.ensures.1 e) in
    omega (arith, most0, full)

pub returns-in_err-next-clause-grows : goal.returns-in_err-next-clause-grows
returns-in_err-next-clause-grows c = grows_fewer _ _ _ _ (omega arith) (adds_grow _ _ _ (adds_twice _ _ _ _ _ (adds_twice _ _ _ _ _ c.shows_beat.ensures.adds c.both.ensures.adds) c.next_stood.ensures.adds))

pub returns-in_err-next-clause-waits : goal.returns-in_err-next-clause-waits
returns-in_err-next-clause-waits c n apart w = c.next_stood.ensures.adds.grows.waits n (c.both.ensures.adds.grows.waits n (c.shows_beat.ensures.adds.grows.waits n w))

pub returns-in_err-next-clause-full : goal.returns-in_err-next-clause-full
returns-in_err-next-clause-full c e =
    let most0 = c.shows_beat.ensures.adds.most in
    let most1 = c.both.ensures.adds.most in
    let full = c.next_stood.ensures.full (handed_on _ _ _ _ c.in_err-next.was c.from_residual-in_err-next.ensures.1 e) in
    omega (arith, most0, most1, full)

pub returns-clause-grows : goal.returns-clause-grows
returns-clause-grows c = grows_fewer _ _ _ _ (omega arith) (grows_twice _ _ _ _ _ (adds_grow _ _ _ (adds_twice _ _ _ _ _ (adds_twice _ _ _ _ _ c.shows_beat.ensures.adds c.both.ensures.adds) c.next_stood.ensures.adds)) c.take_next.ensures.grows)

pub returns-clause-full : goal.returns-clause-full
returns-clause-full c e = cc

pub shows_beat-requires-clause-port : goal.shows_beat-requires-clause-port
shows_beat-requires-clause-port c = c.requires.port

pub shows_beat-requires-clause-read : goal.shows_beat-requires-clause-read
shows_beat-requires-clause-read c = c.requires.read

pub shows_beat-requires-clause-write : goal.shows_beat-requires-clause-write
shows_beat-requires-clause-write c = c.requires.write

pub both-requires-clause-a : goal.both-requires-clause-a
both-requires-clause-a c = c.in_ok-shows.ensures.net

pub both-requires-clause-b : goal.both-requires-clause-b
both-requires-clause-b c = net_lasts _ _ _ _ c.shows_beat.ensures.adds.grows.extends c.requires.busy

pub next_stood-requires-clause-stood : goal.next_stood-requires-clause-stood
next_stood-requires-clause-stood c = (extends_twice _ _ _ c.shows_beat.ensures.adds.grows.extends c.both.ensures.adds.grows.extends).nets _ _ c.requires.stood

pub next_stood-requires-clause-stands : goal.next_stood-requires-clause-stands
next_stood-requires-clause-stands c = c.in_ok-stands.ensures.net

pub take_next-requires-clause-register : goal.take_next-requires-clause-register
take_next-requires-clause-register c = (extends_twice _ _ _ c.shows_beat.ensures.adds.grows.extends (extends_twice _ _ _ c.both.ensures.adds.grows.extends c.next_stood.ensures.adds.grows.extends)).nets _ _ c.requires.stood

pub take_next-requires-clause-next : goal.take_next-requires-clause-next
take_next-requires-clause-next c = c.in_ok-next.ensures.net.is_net
