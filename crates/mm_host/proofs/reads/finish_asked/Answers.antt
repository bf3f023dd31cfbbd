use Rattle.std.proofs.Common.{not, ◌&&◌, ◌||◌, if◌then◌else◌, ap, ◌∙◌, arith, sym}
use Rattle.histories.specs.History.{is_raised}
use Rattle.netlist.specs.Runs.{Cycle, cycle_of}
use Rattle.net_parts.specs.Laws.{bit_fits, adds_twice, adds_grow, grows_fewer, grows_twice, extends_twice, net_lasts}
use Rattle.mm_host.proofs.Levels.{raised_choice}
use Rattle.net_parts.specs.Refusing.{handed_on}
use Rattle.mm_host.proofs.reads.finish_asked.Goals as goal

pub returns-in_err-taken-clause-grows : goal.returns-in_err-taken-clause-grows
returns-in_err-taken-clause-grows c = grows_fewer _ _ _ _ (omega arith) (adds_grow _ _ _ (adds_twice _ _ _ _ _ (adds_twice _ _ _ _ _ (adds_twice _ _ _ _ _ c.both.ensures.adds c.turned.ensures.adds) c.wait_for_word.ensures.adds) c.unless.ensures.adds))

pub returns-in_err-stands-clause-grows : goal.returns-in_err-stands-clause-grows
returns-in_err-stands-clause-grows c = grows_fewer _ _ _ _ (omega arith) (adds_grow _ _ _ (adds_twice _ _ _ _ _ (adds_twice _ _ _ _ _ (adds_twice _ _ _ _ _ (adds_twice _ _ _ _ _ c.both.ensures.adds c.turned.ensures.adds) c.wait_for_word.ensures.adds) c.unless.ensures.adds) c.either.ensures.adds))

pub returns-in_err-next-clause-grows : goal.returns-in_err-next-clause-grows
returns-in_err-next-clause-grows c = grows_fewer _ _ _ _ (omega arith) (adds_grow _ _ _ (adds_twice _ _ _ _ _ (adds_twice _ _ _ _ _ (adds_twice _ _ _ _ _ (adds_twice _ _ _ _ _ (adds_twice _ _ _ _ _ c.both.ensures.adds c.turned.ensures.adds) c.wait_for_word.ensures.adds) c.unless.ensures.adds) c.either.ensures.adds) c.unless-2.ensures.adds))

pub returns-clause-grows : goal.returns-clause-grows
returns-clause-grows c = grows_fewer _ _ _ _ (omega arith) (grows_twice _ _ _ _ _ (adds_grow _ _ _ (adds_twice _ _ _ _ _ (adds_twice _ _ _ _ _ (adds_twice _ _ _ _ _ (adds_twice _ _ _ _ _ (adds_twice _ _ _ _ _ c.both.ensures.adds c.turned.ensures.adds) c.wait_for_word.ensures.adds) c.unless.ensures.adds) c.either.ensures.adds) c.unless-2.ensures.adds)) c.take_next.ensures.grows)

pub returns-clause-waits : goal.returns-clause-waits
returns-clause-waits c n apart w = c.take_next.ensures.still_wait n apart (c.unless-2.ensures.adds.grows.waits n (c.either.ensures.adds.grows.waits n (c.unless.ensures.adds.grows.waits n (c.wait_for_word.ensures.adds.grows.waits n (c.turned.ensures.adds.grows.waits n (c.both.ensures.adds.grows.waits n w))))))

pub returns-clause-no_more_wait : goal.returns-clause-no_more_wait
returns-clause-no_more_wait c n w = let set = c.take_next.ensures.no_more_wait n w in ((c.both.ensures.adds.grows.no_more_wait n (c.turned.ensures.adds.grows.no_more_wait n (c.wait_for_word.ensures.adds.grows.no_more_wait n (c.unless.ensures.adds.grows.no_more_wait n (c.either.ensures.adds.grows.no_more_wait n (c.unless-2.ensures.adds.grows.no_more_wait n set.0)))))), set.1)

pub returns-clause-on : goal.returns-clause-on
returns-clause-on c = record {
  tells = λ cycle v.
      (let v6 = c.take_next.ensures.grows.extends.valuations cycle v in
      let v5 = c.unless-2.ensures.adds.grows.extends.valuations cycle v6 in
      let v4 = c.either.ensures.adds.grows.extends.valuations cycle v5 in
      let v3 = c.unless.ensures.adds.grows.extends.valuations cycle v4 in
      let v2 = c.wait_for_word.ensures.adds.grows.extends.valuations cycle v3 in
      let v1 = c.turned.ensures.adds.grows.extends.valuations cycle v2 in
      let v0 = c.both.ensures.adds.grows.extends.valuations cycle v1 in
      raised_choice _ _ _ _ (bit_fits _ _ c.requires.read cycle v0) (c.in_ok-told.ensures.value cycle v3)
      ∙ ap (λ t. if is_raised (cycle.net c.args.read.number) then t else is_raised (cycle.net c.args.wait.number)) (c.in_ok-open.ensures.value cycle v2 ∙ ap not (c.in_ok-answered.ensures.value cycle v1)));
  next = λ run cycles r n lt.
      (let cycle : Cycle = cycle_of run n in
      let v6 = (c.take_next.ensures.grows.extends.runs run cycles r).valuations n (omega arith) in
      let v5 = c.unless-2.ensures.adds.grows.extends.valuations cycle v6 in
      let v4 = c.either.ensures.adds.grows.extends.valuations cycle v5 in
      ap is_raised (c.take_next.ensures.value run cycles r n lt) ∙ c.in_ok-next.ensures.value cycle v6
      ∙ ap (λ t. t && not (is_raised (run.net n c.args.valid.number))) (c.in_ok-stands.ensures.value cycle v5 ∙ ap (λ t. is_raised (run.net n c.args.asked.number) || t) (c.in_ok-taken.ensures.value cycle v4)));
}

pub wait_for_word-requires-clause-read : goal.wait_for_word-requires-clause-read
wait_for_word-requires-clause-read c = net_lasts _ _ _ _ (extends_twice _ _ _ c.both.ensures.adds.grows.extends c.turned.ensures.adds.grows.extends) c.requires.read

pub wait_for_word-requires-clause-unanswered : goal.wait_for_word-requires-clause-unanswered
wait_for_word-requires-clause-unanswered c = c.in_ok-open.ensures.net

pub wait_for_word-requires-clause-wait : goal.wait_for_word-requires-clause-wait
wait_for_word-requires-clause-wait c = net_lasts _ _ _ _ (extends_twice _ _ _ c.both.ensures.adds.grows.extends c.turned.ensures.adds.grows.extends) c.requires.wait

pub unless-requires-clause-a : goal.unless-requires-clause-a
unless-requires-clause-a c = net_lasts _ _ _ _ (extends_twice _ _ _ c.both.ensures.adds.grows.extends (extends_twice _ _ _ c.turned.ensures.adds.grows.extends c.wait_for_word.ensures.adds.grows.extends)) c.requires.shown

pub unless-requires-clause-b : goal.unless-requires-clause-b
unless-requires-clause-b c = net_lasts _ _ _ _ (extends_twice _ _ _ c.both.ensures.adds.grows.extends (extends_twice _ _ _ c.turned.ensures.adds.grows.extends c.wait_for_word.ensures.adds.grows.extends)) c.requires.wait

pub either-requires-clause-a : goal.either-requires-clause-a
either-requires-clause-a c = net_lasts _ _ _ _ (extends_twice _ _ _ c.both.ensures.adds.grows.extends (extends_twice _ _ _ c.turned.ensures.adds.grows.extends (extends_twice _ _ _ c.wait_for_word.ensures.adds.grows.extends c.unless.ensures.adds.grows.extends))) c.requires.asked

pub either-requires-clause-b : goal.either-requires-clause-b
either-requires-clause-b c = c.in_ok-taken.ensures.net

pub unless-requires-2-clause-a : goal.unless-requires-2-clause-a
unless-requires-2-clause-a c = c.in_ok-stands.ensures.net

pub unless-requires-2-clause-b : goal.unless-requires-2-clause-b
unless-requires-2-clause-b c = net_lasts _ _ _ _ (extends_twice _ _ _ c.both.ensures.adds.grows.extends (extends_twice _ _ _ c.turned.ensures.adds.grows.extends (extends_twice _ _ _ c.wait_for_word.ensures.adds.grows.extends (extends_twice _ _ _ c.unless.ensures.adds.grows.extends c.either.ensures.adds.grows.extends)))) c.requires.valid

pub take_next-requires-clause-register : goal.take_next-requires-clause-register
take_next-requires-clause-register c = (extends_twice _ _ _ c.both.ensures.adds.grows.extends (extends_twice _ _ _ c.turned.ensures.adds.grows.extends (extends_twice _ _ _ c.wait_for_word.ensures.adds.grows.extends (extends_twice _ _ _ c.unless.ensures.adds.grows.extends (extends_twice _ _ _ c.either.ensures.adds.grows.extends c.unless-2.ensures.adds.grows.extends))))).nets _ _ c.requires.asked.is_net

pub take_next-requires-clause-waits : goal.take_next-requires-clause-waits
take_next-requires-clause-waits c = c.unless-2.ensures.adds.grows.waits _ (c.either.ensures.adds.grows.waits _ (c.unless.ensures.adds.grows.waits _ (c.wait_for_word.ensures.adds.grows.waits _ (c.turned.ensures.adds.grows.waits _ (c.both.ensures.adds.grows.waits _ c.requires.waits)))))

pub take_next-requires-clause-next : goal.take_next-requires-clause-next
take_next-requires-clause-next c = c.in_ok-next.ensures.net.is_net

pub take_next-requires-clause-widths : goal.take_next-requires-clause-widths
take_next-requires-clause-widths c = c.requires.asked.has_width ∙ sym c.in_ok-next.ensures.net.has_width

pub returns-clause-told : goal.returns-clause-told
returns-clause-told c = net_lasts _ _ _ _ (extends_twice _ _ _ c.unless.ensures.adds.grows.extends (extends_twice _ _ _ c.either.ensures.adds.grows.extends (extends_twice _ _ _ c.unless-2.ensures.adds.grows.extends c.take_next.ensures.grows.extends))) c.in_ok-told.ensures.net

pub returns-in_err-answered-clause-grows : goal.returns-in_err-answered-clause-grows
returns-in_err-answered-clause-grows c = grows_fewer _ _ _ _ (omega arith) (adds_grow _ _ _ c.both.ensures.adds)

pub returns-in_err-answered-clause-waits : goal.returns-in_err-answered-clause-waits
returns-in_err-answered-clause-waits c n apart w = c.both.ensures.adds.grows.waits n w

pub returns-in_err-answered-clause-full : goal.returns-in_err-answered-clause-full
returns-in_err-answered-clause-full c e = let full = c.both.ensures.full (handed_on _ _ _ _ c.in_err-answered.was c.from_residual.ensures.1 e) in omega (arith, full)

pub returns-in_err-open-clause-grows : goal.returns-in_err-open-clause-grows
returns-in_err-open-clause-grows c = grows_fewer _ _ _ _ (omega arith) (adds_grow _ _ _ (adds_twice _ _ _ _ _ c.both.ensures.adds c.turned.ensures.adds))

pub returns-in_err-open-clause-waits : goal.returns-in_err-open-clause-waits
returns-in_err-open-clause-waits c n apart w = c.turned.ensures.adds.grows.waits n (c.both.ensures.adds.grows.waits n w)

pub returns-in_err-open-clause-full : goal.returns-in_err-open-clause-full
returns-in_err-open-clause-full c e =
    let most0 = c.both.ensures.adds.most in
    let full = c.turned.ensures.full (handed_on _ _ _ _ c.in_err-open.was c.from_residual-in_err-open.ensures.1 e) in
    omega (arith, most0, full)

pub returns-in_err-told-clause-grows : goal.returns-in_err-told-clause-grows
returns-in_err-told-clause-grows c = grows_fewer _ _ _ _ (omega arith) (adds_grow _ _ _ (adds_twice _ _ _ _ _ (adds_twice _ _ _ _ _ c.both.ensures.adds c.turned.ensures.adds) c.wait_for_word.ensures.adds))

pub returns-in_err-told-clause-waits : goal.returns-in_err-told-clause-waits
returns-in_err-told-clause-waits c n apart w = c.wait_for_word.ensures.adds.grows.waits n (c.turned.ensures.adds.grows.waits n (c.both.ensures.adds.grows.waits n w))

pub returns-in_err-told-clause-full : goal.returns-in_err-told-clause-full
returns-in_err-told-clause-full c e =
    let most0 = c.both.ensures.adds.most in
    let most1 = c.turned.ensures.adds.most in
    let full = c.wait_for_word.ensures.full (handed_on _ _ _ _ c.in_err-told.was c.from_residual-in_err-told.ensures.1 e) in
    omega (arith, most0, most1, full)

pub returns-in_err-taken-clause-waits : goal.returns-in_err-taken-clause-waits
returns-in_err-taken-clause-waits c n apart w = c.unless.ensures.adds.grows.waits n (c.wait_for_word.ensures.adds.grows.waits n (c.turned.ensures.adds.grows.waits n (c.both.ensures.adds.grows.waits n w)))

pub returns-in_err-taken-clause-full : goal.returns-in_err-taken-clause-full
returns-in_err-taken-clause-full c e =
    let most0 = c.both.ensures.adds.most in
    let most1 = c.turned.ensures.adds.most in
    let most2 = c.wait_for_word.ensures.adds.most in
    let full = c.unless.ensures.full (handed_on _ _ _ _ c.in_err-taken.was c.from_residual-in_err-taken.ensures.1 e) in
    omega (arith, most0, most1, most2, full)

pub returns-in_err-stands-clause-waits : goal.returns-in_err-stands-clause-waits
returns-in_err-stands-clause-waits c n apart w = c.either.ensures.adds.grows.waits n (c.unless.ensures.adds.grows.waits n (c.wait_for_word.ensures.adds.grows.waits n (c.turned.ensures.adds.grows.waits n (c.both.ensures.adds.grows.waits n w))))

pub returns-in_err-stands-clause-full : goal.returns-in_err-stands-clause-full
returns-in_err-stands-clause-full c e =
    let most0 = c.both.ensures.adds.most in
    let most1 = c.turned.ensures.adds.most in
    let most2 = c.wait_for_word.ensures.adds.most in
    let most3 = c.unless.ensures.adds.most in
    let full = c.either.ensures.full (handed_on _ _ _ _ c.in_err-stands.was c.from_residual-in_err-stands.ensures.1 e) in
    omega (arith, most0, most1, most2, most3, full)

pub returns-in_err-next-clause-waits : goal.returns-in_err-next-clause-waits
returns-in_err-next-clause-waits c n apart w = c.unless-2.ensures.adds.grows.waits n (c.either.ensures.adds.grows.waits n (c.unless.ensures.adds.grows.waits n (c.wait_for_word.ensures.adds.grows.waits n (c.turned.ensures.adds.grows.waits n (c.both.ensures.adds.grows.waits n w)))))

pub returns-in_err-next-clause-full : goal.returns-in_err-next-clause-full
returns-in_err-next-clause-full c e =
    let most0 = c.both.ensures.adds.most in
    let most1 = c.turned.ensures.adds.most in
    let most2 = c.wait_for_word.ensures.adds.most in
    let most3 = c.unless.ensures.adds.most in
    let most4 = c.either.ensures.adds.most in
    let full = c.unless-2.ensures.full (handed_on _ _ _ _ c.in_err-next.was c.from_residual-in_err-next.ensures.1 e) in
    omega (arith, most0, most1, most2, most3, most4, full)

pub returns-clause-full : goal.returns-clause-full
returns-clause-full c e = cc
