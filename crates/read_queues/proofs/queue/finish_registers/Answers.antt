use Rattle.std.proofs.Common.{◌≡◌, ◌&&◌, nat_eq, refl, ap, ◌∙◌, inl, inr, arith}
use Rattle.histories.specs.History.{is_raised}
use Rattle.net_parts.specs.Growth.{WaitsWithout}
use Rattle.net_parts.specs.Laws.{extends_twice, on_ok, adds_grow, adds_twice, grows_once, grows_fewer, grows_twice, net_lasts}
use Rattle.item_queues.specs.Steps.{CountsOn}
use Rattle.read_queues.specs.Held.{owns_queue, RegistersGoOn, word_nets, queue_lasts}
use Rattle.read_queues.proofs.Levels.{raised_any}
use Rattle.net_parts.specs.Refusing.{handed_on}
use Rattle.read_queues.proofs.queue.finish_registers.Goals as goal

pub returns-in_err-move_pointer-2-clause-grows : goal.returns-in_err-move_pointer-2-clause-grows
returns-in_err-move_pointer-2-clause-grows c = grows_fewer _ _ _ _ (omega arith) (grows_twice _ _ _ _ _ (grows_twice _ _ _ _ _ (grows_twice _ _ _ _ _ (adds_grow _ _ _ (adds_twice _ _ _ _ _ (grows_once _ _ c.any.ensures.extends c.any.ensures.grows) c.both.ensures.adds)) c.finish_words.ensures.grows) c.move_pointer.ensures.grows) c.move_pointer-2.ensures.grows)

pub returns-clause-grows : goal.returns-clause-grows
returns-clause-grows c = grows_fewer _ _ _ _ (omega arith) (grows_twice _ _ _ _ _ (grows_twice _ _ _ _ _ (grows_twice _ _ _ _ _ (grows_twice _ _ _ _ _ (adds_grow _ _ _ (adds_twice _ _ _ _ _ (grows_once _ _ c.any.ensures.extends c.any.ensures.grows) c.both.ensures.adds)) c.finish_words.ensures.grows) c.move_pointer.ensures.grows) c.move_pointer-2.ensures.grows) c.move_count.ensures.grows)

pub returns-in_err-move_pointer-2-clause-waits : goal.returns-in_err-move_pointer-2-clause-waits
returns-in_err-move_pointer-2-clause-waits c n apart w =
    c.move_pointer-2.ensures.waits n (λ e. apart (inl (inr (inr e)))) (c.move_pointer.ensures.waits n (λ e. apart (inl (inr (inl e)))) (c.finish_words.ensures.waits n (λ o. apart (inr o)) (c.both.ensures.adds.grows.waits n (c.any.ensures.grows.waits n w))))

pub returns-clause-waits : goal.returns-clause-waits
returns-clause-waits c n apart w =
    c.move_count.ensures.waits n (λ e. apart (inl (inl e)))
    (c.move_pointer-2.ensures.waits n (λ e. apart (inl (inr (inr e)))) (c.move_pointer.ensures.waits n (λ e. apart (inl (inr (inl e)))) (c.finish_words.ensures.waits n (λ o. apart (inr o)) (c.both.ensures.adds.grows.waits n (c.any.ensures.grows.waits n w)))))

pub move_count-requires-clause-waits : goal.move_count-requires-clause-waits
move_count-requires-clause-waits c =
    let n = c.args.held.now.pointers.unanswered.number in
    let first = c.requires.held.pointers.before_first in
    let next = c.requires.held.pointers.before_next in
    c.move_pointer-2.ensures.waits n (λ e. omega (arith, e, first, next)) (c.move_pointer.ensures.waits n (λ e. omega (arith, e, first))
    (c.finish_words.ensures.waits n (λ o. (let words = c.requires.held.before_words n o in omega (arith, words, first, next))) (c.both.ensures.adds.grows.waits n (c.any.ensures.grows.waits n (c.requires.waits n (inl (inl refl)))))))

pub returns-clause-on : goal.returns-clause-on
returns-clause-on c =
    let two = extends_twice _ _ _ c.move_pointer-2.ensures.grows.extends c.move_count.ensures.grows.extends in
    let three = extends_twice _ _ _ c.move_pointer.ensures.grows.extends two in
    let four = extends_twice _ _ _ c.finish_words.ensures.grows.extends three in
    let five = extends_twice _ _ _ c.both.ensures.adds.grows.extends four in
    on_ok c.move_count.result (CountsOn c.move_count.new.builder c.args.held.now.pointers.unanswered c.args.traffic.now.taken c.in_ok-last.last) (RegistersGoOn c.move_count.new.builder c.args.held.now c.args.traffic.now)
    (λ counts. record {
      came = c.in_ok-came.came;
      last = c.in_ok-last.last;
      last_bit = net_lasts _ _ _ _ three c.in_ok-last.ensures.net;
      comes = λ cycle v. c.in_ok-came.ensures.value cycle (four.valuations cycle v)
          ∙ ap (λ t. is_raised (cycle.net c.args.traffic.now.valid.number) && t) (raised_any (nat_eq (cycle.net c.args.held.now.pointers.unanswered.number) 0) (cycle.net c.in_ok-some.some.number) (c.in_ok-some.ensures.value cycle (five.valuations cycle v)).1);
      answers = λ cycle v. c.in_ok-last.ensures.answers cycle (three.valuations cycle v);
      got = λ run cycles r. c.in_ok-last.ensures.goes_on run cycles (three.runs run cycles r);
      first = λ run cycles r. c.in_ok-move_pointer.ensures.value run cycles (two.runs run cycles r);
      next = λ run cycles r. c.in_ok-move_pointer-2.ensures.value run cycles (c.move_count.ensures.grows.extends.runs run cycles r);
      counts = counts;
    })
    c.move_count.ensures.value

pub returns-clause-no_more_wait : goal.returns-clause-no_more_wait
returns-clause-no_more_wait c =
    on_ok c.move_count.result (WaitsWithout (λ n. n ≡ c.args.held.now.pointers.unanswered.number) c.move_pointer-2.new.builder c.move_count.new.builder) (WaitsWithout (owns_queue c.args.held.now) c.args.builder.now c.move_count.new.builder)
    (λ counted n w.
    (let set = counted n w in
    let next = c.in_ok-move_pointer-2.ensures.no_more_wait n set.0 in
    let first = c.in_ok-move_pointer.ensures.no_more_wait n next.0 in
    let words = c.in_ok-last.ensures.no_more_wait n first.0 in (
      c.any.ensures.grows.no_more_wait n (c.both.ensures.adds.grows.no_more_wait n words.0),
      λ o. elim o [
        | inl p ↦ elim p [ inl e ↦ set.1 e | inr q ↦ elim q [ inl e ↦ first.1 e | inr e ↦ next.1 e ] ]
        | inr p ↦ words.1 p
      ],
    )))
    c.move_count.ensures.no_more_wait

pub returns-in_err-some-clause-grows : goal.returns-in_err-some-clause-grows
returns-in_err-some-clause-grows c = grows_fewer _ _ _ _ (omega arith) (adds_grow _ _ _ (grows_once _ _ c.any.ensures.extends c.any.ensures.grows))

pub returns-in_err-some-clause-waits : goal.returns-in_err-some-clause-waits
returns-in_err-some-clause-waits c n apart w = c.any.ensures.grows.waits n w

pub returns-in_err-some-clause-full : goal.returns-in_err-some-clause-full
returns-in_err-some-clause-full c e = let full = c.any.ensures.full.0 (handed_on _ _ _ _ c.in_err-some.was c.from_residual.ensures.1 e) in omega (arith, full)

pub returns-in_err-came-clause-grows : goal.returns-in_err-came-clause-grows
returns-in_err-came-clause-grows c = grows_fewer _ _ _ _ (omega arith) (adds_grow _ _ _ (adds_twice _ _ _ _ _ (grows_once _ _ c.any.ensures.extends c.any.ensures.grows) c.both.ensures.adds))

pub returns-in_err-came-clause-waits : goal.returns-in_err-came-clause-waits
returns-in_err-came-clause-waits c n apart w = c.both.ensures.adds.grows.waits n (c.any.ensures.grows.waits n w)

pub returns-in_err-came-clause-full : goal.returns-in_err-came-clause-full
returns-in_err-came-clause-full c e =
    let most0 = c.any.ensures.grows.most in
    let full = c.both.ensures.full (handed_on _ _ _ _ c.in_err-came.was c.from_residual-in_err-came.ensures.1 e) in
    omega (arith, most0, full)

pub returns-in_err-last-clause-grows : goal.returns-in_err-last-clause-grows
returns-in_err-last-clause-grows c = grows_fewer _ _ _ _ (omega arith) (grows_twice _ _ _ _ _ (adds_grow _ _ _ (adds_twice _ _ _ _ _ (grows_once _ _ c.any.ensures.extends c.any.ensures.grows) c.both.ensures.adds)) c.finish_words.ensures.grows)

pub returns-in_err-last-clause-full : goal.returns-in_err-last-clause-full
returns-in_err-last-clause-full c e =
    let most0 = c.any.ensures.grows.most in
    let most1 = c.both.ensures.adds.most in
    let full = c.finish_words.ensures.full (handed_on _ _ _ _ c.in_err-last.was c.from_residual-in_err-last.ensures.1 e) in
    omega (arith, most0, most1, full)

pub returns-in_err-move_pointer-clause-grows : goal.returns-in_err-move_pointer-clause-grows
returns-in_err-move_pointer-clause-grows c = grows_fewer _ _ _ _ (omega arith) (grows_twice _ _ _ _ _ (grows_twice _ _ _ _ _ (adds_grow _ _ _ (adds_twice _ _ _ _ _ (grows_once _ _ c.any.ensures.extends c.any.ensures.grows) c.both.ensures.adds)) c.finish_words.ensures.grows) c.move_pointer.ensures.grows)

pub returns-in_err-move_pointer-clause-full : goal.returns-in_err-move_pointer-clause-full
returns-in_err-move_pointer-clause-full c e =
    let most0 = c.any.ensures.grows.most in
    let most1 = c.both.ensures.adds.most in
    let most2 = c.finish_words.ensures.grows.most in
    let full = c.move_pointer.ensures.full (handed_on _ _ _ _ c.in_err-move_pointer.was c.from_residual-in_err-move_pointer.ensures.1 e) in
    omega (arith, most0, most1, most2, full)

pub returns-in_err-move_pointer-2-clause-full : goal.returns-in_err-move_pointer-2-clause-full
returns-in_err-move_pointer-2-clause-full c e =
    let most0 = c.any.ensures.grows.most in
    let most1 = c.both.ensures.adds.most in
    let most2 = c.finish_words.ensures.grows.most in
    let most3 = c.move_pointer.ensures.grows.most in
    let full = c.move_pointer-2.ensures.full (handed_on _ _ _ _ c.in_err-move_pointer-2.was c.from_residual-in_err-move_pointer-2.ensures.1 e) in
    omega (arith, most0, most1, most2, most3, full)

pub returns-clause-full : goal.returns-clause-full
returns-clause-full c e =
    let most0 = c.any.ensures.grows.most in
    let most1 = c.both.ensures.adds.most in
    let most2 = c.finish_words.ensures.grows.most in
    let most3 = c.move_pointer.ensures.grows.most in
    let most4 = c.move_pointer-2.ensures.grows.most in
    let full = c.move_count.ensures.full e in
    omega (arith, most0, most1, most2, most3, most4, full)

pub both-requires-clause-a : goal.both-requires-clause-a
both-requires-clause-a c = net_lasts _ _ _ _ c.any.ensures.extends c.requires.valid

pub finish_words-requires-clause-came : goal.finish_words-requires-clause-came
finish_words-requires-clause-came c = c.in_ok-came.ensures.net

pub move_count-requires-clause-comes : goal.move_count-requires-clause-comes
move_count-requires-clause-comes c = net_lasts _ _ _ _ (extends_twice _ _ _ c.any.ensures.extends (extends_twice _ _ _ c.both.ensures.adds.grows.extends (extends_twice _ _ _ c.finish_words.ensures.grows.extends (extends_twice _ _ _ c.move_pointer.ensures.grows.extends c.move_pointer-2.ensures.grows.extends)))) c.requires.taken

pub returns-in_err-last-clause-waits : goal.returns-in_err-last-clause-waits
returns-in_err-last-clause-waits c n apart w = c.finish_words.ensures.waits n (λ o. apart (inr o)) (c.both.ensures.adds.grows.waits n (c.any.ensures.grows.waits n w))

pub returns-in_err-move_pointer-clause-waits : goal.returns-in_err-move_pointer-clause-waits
returns-in_err-move_pointer-clause-waits c n apart w = c.move_pointer.ensures.waits n (λ e. apart (inl (inr (inl e)))) (c.finish_words.ensures.waits n (λ o. apart (inr o)) (c.both.ensures.adds.grows.waits n (c.any.ensures.grows.waits n w)))

pub any-requires : goal.any-requires
any-requires c = record { a_is = c.requires.held.pointers.unanswered_net }

pub finish_words-requires-clause-nets : goal.finish_words-requires-clause-nets
finish_words-requires-clause-nets c = word_nets _ _ _ _ (queue_lasts _ _ _ c.requires.held (extends_twice _ _ _ c.any.ensures.extends c.both.ensures.adds.grows.extends)).words

pub finish_words-requires-clause-waits : goal.finish_words-requires-clause-waits
finish_words-requires-clause-waits c n o = c.both.ensures.adds.grows.waits n (c.any.ensures.grows.waits n (c.requires.waits n (inr o)))

pub move_pointer-requires-clause-pointer : goal.move_pointer-requires-clause-pointer
move_pointer-requires-clause-pointer c = (extends_twice _ _ _ c.any.ensures.extends (extends_twice _ _ _ c.both.ensures.adds.grows.extends c.finish_words.ensures.grows.extends)).nets _ _ c.requires.held.pointers.first_net.is_net

pub move_pointer-requires-clause-waits : goal.move_pointer-requires-clause-waits
move_pointer-requires-clause-waits c =
    let n = c.args.held.now.pointers.first.number in
    let next = c.requires.held.pointers.before_next in
    c.finish_words.ensures.waits n (λ o. (let words = c.requires.held.before_words n o in omega (arith, words, next))) (c.both.ensures.adds.grows.waits n (c.any.ensures.grows.waits n (c.requires.waits n (inl (inr (inl refl))))))

pub move_pointer-requires-2-clause-pointer : goal.move_pointer-requires-2-clause-pointer
move_pointer-requires-2-clause-pointer c = (extends_twice _ _ _ c.any.ensures.extends (extends_twice _ _ _ c.both.ensures.adds.grows.extends (extends_twice _ _ _ c.finish_words.ensures.grows.extends c.move_pointer.ensures.grows.extends))).nets _ _ c.requires.held.pointers.next_net.is_net

pub move_pointer-requires-2-clause-waits : goal.move_pointer-requires-2-clause-waits
move_pointer-requires-2-clause-waits c =
    let n = c.args.held.now.pointers.next.number in
    let next = c.requires.held.pointers.before_next in
    c.move_pointer.ensures.waits n (λ e. omega (arith, e, next))
    (c.finish_words.ensures.waits n (λ o. (let words = c.requires.held.before_words n o in omega (arith, words))) (c.both.ensures.adds.grows.waits n (c.any.ensures.grows.waits n (c.requires.waits n (inl (inr (inr refl)))))))

pub move_count-requires-clause-count : goal.move_count-requires-clause-count
move_count-requires-clause-count c = (extends_twice _ _ _ c.any.ensures.extends (extends_twice _ _ _ c.both.ensures.adds.grows.extends (extends_twice _ _ _ c.finish_words.ensures.grows.extends (extends_twice _ _ _ c.move_pointer.ensures.grows.extends c.move_pointer-2.ensures.grows.extends)))).nets _ _ c.requires.held.pointers.unanswered_net
