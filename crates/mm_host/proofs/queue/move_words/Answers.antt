use Rattle.std.proofs.Common.{ℕ, not, nat_eq, List, [], ◌∷◌, refl, sym, subst, ap, ◌∙◌, inl, inr, lit<, arith}
use Rattle.netlist.specs.Nets.{NetValue}
use Rattle.net_parts.specs.Groups.{AreNets, group_widths, values_of}
use Rattle.net_parts.specs.Laws.{extends_twice, net_lasts, adds_grow, grows_once, grows_twice, grows_without_memory, memory_grows_twice}
use Rattle.net_parts.specs.Refusing.{handed_on}
use Rattle.item_queues.specs.Laws.{queue_lasts, starts_last}
use Rattle.mm_host.proofs.Levels.{raised_any}
use Rattle.mm_host.proofs.Memories.{memory_grows_fewer, then_grows, writes_wait_alike}
use Rattle.mm_host.proofs.queue.move_words.Goals as goal

abbrev head : List ℕ → ℕ
head [] = 0
head (x ∷ xs) = x

-- ---- what the calls require

pub read_oldest-requires : goal.read_oldest-requires
read_oldest-requires c = (lit< tt, (lit< tt, (lit< tt, queue_lasts _ _ _ _ c.requires.held.made c.any.ensures.extends)))

pub answer_oldest-requires-clause-valid : goal.answer_oldest-requires-clause-valid
answer_oldest-requires-clause-valid c = net_lasts _ _ _ _ (extends_twice _ _ _ c.any.ensures.extends c.read_oldest.ensures.adds.grows.extends) c.requires.valid

pub answer_oldest-requires-clause-some_read : goal.answer_oldest-requires-clause-some_read
answer_oldest-requires-clause-some_read c = record { is_net = c.read_oldest.ensures.adds.grows.extends.nets _ _ c.in_ok-some.ensures.net.0; has_width = c.in_ok-some.ensures.net.1 }

pub answer_oldest-requires-clause-beats : goal.answer_oldest-requires-clause-beats
answer_oldest-requires-clause-beats c =
    let net = subst (λ (nets : List NetValue). AreNets c.read_oldest.new.builder nets) c.only_net-beats.ensures c.in_ok-oldest.ensures.nets in
    let width = ap head (sym (ap group_widths c.only_net-beats.ensures) ∙ c.in_ok-oldest.ensures.widths) in
    record { is_net = net.0; has_width = width ∙ c.requires.count.has_width }

pub answer_oldest-requires-clause-got : goal.answer_oldest-requires-clause-got
answer_oldest-requires-clause-got c = net_lasts _ _ _ _ (extends_twice _ _ _ c.any.ensures.extends c.read_oldest.ensures.adds.grows.extends) c.requires.held.got_net

pub finish_queue-requires : goal.finish_queue-requires
finish_queue-requires c =
    let all = (extends_twice _ _ _ c.any.ensures.extends (extends_twice _ _ _ c.read_oldest.ensures.adds.grows.extends c.answer_oldest.ensures.adds.grows.extends)) in (
      lit< tt,
      (
        lit< tt,
        (
          lit< tt,
          (
            queue_lasts _ _ _ _ c.requires.held.made all,
            (
              (all.nets _ _ c.requires.count.is_net, tt),
              (
                net_lasts _ _ _ _ all c.requires.taken,
                (
                  c.in_ok-answered.ensures.last,
                  (
                    (λ n o. (c.answer_oldest.ensures.adds.grows.waits n (c.read_oldest.ensures.adds.grows.waits n (c.any.ensures.grows.waits n (c.requires.waits n (inl o)))))),
                    (λ m o. writes_wait_alike _ _ (c.answer_oldest.ensures.adds.grows.memories ∙ c.read_oldest.ensures.adds.grows.memories ∙ c.any.ensures.grows.memories) m (c.requires.waits_for_write m o)),
                  ),
                ),
              ),
            ),
          ),
        ),
      ),
    )

pub take_next-requires-clause-register : goal.take_next-requires-clause-register
take_next-requires-clause-register c = (extends_twice _ _ _ c.any.ensures.extends (extends_twice _ _ _ c.read_oldest.ensures.adds.grows.extends (extends_twice _ _ _ c.answer_oldest.ensures.adds.grows.extends c.finish_queue.ensures.grows.extends))).nets _ _ c.requires.held.got_net.is_net

pub take_next-requires-clause-waits : goal.take_next-requires-clause-waits
take_next-requires-clause-waits c = c.finish_queue.ensures.waits _ c.requires.held.apart (c.answer_oldest.ensures.adds.grows.waits _ (c.read_oldest.ensures.adds.grows.waits _ (c.any.ensures.grows.waits _ (c.requires.waits _ (inr refl)))))

pub take_next-requires-clause-next : goal.take_next-requires-clause-next
take_next-requires-clause-next c = c.finish_queue.ensures.grows.extends.nets _ _ c.in_ok-answered.ensures.next.is_net

pub take_next-requires-clause-widths : goal.take_next-requires-clause-widths
take_next-requires-clause-widths c = c.requires.held.got_net.has_width ∙ sym c.in_ok-answered.ensures.next.has_width

-- ---- the queue goes on

pub returns-clause-on : goal.returns-clause-on
returns-clause-on c =
    let four = extends_twice _ _ _ c.finish_queue.ensures.grows.extends c.take_next.ensures.grows.extends in
    let three = extends_twice _ _ _ c.answer_oldest.ensures.adds.grows.extends four in
    let two = extends_twice _ _ _ c.read_oldest.ensures.adds.grows.extends three in
    let all = extends_twice _ _ _ c.any.ensures.extends two in
    record {
      queue = c.args.held.queue;
      got = c.args.held.got;
      some = c.in_ok-some.some;
      beats = c.only_net-beats.result;
      last = c.in_ok-answered.answered.last;
      next = c.in_ok-answered.answered.next;
      count_is = c.requires.held.count_is;
      bound = c.requires.held.bound;
      empty = starts_last _ _ _ c.requires.held.empty all;
      none_got = λ run cycles r. c.requires.held.none_got run cycles (all.runs run cycles r);
      last_bit = net_lasts _ _ _ _ four c.in_ok-answered.ensures.last;
      some_is = λ cycle v. raised_any _ _ (c.in_ok-some.ensures.value cycle (two.valuations cycle v)).1 ∙ ap (λ (net : NetValue). not (nat_eq (cycle.net net.number) 0)) (sym c.requires.held.count_is);
      oldest = λ cycle v some coming. c.in_ok-oldest.ensures.value cycle (three.valuations cycle v) some coming ∙ ap (λ (nets : List NetValue). 1 ∷ values_of cycle nets) c.only_net-beats.ensures;
      answered = λ cycle v. c.in_ok-answered.ensures.value cycle (four.valuations cycle v);
      steps = λ run cycles r. c.in_ok-finish_queue.ensures.steps run cycles (c.take_next.ensures.grows.extends.runs run cycles r);
      follows = c.take_next.ensures.value;
    }

-- ---- what grows and what waits

pub returns-in_err-some-clause-grows : goal.returns-in_err-some-clause-grows
returns-in_err-some-clause-grows c = memory_grows_fewer _ _ _ _ _ _ (omega arith) (omega arith) (grows_without_memory _ _ _ (adds_grow _ _ _ (grows_once _ _ c.any.ensures.extends c.any.ensures.grows)))

pub returns-in_err-some-clause-waits : goal.returns-in_err-some-clause-waits
returns-in_err-some-clause-waits c n apart w = (c.any.ensures.grows.waits n w)

pub returns-in_err-some-clause-still_wait_for_write : goal.returns-in_err-some-clause-still_wait_for_write
returns-in_err-some-clause-still_wait_for_write c m apart w = writes_wait_alike _ _ (c.any.ensures.grows.memories) m w

pub returns-in_err-some-clause-full : goal.returns-in_err-some-clause-full
returns-in_err-some-clause-full c e =
    let full = c.any.ensures.full.0 (handed_on _ _ _ _ c.in_err-some.was c.from_residual.ensures.1 e) in
    omega (arith, full)

pub returns-in_err-oldest-clause-grows : goal.returns-in_err-oldest-clause-grows
returns-in_err-oldest-clause-grows c = memory_grows_fewer _ _ _ _ _ _ (omega arith) (omega arith) (grows_without_memory _ _ _ (grows_twice _ _ _ _ _ (adds_grow _ _ _ (grows_once _ _ c.any.ensures.extends c.any.ensures.grows)) (adds_grow _ _ _ c.read_oldest.ensures.adds)))

pub returns-in_err-oldest-clause-waits : goal.returns-in_err-oldest-clause-waits
returns-in_err-oldest-clause-waits c n apart w = (c.read_oldest.ensures.adds.grows.waits n (c.any.ensures.grows.waits n w))

pub returns-in_err-oldest-clause-still_wait_for_write : goal.returns-in_err-oldest-clause-still_wait_for_write
returns-in_err-oldest-clause-still_wait_for_write c m apart w = writes_wait_alike _ _ (c.read_oldest.ensures.adds.grows.memories ∙ c.any.ensures.grows.memories) m w

pub returns-in_err-oldest-clause-full : goal.returns-in_err-oldest-clause-full
returns-in_err-oldest-clause-full c e =
    let most0 = c.any.ensures.grows.most in
    let full = c.read_oldest.ensures.full (handed_on _ _ _ _ c.in_err-oldest.was c.from_residual-in_err-oldest.ensures.1 e) in
    omega (arith, most0, full)

pub returns-in_err-answered-clause-grows : goal.returns-in_err-answered-clause-grows
returns-in_err-answered-clause-grows c = memory_grows_fewer _ _ _ _ _ _ (omega arith) (omega arith) (grows_without_memory _ _ _ (grows_twice _ _ _ _ _ (grows_twice _ _ _ _ _ (adds_grow _ _ _ (grows_once _ _ c.any.ensures.extends c.any.ensures.grows)) (adds_grow _ _ _ c.read_oldest.ensures.adds)) (adds_grow _ _ _ c.answer_oldest.ensures.adds)))

pub returns-in_err-answered-clause-waits : goal.returns-in_err-answered-clause-waits
returns-in_err-answered-clause-waits c n apart w = (c.answer_oldest.ensures.adds.grows.waits n (c.read_oldest.ensures.adds.grows.waits n (c.any.ensures.grows.waits n w)))

pub returns-in_err-answered-clause-still_wait_for_write : goal.returns-in_err-answered-clause-still_wait_for_write
returns-in_err-answered-clause-still_wait_for_write c m apart w = writes_wait_alike _ _ (c.answer_oldest.ensures.adds.grows.memories ∙ c.read_oldest.ensures.adds.grows.memories ∙ c.any.ensures.grows.memories) m w

pub returns-in_err-answered-clause-full : goal.returns-in_err-answered-clause-full
returns-in_err-answered-clause-full c e =
    let most0 = c.any.ensures.grows.most in
    let most1 = c.read_oldest.ensures.adds.most in
    let full = c.answer_oldest.ensures.full (handed_on _ _ _ _ c.in_err-answered.was c.from_residual-in_err-answered.ensures.1 e) in
    omega (arith, most0, most1, full)

pub returns-in_err-finish_queue-clause-grows : goal.returns-in_err-finish_queue-clause-grows
returns-in_err-finish_queue-clause-grows c = memory_grows_twice _ _ _ _ _ _ _ (grows_without_memory _ _ _ (grows_twice _ _ _ _ _ (grows_twice _ _ _ _ _ (adds_grow _ _ _ (grows_once _ _ c.any.ensures.extends c.any.ensures.grows)) (adds_grow _ _ _ c.read_oldest.ensures.adds)) (adds_grow _ _ _ c.answer_oldest.ensures.adds))) c.finish_queue.ensures.grows

pub returns-in_err-finish_queue-clause-waits : goal.returns-in_err-finish_queue-clause-waits
returns-in_err-finish_queue-clause-waits c n apart w = c.finish_queue.ensures.waits n (λ o. apart (inl o)) (c.answer_oldest.ensures.adds.grows.waits n (c.read_oldest.ensures.adds.grows.waits n (c.any.ensures.grows.waits n w)))

pub returns-in_err-finish_queue-clause-still_wait_for_write : goal.returns-in_err-finish_queue-clause-still_wait_for_write
returns-in_err-finish_queue-clause-still_wait_for_write c m apart w = c.finish_queue.ensures.still_wait_for_write m apart (writes_wait_alike _ _ (c.answer_oldest.ensures.adds.grows.memories ∙ c.read_oldest.ensures.adds.grows.memories ∙ c.any.ensures.grows.memories) m w)

pub returns-in_err-finish_queue-clause-full : goal.returns-in_err-finish_queue-clause-full
returns-in_err-finish_queue-clause-full c e =
    let most0 = c.any.ensures.grows.most in
    let most1 = c.read_oldest.ensures.adds.most in
    let most2 = c.answer_oldest.ensures.adds.most in
    let full = c.finish_queue.ensures.full (handed_on _ _ _ _ c.in_err-finish_queue.was c.from_residual-in_err-finish_queue.ensures.1 e) in
    omega (arith, most0, most1, most2, full)

pub returns-clause-grows : goal.returns-clause-grows
returns-clause-grows c = then_grows _ _ _ _ _ _ _ _ (memory_grows_twice _ _ _ _ _ _ _ (grows_without_memory _ _ _ (grows_twice _ _ _ _ _ (grows_twice _ _ _ _ _ (adds_grow _ _ _ (grows_once _ _ c.any.ensures.extends c.any.ensures.grows)) (adds_grow _ _ _ c.read_oldest.ensures.adds)) (adds_grow _ _ _ c.answer_oldest.ensures.adds))) c.finish_queue.ensures.grows) c.take_next.ensures.grows (omega arith) (omega arith)

pub returns-clause-waits : goal.returns-clause-waits
returns-clause-waits c n apart w =
    c.take_next.ensures.still_wait n (λ e. apart (inr e)) (c.finish_queue.ensures.waits n (λ o. apart (inl o)) (c.answer_oldest.ensures.adds.grows.waits n (c.read_oldest.ensures.adds.grows.waits n (c.any.ensures.grows.waits n w))))

pub returns-clause-no_more_wait : goal.returns-clause-no_more_wait
returns-clause-no_more_wait c n w =
    let set = c.take_next.ensures.no_more_wait n w in
    let moved = c.in_ok-finish_queue.ensures.no_more_wait n set.0 in
    (c.any.ensures.grows.no_more_wait n (c.read_oldest.ensures.adds.grows.no_more_wait n (c.answer_oldest.ensures.adds.grows.no_more_wait n moved.0)), λ o. elim o [ inl p ↦ moved.1 p | inr e ↦ set.1 e ])

pub returns-clause-still_wait_for_write : goal.returns-clause-still_wait_for_write
returns-clause-still_wait_for_write c m apart w =
    writes_wait_alike _ _ c.take_next.ensures.grows.memories m (c.finish_queue.ensures.still_wait_for_write m apart (writes_wait_alike _ _ (c.answer_oldest.ensures.adds.grows.memories ∙ c.read_oldest.ensures.adds.grows.memories ∙ c.any.ensures.grows.memories) m w))

pub returns-clause-no_more_write : goal.returns-clause-no_more_write
returns-clause-no_more_write c m w =
    let moved = c.in_ok-finish_queue.ensures.no_more_write m (writes_wait_alike _ _ (sym c.take_next.ensures.grows.memories) m w) in
    (writes_wait_alike _ _ (sym (c.answer_oldest.ensures.adds.grows.memories ∙ c.read_oldest.ensures.adds.grows.memories ∙ c.any.ensures.grows.memories)) m moved.0, moved.1)

pub returns-clause-full : goal.returns-clause-full
returns-clause-full c e = cc
