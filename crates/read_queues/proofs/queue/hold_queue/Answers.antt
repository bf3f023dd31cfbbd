use Rattle.std.proofs.Common.{◌%◌, ◌^◌, ◌≤◌, nat_lt, if◌then◌else◌, refl, sym, subst, ap, ◌∙◌, inl, inr, arith}
use Rattle.net_parts.specs.Laws.{extends_twice, net_lasts, adds_grow, adds_twice, grows_once, grows_fewer, grows_twice}
use Rattle.read_queues.specs.Held.{ArePointers, AreWordsHeld, pointers_last}
use Rattle.read_queues.proofs.Levels.{full_bit}
use Rattle.net_parts.specs.Refusing.{handed_on}
use Rattle.read_queues.proofs.queue.hold_queue.Goals as goal
use Rattle.net_parts.specs.Fitting.{fits_in_two}

pub returns-in_err-words-clause-grows : goal.returns-in_err-words-clause-grows
returns-in_err-words-clause-grows c = let few = fits_in_two c.word_bits.result c.args.tag_bits in grows_fewer _ _ _ _ (omega (arith, few)) (grows_twice _ _ _ _ _ (grows_twice _ _ _ _ _ c.hold_pointers.ensures.grows (adds_grow _ _ _ (adds_twice _ _ _ _ _ (adds_twice _ _ _ _ _ c.is_above.ensures.adds (grows_once _ _ c.read_memory.ensures.extends c.read_memory.ensures.grows)) c.fit_bits.ensures.adds))) c.hold_words.ensures.grows)

pub returns-clause-grows : goal.returns-clause-grows
returns-clause-grows c = let few = fits_in_two c.word_bits.result c.args.tag_bits in grows_fewer _ _ _ _ (omega (arith, few)) (grows_twice _ _ _ _ _ (grows_twice _ _ _ _ _ c.hold_pointers.ensures.grows (adds_grow _ _ _ (adds_twice _ _ _ _ _ (adds_twice _ _ _ _ _ c.is_above.ensures.adds (grows_once _ _ c.read_memory.ensures.extends c.read_memory.ensures.grows)) c.fit_bits.ensures.adds))) c.hold_words.ensures.grows)

pub returns-clause-owned : goal.returns-clause-owned
returns-clause-owned c n (inl o) =
    let at = c.in_ok-pointers.ensures.owned n o in
    let above = c.is_above.ensures.adds.grows.extends.count in
    let read = c.read_memory.ensures.extends.count in
    let fit = c.fit_bits.ensures.adds.grows.extends.count in
    let words = c.hold_words.ensures.grows.extends.count in
    (at.0, omega (arith, at.1, above, read, fit, words))
returns-clause-owned c n (inr o) =
    let at = c.in_ok-words.ensures.owned n o in
    let pointers = c.hold_pointers.ensures.grows.extends.count in
    let above = c.is_above.ensures.adds.grows.extends.count in
    let read = c.read_memory.ensures.extends.count in
    let fit = c.fit_bits.ensures.adds.grows.extends.count in
    (omega (arith, at.0, pointers, above, read, fit), at.1)

pub returns-clause-own_wait : goal.returns-clause-own_wait
returns-clause-own_wait c n (inl o) = c.hold_words.ensures.still_wait n (c.fit_bits.ensures.adds.grows.waits n (c.read_memory.ensures.grows.waits n (c.is_above.ensures.adds.grows.waits n (c.in_ok-pointers.ensures.own_wait n o))))
returns-clause-own_wait c n (inr o) = c.in_ok-words.ensures.own_wait n o

pub returns-clause-made : goal.returns-clause-made
returns-clause-made c =
    let one = c.hold_words.ensures.grows.extends in
    let two = extends_twice _ _ _ c.fit_bits.ensures.adds.grows.extends one in
    let three = extends_twice _ _ _ c.read_memory.ensures.extends two in
    let four = extends_twice _ _ _ c.is_above.ensures.adds.grows.extends three in
    let five = extends_twice _ _ _ c.hold_pointers.ensures.grows.extends four in
    let wide = c.in_ok-tag.ensures.net.has_width in
    let kind = c.in_ok-words.ensures.kind.bits in
    let word = c.requires.word in
    let final = c.hold_words.new.builder in
    record {
      some = c.requires.some;
      depth = subst (λ k. c.args.bound ≤ 2 ^ k) (sym c.requires.places) c.requires.depth;
      shallow = λ bits some fits. subst (λ k. k ≤ bits) (sym c.requires.places) (c.requires.shallow bits some fits);
      pointers = subst (λ k. ArePointers final c.args.bound k c.in_ok-pointers.pointers) (sym c.requires.places) (pointers_last _ _ _ _ _ c.in_ok-pointers.ensures.pointers four);
      mem = five.memories _ c.requires.memory;
      tag_net = one.nets _ _ c.in_ok-tag.ensures.net.is_net;
      full_bit = net_lasts _ _ _ _ three c.in_ok-full.ensures.net;
      is_full = λ cycle v. full_bit _ c.args.bound _ c.requires.some (c.in_ok-full.ensures.value cycle (three.valuations cycle v) ∙ ap (λ k. if nat_lt k (cycle.net c.in_ok-pointers.pointers.unanswered.number) then 1 else 0) c.from.ensures);
      oldest = c.in_ok-oldest.oldest;
      is_oldest = λ cycle v. (c.in_ok-oldest.ensures.value cycle (two.valuations cycle v)).1;
      tag_is = λ cycle v. c.in_ok-tag.ensures.value cycle (one.valuations cycle v) ∙ ap (λ k. cycle.net c.in_ok-oldest.oldest.number % 2 ^ k) (sym wide);
      words = subst (λ k. AreWordsHeld final c.in_ok-oldest.oldest k c.in_ok-words.words) (sym wide) c.in_ok-words.ensures.held;
      before_words = λ n o.
          (let at = c.in_ok-words.ensures.owned n o in
          let next = c.in_ok-pointers.ensures.owned c.in_ok-pointers.pointers.next.number (inr (inr refl)) in
          let above = c.is_above.ensures.adds.grows.extends.count in
          let read = c.read_memory.ensures.extends.count in
          let fit = c.fit_bits.ensures.adds.grows.extends.count in
          omega (arith, at.0, next.1, above, read, fit));
      word_width = omega (arith, word, kind, wide);
      small = c.requires.small;
    }

pub returns-in_err-pointers-clause-grows : goal.returns-in_err-pointers-clause-grows
returns-in_err-pointers-clause-grows c = grows_fewer _ _ _ _ (omega arith) c.hold_pointers.ensures.grows

pub returns-in_err-pointers-clause-still_wait : goal.returns-in_err-pointers-clause-still_wait
returns-in_err-pointers-clause-still_wait c n w = c.hold_pointers.ensures.still_wait n w

pub returns-in_err-pointers-clause-full : goal.returns-in_err-pointers-clause-full
returns-in_err-pointers-clause-full c e = let full = c.hold_pointers.ensures.full (handed_on _ _ _ _ c.in_err-pointers.was c.from_residual.ensures.1 e) in omega (arith, full)

pub returns-in_err-full-clause-grows : goal.returns-in_err-full-clause-grows
returns-in_err-full-clause-grows c = grows_fewer _ _ _ _ (omega arith) (grows_twice _ _ _ _ _ c.hold_pointers.ensures.grows (adds_grow _ _ _ c.is_above.ensures.adds))

pub returns-in_err-full-clause-still_wait : goal.returns-in_err-full-clause-still_wait
returns-in_err-full-clause-still_wait c n w = c.is_above.ensures.adds.grows.waits n (c.hold_pointers.ensures.still_wait n w)

pub returns-in_err-full-clause-full : goal.returns-in_err-full-clause-full
returns-in_err-full-clause-full c e =
    let most0 = c.hold_pointers.ensures.grows.most in
    let full = c.is_above.ensures.full (handed_on _ _ _ _ c.in_err-full.was c.from_residual-in_err-full.ensures.1 e) in
    omega (arith, most0, full)

pub returns-in_err-oldest-clause-grows : goal.returns-in_err-oldest-clause-grows
returns-in_err-oldest-clause-grows c = grows_fewer _ _ _ _ (omega arith) (grows_twice _ _ _ _ _ c.hold_pointers.ensures.grows (adds_grow _ _ _ (adds_twice _ _ _ _ _ c.is_above.ensures.adds (grows_once _ _ c.read_memory.ensures.extends c.read_memory.ensures.grows))))

pub returns-in_err-oldest-clause-still_wait : goal.returns-in_err-oldest-clause-still_wait
returns-in_err-oldest-clause-still_wait c n w = c.read_memory.ensures.grows.waits n (c.is_above.ensures.adds.grows.waits n (c.hold_pointers.ensures.still_wait n w))

pub returns-in_err-oldest-clause-full : goal.returns-in_err-oldest-clause-full
returns-in_err-oldest-clause-full c e =
    let most0 = c.hold_pointers.ensures.grows.most in
    let most1 = c.is_above.ensures.adds.most in
    let full = c.read_memory.ensures.full.0 (handed_on _ _ _ _ c.in_err-oldest.was c.from_residual-in_err-oldest.ensures.1 e) in
    omega (arith, most0, most1, full)

pub returns-in_err-tag-clause-grows : goal.returns-in_err-tag-clause-grows
returns-in_err-tag-clause-grows c = let few = fits_in_two c.word_bits.result c.args.tag_bits in grows_fewer _ _ _ _ (omega (arith, few)) (grows_twice _ _ _ _ _ c.hold_pointers.ensures.grows (adds_grow _ _ _ (adds_twice _ _ _ _ _ (adds_twice _ _ _ _ _ c.is_above.ensures.adds (grows_once _ _ c.read_memory.ensures.extends c.read_memory.ensures.grows)) c.fit_bits.ensures.adds)))

pub returns-in_err-tag-clause-still_wait : goal.returns-in_err-tag-clause-still_wait
returns-in_err-tag-clause-still_wait c n w = c.fit_bits.ensures.adds.grows.waits n (c.read_memory.ensures.grows.waits n (c.is_above.ensures.adds.grows.waits n (c.hold_pointers.ensures.still_wait n w)))

pub returns-in_err-tag-clause-full : goal.returns-in_err-tag-clause-full
returns-in_err-tag-clause-full c e =
    let few = fits_in_two c.word_bits.result c.args.tag_bits in
    let most0 = c.hold_pointers.ensures.grows.most in
    let most1 = c.is_above.ensures.adds.most in
    let most2 = c.read_memory.ensures.grows.most in
    let full = c.fit_bits.ensures.full (handed_on _ _ _ _ c.in_err-tag.was c.from_residual-in_err-tag.ensures.1 e) in
    omega (arith, few, most0, most1, most2, full)

pub returns-in_err-words-clause-still_wait : goal.returns-in_err-words-clause-still_wait
returns-in_err-words-clause-still_wait c n w = c.hold_words.ensures.still_wait n (c.fit_bits.ensures.adds.grows.waits n (c.read_memory.ensures.grows.waits n (c.is_above.ensures.adds.grows.waits n (c.hold_pointers.ensures.still_wait n w))))

pub returns-in_err-words-clause-full : goal.returns-in_err-words-clause-full
returns-in_err-words-clause-full c e =
    let few = fits_in_two c.word_bits.result c.args.tag_bits in
    let most0 = c.hold_pointers.ensures.grows.most in
    let most1 = c.is_above.ensures.adds.most in
    let most2 = c.read_memory.ensures.grows.most in
    let most3 = c.fit_bits.ensures.adds.most in
    let full = c.hold_words.ensures.full (handed_on _ _ _ _ c.in_err-words.was c.from_residual-in_err-words.ensures.1 e) in
    omega (arith, few, most0, most1, most2, most3, full)

pub returns-clause-still_wait : goal.returns-clause-still_wait
returns-clause-still_wait c n w = c.hold_words.ensures.still_wait n (c.fit_bits.ensures.adds.grows.waits n (c.read_memory.ensures.grows.waits n (c.is_above.ensures.adds.grows.waits n (c.hold_pointers.ensures.still_wait n w))))

pub returns-clause-full : goal.returns-clause-full
returns-clause-full c e = cc

pub hold_pointers-requires-clause-bound : goal.hold_pointers-requires-clause-bound
hold_pointers-requires-clause-bound c = c.requires.few

pub hold_pointers-requires-clause-some : goal.hold_pointers-requires-clause-some
hold_pointers-requires-clause-some c = c.requires.some_place

pub hold_pointers-requires-clause-few : goal.hold_pointers-requires-clause-few
hold_pointers-requires-clause-few c = c.requires.few_places

pub fit_bits-requires-clause-net : goal.fit_bits-requires-clause-net
fit_bits-requires-clause-net c = record { is_net = c.in_ok-oldest.ensures.net.0; has_width = c.in_ok-oldest.ensures.net.1 ∙ omega arith }

pub fit_bits-requires-clause-some_wanted : goal.fit_bits-requires-clause-some_wanted
fit_bits-requires-clause-some_wanted c = c.requires.some_tag

pub hold_words-requires-clause-oldest : goal.hold_words-requires-clause-oldest
hold_words-requires-clause-oldest c = record { is_net = c.fit_bits.ensures.adds.grows.extends.nets _ _ c.in_ok-oldest.ensures.net.0; has_width = c.in_ok-oldest.ensures.net.1 ∙ omega arith }

pub hold_words-requires-clause-some_tag : goal.hold_words-requires-clause-some_tag
hold_words-requires-clause-some_tag c = c.requires.some_tag

pub hold_words-requires-clause-some : goal.hold_words-requires-clause-some
hold_words-requires-clause-some c = c.requires.some_count

pub is_above-requires-clause-net : goal.is_above-requires-clause-net
is_above-requires-clause-net c = record { is_net = c.in_ok-pointers.ensures.pointers.unanswered_net; has_width = sym c.width-width.ensures.value }

pub is_above-requires-clause-some : goal.is_above-requires-clause-some
is_above-requires-clause-some c = c.width-width.ensures.bounds.0

pub is_above-requires-clause-few : goal.is_above-requires-clause-few
is_above-requires-clause-few c = c.width-width.ensures.bounds.1

pub read_memory-requires-clause-mem_is : goal.read_memory-requires-clause-mem_is
read_memory-requires-clause-mem_is c = (extends_twice _ _ _ c.hold_pointers.ensures.grows.extends c.is_above.ensures.adds.grows.extends).memories _ c.requires.memory

pub returns-clause-memory : goal.returns-clause-memory
returns-clause-memory c = refl

pub returns-clause-bound : goal.returns-clause-bound
returns-clause-bound c = refl

pub returns-clause-tag : goal.returns-clause-tag
returns-clause-tag c = c.in_ok-tag.ensures.net.has_width

pub returns-clause-kind : goal.returns-clause-kind
returns-clause-kind c = c.in_ok-words.ensures.kind

pub returns-clause-newly : goal.returns-clause-newly
returns-clause-newly c n w =
    elim (c.in_ok-words.ensures.newly n w) [
      | inl before ↦ elim (c.in_ok-pointers.ensures.newly n (c.is_above.ensures.adds.grows.no_more_wait n (c.read_memory.ensures.grows.no_more_wait n (c.fit_bits.ensures.adds.grows.no_more_wait n before)))) [ inl old ↦ inl old | inr own ↦ inr (inl own) ]
      | inr own ↦ inr (inr own)
    ]
