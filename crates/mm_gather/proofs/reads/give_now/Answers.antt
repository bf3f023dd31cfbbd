use Rattle.std.proofs.Common.{◌+◌, ◌*◌, ◌/◌, ◌%◌, ◌^◌, not, ◌&&◌, nat_lt, if◌then◌else◌, ◌∙◌, sym, ap, arith}
use Rattle.histories.specs.History.{is_raised}
use Rattle.net_parts.specs.Laws.{adds_fewer, adds_twice, extends_twice, net_lasts}
use Rattle.mm_gather.proofs.reads.give_now.Goals as goal

pub returns-in_err-word-clause-adds : goal.returns-in_err-word-clause-adds
returns-in_err-word-clause-adds c = adds_fewer _ _ _ _ (omega arith) (adds_twice _ _ _ _ _ (adds_twice _ _ _ _ _ (adds_twice _ _ _ _ _ c.oldest_read.ensures.adds c.one_more.ensures.adds) c.last_now.ensures.adds) c.due_word.ensures.adds)

pub returns-in_err-next-clause-adds : goal.returns-in_err-next-clause-adds
returns-in_err-next-clause-adds c =
    adds_fewer _ _ _ _ (omega arith) (adds_twice _ _ _ _ _ (adds_twice _ _ _ _ _ (adds_twice _ _ _ _ _ (adds_twice _ _ _ _ _ c.oldest_read.ensures.adds c.one_more.ensures.adds) c.last_now.ensures.adds) c.due_word.ensures.adds) c.next_given.ensures.adds)

pub returns-clause-adds : goal.returns-clause-adds
returns-clause-adds c =
    adds_fewer _ _ _ _ (omega arith) (adds_twice _ _ _ _ _ (adds_twice _ _ _ _ _ (adds_twice _ _ _ _ _ (adds_twice _ _ _ _ _ c.oldest_read.ensures.adds c.one_more.ensures.adds) c.last_now.ensures.adds) c.due_word.ensures.adds) c.next_given.ensures.adds)

pub returns-clause-gives : goal.returns-clause-gives
returns-clause-gives c =
    let four = c.next_given.ensures.adds.grows.extends in
    let three = extends_twice _ _ _ c.due_word.ensures.adds.grows.extends four in
    let two = extends_twice _ _ _ c.last_now.ensures.adds.grows.extends three in
    let one = extends_twice _ _ _ c.one_more.ensures.adds.grows.extends two in
    let size = c.requires.held.given.has_width in
    record {
      place = c.in_ok-first.first;
      count = c.in_ok-first.many;
      count_net = (let net = net_lasts _ _ _ _ one c.in_ok-first.ensures.count in record { is_net = net.is_net; has_width = net.has_width ∙ sym size });
      oldest = λ cycle v. c.in_ok-first.ensures.value cycle (one.valuations cycle v);
      word_is = λ cycle v. (c.in_ok-word.ensures.value cycle (four.valuations cycle v)
          ∙ ap (λ n. cycle.net c.args.wide.number / 2 ^ (c.args.bytes * 8 * ((cycle.net c.in_ok-first.first.number + cycle.net c.args.held.now.given.number % 2 ^ n) % 2 ^ n)) % 2 ^ (c.args.bytes * 8)) c.in_ok-first.ensures.place.has_width);
      last_is = λ cycle v. (c.in_ok-last.ensures.value cycle (three.valuations cycle v)
          ∙ ap (λ n. is_raised (cycle.net c.args.full.number) && not (nat_lt n (cycle.net c.in_ok-first.many.number))) (c.in_ok-more.ensures.value cycle (two.valuations cycle v)));
      next_is = λ cycle v. (c.in_ok-next.ensures.value cycle v
          ∙ ap (λ n. if is_raised (cycle.net c.in_ok-last.last.number) then 0 else if is_raised (cycle.net c.args.full.number) then n else cycle.net c.args.held.now.given.number) (c.in_ok-more.ensures.value cycle (two.valuations cycle v)));
    }
