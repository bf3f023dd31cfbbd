use Rattle.std.proofs.Common.{◌<◌, ◌≤◌, ◌^◌, sym, subst, ap, ◌∙◌, inl, inr, lit<, arith}
use Rattle.netlist.specs.Nets.{NetValue}
use Rattle.netlist.specs.Netlists.{IsWaiting}
use Rattle.net_parts.specs.Laws.{waiting_within}
use Rattle.net_parts.specs.Refusing.{handed_on}
use Rattle.item_queues.specs.Laws.{queue_lasts, starts_last}
use Rattle.mm_host.proofs.Levels.{five_bits}
use Rattle.mm_host.proofs.Memories.{memory_grows_fewer, then_grows, writes_wait_alike}
use Rattle.mm_host.proofs.queue.hold_words.Goals as goal

pub hold_items-requires : goal.hold_items-requires
hold_items-requires c =
    let width = sym c.requires.unanswered.has_width in (
      lit< tt,
      (
        lit< tt,
        (
          omega arith,
          (
            omega arith,
            (
              lit< tt,
              (
                (c.requires.count, tt),
                (
                  c.requires.unanswered.is_net,
                  (subst (λ k. 16 < 2 ^ k) width (lit< tt), ((λ bits some high. subst (λ k. k ≤ bits) width (five_bits bits high)), c.requires.low)),
                ),
              ),
            ),
          ),
        ),
      ),
    )

pub returns-clause-held : goal.returns-clause-held
returns-clause-held c =
    let more = c.register.ensures.grows.extends in
    record {
      made = queue_lasts _ _ _ _ c.in_ok-queue.ensures.made more;
      count_is = c.in_ok-queue.ensures.count;
      bound = c.in_ok-queue.ensures.bound;
      empty = starts_last _ _ _ c.in_ok-queue.ensures.starts more;
      got_net = c.in_ok-got.ensures.net;
      none_got = c.in_ok-got.ensures.starts;
      apart = λ p. (let number = c.in_ok-got.ensures.number in
          let sooner = c.hold_items.ensures.grows.extends.count in
          let before = waiting_within _ _ c.requires.waits in
          let count = ap (λ (net : NetValue). net.number) c.in_ok-queue.ensures.count in
          elim p [ inl e ↦ omega (arith, e, number, sooner, before, count) | inr q ↦ (let own = c.in_ok-queue.ensures.owned _ q in omega (arith, own.1, number)) ]);
    }

pub returns-clause-owned : goal.returns-clause-owned
returns-clause-owned c n o =
    let sooner = c.hold_items.ensures.grows.extends.count in
    let number = c.in_ok-got.ensures.number in
    elim o [
      | inl p ↦ (elim p [ inl e ↦ inl (e ∙ ap (λ (net : NetValue). net.number) c.in_ok-queue.ensures.count) | inr q ↦ inr (c.in_ok-queue.ensures.owned n q).0 ])
      | inr e ↦ inr (omega (arith, e, number, sooner))
    ]

pub returns-clause-owned_memories : goal.returns-clause-owned_memories
returns-clause-owned_memories c m o = (c.in_ok-queue.ensures.owned_memories m o).0

pub returns-clause-own_wait : goal.returns-clause-own_wait
returns-clause-own_wait c n o = elim o [ inl p ↦ c.register.ensures.still_wait n (elim p [ inl e ↦ subst (IsWaiting c.hold_items.new.builder) (sym (e ∙ ap (λ (net : NetValue). net.number) c.in_ok-queue.ensures.count)) (c.hold_items.ensures.still_wait _ c.requires.waits) | inr q ↦ c.in_ok-queue.ensures.own_wait n q ]) | inr e ↦ subst (IsWaiting c.register.new.builder) (sym e) c.in_ok-got.ensures.waits ]

pub returns-clause-newly : goal.returns-clause-newly
returns-clause-newly c n w =
    elim (c.in_ok-got.ensures.newly n w) [
      | inl before ↦ (elim (c.in_ok-queue.ensures.newly n before) [ inl old ↦ inl old | inr own ↦ inr (inl (inr own)) ])
      | inr e ↦ inr (inr e)
    ]

pub returns-clause-still_wait : goal.returns-clause-still_wait
returns-clause-still_wait c n w = c.register.ensures.still_wait n (c.hold_items.ensures.still_wait n w)

pub returns-clause-still_wait_for_write : goal.returns-clause-still_wait_for_write
returns-clause-still_wait_for_write c m w = writes_wait_alike _ _ c.register.ensures.grows.memories m (c.hold_items.ensures.still_wait_for_write m w)

pub returns-clause-own_wait_for_write : goal.returns-clause-own_wait_for_write
returns-clause-own_wait_for_write c m o = writes_wait_alike _ _ c.register.ensures.grows.memories m (c.in_ok-queue.ensures.own_wait_for_write m o)

pub returns-clause-newly_written : goal.returns-clause-newly_written
returns-clause-newly_written c m w = c.in_ok-queue.ensures.newly_written m (writes_wait_alike _ _ (sym c.register.ensures.grows.memories) m w)

pub returns-clause-grows : goal.returns-clause-grows
returns-clause-grows c = then_grows _ _ _ _ _ _ _ _ c.hold_items.ensures.grows c.register.ensures.grows (omega arith) (omega arith)

pub returns-clause-full : goal.returns-clause-full
returns-clause-full c e = cc

pub returns-in_err-queue-clause-grows : goal.returns-in_err-queue-clause-grows
returns-in_err-queue-clause-grows c = memory_grows_fewer _ _ _ _ _ _ (omega arith) (omega arith) c.hold_items.ensures.grows

pub returns-in_err-queue-clause-full : goal.returns-in_err-queue-clause-full
returns-in_err-queue-clause-full c e =
    elim (c.hold_items.ensures.full (handed_on _ _ _ _ c.in_err-queue.was c.from_residual.ensures.1 e)) [ inl full ↦ inl (omega (arith, full)) | inr full ↦ inr (omega (arith, full)) ]

pub returns-in_err-got-clause-grows : goal.returns-in_err-got-clause-grows
returns-in_err-got-clause-grows c = then_grows _ _ _ _ _ _ _ _ c.hold_items.ensures.grows c.register.ensures.grows (omega arith) (omega arith)

pub returns-in_err-got-clause-still_wait : goal.returns-in_err-got-clause-still_wait
returns-in_err-got-clause-still_wait c n w = c.register.ensures.still_wait n (c.hold_items.ensures.still_wait n w)

pub returns-in_err-got-clause-still_wait_for_write : goal.returns-in_err-got-clause-still_wait_for_write
returns-in_err-got-clause-still_wait_for_write c m w = writes_wait_alike _ _ c.register.ensures.grows.memories m (c.hold_items.ensures.still_wait_for_write m w)

pub returns-in_err-got-clause-full : goal.returns-in_err-got-clause-full
returns-in_err-got-clause-full c e =
    let most = c.hold_items.ensures.grows.most in
    let full = c.register.ensures.full (handed_on _ _ _ _ c.in_err-got.was c.from_residual-in_err-got.ensures.1 e) in
    inl (omega (arith, most, full))
