use Rattle.std.proofs.Common.{◌≡◌, ℕ, ◌*◌, ◌+◌, ◌≤◌, ◌<◌, length, sym, subst, ap, ◌∙◌, inl, inr, arith}
use Rattle.std.specs.Prelude.{Result, Ok, Err, IfOk}
use Rattle.netlist.specs.declared.line.Memory.{Memory}
use Rattle.netlist.specs.Nets.{NetValue}
use Rattle.netlist.specs.Netlists.{Netlist, IsWaiting}
use Rattle.net_parts.specs.Groups.{nets_last}
use Rattle.net_parts.specs.Growth.{GrowsBy, GrowsInMemory, AreMadeBetween, WaitsBeside}
use Rattle.net_parts.specs.Laws.{if_ok, grows_without_memory, memory_grows_twice}
use Rattle.item_queues.specs.declared.queue.ItemQueue.{ItemQueue}
use Rattle.item_queues.specs.Storages.{owns_in}
use Rattle.item_queues.specs.Queues.{owns, owns_memories}
use Rattle.item_queues.proofs.queue.make_queue.Goals as goal

-- a count and then the rest
both_grow : (size : ℕ) (a b c : Netlist) → GrowsBy 1 a b → GrowsInMemory (3 * size) size b c → GrowsInMemory (3 * size + 1) size a c
both_grow size a b c p q =
    let all = memory_grows_twice 1 (3 * size) 0 size a b c (grows_without_memory 1 a b p) q in
    record { extends = all.extends; most = (let more = all.most in omega (arith, more)); most_memories = (let few = all.most_memories in omega (arith, few)); drivers = all.drivers }

-- two facts of an outcome together
if_both : {X E : Type 0} (r : Result X E) (P Q R : X → Type 0) → ((x : X) → P x → Q x → R x) → IfOk r P → IfOk r Q → IfOk r R
if_both (Ok x) P Q R f h k = f x h k
if_both (Err e) P Q R f h k = tt

pub hold_items-requires : goal.hold_items-requires
hold_items-requires g c = (
  (let few = c.requires.few_nets in omega arith),
  (
    (let few = c.requires.few_nets in omega arith),
    (
      c.requires.some,
      (
        c.requires.some_net,
        (
          c.requires.few_nets,
          (
            nets_last _ _ _ c.hold_count.ensures.grows.extends c.requires.like,
            (c.in_ok-count.ensures.net, (c.in_ok-count.ensures.wide, (c.in_ok-count.ensures.least, c.in_ok-count.ensures.starts))),
          ),
        ),
      ),
    ),
  ),
)

pub returns-clause-grows : goal.returns-clause-grows
returns-clause-grows g c = both_grow _ _ _ _ c.hold_count.ensures.grows c.hold_items.ensures.grows

pub returns-clause-owned : goal.returns-clause-owned
returns-clause-owned g c =
    let number = c.in_ok-count.ensures.number in
    let one = c.in_ok-count.ensures.count in
    let more = c.hold_items.ensures.grows.extends.count in
    if_both c.hold_items.result (λ (queue : ItemQueue g.row.N). queue.count ≡ c.in_ok-count.count)
    (λ (queue : ItemQueue g.row.N). AreMadeBetween (owns_in queue.bound queue.storage) c.hold_count.new.builder c.hold_items.new.builder)
    (λ (queue : ItemQueue g.row.N). AreMadeBetween (owns queue) c.args.builder.now c.hold_items.new.builder)
    (λ queue same owned n o. elim o [
      | inl e ↦ (let first = ap (λ (net : NetValue). net.number) same in (omega (arith, e, first, number), omega (arith, e, first, number, one, more)))
      | inr p ↦ (let own = owned n p in (omega (arith, own.0, one), own.1))
    ])
    c.hold_items.ensures.count c.hold_items.ensures.owned

pub returns-clause-owned_memories : goal.returns-clause-owned_memories
returns-clause-owned_memories g c =
    let same = ap (length {A = Memory}) c.hold_count.ensures.grows.memories in
    if_ok c.hold_items.result _ (λ queue. (m : ℕ) → owns_memories queue m → (length c.args.builder.now.memories ≤ m) × (m < length c.hold_items.new.builder.memories))
    (λ queue owned m o. (let own = owned m o in (omega (arith, own.0, same), own.1)))
    c.hold_items.ensures.owned_memories

pub returns-clause-own_wait : goal.returns-clause-own_wait
returns-clause-own_wait g c =
    if_both c.hold_items.result (λ (queue : ItemQueue g.row.N). queue.count ≡ c.in_ok-count.count)
    (λ (queue : ItemQueue g.row.N). (n : ℕ) → owns_in queue.bound queue.storage n → IsWaiting c.hold_items.new.builder n)
    (λ (queue : ItemQueue g.row.N). (n : ℕ) → owns queue n → IsWaiting c.hold_items.new.builder n)
    (λ queue same own n o. elim o [
      | inl e ↦ subst (IsWaiting c.hold_items.new.builder) (sym (e ∙ ap (λ (net : NetValue). net.number) same)) (c.hold_items.ensures.still_wait _ c.in_ok-count.ensures.waits)
      | inr p ↦ own n p
    ])
    c.hold_items.ensures.count c.hold_items.ensures.own_wait

pub returns-clause-newly : goal.returns-clause-newly
returns-clause-newly g c =
    if_both c.hold_items.result (λ (queue : ItemQueue g.row.N). queue.count ≡ c.in_ok-count.count)
    (λ (queue : ItemQueue g.row.N). WaitsBeside (owns_in queue.bound queue.storage) c.hold_count.new.builder c.hold_items.new.builder)
    (λ (queue : ItemQueue g.row.N). WaitsBeside (owns queue) c.args.builder.now c.hold_items.new.builder)
    (λ queue same newly n w. elim (newly n w) [
      | inl before ↦ (elim (c.in_ok-count.ensures.newly n before) [ inl old ↦ inl old | inr e ↦ inr (inl (e ∙ sym (ap (λ (net : NetValue). net.number) same))) ])
      | inr own ↦ inr (inr own)
    ])
    c.hold_items.ensures.count c.hold_items.ensures.newly
