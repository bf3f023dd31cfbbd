use Rattle.std.proofs.Common.{◌+◌, ◌<◌, List, [], ◌∷◌, ◌++◌, length, get_or, take, sym, subst, arith, refl}
use Rattle.std.proofs.lemmas.List.{take_more, take_all}
use Rattle.netlist.specs.Nets.{NetValue}
use Rattle.net_parts.specs.Groups.{nets_last, InGroup, TakeAllNext}
use Rattle.net_parts.proofs.GroupsMade.{NextAreSet, net_at, width_at, at_in, at_apart, next_more}
use Rattle.net_parts.specs.Laws.{extends_none}
use Rattle.net_parts.specs.Growth.{WaitsWithout}
use Rattle.net_parts.proofs.groups.set_all_next.Goals as goal

pub set_next-requires-clause-register_is : goal.set_next-requires-clause-register_is
set_next-requires-clause-register_is g c =
    net_at c.loop-k.builder c.args.group.now c.loop-k.k c.index-group-k.result (omega arith) (nets_last _ _ _ c.loop-k.invariant.extends c.requires.group)

pub set_next-requires-clause-waits : goal.set_next-requires-clause-waits
set_next-requires-clause-waits g c =
    let below : c.loop-k.k < length c.args.group.now = omega arith in
    c.loop-k.invariant.still_wait _ (at_apart c.requires.wait.start c.args.group.now c.loop-k.k c.index-group-k.result below c.requires.wait.numbers)
    (c.requires.wait.wait _ (at_in c.args.group.now c.loop-k.k c.index-group-k.result below))

pub set_next-requires-clause-next_is : goal.set_next-requires-clause-next_is
set_next-requires-clause-next_is g c =
    net_at c.loop-k.builder c.args.next.now c.loop-k.k c.index-next-k.result (omega arith) (nets_last _ _ _ c.loop-k.invariant.extends c.requires.next)

pub set_next-requires-clause-widths : goal.set_next-requires-clause-widths
set_next-requires-clause-widths g c =
    width_at c.args.group.now c.args.next.now c.loop-k.k c.index-group-k.result c.index-next-k.result (omega arith) (omega arith) c.requires.widths

pub loop-k-preserved : goal.loop-k-preserved
loop-k-preserved g c =
    let x = get_or c.args.group.now c.loop-k.k c.index-group-k.result in
    let y = get_or c.args.next.now c.loop-k.k c.index-next-k.result in
    subst (λ (group : List NetValue). NextAreSet c.args.builder.now c.set_next.new.self group (take (c.loop-k.k + 1) c.args.next.now)) (sym (take_more c.args.group.now c.loop-k.k c.index-group-k.result (omega arith)))
    (subst (λ (next : List NetValue). NextAreSet c.args.builder.now c.set_next.new.self (take c.loop-k.k c.args.group.now ++ x ∷ []) next) (sym (take_more c.args.next.now c.loop-k.k c.index-next-k.result (omega arith)))
    (next_more c.args.builder.now c.loop-k.builder c.set_next.new.self (take c.loop-k.k c.args.group.now) (take c.loop-k.k c.args.next.now) x y c.loop-k.invariant
    c.set_next.ensures.value c.set_next.ensures.extends c.set_next.ensures.same_count c.set_next.ensures.drivers c.set_next.ensures.memories c.set_next.ensures.still_wait c.set_next.ensures.no_more_wait))

pub loop-k-init : goal.loop-k-init
loop-k-init g c = record { takes = λ run cycles r n lt. refl; extends = extends_none _; lines = refl; drivers = refl; memories = refl; still_wait = λ n apart w. w; no_more_wait = λ n w. (w, λ o. o) }

pub returns-clause-value : goal.returns-clause-value
returns-clause-value g c =
    subst (λ (group : List NetValue). TakeAllNext c.loop-k.builder group c.args.next.now) (take_all c.loop-k.k c.args.group.now (omega arith))
    (subst (TakeAllNext c.loop-k.builder (take c.loop-k.k c.args.group.now)) (take_all c.loop-k.k c.args.next.now (omega arith)) c.loop-k.invariant.takes)

pub returns-clause-grows : goal.returns-clause-grows
returns-clause-grows g c = record { extends = c.loop-k.invariant.extends; most = (let same = c.loop-k.invariant.lines in omega arith); drivers = c.loop-k.invariant.drivers; memories = c.loop-k.invariant.memories }

pub returns-clause-still_wait : goal.returns-clause-still_wait
returns-clause-still_wait g c n apart w = c.loop-k.invariant.still_wait n (λ o. apart (subst (λ (group : List NetValue). InGroup group n) (take_all c.loop-k.k c.args.group.now (omega arith)) o)) w

pub returns-clause-no_more_wait : goal.returns-clause-no_more_wait
returns-clause-no_more_wait g c =
    subst (λ (group : List NetValue). WaitsWithout (InGroup group) c.args.builder.now c.loop-k.builder) (take_all c.loop-k.k c.args.group.now (omega arith)) c.loop-k.invariant.no_more_wait
