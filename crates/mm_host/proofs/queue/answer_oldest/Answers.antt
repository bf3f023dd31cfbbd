use Rattle.std.proofs.Common.{◌≡◌, ◌+◌, ◌-◌, ◌<◌, ◌^◌, not, ◌&&◌, nat_eq, if◌then◌else◌, ap, ◌∙◌, arith, sym}
use Rattle.histories.specs.History.{is_raised, one_if}
use Rattle.net_parts.specs.Laws.{extends_twice, net_lasts, width_fits, adds_fewer, adds_twice, grows_once}
use Rattle.command_nets.specs.Levels.{one_fits}
use Rattle.mm_host.proofs.Levels.{difference, raised_if}
use Rattle.net_parts.specs.Refusing.{handed_on}
use Rattle.mm_host.proofs.queue.answer_oldest.Goals as goal

pub constant-requires-clause-fits : goal.constant-requires-clause-fits
constant-requires-clause-fits c = one_fits _ c.requires.some

pub returns-in_err-last-clause-adds : goal.returns-in_err-last-clause-adds
returns-in_err-last-clause-adds c = adds_fewer _ _ _ _ (omega arith) (adds_twice _ _ _ _ _ (adds_twice _ _ _ _ _ (adds_twice _ _ _ _ _ (adds_twice _ _ _ _ _ c.both.ensures.adds (grows_once _ _ c.sub.ensures.extends c.sub.ensures.grows)) c.constant.ensures.adds) (grows_once _ _ c.eq.ensures.extends c.eq.ensures.grows)) c.both-2.ensures.adds)

pub returns-in_err-next-clause-adds : goal.returns-in_err-next-clause-adds
returns-in_err-next-clause-adds c = adds_fewer _ _ _ _ (omega arith) (adds_twice _ _ _ _ _ (adds_twice _ _ _ _ _ (adds_twice _ _ _ _ _ (adds_twice _ _ _ _ _ (adds_twice _ _ _ _ _ c.both.ensures.adds (grows_once _ _ c.sub.ensures.extends c.sub.ensures.grows)) c.constant.ensures.adds) (grows_once _ _ c.eq.ensures.extends c.eq.ensures.grows)) c.both-2.ensures.adds) c.count_got.ensures.adds)

pub returns-clause-adds : goal.returns-clause-adds
returns-clause-adds c = adds_fewer _ _ _ _ (omega arith) (adds_twice _ _ _ _ _ (adds_twice _ _ _ _ _ (adds_twice _ _ _ _ _ (adds_twice _ _ _ _ _ (adds_twice _ _ _ _ _ c.both.ensures.adds (grows_once _ _ c.sub.ensures.extends c.sub.ensures.grows)) c.constant.ensures.adds) (grows_once _ _ c.eq.ensures.extends c.eq.ensures.grows)) c.both-2.ensures.adds) c.count_got.ensures.adds)

pub count_got-requires-clause-got : goal.count_got-requires-clause-got
count_got-requires-clause-got c = net_lasts _ _ _ _ (extends_twice _ _ _ c.both.ensures.adds.grows.extends (extends_twice _ _ _ c.sub.ensures.extends (extends_twice _ _ _ c.constant.ensures.adds.grows.extends (extends_twice _ _ _ c.eq.ensures.extends c.both-2.ensures.adds.grows.extends)))) c.requires.got

pub returns-clause-value : goal.returns-clause-value
returns-clause-value c cycle v6 few =
    let v5 = c.count_got.ensures.adds.grows.extends.valuations cycle v6 in
    let v4 = c.both-2.ensures.adds.grows.extends.valuations cycle v5 in
    let v3 = c.eq.ensures.extends.valuations cycle v4 in
    let v2 = c.constant.ensures.adds.grows.extends.valuations cycle v3 in
    let v1 = c.sub.ensures.extends.valuations cycle v2 in
    let v0 = c.both.ensures.adds.grows.extends.valuations cycle v1 in
    let fits = width_fits _ _ _ c.requires.beats cycle v0 in
    let lacks : cycle.net c.in_ok-lacks.lacks.number ≡ cycle.net c.args.beats.number - cycle.net c.args.got.number = difference _ _ (2 ^ c.args.bits) fits few (rw c.requires.beats.has_width at (c.in_ok-lacks.ensures.value cycle v2).1) in
    let goes = c.in_ok-goes.ensures.value cycle v1 in
    let single : is_raised (cycle.net c.in_ok-single.single.number) ≡ nat_eq (cycle.net c.args.beats.number - cycle.net c.args.got.number) 1 =
    ap is_raised ((c.in_ok-single.ensures.value cycle v4).1 ∙ ap (λ n. if nat_eq (cycle.net c.in_ok-lacks.lacks.number) n then 1 else 0) (c.in_ok-one.ensures.value cycle v3)) ∙ raised_if (nat_eq (cycle.net c.in_ok-lacks.lacks.number) 1) ∙ ap (λ n. nat_eq n 1) lacks in
    let room : cycle.net c.args.got.number + cycle.net c.in_ok-lacks.lacks.number < 2 ^ c.args.bits = omega (arith, lacks, few, fits) in
    record {
      ends = c.in_ok-last.ensures.value cycle v5 ∙ ap (λ t. t && is_raised (cycle.net c.in_ok-single.single.number)) goes ∙ ap (λ t. (is_raised (cycle.net c.args.valid.number) && is_raised (cycle.net c.args.some.number)) && t) single;
      goes = c.in_ok-next.ensures.value cycle v6 room
          ∙ ap (λ t. if is_raised (cycle.net c.in_ok-last.last.number) then 0 else cycle.net c.args.got.number + one_if (t && not (nat_eq (cycle.net c.in_ok-lacks.lacks.number) 0))) goes
          ∙ ap (λ n. if is_raised (cycle.net c.in_ok-last.last.number) then 0 else cycle.net c.args.got.number + one_if ((is_raised (cycle.net c.args.valid.number) && is_raised (cycle.net c.args.some.number)) && not (nat_eq n 0))) lacks;
    }

pub sub-requires-clause-a_is : goal.sub-requires-clause-a_is
sub-requires-clause-a_is c = c.both.ensures.adds.grows.extends.nets _ _ c.requires.beats.is_net

pub sub-requires-clause-b_is : goal.sub-requires-clause-b_is
sub-requires-clause-b_is c = c.both.ensures.adds.grows.extends.nets _ _ c.requires.got.is_net

pub sub-requires-clause-widths : goal.sub-requires-clause-widths
sub-requires-clause-widths c = c.requires.beats.has_width ∙ sym c.requires.got.has_width

pub eq-requires-clause-a_is : goal.eq-requires-clause-a_is
eq-requires-clause-a_is c = c.constant.ensures.adds.grows.extends.nets _ _ c.in_ok-lacks.ensures.net.0

pub eq-requires-clause-b_is : goal.eq-requires-clause-b_is
eq-requires-clause-b_is c = c.in_ok-one.ensures.net.is_net

pub eq-requires-clause-widths : goal.eq-requires-clause-widths
eq-requires-clause-widths c = c.in_ok-lacks.ensures.net.1 ∙ c.requires.beats.has_width ∙ sym c.in_ok-one.ensures.net.has_width

pub both-requires-2-clause-a : goal.both-requires-2-clause-a
both-requires-2-clause-a c = net_lasts _ _ _ _ (extends_twice _ _ _ c.sub.ensures.extends (extends_twice _ _ _ c.constant.ensures.adds.grows.extends c.eq.ensures.extends)) c.in_ok-goes.ensures.net

pub both-requires-2-clause-b : goal.both-requires-2-clause-b
both-requires-2-clause-b c = record { is_net = c.in_ok-single.ensures.net.0; has_width = c.in_ok-single.ensures.net.1 }

pub count_got-requires-clause-goes : goal.count_got-requires-clause-goes
count_got-requires-clause-goes c = net_lasts _ _ _ _ (extends_twice _ _ _ c.sub.ensures.extends (extends_twice _ _ _ c.constant.ensures.adds.grows.extends (extends_twice _ _ _ c.eq.ensures.extends c.both-2.ensures.adds.grows.extends))) c.in_ok-goes.ensures.net

pub count_got-requires-clause-lacks : goal.count_got-requires-clause-lacks
count_got-requires-clause-lacks c = record { is_net = (extends_twice _ _ _ c.constant.ensures.adds.grows.extends (extends_twice _ _ _ c.eq.ensures.extends c.both-2.ensures.adds.grows.extends)).nets _ _ c.in_ok-lacks.ensures.net.0; has_width = c.in_ok-lacks.ensures.net.1 ∙ c.requires.beats.has_width }

pub count_got-requires-clause-last : goal.count_got-requires-clause-last
count_got-requires-clause-last c = c.in_ok-last.ensures.net

pub returns-clause-last : goal.returns-clause-last
returns-clause-last c = net_lasts _ _ _ _ c.count_got.ensures.adds.grows.extends c.in_ok-last.ensures.net

pub returns-clause-next : goal.returns-clause-next
returns-clause-next c = c.in_ok-next.ensures.net

pub returns-in_err-goes-clause-adds : goal.returns-in_err-goes-clause-adds
returns-in_err-goes-clause-adds c = adds_fewer _ _ _ _ (omega arith) c.both.ensures.adds

pub returns-in_err-goes-clause-full : goal.returns-in_err-goes-clause-full
returns-in_err-goes-clause-full c e = let full = c.both.ensures.full (handed_on _ _ _ _ c.in_err-goes.was c.from_residual.ensures.1 e) in omega (arith, full)

pub returns-in_err-lacks-clause-adds : goal.returns-in_err-lacks-clause-adds
returns-in_err-lacks-clause-adds c = adds_fewer _ _ _ _ (omega arith) (adds_twice _ _ _ _ _ c.both.ensures.adds (grows_once _ _ c.sub.ensures.extends c.sub.ensures.grows))

pub returns-in_err-lacks-clause-full : goal.returns-in_err-lacks-clause-full
returns-in_err-lacks-clause-full c e =
    let most0 = c.both.ensures.adds.most in
    let full = c.sub.ensures.full.0 (handed_on _ _ _ _ c.in_err-lacks.was c.from_residual-in_err-lacks.ensures.1 e) in
    omega (arith, most0, full)

pub returns-in_err-one-clause-adds : goal.returns-in_err-one-clause-adds
returns-in_err-one-clause-adds c = adds_fewer _ _ _ _ (omega arith) (adds_twice _ _ _ _ _ (adds_twice _ _ _ _ _ c.both.ensures.adds (grows_once _ _ c.sub.ensures.extends c.sub.ensures.grows)) c.constant.ensures.adds)

pub returns-in_err-one-clause-full : goal.returns-in_err-one-clause-full
returns-in_err-one-clause-full c e =
    let most0 = c.both.ensures.adds.most in
    let most1 = c.sub.ensures.grows.most in
    let full = c.constant.ensures.full (handed_on _ _ _ _ c.in_err-one.was c.from_residual-in_err-one.ensures.1 e) in
    omega (arith, most0, most1, full)

pub returns-in_err-single-clause-adds : goal.returns-in_err-single-clause-adds
returns-in_err-single-clause-adds c = adds_fewer _ _ _ _ (omega arith) (adds_twice _ _ _ _ _ (adds_twice _ _ _ _ _ (adds_twice _ _ _ _ _ c.both.ensures.adds (grows_once _ _ c.sub.ensures.extends c.sub.ensures.grows)) c.constant.ensures.adds) (grows_once _ _ c.eq.ensures.extends c.eq.ensures.grows))

pub returns-in_err-single-clause-full : goal.returns-in_err-single-clause-full
returns-in_err-single-clause-full c e =
    let most0 = c.both.ensures.adds.most in
    let most1 = c.sub.ensures.grows.most in
    let most2 = c.constant.ensures.adds.most in
    let full = c.eq.ensures.full.0 (handed_on _ _ _ _ c.in_err-single.was c.from_residual-in_err-single.ensures.1 e) in
    omega (arith, most0, most1, most2, full)

pub returns-in_err-last-clause-full : goal.returns-in_err-last-clause-full
returns-in_err-last-clause-full c e =
    let most0 = c.both.ensures.adds.most in
    let most1 = c.sub.ensures.grows.most in
    let most2 = c.constant.ensures.adds.most in
    let most3 = c.eq.ensures.grows.most in
    let full = c.both-2.ensures.full (handed_on _ _ _ _ c.in_err-last.was c.from_residual-in_err-last.ensures.1 e) in
    omega (arith, most0, most1, most2, most3, full)

pub returns-in_err-next-clause-full : goal.returns-in_err-next-clause-full
returns-in_err-next-clause-full c e =
    let most0 = c.both.ensures.adds.most in
    let most1 = c.sub.ensures.grows.most in
    let most2 = c.constant.ensures.adds.most in
    let most3 = c.eq.ensures.grows.most in
    let most4 = c.both-2.ensures.adds.most in
    let full = c.count_got.ensures.full (handed_on _ _ _ _ c.in_err-next.was c.from_residual-in_err-next.ensures.1 e) in
    omega (arith, most0, most1, most2, most3, most4, full)

pub returns-clause-full : goal.returns-clause-full
returns-clause-full c e = cc
