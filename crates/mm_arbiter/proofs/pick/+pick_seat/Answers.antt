use Rattle.std.proofs.Common.{◌≡◌, ℕ, ◌+◌, ◌-◌, ◌/◌, ◌^◌, ◌<◌, ◌≤◌, List, sym, subst, ap, ◌∙◌, arith}
use Rattle.netlist.specs.Runs.{Always}
use Rattle.net_parts.specs.Groups.{group_widths}
use Rattle.net_parts.specs.Laws.{if_ok, extends_twice, net_lasts, adds_twice, adds_fewer}
use Rattle.command_nets.specs.declared.nets.CommandNets.{CommandNets}
use Rattle.command_nets.specs.Nets.{AreCommandNets, group_of, ShowSame}
use Rattle.command_nets.specs.Groups.{command_lasts}
use Rattle.net_parts.specs.Refusing.{handed_on}
use Rattle.mm_arbiter.specs.Shown.{HaveWidths, IsSeatOf, commands_last, ShowAllSame}
use Rattle.mm_arbiter.proofs.Picks.{both_ok, asker_at, command_at, widths_at, seat_here, seat_chosen}
use Rattle.mm_arbiter.specs.Depends.{AnyTwo, IsSame}
use Rattle.mm_arbiter.proofs.Same.{same_raw}
use Rattle.mm_arbiter.proofs.Ignores.{same_at}
use Rattle.mm_arbiter.proofs.pick.+pick_seat.Goals as goal

pub seat_nets-requires-clause-some : goal.seat_nets-requires-clause-some
seat_nets-requires-clause-some t c = (asker_at c.args.askers.now c.args.from _ c.requires.askers (omega arith)).0

pub seat_nets-requires-clause-few : goal.seat_nets-requires-clause-few
seat_nets-requires-clause-few t c = (asker_at c.args.askers.now c.args.from _ c.requires.askers (omega arith)).1

pub returns-then-to-from-eq1-clause-command : goal.returns-then-to-from-eq1-clause-command
returns-then-to-from-eq1-clause-command t c =
    if_ok c.seat_nets.result _ (λ made. AreCommandNets c.seat_nets.new.builder made.command)
    (λ made same. subst (AreCommandNets c.seat_nets.new.builder) (sym (same ∙ c.index-commands-from.is)) (command_lasts _ _ _ c.seat_nets.ensures.adds.grows.extends (command_at _ c.args.commands.now c.args.from _ c.requires.commands (omega arith))))
    c.seat_nets.ensures.same

pub returns-then-to-from-eq1-clause-widths : goal.returns-then-to-from-eq1-clause-widths
returns-then-to-from-eq1-clause-widths t c =
    if_ok c.seat_nets.result _ (λ made. (widths : List ℕ) → HaveWidths widths c.args.commands.now → group_widths (group_of made.command) ≡ widths)
    (λ made same widths h. ap (λ (command : CommandNets). group_widths (group_of command)) (same ∙ c.index-commands-from.is) ∙ widths_at widths c.args.commands.now c.args.from _ h (omega arith))
    c.seat_nets.ensures.same

pub returns-then-to-from-eq1-clause-value : goal.returns-then-to-from-eq1-clause-value
returns-then-to-from-eq1-clause-value t c =
    let one = c.if-to-from-eq1.true in
    both_ok c.seat_nets.result _ _ (λ made. Always c.seat_nets.new.builder (λ cycle. (k : ℕ) → c.args.from ≤ k → k < c.args.to → cycle.net c.args.bits.number ≡ 2 ^ k → IsSeatOf cycle made k c.args.askers.now c.args.commands.now))
    (λ made same value cycle v k le lt is. (
    let here : c.args.from ≡ k = omega (arith, one, le, lt) in
    subst (λ n. IsSeatOf cycle made n c.args.askers.now c.args.commands.now) here
    (seat_here cycle made c.args.from c.args.askers.now c.args.commands.now _ _ (omega arith) (omega arith) (same ∙ c.index-commands-from.is) (value cycle v))))
    c.seat_nets.ensures.same c.seat_nets.ensures.value

pub pick_seat-requires-2 : goal.pick_seat-requires-2
pick_seat-requires-2 t c =
    let d = c.decreases in
    let order = c.requires.order in
    let e = c.pick_seat.ensures.adds.grows.extends in
    (omega (arith, d, order), (net_lasts _ _ _ _ e c.requires.bits, (omega (arith, order), (c.requires.within, (c.requires.same, (c.requires.few, (c.requires.askers, (commands_last _ _ _ e c.requires.commands, c.requires.alike))))))))

pub choose_seat-requires-clause-other : goal.choose_seat-requires-clause-other
choose_seat-requires-clause-other t c = command_lasts _ _ _ (extends_twice _ _ _ c.pick_seat-2.ensures.adds.grows.extends c.is_from.ensures.adds.grows.extends) c.in_ok-low.ensures.command

pub choose_seat-requires-clause-widths : goal.choose_seat-requires-clause-widths
choose_seat-requires-clause-widths t c =
    let alike = c.requires.alike in
    c.in_ok-high.ensures.widths alike.widths alike.each ∙ sym (c.in_ok-low.ensures.widths alike.widths alike.each)

pub returns-clause-widths : goal.returns-clause-widths
returns-clause-widths t c =
    if_ok c.choose_seat.result _ (λ made. (widths : List ℕ) → HaveWidths widths c.args.commands.now → group_widths (group_of made.command) ≡ widths)
    (λ made same widths h. same ∙ c.in_ok-high.ensures.widths widths h)
    c.choose_seat.ensures.widths

pub returns-clause-value : goal.returns-clause-value
returns-clause-value t c =
    let middle : ℕ = c.args.from + (c.args.to - c.args.from) / 2 in
    both_ok c.choose_seat.result _ _ (λ made. Always c.choose_seat.new.builder (λ cycle. (k : ℕ) → c.args.from ≤ k → k < c.args.to → cycle.net c.args.bits.number ≡ 2 ^ k → IsSeatOf cycle made k c.args.askers.now c.args.commands.now))
    (λ made raw spare cycle v4 k le lt is. (
    let v3 = c.choose_seat.ensures.adds.grows.extends.valuations cycle v4 in
    let v2 = c.is_from.ensures.adds.grows.extends.valuations cycle v3 in
    let v1 = c.pick_seat-2.ensures.adds.grows.extends.valuations cycle v2 in
    seat_chosen cycle made c.in_ok-high.high c.in_ok-low.low (cycle.net c.in_ok-upper.upper.number) middle k c.args.askers.now c.args.commands.now (c.in_ok-upper.ensures.value cycle v3 k lt is) (raw cycle v4) (spare cycle v4)
    (λ above. c.in_ok-high.ensures.value cycle v2 k above lt is) (λ below. c.in_ok-low.ensures.value cycle v1 k le below is)))
    c.choose_seat.ensures.value c.choose_seat.ensures.spare_is

pub returns-clause-adds : goal.returns-clause-adds
returns-clause-adds t c =
    adds_fewer _ _ _ _ (omega arith) (adds_twice _ _ _ _ _ (adds_twice _ _ _ _ _ (adds_twice _ _ _ _ _ c.pick_seat.ensures.adds c.pick_seat-2.ensures.adds) c.is_from.ensures.adds) c.choose_seat.ensures.adds)

pub returns-then-to-from-eq1-clause-reads : goal.returns-then-to-from-eq1-clause-reads
returns-then-to-from-eq1-clause-reads t c =
    if_ok c.seat_nets.result _ (λ made. AnyTwo c.seat_nets.new.builder (λ one other. IsSame c.args.bits one other → ShowAllSame c.args.commands.now one other → ShowSame made.command one other))
    (λ made same one other v w bits shown. subst (λ (command : CommandNets). ShowSame command one other) (sym (same ∙ c.index-commands-from.is)) (same_at c.args.commands.now c.args.from _ one other shown (omega arith)))
    c.seat_nets.ensures.same

pub returns-clause-reads : goal.returns-clause-reads
returns-clause-reads t c =
    if_ok c.choose_seat.result _ (λ made. AnyTwo c.choose_seat.new.builder (λ one other. IsSame c.args.bits one other → ShowAllSame c.args.commands.now one other → ShowSame made.command one other))
    (λ made raw one other v4 w4 bits shown. (
    let v3 = c.choose_seat.ensures.adds.grows.extends.valuations one v4 in
    let w3 = c.choose_seat.ensures.adds.grows.extends.valuations other w4 in
    let v2 = c.is_from.ensures.adds.grows.extends.valuations one v3 in
    let w2 = c.is_from.ensures.adds.grows.extends.valuations other w3 in
    let v1 = c.pick_seat-2.ensures.adds.grows.extends.valuations one v2 in
    let w1 = c.pick_seat-2.ensures.adds.grows.extends.valuations other w2 in
    same_raw (c.in_ok-upper.ensures.reads one other v3 w3 bits) (c.in_ok-high.ensures.reads one other v2 w2 bits shown) (c.in_ok-low.ensures.reads one other v1 w1 bits shown) (raw one v4) (raw other w4)))
    c.choose_seat.ensures.value

pub returns-then-to-from-eq1-clause-spare : goal.returns-then-to-from-eq1-clause-spare
returns-then-to-from-eq1-clause-spare t c = c.seat_nets.ensures.spare

pub returns-then-to-from-eq1-clause-adds : goal.returns-then-to-from-eq1-clause-adds
returns-then-to-from-eq1-clause-adds t c = let one = c.if-to-from-eq1.true in adds_fewer _ _ _ _ (omega (arith, one)) c.seat_nets.ensures.adds

pub returns-then-to-from-eq1-clause-full : goal.returns-then-to-from-eq1-clause-full
returns-then-to-from-eq1-clause-full t c e = let one = c.if-to-from-eq1.true in let full = c.seat_nets.ensures.full e in omega (arith, one, full)

pub returns-in_err-low-clause-adds : goal.returns-in_err-low-clause-adds
returns-in_err-low-clause-adds t c = adds_fewer _ _ _ _ (omega arith) c.pick_seat.ensures.adds

pub returns-in_err-low-clause-full : goal.returns-in_err-low-clause-full
returns-in_err-low-clause-full t c e = let full = c.pick_seat.ensures.full (handed_on _ _ _ _ c.in_err-low.was c.from_residual.ensures.1 e) in omega (arith, full)

pub returns-in_err-high-clause-adds : goal.returns-in_err-high-clause-adds
returns-in_err-high-clause-adds t c = adds_fewer _ _ _ _ (omega arith) (adds_twice _ _ _ _ _ c.pick_seat.ensures.adds c.pick_seat-2.ensures.adds)

pub returns-in_err-high-clause-full : goal.returns-in_err-high-clause-full
returns-in_err-high-clause-full t c e =
    let most = c.pick_seat.ensures.adds.most in
    let full = c.pick_seat-2.ensures.full (handed_on _ _ _ _ c.in_err-high.was c.from_residual-in_err-high.ensures.1 e) in
    omega (arith, most, full)

pub returns-in_err-upper-clause-adds : goal.returns-in_err-upper-clause-adds
returns-in_err-upper-clause-adds t c = adds_fewer _ _ _ _ (omega arith) (adds_twice _ _ _ _ _ (adds_twice _ _ _ _ _ c.pick_seat.ensures.adds c.pick_seat-2.ensures.adds) c.is_from.ensures.adds)

pub returns-in_err-upper-clause-full : goal.returns-in_err-upper-clause-full
returns-in_err-upper-clause-full t c e =
    let most = c.pick_seat.ensures.adds.most in
    let more = c.pick_seat-2.ensures.adds.most in
    let full = c.is_from.ensures.full (handed_on _ _ _ _ c.in_err-upper.was c.from_residual-in_err-upper.ensures.1 e) in
    omega (arith, most, more, full)

pub returns-clause-full : goal.returns-clause-full
returns-clause-full t c e =
    let most = c.pick_seat.ensures.adds.most in
    let more = c.pick_seat-2.ensures.adds.most in
    let last = c.is_from.ensures.adds.most in
    let full = c.choose_seat.ensures.full e in
    omega (arith, most, more, last, full)

pub returns-clause-command : goal.returns-clause-command
returns-clause-command t c = c.choose_seat.ensures.command

pub returns-clause-spare : goal.returns-clause-spare
returns-clause-spare t c = c.choose_seat.ensures.spare

pub choose_seat-requires-clause-bit : goal.choose_seat-requires-clause-bit
choose_seat-requires-clause-bit t c = c.in_ok-upper.ensures.net

pub choose_seat-requires-clause-one : goal.choose_seat-requires-clause-one
choose_seat-requires-clause-one t c = command_lasts _ _ _ c.is_from.ensures.adds.grows.extends c.in_ok-high.ensures.command

pub choose_seat-requires-clause-one_spare : goal.choose_seat-requires-clause-one_spare
choose_seat-requires-clause-one_spare t c = net_lasts _ _ _ _ c.is_from.ensures.adds.grows.extends c.in_ok-high.ensures.spare

pub choose_seat-requires-clause-other_spare : goal.choose_seat-requires-clause-other_spare
choose_seat-requires-clause-other_spare t c = net_lasts _ _ _ _ (extends_twice _ _ _ c.pick_seat-2.ensures.adds.grows.extends c.is_from.ensures.adds.grows.extends) c.in_ok-low.ensures.spare
