use Rattle.std.proofs.Common.{◌-◌, if◌then◌else◌, ◌∙◌, nat_lt, ap, arith}
use Rattle.net_parts.specs.Laws.{net_lasts, extends_twice, adds_twice, adds_fewer}
use Rattle.net_parts.specs.Refusing.{handed_on}
use Rattle.stage_core.specs.Groups.{Shown, shown_in}
use Rattle.stage_core.specs.Lasting.{beat_lasts}
use Rattle.st_windows.specs.Cuts.{cut_of, rest_at, chosen_at}
use Rattle.st_windows.specs.Rows.{is_alone, shown_front, shown_left, held_few, row_gathered}
use Rattle.st_windows.proofs.RowWidths.{widths_as, widths_through}
use Rattle.st_windows.proofs.window.window_rows.Goals as goal

pub makes_beat-requires-clause-count : goal.makes_beat-requires-clause-count
makes_beat-requires-clause-count c = record { is_net = c.requires.held.empty; has_width = c.requires.held_widths.empty }

pub makes_beat-requires-clause-last : goal.makes_beat-requires-clause-last
makes_beat-requires-clause-last c = c.requires.held.last

pub is_above-requires-clause-net : goal.is_above-requires-clause-net
is_above-requires-clause-net c = record { is_net = c.in_ok-row.ensures.row.empty; has_width = c.in_ok-row.ensures.widths.empty }

pub show_row-requires-clause-row : goal.show_row-requires-clause-row
show_row-requires-clause-row c = beat_lasts _ _ _ c.is_above.ensures.adds.grows.extends c.in_ok-row.ensures.row

pub show_row-requires-clause-empty : goal.show_row-requires-clause-empty
show_row-requires-clause-empty c = c.in_ok-row.ensures.widths.empty

pub show_row-requires-clause-more : goal.show_row-requires-clause-more
show_row-requires-clause-more c = c.in_ok-more.ensures.net

pub show_row-requires-clause-is_more : goal.show_row-requires-clause-is_more
show_row-requires-clause-is_more c cycle v = c.in_ok-more.ensures.value cycle v ∙ ap (λ n. if nat_lt n (cycle.net c.in_ok-row.row.empty.number) then 1 else 0) c.from.ensures

pub leave_row-requires-clause-held : goal.leave_row-requires-clause-held
leave_row-requires-clause-held c = beat_lasts _ _ _ (extends_twice _ _ _ c.makes_beat.ensures.adds.grows.extends (extends_twice _ _ _ c.next_row.ensures.adds.grows.extends (extends_twice _ _ _ c.is_above.ensures.adds.grows.extends c.show_row.ensures.adds.grows.extends))) c.requires.held

pub leave_row-requires-clause-from : goal.leave_row-requires-clause-from
leave_row-requires-clause-from c = beat_lasts _ _ _ (extends_twice _ _ _ c.makes_beat.ensures.adds.grows.extends (extends_twice _ _ _ c.next_row.ensures.adds.grows.extends (extends_twice _ _ _ c.is_above.ensures.adds.grows.extends c.show_row.ensures.adds.grows.extends))) c.requires.from

pub leave_row-requires-clause-alone : goal.leave_row-requires-clause-alone
leave_row-requires-clause-alone c = net_lasts _ _ _ _ (extends_twice _ _ _ c.next_row.ensures.adds.grows.extends (extends_twice _ _ _ c.is_above.ensures.adds.grows.extends c.show_row.ensures.adds.grows.extends)) c.in_ok-alone.ensures.net

pub leave_row-requires-clause-row : goal.leave_row-requires-clause-row
leave_row-requires-clause-row c = beat_lasts _ _ _ (extends_twice _ _ _ c.is_above.ensures.adds.grows.extends c.show_row.ensures.adds.grows.extends) c.in_ok-row.ensures.row

pub leave_row-requires-clause-widths : goal.leave_row-requires-clause-widths
leave_row-requires-clause-widths c = c.in_ok-row.ensures.widths

pub leave_row-requires-clause-more : goal.leave_row-requires-clause-more
leave_row-requires-clause-more c = net_lasts _ _ _ _ c.show_row.ensures.adds.grows.extends c.in_ok-more.ensures.net

pub leave_row-requires-clause-is_more : goal.leave_row-requires-clause-is_more
leave_row-requires-clause-is_more c cycle v = c.in_ok-more.ensures.value cycle (c.show_row.ensures.adds.grows.extends.valuations cycle v) ∙ ap (λ n. if nat_lt n (cycle.net c.in_ok-row.row.empty.number) then 1 else 0) c.from.ensures

pub gather_row-requires-clause-row : goal.gather_row-requires-clause-row
gather_row-requires-clause-row c = beat_lasts _ _ _ (extends_twice _ _ _ c.is_above.ensures.adds.grows.extends (extends_twice _ _ _ c.show_row.ensures.adds.grows.extends c.leave_row.ensures.adds.grows.extends)) c.in_ok-row.ensures.row

pub gather_row-requires-clause-word : goal.gather_row-requires-clause-word
gather_row-requires-clause-word c = c.in_ok-row.ensures.widths.word

pub gather_row-requires-clause-empty : goal.gather_row-requires-clause-empty
gather_row-requires-clause-empty c = c.in_ok-row.ensures.widths.empty

pub returns-clause-alone : goal.returns-clause-alone
returns-clause-alone c = net_lasts _ _ _ _ (extends_twice _ _ _ c.next_row.ensures.adds.grows.extends (extends_twice _ _ _ c.is_above.ensures.adds.grows.extends (extends_twice _ _ _ c.show_row.ensures.adds.grows.extends (extends_twice _ _ _ c.leave_row.ensures.adds.grows.extends c.gather_row.ensures.adds.grows.extends)))) c.in_ok-alone.ensures.net

pub returns-clause-to : goal.returns-clause-to
returns-clause-to c = beat_lasts _ _ _ (extends_twice _ _ _ c.leave_row.ensures.adds.grows.extends c.gather_row.ensures.adds.grows.extends) c.in_ok-to.ensures.beat

pub returns-clause-rest : goal.returns-clause-rest
returns-clause-rest c = beat_lasts _ _ _ c.gather_row.ensures.adds.grows.extends c.in_ok-rest.ensures.rest

pub returns-clause-gathered : goal.returns-clause-gathered
returns-clause-gathered c = c.in_ok-gathered.ensures.gathered

pub returns-clause-to_widths : goal.returns-clause-to_widths
returns-clause-to_widths c = widths_as _ _ _ _ _ c.in_ok-to.ensures.widths c.in_ok-row.ensures.widths

pub returns-clause-rest_widths : goal.returns-clause-rest_widths
returns-clause-rest_widths c = widths_through _ _ _ _ _ _ c.in_ok-rest.ensures.widths c.in_ok-row.ensures.widths

pub returns-clause-gathered_widths : goal.returns-clause-gathered_widths
returns-clause-gathered_widths c = widths_through _ _ _ _ _ _ c.in_ok-gathered.ensures.widths c.in_ok-row.ensures.widths

pub returns-clause-is_alone : goal.returns-clause-is_alone
returns-clause-is_alone c cycle v = c.in_ok-alone.ensures.value cycle ((extends_twice _ _ _ c.next_row.ensures.adds.grows.extends (extends_twice _ _ _ c.is_above.ensures.adds.grows.extends (extends_twice _ _ _ c.show_row.ensures.adds.grows.extends (extends_twice _ _ _ c.leave_row.ensures.adds.grows.extends c.gather_row.ensures.adds.grows.extends)))).valuations cycle v)

pub returns-clause-shows : goal.returns-clause-shows
returns-clause-shows c cycle v6 =
    let v5 = c.gather_row.ensures.adds.grows.extends.valuations cycle v6 in
    let v4 = c.leave_row.ensures.adds.grows.extends.valuations cycle v5 in
    let v3 = c.show_row.ensures.adds.grows.extends.valuations cycle v4 in
    let v2 = c.is_above.ensures.adds.grows.extends.valuations cycle v3 in
    let row = c.in_ok-row.ensures.value cycle v2 in
    c.in_ok-to.ensures.value cycle v4 ∙ ap (shown_front c.args.sizes.now) row

pub returns-clause-leaves : goal.returns-clause-leaves
returns-clause-leaves c cycle v6 =
    let v5 = c.gather_row.ensures.adds.grows.extends.valuations cycle v6 in
    let v4 = c.leave_row.ensures.adds.grows.extends.valuations cycle v5 in
    let v3 = c.show_row.ensures.adds.grows.extends.valuations cycle v4 in
    let v2 = c.is_above.ensures.adds.grows.extends.valuations cycle v3 in
    let v1 = c.next_row.ensures.adds.grows.extends.valuations cycle v2 in
    let row = c.in_ok-row.ensures.value cycle v2 in
    c.in_ok-rest.ensures.value cycle v5 ∙ ap (λ t. held_few c.args.sizes.now (shown_left c.args.sizes.now (shown_in cycle c.in_ok-row.row) (if t then cut_of c.args.sizes.now.bits c.args.sizes.now.held c.args.sizes.now.into c.args.sizes.now.held (cycle.net c.args.held.now.word.number) else chosen_at (cycle.net c.args.held.now.empty.number) (rest_at c.args.sizes.now.bits c.args.sizes.now.from c.args.sizes.now.into c.args.sizes.now.held (cycle.net c.args.from.now.word.number)) (c.args.sizes.now.into - 1)) (if t then cycle.net c.args.held.now.error.number else cycle.net c.args.from.now.error.number))) (c.in_ok-alone.ensures.value cycle v1)
    ∙ ap (λ (x : Shown). held_few c.args.sizes.now (shown_left c.args.sizes.now x (if is_alone c.args.sizes.now (shown_in cycle c.args.held.now) then cut_of c.args.sizes.now.bits c.args.sizes.now.held c.args.sizes.now.into c.args.sizes.now.held (cycle.net c.args.held.now.word.number) else chosen_at (cycle.net c.args.held.now.empty.number) (rest_at c.args.sizes.now.bits c.args.sizes.now.from c.args.sizes.now.into c.args.sizes.now.held (cycle.net c.args.from.now.word.number)) (c.args.sizes.now.into - 1)) (if is_alone c.args.sizes.now (shown_in cycle c.args.held.now) then cycle.net c.args.held.now.error.number else cycle.net c.args.from.now.error.number))) row

pub returns-clause-gathers : goal.returns-clause-gathers
returns-clause-gathers c cycle v6 =
    let v5 = c.gather_row.ensures.adds.grows.extends.valuations cycle v6 in
    let v4 = c.leave_row.ensures.adds.grows.extends.valuations cycle v5 in
    let v3 = c.show_row.ensures.adds.grows.extends.valuations cycle v4 in
    let v2 = c.is_above.ensures.adds.grows.extends.valuations cycle v3 in
    let row = c.in_ok-row.ensures.value cycle v2 in
    c.in_ok-gathered.ensures.value cycle v6 ∙ ap (row_gathered c.args.sizes.now) row

pub next_row-requires-clause-held : goal.next_row-requires-clause-held
next_row-requires-clause-held c = beat_lasts _ _ _ c.makes_beat.ensures.adds.grows.extends c.requires.held

pub next_row-requires-clause-from : goal.next_row-requires-clause-from
next_row-requires-clause-from c = beat_lasts _ _ _ c.makes_beat.ensures.adds.grows.extends c.requires.from

pub returns-in_err-alone-clause-adds : goal.returns-in_err-alone-clause-adds
returns-in_err-alone-clause-adds c = adds_fewer _ _ _ _ (omega arith) c.makes_beat.ensures.adds

pub returns-in_err-row-clause-adds : goal.returns-in_err-row-clause-adds
returns-in_err-row-clause-adds c = adds_fewer _ _ _ _ (omega arith) (adds_twice _ _ _ _ _ c.makes_beat.ensures.adds c.next_row.ensures.adds)

pub returns-in_err-more-clause-adds : goal.returns-in_err-more-clause-adds
returns-in_err-more-clause-adds c = adds_fewer _ _ _ _ (omega arith) (adds_twice _ _ _ _ _ (adds_twice _ _ _ _ _ c.makes_beat.ensures.adds c.next_row.ensures.adds) c.is_above.ensures.adds)

pub returns-in_err-to-clause-adds : goal.returns-in_err-to-clause-adds
returns-in_err-to-clause-adds c = adds_fewer _ _ _ _ (omega arith) (adds_twice _ _ _ _ _ (adds_twice _ _ _ _ _ (adds_twice _ _ _ _ _ c.makes_beat.ensures.adds c.next_row.ensures.adds) c.is_above.ensures.adds) c.show_row.ensures.adds)

pub returns-in_err-rest-clause-adds : goal.returns-in_err-rest-clause-adds
returns-in_err-rest-clause-adds c = adds_fewer _ _ _ _ (omega arith) (adds_twice _ _ _ _ _ (adds_twice _ _ _ _ _ (adds_twice _ _ _ _ _ (adds_twice _ _ _ _ _ c.makes_beat.ensures.adds c.next_row.ensures.adds) c.is_above.ensures.adds) c.show_row.ensures.adds) c.leave_row.ensures.adds)

pub returns-in_err-gathered-clause-adds : goal.returns-in_err-gathered-clause-adds
returns-in_err-gathered-clause-adds c = adds_fewer _ _ _ _ (omega arith) (adds_twice _ _ _ _ _ (adds_twice _ _ _ _ _ (adds_twice _ _ _ _ _ (adds_twice _ _ _ _ _ (adds_twice _ _ _ _ _ c.makes_beat.ensures.adds c.next_row.ensures.adds) c.is_above.ensures.adds) c.show_row.ensures.adds) c.leave_row.ensures.adds) c.gather_row.ensures.adds)

pub returns-clause-adds : goal.returns-clause-adds
returns-clause-adds c = adds_fewer _ _ _ _ (omega arith) (adds_twice _ _ _ _ _ (adds_twice _ _ _ _ _ (adds_twice _ _ _ _ _ (adds_twice _ _ _ _ _ (adds_twice _ _ _ _ _ c.makes_beat.ensures.adds c.next_row.ensures.adds) c.is_above.ensures.adds) c.show_row.ensures.adds) c.leave_row.ensures.adds) c.gather_row.ensures.adds)

pub returns-in_err-alone-clause-full : goal.returns-in_err-alone-clause-full
returns-in_err-alone-clause-full c e = let full = c.makes_beat.ensures.full (handed_on _ _ _ _ c.in_err-alone.was c.from_residual.ensures.1 e) in omega (arith, full)

pub returns-in_err-row-clause-full : goal.returns-in_err-row-clause-full
returns-in_err-row-clause-full c e = let most0 = c.makes_beat.ensures.adds.most in let full = c.next_row.ensures.full (handed_on _ _ _ _ c.in_err-row.was c.from_residual-in_err-row.ensures.1 e) in omega (arith, most0, full)

pub returns-in_err-more-clause-full : goal.returns-in_err-more-clause-full
returns-in_err-more-clause-full c e = let most0 = c.makes_beat.ensures.adds.most in let most1 = c.next_row.ensures.adds.most in let full = c.is_above.ensures.full (handed_on _ _ _ _ c.in_err-more.was c.from_residual-in_err-more.ensures.1 e) in omega (arith, most0, most1, full)

pub returns-in_err-to-clause-full : goal.returns-in_err-to-clause-full
returns-in_err-to-clause-full c e = let most0 = c.makes_beat.ensures.adds.most in let most1 = c.next_row.ensures.adds.most in let most2 = c.is_above.ensures.adds.most in let full = c.show_row.ensures.full (handed_on _ _ _ _ c.in_err-to.was c.from_residual-in_err-to.ensures.1 e) in omega (arith, most0, most1, most2, full)

pub returns-in_err-rest-clause-full : goal.returns-in_err-rest-clause-full
returns-in_err-rest-clause-full c e = let most0 = c.makes_beat.ensures.adds.most in let most1 = c.next_row.ensures.adds.most in let most2 = c.is_above.ensures.adds.most in let most3 = c.show_row.ensures.adds.most in let full = c.leave_row.ensures.full (handed_on _ _ _ _ c.in_err-rest.was c.from_residual-in_err-rest.ensures.1 e) in omega (arith, most0, most1, most2, most3, full)

pub returns-in_err-gathered-clause-full : goal.returns-in_err-gathered-clause-full
returns-in_err-gathered-clause-full c e = let most0 = c.makes_beat.ensures.adds.most in let most1 = c.next_row.ensures.adds.most in let most2 = c.is_above.ensures.adds.most in let most3 = c.show_row.ensures.adds.most in let most4 = c.leave_row.ensures.adds.most in let full = c.gather_row.ensures.full (handed_on _ _ _ _ c.in_err-gathered.was c.from_residual-in_err-gathered.ensures.1 e) in omega (arith, most0, most1, most2, most3, most4, full)

pub returns-clause-full : goal.returns-clause-full
returns-clause-full c e = cc
