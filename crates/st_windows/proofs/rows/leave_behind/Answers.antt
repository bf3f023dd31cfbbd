use Rattle.std.proofs.Common.{◌≡◌, ◌-◌, ◌==◌, if◌then◌else◌, ◌∙◌, sym, ap, arith}
use Rattle.netlist.specs.Runs.{Always}
use Rattle.net_parts.specs.Laws.{net_lasts, extends_twice, grows_once, adds_twice, adds_fewer, bit_fits, if_ok}
use Rattle.net_parts.specs.Bits.{chosen_high}
use Rattle.net_parts.specs.Refusing.{handed_on}
use Rattle.stage_core.specs.Groups.{shown_in}
use Rattle.stage_core.specs.Lasting.{beat_lasts}
use Rattle.st_windows.specs.Cuts.{cut_of, rest_at, chosen_at}
use Rattle.st_windows.specs.Rows.{shown_left}
use Rattle.st_windows.proofs.rows.leave_behind.Goals as goal

pub returns-clause-value : goal.returns-clause-value
returns-clause-value c =
    if_ok c.drop_front.result _ (λ made. Always c.drop_front.new.builder (λ cycle. shown_in cycle made ≡ shown_left c.args.sizes.now (shown_in cycle c.args.row.now) (if cycle.net c.args.alone.number == 1 then cut_of c.args.sizes.now.bits c.args.sizes.now.held c.args.sizes.now.into c.args.sizes.now.held (cycle.net c.args.held.now.word.number) else chosen_at (cycle.net c.args.held.now.empty.number) (rest_at c.args.sizes.now.bits c.args.sizes.now.from c.args.sizes.now.into c.args.sizes.now.held (cycle.net c.args.from.now.word.number)) (c.args.sizes.now.into - 1)) (if cycle.net c.args.alone.number == 1 then cycle.net c.args.held.now.error.number else cycle.net c.args.from.now.error.number)))
    (λ made value cycle v3.
    (let v2 = c.drop_front.ensures.adds.grows.extends.valuations cycle v3 in
    let v1 = c.mux.ensures.extends.valuations cycle v2 in
    let v0 = c.left_word.ensures.adds.grows.extends.valuations cycle v1 in
    let error = (c.in_ok-error.ensures.value cycle v2).1 ∙ chosen_high (cycle.net c.args.alone.number) _ _ (bit_fits _ _ c.requires.alone cycle v0) in
    value cycle v3
    ∙ ap (λ n. shown_left c.args.sizes.now (shown_in cycle c.args.row.now) n (cycle.net c.in_ok-error.error.number)) (c.in_ok-word.ensures.value cycle v1)
    ∙ ap (λ n. shown_left c.args.sizes.now (shown_in cycle c.args.row.now) (if cycle.net c.args.alone.number == 1 then cut_of c.args.sizes.now.bits c.args.sizes.now.held c.args.sizes.now.into c.args.sizes.now.held (cycle.net c.args.held.now.word.number) else chosen_at (cycle.net c.args.held.now.empty.number) (rest_at c.args.sizes.now.bits c.args.sizes.now.from c.args.sizes.now.into c.args.sizes.now.held (cycle.net c.args.from.now.word.number)) (c.args.sizes.now.into - 1)) n) error))
    c.drop_front.ensures.value

pub returns-in_err-word-clause-adds : goal.returns-in_err-word-clause-adds
returns-in_err-word-clause-adds c = adds_fewer _ _ _ _ (omega arith) c.left_word.ensures.adds

pub returns-in_err-error-clause-adds : goal.returns-in_err-error-clause-adds
returns-in_err-error-clause-adds c = adds_fewer _ _ _ _ (omega arith) (adds_twice _ _ _ _ _ c.left_word.ensures.adds (grows_once _ _ c.mux.ensures.extends c.mux.ensures.grows))

pub returns-clause-adds : goal.returns-clause-adds
returns-clause-adds c = adds_fewer _ _ _ _ (omega arith) (adds_twice _ _ _ _ _ (adds_twice _ _ _ _ _ c.left_word.ensures.adds (grows_once _ _ c.mux.ensures.extends c.mux.ensures.grows)) c.drop_front.ensures.adds)

pub returns-in_err-word-clause-full : goal.returns-in_err-word-clause-full
returns-in_err-word-clause-full c e = let full = c.left_word.ensures.full (handed_on _ _ _ _ c.in_err-word.was c.from_residual.ensures.1 e) in omega (arith, full)

pub returns-in_err-error-clause-full : goal.returns-in_err-error-clause-full
returns-in_err-error-clause-full c e = let most0 = c.left_word.ensures.adds.most in let full = c.mux.ensures.full.0 (handed_on _ _ _ _ c.in_err-error.was c.from_residual-in_err-error.ensures.1 e) in omega (arith, most0, full)

pub returns-clause-full : goal.returns-clause-full
returns-clause-full c e = let most0 = c.left_word.ensures.adds.most in let most1 = c.mux.ensures.grows.most in let full = c.drop_front.ensures.full e in omega (arith, most0, most1, full)

pub left_word-requires-clause-held : goal.left_word-requires-clause-held
left_word-requires-clause-held c = record { is_net = c.requires.held.word; has_width = c.requires.held_widths.word }

pub left_word-requires-clause-coming : goal.left_word-requires-clause-coming
left_word-requires-clause-coming c = record { is_net = c.requires.from.word; has_width = c.requires.comes.word }

pub left_word-requires-clause-count : goal.left_word-requires-clause-count
left_word-requires-clause-count c = record { is_net = c.requires.held.empty; has_width = c.requires.held_widths.empty }

pub mux-requires-clause-s_is : goal.mux-requires-clause-s_is
mux-requires-clause-s_is c = c.left_word.ensures.adds.grows.extends.nets _ _ c.requires.alone.is_net

pub mux-requires-clause-a_is : goal.mux-requires-clause-a_is
mux-requires-clause-a_is c = c.left_word.ensures.adds.grows.extends.nets _ _ c.requires.held.error

pub mux-requires-clause-b_is : goal.mux-requires-clause-b_is
mux-requires-clause-b_is c = c.left_word.ensures.adds.grows.extends.nets _ _ c.requires.from.error

pub mux-requires-clause-widths : goal.mux-requires-clause-widths
mux-requires-clause-widths c = c.requires.held_widths.error

pub drop_front-requires-clause-row : goal.drop_front-requires-clause-row
drop_front-requires-clause-row c = beat_lasts _ _ _ (extends_twice _ _ _ c.left_word.ensures.adds.grows.extends c.mux.ensures.extends) c.requires.row

pub drop_front-requires-clause-empty : goal.drop_front-requires-clause-empty
drop_front-requires-clause-empty c = c.requires.widths.empty

pub drop_front-requires-clause-more : goal.drop_front-requires-clause-more
drop_front-requires-clause-more c = net_lasts _ _ _ _ (extends_twice _ _ _ c.left_word.ensures.adds.grows.extends c.mux.ensures.extends) c.requires.more

pub drop_front-requires-clause-is_more : goal.drop_front-requires-clause-is_more
drop_front-requires-clause-is_more c cycle v = c.requires.is_more cycle ((extends_twice _ _ _ c.left_word.ensures.adds.grows.extends c.mux.ensures.extends).valuations cycle v)

pub drop_front-requires-clause-word : goal.drop_front-requires-clause-word
drop_front-requires-clause-word c = record { is_net = c.mux.ensures.extends.nets _ _ c.in_ok-word.ensures.net.is_net; has_width = c.in_ok-word.ensures.net.has_width }

pub drop_front-requires-clause-error : goal.drop_front-requires-clause-error
drop_front-requires-clause-error c = record { is_net = c.in_ok-error.ensures.net.0; has_width = c.in_ok-error.ensures.net.1 ∙ c.requires.held_widths.error ∙ sym c.requires.widths.error }
