use Rattle.std.proofs.Common.{ℕ, ◌%◌, ◌^◌, Bool, if◌then◌else◌, subst, ap, ◌∙◌, arith, sym}
use Rattle.histories.specs.History.{is_raised, one_if}
use Rattle.net_parts.specs.Laws.{bit_fits, extends_twice, net_lasts, adds_twice, adds_fewer}
use Rattle.net_parts.specs.Refusing.{handed_on}
use Rattle.mm_route.specs.Backward.{IsNextOwed}
use Rattle.mm_route.proofs.Levels.{by_raised, owed_uncut}
use Rattle.mm_route.proofs.next.next_debt.Goals as goal

pub returns-clause-value : goal.returns-clause-value
returns-clause-value c cycle v4 =
    let v3 = c.in_ok-owing.ensures.adds.grows.extends.valuations cycle v4 in
    let v2 = c.in_ok-owed.ensures.adds.grows.extends.valuations cycle v3 in
    let v1 = c.in_ok-asked.ensures.adds.grows.extends.valuations cycle v2 in
    let command = c.args.held.now.shown.command in
    let read = c.in_ok-taken.ensures.read_is cycle v1 in
    let room : ℕ = 2 ^ c.args.room_bits in
    let words : ℕ = one_if (is_raised (cycle.net c.args.valid.number)) in
    let owed : ℕ = cycle.net c.args.held.now.registers.owed.number in
    record {
      owed = owed_uncut room owed _ words _ (subst (λ n. IsNextOwed room owed n words (cycle.net c.in_ok-owed.owed.number))
          (c.in_ok-asked.ensures.value cycle v2 ∙ ap (λ (t : Bool). (if t then cycle.net command.count.number else 0) % room) read) (c.in_ok-owed.ensures.value cycle v3));
      owing = c.in_ok-owing.ensures.value cycle v4 ∙ by_raised _ _ _ _ (bit_fits _ _ c.in_ok-taken.ensures.read cycle v1) read;
    }

pub next_owed-requires-clause-valid : goal.next_owed-requires-clause-valid
next_owed-requires-clause-valid c = net_lasts _ _ _ 1 (extends_twice _ _ _ c.taken_bits.ensures.adds.grows.extends c.asked_words.ensures.adds.grows.extends) c.requires.valid

pub returns-clause-beat_is : goal.returns-clause-beat_is
returns-clause-beat_is c cycle v4 =
    let v3 = c.in_ok-owing.ensures.adds.grows.extends.valuations cycle v4 in
    let v2 = c.in_ok-owed.ensures.adds.grows.extends.valuations cycle v3 in
    c.in_ok-taken.ensures.beat_is cycle (c.in_ok-asked.ensures.adds.grows.extends.valuations cycle v2)

pub returns-in_err-owing-clause-adds : goal.returns-in_err-owing-clause-adds
returns-in_err-owing-clause-adds c = adds_twice 12 1 _ _ _ (adds_twice 8 4 _ _ _ (adds_twice 4 4 _ _ _ c.taken_bits.ensures.adds c.asked_words.ensures.adds) c.next_owed.ensures.adds) c.choose.ensures.adds

pub returns-clause-adds : goal.returns-clause-adds
returns-clause-adds c = adds_twice 12 1 _ _ _ (adds_twice 8 4 _ _ _ (adds_twice 4 4 _ _ _ c.taken_bits.ensures.adds c.asked_words.ensures.adds) c.next_owed.ensures.adds) c.choose.ensures.adds

pub returns-in_err-taken-clause-adds : goal.returns-in_err-taken-clause-adds
returns-in_err-taken-clause-adds c = adds_fewer _ _ _ _ (omega arith) c.taken_bits.ensures.adds

pub returns-in_err-taken-clause-full : goal.returns-in_err-taken-clause-full
returns-in_err-taken-clause-full c e = let full = c.taken_bits.ensures.full (handed_on _ _ _ _ c.in_err-taken.was c.from_residual.ensures.1 e) in omega (arith, full)

pub returns-in_err-asked-clause-adds : goal.returns-in_err-asked-clause-adds
returns-in_err-asked-clause-adds c = adds_fewer _ _ _ _ (omega arith) (adds_twice _ _ _ _ _ c.taken_bits.ensures.adds c.asked_words.ensures.adds)

pub returns-in_err-asked-clause-full : goal.returns-in_err-asked-clause-full
returns-in_err-asked-clause-full c e = let most = c.taken_bits.ensures.adds.most in let full = c.asked_words.ensures.full (handed_on _ _ _ _ c.in_err-asked.was c.from_residual-in_err-asked.ensures.1 e) in omega (arith, most, full)

pub returns-in_err-owed-clause-adds : goal.returns-in_err-owed-clause-adds
returns-in_err-owed-clause-adds c = adds_fewer _ _ _ _ (omega arith) (adds_twice _ _ _ _ _ (adds_twice _ _ _ _ _ c.taken_bits.ensures.adds c.asked_words.ensures.adds) c.next_owed.ensures.adds)

pub returns-in_err-owed-clause-full : goal.returns-in_err-owed-clause-full
returns-in_err-owed-clause-full c e = let most = c.taken_bits.ensures.adds.most in let most2 = c.asked_words.ensures.adds.most in let full = c.next_owed.ensures.full (handed_on _ _ _ _ c.in_err-owed.was c.from_residual-in_err-owed.ensures.1 e) in omega (arith, most, most2, full)

pub returns-in_err-owing-clause-full : goal.returns-in_err-owing-clause-full
returns-in_err-owing-clause-full c e = let most = c.taken_bits.ensures.adds.most in let most2 = c.asked_words.ensures.adds.most in let most3 = c.next_owed.ensures.adds.most in let full = c.choose.ensures.full (handed_on _ _ _ _ c.in_err-owing.was c.from_residual-in_err-owing.ensures.1 e) in omega (arith, most, most2, most3, full)

pub returns-clause-full : goal.returns-clause-full
returns-clause-full c e = cc

pub taken_bits-requires-clause-command : goal.taken_bits-requires-clause-command
taken_bits-requires-clause-command c = c.requires.held.shown.command

pub taken_bits-requires-clause-wait : goal.taken_bits-requires-clause-wait
taken_bits-requires-clause-wait c = c.requires.wait

pub asked_words-requires-clause-taken : goal.asked_words-requires-clause-taken
asked_words-requires-clause-taken c = c.in_ok-taken.ensures.read

pub asked_words-requires-clause-count : goal.asked_words-requires-clause-count
asked_words-requires-clause-count c = c.taken_bits.ensures.adds.grows.extends.nets _ _ c.requires.held.shown.command.count

pub next_owed-requires-clause-owed : goal.next_owed-requires-clause-owed
next_owed-requires-clause-owed c = net_lasts _ _ _ _ (extends_twice _ _ _ c.taken_bits.ensures.adds.grows.extends c.asked_words.ensures.adds.grows.extends) c.requires.held.registers.owed

pub next_owed-requires-clause-asked : goal.next_owed-requires-clause-asked
next_owed-requires-clause-asked c = c.in_ok-asked.ensures.net

pub choose-requires-clause-bit : goal.choose-requires-clause-bit
choose-requires-clause-bit c = net_lasts _ _ _ 1 (extends_twice _ _ _ c.asked_words.ensures.adds.grows.extends c.next_owed.ensures.adds.grows.extends) c.in_ok-taken.ensures.read

pub choose-requires-clause-one : goal.choose-requires-clause-one
choose-requires-clause-one c = (extends_twice _ _ _ c.taken_bits.ensures.adds.grows.extends (extends_twice _ _ _ c.asked_words.ensures.adds.grows.extends c.next_owed.ensures.adds.grows.extends)).nets _ _ c.requires.held.shown.place.is_net

pub choose-requires-clause-other : goal.choose-requires-clause-other
choose-requires-clause-other c = (extends_twice _ _ _ c.taken_bits.ensures.adds.grows.extends (extends_twice _ _ _ c.asked_words.ensures.adds.grows.extends c.next_owed.ensures.adds.grows.extends)).nets _ _ c.requires.held.registers.owing.is_net

pub choose-requires-clause-widths : goal.choose-requires-clause-widths
choose-requires-clause-widths c = c.requires.held.shown.place.has_width ∙ sym c.requires.held.registers.owing.has_width

pub returns-clause-beat : goal.returns-clause-beat
returns-clause-beat c = net_lasts _ _ _ 1 (extends_twice _ _ _ c.asked_words.ensures.adds.grows.extends (extends_twice _ _ _ c.next_owed.ensures.adds.grows.extends c.choose.ensures.adds.grows.extends)) c.in_ok-taken.ensures.beat

pub returns-clause-owed : goal.returns-clause-owed
returns-clause-owed c = net_lasts _ _ _ _ c.choose.ensures.adds.grows.extends c.in_ok-owed.ensures.net

pub returns-clause-owing : goal.returns-clause-owing
returns-clause-owing c = record { is_net = c.in_ok-owing.ensures.net.is_net; has_width = c.in_ok-owing.ensures.net.has_width ∙ c.requires.held.shown.place.has_width }
