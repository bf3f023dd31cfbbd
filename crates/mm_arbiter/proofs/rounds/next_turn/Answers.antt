use Rattle.std.proofs.Common.{ℕ, if◌then◌else◌, ap, ◌∙◌, arith, sym}
use Rattle.histories.specs.History.{is_raised}
use Rattle.command_nets.specs.Groups.{chosen_raised}
use Rattle.net_parts.specs.Laws.{extends_twice, net_lasts, adds_fewer, adds_twice}
use Rattle.net_parts.specs.Refusing.{handed_on}
use Rattle.mm_arbiter.specs.Turns.{turn_nets_last}
use Rattle.mm_arbiter.proofs.rounds.next_turn.Goals as goal

pub returns-clause-value : goal.returns-clause-value
returns-clause-value c cycle v3 =
    let v2 = c.choose.ensures.adds.grows.extends.valuations cycle v3 in
    let v1 = c.left_or_free.ensures.adds.grows.extends.valuations cycle v2 in
    let turns = c.args.turns.now in
    record {
      holder = c.in_ok-holder.ensures.value cycle v3 ∙ chosen_raised (cycle.net c.args.chosen.now.some.number) _ _;
      left = λ some. c.in_ok-left.ensures.value cycle v2 ∙ chosen_raised (cycle.net turns.inside.number) _ _
          ∙ ap (λ (n : ℕ). if is_raised (cycle.net turns.inside.number) then cycle.net turns.left.number else n) (c.in_ok-free.ensures.value cycle v1 some);
    }

pub returns-in_err-free-clause-adds : goal.returns-in_err-free-clause-adds
returns-in_err-free-clause-adds c = adds_fewer _ _ _ _ (omega arith) c.left_by_turn.ensures.adds

pub returns-in_err-free-clause-full : goal.returns-in_err-free-clause-full
returns-in_err-free-clause-full c e = let full = c.left_by_turn.ensures.full (handed_on _ _ _ _ c.in_err-free.was c.from_residual.ensures.1 e) in omega (arith, full)

pub returns-in_err-left-clause-adds : goal.returns-in_err-left-clause-adds
returns-in_err-left-clause-adds c = adds_fewer _ _ _ _ (omega arith) (adds_twice _ _ _ _ _ c.left_by_turn.ensures.adds c.left_or_free.ensures.adds)

pub returns-in_err-left-clause-full : goal.returns-in_err-left-clause-full
returns-in_err-left-clause-full c e =
    let most0 = c.left_by_turn.ensures.adds.most in
    let full = c.left_or_free.ensures.full (handed_on _ _ _ _ c.in_err-left.was c.from_residual-in_err-left.ensures.1 e) in
    omega (arith, most0, full)

pub returns-in_err-holder-clause-adds : goal.returns-in_err-holder-clause-adds
returns-in_err-holder-clause-adds c = adds_fewer _ _ _ _ (omega arith) (adds_twice _ _ _ _ _ (adds_twice _ _ _ _ _ c.left_by_turn.ensures.adds c.left_or_free.ensures.adds) c.choose.ensures.adds)

pub returns-in_err-holder-clause-full : goal.returns-in_err-holder-clause-full
returns-in_err-holder-clause-full c e =
    let most0 = c.left_by_turn.ensures.adds.most in
    let most1 = c.left_or_free.ensures.adds.most in
    let full = c.choose.ensures.full (handed_on _ _ _ _ c.in_err-holder.was c.from_residual-in_err-holder.ensures.1 e) in
    omega (arith, most0, most1, full)

pub returns-clause-adds : goal.returns-clause-adds
returns-clause-adds c = adds_fewer _ _ _ _ (omega arith) (adds_twice _ _ _ _ _ (adds_twice _ _ _ _ _ c.left_by_turn.ensures.adds c.left_or_free.ensures.adds) c.choose.ensures.adds)

pub returns-clause-full : goal.returns-clause-full
returns-clause-full c e = cc

pub returns-clause-holder : goal.returns-clause-holder
returns-clause-holder c = record { is_net = c.in_ok-holder.ensures.net.is_net; has_width = c.in_ok-holder.ensures.net.has_width ∙ c.requires.chosen.seat.has_width }

pub returns-clause-left : goal.returns-clause-left
returns-clause-left c = net_lasts _ _ _ _ c.choose.ensures.adds.grows.extends c.in_ok-left.ensures.net

pub left_by_turn-requires-clause-turns : goal.left_by_turn-requires-clause-turns
left_by_turn-requires-clause-turns c = c.requires.turns

pub left_by_turn-requires-clause-chosen : goal.left_by_turn-requires-clause-chosen
left_by_turn-requires-clause-chosen c = c.requires.chosen

pub left_by_turn-requires-clause-spare : goal.left_by_turn-requires-clause-spare
left_by_turn-requires-clause-spare c = c.requires.spare

pub left_or_free-requires-clause-turns : goal.left_or_free-requires-clause-turns
left_or_free-requires-clause-turns c = turn_nets_last _ _ _ _ c.left_by_turn.ensures.adds.grows.extends c.requires.turns

pub left_or_free-requires-clause-free : goal.left_or_free-requires-clause-free
left_or_free-requires-clause-free c = c.in_ok-free.ensures.net

pub choose-requires-clause-bit : goal.choose-requires-clause-bit
choose-requires-clause-bit c = net_lasts _ _ _ _ (extends_twice _ _ _ c.left_by_turn.ensures.adds.grows.extends c.left_or_free.ensures.adds.grows.extends) c.requires.chosen.some

pub choose-requires-clause-one : goal.choose-requires-clause-one
choose-requires-clause-one c = (extends_twice _ _ _ c.left_by_turn.ensures.adds.grows.extends c.left_or_free.ensures.adds.grows.extends).nets _ _ c.requires.chosen.seat.is_net

pub choose-requires-clause-other : goal.choose-requires-clause-other
choose-requires-clause-other c = (extends_twice _ _ _ c.left_by_turn.ensures.adds.grows.extends c.left_or_free.ensures.adds.grows.extends).nets _ _ c.requires.turns.holder.is_net

pub choose-requires-clause-widths : goal.choose-requires-clause-widths
choose-requires-clause-widths c = c.requires.chosen.seat.has_width ∙ sym c.requires.turns.holder.has_width
