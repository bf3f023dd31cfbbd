use Rattle.std.proofs.Common.{◌||◌, ◌&&◌, not, ap, ◌∙◌, arith}
use Rattle.histories.specs.History.{is_raised, one_if}
use Rattle.net_parts.specs.Laws.{net_lasts, bit_fits, extends_twice, adds_fewer, adds_twice}
use Rattle.command_nets.specs.Levels.{level_is}
use Rattle.mm_burst.specs.Pieces.{piece_lasts}
use Rattle.mm_burst.proofs.Levels.{joined_level}
use Rattle.net_parts.specs.Refusing.{handed_on}
use Rattle.mm_burst.proofs.shows.below.Goals as goal

pub burst_count-requires-clause-most : goal.burst_count-requires-clause-most
burst_count-requires-clause-most c cycle v =
    let v2 = c.either.ensures.adds.grows.extends.valuations cycle v in
    let v1 = c.unless-2.ensures.adds.grows.extends.valuations cycle v2 in
    let v0 = c.only_while.ensures.adds.grows.extends.valuations cycle v1 in
    c.requires.most cycle (c.unless.ensures.adds.grows.extends.valuations cycle v0)

pub burst_count-requires-clause-step : goal.burst_count-requires-clause-step
burst_count-requires-clause-step c cycle v =
    let v2 = c.either.ensures.adds.grows.extends.valuations cycle v in
    let v1 = c.unless-2.ensures.adds.grows.extends.valuations cycle v2 in
    let v0 = c.only_while.ensures.adds.grows.extends.valuations cycle v1 in
    c.requires.step cycle (c.unless.ensures.adds.grows.extends.valuations cycle v0)

pub returns-clause-command : goal.returns-clause-command
returns-clause-command c =
    let e = (extends_twice _ _ _ c.unless.ensures.adds.grows.extends (extends_twice _ _ _ c.only_while.ensures.adds.grows.extends (extends_twice _ _ _ c.unless-2.ensures.adds.grows.extends (extends_twice _ _ _ c.either.ensures.adds.grows.extends c.burst_count.ensures.adds.grows.extends)))) in
    record {
      read = net_lasts _ _ _ _ (extends_twice _ _ _ c.only_while.ensures.adds.grows.extends (extends_twice _ _ _ c.unless-2.ensures.adds.grows.extends (extends_twice _ _ _ c.either.ensures.adds.grows.extends c.burst_count.ensures.adds.grows.extends))) c.in_ok-read.ensures.net;
      write = net_lasts _ _ _ _ e c.requires.piece.writes;
      address = e.nets _ _ c.requires.piece.address;
      word = (extends_twice _ _ _ c.unless-2.ensures.adds.grows.extends (extends_twice _ _ _ c.either.ensures.adds.grows.extends c.burst_count.ensures.adds.grows.extends)).nets _ _ c.in_ok-word.ensures.net.is_net;
      enables = e.nets _ _ c.requires.piece.enables;
      count = c.in_ok-count.ensures.net.is_net;
      more = net_lasts _ _ _ _ c.burst_count.ensures.adds.grows.extends c.in_ok-more.ensures.net;
      tag = e.nets _ _ c.requires.piece.tag;
    }

pub returns-clause-value : goal.returns-clause-value
returns-clause-value c cycle v =
    let v3 = c.burst_count.ensures.adds.grows.extends.valuations cycle v in
    let v2 = c.either.ensures.adds.grows.extends.valuations cycle v3 in
    let v1 = c.unless-2.ensures.adds.grows.extends.valuations cycle v2 in
    let v0 = c.only_while.ensures.adds.grows.extends.valuations cycle v1 in
    let before = c.unless.ensures.adds.grows.extends.valuations cycle v0 in
    let read = level_is (cycle.net c.in_ok-read.read.number) (bit_fits _ _ c.in_ok-read.ensures.net cycle v0) ∙ ap one_if (c.in_ok-read.ensures.value cycle v0) in
    let write = level_is (cycle.net c.args.piece.now.writes.number) (bit_fits _ _ c.requires.piece.writes cycle before) in
    let word = c.in_ok-word.ensures.value cycle v1 in
    let more = joined_level (is_raised (cycle.net c.args.piece.now.follows.number) && not (is_raised (cycle.net c.args.piece.now.writes.number))) (cycle.net c.args.piece.now.more.number) (cycle.net c.in_ok-more.more.number) (bit_fits _ _ c.requires.piece.more cycle before) (bit_fits _ _ c.in_ok-more.ensures.net cycle v3)
    (c.in_ok-more.ensures.value cycle v3 ∙ ap (λ t. t || is_raised (cycle.net c.args.piece.now.more.number)) (c.in_ok-joins.ensures.value cycle v2)) in
    let count = c.in_ok-count.ensures.value cycle v in
    cc

pub returns-in_err-read-clause-adds : goal.returns-in_err-read-clause-adds
returns-in_err-read-clause-adds c = adds_fewer _ _ _ _ (omega arith) c.unless.ensures.adds

pub returns-in_err-read-clause-full : goal.returns-in_err-read-clause-full
returns-in_err-read-clause-full c e =
    let full = c.unless.ensures.full (handed_on _ _ _ _ c.in_err-read.was c.from_residual.ensures.1 e) in
    omega (arith, full)

pub returns-in_err-word-clause-adds : goal.returns-in_err-word-clause-adds
returns-in_err-word-clause-adds c = adds_fewer _ _ _ _ (omega arith) (adds_twice _ _ _ _ _ c.unless.ensures.adds c.only_while.ensures.adds)

pub returns-in_err-word-clause-full : goal.returns-in_err-word-clause-full
returns-in_err-word-clause-full c e =
    let most0 = c.unless.ensures.adds.most in
    let full = c.only_while.ensures.full (handed_on _ _ _ _ c.in_err-word.was c.from_residual-in_err-word.ensures.1 e) in
    omega (arith, most0, full)

pub returns-in_err-joins-clause-adds : goal.returns-in_err-joins-clause-adds
returns-in_err-joins-clause-adds c = adds_fewer _ _ _ _ (omega arith) (adds_twice _ _ _ _ _ (adds_twice _ _ _ _ _ c.unless.ensures.adds c.only_while.ensures.adds) c.unless-2.ensures.adds)

pub returns-in_err-joins-clause-full : goal.returns-in_err-joins-clause-full
returns-in_err-joins-clause-full c e =
    let most0 = c.unless.ensures.adds.most in
    let most1 = c.only_while.ensures.adds.most in
    let full = c.unless-2.ensures.full (handed_on _ _ _ _ c.in_err-joins.was c.from_residual-in_err-joins.ensures.1 e) in
    omega (arith, most0, most1, full)

pub returns-in_err-more-clause-adds : goal.returns-in_err-more-clause-adds
returns-in_err-more-clause-adds c = adds_fewer _ _ _ _ (omega arith) (adds_twice _ _ _ _ _ (adds_twice _ _ _ _ _ (adds_twice _ _ _ _ _ c.unless.ensures.adds c.only_while.ensures.adds) c.unless-2.ensures.adds) c.either.ensures.adds)

pub returns-in_err-more-clause-full : goal.returns-in_err-more-clause-full
returns-in_err-more-clause-full c e =
    let most0 = c.unless.ensures.adds.most in
    let most1 = c.only_while.ensures.adds.most in
    let most2 = c.unless-2.ensures.adds.most in
    let full = c.either.ensures.full (handed_on _ _ _ _ c.in_err-more.was c.from_residual-in_err-more.ensures.1 e) in
    omega (arith, most0, most1, most2, full)

pub returns-in_err-count-clause-adds : goal.returns-in_err-count-clause-adds
returns-in_err-count-clause-adds c = adds_fewer _ _ _ _ (omega arith) (adds_twice _ _ _ _ _ (adds_twice _ _ _ _ _ (adds_twice _ _ _ _ _ (adds_twice _ _ _ _ _ c.unless.ensures.adds c.only_while.ensures.adds) c.unless-2.ensures.adds) c.either.ensures.adds) c.burst_count.ensures.adds)

pub returns-in_err-count-clause-full : goal.returns-in_err-count-clause-full
returns-in_err-count-clause-full c e =
    let most0 = c.unless.ensures.adds.most in
    let most1 = c.only_while.ensures.adds.most in
    let most2 = c.unless-2.ensures.adds.most in
    let most3 = c.either.ensures.adds.most in
    let full = c.burst_count.ensures.full (handed_on _ _ _ _ c.in_err-count.was c.from_residual-in_err-count.ensures.1 e) in
    omega (arith, most0, most1, most2, most3, full)

pub returns-clause-adds : goal.returns-clause-adds
returns-clause-adds c = adds_fewer _ _ _ _ (omega arith) (adds_twice _ _ _ _ _ (adds_twice _ _ _ _ _ (adds_twice _ _ _ _ _ (adds_twice _ _ _ _ _ c.unless.ensures.adds c.only_while.ensures.adds) c.unless-2.ensures.adds) c.either.ensures.adds) c.burst_count.ensures.adds)

pub returns-clause-full : goal.returns-clause-full
returns-clause-full c e = cc

pub burst_count-requires-clause-piece : goal.burst_count-requires-clause-piece
burst_count-requires-clause-piece c =
    piece_lasts _ _ _ (extends_twice _ _ _ c.unless.ensures.adds.grows.extends (extends_twice _ _ _ c.only_while.ensures.adds.grows.extends (extends_twice _ _ _ c.unless-2.ensures.adds.grows.extends c.either.ensures.adds.grows.extends))) c.requires.piece
