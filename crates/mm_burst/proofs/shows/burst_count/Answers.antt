use Rattle.std.proofs.Common.{◌≡◌, ◌^◌, if◌then◌else◌, ◌∙◌}
use Rattle.std.proofs.lemmas.Bool.{ne_eqb}
use Rattle.histories.specs.History.{is_raised}
use Rattle.netlist.specs.Runs.{Always}
use Rattle.net_parts.specs.Laws.{if_ok}
use Rattle.memory_links.specs.Cutters.{beats_of}
use Rattle.mm_burst.specs.Pieces.{longest_by}
use Rattle.mm_burst.proofs.WayLaws.{plain_count, ahead_count, ahead_few}
use Rattle.mm_burst.proofs.shows.burst_count.Goals as goal

pub count_ahead-requires-clause-most : goal.count_ahead-requires-clause-most
count_ahead-requires-clause-most c cycle v =
    let way = c.args.way.now in
    let ahead = ne_eqb way.place_bits 0 c.if-way-eq0.false in
    ahead_few way.place_bits (2 ^ way.lanes) way.below_bits (cycle.net c.args.piece.now.step.number) (cycle.net c.args.piece.now.address.number) (is_raised (cycle.net c.args.piece.now.writes.number)) ahead (c.requires.way.places ahead) (c.requires.step cycle v)

pub returns-then-way-eq0-clause-value : goal.returns-then-way-eq0-clause-value
returns-then-way-eq0-clause-value c =
    let way = c.args.way.now in
    if_ok c.count_of.result _ (λ count. Always c.count_of.new.builder (λ cycle. cycle.net count.number ≡ beats_of (if is_raised (cycle.net c.args.piece.now.writes.number) then longest_by way.place_bits way.below_bits else cycle.net c.args.piece.now.step.number) (cycle.net c.args.piece.now.left.number)))
    (λ count value cycle v. (
    let before = c.count_of.ensures.adds.grows.extends.valuations cycle v in
    value cycle v
    ∙ plain_count way.place_bits (2 ^ way.lanes) way.below_bits (cycle.net c.args.piece.now.step.number) (cycle.net c.args.piece.now.address.number) (cycle.net c.args.piece.now.left.number) (is_raised (cycle.net c.args.piece.now.writes.number)) c.if-way-eq0.true (c.requires.step cycle before)))
    c.count_of.ensures.value

pub returns-else-way-eq0-clause-value : goal.returns-else-way-eq0-clause-value
returns-else-way-eq0-clause-value c =
    let way = c.args.way.now in
    if_ok c.count_ahead.result _ (λ count. Always c.count_ahead.new.builder (λ cycle. cycle.net count.number ≡ beats_of (if is_raised (cycle.net c.args.piece.now.writes.number) then longest_by way.place_bits way.below_bits else cycle.net c.args.piece.now.step.number) (cycle.net c.args.piece.now.left.number)))
    (λ count value cycle v. (
    let before = c.count_ahead.ensures.adds.grows.extends.valuations cycle v in
    value cycle v
    ∙ ahead_count way.place_bits (2 ^ way.lanes) way.below_bits (cycle.net c.args.piece.now.step.number) (cycle.net c.args.piece.now.address.number) (cycle.net c.args.piece.now.left.number) (is_raised (cycle.net c.args.piece.now.writes.number)) (ne_eqb way.place_bits 0 c.if-way-eq0.false) (c.requires.step cycle before)))
    c.count_ahead.ensures.value
