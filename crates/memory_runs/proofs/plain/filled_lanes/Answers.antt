use Rattle.std.proofs.Common.{suc, ◌≡◌, ◌+◌, ◌-◌, ◌/◌, ◌++◌, arith, sym, ap, ◌∙◌, append_assoc, flat_map}
use Rattle.histories.specs.History.{numbers}
use Rattle.memory_runs.specs.Operations.{filled_of_piece}
use Rattle.memory_runs.specs.Values.{shape_of_end}
use Rattle.memory_runs.proofs.Lanes.{piece_lanes}
use Rattle.memory_runs.proofs.plain.filled_lanes.Goals as goal

pub loop-piece-preserved : goal.loop-piece-preserved
loop-piece-preserved c =
    let from = shape_of_end c.args.from in
    let to = shape_of_end c.args.to in
    let piece = c.loop-piece.piece in
    let k = c.args.from.word_bytes / c.min-size.result - (piece + 1) in
    let left : c.args.from.word_bytes / c.min-size.result - piece ≡ suc k = omega (arith, c.loop-piece-test.true) in
    let next : piece + 1 ≡ suc piece = omega arith in
    let items = c.loop-piece.lanes.items in
    record {
      size_is = c.loop-piece.invariant.size_is;
      joins =
          ap (λ l. l ++ flat_map (filled_of_piece from to c.args.enables) (numbers (piece + 1) k))
          (c.in_ok-push_lanes.ensures.ok ∙ ap (λ l. items ++ l) (piece_lanes from to c.args.enables piece c.min-size.result _ c.loop-piece.invariant.size_is c.takes_all-all.ensures))
          ∙ append_assoc items (filled_of_piece from to c.args.enables piece) (flat_map (filled_of_piece from to c.args.enables) (numbers (piece + 1) k))
          ∙ ap (λ x. items ++ (filled_of_piece from to c.args.enables piece ++ flat_map (filled_of_piece from to c.args.enables) (numbers x k))) next
          ∙ ap (λ n. items ++ flat_map (filled_of_piece from to c.args.enables) (numbers piece n)) (sym left) ∙ c.loop-piece.invariant.joins;
      small = c.in_ok-push_lanes.ensures.small c.loop-piece.invariant.small;
    }
