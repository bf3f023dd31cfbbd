use Rattle.std.proofs.Common.{◌+◌, inl, refl, arith}
use Rattle.stream_runs.specs.Ends.{side_of}
use Rattle.st_format.specs.FormatNets.{turned}
use Rattle.st_path.specs.Parts.{source_of, sink_of}
use Rattle.st_path.specs.Between.{with_errors, formed, still, timed_bounds, formed_bounds}
use Rattle.st_path.proofs.Fronts.{behind, step_at_most}
use Rattle.st_path.proofs.Formats.{resize_bounds, order_part, resize_part}
use Rattle.st_path.proofs.Widths.{format_given, no_memories}
use Rattle.st_path.proofs.stages.with_format.Goals as goal

pub returns : goal.returns
returns g c =
    let joint = c.args.joint.now in
    let source = source_of joint in
    let sink = sink_of joint in
    let format = c.format_of-format.ensures in
    let between = turned joint.source joint.sink (with_errors source sink) in
    let some = c.requires.joined.source_fits.some in
    let order = order_part joint.source joint.sink c.format_of-format.result c.requires.joined format.format format.orders in
    let resize = resize_part joint.source joint.sink c.format_of-format.result c.requires.joined format.format format.resizes in
    let ordered = behind source sink (side_of source) (with_errors source sink) between (timed_bounds source) still (timed_bounds source) 1 _ _ _ _ _ c.requires.front.leads order
    refl some (inl (omega arith)) (λ e s. e) (record { least = omega arith; most = omega arith; rest = omega arith; step = omega arith; largest = omega arith }) in
    record {
      leads = behind source sink (side_of source) between (formed source sink) (timed_bounds source) (resize_bounds source sink) (formed_bounds source sink) 1 _ _ _ _ _ ordered resize
          refl some (inl (omega arith)) (λ e s. e)
          (record { least = omega arith; most = omega arith; rest = omega arith; step = (let few = step_at_most (source.symbols + sink.symbols) 0 1 in omega (arith, few)); largest = omega arith });
      nets = λ widths fit. format_given source sink c.format_of-format.result _ _ _ _ c.requires.joined (c.requires.front.nets widths fit) format.order_widths format.resize_widths format.few_order format.few_resize;
      few_memories = (let front = c.requires.front.few_memories in
          let formed = c.format_of-format.result in
          let turn = no_memories formed.first.first.stage in
          let clear = no_memories formed.first.second.stage in
          omega (arith, front, turn, clear));
    }
