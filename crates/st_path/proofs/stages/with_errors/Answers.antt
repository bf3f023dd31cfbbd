use Rattle.std.proofs.Common.{inl, refl, arith, rules}
use Rattle.stream_runs.specs.Ends.{side_of}
use Rattle.st_path.specs.Parts.{source_of, sink_of}
use Rattle.st_path.specs.Between.{timed, with_errors, still, timed_bounds}
use Rattle.st_path.proofs.Fronts.{behind, error_part}
use Rattle.st_path.proofs.Widths.{no_memories}
use Rattle.st_path.proofs.stages.with_errors.Goals as goal

pub returns : goal.returns
returns g c =
    let joint = c.args.joint.now in
    let source = source_of joint in
    let sink = sink_of joint in
    record {
      leads = behind source sink (side_of source) (timed source sink) (with_errors source sink) (timed_bounds source) still (timed_bounds source) 1 _ _ _ _ _ c.requires.front.leads (error_part source sink c.error_tie_of.result.stage c.requires.joined c.error_tie_of.ensures)
          refl c.requires.joined.source_fits.some (inl (omega arith)) (λ e s. s) (record { least = omega arith; most = omega arith; rest = omega arith; step = omega arith; largest = omega arith });
      nets = λ widths fit. (let given = c.requires.front.nets widths fit in search rules);
      few_memories = (let front = c.requires.front.few_memories in let none = no_memories c.error_tie_of.result.stage in omega (arith, front, none));
    }
