use Rattle.std.proofs.Common.{◌≡◌, [], ◌∷◌, ℕ, List, ◌<◌, length, take, subst, ◌∙◌}
use Rattle.std.specs.Bool.{OnTrue, OnFalse}
use Rattle.av_files.specs.Outside.{with_more}
use Rattle.trace_lines.specs.Lines.{end_line as last_line}
use Rattle.simulations.proofs.Simulating.{holds_next, holds_still, one_all, one_part}
use Rattle.simulations.proofs.simulate.tell_end.Goals as goal

pub returns-then-not-whole : goal.returns-then-not-whole
returns-then-not-whole g c = record { lines = λ start faults lines is. holds_still c.args.whole start _ faults _ lines (last_line c.args.cycles ∷ []) c.if-not-whole.true is }

pub returns : goal.returns
returns g c =
    let line : List ℕ = last_line c.args.cycles in
    let held = g.K.Sink.held c.args.sink.now in
    let holds = g.K.Sink.held c.put_all.new.sink in
    let is : c.as_slice.result.now ≡ line = c.as_slice.ensures ∙ c.end_line.ensures in
    let all = subst (λ (bytes : List ℕ). OnTrue c.put_all.result (holds ≡ with_more held bytes)) is c.put_all.ensures.all in
    let part = subst (λ (bytes : List ℕ). OnFalse c.put_all.result ((k : ℕ) × (k < length bytes) × (holds ≡ with_more held (take k bytes)))) is c.put_all.ensures.part in
    record {
      lines = λ start faults lines so_far.
          holds_next c.args.whole c.put_all.result start held holds faults _ _ lines (line ∷ []) c.if-not-whole.false so_far (one_all c.put_all.result held holds line all)
          (one_part c.put_all.result held holds line part) c.put_all.ensures.rose c.put_all.ensures.grows c.put_all.ensures.below;
    }
