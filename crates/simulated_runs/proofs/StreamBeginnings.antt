-- Sources and sinks that show the same in their first cycles.
use Rattle.std.proofs.Common.{◌≡◌, ℕ, zero, suc, ◌-◌, ◌<◌, ◌≤◌, ◌==◌, ◌||◌, ◌&&◌, Bool, nat_le, List, ◌∷◌, take, Option, is_some, unwrap_or, refl, sym, ap, ap₂, ◌∙◌, arith}
use Rattle.histories.specs.History.{one_if}
use Rattle.iface_roles.specs.declared.records.StreamPort.{StreamPort}
use Rattle.stream_runs.specs.View.{EndView, Beat, Pace, AgreeBefore, beat_at, is_high, is_ready_cycle}
use Rattle.scenario_tables.specs.declared.statements.SourceStatement.{SourceStatement}
use Rattle.scenario_tables.specs.declared.statements.Pattern.{Pattern}
use Rattle.stand_ins.specs.Step.{Step}
use Rattle.stand_ins.specs.StreamsSteps.{Standing, steps_of, next_beat, may_send, goes_on, came_due, standing, left_before}
use Rattle.stand_ins.specs.Sources.{port_pace, no_beat, beat_shown, Shows, IsSourceStandIn, lately_ready, Keeping, keeping_at}
use Rattle.stand_ins.specs.Sinks.{IsSinkStandIn}

-- ready has agreed up to a cycle, so the cycle is a ready one in both
same_ready : (pace : Pace) (one two : EndView) (c : ℕ) → ((k : ℕ) → k ≤ c → one.ready k ≡ two.ready k) → is_ready_cycle pace one c ≡ is_ready_cycle pace two c
same_ready pace one two c same = ap (λ (level : ℕ). nat_le pace.latency c && (level == 1)) (same (c - pace.latency) (omega arith))

same_came : (pace : Pace) (one two : EndView) (c : ℕ) → ((k : ℕ) → k < c → one.ready k ≡ two.ready k) → came_due pace one c ≡ came_due pace two c
same_came pace one two zero same = refl
same_came pace one two (suc c) same =
    ap₂ (λ came due. came || due) (same_came pace one two c (λ k low. same k (omega arith))) (same_ready pace one two c (λ k low. same k (omega arith)))

same_standing : (pace : Pace) (steps : List Step) (one two : EndView) (c : ℕ) → ((k : ℕ) → k < c → one.ready k ≡ two.ready k) → standing pace steps one c ≡ standing pace steps two c
same_standing pace steps one two zero same = refl
same_standing pace steps one two (suc c) same =
    ap₂ (λ came due. goes_on pace came due (is_high one.ready c) (standing pace steps one c)) (same_came pace one two c (λ k low. same k (omega arith))) (same_ready pace one two c (λ k low. same k (omega arith)))
    ∙ ap₂ (λ level (now : Standing). goes_on pace (came_due pace two c) (is_ready_cycle pace two c) (level == 1) now) (same c (omega arith)) (same_standing pace steps one two c (λ k low. same k (omega arith)))

same_beat : (port : StreamPort) (script : List SourceStatement) (one two : EndView) (c : ℕ) → ((k : ℕ) → k ≤ c → one.ready k ≡ two.ready k) → beat_shown port script one c ≡ beat_shown port script two c
same_beat port script one two c same =
    let pace = port_pace port in
    let before : (k : ℕ) → k < c → one.ready k ≡ two.ready k = λ k low. same k (omega arith) in
    ap₂ (λ came due. next_beat (may_send pace came due (standing pace (steps_of script) one c).sent) (standing pace (steps_of script) one c).left) (same_came pace one two c before) (same_ready pace one two c same)
    ∙ ap (λ (now : Standing). next_beat (may_send pace (came_due pace two c) (is_ready_cycle pace two c) now.sent) now.left) (same_standing pace (steps_of script) one two c before)

shows_same : (one two : EndView) (c : ℕ) (beat other : Option Beat) → one.valid c ≡ two.valid c → beat_at one c ≡ beat_at two c → beat ≡ other → Shows one c beat → Shows two c other
shows_same one two c beat other valid signals is shows = record {
  valid = sym valid ∙ shows.valid ∙ ap (λ (b : Option Beat). one_if (is_some b)) is;
  signals = sym signals ∙ shows.signals ∙ ap (λ (b : Option Beat). unwrap_or b no_beat) is;
}

pub same_source : (port : StreamPort) (script : List SourceStatement) (one two : EndView) (end : ℕ) → AgreeBefore one two end → IsSourceStandIn port script one end → IsSourceStandIn port script two end
same_source port script one two end agree stands =
    λ c low. shows_same one two c (beat_shown port script one c) (beat_shown port script two c) (agree.valid c low) (agree.beat c low)
    (same_beat port script one two c (λ k below. agree.ready k (omega arith))) (stands c low)

pub same_sink : (script : List Pattern) (one two : EndView) (end : ℕ) → AgreeBefore one two end → IsSinkStandIn script one end → IsSinkStandIn script two end
same_sink script one two end agree stands = λ c low. sym (agree.ready c low) ∙ stands c low

same_lately : (one two : EndView) (c : ℕ) → ((k : ℕ) → k < c → one.ready k ≡ two.ready k) → lately_ready one c ≡ lately_ready two c
same_lately one two zero same = refl
same_lately one two (suc c) same =
    ap₂ (λ (level : ℕ) (earlier : List Bool). (level == 1) ∷ take 7 earlier) (same c (omega arith)) (same_lately one two c (λ k low. same k (omega arith)))

pub same_keeping : (port : StreamPort) (script : List SourceStatement) (one two : EndView) (end : ℕ) → AgreeBefore one two end → keeping_at port script one end ≡ keeping_at port script two end
same_keeping port script one two end agree =
    let pace = port_pace port in
    ap₂ (λ (now : Standing) came. let kept : Keeping = record { pace = pace; left = now.left; sent = now.sent; came = came; lately = lately_ready one end } in kept)
    (same_standing pace (steps_of script) one two end (λ k low. agree.ready k low)) (same_came pace one two end (λ k low. agree.ready k low))
    ∙ ap (λ (lately : List Bool). let kept : Keeping = record { pace = pace; left = left_before pace (steps_of script) two end; sent = (standing pace (steps_of script) two end).sent; came = came_due pace two end; lately = lately } in kept)
    (same_lately one two end (λ k low. agree.ready k low))
