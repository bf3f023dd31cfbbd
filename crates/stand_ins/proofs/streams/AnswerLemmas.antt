-- What a source shows follows from the cycles in which the module was ready.
use Rattle.std.proofs.Common.{◌≡◌, ℕ, zero, suc, ◌-◌, ◌<◌, ◌≤◌, ◌&&◌, ◌||◌, ◌==◌, nat_le, List, Option, refl, ap, ap₂, sym, ◌∙◌, arith}
use Rattle.std.specs.Prelude.{is_some, unwrap_or}
use Rattle.std.proofs.Math.Nat.{le_of_suc-le, le_of_lt}
use Rattle.histories.specs.History.{one_if}
use Rattle.iface_roles.specs.declared.records.StreamPort.{StreamPort}
use Rattle.stream_runs.specs.View.{EndView, Beat, Pace, is_high, is_ready_cycle, AgreeBefore}
use Rattle.scenario_tables.specs.declared.statements.SourceStatement.{SourceStatement}
use Rattle.stand_ins.specs.Step.{Step}
use Rattle.stand_ins.specs.StreamsSteps.{Standing, steps_of, next_beat, may_send, goes_on, came_due, standing}
use Rattle.stand_ins.specs.Sources.{port_pace, no_beat, beat_shown, IsSourceStandIn}

abbrev AreReadyAlike : EndView → EndView → ℕ → Type 0
AreReadyAlike one two end = (c : ℕ) → c < end → one.ready c ≡ two.ready c

same_ready_cycles : (pace : Pace) (one two : EndView) (end c : ℕ) → AreReadyAlike one two end → c < end → is_ready_cycle pace one c ≡ is_ready_cycle pace two c
same_ready_cycles pace one two end c alike h = ap (λ level. nat_le pace.latency c && (level == 1)) (alike (c - pace.latency) (omega arith))

same_came : (pace : Pace) (one two : EndView) (end c : ℕ) → AreReadyAlike one two end → c ≤ end → came_due pace one c ≡ came_due pace two c
same_came pace one two end zero alike h = refl
same_came pace one two end (suc c) alike h = ap₂ (λ came due. came || due) (same_came pace one two end c alike (le_of_suc-le h)) (same_ready_cycles pace one two end c alike h)

same_standing : (pace : Pace) (steps : List Step) (one two : EndView) (end c : ℕ) → AreReadyAlike one two end → c ≤ end → standing pace steps one c ≡ standing pace steps two c
same_standing pace steps one two end zero alike h = refl
same_standing pace steps one two end (suc c) alike h =
    ap₂ (λ came due. goes_on pace came due (is_high one.ready c) (standing pace steps one c)) (same_came pace one two end c alike (le_of_suc-le h)) (same_ready_cycles pace one two end c alike h)
    ∙ ap₂ (λ level (now : Standing). goes_on pace (came_due pace two c) (is_ready_cycle pace two c) (level == 1) now) (alike c h) (same_standing pace steps one two end c alike (le_of_suc-le h))

same_shown : (port : StreamPort) (script : List SourceStatement) (one two : EndView) (end c : ℕ) → AreReadyAlike one two end → c < end → beat_shown port script one c ≡ beat_shown port script two c
same_shown port script one two end c alike h =
    let pace = port_pace port in
    ap₂ (λ came due. next_beat (may_send pace came due (standing pace (steps_of script) one c).sent) (standing pace (steps_of script) one c).left) (same_came pace one two end c alike (le_of_lt h)) (same_ready_cycles pace one two end c alike h)
    ∙ ap (λ (now : Standing). next_beat (may_send pace (came_due pace two c) (is_ready_cycle pace two c) now.sent) now.left) (same_standing pace (steps_of script) one two end c alike (le_of_lt h))

pub stand_ins_agree : (port : StreamPort) (script : List SourceStatement) (one two : EndView) (end : ℕ) → AreReadyAlike one two end
    → IsSourceStandIn port script one end → IsSourceStandIn port script two end → AgreeBefore one two end
stand_ins_agree port script one two end alike first second =
    record {
      valid = λ c h. (first c h).valid ∙ ap (λ (beat : Option Beat). one_if (is_some beat)) (same_shown port script one two end c alike h) ∙ sym (second c h).valid;
      beat = λ c h. (first c h).signals ∙ ap (λ (beat : Option Beat). unwrap_or beat no_beat) (same_shown port script one two end c alike h) ∙ sym (second c h).signals;
      ready = alike;
    }

-- an end that shows nothing
abbrev silent : (ℕ → ℕ) → EndView
silent ready = record { valid = λ c. 0; word = λ c. 0; channel = λ c. 0; error = λ c. 0; first = λ c. 0; last = λ c. 0; empty = λ c. 0; ready = ready }

abbrev beat_or_none : StreamPort → List SourceStatement → (ℕ → ℕ) → ℕ → Beat
beat_or_none port script ready c = unwrap_or (beat_shown port script (silent ready) c) no_beat

abbrev pub view_with : StreamPort → List SourceStatement → (ℕ → ℕ) → EndView
view_with port script ready = record {
  valid = λ c. one_if (is_some (beat_shown port script (silent ready) c));
  word = λ c. (beat_or_none port script ready c).word;
  channel = λ c. (beat_or_none port script ready c).channel;
  error = λ c. (beat_or_none port script ready c).error;
  first = λ c. (beat_or_none port script ready c).first;
  last = λ c. (beat_or_none port script ready c).last;
  empty = λ c. (beat_or_none port script ready c).empty;
  ready = ready;
}

pub stands_in_with : (port : StreamPort) (script : List SourceStatement) (ready : ℕ → ℕ) (end : ℕ) → IsSourceStandIn port script (view_with port script ready) end
stands_in_with port script ready end c h =
    let same = same_shown port script (silent ready) (view_with port script ready) end c (λ k below. refl) h in
    record { valid = ap (λ (beat : Option Beat). one_if (is_some beat)) same; signals = ap (λ (beat : Option Beat). unwrap_or beat no_beat) same }
