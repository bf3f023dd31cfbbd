-- What a source keeps is enough to know what it shows.
use Rattle.std.proofs.Common.{◌≡◌, ℕ, zero, suc, ◌-◌, ◌<◌, ◌≤◌, Bool, true, false, ◌&&◌, ◌||◌, ◌==◌, nat_le, nat_lt, List, ◌∷◌, take, refl, sym, ap, ap₂, ◌∙◌, subst, arith}
use Rattle.std.specs.Prelude.{replicate, slice_index_or, if◌then◌else◌}
use Rattle.std.proofs.lemmas.Bool.{le-leb}
use Rattle.std.proofs.lemmas.List.{get_or-take}
use Rattle.std.proofs.Math.Dec.{leb-suc-suc, leb-suc-zero}
use Rattle.std.proofs.Math.Nat.{le_of_suc-le-suc}
use Rattle.iface_roles.specs.declared.records.StreamPort.{StreamPort}
use Rattle.iface_roles.specs.Records.{ready_latency}
use Rattle.stream_runs.specs.View.{EndView, Pace, is_high, is_ready_cycle}
use Rattle.scenario_tables.specs.declared.statements.SourceStatement.{SourceStatement}
use Rattle.stand_ins.specs.StreamsSteps.{steps_of, next_beat, may_send, stands_behind, came_due, standing}
use Rattle.stand_ins.specs.Sources.{Keeping, port_pace, lately_ready, keeping_at, keeping_behind, may_send_now, beat_kept, beat_shown}

never_ready : (count ago : ℕ) → slice_index_or (replicate count false) ago false ≡ false
never_ready zero ago = refl
never_ready (suc count) zero = refl
never_ready (suc count) (suc ago) = never_ready count ago

in_the_seven : (x : Bool) (xs : List Bool) (ago : ℕ) → ago < 8 → slice_index_or (x ∷ take 7 xs) ago false ≡ slice_index_or (x ∷ xs) ago false
in_the_seven x xs zero h = refl
in_the_seven x xs (suc ago) h = get_or-take 7 xs ago false (le_of_suc-le-suc h)

-- ready so many cycles ago
pub ready_ago : (view : EndView) (c ago : ℕ) → ago ≤ 8 →
    slice_index_or (is_high view.ready c ∷ lately_ready view c) ago false ≡ (nat_le ago c && is_high view.ready (c - ago))
ready_ago view c zero h = let same : c - 0 ≡ c = omega arith in let low : nat_le 0 c ≡ true = le-leb 0 c (omega arith) in rw (low, same) refl
ready_ago view zero (suc ago) h = never_ready 8 ago ∙ sym (ap (λ b. b && is_high view.ready (0 - suc ago)) (leb-suc-zero ago))
ready_ago view (suc c) (suc ago) h =
    let same : suc c - suc ago ≡ c - ago = omega arith in
    in_the_seven (is_high view.ready c) (lately_ready view c) ago h ∙ ready_ago view c ago (omega arith)
    ∙ sym (ap (λ b. b && is_high view.ready (suc c - suc ago)) (leb-suc-suc ago c) ∙ ap (λ n. nat_le ago c && is_high view.ready n) same)

latency_of : (ready : Bool) (latency allowance : ℕ)
    → (if ready then (let p : Pace = record { latency = latency; allowance = allowance } in p) else record { latency = 0; allowance = 0 }).latency ≡ (if ready then latency else 0)
latency_of true latency allowance = refl
latency_of false latency allowance = refl

pub within_eight : (port : StreamPort) → ready_latency port ≤ 8 → (port_pace port).latency ≤ 8
within_eight port h = let P : ℕ → Type 0 = λ n. n ≤ 8 in subst P (sym (latency_of port.ready port.latency port.allowance)) h

-- whether it may send doesn't depend on ready in the cycle itself
may_by_what_is_kept : (view : EndView) (c latency allowance sent : ℕ) (came : Bool) → latency ≤ 8
    → may_send (record { latency = latency; allowance = allowance }) came (slice_index_or (false ∷ lately_ready view c) latency false) sent
    ≡ may_send (record { latency = latency; allowance = allowance }) came (nat_le latency c && is_high view.ready (c - latency)) sent
may_by_what_is_kept view c zero allowance sent came h = refl
may_by_what_is_kept view c (suc latency) allowance sent came h =
    ap (λ due. may_send (record { latency = suc latency; allowance = allowance }) came due sent) (ready_ago view c (suc latency) h)

may_send_is : (port : StreamPort) (script : List SourceStatement) (view : EndView) (c : ℕ) → ready_latency port ≤ 8
    → may_send_now (keeping_at port script view c) ≡ may_send (port_pace port) (came_due (port_pace port) view c) (is_ready_cycle (port_pace port) view c) (keeping_at port script view c).sent
may_send_is port script view c h =
    may_by_what_is_kept view c (port_pace port).latency (port_pace port).allowance (keeping_at port script view c).sent (came_due (port_pace port) view c) (within_eight port h)

pub keeping_goes_on : (port : StreamPort) (script : List SourceStatement) (view : EndView) (c : ℕ) → ready_latency port ≤ 8
    → keeping_behind (keeping_at port script view c) (is_high view.ready c) ≡ keeping_at port script view (suc c)
keeping_goes_on port script view c h =
    let pace = port_pace port in
    let kept = keeping_at port script view c in
    let ready = is_high view.ready c in
    let with_tests : Bool → Bool → Keeping = λ may due.
    (let behind = stands_behind pace.allowance ready (may && (nat_lt 0 pace.latency || ready)) (standing pace (steps_of script) view c) in
    let made : Keeping = record { pace = pace; left = behind.left; sent = behind.sent; came = came_due pace view c || due; lately = lately_ready view (suc c) } in made) in
    ap₂ with_tests (may_send_is port script view c h) (ready_ago view c pace.latency (within_eight port h))

pub beat_kept_is_shown : (port : StreamPort) (script : List SourceStatement) (view : EndView) (c : ℕ) → ready_latency port ≤ 8
    → beat_kept (keeping_at port script view c) ≡ beat_shown port script view c
beat_kept_is_shown port script view c h = ap (λ may. next_beat may (keeping_at port script view c).left) (may_send_is port script view c h)
