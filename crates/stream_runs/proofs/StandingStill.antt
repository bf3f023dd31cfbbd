-- A stream that stands still is not awake.
use Rattle.std.proofs.Common.{◌≡◌, ℕ, zero, suc, ◌+◌, ◌-◌, ◌≤◌, ◌<◌, Bool, true, false, IsTrue, [], refl, ◌∙◌, subst, arith}
use Rattle.std.proofs.lemmas.List.{append-nil}
use Rattle.std.proofs.lemmas.Bool.{and_from, le-leb}
use Rattle.stream_runs.specs.View.{EndView, is_ready_cycle, is_high}
use Rattle.stream_runs.specs.Symbols.{transferred_symbols}
use Rattle.stream_runs.specs.Awake.{NeverIdles, makes_beat, on_the_way, beats_begun}
use Rattle.stream_runs.specs.Rows.{plain_stream, shut_out, swallowed, both_shut, both_wait, kept_out, later, showing, always, never}

-- a sink that is always ready sees ready cycles alone
always_ready : (view : EndView) → ((c : ℕ) → IsTrue (is_high view.ready c)) → (c : ℕ) → IsTrue (is_ready_cycle (later 0) view c)
always_ready view ready c = and_from _ _ (le-leb 0 c (omega arith)) (subst (λ n. IsTrue (is_high view.ready n)) none (ready c))
  where
    none : c ≡ c - 0
    none = omega arith

-- a module that never shows ready
pub shut_out_idles : (window fifo_depth : ℕ) → 0 < window → NeverIdles window (plain_stream fifo_depth) shut_out window → ⊥
shut_out_idles window fifo_depth h awake =
    let (c, from, to, shown) = awake.accepts 0 (omega arith) (λ c _ _. always_ready shut_out.sink (λ _. refl) c) in
    let p : ◌≡◌ {A = Bool} false true = shown in absurd (cc)

-- a queue that takes nothing in
pub both_shut_idles : (window fifo_depth : ℕ) → 0 < window → 0 < fifo_depth → NeverIdles window (plain_stream fifo_depth) both_shut window → ⊥
both_shut_idles window fifo_depth h some awake =
    let (c, from, to, shown) = awake.takes_in 0 (omega arith) (λ c _ _. nothing c) in
    let p : ◌≡◌ {A = Bool} false true = shown in absurd (cc)
  where
    none_kept : (c : ℕ) → transferred_symbols (plain_stream fifo_depth).source both_shut.source c ≡ []
    none_kept zero = refl
    none_kept (suc c) = append-nil _ ∙ none_kept c

    nothing : (c : ℕ) → beats_begun 1 (on_the_way (plain_stream fifo_depth) both_shut c) + 1 ≤ fifo_depth
    nothing c = rw (none_kept c) (omega (arith, some))

-- a beat that was accepted and isn't shown to the sink is there in each later cycle
beat_waits : (ready : ℕ → ℕ) (fifo_depth c : ℕ) → 1 ≤ c
    → IsTrue (makes_beat 1 (on_the_way (plain_stream fifo_depth) (record { source = swallowed.source; sink = showing ready []; dropped = never }) c))
beat_waits ready fifo_depth zero from = absurd (omega arith)
beat_waits ready fifo_depth (suc c) from = rw (one_kept c, none_given (suc c)) refl
  where
    one_kept : (c : ℕ) → transferred_symbols (plain_stream fifo_depth).source swallowed.source (suc c) ≡ transferred_symbols (plain_stream fifo_depth).source swallowed.source 1
    one_kept zero = refl
    one_kept (suc c) = append-nil _ ∙ one_kept c

    none_given : (c : ℕ) → transferred_symbols (plain_stream fifo_depth).sink (showing ready []) c ≡ []
    none_given zero = refl
    none_given (suc c) = append-nil _ ∙ none_given c

-- a module that swallows a beat
pub swallowed_idles : (window fifo_depth : ℕ) → 0 < window → NeverIdles window (plain_stream fifo_depth) swallowed (1 + window) → ⊥
swallowed_idles window fifo_depth h awake =
    let (c, from, to, shown) = awake.delivers 1 (omega arith) (λ c _ _. always_ready swallowed.sink (λ _. refl) c) (λ c from _. beat_waits always fifo_depth c from) in
    let p : ◌≡◌ {A = Bool} false true = shown in absurd (cc)

-- a module that waits for ready before a sink that waits for a beat
pub both_wait_idle : (window fifo_depth : ℕ) → 0 < window → NeverIdles window (plain_stream fifo_depth) both_wait (1 + window) → ⊥
both_wait_idle window fifo_depth h awake =
    let (c, from, to, shown) = awake.shows refl 1 (omega arith) (λ c from _. beat_waits never fifo_depth c from) in
    let p : ◌≡◌ {A = Bool} false true = shown in absurd (cc)

-- a module that takes no beat in while it shows none
pub kept_out_idles : (window fifo_depth : ℕ) → 0 < window → NeverIdles window (plain_stream fifo_depth) kept_out window → ⊥
kept_out_idles window fifo_depth h awake =
    let (c, from, to, taken) = awake.frees refl 0 (omega arith) (λ _ _ _. refl) (λ _ _ _. refl) in
    let p : ◌≡◌ {A = Bool} false true = taken in absurd (cc)
