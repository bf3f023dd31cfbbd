-- The laws of stages between the views of nets.
use Rattle.std.proofs.Common.{◌≡◌, ℕ, ◌<◌, Bool, ◌==◌, nat_lt, IsTrue, Option, Some, None, refl, sym, subst, ap}
use Rattle.std.specs.Prelude.{IsSomeAnd}
use Rattle.netlist.specs.Nets.{NetValue}
use Rattle.netlist.specs.Netlists.{Netlist}
use Rattle.netlist.specs.Runs.{Cycle, Run}
use Rattle.stream_runs.specs.View.{EndView, Side}
use Rattle.stream_machines.specs.Stage.{Shape, StageRun, KeepsStageLaw, PassesReady, PassesAll, Fits, pass_shape, pass_run, chain_shape, chain_run, chain_rank, ready_cycles}
use Rattle.stage_core.specs.declared.beat.BeatNets.{BeatNets}
use Rattle.stage_core.specs.Beats.{view_of, ShowSame}
use Rattle.stage_core.specs.Law.{KeepsShape, ReadyPasses, unranked}
use Rattle.stage_core.specs.PassNets.{IsPassShape}
use Rattle.stage_core.specs.ChainNets.{ShapesFit}
use Rattle.stage_core.specs.MaybeNets.{forward_of}
use Rattle.net_parts.specs.Memories.{SameWords}

-- ---- a stage of no nets

pub pass_between : (shape : Shape) (from to : BeatNets) (ready up : NetValue) (run : Run) → IsPassShape shape → to ≡ from
    → up ≡ ready →
    ((passes : ℕ → Bool) (side : Side) (view : EndView) → 0 < side.symbols → PassesAll passes side
    → KeepsStageLaw (pass_shape passes side) (pass_run side view)) →
    KeepsShape shape (view_of run from up) (view_of run to ready)
pass_between shape from to ready up run p f b law =
    subst (λ (n : BeatNets). KeepsShape shape (view_of run from up) (view_of run n ready)) (sym f)
    (subst (λ (n : NetValue). KeepsShape shape (view_of run from up) (view_of run from n)) b
    (record {
      rank = ready_cycles shape.up.pace.latency (view_of run from up);
      keeps =
          subst (λ (s : Shape). KeepsStageLaw s (pass_run shape.up (view_of run from up))) (sym p.is)
          (law shape.passes shape.up (view_of run from up) p.some p.passes);
    }))

-- ---- a chain

-- the two parts in a run
fitting : (first second : Shape) (up middle down : EndView) (a b : ℕ → ℕ) → ShapesFit first second →
    (IsTrue (nat_lt 0 second.up.pace.latency) → (c : ℕ) → up.ready c ≡ middle.ready c)
    → (IsTrue first.needs_ready → ReadyPasses second middle down) →
    Fits first second (record { up = up; down = middle; rank = a }) (record { up = middle; down = down; rank = b })
fitting first second up middle down a b fit shown always = record {
  same_side = fit.same_side;
  same_view = refl;
  passed_on = fit.passed_on;
  has_symbols = fit.has_symbols;
  divides = fit.divides;
  has_errors = fit.has_errors;
  delayed = λ late. ((fit.delayed late).0, (fit.delayed late).1, λ c. ap (λ v. v == 1) (shown late c));
  always_ready = always;
}

pub chain_between : (first second shape : Shape) (up middle down : EndView) → shape ≡ chain_shape first second
    → ShapesFit first second →
    (IsTrue (nat_lt 0 second.up.pace.latency) → (c : ℕ) → up.ready c ≡ middle.ready c)
    → (IsTrue first.needs_ready → ReadyPasses second middle down) →
    ((one two : StageRun) → Fits first second one two → KeepsStageLaw first one → KeepsStageLaw second two
    → KeepsStageLaw (chain_shape first second) (chain_run first second one two)) →
    KeepsShape first up middle → KeepsShape second middle down → KeepsShape shape up down
chain_between first second shape up middle down is fit shown always law a b =
    let one : StageRun = record { up = up; down = middle; rank = a.rank } in
    let two : StageRun = record { up = middle; down = down; rank = b.rank } in
    record {
      rank = chain_rank first second one two;
      keeps =
          subst (λ (s : Shape). KeepsStageLaw s (chain_run first second one two)) (sym is)
          (law one two (fitting first second up middle down a.rank b.rank fit shown always) a.keeps b.keeps);
    }

pub chain_ready_between : (first second shape : Shape) (up middle down : EndView) → shape ≡ chain_shape first second
    → ShapesFit first second →
    (IsTrue (nat_lt 0 second.up.pace.latency) → (c : ℕ) → up.ready c ≡ middle.ready c) →
    ((one two : StageRun) → Fits first second one two → KeepsStageLaw first one → PassesReady first one → PassesReady second two
    → PassesReady (chain_shape first second) (chain_run first second one two)) →
    KeepsShape first up middle → ReadyPasses first up middle → ReadyPasses second middle down → ReadyPasses shape up down
chain_ready_between first second shape up middle down is fit shown law a x y =
    subst (λ (s : Shape). ReadyPasses s up down) (sym is)
    (law (record { up = up; down = middle; rank = a.rank }) (unranked middle down)
    (fitting first second up middle down a.rank (λ _. 0) fit shown (λ _. y)) a.keeps x y)

-- ---- a stage where one is needed

-- this cycle's ready, by what is kept of the part
pub kept_ignores : {S H : Type 0} (forward_in : S → BeatNets → BeatNets → H → Netlist → Type 0) (owns memories : H → ℕ → Type 0)
    (stage : S) (from to : BeatNets) (kept : Option H) (netlist : Netlist) (one other : Cycle) →
    ((held : H) → forward_in stage from to held netlist → ((n : ℕ) → owns held n → one.net n ≡ other.net n)
    → SameWords (memories held) netlist one other → ShowSame from one other → ShowSame to one other) →
    forward_of forward_in (Some stage) from to kept netlist
    → ((n : ℕ) → IsSomeAnd kept (λ held. owns held n) → one.net n ≡ other.net n)
    → SameWords (λ m. IsSomeAnd kept (λ held. memories held m)) netlist one other → ShowSame from one other
    → ShowSame to one other
kept_ignores forward_in owns memories stage from to (Some held) netlist one other law f state words same =
    law held f state words same
kept_ignores forward_in owns memories stage from to None netlist one other law f state words same = absurd f
