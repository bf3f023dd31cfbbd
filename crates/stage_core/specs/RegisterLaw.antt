-- The nets of a register are the machine of a register.
use Rattle.std.proofs.Common.{◌≡◌, ℕ, suc, ◌+◌, ◌<◌, Bool, true, false, not, ◌&&◌, ◌||◌, ◌==◌, nat_lt, if◌then◌else◌, List, [], ◌∷◌, ◌++◌, length, drop, refl, sym, subst, ap, ◌∙◌, arith}
use Rattle.netlist.specs.Nets.{NetValue}
use Rattle.netlist.specs.Netlists.{Netlist}
use Rattle.netlist.specs.Runs.{Cycle, Run, cycle_of, IsEndlessRun, IsValuation}
use Rattle.stream_runs.specs.View.{EndView, Side, Beat, is_high}
use Rattle.stream_machines.specs.Stage.{Shape, KeepsStageLaw, PassesAll}
use Rattle.stream_machines.specs.Parts.{plain_run}
use Rattle.stream_machines.specs.Buffers.{IsRegisterRun, ShowsHeld, buffer_shape}
use Rattle.stage_core.specs.declared.beat.BeatNets.{BeatNets}
use Rattle.stage_core.specs.declared.register.RegisterKept.{RegisterKept}
use Rattle.stage_core.specs.Beats.{view_of, ShowSame}
use Rattle.stage_core.specs.Groups.{Shown, shown_in, nothing_shown, IsOfBeat}
use Rattle.stage_core.specs.Law.{KeepsShape, ReadyPasses}
use Rattle.stage_core.specs.RegisterNets.{IsBufferShape, RegisterForward, RegisterBackward}
use Rattle.stage_core.specs.BeatLaws.{same_state, show_same}
use Rattle.net_parts.specs.Bits.{of_chosen}

-- ---- the machine

-- the beat, if there is one
abbrev pub held_if : Bool → Beat → List Beat
held_if true beat = beat ∷ []
held_if false beat = []

abbrev pub held_in : Shown → List Beat
held_in shown = held_if (shown.valid == 1) shown.beat

shows_held : (t : Bool) (up down : EndView) (c : ℕ) → is_high down.valid c ≡ t
    → ShowsHeld false
    (held_if t
    (record {
      word =
          down.word c;
      channel =
          down.channel c;
      error = down.error c;
      first = down.first c;
      last = down.last c;
      empty = down.empty c;
    })) up down c
shows_held true up down c e = (e, refl)
shows_held false up down c e = e

-- one cycle: v is that a beat is held, r is ready downstream, f is that a beat is shown upstream
one_cycle : (v r f : Bool) (b x : Beat) →
    (if not v || r then held_if f x else held_if v b)
    ≡ (if v && r then drop 1 (held_if v b ++ (if f && (not v || r) then x ∷ [] else []))
    else held_if v b ++ (if f && (not v || r) then x ∷ [] else []))
one_cycle true true true b x = refl
one_cycle true true false b x = refl
one_cycle true false true b x = refl
one_cycle true false false b x = refl
one_cycle false true true b x = refl
one_cycle false true false b x = refl
one_cycle false false true b x = refl
one_cycle false false false b x = refl

room : (v r : Bool) (b : Beat) → (not v || r) ≡ (nat_lt (length (held_if v b)) 1 || r)
room true r b = refl
room false r b = refl

module _ (kept : RegisterKept) (ready up : NetValue) (netlist : Netlist)
    (f : RegisterForward kept.from kept.registers kept netlist) (b : RegisterBackward kept ready up netlist) (run : Run)
    (endless : IsEndlessRun netlist run) where
  valued : (c : ℕ) → IsValuation netlist (cycle_of run c)
  valued c = (endless (c + 1)).valuations c (omega arith)

  asked : (c : ℕ)
      → (run.net c up.number == 1) ≡ (not (run.net c kept.registers.valid.number == 1) || (run.net c ready.number == 1))
  asked c = b.asks (cycle_of run c) (valued c)

  moved : (side : Side) → side.pace.latency ≡ 0 → (c : ℕ) →
      held_in (shown_in (cycle_of run (c + 1)) kept.registers) ≡
      (if (run.net c kept.registers.valid.number == 1) && (run.net c ready.number == 1)
      then drop 1
      (held_in (shown_in (cycle_of run c) kept.registers)
      ++ (if (run.net c kept.from.valid.number == 1) && (nat_lt 0 side.pace.latency || (run.net c up.number == 1))
      then (shown_in (cycle_of run c) kept.from).beat ∷ [] else []))
      else held_in (shown_in (cycle_of run c) kept.registers)
      ++ (if (run.net c kept.from.valid.number == 1) && (nat_lt 0 side.pace.latency || (run.net c up.number == 1))
      then (shown_in (cycle_of run c) kept.from).beat ∷ [] else []))
  moved side direct c =
      let R = shown_in (cycle_of run c) kept.registers in
      let F = shown_in (cycle_of run c) kept.from in
      ap held_in (b.moves run (c + 2) (endless (c + 2)) c (omega arith))
      ∙ of_chosen held_in (run.net c up.number == 1) F R
      ∙ (rw (direct, asked c) (one_cycle (R.valid == 1) (run.net c ready.number == 1) (F.valid == 1) R.beat F.beat))

  pub is_register_run : (side : Side) → side.pace.latency ≡ 0
      → IsRegisterRun side (view_of run kept.from up)
      (view_of run kept.registers ready) (λ c. held_in (shown_in (cycle_of run c) kept.registers))
  is_register_run side direct = record {
    holds = record {
      starts = ap held_in (f.starts run 1 (endless 1) (omega arith)) ∙ nothing_held;
      shows =
          λ c. shows_held (run.net c kept.registers.valid.number == 1) (view_of run kept.from up)
          (view_of run kept.registers ready) c refl;
      moves = λ c legal. sym (ap (λ k. held_in (shown_in (cycle_of run k) kept.registers)) (next_of c)) ∙ moved side direct c;
    };
    asks =
        λ c. asked c
        ∙ room (run.net c kept.registers.valid.number == 1) (run.net c ready.number == 1)
        (shown_in (cycle_of run c) kept.registers).beat;
  } where
    next_of : (c : ℕ) → c + 1 ≡ suc c
    next_of c = omega arith

    nothing_held : held_in nothing_shown ≡ []
    nothing_held = refl

-- the nets by those that are kept
pub at_kept : (from to : BeatNets) (kept : RegisterKept) (netlist : Netlist) (P : BeatNets → BeatNets → Type 0)
    → RegisterForward from to kept netlist → (RegisterForward kept.from kept.registers kept netlist → P kept.from kept.registers)
    → P from to
at_kept from to kept netlist P f g =
    let here = subst
    (λ (x : BeatNets). RegisterForward x kept.registers kept netlist) f.from_is
    (subst (λ (x : BeatNets). RegisterForward from x kept netlist) f.to_is f) in
    subst (λ (x : BeatNets). P from x) (sym f.to_is) (subst (λ (x : BeatNets). P x kept.registers) (sym f.from_is) (g here))

pub register_between : (shape : Shape) (from to : BeatNets) (kept : RegisterKept) (ready up : NetValue) (netlist : Netlist)
    (run : Run)
    → IsBufferShape 1 shape → RegisterForward from to kept netlist → RegisterBackward kept ready up netlist
    → IsEndlessRun netlist run →
    ((passes : ℕ → Bool) (side : Side) (up down : EndView) (held : ℕ → List Beat) → IsRegisterRun side up down held
    → side.pace.latency ≡ 0 → 0 < side.symbols → PassesAll passes side
    → KeepsStageLaw (buffer_shape passes 1 side) (plain_run up down)) →
    KeepsShape shape (view_of run from up) (view_of run to ready)
register_between shape from to kept ready up netlist run p f b endless law =
    at_kept from to kept netlist (λ from to. KeepsShape shape (view_of run from up) (view_of run to ready)) f
    (λ here. record {
      rank = λ _. 0;
      keeps =
          subst (λ (s : Shape). KeepsStageLaw s (plain_run (view_of run kept.from up) (view_of run kept.registers ready)))
          (sym p.is)
          (law shape.passes shape.up _ _ _
          (is_register_run kept ready up netlist here b run endless shape.up p.at_once) p.at_once p.some p.passes);
    })

ready_through : (v r : Bool) → r ≡ true → (not v || r) ≡ true
ready_through true r e = e
ready_through false r e = refl

pub register_ready : (shape : Shape) (from to : BeatNets) (kept : RegisterKept) (ready up : NetValue) (netlist : Netlist)
    (run : Run)
    → RegisterBackward kept ready up netlist → IsEndlessRun netlist run
    → ReadyPasses shape (view_of run from up) (view_of run to ready)
register_ready shape from to kept ready up netlist run b endless c legal before =
    b.asks (cycle_of run c) ((endless (c + 1)).valuations c (omega arith)) ∙ ready_through _ _ (before c (omega arith))

pub register_ignores : (from to : BeatNets) (kept : RegisterKept) (netlist : Netlist) (one other : Cycle)
    → RegisterForward from to kept netlist → ((n : ℕ) → IsOfBeat kept.registers n → one.net n ≡ other.net n)
    → ShowSame to one other
register_ignores from to kept netlist one other f state =
    subst (λ (x : BeatNets). ShowSame x one other) (sym f.to_is)
    (show_same kept.registers one other (same_state kept.registers one other f.numbers state))
