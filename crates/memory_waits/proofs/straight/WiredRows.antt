-- Below a wire bursts may be longer: what is shown and taken there is the same.
use Rattle.std.proofs.Common.{ℕ, zero, suc, ◌≡◌, Bool, refl, ap, subst, ◌∙◌}
use Rattle.std.proofs.Math.Path.{fun_ext}
use Rattle.memory_runs.specs.Views.{Shape, Signals, levels_at}
use Rattle.memory_runs.specs.Commands.{burst_before, burst_after}
use Rattle.memory_machines.specs.Link.{Target, Port, takes}
use Rattle.memory_machines.specs.Straight.{GoesStraightThrough, IsShownPromptly}
use Rattle.memory_awake.specs.Rows.{IsWired}
use Rattle.memory_awake.specs.Wires.{shape_with, with_bursts}

burst_same : (bits : ℕ) (shape : Shape) (signals : Signals) (accepts : ℕ → Bool) (c : ℕ) → burst_before (shape_with bits shape) signals accepts c ≡ burst_before shape signals accepts c
burst_same bits shape signals accepts zero = refl
burst_same bits shape signals accepts (suc c) = ap (burst_after shape (levels_at signals c) (accepts c)) (burst_same bits shape signals accepts c)

module _ (bits : ℕ) (port : Port) where
  bursts : burst_before (shape_with bits port.shape) port.commands.signals (takes port) ≡ burst_before port.shape port.commands.signals (takes port)
  bursts = fun_ext (burst_same bits port.shape port.commands.signals (takes port))

  straight_wide : (ahead : ℕ → Bool) (target : Target) (up : Port) (end : ℕ) → GoesStraightThrough ahead target up port end → GoesStraightThrough ahead target up (with_bursts bits port) end
  straight_wide ahead target up end straight = record {
    shown = λ c low same plain next. rw bursts (straight.shown c low same plain (rw bursts at next));
    accepted = λ c low same plain next. straight.accepted c low same plain (rw bursts at next);
    kept = λ c low same plain taken. rw bursts (straight.kept c low same plain taken);
  }

  prompt_wide : (few : ℕ) (may_burst : Bool) (target : Target) (up : Port) (end : ℕ) → IsShownPromptly few may_burst target up port end → IsShownPromptly few may_burst target up (with_bursts bits port) end
  prompt_wide few may_burst target up end prompt = record {
    shown = λ c number m low got waits taken. rw bursts (prompt.shown c number m low got waits (rw bursts at taken));
    empty = λ c d later low ends none empty. prompt.empty c d later low ends none (rw bursts at empty);
  }

-- wires in a row are one
wires_join : (top middle low down : Port) → IsWired top middle → IsWired middle low → IsWired low down → with_bursts down.shape.burst_bits top ≡ down
wires_join top middle low down first second third =
    ap (with_bursts down.shape.burst_bits) first.wire.same ∙ ap (with_bursts down.shape.burst_bits) second.wire.same ∙ third.wire.same

module _ (target : Target) (top middle low down : Port) (end : ℕ) (first : IsWired top middle) (second : IsWired middle low) (third : IsWired low down) where
  pub row_is_straight : (ahead : ℕ → Bool) → GoesStraightThrough ahead target top top end → GoesStraightThrough ahead target top down end
  row_is_straight ahead straight =
      subst (λ p. GoesStraightThrough ahead target top p end) (wires_join top middle low down first second third) (straight_wide down.shape.burst_bits top ahead target top end straight)

  pub row_is_prompt : (few : ℕ) (may_burst : Bool) → IsShownPromptly few may_burst target top top end → IsShownPromptly few may_burst target top down end
  row_is_prompt few may_burst prompt =
      subst (λ p. IsShownPromptly few may_burst target top p end) (wires_join top middle low down first second third) (prompt_wide down.shape.burst_bits top few may_burst target top end prompt)
